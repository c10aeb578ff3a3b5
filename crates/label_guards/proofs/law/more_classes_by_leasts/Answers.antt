use Rattle.label_guards.proofs.alike.ClassLeastLaws as laws
use Rattle.label_guards.proofs.law.more_classes_by_leasts.Goals as goal

pub returns : goal.returns
returns c = laws.more_classes_by_leasts
