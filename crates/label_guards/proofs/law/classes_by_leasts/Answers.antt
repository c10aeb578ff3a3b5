use Rattle.label_guards.proofs.alike.ClassLeastLaws as laws
use Rattle.label_guards.proofs.law.classes_by_leasts.Goals as goal

pub returns : goal.returns
returns c = laws.classes_by_leasts
