use Rattle.label_guards.proofs.alike.ClassLaws as laws
use Rattle.label_guards.proofs.law.classes_exclude_more.Goals as goal

pub returns : goal.returns
returns c = laws.classes_exclude_more
