use Rattle.label_guards.proofs.alike.ClassLaws as laws
use Rattle.label_guards.proofs.law.one_class_under_none.Goals as goal

pub returns : goal.returns
returns c = laws.one_class_under_none
