use Rattle.acc_forms.proofs.JoinLaws.{parts_of-And, parts_of-Or}
use Rattle.acc_forms.proofs.join.Join.parts.Goals as goal

pub returns-in-All-And-clause-found : goal.returns-in-All-And-clause-found
returns-in-All-And-clause-found c = parts_of-And _ _ _ c.in-All-And.is-0 c.in-All-And.is-1

pub returns-in-Any-Or-clause-found : goal.returns-in-Any-Or-clause-found
returns-in-Any-Or-clause-found c = parts_of-Or _ _ _ c.in-Any-Or.is-0 c.in-Any-Or.is-1
