use Rattle.acc_forms.proofs.JoinLaws.{parts_of-And, parts_of-Or}
use Rattle.acc_forms.proofs.join.joined_parts.Goals as goal

pub returns-in-All-And : goal.returns-in-All-And
returns-in-All-And c = rw (parts_of-And _ _ _ c.in-All-And.is-0 c.in-All-And.is-1) c.with_more.ensures

pub returns-in-Any-Or : goal.returns-in-Any-Or
returns-in-Any-Or c = rw (parts_of-Or _ _ _ c.in-Any-Or.is-0 c.in-Any-Or.is-1) c.with_more-in-Any-Or.ensures
