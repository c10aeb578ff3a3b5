use Rattle.inclusion.proofs.Common as common
use Rattle.inclusion.proofs.law.same_where_none_twice.Goals as goal

pub returns : goal.returns
returns c = common.same_where_none_twice
