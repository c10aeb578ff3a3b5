use Rattle.inclusion.proofs.Common as common
use Rattle.inclusion.proofs.law.included_where_none.Goals as goal

pub returns : goal.returns
returns c = common.included_where_none
