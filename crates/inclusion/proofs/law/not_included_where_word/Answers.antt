use Rattle.inclusion.proofs.Common as common
use Rattle.inclusion.proofs.law.not_included_where_word.Goals as goal

pub returns : goal.returns
returns c = common.not_included_where_word
