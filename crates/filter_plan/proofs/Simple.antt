-- The command is of the simple kind of which `clap` specifies exactly which words it takes.
use Rattle.std.proofs.Common.{◌≡◌, true, refl}
use Rattle.clap.specs.Words.{is_simple, is_simple_and_free}
use Rattle.filter_plan.specs.Table.{table}
use Rattle.filter_plan.specs.Words.{autfilt}

pub is_simple_autfilt : is_simple autfilt ≡ true
unfolding autfilt table
is_simple_autfilt = refl

pub is_free_autfilt : is_simple_and_free autfilt ≡ true
unfolding autfilt table
is_free_autfilt = refl
