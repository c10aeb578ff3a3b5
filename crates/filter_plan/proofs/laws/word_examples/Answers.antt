use Rattle.std.proofs.Common.{refl}
use Rattle.clap.proofs.OnLiterals.{clap_on_literals}
use Rattle.filter_plan.specs.Table.{table}
use Rattle.filter_plan.specs.Words.{autfilt}
use Rattle.filter_plan.proofs.laws.word_examples.Goals as goal

pub returns : goal.returns
unfolding autfilt table clap_on_literals
returns c = record {
  nothing = refl;
  twice = refl;
  value_twice = refl;
  minus = refl;
  help = refl;
  version = refl;
  no_value = refl;
  bundle_taken = refl;
  bundle_value = refl;
  equals = refl;
  behind_dashes = refl;
  first = refl;
}
