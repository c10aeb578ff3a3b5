-- The limits of a run, in figures.
use Rattle.std.specs.Prelude.{◌≡◌, ◌^◌}
use Rattle.aut_base.specs.declared.limit.TheConstants.{MOST_NAMES, MOST_SETS, MOST_STATES, MOST_EDGES, MOST_ALIASES, MOST_DEPTH, MOST_BYTES}
use Rattle.aut_base.specs.declared.limit.TheConstants.{MOST_TERMS, MOST_BUCHI_STATES, MOST_TREES, MOST_NODES, MOST_CLASSES, MOST_SUBSETS, MOST_PAIRS}

pub record LimitsInFigures : Type 0 where
  pub names : MOST_NAMES ≡ 32
  pub sets : MOST_SETS ≡ 512
  pub states : MOST_STATES ≡ 100000
  pub edges : MOST_EDGES ≡ 1000000
  pub aliases : MOST_ALIASES ≡ 2048
  pub depth : MOST_DEPTH ≡ 512
  pub bytes : MOST_BYTES ≡ 2 ^ 40
  pub terms : MOST_TERMS ≡ 1024
  pub buchi_states : MOST_BUCHI_STATES ≡ 4096
  pub trees : MOST_TREES ≡ 32768
  pub nodes : MOST_NODES ≡ 100
  pub classes : MOST_CLASSES ≡ 2000000
  pub subsets : MOST_SUBSETS ≡ 32768
  pub pairs : MOST_PAIRS ≡ 1000000
