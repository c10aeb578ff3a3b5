-- What holds of every automaton that is written down.
use Rattle.std.specs.Prelude.{◌≡◌}
use Rattle.aut_base.specs.Automaton.{IsWellFormed}
use Rattle.hoa_parser.specs.Raw.{Written}
use Rattle.hoa_reader.specs.Described.{described}
use Rattle.hoa_reader.specs.Validity.{IsFirstBroken, IsValid}
use Rattle.hoa_reader.specs.declared.elaborate.Rule.{Rule}

-- It is valid, or has one first broken rule, and not both. What a valid one describes is well formed.
pub record DescribingLaws : Type 0 where
  pub one_first : (r s : Rule) (w : Written) → IsFirstBroken r w → IsFirstBroken s w → r ≡ s
  pub none_first : (r : Rule) (w : Written) → IsFirstBroken r w → IsValid w → ⊥
  pub well_formed : (w : Written) → IsValid w → IsWellFormed (described w)
