-- What is answered of an automaton that was read.
use Rattle.std.specs.Prelude.{◌≡◌, true, nat_lt, Result, Ok, Err}
use Rattle.aut_base.specs.Automaton.{IsWellFormed, automaton}
use Rattle.aut_base.specs.CanonicalLabel.{canonical}
use Rattle.aut_base.specs.Lists.{FirstIn}
use Rattle.aut_base.specs.declared.description.Description.{Description}
use Rattle.aut_base.specs.declared.limit.Limit.{Limit}
use Rattle.aut_core.specs.SymbolicAutomata.{automaton_of}
use Rattle.hoa_reader.specs.Counts.{Counted, IsCountWithin, PassesNone, limit_counts}
use Rattle.hoa_reader.specs.Described.{described}
use Rattle.hoa_parser.specs.Naming.{name_of}
use Rattle.hoa_parser.specs.Raw.{Written}
use Rattle.hoa_reader.specs.Validity.{IsFirstBroken, IsValid}
use Rattle.hoa_reader.specs.declared.elaborate.ElabFault.{ElabFault}
use Rattle.hoa_reader.specs.declared.elaborate.ElabFault.TheVariants as fault
use Rattle.hoa_reader.specs.declared.elaborate.Named.{Named}

-- It is valid, and the limit is that of a count that passes its number, where each that is examined before it is within its own.
abbrev pub PassesLimit : Limit → Written → Type 0
PassesLimit which w = IsValid w × (c : Counted) × FirstIn IsCountWithin (limit_counts w) c × (nat_lt c.most c.count ≡ true) × (which ≡ c.which)

-- why there is no answer
abbrev pub IsRefusedFor : ElabFault → Written → Type 0
IsRefusedFor (fault.Invalid rule) w = IsFirstBroken rule w
IsRefusedFor (fault.Limit which) w = PassesLimit which w
IsRefusedFor fault.Memory w = Unit {0}

-- It is valid and within the limits, and this is what it describes.
pub record IsDescribed (w : Written) (d : Description) : Type 0 where
  pub valid : IsValid w
  pub within : PassesNone w
  pub same : automaton d ≡ described w
  pub formed : IsWellFormed (automaton d)

abbrev pub Elaborates : Result Description ElabFault → Written → Type 0
Elaborates (Ok d) w = IsDescribed w d
Elaborates (Err why) w = IsRefusedFor why w

-- It is valid and within the limits, and this is what it describes, with each label in its canonical form, and the name that is written.
pub record IsBuilt (w : Written) (n : Named) : Type 0 where
  pub valid : IsValid w
  pub within : PassesNone w
  pub same : automaton_of n.automaton ≡ canonical (described w)
  pub formed : IsWellFormed (described w)
  pub named : n.name ≡ name_of w

abbrev pub Builds : Result Named ElabFault → Written → Type 0
Builds (Ok named) w = IsBuilt w named
Builds (Err why) w = IsRefusedFor why w
