-- How labels grow when their aliases are replaced, counted as far as a 64-bit number goes.
use Rattle.std.specs.Prelude.{◌≡◌, ◌+◌, ◌-◌, ◌*◌, ◌^◌, min, max, ℕ, true, false, List, [], map, Option, Some, None, slice_get}
use Rattle.aut_base.specs.Label.{LabelTree, label_size}
use Rattle.hoa_reader.specs.Counts.{height}
use Rattle.hoa_reader.specs.Described.{Meaning, expanded, meanings_after}
use Rattle.hoa_reader.specs.inner.PickedOut.{alias_def}
use Rattle.hoa_reader.specs.inner.Places.{is_listed, place_in}
use Rattle.hoa_parser.specs.Raw as raw
use Rattle.hoa_parser.specs.Raw.{RawTree, RawTrees, raw_tree}
use Rattle.hoa_reader.specs.Validity.{aliases_among}
use Rattle.hoa_reader.specs.declared.elaborate.aliases.Known.{Known}
use Rattle.hoa_reader.specs.declared.elaborate.parts.AliasDef.{AliasDef}
use Rattle.hoa_reader.specs.declared.elaborate.places.Places.{Places}

abbrev pub cap : ℕ → ℕ
cap n = min n (2 ^ 64 - 1)

-- by that of each alias, and that of two parts by those of each
abbrev mutual
  pub capped_weight : (ℕ → ℕ → ℕ) → (List ℕ → ℕ) → RawTree → ℕ
  capped_weight both alias raw.True = 1
  capped_weight both alias raw.False = 1
  capped_weight both alias (raw.Prop i) = 1
  capped_weight both alias (raw.Alias name) = alias name
  capped_weight both alias (raw.Not t) = cap (capped_weight both alias t + 1)
  capped_weight both alias (raw.And a b cs) = cap (both (capped_weight both alias a) (both (capped_weight both alias b) (all_capped both alias cs)) + 1)
  capped_weight both alias (raw.Or a b cs) = cap (both (capped_weight both alias a) (both (capped_weight both alias b) (all_capped both alias cs)) + 1)

  pub all_capped : (ℕ → ℕ → ℕ) → (List ℕ → ℕ) → RawTrees → ℕ
  all_capped both alias raw.none = 0
  all_capped both alias (raw.more t ts) = both (capped_weight both alias t) (all_capped both alias ts)

-- the height of the taller
abbrev pub capped_height : (List ℕ → ℕ) → RawTree → ℕ
capped_height = capped_weight max

abbrev pub capped_heights : (List ℕ → ℕ) → RawTrees → ℕ
capped_heights = all_capped max

-- the size of both together
abbrev pub capped_sum : ℕ → ℕ → ℕ
capped_sum a b = cap (a + b)

abbrev pub capped_size : (List ℕ → ℕ) → RawTree → ℕ
capped_size = capped_weight capped_sum

abbrev pub capped_sizes : (List ℕ → ℕ) → RawTrees → ℕ
capped_sizes = all_capped capped_sum

-- what is known of an alias; one that isn't defined stands for `f`
abbrev pub known_height : Option Known → ℕ
known_height None = 1
known_height (Some k) = k.height

abbrev pub known_size : Option Known → ℕ
known_size None = 1
known_size (Some k) = k.size

abbrev pub heights_in : Places Known → List ℕ → ℕ
heights_in known name = known_height (place_in known name)

abbrev pub sizes_in : Places Known → List ℕ → ℕ
sizes_in known name = known_size (place_in known name)

-- the alias that a label is
abbrev pub alias_name : RawTree → Option (List ℕ)
alias_name (raw.Alias name) = Some name
alias_name _ = None

abbrev pub meaning_names : List Meaning → List (List ℕ)
meaning_names ms = map (λ m. m.name) ms

-- The alias stands for this. The definition at its place says the same, and is no alias itself.
pub record IsKnownAs (ms : List Meaning) (defs : List AliasDef) (meaning : LabelTree) (k : Known) : Type 0 where
  pub def : AliasDef
  pub there : slice_get defs k.place ≡ Some def
  pub same : meaning ≡ expanded ms (raw_tree def.label.now)
  pub plain : alias_name (raw_tree def.label.now) ≡ None
  pub among : aliases_among (meaning_names ms) (raw_tree def.label.now) ≡ true
  pub height : k.height ≡ cap (height meaning)
  pub size : k.size ≡ cap (label_size meaning)

pub record IsKnownOne (ms : List Meaning) (defs : List AliasDef) (name : List ℕ) (k : Known) : Type 0 where
  pub listed : is_listed (meaning_names ms) name ≡ true
  pub known : IsKnownAs ms defs (expanded ms (raw.Alias name)) k

abbrev pub IsKnownBy : List Meaning → List AliasDef → List ℕ → Option Known → Type 0
IsKnownBy ms defs name None = is_listed (meaning_names ms) name ≡ false
IsKnownBy ms defs name (Some k) = IsKnownOne ms defs name k

-- what is known of all aliases
abbrev pub AreAliasesKnown : List Meaning → List AliasDef → Places Known → Type 0
AreAliasesKnown ms defs known = (name : List ℕ) → IsKnownBy ms defs name (place_in known name)

abbrev pub meanings_by : List AliasDef → List Meaning
meanings_by defs = meanings_after [] (map alias_def defs)

-- By this the replacement of aliases ends: an alias is replaced by what is none.
abbrev pub alias_bit : Option (List ℕ) → ℕ
alias_bit None = 0
alias_bit (Some name) = 1

abbrev pub expansion_steps : List AliasDef → RawTree → ℕ
expansion_steps defs t = 2 * label_size (expanded (meanings_by defs) t) + alias_bit (alias_name t)
