-- The depth of every phrase has a bound: the number of its opening signs.
use Rattle.std.proofs.Common.{ℕ, suc, ◌+◌, ◌≤◌, List, [], ◌∷◌, Option, Some, None, arith}
use Rattle.std.specs.List.{AllByRecursion}
use Rattle.hoa_parser.specs.Phrases.{Label, Lands, Lnot, Lnots, label, no_land, or_land, no_lnot, and_lnot, true_label, false_label, proposition}
use Rattle.hoa_parser.specs.Phrases.{alias, negated, group, LabelWithin, LandsWithin, LnotsWithin, LnotWithin, Condition, Fands, Fatoms, Fatom}
use Rattle.hoa_parser.specs.Phrases.{condition, no_fand, or_fand, no_fatom, and_fatom, true_condition, false_condition, infinitely, finitely}
use Rattle.hoa_parser.specs.Phrases.{condition_group, ConditionWithin, FandsWithin, FatomsWithin, FatomWithin, ItemPhrase, alias_item}
use Rattle.hoa_parser.specs.Phrases.{acceptance_item, states_item, start_item, names_item, acc_name_item, tool_item, name_item, properties_item}
use Rattle.hoa_parser.specs.Phrases.{other_item, ItemWithin, OptionalWithin, EdgePhrase, StatePhrase, StateWithin, AutomatonPhrase, AutomatonWithin}

-- the number of `(` and `!` in a label
abbrev mutual
  label_opens : Label → ℕ
  label_opens (label f fs ls) = lnot_opens f + (lnots_open fs + lands_open ls)

  lands_open : Lands → ℕ
  lands_open no_land = 0
  lands_open (or_land f fs ls) = lnot_opens f + (lnots_open fs + lands_open ls)

  lnots_open : Lnots → ℕ
  lnots_open no_lnot = 0
  lnots_open (and_lnot f fs) = lnot_opens f + lnots_open fs

  lnot_opens : Lnot → ℕ
  lnot_opens (negated f) = 1 + lnot_opens f
  lnot_opens (group l) = 1 + label_opens l
  lnot_opens _ = 0

mutual
  label_within : (m d : ℕ) (l : Label) → d + label_opens l ≤ m → LabelWithin m d l
  label_within m d (label f fs ls) h = (lnot_within m d f (omega arith), lnots_within m d fs (omega arith), lands_within m d ls (omega arith))

  lands_within : (m d : ℕ) (ls : Lands) → d + lands_open ls ≤ m → LandsWithin m d ls
  lands_within m d no_land h = tt
  lands_within m d (or_land f fs ls) h = (lnot_within m d f (omega arith), lnots_within m d fs (omega arith), lands_within m d ls (omega arith))

  lnots_within : (m d : ℕ) (fs : Lnots) → d + lnots_open fs ≤ m → LnotsWithin m d fs
  lnots_within m d no_lnot h = tt
  lnots_within m d (and_lnot f fs) h = (lnot_within m d f (omega arith), lnots_within m d fs (omega arith))

  lnot_within : (m d : ℕ) (f : Lnot) → d + lnot_opens f ≤ m → LnotWithin m d f
  lnot_within m d true_label h = tt
  lnot_within m d false_label h = tt
  lnot_within m d (proposition i) h = tt
  lnot_within m d (alias name) h = tt
  lnot_within m d (negated f) h = (omega arith, lnot_within m (suc d) f (omega arith))
  lnot_within m d (group l) h = (omega arith, label_within m (suc d) l (omega arith))

-- the number of `(` in a condition
abbrev mutual
  condition_opens : Condition → ℕ
  condition_opens (condition f fs ls) = fatom_opens f + (fatoms_open fs + fands_open ls)

  fands_open : Fands → ℕ
  fands_open no_fand = 0
  fands_open (or_fand f fs ls) = fatom_opens f + (fatoms_open fs + fands_open ls)

  fatoms_open : Fatoms → ℕ
  fatoms_open no_fatom = 0
  fatoms_open (and_fatom f fs) = fatom_opens f + fatoms_open fs

  fatom_opens : Fatom → ℕ
  fatom_opens (condition_group l) = 1 + condition_opens l
  fatom_opens _ = 0

mutual
  condition_within : (m d : ℕ) (l : Condition) → d + condition_opens l ≤ m → ConditionWithin m d l
  condition_within m d (condition f fs ls) h = (fatom_within m d f (omega arith), fatoms_within m d fs (omega arith), fands_within m d ls (omega arith))

  fands_within : (m d : ℕ) (ls : Fands) → d + fands_open ls ≤ m → FandsWithin m d ls
  fands_within m d no_fand h = tt
  fands_within m d (or_fand f fs ls) h = (fatom_within m d f (omega arith), fatoms_within m d fs (omega arith), fands_within m d ls (omega arith))

  fatoms_within : (m d : ℕ) (fs : Fatoms) → d + fatoms_open fs ≤ m → FatomsWithin m d fs
  fatoms_within m d no_fatom h = tt
  fatoms_within m d (and_fatom f fs) h = (fatom_within m d f (omega arith), fatoms_within m d fs (omega arith))

  fatom_within : (m d : ℕ) (f : Fatom) → d + fatom_opens f ≤ m → FatomWithin m d f
  fatom_within m d true_condition h = tt
  fatom_within m d false_condition h = tt
  fatom_within m d (infinitely set neg) h = tt
  fatom_within m d (finitely set neg) h = tt
  fatom_within m d (condition_group l) h = (omega arith, condition_within m (suc d) l (omega arith))

abbrev item_opens : ItemPhrase → ℕ
item_opens (alias_item name l) = label_opens l
item_opens (acceptance_item n c) = condition_opens c
item_opens _ = 0

item_within : (m : ℕ) (p : ItemPhrase) → item_opens p ≤ m → ItemWithin m p
item_within m (states_item n) h = tt
item_within m (start_item c) h = tt
item_within m (names_item n names) h = tt
item_within m (alias_item name l) h = label_within m 0 l (omega arith)
item_within m (acceptance_item n c) h = condition_within m 0 c (omega arith)
item_within m (acc_name_item word values) h = tt
item_within m (tool_item text other) h = tt
item_within m (name_item text) h = tt
item_within m (properties_item words) h = tt
item_within m (other_item name is values) h = tt

abbrev optional_opens : Option Label → ℕ
optional_opens None = 0
optional_opens (Some l) = label_opens l

optional_within : (m : ℕ) (l : Option Label) → optional_opens l ≤ m → OptionalWithin m l
optional_within m None h = tt
optional_within m (Some l) h = label_within m 0 l (omega arith)

abbrev all_open : {P : Type 0} → (P → ℕ) → List P → ℕ
all_open opens [] = 0
all_open opens (p ∷ ps) = opens p + all_open opens ps

all_within : {P : Type 0} (opens : P → ℕ) (Q : P → Type 0) (m : ℕ) → ((p : P) → opens p ≤ m → Q p) → (ps : List P) → all_open opens ps ≤ m → AllByRecursion Q ps
all_within opens Q m one [] h = tt
all_within opens Q m one (p ∷ ps) h = (one p (omega arith), all_within opens Q m one ps (omega arith))

abbrev edge_opens : EdgePhrase → ℕ
edge_opens e = optional_opens e.label

abbrev state_opens : StatePhrase → ℕ
state_opens s = optional_opens s.label + all_open edge_opens s.edges

state_within : (m : ℕ) (s : StatePhrase) → state_opens s ≤ m → StateWithin m s
state_within m s h = (
  optional_within m s.label (omega arith),
  all_within edge_opens (λ e. OptionalWithin m e.label) m (λ e k. optional_within m e.label k) s.edges (omega arith),
)

-- the number of `(` and `!` in the labels and the condition of an automaton
abbrev pub automaton_opens : AutomatonPhrase → ℕ
automaton_opens a = all_open item_opens a.items + all_open state_opens a.states

pub automaton_within : (a : AutomatonPhrase) → AutomatonWithin (automaton_opens a) a
automaton_within a =
    let m = automaton_opens a in (
      all_within item_opens (ItemWithin m) m (item_within m) a.items (omega arith),
      all_within state_opens (StateWithin m) m (state_within m) a.states (omega arith),
    )
