-- The condition and the labels of a described automaton speak of its own sets and propositions.
use Rattle.std.proofs.Common.{◌≡◌, ◌/◌, ◌%◌, ◌^◌, ◌<◌, ◌==◌, ℕ, zero, suc, Bool, true, false, cond, List, [], ◌∷◌, ◌++◌, map, find, nat_lt, Some, arith}
use Rattle.std.proofs.lemmas.Bool.{ltb-true, and_parts}
use Rattle.std.specs.List.{AllByRecursion, list_all}
use Rattle.std.specs.Option.{option_map_or}
use Rattle.aut_base.proofs.canonical.CanonicalBelow.{all_of_below}
use Rattle.aut_base.specs.Formula as formula
use Rattle.aut_base.specs.Formula.{EachSetsBelow, FormulaTree, FormulaTrees, SetsBelow}
use Rattle.aut_base.specs.Label as label
use Rattle.aut_base.specs.Label.{AllBelow, EachBelow, LabelTree}
use Rattle.hoa_reader.specs.Described.{Meaning, below, each_expanded, expanded, letter_label, literal, meanings_after}
use Rattle.hoa_reader.proofs.labels.Meanings.{meaning_of}
use Rattle.hoa_parser.specs.Raw as raw
use Rattle.hoa_parser.specs.Raw.{RawTree, RawTrees}
use Rattle.aut_base.specs.Text.{same_text}
use Rattle.hoa_reader.specs.Validity.{AliasLine, all_leaves_pass, all_sets_below, props_below, sets_below}
use Rattle.aut_base.proofs.lists.AllByRecursion.{AllByRecursion-push, AllByRecursion-weaker, AllByRecursion-map}

-- the condition
mutual
  pub sets_in_range : (n : ℕ) (f : FormulaTree) → sets_below n f ≡ true → SetsBelow n f
  sets_in_range n formula.True e = tt
  sets_in_range n formula.False e = tt
  sets_in_range n (formula.Inf set neg) e = ltb-true set n e
  sets_in_range n (formula.Fin set neg) e = ltb-true set n e
  sets_in_range n (formula.And a b cs) e =
      let first = and_parts _ _ e in let second = and_parts _ _ first.1 in
      (sets_in_range n a first.0, sets_in_range n b second.0, all_sets_in_range n cs second.1)
  sets_in_range n (formula.Or a b cs) e =
      let first = and_parts _ _ e in let second = and_parts _ _ first.1 in
      (sets_in_range n a first.0, sets_in_range n b second.0, all_sets_in_range n cs second.1)

  all_sets_in_range : (n : ℕ) (fs : FormulaTrees) → all_sets_below n fs ≡ true → EachSetsBelow n fs
  all_sets_in_range n formula.none e = tt
  all_sets_in_range n (formula.more f fs) e = let parts = and_parts _ _ e in (sets_in_range n f parts.0, all_sets_in_range n fs parts.1)

-- what an alias stands for
abbrev pub MeansBelow : ℕ → Meaning → Type 0
MeansBelow n m = AllBelow n m.label

first_below : (n : ℕ) (m : Meaning) (ms : List Meaning) (name : List ℕ) (b : Bool) → AllBelow n m.label → AllBelow n (meaning_of ms name)
    → AllBelow n (option_map_or (λ (m : Meaning). m.label) (cond b (Some m) (find (λ (m : Meaning). same_text m.name name) ms)) label.False)
first_below n m ms name true here there = here
first_below n m ms name false here there = there

meaning_below : (n : ℕ) (ms : List Meaning) (name : List ℕ) → AllByRecursion (MeansBelow n) ms → AllBelow n (meaning_of ms name)
meaning_below n [] name all = tt
meaning_below n (m ∷ ms) name all = first_below n m ms name (same_text m.name name) all.0 (meaning_below n ms name all.1)

-- a label whose aliases are replaced
mutual
  pub expanded_below : (n : ℕ) (ms : List Meaning) (t : RawTree) → AllByRecursion (MeansBelow n) ms → props_below n t ≡ true → AllBelow n (expanded ms t)
  expanded_below n ms raw.True all e = tt
  expanded_below n ms raw.False all e = tt
  expanded_below n ms (raw.Prop i) all e = ltb-true i n e
  expanded_below n ms (raw.Alias name) all e = meaning_below n ms name all
  expanded_below n ms (raw.Not t) all e = expanded_below n ms t all e
  expanded_below n ms (raw.And a b cs) all e =
      let first = and_parts _ _ e in let second = and_parts _ _ first.1 in
      (expanded_below n ms a all first.0, expanded_below n ms b all second.0, each_expanded_below n ms cs all second.1)
  expanded_below n ms (raw.Or a b cs) all e =
      let first = and_parts _ _ e in let second = and_parts _ _ first.1 in
      (expanded_below n ms a all first.0, expanded_below n ms b all second.0, each_expanded_below n ms cs all second.1)

  each_expanded_below : (n : ℕ) (ms : List Meaning) (ts : RawTrees) → AllByRecursion (MeansBelow n) ms → all_leaves_pass (λ i. nat_lt i n) (λ name. true) ts ≡ true → EachBelow n (each_expanded ms ts)
  each_expanded_below n ms raw.none all e = tt
  each_expanded_below n ms (raw.more t ts) all e =
      let parts = and_parts _ _ e in (expanded_below n ms t all parts.0, each_expanded_below n ms ts all parts.1)

-- the aliases of all lines
pub meanings_below : (n : ℕ) (ms : List Meaning) (lines : List AliasLine) → AllByRecursion (MeansBelow n) ms → list_all (λ (l : AliasLine). props_below n l.label) lines ≡ true
    → AllByRecursion (MeansBelow n) (meanings_after ms lines)
meanings_below n ms [] all e = all
meanings_below n ms (line ∷ lines) all e =
    let parts = and_parts _ _ e in
    let new : Meaning = record { name = line.name; label = expanded ms line.label } in
    meanings_below n (ms ++ new ∷ []) lines (AllByRecursion-push (MeansBelow n) ms new all (expanded_below n ms line.label all parts.0)) parts.1

-- the label of a letter
literal_below : (n i k : ℕ) → k < n → AllBelow n (literal i k)
literal_below n i k l = elim ((i / (2 ^ k)) % 2 == 1) as (λ b. AllBelow n (cond b (label.Prop k) (label.Not (label.Prop k)))) [ true ↦ l | false ↦ l ]

pub numbers_are_below : (n : ℕ) → AllByRecursion (λ k. k < n) (below n)
numbers_are_below zero = tt
numbers_are_below (suc n) =
    AllByRecursion-push (λ k. k < suc n) (below n) n
    (AllByRecursion-weaker (λ k. k < n) (λ k. k < suc n) (below n) (λ k l. omega (arith, l)) (numbers_are_below n)) (omega arith)

pub letter_below : (n i : ℕ) → AllBelow n (letter_label n i)
letter_below n i =
    all_of_below n (map (literal i) (below n)) (AllByRecursion-map (AllBelow n) (literal i) (below n)
    (AllByRecursion-weaker (λ k. k < n) (λ k. AllBelow n (literal i k)) (below n) (literal_below n i) (numbers_are_below n)))
