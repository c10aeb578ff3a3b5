-- The canonical form of a label as a tree: its propositions, and how it reads back.
use Rattle.std.proofs.Common.{◌≡◌, ◌<◌, ℕ, Bool, true, ◌&&◌, List, nat_lt, refl, ap, ◌∙◌}
use Rattle.std.proofs.lemmas.Bool.{lt-ltb}
use Rattle.aut_base.specs.Formula as formula
use Rattle.aut_base.specs.Formula.{EachSetsBelow, FormulaTree, FormulaTrees, SetsBelow}
use Rattle.aut_base.specs.Label as label
use Rattle.aut_base.specs.Label.{AllBelow, EachBelow, LabelTree, LabelTrees}
use Rattle.hoa_reader.specs.Described.{Meaning, each_expanded, expanded}
use Rattle.hoa_reader.specs.Validity.{aliases_among, all_leaves_pass, all_sets_below, leaves_pass, props_below, sets_below}
use Rattle.aut_base.proofs.canonical.CanonicalBelow.{canonical_label_below}
use Rattle.aut_base.specs.CanonicalLabel.{canonical_label}
use Rattle.aut_base.specs.CanonicalLabel.{canonical_label}
use Rattle.hoa_writer.specs.CanonicalWritten.{written_label, written_labels}

-- a label without aliases is its own expansion
mutual
  pub expanded_written : (ms : List Meaning) (t : LabelTree) → expanded ms (written_label t) ≡ t
  expanded_written ms label.True = refl
  expanded_written ms label.False = refl
  expanded_written ms (label.Prop i) = refl
  expanded_written ms (label.Not t) = ap label.Not (expanded_written ms t)
  expanded_written ms (label.And a b cs) =
      ap (λ x. label.And x (expanded ms (written_label b)) (each_expanded ms (written_labels cs))) (expanded_written ms a)
      ∙ (ap (λ x. label.And a x (each_expanded ms (written_labels cs))) (expanded_written ms b) ∙ ap (label.And a b) (each_expanded_written ms cs))
  expanded_written ms (label.Or a b cs) =
      ap (λ x. label.Or x (expanded ms (written_label b)) (each_expanded ms (written_labels cs))) (expanded_written ms a)
      ∙ (ap (λ x. label.Or a x (each_expanded ms (written_labels cs))) (expanded_written ms b) ∙ ap (label.Or a b) (each_expanded_written ms cs))

  each_expanded_written : (ms : List Meaning) (ts : LabelTrees) → each_expanded ms (written_labels ts) ≡ ts
  each_expanded_written ms label.none = refl
  each_expanded_written ms (label.more t ts) =
      ap (λ x. label.more x (each_expanded ms (written_labels ts))) (expanded_written ms t) ∙ ap (label.more t) (each_expanded_written ms ts)

three : (x y z : Bool) → x ≡ true → y ≡ true → z ≡ true → (x && (y && z)) ≡ true
three x y z p q r = ap (λ b. b && (y && z)) p ∙ (ap (λ b. b && z) q ∙ r)

pub two : (x y : Bool) → x ≡ true → y ≡ true → (x && y) ≡ true
two x y p q = ap (λ b. b && y) p ∙ q

-- its leaves are propositions below n, and none is an alias
mutual
  pub leaves_below : (n : ℕ) (prop : ℕ → Bool) (alias : List ℕ → Bool) (t : LabelTree) → ((i : ℕ) → i < n → prop i ≡ true) → AllBelow n t → leaves_pass prop alias (written_label t) ≡ true
  leaves_below n prop alias label.True f h = refl
  leaves_below n prop alias label.False f h = refl
  leaves_below n prop alias (label.Prop i) f h = f i h
  leaves_below n prop alias (label.Not t) f h = leaves_below n prop alias t f h
  leaves_below n prop alias (label.And a b cs) f h = three _ _ _ (leaves_below n prop alias a f h.0) (leaves_below n prop alias b f h.1) (all_leaves_below n prop alias cs f h.2)
  leaves_below n prop alias (label.Or a b cs) f h = three _ _ _ (leaves_below n prop alias a f h.0) (leaves_below n prop alias b f h.1) (all_leaves_below n prop alias cs f h.2)

  all_leaves_below : (n : ℕ) (prop : ℕ → Bool) (alias : List ℕ → Bool) (ts : LabelTrees) → ((i : ℕ) → i < n → prop i ≡ true) → EachBelow n ts → all_leaves_pass prop alias (written_labels ts) ≡ true
  all_leaves_below n prop alias label.none f h = refl
  all_leaves_below n prop alias (label.more t ts) f h = two _ _ (leaves_below n prop alias t f h.0) (all_leaves_below n prop alias ts f h.1)

pub props_are_below : (n : ℕ) (t : LabelTree) → props_below n (written_label (canonical_label n t)) ≡ true
props_are_below n t = leaves_below n (λ i. nat_lt i n) (λ name. true) (canonical_label n t) (λ i l. lt-ltb i n l) (canonical_label_below n t)

pub no_alias : (n : ℕ) (names : List (List ℕ)) (t : LabelTree) → aliases_among names (written_label (canonical_label n t)) ≡ true
no_alias n names t = leaves_below n (λ i. true) _ (canonical_label n t) (λ i l. refl) (canonical_label_below n t)

-- the sets of a condition
mutual
  pub sets_are_below : (n : ℕ) (f : FormulaTree) → SetsBelow n f → sets_below n f ≡ true
  sets_are_below n formula.True h = refl
  sets_are_below n formula.False h = refl
  sets_are_below n (formula.Inf set neg) h = lt-ltb set n h
  sets_are_below n (formula.Fin set neg) h = lt-ltb set n h
  sets_are_below n (formula.And a b cs) h = three _ _ _ (sets_are_below n a h.0) (sets_are_below n b h.1) (all_sets_are_below n cs h.2)
  sets_are_below n (formula.Or a b cs) h = three _ _ _ (sets_are_below n a h.0) (sets_are_below n b h.1) (all_sets_are_below n cs h.2)

  all_sets_are_below : (n : ℕ) (fs : FormulaTrees) → EachSetsBelow n fs → all_sets_below n fs ≡ true
  all_sets_are_below n formula.none h = refl
  all_sets_are_below n (formula.more f fs) h = two _ _ (sets_are_below n f h.0) (all_sets_are_below n fs h.1)
