-- Rows of the table, found by the names of their options.
use Rattle.std.proofs.Common.{◌≡◌, Bool, true, false, ℕ, List, [], ◌∷◌, MatchBool, refl, subst}
use Rattle.std.specs.Prelude.{⊤}
use Rattle.std.proofs.lemmas.Slice.Eq.{bytes_eq-Decides}
use Rattle.std.specs.Str.{bytes_eq}
use Rattle.clap.specs.Words.{Row}
use Rattle.filter_plan.specs.Table.{EachGives, Gives, OptionRow, Place, table, values_of}
use Rattle.filter_plan.specs.declared.plan.Plan.{Plan}

-- the fact about the place of the option of this name
abbrev pub OfRow : List OptionRow → List ℕ → (Place → Type 0) → Type 0
OfRow [] name Fact = ⊤
OfRow (o ∷ os) name Fact = MatchBool (bytes_eq o.long name) (Fact o.place) (OfRow os name Fact)

-- one of two facts, by a test
pub either : (test : Bool) {A B : Type 0} → (test ≡ true → A) → B → MatchBool test A B
either true a b = a refl
either false a b = b

given_in : (rows : List Row) (p : Plan) (os : List OptionRow) (name : List ℕ) → EachGives os rows p → OfRow os name (λ place. Gives place (values_of name rows) p)
given_in rows p [] name gives = tt
given_in rows p (o ∷ os) name gives = either (bytes_eq o.long name) named (given_in rows p os name gives.1)
  where
    named : bytes_eq o.long name ≡ true → Gives o.place (values_of name rows) p
    named same = subst (λ (n : List ℕ). Gives o.place (values_of n rows) p) ((bytes_eq-Decides o.long name).0 same) gives.0

-- the option of this name gives the plan what its row says
pub given : (rows : List Row) (p : Plan) → EachGives table rows p → (name : List ℕ) → OfRow table name (λ place. Gives place (values_of name rows) p)
given rows p gives name = given_in rows p table name gives
