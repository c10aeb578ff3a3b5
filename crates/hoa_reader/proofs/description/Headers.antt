-- What stands first in a header.
use Rattle.std.proofs.Common.{◌≡◌, ◌∙◌, List, [], ◌∷◌, Option, Some, None, ap, arith, get_or, length, refl, slice_get, sym}
use Rattle.std.specs.Option.{option_map, option_map_or, unwrap_or}
use Rattle.std.specs.Prelude.{filter_map}
use Rattle.aut_base.proofs.trees.FormulaTrees.{formula_tree-True}
use Rattle.aut_base.specs.Formula as formula
use Rattle.aut_base.specs.Formula.{formula_tree}
use Rattle.aut_base.specs.declared.formula.Formula.{Formula}
use Rattle.aut_base.specs.declared.formula.Formula.TheVariants as of_formula
use Rattle.hoa_parser.specs.Raw as raw
use Rattle.hoa_parser.specs.Raw.{WrittenItem}
use Rattle.hoa_reader.specs.Validity.{acceptance_item}
use Rattle.hoa_reader.specs.inner.Headers.{first_given, formula_item}
use Rattle.hoa_reader.specs.inner.PickedOut.{list_of, no_acceptance}

first_none : {X : Type 0} (o : Option X) → first_given o None ≡ o
first_none (Some x) = refl
first_none None = refl

-- what was found where no item is left
pub found_out : {X : Type 0} (f : WrittenItem → Option X) (o : Option X) (left all : List WrittenItem) → left ≡ []
    → first_given o (list_of (filter_map f left)) ≡ list_of (filter_map f all) → o ≡ list_of (filter_map f all)
found_out f o left all none found = sym (first_none o) ∙ (ap (λ is. first_given o (list_of (filter_map f is))) (sym none) ∙ found)

pub none_left : {X : Type 0} (xs : List X) → length xs ≡ 0 → xs ≡ []
none_left [] none = refl
none_left (x ∷ xs) none = absurd (omega (arith, none))

pub first_or : {X : Type 0} (xs : List X) (d : X) → option_map_or (λ x. x) (list_of xs) d ≡ get_or xs 0 d
first_or [] d = refl
first_or (x ∷ xs) d = refl

pub first_there : {X : Type 0} (xs : List X) → list_of xs ≡ slice_get xs 0
first_there [] = refl
first_there (x ∷ xs) = refl

-- the condition of the first that has one
pub first_formula : (is : List WrittenItem) → option_map_or (λ x. x) (list_of (filter_map formula_item is)) formula.True ≡ (get_or (filter_map acceptance_item is) 0 no_acceptance).formula
first_formula [] = refl
first_formula (raw.Acceptance sets condition ∷ is) = refl
first_formula (raw.States n ∷ is) = first_formula is
first_formula (raw.Start states ∷ is) = first_formula is
first_formula (raw.Ap count names ∷ is) = first_formula is
first_formula (raw.AliasOf name label ∷ is) = first_formula is
first_formula (raw.AccName ∷ is) = first_formula is
first_formula (raw.Tool ∷ is) = first_formula is
first_formula (raw.Name text ∷ is) = first_formula is
first_formula (raw.Properties words ∷ is) = first_formula is
first_formula (raw.Other name ∷ is) = first_formula is

-- the condition that was found, or `t`
pub formula_or : (o : Option Formula) → formula_tree (unwrap_or o of_formula.True) ≡ option_map_or (λ x. x) (option_map formula_tree o) formula.True
formula_or (Some f) = refl
formula_or None = formula_tree-True
