-- What is moved out of a header: the names, the condition and the name, each as it stands first.
use Rattle.std.specs.Prelude.{◌≡◌, ℕ, List, [], filter_map, get_or, slice_get, Option, Some, None}
use Rattle.std.specs.Option.{option_map}
use Rattle.aut_base.specs.Formula.{FormulaTree, formula_tree}
use Rattle.hoa_parser.specs.Naming.{name_item}
use Rattle.hoa_parser.specs.Raw.{WrittenItem}
use Rattle.hoa_reader.specs.Validity.{acceptance_item, names_item}
use Rattle.hoa_reader.specs.inner.PickedOut.{no_acceptance}
use Rattle.hoa_reader.specs.declared.elaborate.header.Header.{Header}

-- the first of both, where there is one
abbrev pub first_given : {X : Type 0} → Option X → Option X → Option X
first_given (Some x) other = Some x
first_given None other = other

-- the condition that an item of the header gives
abbrev pub formula_item : WrittenItem → Option FormulaTree
formula_item i = option_map (λ a. a.formula) (acceptance_item i)

-- the names of the first line that has some
abbrev pub first_names : List WrittenItem → List (List ℕ)
first_names items = get_or (filter_map names_item items) 0 []

pub record IsHeaderOf (items : List WrittenItem) (h : Header) : Type 0 where
  pub names : h.names ≡ first_names items
  pub formula : formula_tree h.formula ≡ (get_or (filter_map acceptance_item items) 0 no_acceptance).formula
  pub name : h.name ≡ slice_get (filter_map name_item items) 0
