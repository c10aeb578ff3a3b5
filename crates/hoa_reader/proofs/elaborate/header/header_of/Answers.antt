use Rattle.std.proofs.Common.{◌≡◌, ◌≢◌, ◌∙◌, ℕ, List, [], AllPairs, Option, ap, filter_map, map, subst, sym}
use Rattle.std.specs.Option.{option_map, option_map_or}
use Rattle.std.specs.Vec.Iter.{into_iter_items}
use Rattle.aut_base.specs.Formula as formula
use Rattle.aut_base.specs.Formula.{FormulaTree, formula_tree}
use Rattle.hoa_parser.specs.Naming.{name_item}
use Rattle.hoa_parser.specs.Raw.{written_item}
use Rattle.hoa_reader.proofs.description.Headers.{first_formula, first_or, first_there, formula_or, found_out, none_left}
use Rattle.hoa_reader.specs.Validity.{names_item}
use Rattle.hoa_reader.specs.inner.Headers.{first_names, formula_item}
use Rattle.hoa_reader.proofs.elaborate.header.header_of.Goals as goal

pub names_found-requires : goal.names_found-requires
names_found-requires c =
    let it = c.items.item-iterator in
    let all = map written_item c.args.items in
    let none = ap (map written_item) (none_left (into_iter_items it) (sym it.rest.ok.0 ∙ c.in-None.ensures.steps.0)) in
    let found = found_out names_item c.items.found.names (map written_item (into_iter_items it)) all none c.items.invariant.names in
    let same : option_map_or (λ x. x) c.items.found.names [] ≡ first_names all =
    ap (λ (o : Option (List (List ℕ))). option_map_or (λ x. x) o []) found ∙ first_or (filter_map names_item all) [] in
    let P : List (List ℕ) → Type 0 = λ names. AllPairs (λ a b. a ≢ b) names in
    subst P (sym same) c.requires

pub returns : goal.returns
returns c =
    let it = c.items.item-iterator in
    let all = map written_item c.args.items in
    let left = map written_item (into_iter_items it) in
    let none = ap (map written_item) (none_left (into_iter_items it) (sym it.rest.ok.0 ∙ c.in-None.ensures.steps.0)) in
    let names = found_out names_item c.items.found.names left all none c.items.invariant.names in
    let tree = found_out formula_item (option_map formula_tree c.items.found.formula) left all none c.items.invariant.formula in
    let name = found_out name_item c.items.found.name left all none c.items.invariant.name in
    record {
      names = c.names_found.ensures ∙ (ap (λ (o : Option (List (List ℕ))). option_map_or (λ x. x) o []) names ∙ first_or (filter_map names_item all) []);
      formula = ap formula_tree c.unwrap_or.ensures
          ∙ (formula_or c.items.found.formula ∙ (ap (λ (o : Option FormulaTree). option_map_or (λ x. x) o formula.True) tree ∙ first_formula all));
      name = name ∙ first_there (filter_map name_item all);
    }
