use Rattle.std.proofs.Common.{◌≡◌, filter_map, map}
use Rattle.std.specs.Option.{option_map}
use Rattle.std.specs.Vec.Iter.{into_iter_items}
use Rattle.aut_base.specs.Formula.{formula_tree}
use Rattle.hoa_parser.specs.Naming.{name_item}
use Rattle.hoa_parser.specs.Raw.{written_item}
use Rattle.hoa_reader.specs.Validity.{names_item}
use Rattle.hoa_reader.specs.inner.Headers.{first_given, formula_item}
use Rattle.hoa_reader.specs.inner.PickedOut.{list_of}
use Rattle.hoa_reader.proofs.elaborate.header.header_of.Given as goal

-- what was found, or else what the items that are left have
abbrev pub invariant-items : goal.invariant-items
invariant-items l =
    let left = map written_item (into_iter_items l.item-iterator) in
    let all = map written_item l.fn.items in
    record {
      names : first_given l.found.names (list_of (filter_map names_item left)) ≡ list_of (filter_map names_item all);
      formula : first_given (option_map formula_tree l.found.formula) (list_of (filter_map formula_item left)) ≡ list_of (filter_map formula_item all);
      name : first_given l.found.name (list_of (filter_map name_item left)) ≡ list_of (filter_map name_item all);
    }
