use Rattle.std.proofs.Common.{◌≡◌, ◌<◌, ◌≤◌, ℕ, List, map, Option, Some, IfOk, get_or, sym, ap, ◌∙◌, subst, arith, false}
use Rattle.std.specs.Global.{Global}
use Rattle.std.specs.declared.boxed.Box.{Box}
use Rattle.aut_base.proofs.trees.LabelTrees.{label_tree-False}
use Rattle.aut_base.specs.Label.{LabelTree, label_list, label_size, label_tree, labels_size}
use Rattle.std.proofs.lemmas.Result.{IfOk-weaker}
use Rattle.hoa_reader.proofs.labels.CubeShapes.{cube_said}
use Rattle.hoa_reader.proofs.labels.ExpandedLabels.{and_of, bit_small, expanded_node, or_of, part_size, size_pos}
use Rattle.hoa_parser.proofs.grammar.RawTrees.{raw_tree-Alias, raw_tree-And-fields, raw_tree-Or-fields}
use Rattle.hoa_reader.proofs.labels.Meanings.{meaning_missing, meaning_of}
use Rattle.hoa_reader.specs.Described.{each_expanded, expanded}
use Rattle.hoa_reader.specs.inner.Growing.{AreAliasesKnown, IsKnownBy, IsKnownOne, alias_name, meaning_names, meanings_by, expansion_steps}
use Rattle.hoa_reader.specs.inner.Places.{is_listed, place_in}
use Rattle.hoa_parser.specs.Raw.{raw_tree, raw_trees}
use Rattle.hoa_reader.specs.declared.elaborate.aliases.Known.{Known}
use Rattle.hoa_reader.specs.declared.elaborate.parts.AliasDef.{AliasDef}
use Rattle.hoa_reader.specs.declared.elaborate.places.Places.{Places}
use Rattle.hoa_parser.specs.declared.raw.RawLabel.{RawLabel}
use Rattle.hoa_parser.specs.declared.raw.RawLabel.TheVariants as raw_label
use Rattle.hoa_reader.proofs.elaborate.labels.+expand.Goals as goal
use Rattle.std.proofs.lemmas.Option.{get_or_from_slice_get}

found : (defs : List AliasDef) (known : Places Known) (name : List ℕ) (k : Known) → AreAliasesKnown (meanings_by defs) defs known → place_in known name ≡ Some k
    → IsKnownOne (meanings_by defs) defs name k
found defs known name k all is = let P : Option Known → Type 0 = λ o. IsKnownBy (meanings_by defs) defs name o in subst P is (all name)

is_alias : (defs : List AliasDef) (label : RawLabel) (name : Box (List ℕ) Global) → label ≡ raw_label.Alias name
    → expanded (meanings_by defs) (raw_tree label) ≡ meaning_of (meanings_by defs) name.value
is_alias defs label name is = ap (λ l. expanded (meanings_by defs) (raw_tree l)) is ∙ ap (expanded (meanings_by defs)) (raw_tree-Alias name)

pub expand-returns-in-Some : goal.expand-returns-in-Some
expand-returns-in-Some t c =
    let defs = c.args.defs.now in
    let name = c.in-Alias.name in
    let one = found defs c.args.known.now name.value c.in-Some.alias c.requires (sym (rw c.deref.ensures at c.find.ensures) ∙ c.in-Some.is) in
    let here : get_or defs c.in-Some.alias.place c.index-defs-alias.result ≡ one.known.def = get_or_from_slice_get defs c.in-Some.alias.place one.known.def c.index-defs-alias.result one.known.there in
    let e : expanded (meanings_by defs) (raw_tree (get_or defs c.in-Some.alias.place c.index-defs-alias.result).label.now) ≡ expanded (meanings_by defs) (raw_tree c.args.label.now) =
    ap (λ (d : AliasDef). expanded (meanings_by defs) (raw_tree d.label.now)) here ∙ sym one.known.same ∙ sym (is_alias defs c.args.label.now name c.in-Alias.is) in
    subst (λ x. IfOk c.expand.result (λ new. label_tree new ≡ x)) e c.expand.ensures

pub expand-returns-in-None : goal.expand-returns-in-None
expand-returns-in-None t c =
    let defs = c.args.defs.now in
    let name = c.in-Alias.name in
    let P : Option Known → Type 0 = λ o. IsKnownBy (meanings_by defs) defs name.value o in
    let gone : is_listed (meaning_names (meanings_by defs)) name.value ≡ false = subst P (sym (rw c.deref.ensures at c.find.ensures) ∙ c.in-None.is) (c.requires name.value) in
    label_tree-False ∙ sym (is_alias defs c.args.label.now name c.in-Alias.is ∙ meaning_missing (meanings_by defs) name.value gone)

pub expand-returns-in_ok-new-in-And : goal.expand-returns-in_ok-new-in-And
expand-returns-in_ok-new-in-And t c =
    expanded_node LabelTree.And (meanings_by c.args.defs.now) c.in-And.parts.value _ _
    (and_of c.in_ok-new-in-And.field-0 _ _ _ (ap label_list c.in_ok-new-in-And.ensures.ok ∙ (rw c.deref-in-And.ensures at c.in_ok-parts-in-And.ensures)))
    (ap (λ l. expanded (meanings_by c.args.defs.now) (raw_tree l)) c.in-And.is ∙ ap (expanded (meanings_by c.args.defs.now)) (raw_tree-And-fields c.in-And.parts))

pub expand-returns-in_ok-new-in-Or : goal.expand-returns-in_ok-new-in-Or
expand-returns-in_ok-new-in-Or t c =
    expanded_node LabelTree.Or (meanings_by c.args.defs.now) c.in-Or.parts.value _ _
    (or_of c.in_ok-new-in-Or.field-0 _ _ _ (ap label_list c.in_ok-new-in-Or.ensures.ok ∙ (rw c.deref-in-Or.ensures at c.in_ok-parts-in-Or.ensures)))
    (ap (λ l. expanded (meanings_by c.args.defs.now) (raw_tree l)) c.in-Or.is ∙ ap (expanded (meanings_by c.args.defs.now)) (raw_tree-Or-fields c.in-Or.parts))

pub expand_parts-expand-requires : goal.expand_parts-expand-requires
expand_parts-expand-requires t c =
    let ms = meanings_by c.args.defs.now in
    let p = c.args.parts.now in
    let pos = size_pos (expanded ms (raw_tree p.second)) in
    let bit = bit_small (alias_name (raw_tree p.first)) in
    let less : expansion_steps c.args.defs.now (raw_tree p.first) < t = omega (arith, pos, bit, c.decreases) in
    (less, c.requires)

pub expand_parts-expand-requires-in-others : goal.expand_parts-expand-requires-in-others
expand_parts-expand-requires-in-others t c =
    let ms = meanings_by c.args.defs.now in
    let p = c.args.parts.now in
    let small : label_size (expanded ms (raw_tree c.part-item.result)) ≤ labels_size (each_expanded ms (raw_trees (map raw_tree p.others.items))) =
    subst (λ (ps : List RawLabel). label_size (expanded ms (raw_tree c.part-item.result)) ≤ labels_size (each_expanded ms (raw_trees (map raw_tree ps)))) c.deref-part-items.ensures.value
    (part_size ms c.deref-part-items.result.now c.others.part-index c.part-item.result c.others-test.true c.part-item.is) in
    let pos = size_pos (expanded ms (raw_tree p.first)) in
    let bit = bit_small (alias_name (raw_tree c.part-item.result)) in
    let less : expansion_steps c.args.defs.now (raw_tree c.part-item.result) < t = omega (arith, small, pos, bit, c.decreases) in
    (less, c.requires)

pub expand-returns-in-Cube : goal.expand-returns-in-Cube
expand-returns-in-Cube t c =
    let ms = meanings_by c.args.defs.now in
    IfOk-weaker c.cube_label.result _ _ (λ new is. cube_said (expanded ms) c.args.label.now _ _ _ c.in-Cube.is (is ms)) c.cube_label.ensures
