use Rattle.std.proofs.Common.{◌≡◌, ◌∙◌, ◌+◌, ◌-◌, ◌&&◌, ◌||◌, ℕ, List, Option, Some, map, false, ap, arith, subst, sym}
use Rattle.std.proofs.lemmas.Option.{get_or_from_slice_get}
use Rattle.std.proofs.lemmas.Result.{IfOk-weaker}
use Rattle.std.specs.Global.{Global}
use Rattle.std.specs.declared.boxed.Box.{Box}
use Rattle.aut_base.specs.Label.{AllBelow, EachBelow, LabelTree, all_true, label_size, labels_size, some_true, trees, truth}
use Rattle.aut_core.proofs.Growth.{keeps_none, keeps_on}
use Rattle.hoa_parser.proofs.grammar.RawTrees.{raw_tree-Alias}
use Rattle.hoa_parser.specs.Raw.{raw_parts, raw_tree}
use Rattle.hoa_parser.specs.declared.raw.RawLabel.{RawLabel}
use Rattle.hoa_parser.specs.declared.raw.RawLabel.TheVariants as raw_label
use Rattle.hoa_parser.specs.declared.raw.RawLabels.{RawLabels}
use Rattle.hoa_reader.proofs.labels.ExpandedLabels.{bit_small}
use Rattle.hoa_reader.proofs.labels.Meanings.{meaning_missing, meaning_of}
use Rattle.hoa_reader.proofs.labels.WrittenGuards.{all_more, all_none, and_replaced, cube_written, guard_beside, guard_of_label, guard_same}
use Rattle.hoa_reader.proofs.labels.WrittenGuards.{or_replaced, part_is_below, part_is_smaller, some_more, some_none}
use Rattle.hoa_reader.specs.declared.elaborate.aliases.Known.{Known}
use Rattle.hoa_reader.specs.declared.elaborate.edges.Shared.{Shared}
use Rattle.hoa_reader.specs.declared.elaborate.parts.AliasDef.{AliasDef}
use Rattle.hoa_reader.specs.inner.Growing.{IsKnownBy, IsKnownOne, alias_name, meaning_names, meanings_by}
use Rattle.hoa_reader.specs.inner.Places.{is_listed, place_in}
use Rattle.hoa_reader.specs.inner.TreeEdges.{HasKnown, parts_replaced, replaced}
use Rattle.hoa_reader.proofs.elaborate.written.+guard_written.Goals as goal

pub guard_of_all-parts-init : goal.guard_of_all-parts-init
guard_of_all-parts-init t c = record {
  keeps = keeps_none _;
  left = omega (arith, c.len-left.ensures);
  guard = all_none c.args.shared.now _ c.args.parts.now _ _ c.len-left.ensures c.always-all.ensures;
}

pub guard_of_some-parts-init : goal.guard_of_some-parts-init
guard_of_some-parts-init t c = record {
  keeps = keeps_none _;
  left = omega (arith, c.len-left.ensures);
  guard = some_none c.args.shared.now _ c.args.parts.now _ _ c.len-left.ensures c.never-some.ensures;
}

pub guard_of_all-parts-preserved : goal.guard_of_all-parts-preserved
guard_of_all-parts-preserved t c = record {
  keeps = keeps_on c.parts.invariant.keeps c.met.ensures.keeps;
  left = omega arith;
  guard = all_more c.args.shared.now _ _ c.args.parts.now (c.parts.left - 1) c.parts.left (raw_tree c.at.result.now) _ _ (omega arith) c.at.ensures c.parts.invariant.guard c.in_ok-all.ensures.met;
}

pub guard_of_some-parts-preserved : goal.guard_of_some-parts-preserved
guard_of_some-parts-preserved t c = record {
  keeps = keeps_on c.parts.invariant.keeps c.joined.ensures.keeps;
  left = omega arith;
  guard = some_more c.args.shared.now _ _ c.args.parts.now (c.parts.left - 1) c.parts.left (raw_tree c.at.result.now) _ _ (omega arith) c.at.ensures
      c.parts.invariant.guard c.in_ok-some.ensures.joined;
}

pub guard_of_all-met-requires : goal.guard_of_all-met-requires
guard_of_all-met-requires t c =
    let x = c.args.shared.now in
    let i = c.parts.left - 1 in
    let part = raw_tree c.at.result.now in
    let small = part_is_smaller x c.args.parts.now i part c.at.ensures in
    let bit = bit_small (alias_name part) in (
      omega (arith, small, bit, c.decreases),
      (
        c.requires.known,
        (
          subst (λ n. AllBelow n (replaced x part)) (sym c.parts.invariant.keeps.names) (part_is_below x _ c.args.parts.now i part c.requires.below c.at.ensures),
          c.parts.invariant.guard.has,
        ),
      ),
    )

pub guard_of_some-joined-requires : goal.guard_of_some-joined-requires
guard_of_some-joined-requires t c =
    let x = c.args.shared.now in
    let i = c.parts.left - 1 in
    let part = raw_tree c.at.result.now in
    let small = part_is_smaller x c.args.parts.now i part c.at.ensures in
    let bit = bit_small (alias_name part) in (
      omega (arith, small, bit, c.decreases),
      (
        c.requires.known,
        (
          subst (λ n. AllBelow n (replaced x part)) (sym c.parts.invariant.keeps.names) (part_is_below x _ c.args.parts.now i part c.requires.below c.at.ensures),
          c.parts.invariant.guard.has,
        ),
      ),
    )

pub guard_of_all-returns-in_err-all-clause-keeps : goal.guard_of_all-returns-in_err-all-clause-keeps
guard_of_all-returns-in_err-all-clause-keeps t c = keeps_on c.parts.invariant.keeps c.met.ensures.keeps

pub guard_of_some-returns-in_err-some-clause-keeps : goal.guard_of_some-returns-in_err-some-clause-keeps
guard_of_some-returns-in_err-some-clause-keeps t c = keeps_on c.parts.invariant.keeps c.joined.ensures.keeps

pub met-returns-in_ok-own-in_default : goal.met-returns-in_ok-own-in_default
met-returns-in_ok-own-in_default t c = record {
  keeps = keeps_on c.guard_written.ensures.keeps c.and.ensures.keeps;
  met = IfOk-weaker c.and.result _ _
      (λ g is. guard_beside c.args.guards.now _ _ (λ a b. a && b) (λ on. truth on (replaced c.args.shared.now (raw_tree c.args.label.now))) c.in_ok-own-in_default.own c.args.guard g
      c.guard_written.ensures.keeps c.requires.has c.in_ok-own-in_default.ensures.guard is) c.and.ensures.and;
}

pub joined-returns-in_ok-own-in_default : goal.joined-returns-in_ok-own-in_default
joined-returns-in_ok-own-in_default t c = record {
  keeps = keeps_on c.guard_written.ensures.keeps c.or.ensures.keeps;
  joined = IfOk-weaker c.or.result _ _
      (λ g is. guard_beside c.args.guards.now _ _ (λ a b. a || b) (λ on. truth on (replaced c.args.shared.now (raw_tree c.args.label.now))) c.in_ok-own-in_default.own c.args.guard g
      c.guard_written.ensures.keeps c.requires.has c.in_ok-own-in_default.ensures.guard is) c.or.ensures.or;
}

pub guard_written-returns-in_ok-inner-in-Not-clause-keeps : goal.guard_written-returns-in_ok-inner-in-Not-clause-keeps
guard_written-returns-in_ok-inner-in-Not-clause-keeps t c = keeps_on c.guard_written-in-Not.ensures.keeps c.not.ensures.keeps

-- a conjunction and a disjunction, by their parts
and_is : (x : Shared) (label : RawLabel) (p : Box RawLabels Global) → label ≡ raw_label.And p
    → replaced x (raw_tree label) ≡ LabelTree.And (replaced x (raw_parts p.value).first) (replaced x (raw_parts p.value).second) (trees (map (replaced x) (raw_parts p.value).others))
and_is x label p is = ap (λ l. replaced x (raw_tree l)) is ∙ and_replaced x p

or_is : (x : Shared) (label : RawLabel) (p : Box RawLabels Global) → label ≡ raw_label.Or p
    → replaced x (raw_tree label) ≡ LabelTree.Or (replaced x (raw_parts p.value).first) (replaced x (raw_parts p.value).second) (trees (map (replaced x) (raw_parts p.value).others))
or_is x label p is = ap (λ l. replaced x (raw_tree l)) is ∙ or_replaced x p

pub guard_written-guard_of_all-requires : goal.guard_written-guard_of_all-requires
guard_written-guard_of_all-requires t c =
    let x = c.args.shared.now in
    let is = and_is x c.args.label.now c.in-And.parts c.in-And.is in
    let here : parts_replaced x c.deref-in-And.result.now ≡ parts_replaced x c.in-And.parts.value = ap (parts_replaced x) c.deref-in-And.ensures in
    let size : label_size (replaced x (raw_tree c.args.label.now)) ≡ 1 + labels_size (parts_replaced x c.in-And.parts.value) = ap label_size is in
    let same : labels_size (parts_replaced x c.deref-in-And.result.now) ≡ labels_size (parts_replaced x c.in-And.parts.value) = ap labels_size here in
    let each = subst (AllBelow c.args.guards.now.names) is c.requires.below in
    let below : EachBelow c.args.guards.now.names (parts_replaced x c.in-And.parts.value) = (each.0, (each.1, each.2)) in
    (omega (arith, size, same, c.decreases), (c.requires.known, subst (EachBelow c.args.guards.now.names) (sym here) below))

pub guard_written-guard_of_some-requires : goal.guard_written-guard_of_some-requires
guard_written-guard_of_some-requires t c =
    let x = c.args.shared.now in
    let is = or_is x c.args.label.now c.in-Or.parts c.in-Or.is in
    let here : parts_replaced x c.deref-in-Or.result.now ≡ parts_replaced x c.in-Or.parts.value = ap (parts_replaced x) c.deref-in-Or.ensures in
    let size : label_size (replaced x (raw_tree c.args.label.now)) ≡ 1 + labels_size (parts_replaced x c.in-Or.parts.value) = ap label_size is in
    let same : labels_size (parts_replaced x c.deref-in-Or.result.now) ≡ labels_size (parts_replaced x c.in-Or.parts.value) = ap labels_size here in
    let each = subst (AllBelow c.args.guards.now.names) is c.requires.below in
    let below : EachBelow c.args.guards.now.names (parts_replaced x c.in-Or.parts.value) = (each.0, (each.1, each.2)) in
    (omega (arith, size, same, c.decreases), (c.requires.known, subst (EachBelow c.args.guards.now.names) (sym here) below))

pub guard_written-returns-in-And-clause-guard : goal.guard_written-returns-in-And-clause-guard
guard_written-returns-in-And-clause-guard t c =
    let x = c.args.shared.now in
    let is = and_is x c.args.label.now c.in-And.parts c.in-And.is in
    let here : parts_replaced x c.deref-in-And.result.now ≡ parts_replaced x c.in-And.parts.value = ap (parts_replaced x) c.deref-in-And.ensures in
    IfOk-weaker c.guard_of_all.result _ _
    (λ g made. guard_same _ _ (λ on. truth on (replaced x (raw_tree c.args.label.now))) g (λ on. ap (all_true on) here ∙ ap (truth on) (sym is)) made) c.guard_of_all.ensures.guard

pub guard_written-returns-in-Or-clause-guard : goal.guard_written-returns-in-Or-clause-guard
guard_written-returns-in-Or-clause-guard t c =
    let x = c.args.shared.now in
    let is = or_is x c.args.label.now c.in-Or.parts c.in-Or.is in
    let here : parts_replaced x c.deref-in-Or.result.now ≡ parts_replaced x c.in-Or.parts.value = ap (parts_replaced x) c.deref-in-Or.ensures in
    IfOk-weaker c.guard_of_some.result _ _
    (λ g made. guard_same _ _ (λ on. truth on (replaced x (raw_tree c.args.label.now))) g (λ on. ap (some_true on) here ∙ ap (truth on) (sym is)) made) c.guard_of_some.ensures.guard

-- what stands for an alias says the same
found : (x : Shared) (name : List ℕ) (k : Known) → HasKnown x → place_in x.known name ≡ Some k → IsKnownOne (meanings_by x.defs.items) x.defs.items name k
found x name k all is = let P : Option Known → Type 0 = λ o. IsKnownBy (meanings_by x.defs.items) x.defs.items name o in subst P is (all name)

alias_is : (x : Shared) (label : RawLabel) (name : Box (List ℕ) Global) → label ≡ raw_label.Alias name → replaced x (raw_tree label) ≡ meaning_of (meanings_by x.defs.items) name.value
alias_is x label name is = ap (λ l. replaced x (raw_tree l)) is ∙ ap (replaced x) (raw_tree-Alias name)

pub guard_written-returns-in-None-clause-guard : goal.guard_written-returns-in-None-clause-guard
guard_written-returns-in-None-clause-guard t c =
    let x = c.args.shared.now in
    let ms = meanings_by x.defs.items in
    let name = c.in-Alias.name in
    let P : Option Known → Type 0 = λ o. IsKnownBy ms x.defs.items name.value o in
    let gone : is_listed (meaning_names ms) name.value ≡ false = subst P (sym (rw c.deref.ensures at c.find.ensures) ∙ c.in-None.is) (c.requires.known name.value) in
    guard_of_label _ _ LabelTree.False _ (alias_is x c.args.label.now name c.in-Alias.is ∙ meaning_missing ms name.value gone) c.never-in-None.ensures

pub guard_written-returns-in-Some-clause-guard : goal.guard_written-returns-in-Some-clause-guard
guard_written-returns-in-Some-clause-guard t c =
    let x = c.args.shared.now in
    let defs = x.defs.items in
    let name = c.in-Alias.name in
    let one = found x name.value c.in-Some.alias c.requires.known (sym (rw c.deref.ensures at c.find.ensures) ∙ c.in-Some.is) in
    let here : c.index.result.now ≡ one.known.def = c.index.ensures ∙ get_or_from_slice_get defs c.in-Some.alias.place one.known.def c.index.result.now one.known.there in
    let e : replaced x (raw_tree c.index.result.now.label.now) ≡ replaced x (raw_tree c.args.label.now) =
    ap (λ (d : AliasDef). replaced x (raw_tree d.label.now)) here ∙ sym one.known.same ∙ sym (alias_is x c.args.label.now name c.in-Alias.is) in
    IfOk-weaker c.guard_written.result _ _
    (λ g is. guard_same _ _ (λ on. truth on (replaced x (raw_tree c.args.label.now))) g (λ on. ap (truth on) e) is) c.guard_written.ensures.guard

pub guard_written-cube_guard-requires : goal.guard_written-cube_guard-requires
guard_written-cube_guard-requires t c = subst (AllBelow c.args.guards.now.names) (cube_written c.args.shared.now c.args.label.now _ _ c.in-Cube.is) c.requires.below

pub guard_written-returns-in-Cube-clause-guard : goal.guard_written-returns-in-Cube-clause-guard
guard_written-returns-in-Cube-clause-guard t c =
    let x = c.args.shared.now in
    IfOk-weaker c.cube_guard.result _ _
    (λ g made. guard_same _ _ (λ on. truth on (replaced x (raw_tree c.args.label.now))) g (λ on. ap (truth on) (sym (cube_written x c.args.label.now _ _ c.in-Cube.is))) made)
    c.cube_guard.ensures.guard
