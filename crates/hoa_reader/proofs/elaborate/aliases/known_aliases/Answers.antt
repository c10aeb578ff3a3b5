use Rattle.std.proofs.Common.{◌≡◌, ◌+◌, ◌++◌, ℕ, true, false, drop, take, map, List, [], ◌∷◌, refl, sym, ap, ◌∙◌, is_some, length, get_or, slice_get, Some, subst, ◌<◌}
use Rattle.std.proofs.lemmas.Bool.{false≢true, false_from_ne_true, and_parts}
use Rattle.std.proofs.lemmas.List.{map-append}
use Rattle.hoa_reader.proofs.description.OneMore.{meanings_push}
use Rattle.hoa_reader.proofs.labels.AliasNames.{named, named-append}
use Rattle.hoa_reader.proofs.validity.AllDiffer.{repeats}
use Rattle.hoa_reader.proofs.validity.Leaves.{leaves_agree}
use Rattle.hoa_reader.proofs.labels.Meanings.{known_listed, known_push, names_by}
use Rattle.hoa_reader.specs.Described.{Meaning, expanded, meanings_after}
use Rattle.hoa_reader.specs.inner.Growing.{AreAliasesKnown, meanings_by}
use Rattle.hoa_reader.specs.inner.PickedOut.{alias_def}
use Rattle.hoa_reader.specs.inner.Places.{is_listed, place_in}
use Rattle.hoa_parser.specs.Raw.{raw_tree}
use Rattle.aut_base.specs.Text.{same_text}
use Rattle.hoa_reader.specs.Validity.{aliases_among, all_differ, uses_earlier}
use Rattle.hoa_reader.specs.declared.elaborate.parts.AliasDef.{AliasDef}
use Rattle.hoa_reader.proofs.elaborate.aliases.known_aliases.Goals as goal
use Rattle.aut_base.proofs.lists.Lists.{take-push, split-at, drop-at, slice_get-at}

-- what is left of the lines begins with an alias that uses those before it
uses_here : (before : List (List ℕ)) (defs : List AliasDef) (i : ℕ) (def : AliasDef) → i < length defs → def ≡ get_or defs i def → uses_earlier before (map alias_def (drop i defs)) ≡ true
    → (aliases_among before (raw_tree def.label.now) ≡ true) × (uses_earlier (before ++ def.name.now ∷ []) (map alias_def (drop (i + 1) defs)) ≡ true)
uses_here before defs i def l is e = and_parts _ _ (sym (ap (λ ds. uses_earlier before (map alias_def ds)) (drop-at defs i def l is)) ∙ e)

-- its name is not that of an earlier one
name_is_new : (defs : List AliasDef) (i : ℕ) (def : AliasDef) → i < length defs → def ≡ get_or defs i def → all_differ same_text (named defs) ≡ true
    → is_listed (named (take i defs)) def.name.now ≡ false
name_is_new defs i def l is differ =
    let whole : named defs ≡ named (take i defs) ++ def.name.now ∷ named (drop (i + 1) defs) = ap named (split-at defs i def l is) ∙ named-append (take i defs) (def ∷ drop (i + 1) defs) in
    false_from_ne_true _ (λ again. false≢true (repeats same_text (named (take i defs)) def.name.now (named (drop (i + 1) defs)) again ∙ ap (all_differ same_text) (sym whole) ∙ differ))

-- the aliases up to one more place
one_more_meaning : (defs : List AliasDef) (i : ℕ) (def : AliasDef) → i < length defs → def ≡ get_or defs i def
    → meanings_by (take (i + 1) defs) ≡ meanings_by (take i defs) ++ record { name = def.name.now; label = expanded (meanings_by (take i defs)) (raw_tree def.label.now) } ∷ []
one_more_meaning defs i def l is =
    ap meanings_by (take-push defs i def l is)
    ∙ ap (meanings_after []) (map-append alias_def (take i defs) (def ∷ []))
    ∙ meanings_push [] (map alias_def (take i defs)) (alias_def def)

pub known_of-new-requires : goal.known_of-new-requires
known_of-new-requires c =
    let defs = c.args.defs.now in
    let i = c.defs.def-index in
    let def = c.def-item.result in
    let ms = meanings_by (take i defs) in
    let here = uses_here (named (take i defs)) defs i def c.defs-test.true c.def-item.is c.defs.invariant.earlier in
    leaves_agree (λ i. true) (λ name. is_some (place_in c.defs.known name)) (is_listed (named (take i defs)))
    (λ q. known_listed ms defs c.defs.known c.defs.invariant.known q ∙ ap (λ ns. is_listed ns q) (names_by (take i defs))) (raw_tree def.label.now)
    ∙ here.0

pub defs-preserved : goal.defs-preserved
defs-preserved c =
    let defs = c.args.defs.now in
    let i = c.defs.def-index in
    let def = c.def-item.result in
    let ms = meanings_by (take i defs) in
    let m : Meaning = record { name = def.name.now; label = expanded ms (raw_tree def.label.now) } in
    let here = uses_here (named (take i defs)) defs i def c.defs-test.true c.def-item.is c.defs.invariant.earlier in
    let away = name_is_new defs i def c.defs-test.true c.def-item.is (and_parts _ _ c.requires).0 in
    let names = names_by (take i defs) in
    let at : slice_get defs c.defs.place ≡ Some def = ap (slice_get defs) c.defs.invariant.place ∙ slice_get-at defs i def c.defs-test.true c.def-item.is in
    let P : List Meaning → Type 0 = λ ms. AreAliasesKnown ms defs c.add.new.self in
    record {
      place = ap (λ n. n + 1) c.defs.invariant.place;
      known =
          subst P (sym (one_more_meaning defs i def c.defs-test.true c.def-item.is))
          (known_push ms m defs c.defs.known c.add.new.self c.known_of-new.result c.defs.invariant.known (ap (λ ns. is_listed ns def.name.now) names ∙ away)
          (c.known_of-new.ensures ms defs def at refl c.defs.invariant.known (ap (λ ns. aliases_among ns (raw_tree def.label.now)) names ∙ here.0))
          (rw c.as_bytes.ensures at c.in_ok-add.ensures.added));
      earlier =
          ap (λ ns. uses_earlier ns (map alias_def (drop (i + 1) defs))) (ap named (take-push defs i def c.defs-test.true c.def-item.is) ∙ named-append (take i defs) (def ∷ []))
          ∙ here.1;
    }
