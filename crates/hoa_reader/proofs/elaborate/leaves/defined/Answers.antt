use Rattle.std.proofs.Common.{◌≡◌, ◌&&◌, ◌+◌, ◌++◌, true, false, drop, take, map, [], ◌∷◌, arith, sym, ap, ◌∙◌, is_some}
use Rattle.std.proofs.lemmas.List.{drop_more}
use Rattle.std.proofs.lemmas.List.Folds.{list_any-append}
use Rattle.std.specs.List.{list_any}
use Rattle.hoa_reader.proofs.labels.AliasNames.{named, named-append}
use Rattle.hoa_reader.proofs.validity.AllDiffer.{differ_more, found_or, repeats, some_not_none}
use Rattle.hoa_reader.proofs.validity.Leaves.{leaves_agree}
use Rattle.hoa_reader.specs.inner.PickedOut.{alias_def}
use Rattle.hoa_reader.specs.inner.Places.{is_listed, place_in}
use Rattle.hoa_parser.specs.Raw.{raw_tree}
use Rattle.aut_base.specs.Text.{same_text}
use Rattle.hoa_reader.specs.Validity.{aliases_among, all_differ, uses_earlier}
use Rattle.hoa_reader.proofs.elaborate.leaves.defined.Goals as goal
use Rattle.aut_base.proofs.lists.Lists.{take-push, split-at}

pub returns-then-not-branch : goal.returns-then-not-branch
returns-then-not-branch c =
    let defs = c.args.defs.now in
    let i = c.defs.def-index in
    let def = c.def-item.result in
    let there : is_some (place_in c.defs.names def.name.now) ≡ true = grind (arith, some_not_none) in
    let whole : named defs ≡ named (take i defs) ++ def.name.now ∷ named (drop (i + 1) defs) = ap named (split-at defs i def c.defs-test.true c.def-item.is)
    ∙ named-append (take i defs) (def ∷ drop (i + 1) defs) in
    let no : all_differ same_text (named defs) ≡ false =
    ap (all_differ same_text) whole ∙ sym (repeats same_text (named (take i defs)) def.name.now (named (drop (i + 1) defs)) (sym (c.defs.invariant.names def.name.now) ∙ there)) in
    ap (λ b. b && uses_earlier [] (map alias_def defs)) no

pub defs-preserved : goal.defs-preserved
defs-preserved c =
    let defs = c.args.defs.now in
    let i = c.defs.def-index in
    let def = c.def-item.result in
    let before = named (take i defs) in
    let rest = map alias_def (drop (i + 1) defs) in
    let away : is_some (place_in c.defs.names def.name.now) ≡ false = grind (arith, some_not_none) in
    let more : named (take (i + 1) defs) ≡ before ++ def.name.now ∷ [] = ap named (take-push defs i def c.defs-test.true c.def-item.is) ∙ named-append (take i defs) (def ∷ []) in
    let split : drop i defs ≡ def ∷ drop (i + 1) defs = drop_more defs i def c.defs-test.true ∙ ap (λ y. y ∷ drop (i + 1) defs) (sym c.def-item.is) in
    let yes : c.aliases_among.result ≡ true = grind arith in
    let known : aliases_among before (raw_tree def.label.now) ≡ true =
    leaves_agree (λ i. true) (is_listed before) (λ name. is_some (place_in c.defs.names name)) (λ q. sym (c.defs.invariant.names q)) (raw_tree def.label.now) ∙ sym c.aliases_among.ensures ∙ yes in
    record {
      differ = ap (all_differ same_text) more ∙ differ_more same_text before def.name.now c.defs.invariant.differ (sym (c.defs.invariant.names def.name.now) ∙ away);
      earlier =
          ap (λ e. uses_earlier e rest) more ∙ ap (λ b. b && uses_earlier (before ++ def.name.now ∷ []) rest) (sym known)
          ∙ sym (ap (λ ds. uses_earlier before (map alias_def ds)) split) ∙ c.defs.invariant.earlier;
      names = λ q.
          ap is_some (rw c.as_bytes.ensures at (c.in_ok-add.ensures.added q))
          ∙ found_or (same_text def.name.now q) (list_any (λ x. same_text x q) before) tt (place_in c.defs.names q) (c.defs.invariant.names q)
          ∙ sym (ap (list_any (λ x. same_text x q)) more ∙ list_any-append (λ x. same_text x q) before (def.name.now ∷ []));
    }
