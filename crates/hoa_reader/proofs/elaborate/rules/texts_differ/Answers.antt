use Rattle.std.proofs.Common.{◌≡◌, arith, true, false, ◌∷◌, [], ◌∙◌, ap, sym, take, drop, ◌+◌, is_some}
use Rattle.std.proofs.lemmas.List.Folds.{list_any-append}
use Rattle.std.specs.List.{list_any}
use Rattle.hoa_reader.proofs.validity.AllDiffer.{one_differs, differ_more, found_or, repeats, some_not_none}
use Rattle.hoa_reader.specs.inner.Places.{place_in}
use Rattle.aut_base.specs.Text.{same_text}
use Rattle.hoa_reader.specs.Validity.{all_differ}
use Rattle.hoa_reader.proofs.elaborate.rules.texts_differ.Goals as goal
use Rattle.aut_base.proofs.lists.Lists.{take-push, split-at}

pub returns-in-len1 : goal.returns-in-len1
returns-in-len1 c = one_differs same_text c.args.texts.now (omega (arith, c.in-len1.len_below))

pub returns-then-not-branch : goal.returns-then-not-branch
returns-then-not-branch c =
    let texts = c.args.texts.now in
    let i = c.texts.text-index in
    let text = c.text-item.result in
    let there : is_some (place_in c.texts.seen text) ≡ true = grind (arith, some_not_none) in
    repeats same_text (take i texts) text (drop (i + 1) texts) (sym (c.texts.invariant.seen text) ∙ there)
    ∙ ap (all_differ same_text) (sym (split-at texts i text c.texts-test.true c.text-item.is))

pub texts-preserved : goal.texts-preserved
texts-preserved c =
    let texts = c.args.texts.now in
    let i = c.texts.text-index in
    let text = c.text-item.result in
    let more = take-push texts i text c.texts-test.true c.text-item.is in
    let away : is_some (place_in c.texts.seen text) ≡ false = grind (arith, some_not_none) in
    record {
      differ = ap (all_differ same_text) more ∙ differ_more same_text (take i texts) text c.texts.invariant.differ (sym (c.texts.invariant.seen text) ∙ away);
      seen = λ q.
          ap is_some (rw c.as_bytes.ensures at (c.in_ok-add.ensures.added q))
          ∙ found_or (same_text text q) (list_any (λ x. same_text x q) (take i texts)) _ (place_in c.texts.seen q) (c.texts.invariant.seen q)
          ∙ sym (ap (list_any (λ x. same_text x q)) more ∙ list_any-append (λ x. same_text x q) (take i texts) (text ∷ []));
    }
