use Rattle.std.proofs.Common.{List, ap, drop, subst, take, ◌++◌, ◌∙◌}
use Rattle.aut_base.specs.Word.{NameSet}
use Rattle.word_syntax.proofs.lassos.ReducedWords.{Made, made_accepted, made_reduced, made_same}
use Rattle.word_syntax.specs.inner.Periods.{IsRoot, IsShared}
use Rattle.word_syntax.proofs.reduced.reduce.Goals as goal

pub returns : goal.returns
returns c =
    let size = c.in_ok-root_size.field-0 in
    let kept = c.shared_end-shared.result.kept in
    let from = c.shared_end-shared.result.from in
    let P : List NameSet → Type 0 = λ x. IsRoot x size in
    let Q : List NameSet → Type 0 = λ x. IsShared x c.before-root.result.now kept from in
    let R : List NameSet → Type 0 = λ x. IsShared c.args.word.now.stem x kept from in
    let root = c.before-root.ensures ∙ ap (λ (x : List NameSet). take size x) c.as_slice-letters.ensures in
    let made : Made c.args.word.now.stem c.args.word.now.cycle _ _ = record {
      size = size;
      kept = kept;
      from = from;
      root = subst P c.as_slice-letters.ensures c.in_ok-root_size.ensures;
      shared = subst R root (subst Q c.as_slice.ensures c.shared_end-shared.ensures);
      stem_is = c.in_ok-push_copies.ensures ∙ (ap (λ (x : List NameSet). x ++ c.before-2.result.now) c.new-stem.ensures
          ∙ (c.before-2.ensures ∙ ap (λ (x : List NameSet). take kept x) c.as_slice-2.ensures));
      cycle_is = c.in_ok-push_copies-3.ensures ∙
          (ap (λ (x : List NameSet). x ++ c.before-3.result.now)
          (c.in_ok-push_copies-2.ensures ∙ (ap (λ (x : List NameSet). x ++ c.behind.result.now) c.new-cycle.ensures ∙ (c.behind.ensures ∙ ap (λ (x : List NameSet). drop from x) root)))
          ∙ ap (λ (x : List NameSet). drop from (take size c.args.word.now.cycle) ++ x) (c.before-3.ensures ∙ ap (λ (x : List NameSet). take from x) root));
    } in
    record {
      same = made_same _ _ _ _ made;
      reduced = made_reduced _ _ _ _ made;
      accepted = made_accepted _ _ _ _ c.args.word.now.goes_on made;
    }
