use Rattle.std.proofs.Common.{◌++◌, ◌∙◌, ℕ, List, ap}
use Rattle.std.proofs.lemmas.Result.{IfOk-weaker}
use Rattle.hoa_reader.specs.inner.Numbers.{marks_in_order}
use Rattle.hoa_reader.proofs.elaborate.edges.marks_of.Goals as goal

pub returns : goal.returns
returns c =
    IfOk-weaker c.marks_of_both.result _ _ (λ all is. is ∙ (ap (λ (ms : List ℕ). marks_in_order c.args.sets (ms ++ c.marks.result.now)) c.as_slice-own.ensures
    ∙ ap (λ (ms : List ℕ). marks_in_order c.args.sets (c.args.state.now.marks ++ ms)) c.marks.ensures)) c.marks_of_both.ensures
