use Rattle.std.proofs.Common.{◌≡◌, ◌∙◌, Some, ap, arith, slice_get}
use Rattle.std.proofs.lemmas.Grind.{common_steps}
use Rattle.std.proofs.lemmas.Option.{gets}
use Rattle.aut_base.proofs.order.SetBits.{word_view}
use Rattle.aut_base.proofs.marks.Marks.at.Goals as goal

pub returns-in-Word-clause-value : goal.returns-in-Word-clause-value
returns-in-Word-clause-value c = ap Some c.number.ensures ∙ (c.bit_number.ensures.value ∙ ap (λ ms. slice_get ms c.args.place) (word_view c.in-Word.is c.self.view_is))

pub returns-in-Word-clause-item : goal.returns-in-Word-clause-item
returns-in-Word-clause-item c = λ d.
    let found : Some c.number.result.now ≡ slice_get c.args.self.now c.args.place =
    ap Some c.number.ensures ∙ (c.bit_number.ensures.value ∙ ap (λ ms. slice_get ms c.args.place) (word_view c.in-Word.is c.self.view_is)) in
    grind (arith, common_steps, gets)

pub returns-in-List-clause-value : goal.returns-in-List-clause-value
returns-in-List-clause-value c = grind (arith, common_steps, gets)
