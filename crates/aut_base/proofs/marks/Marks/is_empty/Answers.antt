use Rattle.std.proofs.Common.{◌∙◌, ◌==◌, ap, length, rules}
use Rattle.aut_base.proofs.order.SetBits.{is_none, word_view}
use Rattle.aut_base.proofs.marks.Marks.is_empty.Goals as goal

pub returns-in-Word : goal.returns-in-Word
returns-in-Word c = is_none c.in-Word.word (search rules) ∙ ap (λ ms. length ms == 0) (word_view c.in-Word.is c.self.view_is)
