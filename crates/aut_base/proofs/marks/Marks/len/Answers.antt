use Rattle.std.proofs.Common.{◌∙◌, ap, length, rules}
use Rattle.aut_base.proofs.order.SetBits.{count_bits, word_view}
use Rattle.aut_base.proofs.marks.Marks.len.Goals as goal

pub returns-in-Word-clause-count : goal.returns-in-Word-clause-count
returns-in-Word-clause-count c = count_bits c.in-Word.word (search rules) ∙ ap length (word_view c.in-Word.is c.self.view_is)
