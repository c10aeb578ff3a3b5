use Rattle.std.proofs.Common.{sym}
use Rattle.made_stream.proofs.Bytes.{length-part_text}
use Rattle.made_stream.proofs.made.place.Place.len.Goals as goal

pub returns-clause-count : goal.returns-clause-count
returns-clause-count c =
    rw (c.front.ensures, c.digit_count.ensures.count, c.number.ensures.is, c.back.ensures)
    (sym (length-part_text c.args.self.ring c.args.self.state c.args.self.part))
