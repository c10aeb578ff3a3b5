use Rattle.std.proofs.Common.{◌≡◌, ◌+◌, length, ◌∙◌, arith}
use Rattle.made_stream.specs.inner.Parts.{ring_part_text}
use Rattle.made_stream.proofs.Rings.{one_byte_on, past_last_byte}
use Rattle.made_stream.proofs.made.place.Place.next.Goals as goal

pub returns-then-self-len : goal.returns-then-self-len
returns-then-self-len c =
    let last : c.args.self.given + 1 ≡ length (ring_part_text c.args.self.ring c.args.self.state c.args.self.part) = omega arith in
    c.behind.ensures ∙ past_last_byte _ _ _ last

pub returns : goal.returns
returns c = one_byte_on _ _ _ c.args.self.within
