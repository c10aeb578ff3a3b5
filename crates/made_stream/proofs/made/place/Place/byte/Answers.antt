use Rattle.made_stream.proofs.Bytes.{behind_front, byte_of_back, byte_of_front, byte_of_number, within_back}
use Rattle.made_stream.proofs.made.place.Place.byte.Goals as goal

pub returns-then-self-front : goal.returns-then-self-front
returns-then-self-front c count = byte_of_front count c.args.self _ c.front-front.ensures c.if-self-front.true

pub bounds-back-behind : goal.bounds-back-behind
bounds-back-behind c =
    let at = behind_front c.args.self _ _ _ c.front-front.ensures c.number-number.ensures.is c.digit_count-digits.ensures.count c.if-self-front.false in
    within_back c.args.self _ _ _ _ at c.back.ensures c.if-behind-digits.false

pub returns-then-behind-digits : goal.returns-then-behind-digits
returns-then-behind-digits c count =
    let at = behind_front c.args.self _ _ _ c.front-front.ensures c.number-number.ensures.is c.digit_count-digits.ensures.count c.if-self-front.false in
    byte_of_number count c.args.self _ _ _ _ at c.if-behind-digits.true c.digit_at.ensures

pub returns-else-behind-digits : goal.returns-else-behind-digits
returns-else-behind-digits c count =
    let at = behind_front c.args.self _ _ _ c.front-front.ensures c.number-number.ensures.is c.digit_count-digits.ensures.count c.if-self-front.false in
    byte_of_back count c.args.self _ _ _ _ at c.back.ensures c.if-behind-digits.false
