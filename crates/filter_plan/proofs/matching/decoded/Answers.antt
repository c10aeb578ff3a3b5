use Rattle.std.proofs.Common.{rules, ◌≡◌, ◌++◌, ◌∷◌, []}
use Rattle.filter_plan.proofs.Decoding.{decoded_up_to_next}
use Rattle.filter_plan.proofs.matching.decoded.Goals as goal

pub words-preserved : goal.words-preserved
words-preserved c =
    let made : c.push.new.self.items ≡ c.words.texts.items ++ c.in-Some.text ∷ [] = search rules in
    decoded_up_to_next (λ t. t.now) c.args.words.now c.words.word-index c.word-item.result c.words.texts.items c.push.new.self.items c.in-Some.text c.words-test.true c.word-item.is c.words.invariant
    c.in-Some.ensures made
