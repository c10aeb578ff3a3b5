use Rattle.word_syntax.proofs.texts.Midways.{midway_more, stopped_at_bytes, stopped_at_token}
use Rattle.word_syntax.proofs.read.read_tokens.Goals as goal

pub returns-then-not-branch : goal.returns-then-not-branch
returns-then-not-branch c = stopped_at_token c.args.bytes.now c.tokens.at c.in-Token.start c.in-Token.end c.tokens.reader c.in-Token.token c.tokens.invariant
    (rw c.in-Token.is at c.in_ok-token.ensures) (rw c.if-not-branch.true at c.in_ok-step-in-Token.ensures)

pub tokens-preserved : goal.tokens-preserved
tokens-preserved c = midway_more c.args.bytes.now c.tokens.at c.in-Token.start c.in-Token.end c.tokens.reader c.step.new.self c.in-Token.token c.tokens.invariant
    (rw c.in-Token.is at c.in_ok-token.ensures) (rw c.if-not-branch.false at c.in_ok-step-in-Token.ensures)

pub returns-then-place-bytes : goal.returns-then-place-bytes
returns-then-place-bytes c = stopped_at_bytes c.args.bytes.now c.tokens.at c.in-Nothing.place c.tokens.reader c.tokens.invariant (rw c.in-Nothing.is at c.in_ok-token.ensures) c.if-place-bytes.true
