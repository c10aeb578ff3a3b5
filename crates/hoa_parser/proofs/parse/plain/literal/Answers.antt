use Rattle.hoa_parser.proofs.grammar.RawTrees.{raw_tree-False, raw_tree-Negated, raw_tree-Prop, raw_tree-True}
use Rattle.hoa_parser.proofs.plain.Labels.{false_front, negated_label, number_label, true_front}
use Rattle.hoa_parser.proofs.parse.plain.literal.Goals as goal

pub returns-in_ok-name-in-33 : goal.returns-in_ok-name-in-33
returns-in_ok-name-in-33 c = negated_label _ c.in_ok-name-in-33.name c.in_ok-first.first c.args.bytes.now c.in_ok-first.rest.now c.in_ok-name-in-33.left.now
    (raw_tree-Negated c.in_ok-name-in-33.name) c.in_ok-first.ensures c.in-33.is c.in_ok-name-in-33.ensures

pub returns-else-not-ends_word : goal.returns-else-not-ends_word
returns-else-not-ends_word c = true_front _ c.in_ok-first.first c.args.bytes.now c.in_ok-first.rest.now c.solid.result.now raw_tree-True c.in_ok-first.ensures c.in-116.is
    (c.ends_word.ensures.truth c.if-not-ends_word.false) c.solid.ensures

pub returns-else-not-ends_word-2 : goal.returns-else-not-ends_word-2
returns-else-not-ends_word-2 c = false_front _ c.in_ok-first.first c.args.bytes.now c.in_ok-first.rest.now c.solid-in-102.result.now raw_tree-False c.in_ok-first.ensures c.in-102.is
    (c.ends_word-in-102.ensures.falsity c.if-not-ends_word-2.false) c.solid-in-102.ensures

pub returns-in_ok-name-in_default : goal.returns-in_ok-name-in_default
returns-in_ok-name-in_default c = number_label _ c.in_ok-name-in_default.name c.args.bytes.now c.in_ok-name-in_default.left.now (raw_tree-Prop c.in_ok-name-in_default.name)
    c.in_ok-name-in_default.ensures
