use Rattle.std.proofs.Common.{[], refl, sym, ap, ◌∙◌}
use Rattle.hoa_parser.proofs.grammar.OtherTokens.{other}
use Rattle.hoa_parser.proofs.reading.ItemsRead.{header_again, header_last, item_behind, no_item}
use Rattle.hoa_parser.proofs.reading.RuleParts.{uses_then}
use Rattle.hoa_parser.proofs.reading.Steps.{handed_on, token_refused}
use Rattle.hoa_parser.specs.inner.Expecting.{Items, header_move}
use Rattle.hoa_parser.proofs.parse.item.item.Goals as goal

pub returns-in_default-clause-reads : goal.returns-in_default-clause-reads
returns-in_default-clause-reads g c = token_refused Items [] _ _ c.requires.unspent c.refused.ensures (other Items _ (c.in_default.not-HeaderName, c.requires.no_body))

pub returns-in-Opening-clause-reads : goal.returns-in-Opening-clause-reads
returns-in-Opening-clause-reads g c =
    rw c.in-HeaderName.is (token_refused Items [] _ _ c.requires.unspent c.refused-in-Opening.ensures (ap header_move (sym c.header_named-header.ensures)
    ∙ no_item c.header_named-header.result c.in-Opening.is))

pub returns-in_err-name-clause-reads : goal.returns-in_err-name-clause-reads
returns-in_err-name-clause-reads g c = handed_on _ _ _ c.from_residual.ensures.1
    (rw c.in-HeaderName.is (header_last c.in-HeaderName.name c.header_named-header.result c.header_named-header.ensures c.in_default-header.not-Opening c.in_default-header.not-State refl
    c.in_err-name.ensures.advances))

pub returns-clause-reads : goal.returns-clause-reads
returns-clause-reads g c =
    rw c.in-HeaderName.is (item_behind c.in-HeaderName-2.name c.header_named-header.result c.item_of.result _
    (header_again c.header_named-header.result c.in-HeaderName.name c.in-HeaderName-2.name c.header_named-header.ensures (sym c.in_ok-name.ensures.takes ∙ c.in-HeaderName-2.is))
    c.in_default-header.not-Opening c.in_default-header.not-State (sym c.in_ok-name.ensures.takes ∙ c.in-HeaderName-2.is) c.in_ok-name.ensures.advances c.item_of.ensures.reads)

pub returns-clause-uses : goal.returns-clause-uses
returns-clause-uses g c = uses_then _ _ _ c.item_of.result _ c.in_ok-name.ensures.advances c.item_of.ensures.reads
