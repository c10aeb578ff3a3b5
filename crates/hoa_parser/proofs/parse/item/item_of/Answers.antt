use Rattle.hoa_parser.proofs.reading.ItemsRead.{is_other, item_of_form, other_read}
use Rattle.hoa_parser.proofs.reading.Steps.{handed_on, reads_as}
use Rattle.hoa_parser.proofs.parse.item.item_of.Goals as goal

pub returns-in_default : goal.returns-in_default
returns-in_default g c = record { reads = item_of_form c.args.header c.args.name c.known_item.result _ _ c.known_item.ensures.reads }

pub returns-in_ok-values-in-Other : goal.returns-in_ok-values-in-Other
returns-in_ok-values-in-Other g c = record
    { reads = rw (is_other c.args.header c.requires.no_opening c.requires.no_state c.in-Other.is) (reads_as (λ a b p. other_read c.args.name _ a b p) c.in_ok-values-in-Other.ensures.reads) }

pub returns-in_err-values-in-Other : goal.returns-in_err-values-in-Other
returns-in_err-values-in-Other g c = record
    { reads = handed_on _ _ _ c.from_residual.ensures.1 (rw (is_other c.args.header c.requires.no_opening c.requires.no_state c.in-Other.is) c.in_err-values-in-Other.ensures.reads) }
