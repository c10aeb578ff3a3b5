use Rattle.std.proofs.Common.{◌∙◌, List, ap, sym}
use Rattle.std.proofs.lemmas.Result.{IfOk-weaker}
use Rattle.std.specs.Option.{option_map}
use Rattle.hoa_parser.specs.Raw.{written_edge, written_state}
use Rattle.hoa_reader.proofs.labels.WrittenLabels.{has_none, has_written}
use Rattle.hoa_reader.specs.Described.{expanded}
use Rattle.hoa_reader.specs.declared.elaborate.parts.AliasDef.{AliasDef}
use Rattle.hoa_reader.specs.inner.Growing.{meanings_by}
use Rattle.hoa_reader.specs.inner.PickedOut.{label_refs}
use Rattle.hoa_reader.proofs.elaborate.edges.label_of.Goals as goal

pub returns-in-Some : goal.returns-in-Some
returns-in-Some c =
    IfOk-weaker c.expand.result _ _ (λ new is. is
    ∙ ap (λ (defs : List AliasDef). expanded (meanings_by defs) (label_refs c.in-Some.label)) c.deref.ensures.value
    ∙ has_written c.args.shared.now (written_state c.args.state.now) c.args.letter (written_edge c.args.edge.now) (label_refs c.in-Some.label)
    (sym c.label_written.ensures ∙ ap (option_map label_refs) c.in-Some.is)) c.expand.ensures

pub returns-in-None : goal.returns-in-None
returns-in-None c =
    IfOk-weaker c.letter_label.result _ _
    (λ new is. is ∙ has_none c.args.shared.now (written_state c.args.state.now) c.args.letter (written_edge c.args.edge.now)
    (sym c.label_written.ensures ∙ ap (option_map label_refs) c.in-None.is)) c.letter_label.ensures
