use Rattle.std.proofs.Common.{◌∙◌, ◌<◌, All, ap, filter, length, map, subst, sym}
use Rattle.std.proofs.lemmas.Result.{IfOk-weaker}
use Rattle.aut_core.specs.SymbolicAutomata.{automaton_of}
use Rattle.aut_core.specs.declared.link.Link.{Link}
use Rattle.aut_ops.proofs.flagged.Alone.{links_from_states, links_to_states, numbered_alone, starts_states}
use Rattle.aut_ops.proofs.flagged.Ranks.{ranks_count}
use Rattle.aut_ops.specs.Satisfiable.{is_flagged}
use Rattle.aut_ops.specs.inner.Renumbering.{link_stays, new_link, new_number}
use Rattle.aut_ops.proofs.trimming.flagged_alone.Goals as goal

pub renumbered_links-requires-clause-from : goal.renumbered_links-requires-clause-from
renumbered_links-requires-clause-from c =
    let count = ranks_count c.args.flags.now c.in_ok-new.new.ranks c.in_ok-new.ensures.ranks ∙ c.requires in
    subst (All (λ (l : Link). l.from < length c.in_ok-new.new.ranks)) (sym (c.as_slice.ensures ∙ c.in_ok-staying.ensures))
    (links_from_states c.args.a.now c.well_formedness.ensures (length c.in_ok-new.new.ranks) count (link_stays c.args.a.now c.args.flags.now))

pub renumbered_links-requires-clause-to : goal.renumbered_links-requires-clause-to
renumbered_links-requires-clause-to c =
    let count = ranks_count c.args.flags.now c.in_ok-new.new.ranks c.in_ok-new.ensures.ranks ∙ c.requires in
    subst (All (λ (l : Link). l.to < length c.in_ok-new.new.ranks)) (sym (c.as_slice.ensures ∙ c.in_ok-staying.ensures))
    (links_to_states c.args.a.now c.well_formedness.ensures (length c.in_ok-new.new.ranks) count (link_stays c.args.a.now c.args.flags.now))

pub renumbered-requires : goal.renumbered-requires
renumbered-requires c =
    let count = ranks_count c.args.flags.now c.in_ok-new.new.ranks c.in_ok-new.ensures.ranks ∙ c.requires in
    let flagged = c.as_slice-3.ensures ∙ (c.in_ok-flagged.ensures ∙ ap (filter (is_flagged c.args.flags.now)) (c.as_slice-2.ensures ∙ c.starts.ensures)) in
    subst (All (λ p. p < length c.in_ok-new.new.ranks)) (sym flagged) (starts_states c.args.a.now c.well_formedness.ensures (length c.in_ok-new.new.ranks) count (is_flagged c.args.flags.now))

pub with_states-requires : goal.with_states-requires
with_states-requires c = (numbered_alone c.args.a.now c.args.flags.now c.in_ok-new.new.ranks c.in_ok-flagged.flagged c.in_ok-starts.starts c.in_ok-new.new.count c.in_ok-staying.staying
    c.in_ok-links.links c.well_formedness.ensures c.requires c.in_ok-new.ensures.ranks (c.in_ok-flagged.ensures ∙ ap (filter (is_flagged c.args.flags.now)) (c.as_slice-2.ensures ∙ c.starts.ensures))
    (c.in_ok-starts.ensures ∙ ap (map (new_number c.in_ok-new.new.ranks)) c.as_slice-3.ensures) c.in_ok-new.ensures.count c.in_ok-staying.ensures
    (c.in_ok-links.ensures ∙ ap (map (new_link c.in_ok-new.new.ranks)) c.as_slice.ensures)).parts

pub returns : goal.returns
returns c =
    let made = numbered_alone c.args.a.now c.args.flags.now c.in_ok-new.new.ranks c.in_ok-flagged.flagged c.in_ok-starts.starts c.in_ok-new.new.count c.in_ok-staying.staying
    c.in_ok-links.links c.well_formedness.ensures c.requires c.in_ok-new.ensures.ranks (c.in_ok-flagged.ensures ∙ ap (filter (is_flagged c.args.flags.now)) (c.as_slice-2.ensures ∙ c.starts.ensures))
    (c.in_ok-starts.ensures ∙ ap (map (new_number c.in_ok-new.new.ranks)) c.as_slice-3.ensures) c.in_ok-new.ensures.count c.in_ok-staying.ensures
    (c.in_ok-links.ensures ∙ ap (map (new_link c.in_ok-new.new.ranks)) c.as_slice.ensures) in
    IfOk-weaker c.with_states.result _ _ (λ core e. ap automaton_of e ∙ made.is) c.with_states.ensures
