use Rattle.std.proofs.Common.{◌∙◌, ap, arith, get_or, length, rules, subst, sym}
use Rattle.std.proofs.lemmas.Simd.{map-map}
use Rattle.std.specs.List.{slice_index_or}
use Rattle.aut_base.specs.Automaton.{LabelledEdge}
use Rattle.label_guards.specs.Guards.{AreNames, IsGuardOf, truth_in}
use Rattle.label_guards.specs.Store.{Store}
use Rattle.label_guards.specs.Tables.{AreBrought}
use Rattle.aut_core.specs.SymbolicAutomata.{edge_of}
use Rattle.aut_core.specs.OtherNames.{label_over}
use Rattle.aut_core.specs.declared.link.Link.{Link}
use Rattle.aut_core.proofs.Following.{stand_all, stand_more}
use Rattle.aut_core.proofs.Growth.{keeps_none, keeps_on}
use Rattle.aut_core.proofs.OtherNames.{brought_label}
use Rattle.aut_core.proofs.automaton.Automaton.links_over.Goals as goal

pub links-init : goal.links-init
links-init c = record { keeps = keeps_none c.args.guards.now; done = c.new-done.ensures c.args.self.now.store c.args.guards.now c.args.to.now; links = search rules }

pub bring_more-requires-clause-before : goal.bring_more-requires-clause-before
bring_more-requires-clause-before c = subst (λ (s : Store). AreBrought s c.links.guards c.args.to.now c.links.done) (sym c.guards.ensures) c.links.invariant.done

pub links-preserved : goal.links-preserved
links-preserved c =
    let old = c.args.self.now in
    let link = c.link-item.result in
    let given = c.links-link-items.ensures in
    let kept = keeps_on c.links.invariant.keeps c.bring_more.ensures.keeps in
    let names : AreNames c.bring_more.new.self c.args.names.now = (c.requires.names.0 ∙ sym kept.names, c.requires.names.1) in
    let brought = subst (λ (s : Store). IsGuardOf c.bring_more.new.self (λ on. truth_in s link.guard (λ k. on (slice_index_or c.args.to.now k 0))) c.in_ok-bring_more.field-0) c.guards.ensures
    c.in_ok-bring_more.ensures.brought in
    let label = brought_label old.store c.bring_more.new.self old.names c.args.names.now c.args.to.now link.guard c.in_ok-bring_more.field-0 c.well_formedness.ensures.parts.store_names names
    c.requires.places brought in
    let marks = c.in_ok-copy_marks.ensures in
    record {
      keeps = kept;
      done = subst (λ (s : Store). AreBrought s c.bring_more.new.self c.args.to.now c.bring_more.new.brought) c.guards.ensures c.bring_more.ensures.so_far;
      links = stand_more (λ (m : Link). record (edge_of old.store m) { label = label_over old.names c.args.names.now (edge_of old.store m).label }) old.links c.links.link-index link
          c.links.guards c.bring_more.new.self c.links.links c.push.new.self (record { from = link.from; guard = c.in_ok-bring_more.field-0; to = link.to; marks = c.in_ok-copy_marks.field-0 })
          (omega (arith, ap length given, c.links-test.true)) (c.link-item.is ∙ ap (λ ls. get_or ls c.links.link-index link) given) c.links.invariant.links c.bring_more.ensures.keeps brought.has
          (λ i. record { from = link.from; label = label i; to = link.to; marks = marks i }) c.in_ok-push.ensures.ok;
    }

pub returns-in_err-bring_more-clause-keeps : goal.returns-in_err-bring_more-clause-keeps
returns-in_err-bring_more-clause-keeps c = keeps_on c.links.invariant.keeps c.bring_more.ensures.keeps

pub returns-in_err-copy_marks-clause-keeps : goal.returns-in_err-copy_marks-clause-keeps
returns-in_err-copy_marks-clause-keeps c = keeps_on c.links.invariant.keeps c.bring_more.ensures.keeps

pub returns-in_err-push-clause-keeps : goal.returns-in_err-push-clause-keeps
returns-in_err-push-clause-keeps c = keeps_on c.links.invariant.keeps c.bring_more.ensures.keeps

pub returns-clause-edges : goal.returns-clause-edges
returns-clause-edges c =
    let old = c.args.self.now in
    let all = stand_all (λ (m : Link). record (edge_of old.store m) { label = label_over old.names c.args.names.now (edge_of old.store m).label }) old.links c.links.link-index c.links.guards
    c.links.links (omega (arith, ap length c.links-link-items.ensures, c.links-test.false)) c.links.invariant.links in
    record {
      has = c.links.invariant.links.has;
      edges = all ∙ sym (map-map (λ (e : LabelledEdge). record e { label = label_over old.names c.args.names.now e.label }) (edge_of old.store) old.links);
    }
