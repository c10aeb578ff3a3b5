use Rattle.std.proofs.Common.{◌∙◌, ◌<◌, ap, arith, get_or, length, sym}
use Rattle.aut_base.proofs.lists.Members.{read_has}
use Rattle.label_guards.specs.Store.{Has}
use Rattle.aut_core.proofs.Following.{stand_more}
use Rattle.aut_core.proofs.Growth.{keeps_on}
use Rattle.ap_project.proofs.GuardLabels.{hidden_before, hidden_label_in}
use Rattle.ap_project.proofs.OtherNames.{only_name}
use Rattle.ap_project.specs.inner.HiddenGuards.{hidden_link}
use Rattle.ap_project.proofs.removal.add_hidden.Goals as goal

pub hidden_guard-requires-clause-alone : goal.hidden_guard-requires-clause-alone
hidden_guard-requires-clause-alone c none =
    let a = c.args.a.now in
    let one = only_name a.names c.well_formedness.ensures.well_formed.names_differ c.args.hiding.now.prop c.requires.prop (sym (c.links.invariant.names ∙ c.requires.names) ∙ none) in
    c.links.invariant.given.names ∙ (c.well_formedness.ensures.parts.store_names ∙ one)

pub links-preserved : goal.links-preserved
links-preserved c =
    let a = c.args.a.now in
    let hiding = c.args.hiding.now in
    let link = c.link-item.result in
    let items = c.links-link-items.ensures in
    let within : c.links.link-index < length a.links = omega (arith, ap length items, c.links-test.true) in
    let at = c.link-item.is ∙ ap (λ ls. get_or ls c.links.link-index link) items in
    let given = c.in_ok-guard.ensures.given in
    let made = c.in_ok-guard.ensures.made in
    let found = c.in_ok-guard.guard in
    let names = made.names ∙ c.links.invariant.names in
    let has : Has a.store link.guard = read_has (λ l. Has a.store l.guard) a.links c.links.link-index link (λ k d less. (c.well_formedness.ensures.parts.links k d less).guard) within at in
    let is = hidden_before c.hidden_guard.new.made c.links.invariant.given hiding.how hiding.prop hiding.to link.guard found has c.in_ok-guard.ensures.hidden in
    let well_formed = c.well_formedness.ensures.well_formed in
    let parts = c.well_formedness.ensures.parts in
    let label = hidden_label_in a.store c.hidden_guard.new.made a.names hiding.how hiding.prop hiding.to link.guard found
    c.requires.prop well_formed.names_differ parts.store_names (names ∙ c.requires.names) c.requires.places is in
    let marks = c.in_ok-copy_marks.ensures in
    record {
      given = keeps_on c.links.invariant.given given;
      names = names;
      done = c.in_ok-guard.ensures.done;
      links = stand_more (hidden_link hiding.how hiding.prop a) a.links c.links.link-index link c.links.guards c.hidden_guard.new.made c.links.links c.push.new.self
          (record { from = link.from; guard = found; to = link.to; marks = c.in_ok-copy_marks.field-0 }) within at c.links.invariant.links made is.has
          (λ i. record { from = link.from; label = label i; to = link.to; marks = marks i }) c.in_ok-push.ensures.ok;
    }
