use Rattle.std.proofs.Common.{◌∙◌, sym}
use Rattle.aut_core.proofs.Growth.{keeps_none}
use Rattle.ap_project.proofs.GuardLabels.{hidden_goes_below, hidden_kept, hidden_moved, table_kept, table_more}
use Rattle.ap_project.proofs.guards.hidden_guard.Goals as goal

pub bring-requires-clause-within : goal.bring-requires-clause-within
bring-requires-clause-within c =
    let hiding = c.args.hiding.now in
    let long = c.requires.count ∙ sym c.hide.ensures.keeps.names in
    hidden_goes_below c.args.given.now c.hide.new.store hiding.how hiding.prop hiding.to c.args.g _ _ c.requires.prop c.requires.alone long c.requires.within c.in_ok-hidden.ensures.hidden

pub returns-clause-done : goal.returns-clause-done
returns-clause-done c =
    let hiding = c.args.hiding.now in
    let is = hidden_moved hiding.how hiding.prop hiding.to c.args.g _ _ c.requires.has c.in_ok-hidden.ensures.hidden c.in_ok-found.ensures.brought in
    table_more c.hide.new.store c.bring.new.self hiding.how hiding.prop hiding.to _ _ c.args.g _ c.in_ok-put_done.ensures
    (table_kept c.hide.ensures.keeps c.bring.ensures.keeps hiding.how hiding.prop hiding.to _ c.requires.done)
    (hidden_kept c.hide.ensures.keeps (keeps_none _) hiding.how hiding.prop hiding.to c.args.g _ is)

pub returns-clause-hidden : goal.returns-clause-hidden
returns-clause-hidden c =
    let hiding = c.args.hiding.now in
    hidden_moved hiding.how hiding.prop hiding.to c.args.g _ _ c.requires.has c.in_ok-hidden.ensures.hidden c.in_ok-found.ensures.brought
