use Rattle.std.proofs.lemmas.Result.{IfOk-weaker}
use Rattle.aut_base.proofs.lists.Members.{read_has}
use Rattle.aut_core.proofs.Growth.{keeps_none, keeps_on}
use Rattle.aut_core.specs.declared.link.Link.{Link}
use Rattle.label_guards.specs.Store.{Has}
use Rattle.aut_ops.proofs.links.Linked.{met_more, none_met}
use Rattle.aut_ops.proofs.completion.gap_of.Goals as goal

pub row-init : goal.row-init
row-init c = record { keeps = keeps_none c.args.guards.now; met = c.never-met.ensures }

pub or-requires-clause-right : goal.or-requires-clause-right
or-requires-clause-right c = c.row.invariant.keeps.has c.link-item.result.guard
    (read_has (λ (l : Link). Has c.args.guards.now l.guard) c.args.row.now c.row.link-index c.link-item.result c.requires c.row-test.true c.link-item.is)

pub returns-in_err-met-clause-keeps : goal.returns-in_err-met-clause-keeps
returns-in_err-met-clause-keeps c = keeps_on c.row.invariant.keeps c.or.ensures.keeps

pub row-preserved : goal.row-preserved
row-preserved c =
    let has = read_has (λ (l : Link). Has c.args.guards.now l.guard) c.args.row.now c.row.link-index c.link-item.result c.requires c.row-test.true c.link-item.is in
    record {
      keeps = keeps_on c.row.invariant.keeps c.or.ensures.keeps;
      met = met_more c.args.guards.now c.row.guards c.or.new.self c.args.row.now c.row.link-index c.link-item.result c.row.met c.in_ok-met.met c.row-test.true c.link-item.is has
          c.row.invariant.keeps c.row.invariant.met c.in_ok-met.ensures.or;
    }

pub returns-clause-keeps : goal.returns-clause-keeps
returns-clause-keeps c = keeps_on c.row.invariant.keeps c.not.ensures.keeps

pub returns-clause-label : goal.returns-clause-label
returns-clause-label c = IfOk-weaker c.not.result _ _
    (λ gap is. none_met c.args.guards.now c.row.guards c.not.new.self c.args.row.now c.row.link-index c.row.met gap c.row-test.false c.row.invariant.keeps.names c.not.ensures.keeps.names
    c.row.invariant.met is) c.not.ensures.not
