use Rattle.std.proofs.Common.{◌∙◌, ◌++◌, sym, ap, map}
use Rattle.std.proofs.lemmas.Result.{on_ok_weaker}
use Rattle.label_guards.specs.Pieces.{literal_of}
use Rattle.label_guards.proofs.labelled.PlaceCubes.{label_of_cubes, label_written, no_label_written}
use Rattle.label_guards.proofs.guards.Guards.push_cubes.Goals as goal

pub returns-in-Some-clause-ok : goal.returns-in-Some-clause-ok
returns-in-Some-clause-ok c =
    let text = label_of_cubes c.args.self.now c.reduced.ensures c.args.g c.requires _ c.in-Some.ensures in
    on_ok_weaker c.push_literal.result (λ e. e ∙ ap (λ t. c.args.out.now ++ t) (sym text)) c.push_literal.ensures.ok

pub returns-then-is_written-clause-ok : goal.returns-then-is_written-clause-ok
returns-then-is_written-clause-ok c = label_written _ c.reduced.ensures c.args.g c.requires _ _ _ _ (ap (map literal_of) c.new-cube.ensures.items) c.in_ok-is_written.ensures.cubes c.if-is_written.true

pub returns-clause-ok : goal.returns-clause-ok
returns-clause-ok c = on_ok_weaker c.push.result
    (λ e. no_label_written c.args.self.now c.reduced.ensures c.args.g c.requires _ _ _ _ _ c.in_ok-is_written.ensures.cubes c.if-is_written.false e) c.push.ensures.ok
