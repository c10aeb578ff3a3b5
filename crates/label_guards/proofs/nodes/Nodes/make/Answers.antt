use Rattle.label_guards.specs.Nodes.{IsReducedDiagram}
use Rattle.label_guards.specs.Store.{Store}
use Rattle.label_guards.proofs.diagrams.Reduced.{make_reduced, pushed_is_reduced}
use Rattle.label_guards.proofs.nodes.Nodes.make.Goals as goal
use Rattle.label_guards.proofs.nodes.Nodes.make.Goals.{in-Some, in-None}

pub invariant_of-self : goal.invariant_of-self
invariant_of-self c = make_reduced _ _ c.self.view_is c.self.invariant _ _ _ c.requires.low c.requires.high c.requires.low_later c.requires.high_later c.if-low-high.false _ c.insert.ensures.adds

pub invariant_of-self-2 : goal.invariant_of-self-2
invariant_of-self-2 c = make_reduced _ _ c.self.view_is c.self.invariant _ _ _ c.requires.low c.requires.high c.requires.low_later c.requires.high_later c.if-low-high.false _ c.insert.ensures.adds

pub returns-clause-made : goal.returns-clause-made
returns-clause-made c =
    let new : Store = record { names = c.self.inside.names; nodes = c.insert.new.self } in
    let is : IsReducedDiagram new.names new.nodes = make_reduced _ _ c.self.view_is c.self.invariant _ _ _ c.requires.low c.requires.high c.requires.low_later c.requires.high_later
    c.if-low-high.false _ c.insert.ensures.adds in
    elim c.match-checked_add.branch [
      | in-Some w ↦ rw w.result-is (pushed_is_reduced new is _ _ _ c.in_ok-index.index _ w.in-Some.ensures.1 c.in_ok-index.ensures.stored)
      | in-None w ↦ rw w.result-is tt
    ]
