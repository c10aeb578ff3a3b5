use Rattle.label_guards.proofs.guards.Guards.bring.Goals as goal

pub bring_more-requires-clause-before : goal.bring_more-requires-clause-before
bring_more-requires-clause-before c = c.new-brought.ensures c.args.other.now c.args.self.now c.args.to.now
