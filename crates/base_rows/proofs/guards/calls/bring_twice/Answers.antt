use Rattle.base_rows.proofs.guards.calls.bring_twice.Goals as goal

pub bring_more-requires-clause-before : goal.bring_more-requires-clause-before
bring_more-requires-clause-before c = c.new-brought.ensures c.args.other.now c.args.store.now c.args.to.now
