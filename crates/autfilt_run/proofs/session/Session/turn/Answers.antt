use Rattle.autfilt_run.proofs.session.Session.turn.Goals as goal

pub returns-else-self-clause-step : goal.returns-else-self-clause-step
returns-else-self-clause-step g c = c.open_next.ensures.step (g.W.Sink.seen c.args.out.now)
