use Rattle.std.proofs.Common.{ℕ, List, inl}
use Rattle.autfilt_run.proofs.running.Arguments.{holds_of_words}
use Rattle.autfilt_run.specs.Answers.{EndsProgram}
use Rattle.autfilt_run.proofs.system.answering.answer.Goals as goal

pub returns-in-Ok-clause-ran : goal.returns-in-Ok-clause-ran
returns-in-Ok-clause-ran g c =
    let seen = g.I.Inputs.seen in
    let written = g.W.Sink.seen in
    let noted = g.M.Sink.seen in
    holds_of_words _ _ c.args.args _
    (λ (words : List (List ℕ)). EndsProgram words c.exit_code.result (seen c.args.inputs.now) (seen c.autfilt.new.inputs) (written c.args.out.now) (written c.autfilt.new.out)
    (noted c.args.notes.now) (noted c.autfilt.new.notes))
    c.in-Ok.ensures.words
    (inl (record {
      answer = c.autfilt.result;
      status = c.exit_code.ensures;
      run = c.autfilt.ensures.run;
      causes = c.autfilt.ensures.causes;
      usage = c.autfilt.ensures.usage;
      refused = c.autfilt.ensures.refused;
      untouched = c.autfilt.ensures.untouched;
    }))
