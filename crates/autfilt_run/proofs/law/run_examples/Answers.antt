use Rattle.autfilt_run.proofs.running.RunExamples as examples
use Rattle.autfilt_run.proofs.law.run_examples.Goals as goal

pub returns : goal.returns
returns c = examples.run_examples
