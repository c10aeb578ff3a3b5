use Rattle.std.proofs.Common.{◌≡◌, rules, true}
use Rattle.std.proofs.lemmas.Result.{IfOk-weaker}
use Rattle.word_syntax.proofs.grammar.InLetters.{word_takes}
use Rattle.word_syntax.specs.inner.Machine as machine
use Rattle.word_syntax.proofs.word.WordReader.in_letter.Goals as goal

pub returns : goal.returns
returns c =
    let has : machine.has_letters c.args.self.now.stage ≡ true = search rules in
    IfOk-weaker c.step.result _ _ (λ taken said. word_takes c.args.self.now c.args.token c.step.new.names c.step.new.self taken c.requires.of_letter has said) c.step.ensures
