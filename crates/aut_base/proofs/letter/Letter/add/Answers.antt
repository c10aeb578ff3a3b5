use Rattle.std.proofs.Common.{◌∙◌, sym, ap}
use Rattle.std.specs.FinSet.{insert}
use Rattle.aut_base.proofs.words.LetterNames.{insert_listed, pushed_ok}
use Rattle.aut_base.proofs.letter.Letter.add.Goals as goal

pub returns-then-has-clause-ok : goal.returns-then-has-clause-ok
returns-then-has-clause-ok c =
    sym c.self.view_is ∙ (insert_listed c.self.inside.names c.args.name c.if-has.ensures ∙ ap (λ letter. insert letter c.args.name) c.self.view_is)

pub returns-clause-ok : goal.returns-clause-ok
returns-clause-ok c = pushed_ok c.self.inside.names _ c.args.name _ _ c.self.view_is c.push.ensures.ok
