use Rattle.std.proofs.Common.{◌∙◌, ap}
use Rattle.std.specs.FinSet.{contains}
use Rattle.aut_base.proofs.words.LetterNames.{contains_as_found}
use Rattle.aut_base.proofs.letter.Letter.has.Goals as goal

pub returns : goal.returns
returns c = contains_as_found c.self.inside.names _ _ c.has.ensures ∙ ap (λ letter. contains letter c.args.name.now) c.self.view_is
