use Rattle.std.proofs.Common.{subst, ◌↔◌, Contains, IsTrue}
use Rattle.std.specs.FinSet.{contains}
use Rattle.aut_base.proofs.words.LetterNames.{NameSet, contains_listed}
use Rattle.aut_base.proofs.letter.Letter.names.Goals as goal

pub returns-clause-members : goal.returns-clause-members
returns-clause-members c = λ name. let P : NameSet
    → Type 0 = λ letter. IsTrue (contains letter name) ↔ Contains c.self.inside.names name in subst P c.self.view_is (contains_listed c.self.inside.names name)
