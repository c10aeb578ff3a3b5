-- The value of the option that hides a proposition: its name, and how it is hidden.
use Rattle.std.specs.Prelude.{List, ℕ, [], codes}
use Rattle.word_syntax.specs.Tokens.{IsWordFront}
use Rattle.word_syntax.specs.declared.token.Token.TheVariants.{Name}
use Rattle.filter_plan.specs.declared.plan.Hidden.{Hidden}
use Rattle.ap_project.specs.declared.hide.Hide.{Hide}
use Rattle.ap_project.specs.declared.hide.Hide.TheVariants.{Any, Absent, Present}

-- the text after the name, which says how the proposition is hidden
abbrev pub suffix : Hide → List ℕ
suffix Any = []
suffix Absent = codes "=0"
suffix Present = codes "=1"

-- the text is the spelling of the name and then the suffix
abbrev pub IsHideOption : List ℕ → Hidden → Type 0
IsHideOption text h = IsWordFront text (Name h.name) (suffix h.how)
