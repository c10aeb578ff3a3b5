-- Valuations of several classes.
use Rattle.std.proofs.Common.{◌≡◌, ℕ, ◌<◌, Bool, false, not, List}
use Rattle.std.specs.List.{list_all}
use Rattle.aut_base.specs.Valuation.{holds_in, number_of}
use Rattle.label_guards.specs.ClassParts.{Test}

-- whether it is in the class of none of these valuations
abbrev pub is_apart : Test → List (List Bool) → (ℕ → Bool) → Bool
is_apart alike vs on = list_all (λ v. not (alike (holds_in v) on)) vs

-- in two classes
abbrev pub AreApart : Test → List Bool → List Bool → Type 0
AreApart alike v w = alike (holds_in v) (holds_in w) ≡ false

-- an earlier and a later one
abbrev pub IsEarlier : Test → List Bool → List Bool → Type 0
IsEarlier alike v w = AreApart alike v w × (number_of v < number_of w)
