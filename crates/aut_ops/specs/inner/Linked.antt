-- The links of the second automaton of a sum.
use Rattle.std.specs.Prelude.{ℕ, ◌+◌, [], ◌∷◌, ◌++◌, map}
use Rattle.aut_core.specs.declared.link.Link.{Link}

-- the link with the numbers of its states and sets raised, also in the set `fresh`
abbrev pub moved_link : ℕ → ℕ → ℕ → Link → Link
moved_link states sets fresh l = record { from = l.from + states; guard = l.guard; to = l.to + states; marks = map (λ mark. mark + sets) l.marks ++ fresh ∷ [] }
