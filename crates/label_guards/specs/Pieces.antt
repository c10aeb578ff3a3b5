-- Texts that are made of pieces.
use Rattle.std.specs.Prelude.{◌≡◌, ℕ, ◌-◌, Bool, true, false, ◌||◌, List, [], ◌∷◌, ◌++◌, map, flat_map, codes}
use Rattle.aut_base.specs.CanonicalLabel as canonical
use Rattle.aut_base.specs.CanonicalLabel.{cubes}
use Rattle.aut_base.specs.LabelText.{joined, literal_text}
use Rattle.aut_base.specs.Valuation.{holds_in}
use Rattle.label_guards.specs.declared.cubes.Literal.{Literal}
use Rattle.label_guards.specs.Nodes.{level}
use Rattle.label_guards.specs.Store.{Store, outcome}

-- the text that was there, and what came behind it
abbrev pub IsLonger : List ℕ → List ℕ → Type 0
IsLonger old new = (more : List ℕ) × (new ≡ old ++ more)

-- the pieces, each after the separator
abbrev pub each_after : List ℕ → List (List ℕ) → List ℕ
each_after separator pieces = flat_map (λ piece. separator ++ piece) pieces

-- the pieces that follow others, or that are the first
abbrev pub pieces_after : Bool → List ℕ → List (List ℕ) → List ℕ
pieces_after true separator pieces = each_after separator pieces
pieces_after false separator pieces = joined separator pieces

-- a cube, or `t` if it has no literal
abbrev pub cube_piece : List canonical.Literal → List ℕ
cube_piece [] = codes "t"
cube_piece (l ∷ ls) = joined (codes "&") (map literal_text (l ∷ ls))

abbrev pub literal_of : Literal → canonical.Literal
literal_of l = record { prop = l.prop; holds = l.holds }

abbrev pub is_any : {A : Type 0} → List A → Bool
is_any [] = false
is_any (x ∷ xs) = true

-- the valuation of the propositions from the i-th on, where those before it fail
abbrev pub shifted : ℕ → List Bool → ℕ → Bool
shifted i v k = holds_in v (k - i)

-- the cubes of a place, over the propositions from the i-th on
abbrev pub cubes_from : Store → ℕ → ℕ → List (List canonical.Literal)
cubes_from s i place = cubes i (s.names - i) (λ v. outcome s.nodes (shifted i v) place)

-- the cubes of a place
unfoldable pub place_cubes : Store → ℕ → List (List canonical.Literal)
place_cubes s place = cubes_from s (level s place) place

-- The cubes are written under these literals, and `now` says whether there is a cube yet.
pub record WritesCubes (literals : List canonical.Literal) (cs : List (List canonical.Literal)) (before now : Bool) (old new : List ℕ) : Type 0 where
  pub text : new ≡ old ++ pieces_after before (codes " | ") (map (λ cube. cube_piece (literals ++ cube)) cs)
  pub some : now ≡ (before || is_any cs)
