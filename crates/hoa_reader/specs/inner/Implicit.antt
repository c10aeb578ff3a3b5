-- Labels that are implicit at every state (HOA v1, implicit labels).
use Rattle.std.specs.Prelude.{◌≡◌, ℕ, ◌+◌, ◌^◌, ◌==◌, ◌&&◌, Bool, true, List, [], ◌∷◌, is_none, length}
use Rattle.hoa_parser.specs.Raw.{WrittenState}
use Rattle.hoa_reader.specs.Validity.{no_edge_labelled}

-- the state has no label, and an edge for each letter over n names
abbrev pub is_implicit : ℕ → WrittenState → Bool
is_implicit n s = (is_none s.label && no_edge_labelled s) && (length s.edges == 2 ^ n)

-- they are all so, and their numbers are those from k on, in order
abbrev pub each_implicit : ℕ → ℕ → List WrittenState → Bool
each_implicit n k [] = true
each_implicit n k (s ∷ ss) = ((s.number == k) && is_implicit n s) && each_implicit n (k + 1) ss

-- so it is at each state below this number
pub record AreImplicit (n count : ℕ) (states : List WrittenState) : Type 0 where
  pub size : length states ≡ count
  pub each : each_implicit n 0 states ≡ true
