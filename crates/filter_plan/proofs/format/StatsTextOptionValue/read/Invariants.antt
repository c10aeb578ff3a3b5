use Rattle.std.proofs.Common.{◌≡◌, ◌++◌, ℕ, List, flat_map, length}
use Rattle.filter_plan.specs.Formats.{piece_text}
use Rattle.filter_plan.specs.declared.format.Piece.{Piece}
use Rattle.filter_plan.proofs.format.StatsTextOptionValue.read.Given as goal

pub record IsMidway (text : List ℕ) (pieces : List Piece) (rest : List ℕ) : Type 0 where
  pub so_far : flat_map piece_text pieces ++ rest ≡ text
  pub left : (whole : List Piece) → text ≡ flat_map piece_text whole → (more : List Piece) × (rest ≡ flat_map piece_text more)

abbrev pub invariant-pieces : goal.invariant-pieces
invariant-pieces l = IsMidway l.text l.pieces l.rest

abbrev pub decreases-pieces : goal.decreases-pieces
decreases-pieces l = length l.rest
