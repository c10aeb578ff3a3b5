-- A text has at most one division into pieces of a format.
use Rattle.std.proofs.Common.{◌≡◌, ◌∙◌, ◌==◌, ℕ, Bool, true, false, cond, List, [], ◌∷◌, ◌++◌, Some, None, ap, flat_map, refl, sym, append_assoc, arith, length}
use Rattle.std.proofs.lemmas.Option.{none-some, same_Some}
use Rattle.std.proofs.lemmas.Bool.Decides.{nat_tests}
use Rattle.std.proofs.lemmas.Grind.{flat_map-append}
use Rattle.std.proofs.lemmas.List.{append-nil}
use Rattle.filter_plan.specs.Formats.{piece_text}
use Rattle.filter_plan.specs.declared.format.Piece.{Piece}
use Rattle.filter_plan.specs.declared.format.Piece.TheVariants.{Byte, States}
use Rattle.filter_plan.specs.inner.FormatPieces.{first_piece}

pub first_of_text : (p : Piece) (rest : List ℕ) → first_piece (piece_text p ++ rest) ≡ Some (p, rest)
first_of_text (Byte b) rest = go (b == 37) refl
  where
    go : (t : Bool) → (b == 37) ≡ t → first_piece (cond t (37 ∷ 37 ∷ []) (b ∷ []) ++ rest) ≡ Some (Byte b, rest)
    go true e = let is : b ≡ 37 = grind (arith, nat_tests) in rw is refl
    go false e = rw e refl
first_of_text States rest = refl
first_of_text _ rest = refl

-- After one more piece was taken, the rest of a text that pieces spell is spelled by further pieces.
pub step_of_format : (bytes rest : List ℕ) (p : Piece) → Some (p, rest) ≡ first_piece bytes → (pieces : List Piece) → bytes ≡ flat_map piece_text pieces
    → (more : List Piece) × (rest ≡ flat_map piece_text more)
step_of_format bytes rest p first [] is = absurd (no_piece (first ∙ ap first_piece is))
  where
    no_piece : Some (p, rest) ≡ first_piece [] → ⊥
    no_piece e = cc
step_of_format bytes rest p first (q ∷ qs) is =
    let same : Some (p, rest) ≡ Some (q, flat_map piece_text qs) = first ∙ (ap first_piece is ∙ first_of_text q (flat_map piece_text qs)) in
    (qs, ap (λ (x : Piece × List ℕ). x.1) (same_Some _ _ same))

-- bytes that begin with no piece are spelled by none
pub no_format : (bytes : List ℕ) → None ≡ first_piece bytes → (length bytes ≡ 0 → ⊥) → (pieces : List Piece) → bytes ≡ flat_map piece_text pieces → ⊥
no_format bytes none some [] is = some (ap length is)
no_format bytes none some (q ∷ qs) is = none-some (q, flat_map piece_text qs) (none ∙ (ap first_piece is ∙ first_of_text q (flat_map piece_text qs)))

-- the text that was read so far, after one more piece
pub format_more : (text bytes rest : List ℕ) (old new : List Piece) (p : Piece) → flat_map piece_text old ++ bytes ≡ text → bytes ≡ piece_text p ++ rest → new ≡ old ++ p ∷ []
    → flat_map piece_text new ++ rest ≡ text
format_more text bytes rest old new p so_far is made =
    ap (λ ps. flat_map piece_text ps ++ rest) made
    ∙ ap (λ t. t ++ rest) (flat_map-append piece_text old (p ∷ []))
    ∙ append_assoc (flat_map piece_text old) (flat_map piece_text (p ∷ [])) rest
    ∙ ap (λ t. flat_map piece_text old ++ (t ++ rest)) (append-nil (piece_text p))
    ∙ ap (λ t. flat_map piece_text old ++ t) (sym is)
    ∙ so_far
