-- Prefixes of a lasso word that are its stem and some copies of its cycle: their length, their letters, and longer ones.
use Rattle.std.proofs.Common.{◌≡◌, ◌∙◌, ◌+◌, ◌*◌, ◌<◌, ◌≤◌, ℕ, List, ◌++◌, ap, append_assoc, arith, length, slice_get, sym}
use Rattle.std.proofs.Math.Nat.{le-mul_of_pos_right}
use Rattle.std.proofs.lemmas.List.{length-append}
use Rattle.aut_base.proofs.lists.Copies.{copies-add, copies-copies, length-copies}
use Rattle.aut_base.proofs.words.Spelled.{word_letter}
use Rattle.aut_base.specs.Word.{NameSet, copies, letter_at}

pub more_turns : (j k r : ℕ) (u v : List NameSet) → (u ++ copies j v) ++ copies k (copies r v) ≡ u ++ copies (j + k * r) v
more_turns j k r u v = append_assoc u (copies j v) (copies k (copies r v)) ∙ ap (λ w. u ++ w) (ap (λ w. copies j v ++ w) (copies-copies k r v) ∙ sym (copies-add j (k * r) v))

pub covers : (t : ℕ) (u v : List NameSet) → 0 < length v → t ≤ length (u ++ copies t v)
covers t u v some = let wide : t ≤ t * length v = le-mul_of_pos_right t some in omega (arith, wide, length-append u (copies t v), length-copies t v)

-- the letters of such a prefix
pub letter_in : (u v : List NameSet) (t k : ℕ) → 0 < length v → k < length (u ++ copies t v) → letter_at u v k ≡ slice_get (u ++ copies t v) k
letter_in u v t k some within = word_letter u v t k some (omega (arith, within, length-append u (copies t v), length-copies t v))
