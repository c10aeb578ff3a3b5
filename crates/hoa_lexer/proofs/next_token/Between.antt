-- Facts of what the inputs had left before and have left after, combined.
use Rattle.std.proofs.Common.{◌≡◌, List, ℕ, Option, Some, None, refl}
use Rattle.hoa_lexer.specs.Reading.{Between}

pub between_then : (a b c : Option (List ℕ)) (P Q R : List ℕ → List ℕ → Type 0) → ((x y z : List ℕ) → P x y → Q y z → R x z) → Between a b P → Between b c Q → Between a c R
between_then None None c P Q R f h k = k
between_then None (Some y) c P Q R f h k = absurd (let e : Some y ≡ None = h in cc)
between_then (Some x) None c P Q R f h k = absurd h
between_then (Some x) (Some y) None P Q R f h k = absurd k
between_then (Some x) (Some y) (Some z) P Q R f h k = f x y z h k

pub between_as : (a b : Option (List ℕ)) (P Q : List ℕ → List ℕ → Type 0) → ((x y : List ℕ) → P x y → Q x y) → Between a b P → Between a b Q
between_as None b P Q f h = h
between_as (Some x) None P Q f h = absurd h
between_as (Some x) (Some y) P Q f h = f x y h

pub between_both : (a b : Option (List ℕ)) (P Q R : List ℕ → List ℕ → Type 0) → ((x y : List ℕ) → P x y → Q x y → R x y) → Between a b P → Between a b Q → Between a b R
between_both None b P Q R f h k = h
between_both (Some x) None P Q R f h k = absurd h
between_both (Some x) (Some y) P Q R f h k = f x y h k

pub between_same : (a : Option (List ℕ)) (P : List ℕ → List ℕ → Type 0) → ((x : List ℕ) → P x x) → Between a a P
between_same None P f = refl
between_same (Some x) P f = f x
