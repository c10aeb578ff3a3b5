-- Valuations by their numbers, where labels are implicit (HOA v1, implicit labels).
use Rattle.std.specs.Prelude.{ℕ, zero, suc, ◌-◌, ◌/◌, ◌%◌, ◌^◌, ◌==◌, Bool, true, not, ◌&&◌, ◌||◌}
use Rattle.std.specs.Bool.{beq}

-- bit k of the number
abbrev pub is_set : ℕ → ℕ → Bool
is_set number k = (number / (2 ^ k)) % 2 == 1

-- whether just those of the first n propositions hold whose bits are set
abbrev pub is_at : ℕ → ℕ → (ℕ → Bool) → Bool
is_at number zero on = true
is_at number (suc n) on = is_at number n on && beq (on n) (is_set number n)

-- whether of the first n propositions the last `count` are as their bits say
abbrev pub last_at : ℕ → ℕ → ℕ → (ℕ → Bool) → Bool
last_at number n zero on = true
last_at number n (suc count) on = beq (on (n - suc count)) (is_set number (n - suc count)) && last_at number n count on

-- whether proposition k is as its bit of `values` says, where its bit of `names` asks for it
abbrev pub is_as_asked : ℕ → ℕ → ℕ → (ℕ → Bool) → Bool
is_as_asked names values k on = not (is_set names k) || beq (on k) (is_set values k)

-- whether each of the first n propositions is as it is asked for
abbrev pub is_in_cube : ℕ → ℕ → ℕ → (ℕ → Bool) → Bool
is_in_cube names values zero on = true
is_in_cube names values (suc n) on = is_in_cube names values n on && is_as_asked names values n on
