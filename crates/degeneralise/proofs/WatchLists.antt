-- What states wait for, by the list of what the copies wait for.
use Rattle.std.proofs.Common.{◌≡◌, ◌∙◌, ◌+◌, ◌*◌, ◌/◌, ◌<◌, ◌≤◌, ℕ, zero, suc, max, None, Some, List, [], ◌∷◌, All, Contains, ap, arith, map, slice_get, sym}
use Rattle.std.specs.List.{fold}
use Rattle.std.specs.Option.{option_and_then, option_map}
use Rattle.std.proofs.lemmas.Nat.{div-mul-add}
use Rattle.std.proofs.lemmas.Option.{slice_get-map}
use Rattle.acc_forms.specs.declared.literal.Literal.{Literal}
use Rattle.aut_base.proofs.lists.Members.{each_there}
use Rattle.fin_removal.specs.Copies.{CopyOfTerm as TermCopy, copies_from, owned, owned_sets, sets_of, term_copies}
use Rattle.fin_removal.proofs.Parts.{state_in}
use Rattle.degeneralise.specs.Buchi.{Watch, levels, most_levels, watch_of}

-- the greatest number is no less than any
most_from : (most : ℕ) (ws : List Watch) → most ≤ fold (λ m watch. max m (levels watch)) most ws
most_from most [] = omega arith
most_from most (w ∷ ws) = omega (arith, most_from (max most (levels w)) ws)

most_of : (most : ℕ) (ws : List Watch) (w : Watch) → Contains ws w → levels w ≤ fold (λ m watch. max m (levels watch)) most ws
most_of most [] w there = absurd (omega (arith, there.1))
most_of most (v ∷ ws) w (zero, within, is) = omega (arith, ap levels is, most_from (max most (levels v)) ws)
most_of most (v ∷ ws) w (suc k, within, is) = most_of (max most (levels v)) ws w (k, omega (arith, within), is)

pub room_in : (ws : List Watch) → All (λ watch. levels watch ≤ most_levels ws) ws
room_in ws = each_there (λ watch. levels watch ≤ most_levels ws) ws (λ w there. most_of 1 ws w there)

pub some_room : (ws : List Watch) → 0 < most_levels ws
some_room ws = omega (arith, most_from 1 ws)

-- an entry of the list has at most k levels, and so has one past its end
levels_at : (k : ℕ) (ws : List Watch) → 0 < k → All (λ watch. levels watch ≤ k) ws → (i : ℕ) → levels (option_and_then (λ watch. watch) (slice_get ws i)) ≤ k
levels_at k [] some all i = omega (arith, some)
levels_at k (w ∷ ws) some all zero = all zero w (omega arith)
levels_at k (w ∷ ws) some all (suc i) = levels_at k ws some (λ j d within. all (suc j) d (omega (arith, within))) i

pub room_of : (k n : ℕ) (ws : List Watch) → 0 < k → All (λ watch. levels watch ≤ k) ws → (state : ℕ) → levels (watch_of n ws state) ≤ k
room_of k n ws some all state = levels_at k ws some all (state / n)

-- the first copy's states
pub watch_first : (n q : ℕ) (w : Watch) (ws : List Watch) → q < n → watch_of n (w ∷ ws) q ≡ w
watch_first n q w ws below =
    let z : 0 * n + q ≡ q = omega arith in
    let at : q / n ≡ 0 = ap (λ m. m / n) (sym z) ∙ div-mul-add 0 n q below in
    ap (λ i. option_and_then (λ (v : Watch). v) (slice_get (w ∷ ws) i)) at

-- the index of a copy in the list
record Placed (number : ℕ) (copies : List TermCopy) (copy : TermCopy) : Type 0 where
  place : ℕ
  is_number : copy.number ≡ number + place
  at : slice_get copies place ≡ Some copy

placed : (number first : ℕ) (ts : List (List Literal)) (copy : TermCopy) → Contains (copies_from number first ts) copy → Placed number (copies_from number first ts) copy
placed number first [] copy there = absurd (omega (arith, there.1))
placed number first (t ∷ ts) copy (zero, within, is) = record { place = 0; is_number = omega (arith, ap (λ (k : TermCopy). k.number) is); at = ap Some is }
placed number first (t ∷ ts) copy (suc k, within, is) =
    let rest = placed (number + 1) (first + sets_of t) ts copy (k, omega (arith, within), is) in
    record { place = suc rest.place; is_number = omega (arith, rest.is_number); at = rest.at }

-- the states of the copy of a term
pub watch_copy : (n q : ℕ) (ts : List (List Literal)) (copy : TermCopy) → Contains (term_copies ts) copy → q < n
    → watch_of n (None ∷ map (λ sets. Some sets) (owned_sets ts)) (state_in n copy.number q) ≡ Some (owned copy)
watch_copy n q ts copy listed below =
    let its = placed 1 0 ts copy listed in
    let ws : List Watch = None ∷ map (λ sets. Some sets) (owned_sets ts) in
    let number : copy.number ≡ suc its.place = omega (arith, its.is_number) in
    let at : state_in n copy.number q / n ≡ suc its.place = div-mul-add copy.number n q below ∙ number in
    let there : slice_get (map (λ sets. Some sets) (owned_sets ts)) its.place ≡ Some (Some (owned copy)) =
    slice_get-map (λ sets. Some sets) (owned_sets ts) its.place ∙ ap (option_map (λ sets. Some sets)) (slice_get-map owned (term_copies ts) its.place ∙ ap (option_map owned) its.at) in
    ap (λ i. option_and_then (λ (v : Watch). v) (slice_get ws i)) at ∙ ap (option_and_then (λ (v : Watch). v)) there
