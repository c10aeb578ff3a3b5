-- Copies have numbers and sets of their own, and there is one for each term.
use Rattle.std.proofs.Common.{◌≡◌, ◌∙◌, ◌+◌, ◌<◌, ◌≤◌, ℕ, zero, suc, List, [], ◌∷◌, Contains, ap, arith, length, refl, sym}
use Rattle.std.specs.List.{sum_by}
use Rattle.std.proofs.lemmas.List.Sums.{sum_by-cons}
use Rattle.acc_forms.specs.declared.literal.Literal.{Literal}
use Rattle.aut_base.proofs.lists.Members.{later_there}
use Rattle.fin_removal.specs.Copies.{copies_from, sets_of}
use Rattle.fin_removal.specs.Meeting.{fins, infs, literal_places}
use Rattle.fin_removal.specs.declared.term_copy.TermCopy.{TermCopy}
use Rattle.fin_removal.proofs.TermCopies.{copy_of}

pub record IsAmong (number first : ℕ) (ts : List (List Literal)) (copy : TermCopy) : Type 0 where
  pub number_from : number ≤ copy.number
  pub number_to : copy.number < number + length ts
  pub sets_from : first ≤ copy.first
  pub sets_to : copy.first + literal_places copy.infs ≤ first + sum_by sets_of ts

pub is_among : (number first : ℕ) (ts : List (List Literal)) (copy : TermCopy) → Contains (copies_from number first ts) copy → IsAmong number first ts copy
is_among number first [] copy there = absurd (omega (arith, there.1))
is_among number first (t ∷ ts) copy (zero, within, is) =
    let at : number ≡ copy.number = ap (λ (k : TermCopy). k.number) is in
    let begins : first ≡ copy.first = ap (λ (k : TermCopy). k.first) is in
    let sets : sets_of t ≡ literal_places copy.infs = ap (λ (k : TermCopy). literal_places k.infs) is in
    record {
      number_from = omega (arith, at);
      number_to = omega (arith, at);
      sets_from = omega (arith, begins);
      sets_to = omega (arith, begins, sets, sum_by-cons sets_of t ts);
    }
is_among number first (t ∷ ts) copy (suc k, within, is) =
    let rest = is_among (number + 1) (first + sets_of t) ts copy (k, omega (arith, within), is) in
    record {
      number_from = omega (arith, rest.number_from);
      number_to = omega (arith, rest.number_to);
      sets_from = omega (arith, rest.sets_from);
      sets_to = omega (arith, rest.sets_to, sum_by-cons sets_of t ts);
    }

-- one number, one copy
pub same_number : (number first : ℕ) (ts : List (List Literal)) (j k : TermCopy) → Contains (copies_from number first ts) j → Contains (copies_from number first ts) k → j.number ≡ k.number → j ≡ k
same_number number first [] j k in_j in_k same = absurd (omega (arith, in_j.1))
same_number number first (t ∷ ts) j k (zero, wj, is_j) (zero, wk, is_k) same = sym is_j ∙ is_k
same_number number first (t ∷ ts) j k (zero, wj, is_j) (suc p, wk, is_k) same =
    let rest = is_among (number + 1) (first + sets_of t) ts k (p, omega (arith, wk), is_k) in
    absurd (omega (arith, ap (λ (c : TermCopy). c.number) is_j, rest.number_from, same))
same_number number first (t ∷ ts) j k (suc p, wj, is_j) (zero, wk, is_k) same =
    let rest = is_among (number + 1) (first + sets_of t) ts j (p, omega (arith, wj), is_j) in
    absurd (omega (arith, ap (λ (c : TermCopy). c.number) is_k, rest.number_from, same))
same_number number first (t ∷ ts) j k (suc p, wj, is_j) (suc q, wk, is_k) same = same_number (number + 1) (first + sets_of t) ts j k (p, omega (arith, wj), is_j) (q, omega (arith, wk), is_k) same

-- the copy owns the set
pub record Owns (copy : TermCopy) (set : ℕ) : Type 0 where
  pub from : copy.first ≤ set
  pub to : set < copy.first + literal_places copy.infs

-- one set, one copy
pub same_set : (number first : ℕ) (ts : List (List Literal)) (set : ℕ) (j k : TermCopy) → Contains (copies_from number first ts) j → Contains (copies_from number first ts) k → Owns j set
    → Owns k set → j ≡ k
same_set number first [] set j k in_j in_k own_j own_k = absurd (omega (arith, in_j.1))
same_set number first (t ∷ ts) set j k (zero, wj, is_j) (zero, wk, is_k) own_j own_k = sym is_j ∙ is_k
same_set number first (t ∷ ts) set j k (zero, wj, is_j) (suc p, wk, is_k) own_j own_k =
    let rest = is_among (number + 1) (first + sets_of t) ts k (p, omega (arith, wk), is_k) in
    absurd (omega (arith, ap (λ (c : TermCopy). c.first + literal_places c.infs) is_j, rest.sets_from, own_j.to, own_k.from))
same_set number first (t ∷ ts) set j k (suc p, wj, is_j) (zero, wk, is_k) own_j own_k =
    let rest = is_among (number + 1) (first + sets_of t) ts j (p, omega (arith, wj), is_j) in
    absurd (omega (arith, ap (λ (c : TermCopy). c.first + literal_places c.infs) is_k, rest.sets_from, own_k.to, own_j.from))
same_set number first (t ∷ ts) set j k (suc p, wj, is_j) (suc q, wk, is_k) own_j own_k =
    same_set (number + 1) (first + sets_of t) ts set j k (p, omega (arith, wj), is_j) (q, omega (arith, wk), is_k) own_j own_k

-- the copy of a term
pub record CopyOf (number first : ℕ) (ts : List (List Literal)) (t : List Literal) : Type 0 where
  pub copy : TermCopy
  pub there : Contains (copies_from number first ts) copy
  pub fins : copy.fins ≡ fins t
  pub infs : copy.infs ≡ infs t

pub copy_for : (number first : ℕ) (ts : List (List Literal)) (t : List Literal) → Contains ts t → CopyOf number first ts t
copy_for number first [] t there = absurd (omega (arith, there.1))
copy_for number first (u ∷ us) t (zero, within, is) = record { copy = copy_of number first u; there = (zero, omega arith, refl); fins = ap fins is; infs = ap infs is }
copy_for number first (u ∷ us) t (suc k, within, is) =
    let rest = copy_for (number + 1) (first + sets_of u) us t (k, omega (arith, within), is) in
    record { copy = rest.copy; there = later_there (copy_of number first u) (copies_from (number + 1) (first + sets_of u) us) rest.copy rest.there; fins = rest.fins; infs = rest.infs }

-- the term of a copy
pub record TermOf (ts : List (List Literal)) (copy : TermCopy) : Type 0 where
  pub term : List Literal
  pub there : Contains ts term
  pub fins : copy.fins ≡ fins term
  pub infs : copy.infs ≡ infs term

pub term_for : (number first : ℕ) (ts : List (List Literal)) (copy : TermCopy) → Contains (copies_from number first ts) copy → TermOf ts copy
term_for number first [] copy there = absurd (omega (arith, there.1))
term_for number first (u ∷ us) copy (zero, within, is) =
    record { term = u; there = (zero, omega arith, refl); fins = sym (ap (λ (k : TermCopy). k.fins) is); infs = sym (ap (λ (k : TermCopy). k.infs) is) }
term_for number first (u ∷ us) copy (suc k, within, is) =
    let rest = term_for (number + 1) (first + sets_of u) us copy (k, omega (arith, within), is) in
    record { term = rest.term; there = later_there u us rest.term rest.there; fins = rest.fins; infs = rest.infs }
