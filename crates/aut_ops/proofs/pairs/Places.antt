-- The index of an item in a list of different items.
use Rattle.std.proofs.Common.{◌≡◌, ◌≢◌, ◌∙◌, ◌==◌, ℕ, Bool, List, AllPairs, Contains, Some, ap, arith, get_or, slice_get, sym}
use Rattle.std.proofs.lemmas.Bool.{and_from, and_parts, eq-eqb, eqb-true, false_from_ne_true}
use Rattle.std.proofs.lemmas.List.Sums.{position_or_len_is}
use Rattle.std.proofs.lemmas.Option.{get_or_from_slice_get, slice_get_within}
use Rattle.std.specs.List.{position_or_len}
use Rattle.aut_base.proofs.lists.Members.{Tells, there_at}
use Rattle.aut_ops.specs.Products.{same_pair}

pub pair_tells : Tells same_pair
pair_tells p q = (
  (λ e. let parts = and_parts (p.0 == q.0) (p.1 == q.1) e in let one = eqb-true p.0 q.0 parts.0 in let two = eqb-true p.1 q.1 parts.1 in λ i. (one i, two i)),
  (λ e. and_from (p.0 == q.0) (p.1 == q.1) (eq-eqb p.0 q.0 (ap (λ (r : ℕ × ℕ). r.0) e)) (eq-eqb p.1 q.1 (ap (λ (r : ℕ × ℕ). r.1) e))),
)

module _ {X : Type 0} (same : X → X → Bool) (tells : Tells same) (xs : List X) (differ : AllPairs (λ x y. x ≢ y) xs) where
  pub place_is : (k : ℕ) (x : X) → slice_get xs k ≡ Some x → position_or_len (same x) xs ≡ k
  place_is k x at =
      let within = slice_get_within xs k x at in
      position_or_len_is (same x) xs k x (omega (arith, within))
      (λ j less. false_from_ne_true (same x (get_or xs j x)) (λ e. differ j k x less within (sym ((tells x (get_or xs j x)).0 e) ∙ sym (get_or_from_slice_get xs k x x at))))
      (λ _. (tells x (get_or xs k x)).1 (sym (get_or_from_slice_get xs k x x at)))

  pub place_there : (x : X) → Contains xs x → slice_get xs (position_or_len (same x) xs) ≡ Some x
  place_there x there =
      let at = there_at xs x there in
      ap (slice_get xs) (place_is at.0 x at.1) ∙ at.1

  pub one_place : (j k : ℕ) (x : X) → slice_get xs j ≡ Some x → slice_get xs k ≡ Some x → j ≡ k
  one_place j k x one two = sym (place_is j x one) ∙ place_is k x two
