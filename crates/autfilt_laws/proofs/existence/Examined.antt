-- An automaton that was read keeps all rules and limits, or there is a first one that it breaks or passes.
use Rattle.std.proofs.Common.{◌≡◌, ◌⊎◌, true, false, List, [], ◌∷◌, refl, ap, inl, inr}
use Rattle.std.proofs.lemmas.Bool.{cases_Bool}
use Rattle.std.specs.List.{AllByRecursion}
use Rattle.std.specs.Prelude.{nat_lt}
use Rattle.aut_base.specs.Lists.{FirstIn}
use Rattle.aut_base.specs.declared.limit.Limit.{Limit}
use Rattle.hoa_parser.specs.Raw.{Written}
use Rattle.hoa_reader.specs.Counts.{Counted, IsCountWithin, PassesNone, limit_counts}
use Rattle.hoa_reader.specs.Elaborating.{PassesLimit}
use Rattle.hoa_reader.specs.Validity.{IsFirstBroken, IsValid, keeps_rule, rules}
use Rattle.hoa_reader.specs.declared.elaborate.Rule.{Rule}

-- the first item with F, where each before it has P
abbrev First : {X : Type 0} → (X → Type 0) → (X → Type 0) → List X → Type 0
First {X = X} P F xs = (x : X) × FirstIn P xs x × F x

module _ {X : Type 0} (P F : X → Type 0) (test : (x : X) → P x ⊎ F x) where
  one_more : (x : X) (xs : List X) → P x ⊎ F x → AllByRecursion P xs ⊎ First P F xs → AllByRecursion P (x ∷ xs) ⊎ First P F (x ∷ xs)
  one_more x xs (inr fails) h = inr (x, record { before = []; after = xs; all = refl; earlier = tt }, fails)
  one_more x xs (inl passes) (inl h) = inl (passes, h)
  one_more x xs (inl passes) (inr (y, first, fails)) = inr (
    y,
    record { before = x ∷ first.before; after = first.after; all = ap (λ (ys : List X). x ∷ ys) first.all; earlier = (passes, first.earlier) },
    fails,
  )

  all_or_first : (xs : List X) → AllByRecursion P xs ⊎ First P F xs
  all_or_first [] = inl tt
  all_or_first (x ∷ xs) = one_more x xs (test x) (all_or_first xs)

pub keeps_or_breaks : (w : Written) → IsValid w ⊎ ((rule : Rule) × IsFirstBroken rule w)
keeps_or_breaks w = go (all_or_first (λ rule. keeps_rule rule w ≡ true) (λ rule. keeps_rule rule w ≡ false) (λ rule. cases_Bool (keeps_rule rule w)) rules)
  where
    go : IsValid w ⊎ First (λ rule. keeps_rule rule w ≡ true) (λ rule. keeps_rule rule w ≡ false) rules → IsValid w ⊎ ((rule : Rule) × IsFirstBroken rule w)
    go (inl h) = inl h
    go (inr (rule, first, fails)) = inr (rule, (first, fails))

pub within_or_passes : (w : Written) → IsValid w → PassesNone w ⊎ ((which : Limit) × PassesLimit which w)
within_or_passes w valid = go (all_or_first IsCountWithin (λ c. nat_lt c.most c.count ≡ true) test (limit_counts w))
  where
    test : (c : Counted) → IsCountWithin c ⊎ (nat_lt c.most c.count ≡ true)
    test c = elim (cases_Bool (nat_lt c.most c.count)) [ inl passes ↦ inr passes | inr within ↦ inl within ]

    go : PassesNone w ⊎ First IsCountWithin (λ c. nat_lt c.most c.count ≡ true) (limit_counts w) → PassesNone w ⊎ ((which : Limit) × PassesLimit which w)
    go (inl h) = inl h
    go (inr (c, first, passes)) = inr (c.which, (valid, c, first, passes, refl))
