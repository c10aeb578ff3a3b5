-- What is made of two automata.
use Rattle.std.proofs.Common.{◌≡◌, ◌+◌, ◌<◌, ◌≤◌, [], ◌∷◌, ap, arith}
use Rattle.acc_forms.specs.Joined.{conj, disj}
use Rattle.aut_base.specs.Automaton.{Automaton}
use Rattle.aut_base.specs.declared.limit.Limit.{Limit}
use Rattle.aut_base.specs.declared.limit.Limit.TheVariants as limit
use Rattle.aut_ops.proofs.sinks.CompletedSizes.{completed_sets}
use Rattle.aut_ops.proofs.pairs.Laws.{few_pairs_exclude_more}
use Rattle.aut_ops.specs.Completion.{completed}
use Rattle.aut_ops.specs.Languages.{AcceptsBoth, AcceptsEither}
use Rattle.aut_ops.specs.Sums.{side_by_side}
use Rattle.aut_ops.specs.Products.{IsProduct, over_both}
use Rattle.aut_base.specs.declared.limit.TheConstants.{MOST_PAIRS}
use Rattle.plan_meaning.proofs.changes.Stepping.{changed_once}
use Rattle.plan_meaning.specs.Changes.{Product, ProductOr, Sum}
use Rattle.plan_meaning.specs.Limits.{HaveFewNames, PassesOfBoth, PassesOfEither}
use Rattle.plan_meaning.specs.Operands.{IsOfReadSize}
use Rattle.plan_meaning.specs.inner.Stepping.{IsMadeAsPromised, IsOfProductOrSize, IsOfProductSize}

both_within : (a b made : Automaton) → IsProduct conj (over_both a b a) (over_both a b b) made → HaveFewNames a b → made.states ≤ MOST_PAIRS → (which : Limit) → PassesOfBoth which a b → ⊥
both_within a b made is names few limit.Names h = absurd (omega (arith, names, h))
both_within a b made is names few limit.Pairs h = few_pairs_exclude_more conj (over_both a b a) (over_both a b b) made MOST_PAIRS is few h.1
both_within a b made is names few _ h = h

pub product_made : (a b made : Automaton) → IsProduct conj (over_both a b a) (over_both a b b) made → AcceptsBoth made a b → HaveFewNames a b → made.states ≤ MOST_PAIRS
    → IsMadeAsPromised (Product b ∷ []) a made
product_made a b made is accepts names few = changed_once (Product b) a made (both_within a b made is names few) is tt accepts

either_within : (a b made : Automaton) → IsProduct disj (over_both a b (completed a)) (over_both a b (completed b)) made → HaveFewNames a b → made.states ≤ MOST_PAIRS
    → (which : Limit) → PassesOfEither which a b → ⊥
either_within a b made is names few limit.Names h = absurd (omega (arith, names, h))
either_within a b made is names few limit.Pairs h = few_pairs_exclude_more disj (over_both a b (completed a)) (over_both a b (completed b)) made MOST_PAIRS is few h.1
either_within a b made is names few _ h = h

pub product_or_made : (a b made : Automaton) → IsProduct disj (over_both a b (completed a)) (over_both a b (completed b)) made → AcceptsEither made a b → HaveFewNames a b
    → made.states ≤ MOST_PAIRS → IsMadeAsPromised (ProductOr b ∷ []) a made
product_or_made a b made is accepts names few = changed_once (ProductOr b) a made (either_within a b made is names few) is tt accepts

pub product_or_size : (a b made : Automaton) → IsProduct disj (over_both a b (completed a)) (over_both a b (completed b)) made → made.states ≤ MOST_PAIRS
    → IsOfProductSize a → IsOfReadSize b → IsOfProductOrSize made
product_or_size a b made is few one two =
    let sets : made.sets ≡ (completed a).sets + (completed b).sets = ap (λ (x : Automaton). x.sets) is.is in
    record { states = few; sets = omega (arith, sets, completed_sets a, completed_sets b, one.sets, two.sets) }

pub product_or_sets : (a b : Automaton) → IsOfProductSize a → IsOfReadSize b → (completed a).sets + (completed b).sets < 4294967296
product_or_sets a b one two = omega (arith, completed_sets a, completed_sets b, one.sets, two.sets)

pub sum_made : (a b made : Automaton) → made ≡ side_by_side (over_both a b a) (over_both a b b) → AcceptsEither made a b → HaveFewNames a b → IsMadeAsPromised (Sum b ∷ []) a made
sum_made a b made is accepts names = changed_once (Sum b) a made (λ which h. omega (arith, names, h.1)) is tt accepts
