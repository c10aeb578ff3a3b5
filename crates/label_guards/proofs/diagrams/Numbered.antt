-- Nodes in a list, with the number of each.
use Rattle.std.proofs.Common.{◌≡◌, ℕ, ◌<◌, ◌∙◌, Bool, true, false, ◌&&◌, cond, List, [], ◌∷◌, ◌++◌, length, Option, Some, None, slice_get, Contains, sym, ap, refl, inl, inr, arith, nat_eq}
use Rattle.std.proofs.lemmas.Bool.{false≢true, eqb-true}
use Rattle.std.proofs.lemmas.Option.{none-some, same_Some, slice_get_within}
use Rattle.aut_base.proofs.lists.Lists.{slice_get-push_left, slice_get-push_last, slice_get-push_cases}
use Rattle.aut_base.proofs.lists.Members.{there_at}
use Rattle.label_guards.specs.declared.nodes.Node.{Node}
use Rattle.label_guards.specs.Nodes.{HasNumbers, equal_nodes}

both : (a b : Bool) → (a && b) ≡ true → (a ≡ true) × (b ≡ true)
both true b h = (refl, h)
both false b h = absurd (false≢true h)

eq_self : (a : ℕ) → nat_eq a a ≡ true
eq_self a = grind arith

pub same_true : (a b : Node) → equal_nodes a b ≡ true → a ≡ b
same_true a b h =
    let outer = both (nat_eq a.prop b.prop) (nat_eq a.low b.low && nat_eq a.high b.high) h in
    let inner = both (nat_eq a.low b.low) (nat_eq a.high b.high) outer.1 in
    let props = eqb-true a.prop b.prop outer.0 in
    let lows = eqb-true a.low b.low inner.0 in
    let highs = eqb-true a.high b.high inner.1 in
    (λ i. record { prop = props i; low = lows i; high = highs i })

pub same_self : (a : Node) → equal_nodes a a ≡ true
same_self a = ap (λ b. b && (nat_eq a.low a.low && nat_eq a.high a.high)) (eq_self a.prop) ∙ (ap (λ b. b && nat_eq a.high a.high) (eq_self a.low) ∙ eq_self a.high)

-- a node that isn't there is added at the end, and gets the next number
pub numbered_push : (ns : List Node) (number next : Node → Option ℕ) (n : Node) (last : ℕ) → length ns ≡ last → HasNumbers ns number → number n ≡ None
    → ((q : Node) → next q ≡ cond (equal_nodes n q) (Some last) (number q)) → HasNumbers (ns ++ n ∷ []) next
numbered_push ns number next n last size are none is = record {
  there = λ q i h. there_by q i (equal_nodes n q) refl (sym (is q) ∙ h);
  known = λ i q h. elim (slice_get-push_cases ns n i q h) [
    | inl e ↦ is q ∙ known_by q i (equal_nodes n q) refl (are.known i q e)
    | inr e ↦ is q ∙ (ap (λ b. cond b (Some last) (number q)) (ap (equal_nodes n) (sym e.1) ∙ same_self n) ∙ ap Some (sym (e.0 ∙ size)))
  ];
}
  where
    there_by : (q : Node) (i : ℕ) (b : Bool) → equal_nodes n q ≡ b → cond b (Some last) (number q) ≡ Some i → slice_get (ns ++ n ∷ []) i ≡ Some q
    there_by q i true e h = slice_get-push_last ns n i (size ∙ same_Some last i h) ∙ ap Some (same_true n q e)
    there_by q i false e h = slice_get-push_left ns n i q (are.there q i h)

    known_by : (q : Node) (i : ℕ) (b : Bool) → equal_nodes n q ≡ b → number q ≡ Some i → cond b (Some last) (number q) ≡ Some i
    known_by q i true e h = absurd (none-some i (sym none ∙ (ap number (same_true n q e) ∙ h)))
    known_by q i false e h = h

-- the last node goes, and its number with it
pub numbered_pop : (ns rest : List Node) (number next : Node → Option ℕ) (n : Node) → ns ≡ rest ++ n ∷ [] → HasNumbers ns number
    → ((q : Node) → next q ≡ cond (equal_nodes n q) None (number q)) → HasNumbers rest next
numbered_pop ns rest number next n made are is = record {
  there = λ q i h. there_by q i (equal_nodes n q) refl (sym (is q) ∙ h);
  known = λ i q h. is q ∙ known_by q i (equal_nodes n q) refl h;
}
  where
    earlier : (q : Node) (i : ℕ) → slice_get rest i ≡ Some q → number q ≡ Some i
    earlier q i h = are.known i q (ap (λ l. slice_get l i) made ∙ slice_get-push_left rest n i q h)

    there_by : (q : Node) (i : ℕ) (b : Bool) → equal_nodes n q ≡ b → cond b None (number q) ≡ Some i → slice_get rest i ≡ Some q
    there_by q i true e h = absurd (none-some i h)
    there_by q i false e h = elim (slice_get-push_cases rest n i q (ap (λ l. slice_get l i) (sym made) ∙ are.there q i h)) [
      | inl a ↦ a
      | inr a ↦ absurd (false≢true (sym e ∙ (ap (equal_nodes n) (sym a.1) ∙ same_self n)))
    ]

    known_by : (q : Node) (i : ℕ) (b : Bool) → equal_nodes n q ≡ b → slice_get rest i ≡ Some q → cond b None (number q) ≡ Some i
    known_by q i false e h = earlier q i h
    known_by q i true e h =
        let last : number n ≡ Some (length rest) = are.known (length rest) n (ap (λ l. slice_get l (length rest)) made ∙ slice_get-push_last rest n (length rest) refl) in
        let here : i ≡ length rest = same_Some i (length rest) (sym (earlier q i h) ∙ (ap number (sym (same_true n q e)) ∙ last)) in
        let within : i < length rest = slice_get_within rest i q h in
        absurd (omega (arith, here, within))

-- the same numbers
pub numbered_alike : (ns ms : List Node) (number next : Node → Option ℕ) → ms ≡ ns → ((q : Node) → next q ≡ number q) → HasNumbers ns number → HasNumbers ms next
numbered_alike ns ms number next same is are = record {
  there = λ q i h. ap (λ l. slice_get l i) same ∙ are.there q i (sym (is q) ∙ h);
  known = λ i q h. is q ∙ are.known i q (ap (λ l. slice_get l i) (sym same) ∙ h);
}

-- a node without a number isn't in the list
pub not_there : (ns : List Node) (number : Node → Option ℕ) (n : Node) → HasNumbers ns number → number n ≡ None → Contains ns n → ⊥
not_there ns number n are none there = let at = there_at ns n there in none-some at.0 (sym none ∙ are.known at.0 n at.1)
