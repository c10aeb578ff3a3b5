-- Where states are defined, state by state.
use Rattle.std.proofs.Common.{◌≡◌, ◌≢◌, ◌==◌, ◌<◌, ◌+◌, ℕ, zero, suc, Bool, true, false, cond, ◌||◌, List, [], ◌∷◌, ◌++◌, length, get_or, set, map}
use Rattle.std.proofs.Common.{slice_get, Option, Some, None, refl, sym, ap, ◌∙◌, arith, subst}
use Rattle.std.proofs.lemmas.Bool.{false≢true, eqb-true}
use Rattle.std.proofs.lemmas.Bool.Decides.{Decides-eqb}
use Rattle.std.proofs.lemmas.Grind.{flat_map-append}
use Rattle.std.proofs.lemmas.List.{append-nil, get_or-set_other, get_or-set_same, get_or_default}
use Rattle.std.proofs.lemmas.List.Elements.{filter-append}
use Rattle.std.proofs.lemmas.Option.{none-some, same_Some}
use Rattle.std.specs.Prelude.{flat_map}
use Rattle.std.specs.List.{list_any}
use Rattle.aut_base.specs.Automaton.{LabelledEdge}
use Rattle.hoa_reader.specs.inner.TreeEdges.{IsDefinedAt, IsPlace, tree_edges_for, edges_for, states_at}
use Rattle.hoa_reader.specs.Described.{below}
use Rattle.hoa_reader.specs.inner.PickedOut.{numbers}
use Rattle.hoa_parser.specs.Raw.{WrittenState, written_state}
use Rattle.hoa_reader.specs.declared.elaborate.edges.Shared.{Shared}
use Rattle.hoa_parser.specs.declared.raw.RawState.{RawState}
use Rattle.aut_base.proofs.lists.Lists.{slice_get-push_left, slice_get-push_last}

none_if : (b a : Bool) (x : WrittenState) (ys : List WrittenState) → (b || a) ≡ false → (a ≡ false → ys ≡ []) → cond b (x ∷ ys) ys ≡ []
none_if true a x ys e h = absurd (false≢true (sym e))
none_if false a x ys e h = h e

none_at : (ws : List WrittenState) (q : ℕ) → list_any (λ x. x == q) (numbers ws) ≡ false → states_at ws q ≡ []
none_at [] q e = refl
none_at (w ∷ ws) q e = none_if (w.number == q) (list_any (λ x. x == q) (numbers ws)) w (states_at ws q) e (none_at ws q)

states_at-push : (ws : List WrittenState) (w : WrittenState) (q : ℕ) → states_at (ws ++ w ∷ []) q ≡ states_at ws q ++ cond (w.number == q) (w ∷ []) []
states_at-push ws w q = filter-append (λ (s : WrittenState). s.number == q) ws (w ∷ [])

kept_at : (ws : List WrittenState) (w : WrittenState) (q : ℕ) (o : Option ℕ) → (w.number == q) ≡ false → IsPlace ws q o → IsPlace (ws ++ w ∷ []) q o
kept_at ws w q None e h = states_at-push ws w q ∙ ap (λ (t : Bool). states_at ws q ++ cond t (w ∷ []) []) e ∙ append-nil (states_at ws q) ∙ h
kept_at ws w q (Some p) e h = record {
  state = h.state;
  there = slice_get-push_left ws w p h.state h.there;
  alone = states_at-push ws w q ∙ ap (λ (t : Bool). states_at ws q ++ cond t (w ∷ []) []) e ∙ append-nil (states_at ws q) ∙ h.alone;
}

at_one : (ws : List WrittenState) (w : WrittenState) (index : List (Option ℕ)) (i q : ℕ) (b : Bool) → (w.number == q) ≡ b → q < length index → length ws ≡ i
    → list_any (λ x. x == w.number) (numbers ws) ≡ false → IsPlace ws q (get_or index q None)
    → IsPlace (ws ++ w ∷ []) q (get_or (set index w.number (Some i)) q None)
at_one ws w index i q true e l long away h =
    let same : w.number ≡ q = eqb-true w.number q e in
    let P : Option ℕ → Type 0 = λ o. IsPlace (ws ++ w ∷ []) q o in
    let here : get_or (set index w.number (Some i)) q None ≡ Some i = ap (λ n. get_or (set index n (Some i)) q None) same
    ∙ get_or-set_same index q (Some i) None l in
    let gone : list_any (λ x. x == q) (numbers ws) ≡ false = ap (λ n. list_any (λ x. x == n) (numbers ws)) (sym same) ∙ away in
    let new : IsDefinedAt (ws ++ w ∷ []) q i = record {
      state = w;
      there = slice_get-push_last ws w i long;
      alone = states_at-push ws w q ∙ ap (λ (t : Bool). states_at ws q ++ cond t (w ∷ []) []) e
          ∙ ap (λ (xs : List WrittenState). xs ++ w ∷ []) (none_at ws q gone);
    } in
    subst P (sym here) new
at_one ws w index i q false e l long away h =
    let P : Option ℕ → Type 0 = λ o. IsPlace (ws ++ w ∷ []) q o in
    let other : q ≢ w.number = λ same. false≢true (sym e ∙ (Decides-eqb w.number q).1 (sym same)) in
    subst P (sym (get_or-set_other index w.number q (Some i) None other)) (kept_at ws w q (get_or index q None) e h)

-- one more state stands at its number
pub index_more : (ws : List WrittenState) (w : WrittenState) (index : List (Option ℕ)) (i count : ℕ) → length index ≡ count → length ws ≡ i
    → list_any (λ x. x == w.number) (numbers ws) ≡ false → ((q : ℕ) → q < count → IsPlace ws q (get_or index q None)) → (q : ℕ) → q < count
    → IsPlace (ws ++ w ∷ []) q (get_or (set index w.number (Some i)) q None)
index_more ws w index i count len long away h q l = at_one ws w index i q (w.number == q) refl (omega (arith, len, l)) long away (h q l)

pub below_more : (n : ℕ) → below (n + 1) ≡ below n ++ n ∷ []
below_more n = let next : n + 1 ≡ suc n = omega arith in ap below next

-- the edges of one more state
pub edges_more : (x : Shared) (ws : List WrittenState) (n : ℕ) → edges_for x ws (n + 1) ≡ edges_for x ws n ++ flat_map (tree_edges_for x) (states_at ws n)
edges_more x ws n =
    let F : ℕ → List LabelledEdge = λ q. flat_map (tree_edges_for x) (states_at ws q) in
    ap (flat_map F) (below_more n) ∙ flat_map-append F (below n) (n ∷ []) ∙ ap (λ (es : List LabelledEdge). edges_for x ws n ++ es) (append-nil (F n))

-- what is known of the state at the place that the index has for a number
pub record IsFound (ws : List WrittenState) (n place : ℕ) (state : WrittenState) : Type 0 where
  pub one : IsDefinedAt ws n place
  pub is : state ≡ one.state

pub got_map : (states : List RawState) (i : ℕ) (s : WrittenState) (d : RawState) → slice_get (map written_state states) i ≡ Some s
    → written_state (get_or states i d) ≡ s
got_map [] i s d is = absurd (none-some s is)
got_map (x ∷ xs) zero s d is = same_Some (written_state x) s is
got_map (x ∷ xs) (suc i) s d is = got_map xs i s d is

pub found : (states : List RawState) (items : List (Option ℕ)) (count n place : ℕ) (at : Option ℕ) (state : RawState) → length items ≡ count
    → ((q : ℕ) → q < count → IsPlace (map written_state states) q (get_or items q None)) → n < length items → at ≡ get_or items n at → at ≡ Some place
    → state ≡ get_or states place state
    → IsFound (map written_state states) n place (written_state state)
found states items count n place at state len places within at_is some state_is =
    let ws = map written_state states in
    let P : Option ℕ → Type 0 = λ o. IsPlace ws n o in
    let one : IsDefinedAt ws n place = subst P (get_or_default items n None at within ∙ sym at_is ∙ some) (places n (omega (arith, within, len))) in
    record { one = one; is = ap written_state state_is ∙ got_map states place one.state state one.there }
