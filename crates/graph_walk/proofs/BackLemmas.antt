-- Tracing a shortest walk back from a node that was reached.
use Rattle.std.proofs.Common.{◌≡◌, ◌∙◌, ◌≢◌, ℕ, ◌-◌, ◌<◌, ⊎_elim, Bool, true, false, List, [], ◌∷◌, ◌++◌, length, map, reverse, get_or, refl, sym, subst, arith}
use Rattle.std.specs.List.{Contains}
use Rattle.std.proofs.lemmas.Bool.{false≢true}
use Rattle.std.proofs.lemmas.List.{get_or_read, length_push, length-reverse, get_or-reverse, reverse-append}
use Rattle.std.proofs.lemmas.List.Elements.{All-push}
use Rattle.graph_walk.specs.Path.{IsShortest}
use Rattle.graph_walk.specs.Walk.{IsWalk, Reaches, arc_at}
use Rattle.graph_walk.specs.declared.search.Search.{Search}
use Rattle.graph_walk.specs.inner.Back.{LeadsBack}
use Rattle.graph_walk.specs.inner.Chains.{tail}
use Rattle.graph_walk.specs.inner.Places.{flag}
use Rattle.graph_walk.specs.inner.Search.{IsLedBy, IsSearched}
use Rattle.graph_walk.proofs.Marked.{flag_within}
use Rattle.graph_walk.proofs.SearchLemmas.{walk_near}
use Rattle.graph_walk.proofs.WalkLemmas.{contains_place}

-- each node that was seen, but the start, was found by an arc
pub led_back : (nodes : ℕ) (arcs : List (ℕ × ℕ)) (p q at : ℕ) (s : Search) (places : List ℕ) (back : LeadsBack nodes arcs p q s places at) → at ≢ p
    → IsLedBy arcs back.searched.searching.known.depth s.seen.items at (get_or s.led.items at 0)
led_back nodes arcs p q at s places back other =
    ⊎_elim (λ (h : (back.searched.searching.known.depth at ≡ 0) × Contains (p ∷ []) at).
    let first : h.1.0 ≡ 0 = omega (arith, h.1.1) in
    absurd (other (sym (subst (λ k. get_or (p ∷ []) k at ≡ at) first h.1.2))))
    (λ (h : IsLedBy arcs back.searched.searching.known.depth s.seen.items at (get_or s.led.items at 0)). h)
    (back.searched.searching.known.is_led at back.marked)

-- the walk is traced back by an arc, from a node that is not the start
pub back_goes_on : (nodes : ℕ) (arcs : List (ℕ × ℕ)) (p q at place : ℕ) (s : Search) (places : List ℕ) → LeadsBack nodes arcs p q s places at → at ≢ p → place ≡ get_or s.led.items at place
    → (place < length arcs) × LeadsBack nodes arcs p q s (places ++ place ∷ []) (tail arcs place)
back_goes_on nodes arcs p q at place s places back other read =
    let seen = flag_within s.seen.items at back.marked in
    let fits : at < length s.led.items = omega (arith, back.searched.sized.led_size) in
    let same : get_or s.led.items at 0 ≡ place = sym (get_or_read s.led.items at place fits read 0) in
    let led = subst (λ k. IsLedBy arcs back.searched.searching.known.depth s.seen.items at k) same (led_back nodes arcs p q at s places back other) in (
      led.placed,
      record {
        searched = back.searched;
        marked = led.marked;
        deep = omega (arith, led.deeper, back.deep, length_push places place);
        reached = back.reached;
        walks = rw reverse-append (contains_place arcs place led.placed, refl, subst (λ n. IsWalk arcs n (map (arc_at arcs) (reverse places)) q) (sym led.enters) back.walks);
        placed = All-push (λ k. k < length arcs) places place back.placed led.placed;
      },
    )

pub back_ends : (nodes : ℕ) (arcs : List (ℕ × ℕ)) (p q : ℕ) (s : Search) (places : List ℕ) → LeadsBack nodes arcs p q s places p → IsShortest arcs p q (reverse places)
back_ends nodes arcs p q s places back = record {
  placed = λ k d within. let inside : k < length places = omega (arith, length-reverse places) in rw (get_or-reverse places k d inside) (back.placed (length places - 1 - k) d (omega arith));
  walks = back.walks;
  least = λ walk leads.
      let begun = back.searched.searching.known.begun 0 (omega arith) in
      let near = walk_near arcs (p ∷ []) back.searched.done (length arcs) s back.searched.searching back.searched.all_done p q walk back.marked leads in
      omega (arith, length-reverse places, back.deep, begun.close, near.1);
}

pub not_reached : (nodes : ℕ) (arcs : List (ℕ × ℕ)) (p q : ℕ) (s : Search) → IsSearched nodes arcs (p ∷ []) s → Reaches arcs p q → flag s.seen.items q ≡ true
not_reached nodes arcs p q s searched reaches =
    let begun = searched.searching.known.begun 0 (omega arith) in
    (walk_near arcs (p ∷ []) searched.done (length arcs) s searched.searching searched.all_done p q reaches.walk begun.marked reaches.leads).0

-- a node whose flag was read as false was not seen
pub not_marked : (seen : List Bool) (x : ℕ) (b : Bool) → b ≡ get_or seen x b → b ≡ false → flag seen x ≡ true → ⊥
not_marked seen x b read unset marked =
    false≢true (sym unset ∙ (get_or_read seen x b (flag_within seen x marked) read false ∙ marked))
