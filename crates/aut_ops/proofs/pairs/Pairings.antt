-- A product under construction, to which edges are added one by one.
use Rattle.std.proofs.Common.{◌≡◌, ◌∙◌, ◌↔◌, ◌&&◌, ◌+◌, ◌<◌, ℕ, Bool, true, false, cond, IsTrue, List, [], ◌∷◌, ◌++◌, All, Contains, Some, ap}
use Rattle.std.proofs.Common.{append-nil, append_assoc, arith, get_or, drop, length, map, refl, slice_get, subst, sym, take}
use Rattle.std.proofs.lemmas.List.{map-append, take-append-drop}
use Rattle.std.proofs.lemmas.List.Elements.{All-append, All-push, All-tail, All-weaker, Contains-append_left, Contains-append_right}
use Rattle.std.proofs.lemmas.List.Sums.{fold-append}
use Rattle.std.proofs.lemmas.Option.{slice_get_within}
use Rattle.std.specs.List.{AllZip}
use Rattle.std.proofs.lemmas.Grind.{flat_map-append}
use Rattle.std.specs.Prelude.{flat_map}
use Rattle.aut_base.proofs.lists.ListTests.{zip_append}
use Rattle.aut_base.proofs.lists.Lists.{slice_get-append_left, take-push}
use Rattle.aut_base.proofs.lists.Members.{each_there}
use Rattle.aut_base.specs.Automaton.{LabelledEdge}
use Rattle.aut_core.proofs.Growth.{kept_edges, keeps_on}
use Rattle.aut_core.specs.SymbolicAutomata.{edge_of}
use Rattle.aut_core.specs.declared.link.Link.{Link}
use Rattle.label_guards.specs.Guards.{IsGuardOf, IsNeverMet, truth_in}
use Rattle.label_guards.specs.Store.{Has, Keeps, Store, label_in}
use Rattle.label_guards.specs.declared.guard.Guard.{Guard}
use Rattle.aut_ops.proofs.pairs.BreadthFirst.{added}
use Rattle.aut_ops.proofs.joint_runs.JointEdges.{joined}
use Rattle.aut_ops.proofs.links.Labels.{label_both, never_is}
use Rattle.aut_ops.proofs.pairs.Places.{pair_tells}
use Rattle.exploration.proofs.Lists.{new_longer}
use Rattle.exploration.specs.Turns.{with_new}
use Rattle.aut_ops.specs.Labels.{both_labels, is_never}
use Rattle.aut_ops.specs.Products.{JointEdge, joint_edge, same_pair}
use Rattle.aut_ops.specs.inner.Pairings.{AddsJointEdges, AreBeyond, AreJointEdges, CanMeet, IsJointEdgeAt, PairingStage, followed, meeting, with_pairs}

abbrev pub ends : List JointEdge → List (ℕ × ℕ)
ends = map (λ j. j.to)

-- items keep their indices when a list grows
pub longer_at : (old new : List (ℕ × ℕ)) (rest : List (ℕ × ℕ)) (k : ℕ) (x : ℕ × ℕ) → new ≡ old ++ rest → slice_get old k ≡ Some x → slice_get new k ≡ Some x
longer_at old new rest k x is at = ap (λ (xs : List (ℕ × ℕ)). slice_get xs k) is ∙ (slice_get-append_left old rest k (slice_get_within old k x at) ∙ at)

pub numbered_longer : (old new rest : List (ℕ × ℕ)) (es : List LabelledEdge) (js : List JointEdge) → new ≡ old ++ rest → AllZip (IsJointEdgeAt old) es js → AllZip (IsJointEdgeAt new) es js
numbered_longer old new rest [] [] is zip = tt
numbered_longer old new rest [] (j ∷ js) is zip = absurd zip
numbered_longer old new rest (e ∷ es) [] is zip = absurd zip
numbered_longer old new rest (e ∷ es) (j ∷ js) is zip = (
  record { from = longer_at old new rest e.from j.from is zip.0.from; to = longer_at old new rest e.to j.to is zip.0.to; label = zip.0.label; marks = zip.0.marks },
  numbered_longer old new rest es js is zip.1,
)

-- no edge is added, but the store may grow
pub adds_nothing : (s t : Store) (pairs : List (ℕ × ℕ)) (links : List Link) → Keeps s t
    → AddsJointEdges (record { store = s; pairs = pairs; links = links }) (record { store = t; pairs = pairs; links = links }) []
adds_nothing s t pairs links keeps = record {
  keeps = keeps;
  pairs = refl;
  links = λ before are. record {
    has = All-weaker (λ (l : Link). Has s l.guard) (λ (l : Link). Has t l.guard) (λ l h. keeps.has l.guard h) links are.has;
    edges = subst (AllZip (IsJointEdgeAt pairs) (map (edge_of t) links)) (sym (append-nil before))
        (subst (λ es. AllZip (IsJointEdgeAt pairs) es before) (sym (kept_edges links keeps are.has)) are.edges);
  };
}

-- an edge is added, and the pair to which it leads is listed
pub adds_one : (s t : Store) (pairs more : List (ℕ × ℕ)) (links new : List Link) (l : Link) (j : JointEdge) → Keeps s t → more ≡ with_new same_pair pairs j.to → new ≡ links ++ l ∷ []
    → Has t l.guard → slice_get pairs l.from ≡ Some j.from → slice_get more l.to ≡ Some j.to → label_in t l.guard ≡ j.label → l.marks ≡ j.marks
    → AddsJointEdges (record { store = s; pairs = pairs; links = links }) (record { store = t; pairs = more; links = new }) (j ∷ [])
adds_one s t pairs more links new l j keeps listed pushed has from to label marks =
    let long = new_longer same_pair pairs j.to in
    let is : more ≡ pairs ++ long.0 = listed ∙ long.1 in
    record {
      keeps = keeps;
      pairs = listed;
      links = λ before are. record {
        has = subst (All (λ (m : Link). Has t m.guard)) (sym pushed)
            (All-push (λ (m : Link). Has t m.guard) links l (All-weaker (λ (m : Link). Has s m.guard) (λ (m : Link). Has t m.guard) (λ m h. keeps.has m.guard h) links are.has) has);
        edges = subst (λ es. AllZip (IsJointEdgeAt more) es (before ++ j ∷ [])) (sym (ap (map (edge_of t)) pushed ∙ map-append (edge_of t) links (l ∷ [])))
            (zip_append (IsJointEdgeAt more) (map (edge_of t) links) (edge_of t l ∷ []) before (j ∷ [])
            (subst (λ es. AllZip (IsJointEdgeAt more) es before) (sym (kept_edges links keeps are.has)) (numbered_longer pairs more long.0 (map (edge_of s) links) before is are.edges))
            (record { from = longer_at pairs more long.0 l.from j.from is from; to = to; label = label; marks = marks }, tt));
      };
    }

-- edges that are added in two steps
pub adds_then : (r s t : PairingStage) (js ks : List JointEdge) → AddsJointEdges r s js → AddsJointEdges s t ks → AddsJointEdges r t (js ++ ks)
adds_then r s t js ks first second = record {
  keeps = keeps_on first.keeps second.keeps;
  pairs = second.pairs ∙ (ap (λ (xs : List (ℕ × ℕ)). with_pairs xs (ends ks)) first.pairs
      ∙ (sym (fold-append (with_new same_pair) r.pairs (ends js) (ends ks)) ∙ ap (with_pairs r.pairs) (sym (map-append (λ (j : JointEdge). j.to) js ks))));
  links = λ before are. subst (AreJointEdges t) (append_assoc before js ks) (second.links (before ++ js) (first.links before are));
}

-- pairs keep their indices
pub adds_keeps_place : (s t : PairingStage) (js : List JointEdge) (k : ℕ) (x : ℕ × ℕ) → AddsJointEdges s t js → slice_get s.pairs k ≡ Some x → slice_get t.pairs k ≡ Some x
adds_keeps_place s t js k x adds at =
    let long = added same_pair pair_tells s.pairs (ends js) in
    longer_at s.pairs t.pairs long.0 k x (adds.pairs ∙ long.1) at

-- more pairs than the limit

pub beyond_wider : (most : ℕ) (pairs xs ys : List (ℕ × ℕ)) → ((x : ℕ × ℕ) → Contains xs x → Contains ys x) → AreBeyond most pairs xs → AreBeyond most pairs ys
beyond_wider most pairs xs ys wider beyond = record { some = beyond.some; among = All-weaker (Contains xs) (Contains ys) wider beyond.some beyond.among; many = beyond.many }

pub beyond_one : (most : ℕ) (pairs : List (ℕ × ℕ)) (x : ℕ × ℕ) → most < length (with_new same_pair pairs x) → AreBeyond most pairs (x ∷ [])
beyond_one most pairs x many = record { some = x ∷ []; among = each_there (Contains (x ∷ [])) (x ∷ []) (λ y there. there); many = many }

pub beyond_then : (most : ℕ) (pairs xs ys : List (ℕ × ℕ)) → AreBeyond most (with_pairs pairs xs) ys → AreBeyond most pairs (xs ++ ys)
beyond_then most pairs xs ys beyond = record {
  some = xs ++ beyond.some;
  among = All-append (Contains (xs ++ ys)) xs beyond.some (each_there (Contains (xs ++ ys)) xs (λ x there. Contains-append_left xs ys x there))
      (All-weaker (Contains ys) (Contains (xs ++ ys)) (λ x there. Contains-append_right xs ys x there) beyond.some beyond.among);
  many = subst (λ (zs : List (ℕ × ℕ)). most < length zs) (sym (fold-append (with_new same_pair) pairs xs beyond.some)) beyond.many;
}

-- the product edge of two links

pub never_met : (s t : Store) (g h k : Guard) (b : Bool) → Keeps s t → IsGuardOf t (λ on. truth_in s g on && truth_in s h on) k → (IsTrue b ↔ IsNeverMet t k)
    → is_never s.names (both_labels s.names (label_in s g) (label_in s h)) ≡ b
never_met s t g h k b keeps is says =
    let label = label_both s t g h k keeps.names is in
    sym (never_is t k b says ∙ (ap (λ n. is_never n (label_in t k)) keeps.names ∙ ap (is_never s.names) label))

pub met_none : (s : Store) (sets : ℕ) (link other : Link) → is_never s.names (both_labels s.names (label_in s link.guard) (label_in s other.guard)) ≡ true → meeting s sets link other ≡ []
met_none s sets link other never = ap (λ (b : Bool). cond b [] (joined s.names sets (edge_of s link) (edge_of s other) ∷ [])) never

pub met_one : (s : Store) (sets : ℕ) (link other : Link) → is_never s.names (both_labels s.names (label_in s link.guard) (label_in s other.guard)) ≡ false
    → meeting s sets link other ≡ joined s.names sets (edge_of s link) (edge_of s other) ∷ []
met_one s sets link other some = ap (λ (b : Bool). cond b [] (joined s.names sets (edge_of s link) (edge_of s other) ∷ [])) some

-- as the store grows, product edges stay the same

pub meeting_kept : (s t : Store) (sets : ℕ) (link other : Link) → Keeps s t → Has s link.guard → Has s other.guard → meeting t sets link other ≡ meeting s sets link other
meeting_kept s t sets link other keeps first second =
    let one : edge_of t link ≡ edge_of s link = λ i. record { from = link.from; label = keeps.labels link.guard first i; to = link.to; marks = link.marks } in
    let two : edge_of t other ≡ edge_of s other = λ i. record { from = other.from; label = keeps.labels other.guard second i; to = other.to; marks = other.marks } in
    λ i. joint_edge (keeps.names i) sets (one i) (two i)

pub spread_kept : (s t : PairingStage) (js : List JointEdge) (at sets : ℕ) (others : List Link) (link : Link) → AddsJointEdges s t js → All (CanMeet s at sets link) others
    → followed t.store sets others link ≡ followed s.store sets others link
spread_kept s t js at sets [] link adds can = refl
spread_kept s t js at sets (o ∷ os) link adds can =
    let first = can 0 o (omega arith) in
    let here = meeting_kept s.store t.store sets link o adds.keeps first.first first.second in
    let rest = spread_kept s t js at sets os link adds (All-tail (CanMeet s at sets link) o os can) in
    λ i. here i ++ rest i

pub can_still : (s t : PairingStage) (js : List JointEdge) (at sets : ℕ) (link other : Link) → AddsJointEdges s t js → CanMeet s at sets link other → CanMeet t at sets link other
can_still s t js at sets link other adds can = record {
  first = adds.keeps.has link.guard can.first;
  second = adds.keeps.has other.guard can.second;
  place = adds_keeps_place s t js at (link.from, other.from) adds can.place;
  marks = can.marks;
  others = can.others;
}

-- a step of a loop that adds edges, for the next item of a list

module _ {X : Type 0} (f : X → List JointEdge) (xs : List X) (i : ℕ) (x : X) (within : i < length xs) (is : x ≡ get_or xs i x) where
  next_of : flat_map f (take (i + 1) xs) ≡ flat_map f (take i xs) ++ f x
  next_of = ap (flat_map f) (take-push xs i x within is) ∙ (flat_map-append f (take i xs) (x ∷ []) ∙ ap (λ js. flat_map f (take i xs) ++ js) (append-nil (f x)))

  pub adds_next : (r s t : PairingStage) (js : List JointEdge) → AddsJointEdges r s (flat_map f (take i xs)) → AddsJointEdges s t js → js ≡ f x → AddsJointEdges r t (flat_map f (take (i + 1) xs))
  adds_next r s t js so_far more same = subst (AddsJointEdges r t) (ap (λ ks. flat_map f (take i xs) ++ ks) same ∙ sym next_of) (adds_then r s t (flat_map f (take i xs)) js so_far more)

  pub beyond_next : (most : ℕ) (r s : PairingStage) (js : List JointEdge) → AddsJointEdges r s (flat_map f (take i xs)) → AreBeyond most s.pairs (ends js) → js ≡ f x
      → AreBeyond most r.pairs (ends (flat_map f xs))
  beyond_next most r s js so_far beyond same =
      let whole : ends (flat_map f xs) ≡ (ends (flat_map f (take i xs)) ++ ends js) ++ ends (flat_map f (drop (i + 1) xs)) =
      ap (λ ys. ends (flat_map f ys)) (sym (take-append-drop (i + 1) xs))
      ∙ (ap ends (flat_map-append f (take (i + 1) xs) (drop (i + 1) xs))
      ∙ (map-append (λ (j : JointEdge). j.to) (flat_map f (take (i + 1) xs)) (flat_map f (drop (i + 1) xs))
      ∙ ap (λ ys. ys ++ ends (flat_map f (drop (i + 1) xs))) (ap ends (next_of ∙ ap (λ ks. flat_map f (take i xs) ++ ks) (sym same))
      ∙ map-append (λ (j : JointEdge). j.to) (flat_map f (take i xs)) js))) in
      let here = beyond_then most r.pairs (ends (flat_map f (take i xs))) (ends js) (subst (λ ps. AreBeyond most ps (ends js)) so_far.pairs beyond) in
      beyond_wider most r.pairs (ends (flat_map f (take i xs)) ++ ends js) (ends (flat_map f xs))
      (λ y there. subst (λ ys. Contains ys y) (sym whole) (Contains-append_left (ends (flat_map f (take i xs)) ++ ends js) (ends (flat_map f (drop (i + 1) xs))) y there)) here
