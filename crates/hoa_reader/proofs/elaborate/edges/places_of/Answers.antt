use Rattle.std.proofs.Common.{◌≡◌, ◌==◌, ◌<◌, ◌+◌, ◌++◌, ◌∷◌, [], ◌∙◌, ℕ, true, false, List, Option, Some, None, get_or, set, length, map, take, drop, sym, ap, subst, arith}
use Rattle.std.proofs.lemmas.Bool.{false≢true, false_from_ne_true}
use Rattle.std.proofs.lemmas.List.{length-map, length-take, map-append, length-set}
use Rattle.std.specs.List.{list_any}
use Rattle.hoa_reader.proofs.validity.AllDiffer.{repeats}
use Rattle.hoa_reader.proofs.labels.StatePlaces.{index_more}
use Rattle.hoa_reader.specs.inner.TreeEdges.{IsPlace}
use Rattle.hoa_reader.specs.inner.PickedOut.{numbers}
use Rattle.hoa_parser.specs.Raw.{WrittenState, written_state}
use Rattle.hoa_reader.specs.Validity.{all_differ}
use Rattle.hoa_parser.specs.declared.raw.RawState.{RawState}
use Rattle.hoa_reader.proofs.elaborate.edges.places_of.Goals as goal
use Rattle.aut_base.proofs.lists.Lists.{take-push, split-at}

abbrev named : List RawState → List ℕ
named states = numbers (map written_state states)

named-append : (xs ys : List RawState) → named (xs ++ ys) ≡ named xs ++ named ys
named-append xs ys = ap numbers (map-append written_state xs ys) ∙ map-append (λ (s : WrittenState). s.number) (map written_state xs) (map written_state ys)

number_is_new : (states : List RawState) (i : ℕ) (state : RawState) → i < length states → state ≡ get_or states i state → all_differ ◌==◌ (named states) ≡ true
    → list_any (λ x. x == state.number) (named (take i states)) ≡ false
number_is_new states i state l is differ =
    let whole : named states ≡ named (take i states) ++ state.number ∷ named (drop (i + 1) states) = ap named (split-at states i state l is)
    ∙ named-append (take i states) (state ∷ drop (i + 1) states) in
    false_from_ne_true _ (λ again. false≢true (repeats ◌==◌ (named (take i states)) state.number (named (drop (i + 1) states)) again ∙ ap (all_differ ◌==◌) (sym whole) ∙ differ))

long : (states : List RawState) (i n : ℕ) → i < length states → n ≡ i → length (map written_state (take i states)) ≡ n
long states i n l e = let a = length-map (take i states) written_state in let b = length-take i states in omega (arith, a, b, l, e)

pub states-preserved : goal.states-preserved
states-preserved c =
    let states = c.args.states.now in
    let i = c.states.state-index in
    let state = c.state-item.result in
    let ws = map written_state (take i states) in
    let index = c.states.places.items in
    let changed : c.put.new.places.items ≡ set index state.number (Some c.states.place) = c.put.ensures in
    let more : map written_state (take (i + 1) states) ≡ ws ++ written_state state ∷ [] = ap (map written_state) (take-push states i state c.states-test.true c.state-item.is)
    ∙ map-append written_state (take i states) (state ∷ []) in
    let before = c.states.invariant in
    record {
      at = ap (λ n. n + 1) before.at;
      len = ap length changed ∙ length-set index state.number (Some c.states.place) ∙ before.len;
      place = λ q l.
          let P : List WrittenState → Type 0 = λ us. IsPlace us q (get_or c.put.new.places.items q None) in
          let Q : List (Option ℕ) → Type 0 = λ ps. IsPlace (ws ++ written_state state ∷ []) q (get_or ps q None) in
          subst P (sym more) (subst Q (sym changed)
          (index_more ws (written_state state) index c.states.place c.args.count before.len (long states i c.states.place c.states-test.true before.at)
          (number_is_new states i state c.states-test.true c.state-item.is c.requires) before.place q l));
    }
