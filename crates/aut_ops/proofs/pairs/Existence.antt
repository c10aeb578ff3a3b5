-- There is a list in breadth-first order within a limit, or more is reached than that.
use Rattle.std.proofs.Common.{◌≡◌, ◌≢◌, ◌∙◌, ◌⊎◌, ◌+◌, ◌<◌, ◌≤◌, ℕ, zero, suc, Bool, List, [], ◌∷◌, ◌++◌, All, AllPairs, Some}
use Rattle.std.proofs.Common.{ap, append-nil, append_assoc, arith, fold, inl, inr, length, refl, slice_get, subst, sym, take}
use Rattle.std.proofs.lemmas.Bool.{cases_lt}
use Rattle.std.proofs.lemmas.Grind.{flat_map-append}
use Rattle.std.proofs.lemmas.List.{take-append-le, take_all}
use Rattle.std.proofs.lemmas.List.Sums.{fold-append}
use Rattle.std.proofs.lemmas.Option.{slice_get-get_or}
use Rattle.std.specs.Prelude.{flat_map}
use Rattle.aut_base.proofs.lists.Lists.{take-slice_get}
use Rattle.aut_base.proofs.lists.Members.{Tells, each_there, item_at}
use Rattle.aut_ops.proofs.pairs.BreadthFirst.{added, added_differ, added_each, once_differ, reached_next, reached_start}
use Rattle.aut_ops.proofs.pairs.Places.{pair_tells}
use Rattle.aut_ops.specs.BreadthFirst.{IsBreadthFirst, IsReachedFrom}
use Rattle.aut_ops.specs.inner.Parts.{once}
use Rattle.exploration.specs.Turns.{with_new}
use Rattle.aut_ops.specs.Laws.{PairsExist, ProductsExist}
use Rattle.aut_ops.specs.Products.{next_pairs, product_on, same_pair, start_pairs}

module _ {X : Type 0} (same : X → X → Bool) (tells : Tells same) (starts : List X) (next : X → List X) where
  -- the list once the first `done` items were expanded
  record IsListing (done : ℕ) (list : List X) : Type 0 where
    in_turn : list ≡ once same (starts ++ flat_map next (take done list))
    differ : AllPairs (λ x y. x ≢ y) list
    reached : All (IsReachedFrom starts next) list

  listing_none : IsListing 0 (once same starts)
  listing_none = record {
    in_turn = ap (once same) (sym (append-nil starts));
    differ = once_differ same tells starts;
    reached = added_each same tells (IsReachedFrom starts next) [] starts (λ k d within. absurd (omega (arith, within))) (each_there (IsReachedFrom starts next) starts (reached_start starts next));
  }

  -- another item is expanded
  listing_more : (done : ℕ) (list : List X) (x : X) → slice_get list done ≡ Some x → done < length list → IsReachedFrom starts next x → IsListing done list
      → IsListing (done + 1) (fold (with_new same) list (next x))
  listing_more done list x at within here so_far =
      let grown = added same tells list (next x) in
      let front : take (done + 1) (fold (with_new same) list (next x)) ≡ take done list ++ x ∷ [] =
      ap (take (done + 1)) grown.1 ∙ (take-append-le (done + 1) list grown.0 (omega (arith, within)) ∙ take-slice_get list done x at) in
      let whole : flat_map next (take (done + 1) (fold (with_new same) list (next x))) ≡ flat_map next (take done list) ++ next x =
      ap (flat_map next) front ∙ (flat_map-append next (take done list) (x ∷ []) ∙ ap (λ ys. flat_map next (take done list) ++ ys) (append-nil (next x))) in
      record {
        in_turn = ap (λ ys. fold (with_new same) ys (next x)) so_far.in_turn
            ∙ (sym (fold-append (with_new same) [] (starts ++ flat_map next (take done list)) (next x))
            ∙ ap (once same) (append_assoc starts (flat_map next (take done list)) (next x) ∙ ap (λ ys. starts ++ ys) (sym whole)));
        differ = added_differ same tells list (next x) so_far.differ;
        reached = added_each same tells (IsReachedFrom starts next) list (next x) so_far.reached (each_there (IsReachedFrom starts next) (next x) (λ y there. reached_next starts next x y here there));
      }

  abbrev IsWhole : ℕ → Type 0
  IsWhole most = (list : List X) × IsBreadthFirst same starts next list × (length list ≤ most)

  abbrev IsMore : ℕ → Type 0
  IsMore most = (list : List X) × AllPairs (λ x y. x ≢ y) list × All (IsReachedFrom starts next) list × (most < length list)

  -- all items were expanded, or there are too many, or one is still to be expanded
  abbrev Unfinished : ℕ → ℕ → List X → Type 0
  Unfinished most done list = (done < length list) × (length list ≤ most)

  look : (most done : ℕ) (list : List X) → IsListing done list → IsWhole most ⊎ IsMore most ⊎ Unfinished most done list
  look most done list so_far = elim (cases_lt most (length list)) [
    | inl more ↦ inr (inl (list, so_far.differ, so_far.reached, more))
    | inr few ↦ elim (cases_lt done (length list)) [
      | inl within ↦ inr (inr (within, few))
      | inr all ↦ inl (list, record { in_turn = so_far.in_turn ∙ ap (λ ys. once same (starts ++ flat_map next ys)) (take_all done list all); reached = so_far.reached }, few)
    ]
  ]

  whole_or_more : (n most done : ℕ) (list : List X) → most < done + n → IsListing done list → IsWhole most ⊎ IsMore most
  whole_or_more zero most done list enough so_far = elim (look most done list so_far) [
    | inl whole ↦ inl whole
    | inr rest ↦ elim rest [
      | inl more ↦ inr more
      | inr left ↦ (let within = left.0 in let few = left.1 in absurd (omega (arith, enough, within, few)))
    ]
  ]
  whole_or_more (suc n) most done list enough so_far = elim (look most done list so_far) [
    | inl whole ↦ inl whole
    | inr rest ↦ elim rest [
      | inl more ↦ inr more
      | inr left ↦ (
          let within = left.0 in
          let item = item_at list done within in
          whole_or_more n most (done + 1) (fold (with_new same) list (next item.0)) (omega (arith, enough))
          (listing_more done list item.0 (slice_get-get_or list done item.0 within ∙ ap Some item.1) within (subst (IsReachedFrom starts next) item.1 (so_far.reached done item.0 within)) so_far)
          )
    ]
  ]

pub pairs_exist : PairsExist
pairs_exist most a b =
    let found = whole_or_more same_pair pair_tells (start_pairs a b) (next_pairs a b) (suc most) most 0 (once same_pair (start_pairs a b)) (omega arith)
    (listing_none same_pair pair_tells (start_pairs a b) (next_pairs a b)) in
    elim found [
      | inl whole ↦ inl whole
      | inr more ↦ inr (record { pairs = more.0; differ = more.1; reached = more.2; more = more.3 })
    ]

pub products_exist : ProductsExist
products_exist join most a b = elim (pairs_exist most a b) [
  | inl whole ↦ inl (product_on join whole.0 a b, record { pairs = whole.0; in_order = whole.1; is = refl }, whole.2)
  | inr more ↦ inr more
]
