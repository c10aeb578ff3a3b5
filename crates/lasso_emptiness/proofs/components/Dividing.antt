-- The loops that take groups one after the other from a list: one divides them by a set literal, the other judges them.
use Rattle.std.proofs.Common.{◌≡◌, ◌∙◌, ◌⊎◌, ℕ, ◌<◌, Bool, true, false, List, [], ◌∷◌, ◌++◌, length, map, Option, None, Some, inl, inr, arith, subst, sym}
use Rattle.std.specs.Prelude.{MatchOption}
use Rattle.std.specs.List.{All, Contains}
use Rattle.std.proofs.lemmas.Bool.{true≢false}
use Rattle.std.proofs.lemmas.List.Elements.{All-contains, Contains-append_left, Contains-push, Contains-push_cases}
use Rattle.aut_base.proofs.lists.Members.{each_there, from_map, none_there, there_map}
use Rattle.aut_base.specs.Formula.{FormulaTree}
use Rattle.aut_core.specs.declared.link.Link.{Link}
use Rattle.lasso_emptiness.specs.declared.live.EdgeRef.{EdgeRef}
use Rattle.lasso_emptiness.specs.declared.side.SetLiteral.{SetLiteral}
use Rattle.lasso_emptiness.specs.inner.Edges.{marks_of, met_along, on_side}
use Rattle.lasso_emptiness.specs.inner.Judged.{IsNever, has_side}
use Rattle.lasso_emptiness.specs.inner.Splits.{AddsOff, AreLeft, Crosses, IsMetGroup, AreGroupsSplit}
use Rattle.lasso_emptiness.specs.inner.Trails.{InSome, IsTrail, NoneAccepting, NoneInAny}
use Rattle.lasso_emptiness.proofs.trails.Trails.{trail_kind}

-- the members of a list after `pop`
popped_rest : {A : Type 0} (all rest : List A) (x y : A) → all ≡ rest ++ x ∷ [] → Contains rest y → Contains all y
popped_rest all rest x y is here = subst (λ xs. Contains xs y) (sym is) (Contains-append_left rest (x ∷ []) y here)

pub popped_item : {A : Type 0} (all rest : List A) (x : A) → all ≡ rest ++ x ∷ [] → Contains all x
popped_item all rest x is = subst (λ xs. Contains xs x) (sym is) (Contains-push rest x)

popped_cases : {A : Type 0} (all rest : List A) (x y : A) → all ≡ rest ++ x ∷ [] → Contains all y → Contains rest y ⊎ (x ≡ y)
popped_cases all rest x y is here = Contains-push_cases rest x y (subst (λ xs. Contains xs y) is here)

none_left : {A : Type 0} (all : List A) (y : A) → length all ≡ 0 → Contains all y → ⊥
none_left all y empty here = let within = here.1 in omega arith

pub record IsDivided (links : List Link) (set : ℕ) (neg : Bool) (group off : List EdgeRef) (crossed : List (List EdgeRef)) : Type 0 where
  pub to_off : (e : EdgeRef) → Contains group e → on_side set neg (marks_of links e) ≡ false → Contains off e
  pub to_crossed : (e : EdgeRef) → Contains group e → on_side set neg (marks_of links e) ≡ true → Contains crossed group

-- the invariant of dividing: the groups `rest` are still to be divided
pub record DividedSoFar (links : List Link) (set : ℕ) (neg : Bool) (all rest : List (List EdgeRef)) (off : List EdgeRef) (crossed : List (List EdgeRef)) : Type 0 where
  pub rest_inside : (group : List EdgeRef) → Contains rest group → Contains all group
  pub off_some : (e : EdgeRef) → Contains off e → InSome all e
  pub off_side : (e : EdgeRef) → Contains off e → on_side set neg (marks_of links e) ≡ false
  pub crossed_inside : (group : List EdgeRef) → Contains crossed group → Contains all group
  pub crosses : (group : List EdgeRef) → Contains crossed group → Crosses links set neg group
  pub done : (group : List EdgeRef) → Contains all group → Contains rest group ⊎ IsDivided links set neg group off crossed

module _ (links : List Link) (set : ℕ) (neg : Bool) (all : List (List EdgeRef)) where
  divided_more : (before rest : List (List EdgeRef)) (off new : List EdgeRef) (crossed crossed' : List (List EdgeRef)) (group : List EdgeRef) → before ≡ rest ++ group ∷ []
      → AddsOff links set neg group off new → ((g : List EdgeRef) → Contains crossed g → Contains crossed' g)
      → ((g : List EdgeRef) → Contains crossed' g → Contains crossed g ⊎ ((group ≡ g) × Crosses links set neg group))
      → ((e : EdgeRef) → Contains group e → on_side set neg (marks_of links e) ≡ true → Contains crossed' group) → DividedSoFar links set neg all before off crossed
      → DividedSoFar links set neg all rest new crossed'
  divided_more before rest off new crossed crossed' group popped adds kept from covers so_far = record {
    rest_inside = λ g here. so_far.rest_inside g (popped_rest before rest group g popped here);
    off_some = λ e here. elim (adds.nothing_else e here) [
      | inl old ↦ so_far.off_some e old
      | inr added ↦ record { group = group; listed = listed; here = added.0 }
    ];
    off_side = λ e here. elim (adds.nothing_else e here) [ inl old ↦ so_far.off_side e old | inr added ↦ added.1 ];
    crossed_inside = λ g here. elim (from g here) [ inl old ↦ so_far.crossed_inside g old | inr new ↦ subst (Contains all) new.0 listed ];
    crosses = λ g here. elim (from g here) [ inl old ↦ so_far.crosses g old | inr new ↦ subst (Crosses links set neg) new.0 new.1 ];
    done = λ g here. elim (so_far.done g here) [
      | inl left ↦ elim (popped_cases before rest group g popped left) [
        | inl later ↦ inl later
        | inr same ↦ inr (subst (λ h. IsDivided links set neg h new crossed') same (record { to_off = adds.added; to_crossed = covers }))
      ]
      | inr divided ↦ inr (record {
        to_off = λ e there off_side. adds.kept e (divided.to_off e there off_side);
        to_crossed = λ e there on. kept g (divided.to_crossed e there on);
      })
    ];
  }
    where
      listed : Contains all group
      listed = so_far.rest_inside group (popped_item before rest group popped)

  pub divided_crossed : (before rest : List (List EdgeRef)) (off new : List EdgeRef) (crossed crossed' : List (List EdgeRef)) (group : List EdgeRef) → before ≡ rest ++ group ∷ []
      → AddsOff links set neg group off new → crossed' ≡ crossed ++ group ∷ [] → Crosses links set neg group → DividedSoFar links set neg all before off crossed
      → DividedSoFar links set neg all rest new crossed'
  divided_crossed before rest off new crossed crossed' group popped adds made on_it so_far =
      divided_more before rest off new crossed crossed' group popped adds (λ g here. popped_rest crossed' crossed group g made here)
      (λ g here. elim (popped_cases crossed' crossed group g made here) [ inl old ↦ inl old | inr same ↦ inr (same, on_it) ]) (λ e here on. popped_item crossed' crossed group made) so_far

  pub divided_off : (before rest : List (List EdgeRef)) (off new : List EdgeRef) (crossed : List (List EdgeRef)) (group : List EdgeRef) → before ≡ rest ++ group ∷ []
      → AddsOff links set neg group off new → All (λ (e : EdgeRef). on_side set neg (marks_of links e) ≡ false) group → DividedSoFar links set neg all before off crossed
      → DividedSoFar links set neg all rest new crossed
  divided_off before rest off new crossed group popped adds none so_far =
      divided_more before rest off new crossed crossed group popped adds (λ g here. here) (λ g here. inl here)
      (λ e here on. absurd (true≢false (sym on ∙ All-contains (λ (d : EdgeRef). on_side set neg (marks_of links d) ≡ false) group e none here))) so_far

  pub divided_all : (before : List (List EdgeRef)) (off : List EdgeRef) (crossed : List (List EdgeRef)) → length before ≡ 0 → DividedSoFar links set neg all before off crossed
      → AreGroupsSplit links set neg all off crossed
  divided_all before off crossed empty so_far = record {
    off_some = so_far.off_some;
    off_side = so_far.off_side;
    all_off = λ e some on. elim (so_far.done some.group some.listed) [
      | inl left ↦ absurd (none_left before some.group empty left)
      | inr divided ↦ divided.to_off e some.here on
    ];
    inside = so_far.crossed_inside;
    crosses = so_far.crosses;
    all_crossed = λ group e listed here on. elim (so_far.done group listed) [
      | inl left ↦ absurd (none_left before group empty left)
      | inr divided ↦ divided.to_crossed e here on
    ];
  }

-- the invariant of judging: the groups `rest` are still to be judged, and `left` are open
pub record JudgedSoFar (links : List Link) (f : FormulaTree) (all rest left : List (List EdgeRef)) (undecided : Option SetLiteral) : Type 0 where
  pub rest_inside : (group : List EdgeRef) → Contains rest group → Contains all group
  pub left_inside : (group : List EdgeRef) → Contains left group → Contains all group
  pub done : (group : List EdgeRef) → Contains all group → Contains rest group ⊎ (Contains left group ⊎ NoneAccepting links (Contains group) f)
  pub side : MatchOption undecided (left ≡ []) (λ s. has_side s.set s.neg f ≡ true)

module _ (links : List Link) (f : FormulaTree) where
  -- a group without edges has no closed path
  pub none_in_empty : (group : List EdgeRef) → length group ≡ 0 → NoneAccepting links (Contains group) f
  none_in_empty group empty cycle accepting = go cycle accepting.some accepting.closed
    where
      go : (es : List EdgeRef) → 0 < length es → IsTrail (Contains group) accepting.state es accepting.state → ⊥
      go [] some closed = omega arith
      go (e ∷ es) some closed = let within = closed.0.1 in omega arith

  pub none_in_never : (group : List EdgeRef) → IsNever (map (marks_of links) group) f → NoneAccepting links (Contains group) f
  none_in_never group never cycle accepting =
      true≢false (sym accepting.meets ∙ never (map (marks_of links) cycle) (each_there (Contains (map (marks_of links) group)) (map (marks_of links) cycle) (λ marks here.
      let edge = from_map (marks_of links) cycle marks here in
      subst (Contains (map (marks_of links) group)) edge.2
      (there_map (marks_of links) group edge.0 (trail_kind (Contains group) accepting.state accepting.state cycle edge.0 accepting.closed edge.1)))))

  module _ (all : List (List EdgeRef)) where
    pub judged_never : (before rest left : List (List EdgeRef)) (undecided : Option SetLiteral) (group : List EdgeRef) → before ≡ rest ++ group ∷ [] → NoneAccepting links (Contains group) f
        → JudgedSoFar links f all before left undecided → JudgedSoFar links f all rest left undecided
    judged_never before rest left undecided group popped never so_far = record {
      rest_inside = λ g here. so_far.rest_inside g (popped_rest before rest group g popped here);
      left_inside = so_far.left_inside;
      done = λ g here. elim (so_far.done g here) [
        | inl still ↦ elim (popped_cases before rest group g popped still) [
          | inl later ↦ inl later
          | inr same ↦ inr (inr (subst (λ h. NoneAccepting links (Contains h) f) same never))
        ]
        | inr judged ↦ inr judged
      ];
      side = so_far.side;
    }

    pub judged_open : (before rest left new : List (List EdgeRef)) (undecided : Option SetLiteral) (side : SetLiteral) (group : List EdgeRef) → before ≡ rest ++ group ∷ [] → new ≡ left ++ group ∷ []
        → has_side side.set side.neg f ≡ true → JudgedSoFar links f all before left undecided → JudgedSoFar links f all rest new (Some side)
    judged_open before rest left new undecided side group popped made has so_far = record {
      rest_inside = λ g here. so_far.rest_inside g (popped_rest before rest group g popped here);
      left_inside = λ g here. elim (popped_cases new left group g made here) [
        | inl old ↦ so_far.left_inside g old
        | inr same ↦ subst (Contains all) same (so_far.rest_inside group (popped_item before rest group popped))
      ];
      done = λ g here. elim (so_far.done g here) [
        | inl still ↦ elim (popped_cases before rest group g popped still) [
          | inl later ↦ inl later
          | inr same ↦ inr (inl (subst (Contains new) same (popped_item new left group made)))
        ]
        | inr judged ↦ elim judged [
          | inl old ↦ inr (inl (popped_rest new left group g made old))
          | inr never ↦ inr (inr never)
        ]
      ];
      side = has;
    }

    pub judged_met : (before rest left : List (List EdgeRef)) (undecided : Option SetLiteral) (group : List EdgeRef) → before ≡ rest ++ group ∷ [] → 0 < length group
        → met_along links group f ≡ true → JudgedSoFar links f all before left undecided → IsMetGroup links all f group
    judged_met before rest left undecided group popped some meets so_far = record {
      listed = so_far.rest_inside group (popped_item before rest group popped);
      some = some;
      meets = meets;
    }

    pub judged_all_never : (before left : List (List EdgeRef)) → length before ≡ 0 → JudgedSoFar links f all before left None → NoneInAny links all f
    judged_all_never before left empty so_far group listed = elim (so_far.done group listed) [
      | inl still ↦ absurd (none_left before group empty still)
      | inr judged ↦ elim judged [
        | inl here ↦ absurd (none_there group (subst (λ gs. Contains gs group) so_far.side here))
        | inr never ↦ never
      ]
    ]

    pub judged_all_open : (before left : List (List EdgeRef)) (side : SetLiteral) → length before ≡ 0 → JudgedSoFar links f all before left (Some side)
        → (has_side side.set side.neg f ≡ true) × AreLeft links all f left
    judged_all_open before left side empty so_far = (
      so_far.side,
      record {
        inside = so_far.left_inside;
        others = λ group listed. elim (so_far.done group listed) [
          | inl still ↦ absurd (none_left before group empty still)
          | inr judged ↦ judged
        ];
      },
    )
