-- The cubes of a place are those of its label, and their text.
use Rattle.std.proofs.Common.{◌≡◌, ℕ, zero, suc, ◌+◌, ◌-◌, ◌<◌, ◌≤◌, ◌∙◌, sym, ap, refl, arith, Bool, true, false, cond, if◌then◌else◌, ◌⊎◌, inl, inr, List, [], ◌∷◌, ◌++◌, map, drop, length}
use Rattle.std.proofs.lemmas.List.{append-nil, get_or-drop, length-drop}
use Rattle.std.specs.Prelude.{codes}
use Rattle.aut_base.specs.CanonicalLabel.{Literal, is_independent, cubes}
use Rattle.aut_base.specs.LabelText.{label_text, cubes_text, joined, literal_text}
use Rattle.aut_base.specs.Valuation.{holds_in, truth_on}
use Rattle.aut_base.proofs.canonical.ValuationLists.{independent_agrees, independent_from}
use Rattle.label_guards.specs.declared.guard.Guard.{Guard}
use Rattle.label_guards.specs.declared.nodes.Node.{Node}
use Rattle.label_guards.specs.Nodes.{level, IsReducedDiagram, IsNodeAt}
use Rattle.label_guards.specs.Pieces.{cube_piece, pieces_after, is_any, shifted, cubes_from, place_cubes, WritesCubes}
use Rattle.label_guards.specs.Store.{Store, Has, HasPlace, label_in, outcome}
use Rattle.label_guards.proofs.diagrams.Agreement.{outcome_agrees}
use Rattle.label_guards.proofs.labelled.LabelTruth.{truth_is}
use Rattle.label_guards.proofs.diagrams.Outcomes.{outcome-false, outcome-true}
use Rattle.label_guards.proofs.diagrams.Reduced.{level_most}
use Rattle.label_guards.proofs.diagrams.Unique.{unique_on}

abbrev split : ℕ → Bool → List (List Literal) → List (List Literal) → List (List Literal)
split i b low high = cond b low (map (λ cube. record { prop = i; holds = false } ∷ cube) low ++ map (λ cube. record { prop = i; holds = true } ∷ cube) high)

shifted-later : (i : ℕ) (b : Bool) (v : List Bool) (j : ℕ) → i < j → shifted i (b ∷ v) j ≡ shifted (i + 1) v j
shifted-later i b v j h = let e : j - i ≡ suc (j - (i + 1)) = omega arith in ap (holds_in (b ∷ v)) e

shifted-here : (i : ℕ) (b : Bool) (v : List Bool) → shifted i (b ∷ v) i ≡ b
shifted-here i b v = let e : i - i ≡ 0 = omega arith in ap (holds_in (b ∷ v)) e

module _ (s : Store) (is : IsReducedDiagram s.names s.nodes) where
  -- where the i-th proposition comes before those that are asked for
  behind : (i p : ℕ) → HasPlace s p → i < level s p → (b : Bool) (v : List Bool) → outcome s.nodes (shifted i (b ∷ v)) p ≡ outcome s.nodes (shifted (i + 1) v) p
  behind i p has h b v = outcome_agrees s is p has (shifted i (b ∷ v)) (shifted (i + 1) v) (λ j x y. shifted-later i b v j (omega arith))

  skip : (i m p : ℕ) → HasPlace s p → i < level s p → s.names - i ≡ suc m → cubes_from s i p ≡ cubes i (suc m) (λ v. outcome s.nodes (shifted i v) p)
  skip i m p has h e = ap (λ k. cubes i k (λ v. outcome s.nodes (shifted i v) p)) e

  passed : (i m p : ℕ) → HasPlace s p → i < level s p → s.names - (i + 1) ≡ m → cubes i (suc m) (λ v. outcome s.nodes (shifted i v) p) ≡ cubes_from s (i + 1) p
  passed i m p has h e =
      let g : List Bool → Bool = λ v. outcome s.nodes (shifted i v) p in
      let alike : is_independent m g ≡ true = independent_from m g (λ v size. behind i p has h false v ∙ sym (behind i p has h true v)) in
      ap (λ b. split i b (cubes (i + 1) m (λ v. g (false ∷ v))) (cubes (i + 1) m (λ v. g (true ∷ v)))) alike
      ∙ (λ j. cubes (i + 1) (sym e j) (λ v. behind i p has h false v j))

  to_level : (d i p : ℕ) → HasPlace s p → i + d ≡ level s p → cubes_from s i p ≡ cubes_from s (level s p) p
  to_level zero i p has e = let f : i ≡ level s p = omega arith in ap (λ k. cubes_from s k p) f
  to_level (suc d) i p has e =
      let most = level_most s is p has in
      let one : s.names - i ≡ suc (s.names - (i + 1)) = omega arith in
      skip i (s.names - (i + 1)) p has (omega arith) one ∙ (passed i (s.names - (i + 1)) p has (omega arith) refl ∙ to_level d (i + 1) p has (omega arith))

  from_before : (i p : ℕ) → HasPlace s p → i ≤ level s p → cubes_from s i p ≡ place_cubes s p
  unfolding place_cubes
  from_before i p has h = to_level (level s p - i) i p has (omega arith)

  pub cubes_false : place_cubes s 0 ≡ []
  unfolding place_cubes
  cubes_false =
      let none : s.names - s.names ≡ 0 = omega arith in
      ap (λ k. cubes s.names k (λ v. outcome s.nodes (shifted s.names v) 0)) none ∙ ap (λ b. cond b ([] ∷ []) []) (outcome-false s.nodes (shifted s.names []))

  pub cubes_true : place_cubes s 1 ≡ [] ∷ []
  unfolding place_cubes
  cubes_true =
      let none : s.names - s.names ≡ 0 = omega arith in
      ap (λ k. cubes s.names k (λ v. outcome s.nodes (shifted s.names v) 1)) none ∙ ap (λ b. cond b ([] ∷ []) []) (outcome-true s.nodes (shifted s.names []))

  -- a side of a node, under the value that leads to it
  side : (p : ℕ) (n : Node) → IsNodeAt s p n → HasPlace s p → (b : Bool) (v : List Bool)
      → outcome s.nodes (shifted n.prop (b ∷ v)) p ≡ outcome s.nodes (shifted (n.prop + 1) v) (if b then n.high else n.low)
  side p n at has true v = let a = at.node.high in at.truth (shifted n.prop (true ∷ v))
      ∙ (ap (λ c. if c then outcome s.nodes (shifted n.prop (true ∷ v)) n.high else outcome s.nodes (shifted n.prop (true ∷ v)) n.low) (shifted-here n.prop true v)
      ∙ behind n.prop n.high (omega arith) at.node.high_later true v)
  side p n at has false v = let a = at.node.low in at.truth (shifted n.prop (false ∷ v))
      ∙ (ap (λ c. if c then outcome s.nodes (shifted n.prop (false ∷ v)) n.high else outcome s.nodes (shifted n.prop (false ∷ v)) n.low) (shifted-here n.prop false v)
      ∙ behind n.prop n.low (omega arith) at.node.low_later false v)

  -- what is left of a valuation
  rest : (k p : ℕ) → HasPlace s p → k < level s p → (w : List Bool) → outcome s.nodes (holds_in w) p ≡ outcome s.nodes (shifted (k + 1) (drop (k + 1) w)) p
  rest k p has h w = outcome_agrees s is p has (holds_in w) (shifted (k + 1) (drop (k + 1) w)) (λ j x y.
      let e : k + 1 + (j - (k + 1)) ≡ j = omega arith in
      sym (get_or-drop (k + 1) w (j - (k + 1)) false ∙ ap (holds_in w) e))

  depends : (p : ℕ) (n : Node) → IsNodeAt s p n → HasPlace s p → (m : ℕ) → s.names - (n.prop + 1) ≡ m → (b : Bool) → is_independent m (λ v. outcome s.nodes (shifted n.prop v) p) ≡ b → b ≡ false
  depends p n at has m e false h = refl
  depends p n at has m e true h =
      let a = at.node.low in
      let b = at.node.high in
      let c = at.node.within in
      absurd (at.node.differ (unique_on s is n.low n.high (omega arith) (omega arith) (λ w size.
      let long : length (drop (n.prop + 1) w) ≡ m = length-drop (n.prop + 1) w ∙ (ap (λ k. k - (n.prop + 1)) size ∙ e) in
      let v : List Bool = drop (n.prop + 1) w in
      rest n.prop n.low (omega arith) at.node.low_later w ∙ (sym (side p n at has false v) ∙ (independent_agrees m (λ v. outcome s.nodes (shifted n.prop v) p) h v long
      ∙ (side p n at has true v ∙ sym (rest n.prop n.high (omega arith) at.node.high_later w)))))))

  pub cubes_node : (p : ℕ) (n : Node) → IsNodeAt s p n → HasPlace s p
      → place_cubes s p ≡ map (λ cube. record { prop = n.prop; holds = false } ∷ cube) (place_cubes s n.low) ++ map (λ cube. record { prop = n.prop; holds = true } ∷ cube) (place_cubes s n.high)
  unfolding place_cubes
  cubes_node p n at has =
      let a = at.node.low in
      let b = at.node.high in
      let c = at.node.within in
      let d = at.node.low_later in
      let e = at.node.high_later in
      let m : ℕ = s.names - (n.prop + 1) in
      let g : List Bool → Bool = λ v. outcome s.nodes (shifted n.prop v) p in
      let one : s.names - n.prop ≡ suc m = omega arith in
      let low : cubes (n.prop + 1) m (λ v. g (false ∷ v)) ≡ place_cubes s n.low = (λ j. cubes (n.prop + 1) m (λ v. side p n at has false v j))
      ∙ from_before (n.prop + 1) n.low (omega arith) (omega arith) in
      let high : cubes (n.prop + 1) m (λ v. g (true ∷ v)) ≡ place_cubes s n.high = (λ j. cubes (n.prop + 1) m (λ v. side p n at has true v j))
      ∙ from_before (n.prop + 1) n.high (omega arith) (omega arith) in
      ap (λ k. cubes_from s k p) at.level
      ∙ (ap (λ k. cubes n.prop k g) one
      ∙ (ap (λ b. split n.prop b (cubes (n.prop + 1) m (λ v. g (false ∷ v))) (cubes (n.prop + 1) m (λ v. g (true ∷ v)))) (depends p n at has m refl (is_independent m g) refl)
      ∙ (λ j. map (λ cube. record { prop = n.prop; holds = false } ∷ cube) (low j) ++ map (λ cube. record { prop = n.prop; holds = true } ∷ cube) (high j))))

  -- the cubes of a guard's label
  pub cubes_of_guard : (g : Guard) → Has s g → cubes 0 s.names (truth_on (label_in s g)) ≡ place_cubes s g.place
  cubes_of_guard g has =
      let none : s.names ≡ s.names - 0 = omega arith in
      let same : (v : List Bool) → truth_on (label_in s g) v ≡ outcome s.nodes (shifted 0 v) g.place = λ v. truth_is s is g has (holds_in v)
      ∙ outcome_agrees s is g.place has (holds_in v) (shifted 0 v) (λ j x y. let e : j ≡ j - 0 = omega arith in ap (holds_in v) e) in
      (λ j. cubes 0 (none j) (λ v. same v j)) ∙ from_before 0 g.place has (omega arith)

-- each cube has a literal
abbrev AllLong : List (List Literal) → Type 0
AllLong [] = Unit {0}
AllLong ([] ∷ cs) = ⊥
AllLong ((l ∷ ls) ∷ cs) = AllLong cs

long_under : (l : Literal) (cs : List (List Literal)) → AllLong (map (λ cube. l ∷ cube) cs)
long_under l [] = tt
long_under l (c ∷ cs) = long_under l cs

long-append : (cs ds : List (List Literal)) → AllLong cs → AllLong ds → AllLong (cs ++ ds)
long-append [] ds h k = k
long-append ([] ∷ cs) ds h k = absurd h
long-append ((l ∷ ls) ∷ cs) ds h k = long-append cs ds h k

abbrev IsTidy : List (List Literal) → Type 0
IsTidy cs = (cs ≡ [] ∷ []) ⊎ AllLong cs

-- an empty cube stands alone
tidy_cubes : (i n : ℕ) (g : List Bool → Bool) → IsTidy (cubes i n g)
tidy_cubes i zero g = elim (g []) as (λ b. IsTidy (cond b ([] ∷ []) [])) [ true ↦ inl refl | false ↦ inr tt ]
tidy_cubes i (suc n) g =
    let low = cubes (i + 1) n (λ v. g (false ∷ v)) in
    let high = cubes (i + 1) n (λ v. g (true ∷ v)) in
    elim (is_independent n g) as (λ b. IsTidy (split i b low high)) [
      | true ↦ tidy_cubes (i + 1) n (λ v. g (false ∷ v))
      | false ↦ inr (long-append (map (λ cube. record { prop = i; holds = false } ∷ cube) low) (map (λ cube. record { prop = i; holds = true } ∷ cube) high)
          (long_under (record { prop = i; holds = false }) low) (long_under (record { prop = i; holds = true }) high))
    ]

long_pieces : (cs : List (List Literal)) → AllLong cs → map cube_piece cs ≡ map (λ cube. joined (codes "&") (map literal_text cube)) cs
long_pieces [] h = refl
long_pieces ([] ∷ cs) h = absurd h
long_pieces ((l ∷ ls) ∷ cs) h = ap (λ xs. joined (codes "&") (map literal_text (l ∷ ls)) ∷ xs) (long_pieces cs h)

tidy_text : (cs : List (List Literal)) → IsTidy cs → true ≡ is_any cs → pieces_after false (codes " | ") (map cube_piece cs) ≡ cubes_text cs
tidy_text [] tidy h = absurd cc
tidy_text ([] ∷ cs) (inl e) h = let none : cs ≡ [] = cc in rw none refl
tidy_text ([] ∷ cs) (inr f) h = absurd f
tidy_text ((l ∷ ls) ∷ cs) (inl e) h = absurd cc
tidy_text ((l ∷ ls) ∷ cs) (inr f) h = ap (joined (codes " | ")) (long_pieces ((l ∷ ls) ∷ cs) f)

no_cube : (cs : List (List Literal)) → false ≡ is_any cs → cs ≡ []
no_cube [] h = refl
no_cube (c ∷ cs) h = absurd cc

-- the text of a label, by the cubes of its place
pub label_of_cubes : (s : Store) (is : IsReducedDiagram s.names s.nodes) (g : Guard) → Has s g → (cs : List (List Literal)) → place_cubes s g.place ≡ cs
    → label_text s.names (label_in s g) ≡ cubes_text cs
label_of_cubes s is g has cs e = ap cubes_text (cubes_of_guard s is g has ∙ e)

-- what is written of a label that has a cube
pub label_written : (s : Store) (is : IsReducedDiagram s.names s.nodes) (g : Guard) → Has s g → (literals : List Literal) (now : Bool) (old new : List ℕ) → literals ≡ []
    → WritesCubes literals (place_cubes s g.place) false now old new → now ≡ true → new ≡ old ++ label_text s.names (label_in s g)
label_written s is g has literals now old new none w h =
    let all = cubes_of_guard s is g has in
    let cs = cubes 0 s.names (truth_on (label_in s g)) in
    let some : true ≡ is_any cs = sym h ∙ (w.some ∙ ap is_any (sym all)) in
    w.text ∙ (λ j. old ++ pieces_after false (codes " | ") (map (λ cube. cube_piece (none j ++ cube)) (sym all j)))
    ∙ ap (λ t. old ++ t) (tidy_text cs (tidy_cubes 0 s.names (truth_on (label_in s g))) some)

-- and of one that has none
pub no_label_written : (s : Store) (is : IsReducedDiagram s.names s.nodes) (g : Guard) → Has s g → (literals : List Literal) (now : Bool) (old new last : List ℕ)
    → WritesCubes literals (place_cubes s g.place) false now old new → now ≡ false → last ≡ new ++ codes "f" → last ≡ old ++ label_text s.names (label_in s g)
no_label_written s is g has literals now old new last w h f =
    let none : place_cubes s g.place ≡ [] = no_cube (place_cubes s g.place) (sym h ∙ w.some) in
    let same : new ≡ old = w.text ∙ (ap (λ ds. old ++ pieces_after false (codes " | ") (map (λ cube. cube_piece (literals ++ cube)) ds)) none ∙ append-nil old) in
    f ∙ (λ j. same j ++ sym (label_of_cubes s is g has [] none) j)

-- the cubes of a place that is one literal
pub literal_holds : (s : Store) (is : IsReducedDiagram s.names s.nodes) (p : ℕ) (n : Node) → IsNodeAt s p n → HasPlace s p → n.low ≡ 0 → n.high ≡ 1
    → place_cubes s p ≡ (record { prop = n.prop; holds = true } ∷ []) ∷ []
literal_holds s is p n at has low high =
    cubes_node s is p n at has ∙ (λ j. map (λ cube. record { prop = n.prop; holds = false } ∷ cube) ((ap (place_cubes s) low ∙ cubes_false s is) j) ++ map
    (λ cube. record { prop = n.prop; holds = true } ∷ cube) ((ap (place_cubes s) high ∙ cubes_true s is) j))

pub literal_fails : (s : Store) (is : IsReducedDiagram s.names s.nodes) (p : ℕ) (n : Node) → IsNodeAt s p n → HasPlace s p → n.low ≡ 1 → n.high ≡ 0
    → place_cubes s p ≡ (record { prop = n.prop; holds = false } ∷ []) ∷ []
literal_fails s is p n at has low high =
    cubes_node s is p n at has ∙ (λ j. map (λ cube. record { prop = n.prop; holds = false } ∷ cube) ((ap (place_cubes s) low ∙ cubes_true s is) j) ++ map
    (λ cube. record { prop = n.prop; holds = true } ∷ cube) ((ap (place_cubes s) high ∙ cubes_false s is) j))
