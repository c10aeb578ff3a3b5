-- The truth at a place: it stays where nodes are added, and a node decides between the truths at its sides.
use Rattle.std.proofs.Common.{◌≡◌, ℕ, zero, suc, ◌+◌, ◌<◌, ◌∙◌, Bool, true, false, if◌then◌else◌, List, [], ◌∷◌, ◌++◌, length, Some, get_or, slice_get, sym, refl, ap, arith, length-append}
use Rattle.std.proofs.lemmas.Option.{none-some, same_Some}
use Rattle.std.proofs.lemmas.List.{get_or_append_left}
use Rattle.std.proofs.Math.Seq.{get_or-append_seam}
use Rattle.label_guards.specs.declared.nodes.Node.{Node}
use Rattle.label_guards.specs.Store.{branch, outcomes, outcome}

outcomes-append : (on : ℕ → Bool) (before : List Bool) (ns more : List Node) → outcomes on before (ns ++ more) ≡ outcomes on (outcomes on before ns) more
outcomes-append on before [] more = refl
outcomes-append on before (n ∷ ns) more = outcomes-append on (before ++ branch on before n ∷ []) ns more

outcomes-start : (on : ℕ → Bool) (before : List Bool) (ns : List Node) (i : ℕ) → i < length before → get_or (outcomes on before ns) i false ≡ get_or before i false
outcomes-start on before [] i h = refl
outcomes-start on before (n ∷ ns) i h =
    let longer : length (before ++ branch on before n ∷ []) ≡ length before + 1 = length-append before (branch on before n ∷ []) in
    outcomes-start on (before ++ branch on before n ∷ []) ns i (omega arith) ∙ get_or_append_left before (branch on before n ∷ []) false i h

length-outcomes : (on : ℕ → Bool) (before : List Bool) (ns : List Node) → length (outcomes on before ns) ≡ length before + length ns
length-outcomes on before [] = omega arith
length-outcomes on before (n ∷ ns) =
    let longer : length (before ++ branch on before n ∷ []) ≡ length before + 1 = length-append before (branch on before n ∷ []) in
    let rest = length-outcomes on (before ++ branch on before n ∷ []) ns in
    omega arith

pub outcome_grows : (ns more : List Node) (on : ℕ → Bool) (p : ℕ) → p < 2 + length ns → outcome (ns ++ more) on p ≡ outcome ns on p
outcome_grows ns more on p h =
    let size = length-outcomes on (false ∷ true ∷ []) ns in
    ap (λ l. get_or l p false) (outcomes-append on (false ∷ true ∷ []) ns more) ∙ outcomes-start on (outcomes on (false ∷ true ∷ []) ns) more p (omega arith)

at_node : (on : ℕ → Bool) (before : List Bool) (ns : List Node) (i : ℕ) (n : Node) → slice_get ns i ≡ Some n → n.low < length before + i → n.high < length before + i
    → get_or (outcomes on before ns) (length before + i) false ≡ (if on n.prop then get_or (outcomes on before ns) n.high false else get_or (outcomes on before ns) n.low false)
at_node on before [] i n is low high = absurd (none-some n is)
at_node on before (m ∷ ns) zero n is low high =
    let same : m ≡ n = same_Some m n is in
    let longer : length (before ++ branch on before m ∷ []) ≡ length before + 1 = length-append before (branch on before m ∷ []) in
    let e : length before + 0 ≡ length before = omega arith in
    let here : get_or (outcomes on before (m ∷ ns)) (length before) false ≡ branch on before m = outcomes-start on (before ++ branch on before m ∷ []) ns (length before) (omega arith)
    ∙ get_or-append_seam before (branch on before m) [] false in
    let side : (k : ℕ) → k < length before → get_or before k false ≡ get_or (outcomes on before (m ∷ ns)) k false = λ k h. sym (outcomes-start on before (m ∷ ns) k h) in
    ap (λ k. get_or (outcomes on before (m ∷ ns)) k false) e ∙ (here ∙ (ap (branch on before) same ∙ (λ j. if on n.prop then side n.high (omega arith) j else side n.low (omega arith) j)))
at_node on before (m ∷ ns) (suc i) n is low high =
    let longer : length (before ++ branch on before m ∷ []) ≡ length before + 1 = length-append before (branch on before m ∷ []) in
    let e : length before + suc i ≡ length (before ++ branch on before m ∷ []) + i = omega arith in
    ap (λ k. get_or (outcomes on before (m ∷ ns)) k false) e ∙ at_node on (before ++ branch on before m ∷ []) ns i n is (omega arith) (omega arith)

pub outcome_at : (ns : List Node) (on : ℕ → Bool) (i : ℕ) (n : Node) → slice_get ns i ≡ Some n → n.low < 2 + i → n.high < 2 + i
    → outcome ns on (2 + i) ≡ (if on n.prop then outcome ns on n.high else outcome ns on n.low)
outcome_at ns on i n is low high = at_node on (false ∷ true ∷ []) ns i n is low high

pub outcome-false : (ns : List Node) (on : ℕ → Bool) → outcome ns on 0 ≡ false
outcome-false ns on = outcomes-start on (false ∷ true ∷ []) ns 0 (omega arith)

pub outcome-true : (ns : List Node) (on : ℕ → Bool) → outcome ns on 1 ≡ true
outcome-true ns on = outcomes-start on (false ∷ true ∷ []) ns 1 (omega arith)
