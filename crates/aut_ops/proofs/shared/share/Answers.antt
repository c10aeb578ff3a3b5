use Rattle.std.proofs.Common.{◌≡◌, ◌∙◌, ℕ, Bool, true, List, ap, eqb, refl, sym}
use Rattle.std.proofs.lemmas.Bool.Decides.{Decides-eqb}
use Rattle.std.proofs.lemmas.Slice.Eq.{slice_eq-Decides}
use Rattle.std.specs.Cmp.Lexicographic.{pointwise}
use Rattle.aut_core.proofs.OtherNames.{over_own}
use Rattle.aut_core.specs.SymbolicAutomata.{automaton_of}
use Rattle.aut_core.specs.OtherNames.{over_names}
use Rattle.aut_ops.proofs.shared.share.Goals as goal

-- texts that compare as equal
same_names : (xs ys : List (List ℕ)) (b : Bool) → b ≡ pointwise (pointwise eqb) xs ys → b ≡ true → xs ≡ ys
same_names xs ys b is one = (slice_eq-Decides (λ (x y : List ℕ). slice_eq-Decides Decides-eqb x y (pointwise eqb x y) refl) xs ys b is).0 one

pub beside-requires-clause-other : goal.beside-requires-clause-other
beside-requires-clause-other c =
    let same = same_names c.as_slice.result.now c.as_slice-2.result.now c.eq.result c.eq.ensures c.if-eq.true in
    sym (sym c.as_slice.ensures.items ∙ (same ∙ (c.as_slice-2.ensures.items ∙ c.names.ensures)))

pub returns-then-eq-clause-second : goal.returns-then-eq-clause-second
returns-then-eq-clause-second c =
    let same = same_names c.as_slice.result.now c.as_slice-2.result.now c.eq.result c.eq.ensures c.if-eq.true in
    let names : c.args.names.now ≡ c.args.b.now.names = sym c.as_slice.ensures.items ∙ (same ∙ (c.as_slice-2.ensures.items ∙ c.names.ensures)) in
    sym (ap (λ ns. over_names ns (automaton_of c.args.b.now)) names ∙ over_own c.args.b.now c.well_formedness.ensures)
