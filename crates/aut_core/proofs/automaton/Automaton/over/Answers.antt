use Rattle.std.proofs.Common.{◌≡◌, ◌∙◌, List, ℕ, ap, eqb, refl, sym}
use Rattle.std.proofs.lemmas.Bool.Decides.{Decides-eqb}
use Rattle.std.proofs.lemmas.Result.{IfOk-weaker}
use Rattle.std.proofs.lemmas.Slice.Eq.{slice_eq-Decides}
use Rattle.std.specs.Cmp.Lexicographic.{pointwise}
use Rattle.aut_core.specs.SymbolicAutomata.{automaton_of}
use Rattle.aut_core.specs.OtherNames.{over_names}
use Rattle.aut_core.proofs.OtherNames.{over_own}
use Rattle.aut_core.proofs.automaton.Automaton.over.Goals as goal

pub returns-then-eq-clause-over : goal.returns-then-eq-clause-over
returns-then-eq-clause-over c =
    let a = c.args.self.now in
    let decides = slice_eq-Decides (λ (x y : List ℕ). slice_eq-Decides Decides-eqb x y (pointwise eqb x y) refl) c.as_slice.result.now c.as_slice-2.result.now c.eq.result c.eq.ensures in
    let names : c.args.names.now ≡ a.names = sym c.as_slice.ensures.items ∙ (decides.0 c.if-eq.true ∙ (c.as_slice-2.ensures.items ∙ c.names.ensures)) in
    let own = ap (λ ns. over_names ns (automaton_of a)) names ∙ over_own a c.well_formedness.ensures in
    IfOk-weaker c.copy.result _ _ (λ made e. ap automaton_of e ∙ sym own) c.copy.ensures
