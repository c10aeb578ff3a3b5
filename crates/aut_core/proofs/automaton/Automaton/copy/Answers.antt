use Rattle.std.proofs.Common.{◌≡◌, ◌∙◌, ℕ, List, All, Contains, ap, subst, sym}
use Rattle.std.proofs.lemmas.List.Elements.{All-contains_itself}
use Rattle.aut_core.specs.SymbolicAutomata.{SymbolicAutomaton}
use Rattle.aut_core.specs.declared.automaton.Fields.{Fields}
use Rattle.aut_core.proofs.Relabelled.{own_stand}
use Rattle.aut_core.proofs.automaton.Automaton.copy.Goals as goal

pub relabelled-requires-clause-has : goal.relabelled-requires-clause-has
relabelled-requires-clause-has c =
    let own = c.args.self.now.names in
    subst (λ (ns : List (List ℕ)). All (Contains ns) own) (sym (c.in_ok-names.ensures ∙ c.names.ensures)) (All-contains_itself own)

pub relabelled-requires-clause-edges : goal.relabelled-requires-clause-edges
relabelled-requires-clause-edges c =
    let a = c.args.self.now in
    let links : c.in_ok-links.links ≡ a.links =
    c.in_ok-links.ensures ∙ (ap (λ (f : Fields). f.links) c.deref.ensures ∙ ap (λ (k : SymbolicAutomaton). k.links) c.self.view_is) in
    own_stand a c.in_ok-names.names c.in_ok-guards.guards c.in_ok-links.links c.well_formedness.ensures (c.in_ok-names.ensures ∙ c.names.ensures) (c.in_ok-guards.ensures ∙ c.guards.ensures) links
