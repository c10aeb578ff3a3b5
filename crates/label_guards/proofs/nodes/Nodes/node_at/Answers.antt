use Rattle.std.proofs.Common.{◌≡◌, ◌-◌, ◌∙◌, length, slice_get, sym, ap, subst, arith}
use Rattle.std.proofs.lemmas.Option.{slice_get-get_or}
use Rattle.label_guards.specs.Nodes.{IsReducedDiagram}
use Rattle.label_guards.specs.Store.{Store}
use Rattle.label_guards.proofs.diagrams.Reduced.{stands_at}
use Rattle.label_guards.proofs.nodes.Nodes.node_at.Goals as goal

pub returns : goal.returns
returns c =
    let s : Store = c.args.self.now in
    let is : IsReducedDiagram s.names s.nodes = subst (λ (t : Store). IsReducedDiagram t.names t.nodes) c.self.view_is c.self.invariant in
    let items = c.as_slice.result.now in
    let same : s.nodes ≡ items = ap (λ (t : Store). t.nodes) (sym c.self.view_is) ∙ sym c.as_slice.ensures.keys in
    let size : length s.nodes ≡ length items = ap length same in
    stands_at s is c.args.place _ c.requires.inner (ap (λ l. slice_get l (c.args.place - 2)) same ∙ slice_get-get_or items (c.args.place - 2) (record { prop = 0; low = 0; high = 0 }) (omega arith))
