use Rattle.std.proofs.Common.{ap, ◌∙◌}
use Rattle.std.specs.HashMap.{get}
use Rattle.std.specs.Map.{lookup}
use Rattle.std.proofs.lemmas.List.Elements.{same_from_all_zip}
use Rattle.std.proofs.lemmas.Map.Entries.{entries_from_clone}
use Rattle.label_guards.specs.Nodes.{equal_nodes}
use Rattle.label_guards.proofs.diagrams.Numbered.{numbered_alike}
use Rattle.label_guards.proofs.node_list.NodeList.copy.Goals as goal

pub invariant_of-result : goal.invariant_of-result
invariant_of-result c =
    let entries = entries_from_clone _ _ (λ x y e. e) (λ v w e. e) _ _ c.in_ok-clone-2.ensures.cases in
    numbered_alike _ _ (get equal_nodes c.self.inside.numbers) _ (same_from_all_zip _ _ _ c.in_ok-clone.ensures.cases.0 (λ x y e. e)) (λ q. ap (lookup (equal_nodes q)) entries) c.self.invariant

pub returns : goal.returns
returns c = same_from_all_zip _ _ _ c.in_ok-clone.ensures.cases.0 (λ x y e. e) ∙ c.self.view_is
