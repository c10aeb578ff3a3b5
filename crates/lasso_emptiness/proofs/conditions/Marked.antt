-- The marks of edges, and the set literals that they satisfy.
use Rattle.std.proofs.Common.{◌≡◌, ◌∙◌, ℕ, Bool, true, false, List, map, not, ap}
use Rattle.std.specs.List.{All, Contains, list_any}
use Rattle.std.proofs.lemmas.List.Elements.{All-map}
use Rattle.std.proofs.lemmas.List.Folds.{list_any_none}
use Rattle.aut_base.proofs.lists.Members.{any_from, none_at, there_map}
use Rattle.aut_base.specs.Formula.{Fin, Inf}
use Rattle.aut_core.specs.declared.link.Link.{Link}
use Rattle.lasso_emptiness.specs.declared.live.EdgeRef.{EdgeRef}
use Rattle.lasso_emptiness.specs.inner.Edges.{marks_of, met_along, on_side}
use Rattle.lasso_emptiness.specs.inner.Judged.{IsNever}
use Rattle.lasso_emptiness.proofs.conditions.Conditions.{met-Fin, met-Inf}

module _ (links : List Link) (edges : List EdgeRef) (set : ℕ) (neg : Bool) where
  pub none_on : All (λ (e : EdgeRef). on_side set neg (marks_of links e) ≡ false) edges → list_any (on_side set neg) (map (marks_of links) edges) ≡ false
  none_on none = list_any_none (on_side set neg) (map (marks_of links) edges) (All-map (λ marks. on_side set neg marks ≡ false) (marks_of links) edges none)

  pub one_on : (e : EdgeRef) → Contains edges e → on_side set neg (marks_of links e) ≡ true → list_any (on_side set neg) (map (marks_of links) edges) ≡ true
  one_on e here on = any_from (on_side set neg) (map (marks_of links) edges) (marks_of links e) (there_map (marks_of links) edges e here) on

  pub inf_met : (e : EdgeRef) → Contains edges e → on_side set neg (marks_of links e) ≡ true → met_along links edges (Inf set neg) ≡ true
  inf_met e here on = met-Inf (map (marks_of links) edges) set neg ∙ one_on e here on

  pub inf_not_met : All (λ (e : EdgeRef). on_side set neg (marks_of links e) ≡ false) edges → met_along links edges (Inf set neg) ≡ false
  inf_not_met none = met-Inf (map (marks_of links) edges) set neg ∙ none_on none

  pub inf_never : All (λ (e : EdgeRef). on_side set neg (marks_of links e) ≡ false) edges → IsNever (map (marks_of links) edges) (Inf set neg)
  inf_never none = λ some within. met-Inf some set neg
      ∙ list_any_none (on_side set neg) some (λ k d inside. none_at (on_side set neg) (map (marks_of links) edges) _ (none_on none) (within k d inside))

  pub fin_met : All (λ (e : EdgeRef). on_side set neg (marks_of links e) ≡ false) edges → met_along links edges (Fin set neg) ≡ true
  fin_met none = met-Fin (map (marks_of links) edges) set neg ∙ ap not (none_on none)

  pub fin_not_met : (e : EdgeRef) → Contains edges e → on_side set neg (marks_of links e) ≡ true → met_along links edges (Fin set neg) ≡ false
  fin_not_met e here on = met-Fin (map (marks_of links) edges) set neg ∙ ap not (one_on e here on)
