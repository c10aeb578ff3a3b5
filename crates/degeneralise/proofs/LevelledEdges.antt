-- The edges of the automaton with counters, and the edge and level that each comes from.
use Rattle.std.proofs.Common.{◌≡◌, ◌∙◌, ◌<◌, ◌==◌, ℕ, Contains, ap, arith, map, refl}
use Rattle.std.specs.List.{range_with_len}
use Rattle.std.proofs.lemmas.Bool.{eq-eqb, eqb-true}
use Rattle.aut_base.proofs.lists.Members.{from_filter, from_flat_map, from_map, from_range, there_filter, there_flat_map, there_map, there_range}
use Rattle.aut_base.specs.Automaton.{Automaton, LabelledEdge}
use Rattle.aut_core.specs.Surveys.{edges_from}
use Rattle.degeneralise.specs.Buchi.{Watch, edge_at_level, level_edges, with_counters, levels}

pub record AtLevel (k : ℕ) (watch : ℕ → Watch) (a : Automaton) (f : LabelledEdge) : Type 0 where
  pub edge : LabelledEdge
  pub there : Contains a.edges edge
  pub level : ℕ
  pub below : level < levels (watch edge.from)
  pub is : edge_at_level k (watch edge.from) level edge ≡ f

pub comes_from : (k : ℕ) (watch : ℕ → Watch) (a : Automaton) (f : LabelledEdge) → Contains (with_counters k watch a).edges f → AtLevel k watch a f
comes_from k watch a f there =
    let at = from_flat_map (λ state. level_edges k (edges_from state a.edges) (watch state)) (range_with_len 0 a.states) f there in
    let level = from_flat_map (λ level. map (edge_at_level k (watch at.0) level) (edges_from at.0 a.edges)) (range_with_len 0 (levels (watch at.0))) f at.2 in
    let edge = from_map (edge_at_level k (watch at.0) level.0) (edges_from at.0 a.edges) f level.2 in
    let kept = from_filter (λ (e : LabelledEdge). e.from == at.0) a.edges edge.0 edge.1 in
    let same = eqb-true edge.0.from at.0 kept.1 in
    let within = from_range 0 (levels (watch at.0)) level.0 level.1 in
    record { edge = edge.0; there = kept.0; level = level.0; below = omega (arith, within.1, ap (λ s. levels (watch s)) same); is = ap (λ s. edge_at_level k (watch s) level.0 edge.0) same ∙ edge.2 }

pub has_level : (k : ℕ) (watch : ℕ → Watch) (a : Automaton) (e : LabelledEdge) (level : ℕ) → Contains a.edges e → e.from < a.states → level < levels (watch e.from)
    → Contains (with_counters k watch a).edges (edge_at_level k (watch e.from) level e)
has_level k watch a e level there within below =
    there_flat_map (λ state. level_edges k (edges_from state a.edges) (watch state)) (range_with_len 0 a.states) e.from (edge_at_level k (watch e.from) level e)
    (there_range 0 a.states e.from (omega arith) (omega (arith, within)))
    (there_flat_map (λ l. map (edge_at_level k (watch e.from) l) (edges_from e.from a.edges)) (range_with_len 0 (levels (watch e.from))) level (edge_at_level k (watch e.from) level e)
    (there_range 0 (levels (watch e.from)) level (omega arith) (omega (arith, below)))
    (there_map (edge_at_level k (watch e.from) level) (edges_from e.from a.edges) e (there_filter (λ (d : LabelledEdge). d.from == e.from) a.edges e there (eq-eqb e.from e.from refl))))
