-- An automaton with renumbered states is well formed and accepts the same words, where its starts and the states of its edges are
-- flagged.
use Rattle.std.proofs.Common.{◌≡◌, ◌≢◌, ◌∙◌, ◌<◌, ℕ, Bool, true, List, [], ◌∷◌, All, Contains, ap, arith, map, refl, sym}
use Rattle.std.proofs.lemmas.List.Elements.{All-contains, All-map, same_from_all_zip}
use Rattle.aut_base.proofs.order.AllPairsOf.{pairs_map}
use Rattle.aut_base.proofs.order.Climbing.{Climbs, climbs_in_order, in_order_climbs}
use Rattle.aut_base.proofs.lists.Members.{each_there, from_map, there_map}
use Rattle.aut_base.specs.Acceptance.{Accepts}
use Rattle.aut_base.specs.Automaton.{Automaton, IsEdgeOf, IsWellFormed, LabelledEdge}
use Rattle.aut_base.specs.Formula.{met}
use Rattle.aut_base.specs.Label.{holds_at, truth}
use Rattle.aut_core.specs.OtherNames.{AcceptTheSame}
use Rattle.aut_base.proofs.runs.LassoRuns.{accepts_of, marks_of, run_of}
use Rattle.aut_ops.proofs.flagged.Ranks.{rank_less, rank_one, rank_rises}
use Rattle.aut_ops.proofs.following.Simulations.{Simulates, run_image}
use Rattle.aut_ops.specs.Satisfiable.{is_flagged}
use Rattle.aut_ops.specs.Trimming.{flagged_before, renumbered}
use Rattle.aut_ops.specs.inner.Parts.{renumbered_edge}

pub climbs_renumbered : (flags : List Bool) (low : ℕ) (es : List LabelledEdge) → Climbs low es → Climbs (flagged_before flags low) (map (renumbered_edge flags) es)
climbs_renumbered flags low [] climbs = tt
climbs_renumbered flags low (e ∷ es) climbs = (rank_rises flags low e.from climbs.0, climbs_renumbered flags e.from es climbs.1)

-- both states of the edge are flagged
pub record AreEnds (flags : List Bool) (e : LabelledEdge) : Type 0 where
  pub from : is_flagged flags e.from ≡ true
  pub to : is_flagged flags e.to ≡ true

module _ (a : Automaton) (flags : List Bool) (begun : (p : ℕ) → Contains a.starts p → is_flagged flags p ≡ true) (ends : (e : LabelledEdge) → Contains a.edges e → AreEnds flags e) where
  abbrev new : Automaton
  new = renumbered flags a

  abbrev Stands : ℕ → ℕ → Type 0
  Stands p q = (p ≡ flagged_before flags q) × (is_flagged flags q ≡ true)

  onwards : Simulates a new (λ p q. q ≡ flagged_before flags p) (λ c d. d ≡ c)
  onwards = record {
    one = λ p q r s t. s ∙ sym t;
    step = λ p q e x stands at there holds. record {
      edge = renumbered_edge flags e;
      from = stands ∙ ap (flagged_before flags) at;
      there = there_map (renumbered_edge flags) a.edges e there;
      holds = holds;
      to = refl;
      marks = refl;
    };
  }

  back : Simulates new a Stands (λ c d. d ≡ c)
  back = record {
    one = λ p q r s t. rank_one flags q r s.1 t.1 (sym s.0 ∙ t.0);
    step = λ p q e x stands at there holds.
        let found = from_map (renumbered_edge flags) a.edges e there in
        let flagged = ends found.0 found.1 in
        let from : flagged_before flags found.0.from ≡ e.from = ap (λ (d : LabelledEdge). d.from) found.2 in
        record {
          edge = found.0;
          from = rank_one flags q found.0.from stands.1 flagged.from (sym stands.0 ∙ (at ∙ sym from));
          there = found.1;
          holds = ap (λ (d : LabelledEdge). truth (holds_at a.names x) d.label) found.2 ∙ holds;
          to = (sym (ap (λ (d : LabelledEdge). d.to) found.2), flagged.to);
          marks = ap (λ (d : LabelledEdge). d.marks) found.2;
        };
  }

  pub renumbered_accepts : AcceptTheSame new a
  renumbered_accepts u v = (old, accepts_renumbered)
    where
      old : Accepts new u v → Accepts a u v
      old r =
          let start = from_map (flagged_before flags) a.starts r.start r.is_start in
          let to = run_image new a Stands (λ c d. d ≡ c) back u v r.stem_rounds r.cycle_rounds (run_of new u v r) start.0 start.1 (sym start.2, begun start.0 start.1) in
          let same : marks_of to.run.cycle ≡ marks_of r.cycle = same_from_all_zip (λ c d. d ≡ c) (marks_of r.cycle) (marks_of to.run.cycle) to.marks (λ c d e. e) in
          accepts_of a u v r.stem_rounds r.cycle_rounds to.run r.endless r.positive (ap (λ cs. met cs a.formula) same ∙ r.meets)

      accepts_renumbered : Accepts a u v → Accepts new u v
      accepts_renumbered r =
          let to = run_image a new (λ p q. q ≡ flagged_before flags p) (λ c d. d ≡ c) onwards u v r.stem_rounds r.cycle_rounds (run_of a u v r) (flagged_before flags r.start)
          (there_map (flagged_before flags) a.starts r.start r.is_start) refl in
          let same : marks_of to.run.cycle ≡ marks_of r.cycle = same_from_all_zip (λ c d. d ≡ c) (marks_of r.cycle) (marks_of to.run.cycle) to.marks (λ c d e. e) in
          accepts_of new u v r.stem_rounds r.cycle_rounds to.run r.endless r.positive (ap (λ cs. met cs a.formula) same ∙ r.meets)

  pub renumbered_formed : IsWellFormed a → IsWellFormed new
  renumbered_formed formed = record {
    names_differ = formed.names_differ;
    starts_differ = pairs_map (λ p q. p ≢ q) (flagged_before flags) a.starts
        (λ i j d less within same. formed.starts_differ i j d less within (rank_one flags _ _ (flagged i d (omega (arith, less, within))) (flagged j d within) same));
    starts = All-map (λ p. p < flagged_before flags a.states) (flagged_before flags) a.starts
        (each_there (λ p. flagged_before flags p < flagged_before flags a.states) a.starts
        (λ p there. rank_less flags p a.states (begun p there) (All-contains (λ q. q < a.states) a.starts p formed.starts there)));
    in_order = climbs_in_order (flagged_before flags 0) new.edges (climbs_renumbered flags 0 a.edges (in_order_climbs 0 a.edges (λ k d within. omega arith) formed.in_order));
    edges = All-map (IsEdgeOf new) (renumbered_edge flags) a.edges
        (each_there (λ e. IsEdgeOf new (renumbered_edge flags e)) a.edges (λ e there. edge_formed e there (All-contains (IsEdgeOf a) a.edges e formed.edges there)));
    formula = formed.formula;
  }
    where
      flagged : All (λ p. is_flagged flags p ≡ true) a.starts
      flagged = each_there (λ p. is_flagged flags p ≡ true) a.starts begun

      edge_formed : (e : LabelledEdge) → Contains a.edges e → IsEdgeOf a e → IsEdgeOf new (renumbered_edge flags e)
      edge_formed e there edge = record {
        from = rank_less flags e.from a.states (ends e there).from edge.from;
        to = rank_less flags e.to a.states (ends e there).to edge.to;
        label = edge.label;
        marks = edge.marks;
        marks_rise = edge.marks_rise;
      }
