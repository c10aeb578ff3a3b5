-- A trimmed automaton is well formed, and accepts the same words.
use Rattle.std.proofs.Common.{◌≡◌, ◌&&◌, ℕ, Bool, true, List, Contains, length}
use Rattle.std.proofs.lemmas.Bool.{and_parts}
use Rattle.aut_base.proofs.lists.Members.{from_filter}
use Rattle.aut_base.specs.Automaton.{Automaton, IsWellFormed, LabelledEdge}
use Rattle.aut_core.specs.OtherNames.{AcceptTheSame}
use Rattle.aut_ops.proofs.flagged.Between.{between_accepts, between_formed}
use Rattle.aut_ops.proofs.flagged.Renumbered.{AreEnds, renumbered_accepts, renumbered_formed}
use Rattle.aut_ops.specs.Satisfiable.{between, is_flagged, is_satisfiable, passable_arcs}
use Rattle.aut_ops.specs.inner.Parts.{is_kept_edge}
use Rattle.aut_ops.specs.Trimming.{renumbered}
use Rattle.graph_walk.specs.Reach.{AreReachFlags}

module _ (a : Automaton) (formed : IsWellFormed a) (flags : List Bool) where
  start_flagged : (p : ℕ) → Contains (between flags a).starts p → is_flagged flags p ≡ true
  start_flagged p there = (from_filter (is_flagged flags) a.starts p there).1

  ends_flagged : (e : LabelledEdge) → Contains (between flags a).edges e → AreEnds flags e
  ends_flagged e there =
      let stay = (from_filter (is_kept_edge (length a.names) flags) a.edges e there).1 in
      let both = and_parts (is_satisfiable (length a.names) e) (is_flagged flags e.from && is_flagged flags e.to) stay in
      let parts = and_parts (is_flagged flags e.from) (is_flagged flags e.to) both.1 in
      record { from = parts.0; to = parts.1 }

  pub alone_formed : IsWellFormed (renumbered flags (between flags a))
  alone_formed = renumbered_formed (between flags a) flags start_flagged ends_flagged (between_formed a formed flags)

  -- the language is the same, since a run visits reached states alone
  pub trimmed_accepts : AreReachFlags a.states (passable_arcs a) a.starts flags → AcceptTheSame (renumbered flags (between flags a)) a
  trimmed_accepts are u v =
      let new = renumbered_accepts (between flags a) flags start_flagged ends_flagged u v in
      let kept = between_accepts a formed flags (λ u v r q within before after. (are.exact q within).1 (record { start = r.start; listed = r.is_start; reached = before })) u v in
      ((λ r. kept.0 (new.0 r)), (λ r. new.1 (kept.1 r)))
