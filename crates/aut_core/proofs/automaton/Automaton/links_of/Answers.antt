use Rattle.std.proofs.Common.{◌∙◌, ◌+◌, ◌==◌, ◌<◌, ◌≤◌, List, ap, filter, get_or, subst, sym}
use Rattle.std.specs.List.{slice_range}
use Rattle.aut_core.specs.SymbolicAutomata.{SymbolicAutomaton}
use Rattle.aut_core.specs.declared.automaton.Fields.{Fields}
use Rattle.aut_core.specs.declared.link.Link.{Link}
use Rattle.aut_core.proofs.Rows.{row_indexed}
use Rattle.aut_core.proofs.automaton.Automaton.links_of.Goals as goal

rises : (c : goal.After-as_slice) → c.at-start.result.now ≤ c.at-end.result.now
rises c =
    let starts = ap (λ (f : Fields). get_or f.rows c.args.state 0) (sym c.deref-fields.ensures) ∙ c.at-start.ensures.item 0 in
    let ends = ap (λ (f : Fields). get_or f.rows (c.args.state + 1) 0) (sym c.deref-fields.ensures) ∙ c.at-end.ensures.item 0 in
    (row_indexed c.args.state _ _ c.self.invariant.index (subst (λ (core : SymbolicAutomaton). c.args.state < core.states) (sym c.self.view_is) c.requires) starts ends).0

pub slice_bounds-result-count : goal.slice_bounds-result-count
slice_bounds-result-count c = rises c

pub slice_bounds-result-start : goal.slice_bounds-result-start
slice_bounds-result-start c = rises c

pub returns : goal.returns
returns c =
    let starts = ap (λ (f : Fields). get_or f.rows c.args.state 0) (sym c.deref-fields.ensures) ∙ c.at-start.ensures.item 0 in
    let ends = ap (λ (f : Fields). get_or f.rows (c.args.state + 1) 0) (sym c.deref-fields.ensures) ∙ c.at-end.ensures.item 0 in
    let row = row_indexed c.args.state _ _ c.self.invariant.index (subst (λ (core : SymbolicAutomaton). c.args.state < core.states) (sym c.self.view_is) c.requires) starts ends in
    ap (λ (ls : List Link). slice_range ls c.at-start.result.now c.at-end.result.now) (c.as_slice.ensures ∙ ap (λ (f : Fields). f.links) c.deref-fields.ensures) ∙ row.1
    ∙ ap (λ (core : SymbolicAutomaton). filter (λ (l : Link). l.from == c.args.state) core.links) c.self.view_is
