use Rattle.std.proofs.Common.{◌<◌, List, refl, subst, sym}
use Rattle.std.specs.List.{All, Contains}
use Rattle.std.proofs.lemmas.List.Elements.{Contains-get_or}
use Rattle.aut_base.proofs.lists.Members.{each_there}
use Rattle.lasso_emptiness.specs.declared.live.EdgeRef.{EdgeRef}
use Rattle.lasso_emptiness.specs.inner.Letters.{AreLettersOf}
use Rattle.lasso_emptiness.specs.inner.Live.{IsPassable}
use Rattle.lasso_emptiness.specs.inner.Tours.{listed_edge}
use Rattle.lasso_emptiness.proofs.trails.Accepted.{own_word}
use Rattle.lasso_emptiness.proofs.trails.Lettered.{passable_within}
use Rattle.lasso_emptiness.proofs.trails.Trails.{trail_kind}
use Rattle.lasso_emptiness.proofs.word.word_around.Goals as goal

pub stem_to-requires-clause-ends : goal.stem_to-requires-clause-ends
stem_to-requires-clause-ends c =
    each_there (λ (e : EdgeRef). (e.from < c.args.a.now.states) × (e.to < c.args.a.now.states)) c.args.passable.now
    (λ e here. let within = passable_within c.args.a.now c.well_formedness.ensures e (c.requires.passable.each e here) in (within.from, within.to))

pub stem_to-requires-clause-state : goal.stem_to-requires-clause-state
stem_to-requires-clause-state c =
    let first = listed_edge c.args.cycle.now 0 in
    let here = Contains-get_or c.args.cycle.now 0 _ c.requires.accepting.some in
    (passable_within c.args.a.now c.well_formedness.ensures first
    (trail_kind (IsPassable c.args.a.now) c.requires.accepting.state c.requires.accepting.state c.args.cycle.now first c.requires.accepting.closed here)).from

pub stem_to-requires-clause-reached : goal.stem_to-requires-clause-reached
stem_to-requires-clause-reached c = c.requires.reached (listed_edge c.args.cycle.now 0) (Contains-get_or c.args.cycle.now 0 _ c.requires.accepting.some)

pub letters_along-requires : goal.letters_along-requires
letters_along-requires c =
    let stem = c.in_ok-stem.ensures in
    subst (All (IsPassable c.args.a.now)) (sym c.as_slice.ensures)
    (each_there (IsPassable c.args.a.now) c.in_ok-stem.stem (λ e here. c.requires.passable.each e (trail_kind (Contains c.args.passable.now) stem.start _ c.in_ok-stem.stem e stem.leads here)))

pub letters_along-requires-2 : goal.letters_along-requires-2
letters_along-requires-2 c =
    each_there (IsPassable c.args.a.now) c.args.cycle.now
    (λ e here. trail_kind (IsPassable c.args.a.now) c.requires.accepting.state c.requires.accepting.state c.args.cycle.now e c.requires.accepting.closed here)

pub returns : goal.returns
returns c =
    own_word c.args.a.now c.args.passable.now c.in_ok-stem.stem c.args.cycle.now _ _ refl c.in_ok-stem.ensures c.requires.accepting
    (subst (λ (es : List EdgeRef). AreLettersOf c.args.a.now es c.in_ok-letters_along.field-0) c.as_slice.ensures c.in_ok-letters_along.ensures)
    c.in_ok-letters_along-2.ensures
