-- A filter holds of an automaton exactly where it holds of that with canonical labels, and passes the same limits.
use Rattle.std.proofs.Common.{◌≡◌, ℕ, ◌<◌, Bool, true, false, MatchBool, List, [], ◌∷◌, length, Result, Ok, Err, get_or, sym, ap, ◌∙◌, subst, arith}
use Rattle.std.proofs.lemmas.List.{get_or-map, length-map}
use Rattle.std.proofs.lemmas.List.Elements.{Contains-get_or}
use Rattle.aut_base.proofs.canonical.CanonicalAutomata.{canonical-twice, canonical_accepts_the_same, labels_below}
use Rattle.aut_base.proofs.lists.Members.{from_map, there_map}
use Rattle.aut_base.specs.Automaton.{Automaton, IsWellFormed, LabelledEdge}
use Rattle.aut_base.specs.CanonicalLabel.{canonical}
use Rattle.aut_base.specs.LabelLaws.{LabelsBelow}
use Rattle.aut_base.specs.Lists.{FirstIn}
use Rattle.aut_base.specs.Word.{NameSet}
use Rattle.aut_core.specs.Deterministic as core
use Rattle.aut_core.specs.Deterministic.{HasSuccessor, is_met}
use Rattle.aut_base.specs.declared.limit.Limit.{Limit}
use Rattle.aut_base.specs.declared.limit.Limit.TheVariants as limit
use Rattle.aut_base.specs.declared.limit.TheConstants.{MOST_PAIRS}
use Rattle.aut_ops.specs.Products.{HasMorePairs}
use Rattle.filter_plan.specs.declared.plan.Plan.{Plan}
use Rattle.plan_meaning.proofs.filters.CanonicalEdges.{same_met, settled}
use Rattle.plan_meaning.proofs.filters.CanonicalRuns.{unambiguous_one, unambiguous_other}
use Rattle.plan_meaning.specs.Filters.{AcceptsWord, AllHold, Edges, EquivalentTo, FailsAtFilter, Filter, Holds, HoldsWithin, IncludedIn, Intersects}
use Rattle.plan_meaning.specs.Filters.{IsComplete, IsDeterministic, IsEmpty, IsUnambiguous, Judged, LacksWithin, Names, PassesAt, PassesLimitOf, RejectsWord, Sets, States, filters}
use Rattle.plan_meaning.specs.Limits.{PassesOfBoth, PassesOfEquivalence, PassesOfInclusion, PassesOfWord}
use Rattle.plan_meaning.specs.declared.fault.PlanFault.{PlanFault}
use Rattle.plan_meaning.specs.declared.fault.PlanFault.TheVariants as fault
use Rattle.word_syntax.specs.Grammar.{WordPattern}
use Rattle.word_syntax.specs.Matching.{AcceptTogether, AcceptsPattern}

-- the edge of an index
same_place : (a : Automaton) (k : ℕ) (d : LabelledEdge) → k < length a.edges → get_or (canonical a).edges k d ≡ settled a (get_or a.edges k d)
same_place a k d within = get_or-map (settled a) a.edges k d d within

deterministic_one : (a : Automaton) → LabelsBelow a → core.IsDeterministic (canonical a) → core.IsDeterministic a
deterministic_one a below h = record {
  start = h.start;
  edges = λ i j d less within same letter p q.
      let at_i = same_place a i d (omega (arith, less, within)) in
      let at_j = same_place a j d within in
      let met_i = same_met a (get_or a.edges i d) letter below (Contains-get_or a.edges i d (omega (arith, less, within))) in
      let met_j = same_met a (get_or a.edges j d) letter below (Contains-get_or a.edges j d within) in
      h.edges i j d less (omega (arith, within, length-map a.edges (settled a)))
      (ap (λ (e : LabelledEdge). e.from) at_i ∙ same ∙ sym (ap (λ (e : LabelledEdge). e.from) at_j))
      letter (ap (is_met a.names letter) at_i ∙ met_i ∙ p) (ap (is_met a.names letter) at_j ∙ met_j ∙ q);
}

deterministic_other : (a : Automaton) → LabelsBelow a → core.IsDeterministic a → core.IsDeterministic (canonical a)
deterministic_other a below h = record {
  start = h.start;
  edges = λ i j d less within same letter p q.
      let in_j : j < length a.edges = omega (arith, within, length-map a.edges (settled a)) in
      let in_i : i < length a.edges = omega (arith, less, in_j) in
      let at_i = same_place a i d in_i in
      let at_j = same_place a j d in_j in
      let met_i = same_met a (get_or a.edges i d) letter below (Contains-get_or a.edges i d in_i) in
      let met_j = same_met a (get_or a.edges j d) letter below (Contains-get_or a.edges j d in_j) in
      h.edges i j d less in_j
      (sym (ap (λ (e : LabelledEdge). e.from) at_i) ∙ same ∙ ap (λ (e : LabelledEdge). e.from) at_j)
      letter (sym met_i ∙ sym (ap (is_met a.names letter) at_i) ∙ p) (sym met_j ∙ sym (ap (is_met a.names letter) at_j) ∙ q);
}

goes_one : (a : Automaton) (state : ℕ) (letter : NameSet) → LabelsBelow a → HasSuccessor (canonical a) state letter → HasSuccessor a state letter
goes_one a state letter below h =
    let x = from_map (settled a) a.edges h.edge h.is_edge in
    record {
      edge = x.0;
      is_edge = x.1;
      from = ap (λ (e : LabelledEdge). e.from) x.2 ∙ h.from;
      meets = sym (same_met a x.0 letter below x.1) ∙ ap (is_met a.names letter) x.2 ∙ h.meets;
    }

goes_other : (a : Automaton) (state : ℕ) (letter : NameSet) → LabelsBelow a → HasSuccessor a state letter → HasSuccessor (canonical a) state letter
goes_other a state letter below h =
    record { edge = settled a h.edge; is_edge = there_map (settled a) a.edges h.edge h.is_edge; from = h.from; meets = same_met a h.edge letter below h.is_edge ∙ h.meets }

-- the number of edges is the same
same_count : (a : Automaton) → length (canonical a).edges ≡ length a.edges
same_count a = length-map a.edges (settled a)

-- ---- words

module _ (a : Automaton) (below : LabelsBelow a) where
  pattern_one : (p : WordPattern) → AcceptsPattern p (canonical a) → AcceptsPattern p a
  pattern_one p h = record { stem = h.stem; cycle = h.cycle; matches = h.matches; accepts = (canonical_accepts_the_same a below h.stem h.cycle).0 h.accepts }

  pattern_other : (p : WordPattern) → AcceptsPattern p a → AcceptsPattern p (canonical a)
  pattern_other p h = record { stem = h.stem; cycle = h.cycle; matches = h.matches; accepts = (canonical_accepts_the_same a below h.stem h.cycle).1 h.accepts }

  together_one : (b : Automaton) → AcceptTogether (canonical a) b → AcceptTogether a b
  together_one b h = record { stem = h.stem; cycle = h.cycle; first = (canonical_accepts_the_same a below h.stem h.cycle).0 h.first; second = h.second }

  together_other : (b : Automaton) → AcceptTogether a b → AcceptTogether (canonical a) b
  together_other b h = record { stem = h.stem; cycle = h.cycle; first = (canonical_accepts_the_same a below h.stem h.cycle).1 h.first; second = h.second }

-- ---- one filter

holds_one : (f : Filter) (a : Automaton) → LabelsBelow a → Holds f (canonical a) → Holds f a
holds_one (AcceptsWord p) a below h = pattern_one a below p h
holds_one (RejectsWord p) a below h = λ k. h (pattern_other a below p k)
holds_one IsEmpty a below h = λ u v accepts. h u v ((canonical_accepts_the_same a below u v).1 accepts)
holds_one (IncludedIn b) a below h = λ u v accepts. h u v ((canonical_accepts_the_same a below u v).1 accepts)
holds_one (EquivalentTo b) a below h = λ u v. (let same = canonical_accepts_the_same a below u v in ((λ x. (h u v).0 (same.1 x)), (λ x. same.0 ((h u v).1 x))))
holds_one (Intersects b) a below h = together_one a below b h
holds_one IsDeterministic a below h = deterministic_one a below h
holds_one IsComplete a below h = record { start = h.start; edges = λ state less letter. goes_one a state letter below (h.edges state less letter) }
holds_one IsUnambiguous a below h = unambiguous_one a below h
holds_one (States r) a below h = h
holds_one (Edges r) a below h = subst (λ (n : ℕ). Holds (States r) (record a { states = n })) (same_count a) h
holds_one (Sets r) a below h = h
holds_one (Names r) a below h = h

holds_other : (f : Filter) (a : Automaton) → LabelsBelow a → Holds f a → Holds f (canonical a)
holds_other (AcceptsWord p) a below h = pattern_other a below p h
holds_other (RejectsWord p) a below h = λ k. h (pattern_one a below p k)
holds_other IsEmpty a below h = λ u v accepts. h u v ((canonical_accepts_the_same a below u v).0 accepts)
holds_other (IncludedIn b) a below h = λ u v accepts. h u v ((canonical_accepts_the_same a below u v).0 accepts)
holds_other (EquivalentTo b) a below h = λ u v. (let same = canonical_accepts_the_same a below u v in ((λ x. (h u v).0 (same.0 x)), (λ x. same.1 ((h u v).1 x))))
holds_other (Intersects b) a below h = together_other a below b h
holds_other IsDeterministic a below h = deterministic_other a below h
holds_other IsComplete a below h = record { start = h.start; edges = λ state less letter. goes_other a state letter below (h.edges state less letter) }
holds_other IsUnambiguous a below h = unambiguous_other a below h
holds_other (States r) a below h = h
holds_other (Edges r) a below h = subst (λ (n : ℕ). Holds (States r) (record a { states = n })) (sym (same_count a)) h
holds_other (Sets r) a below h = h
holds_other (Names r) a below h = h

-- limits are defined on canonical labels, so they are the same
passes_one : (which : Limit) (f : Filter) (a : Automaton) → PassesLimitOf which f (canonical a) → PassesLimitOf which f a
passes_one which (AcceptsWord p) a h = subst (λ (x : Automaton). PassesOfWord which x p) (canonical-twice a) h
passes_one which (RejectsWord p) a h = subst (λ (x : Automaton). PassesOfWord which x p) (canonical-twice a) h
passes_one which (IncludedIn b) a h = subst (λ (x : Automaton). PassesOfInclusion which x b) (canonical-twice a) h
passes_one which (EquivalentTo b) a h = subst (λ (x : Automaton). PassesOfEquivalence which x b) (canonical-twice a) h
passes_one which (Intersects b) a h = subst (λ (x : Automaton). PassesOfBoth which x b) (canonical-twice a) h
passes_one which IsUnambiguous a h = subst (λ (x : Automaton). (which ≡ limit.Pairs) × HasMorePairs MOST_PAIRS x x) (canonical-twice a) h
passes_one which _ a h = absurd h

passes_other : (which : Limit) (f : Filter) (a : Automaton) → PassesLimitOf which f a → PassesLimitOf which f (canonical a)
passes_other which (AcceptsWord p) a h = subst (λ (x : Automaton). PassesOfWord which x p) (sym (canonical-twice a)) h
passes_other which (RejectsWord p) a h = subst (λ (x : Automaton). PassesOfWord which x p) (sym (canonical-twice a)) h
passes_other which (IncludedIn b) a h = subst (λ (x : Automaton). PassesOfInclusion which x b) (sym (canonical-twice a)) h
passes_other which (EquivalentTo b) a h = subst (λ (x : Automaton). PassesOfEquivalence which x b) (sym (canonical-twice a)) h
passes_other which (Intersects b) a h = subst (λ (x : Automaton). PassesOfBoth which x b) (sym (canonical-twice a)) h
passes_other which IsUnambiguous a h = subst (λ (x : Automaton). (which ≡ limit.Pairs) × HasMorePairs MOST_PAIRS x x) (sym (canonical-twice a)) h
passes_other which _ a h = absurd h

holds_within : (f : Filter) (a : Automaton) → LabelsBelow a → HoldsWithin f (canonical a) → HoldsWithin f a
holds_within f a below h = record { within = λ which passed. h.within which (passes_other which f a passed); holds = holds_one f a below h.holds }

lacks_within : (f : Filter) (a : Automaton) → LabelsBelow a → LacksWithin f (canonical a) → LacksWithin f a
lacks_within f a below h = record { within = λ which passed. h.within which (passes_other which f a passed); fails = λ k. h.fails (holds_other f a below k) }

-- ---- all of them

all_hold : (fs : List Filter) (a : Automaton) → LabelsBelow a → AllHold fs (canonical a) → AllHold fs a
all_hold [] a below h = tt
all_hold (f ∷ fs) a below h = (holds_within f a below h.0, all_hold fs a below h.1)

first_at : (fs : List Filter) (f : Filter) (a : Automaton) → LabelsBelow a → FirstIn (λ g. HoldsWithin g (canonical a)) fs f → FirstIn (λ g. HoldsWithin g a) fs f
first_at fs f a below h = record { before = h.before; after = h.after; all = h.all; earlier = all_hold h.before a below h.earlier }

fails_at : (fs : List Filter) (a : Automaton) → LabelsBelow a → FailsAtFilter fs (canonical a) → FailsAtFilter fs a
fails_at fs a below h = (h.0, first_at fs h.0 a below h.1, lacks_within h.0 a below h.2)

passes_at : (which : Limit) (fs : List Filter) (a : Automaton) → LabelsBelow a → PassesAt which fs (canonical a) → PassesAt which fs a
passes_at which fs a below h = (h.0, first_at fs h.0 a below h.1, passes_one which h.0 a h.2)

-- kept, or dropped, whether the plan inverts or not
kept_by : (inverts : Bool) (fs : List Filter) (a : Automaton) → LabelsBelow a → MatchBool inverts (FailsAtFilter fs (canonical a)) (AllHold fs (canonical a))
    → MatchBool inverts (FailsAtFilter fs a) (AllHold fs a)
kept_by false fs a below h = all_hold fs a below h
kept_by true fs a below h = fails_at fs a below h

dropped_by : (inverts : Bool) (fs : List Filter) (a : Automaton) → LabelsBelow a → MatchBool inverts (AllHold fs (canonical a)) (FailsAtFilter fs (canonical a))
    → MatchBool inverts (AllHold fs a) (FailsAtFilter fs a)
dropped_by false fs a below h = fails_at fs a below h
dropped_by true fs a below h = all_hold fs a below h

-- the verdict on the automaton that was read is that on the one with canonical labels
pub verdict_of : (r : Result Bool PlanFault) (p : Plan) (ops : List Automaton) (a : Automaton) → IsWellFormed a → Judged r p ops (canonical a) → Judged r p ops a
verdict_of (Ok true) p ops a formed h = kept_by p.invert (filters p ops) a (labels_below a formed) h
verdict_of (Ok false) p ops a formed h = dropped_by p.invert (filters p ops) a (labels_below a formed) h
verdict_of (Err (fault.Limit which)) p ops a formed h = passes_at which (filters p ops) a (labels_below a formed) h
verdict_of (Err fault.Memory) p ops a formed h = tt

-- the same for a symbolic automaton
pub verdict_read : (r : Result Bool PlanFault) (p : Plan) (ops : List Automaton) (core a read : Automaton) → core ≡ canonical a → a ≡ read → IsWellFormed a → Judged r p ops core → Judged r p ops read
verdict_read r p ops core a read is same formed h =
    subst (λ (x : Automaton). Judged r p ops x) same (verdict_of r p ops a formed (subst (λ (x : Automaton). Judged r p ops x) is h))
