-- A limit that is passed after reading is told of an automaton that was read whole.
use Rattle.std.proofs.Common.{◌≡◌, ◌≢◌, ◌⊎◌, ◌∙◌, Bool, false, true, List, [], ◌∷◌, Option, Some, None, Contains, ap, inl, inr, refl, subst, sym}
use Rattle.std.specs.Prelude.{MatchOption}
use Rattle.std.specs.List.{AllByRecursion, list_all}
use Rattle.std.proofs.lemmas.Bool.{false≢true}
use Rattle.std.proofs.lemmas.List.Elements.{All-contains}
use Rattle.std.proofs.lemmas.List.Sums.{AllPass-from_list_all}
use Rattle.aut_base.proofs.lists.AllByRecursion.{AllByRecursion-right}
use Rattle.aut_base.specs.Automaton.{Automaton}
use Rattle.aut_base.specs.declared.limit.Limit.{Limit}
use Rattle.aut_base.specs.declared.limit.Limit.TheVariants as limit
use Rattle.autfilt_run.specs.Over.{IsOverLimit, IsOverPrinting, StopsPrinting}
use Rattle.autfilt_run.specs.Turns.{stop_of_run_fault}
use Rattle.autfilt_run.specs.declared.fault.RunFault.TheVariants as fault
use Rattle.filter_plan.specs.declared.plan.Form.{Form}
use Rattle.filter_plan.specs.declared.plan.Form.TheVariants as form
use Rattle.filter_plan.specs.declared.plan.Output.{Output}
use Rattle.filter_plan.specs.declared.plan.Output.TheVariants.{Hoa, Stats, Refute}
use Rattle.filter_plan.specs.declared.plan.Plan.{Plan}
use Rattle.hoa_lexer.specs.Moves.{Elsewhere}
use Rattle.hoa_parser.specs.Raw.{Written}
use Rattle.hoa_reader.specs.Described.{described}
use Rattle.hoa_reader.specs.Counts.{Counted, limit_counts}
use Rattle.hoa_reader.specs.Elaborating.{PassesLimit}
use Rattle.plan_meaning.proofs.OwnLimits.{only_own_limits}
use Rattle.plan_meaning.specs.Changes as change
use Rattle.plan_meaning.specs.Changes.{Change, StopsIn, changes_of, limits_of_change, limits_of_form}
use Rattle.plan_meaning.specs.Filters as filter
use Rattle.plan_meaning.specs.Filters.{Filter, PassesAt, filters, limits_of_filter}
use Rattle.plan_meaning.specs.Limits.{PassesOfInclusion, limits_of_inclusion}
use Rattle.plan_meaning.specs.Operands.{refuted_operand}

-- whether it is told of an automaton that was read whole: that of depth is told at a token, that of bytes at a byte
abbrev is_of_whole : Limit → Bool
is_of_whole limit.Depth = false
is_of_whole limit.Bytes = false
is_of_whole _ = true

abbrev pub IsOfWhole : Limit → Type 0
IsOfWhole which = is_of_whole which ≡ true

pub not_depth : (which : Limit) → IsOfWhole which → which ≢ limit.Depth
not_depth which whole is = false≢true (sym (ap is_of_whole is) ∙ whole)

pub not_bytes : (which : Limit) → IsOfWhole which → which ≢ limit.Bytes
not_bytes which whole is = false≢true (sym (ap is_of_whole is) ∙ whole)

-- ---- the limits of reading

pub counts_pass : (which : Limit) (w : Written) → PassesLimit which w → IsOfWhole which
counts_pass which w h =
    let P : Counted → Type 0 = λ c. IsOfWhole c.which in
    let each : AllByRecursion P (limit_counts w) = (refl, (refl, (refl, (refl, (refl, tt))))) in
    let (valid, c, first, over, shown) = h in
    let parts = subst (AllByRecursion P) first.all each in
    ap is_of_whole shown ∙ (AllByRecursion-right P first.before (c ∷ first.after) parts).0

-- ---- those of filters and changes

abbrev AreOfWhole : List Limit → Type 0
AreOfWhole limits = list_all is_of_whole limits ≡ true

one_of : (limits : List Limit) (which : Limit) → AreOfWhole limits → Contains limits which → IsOfWhole which
one_of limits which all h = All-contains IsOfWhole limits which (AllPass-from_list_all is_of_whole limits all) h

of_filter : (f : Filter) → AreOfWhole (limits_of_filter f)
of_filter filter.IsEmpty = refl
of_filter _ = refl

of_form : (f : Form) → AreOfWhole (limits_of_form f)
of_form form.AsIs = refl
of_form _ = refl

of_change : (c : Change) → AreOfWhole (limits_of_change c)
of_change (change.Bring f) = of_form f
of_change _ = refl

changes_pass : (which : Limit) (cs : List Change) (a : Automaton) → StopsIn which cs a → IsOfWhole which
changes_pass which [] a h = absurd h
changes_pass which (c ∷ cs) a (inl h) = one_of (limits_of_change c) which (of_change c) (only_own_limits.change c which a h)
changes_pass which (c ∷ cs) a (inr h) = changes_pass which cs h.0 h.2

refuted_pass : (which : Limit) (operand : Option Automaton) (a : Automaton) → MatchOption operand ⊥ (λ b. PassesOfInclusion which a b) → IsOfWhole which
refuted_pass which None a h = absurd h
refuted_pass which (Some b) a h = one_of limits_of_inclusion which refl (only_own_limits.inclusion which a b h)

printing_pass : (which : Limit) (o : Output) (p : Plan) (ops : List Automaton) (a : Automaton) → StopsPrinting o which p ops a → IsOfWhole which
printing_pass which Hoa p ops a h = changes_pass which (changes_of p ops) a h
printing_pass which (Stats pieces) p ops a h = changes_pass which (changes_of p ops) a h
printing_pass which (Refute file) p ops a h = refuted_pass which (refuted_operand p ops) a h

pub plan_passes : (which : Limit) (p : Plan) (ops : List Automaton) (w : Written) → IsOverLimit which p ops w → IsOfWhole which
plan_passes which p ops w h = by_cases h.over
  where
    by_cases : PassesAt which (filters p ops) (described w) ⊎ IsOverPrinting which p ops w → IsOfWhole which
    by_cases (inl f) = one_of (limits_of_filter f.0) which (of_filter f.0) (only_own_limits.filter f.0 which (described w) f.2)
    by_cases (inr c) = printing_pass which p.output p ops _ c.stops

pub both_ways : (which : Limit) (p : Plan) (ops : List Automaton) (w : Written) → PassesLimit which w ⊎ IsOverLimit which p ops w → IsOfWhole which
both_ways which p ops w (inl h) = counts_pass which w h
both_ways which p ops w (inr h) = plan_passes which p ops w h

-- so they have nothing to do with the limit of bytes
pub elsewhere : (which : Limit) → IsOfWhole which → stop_of_run_fault (fault.Limit which) ≡ Elsewhere
elsewhere limit.Bytes whole = absurd (false≢true whole)
elsewhere _ whole = refl
