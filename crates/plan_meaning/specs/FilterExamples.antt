-- What filters say of small automata over one proposition, and verdicts on these: values and counter-values that one sees by eye.
use Rattle.std.specs.Prelude.{◌≡◌, ℕ, true, false, [], ◌∷◌, None, Some, codes}
use Rattle.aut_base.specs.Automaton.{Automaton}
use Rattle.aut_base.specs.Examples.{a, again, alternating, either_way, ever_after, name_a, never, off_again, so_often}
use Rattle.aut_base.specs.Label.{LabelTree}
use Rattle.filter_plan.specs.declared.plan.Form.TheVariants as form
use Rattle.filter_plan.specs.declared.plan.Output.TheVariants as output
use Rattle.filter_plan.specs.declared.plan.Plan.{Plan}
use Rattle.filter_plan.specs.declared.range.Range.{Range}
use Rattle.plan_meaning.specs.Filters.{AcceptsWord, Edges, EquivalentTo, Holds, IncludedIn, Intersects, IsComplete, IsDeterministic, IsDropped}
use Rattle.plan_meaning.specs.Filters.{IsEmpty, IsKept, IsUnambiguous, Names, RejectsWord, Sets, States, filters}
use Rattle.word_syntax.specs.Grammar.{WordPattern}

-- `cycle{a}`
abbrev pub always_a : WordPattern
always_a = record { names = name_a ∷ []; stem = []; cycle = a ∷ [] }

-- `!a; cycle{a}`
abbrev pub late_a : WordPattern
late_a = record { names = name_a ∷ []; stem = LabelTree.Not a ∷ []; cycle = a ∷ [] }

-- `cycle{1}`
abbrev pub any_word : WordPattern
any_word = record { names = []; stem = []; cycle = LabelTree.True ∷ [] }

-- the numbers that the options write as `n`, `n..` and `..n`
abbrev pub just : ℕ → Range
just n = record { low = n; high = Some n }

abbrev pub at_least : ℕ → Range
at_least n = record { low = n; high = None }

abbrev pub at_most : ℕ → Range
at_most n = record { low = 0; high = Some n }

-- the plan of no options
abbrev pub plain : Plan
plain = record {
  invert = false;
  count = false;
  quiet = false;
  most = None;
  accept_word = None;
  reject_word = None;
  is_empty = false;
  included_in = None;
  equivalent_to = None;
  intersect = None;
  is_deterministic = false;
  is_complete = false;
  is_unambiguous = false;
  states = None;
  edges = None;
  acc_sets = None;
  ap = None;
  product = None;
  product_or = None;
  sum = None;
  remove_ap = None;
  trim = false;
  complement = false;
  form = form.AsIs;
  complete = false;
  output = output.Hoa;
  streams = [];
  made = None;
}

-- `--invert-match`
abbrev pub inverted : Plan → Plan
inverted p = record p { invert = true }

-- `--is-empty`
abbrev pub asks_empty : Plan
asks_empty = record plain { is_empty = true }

-- `--is-deterministic --is-complete --states=1`
abbrev pub asks_three : Plan
asks_three = record plain { is_deterministic = true; is_complete = true; states = Some (just 1) }

-- `--included-in=x --equivalent-to=y --intersect=z`
abbrev pub asks_operands : Plan
asks_operands = record plain { included_in = Some (codes "x"); equivalent_to = Some (codes "y"); intersect = Some (codes "z") }

-- `--intersect=z`
abbrev pub asks_last : Plan
asks_last = record plain { intersect = Some (codes "z") }

-- ---- one filter of one automaton

pub record OneFilter : Type 0 where
  -- some word that matches is accepted, or none
  pub accepts : Holds (AcceptsWord always_a) again
  pub accepts_late : Holds (AcceptsWord late_a) ever_after
  pub accepts_some : Holds (AcceptsWord any_word) so_often
  pub accepts_none : ¬ Holds (AcceptsWord always_a) so_often
  pub rejects : Holds (RejectsWord always_a) so_often
  pub rejects_not_all : ¬ Holds (RejectsWord any_word) so_often
  pub rejects_not : ¬ Holds (RejectsWord always_a) again
  -- no word at all
  pub empty : Holds IsEmpty never
  pub empty_without_start : Holds IsEmpty (either_way [])
  pub not_empty : ¬ Holds IsEmpty again
  -- all words of the one are words of the other
  pub included : Holds (IncludedIn again) ever_after
  pub included_never : Holds (IncludedIn so_often) never
  pub included_itself : (x : Automaton) → Holds (IncludedIn x) x
  pub not_included : ¬ Holds (IncludedIn ever_after) again
  pub not_included_apart : ¬ Holds (IncludedIn so_often) again
  -- and the other way round
  pub equivalent : Holds (EquivalentTo (either_way [])) never
  pub equivalent_itself : (x : Automaton) → Holds (EquivalentTo x) x
  pub not_equivalent : ¬ Holds (EquivalentTo again) ever_after
  pub not_equivalent_back : ¬ Holds (EquivalentTo ever_after) again
  pub not_equivalent_apart : ¬ Holds (EquivalentTo so_often) again
  -- some word of both
  pub intersects : Holds (Intersects ever_after) again
  pub intersects_in_some : Holds (Intersects off_again) again
  pub not_intersects : ¬ Holds (Intersects so_often) again
  pub not_intersects_never : ¬ Holds (Intersects never) again
  -- one way to go for each letter, and one start
  pub deterministic : Holds IsDeterministic again
  pub deterministic_without_start : Holds IsDeterministic (either_way [])
  pub not_deterministic : ¬ Holds IsDeterministic ever_after
  pub not_deterministic_starts : ¬ Holds IsDeterministic (either_way (0 ∷ 1 ∷ []))
  -- some way to go for each letter, and a start
  pub complete : Holds IsComplete again
  pub complete_everywhere : Holds IsComplete alternating
  pub not_complete : ¬ Holds IsComplete (either_way (0 ∷ []))
  pub not_complete_without_start : ¬ Holds IsComplete (record again { starts = [] })
  -- one accepting run for each word
  pub unambiguous : Holds IsUnambiguous again
  pub not_unambiguous : ¬ Holds IsUnambiguous ever_after
  -- figures in a range and out of it
  pub states : Holds (States (just 2)) ever_after
  pub states_from : Holds (States (at_least 1)) ever_after
  pub not_states : ¬ Holds (States (at_most 1)) ever_after
  pub edges : Holds (Edges (just 3)) ever_after
  pub not_edges : ¬ Holds (Edges (at_least 4)) ever_after
  pub sets : Holds (Sets (just 2)) never
  pub not_sets : ¬ Holds (Sets (at_most 1)) never
  pub names : Holds (Names (at_most 1)) again
  pub not_names : ¬ Holds (Names (just 0)) again
  pub no_number : ¬ Holds (States (record { low = 2; high = Some 1 })) again

-- ---- all filters of a plan

pub record Verdicts : Type 0 where
  -- without a filter all are kept, and with `--invert-match` none
  pub kept_by_none : (x : Automaton) → IsKept plain [] x
  pub dropped_by_none : (x : Automaton) → IsDropped (inverted plain) [] x
  pub not_kept_by_none : (x : Automaton) → ¬ IsKept (inverted plain) [] x
  -- one filter, and the same the other way round
  pub kept : IsKept asks_empty [] never
  pub not_dropped : ¬ IsDropped asks_empty [] never
  pub dropped : IsDropped asks_empty [] again
  pub not_kept : ¬ IsKept asks_empty [] again
  pub kept_inverted : IsKept (inverted asks_empty) [] again
  pub dropped_inverted : IsDropped (inverted asks_empty) [] never
  -- three filters have to hold all, and the other way round one of them has to fail
  pub all_hold : IsKept asks_three [] again
  pub first_fails : IsDropped asks_three [] ever_after
  pub second_fails : IsDropped asks_three [] (either_way (0 ∷ []))
  pub last_fails : IsDropped asks_three [] alternating
  pub not_all : ¬ IsKept asks_three [] alternating
  pub fails_inverted : IsKept (inverted asks_three) [] alternating
  pub all_inverted : IsDropped (inverted asks_three) [] again
  -- which operand belongs to which filter
  pub operands : filters asks_operands (again ∷ so_often ∷ never ∷ []) ≡ IncludedIn again ∷ EquivalentTo so_often ∷ Intersects never ∷ []
  pub first_operand : filters asks_last (again ∷ []) ≡ Intersects again ∷ []

pub record FilterExamples : Type 0 where
  pub one : OneFilter
  pub verdicts : Verdicts
