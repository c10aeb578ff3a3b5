-- Under each plan a text is due of an automaton that is kept, or a limit is passed.
use Rattle.std.proofs.Common.{◌≡◌, ◌≤◌, ◌⊎◌, ℕ, Bool, true, false, List, [], ◌∷◌, Contains, arith, inl, inr, length, refl, subst, sym}
use Rattle.std.proofs.lemmas.Bool.{ltb-false}
use Rattle.std.specs.List.{AllByRecursion}
use Rattle.std.specs.Prelude.{MatchBool}
use Rattle.ap_project.specs.Laws.{SayTheSame}
use Rattle.aut_base.proofs.canonical.CanonicalAutomata.{canonical_accepts_the_same, canonical_is_well_formed, labels_below}
use Rattle.aut_base.proofs.lists.Members.{none_there, there_cases}
use Rattle.aut_base.specs.Acceptance.{Accepts}
use Rattle.aut_base.specs.Automaton.{Automaton}
use Rattle.aut_base.specs.CanonicalLabel.{canonical}
use Rattle.aut_base.specs.declared.limit.Limit.{Limit}
use Rattle.aut_base.specs.declared.limit.TheConstants.{MOST_NAMES, MOST_SETS, MOST_STATES}
use Rattle.autfilt_laws.proofs.due.Changed.{AllMade, changes_made}
use Rattle.autfilt_laws.proofs.due.Lines.{some_line}
use Rattle.autfilt_laws.proofs.due.Sizes.{IsFine, IsOperand}
use Rattle.autfilt_laws.proofs.existence.Silent.{silent}
use Rattle.autfilt_laws.proofs.refuted.Due.{refuted_is_due}
use Rattle.autfilt_laws.specs.Runs.{EachIsDue, IsGoodOperand}
use Rattle.autfilt_run.proofs.printing.ReadsAs.{reads_as}
use Rattle.autfilt_run.specs.Due.{IsDue, IsResult, IsPrinted, name_due}
use Rattle.autfilt_run.specs.OperandEvents.{FileOpened, OperandEvent, PassedOver, Taken, operands_read}
use Rattle.autfilt_run.specs.Over.{IsOverLimit, IsOverPrinting, StopsPrinting}
use Rattle.autfilt_run.specs.Plans.{prints_each}
use Rattle.filter_plan.specs.declared.format.Piece.{Piece}
use Rattle.filter_plan.specs.declared.plan.Output.{Output}
use Rattle.filter_plan.specs.declared.plan.Output.TheVariants.{Hoa, Refute, Stats}
use Rattle.filter_plan.specs.declared.plan.Plan.{Plan}
use Rattle.hoa_parser.specs.Raw.{Written}
use Rattle.hoa_reader.proofs.description.WellFormed.{valid_is_well_formed}
use Rattle.hoa_reader.specs.Counts.{PassesNone}
use Rattle.hoa_reader.specs.Described.{described, state_count}
use Rattle.hoa_reader.specs.Validity.{IsValid, acceptance_of, written_names}
use Rattle.hoa_writer.specs.CanonicalText.{canonical_text}
use Rattle.hoa_writer.specs.CanonicalWritten.{CanonicalTextReadsBack}
use Rattle.plan_meaning.proofs.changes.Promised.{few_sets_kept, promises_kept}
use Rattle.plan_meaning.proofs.changes.SomeChanges.{changes_exist}
use Rattle.plan_meaning.proofs.changes.Stepping.{all_alike}
use Rattle.plan_meaning.specs.Changes.{MakesAll, changes_of, set_operation}
use Rattle.plan_meaning.specs.Filters.{IsKept}
use Rattle.plan_meaning.specs.Operands.{IsOfReadSize}

-- ---- automata that were read

read_fine : (w : Written) → IsValid w → PassesNone w → IsFine IsOfReadSize (canonical (described w))
read_fine w valid within = record {
  formed = canonical_is_well_formed (described w) (valid_is_well_formed w valid);
  names = omega (arith, ltb-false MOST_NAMES (length (written_names w)) within.0);
  size = record {
    states = omega (arith, ltb-false MOST_STATES (state_count w) within.1.1.0);
    sets = omega (arith, ltb-false MOST_SETS (acceptance_of w).sets within.1.0);
  };
}

operands_fine : (taken : List OperandEvent) → AllByRecursion IsGoodOperand taken → (b : Automaton) → Contains (operands_read taken) b → IsOperand b
operands_fine [] good b there = absurd (none_there b there)
operands_fine (FileOpened name ∷ taken) good b there = operands_fine taken good.1 b there
operands_fine (PassedOver name ∷ taken) good b there = operands_fine taken good.1 b there
operands_fine (Taken w ∷ taken) good b there = elim (there_cases (canonical (described w)) (operands_read taken) b there) [
  | inl here ↦ (let f = read_fine w good.0.0 good.0.1 in subst IsOperand here (record { formed = f.formed; size = f.size }))
  | inr later ↦ operands_fine taken good.1 b later
]

-- ---- what is printed of what is made

module _ (p : Plan) (ops : List Automaton) (operands : (b : Automaton) → Contains ops b → IsOperand b) (w : Written) (valid : IsValid w) (within : PassesNone w) where
  abbrev read : Automaton
  read = canonical (described w)

  abbrev IsMadeOf : Automaton → Type 0
  IsMadeOf made = MakesAll (changes_of p ops) read made

  all_made : (made : Automaton) → IsMadeOf made → AllMade (changes_of p ops) read made
  all_made made m = changes_made ops operands p read made (read_fine w valid within) m

  says : (made : Automaton) → IsMadeOf made → SayTheSame (λ u v. Accepts made u v) (set_operation p ops (described w))
  says made m u v some =
      let first = (all_made made m).is.says u v some in
      let same : SayTheSame (λ x y. Accepts read x y) (λ x y. Accepts (described w) x y) =
      λ x y more. canonical_accepts_the_same (described w) (labels_below (described w) (valid_is_well_formed w valid)) x y in
      let alike = all_alike (changes_of p ops) (λ x y. Accepts read x y) (λ x y. Accepts (described w) x y) same u v some in
      ((λ h. alike.0 (first.0 h)), (λ h. first.1 (alike.1 h)))

  is_made : (made : Automaton) → IsMadeOf made → IsResult p ops w made
  is_made made m =
      let all = (all_made made m).is.all in
      record { makes = m; promises = promises_kept p ops read made all; few_sets = few_sets_kept p ops read made all; accepts = says made m }

  -- its canonical text, and its line of figures

  text_due : CanonicalTextReadsBack → (made : Automaton) → IsMadeOf made → IsPrinted Hoa p ops w (canonical_text made (name_due p w))
  text_due reads made m =
      let fine = (all_made made m).fine in
      let names : length made.names ≤ MOST_NAMES = fine.names in
      let back = reads made (name_due p w) fine.formed (omega (arith, fine.size.states)) (omega (arith, fine.size.sets)) (omega (arith, names)) in
      record { made = made; is_made = is_made made m; same = refl; reads_as = reads_as (canonical_text made (name_due p w)) made (name_due p w) (set_operation p ops (described w)) back (says made m) }

  line_due : (pieces : List Piece) (made : Automaton) → IsMadeOf made → ((text : List ℕ) → IsPrinted (Stats pieces) p ops w text → ⊥) → ⊥
  line_due pieces made m none = some_line pieces made (λ text line. none text (made, is_made made m, line))

  -- a limit is passed, or something is printed
  module _ (kept : IsKept p ops (described w)) (on : prints_each p ≡ true) (none : ((text : List ℕ) × IsDue p ops w text) ⊎ ((which : Limit) × IsOverLimit which p ops w) → ⊥) where
    not_printed : (text : List ℕ) → IsPrinted p.output p ops w text → ⊥
    not_printed text printed = none (inl (text, subst (λ (b : Bool). MatchBool b (IsPrinted p.output p ops w text) (text ≡ [])) (sym on) printed))

    not_over : (which : Limit) → StopsPrinting p.output which p ops read → ⊥
    not_over which stops =
        let printing : IsOverPrinting which p ops w = record { kept = kept; prints = on; stops = stops } in
        none (inr (which, record { valid = valid; within = within; over = inr printing }))

    by_text : CanonicalTextReadsBack → p.output ≡ Hoa → ⊥
    by_text reads is =
        changes_exist p ops read
        (λ made m. not_printed (canonical_text made (name_due p w)) (subst (λ (o : Output). IsPrinted o p ops w (canonical_text made (name_due p w))) (sym is) (text_due reads made m)))
        (λ which stops. not_over which (subst (λ (o : Output). StopsPrinting o which p ops read) (sym is) stops))

    by_line : (pieces : List Piece) → p.output ≡ Stats pieces → ⊥
    by_line pieces is =
        changes_exist p ops read
        (λ made m. line_due pieces made m (λ text printed. not_printed text (subst (λ (o : Output). IsPrinted o p ops w text) (sym is) printed)))
        (λ which stops. not_over which (subst (λ (o : Output). StopsPrinting o which p ops read) (sym is) stops))

-- ---- each plan

pub each_is_due : CanonicalTextReadsBack → EachIsDue
each_is_due reads p taken good w valid within kept none = by_printing (prints_each p) refl
  where
    by_output : prints_each p ≡ true → (o : Output) → p.output ≡ o → ⊥
    by_output on (Refute file) is = refuted_is_due p file is taken good w valid within kept none
    by_output on Hoa is = by_text p (operands_read taken) (operands_fine taken good.good) w valid within kept on none reads is
    by_output on (Stats pieces) is = by_line p (operands_read taken) (operands_fine taken good.good) w valid within kept on none pieces is

    by_printing : (b : Bool) → prints_each p ≡ b → ⊥
    by_printing false off = silent p off taken good w valid within kept none
    by_printing true on = by_output on p.output refl
