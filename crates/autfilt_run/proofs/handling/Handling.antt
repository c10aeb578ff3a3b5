-- Filtering and printing of an automaton that was read.
use Rattle.std.proofs.Common.{◌≡◌, ℕ, Bool, true, false, if◌then◌else◌, List, [], Option, Some, None, Result, Ok, Err, refl, sym, ap, ◌∙◌, subst, inl, inr}
use Rattle.std.specs.Prelude.{◌++◌, All, MatchBool, MatchOption, codes}
use Rattle.std.specs.Result.{IsErrAnd}
use Rattle.aut_base.proofs.Outcomes.{hands_on}
use Rattle.aut_base.specs.Automaton.{Automaton}
use Rattle.aut_base.specs.declared.letter.Lasso.{Lasso}
use Rattle.aut_core.specs.OtherNames.{joined_names}
use Rattle.aut_io.specs.Seen.{SinkSeen}
use Rattle.autfilt_run.proofs.printing.ReadsAs.{reads_as}
use Rattle.autfilt_run.proofs.printing.Said.{made_as}
use Rattle.autfilt_run.proofs.handling.Taking.{accepts_read, core_is}
use Rattle.autfilt_run.specs.Due.{IsDue, IsResult, IsPrinted, name_due}
use Rattle.autfilt_run.specs.Faults.{fault_of_plan}
use Rattle.autfilt_run.specs.Plans.{prints_each}
use Rattle.autfilt_run.specs.RefutationLine.{SaysOfInclusion}
use Rattle.autfilt_run.specs.inner.Handling.{Handles, IsUnwanted, IsWanted, PrintsAutomaton, PrintsOrStops, ShowsInclusion, ShowsMade}
use Rattle.autfilt_run.specs.inner.Taking.{IsReadAs}
use Rattle.filter_plan.specs.Words.{changes}
use Rattle.filter_plan.specs.declared.plan.Output.{Output}
use Rattle.filter_plan.specs.declared.plan.Output.TheVariants.{Hoa, Stats, Refute}
use Rattle.filter_plan.specs.declared.plan.Plan.{Plan}
use Rattle.hoa_parser.specs.Naming.{name_of}
use Rattle.hoa_parser.specs.Raw.{Written}
use Rattle.hoa_reader.specs.Described as reader
use Rattle.aut_base.specs.CanonicalLabel.{canonical}
use Rattle.hoa_writer.specs.CanonicalText.{canonical_text}
use Rattle.hoa_writer.specs.CanonicalWritten.{ReadsBack}
use Rattle.plan_meaning.proofs.filters.Canonical.{verdict_read}
use Rattle.plan_meaning.specs.Changes.{MakesAll, changes_of, set_operation}
use Rattle.plan_meaning.specs.Filters.{IsKept, Judged}
use Rattle.plan_meaning.specs.Limits.{IsWithinInclusion}
use Rattle.plan_meaning.specs.Operands.{refuted_operand}
use Rattle.plan_meaning.specs.Promises.{HasFewSetsUnder}
use Rattle.plan_meaning.specs.Refutations.{Refutes}
use Rattle.plan_meaning.specs.declared.fault.PlanFault.{PlanFault}
use Rattle.plan_meaning.specs.declared.fault.PlanFault.TheVariants as asked
use Rattle.word_syntax.specs.Printing.{HoldsOnly, word_text}

judged : (r : Result Bool PlanFault) (p : Plan) (ops : List Automaton) (w : Written) (core : Automaton) → IsReadAs w core → Judged r p ops core → Judged r p ops (reader.described w)
judged r p ops w core x h = verdict_read r p ops core x.described (reader.described w) x.is x.same x.formed h

kept : (b : Bool) (p : Plan) (ops : List Automaton) (w : Written) (core : Automaton) → IsReadAs w core → b ≡ true → Judged (Ok b) p ops core → IsKept p ops (reader.described w)
kept b p ops w core r is h = judged (Ok true) p ops w core r (subst (λ (x : Bool). Judged (Ok x) p ops core) is h)

pub is_unwanted : (b : Bool) (p : Plan) (ops : List Automaton) (w : Written) (core : Automaton) → IsReadAs w core → b ≡ false → Judged (Ok b) p ops core → IsUnwanted p ops w
is_unwanted b p ops w core r is h =
    record { valid = r.valid; within = r.within; dropped = judged (Ok false) p ops w core r (subst (λ (x : Bool). Judged (Ok x) p ops core) is h) }

-- ---- the text that is due

silent : (p : Plan) (ops : List Automaton) (w : Written) (b : Bool) → b ≡ prints_each p → b ≡ false → IsDue p ops w []
silent p ops w true e is = cc
silent p ops w false e is = subst (λ (x : Bool). MatchBool x (IsPrinted p.output p ops w []) (◌≡◌ {A = List ℕ} [] [])) e refl

pub is_wanted_silent : (b c : Bool) (p : Plan) (ops : List Automaton) (w : Written) (core : Automaton) → IsReadAs w core → b ≡ true → Judged (Ok b) p ops core → c ≡ prints_each p → c ≡ false
    → IsWanted p ops w []
is_wanted_silent b c p ops w core r is h e off =
    record { valid = r.valid; within = r.within; kept = kept b p ops w core r is h; due = silent p ops w c e off }

made_of : {S : Automaton → Type 0} (p : Plan) (ops : List Automaton) (w : Written) (core : Automaton) → IsReadAs w core → (h : ShowsMade p ops core S) → IsResult p ops w h.made
made_of p ops w core r h =
    record {
      makes = subst (λ (x : Automaton). MakesAll (changes_of p ops) x h.made) (core_is w core r) h.makes;
      promises = h.promises;
      few_sets = λ is. subst (λ (x : Automaton). HasFewSetsUnder p ops x h.made) (core_is w core r) (h.few_sets is);
      accepts =
          made_as p ops core (reader.described w) h.made (accepts_read w core r) h.says;
    }

name_as : (p : Plan) (w : Written) (name : Option (List ℕ)) → name ≡ name_of w → (if changes p then None else name) ≡ name_due p w
name_as p w name e = ap (λ (x : Option (List ℕ)). if changes p then None else x) e

-- a refutation of an automaton in canonical form is one of the automaton as it was read
names_as : (w : Written) (core : Automaton) → IsReadAs w core → core.names ≡ (reader.described w).names
names_as w core r = ap (λ (x : Automaton). x.names) (core_is w core r)

refutes_as : (w : Written) (core b : Automaton) (word : Lasso) → IsReadAs w core → Refutes core b word → Refutes (reader.described w) b word
refutes_as w core b word r h = record {
  reduced = h.reduced;
  own_names = subst (λ (names : List (List ℕ)). All (HoldsOnly (joined_names names b.names)) (word.stem ++ word.cycle)) (names_as w core r) h.own_names;
  accepted = (accepts_read w core r word.stem word.cycle).0 h.accepted;
  rejected = h.rejected;
}

said_of : (w : Written) (core b : Automaton) (text : List ℕ) → IsReadAs w core → SaysOfInclusion core b text → SaysOfInclusion (reader.described w) b text
said_of w core b text r (inl h) = inl (record {
  word = h.word;
  refutes = refutes_as w core b h.word r h.refutes;
  shown = subst (λ (names : List (List ℕ)). text ≡ word_text (joined_names names b.names) h.word.stem h.word.cycle ++ codes "\n") (names_as w core r) h.shown;
})
said_of w core b text r (inr h) = inr (λ u v accepts. h.0 u v ((accepts_read w core r u v).1 accepts), h.1)

refuted_as : (operand : Option Automaton) (w : Written) (core : Automaton) (text : List ℕ) → IsReadAs w core
    → MatchOption operand ⊥ (ShowsInclusion core text) → MatchOption operand ⊥ (λ b. IsWithinInclusion (canonical (reader.described w)) b × SaysOfInclusion (reader.described w) b text)
refuted_as None w core text r h = h
refuted_as (Some b) w core text r h = (subst (λ (x : Automaton). IsWithinInclusion x b) (core_is w core r) h.0, said_of w core b text r h.1)

printed_as : (o : Output) (p : Plan) (ops : List Automaton) (w : Written) (core : Automaton) (name : Option (List ℕ)) (text : List ℕ) → IsReadAs w core → name ≡ name_of w
    → PrintsAutomaton o p ops core name text → IsPrinted o p ops w text
printed_as Hoa p ops w core name text r named h =
    let due = name_as p w name named in
    let same : text ≡ canonical_text h.made (name_due p w) = h.shown.0 ∙ ap (canonical_text h.made) due in
    let back : ReadsBack (canonical_text h.made (name_due p w)) h.made (name_due p w) = subst (λ (x : Option (List ℕ)). ReadsBack (canonical_text h.made x) h.made x) due h.shown.1 in
    let is_made = made_of p ops w core r h in
    record {
      made = h.made;
      is_made = is_made;
      same = same;
      reads_as = reads_as text h.made (name_due p w) (set_operation p ops (reader.described w)) (subst (λ (x : List ℕ). ReadsBack x h.made (name_due p w)) (sym same) back) is_made.accepts;
    }
printed_as (Stats pieces) p ops w core name text r named h = (h.made, made_of p ops w core r h, h.shown)
printed_as (Refute file) p ops w core name text r named h = refuted_as (refuted_operand p ops) w core text r h

due_text : (p : Plan) (ops : List Automaton) (w : Written) (b : Bool) (text : List ℕ) → b ≡ prints_each p → b ≡ true → IsPrinted p.output p ops w text → IsDue p ops w text
due_text p ops w true text e is h = subst (λ (x : Bool). MatchBool x (IsPrinted p.output p ops w text) (text ≡ [])) e h
due_text p ops w false text e is h = cc

pub is_wanted : (b c : Bool) (p : Plan) (ops : List Automaton) (w : Written) (core : Automaton) (name : Option (List ℕ)) (text bytes : List ℕ) → IsReadAs w core → b ≡ true
    → Judged (Ok b) p ops core → c ≡ prints_each p → c ≡ true
    → bytes ≡ text → PrintsAutomaton p.output p ops core name text → name ≡ name_of w → IsWanted p ops w bytes
is_wanted b c p ops w core name text bytes r is h e on shown printed named = record {
  valid = r.valid;
  within = r.within;
  kept = kept b p ops w core r is h;
  due = subst (λ (x : List ℕ). IsDue p ops w x) (sym shown) (due_text p ops w c text e on (printed_as p.output p ops w core name text r named printed));
}

-- ---- faults

pub not_judged : (f : PlanFault) (p : Plan) (ops : List Automaton) (w : Written) (core : Automaton) (o : SinkSeen) → IsReadAs w core → Judged (Err f) p ops core
    → Handles (Err (fault_of_plan f)) p ops w o o
not_judged (asked.Limit which) p ops w core o r h = (inr (record { valid = r.valid; within = r.within; over = inl (judged (Err (asked.Limit which)) p ops w core r h) }), refl)
not_judged asked.Memory p ops w core o r h = refl

pub not_printed : (f : PlanFault) (b c : Bool) (p : Plan) (ops : List Automaton) (w : Written) (core : Automaton) (name : Option (List ℕ)) (o : SinkSeen) → IsReadAs w core → b ≡ true
    → Judged (Ok b) p ops core → c ≡ prints_each p → c ≡ true
    → PrintsOrStops (Err f) p.output p ops core name → Handles (Err (fault_of_plan f)) p ops w o o
not_printed (asked.Limit which) b c p ops w core name o r is h e on stops = (
  inr (record {
    valid = r.valid;
    within = r.within;
    over = inr (record {
      kept = kept b p ops w core r is h;
      prints = sym e ∙ on;
      stops = subst (λ (x : Automaton). PrintsOrStops (Err (asked.Limit which)) p.output p ops x name) (core_is w core r) stops;
    });
  }),
  refl,
)
not_printed asked.Memory b c p ops w core name o r is h e on stops = refl

-- memory was wanting for what is printed
pub wants_memory : (r : Result (List ℕ) PlanFault) (o : Output) (p : Plan) (ops : List Automaton) (a : Automaton) (name : Option (List ℕ)) → IsErrAnd r (λ y. y ≡ asked.Memory)
    → PrintsOrStops r o p ops a name
wants_memory r o p ops a name h = hands_on r asked.Memory (λ x. PrintsOrStops x o p ops a name) h tt
