-- Under `--refute` a line is due of each automaton: a word that the operand doesn't accept, or that there is none.
use Rattle.std.proofs.Common.{◌≡◌, ◌∙◌, ◌<◌, ◌⊎◌, ℕ, Bool, true, false, List, [], ◌∷◌, ◌++◌, Contains, Option, Some, ap, arith, codes, inl, inr, length, refl, subst, sym}
use Rattle.std.proofs.lemmas.List.{length-append}
use Rattle.std.specs.List.{AllByRecursion}
use Rattle.std.specs.Prelude.{MatchBool, MatchOption}
use Rattle.aut_base.proofs.canonical.CanonicalAutomata.{canonical_is_well_formed}
use Rattle.aut_base.proofs.lists.Lists.{slice_get-at}
use Rattle.aut_base.proofs.lists.Members.{item_at, none_there, there_cases}
use Rattle.aut_base.specs.Automaton.{Automaton, IsWellFormed}
use Rattle.aut_base.specs.CanonicalLabel.{canonical}
use Rattle.aut_base.specs.declared.letter.Lasso.{Lasso}
use Rattle.aut_base.specs.declared.limit.Limit.{Limit}
use Rattle.aut_core.specs.OtherNames.{joined_names}
use Rattle.autfilt_laws.proofs.existence.Silent.{silent}
use Rattle.autfilt_laws.proofs.refuted.Refuting.{included}
use Rattle.autfilt_laws.specs.Runs.{IsAlwaysDue, IsGoodOperand}
use Rattle.autfilt_run.specs.Due.{IsDue, IsPrinted}
use Rattle.autfilt_run.specs.OperandEvents.{FileOpened, OperandEvent, PassedOver, Taken, operands_read}
use Rattle.autfilt_run.specs.Over.{IsOverLimit, IsOverPrinting, StopsPrinting}
use Rattle.autfilt_run.specs.Plans.{prints_each}
use Rattle.autfilt_run.specs.RefutationLine.{SaysOfInclusion}
use Rattle.filter_plan.specs.Table.{refuted}
use Rattle.filter_plan.specs.Words.{file_list, operands}
use Rattle.filter_plan.specs.declared.plan.Output.{Output}
use Rattle.filter_plan.specs.declared.plan.Output.TheVariants.{Refute}
use Rattle.filter_plan.specs.declared.plan.Plan.{Plan}
use Rattle.hoa_parser.specs.Raw.{Written}
use Rattle.hoa_reader.proofs.description.WellFormed.{valid_is_well_formed}
use Rattle.hoa_reader.specs.Counts.{PassesNone}
use Rattle.hoa_reader.specs.Described.{described}
use Rattle.hoa_reader.specs.Validity.{IsValid}
use Rattle.plan_meaning.specs.Filters.{IsKept}
use Rattle.plan_meaning.specs.Limits.{IsWithinInclusion, PassesOfInclusion}
use Rattle.plan_meaning.specs.Operands.{operand_at, place_of_refuted, refuted_operand}
use Rattle.plan_meaning.specs.Refutations.{Refutes}
use Rattle.word_syntax.specs.Printing.{word_text}

-- ---- the operand

operands_formed : (taken : List OperandEvent) → AllByRecursion IsGoodOperand taken → (b : Automaton) → Contains (operands_read taken) b → IsWellFormed b
operands_formed [] good b there = absurd (none_there b there)
operands_formed (FileOpened name ∷ taken) good b there = operands_formed taken good.1 b there
operands_formed (PassedOver name ∷ taken) good b there = operands_formed taken good.1 b there
operands_formed (Taken w ∷ taken) good b there = elim (there_cases (canonical (described w)) (operands_read taken) b there) [
  | inl here ↦ subst IsWellFormed here (canonical_is_well_formed (described w) (valid_is_well_formed w good.0.0))
  | inr later ↦ operands_formed taken good.1 b later
]

refuted_within : (p : Plan) (file : List ℕ) (ops : List Automaton) → length ops ≡ length (operands p) → refuted p.output ≡ Some file → place_of_refuted p < length ops
refuted_within p file ops number is =
    let last = file_list (refuted p.output) in
    let sums = file_list p.sum ++ last in
    let unions = file_list p.product_or ++ sums in
    let products = file_list p.product ++ unions in
    let met = file_list p.intersect ++ products in
    let compared = file_list p.equivalent_to ++ met in
    let one : length last ≡ 1 = ap (λ o. length (file_list o)) is in
    omega (
      arith,
      one,
      number,
      length-append (file_list p.sum) last,
      length-append (file_list p.product_or) sums,
      length-append (file_list p.product) unions,
      length-append (file_list p.intersect) products,
      length-append (file_list p.equivalent_to) met,
      length-append (file_list p.included_in) compared,
    )

-- the operand that automata are refuted against, which is one of those that were read
record IsRead (p : Plan) (ops : List Automaton) : Type 0 where
  operand : Automaton
  there : Contains ops operand
  is : refuted_operand p ops ≡ Some operand

operand_read : (p : Plan) (file : List ℕ) (ops : List Automaton) → length ops ≡ length (operands p) → p.output ≡ Refute file → IsRead p ops
operand_read p file ops number output =
    let last : refuted p.output ≡ Some file = ap refuted output in
    let place = place_of_refuted p in
    let within = refuted_within p file ops number last in
    let found = item_at ops place within in
    record {
      operand = found.0;
      there = (place, within, found.1);
      is = ap (λ o. operand_at o place ops) last ∙ slice_get-at ops place found.0 within (sym found.1);
    }

-- ---- what is due

module _ (p : Plan) (file : List ℕ) (output : p.output ≡ Refute file) (on : prints_each p ≡ true) (ops : List Automaton) (r : IsRead p ops) (w : Written) where
  abbrev Nothing : Type 0
  Nothing = ((text : List ℕ) × IsDue p ops w text) ⊎ ((which : Limit) × IsOverLimit which p ops w) → ⊥

  within_limits : IsValid w → PassesNone w → IsKept p ops (described w) → Nothing → IsWithinInclusion (canonical (described w)) r.operand
  within_limits valid within kept none which passes =
      let stops = subst (λ (o : Option Automaton). MatchOption o ⊥ (λ b. PassesOfInclusion which (canonical (described w)) b)) (sym r.is) passes in
      let printing : IsOverPrinting which p ops w = record { kept = kept; prints = on; stops = subst (λ (o : Output). StopsPrinting o which p ops (canonical (described w))) (sym output) stops } in
      none (inr (which, record { valid = valid; within = within; over = inr printing }))

  line_is_due : IsWithinInclusion (canonical (described w)) r.operand → (text : List ℕ) → SaysOfInclusion (described w) r.operand text → IsDue p ops w text
  line_is_due limits text says =
      let line = subst (λ (o : Option Automaton). MatchOption o ⊥ (λ b. IsWithinInclusion (canonical (described w)) b × SaysOfInclusion (described w) b text)) (sym r.is) (limits, says) in
      subst (λ (c : Bool). MatchBool c (IsPrinted p.output p ops w text) (text ≡ [])) (sym on) (subst (λ (o : Output). IsPrinted o p ops w text) (sym output) line)

  -- the operand accepts all that the automaton accepts, where no word refutes that
  something : IsWellFormed r.operand → IsValid w → PassesNone w → IsKept p ops (described w) → Nothing → ⊥
  something formed valid within kept none =
      let a = described w in
      let limits = within_limits valid within kept none in
      let never : (text : List ℕ) → SaysOfInclusion a r.operand text → ⊥ = λ text says. none (inl (text, line_is_due limits text says)) in
      let names = joined_names a.names r.operand.names in
      let no_word : (word : Lasso) → Refutes a r.operand word → ⊥ =
      λ word refutes. never (word_text names word.stem word.cycle ++ codes "\n") (inl (record { word = word; refutes = refutes; shown = refl })) in
      never (codes "included\n") (inr (included a r.operand formed no_word, refl))

pub refuted_is_due : (p : Plan) (file : List ℕ) → p.output ≡ Refute file → IsAlwaysDue p
refuted_is_due p file output taken good w valid within kept none = go (prints_each p) refl
  where
    go : (b : Bool) → prints_each p ≡ b → ⊥
    go false off = silent p off taken good w valid within kept none
    go true on =
        let ops = operands_read taken in
        let r = operand_read p file ops good.number output in
        something p file output on ops r w (operands_formed taken good.good r.operand r.there) valid within kept none
