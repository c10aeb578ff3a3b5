-- The text that is due of an automaton that is kept.
use Rattle.std.specs.Prelude.{◌≡◌, ℕ, MatchBool, if◌then◌else◌, List, [], map, MatchOption, Option, None}
use Rattle.ap_project.specs.Laws.{SayTheSame}
use Rattle.aut_base.specs.Acceptance.{Accepts}
use Rattle.aut_base.specs.Automaton.{Automaton}
use Rattle.aut_base.specs.CanonicalLabel.{canonical}
use Rattle.autfilt_run.specs.Figures.{IsLine}
use Rattle.autfilt_run.specs.Plans.{prints_each}
use Rattle.autfilt_run.specs.RefutationLine.{SaysOfInclusion}
use Rattle.filter_plan.specs.Words.{changes}
use Rattle.filter_plan.specs.declared.plan.Form.TheVariants as form
use Rattle.filter_plan.specs.declared.plan.Output.{Output}
use Rattle.filter_plan.specs.declared.plan.Output.TheVariants.{Hoa, Stats, Refute}
use Rattle.filter_plan.specs.declared.plan.Plan.{Plan}
use Rattle.hoa_lexer.specs.Blanks.{IsBlanks}
use Rattle.hoa_lexer.specs.Text.{Lexes}
use Rattle.hoa_lexer.specs.declared.token.Token.{Token}
use Rattle.hoa_parser.specs.Grammar.{SpellsAutomaton}
use Rattle.hoa_parser.specs.Naming.{name_of}
use Rattle.hoa_parser.specs.Raw.{Written}
use Rattle.hoa_reader.specs.Described.{described}
use Rattle.hoa_reader.specs.Validity.{IsValid}
use Rattle.hoa_writer.specs.CanonicalText.{canonical_text}
use Rattle.plan_meaning.specs.Changes.{Language, MakesAll, changes_of, set_operation}
use Rattle.plan_meaning.specs.Limits.{IsWithinInclusion}
use Rattle.plan_meaning.specs.Operands.{refuted_operand}
use Rattle.plan_meaning.specs.Promises.{HasFewSetsUnder, KeepsPromises}

-- The text's tokens spell one automaton and no other. It is valid, and accepts exactly the lasso words that `says` holds of.
pub record ReadsAs (text : List ℕ) (says : Language) : Type 0 where
  pub placed : List (Token × ℕ)
  pub rest : List ℕ
  pub lexes : Lexes text 0 placed rest
  pub blanks : IsBlanks rest
  pub spelled : Written
  pub most : ℕ
  pub spells : SpellsAutomaton most (map (λ p. p.0) placed) spelled
  pub alone : (n : ℕ) (v : Written) → SpellsAutomaton n (map (λ p. p.0) placed) v → v ≡ spelled
  pub valid : IsValid spelled
  pub accepts : SayTheSame (λ u v. Accepts (described spelled) u v) says

-- What the changes of the plan make of the automaton that was read. It keeps what its form promises, and accepts exactly the
-- lasso words that the plan's set operation describes.
pub record IsResult (p : Plan) (ops : List Automaton) (w : Written) (made : Automaton) : Type 0 where
  pub makes : MakesAll (changes_of p ops) (canonical (described w)) made
  pub promises : KeepsPromises p made
  pub few_sets : p.form ≡ form.Parity → HasFewSetsUnder p ops (canonical (described w)) made
  pub accepts : SayTheSame (λ u v. Accepts made u v) (set_operation p ops (described w))

-- the name that is printed: that of the automaton that was read, where the plan changes nothing
abbrev pub name_due : Plan → Written → Option (List ℕ)
name_due p w = if changes p then None else name_of w

-- The canonical text of what is made. Read back, it is an automaton that accepts exactly the lasso words that the plan's set
-- operation describes, of the automaton as it was read.
pub record IsCanonicalResult (p : Plan) (ops : List Automaton) (w : Written) (text : List ℕ) : Type 0 where
  pub made : Automaton
  pub is_made : IsResult p ops w made
  pub same : text ≡ canonical_text made (name_due p w)
  pub reads_as : ReadsAs text (set_operation p ops (described w))

-- What is printed of an automaton that was read: the canonical text of what is made, the line of its figures, or a word that refutes
-- inclusion, where the search for it passed no limit. A refutation is one of the automaton as it was read, before any change.
abbrev pub IsPrinted : Output → Plan → List Automaton → Written → List ℕ → Type 0
IsPrinted Hoa p ops w text = IsCanonicalResult p ops w text
IsPrinted (Stats pieces) p ops w text = (made : Automaton) × IsResult p ops w made × IsLine pieces made text
IsPrinted (Refute file) p ops w text =
    MatchOption (refuted_operand p ops) ⊥ (λ b. IsWithinInclusion (canonical (described w)) b × SaysOfInclusion (described w) b text)

-- Under `-c` and `-q` nothing is due.
abbrev pub IsDue : Plan → List Automaton → Written → List ℕ → Type 0
IsDue p ops w text = MatchBool (prints_each p) (IsPrinted p.output p ops w text) (text ≡ [])
