-- The laws of runs for the answer of the command: it is unique, complete, and exists.
use Rattle.std.specs.Prelude.{◌≡◌, ◌≢◌, ◌⊎◌, ◌+◌, ◌<◌, ℕ, List, Some}
use Rattle.aut_base.specs.declared.limit.Limit.TheVariants as limit
use Rattle.aut_base.specs.declared.limit.TheConstants.{MOST_BYTES}
use Rattle.aut_io.specs.Outside.{Gains, Texts}
use Rattle.aut_io.specs.Seen.{Seen, SinkSeen}
use Rattle.autfilt_run.specs.Noted.{Notes}
use Rattle.autfilt_run.specs.Run.{EndsBecause, EndsBy}
use Rattle.autfilt_run.specs.declared.ended.Ended.{Ended}
use Rattle.autfilt_run.specs.declared.ended.Ended.TheVariants as ended
use Rattle.autfilt_laws.specs.Runs.{AreReadable, DecidesTexts, size_of, texts_or}
use Rattle.autfilt_run.specs.Plans.{plan_streams}
use Rattle.filter_plan.specs.Words.{IsPlan, operands}
use Rattle.filter_plan.specs.declared.plan.Plan.{Plan}

-- an answer, with the inputs and sinks before and after it
pub record Answered : Type 0 where
  pub answer : Ended
  pub inputs : Seen
  pub inputs' : Seen
  pub out : SinkSeen
  pub out' : SinkSeen
  pub notes : SinkSeen
  pub notes' : SinkSeen

-- a run of the words came to this answer
abbrev pub IsOf : List (List ℕ) → Answered → Type 0
IsOf words r = EndsBy words r.answer r.inputs r.inputs' r.out r.out' r.notes r.notes'

-- The texts alone determine the answer: no I/O fault, no want of memory.
abbrev pub IsByTexts : Ended → Type 0
IsByTexts ended.Output = Unit {0}
IsByTexts ended.NoneOutput = Unit {0}
IsByTexts ended.Aborts = Unit {0}
IsByTexts ended.Syntax = Unit {0}
IsByTexts ended.Invalid = Unit {0}
IsByTexts (ended.Limit which) = Unit {0}
IsByTexts ended.Usage = ⊥
IsByTexts ended.CannotOpen = ⊥
IsByTexts ended.ReadFault = ⊥
IsByTexts ended.WriteFault = ⊥
IsByTexts ended.Memory = ⊥

-- a run of a plan over these texts, with such an answer
pub record IsDecided (words : List (List ℕ)) (texts : Texts) (r : Answered) : Type 0 where
  pub of : IsOf words r
  pub told : r.inputs.texts ≡ Some texts
  pub by_texts : IsByTexts r.answer

-- the same answer, the same notes, the same left in the inputs, and the same output where the plan determines its texts
pub record AreAnsweredAlike (plan : Plan) (a b : Answered) : Type 0 where
  pub answer : a.answer ≡ b.answer
  pub noted : (text : List ℕ) × Notes text a.notes a.notes' × Notes text b.notes b.notes'
  pub left : a.inputs'.left ≡ b.inputs'.left
  pub written : DecidesTexts plan → (text : List ℕ) × Gains a.out.written a.out'.written text × Gains b.out.written b.out'.written text

-- Two such runs of the same words over the same texts are alike.
abbrev pub OneAnswer : Type 0
OneAnswer = (words : List (List ℕ)) (plan : Plan) (texts : Texts) (a b : Answered) → IsPlan words plan → a.inputs.left ≡ b.inputs.left
    → IsDecided words texts a → IsDecided words texts b → AreAnsweredAlike plan a b

-- Such a run over readable texts read all, unless the limit of bytes ended it.
abbrev pub AnswerCompletes : Type 0
AnswerCompletes = (words : List (List ℕ)) (plan : Plan) (texts : Texts) (a : Answered) → IsPlan words plan → AreReadable plan texts a.inputs.left
    → a.answer ≢ ended.Limit limit.Bytes → IsDecided words texts a → (a.answer ≡ ended.Output) ⊎ ((a.answer ≡ ended.NoneOutput) ⊎ (a.answer ≡ ended.Aborts))

-- A run of the words over these inputs and sinks, with an answer that the texts determine.
pub record IsRun (words : List (List ℕ)) (texts : Texts) (inputs : Seen) (out notes : SinkSeen) (r : Answered) : Type 0 where
  pub over : r.inputs ≡ inputs
  pub into : r.out ≡ out
  pub noting : r.notes ≡ notes
  pub decided : IsDecided words texts r
  pub because : EndsBecause r.answer r.inputs r.inputs' r.out r.out'

-- Words that are a plan have such an answer, over texts that together have fewer bytes than the limit. Stated as: it is
-- impossible that there is none.
abbrev pub SomeAnswer : Type 0
SomeAnswer = (words : List (List ℕ)) (plan : Plan) (texts : Texts) (inputs : Seen) (out notes : SinkSeen) → IsPlan words plan → inputs.texts ≡ Some texts
    → size_of texts (operands plan) + size_of (texts_or plan.made texts) (plan_streams plan) < MOST_BYTES
    → ((r : Answered) → IsRun words texts inputs out notes r → ⊥) → ⊥
