-- The verdict of a plan on an automaton, and the text that is due of it, are unique.
use Rattle.std.proofs.Common.{◌≡◌, ◌≢◌, ◌⊎◌, ℕ, Bool, true, false, List, [], ◌∷◌, ◌++◌, length, codes, Option, Some, None, inl, inr, refl, true≢false, ap, ◌∙◌, sym, subst}
use Rattle.std.specs.Fmt.{decimal}
use Rattle.std.specs.List.{AllByRecursion, AllZip, concat}
use Rattle.std.specs.Prelude.{MatchBool, MatchOption}
use Rattle.aut_base.specs.Automaton.{Automaton}
use Rattle.aut_base.specs.CanonicalLabel.{canonical}
use Rattle.aut_base.specs.declared.limit.Limit.{Limit}
use Rattle.aut_ops.specs.Laws.{TrimmedIsDetermined}
use Rattle.autfilt_laws.specs.Runs.{DecidesPrinted, DecidesTexts}
use Rattle.autfilt_run.specs.Due.{IsDue, IsResult, IsPrinted, name_due}
use Rattle.autfilt_run.specs.Figures.{IsLine, IsShownAs, ShowsReached}
use Rattle.autfilt_run.specs.Over.{IsOverLimit, IsOverPrinting, StopsPrinting}
use Rattle.autfilt_run.specs.Plans.{prints_each}
use Rattle.autfilt_run.specs.RefutationLine.{SaysOfInclusion}
use Rattle.filter_plan.specs.declared.format.Piece.{Piece}
use Rattle.filter_plan.specs.declared.format.Piece.TheVariants.{Byte, States, Edges, Sets, Word}
use Rattle.filter_plan.specs.declared.plan.Output.{Output}
use Rattle.filter_plan.specs.declared.plan.Output.TheVariants.{Hoa, Stats, Refute}
use Rattle.filter_plan.specs.declared.plan.Plan.{Plan}
use Rattle.hoa_parser.specs.Raw.{Written}
use Rattle.hoa_reader.specs.Described.{described}
use Rattle.hoa_writer.specs.CanonicalText.{canonical_text}
use Rattle.plan_meaning.specs.Changes.{changes_of}
use Rattle.plan_meaning.specs.Filters.{IsDropped, IsKept, PassesAt, filters}
use Rattle.plan_meaning.specs.Laws.{ChangesAreDetermined, OneLimitOfInclusion, VerdictIsOne}
use Rattle.plan_meaning.specs.Laws as verdict
use Rattle.plan_meaning.specs.Limits.{IsWithinInclusion, PassesOfInclusion}
use Rattle.plan_meaning.specs.Operands.{refuted_operand}

-- uniqueness of what a plan says of an automaton
pub record AreOne : Type 0 where
  pub verdict : VerdictIsOne
  pub inclusion : OneLimitOfInclusion
  pub changes : ChangesAreDetermined
  pub trimmed : TrimmedIsDetermined

kept_is_dropped : verdict.Kept ≡ verdict.Dropped → ⊥
kept_is_dropped e = cc

kept_is_over : (which : Limit) → verdict.Kept ≡ verdict.Over which → ⊥
kept_is_over which e = cc

dropped_is_over : (which : Limit) → verdict.Dropped ≡ verdict.Over which → ⊥
dropped_is_over which e = cc

pub kept_or_dropped : AreOne → (plan : Plan) (ops : List Automaton) (w v : Written) → w ≡ v → IsKept plan ops (described w) → IsDropped plan ops (described v) → ⊥
kept_or_dropped one plan ops w v same k d =
    let kept = subst (λ (x : Written). IsKept plan ops (described x)) same k in
    kept_is_dropped (one.verdict plan ops (described v) verdict.Kept verdict.Dropped kept d)

kept_or_over : AreOne → (which : Limit) (plan : Plan) (ops : List Automaton) (a : Automaton) → IsKept plan ops a → PassesAt which (filters plan ops) a → ⊥
kept_or_over one which plan ops a k o = kept_is_over which (one.verdict plan ops a verdict.Kept (verdict.Over which) k o)

dropped_or_over : AreOne → (which : Limit) (plan : Plan) (ops : List Automaton) (a : Automaton) → IsDropped plan ops a → PassesAt which (filters plan ops) a → ⊥
dropped_or_over one which plan ops a k o = dropped_is_over which (one.verdict plan ops a verdict.Dropped (verdict.Over which) k o)

-- ---- the text

-- what is made of an automaton
one_made : AreOne → (p : Plan) (ops : List Automaton) (w : Written) (m n : Automaton) → IsResult p ops w m → IsResult p ops w n → m ≡ n
one_made one p ops w m n x y = (one.changes (changes_of p ops) (canonical (described w))).made m n x.makes y.makes

one_reached : AreOne → (figure : Automaton → ℕ) (a : Automaton) (t u : List ℕ) → ShowsReached figure a t → ShowsReached figure a u → t ≡ u
one_reached one figure a t u x y =
    let same = one.trimmed a x.trimmed y.trimmed x.is_trimmed y.is_trimmed in
    x.shown ∙ ap (λ (m : Automaton). decimal (figure m)) same ∙ sym y.shown

-- the text of a piece other than a word is unique
one_shown : AreOne → (piece : Piece) (a : Automaton) (t u : List ℕ) → piece ≢ Word → IsShownAs piece a t → IsShownAs piece a u → t ≡ u
one_shown one (Byte b) a t u other x y = x ∙ sym y
one_shown one States a t u other x y = one_reached one (λ (m : Automaton). m.states) a t u x y
one_shown one Edges a t u other x y = one_reached one (λ (m : Automaton). length m.edges) a t u x y
one_shown one Sets a t u other x y = x ∙ sym y
one_shown one Word a t u other x y = absurd (other refl)

one_each : AreOne → (pieces : List Piece) (a : Automaton) (ts us : List (List ℕ)) → AllByRecursion (λ (piece : Piece). piece ≢ Word) pieces
    → AllZip (λ piece t. IsShownAs piece a t) pieces ts → AllZip (λ piece t. IsShownAs piece a t) pieces us → ts ≡ us
one_each one [] a [] [] others x y = refl
one_each one [] a (t ∷ ts) us others x y = absurd x
one_each one [] a [] (u ∷ us) others x y = absurd y
one_each one (piece ∷ pieces) a [] us others x y = absurd x
one_each one (piece ∷ pieces) a (t ∷ ts) [] others x y = absurd y
one_each one (piece ∷ pieces) a (t ∷ ts) (u ∷ us) others x y =
    ap (λ (v : List ℕ). v ∷ ts) (one_shown one piece a t u others.0 x.0 y.0) ∙ ap (λ (vs : List (List ℕ)). u ∷ vs) (one_each one pieces a ts us others.1 x.1 y.1)

one_line : AreOne → (pieces : List Piece) (a : Automaton) (t u : List ℕ) → AllByRecursion (λ (piece : Piece). piece ≢ Word) pieces
    → IsLine pieces a t → IsLine pieces a u → t ≡ u
one_line one pieces a t u others x y =
    x.all ∙ ap (λ (ts : List (List ℕ)). concat ts ++ codes "\n") (one_each one pieces a x.shown y.shown others x.each y.each) ∙ sym y.all

one_printed : AreOne → (o : Output) (p : Plan) (ops : List Automaton) (w : Written) (t u : List ℕ) → DecidesPrinted o
    → IsPrinted o p ops w t → IsPrinted o p ops w u → t ≡ u
one_printed one Hoa p ops w t u decides x y =
    let same = one_made one p ops w x.made y.made x.is_made y.is_made in
    x.same ∙ ap (λ (m : Automaton). canonical_text m (name_due p w)) same ∙ sym y.same
one_printed one (Stats pieces) p ops w t u decides x y =
    let same = one_made one p ops w x.0 y.0 x.1 y.1 in
    one_line one pieces y.0 t u decides (subst (λ (m : Automaton). IsLine pieces m t) same x.2) y.2
one_printed one (Refute file) p ops w t u decides x y = absurd decides

due_where : AreOne → (b : Bool) (p : Plan) (ops : List Automaton) (w : Written) (t u : List ℕ) → DecidesPrinted p.output ⊎ (b ≡ false)
    → MatchBool b (IsPrinted p.output p ops w t) (t ≡ []) → MatchBool b (IsPrinted p.output p ops w u) (u ≡ []) → t ≡ u
due_where one false p ops w t u decides a b = a ∙ sym b
due_where one true p ops w t u (inr off) a b = absurd (true≢false off)
due_where one true p ops w t u (inl decides) a b = one_printed one p.output p ops w t u decides a b

-- the text of an automaton is unique, where the plan determines it
pub one_text : AreOne → (plan : Plan) (ops : List Automaton) (w v : Written) (t u : List ℕ) → DecidesTexts plan → w ≡ v
    → IsDue plan ops w t → IsDue plan ops v u → t ≡ u
one_text one plan ops w v t u decides same a b =
    due_where one (prints_each plan) plan ops v t u decides (subst (λ (x : Written). IsDue plan ops x t) same a) b

-- ---- the limits

refuted_or_over : (operand : Option Automaton) (which : Limit) (w : Written) (text : List ℕ)
    → MatchOption operand ⊥ (λ b. IsWithinInclusion (canonical (described w)) b × SaysOfInclusion (described w) b text)
    → MatchOption operand ⊥ (λ b. PassesOfInclusion which (canonical (described w)) b) → ⊥
refuted_or_over None which w text h k = h
refuted_or_over (Some b) which w text h k = h.0 which k

printed_or_over : AreOne → (o : Output) (which : Limit) (p : Plan) (ops : List Automaton) (w : Written) (text : List ℕ) → IsPrinted o p ops w text
    → StopsPrinting o which p ops (canonical (described w)) → ⊥
printed_or_over one Hoa which p ops w text h k = (one.changes (changes_of p ops) (canonical (described w))).either h.made which h.is_made.makes k
printed_or_over one (Stats pieces) which p ops w text h k = (one.changes (changes_of p ops) (canonical (described w))).either h.0 which h.1.makes k
printed_or_over one (Refute file) which p ops w text h k = refuted_or_over (refuted_operand p ops) which w text h k

due_or_over : AreOne → (which : Limit) (p : Plan) (ops : List Automaton) (w : Written) (text : List ℕ) → IsDue p ops w text → IsOverPrinting which p ops w → ⊥
due_or_over one which p ops w text d o = printed_or_over one p.output which p ops w text (subst (λ (b : Bool). MatchBool b (IsPrinted p.output p ops w text) (text ≡ [])) o.prints d) o.stops

-- where something is due, no limit is passed
pub kept_is_within : AreOne → (which : Limit) (p : Plan) (ops : List Automaton) (w : Written) (text : List ℕ) → IsKept p ops (described w) → IsDue p ops w text → IsOverLimit which p ops w → ⊥
kept_is_within one which p ops w text k d o = go o.over
  where
    go : PassesAt which (filters p ops) (described w) ⊎ IsOverPrinting which p ops w → ⊥
    go (inl f) = kept_or_over one which p ops (described w) k f
    go (inr c) = due_or_over one which p ops w text d c

pub dropped_is_within : AreOne → (which : Limit) (p : Plan) (ops : List Automaton) (w : Written) → IsDropped p ops (described w) → IsOverLimit which p ops w → ⊥
dropped_is_within one which p ops w d o = go o.over
  where
    go : PassesAt which (filters p ops) (described w) ⊎ IsOverPrinting which p ops w → ⊥
    go (inl f) = dropped_or_over one which p ops (described w) d f
    go (inr c) = kept_or_dropped one p ops w w refl c.kept d

-- at most one limit is passed
one_refuted : AreOne → (operand : Option Automaton) (which other : Limit) (a : Automaton) → MatchOption operand ⊥ (λ b. PassesOfInclusion which a b)
    → MatchOption operand ⊥ (λ b. PassesOfInclusion other a b) → which ≡ other
one_refuted one None which other a h k = absurd h
one_refuted one (Some b) which other a h k = one.inclusion which other a b h k

one_printing : AreOne → (o : Output) (which other : Limit) (p : Plan) (ops : List Automaton) (w : Written) → StopsPrinting o which p ops (canonical (described w))
    → StopsPrinting o other p ops (canonical (described w)) → which ≡ other
one_printing one Hoa which other p ops w h k = (one.changes (changes_of p ops) (canonical (described w))).limit which other h k
one_printing one (Stats pieces) which other p ops w h k = (one.changes (changes_of p ops) (canonical (described w))).limit which other h k
one_printing one (Refute file) which other p ops w h k = one_refuted one (refuted_operand p ops) which other (canonical (described w)) h k

pub one_over : AreOne → (p : Plan) (ops : List Automaton) (which other : Limit) (w : Written) → IsOverLimit which p ops w → IsOverLimit other p ops w → which ≡ other
one_over one p ops which other w a b = go a.over b.over
  where
    over_is : verdict.Over which ≡ verdict.Over other → which ≡ other
    over_is e = cc

    go : PassesAt which (filters p ops) (described w) ⊎ IsOverPrinting which p ops w → PassesAt other (filters p ops) (described w) ⊎ IsOverPrinting other p ops w
        → which ≡ other
    go (inl x) (inl y) = over_is (one.verdict p ops (described w) (verdict.Over which) (verdict.Over other) x y)
    go (inl x) (inr y) = absurd (kept_or_over one which p ops (described w) y.kept x)
    go (inr x) (inl y) = absurd (kept_or_over one other p ops (described w) x.kept y)
    go (inr x) (inr y) = one_printing one p.output which other p ops w x.stops y.stops
