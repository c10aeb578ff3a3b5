-- The texts alone determine which event comes next in the files of operands.
use Rattle.std.proofs.Common.{◌≡◌, ◌⊎◌, ℕ, List, [], ◌∷◌, ◌++◌, refl, sym, ap, ◌∙◌, subst, inl, inr}
use Rattle.aut_io.specs.Outside.{Texts, text_of}
use Rattle.autfilt_laws.proofs.alike.Looks.{Look, aborted_is, look_over, look_taken, one_look, one_point, one_stream, unopened, whole_is}
use Rattle.autfilt_laws.specs.Runs.{OperandRunsAgree}
use Rattle.autfilt_run.proofs.turns.Points.{taken_at}
use Rattle.autfilt_run.specs.Events.{OpensStream, PassesOver, Point, Stream, opened_at}
use Rattle.autfilt_run.specs.OperandEvents.{AreRead, FileOpened, OperandEvent, PassedOver, Proceeds, Taken}
use Rattle.hoa_parser.specs.Raw.{Written}
use Rattle.hoa_parser.specs.Standing as standing
use Rattle.hoa_parser.specs.Standing.{OneStanding}

abbrev pub Same : OperandEvent → OperandEvent → Point → Point → Type 0
Same e f q r = (e ≡ f) × (q ≡ r)

both_open : (texts : Texts) (name other : List ℕ) (p q r : Point) → OpensStream texts name p q → OpensStream texts other p r → Same (FileOpened name) (FileOpened other) q r
both_open texts name other p q r a b =
    let all : (name ∷ a.others) ≡ (other ∷ b.others) = sym a.next ∙ b.next in
    let first : name ≡ other = cc in
    let rest : a.others ≡ b.others = cc in
    (ap FileOpened first, a.to ∙ ap (λ x. opened_at p x name (text_of texts name)) rest ∙ ap (λ x. opened_at p b.others x (text_of texts x)) first ∙ sym b.to)

both_taken : (p q r : Point) (w v : Written) (a : Look p (λ x. standing.Whole w x) (λ s x. taken_at p s x) q) (b : Look p (λ x. standing.Whole v x) (λ s x. taken_at p s x) r)
    → standing.Whole w a.next ≡ standing.Whole v b.next → Same (Taken w) (Taken v) q r
both_taken p q r w v a b e =
    let same = whole_is w v a.next b.next e in
    (ap Taken same.0, one_point p q r _ _ _ a b same.1)

both_over : (p q r : Point) (name other : List ℕ) → (h : PassesOver name p q) → (k : PassesOver other p r) → standing.Aborted h.reads.next ≡ standing.Aborted k.reads.next
    → Same (PassedOver name) (PassedOver other) q r
both_over p q r name other h k e =
    let a = look_over p q name h in
    let b = look_over p r other k in
    let stream = one_stream p.stream h.reads.stream k.reads.stream h.reads.is_open k.reads.is_open in
    (ap PassedOver (sym h.named ∙ ap (λ (s : Stream). s.name) stream ∙ k.named), one_point p q r _ _ _ a b (aborted_is h.reads.next k.reads.next e))

pub one_proceeds : OneStanding → (texts : Texts) (e f : OperandEvent) (p q r : Point) → Proceeds texts e p q → Proceeds texts f p r → Same e f q r
one_proceeds one texts (FileOpened n) (FileOpened m) p q r a b = both_open texts n m p q r a b
one_proceeds one texts (FileOpened n) (Taken v) p q r a b = absurd (unopened texts n p q r _ _ a (look_taken p r v b))
one_proceeds one texts (FileOpened n) (PassedOver m) p q r a b = absurd (unopened texts n p q r _ _ a (look_over p r m b))
one_proceeds one texts (Taken w) (FileOpened m) p q r a b = absurd (unopened texts m p r q _ _ b (look_taken p q w a))
one_proceeds one texts (Taken w) (Taken v) p q r a b =
    let x = look_taken p q w a in
    let y = look_taken p r v b in
    both_taken p q r w v x y (one_look one p q r _ _ _ _ x y)
one_proceeds one texts (Taken w) (PassedOver m) p q r a b = let e = one_look one p q r _ _ _ _ (look_taken p q w a) (look_over p r m b) in cc
one_proceeds one texts (PassedOver n) (FileOpened m) p q r a b = absurd (unopened texts m p r q _ _ b (look_over p q n a))
one_proceeds one texts (PassedOver n) (Taken v) p q r a b = let e = one_look one p q r _ _ _ _ (look_over p q n a) (look_taken p r v b) in cc
one_proceeds one texts (PassedOver n) (PassedOver m) p q r a b = both_over p q r n m a b (one_look one p q r _ _ _ _ (look_over p q n a) (look_over p r m b))

-- ---- one list is a prefix of the other

longer : (e f : OperandEvent) (es fs : List OperandEvent) → e ≡ f → ((more : List OperandEvent) × (fs ≡ es ++ more)) ⊎ ((more : List OperandEvent) × (es ≡ fs ++ more))
    → ((more : List OperandEvent) × (f ∷ fs ≡ (e ∷ es) ++ more)) ⊎ ((more : List OperandEvent) × (e ∷ es ≡ (f ∷ fs) ++ more))
longer e f es fs same (inl h) = inl (h.0, ap (λ x. f ∷ x) h.1 ∙ ap (λ x. x ∷ (es ++ h.0)) (sym same))
longer e f es fs same (inr h) = inr (h.0, ap (λ x. e ∷ x) h.1 ∙ ap (λ x. x ∷ (fs ++ h.0)) same)

pub one_operand_front : OneStanding → OperandRunsAgree
one_operand_front one texts [] fs p q r a b = inl (fs, refl)
one_operand_front one texts (e ∷ es) [] p q r a b = inr (e ∷ es, refl)
one_operand_front one texts (e ∷ es) (f ∷ fs) p q r a b =
    let same = one_proceeds one texts e f p a.0 b.0 a.1 b.1 in
    longer e f es fs same.0 (one_operand_front one texts es fs a.0 q r a.2 (subst (λ (x : Point). AreRead texts fs x r) (sym same.1) b.2))
