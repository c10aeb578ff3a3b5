-- The texts alone determine which event comes next in the streams.
use Rattle.std.proofs.Common.{◌≡◌, ℕ, ◌+◌, List, [], ◌∷◌, refl, sym, ap, ◌∙◌, subst, inl, inr}
use Rattle.aut_base.specs.Automaton.{Automaton}
use Rattle.aut_io.specs.Outside.{Texts, text_of}
use Rattle.autfilt_laws.proofs.alike.Like.{longer, none_first}
use Rattle.autfilt_laws.proofs.alike.Looks.{Look, aborted_is, look_at, look_behind, look_over, one_look, one_point, one_stream, unopened, whole_is}
use Rattle.autfilt_laws.proofs.alike.Verdicts.{AreOne, kept_or_dropped, one_text}
use Rattle.autfilt_laws.specs.Runs.{IsLike, RunsAgree}
use Rattle.autfilt_run.specs.Due.{IsDue}
use Rattle.autfilt_run.proofs.turns.Points.{read_on}
use Rattle.autfilt_run.specs.Events.{Dropped, Ended, EndsStream, Event, EventLeads, Happen, IsEventJudged, Kept, Opened, OpensStream, PassesOver, Point, Skipped, Stream, opened_at}
use Rattle.filter_plan.specs.declared.plan.Plan.{Plan}
use Rattle.hoa_parser.specs.Raw.{Written}
use Rattle.hoa_parser.specs.Standing as standing
use Rattle.hoa_parser.specs.Standing.{OneStanding}

abbrev pub Same : Plan → Event → Event → Point → Point → Type 0
Same plan e f q r = IsLike plan e f × (q ≡ r)

both_open : (plan : Plan) (texts : Texts) (name other : List ℕ) (p q r : Point) → OpensStream texts name p q → OpensStream texts other p r → Same plan (Opened name) (Opened other) q r
both_open plan texts name other p q r a b =
    let all : (name ∷ a.others) ≡ (other ∷ b.others) = sym a.next ∙ b.next in
    let first : name ≡ other = cc in
    let rest : a.others ≡ b.others = cc in
    (ap Opened (sym first), a.to ∙ ap (λ x. opened_at p x name (text_of texts name)) rest ∙ ap (λ x. opened_at p b.others x (text_of texts x)) first ∙ sym b.to)

both_kept : AreOne → (plan : Plan) (ops : List Automaton) (p q r : Point) (w v : Written) (t u : List ℕ) (kept : ℕ) (a : Look p (λ x. standing.Whole w x) (λ s x. read_on p s x kept) q)
    (b : Look p (λ x. standing.Whole v x) (λ s x. read_on p s x kept) r)
    → standing.Whole w a.next ≡ standing.Whole v b.next → IsDue plan ops w t → IsDue plan ops v u → Same plan (Kept w t) (Kept v u) q r
both_kept plain plan ops p q r w v t u kept a b e due due' =
    let same = whole_is w v a.next b.next e in
    ((u, ap (λ x. Kept x u) (sym same.0), λ decides. sym (one_text plain plan ops w v t u decides same.0 due due')), one_point p q r _ _ _ a b same.1)

both_dropped : (plan : Plan) (p q r : Point) (w v : Written) (kept : ℕ) (a : Look p (λ x. standing.Whole w x) (λ s x. read_on p s x kept) q)
    (b : Look p (λ x. standing.Whole v x) (λ s x. read_on p s x kept) r)
    → standing.Whole w a.next ≡ standing.Whole v b.next → Same plan (Dropped w) (Dropped v) q r
both_dropped plan p q r w v kept a b e =
    let same = whole_is w v a.next b.next e in
    (ap Dropped (sym same.0), one_point p q r _ _ _ a b same.1)

both_skipped : (plan : Plan) (p q r : Point) (name other : List ℕ) → (h : PassesOver name p q) → (k : PassesOver other p r) → standing.Aborted h.reads.next ≡ standing.Aborted k.reads.next
    → Same plan (Skipped name) (Skipped other) q r
both_skipped plan p q r name other h k e =
    let a = look_over p q name h in
    let b = look_over p r other k in
    let stream = one_stream p.stream h.reads.stream k.reads.stream h.reads.is_open k.reads.is_open in
    (ap Skipped (sym (sym h.named ∙ ap (λ (s : Stream). s.name) stream ∙ k.named)), one_point p q r _ _ _ a b (aborted_is h.reads.next k.reads.next e))

both_ended : (plan : Plan) (p q r : Point) → EndsStream p q → EndsStream p r → Same plan Ended Ended q r
both_ended plan p q r h k = (refl, one_point p q r _ _ _ (look_behind p q h) (look_behind p r k) refl)

pub one_next : OneStanding → AreOne → (plan : Plan) (ops : List Automaton) (texts : Texts) (e f : Event) (p q r : Point) → IsEventJudged plan ops e → IsEventJudged plan ops f → EventLeads texts e p q
    → EventLeads texts f p r → Same plan e f q r
one_next one plain plan ops texts (Opened n) (Opened m) p q r j i a b = both_open plan texts n m p q r a b
one_next one plain plan ops texts (Opened n) (Kept v u) p q r j i a b = absurd (unopened texts n p q r _ _ a (look_at p r v (p.kept + 1) b))
one_next one plain plan ops texts (Opened n) (Dropped v) p q r j i a b = absurd (unopened texts n p q r _ _ a (look_at p r v p.kept b))
one_next one plain plan ops texts (Opened n) (Skipped m) p q r j i a b = absurd (unopened texts n p q r _ _ a (look_over p r m b))
one_next one plain plan ops texts (Opened n) Ended p q r j i a b = absurd (unopened texts n p q r _ _ a (look_behind p r b))
one_next one plain plan ops texts (Kept w t) (Opened m) p q r j i a b = absurd (unopened texts m p r q _ _ b (look_at p q w (p.kept + 1) a))
one_next one plain plan ops texts (Kept w t) (Kept v u) p q r j i a b =
    let x = look_at p q w (p.kept + 1) a in
    let y = look_at p r v (p.kept + 1) b in
    both_kept plain plan ops p q r w v t u (p.kept + 1) x y (one_look one p q r _ _ _ _ x y) j.1 i.1
one_next one plain plan ops texts (Kept w t) (Dropped v) p q r j i a b =
    absurd (kept_or_dropped plain plan ops w v (whole_is w v _ _ (one_look one p q r _ _ _ _ (look_at p q w (p.kept + 1) a) (look_at p r v p.kept b))).0 j.0 i)
one_next one plain plan ops texts (Kept w t) (Skipped m) p q r j i a b = let e = one_look one p q r _ _ _ _ (look_at p q w (p.kept + 1) a) (look_over p r m b) in cc
one_next one plain plan ops texts (Kept w t) Ended p q r j i a b = let e = one_look one p q r _ _ _ _ (look_at p q w (p.kept + 1) a) (look_behind p r b) in cc
one_next one plain plan ops texts (Dropped w) (Opened m) p q r j i a b = absurd (unopened texts m p r q _ _ b (look_at p q w p.kept a))
one_next one plain plan ops texts (Dropped w) (Kept v u) p q r j i a b =
    absurd (kept_or_dropped plain plan ops v w (sym (whole_is w v _ _ (one_look one p q r _ _ _ _ (look_at p q w p.kept a) (look_at p r v (p.kept + 1) b))).0) i.0 j)
one_next one plain plan ops texts (Dropped w) (Dropped v) p q r j i a b =
    let x = look_at p q w p.kept a in
    let y = look_at p r v p.kept b in
    both_dropped plan p q r w v p.kept x y (one_look one p q r _ _ _ _ x y)
one_next one plain plan ops texts (Dropped w) (Skipped m) p q r j i a b = let e = one_look one p q r _ _ _ _ (look_at p q w p.kept a) (look_over p r m b) in cc
one_next one plain plan ops texts (Dropped w) Ended p q r j i a b = let e = one_look one p q r _ _ _ _ (look_at p q w p.kept a) (look_behind p r b) in cc
one_next one plain plan ops texts (Skipped n) (Opened m) p q r j i a b = absurd (unopened texts m p r q _ _ b (look_over p q n a))
one_next one plain plan ops texts (Skipped n) (Kept v u) p q r j i a b = let e = one_look one p q r _ _ _ _ (look_over p q n a) (look_at p r v (p.kept + 1) b) in cc
one_next one plain plan ops texts (Skipped n) (Dropped v) p q r j i a b = let e = one_look one p q r _ _ _ _ (look_over p q n a) (look_at p r v p.kept b) in cc
one_next one plain plan ops texts (Skipped n) (Skipped m) p q r j i a b = both_skipped plan p q r n m a b (one_look one p q r _ _ _ _ (look_over p q n a) (look_over p r m b))
one_next one plain plan ops texts (Skipped n) Ended p q r j i a b = let e = one_look one p q r _ _ _ _ (look_over p q n a) (look_behind p r b) in cc
one_next one plain plan ops texts Ended (Opened m) p q r j i a b = absurd (unopened texts m p r q _ _ b (look_behind p q a))
one_next one plain plan ops texts Ended (Kept v u) p q r j i a b = let e = one_look one p q r _ _ _ _ (look_behind p q a) (look_at p r v (p.kept + 1) b) in cc
one_next one plain plan ops texts Ended (Dropped v) p q r j i a b = let e = one_look one p q r _ _ _ _ (look_behind p q a) (look_at p r v p.kept b) in cc
one_next one plain plan ops texts Ended (Skipped m) p q r j i a b = let e = one_look one p q r _ _ _ _ (look_behind p q a) (look_over p r m b) in cc
one_next one plain plan ops texts Ended Ended p q r j i a b = both_ended plan p q r a b

-- ---- one list is a prefix of the other

pub runs_agree : OneStanding → AreOne → RunsAgree
runs_agree one plain plan ops texts [] fs p q r j i a b = inl (none_first plan fs)
runs_agree one plain plan ops texts (e ∷ es) [] p q r j i a b = inr (none_first plan (e ∷ es))
runs_agree one plain plan ops texts (e ∷ es) (f ∷ fs) p q r j i a b =
    let same = one_next one plain plan ops texts e f p a.1 b.1 j.0 i.0 a.2 b.2 in
    longer plan e f es fs same.0 (runs_agree one plain plan ops texts es fs a.1 q r j.1 i.1 a.3 (subst (λ (x : Point). Happen plan texts fs x r) (sym same.1) b.3))
