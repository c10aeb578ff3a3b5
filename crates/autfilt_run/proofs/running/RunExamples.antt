-- The worked examples of runs.
use Rattle.std.proofs.Common.{◌≡◌, ◌∙◌, ℕ, ◌+◌, ◌<◌, refl, sym, ap, subst, lit<, lit≤, List, ◌∷◌, [], length, None, Option, Some, unwrap_or, inl, inr, arith, codes}
use Rattle.std.specs.List.{slice_index_or}
use Rattle.std.proofs.lemmas.Bool.{false≢true, true≢false}
use Rattle.std.proofs.lemmas.Fmt.{decimal_digit}
use Rattle.std.proofs.lemmas.Option.{none-some, same_Some}
use Rattle.aut_base.specs.declared.limit.Limit.TheVariants as limit
use Rattle.aut_base.specs.declared.limit.TheConstants.{MOST_BYTES}
use Rattle.aut_io.specs.Outside.{Texts, text_of}
use Rattle.autfilt_run.proofs.running.Causes.{because_calm, because_opening, because_reading, because_writing}
use Rattle.autfilt_run.proofs.turns.Counted.{counted}
use Rattle.autfilt_run.proofs.turns.Points.{at_stream_end}
use Rattle.autfilt_run.specs.Events.{Ended, Event, Happen, Opened, Point, Stream, opened_at}
use Rattle.autfilt_run.specs.RunExamples.{AreBlank, RunExamples, WhatHappens, WhatIsAnswered, WhatIsWritten, WhyItEnds, before_both, behind_both}
use Rattle.autfilt_run.specs.RunExamples.{calm, calm_sink, failed_write, no_open, no_read, one, x, y}
use Rattle.autfilt_run.specs.Runs.{IsDone}
use Rattle.autfilt_run.specs.declared.ended.Ended.TheVariants as ended
use Rattle.autfilt_run.specs.declared.fault.RunFault.TheVariants as fault
use Rattle.hoa_lexer.specs.Blanks.{IsBlanks}
use Rattle.hoa_lexer.specs.Blanks.IsBlanks.{nothing, space, comment}
use Rattle.hoa_lexer.specs.Bytes.{is_space}
use Rattle.plan_meaning.specs.FilterExamples.{plain}

-- ---- texts

-- the stream of this name, before it is read
abbrev unread_stream : List ℕ → List ℕ → Stream
unread_stream name text = record { name = name; text = text; rest = text }

abbrev first_byte : List ℕ → ℕ
first_byte bytes = slice_index_or bytes 0 0

not_blank : (bytes : List ℕ) → bytes ≡ codes "HOA" → IsBlanks bytes → ⊥
not_blank bytes is nothing = let e : 0 ≡ 3 = ap length is in absurd (omega (arith, e))
not_blank bytes is (space s k) = false≢true (sym (ap is_space (ap first_byte is)) ∙ s)
not_blank bytes is (comment body bs c k text) = let e : 47 ≡ 72 = sym (ap first_byte text) ∙ ap first_byte is in absurd (omega (arith, e))

-- the names differ
not_y_first : (names : List (List ℕ)) → x ∷ y ∷ [] ≡ y ∷ names → ⊥
not_y_first names is = let e : 120 ≡ 121 = ap (λ xs. first_byte (slice_index_or xs 0 [])) is in absurd (omega (arith, e))

-- ---- what happens

happens_both : (texts : Texts) → AreBlank texts → Happen plain texts (Opened x ∷ Ended ∷ Opened y ∷ Ended ∷ []) before_both behind_both
happens_both texts b =
    let tx = text_of texts x in
    let ty = text_of texts y in
    let first : 0 + length tx ≡ 1 = ap (λ t. 0 + length t) b.first in
    let all : 0 + length tx + length ty ≡ 3 = ap (λ n. n + length ty) first ∙ ap (λ t. 1 + length t) b.second in
    let opened : Point = opened_at before_both (y ∷ []) x tx in
    let ended : Point = at_stream_end opened (unread_stream x tx) in
    let next : Point = opened_at ended [] y ty in (
      refl,
      opened,
      record { closed = refl; others = y ∷ []; next = refl; to = refl },
      (
        refl,
        ended,
        record {
          stream = unread_stream x tx;
          is_open = refl;
          blank = subst IsBlanks (sym b.first) (space refl nothing);
          few = subst (λ n. n < MOST_BYTES) (sym first) (lit< tt);
          to = refl;
        },
        (
          refl,
          next,
          record { closed = refl; others = []; next = refl; to = refl },
          (
            refl,
            at_stream_end next (unread_stream y ty),
            record {
              stream = unread_stream y ty;
              is_open = refl;
              blank = subst IsBlanks (sym b.second) (space refl (space refl nothing));
              few = subst (λ n. n < MOST_BYTES) (sym all) (lit< tt);
              to = refl;
            },
            ap (λ n. record behind_both { before = n }) all,
          ),
        ),
      ),
    )

not_at_once : (texts : Texts) (events : List Event) (q : Point) → Happen plain texts (Opened x ∷ Opened y ∷ events) before_both q → ⊥
not_at_once texts events q h =
    let is_open = ap (λ (p : Point). p.stream) h.2.to in
    none-some (unread_stream x (text_of texts x)) (sym h.3.2.closed ∙ is_open)

not_left : (texts : Texts) (events : List Event) (q : Point) → text_of texts x ≡ codes "HOA" → Happen plain texts (Opened x ∷ Ended ∷ events) before_both q → ⊥
not_left texts events q is h =
    let same : unread_stream x (text_of texts x) ≡ h.3.2.stream = same_Some (unread_stream x (text_of texts x)) h.3.2.stream (sym (ap (λ (p : Point). p.stream) h.2.to) ∙ h.3.2.is_open) in
    not_blank h.3.2.stream.rest (sym (ap (λ (s : Stream). s.rest) same) ∙ is) h.3.2.blank

happens : WhatHappens
happens = record {
  both = happens_both;
  not_second = λ texts events q h. not_y_first h.2.others h.2.next;
  not_at_once = not_at_once;
  not_ended = λ texts events q h. none-some h.2.stream h.2.is_open;
  not_kept = λ texts w text events q h. none-some h.2.stream h.2.is_open;
  not_left = not_left;
  none = λ texts. refl;
  no_more = λ texts event events q h. false≢true h.0;
}

-- ---- why it ends

apart : {m n : ℕ} → m < n → m ≡ n → ⊥
apart less same = absurd (omega arith)

not_done : IsDone plain before_both → ⊥
not_done (inl h) = true≢false h
not_done (inr h) = let e : 2 ≡ 0 = ap length h.1 in absurd (omega (arith, e))

no_name : (name : List ℕ) (names : List (List ℕ)) → [] ≡ name ∷ names → ⊥
no_name name names is = let e = ap length is in absurd (omega (arith, e))

ends : WhyItEnds
ends = record {
  all_read = (inr (refl, refl), refl);
  not_all_read = λ h. not_done h.0;
  none_asked = (inl refl, refl);
  cannot_open = ((record { asks = refl; closed = refl; others = y ∷ []; next = refl }, refl), counted fault.CannotOpen before_both (Some []) (lit≤ tt) tt);
  not_other = λ h. not_y_first h.0.0.others h.0.0.next;
  not_behind = λ name left h. no_name name h.0.0.others h.0.0.next;
  not_closed = λ name left h. none-some h.0.at.stream h.0.at.is_open;
  not_usage = λ p name q left h. h;
  no_operand = inr (space refl nothing, refl);
  no_text = λ start rest left h. h;
  no_write = λ start rest left h. h;
  not_early = λ h. apart (lit< tt) (h.reached refl);
  early = counted (fault.Limit limit.Pairs) before_both None (lit≤ tt) tt;
}

-- ---- what is written

-- how many bytes were written
abbrev size : Option (List ℕ) → ℕ
size text = length (unwrap_or text [])

written : WhatIsWritten
written = record {
  in_order = λ v w. refl;
  not_reversed = λ v w h. apart (lit< tt) (sym (ap (λ text. first_byte (unwrap_or text [])) h));
  not_less = λ v w h. apart (lit< tt) (ap size h);
  count_none = rw (decimal_digit 0 (lit< tt)) refl;
  count_two = λ v w. rw (decimal_digit 2 (lit< tt)) refl;
  no_count = refl;
  not_count = λ h. apart (lit< tt) (sym (ap size h));
  before_fault = λ v. refl;
  no_count_at_fault = refl;
  not_count_at_fault = λ h. apart (lit< tt) (sym (ap size h));
  part = λ v w. inl (record { prints = refl; earlier = one v ∷ []; automaton = w; text = codes "two\n"; all = refl; part = 2; gains = refl });
}

-- ---- what is answered

answered : WhatIsAnswered
answered = record {
  cannot_open = because_opening calm no_open calm_sink calm_sink refl refl refl;
  not_open = λ h. apart (lit< tt) (h.opens.0 refl);
  not_open_read = λ h. apart (lit< tt) (h.opens.0 refl);
  read_fault = because_reading calm no_read calm_sink calm_sink refl refl refl;
  not_read = λ h. apart (lit< tt) (h.reads.0 refl);
  write_fault = because_writing calm calm calm_sink failed_write refl refl refl;
  not_write = λ h. apart (lit< tt) (h.writes.0 refl);
  output = because_calm ended.Output calm calm calm_sink calm_sink (λ is. cc, λ is. cc, λ is. cc) (record { opens = refl; reads = refl; writes = refl });
  not_output = λ h. apart (lit< tt) (sym (h.writes.1 (λ is. cc)));
  not_syntax = λ h. apart (lit< tt) (sym (h.reads.1 (λ is. cc)));
  not_memory = λ h. apart (lit< tt) (sym (h.opens.1 (λ is. cc)));
  some_kept = λ w. refl;
  none_kept = λ w. refl;
  one_skipped = λ w. refl;
  one_passed = refl;
  syntax_error = λ k. refl;
  truncated = refl;
  status_output = refl;
  status_none = refl;
  status_aborts = refl;
  status_usage = refl;
  status_syntax = refl;
  status_limit = λ which. refl;
  status_write = refl;
  status_memory = refl;
}

pub run_examples : RunExamples
run_examples = record { happens = happens; ends = ends; written = written; answered = answered }
