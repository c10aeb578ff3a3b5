-- Sessions that differ only in which call is allowed next.
use Rattle.std.proofs.Common.{◌≡◌, ℕ, ◌+◌, ◌<◌, Bool, List, [], ◌∷◌, ◌++◌, Option, Some, None, Ok, length, drop, take, sym, ap, ◌∙◌, subst, fold}
use Rattle.std.specs.Prelude.{map}
use Rattle.aut_core.specs.SymbolicAutomata.{SymbolicAutomaton, automaton_of}
use Rattle.aut_io.specs.Seen.{Seen}
use Rattle.autfilt_run.specs.Events.{Point, Stream}
use Rattle.autfilt_run.specs.OperandEvents.{OperandEvent, PassedOver, file_open_by, opened_files, operands_read}
use Rattle.autfilt_run.specs.Plans.{files_of, tried_name}
use Rattle.autfilt_run.specs.Points.{IsInStream, StandsIn, name_in, open_count}
use Rattle.autfilt_run.specs.Preparing.{HasReadOperands, HasSkipped, HasAllOperands, Prepares, opened_names}
use Rattle.autfilt_run.specs.declared.session.Prep.{Prep}
use Rattle.autfilt_run.specs.declared.session.Prep.TheVariants as prep
use Rattle.autfilt_run.specs.declared.session.Session.{Session}
use Rattle.filter_plan.specs.Words.{operands}
use Rattle.filter_plan.specs.declared.plan.Plan.{Plan}
use Rattle.hoa_lexer.specs.declared.lexer.Lexer.{Lexer}

pub record AreAlike (a b : Session) : Type 0 where
  pub plan : a.plan ≡ b.plan
  pub lexer : a.lexer ≡ b.lexer
  pub operands_same : a.operands ≡ b.operands
  pub tried : a.tried ≡ b.tried
  pub is_open : a.is_open ≡ b.is_open
  pub kept : a.kept ≡ b.kept
  pub skipped : a.skipped ≡ b.skipped

name_as : (a b : Session) → AreAlike a b → name_in a ≡ name_in b
name_as a b h = ap (λ (p : Plan). tried_name (files_of p) a.tried) h.plan ∙ ap (tried_name (files_of b.plan)) h.tried

is_in_as : (o : Option Stream) (a b : Session) (left : Option (List ℕ)) (before : ℕ) → AreAlike a b → IsInStream o a left before → IsInStream o b left before
is_in_as None a b left before h x = (sym h.is_open ∙ x.0, ap (λ (l : Lexer). l.taken) (sym h.lexer) ∙ x.1)
is_in_as (Some t) a b left before h x = (
  sym h.is_open ∙ x.0,
  x.1,
  sym (name_as a b h) ∙ x.2,
  subst (λ (l : Lexer). l.since + length t.rest ≡ length t.text) h.lexer x.3,
  subst (λ (l : Lexer). l.taken ≡ before + l.since) h.lexer x.4,
)

pub stands_in_as : (a b : Session) (left : Option (List ℕ)) (p : Point) → AreAlike a b → StandsIn a left p → StandsIn b left p
stands_in_as a b left p h x = record {
  coming = x.coming ∙ ap (λ (q : Plan). drop (length a.operands + open_count a.is_open) (operands q)) h.plan
      ∙ ap (λ (cores : List SymbolicAutomaton). drop (length cores + open_count a.is_open) (operands b.plan)) h.operands_same
      ∙ ap (λ i. drop (length b.operands + open_count i) (operands b.plan)) h.is_open;
  at = record { kept = x.at.kept ∙ h.kept; left_is = x.at.left_is; stream = is_in_as p.stream a b left p.before h x.at.stream };
}

names_as : (a b : Session) → AreAlike a b → opened_names a ≡ opened_names b
names_as a b h =
    ap (λ (p : Plan). take (length a.operands + open_count a.is_open) (operands p)) h.plan
    ∙ (ap (λ (cores : List SymbolicAutomaton). take (length cores + open_count a.is_open) (operands b.plan)) h.operands_same
    ∙ ap (λ i. take (length b.operands + open_count i) (operands b.plan)) h.is_open)

has_read_as : (events : List OperandEvent) (old old' new new' : Session) (s t : Seen) → AreAlike old old' → AreAlike old' old → AreAlike new new' → HasReadOperands events old new s t
    → HasReadOperands events old' new' s t
has_read_as events old old' new new' s t a back b h = record {
  operands = ap (map automaton_of) (sym b.operands_same) ∙ h.operands ∙ ap (λ (cores : List SymbolicAutomaton). map automaton_of cores ++ operands_read events) a.operands_same;
  happened = λ texts told p stands.
      let x = h.happened texts told p (stands_in_as old' old s.left p back stands) in
      (x.0, x.1, stands_in_as new new' t.left x.0 b x.2);
  named = sym (names_as new new' b) ∙ (h.named ∙ ap (λ x. x ++ opened_files events) (names_as old old' a));
  still = sym b.is_open ∙ (h.still ∙ ap (λ (i : Bool). fold file_open_by i events) a.is_open);
  openings = h.openings;
  opens = h.opens;
  reads = h.reads;
  texts = h.texts;
}

pub is_ready_as : (old old' new new' : Session) (s t : Seen) → AreAlike old old' → AreAlike old' old → AreAlike new new' → HasAllOperands old new s t → HasAllOperands old' new' s t
is_ready_as old old' new new' s t a back b h = record {
  events = h.events;
  read = has_read_as h.events old old' new new' s t a back b h.read;
  passed = h.passed;
  all = ap length (sym b.operands_same) ∙ h.all ∙ ap (λ (p : Plan). length (operands p)) b.plan;
  skipped = sym b.skipped ∙ h.skipped ∙ a.skipped;
}

pub has_skipped_as : (old old' new new' : Session) (s t : Seen) → AreAlike old old' → AreAlike old' old → AreAlike new new' → HasSkipped old new s t → HasSkipped old' new' s t
has_skipped_as old old' new new' s t a back b h = record {
  before = h.before;
  read = subst (λ (name : List ℕ). HasReadOperands (h.before ++ PassedOver name ∷ []) old' new' s t) (name_as new new' b)
      (has_read_as (h.before ++ PassedOver (name_in new) ∷ []) old old' new new' s t a back b h.read);
  passed = h.passed;
  still_open = sym b.is_open ∙ h.still_open;
  rises = subst (λ (l : Lexer). l.taken < new'.lexer.taken) a.lexer (subst (λ (l : Lexer). old.lexer.taken < l.taken) b.lexer h.rises);
  skipped = sym b.skipped ∙ h.skipped ∙ ap (λ (n : ℕ). n + 1) a.skipped;
}

-- what preparing answered
pub ready_of : (p : Prep) (old new : Session) (s t : Seen) → p ≡ prep.Ready → Prepares (Ok p) old new s t → HasAllOperands old new s t
ready_of prep.Ready old new s t is h = h
ready_of prep.Skipped old new s t is h = absurd (let none : prep.Skipped ≡ prep.Ready = is in cc)

pub skipped_of : (p : Prep) (old new : Session) (s t : Seen) → p ≡ prep.Skipped → Prepares (Ok p) old new s t → HasSkipped old new s t
skipped_of prep.Ready old new s t is h = absurd (let none : prep.Ready ≡ prep.Skipped = is in cc)
skipped_of prep.Skipped old new s t is h = h
