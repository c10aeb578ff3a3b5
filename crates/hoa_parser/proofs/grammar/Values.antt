-- What is a value in a list of values.
use Rattle.std.proofs.Common.{◌≡◌, ◌∷◌, ◌++◌, [], ℕ, true, false, List, map, flat_map, Some, None, refl, sym, ap, subst, ◌∙◌, Bool}
use Rattle.std.specs.Prelude.{nat_le}
use Rattle.std.proofs.lemmas.Bool.{false≢true}
use Rattle.std.proofs.lemmas.List.{append_assoc}
use Rattle.std.proofs.lemmas.List.Concat.{flat_map-append}
use Rattle.aut_base.specs.declared.limit.TheConstants.{MOST_DEPTH}
use Rattle.hoa_lexer.specs.declared.token.Token.{Token}
use Rattle.hoa_lexer.specs.declared.token.Token.TheVariants as token
use Rattle.hoa_parser.proofs.reading.FrontParts.{passed_then, spelled_more}
use Rattle.hoa_parser.specs.inner.Expecting.{Part, Takes, move, open_at}
use Rattle.hoa_parser.specs.Grammar.{and_number, is_value}
use Rattle.hoa_parser.specs.Phrases.{acc_number, acc_word, number_value, text_value, word_value}
use Rattle.hoa_parser.proofs.reading.Steps.{fails_after, reads_as, reads_then, takes, takes_last}
use Rattle.hoa_parser.specs.inner.Parsing.{Advanced, Cursor, FailsAt, Passed, ReadsTo, State, Unadvanced, is_end}
use Rattle.hoa_parser.specs.declared.fault.ReadFault.{ReadFault}
use Rattle.hoa_parser.specs.inner.RuleReads.{AddsMarks, AddsNumbers, AreMarks, IsConj, IsIntToken, token_of, values_part}

-- a list of what is spelled so
abbrev pub AreSpelled : {V : Type 0} → (V → Token) → Cursor → Cursor → Type 0
AreSpelled {V} spelled a b = (values : List V) × Passed a (map spelled values) b

-- a token that is one of the list that the part stands for
pub record IsOneOf {V : Type 0} (part : Part) (spelled : V → Token) (z : Token) : Type 0 where
  pub value : V
  pub is : z ≡ spelled value
  pub taken : move part z ≡ Takes (part ∷ [])
  pub unended : is_end z ≡ false
  pub room : nat_le (open_at (part ∷ [])) MOST_DEPTH ≡ true

-- it was taken, or it is what the reading ends at
pub one_spelled : {V : Type 0} {part : Part} {spelled : V → Token} {s m s' : State} → IsOneOf part spelled m.ahead → ReadsTo (part ∷ []) (part ∷ []) (AreSpelled spelled) s m → Advanced m s'
    → ReadsTo (part ∷ []) (part ∷ []) (AreSpelled spelled) s s'
one_spelled {part = part} {spelled = spelled} {m = m} one before next =
    reads_as (λ a c h. (h.1.0 ++ one.value ∷ [], spelled_more spelled h.1.0 one.value (h.1.0 ++ one.value ∷ []) a h.0 c refl h.1.1 (subst (λ (t : Token). Passed h.0 (t ∷ []) c) one.is h.2)))
    (reads_then before (takes part [] m.ahead refl one.taken one.room one.unended next))

pub no_more : {V : Type 0} {part : Part} {spelled : V → Token} {f : ReadFault} {s m s' : State} → IsOneOf part spelled m.ahead → ReadsTo (part ∷ []) (part ∷ []) (AreSpelled spelled) s m
    → Unadvanced f m s' → FailsAt f (part ∷ []) s s'
no_more {part = part} {m = m} one before last = fails_after before (takes_last part [] m.ahead refl one.taken one.room one.unended last)

pub value_at : (texts : Bool) (z : Token) → is_value texts z ≡ true → IsOneOf (values_part texts) (token_of texts) z
value_at false (token.Int n) h = record { value = acc_number n; is = refl; taken = refl; unended = refl; room = refl }
value_at false (token.Identifier word) h = record { value = acc_word word; is = refl; taken = refl; unended = refl; room = refl }
value_at true (token.Int n) h = record { value = number_value n; is = refl; taken = refl; unended = refl; room = refl }
value_at true (token.Str text) h = record { value = text_value text; is = refl; taken = refl; unended = refl; room = refl }
value_at true (token.Identifier word) h = record { value = word_value word; is = refl; taken = refl; unended = refl; room = refl }
value_at false z h = absurd (false≢true h)
value_at true z h = absurd (false≢true h)

-- the numbers that follow these
abbrev pub AddsInts : List ℕ → List ℕ → Cursor → Cursor → Type 0
AddsInts before numbers a b = (more : List ℕ) × Passed a (map token.Int more) b × (numbers ≡ before ++ more)

pub ints_more : (before numbers news : List ℕ) (n : ℕ) (a b c : Cursor) → news ≡ numbers ++ n ∷ [] → AddsInts before numbers a b → Passed b (token.Int n ∷ []) c → AddsInts before news a c
ints_more before numbers news n a b c is p q =
    (p.0 ++ n ∷ [], spelled_more token.Int p.0 n (p.0 ++ n ∷ []) a b c refl p.1 q, is ∙ ap (λ (ns : List ℕ). ns ++ n ∷ []) p.2 ∙ append_assoc before p.0 (n ∷ []))

-- the brace behind them
pub marks_closed : (before numbers : List ℕ) (a b c : Cursor) → AddsInts before numbers a b → Passed b (token.RightBrace ∷ []) c → AddsMarks before numbers a c
marks_closed before numbers a b c p q = (p.0, passed_then a b c (map token.Int p.0) (token.RightBrace ∷ []) p.1 q, p.2)

-- a mark behind those of a conjunction, and its number
pub record AddsAmp (before numbers : List ℕ) (a b : Cursor) : Type 0 where
  pub more : List ℕ
  pub passed : Passed a (flat_map and_number more ++ token.Amp ∷ []) b
  pub are : numbers ≡ before ++ more

pub numbers_amp : (before numbers : List ℕ) (a b c : Cursor) → AddsNumbers before numbers a b → Passed b (token.Amp ∷ []) c → AddsAmp before numbers a c
numbers_amp before numbers a b c p q = record { more = p.0; passed = passed_then a b c (flat_map and_number p.0) (token.Amp ∷ []) p.1 q; are = p.2 }

pub numbers_more : (before numbers news : List ℕ) (n : ℕ) (a b c : Cursor) → news ≡ numbers ++ n ∷ [] → AddsAmp before numbers a b → Passed b (token.Int n ∷ []) c → AddsNumbers before news a c
numbers_more before numbers news n a b c is p q = (
  p.more ++ n ∷ [],
  subst (λ (ts : List Token). Passed a ts c) (append_assoc (flat_map and_number p.more) (token.Amp ∷ []) (token.Int n ∷ []) ∙ sym (flat_map-append and_number p.more (n ∷ [])))
      (passed_then a b c (flat_map and_number p.more ++ token.Amp ∷ []) (token.Int n ∷ []) p.passed q),
  is ∙ ap (λ (ns : List ℕ). ns ++ n ∷ []) p.are ∙ append_assoc before p.more (n ∷ []),
)

-- the whole of a conjunction, and of marks in braces
pub conj_whole : (first : ℕ) (before numbers : List ℕ) (a b c : Cursor) → before ≡ first ∷ [] → IsIntToken first a b → AddsNumbers before numbers b c → IsConj numbers a c
conj_whole first before numbers a b c is p q = record {
  phrase = record { first = first; others = q.0 };
  within = tt;
  passed = passed_then a b c (token.Int first ∷ []) (flat_map and_number q.0) p q.1;
  means = q.2 ∙ ap (λ (ns : List ℕ). ns ++ q.0) is;
}

pub marks_whole : (before marks : List ℕ) (a b c : Cursor) → before ≡ [] → Passed a (token.LeftBrace ∷ []) b → AddsMarks before marks b c → AreMarks marks a c
marks_whole before marks a b c none p q = record {
  phrase = Some q.0;
  within = tt;
  passed = passed_then a b c (token.LeftBrace ∷ []) (map token.Int q.0 ++ token.RightBrace ∷ []) p q.1;
  means = q.2 ∙ ap (λ (ns : List ℕ). ns ++ q.0) none;
}

pub no_marks_there : (marks : List ℕ) (a : Cursor) → marks ≡ [] → AreMarks marks a a
no_marks_there marks a none = record { phrase = None; within = tt; passed = refl; means = none }
