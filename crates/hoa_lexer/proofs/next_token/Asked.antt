-- The last byte of a token was needed: without it the token was incomplete.
use Rattle.std.proofs.Common.{◌≡◌, ◌≢◌, ℕ, zero, suc, ◌+◌, Bool, true, false, not, is_some, List, [], ◌∷◌, ◌++◌, Option, Some, None, length, ◌==◌, refl, sym, subst, ◌∙◌, ap, arith}
use Rattle.std.proofs.lemmas.Bool.{false≢true}
use Rattle.std.proofs.lemmas.List.{append_assoc, length-append}
use Rattle.hoa_lexer.specs.Laws.{LastIsAskedFor}
use Rattle.hoa_lexer.specs.Reading.{unread}
use Rattle.hoa_lexer.specs.Spelling.{IsDelimited, Spells, StopsAt, closes_itself}
use Rattle.hoa_lexer.specs.Text.{AfterBlanks, AskedForOne, HasFront, IsNext}
use Rattle.hoa_lexer.specs.declared.token.Token.{Token}
use Rattle.hoa_lexer.specs.declared.token.Token.TheVariants.{Identifier, Int, Alias}
use Rattle.hoa_lexer.proofs.spelling.FirstBytes.{spelled_some}
use Rattle.aut_base.proofs.lists.Lists.{empty_of_length}
use Rattle.hoa_lexer.proofs.next_token.Fronts.{front_of}
use Rattle.hoa_lexer.proofs.next_token.Unique.{one_next_token}

pub stops_on : (p : ℕ → Bool) (rest more : List ℕ) → StopsAt p rest → StopsAt p (rest ++ more)
stops_on p [] more h = absurd h
stops_on p (b ∷ rest) more h = h

-- a complete token stays so where more bytes are added at the end
pub ends_on : (t : Token) (rest more : List ℕ) → IsDelimited t rest → IsDelimited t (rest ++ more)
ends_on (Identifier name) rest more h = (stops_on _ rest more h.0, stops_on _ rest more h.1)
ends_on (Int zero) rest more h = tt
ends_on (Int (suc n)) rest more h = stops_on _ rest more h
ends_on (Alias name) rest more h = stops_on _ rest more h
ends_on _ rest more h = tt

-- A token that its own last byte doesn't complete needs a byte after it.
needs_more : (t : Token) (rest : List ℕ) → IsDelimited t rest → closes_itself t ≡ false → rest ≡ [] → ⊥
needs_more (Identifier name) [] h c e = h.0
needs_more (Int zero) [] h c e = false≢true (sym c)
needs_more (Int (suc n)) [] h c e = h
needs_more (Alias name) [] h c e = h
needs_more (Identifier name) (b ∷ rest) h c e = cc
needs_more (Int zero) (b ∷ rest) h c e = cc
needs_more (Int (suc n)) (b ∷ rest) h c e = cc
needs_more (Alias name) (b ∷ rest) h c e = cc
needs_more _ rest h c e = false≢true (sym c)

opened : (b : Bool) → true ≡ not b → b ≡ false
opened true e = e
opened false e = refl

held_open : (t : Token) → true ≡ not (closes_itself t) → closes_itself t ≡ false
held_open t h = opened (closes_itself t) h

zero_length : (xs : List ℕ) → length xs ≡ 0 → (length xs == 0) ≡ true
zero_length [] e = refl
zero_length (b ∷ bs) e = absurd (omega (arith, e))

some_word : (t : Token) (word : List ℕ) → Spells t word → word ≢ []
some_word t word s e = spelled_some t (subst (Spells t) e s)

-- the token that the bytes at hand would complete is the next one of the whole text
next_on : (at_hand more : List ℕ) (start : ℕ) (a : AfterBlanks at_hand HasFront) → IsNext (at_hand ++ more) start a.holds.token (start + length a.before) (a.holds.rest ++ more)
next_on at_hand more start a = record {
  before = a.before;
  bytes = a.bytes ++ more;
  split = ap (λ w. w ++ more) a.split ∙ append_assoc a.before a.bytes more;
  blanks = a.blanks;
  place = refl;
  front = record {
    word = a.holds.front.word;
    split = ap (λ w. w ++ more) a.holds.front.split ∙ append_assoc a.holds.front.word a.holds.rest more;
    spells = a.holds.front.spells;
    ends = ends_on a.holds.token a.holds.rest more a.holds.front.ends;
  };
}

-- A token that the bytes at hand would complete ends before the last byte, and so before the token that was read does.
too_early : (input : List ℕ) (start offset byte : ℕ) (token : Token) (held : Option ℕ) (left at_hand : List ℕ) → IsNext input start token offset (unread held left)
    → is_some held ≡ not (closes_itself token) → input ≡ at_hand ++ byte ∷ left → AfterBlanks at_hand HasFront → ⊥
too_early input start offset byte token None left at_hand n h e a =
    let there = subst (λ (w : List ℕ). IsNext w start a.holds.token (start + length a.before) (a.holds.rest ++ byte ∷ left)) (sym e) (next_on at_hand (byte ∷ left) start a) in
    let same = one_next_token input start a.holds.token token (start + length a.before) offset (a.holds.rest ++ byte ∷ left) left there n in
    omega (arith, simp length-append at (ap length same.2))
too_early input start offset byte token (Some b) left at_hand n h e a =
    let there = subst (λ (w : List ℕ). IsNext w start a.holds.token (start + length a.before) (a.holds.rest ++ byte ∷ left)) (sym e) (next_on at_hand (byte ∷ left) start a) in
    let same = one_next_token input start a.holds.token token (start + length a.before) offset (a.holds.rest ++ byte ∷ left) (b ∷ left) there n in
    needs_more a.holds.token a.holds.rest a.holds.front.ends (ap closes_itself same.0 ∙ held_open token h)
    (empty_of_length a.holds.rest (zero_length a.holds.rest (omega (arith, simp length-append at (ap length same.2)))))

asked : (input : List ℕ) (start offset byte : ℕ) (token : Token) (held : Option ℕ) (left at_hand : List ℕ) → IsNext input start token offset (unread held left)
    → is_some held ≡ not (closes_itself token) → input ≡ at_hand ++ byte ∷ left → AskedForOne input left
asked input start offset byte token held left at_hand n h e = record {
  at_hand = at_hand;
  byte = byte;
  split = e;
  asks = record {
    unclosed = too_early input start offset byte token held left at_hand n h e;
    more = byte ∷ left;
    closes = subst (λ (w : List ℕ). AfterBlanks w HasFront) e (front_of input start token offset (unread held left) n);
  };
}

-- all but the last, and the last
record EndsIn (word : List ℕ) : Type 0 where
  init : List ℕ
  last : ℕ
  split : word ≡ init ++ last ∷ []

ends_in : (b : ℕ) (bs : List ℕ) → EndsIn (b ∷ bs)
ends_in b [] = record { init = []; last = b; split = refl }
ends_in b (c ∷ cs) = let w = ends_in c cs in record { init = b ∷ w.init; last = w.last; split = ap (λ v. b ∷ v) w.split }

ends_in_some : (word : List ℕ) → word ≢ [] → EndsIn word
ends_in_some [] n = absurd (n refl)
ends_in_some (b ∷ bs) n = ends_in b bs

pub last_is_asked_for : LastIsAskedFor
last_is_asked_for input start offset token None left n h =
    let w = ends_in_some n.front.word (some_word token n.front.word n.front.spells) in
    let all : input ≡ (n.before ++ w.init) ++ w.last ∷ left =
    n.split ∙ ap (λ v. n.before ++ v) (n.front.split ∙ ap (λ v. v ++ left) w.split ∙ append_assoc w.init (w.last ∷ []) left) ∙ sym (append_assoc n.before w.init (w.last ∷ left)) in
    asked input start offset w.last token None left (n.before ++ w.init) n h all
last_is_asked_for input start offset token (Some b) left n h =
    asked input start offset b token (Some b) left (n.before ++ n.front.word) n h
    (n.split ∙ ap (λ v. n.before ++ v) n.front.split ∙ sym (append_assoc n.before n.front.word (b ∷ left)))
