-- Bytes at hand that were passed, up to a byte or a word.
use Rattle.std.proofs.Common.{◌≡◌, ℕ, suc, zero, ◌-◌, ◌≤◌, Bool, List, [], ◌∷◌, ◌++◌, length, take, Option, None, refl, sym, ap, subst, ◌∙◌, arith}
use Rattle.std.proofs.lemmas.List.{append_assoc, length-append, take-take, take_at}
use Rattle.hoa_lexer.specs.Spelling.{IsDelimited, StopsAt}
use Rattle.hoa_lexer.specs.declared.token.Token.{Token}
use Rattle.hoa_lexer.specs.declared.token.Token.TheVariants as token
use Rattle.hoa_parser.specs.inner.Parsing.{Cursor}
use Rattle.hoa_parser.specs.inner.AtHand.{Spelled}
use Rattle.hoa_parser.proofs.plain.Passing.{cursor}

-- whether a token ends is told by one byte
stops_front : (p : ℕ → Bool) (front : List ℕ) (b : ℕ) (u v : List ℕ) → StopsAt p (front ++ b ∷ u) → StopsAt p (front ++ b ∷ v)
stops_front p [] b u v h = h
stops_front p (c ∷ front) b u v h = h

ends_front : (t : Token) (front : List ℕ) (b : ℕ) (u v : List ℕ) → IsDelimited t (front ++ b ∷ u) → IsDelimited t (front ++ b ∷ v)
ends_front (token.Identifier name) front b u v h = (stops_front _ front b u v h.0, stops_front _ front b u v h.1)
ends_front (token.Int zero) front b u v h = tt
ends_front (token.Int (suc n)) front b u v h = stops_front _ front b u v h
ends_front (token.Alias name) front b u v h = stops_front _ front b u v h
ends_front _ front b u v h = tt

-- the tokens stand before a byte, whatever stands behind that
pub record Before (ts : List Token) (x : List ℕ) (b : ℕ) (next : List ℕ) : Type 0 where
  pub front : List ℕ
  pub split : x ≡ front ++ b ∷ next
  pub again : (v : List ℕ) → Spelled (front ++ b ∷ v) ts (b ∷ v)

regrouped : (before word front : List ℕ) (v : List ℕ) → (before ++ (word ++ front)) ++ v ≡ before ++ (word ++ (front ++ v))
regrouped before word front v = append_assoc before (word ++ front) v ∙ ap (λ w. before ++ w) (append_assoc word front v)

pub spelled_before : (ts : List Token) (x : List ℕ) (b : ℕ) (next : List ℕ) → Spelled x ts (b ∷ next) → Before ts x b next
spelled_before [] x b next s = record { front = s.before; split = s.split; again = λ v. record { before = s.before; split = refl; blanks = s.blanks } }
spelled_before (t ∷ ts) x b next s =
    let k : Before ts s.1 b next = spelled_before ts s.1 b next s.4 in
    record {
      front = s.2.before ++ (s.3.word ++ k.front);
      split = s.2.split ∙ ap (λ w. s.2.before ++ w) (s.3.split ∙ ap (λ w. s.3.word ++ w) k.split) ∙ sym (regrouped s.2.before s.3.word k.front (b ∷ next));
      again = λ v. (
        s.3.word ++ (k.front ++ b ∷ v),
        k.front ++ b ∷ v,
        record { before = s.2.before; split = regrouped s.2.before s.3.word k.front (b ∷ v); blanks = s.2.blanks },
        record { word = s.3.word; split = refl; spells = s.3.spells; ends = ends_front t k.front b next v (subst (IsDelimited t) k.split s.3.ends) },
        k.again v,
      );
    }

-- the bytes up to this word were taken, and the word
pub word_taken : (front word next y bytes rest : List ℕ) → bytes ≡ front ++ (word ++ next) → rest ≡ take (length bytes - length next) bytes ++ y → rest ≡ front ++ (word ++ y)
word_taken front word next y bytes rest is taken =
    let whole : bytes ≡ (front ++ word) ++ next = is ∙ sym (append_assoc front word next) in
    let count : length (front ++ word) ≡ length bytes - length next = omega (arith, ap length whole, length-append (front ++ word) next) in
    taken ∙ ap (λ w. take (length bytes - length next) w ++ y) whole ∙ ap (λ w. w ++ y) (take_at (front ++ word) next (length bytes - length next) count) ∙ append_assoc front word y

-- the same of one byte
pub bytes_taken : (front next y bytes rest : List ℕ) (b : ℕ) → bytes ≡ front ++ b ∷ next → rest ≡ take (length bytes - length next) bytes ++ y → rest ≡ front ++ b ∷ y
bytes_taken front next y bytes rest b is taken = word_taken front (b ∷ []) next y bytes rest is taken

pub cursor_at : (z : Token) (b : Cursor) → b.token ≡ z → b.held ≡ None → cursor z b.offset b.used None b.rest ≡ b
cursor_at z b opens none = ap (λ (t : Token). cursor t b.offset b.used None b.rest) (sym opens) ∙ ap (λ (h : Option ℕ). cursor b.token b.offset b.used h b.rest) (sym none)

pub taken_of : (count most : ℕ) (hand bytes x y : List ℕ) → bytes ≡ take most hand → count ≤ most → x ≡ take count hand ++ y → x ≡ take count bytes ++ y
taken_of count most hand bytes x y is within taken =
    taken ∙ ap (λ w. w ++ y) (sym (take-take count most hand within)) ∙ ap (λ w. take count w ++ y) (sym is)
