-- Integers.
use Rattle.std.proofs.Common.{◌≡◌, ℕ, zero, suc, ◌+◌, ◌-◌, ◌*◌, ◌^◌, ◌<◌, ◌≤◌, true, false, not, lit<, List, [], ◌∷◌, ◌++◌, Option, None, Err, inr, refl, sym, subst, ◌∙◌, ap, arith}
use Rattle.std.specs.Prelude.{fold}
use Rattle.std.specs.List.{list_all}
use Rattle.std.proofs.lemmas.Bool.{false≢true, and_parts}
use Rattle.std.proofs.lemmas.List.{append_assoc, append-nil}
use Rattle.std.proofs.lemmas.List.Sums.{fold-append}
use Rattle.hoa_lexer.specs.Bytes.{is_digit}
use Rattle.hoa_lexer.specs.Reading.{unread}
use Rattle.hoa_lexer.specs.Spelling.{Spells, IsDelimited, StopsAt, IsNumeral, value_of, closes_itself}
use Rattle.hoa_lexer.specs.inner.Steps.{IsReadFault, Pauses, ReadsToken}
use Rattle.hoa_lexer.specs.Text.{IsFront, HasFront, BeginsToken, IsOpenToken, IsNoToken}
use Rattle.hoa_lexer.proofs.spelling.Comments.{unheld}
use Rattle.hoa_lexer.proofs.spelling.FirstBytes.{token_kind, kind_digit, digit_no_space, front_head, solid}
use Rattle.hoa_lexer.proofs.spelling.Words.{stops_not}
use Rattle.hoa_lexer.specs.declared.token.LexFault.{LexFault}
use Rattle.hoa_lexer.specs.declared.token.LexFault.TheVariants.{BadToken, OpenComment, OpenString, OpenToken, Read, Bytes, Memory}
use Rattle.hoa_lexer.specs.declared.token.Token.{Token}
use Rattle.hoa_lexer.specs.declared.token.Token.TheVariants.{HeaderName, Identifier, Str, Int, Alias}
use Rattle.aut_base.proofs.lists.Lists.{list_all-push}

-- digits after the first, and the value of all so far
pub record IsDigits (first value : ℕ) (x y : List ℕ) : Type 0 where
  pub seen : List ℕ
  pub digits : list_all is_digit seen ≡ true
  pub value_is : value_of (first ∷ seen) ≡ value
  pub split : x ≡ seen ++ y

-- the value after more digits
abbrev value_from : ℕ → List ℕ → ℕ
value_from = fold (λ value digit. 10 * value + (digit - 48))

pub digits_push : (first value value' b : ℕ) (x y z : List ℕ) → IsDigits first value x y → y ≡ b ∷ z → is_digit b ≡ true → value' ≡ 10 * value + (b - 48) → IsDigits first value' x z
digits_push first value value' b x y z d e h v = record {
  seen = d.seen ++ b ∷ [];
  digits = list_all-push is_digit b d.seen d.digits h;
  value_is = fold-append (λ value digit. 10 * value + (digit - 48)) 0 (first ∷ d.seen) (b ∷ []) ∙ ap (λ n. 10 * n + (b - 48)) d.value_is ∙ sym v;
  split = d.split ∙ ap (λ w. d.seen ++ w) e ∙ sym (append_assoc d.seen (b ∷ []) z);
}

grows : (a : ℕ) (ds : List ℕ) → a ≤ value_from a ds
grows a [] = omega arith
grows a (d ∷ ds) = omega (arith, grows (10 * a + (d - 48)) ds)

pub nonzero : (first : ℕ) (ds : List ℕ) → 0 < first - 48 → 0 < value_of (first ∷ ds)
nonzero first ds h = omega (arith, grows (10 * 0 + (first - 48)) ds)

pub ends_int : (n : ℕ) (rest : List ℕ) → StopsAt is_digit rest → IsDelimited (Int n) rest
ends_int zero rest h = tt
ends_int (suc n) rest h = h

pub int_stops : (n : ℕ) (rest : List ℕ) → 0 < n → IsDelimited (Int n) rest → StopsAt is_digit rest
int_stops zero rest h e = absurd (omega arith)
int_stops (suc n) rest h e = e

numeral : (first : ℕ) (seen : List ℕ) → is_digit first ≡ true → 0 < first - 48 → list_all is_digit seen ≡ true → IsNumeral (first ∷ seen)
numeral first [] h p d = h
numeral first (b ∷ bs) h p d = (h, λ e. absurd (omega arith), d)

pub number_zero : (first value : ℕ) (x : List ℕ) → is_digit first ≡ true → value ≡ first - 48 → value ≡ 0 → IsFront (first ∷ x) (Int 0) x
number_zero first value x d e z = record { word = first ∷ []; split = refl; spells = (d, omega arith, lit< tt); ends = tt }

pub number_token : (first value b : ℕ) (x y z : List ℕ) → is_digit first ≡ true → 0 < first - 48 → value < 2 ^ 32 → IsDigits first value x y → y ≡ b ∷ z → is_digit b ≡ false
    → IsFront (first ∷ x) (Int value) (b ∷ z)
number_token first value b x y z d v l w e n = record {
  word = first ∷ w.seen;
  split = ap (λ q. first ∷ q) (w.split ∙ ap (λ q. w.seen ++ q) e);
  spells = (numeral first w.seen d v w.digits, w.value_is, l);
  ends = ends_int value (b ∷ z) n;
}

pub holds_int : (n : ℕ) → 0 < n → true ≡ not (closes_itself (Int n))
holds_int zero l = absurd (omega arith)
holds_int (suc n) l = refl

-- an integer to which digits may be added

number_open_at : (token : Token) (first : ℕ) (seen tail rest : List ℕ) → 48 ≡ token_kind token → 0 < first - 48 → Spells token (first ∷ tail) → IsDelimited token rest → seen ≡ tail ++ rest
    → list_all is_digit seen ≡ true → ⊥
number_open_at (Int n) first seen tail rest k v s e p h = stops_not is_digit seen tail rest h p (int_stops n rest (omega (arith, s.1, nonzero first tail v)) e)
number_open_at (HeaderName name) first seen tail rest k v s e p h = absurd (omega arith)
number_open_at (Identifier name) first seen tail rest k v s e p h = absurd (omega arith)
number_open_at (Str text) first seen tail rest k v s e p h = absurd (omega arith)
number_open_at (Alias name) first seen tail rest k v s e p h = absurd (omega arith)
number_open_at _ first seen tail rest k v s e p h = absurd (omega arith)

number_open : (first : ℕ) (seen : List ℕ) → is_digit first ≡ true → 0 < first - 48 → list_all is_digit seen ≡ true → HasFront (first ∷ seen) → ⊥
number_open first seen d v h f =
    let head = front_head first seen f.token f.rest f.front in
    number_open_at f.token first seen head.tail f.rest (sym (kind_digit first d) ∙ head.kinds) v head.spells f.front.ends head.split h

number_begins : (first : ℕ) (seen : List ℕ) → is_digit first ≡ true → 0 < first - 48 → list_all is_digit seen ≡ true → value_of (first ∷ seen) < 2 ^ 32 → BeginsToken (first ∷ seen)
number_begins first seen d v h l = record {
  more = 32 ∷ [];
  front = record {
    token = Int (value_of (first ∷ seen));
    rest = 32 ∷ [];
    front = record { word = first ∷ seen; split = refl; spells = (numeral first seen d v h, refl, l); ends = ends_int (value_of (first ∷ seen)) (32 ∷ []) refl };
  };
}

digit_no_quote : (b : ℕ) → is_digit b ≡ true → b ≡ 34 → ⊥
digit_no_quote b h e = false≢true (ap is_digit (sym e) ∙ h)

digit_no_slash : (b : ℕ) → is_digit b ≡ true → b ≡ 47 → ⊥
digit_no_slash b h e = false≢true (ap is_digit (sym e) ∙ h)

pub number_end : (first value : ℕ) (x y : List ℕ) → is_digit first ≡ true → 0 < first - 48 → value < 2 ^ 32 → IsDigits first value x y → y ≡ [] → IsOpenToken (first ∷ x)
number_end first value x y d v l w e =
    let whole : w.seen ≡ x = sym (w.split ∙ ap (λ z. w.seen ++ z) e ∙ append-nil w.seen) in
    let digits : list_all is_digit x ≡ true = ap (list_all is_digit) (sym whole) ∙ w.digits in
    let value_is : value_of (first ∷ x) ≡ value = ap (λ z. value_of (first ∷ z)) (sym whole) ∙ w.value_is in
    record {
      some = λ k. cc;
      no_string = λ rest k. digit_no_quote first d (let same : first ≡ 34 = cc in same);
      unclosed = number_open first x d v digits;
      begins = inr (number_begins first x d v digits (omega arith));
    }

number_pauses : (first value : ℕ) (x y z : List ℕ) → is_digit first ≡ true → 0 < first - 48 → value < 2 ^ 32 → IsDigits first value x y → y ≡ z → Pauses (first ∷ x) z
number_pauses first value x y z d v l w e = record {
  at_hand = first ∷ w.seen;
  split = ap (λ q. first ∷ q) (w.split ∙ ap (λ q. w.seen ++ q) e);
  some = λ q. cc;
  unclosed = number_open first w.seen d v w.digits;
  begins = number_begins first w.seen d v w.digits (omega (arith, w.value_is));
}

pub number_err : (fault : LexFault) (h : Option ℕ) (offset first value : ℕ) (x y z : List ℕ) → is_digit first ≡ true → 0 < first - 48 → value < 2 ^ 32 → IsReadFault fault → h ≡ None
    → IsDigits first value x y → y ≡ z → ReadsToken (Err fault) offset (first ∷ x) (unread h z)
number_err Bytes h offset first value x y z d v l r k w e = number_pauses first value x y (unread h z) d v l w (e ∙ sym (unheld h z k))
number_err Read h offset first value x y z d v l r k w e = number_pauses first value x y (unread h z) d v l w (e ∙ sym (unheld h z k))
number_err (BadToken n) h offset first value x y z d v l r k w e = absurd r
number_err OpenComment h offset first value x y z d v l r k w e = absurd r
number_err OpenString h offset first value x y z d v l r k w e = absurd r
number_err OpenToken h offset first value x y z d v l r k w e = absurd r
number_err Memory h offset first value x y z d v l r k w e = absurd r

-- a value that is too great stays too great

longer : (a : ℕ) (seen tail more rest : List ℕ) → seen ++ more ≡ tail ++ rest → list_all is_digit seen ≡ true → StopsAt is_digit rest → value_from a seen ≤ value_from a tail
longer a [] tail more rest e d s = grows a tail
longer a (b ∷ bs) [] more [] e d s = absurd s
longer a (b ∷ bs) [] more (r ∷ rs) e d s =
    let same : r ≡ b = cc in
    absurd (false≢true (sym s ∙ ap is_digit same ∙ (and_parts (is_digit b) (list_all is_digit bs) d).0))
longer a (b ∷ bs) (t ∷ ts) more rest e d s =
    let same : b ≡ t = cc in
    let tails : bs ++ more ≡ ts ++ rest = cc in
    let shorter = longer (10 * a + (b - 48)) bs ts more rest tails (and_parts (is_digit b) (list_all is_digit bs) d).1 s in
    subst (λ (c : ℕ). value_from (10 * a + (b - 48)) bs ≤ value_from (10 * a + (c - 48)) ts) same shorter

number_great_at : (token : Token) (first : ℕ) (seen more tail rest : List ℕ) → 48 ≡ token_kind token → 0 < first - 48 → 2 ^ 32 ≤ value_of (first ∷ seen) → Spells token (first ∷ tail)
    → IsDelimited token rest → seen ++ more ≡ tail ++ rest → list_all is_digit seen ≡ true → ⊥
number_great_at (Int n) first seen more tail rest k v g s e p h =
    let stops = int_stops n rest (omega (arith, s.1, nonzero first tail v)) e in
    omega (arith, s.1, s.2, g, longer (10 * 0 + (first - 48)) seen tail more rest p h stops)
number_great_at (HeaderName name) first seen more tail rest k v g s e p h = absurd (omega arith)
number_great_at (Identifier name) first seen more tail rest k v g s e p h = absurd (omega arith)
number_great_at (Str text) first seen more tail rest k v g s e p h = absurd (omega arith)
number_great_at (Alias name) first seen more tail rest k v g s e p h = absurd (omega arith)
number_great_at _ first seen more tail rest k v g s e p h = absurd (omega arith)

number_great : (first value : ℕ) (x y : List ℕ) → is_digit first ≡ true → 0 < first - 48 → 2 ^ 32 ≤ value → IsDigits first value x y → IsNoToken (first ∷ x)
number_great first value x y d v g w = record {
  some = λ k. cc;
  no_space = solid first x (digit_no_space first d);
  no_comment = λ rest k. digit_no_slash first d (let same : first ≡ 47 = cc in same);
  no_slash = λ k. digit_no_slash first d (let same : first ≡ 47 = cc in same);
  no_token = λ t.
      let f = t.front in
      let head = front_head first (x ++ t.more) f.token f.rest f.front in
      let whole : w.seen ++ (y ++ t.more) ≡ head.tail ++ f.rest = sym (append_assoc w.seen y t.more) ∙ sym (ap (λ q. q ++ t.more) w.split) ∙ head.split in
      number_great_at f.token first w.seen (y ++ t.more) head.tail f.rest (sym (kind_digit first d) ∙ head.kinds) v (omega (arith, w.value_is)) head.spells f.front.ends whole w.digits;
}

pub number_bad : (k offset first value value' b : ℕ) (h : Option ℕ) (x y z : List ℕ) → k ≡ offset → h ≡ None → is_digit first ≡ true → 0 < first - 48 → value < 2 ^ 32
    → IsDigits first value x y → y ≡ b ∷ z → is_digit b ≡ true → value' ≡ 10 * value + (b - 48) → 2 ^ 32 ≤ value' → ReadsToken (Err (BadToken k)) offset (first ∷ x) (unread h z)
number_bad k offset first value value' b h x y z s n d v l w e g p m =
    let all = digits_push first value value' b x y z w e g p in (
      s,
      number_great first value' x z d v m all,
      record { byte = b; past = inr (number_pauses first value x y (b ∷ unread h z) d v l w (e ∙ ap (λ q. b ∷ q) (sym (unheld h z n)))) },
      record {
        used = first ∷ all.seen;
        split = ap (λ q. first ∷ q) (all.split ∙ ap (λ q. all.seen ++ q) (sym (unheld h z n)));
        none = number_great first value' all.seen [] d v m (record { seen = all.seen; digits = all.digits; value_is = all.value_is; split = sym (append-nil all.seen) });
      },
    )
