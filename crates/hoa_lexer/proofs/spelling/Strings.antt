-- Strings in quotes.
use Rattle.std.proofs.Common.{◌≡◌, ℕ, ◌==◌, Bool, true, false, cond, List, [], ◌∷◌, ◌++◌, Option, Some, None, Ok, Err, inl, inr, refl, sym, subst, ◌∙◌, ap, arith}
use Rattle.std.proofs.lemmas.Bool.{ne_eqb}
use Rattle.std.proofs.lemmas.List.{append_assoc, append-nil}
use Rattle.hoa_lexer.specs.Reading.{unread}
use Rattle.hoa_lexer.specs.Spelling.{Spells, Quotes}
use Rattle.aut_base.specs.Strings.Quotes.{nothing, escaped, plain}
use Rattle.hoa_lexer.specs.inner.Steps.{IsHalf, IsReadFault, Pauses, ReadsQuoted, ReadsToken}
use Rattle.hoa_lexer.specs.Text.{IsFront, HasFront, BeginsToken}
use Rattle.hoa_lexer.proofs.spelling.Comments.{unheld}
use Rattle.hoa_lexer.proofs.spelling.FirstBytes.{token_kind, front_head}
use Rattle.hoa_lexer.specs.declared.token.LexFault.{LexFault}
use Rattle.hoa_lexer.specs.declared.token.LexFault.TheVariants.{BadToken, OpenComment, OpenString, OpenToken, Read, Bytes, Memory}
use Rattle.hoa_lexer.specs.declared.token.Token.{Token}
use Rattle.hoa_lexer.specs.declared.token.Token.TheVariants.{HeaderName, Identifier, Str, Int, Alias}

-- What follows the closing quote, if there is one; `true` after a `\`.
abbrev after_quote : Bool → List ℕ → Option (List ℕ)
after_quote skips [] = None
after_quote true (b ∷ bs) = after_quote false bs
after_quote false (b ∷ bs) = cond (b == 34) (Some bs) (cond (b == 92) (after_quote true bs) (after_quote false bs))

through : (inner text tail : List ℕ) → Quotes inner text → after_quote false (inner ++ tail) ≡ after_quote false tail
through inner text tail nothing = refl
through (a ∷ b ∷ inner) (c ∷ text) tail (escaped q) = through inner text tail q
through (b ∷ inner) (c ∷ text) tail (plain n m q) = rw (ne_eqb b 34 n, ne_eqb b 92 m) (through inner text tail q)

half_open : (half : List ℕ) → IsHalf half → after_quote false half ≡ None
half_open half (inl e) = ap (after_quote false) e
half_open half (inr e) = ap (after_quote false) e

-- a string that no prefix of the bytes closes
unclosed : (seen text half inner text' more : List ℕ) → Quotes seen text → IsHalf half → Quotes inner text' → seen ++ half ≡ inner ++ 34 ∷ more → ⊥
unclosed seen text half inner text' more q h k e =
    let open_here : after_quote false (seen ++ half) ≡ None = through seen text half q ∙ half_open half h in
    let closed : after_quote false (inner ++ 34 ∷ more) ≡ Some more = through inner text' (34 ∷ more) k in
    let same = ap (after_quote false) e in
    cc

string_open_at : (token : Token) (seen text half tail rest : List ℕ) → 34 ≡ token_kind token → Quotes seen text → IsHalf half → Spells token (34 ∷ tail) → seen ++ half ≡ tail ++ rest → ⊥
string_open_at (Str text') seen text half tail rest k q h s e =
    let tails : tail ≡ s.0 ++ 34 ∷ [] = (let whole : 34 ∷ tail ≡ 34 ∷ (s.0 ++ 34 ∷ []) = s.2 in cc) in
    unclosed seen text half s.0 text' rest q h s.1 (e ∙ ap (λ w. w ++ rest) tails ∙ append_assoc s.0 (34 ∷ []) rest)
string_open_at (HeaderName name) seen text half tail rest k q h s e = absurd (omega arith)
string_open_at (Identifier name) seen text half tail rest k q h s e = absurd (omega arith)
string_open_at (Int n) seen text half tail rest k q h s e = absurd (omega arith)
string_open_at (Alias name) seen text half tail rest k q h s e = absurd (omega arith)
string_open_at _ seen text half tail rest k q h s e = absurd (omega arith)

string_open : (seen text half : List ℕ) → Quotes seen text → IsHalf half → HasFront (34 ∷ (seen ++ half)) → ⊥
string_open seen text half q h f =
    let head = front_head 34 (seen ++ half) f.token f.rest f.front in
    string_open_at f.token seen text half head.tail f.rest head.kinds q h head.spells head.split

pub quotes_append : (a b s t : List ℕ) → Quotes a s → Quotes b t → Quotes (a ++ b) (s ++ t)
quotes_append a b s t nothing k = k
quotes_append (x ∷ y ∷ a) b (z ∷ s) t (escaped q) k = escaped (quotes_append a b s t q k)
quotes_append (x ∷ a) b (z ∷ s) t (plain n m q) k = plain n m (quotes_append a b s t q k)

closed_front : (inner text : List ℕ) → Quotes inner text → HasFront (34 ∷ (inner ++ 34 ∷ []))
closed_front inner text q = record {
  token = Str text;
  rest = [];
  front = record { word = 34 ∷ (inner ++ 34 ∷ []); split = sym (append-nil (34 ∷ (inner ++ 34 ∷ []))); spells = (inner, q, refl); ends = tt };
}

string_begins : (seen text half : List ℕ) → Quotes seen text → IsHalf half → BeginsToken (34 ∷ (seen ++ half))
string_begins seen text half q (inl e) = record {
  more = 34 ∷ [];
  front = subst HasFront (ap (λ w. 34 ∷ (w ++ 34 ∷ [])) (sym (ap (λ w. seen ++ w) e ∙ append-nil seen))) (closed_front seen text q);
}
string_begins seen text half q (inr e) = record {
  more = 97 ∷ 34 ∷ [];
  front = subst HasFront
      (ap (λ w. 34 ∷ w) (append_assoc seen (92 ∷ 97 ∷ []) (34 ∷ []) ∙ ap (λ w. seen ++ (w ++ 97 ∷ 34 ∷ [])) (sym e) ∙ sym (append_assoc seen half (97 ∷ 34 ∷ []))))
      (closed_front (seen ++ 92 ∷ 97 ∷ []) (text ++ 97 ∷ []) (quotes_append seen (92 ∷ 97 ∷ []) text (97 ∷ []) q (escaped nothing)));
}

-- one byte

pub quoted_escape : (b : ℕ) (x y z : List ℕ) → x ≡ 92 ∷ y → y ≡ b ∷ z → (seen : List ℕ) × Quotes seen (b ∷ []) × (x ≡ seen ++ z)
quoted_escape b x y z e k = (92 ∷ b ∷ [], escaped nothing, cc)

pub quoted_plain : (b : ℕ) (x z : List ℕ) → x ≡ b ∷ z → (b ≡ 34 → ⊥) → (b ≡ 92 → ⊥) → (seen : List ℕ) × Quotes seen (b ∷ []) × (x ≡ seen ++ z)
quoted_plain b x z e n m = (b ∷ [], plain n m nothing, e)

pub quoted_read : (o : Option ℕ) (b : ℕ) (y z : List ℕ) → o ≡ Some b → ReadsQuoted (Ok o) y z → (seen : List ℕ) × Quotes seen (b ∷ []) × (y ≡ seen ++ z)
quoted_read None b y z e r = cc
quoted_read (Some c) b y z e r = let same : c ≡ b = cc in (r.0, subst (λ (d : ℕ). Quotes r.0 (d ∷ [])) same r.1, r.2)

pub quoted_end : (o : Option ℕ) (y z : List ℕ) → o ≡ None → ReadsQuoted (Ok o) y z → y ≡ 34 ∷ z
quoted_end None y z e r = r
quoted_end (Some c) y z e r = cc

pub quoted_err : (fault : LexFault) (half x y z : List ℕ) → IsReadFault fault → IsHalf half → x ≡ half ++ y → y ≡ z → ReadsQuoted (Err fault) x z
quoted_err Read half x y z r h e k = (half, h, e ∙ ap (λ w. half ++ w) k)
quoted_err Bytes half x y z r h e k = (half, h, e ∙ ap (λ w. half ++ w) k)
quoted_err (BadToken n) half x y z r h e k = absurd r
quoted_err OpenComment half x y z r h e k = absurd r
quoted_err OpenString half x y z r h e k = absurd r
quoted_err OpenToken half x y z r h e k = absurd r
quoted_err Memory half x y z r h e k = absurd r

-- all bytes

pub string_none : (text : List ℕ) → text ≡ [] → Quotes [] text
string_none text e = subst (λ (w : List ℕ). Quotes [] w) (sym e) nothing

pub string_token : (h : Option ℕ) (text x y z : List ℕ) → h ≡ None → (inner : List ℕ) × Quotes inner text × (x ≡ inner ++ y) → y ≡ 34 ∷ z → IsFront (34 ∷ x) (Str text) (unread h z)
string_token h text x y z k q e = record {
  word = 34 ∷ (q.0 ++ 34 ∷ []);
  split = ap (λ w. 34 ∷ w) (q.2 ∙ ap (λ w. q.0 ++ w) (e ∙ ap (λ w. 34 ∷ w) (sym (unheld h z k))) ∙ sym (append_assoc q.0 (34 ∷ []) (unread h z)));
  spells = (q.0, q.1, refl);
  ends = tt;
}

pub string_push : (b : ℕ) (text text' x y z : List ℕ) → (inner : List ℕ) × Quotes inner text × (x ≡ inner ++ y) → (seen : List ℕ) × Quotes seen (b ∷ []) × (y ≡ seen ++ z)
    → text' ≡ text ++ b ∷ [] → (inner : List ℕ) × Quotes inner text' × (x ≡ inner ++ z)
string_push b text text' x y z h k e = (
  h.0 ++ k.0,
  subst (λ (w : List ℕ). Quotes (h.0 ++ k.0) w) (sym e) (quotes_append h.0 k.0 text (b ∷ []) h.1 k.1),
  h.2 ∙ ap (λ w. h.0 ++ w) k.2 ∙ sym (append_assoc h.0 k.0 z),
)

string_pauses : (h : Option ℕ) (text x y z : List ℕ) → h ≡ None → (inner : List ℕ) × Quotes inner text × (x ≡ inner ++ y) → (seen : List ℕ) × IsHalf seen × (y ≡ seen ++ z)
    → Pauses (34 ∷ x) (unread h z)
string_pauses h text x y z k q r = record {
  at_hand = 34 ∷ (q.0 ++ r.0);
  split = ap (λ w. 34 ∷ w) (q.2 ∙ ap (λ w. q.0 ++ w) (r.2 ∙ ap (λ w. r.0 ++ w) (sym (unheld h z k))) ∙ sym (append_assoc q.0 r.0 (unread h z)));
  some = λ e. cc;
  unclosed = string_open q.0 text r.0 q.1 r.1;
  begins = string_begins q.0 text r.0 q.1 r.1;
}

-- memory was wanting for another byte
pub string_stops : (h : Option ℕ) (text : List ℕ) (b : ℕ) (x y z : List ℕ) → h ≡ None → (inner : List ℕ) × Quotes inner text × (x ≡ inner ++ y)
    → (seen : List ℕ) × Quotes seen (b ∷ []) × (y ≡ seen ++ z) → Pauses (34 ∷ x) (unread h z)
string_stops h text b x y z k q r = string_pauses h (text ++ b ∷ []) x z z k (string_push b text (text ++ b ∷ []) x y z q r refl) ([], inl refl, refl)

pub string_err : (fault : LexFault) (h : Option ℕ) (offset : ℕ) (text x y z : List ℕ) → h ≡ None → (inner : List ℕ) × Quotes inner text × (x ≡ inner ++ y) → ReadsQuoted (Err fault) y z
    → ReadsToken (Err fault) offset (34 ∷ x) (unread h z)
string_err OpenString h offset text x y z k q r = (
  record {
    rest = x;
    opens = refl;
    open_still = λ inner text' more e w. unclosed q.0 text y inner text' more q.1 r.0 w (sym q.2 ∙ e);
  },
  unheld h z k ∙ r.1,
)
string_err Bytes h offset text x y z k q r = string_pauses h text x y z k q r
string_err Read h offset text x y z k q r = string_pauses h text x y z k q r
string_err (BadToken n) h offset text x y z k q r = absurd r
string_err OpenComment h offset text x y z k q r = absurd r
string_err OpenToken h offset text x y z k q r = absurd r
string_err Memory h offset text x y z k q r = absurd r
