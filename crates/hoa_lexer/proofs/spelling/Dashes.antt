-- The words in dashes.
use Rattle.std.proofs.Common.{◌≡◌, ℕ, suc, ◌<◌, List, [], ◌∷◌, ◌++◌, length, take, drop, get_or, Option, None, Err, ◌⊎◌, inl, inr, refl, sym, subst, ◌∙◌, ap, arith, drop-cons}
use Rattle.std.specs.Prelude.{codes}
use Rattle.std.proofs.lemmas.List.{append_assoc, append-nil, length-append, take-append-drop}
use Rattle.hoa_lexer.specs.Reading.{unread}
use Rattle.hoa_lexer.specs.Spelling.{Spells}
use Rattle.hoa_lexer.specs.inner.Steps.{Expects, IsDashed, IsReadFault, Pauses, ReadsToken, ReadsWord}
use Rattle.hoa_lexer.specs.Text.{IsFront, HasFront, BeginsToken, IsOpenToken, IsNoToken}
use Rattle.hoa_lexer.proofs.spelling.Comments.{unheld}
use Rattle.hoa_lexer.proofs.spelling.FirstBytes.{token_kind, front_head, solid}
use Rattle.hoa_lexer.specs.declared.token.LexFault.{LexFault}
use Rattle.hoa_lexer.specs.declared.token.LexFault.TheVariants.{BadToken, OpenComment, OpenString, OpenToken, Read, Bytes, Memory}
use Rattle.hoa_lexer.specs.declared.token.Token.{Token}
use Rattle.hoa_lexer.specs.declared.token.Token.TheVariants.{HeaderName, Identifier, Str, Int, Alias, Body, End, Abort}
use Rattle.aut_base.proofs.lists.Lists.{cons-head}

no_slash_here : {xs ys : List ℕ} → 45 ∷ xs ≡ 47 ∷ ys → ⊥
no_slash_here {xs} {ys} e = omega (arith, cons-head 45 47 xs ys e)

-- what follows the first dash of a word in dashes
abbrev IsTail : List ℕ → List ℕ → Type 0
IsTail bs rest = (bs ≡ codes "-BODY--" ++ rest) ⊎ ((bs ≡ codes "-END--" ++ rest) ⊎ (bs ≡ codes "-ABORT--" ++ rest))

tail_of : (token : Token) (bs tail rest : List ℕ) → 45 ≡ token_kind token → Spells token (45 ∷ tail) → bs ≡ tail ++ rest → IsTail bs rest
tail_of Body bs tail rest k s e = inl (let same : tail ≡ codes "-BODY--" = (let whole : 45 ∷ tail ≡ 45 ∷ codes "-BODY--" = s in cc) in e ∙ ap (λ w. w ++ rest) same)
tail_of End bs tail rest k s e = inr (inl (let same : tail ≡ codes "-END--" = (let whole : 45 ∷ tail ≡ 45 ∷ codes "-END--" = s in cc) in e ∙ ap (λ w. w ++ rest) same))
tail_of Abort bs tail rest k s e = inr (inr (let same : tail ≡ codes "-ABORT--" = (let whole : 45 ∷ tail ≡ 45 ∷ codes "-ABORT--" = s in cc) in e ∙ ap (λ w. w ++ rest) same))
tail_of (HeaderName name) bs tail rest k s e = absurd (omega arith)
tail_of (Identifier name) bs tail rest k s e = absurd (omega arith)
tail_of (Str text) bs tail rest k s e = absurd (omega arith)
tail_of (Int n) bs tail rest k s e = absurd (omega arith)
tail_of (Alias name) bs tail rest k s e = absurd (omega arith)
tail_of _ bs tail rest k s e = absurd (omega arith)

front_tail : (bs : List ℕ) (f : HasFront (45 ∷ bs)) → IsTail bs f.rest
front_tail bs f =
    let head = front_head 45 bs f.token f.rest f.front in
    tail_of f.token bs head.tail f.rest head.kinds head.spells head.split

end_front : HasFront (codes "--END--")
end_front = record { token = End; rest = []; front = record { word = codes "--END--"; split = refl; spells = refl; ends = tt } }

-- the first dash

dash_open : HasFront (45 ∷ []) → ⊥
dash_open f = elim (front_tail [] f) [ inl e ↦ (cc) | inr h ↦ elim h [ inl e ↦ (cc) | inr e ↦ (cc) ] ]

second_at : (b : ℕ) (bs rest : List ℕ) → IsTail (b ∷ bs) rest → b ≡ 45
second_at b bs rest (inl e) = cc
second_at b bs rest (inr (inl e)) = cc
second_at b bs rest (inr (inr e)) = cc

dash_no_token : (b : ℕ) (x z : List ℕ) → (b ≡ 45 → ⊥) → x ≡ b ∷ z → IsNoToken (45 ∷ x)
dash_no_token b x z n e = record {
  some = λ k. cc;
  no_space = solid 45 _ refl;
  no_comment = λ rest k. no_slash_here k;
  no_slash = λ k. no_slash_here k;
  no_token = λ t. n (second_at b (z ++ t.more) t.front.rest (subst (λ (w : List ℕ). IsTail (w ++ t.more) t.front.rest) e (front_tail (x ++ t.more) t.front)));
}

dash_pauses : (x y : List ℕ) → x ≡ y → Pauses (45 ∷ x) y
dash_pauses x y e = record {
  at_hand = 45 ∷ [];
  split = ap (λ w. 45 ∷ w) e;
  some = λ k. cc;
  unclosed = dash_open;
  begins = record { more = codes "-END--"; front = end_front };
}

pub dash_bad : (k offset b : ℕ) (h : Option ℕ) (x z : List ℕ) → k ≡ offset → h ≡ None → (b ≡ 45 → ⊥) → x ≡ b ∷ z → ReadsToken (Err (BadToken k)) offset (45 ∷ x) (unread h z)
dash_bad k offset b h x z s l n e =
    let next : x ≡ b ∷ unread h z = e ∙ ap (λ w. b ∷ w) (sym (unheld h z l)) in (
      s,
      dash_no_token b x z n e,
      record { byte = b; past = inr (dash_pauses x (b ∷ unread h z) next) },
      record { used = 45 ∷ b ∷ []; split = ap (λ w. 45 ∷ w) next; none = dash_no_token b (b ∷ []) [] n refl },
    )

pub dash_end : (x : List ℕ) → x ≡ [] → IsOpenToken (45 ∷ x)
dash_end x e = subst (λ (w : List ℕ). IsOpenToken (45 ∷ w)) (sym e) (record {
  some = λ k. cc;
  no_string = λ rest k. cc;
  unclosed = dash_open;
  begins = inr (record { more = codes "-END--"; front = end_front });
})

-- a read that fails after bytes that leave a token incomplete
read_err : (front x z : List ℕ) (fault : LexFault) (h : Option ℕ) (offset : ℕ) → ((y : List ℕ) → x ≡ y → Pauses (front ++ x) y) → IsReadFault fault → h ≡ None → x ≡ z
    → ReadsToken (Err fault) offset (front ++ x) (unread h z)
read_err front x z Read h offset pauses r k e = pauses (unread h z) (e ∙ sym (unheld h z k))
read_err front x z Bytes h offset pauses r k e = pauses (unread h z) (e ∙ sym (unheld h z k))
read_err front x z _ h offset pauses r k e = absurd r

pub dash_err : (fault : LexFault) (h : Option ℕ) (offset : ℕ) (x z : List ℕ) → IsReadFault fault → h ≡ None → x ≡ z → ReadsToken (Err fault) offset (45 ∷ x) (unread h z)
dash_err fault h offset x z r k e = read_err (45 ∷ []) x z fault h offset (dash_pauses x) r k e

-- the second dash

dashes_open : HasFront (45 ∷ 45 ∷ []) → ⊥
dashes_open f = elim (front_tail (45 ∷ []) f) [ inl e ↦ (cc) | inr h ↦ elim h [ inl e ↦ (cc) | inr e ↦ (cc) ] ]

third_at : (b : ℕ) (bs rest : List ℕ) → IsTail (45 ∷ b ∷ bs) rest → (b ≡ 66) ⊎ ((b ≡ 69) ⊎ (b ≡ 65))
third_at b bs rest (inl e) = inl (cc)
third_at b bs rest (inr (inl e)) = inr (inl (cc))
third_at b bs rest (inr (inr e)) = inr (inr (cc))

dashes_no_token : (b : ℕ) (x z : List ℕ) → (b ≡ 66 → ⊥) → (b ≡ 69 → ⊥) → (b ≡ 65 → ⊥) → x ≡ b ∷ z → IsNoToken (45 ∷ 45 ∷ x)
dashes_no_token b x z m n o e = record {
  some = λ k. cc;
  no_space = solid 45 _ refl;
  no_comment = λ rest k. no_slash_here k;
  no_slash = λ k. no_slash_here k;
  no_token = λ t.
      elim (third_at b (z ++ t.more) t.front.rest (subst (λ (w : List ℕ). IsTail (45 ∷ (w ++ t.more)) t.front.rest) e (front_tail (45 ∷ (x ++ t.more)) t.front))) [
        | inl q ↦ (m q)
        | inr q ↦ elim q [ inl q ↦ (n q) | inr q ↦ (o q) ]
      ];
}

dashes_pauses : (x y : List ℕ) → x ≡ y → Pauses (45 ∷ 45 ∷ x) y
dashes_pauses x y e = record {
  at_hand = 45 ∷ 45 ∷ [];
  split = ap (λ w. 45 ∷ 45 ∷ w) e;
  some = λ k. cc;
  unclosed = dashes_open;
  begins = record { more = codes "END--"; front = end_front };
}

pub dashes_bad : (k offset b : ℕ) (h : Option ℕ) (x z : List ℕ) → k ≡ offset → h ≡ None → (b ≡ 66 → ⊥) → (b ≡ 69 → ⊥) → (b ≡ 65 → ⊥) → x ≡ b ∷ z
    → ReadsToken (Err (BadToken k)) offset (45 ∷ 45 ∷ x) (unread h z)
dashes_bad k offset b h x z s l m n o e =
    let next : x ≡ b ∷ unread h z = e ∙ ap (λ w. b ∷ w) (sym (unheld h z l)) in (
      s,
      dashes_no_token b x z m n o e,
      record { byte = b; past = inr (dashes_pauses x (b ∷ unread h z) next) },
      record { used = 45 ∷ 45 ∷ b ∷ []; split = ap (λ w. 45 ∷ 45 ∷ w) next; none = dashes_no_token b (b ∷ []) [] m n o refl },
    )

pub dashes_end : (x : List ℕ) → x ≡ [] → IsOpenToken (45 ∷ 45 ∷ x)
dashes_end x e = subst (λ (w : List ℕ). IsOpenToken (45 ∷ 45 ∷ w)) (sym e) (record {
  some = λ k. cc;
  no_string = λ rest k. cc;
  unclosed = dashes_open;
  begins = inr (record { more = codes "END--"; front = end_front });
})

pub dashes_err : (fault : LexFault) (h : Option ℕ) (offset : ℕ) (x z : List ℕ) → IsReadFault fault → h ≡ None → x ≡ z → ReadsToken (Err fault) offset (45 ∷ 45 ∷ x) (unread h z)
dashes_err fault h offset x z r k e = read_err (45 ∷ 45 ∷ []) x z fault h offset (dashes_pauses x) r k e

-- the rest of the word

-- the letter decides the word
same_tail : (token : Token) (letter : ℕ) (tail bs rest : List ℕ) → IsDashed token letter tail → IsTail (45 ∷ letter ∷ bs) rest → bs ≡ tail ++ rest
same_tail Body letter tail bs rest d (inl e) = (let same : bs ≡ codes "ODY--" ++ rest = cc in same ∙ ap (λ w. w ++ rest) (sym d.1))
same_tail Body letter tail bs rest d (inr (inl e)) = absurd (let same : letter ≡ 69 = cc in omega (arith, d.0))
same_tail Body letter tail bs rest d (inr (inr e)) = absurd (let same : letter ≡ 65 = cc in omega (arith, d.0))
same_tail End letter tail bs rest d (inl e) = absurd (let same : letter ≡ 66 = cc in omega (arith, d.0))
same_tail End letter tail bs rest d (inr (inl e)) = (let same : bs ≡ codes "ND--" ++ rest = cc in same ∙ ap (λ w. w ++ rest) (sym d.1))
same_tail End letter tail bs rest d (inr (inr e)) = absurd (let same : letter ≡ 65 = cc in omega (arith, d.0))
same_tail Abort letter tail bs rest d (inl e) = absurd (let same : letter ≡ 66 = cc in omega (arith, d.0))
same_tail Abort letter tail bs rest d (inr (inl e)) = absurd (let same : letter ≡ 69 = cc in omega (arith, d.0))
same_tail Abort letter tail bs rest d (inr (inr e)) = (let same : bs ≡ codes "BORT--" ++ rest = cc in same ∙ ap (λ w. w ++ rest) (sym d.1))
same_tail (HeaderName name) letter tail bs rest d e = absurd d
same_tail (Identifier name) letter tail bs rest d e = absurd d
same_tail (Str text) letter tail bs rest d e = absurd d
same_tail (Int n) letter tail bs rest d e = absurd d
same_tail (Alias name) letter tail bs rest d e = absurd d
same_tail _ letter tail bs rest d e = absurd d

pub dashed_front : (token : Token) (letter : ℕ) (tail rest : List ℕ) → IsDashed token letter tail → IsFront (45 ∷ 45 ∷ letter ∷ (tail ++ rest)) token rest
dashed_front Body letter tail rest d = record { word = 45 ∷ 45 ∷ letter ∷ tail; split = refl; spells = (let a = d.0 in let b = d.1 in cc); ends = tt }
dashed_front End letter tail rest d = record { word = 45 ∷ 45 ∷ letter ∷ tail; split = refl; spells = (let a = d.0 in let b = d.1 in cc); ends = tt }
dashed_front Abort letter tail rest d = record { word = 45 ∷ 45 ∷ letter ∷ tail; split = refl; spells = (let a = d.0 in let b = d.1 in cc); ends = tt }
dashed_front (HeaderName name) letter tail rest d = absurd d
dashed_front (Identifier name) letter tail rest d = absurd d
dashed_front (Str text) letter tail rest d = absurd d
dashed_front (Int n) letter tail rest d = absurd d
dashed_front (Alias name) letter tail rest d = absurd d
dashed_front _ letter tail rest d = absurd d

tail_open : (token : Token) (letter b : ℕ) (tail seen : List ℕ) → IsDashed token letter tail → Expects tail seen b → HasFront (45 ∷ 45 ∷ letter ∷ seen) → ⊥
tail_open token letter b tail seen d w f =
    let whole = same_tail token letter tail seen f.rest d (front_tail (45 ∷ letter ∷ seen) f) in
    omega (arith, simp length-append at (ap length whole), simp length-append at (ap length w.split))

tail_begins : (token : Token) (letter b : ℕ) (tail seen : List ℕ) → IsDashed token letter tail → Expects tail seen b → BeginsToken (45 ∷ 45 ∷ letter ∷ seen)
tail_begins token letter b tail seen d w = record {
  more = b ∷ w.rest;
  front = subst (λ (v : List ℕ). HasFront (45 ∷ 45 ∷ letter ∷ v)) (append-nil tail ∙ w.split) (record { token = token; rest = []; front = dashed_front token letter tail [] d });
}

same_next : (seen p q : List ℕ) (b c : ℕ) → seen ++ c ∷ p ≡ seen ++ b ∷ q → c ≡ b
same_next [] p q b c e = cc
same_next (x ∷ xs) p q b c e = same_next xs p q b c (let whole : x ∷ (xs ++ c ∷ p) ≡ x ∷ (xs ++ b ∷ q) = e in cc)

tail_bad : (token : Token) (letter b c : ℕ) (tail seen x more : List ℕ) → IsDashed token letter tail → Expects tail seen b → x ≡ seen ++ c ∷ more → (c ≡ b → ⊥) → BeginsToken (45 ∷ 45 ∷ letter ∷ x) → ⊥
tail_bad token letter b c tail seen x more d w e n t =
    let whole = same_tail token letter tail (x ++ t.more) t.front.rest d (front_tail (45 ∷ letter ∷ (x ++ t.more)) t.front) in
    n (same_next seen (more ++ t.more) (w.rest ++ t.front.rest) b c
    (sym (append_assoc seen (c ∷ more) t.more) ∙ ap (λ v. v ++ t.more) (sym e) ∙ whole ∙ ap (λ v. v ++ t.front.rest) w.split ∙ append_assoc seen (b ∷ w.rest) t.front.rest))

pub tail_answer : (token : Token) (letter offset : ℕ) (h : Option ℕ) (tail x z : List ℕ) → IsDashed token letter tail → h ≡ None → x ≡ tail ++ z → IsFront (45 ∷ 45 ∷ letter ∷ x) token (unread h z)
tail_answer token letter offset h tail x z d k e =
    let same : tail ++ unread h z ≡ x = ap (λ w. tail ++ w) (unheld h z k) ∙ sym e in
    subst (λ (w : List ℕ). IsFront (45 ∷ 45 ∷ letter ∷ w) token (unread h z)) same (dashed_front token letter tail (unread h z) d)

tail_no_token : (token : Token) (letter b c : ℕ) (tail seen x more : List ℕ) → IsDashed token letter tail → Expects tail seen b → x ≡ seen ++ c ∷ more → (c ≡ b → ⊥) → IsNoToken (45 ∷ 45 ∷ letter ∷ x)
tail_no_token token letter b c tail seen x more d w e n = record {
  some = λ k. cc;
  no_space = solid 45 _ refl;
  no_comment = λ rest k. no_slash_here k;
  no_slash = λ k. no_slash_here k;
  no_token = tail_bad token letter b c tail seen x more d w e n;
}

tail_open_token : (token : Token) (letter b : ℕ) (tail x : List ℕ) → IsDashed token letter tail → Expects tail x b → IsOpenToken (45 ∷ 45 ∷ letter ∷ x)
tail_open_token token letter b tail x d w = record {
  some = λ k. cc;
  no_string = λ rest k. cc;
  unclosed = tail_open token letter b tail x d w;
  begins = inr (tail_begins token letter b tail x d w);
}

tail_pauses : (token : Token) (letter b : ℕ) (h : Option ℕ) (tail seen x z : List ℕ) → IsDashed token letter tail → h ≡ None → Expects tail seen b → x ≡ seen ++ z
    → Pauses (45 ∷ 45 ∷ letter ∷ x) (unread h z)
tail_pauses token letter b h tail seen x z d e w k = record {
  at_hand = 45 ∷ 45 ∷ letter ∷ seen;
  split = ap (λ v. 45 ∷ 45 ∷ letter ∷ v) (k ∙ ap (λ v. seen ++ v) (sym (unheld h z e)));
  some = λ k. cc;
  unclosed = tail_open token letter b tail seen d w;
  begins = tail_begins token letter b tail seen d w;
}

pub tail_err : (fault : LexFault) (token : Token) (letter offset : ℕ) (h : Option ℕ) (tail x z : List ℕ) → IsDashed token letter tail → h ≡ None → ReadsWord (Err fault) tail offset x z
    → ReadsToken (Err fault) offset (45 ∷ 45 ∷ letter ∷ x) (unread h z)
tail_err (BadToken k) token letter offset h tail x z d e r = (
  r.0,
  tail_no_token token letter r.2 r.3 tail r.1 x z d r.4 r.5 r.6,
  record { byte = r.3; past = inr (subst (λ (w : List ℕ). Pauses (45 ∷ 45 ∷ letter ∷ x) (r.3 ∷ w)) (sym (unheld h z e)) (tail_pauses token letter r.2 None tail r.1 x (r.3 ∷ z) d refl r.4 r.5)) },
  record {
    used = 45 ∷ 45 ∷ letter ∷ (r.1 ++ r.3 ∷ []);
    split = ap (λ w. 45 ∷ 45 ∷ letter ∷ w) (r.5 ∙ ap (λ w. r.1 ++ r.3 ∷ w) (sym (unheld h z e)) ∙ sym (append_assoc r.1 (r.3 ∷ []) (unread h z)));
    none = tail_no_token token letter r.2 r.3 tail r.1 (r.1 ++ r.3 ∷ []) [] d r.4 refl r.6;
  },
)
tail_err OpenToken token letter offset h tail x z d e r = (tail_open_token token letter r.0 tail x d r.1, unheld h z e ∙ r.2)
tail_err Bytes token letter offset h tail x z d e r = tail_pauses token letter r.1 h tail r.0 x z d e r.2 r.3
tail_err Read token letter offset h tail x z d e r = tail_pauses token letter r.1 h tail r.0 x z d e r.2 r.3
tail_err OpenComment token letter offset h tail x z d e r = absurd r
tail_err OpenString token letter offset h tail x z d e r = absurd r
tail_err Memory token letter offset h tail x z d e r = absurd r

-- the word is a prefix so far

expects_at : (word : List ℕ) (k : ℕ) → k < length word → Expects word (take k word) (get_or word k 0)
expects_at word k l = record {
  rest = drop (suc k) word;
  split = sym (take-append-drop k word) ∙ ap (λ v. take k word ++ v) (drop-cons word k 0 l);
}

pub expect_bad : (word : List ℕ) (k byte place offset : ℕ) (x y z : List ℕ) → k < length word → place ≡ offset → x ≡ take k word ++ y → y ≡ byte ∷ z → (byte ≡ get_or word k 0 → ⊥)
    → ReadsWord (Err (BadToken place)) word offset x z
expect_bad word k byte place offset x y z l o e r w =
    (o, take k word, get_or word k 0, byte, expects_at word k l, e ∙ ap (λ v. take k word ++ v) r, w)

pub expect_end : (word : List ℕ) (k offset : ℕ) (x y z : List ℕ) → k < length word → x ≡ take k word ++ y → y ≡ [] → z ≡ [] → ReadsWord (Err OpenToken) word offset x z
expect_end word k offset x y z l e r w =
    let whole : take k word ≡ x = sym (e ∙ ap (λ v. take k word ++ v) r ∙ append-nil (take k word)) in
    (get_or word k 0, subst (λ (v : List ℕ). Expects word v (get_or word k 0)) whole (expects_at word k l), w)

pub expect_err : (fault : LexFault) (word : List ℕ) (k offset : ℕ) (x y z : List ℕ) → IsReadFault fault → k < length word → x ≡ take k word ++ y → y ≡ z → ReadsWord (Err fault) word offset x z
expect_err Read word k offset x y z r l e w =
    (take k word, get_or word k 0, expects_at word k l, e ∙ ap (λ v. take k word ++ v) w)
expect_err Bytes word k offset x y z r l e w =
    (take k word, get_or word k 0, expects_at word k l, e ∙ ap (λ v. take k word ++ v) w)
expect_err (BadToken m) word k offset x y z r l e w = absurd r
expect_err OpenComment word k offset x y z r l e w = absurd r
expect_err OpenString word k offset x y z r l e w = absurd r
expect_err OpenToken word k offset x y z r l e w = absurd r
expect_err Memory word k offset x y z r l e w = absurd r
