-- Identifiers, names of headers and aliases.
use Rattle.std.proofs.Common.{◌≡◌, ℕ, Bool, true, false, List, [], ◌∷◌, ◌++◌, ◌==◌, length, Option, Some, None, Ok, Err, inr, refl, sym, ◌∙◌, ap, arith}
use Rattle.std.specs.List.{list_all}
use Rattle.std.proofs.lemmas.Bool.{false≢true, and_from, and_parts}
use Rattle.std.proofs.lemmas.List.{append_assoc, append-nil}
use Rattle.std.proofs.lemmas.List.Folds.{list_all-append}
use Rattle.hoa_lexer.specs.Bytes.{is_letter, is_word}
use Rattle.hoa_lexer.specs.Reading.{unread}
use Rattle.hoa_lexer.specs.Spelling.{Spells, IsDelimited, StopsAt, IsIdentifier}
use Rattle.hoa_lexer.specs.inner.Steps.{AddsWord, AddsWords, Pauses, ReadsToken, TakesWord}
use Rattle.hoa_lexer.specs.Text.{HasFront, BeginsToken, IsOpenToken, IsNoToken}
use Rattle.hoa_lexer.proofs.spelling.Comments.{unheld}
use Rattle.hoa_lexer.proofs.spelling.FirstBytes.{token_kind, kind_letter, front_head, solid}
use Rattle.hoa_lexer.specs.declared.token.LexFault.{LexFault}
use Rattle.hoa_lexer.specs.declared.token.LexFault.TheVariants.{BadToken, OpenComment, OpenString, OpenToken, Read, Bytes, Memory}
use Rattle.hoa_lexer.specs.declared.token.Token.{Token}
use Rattle.hoa_lexer.specs.declared.token.Token.TheVariants.{HeaderName, Identifier, Str, Int, Alias}
use Rattle.aut_base.proofs.lists.Lists.{list_all-push, push_not_empty, empty_of_length, cons-head}

pub words_end : (o : Option ℕ) (name name' x z : List ℕ) → o ≡ None → AddsWords (Ok o) name name' x z → AddsWord name name' x []
words_end None name name' x z e a = a.0
words_end (Some b) name name' x z e a = cc

-- memory was wanting for another byte
pub takes_word : (b : ℕ) (name name' x y z : List ℕ) → AddsWord name name' x y → y ≡ b ∷ z → is_word b ≡ true → TakesWord x z
takes_word b name name' x y z a e w = record {
  seen = a.seen ++ b ∷ [];
  words = list_all-push is_word b a.seen a.words w;
  split = a.split ∙ ap (λ v. a.seen ++ v) e ∙ sym (append_assoc a.seen (b ∷ []) z);
}

-- or for a run after it
pub takes_run : (name name' x y z : List ℕ) → TakesWord x y → AddsWord name name' y z → TakesWord x z
takes_run name name' x y z a b = record {
  seen = a.seen ++ b.seen;
  words = list_all-append is_word a.seen b.seen ∙ and_from (list_all is_word a.seen) (list_all is_word b.seen) a.words b.words;
  split = a.split ∙ ap (λ v. a.seen ++ v) b.split ∙ sym (append_assoc a.seen b.seen z);
}

pub words_left : (o : Option ℕ) (name name' x z : List ℕ) → o ≡ None → AddsWords (Ok o) name name' x z → z ≡ []
words_left None name name' x z e a = a.1
words_left (Some b) name name' x z e a = cc

-- a byte that goes on with the word doesn't end it
pub stops_not : (p : ℕ → Bool) (xs ys rest : List ℕ) → list_all p xs ≡ true → xs ≡ ys ++ rest → StopsAt p rest → ⊥
stops_not p xs ys [] h e s = s
stops_not p xs ys (r ∷ rs) h e s =
    let parts = and_parts (list_all p ys) (list_all p (r ∷ rs)) (sym (list_all-append p ys (r ∷ rs)) ∙ ap (list_all p) (sym e) ∙ h) in
    false≢true (sym s ∙ (and_parts (p r) (list_all p rs) parts.1).0)

letter_no_quote : (b : ℕ) → is_letter b ≡ true → b ≡ 34 → ⊥
letter_no_quote b h e = false≢true (ap is_letter (sym e) ∙ h)

-- an identifier or the name of a header

header_open : (first : ℕ) (seen tail rest name : List ℕ) → IsIdentifier name → first ∷ tail ≡ name ++ 58 ∷ [] → seen ≡ tail ++ rest → list_all is_word seen ≡ true → ⊥
header_open first seen tail rest [] i e s h = i
header_open first seen tail rest (n ∷ ns) i e s h =
    let tails : tail ≡ ns ++ 58 ∷ [] = cc in
    stops_not is_word seen ns (58 ∷ rest) h (s ∙ ap (λ w. w ++ rest) tails ∙ append_assoc ns (58 ∷ []) rest) refl

word_open_at : (token : Token) (first : ℕ) (seen tail rest : List ℕ) → 65 ≡ token_kind token → Spells token (first ∷ tail) → IsDelimited token rest → seen ≡ tail ++ rest
    → list_all is_word seen ≡ true → ⊥
word_open_at (HeaderName name) first seen tail rest k s e p h = header_open first seen tail rest name s.0 s.1 p h
word_open_at (Identifier name) first seen tail rest k s e p h = stops_not is_word seen tail rest h p e.0
word_open_at (Str text) first seen tail rest k s e p h = absurd (omega arith)
word_open_at (Int n) first seen tail rest k s e p h = absurd (omega arith)
word_open_at (Alias name) first seen tail rest k s e p h = absurd (omega arith)
word_open_at _ first seen tail rest k s e p h = absurd (omega arith)

word_open : (first : ℕ) (seen : List ℕ) → is_letter first ≡ true → list_all is_word seen ≡ true → HasFront (first ∷ seen) → ⊥
word_open first seen l h f =
    let head = front_head first seen f.token f.rest f.front in
    word_open_at f.token first seen head.tail f.rest (sym (kind_letter first l) ∙ head.kinds) head.spells f.front.ends head.split h

word_begins : (first : ℕ) (seen : List ℕ) → is_letter first ≡ true → list_all is_word seen ≡ true → BeginsToken (first ∷ seen)
word_begins first seen l h = record {
  more = 58 ∷ [];
  front = record {
    token = HeaderName (first ∷ seen);
    rest = [];
    front = record { word = first ∷ (seen ++ 58 ∷ []); split = sym (append-nil (first ∷ (seen ++ 58 ∷ []))); spells = ((l, h), refl); ends = tt };
  };
}

pub word_end : (first : ℕ) (name name' x : List ℕ) → is_letter first ≡ true → AddsWord name name' x [] → IsOpenToken (first ∷ x)
word_end first name name' x l a =
    let whole : a.seen ≡ x = sym (a.split ∙ append-nil a.seen) in
    let words : list_all is_word x ≡ true = ap (list_all is_word) (sym whole) ∙ a.words in
    record {
      some = λ e. cc;
      no_string = λ rest e. letter_no_quote first l (let same : first ≡ 34 = cc in same);
      unclosed = word_open first x l words;
      begins = inr (word_begins first x l words);
    }

word_pauses : (h : Option ℕ) (first : ℕ) (x z : List ℕ) → is_letter first ≡ true → h ≡ None → TakesWord x z → Pauses (first ∷ x) (unread h z)
word_pauses h first x z l k a = record {
  at_hand = first ∷ a.seen;
  split = ap (λ v. first ∷ v) (a.split ∙ ap (λ v. a.seen ++ v) (sym (unheld h z k)));
  some = λ e. cc;
  unclosed = word_open first a.seen l a.words;
  begins = word_begins first a.seen l a.words;
}

-- memory was wanting for the first letter
pub word_stops : (first : ℕ) (x : List ℕ) → is_letter first ≡ true → Pauses (first ∷ x) x
word_stops first x l = word_pauses None first x x l refl (record { seen = []; words = refl; split = refl })

pub word_err : (fault : LexFault) (h : Option ℕ) (offset first : ℕ) (name name' x z : List ℕ) → is_letter first ≡ true → h ≡ None → AddsWords (Err fault) name name' x z
    → ReadsToken (Err fault) offset (first ∷ x) (unread h z)
word_err Bytes h offset first name name' x z l k a = word_pauses h first x z l k a
word_err Read h offset first name name' x z l k a = word_pauses h first x z l k a
word_err Memory h offset first name name' x z l k a = word_pauses h first x z l k a
word_err (BadToken n) h offset first name name' x z l k a = absurd a
word_err OpenComment h offset first name name' x z l k a = absurd a
word_err OpenString h offset first name name' x z l k a = absurd a
word_err OpenToken h offset first name name' x z l k a = absurd a

-- an alias

no_slash_here : {xs ys : List ℕ} → 64 ∷ xs ≡ 47 ∷ ys → ⊥
no_slash_here {xs} {ys} e = omega (arith, cons-head 64 47 xs ys e)

alias_open_at : (token : Token) (seen tail rest : List ℕ) → 64 ≡ token_kind token → Spells token (64 ∷ tail) → IsDelimited token rest → seen ≡ tail ++ rest → list_all is_word seen ≡ true → ⊥
alias_open_at (Alias name) seen tail rest k s e p h = stops_not is_word seen tail rest h p e
alias_open_at (HeaderName name) seen tail rest k s e p h = absurd (omega arith)
alias_open_at (Identifier name) seen tail rest k s e p h = absurd (omega arith)
alias_open_at (Str text) seen tail rest k s e p h = absurd (omega arith)
alias_open_at (Int n) seen tail rest k s e p h = absurd (omega arith)
alias_open_at _ seen tail rest k s e p h = absurd (omega arith)

alias_open : (seen : List ℕ) → list_all is_word seen ≡ true → HasFront (64 ∷ seen) → ⊥
alias_open seen h f =
    let head = front_head 64 seen f.token f.rest f.front in
    alias_open_at f.token seen head.tail f.rest head.kinds head.spells f.front.ends head.split h

alias_begins : (seen : List ℕ) → list_all is_word seen ≡ true → BeginsToken (64 ∷ seen)
alias_begins seen h = record {
  more = 97 ∷ 32 ∷ [];
  front = record {
    token = Alias (seen ++ 97 ∷ []);
    rest = 32 ∷ [];
    front = record {
      word = 64 ∷ (seen ++ 97 ∷ []);
      split = ap (λ v. 64 ∷ v) (sym (append_assoc seen (97 ∷ []) (32 ∷ [])));
      spells = (push_not_empty seen 97, list_all-push is_word 97 seen h refl, refl);
      ends = refl;
    };
  };
}

no_alias_at : (token : Token) (b : ℕ) (z tail rest : List ℕ) → 64 ≡ token_kind token → Spells token (64 ∷ tail) → b ∷ z ≡ tail ++ rest → is_word b ≡ false → ⊥
no_alias_at (Alias []) b z tail rest k s p w = s.0 refl
no_alias_at (Alias (n ∷ ns)) b z [] rest k s p w = (let e = s.2 in cc)
no_alias_at (Alias (n ∷ ns)) b z (t ∷ ts) rest k s p w =
    let e : 64 ∷ t ∷ ts ≡ 64 ∷ n ∷ ns = s.2 in
    let same : b ≡ n = cc in
    false≢true (sym w ∙ ap is_word same ∙ (and_parts (is_word n) (list_all is_word ns) s.1).0)
no_alias_at (HeaderName name) b z tail rest k s p w = absurd (omega arith)
no_alias_at (Identifier name) b z tail rest k s p w = absurd (omega arith)
no_alias_at (Str text) b z tail rest k s p w = absurd (omega arith)
no_alias_at (Int n) b z tail rest k s p w = absurd (omega arith)
no_alias_at _ b z tail rest k s p w = absurd (omega arith)

alias_no_token : (b : ℕ) (x z : List ℕ) → x ≡ b ∷ z → is_word b ≡ false → IsNoToken (64 ∷ x)
alias_no_token b x z e w = record {
  some = λ k. cc;
  no_space = solid 64 x refl;
  no_comment = λ rest k. no_slash_here k;
  no_slash = λ k. no_slash_here k;
  no_token = λ t.
      let head = front_head 64 (x ++ t.more) t.front.token t.front.rest t.front.front in
      no_alias_at t.front.token b (z ++ t.more) head.tail t.front.rest head.kinds head.spells (sym (ap (λ v. v ++ t.more) e) ∙ head.split) w;
}

alias_pauses : (seen x y : List ℕ) → list_all is_word seen ≡ true → x ≡ seen ++ y → Pauses (64 ∷ x) y
alias_pauses seen x y w e = record {
  at_hand = 64 ∷ seen;
  split = ap (λ v. 64 ∷ v) e;
  some = λ k. cc;
  unclosed = alias_open seen w;
  begins = alias_begins seen w;
}

nothing_added : (seen : List ℕ) → [] ≡ seen → (b : ℕ) (x z : List ℕ) → x ≡ seen ++ b ∷ z → x ≡ b ∷ z
nothing_added [] n b x z e = e
nothing_added (c ∷ cs) n b x z e = cc

pub alias_bad : (k offset b : ℕ) (o h : Option ℕ) (name name' x z : List ℕ) → k ≡ offset → h ≡ None → o ≡ Some b → name ≡ [] → (length name' == 0) ≡ true → AddsWords (Ok o) name name' x z
    → ReadsToken (Err (BadToken k)) offset (64 ∷ x) (unread h z)
alias_bad k offset b None h name name' x z s l e m n a = cc
alias_bad k offset b (Some c) h name name' x z s l e m n a =
    let read : x ≡ c ∷ z = nothing_added a.0.seen (sym (empty_of_length name' n) ∙ a.0.named ∙ ap (λ v. v ++ a.0.seen) m) c x z a.0.split in
    let next : x ≡ c ∷ unread h z = read ∙ ap (λ w. c ∷ w) (sym (unheld h z l)) in (
      s,
      alias_no_token c x z read a.1,
      record { byte = c; past = inr (alias_pauses [] x (c ∷ unread h z) refl next) },
      record { used = 64 ∷ c ∷ []; split = ap (λ w. 64 ∷ w) next; none = alias_no_token c (c ∷ []) [] refl a.1 },
    )

pub alias_end : (name name' x : List ℕ) → AddsWord name name' x [] → IsOpenToken (64 ∷ x)
alias_end name name' x a =
    let whole : a.seen ≡ x = sym (a.split ∙ append-nil a.seen) in
    let words : list_all is_word x ≡ true = ap (list_all is_word) (sym whole) ∙ a.words in
    record {
      some = λ e. cc;
      no_string = λ rest e. cc;
      unclosed = alias_open x words;
      begins = inr (alias_begins x words);
    }

alias_waits : (h : Option ℕ) (x z : List ℕ) → h ≡ None → TakesWord x z → Pauses (64 ∷ x) (unread h z)
alias_waits h x z k a = alias_pauses a.seen x (unread h z) a.words (a.split ∙ ap (λ v. a.seen ++ v) (sym (unheld h z k)))

pub alias_err : (fault : LexFault) (h : Option ℕ) (offset : ℕ) (name name' x z : List ℕ) → h ≡ None → AddsWords (Err fault) name name' x z → ReadsToken (Err fault) offset (64 ∷ x) (unread h z)
alias_err Bytes h offset name name' x z k a = alias_waits h x z k a
alias_err Read h offset name name' x z k a = alias_waits h x z k a
alias_err Memory h offset name name' x z k a = alias_waits h x z k a
alias_err (BadToken n) h offset name name' x z k a = absurd a
alias_err OpenComment h offset name name' x z k a = absurd a
alias_err OpenString h offset name name' x z k a = absurd a
alias_err OpenToken h offset name name' x z k a = absurd a
