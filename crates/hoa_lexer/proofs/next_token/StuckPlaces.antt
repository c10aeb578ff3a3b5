-- A text has one offset where no token can begin, and there either none can be completed or one is open.
use Rattle.std.proofs.Common.{◌≡◌, ◌≢◌, ℕ, ◌⊎◌, List, [], ◌∷◌, ◌++◌, inl, inr, refl, sym, ◌∙◌, ap}
use Rattle.std.proofs.lemmas.Bool.{cases_eq}
use Rattle.std.proofs.lemmas.List.{append-nil}
use Rattle.hoa_lexer.specs.Blanks.{IsOpenComment}
use Rattle.hoa_lexer.specs.Spelling.{Quotes}
use Rattle.aut_base.specs.Strings.Quotes.{nothing as unquoted, escaped, plain}
use Rattle.hoa_lexer.specs.Text.{AfterBlanks, BeginsToken, IsNoToken, IsOpenString, IsOpenToken}
use Rattle.hoa_lexer.specs.declared.token.Token.TheVariants.{Str}
use Rattle.hoa_lexer.proofs.next_token.Exclusive.{IsStuck}
use Rattle.hoa_lexer.proofs.next_token.Fronts.{NoBlank, one_place}

stuck_no_blank : (bytes : List ℕ) → IsStuck bytes → NoBlank bytes
stuck_no_blank bytes s = record { no_space = s.no_space; no_comment = s.no_comment }

-- the bytes that are stuck are the same
pub stuck_place : (input : List ℕ) (a b : AfterBlanks input IsStuck) → a.bytes ≡ b.bytes
stuck_place input a b =
    one_place a.before b.before a.bytes b.bytes a.blanks b.blanks (sym a.split ∙ b.split) (stuck_no_blank a.bytes a.holds) (stuck_no_blank b.bytes b.holds)

-- a string closes in the bytes, or after more of them
record IsClosed (bytes : List ℕ) : Type 0 where
  inner : List ℕ
  text : List ℕ
  more : List ℕ
  quotes : Quotes inner text
  split : bytes ≡ inner ++ 34 ∷ more

record CanClose (bytes : List ℕ) : Type 0 where
  inner : List ℕ
  text : List ℕ
  more : List ℕ
  quotes : Quotes inner text
  split : bytes ++ more ≡ inner ++ 34 ∷ []

abbrev Quoted : List ℕ → Type 0
Quoted bytes = IsClosed bytes ⊎ CanClose bytes

abbrev tail_of : List ℕ → List ℕ
tail_of [] = []
tail_of (b ∷ bs) = bs

quoted_plain : (b : ℕ) (bs : List ℕ) → b ≢ 34 → b ≢ 92 → Quoted bs → Quoted (b ∷ bs)
quoted_plain b bs n m (inl q) = inl (record { inner = b ∷ q.inner; text = b ∷ q.text; more = q.more; quotes = plain n m q.quotes; split = ap (λ w. b ∷ w) q.split })
quoted_plain b bs n m (inr q) = inr (record { inner = b ∷ q.inner; text = b ∷ q.text; more = q.more; quotes = plain n m q.quotes; split = ap (λ w. b ∷ w) q.split })

quoted_escape : (b : ℕ) (bs : List ℕ) → b ≡ 92 → Quoted (tail_of bs) → Quoted (b ∷ bs)
quoted_escape b [] e q = inr (record { inner = 92 ∷ 97 ∷ []; text = 97 ∷ []; more = 97 ∷ 34 ∷ []; quotes = escaped unquoted; split = ap (λ c. c ∷ 97 ∷ 34 ∷ []) e })
quoted_escape b (c ∷ cs) e (inl q) = inl (record { inner = 92 ∷ c ∷ q.inner; text = c ∷ q.text; more = q.more; quotes = escaped q.quotes; split = (let rest = q.split in cc) })
quoted_escape b (c ∷ cs) e (inr q) = inr (record { inner = 92 ∷ c ∷ q.inner; text = c ∷ q.text; more = q.more; quotes = escaped q.quotes; split = (let rest = q.split in cc) })

quoted_step : (b : ℕ) (bs : List ℕ) → Quoted bs → Quoted (tail_of bs) → Quoted (b ∷ bs)
quoted_step b bs q r = elim (cases_eq b 34) [
  | inl e ↦ inl (record { inner = []; text = []; more = bs; quotes = unquoted; split = ap (λ c. c ∷ bs) e })
  | inr n ↦ elim (cases_eq b 92) [ inl e ↦ quoted_escape b bs e r | inr m ↦ quoted_plain b bs n m q ]
]

quoted_both : (bytes : List ℕ) → Quoted bytes × Quoted (tail_of bytes)
quoted_both [] =
    let none : Quoted [] = inr (record { inner = []; text = []; more = 34 ∷ []; quotes = unquoted; split = refl }) in
    (none, none)
quoted_both (b ∷ bs) = let both = quoted_both bs in (quoted_step b bs both.0 both.1, both.0)

-- so an open string can be closed
pub string_begins : (bytes : List ℕ) → IsOpenString bytes → BeginsToken bytes
string_begins bytes o = elim (quoted_both o.rest).0 [
  | inl q ↦ absurd (o.open_still q.inner q.text q.more q.split q.quotes)
  | inr q ↦ record {
    more = q.more;
    front = record {
      token = Str q.text;
      rest = [];
      front = record {
        word = 34 ∷ (q.inner ++ 34 ∷ []);
        split = ap (λ w. w ++ q.more) o.opens ∙ ap (λ w. 34 ∷ w) q.split ∙ sym (append-nil (34 ∷ (q.inner ++ 34 ∷ [])));
        spells = (q.inner, q.quotes, refl);
        ends = tt;
      };
    };
  }
]

pub no_open_comment : (bytes : List ℕ) → IsNoToken bytes → IsOpenComment bytes → ⊥
no_open_comment bytes n o = n.no_comment o.rest o.opens

pub no_open_string : (bytes : List ℕ) → IsNoToken bytes → IsOpenString bytes → ⊥
no_open_string bytes n o = n.no_token (string_begins bytes o)

pub no_open_token : (bytes : List ℕ) → IsNoToken bytes → IsOpenToken bytes → ⊥
no_open_token bytes n o = elim o.begins [ inl e ↦ n.no_slash e | inr b ↦ n.no_token b ]

abbrev pub after_as : {P Q : List ℕ → Type 0} (input : List ℕ) → ((bytes : List ℕ) → P bytes → Q bytes) → AfterBlanks input P → AfterBlanks input Q
after_as input f a = record { before = a.before; bytes = a.bytes; split = a.split; blanks = a.blanks; holds = f a.bytes a.holds }
