-- A letter always begins a token, and `@` does where a letter, a digit or `-` follows.
use Rattle.std.proofs.Common.{◌≡◌, ℕ, true, List, [], ◌∷◌, ◌++◌, ◌⊎◌, Some, None, inl, inr, refl, sym, ◌∙◌, ap}
use Rattle.std.specs.List.{list_all}
use Rattle.std.proofs.lemmas.Bool.{cases_Bool, cases_eq, ne_eqb}
use Rattle.std.proofs.lemmas.List.{append_assoc}
use Rattle.hoa_lexer.specs.Bytes.{is_letter, is_word}
use Rattle.hoa_lexer.specs.Spelling.{StopsAt}
use Rattle.hoa_lexer.specs.Text.{IsNoToken}
use Rattle.hoa_lexer.specs.declared.token.Token.TheVariants.{HeaderName, Identifier, Alias}
use Rattle.hoa_lexer.specs.inner.Steps.{AddsWord}
use Rattle.hoa_lexer.proofs.spelling.Words.{alias_bad, alias_end, word_end}
use Rattle.hoa_lexer.proofs.next_token.StuckPlaces.{no_open_token}
use Rattle.autfilt_laws.proofs.shown.Fronts.{IsRefused, not_token, refused_here}

-- how far letters, digits and `-` go
record Ahead (x : List ℕ) : Type 0 where
  seen : List ℕ
  rest : List ℕ
  words : list_all is_word seen ≡ true
  split : x ≡ seen ++ rest
  stops : (rest ≡ []) ⊎ StopsAt is_word rest

ahead : (x : List ℕ) → Ahead x
ahead [] = record { seen = []; rest = []; words = refl; split = refl; stops = inl refl }
ahead (b ∷ bs) = elim (cases_Bool (is_word b)) [
  | inl w ↦ (let more = ahead bs in record { seen = b ∷ more.seen; rest = more.rest; words = rw (w, more.words) refl; split = ap (λ v. b ∷ v) more.split; stops = more.stops })
  | inr s ↦ record { seen = []; rest = b ∷ bs; words = refl; split = refl; stops = inr s }
]

-- they go on to the end
all_words : (x : List ℕ) (a : Ahead x) → a.rest ≡ [] → AddsWord [] a.seen x []
all_words x a e = record { seen = a.seen; named = refl; words = a.words; split = a.split ∙ ap (λ v. a.seen ++ v) e }

-- a name is next, with what follows it

named : (first : ℕ) (x seen rest : List ℕ) → is_letter first ≡ true → list_all is_word seen ≡ true → x ≡ seen ++ rest → StopsAt is_word rest → IsNoToken (first ∷ x) → ⊥
named first x seen [] l w e s n = s
named first x seen (b ∷ rest) l w e s n = elim (cases_eq b 58) [
  | inl colon ↦ not_token (first ∷ x) (HeaderName (first ∷ seen)) rest n (record {
    word = first ∷ (seen ++ 58 ∷ []);
    split = ap (λ v. first ∷ v) (e ∙ ap (λ c. seen ++ c ∷ rest) colon ∙ sym (append_assoc seen (58 ∷ []) rest));
    spells = ((l, w), refl);
    ends = tt;
  })
  | inr other ↦ not_token (first ∷ x) (Identifier (first ∷ seen)) (b ∷ rest) n (record {
    word = first ∷ seen;
    split = ap (λ v. first ∷ v) e;
    spells = ((l, w), refl);
    ends = (s, ne_eqb b 58 other);
  })
]

pub letter_begins : (first : ℕ) (x : List ℕ) → is_letter first ≡ true → IsNoToken (first ∷ x) → ⊥
letter_begins first x l n =
    let a = ahead x in
    elim a.stops [
      | inl e ↦ no_open_token (first ∷ x) n (word_end first [] a.seen x l (all_words x a e))
      | inr s ↦ named first x a.seen a.rest l a.words a.split s n
    ]

-- an alias

alias_named : (first : ℕ) (x : List ℕ) → is_word first ≡ true → IsNoToken (64 ∷ first ∷ x) → ⊥
alias_named first x w n =
    let a = ahead x in
    elim a.stops [
      | inl e ↦ no_open_token (64 ∷ first ∷ x) n
          (alias_end [] (first ∷ a.seen) (first ∷ x) (record { seen = first ∷ a.seen; named = refl; words = rw (w, a.words) refl; split = ap (λ v. first ∷ v) (a.split ∙ ap (λ v. a.seen ++ v) e) }))
      | inr s ↦ not_token (64 ∷ first ∷ x) (Alias (first ∷ a.seen)) a.rest n (record {
        word = 64 ∷ first ∷ a.seen;
        split = ap (λ v. 64 ∷ first ∷ v) a.split;
        spells = ((λ e. cc), rw (w, a.words) refl, refl);
        ends = s;
      })
    ]

pub alias_refused : (k : ℕ) (x : List ℕ) → IsNoToken (64 ∷ x) → IsRefused k (64 ∷ x)
alias_refused k [] n = absurd (no_open_token (64 ∷ []) n (alias_end [] [] [] (record { seen = []; named = refl; words = refl; split = refl })))
alias_refused k (b ∷ x) n = elim (cases_Bool (is_word b)) [
  | inl w ↦ absurd (alias_named b x w n)
  | inr s ↦ refused_here k (64 ∷ b ∷ x) x
      (alias_bad k k b (Some b) None [] [] (b ∷ x) x refl refl refl refl refl (record { seen = []; named = refl; words = refl; split = refl }, s))
]
