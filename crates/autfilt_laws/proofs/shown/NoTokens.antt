-- All bytes with which no token begins are refused.
use Rattle.std.proofs.Common.{◌≡◌, ℕ, false, List, [], ◌∷◌, ◌++◌, Err, inl, inr, refl, sym, subst, ap}
use Rattle.std.proofs.lemmas.Bool.{cases_Bool, cases_eq}
use Rattle.hoa_lexer.specs.Bytes.{is_digit, is_letter, is_space}
use Rattle.hoa_lexer.specs.Reading.{AnswersToken}
use Rattle.hoa_lexer.specs.Spelling.{Quotes}
use Rattle.hoa_lexer.specs.Text.{IsNoToken}
use Rattle.hoa_lexer.specs.declared.token.LexFault.TheVariants.{BadToken}
use Rattle.hoa_lexer.specs.declared.token.Token.{Token}
use Rattle.hoa_lexer.specs.declared.token.Token.TheVariants.{Str}
use Rattle.hoa_lexer.specs.inner.Steps.{IsSign}
use Rattle.hoa_lexer.proofs.next_token.Fronts.{fails_after, skip_bad}
use Rattle.hoa_lexer.proofs.next_token.StuckPlaces.{no_open_string}
use Rattle.hoa_lexer.proofs.spelling.FirstBytes.{mark_front, no_kind_token}
use Rattle.std.proofs.lemmas.List.{append_assoc}
use Rattle.hoa_parser.specs.Standing.{IsNoTokenAt}
use Rattle.autfilt_laws.proofs.shown.Dashes.{dash_refused}
use Rattle.autfilt_laws.proofs.shown.Fronts.{IsRefused, not_token, refused_here}
use Rattle.autfilt_laws.proofs.shown.Numbers.{number_refused}
use Rattle.autfilt_laws.proofs.shown.Words.{alias_refused, letter_begins}

-- a closed string is a token
closed : (inner said more : List ℕ) → Quotes inner said → IsNoToken (34 ∷ (inner ++ 34 ∷ more)) → ⊥
closed inner said more q n = not_token (34 ∷ (inner ++ 34 ∷ more)) (Str said) more n (record {
  word = 34 ∷ (inner ++ 34 ∷ []);
  split = ap (λ w. 34 ∷ w) (sym (append_assoc inner (34 ∷ []) more));
  spells = (inner, q, refl);
  ends = tt;
})

quote_begins : (x : List ℕ) → IsNoToken (34 ∷ x) → ⊥
quote_begins x n = no_open_string (34 ∷ x) n (record {
  rest = x;
  opens = refl;
  open_still = λ inner said more e q. closed inner said more q (subst (λ (w : List ℕ). IsNoToken (34 ∷ w)) e n);
})

slash_refused : (k : ℕ) (x : List ℕ) → IsNoToken (47 ∷ x) → IsRefused k (47 ∷ x)
slash_refused k [] n = absurd (n.no_slash refl)
slash_refused k (b ∷ x) n = elim (cases_eq b 42) [
  | inl e ↦ absurd (n.no_comment x (ap (λ c. 47 ∷ c ∷ x) e))
  | inr other ↦ record { left = x; answers = skip_bad k k b (b ∷ x) x refl other refl }
]

not_space : (b : ℕ) (x : List ℕ) → IsNoToken (b ∷ x) → is_space b ≡ false
not_space b x n = elim (cases_Bool (is_space b)) [ inl h ↦ absurd (n.no_space b x refl h) | inr h ↦ h ]

not_sign : (b : ℕ) (x : List ℕ) → IsNoToken (b ∷ x) → (t : Token) → IsSign t b → ⊥
not_sign b x n t h = not_token (b ∷ x) t x n (mark_front t b x h)

-- a byte with which no token begins
first_refused : (k b : ℕ) (x : List ℕ) → is_letter b ≡ false → is_digit b ≡ false → (b ≡ 34 → ⊥) → (b ≡ 64 → ⊥) → (b ≡ 45 → ⊥) → (b ≡ 47 → ⊥) → IsNoToken (b ∷ x) → IsRefused k (b ∷ x)
first_refused k b x l d quote alias dash slash n = refused_here k (b ∷ x) x (
  refl,
  n,
  record { byte = b; past = inl refl },
  record { used = b ∷ []; split = refl; none = no_kind_token b [] (not_space b x n) l d quote alias dash slash (not_sign b x n) },
)

other_refused : (k b : ℕ) (x : List ℕ) → is_letter b ≡ false → is_digit b ≡ false → IsNoToken (b ∷ x) → IsRefused k (b ∷ x)
other_refused k b x l d n = elim (cases_eq b 34) [
  | inl e ↦ absurd (quote_begins x (subst (λ (c : ℕ). IsNoToken (c ∷ x)) e n))
  | inr quote ↦ elim (cases_eq b 64) [
    | inl e ↦ subst (λ (c : ℕ). IsNoToken (c ∷ x) → IsRefused k (c ∷ x)) (sym e) (alias_refused k x) n
    | inr alias ↦ elim (cases_eq b 45) [
      | inl e ↦ subst (λ (c : ℕ). IsNoToken (c ∷ x) → IsRefused k (c ∷ x)) (sym e) (dash_refused k x) n
      | inr dash ↦ elim (cases_eq b 47) [
        | inl e ↦ subst (λ (c : ℕ). IsNoToken (c ∷ x) → IsRefused k (c ∷ x)) (sym e) (slash_refused k x) n
        | inr slash ↦ first_refused k b x l d quote alias dash slash n
      ]
    ]
  ]
]

refused : (k : ℕ) (bytes : List ℕ) → IsNoToken bytes → IsRefused k bytes
refused k [] n = absurd (n.some refl)
refused k (b ∷ x) n = elim (cases_Bool (is_letter b)) [
  | inl l ↦ absurd (letter_begins b x l n)
  | inr l ↦ elim (cases_Bool (is_digit b)) [ inl d ↦ number_refused k b x d n | inr d ↦ other_refused k b x l d n ]
]

-- After blanks come bytes with which no token begins: a lexer refuses them, with these left.
pub record RefusesAt (k used : ℕ) (rest : List ℕ) : Type 0 where
  pub left : List ℕ
  pub answers : AnswersToken (Err (BadToken k)) used 0 rest left

pub refuses_at : (k used : ℕ) (rest : List ℕ) → IsNoTokenAt k used rest → RefusesAt k used rest
refuses_at k used rest a =
    let here = refused k a.bytes a.holds.1 in
    record {
      left = here.left;
      answers = fails_after (BadToken k) used k 0 0 rest a.bytes here.left (record { before = a.before; split = a.split; blanks = a.blanks }) (sym a.holds.0) here.answers;
    }
