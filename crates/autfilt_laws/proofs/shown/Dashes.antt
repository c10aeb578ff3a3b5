-- A word that begins with a dash is refused at the first byte that fits none of the three.
use Rattle.std.proofs.Common.{◌≡◌, ℕ, List, [], ◌∷◌, ◌++◌, None, inl, inr, refl, sym, subst, ◌∙◌, ap}
use Rattle.std.proofs.lemmas.Bool.{cases_eq}
use Rattle.std.specs.Prelude.{codes}
use Rattle.hoa_lexer.specs.Text.{IsNoToken}
use Rattle.hoa_lexer.specs.declared.token.LexFault.TheVariants.{BadToken, OpenToken}
use Rattle.hoa_lexer.specs.declared.token.Token.{Token}
use Rattle.hoa_lexer.specs.declared.token.Token.TheVariants.{Body, End, Abort}
use Rattle.hoa_lexer.specs.inner.Steps.{Expects, IsDashed}
use Rattle.hoa_lexer.proofs.spelling.Dashes.{dash_bad, dash_end, dashes_bad, dashes_end, tail_answer, tail_err}
use Rattle.hoa_lexer.proofs.next_token.StuckPlaces.{no_open_token}
use Rattle.autfilt_laws.proofs.shown.Fronts.{IsRefused, not_token, refused_here}

-- how far the bytes agree with a word
data Compares (word x : List ℕ) : Type 0 where
  all : (z : List ℕ) → x ≡ word ++ z → Compares word x
  ends : (b : ℕ) → Expects word x b → Compares word x
  differs : (seen : List ℕ) (b c : ℕ) (z : List ℕ) → Expects word seen b → x ≡ seen ++ c ∷ z → (c ≡ b → ⊥) → Compares word x

expects_on : (b : ℕ) (bs seen : List ℕ) (d : ℕ) → Expects bs seen d → Expects (b ∷ bs) (b ∷ seen) d
expects_on b bs seen d w = record { rest = w.rest; split = ap (λ v. b ∷ v) w.split }

compares_on : (b c : ℕ) (bs cs : List ℕ) → c ≡ b → Compares bs cs → Compares (b ∷ bs) (c ∷ cs)
compares_on b c bs cs e (all z h) = all z (ap (λ d. d ∷ cs) e ∙ ap (λ v. b ∷ v) h)
compares_on b c bs cs e (ends d w) = ends d (subst (λ (f : ℕ). Expects (b ∷ bs) (f ∷ cs) d) (sym e) (expects_on b bs cs d w))
compares_on b c bs cs e (differs seen d f z w h n) =
    differs (b ∷ seen) d f z (expects_on b bs seen d w) (ap (λ g. g ∷ cs) e ∙ ap (λ v. b ∷ v) h) n

compares : (word x : List ℕ) → Compares word x
compares [] x = all x refl
compares (b ∷ bs) [] = ends b (record { rest = bs; split = refl })
compares (b ∷ bs) (c ∷ cs) = elim (cases_eq c b) [
  | inl e ↦ compares_on b c bs cs e (compares bs cs)
  | inr n ↦ differs [] b c cs (record { rest = bs; split = refl }) refl n
]

-- after the letter
tail_refused : (k : ℕ) (t : Token) (letter : ℕ) (tail x : List ℕ) → IsDashed t letter tail → IsNoToken (45 ∷ 45 ∷ letter ∷ x) → Compares tail x → IsRefused k (45 ∷ 45 ∷ letter ∷ x)
tail_refused k t letter tail x d n (all z e) =
    absurd (not_token (45 ∷ 45 ∷ letter ∷ x) t z n (tail_answer t letter k None tail x z d refl e))
tail_refused k t letter tail x d n (ends b w) =
    absurd (no_open_token (45 ∷ 45 ∷ letter ∷ x) n (tail_err OpenToken t letter k None tail x [] d refl (b, w, refl)).0)
tail_refused k t letter tail x d n (differs seen b c z w e other) =
    refused_here k (45 ∷ 45 ∷ letter ∷ x) z (tail_err (BadToken k) t letter k None tail x z d refl (refl, seen, b, c, w, e, other))

word_refused : (k : ℕ) (t : Token) (letter : ℕ) (tail x : List ℕ) → IsDashed t letter tail → IsNoToken (45 ∷ 45 ∷ letter ∷ x) → IsRefused k (45 ∷ 45 ∷ letter ∷ x)
word_refused k t letter tail x d n = tail_refused k t letter tail x d n (compares tail x)

-- after the second dash
letter_refused : (k : ℕ) (x : List ℕ) → IsNoToken (45 ∷ 45 ∷ x) → IsRefused k (45 ∷ 45 ∷ x)
letter_refused k [] n = absurd (no_open_token (45 ∷ 45 ∷ []) n (dashes_end [] refl))
letter_refused k (b ∷ x) n = elim (cases_eq b 66) [
  | inl e ↦ word_refused k Body b (codes "ODY--") x (e, refl) n
  | inr body ↦ elim (cases_eq b 69) [
    | inl e ↦ word_refused k End b (codes "ND--") x (e, refl) n
    | inr end ↦ elim (cases_eq b 65) [
      | inl e ↦ word_refused k Abort b (codes "BORT--") x (e, refl) n
      | inr abort ↦ refused_here k (45 ∷ 45 ∷ b ∷ x) x (dashes_bad k k b None (b ∷ x) x refl refl body end abort refl)
    ]
  ]
]

-- after the first
pub dash_refused : (k : ℕ) (x : List ℕ) → IsNoToken (45 ∷ x) → IsRefused k (45 ∷ x)
dash_refused k [] n = absurd (no_open_token (45 ∷ []) n (dash_end [] refl))
dash_refused k (b ∷ x) n = elim (cases_eq b 45) [
  | inl e ↦ subst (λ (c : ℕ). IsNoToken (45 ∷ c ∷ x) → IsRefused k (45 ∷ c ∷ x)) (sym e) (letter_refused k x) n
  | inr other ↦ refused_here k (45 ∷ b ∷ x) x (dash_bad k k b None (b ∷ x) x refl refl other refl)
]
