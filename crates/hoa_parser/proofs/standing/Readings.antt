-- Two readings of one text: one goes no further than the other.
use Rattle.std.proofs.Common.{◌≡◌, ℕ, ◌+◌, ◌-◌, ◌≤◌, ◌⊎◌, List, [], ◌∷◌, ◌++◌, length, inl, inr, refl, sym, subst, ◌∙◌, ap, arith}
use Rattle.std.proofs.lemmas.List.{length-append}
use Rattle.hoa_lexer.specs.Text.{IsNext, Lexes}
use Rattle.hoa_lexer.specs.declared.token.Token.{Token}
use Rattle.hoa_lexer.proofs.next_token.Unique.{one_next_token, same_pair}

-- how far into its whole the text is read, where this rest follows
abbrev pub place : ℕ → List ℕ → List ℕ → ℕ
place start text rest = start + (length text - length rest)

-- the second list goes on behind the first, with the token that stands next
pub record IsFurther (ps qs : List (Token × ℕ)) (used : ℕ) (rest : List ℕ) : Type 0 where
  pub token : Token × ℕ
  pub more : List (Token × ℕ)
  pub after : List ℕ
  pub goes_on : qs ≡ ps ++ token ∷ more
  pub next : IsNext rest used token.0 token.1 after

pub next_shorter : (input : List ℕ) (start : ℕ) (t : Token) (i : ℕ) (rest : List ℕ) → IsNext input start t i rest → length rest ≤ length input
next_shorter input start t i rest f =
    omega (arith, simp length-append at (ap length f.split), simp length-append at (ap length f.front.split))

pub lexes_shorter : (input : List ℕ) (start : ℕ) (ts : List (Token × ℕ)) (rest : List ℕ) → Lexes input start ts rest → length rest ≤ length input
lexes_shorter input start [] rest f = omega (arith, ap length f)
lexes_shorter input start (t ∷ ts) rest f =
    omega (arith, next_shorter input start t.0 t.1 f.0 f.1, lexes_shorter f.0 (start + (length input - length f.0)) ts rest f.2)

-- one token more
pub lexes_more : (input : List ℕ) (start : ℕ) (ts : List (Token × ℕ)) (rest : List ℕ) (used : ℕ) (t : Token × ℕ) (next : List ℕ) → Lexes input start ts rest → length rest ≤ length input
    → used ≡ start + (length input - length rest) → IsNext rest used t.0 t.1 next → Lexes input start (ts ++ t ∷ []) next
lexes_more input start [] rest used t next l s e n = (
  next,
  subst (λ (m : ℕ). IsNext input m t.0 t.1 next) (let same : length input ≡ length rest = ap length l in omega (arith, same, e)) (subst (λ (w : List ℕ). IsNext w used t.0 t.1 next) (sym l) n),
  refl,
)
lexes_more input start (u ∷ ts) rest used t next l s e n =
    let first = next_shorter input start u.0 u.1 l.0 l.1 in
    let others = lexes_shorter l.0 (start + (length input - length l.0)) ts rest l.2 in
    (l.0, l.1, lexes_more l.0 (start + (length input - length l.0)) ts rest used t next l.2 others (omega (arith, first, others, e)) n)

further_first : (t : Token × ℕ) (ps qs : List (Token × ℕ)) (used used' : ℕ) (rest : List ℕ) → used ≡ used' → IsFurther ps qs used rest → IsFurther (t ∷ ps) (t ∷ qs) used' rest
further_first t ps qs used used' rest e f = record {
  token = f.token;
  more = f.more;
  after = f.after;
  goes_on = ap (λ w. t ∷ w) f.goes_on;
  next = subst (λ (n : ℕ). IsNext rest n f.token.0 f.token.1 f.after) e f.next;
}

further_here : (q : Token × ℕ) (qs : List (Token × ℕ)) (input rest next : List ℕ) (start : ℕ) → input ≡ rest → IsNext input start q.0 q.1 next → IsFurther [] (q ∷ qs) (place start input rest) rest
further_here q qs input rest next start e f = record {
  token = q;
  more = qs;
  after = next;
  goes_on = refl;
  next = subst (λ (n : ℕ). IsNext rest n q.0 q.1 next) (omega (arith, ap length e)) (subst (λ (w : List ℕ). IsNext w start q.0 q.1 next) e f);
}

abbrev Compared : List (Token × ℕ) → List (Token × ℕ) → ℕ → List ℕ → List ℕ → List ℕ → Type 0
Compared ps qs start text rest rest' =
    ((ps ≡ qs) × (rest ≡ rest')) ⊎ (IsFurther ps qs (place start text rest) rest ⊎ IsFurther qs ps (place start text rest') rest')

compared_first : (p q : Token × ℕ) (ps qs : List (Token × ℕ)) (start : ℕ) (input next rest rest' : List ℕ) → p ≡ q → length next ≤ length input → length rest ≤ length next → length rest' ≤ length next
    → Compared ps qs (place start input next) next rest rest' → Compared (p ∷ ps) (q ∷ qs) start input rest rest'
compared_first p q ps qs start input next rest rest' e h k l c = elim c [
  | inl same ↦ (let others = same.0 in inl (cc, same.1))
  | inr (inl f) ↦ inr (inl (subst (λ (w : Token × ℕ). IsFurther (p ∷ ps) (w ∷ qs) (place start input rest) rest) e (further_first p ps qs _ _ rest (omega (arith, h, k)) f)))
  | inr (inr f) ↦ inr (inr (subst (λ (w : Token × ℕ). IsFurther (w ∷ qs) (p ∷ ps) (place start input rest') rest') e (further_first p qs ps _ _ rest' (omega (arith, h, l)) f)))
]

pub compared : (input : List ℕ) (start : ℕ) (ps qs : List (Token × ℕ)) (rest rest' : List ℕ) → Lexes input start ps rest → Lexes input start qs rest' → Compared ps qs start input rest rest'
compared input start [] [] rest rest' f g = inl (refl, sym f ∙ g)
compared input start [] (q ∷ qs) rest rest' f g = inr (inl (further_here q qs input rest g.0 start f g.1))
compared input start (p ∷ ps) [] rest rest' f g = inr (inr (further_here p ps input rest' f.0 start g f.1))
compared input start (p ∷ ps) (q ∷ qs) rest rest' f g =
    let same = one_next_token input start p.0 q.0 p.1 q.1 f.0 g.0 f.1 g.1 in
    let there : Lexes f.0 (place start input f.0) qs rest' = subst (λ (w : List ℕ). Lexes w (place start input w) qs rest') (sym same.2) g.2 in
    compared_first p q ps qs start input f.0 rest rest' (same_pair p q same.0 same.1)
    (next_shorter input start p.0 p.1 f.0 f.1) (lexes_shorter f.0 (place start input f.0) ps rest f.2) (lexes_shorter f.0 (place start input f.0) qs rest' there)
    (compared f.0 (place start input f.0) ps qs rest rest' f.2 there)
