-- A text has at most one reading: one pattern, or one offset of an error.
use Rattle.std.proofs.Common.{◌≡◌, ◌∙◌, ◌∷◌, ◌++◌, ◌⊎◌, ◌==◌, Bool, List, None, [], ap, arith, drop, false, inl, inr, length, refl, subst, sym, true, ℕ}
use Rattle.std.proofs.lemmas.Bool.{and_parts, cases_Bool, eqb-true, or_cases}
use Rattle.std.proofs.lemmas.List.{append_assoc}
use Rattle.std.proofs.lemmas.Option.{none-some}
use Rattle.std.specs.List.{list_all, prefix_len}
use Rattle.word_syntax.proofs.texts.FrontTokens.{front_cons, front_stands, one_front}
use Rattle.word_syntax.proofs.texts.Prefixes.{dropped, prefix_before}
use Rattle.word_syntax.proofs.grammar.Words.{one_pattern}
use Rattle.word_syntax.specs.Grammar.{IsPrefixOfWord, IsWord, WordPattern}
use Rattle.word_syntax.specs.Tokens.{FollowsBlanks, IsWordFront, LexesWord, is_space}
use Rattle.word_syntax.specs.Writing.{IsBadAt, IsStoppedAt, OneReading, StopsWord, WritesWord, ended, misplaced, no_token}
use Rattle.word_syntax.specs.inner.Fronts.{front_token}
use Rattle.word_syntax.specs.inner.Nexts.{NoBlankFirst}
use Rattle.word_syntax.specs.declared.token.Token.{Token}

-- what follows the blanks
abbrev pub unblanked : List ℕ → List ℕ
unblanked input = drop (prefix_len is_space input) input

after_is : (input bytes : List ℕ) → FollowsBlanks input bytes → NoBlankFirst bytes → bytes ≡ unblanked input
after_is input bytes a first =
    sym (ap unblanked a.split ∙ (ap (λ (n : ℕ). drop n (a.before ++ bytes)) (prefix_before is_space a.before bytes a.blank first) ∙ dropped a.before bytes))

-- a blank is no token
blank_alone : (b : ℕ) (bs : List ℕ) → is_space b ≡ true → front_token (b ∷ bs) ≡ None
blank_alone b bs e = let P : ℕ → Type 0 = λ x. front_token (x ∷ bs) ≡ None in
    elim (or_cases (b == 32) _ e) [
      | inl h ↦ subst P (sym (eqb-true b 32 h)) (front_cons 32 bs)
      | inr f ↦ (elim (or_cases (b == 9) _ f) [
        | inl h ↦ subst P (sym (eqb-true b 9 h)) (front_cons 9 bs)
        | inr g ↦ (elim (or_cases (b == 10) _ g) [
          | inl h ↦ subst P (sym (eqb-true b 10 h)) (front_cons 10 bs)
          | inr h ↦ subst P (sym (eqb-true b 13 h)) (front_cons 13 bs)
        ])
      ])
    ]

pub front_not_blank : (bytes : List ℕ) (t : Token) (rest : List ℕ) → IsWordFront bytes t rest → (b : ℕ) × (bs : List ℕ) × (bytes ≡ b ∷ bs) × (is_space b ≡ false)
front_not_blank [] t rest f = let x = front_stands [] t rest f in absurd (none-some (t, x.size) x.found)
front_not_blank (b ∷ bs) t rest f = elim (cases_Bool (is_space b)) [
  | inl e ↦ (let x = front_stands (b ∷ bs) t rest f in absurd (none-some (t, x.size) (sym (blank_alone b bs e) ∙ x.found)))
  | inr e ↦ (b, bs, refl, e)
]

front_first : (bytes : List ℕ) (t : Token) (rest : List ℕ) → IsWordFront bytes t rest → NoBlankFirst bytes
front_first bytes t rest f = let x = front_not_blank bytes t rest f in subst NoBlankFirst (sym x.2) x.3

-- blanks alone begin with no token
all_blank : (input bytes : List ℕ) → list_all is_space input ≡ true → FollowsBlanks input bytes → list_all is_space bytes ≡ true
all_blank input bytes all a = behind a.before bytes (ap (list_all is_space) (sym a.split) ∙ all)
  where
    behind : (xs ys : List ℕ) → list_all is_space (xs ++ ys) ≡ true → list_all is_space ys ≡ true
    behind [] ys e = e
    behind (x ∷ xs) ys e = behind xs ys (and_parts _ _ e).1

no_first : (b : ℕ) (bs : List ℕ) → list_all is_space (b ∷ bs) ≡ true → is_space b ≡ false → ⊥
no_first b bs all e = let first = (and_parts _ _ all).0 in both (is_space b) first e
  where
    both : (c : Bool) → c ≡ true → c ≡ false → ⊥
    both true e f = cc
    both false e f = cc

no_more : (input : List ℕ) (t : Token) (ts : List Token) (rest : List ℕ) → list_all is_space input ≡ true → LexesWord input (t ∷ ts) rest → ⊥
no_more input t ts rest all l =
    let x = front_not_blank l.0 t l.1 l.3 in
    no_first x.0 x.1 (subst (λ (y : List ℕ). list_all is_space y ≡ true) x.2 (all_blank input l.0 all l.2)) x.3

-- the next token and what follows it
next_once : (input : List ℕ) (t u : Token) (ts us : List Token) (r q : List ℕ) (l : LexesWord input (t ∷ ts) r) (k : LexesWord input (u ∷ us) q) → (t ≡ u) × (l.1 ≡ k.1)
next_once input t u ts us r q l k =
    let same : l.0 ≡ k.0 = after_is input l.0 l.2 (front_first l.0 t l.1 l.3) ∙ sym (after_is input k.0 k.2 (front_first k.0 u k.1 k.3)) in
    one_front k.0 t u l.1 k.1 (subst (λ (x : List ℕ). IsWordFront x t l.1) same l.3) k.3

-- the tokens us are the tokens ts and further ones of the text
pub record GoesFurther (ts : List Token) (r : List ℕ) (us : List Token) (q : List ℕ) : Type 0 where
  pub first : Token
  pub more : List Token
  pub tokens : us ≡ ts ++ (first ∷ more)
  pub lexes : LexesWord r (first ∷ more) q

abbrev Compares : List Token → List ℕ → List Token → List ℕ → Type 0
Compares ts r us q = ((ts ≡ us) × (r ≡ q)) ⊎ (GoesFurther ts r us q ⊎ GoesFurther us q ts r)

further_cons : (t u : Token) (ts us : List Token) (r q : List ℕ) → t ≡ u → GoesFurther ts r us q → GoesFurther (t ∷ ts) r (u ∷ us) q
further_cons t u ts us r q e g = record { first = g.first; more = g.more; tokens = ap (λ (x : Token). x ∷ us) (sym e) ∙ ap (λ (x : List Token). t ∷ x) g.tokens; lexes = g.lexes }

compare : (input : List ℕ) (ts us : List Token) (r q : List ℕ) → LexesWord input ts r → LexesWord input us q → Compares ts r us q
compare input [] [] r q l k = inl (refl, sym l ∙ k)
compare input [] (u ∷ us) r q l k = inr (inl (record { first = u; more = us; tokens = refl; lexes = subst (λ (x : List ℕ). LexesWord x (u ∷ us) q) l k }))
compare input (t ∷ ts) [] r q l k = inr (inr (record { first = t; more = ts; tokens = refl; lexes = subst (λ (x : List ℕ). LexesWord x (t ∷ ts) r) k l }))
compare input (t ∷ ts) (u ∷ us) r q l k =
    let same = next_once input t u ts us r q l k in
    elim (compare k.1 ts us r q (subst (λ (x : List ℕ). LexesWord x ts r) same.1 l.4) k.4) [
      | inl e ↦ inl (ap (λ (x : Token). x ∷ ts) same.0 ∙ ap (λ (x : List Token). u ∷ x) e.0, e.1)
      | inr (inl g) ↦ inr (inl (further_cons t u ts us r q same.0 g))
      | inr (inr g) ↦ inr (inr (further_cons u t us ts q r (sym same.0) g))
    ]

-- the bytes at an error don't begin with a blank
stops_first : (tokens : List Token) (bytes : List ℕ) → StopsWord tokens bytes → NoBlankFirst bytes
stops_first tokens bytes (misplaced {rest = rest} t f h) = front_first bytes t rest f
stops_first tokens bytes (no_token e h) = e
stops_first tokens bytes (ended h) = tt

front_not_here : (bytes : List ℕ) (t : Token) (rest : List ℕ) → IsWordFront [] t rest → ⊥
front_not_here bytes t rest f = let x = front_not_blank [] t rest f in nil_cons x.0 x.1 x.2
  where
    nil_cons : (b : ℕ) (bs : List ℕ) → [] ≡ b ∷ bs → ⊥
    nil_cons b bs e = cc

-- at an error no token follows with which a word goes on
stopped : (tokens : List Token) (bytes : List ℕ) (t : Token) (rest : List ℕ) → StopsWord tokens bytes → IsWordFront bytes t rest → IsPrefixOfWord (tokens ++ t ∷ []) → ⊥
stopped tokens bytes t rest (misplaced {rest = q} u g h) f b = h (subst (λ (x : Token). IsPrefixOfWord (tokens ++ x ∷ [])) (one_front bytes t u rest q f g).0 b)
stopped tokens bytes t rest (no_token e h) f b = h t rest f
stopped tokens bytes t rest (ended h) f b = front_not_here [] t rest f

begins_front : (v w : List Token) → IsPrefixOfWord (v ++ w) → IsPrefixOfWord v
begins_front v w b = record { more = w ++ b.more; pattern = b.pattern; word = subst (λ (x : List Token). IsWord x b.pattern) (append_assoc v w b.more) b.word }

begins_whole : (v w : List Token) (p : WordPattern) → IsWord (v ++ w) p → IsPrefixOfWord v
begins_whole v w p x = record { more = w; pattern = p; word = x }

no_further : (tokens : List Token) (rest bytes : List ℕ) (us : List Token) (q : List ℕ) → FollowsBlanks rest bytes → StopsWord tokens bytes → (g : GoesFurther tokens rest us q)
    → (IsPrefixOfWord us ⊎ ((p : WordPattern) × IsWord us p)) → ⊥
no_further tokens rest bytes us q a s g b =
    let l = g.lexes in
    let same : l.0 ≡ bytes = after_is rest l.0 l.2 (front_first l.0 g.first l.1 l.3) ∙ sym (after_is rest bytes a (stops_first tokens bytes s)) in
    let split : tokens ++ (g.first ∷ g.more) ≡ (tokens ++ g.first ∷ []) ++ g.more = sym (append_assoc tokens (g.first ∷ []) g.more) in
    stopped tokens bytes g.first l.1 s (subst (λ (x : List ℕ). IsWordFront x g.first l.1) same l.3)
    (elim b [
      | inl h ↦ begins_front (tokens ++ g.first ∷ []) g.more (subst IsPrefixOfWord (g.tokens ∙ split) h)
      | inr h ↦ begins_whole (tokens ++ g.first ∷ []) g.more h.0 (subst (λ (x : List Token). IsWord x h.0) (g.tokens ∙ split) h.1)
    ])

not_both : (text : List ℕ) (p : WordPattern) (k : ℕ) → WritesWord text p → IsStoppedAt text k → ⊥
not_both text p k w s = elim (compare text w.tokens s.tokens w.rest s.rest w.lexes s.lexes) [
  | inl e ↦ at_end s.tokens s.bytes s.stops (all_blank s.rest s.bytes (subst (λ (x : List ℕ). list_all is_space x ≡ true) e.1 w.blank) s.after_blanks)
      (subst (λ (x : List Token). IsWord x p) e.0 w.word)
  | inr (inl g) ↦ no_more w.rest g.first g.more s.rest w.blank g.lexes
  | inr (inr g) ↦ no_further s.tokens s.rest s.bytes w.tokens w.rest s.after_blanks s.stops g (inr (p, w.word))
]
  where
    at_end : (tokens : List Token) (bytes : List ℕ) → StopsWord tokens bytes → list_all is_space bytes ≡ true → IsWord tokens p → ⊥
    at_end tokens bytes (misplaced {rest = rest} t f h) all x = let y = front_not_blank bytes t rest f in no_first y.0 y.1 (subst (λ (z : List ℕ). list_all is_space z ≡ true) y.2 all) y.3
    at_end tokens bytes (no_token {b = b} {bs = bs} e h) all x = no_first b bs all e
    at_end tokens bytes (ended h) all x = h p x

one_offset : (text : List ℕ) (j k : ℕ) → IsStoppedAt text j → IsStoppedAt text k → j ≡ k
one_offset text j k s t = elim (compare text s.tokens t.tokens s.rest t.rest s.lexes t.lexes) [
  | inl e ↦ (let same : s.bytes ≡ t.bytes = after_is s.rest s.bytes s.after_blanks (stops_first s.tokens s.bytes s.stops)
      ∙ (ap unblanked e.1 ∙ sym (after_is t.rest t.bytes t.after_blanks (stops_first t.tokens t.bytes t.stops))) in
      let lengths : length s.bytes ≡ length t.bytes = ap (λ (x : List ℕ). length x) same in
      omega (arith, s.offset, t.offset, lengths))
  | inr (inl g) ↦ absurd (no_further s.tokens s.rest s.bytes t.tokens t.rest s.after_blanks s.stops g (inl t.begins))
  | inr (inr g) ↦ absurd (no_further t.tokens t.rest t.bytes s.tokens s.rest t.after_blanks t.stops g (inl s.begins))
]

one_written : (text : List ℕ) (p q : WordPattern) → WritesWord text p → WritesWord text q → p ≡ q
one_written text p q w x = elim (compare text w.tokens x.tokens w.rest x.rest w.lexes x.lexes) [
  | inl e ↦ one_pattern x.tokens p q (subst (λ (y : List Token). IsWord y p) e.0 w.word) x.word
  | inr (inl g) ↦ absurd (no_more w.rest g.first g.more x.rest w.blank g.lexes)
  | inr (inr g) ↦ absurd (no_more x.rest g.first g.more w.rest x.blank g.lexes)
]

pub bad_writes_nothing : (text : List ℕ) (k : ℕ) (p : WordPattern) → IsBadAt text k → WritesWord text p → ⊥
bad_writes_nothing text k p (inl h) w = absurd (omega (arith, h.0, w.short))
bad_writes_nothing text k p (inr h) w = not_both text p k w h.1

one_bad_offset : (text : List ℕ) (j k : ℕ) → IsBadAt text j → IsBadAt text k → j ≡ k
one_bad_offset text j k (inl g) (inl h) = g.1 ∙ sym h.1
one_bad_offset text j k (inl g) (inr h) = absurd (omega (arith, g.0, h.0))
one_bad_offset text j k (inr g) (inl h) = absurd (omega (arith, g.0, h.0))
one_bad_offset text j k (inr g) (inr h) = one_offset text j k g.1 h.1

pub one_reading : (text : List ℕ) → OneReading text
one_reading text = record { pattern = one_written text; offset = one_bad_offset text; either = λ p k w b. bad_writes_nothing text k p b w }
