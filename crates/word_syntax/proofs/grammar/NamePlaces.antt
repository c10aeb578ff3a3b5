-- Lists of names by first occurrence, and the indices of names in them.
use Rattle.aut_base.specs.Lists.{distinct}
use Rattle.aut_base.proofs.lists.Lists.{slice_get-append_left}
use Rattle.aut_base.proofs.words.Texts as texts
use Rattle.aut_base.proofs.words.Texts.{differ_texts}
use Rattle.aut_base.specs.Text.{same_text}
use Rattle.std.proofs.Common.{◌≡◌, ◌≢◌, ◌∙◌, ◌∷◌, ◌++◌, ◌<◌, ◌⊎◌, Contains, List, Some, [], ap, arith, cond, filter, get_or, inl, inr, length, not, refl, slice_get, subst, suc, sym, true, zero, ℕ}
use Rattle.std.proofs.lemmas.Bool.{cases_Bool, cond-false, cond-true, not_from_false, not_from_true}
use Rattle.std.proofs.lemmas.List.{append_assoc, append-nil}
use Rattle.std.proofs.lemmas.List.Elements.{All-contains, filter-append}
use Rattle.std.proofs.lemmas.Option.{none-some, same_Some, slice_get_within}
use Rattle.word_syntax.specs.Grammar.{token_names}
use Rattle.word_syntax.specs.inner.Chains.{Agrees, GrowsBy, NamesGo}
use Rattle.word_syntax.proofs.grammar.LetterParts.{Knows}
use Rattle.word_syntax.specs.declared.token.Token.{Token}
use Rattle.word_syntax.specs.declared.token.Token.TheVariants as token
use Rattle.std.proofs.lemmas.Cmp.{nat_list_eq_equiv}

-- the names in the order of their first occurrence
abbrev pub each_once : List (List ℕ) → List (List ℕ)
each_once = distinct same_text

same_itself : (n : List ℕ) → same_text n n ≡ true
same_itself n = nat_list_eq_equiv.refl n

cases_same : (m n : List ℕ) → (m ≡ n) ⊎ (m ≢ n)
cases_same m n = elim (cases_Bool (same_text m n)) [ inl e ↦ inl (texts.same_text m n e) | inr e ↦ inr (texts.other_text m n e) ]

-- the name is in the list
abbrev pub Has : List ℕ → List (List ℕ) → Type 0
Has n [] = ⊥
Has n (m ∷ ms) = (m ≡ n) ⊎ Has n ms

-- all but this name
abbrev pub others : List ℕ → List (List ℕ) → List (List ℕ)
others m ns = filter (λ n. not (same_text m n)) ns

kept : (m n : List ℕ) (ns : List (List ℕ)) → m ≢ n → others m (n ∷ ns) ≡ n ∷ others m ns
kept m n ns h = cond-true _ _ _ (not_from_false (same_text m n) (differ_texts m n h))

dropped : (m n : List ℕ) (ns : List (List ℕ)) → m ≡ n → others m (n ∷ ns) ≡ others m ns
dropped m n ns h = cond-false _ _ _ (not_from_true (same_text m n) (ap (same_text m) (sym h) ∙ same_itself m))

has_others : (m n : List ℕ) (ns : List (List ℕ)) → m ≢ n → Has n ns → Has n (others m ns)
has_others m n [] h has = has
has_others m n (k ∷ ks) h (inl e) = subst (λ (x : List (List ℕ)). Has n x) (sym (kept m k ks (λ f. h (f ∙ e)))) (inl e)
has_others m n (k ∷ ks) h (inr later) = elim (cases_same m k) [
  | inl e ↦ subst (λ (x : List (List ℕ)). Has n x) (sym (dropped m k ks e)) (has_others m n ks h later)
  | inr f ↦ subst (λ (x : List (List ℕ)). Has n x) (sym (kept m k ks f)) (inr (has_others m n ks h later))
]

others_has : (m n : List ℕ) (ns : List (List ℕ)) → Has n (others m ns) → (m ≢ n) × Has n ns
others_has m n [] has = absurd has
others_has m n (k ∷ ks) has = elim (cases_same m k) [
  | inl e ↦ (let rest = others_has m n ks (subst (λ (x : List (List ℕ)). Has n x) (dropped m k ks e) has) in (rest.0, inr rest.1))
  | inr f ↦ (let there : Has n (k ∷ others m ks) = subst (λ (x : List (List ℕ)). Has n x) (kept m k ks f) has in elim there [
    | inl e ↦ (λ g. f (g ∙ sym e), inl e)
    | inr later ↦ (let rest = others_has m n ks later in (rest.0, inr rest.1))
  ])
]

pub has_distinct : (n : List ℕ) (ns : List (List ℕ)) → Has n ns → Has n (each_once ns)
has_distinct n [] has = has
has_distinct n (m ∷ ms) (inl e) = inl e
has_distinct n (m ∷ ms) (inr later) = elim (cases_same m n) [ inl e ↦ inl e | inr f ↦ inr (has_others m n (each_once ms) f (has_distinct n ms later)) ]

-- no name occurs twice
abbrev pub Differ : List (List ℕ) → Type 0
Differ [] = Unit {0}
Differ (n ∷ ns) = (Has n ns → ⊥) × Differ ns

differ_others : (m : List ℕ) (ns : List (List ℕ)) → Differ ns → Differ (others m ns)
differ_others m [] d = d
differ_others m (k ∷ ks) d = elim (cases_same m k) [
  | inl e ↦ subst (λ (x : List (List ℕ)). Differ x) (sym (dropped m k ks e)) (differ_others m ks d.1)
  | inr f ↦ subst (λ (x : List (List ℕ)). Differ x) (sym (kept m k ks f)) (λ has. d.0 (others_has m k ks has).1, differ_others m ks d.1)
]

pub distinct_differ : (ns : List (List ℕ)) → Differ (each_once ns)
distinct_differ [] = tt
distinct_differ (n ∷ ns) = (λ has. (others_has n n (each_once ns) has).0 refl, differ_others n (each_once ns) (distinct_differ ns))

-- the index of a name
abbrev pub place_in : List (List ℕ) → List ℕ → ℕ
place_in [] n = 0
place_in (m ∷ ms) n = cond (same_text m n) 0 (suc (place_in ms n))

pub has_at : (ns : List (List ℕ)) (i : ℕ) (n : List ℕ) → slice_get ns i ≡ Some n → Has n ns
has_at [] i n e = absurd (none-some n e)
has_at (m ∷ ms) zero n e = inl (same_Some m n e)
has_at (m ∷ ms) (suc i) n e = inr (has_at ms i n e)

pub places_agree : (ns : List (List ℕ)) → Differ ns → Agrees (place_in ns) ns
places_agree [] d i n e = absurd (none-some n e)
places_agree (m ∷ ms) d zero n e = cond-true _ _ _ (ap (same_text m) (sym (same_Some m n e)) ∙ same_itself m)
places_agree (m ∷ ms) d (suc i) n e =
    cond-false _ _ _ (differ_texts m n (λ f. d.0 (subst (λ (x : List ℕ). Has x ms) (sym f) (has_at ms i n e)))) ∙ ap suc (places_agree ms d.1 i n e)

pub place_stands : (ns : List (List ℕ)) (n : List ℕ) → Has n ns → slice_get ns (place_in ns n) ≡ Some n
place_stands [] n has = absurd has
place_stands (m ∷ ms) n has = elim (cases_same m n) [
  | inl e ↦ ap (slice_get (m ∷ ms)) (cond-true _ _ _ (ap (same_text m) (sym e) ∙ same_itself m)) ∙ ap Some e
  | inr f ↦ (let later : Has n ms = elim has [ inl e ↦ absurd (f e) | inr h ↦ h ] in ap (slice_get (m ∷ ms)) (cond-false _ _ _ (differ_texts m n f)) ∙ place_stands ms n later)
]

decided : (n : List ℕ) (ns : List (List ℕ)) → Has n ns ⊎ (Has n ns → ⊥)
decided n [] = inr (λ h. h)
decided n (m ∷ ms) = elim (cases_same m n) [
  | inl e ↦ inl (inl e)
  | inr f ↦ (elim (decided n ms) [ inl h ↦ inl (inr h) | inr g ↦ inr (λ has. elim has [ inl e ↦ f e | inr h ↦ g h ]) ])
]

pub mutual_push : (n : List ℕ) (ns : List (List ℕ))
    → (Has n (each_once ns) → each_once (ns ++ n ∷ []) ≡ each_once ns) × ((Has n (each_once ns) → ⊥) → each_once (ns ++ n ∷ []) ≡ each_once ns ++ n ∷ [])
mutual_push n [] = (λ has. absurd has, λ none. refl)
mutual_push n (m ∷ ms) =
    let before = mutual_push n ms in
    elim (cases_same m n) [
      | inl e ↦ (
        λ has. ap (λ (x : List (List ℕ)). m ∷ x) (elim (decided n (each_once ms)) [
          | inl h ↦ ap (others m) (before.0 h)
          | inr g ↦ ap (others m) (before.1 g) ∙ (filter-append (λ k. not (same_text m k)) (each_once ms) (n ∷ [])
              ∙ (ap (λ (x : List (List ℕ)). others m (each_once ms) ++ x) (dropped m n [] e) ∙ append-nil (others m (each_once ms))))
        ]),
        λ none. absurd (none (inl e)),
      )
      | inr f ↦ (
        λ has. (let later : Has n (each_once ms) = elim has [ inl e ↦ absurd (f e) | inr h ↦ (others_has m n (each_once ms) h).1 ] in ap (λ (x : List (List ℕ)). m ∷ others m x) (before.0 later)),
        λ none. (let g : Has n (each_once ms) → ⊥ = λ h. none (inr (has_others m n (each_once ms) f h)) in
            ap (λ (x : List (List ℕ)). m ∷ x) (ap (others m) (before.1 g)
            ∙ (filter-append (λ k. not (same_text m k)) (each_once ms) (n ∷ []) ∙ ap (λ (x : List (List ℕ)). others m (each_once ms) ++ x) (kept m n [] f)))),
      )
    ]

pub contains_has : (ns : List (List ℕ)) (n : List ℕ) → (i : ℕ) → i < length ns → get_or ns i n ≡ n → Has n ns
contains_has [] n i within e = absurd (omega arith)
contains_has (m ∷ ms) n zero within e = inl e
contains_has (m ∷ ms) n (suc i) within e = inr (contains_has ms n i (omega arith) e)

pub has_contains : (ns : List (List ℕ)) (n : List ℕ) → Has n ns → Contains ns n
has_contains [] n has = absurd has
has_contains (m ∷ ms) n (inl e) = (0, omega arith, e)
has_contains (m ∷ ms) n (inr later) = let there = has_contains ms n later in (suc there.0, omega (arith, there.1), there.2)

-- a list of names that grows by a name, and the names of tokens
pub distinct_grows : (ns old new : List (List ℕ)) (n : List ℕ) → old ≡ each_once ns → GrowsBy n old new → new ≡ each_once (ns ++ n ∷ [])
distinct_grows ns old new n is (inl (there, same)) =
    let has : Has n (each_once ns) = subst (λ (x : List (List ℕ)). Has n x) is (contains_has old n there.0 there.1 there.2) in
    same ∙ (is ∙ sym ((mutual_push n ns).0 has))
distinct_grows ns old new n is (inr (none, same)) =
    let lacks : Has n (each_once ns) → ⊥ = λ h. All-contains (λ other. other ≢ n) old n none (has_contains old n (subst (λ (x : List (List ℕ)). Has n x) (sym is) h)) refl in
    same ∙ (ap (λ (x : List (List ℕ)). x ++ n ∷ []) is ∙ sym ((mutual_push n ns).1 lacks))

pub names_of-append : (v w : List Token) → token_names (v ++ w) ≡ token_names v ++ token_names w
names_of-append [] w = refl
names_of-append (token.Name n ∷ v) w = ap (λ (x : List (List ℕ)). n ∷ x) (names_of-append v w)
names_of-append (token.True ∷ v) w = names_of-append v w
names_of-append (token.False ∷ v) w = names_of-append v w
names_of-append (token.Not ∷ v) w = names_of-append v w
names_of-append (token.And ∷ v) w = names_of-append v w
names_of-append (token.Or ∷ v) w = names_of-append v w
names_of-append (token.LeftParen ∷ v) w = names_of-append v w
names_of-append (token.RightParen ∷ v) w = names_of-append v w
names_of-append (token.Semicolon ∷ v) w = names_of-append v w
names_of-append (token.Cycle ∷ v) w = names_of-append v w
names_of-append (token.LeftBrace ∷ v) w = names_of-append v w
names_of-append (token.RightBrace ∷ v) w = names_of-append v w

plain_go : (tokens : List Token) (old new : List (List ℕ)) (t : Token) → token_names (t ∷ []) ≡ [] → old ≡ each_once (token_names tokens) → new ≡ old → new ≡ each_once (token_names (tokens ++ t ∷ []))
plain_go tokens old new t none is same = same
    ∙ (is ∙ ap each_once (sym (names_of-append tokens (t ∷ []) ∙ (ap (λ (x : List (List ℕ)). token_names tokens ++ x) none ∙ append-nil (token_names tokens)))))

-- the names after a token
pub names_go : (tokens : List Token) (old new : List (List ℕ)) (t : Token) → old ≡ each_once (token_names tokens) → NamesGo t old new → new ≡ each_once (token_names (tokens ++ t ∷ []))
names_go tokens old new (token.Name n) is go = distinct_grows (token_names tokens) old new n is go ∙ ap each_once (sym (names_of-append tokens (token.Name n ∷ [])))
names_go tokens old new token.True is go = plain_go tokens old new token.True refl is go
names_go tokens old new token.False is go = plain_go tokens old new token.False refl is go
names_go tokens old new token.Not is go = plain_go tokens old new token.Not refl is go
names_go tokens old new token.And is go = plain_go tokens old new token.And refl is go
names_go tokens old new token.Or is go = plain_go tokens old new token.Or refl is go
names_go tokens old new token.LeftParen is go = plain_go tokens old new token.LeftParen refl is go
names_go tokens old new token.RightParen is go = plain_go tokens old new token.RightParen refl is go
names_go tokens old new token.Semicolon is go = plain_go tokens old new token.Semicolon refl is go
names_go tokens old new token.Cycle is go = plain_go tokens old new token.Cycle refl is go
names_go tokens old new token.LeftBrace is go = plain_go tokens old new token.LeftBrace refl is go
names_go tokens old new token.RightBrace is go = plain_go tokens old new token.RightBrace refl is go

-- when more names follow, those so far keep their indices
pub distinct_front : (ns more : List (List ℕ)) → (others : List (List ℕ)) × (each_once (ns ++ more) ≡ each_once ns ++ others)
distinct_front ns [] = ([], ap each_once (append-nil ns) ∙ sym (append-nil (each_once ns)))
distinct_front ns (n ∷ more) =
    let rest = distinct_front (ns ++ n ∷ []) more in
    let same : each_once (ns ++ (n ∷ more)) ≡ each_once (ns ++ n ∷ []) ++ rest.0 = ap each_once (sym (append_assoc ns (n ∷ []) more)) ∙ rest.1 in
    elim (decided n (each_once ns)) [
      | inl h ↦ (rest.0, same ∙ ap (λ (x : List (List ℕ)). x ++ rest.0) ((mutual_push n ns).0 h))
      | inr g ↦ (n ∷ rest.0, same ∙ (ap (λ (x : List (List ℕ)). x ++ rest.0) ((mutual_push n ns).1 g) ∙ append_assoc (each_once ns) (n ∷ []) rest.0))
    ]

pub agrees_front : (place : List ℕ → ℕ) (ns more : List (List ℕ)) → Agrees place (ns ++ more) → Agrees place ns
agrees_front place ns more agrees i n e = agrees i n (slice_get-append_left ns more i (slice_get_within ns i n e) ∙ e)

-- the names of tokens have indices among the distinct ones
pub knows_all : (v w : List Token) (t : Token) (all : List Token) → all ≡ v ++ (t ∷ w) → Knows (place_in (each_once (token_names all))) (each_once (token_names all)) t
knows_all v w (token.Name n) all e =
    let there : Has n (token_names all) = subst (λ (x : List Token). Has n (token_names x)) (sym e)
    (subst (λ (x : List (List ℕ)). Has n x) (sym (names_of-append v (token.Name n ∷ w))) (behind (token_names v) (token_names w) n)) in
    place_stands (each_once (token_names all)) n (has_distinct n (token_names all) there)
  where
    behind : (xs ys : List (List ℕ)) (n : List ℕ) → Has n (xs ++ (n ∷ ys))
    behind [] ys n = inl refl
    behind (x ∷ xs) ys n = inr (behind xs ys n)
knows_all v w token.True all e = tt
knows_all v w token.False all e = tt
knows_all v w token.Not all e = tt
knows_all v w token.And all e = tt
knows_all v w token.Or all e = tt
knows_all v w token.LeftParen all e = tt
knows_all v w token.RightParen all e = tt
knows_all v w token.Semicolon all e = tt
knows_all v w token.Cycle all e = tt
knows_all v w token.LeftBrace all e = tt
knows_all v w token.RightBrace all e = tt
