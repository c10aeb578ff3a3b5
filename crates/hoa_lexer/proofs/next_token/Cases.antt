-- Exactly one of the cases of `Next` is so of a text.
use Rattle.std.proofs.Common.{◌≡◌, ◌≢◌, ℕ, zero, suc, ◌+◌, ◌≤◌, ◌⊎◌, false, true, List, [], ◌∷◌, ◌++◌, Option, Some, None, length, inl, inr, refl, sym, subst, ◌∙◌, ap, arith}
use Rattle.std.proofs.lemmas.Bool.{cases_Bool, cases_eq, false≢true}
use Rattle.std.proofs.lemmas.List.{append_assoc, append-nil, length-append}
use Rattle.aut_base.proofs.lists.Lists.{cons-head}
use Rattle.hoa_lexer.specs.Blanks.{IsBlanks, IsOpenComment}
use Rattle.hoa_lexer.specs.Blanks.IsBlanks.{nothing, space, comment}
use Rattle.hoa_lexer.specs.Bytes.{is_space}
use Rattle.hoa_lexer.specs.Laws.{Next, NoMore, OneToken, NoToken, InComment, InString, InToken, OneNext, SomeNext, StandsNext}
use Rattle.hoa_lexer.specs.Spelling.{Quotes}
use Rattle.hoa_lexer.specs.Text.{AfterBlanks, BeginsToken, HasFront, IsNext, IsNoToken, IsOpenString, IsOpenToken}
use Rattle.hoa_lexer.specs.declared.token.Token.{Token}
use Rattle.hoa_lexer.specs.declared.token.Token.TheVariants.{Str}
use Rattle.hoa_lexer.specs.inner.Steps.{closing}
use Rattle.hoa_lexer.proofs.next_token.Exclusive.{IsStuck, begins_slash, blanks_no_token, no_token_stuck, open_comment_stuck, open_string_stuck, open_token_stuck, stuck_no_blanks, stuck_no_token}
use Rattle.hoa_lexer.proofs.next_token.Fronts.{at_once, blanks_append, front_of}
use Rattle.hoa_lexer.proofs.next_token.StuckPlaces.{after_as, no_open_comment, no_open_string, no_open_token, stuck_place}
use Rattle.hoa_lexer.proofs.next_token.Unique.{one_next_token}
use Rattle.hoa_lexer.proofs.spelling.Comments.{closing_after, closing_sound}

-- at most one

abbrev Bad : ℕ → ℕ → List ℕ → Type 0
Bad k start text = AfterBlanks text (λ bytes. (k + length bytes ≡ start + length text) × IsNoToken bytes)

abbrev bad_stuck : (k start : ℕ) (text : List ℕ) → Bad k start text → AfterBlanks text IsStuck
bad_stuck k start text a = after_as text (λ bytes h. no_token_stuck bytes h.1) a

same_bad : (k j start : ℕ) (text : List ℕ) → Bad k start text → Bad j start text → k ≡ j
same_bad k j start text a b =
    let same = ap length (stuck_place text (bad_stuck k start text a) (bad_stuck j start text b)) in
    omega (arith, a.holds.0, b.holds.0, same)

bad_no_comment : (k start : ℕ) (text : List ℕ) → Bad k start text → AfterBlanks text IsOpenComment → ⊥
bad_no_comment k start text a b = no_open_comment b.bytes (subst IsNoToken (stuck_place text (bad_stuck k start text a) (after_as text open_comment_stuck b)) a.holds.1) b.holds

bad_no_string : (k start : ℕ) (text : List ℕ) → Bad k start text → AfterBlanks text IsOpenString → ⊥
bad_no_string k start text a b = no_open_string b.bytes (subst IsNoToken (stuck_place text (bad_stuck k start text a) (after_as text open_string_stuck b)) a.holds.1) b.holds

bad_not_open : (k start : ℕ) (text : List ℕ) → Bad k start text → AfterBlanks text IsOpenToken → ⊥
bad_not_open k start text a b = no_open_token b.bytes (subst IsNoToken (stuck_place text (bad_stuck k start text a) (after_as text open_token_stuck b)) a.holds.1) b.holds

comment_no_string : (text : List ℕ) → AfterBlanks text IsOpenComment → AfterBlanks text IsOpenString → ⊥
comment_no_string text a b =
    let same = stuck_place text (after_as text open_comment_stuck a) (after_as text open_string_stuck b) in
    let both : 47 ∷ 42 ∷ a.holds.rest ≡ 34 ∷ b.holds.rest = sym a.holds.opens ∙ same ∙ b.holds.opens in
    cc

comment_not_open_at : (bytes other : List ℕ) → other ≡ bytes → IsOpenComment bytes → IsOpenToken other → ⊥
comment_not_open_at bytes other e o t = elim t.begins [
  | inl slash ↦ (let both : 47 ∷ [] ≡ 47 ∷ 42 ∷ o.rest = sym slash ∙ e ∙ o.opens in cc)
  | inr begins ↦ begins_slash other (42 ∷ o.rest) (e ∙ o.opens) begins
]

comment_not_open : (text : List ℕ) → AfterBlanks text IsOpenComment → AfterBlanks text IsOpenToken → ⊥
comment_not_open text a b = comment_not_open_at a.bytes b.bytes (sym (stuck_place text (after_as text open_comment_stuck a) (after_as text open_token_stuck b))) a.holds b.holds

string_not_open : (text : List ℕ) → AfterBlanks text IsOpenString → AfterBlanks text IsOpenToken → ⊥
string_not_open text a b = b.holds.no_string a.holds.rest (sym (stuck_place text (after_as text open_string_stuck a) (after_as text open_token_stuck b)) ∙ a.holds.opens)

blank_not : (text : List ℕ) → IsBlanks text → AfterBlanks text IsStuck → ⊥
blank_not text b a = stuck_no_blanks text a b

token_not : (start : ℕ) (text : List ℕ) (t : Token) (k : ℕ) (rest : List ℕ) → IsNext text start t k rest → AfterBlanks text IsStuck → ⊥
token_not start text t k rest n a = stuck_no_token text a (front_of text start t k rest n)

same_token : (t u : Token) (k j : ℕ) (rest rest' : List ℕ) → (t ≡ u) × (k ≡ j) × (rest ≡ rest') → OneToken t k rest ≡ OneToken u j rest'
same_token t u k j rest rest' e = let a = e.0 in let b = e.1 in let c = e.2 in cc

pub one_next : OneNext
one_next start text NoMore NoMore h k = refl
one_next start text NoMore (OneToken t j rest) h k = absurd (blanks_no_token text h (front_of text start t j rest k))
one_next start text NoMore (NoToken j) h k = absurd (blank_not text h (bad_stuck j start text k))
one_next start text NoMore InComment h k = absurd (blank_not text h (after_as text open_comment_stuck k))
one_next start text NoMore InString h k = absurd (blank_not text h (after_as text open_string_stuck k))
one_next start text NoMore InToken h k = absurd (blank_not text h (after_as text open_token_stuck k))
one_next start text (OneToken t i rest) NoMore h k = absurd (blanks_no_token text k (front_of text start t i rest h))
one_next start text (OneToken t i rest) (OneToken u j rest') h k = same_token t u i j rest rest' (one_next_token text start t u i j rest rest' h k)
one_next start text (OneToken t i rest) (NoToken j) h k = absurd (token_not start text t i rest h (bad_stuck j start text k))
one_next start text (OneToken t i rest) InComment h k = absurd (token_not start text t i rest h (after_as text open_comment_stuck k))
one_next start text (OneToken t i rest) InString h k = absurd (token_not start text t i rest h (after_as text open_string_stuck k))
one_next start text (OneToken t i rest) InToken h k = absurd (token_not start text t i rest h (after_as text open_token_stuck k))
one_next start text (NoToken i) NoMore h k = absurd (blank_not text k (bad_stuck i start text h))
one_next start text (NoToken i) (OneToken u j rest') h k = absurd (token_not start text u j rest' k (bad_stuck i start text h))
one_next start text (NoToken i) (NoToken j) h k = ap NoToken (same_bad i j start text h k)
one_next start text (NoToken i) InComment h k = absurd (bad_no_comment i start text h k)
one_next start text (NoToken i) InString h k = absurd (bad_no_string i start text h k)
one_next start text (NoToken i) InToken h k = absurd (bad_not_open i start text h k)
one_next start text InComment NoMore h k = absurd (blank_not text k (after_as text open_comment_stuck h))
one_next start text InComment (OneToken u j rest') h k = absurd (token_not start text u j rest' k (after_as text open_comment_stuck h))
one_next start text InComment (NoToken j) h k = absurd (bad_no_comment j start text k h)
one_next start text InComment InComment h k = refl
one_next start text InComment InString h k = absurd (comment_no_string text h k)
one_next start text InComment InToken h k = absurd (comment_not_open text h k)
one_next start text InString NoMore h k = absurd (blank_not text k (after_as text open_string_stuck h))
one_next start text InString (OneToken u j rest') h k = absurd (token_not start text u j rest' k (after_as text open_string_stuck h))
one_next start text InString (NoToken j) h k = absurd (bad_no_string j start text k h)
one_next start text InString InComment h k = absurd (comment_no_string text k h)
one_next start text InString InString h k = refl
one_next start text InString InToken h k = absurd (string_not_open text h k)
one_next start text InToken NoMore h k = absurd (blank_not text k (after_as text open_token_stuck h))
one_next start text InToken (OneToken u j rest') h k = absurd (token_not start text u j rest' k (after_as text open_token_stuck h))
one_next start text InToken (NoToken j) h k = absurd (bad_not_open j start text k h)
one_next start text InToken InComment h k = absurd (comment_not_open text k h)
one_next start text InToken InString h k = absurd (string_not_open text k h)
one_next start text InToken InToken h k = refl

-- at least one

-- no blank begins the bytes
record IsSolid (bytes : List ℕ) : Type 0 where
  first : ℕ
  rest : List ℕ
  is : bytes ≡ first ∷ rest
  no_space : is_space first ≡ false
  no_comment : (more : List ℕ) → bytes ≢ 47 ∷ 42 ∷ more

-- only blanks, an open comment after blanks, or something else
data Settles (text : List ℕ) : Type 0 where
  blank : IsBlanks text → Settles text
  within : AfterBlanks text IsOpenComment → Settles text
  solid : AfterBlanks text IsSolid → Settles text

put_before : {P : List ℕ → Type 0} (text before rest : List ℕ) → text ≡ before ++ rest → IsBlanks before → AfterBlanks rest P → AfterBlanks text P
put_before text before rest e b a = record {
  before = before ++ a.before;
  bytes = a.bytes;
  split = e ∙ ap (λ w. before ++ w) a.split ∙ sym (append_assoc before a.before a.bytes);
  blanks = blanks_append before a.before b a.blanks;
  holds = a.holds;
}

settles_behind : (text before rest : List ℕ) → text ≡ before ++ rest → IsBlanks before → Settles rest → Settles text
settles_behind text before rest e b (blank k) = blank (subst IsBlanks (sym e) (blanks_append before rest b k))
settles_behind text before rest e b (within a) = within (put_before text before rest e b a)
settles_behind text before rest e b (solid a) = solid (put_before text before rest e b a)

comment_opens : (text rest : List ℕ) → text ≡ 47 ∷ 42 ∷ rest → closing 1 rest ≡ None → IsOpenComment text
comment_opens text rest e none = record {
  rest = rest;
  opens = e;
  open_still = λ body more k w. let done : closing 1 rest ≡ Some more = ap (closing 1) k ∙ closing_after 1 body more w in cc;
}

in_comment : (n : ℕ) → ((text : List ℕ) → length text ≤ n → Settles text) → (text rest : List ℕ) → length text ≤ suc n → text ≡ 47 ∷ 42 ∷ rest → (r : Option (List ℕ)) → closing 1 rest ≡ r
    → Settles text
in_comment n settle text rest l e None k = within (at_once text _ (comment_opens text rest e k))
in_comment n settle text rest l e (Some more) k =
    let w = closing_sound 1 rest more k in
    let whole : text ≡ (47 ∷ 42 ∷ w.body) ++ more = e ∙ ap (λ v. 47 ∷ 42 ∷ v) w.split in
    settles_behind text (47 ∷ 42 ∷ w.body) more whole (comment w.body [] w.closes nothing (ap (λ v. 47 ∷ 42 ∷ v) (sym (append-nil w.body))))
    (settle more (omega (arith, l, simp length-append at (ap length whole))))

solid_at : (b c : ℕ) (bytes : List ℕ) → is_space b ≡ false → ((b ≡ 47) × (c ≡ 42) → ⊥) → IsSolid (b ∷ c ∷ bytes)
solid_at b c bytes s n = record {
  first = b;
  rest = c ∷ bytes;
  is = refl;
  no_space = s;
  no_comment = λ more e. n (let whole : b ∷ c ∷ bytes ≡ 47 ∷ 42 ∷ more = e in (cc, cc));
}

settle_solid : (n : ℕ) → ((text : List ℕ) → length text ≤ n → Settles text) → (b : ℕ) (bs : List ℕ) → length (b ∷ bs) ≤ suc n → is_space b ≡ false → Settles (b ∷ bs)
settle_solid n settle b [] l h = solid (at_once (b ∷ []) _ (record { first = b; rest = []; is = refl; no_space = h; no_comment = λ more e. (let whole : b ∷ [] ≡ 47 ∷ 42 ∷ more = e in cc) }))
settle_solid n settle b (c ∷ cs) l h = elim (cases_eq b 47) [
  | inl slash ↦ elim (cases_eq c 42) [
    | inl star ↦ in_comment n settle (b ∷ c ∷ cs) cs l (cc) (closing 1 cs) refl
    | inr other ↦ solid (at_once (b ∷ c ∷ cs) _ (solid_at b c cs h (λ e. other e.1)))
  ]
  | inr other ↦ solid (at_once (b ∷ c ∷ cs) _ (solid_at b c cs h (λ e. other e.0)))
]

settle : (n : ℕ) (text : List ℕ) → length text ≤ n → Settles text
settle n [] l = blank nothing
settle zero (b ∷ bs) l = absurd (omega arith)
settle (suc n) (b ∷ bs) l = elim (cases_Bool (is_space b)) [
  | inl h ↦ settles_behind (b ∷ bs) (b ∷ []) bs refl (space h nothing) (settle n bs (omega arith))
  | inr h ↦ settle_solid n (settle n) b bs l h
]

abbrev Nothing : ℕ → List ℕ → Type 0
Nothing start text = (a : Next) → StandsNext a start text → ⊥

no_front : (start : ℕ) (text : List ℕ) → Nothing start text → (a : AfterBlanks text IsSolid) → HasFront a.bytes → ⊥
no_front start text none a f =
    none (OneToken f.token (start + length a.before) f.rest) (record { before = a.before; bytes = a.bytes; split = a.split; blanks = a.blanks; place = refl; front = f.front })

held_at : {P : List ℕ → Type 0} (text : List ℕ) (a : AfterBlanks text IsSolid) → P a.bytes → AfterBlanks text P
held_at text a h = record { before = a.before; bytes = a.bytes; split = a.split; blanks = a.blanks; holds = h }

closed_string : (bytes rest inner said more : List ℕ) → bytes ≡ 34 ∷ rest → rest ≡ inner ++ 34 ∷ more → Quotes inner said → HasFront bytes
closed_string bytes rest inner said more e k q = record {
  token = Str said;
  rest = more;
  front = record {
    word = 34 ∷ (inner ++ 34 ∷ []);
    split = e ∙ ap (λ w. 34 ∷ w) (k ∙ sym (append_assoc inner (34 ∷ []) more));
    spells = (inner, q, refl);
    ends = tt;
  };
}

spaced : (a b : ℕ) → a ≡ b → is_space a ≡ false → is_space b ≡ true → ⊥
spaced a b e n h = false≢true (sym n ∙ ap is_space e ∙ h)

-- a quote
quote_stands : (start : ℕ) (text : List ℕ) → Nothing start text → (a : AfterBlanks text IsSolid) → a.holds.first ≡ 34 → ⊥
quote_stands start text none a e =
    none InString (held_at text a (record {
      rest = a.holds.rest;
      opens = a.holds.is ∙ ap (λ b. b ∷ a.holds.rest) e;
      open_still = λ inner said more k q. no_front start text none a (closed_string a.bytes a.holds.rest inner said more (a.holds.is ∙ ap (λ b. b ∷ a.holds.rest) e) k q);
    }))

some_first : (text : List ℕ) (a : AfterBlanks text IsSolid) → a.bytes ≢ []
some_first text a e = let both : a.holds.first ∷ a.holds.rest ≡ [] = sym a.holds.is ∙ e in cc

no_quote : (text : List ℕ) (a : AfterBlanks text IsSolid) → (a.holds.first ≡ 34 → ⊥) → (rest : List ℕ) → a.bytes ≢ 34 ∷ rest
no_quote text a n rest e = n (cons-head a.holds.first 34 a.holds.rest rest (sym a.holds.is ∙ e))

-- anything else
other_stands : (start : ℕ) (text : List ℕ) → Nothing start text → (a : AfterBlanks text IsSolid) → (a.holds.first ≡ 34 → ⊥) → ⊥
other_stands start text none a n =
    let open_no : ((a.bytes ≡ 47 ∷ []) ⊎ BeginsToken a.bytes)
    → ⊥ = λ b. none InToken (held_at text a (record { some = some_first text a; no_string = no_quote text a n; unclosed = no_front start text none a; begins = b })) in
    none (NoToken (start + length a.before)) (held_at text a (
      omega (arith, simp length-append at (ap length a.split)),
      record {
        some = some_first text a;
        no_space = λ b rest e h. spaced a.holds.first b (cons-head a.holds.first b a.holds.rest rest (sym a.holds.is ∙ e)) a.holds.no_space h;
        no_comment = a.holds.no_comment;
        no_slash = λ e. open_no (inl e);
        no_token = λ b. open_no (inr b);
      },
    ))

stands : (start : ℕ) (text : List ℕ) → Nothing start text → Settles text → ⊥
stands start text none (blank b) = none NoMore b
stands start text none (within a) = none InComment a
stands start text none (solid a) = elim (cases_eq a.holds.first 34) [
  | inl e ↦ quote_stands start text none a e
  | inr n ↦ other_stands start text none a n
]

pub some_next : SomeNext
some_next start text none = stands start text none (settle (length text) text (omega arith))
