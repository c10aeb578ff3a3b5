-- The lexer finds the token at the front of bytes, and there is at most one.
use Rattle.std.proofs.Common.{◌≡◌, ◌∙◌, ◌∷◌, ◌++◌, ◌+◌, ◌<◌, ◌≤◌, ◌&&◌, ◌==◌, Bool, List, None, Option, Some, [], ap, arith, codes, cond, drop, false}
use Rattle.std.proofs.Common.{inl, inr, length, length-append, nat_lt, ne_eqb, refl, subst, suc, sym, take, true, ℕ}
use Rattle.std.proofs.lemmas.Bool.{and_from, and_left, and_right, cases_Bool, cond-false, cond-true, eqb-false, eqb-true, lt-ltb, or_from, or_left, or_parts}
use Rattle.std.proofs.lemmas.List.{append_assoc, take-append-drop}
use Rattle.std.proofs.lemmas.List.Sums.{prefix_len-le-length}
use Rattle.std.proofs.lemmas.Option.{none-some, some_pair_parts}
use Rattle.std.specs.List.{prefix_len}
use Rattle.std.specs.Option.{option_map}
use Rattle.aut_base.proofs.words.Texts as texts
use Rattle.aut_base.proofs.words.Texts.{differ_texts}
use Rattle.aut_base.specs.Text.{same_text}
use Rattle.word_syntax.proofs.texts.Prefixes.{dropped, prefix_all, prefix_before, prefix_stops}
use Rattle.word_syntax.specs.inner.Nexts.{StopsAtHead}
use Rattle.word_syntax.proofs.texts.Strings.{unquoted_close, unquoted_escaped, unquoted_plain}
use Rattle.word_syntax.specs.Tokens.{EndsWord, IsBare, IsBareName, IsWordFront, Quotes, SpellsWordToken, escaped, extends, is_letter, is_alphanumeric, nothing, plain}
use Rattle.word_syntax.specs.inner.Fronts.{bare_token, sign_count, front_token, quoted_more, sign_token, token_from, unquoted}
use Rattle.word_syntax.specs.declared.token.Token.{Token}
use Rattle.word_syntax.specs.declared.token.Token.TheVariants as token

-- the first `size` bytes spell a token that isn't longer
pub record HasFront (bytes : List ℕ) (t : Token) (size : ℕ) : Type 0 where
  pub some : 0 < size
  pub within : size ≤ length bytes
  pub front : IsWordFront bytes t (drop size bytes)

pub front_cons : (b : ℕ) (bs : List ℕ) → front_token (b ∷ bs) ≡ token_from b (b ∷ bs)
front_cons b bs = let some : length (b ∷ bs) ≡ 0 → ⊥ = λ e. omega arith in cond-false _ _ _ (ne_eqb (length (b ∷ bs)) 0 some)

letter_is_word : (b : ℕ) → is_letter b ≡ true → is_alphanumeric b ≡ true
letter_is_word b e = or_left _ _ e

not_sign : (b sign : ℕ) → is_letter b ≡ true → is_letter sign ≡ false → (b == sign) ≡ false
not_sign b sign e f = ne_eqb b sign (λ h. both (is_letter sign) (ap is_letter (sym h) ∙ e) f)
  where
    both : (t : Bool) → t ≡ true → t ≡ false → ⊥
    both true e f = cc
    both false e f = cc

-- a bare word ends where no byte of a name follows
pub bare_ends : (b : ℕ) (bs rest : List ℕ) → is_letter b ≡ true → StopsAtHead is_alphanumeric rest → EndsWord (b ∷ bs) rest
bare_ends b bs [] e stop = tt
bare_ends b [] (c ∷ cs) e stop = or_from _ _ (and_right (is_letter b) (is_alphanumeric c) stop) (or_from _ _ (and_left _ _ (not_sign b 38 e refl)) (and_left _ _ (not_sign b 124 e refl)))
bare_ends b (d ∷ ds) (c ∷ cs) e stop = and_right (is_letter b) (is_alphanumeric c) stop

not_letter_or : (b c : Bool) → b ≡ true → (b && c) ≡ false → c ≡ false
not_letter_or true c e f = f
not_letter_or false c e f = cc

ends_bare : (b : ℕ) (bs rest : List ℕ) → is_letter b ≡ true → EndsWord (b ∷ bs) rest → StopsAtHead is_alphanumeric rest
ends_bare b bs [] e ends = tt
ends_bare b [] (c ∷ cs) e ends = not_letter_or (is_letter b) (is_alphanumeric c) e (or_parts _ _ ends).0
ends_bare b (d ∷ ds) (c ∷ cs) e ends = not_letter_or (is_letter b) (is_alphanumeric c) e ends

bare_spells : (w : List ℕ) → IsBare w → SpellsWordToken (bare_token w) w
bare_spells w bare = elim (cases_Bool (same_text w (codes "true"))) [
  | inl e ↦ subst (λ (t : Token). SpellsWordToken t w) (sym (cond-true _ _ _ e)) (inr (texts.same_text w (codes "true") e))
  | inr e ↦ (elim (cases_Bool (same_text w (codes "false"))) [
    | inl f ↦ subst (λ (t : Token). SpellsWordToken t w) (sym (cond-false _ _ _ e ∙ cond-true _ _ _ f)) (inr (texts.same_text w (codes "false") f))
    | inr f ↦ (elim (cases_Bool (same_text w (codes "cycle"))) [
      | inl g ↦ subst (λ (t : Token). SpellsWordToken t w) (sym (cond-false _ _ _ e ∙ (cond-false _ _ _ f ∙ cond-true _ _ _ g))) (texts.same_text w (codes "cycle") g)
      | inr g ↦ subst (λ (t : Token). SpellsWordToken t w) (sym (cond-false _ _ _ e ∙ (cond-false _ _ _ f ∙ cond-false _ _ _ g)))
          (inl (record { bare = bare; not_true = texts.other_text w (codes "true") e; not_false = texts.other_text w (codes "false") f; not_cycle = texts.other_text w (codes "cycle") g }, refl))
    ])
  ])
]

bare_front : (b : ℕ) (bs : List ℕ) → is_letter b ≡ true → HasFront (b ∷ bs) (bare_token (take (prefix_len is_alphanumeric (b ∷ bs)) (b ∷ bs))) (prefix_len is_alphanumeric (b ∷ bs))
bare_front b bs e =
    let n : prefix_len is_alphanumeric (b ∷ bs) ≡ suc (prefix_len is_alphanumeric bs) = let k : 1 + prefix_len is_alphanumeric bs ≡ suc (prefix_len is_alphanumeric bs) =
    omega arith in cond-true _ _ _ (letter_is_word b e) ∙ k in
    let word : List ℕ = b ∷ take (prefix_len is_alphanumeric bs) bs in
    let bare : IsBare word = (e, prefix_all is_alphanumeric bs) in
    let P : ℕ → Type 0 = λ k. HasFront (b ∷ bs) (bare_token (take k (b ∷ bs))) k in
    subst P (sym n) (record {
      some = omega arith;
      within = omega (arith, prefix_len-le-length is_alphanumeric bs);
      front = record {
        word = word;
        split = ap (λ (x : List ℕ). b ∷ x) (sym (take-append-drop (prefix_len is_alphanumeric bs) bs));
        spells = bare_spells word bare;
        ends = bare_ends b (take (prefix_len is_alphanumeric bs) bs) (drop (prefix_len is_alphanumeric bs) bs) e (prefix_stops is_alphanumeric bs);
      };
    })

-- a word that no byte extends
pub ends_anyhow : (word rest : List ℕ) → ((c : ℕ) → extends word c ≡ false) → EndsWord word rest
ends_anyhow word [] h = tt
ends_anyhow word (c ∷ cs) h = h c

-- a byte that is a token
sign_front : (b : ℕ) (bs : List ℕ) (t : Token) → SpellsWordToken t (b ∷ []) → ((c : ℕ) → extends (b ∷ []) c ≡ false) → HasFront (b ∷ bs) t 1
sign_front b bs t spells alone = record {
  some = omega arith;
  within = omega arith;
  front = record { word = b ∷ []; split = refl; spells = spells; ends = ends_anyhow (b ∷ []) bs alone };
}

abbrev HasFound : List ℕ → Option (Token × ℕ) → Type 0
HasFound bytes None = Unit {0}
HasFound bytes (Some found) = HasFront bytes found.0 found.1

holds_sign : (b x : ℕ) (bs : List ℕ) (t : Token) → (b == x) ≡ true → HasFront (x ∷ bs) t 1 → HasFront (b ∷ bs) t 1
holds_sign b x bs t e h = let P : ℕ → Type 0 = λ y. HasFront (y ∷ bs) t 1 in subst P (sym (eqb-true b x e)) h

holds_cond : (bytes : List ℕ) (c : Bool) (x y : Option (Token × ℕ)) → (c ≡ true → HasFound bytes x) → (c ≡ false → HasFound bytes y) → HasFound bytes (cond c x y)
holds_cond bytes true x y h k = h refl
holds_cond bytes false x y h k = k refl

holds_map : (bytes : List ℕ) (c : Bool) (x y : Option Token) → (c ≡ true → HasFound bytes (option_map (λ t. (t, 1)) x)) → (c ≡ false → HasFound bytes (option_map (λ t. (t, 1)) y))
    → HasFound bytes (option_map (λ t. (t, 1)) (cond c x y))
holds_map bytes true x y h k = h refl
holds_map bytes false x y h k = k refl

signs_hold : (b : ℕ) (bs : List ℕ) → HasFound (b ∷ bs) (option_map (λ t. (t, 1)) (sign_token b))
signs_hold b bs =
    holds_map (b ∷ bs) (b == 49) _ _ (λ e. holds_sign b 49 bs token.True e (sign_front 49 bs token.True (inl refl) (λ c. refl))) (λ _.
    holds_map (b ∷ bs) (b == 48) _ _ (λ e. holds_sign b 48 bs token.False e (sign_front 48 bs token.False (inl refl) (λ c. refl))) (λ _.
    holds_map (b ∷ bs) (b == 33) _ _ (λ e. holds_sign b 33 bs token.Not e (sign_front 33 bs token.Not refl (λ c. refl))) (λ _.
    holds_map (b ∷ bs) (b == 40) _ _ (λ e. holds_sign b 40 bs token.LeftParen e (sign_front 40 bs token.LeftParen refl (λ c. refl))) (λ _.
    holds_map (b ∷ bs) (b == 41) _ _ (λ e. holds_sign b 41 bs token.RightParen e (sign_front 41 bs token.RightParen refl (λ c. refl))) (λ _.
    holds_map (b ∷ bs) (b == 59) _ _ (λ e. holds_sign b 59 bs token.Semicolon e (sign_front 59 bs token.Semicolon refl (λ c. refl))) (λ _.
    holds_map (b ∷ bs) (b == 123) _ _ (λ e. holds_sign b 123 bs token.LeftBrace e (sign_front 123 bs token.LeftBrace refl (λ c. refl))) (λ _.
    holds_map (b ∷ bs) (b == 125) _ _ (λ e. holds_sign b 125 bs token.RightBrace e (sign_front 125 bs token.RightBrace refl (λ c. refl))) (λ _. tt))))))))

-- a sign that may double
sign_holds : (b : ℕ) (t : Token) → SpellsWordToken t (b ∷ []) → SpellsWordToken t (b ∷ b ∷ []) → ((c : ℕ) → (c == b) ≡ false → extends (b ∷ []) c ≡ false) → ((c : ℕ) → extends (b ∷ b ∷ []) c ≡ false)
    → (bs : List ℕ) → HasFront (b ∷ bs) t (sign_count b (b ∷ bs))
sign_holds b t once twice alone both [] = record { some = omega arith; within = omega arith; front = record { word = b ∷ []; split = refl; spells = once; ends = tt } }
sign_holds b t once twice alone both (c ∷ cs) = elim (cases_Bool (c == b)) [
  | inl e ↦ (let long : nat_lt 1 (length (b ∷ c ∷ cs)) ≡ true = lt-ltb 1 (length (b ∷ c ∷ cs)) (omega arith) in
      subst (λ (n : ℕ). HasFront (b ∷ c ∷ cs) t n) (sym (cond-true _ _ _ (and_from _ _ long e)))
      (record {
        some = omega arith;
        within = omega arith;
        front = record { word = b ∷ b ∷ []; split = ap (λ (x : ℕ). b ∷ x ∷ cs) (eqb-true c b e); spells = twice; ends = ends_anyhow (b ∷ b ∷ []) cs both };
      }))
  | inr e ↦ subst (λ (n : ℕ). HasFront (b ∷ c ∷ cs) t n) (sym (cond-false _ _ _ (and_right (nat_lt 1 (length (b ∷ c ∷ cs))) _ e)))
      (record { some = omega arith; within = omega arith; front = record { word = b ∷ []; split = refl; spells = once; ends = alone c e } })
]

and_holds : (bs : List ℕ) → HasFront (38 ∷ bs) token.And (sign_count 38 (38 ∷ bs))
and_holds = sign_holds 38 token.And (inl refl) (inr refl) (λ c e. or_from _ _ e refl) (λ c. refl)

or_holds : (bs : List ℕ) → HasFront (124 ∷ bs) token.Or (sign_count 124 (124 ∷ bs))
or_holds = sign_holds 124 token.Or (inl refl) (inr refl) (λ c e. e) (λ c. refl)

-- a string up to its closing quote
pub record IsUnquoted (bs text : List ℕ) (size : ℕ) : Type 0 where
  pub inner : List ℕ
  pub quotes : Quotes inner text
  pub split : bs ≡ inner ++ 34 ∷ drop size bs
  pub some : 0 < size
  pub within : size ≤ length bs

abbrev Unquotes : List ℕ → Option (List ℕ × ℕ) → Type 0
Unquotes bs None = Unit {0}
Unquotes bs (Some s) = IsUnquoted bs s.0 s.1

closes_here : (b : ℕ) (bs : List ℕ) → b ≡ 34 → IsUnquoted (b ∷ bs) [] 1
closes_here b bs e = record { inner = []; quotes = nothing; split = ap (λ (x : ℕ). x ∷ bs) e; some = omega arith; within = omega arith }

goes_plain : (b : ℕ) (bs : List ℕ) (o : Option (List ℕ × ℕ)) → (b ≡ 34 → ⊥) → (b ≡ 92 → ⊥) → Unquotes bs o → Unquotes (b ∷ bs) (option_map (quoted_more b 1) o)
goes_plain b bs None not_quote not_escape u = tt
goes_plain b bs (Some s) not_quote not_escape u =
    let next : 1 + s.1 ≡ suc s.1 = omega arith in
    record {
      inner = b ∷ u.inner;
      quotes = plain not_quote not_escape u.quotes;
      split = ap (λ (x : List ℕ). b ∷ x) u.split
          ∙ ap (λ (n : ℕ). b ∷ (u.inner ++ 34 ∷ drop n (b ∷ bs))) (sym next);
      some = omega arith;
      within = omega (arith, u.within);
    }

goes_escaped : (b c : ℕ) (cs : List ℕ) (o : Option (List ℕ × ℕ)) → b ≡ 92 → Unquotes cs o → Unquotes (b ∷ c ∷ cs) (option_map (quoted_more c 2) o)
goes_escaped b c cs None e u = tt
goes_escaped b c cs (Some s) e u =
    let next : 2 + s.1 ≡ suc (suc s.1) = omega arith in
    record {
      inner = 92 ∷ c ∷ u.inner;
      quotes = escaped u.quotes;
      split = ap (λ (x : List ℕ). b ∷ c ∷ x) u.split
          ∙ (ap (λ (x : ℕ). x ∷ c ∷ (u.inner ++ 34 ∷ drop s.1 cs)) e ∙ ap (λ (n : ℕ). 92 ∷ c ∷ (u.inner ++ 34 ∷ drop n (b ∷ c ∷ cs))) (sym next));
      some = omega arith;
      within = omega (arith, u.within);
    }

unquoted_is : (bs : List ℕ) → Unquotes bs (unquoted bs)
unquoted_is [] = tt
unquoted_is (b ∷ []) = elim (cases_Bool (b == 34)) [
  | inl e ↦ subst (λ (o : Option (List ℕ × ℕ)). Unquotes (b ∷ []) o) (sym (unquoted_close b [] (eqb-true b 34 e))) (closes_here b [] (eqb-true b 34 e))
  | inr e ↦ subst (λ (o : Option (List ℕ × ℕ)). Unquotes (b ∷ []) o) (sym (cond-false _ _ _ e)) tt
]
unquoted_is (b ∷ c ∷ cs) = elim (cases_Bool (b == 34)) [
  | inl e ↦ subst (λ (o : Option (List ℕ × ℕ)). Unquotes (b ∷ c ∷ cs) o) (sym (unquoted_close b (c ∷ cs) (eqb-true b 34 e))) (closes_here b (c ∷ cs) (eqb-true b 34 e))
  | inr e ↦ (elim (cases_Bool (b == 92)) [
    | inl f ↦ subst (λ (o : Option (List ℕ × ℕ)). Unquotes (b ∷ c ∷ cs) o) (sym (unquoted_escaped b c cs (eqb-true b 92 f))) (goes_escaped b c cs (unquoted cs) (eqb-true b 92 f) (unquoted_is cs))
    | inr f ↦ subst (λ (o : Option (List ℕ × ℕ)). Unquotes (b ∷ c ∷ cs) o) (sym (unquoted_plain b (c ∷ cs) (eqb-false b 34 e) (eqb-false b 92 f)))
        (goes_plain b (c ∷ cs) (unquoted (c ∷ cs)) (eqb-false b 34 e) (eqb-false b 92 f) (unquoted_is (c ∷ cs)))
  ])
]

string_holds : (bs : List ℕ) (o : Option (List ℕ × ℕ)) → Unquotes bs o → HasFound (34 ∷ bs) (option_map (λ (s : List ℕ × ℕ). (token.Name s.0, 1 + s.1)) o)
string_holds bs None u = tt
string_holds bs (Some s) u =
    let next : 1 + s.1 ≡ suc s.1 = omega arith in
    record {
      some = omega arith;
      within = omega (arith, u.within);
      front = record {
        word = 34 ∷ (u.inner ++ 34 ∷ []);
        split = ap (λ (x : List ℕ). 34 ∷ x) (u.split ∙ sym (append_assoc u.inner (34 ∷ []) (drop s.1 bs))) ∙ ap (λ (n : ℕ). (34 ∷ (u.inner ++ 34 ∷ [])) ++ drop n (34 ∷ bs)) (sym next);
        spells = inr (u.inner, u.quotes, refl);
        ends = ends_anyhow (34 ∷ (u.inner ++ 34 ∷ [])) (drop (1 + s.1) (34 ∷ bs)) (string_alone u.inner);
      };
    }
  where
    string_alone : (inner : List ℕ) (c : ℕ) → extends (34 ∷ (inner ++ 34 ∷ [])) c ≡ false
    string_alone [] c = refl
    string_alone (b ∷ bs) c = refl

from_byte : (b : ℕ) (bs : List ℕ) → HasFound (b ∷ bs) (token_from b (b ∷ bs))
from_byte b bs =
    holds_cond (b ∷ bs) (is_letter b) _ _ (λ e. bare_front b bs e) (λ _.
    holds_cond (b ∷ bs) (b == 34) _ _ (λ e. (let P : ℕ
    → Type 0 = λ y. HasFound (y ∷ bs) (option_map (λ (s : List ℕ × ℕ). (token.Name s.0, 1 + s.1)) (unquoted bs)) in
    subst P (sym (eqb-true b 34 e)) (string_holds bs (unquoted bs) (unquoted_is bs)))) (λ _.
    holds_cond (b ∷ bs) (b == 38) _ _ (λ e. (let P : ℕ → Type 0 = λ y. HasFront (y ∷ bs) token.And (sign_count 38 (y ∷ bs)) in subst P (sym (eqb-true b 38 e)) (and_holds bs))) (λ _.
    holds_cond (b ∷ bs) (b == 124) _ _ (λ e. (let P : ℕ → Type 0 = λ y. HasFront (y ∷ bs) token.Or (sign_count 124 (y ∷ bs)) in subst P (sym (eqb-true b 124 e)) (or_holds bs)))
    (λ _. signs_hold b bs))))

fronts_hold : (bytes : List ℕ) → HasFound bytes (front_token bytes)
fronts_hold [] = tt
fronts_hold (b ∷ bs) = subst (λ (o : Option (Token × ℕ)). HasFound (b ∷ bs) o) (sym (front_cons b bs)) (from_byte b bs)

pub front_found : (bytes : List ℕ) (t : Token) (size : ℕ) → front_token bytes ≡ Some (t, size) → HasFront bytes t size
front_found bytes t size e = let P : Option (Token × ℕ) → Type 0 = λ o. HasFound bytes o in subst P e (fronts_hold bytes)

-- the lexer finds this token
pub record Finds (bytes : List ℕ) (t : Token) (rest : List ℕ) : Type 0 where
  pub size : ℕ
  pub found : front_token bytes ≡ Some (t, size)
  pub behind : rest ≡ drop size bytes

take_word : (w rest : List ℕ) → take (length w) (w ++ rest) ≡ w
take_word [] rest = refl
take_word (x ∷ w) rest = ap (λ (y : List ℕ). x ∷ y) (take_word w rest)

bare_found : (w rest : List ℕ) → IsBare w → EndsWord w rest → Finds (w ++ rest) (bare_token w) rest
bare_found [] rest bare ends = absurd bare
bare_found (b ∷ bs) rest bare ends =
    let all = and_from _ _ (letter_is_word b bare.0) bare.1 in
    let size = prefix_before is_alphanumeric (b ∷ bs) rest all (ends_bare b bs rest bare.0 ends) in
    record {
      size = length (b ∷ bs);
      found = front_cons b (bs ++ rest) ∙ (cond-true _ _ _ bare.0
          ∙ (ap (λ (n : ℕ). Some (bare_token (take n (b ∷ (bs ++ rest))), n)) size ∙ ap (λ (w : List ℕ). Some (bare_token w, length (b ∷ bs))) (take_word (b ∷ bs) rest)));
      behind = sym (dropped (b ∷ bs) rest);
    }

finds_along : (bytes word rest : List ℕ) (t : Token) → bytes ≡ word ++ rest → Finds (word ++ rest) t rest → Finds bytes t rest
finds_along bytes word rest t e f = subst (λ (x : List ℕ). Finds x t rest) (sym e) f

-- a string is found
quoted_found : (inner text rest : List ℕ) → Quotes inner text → unquoted (inner ++ (34 ∷ rest)) ≡ Some (text, 1 + length inner)
quoted_found inner text rest nothing = unquoted_close 34 rest refl
quoted_found inner text rest (escaped {b = b} {inner = more} {text = t} quotes) =
    let size : 2 + (1 + length more) ≡ 1 + length (92 ∷ b ∷ more) = omega arith in
    unquoted_escaped 92 b (more ++ (34 ∷ rest)) refl ∙ (ap (option_map (quoted_more b 2)) (quoted_found more t rest quotes) ∙ ap (λ (n : ℕ). Some (b ∷ t, n)) size)
quoted_found inner text rest (plain {b = b} {inner = more} {text = t} not_quote not_escape quotes) =
    let size : 1 + (1 + length more) ≡ 1 + length (b ∷ more) = omega arith in
    unquoted_plain b (more ++ (34 ∷ rest)) not_quote not_escape ∙ (ap (option_map (quoted_more b 1)) (quoted_found more t rest quotes) ∙ ap (λ (n : ℕ). Some (b ∷ t, n)) size)

string_found : (name word rest : List ℕ) → ((inner : List ℕ) × Quotes inner name × (word ≡ 34 ∷ (inner ++ 34 ∷ []))) → Finds (word ++ rest) (token.Name name) rest
string_found name word rest q =
    let split : (34 ∷ (q.0 ++ 34 ∷ [])) ++ rest ≡ 34 ∷ (q.0 ++ (34 ∷ rest)) = ap (λ (x : List ℕ). 34 ∷ x) (append_assoc q.0 (34 ∷ []) rest) in
    let size : 1 + (1 + length q.0) ≡ suc (suc (length q.0)) = omega arith in
    let long : length (q.0 ++ 34 ∷ []) ≡ suc (length q.0) = omega (arith, length-append q.0 (34 ∷ [])) in
    subst (λ (x : List ℕ). Finds (x ++ rest) (token.Name name) rest) (sym q.2) (record {
      size = 1 + (1 + length q.0);
      found = ap front_token split ∙ (front_cons 34 (q.0 ++ (34 ∷ rest)) ∙ ap (option_map (λ (s : List ℕ × ℕ). (token.Name s.0, 1 + s.1))) (quoted_found q.0 name rest q.1));
      behind = sym (ap (λ (n : ℕ). drop n ((34 ∷ (q.0 ++ 34 ∷ [])) ++ rest)) (size ∙ ap suc (sym long)) ∙ dropped (34 ∷ (q.0 ++ 34 ∷ [])) rest);
    })

-- a sign is found
one_found : (b : ℕ) (rest : List ℕ) (t : Token) → token_from b (b ∷ rest) ≡ Some (t, 1) → Finds (b ∷ rest) t rest
one_found b rest t e = record { size = 1; found = front_cons b rest ∙ e; behind = refl }

single_and : (rest : List ℕ) → EndsWord (codes "&") rest → sign_count 38 (38 ∷ rest) ≡ 1
single_and [] ends = refl
single_and (c ∷ cs) ends = cond-false _ _ _ (and_right (nat_lt 1 (length (38 ∷ c ∷ cs))) _ (or_parts _ _ ends).0)

single_or : (rest : List ℕ) → EndsWord (codes "|") rest → sign_count 124 (124 ∷ rest) ≡ 1
single_or [] ends = refl
single_or (c ∷ cs) ends = cond-false _ _ _ (and_right (nat_lt 1 (length (124 ∷ c ∷ cs))) _ ends)

double_sign : (sign : ℕ) (rest : List ℕ) → (sign == sign) ≡ true → sign_count sign (sign ∷ sign ∷ rest) ≡ 2
double_sign sign rest e = cond-true _ _ _ (and_from _ _ (lt-ltb 1 (length (sign ∷ sign ∷ rest)) (omega arith)) e)

bare_name : (w : List ℕ) → IsBareName w → bare_token w ≡ token.Name w
bare_name w b = cond-false _ _ _ (differ_texts w (codes "true") b.not_true)
    ∙ (cond-false _ _ _ (differ_texts w (codes "false") b.not_false) ∙ cond-false _ _ _ (differ_texts w (codes "cycle") b.not_cycle))

pub front_stands : (bytes : List ℕ) (t : Token) (rest : List ℕ) → IsWordFront bytes t rest → Finds bytes t rest
front_stands bytes t rest f = finds_along bytes f.word rest t f.split (word_found t f.word rest f.spells f.ends)
  where
    renamed : (bytes rest : List ℕ) (t u : Token) → t ≡ u → Finds bytes t rest → Finds bytes u rest
    renamed bytes rest t u e f = subst (λ (x : Token). Finds bytes x rest) e f

    sized : (bytes rest : List ℕ) (t : Token) (b n : ℕ) (bs : List ℕ) → token_from b (b ∷ bs) ≡ Some (t, n) → rest ≡ drop n (b ∷ bs) → Finds (b ∷ bs) t rest
    sized bytes rest t b n bs e d = record { size = n; found = front_cons b bs ∙ e; behind = d }

    at_word : (t : Token) (word w rest : List ℕ) → word ≡ w → (EndsWord w rest → Finds (w ++ rest) t rest) → EndsWord word rest → Finds (word ++ rest) t rest
    at_word t word w rest is h ends = subst (λ (x : List ℕ). Finds (x ++ rest) t rest) (sym is) (h (subst (λ (x : List ℕ). EndsWord x rest) is ends))

    word_found : (t : Token) (word rest : List ℕ) → SpellsWordToken t word → EndsWord word rest → Finds (word ++ rest) t rest
    word_found token.True word rest (inl e) ends = at_word token.True word (codes "1") rest e (λ _. one_found 49 rest token.True refl) ends
    word_found token.True word rest (inr e) ends = at_word token.True word (codes "true") rest e (λ h. bare_found (codes "true") rest (refl, refl) h) ends
    word_found token.False word rest (inl e) ends = at_word token.False word (codes "0") rest e (λ _. one_found 48 rest token.False refl) ends
    word_found token.False word rest (inr e) ends = at_word token.False word (codes "false") rest e (λ h. bare_found (codes "false") rest (refl, refl) h) ends
    word_found (token.Name name) word rest (inl (b, e)) ends =
        at_word (token.Name name) word name rest e (λ h. renamed (name ++ rest) rest (bare_token name) (token.Name name) (bare_name name b) (bare_found name rest b.bare h)) ends
    word_found (token.Name name) word rest (inr q) ends = string_found name word rest q
    word_found token.Not word rest e ends = at_word token.Not word (codes "!") rest e (λ _. one_found 33 rest token.Not refl) ends
    word_found token.And word rest (inl e) ends = at_word token.And word (codes "&") rest e (λ h. one_found 38 rest token.And (ap (λ (n : ℕ). Some (token.And, n)) (single_and rest h))) ends
    word_found token.And word rest (inr e) ends =
        at_word token.And word (codes "&&") rest e (λ _. sized [] rest token.And 38 2 (38 ∷ rest) (ap (λ (n : ℕ). Some (token.And, n)) (double_sign 38 rest refl)) refl) ends
    word_found token.Or word rest (inl e) ends = at_word token.Or word (codes "|") rest e (λ h. one_found 124 rest token.Or (ap (λ (n : ℕ). Some (token.Or, n)) (single_or rest h))) ends
    word_found token.Or word rest (inr e) ends =
        at_word token.Or word (codes "||") rest e (λ _. sized [] rest token.Or 124 2 (124 ∷ rest) (ap (λ (n : ℕ). Some (token.Or, n)) (double_sign 124 rest refl)) refl) ends
    word_found token.LeftParen word rest e ends = at_word token.LeftParen word (codes "(") rest e (λ _. one_found 40 rest token.LeftParen refl) ends
    word_found token.RightParen word rest e ends = at_word token.RightParen word (codes ")") rest e (λ _. one_found 41 rest token.RightParen refl) ends
    word_found token.Semicolon word rest e ends = at_word token.Semicolon word (codes ";") rest e (λ _. one_found 59 rest token.Semicolon refl) ends
    word_found token.Cycle word rest e ends = at_word token.Cycle word (codes "cycle") rest e (λ h. bare_found (codes "cycle") rest (refl, refl) h) ends
    word_found token.LeftBrace word rest e ends = at_word token.LeftBrace word (codes "{") rest e (λ _. one_found 123 rest token.LeftBrace refl) ends
    word_found token.RightBrace word rest e ends = at_word token.RightBrace word (codes "}") rest e (λ _. one_found 125 rest token.RightBrace refl) ends

-- at most one token is at the front
pub one_front : (bytes : List ℕ) (t u : Token) (rest rest' : List ℕ) → IsWordFront bytes t rest → IsWordFront bytes u rest' → (t ≡ u) × (rest ≡ rest')
one_front bytes t u rest rest' f g =
    let x = front_stands bytes t rest f in
    let y = front_stands bytes u rest' g in
    let same = some_pair_parts t u x.size y.size (sym x.found ∙ y.found) in
    (same.0, x.behind ∙ (ap (λ (n : ℕ). drop n bytes) same.1 ∙ sym y.behind))

-- and none where none is found
pub none_found : (bytes : List ℕ) → front_token bytes ≡ None → (t : Token) (rest : List ℕ) → IsWordFront bytes t rest → ⊥
none_found bytes e t rest f = let x = front_stands bytes t rest f in none-some (t, x.size) (sym e ∙ x.found)
