-- Reading a string byte by byte.
use Rattle.std.proofs.Common.{◌≡◌, ◌∙◌, ◌∷◌, ◌++◌, ◌+◌, ◌<◌, List, None, Option, Some, [], add_assoc, ap, arith, drop, eq-eqb, get_or, length, ne_eqb, refl, sym, ℕ}
use Rattle.std.proofs.lemmas.Bool.{cond-false, cond-true}
use Rattle.std.proofs.lemmas.List.{append_assoc, append-nil, drop_more}
use Rattle.std.specs.Option.{option_map}
use Rattle.word_syntax.specs.inner.Fronts.{quoted_more, unquoted}

-- a string with `at` bytes more in front, which mean `text`
abbrev pub quoted_after : List ℕ → ℕ → List ℕ × ℕ → List ℕ × ℕ
quoted_after text at s = (text ++ s.0, at + s.1)

pub unquoted_close : (b : ℕ) (bs : List ℕ) → b ≡ 34 → unquoted (b ∷ bs) ≡ Some ([], 1)
unquoted_close b [] e = cond-true _ _ _ (eq-eqb b 34 e)
unquoted_close b (c ∷ cs) e = cond-true _ _ _ (eq-eqb b 34 e)

pub unquoted_escaped : (b c : ℕ) (cs : List ℕ) → b ≡ 92 → unquoted (b ∷ c ∷ cs) ≡ option_map (quoted_more c 2) (unquoted cs)
unquoted_escaped b c cs e = let other : b ≡ 34 → ⊥ = λ h. omega arith in cond-false _ _ _ (ne_eqb b 34 other) ∙ cond-true _ _ _ (eq-eqb b 92 e)

pub unquoted_plain : (b : ℕ) (bs : List ℕ) → (b ≡ 34 → ⊥) → (b ≡ 92 → ⊥) → unquoted (b ∷ bs) ≡ option_map (quoted_more b 1) (unquoted bs)
unquoted_plain b [] not_quote not_escape = cond-false _ _ _ (ne_eqb b 34 not_quote)
unquoted_plain b (c ∷ cs) not_quote not_escape = cond-false _ _ _ (ne_eqb b 34 not_quote) ∙ cond-false _ _ _ (ne_eqb b 92 not_escape)

pair_same : (text : List ℕ) (at b size : ℕ) (s : List ℕ × ℕ) → quoted_after text at (quoted_more b size s) ≡ quoted_after (text ++ b ∷ []) (at + size) s
pair_same text at b size s = ap (λ (w : List ℕ). (w, at + (size + s.1))) (sym (append_assoc text (b ∷ []) s.0)) ∙ ap (λ (n : ℕ). ((text ++ b ∷ []) ++ s.0, n)) (sym (add_assoc at size s.1))

more_same : (text : List ℕ) (at b size : ℕ) (o : Option (List ℕ × ℕ)) → option_map (quoted_after text at) (option_map (quoted_more b size) o) ≡ option_map (quoted_after (text ++ b ∷ []) (at + size)) o
more_same text at b size None = refl
more_same text at b size (Some s) = ap Some (pair_same text at b size s)

pub string_closes : (bytes text : List ℕ) (at : ℕ) → at < length bytes → get_or bytes at 0 ≡ 34 → unquoted bytes ≡ option_map (quoted_after text at) (unquoted (drop at bytes))
    → Some (text, at + 1) ≡ unquoted bytes
string_closes bytes text at within is same =
    sym (same ∙ (ap (λ (xs : List ℕ). option_map (quoted_after text at) (unquoted xs)) (drop_more bytes at 0 within)
    ∙ (ap (option_map (quoted_after text at)) (unquoted_close (get_or bytes at 0) (drop (at + 1) bytes) is)
    ∙ ap (λ (w : List ℕ). Some (w, at + 1)) (append-nil text))))

pub string_goes_on : (bytes text new : List ℕ) (at : ℕ) → at < length bytes → (get_or bytes at 0 ≡ 34 → ⊥) → (get_or bytes at 0 ≡ 92 → ⊥) → new ≡ text ++ get_or bytes at 0 ∷ []
    → unquoted bytes ≡ option_map (quoted_after text at) (unquoted (drop at bytes)) → unquoted bytes ≡ option_map (quoted_after new (at + 1)) (unquoted (drop (at + 1) bytes))
string_goes_on bytes text new at within not_quote not_escape is same =
    same ∙ (ap (λ (xs : List ℕ). option_map (quoted_after text at) (unquoted xs)) (drop_more bytes at 0 within)
    ∙ (ap (option_map (quoted_after text at)) (unquoted_plain (get_or bytes at 0) (drop (at + 1) bytes) not_quote not_escape)
    ∙ (more_same text at (get_or bytes at 0) 1 (unquoted (drop (at + 1) bytes)) ∙ ap (λ (w : List ℕ). option_map (quoted_after w (at + 1)) (unquoted (drop (at + 1) bytes))) (sym is))))

pub string_escapes : (bytes text new : List ℕ) (at : ℕ) → at + 1 < length bytes → get_or bytes at 0 ≡ 92 → new ≡ text ++ get_or bytes (at + 1) 0 ∷ []
    → unquoted bytes ≡ option_map (quoted_after text at) (unquoted (drop at bytes)) → unquoted bytes ≡ option_map (quoted_after new (at + 2)) (unquoted (drop (at + 2) bytes))
string_escapes bytes text new at within escape is same =
    let here : at < length bytes = omega arith in
    let two : at + 1 + 1 ≡ at + 2 = omega arith in
    same ∙ (ap (λ (xs : List ℕ). option_map (quoted_after text at) (unquoted xs))
    (drop_more bytes at 0 here ∙ ap (λ (xs : List ℕ). get_or bytes at 0 ∷ xs) (drop_more bytes (at + 1) 0 within ∙ ap (λ (n : ℕ). get_or bytes (at + 1) 0 ∷ drop n bytes) two))
    ∙ (ap (option_map (quoted_after text at)) (unquoted_escaped (get_or bytes at 0) (get_or bytes (at + 1) 0) (drop (at + 2) bytes) escape)
    ∙ (more_same text at (get_or bytes (at + 1) 0) 2 (unquoted (drop (at + 2) bytes)) ∙ ap (λ (w : List ℕ). option_map (quoted_after w (at + 2)) (unquoted (drop (at + 2) bytes))) (sym is))))
