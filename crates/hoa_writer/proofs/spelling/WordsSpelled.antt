-- How numbers, strings and signs are spelled.
use Rattle.std.proofs.Common.{◌≡◌, ℕ, ◌+◌, ◌-◌, ◌*◌, ◌^◌, ◌<◌, ◌≤◌, ◌/◌, ◌%◌, ◌==◌, ◌||◌, true, cond, List, [], ◌∷◌, ◌++◌, flat_map, inl, inr, refl, sym, subst, ◌∙◌, ap, arith}
use Rattle.std.specs.Fmt.{decimal}
use Rattle.std.specs.Prelude.{codes}
use Rattle.std.proofs.lemmas.Bool.{cases_Bool, false≢true}
use Rattle.std.proofs.lemmas.Bool.Decides.{nat_tests}
use Rattle.std.proofs.lemmas.Fmt.{decimal_by_steps}
use Rattle.std.proofs.lemmas.List.Sums.{fold-append}
use Rattle.hoa_lexer.specs.Bytes.{is_digit}
use Rattle.hoa_lexer.specs.Spelling.{IsNumeral, value_of, Quotes}
use Rattle.aut_base.specs.Strings.Quotes.{nothing, escaped, plain}
use Rattle.hoa_lexer.specs.declared.token.Token.TheVariants.{Str, Int, Bang, Amp, Bar}
use Rattle.hoa_writer.specs.CanonicalText as canonical
use Rattle.hoa_writer.specs.CanonicalText.{quoted}
use Rattle.hoa_writer.proofs.spelling.SpelledOut.{Free, Held, free_blank, free_free, free_one, held_int}
use Rattle.aut_base.proofs.lists.Lists.{list_all-push}

-- numbers

digit_is : (k : ℕ) → k < 10 → is_digit (48 + k) ≡ true
digit_is k h = grind (arith, nat_tests)

numeral_push : (ds : List ℕ) (d : ℕ) → IsNumeral ds → 0 < value_of ds → is_digit d ≡ true → IsNumeral (ds ++ d ∷ [])
numeral_push [] d h p e = absurd h
numeral_push (b ∷ []) d h p e = (h, λ (same : b ≡ 48). absurd (omega arith), list_all-push is_digit d [] refl e)
numeral_push (b ∷ c ∷ bs) d h p e = (h.0, h.1, list_all-push is_digit d (c ∷ bs) h.2 e)

value_push : (ds : List ℕ) (d : ℕ) → value_of (ds ++ d ∷ []) ≡ 10 * value_of ds + (d - 48)
value_push ds d = fold-append (λ value digit. 10 * value + (digit - 48)) 0 ds (d ∷ [])

record IsNumeralOf (n : ℕ) (ds : List ℕ) : Type 0 where
  numeral : IsNumeral ds
  value : value_of ds ≡ n

numeral_more : (n : ℕ) (ds : List ℕ) → 10 ≤ n → IsNumeralOf (n / 10) ds → IsNumeralOf n (ds ++ (48 + n % 10) ∷ [])
numeral_more n ds h w = record {
  numeral = numeral_push ds (48 + n % 10) w.numeral (omega (arith, w.value)) (digit_is (n % 10) (omega arith));
  value = value_push ds (48 + n % 10) ∙ omega (arith, w.value);
}

decimal_numeral : (n : ℕ) → n < 2 ^ 64 → IsNumeralOf n (decimal n)
decimal_numeral = decimal_by_steps IsNumeralOf
    (λ n h. record { numeral = digit_is n h; value = omega arith })
    (λ n ds h w. numeral_more n ds h w)

pub number : (n : ℕ) → n < 2 ^ 32 → Held (Int n ∷ []) (decimal n)
number n h = let d = decimal_numeral n (omega arith) in held_int n (decimal n) (d.numeral, d.value, h)

-- strings

quotes_escape : (b : ℕ) (inner text : List ℕ) → Quotes inner text → Quotes (canonical.escaped_byte b ++ inner) (b ∷ text)
quotes_escape b inner text q = elim (cases_Bool ((b == 34) || (b == 92))) [
  | inl e ↦ subst (λ (w : List ℕ). Quotes (w ++ inner) (b ∷ text)) (sym (ap (λ c. cond c (92 ∷ b ∷ []) (b ∷ [])) e)) (escaped q)
  | inr e ↦ subst (λ (w : List ℕ). Quotes (w ++ inner) (b ∷ text)) (sym (ap (λ c. cond c (92 ∷ b ∷ []) (b ∷ [])) e))
      (plain (λ (s : b ≡ 34). false≢true (sym e ∙ ap (λ c. (c == 34) || (c == 92)) s)) (λ (s : b ≡ 92). false≢true (sym e ∙ ap (λ c. (c == 34) || (c == 92)) s)) q)
]

quotes_escaped : (text : List ℕ) → Quotes (flat_map canonical.escaped_byte text) text
quotes_escaped [] = nothing
quotes_escaped (b ∷ bs) = quotes_escape b (flat_map canonical.escaped_byte bs) bs (quotes_escaped bs)

pub string : (text : List ℕ) → Free (Str text ∷ []) (quoted text)
string text = free_one (Str text) (quoted text) (flat_map canonical.escaped_byte text, quotes_escaped text, refl) (λ rest. tt)

-- signs

pub gap : Free [] (codes " ")
gap = free_blank 32 refl

pub bang : Free (Bang ∷ []) (codes "!")
bang = free_one Bang (codes "!") refl (λ rest. tt)

pub amp : Free (Amp ∷ []) (codes "&")
amp = free_one Amp (codes "&") refl (λ rest. tt)

pub bar : Free (Bar ∷ []) (codes "|")
bar = free_one Bar (codes "|") refl (λ rest. tt)

pub amp_apart : Free (Amp ∷ []) (codes " & ")
amp_apart = free_free gap (free_free amp gap)

pub bar_apart : Free (Bar ∷ []) (codes " | ")
bar_apart = free_free gap (free_free bar gap)
