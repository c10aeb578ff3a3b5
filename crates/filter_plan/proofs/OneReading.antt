-- Each value is read in one way.
use Rattle.std.proofs.Common.{◌≡◌, ◌∙◌, ◌<◌, ℕ, List, [], ◌∷◌, ◌++◌, Option, Some, None, ap, arith, codes, flat_map, inl, inr, refl, subst, sym}
use Rattle.std.specs.Option.{option_map}
use Rattle.std.specs.Char.{digit_value}
use Rattle.std.specs.Str.Parse.{AllDigits}
use Rattle.std.proofs.lemmas.Option.{none-some, same_Some}
use Rattle.aut_base.proofs.lists.Lists.{cons-head, cons-tail}
use Rattle.filter_plan.proofs.FormatTexts.{first_of_text}
use Rattle.filter_plan.proofs.RangeTexts.{IsOnlyCut, bounds_of_range, digits_have_no_dot, dot_is_no_digit}
use Rattle.filter_plan.specs.Formats.{IsFormat, piece_text}
use Rattle.filter_plan.specs.Hiding.{IsHideOption, suffix}
use Rattle.filter_plan.specs.Numbers.{IsMadeCount, IsNumber}
use Rattle.filter_plan.specs.Spans.{IsRange, one, between, from, up_to}
use Rattle.filter_plan.specs.Table.{IsFile, IsPattern, ReadsOption, figures, refuted}
use Rattle.filter_plan.specs.declared.format.Piece.{Piece}
use Rattle.filter_plan.specs.declared.plan.Hidden.{Hidden}
use Rattle.ap_project.specs.declared.hide.Hide.{Hide}
use Rattle.ap_project.specs.declared.hide.Hide.TheVariants.{Any, Absent, Present}
use Rattle.filter_plan.specs.declared.plan.Output.{Output}
use Rattle.filter_plan.specs.declared.plan.Output.TheVariants.{Hoa, Stats, Refute}
use Rattle.filter_plan.specs.declared.range.Range.{Range}
use Rattle.filter_plan.specs.inner.Bounds.{IsBounds, IsHigh, IsLow}
use Rattle.filter_plan.specs.inner.FormatPieces.{first_piece}
use Rattle.word_syntax.proofs.texts.FrontTokens.{one_front}
use Rattle.word_syntax.specs.Writing.{OneReading, word_pattern}
use Rattle.word_syntax.specs.declared.pattern.Pattern.{Pattern}
use Rattle.word_syntax.specs.declared.token.Token.TheVariants.{Name}

pub same_number : (t : List ℕ) (n m : ℕ) → IsNumber t n → IsNumber t m → n ≡ m
same_number t n m h k = sym h.1 ∙ k.1

pub same_made : (t : List ℕ) (n m : ℕ) → IsMadeCount t n → IsMadeCount t m → n ≡ m
same_made t n m h k = same_number t n m h.0 k.0

pub same_file : (t f g : List ℕ) → IsFile t f → IsFile t g → f ≡ g
same_file t f g h k = h ∙ sym k

-- ---- ranges

-- the digits before a dot are determined
same_digits : (a c x y : List ℕ) → AllDigits 10 a → AllDigits 10 c → a ++ 46 ∷ x ≡ c ++ 46 ∷ y → (a ≡ c) × (x ≡ y)
same_digits [] [] x y ha hc e = (refl, cons-tail 46 46 x y e)
same_digits [] (b ∷ c) x y ha hc e = absurd (dot_is_no_digit (subst (λ d. digit_value d < 10) (sym (cons-head 46 b x (c ++ 46 ∷ y) e)) hc.0))
same_digits (b ∷ a) [] x y ha hc e = absurd (dot_is_no_digit (subst (λ d. digit_value d < 10) (cons-head b 46 (a ++ 46 ∷ x) y e) ha.0))
same_digits (b ∷ a) (d ∷ c) x y ha hc e =
    let rest = same_digits a c x y ha.1 hc.1 (cons-tail b d (a ++ 46 ∷ x) (c ++ 46 ∷ y) e) in
    let head = cons-head b d (a ++ 46 ∷ x) (c ++ 46 ∷ y) e in
    (ap (λ z. z ∷ a) head ∙ ap (λ zs. d ∷ zs) rest.0, rest.1)

only_cut : (text a b : List ℕ) → AllDigits 10 a → text ≡ a ++ (codes ".." ++ b) → IsOnlyCut text a b
only_cut text a b digits split c d others is =
    let same = same_digits a c (46 ∷ b) (46 ∷ d) digits others (sym split ∙ is) in
    (same.0, cons-tail 46 46 b d same.1)

no_number : (n : ℕ) → IsNumber [] n → ⊥
no_number n number = omega (arith, number.0.0)

same_low : (a : List ℕ) (n m : ℕ) → IsLow a n → IsLow a m → n ≡ m
same_low a n m (inl h) (inl k) = h.1 ∙ sym k.1
same_low a n m (inl h) (inr k) = absurd (no_number m (subst (λ t. IsNumber t m) h.0 k))
same_low a n m (inr h) (inl k) = absurd (no_number n (subst (λ t. IsNumber t n) k.0 h))
same_low a n m (inr h) (inr k) = same_number a n m h k

same_high : (b : List ℕ) (n m : Option ℕ) → IsHigh b n → IsHigh b m → n ≡ m
same_high b None None h k = refl
same_high b None (Some m) h k = absurd (no_number m (subst (λ t. IsNumber t m) h k))
same_high b (Some n) None h k = absurd (no_number n (subst (λ t. IsNumber t n) k h))
same_high b (Some n) (Some m) h k = ap Some (same_number b n m h k)

same_bounds : (a b : List ℕ) (r s : Range) → IsBounds a b r → IsBounds a b s → r ≡ s
same_bounds a b r s h k = ap (λ n. record r { low = n }) (same_low a r.low s.low h.low k.low) ∙ ap (λ n. record s { high = n }) (same_high b r.high s.high h.high k.high)

at_cut : (text a b : List ℕ) (r s : Range) → AllDigits 10 a → text ≡ a ++ (codes ".." ++ b) → IsRange text r → IsRange text s → r ≡ s
at_cut text a b r s digits split h k =
    same_bounds a b r s (bounds_of_range text a b r split (only_cut text a b digits split) h) (bounds_of_range text a b s split (only_cut text a b digits split) k)

pub same_range : (text : List ℕ) (r s : Range) → IsRange text r → IsRange text s → r ≡ s
same_range text r s (one n number e) (one m other k) = e ∙ (ap (λ x. record r { low = x; high = Some x }) (same_number text n m number other) ∙ sym k)
same_range text r s (one n number e) (between a b x y split low high k) = absurd (digits_have_no_dot a (46 ∷ b) (subst (AllDigits 10) split number.0.1))
same_range text r s (one n number e) (from a x split low k) = absurd (digits_have_no_dot a (46 ∷ []) (subst (AllDigits 10) split number.0.1))
same_range text r s (one n number e) (up_to b y split high k) = absurd (digits_have_no_dot [] (46 ∷ b) (subst (AllDigits 10) split number.0.1))
same_range text r s (between a b n m split low high e) h = at_cut text a b r s low.0.1 split (between a b n m split low high e) h
same_range text r s (from a n split low e) h = at_cut text a [] r s low.0.1 split (from a n split low e) h
same_range text r s (up_to b m split high e) h = at_cut text [] b r s tt split (up_to b m split high e) h

-- ---- formats

same_pieces : (p q : List Piece) → flat_map piece_text p ≡ flat_map piece_text q → p ≡ q
same_pieces [] [] e = refl
same_pieces [] (y ∷ q) e = absurd (none-some (y, flat_map piece_text q) (ap first_piece e ∙ first_of_text y (flat_map piece_text q)))
same_pieces (x ∷ p) [] e = absurd (none-some (x, flat_map piece_text p) (ap first_piece (sym e) ∙ first_of_text x (flat_map piece_text p)))
same_pieces (x ∷ p) (y ∷ q) e =
    let same = same_Some (x, flat_map piece_text p) (y, flat_map piece_text q) (sym (first_of_text x (flat_map piece_text p)) ∙ (ap first_piece e ∙ first_of_text y (flat_map piece_text q))) in
    ap (λ z. z ∷ p) (ap (λ (z : Piece × List ℕ). z.0) same) ∙ ap (λ zs. y ∷ zs) (same_pieces p q (ap (λ (z : Piece × List ℕ). z.1) same))

pub same_format : (text : List ℕ) (p q : List Piece) → IsFormat text p → IsFormat text q → p ≡ q
same_format text p q h k = same_pieces p q (sym h ∙ k)

-- ---- propositions to hide

apart : (n : ℕ) → n ≡ 48 → n ≡ 49 → ⊥
apart n first second = omega arith

same_way : (h k : Hide) → suffix h ≡ suffix k → h ≡ k
same_way Any Any e = refl
same_way Any Absent e = cc
same_way Any Present e = cc
same_way Absent Any e = cc
same_way Absent Absent e = refl
same_way Absent Present e = absurd (apart 48 refl (cons-head 48 49 [] [] (cons-tail 61 61 (48 ∷ []) (49 ∷ []) e)))
same_way Present Any e = cc
same_way Present Absent e = absurd (apart 48 refl (sym (cons-head 49 48 [] [] (cons-tail 61 61 (49 ∷ []) (48 ∷ []) e))))
same_way Present Present e = refl

pub same_hidden : (text : List ℕ) (h k : Hidden) → IsHideOption text h → IsHideOption text k → h ≡ k
same_hidden text h k is other =
    let front = one_front text (Name h.name) (Name k.name) (suffix h.how) (suffix k.how) is other in
    let name : h.name ≡ k.name = cc (front.0) in
    let how = same_way h.how k.how front.1 in
    ap (λ n. hidden n h.how) name ∙ ap (λ w. hidden k.name w) how
  where
    hidden : List ℕ → Hide → Hidden
    hidden n w = record { name = n; how = w }

-- ---- what is printed

pub same_output : (o u : Output) → figures o ≡ figures u → refuted o ≡ refuted u → o ≡ u
same_output Hoa Hoa f r = refl
same_output Hoa (Stats q) f r = absurd (none-some q f)
same_output Hoa (Refute b) f r = absurd (none-some b r)
same_output (Stats p) Hoa f r = absurd (none-some p (sym f))
same_output (Stats p) (Stats q) f r = ap Stats (same_Some p q f)
same_output (Stats p) (Refute b) f r = absurd (none-some p (sym f))
same_output (Refute a) Hoa f r = absurd (none-some a (sym r))
same_output (Refute a) (Stats q) f r = absurd (none-some q f)
same_output (Refute a) (Refute b) f r = ap Refute (same_Some a b r)

-- ---- patterns

pub same_pattern : ((text : List ℕ) → OneReading text) → (values : List (List ℕ)) (x y : Option Pattern) → ReadsOption IsPattern values x → ReadsOption IsPattern values y
    → option_map word_pattern x ≡ option_map word_pattern y
same_pattern law [] None None h k = refl
same_pattern law [] None (Some y) h k = absurd k
same_pattern law [] (Some x) y h k = absurd h
same_pattern law (v ∷ []) None y h k = absurd h
same_pattern law (v ∷ []) (Some x) None h k = absurd k
same_pattern law (v ∷ []) (Some x) (Some y) h k = ap Some ((law v).pattern (word_pattern x) (word_pattern y) h k)
same_pattern law (v ∷ w ∷ ws) None y h k = absurd h
same_pattern law (v ∷ w ∷ ws) (Some x) y h k = absurd h
