-- A label is written down as a phrase of the grammar, which opens no more than any other that means the same.
use Rattle.std.proofs.Common.{◌≡◌, List, [], ◌∷◌, ◌++◌, refl, ◌∙◌, ap}
use Rattle.std.proofs.Math.Path.{ap₂}
use Rattle.std.proofs.lemmas.List.{append_assoc, append-nil}
use Rattle.hoa_lexer.specs.declared.token.Token.{Token}
use Rattle.hoa_lexer.specs.declared.token.Token.TheVariants.{Bang, Amp, Bar, LeftParen, RightParen}
use Rattle.hoa_parser.specs.Phrases.{Label, Lands, Lnot, Lnots, raw_conjunction, label_meaning, label_tokens, lands_meaning, lands_tokens, lnot_meaning, lnot_tokens, lnots_meaning, lnots_tokens}
use Rattle.hoa_parser.specs.Phrases.Label.{label}
use Rattle.hoa_parser.specs.Phrases.Lands.{no_land, or_land}
use Rattle.hoa_parser.specs.Phrases.Lnots.{no_lnot, and_lnot}
use Rattle.hoa_parser.specs.Phrases.Lnot.{true_label, false_label, proposition, alias, negated, group}
use Rattle.hoa_parser.specs.Raw as raw
use Rattle.hoa_parser.specs.Raw.{RawTree, RawTrees, raw_trees}
use Rattle.hoa_parser.proofs.grammar.JoinedParts.{ap₃}
use Rattle.hoa_parser.specs.WrittenDown.{label_tokens_at, written_factors, written_products}
use Rattle.hoa_parser.specs.WrittenDown.Cursor.{Alone, InOr, InAnd}

-- the factors of a phrase, where a product in parentheses is taken out of them, and the label that it is alone
abbrev first_of : Lnot → Lnot
first_of (group (label f fs no_land)) = f
first_of f = f

abbrev others_of : Lnot → Lnots
others_of (group (label f fs no_land)) = fs
others_of f = no_lnot

abbrev label_of : Lnot → Label
label_of (group l) = l
label_of f = label f no_lnot no_land

-- the phrases of a tree between `&`, between `|` (a first factor and more), and alone
abbrev mutual
  pub plain_lnot : RawTree → Lnot
  plain_lnot raw.True = true_label
  plain_lnot raw.False = false_label
  plain_lnot (raw.Prop i) = proposition i
  plain_lnot (raw.Alias name) = alias name
  plain_lnot (raw.Not t) = negated (plain_lnot t)
  plain_lnot (raw.And t u ts) = group (label (plain_lnot t) (and_lnot (plain_lnot u) (plain_lnots ts)) no_land)
  plain_lnot (raw.Or t u ts) = group (label (first_of (plain_lnot t)) (others_of (plain_lnot t)) (or_land (first_of (plain_lnot u)) (others_of (plain_lnot u)) (plain_lands ts)))

  pub plain_lnots : RawTrees → Lnots
  plain_lnots raw.none = no_lnot
  plain_lnots (raw.more t ts) = and_lnot (plain_lnot t) (plain_lnots ts)

  pub plain_lands : RawTrees → Lands
  plain_lands raw.none = no_land
  plain_lands (raw.more t ts) = or_land (first_of (plain_lnot t)) (others_of (plain_lnot t)) (plain_lands ts)

abbrev pub plain_first : RawTree → Lnot
plain_first t = first_of (plain_lnot t)

abbrev pub plain_others : RawTree → Lnots
plain_others t = others_of (plain_lnot t)

abbrev pub plain_label : RawTree → Label
plain_label t = label_of (plain_lnot t)

-- their tokens

pub and_line : (a b c x y z : List Token) → a ≡ x → b ≡ y → c ≡ z → a ++ (Amp ∷ (b ++ c) ++ []) ≡ x ++ Amp ∷ (y ++ z)
and_line a b c x y z p q r = let plain = append-nil (b ++ c) in cc

pub or_line : (a b c d e x y z : List Token) → a ++ b ≡ x → c ++ d ≡ y → e ≡ z → a ++ (b ++ (Bar ∷ (c ++ (d ++ e)))) ≡ x ++ Bar ∷ (y ++ z)
or_line a b c d e x y z p q r =
    let first = append_assoc a b (Bar ∷ (c ++ (d ++ e))) in
    let second = append_assoc c d e in
    cc

pub more_line : (c d e y z : List Token) → c ++ d ≡ y → e ≡ z → Bar ∷ (c ++ (d ++ e)) ≡ Bar ∷ (y ++ z)
more_line c d e y z p q = let first = append_assoc c d e in cc

pub in_group : (a x : List Token) → a ≡ x → LeftParen ∷ (a ++ RightParen ∷ []) ≡ LeftParen ∷ (x ++ RightParen ∷ [])
in_group a x e = ap (λ w. LeftParen ∷ (w ++ RightParen ∷ [])) e

mutual
  lnot_spells : (t : RawTree) → lnot_tokens (plain_lnot t) ≡ label_tokens_at InAnd t
  lnot_spells raw.True = refl
  lnot_spells raw.False = refl
  lnot_spells (raw.Prop i) = refl
  lnot_spells (raw.Alias name) = refl
  lnot_spells (raw.Not t) = ap (λ w. Bang ∷ w) (lnot_spells t)
  lnot_spells (raw.And t u ts) = in_group _ _ (and_line _ _ _ _ _ _ (lnot_spells t) (lnot_spells u) (lnots_spells ts))
  lnot_spells (raw.Or t u ts) = in_group _ _ (or_line _ _ _ _ _ _ _ _ (land_spells t) (land_spells u) (lands_spells ts))

  land_spells : (t : RawTree) → lnot_tokens (plain_first t) ++ lnots_tokens (plain_others t) ≡ label_tokens_at InOr t
  land_spells raw.True = refl
  land_spells raw.False = refl
  land_spells (raw.Prop i) = refl
  land_spells (raw.Alias name) = refl
  land_spells (raw.Not t) = append-nil (Bang ∷ lnot_tokens (plain_lnot t)) ∙ ap (λ w. Bang ∷ w) (lnot_spells t)
  land_spells (raw.And t u ts) = ap₃ (λ x y z. x ++ Amp ∷ (y ++ z)) (lnot_spells t) (lnot_spells u) (lnots_spells ts)
  land_spells (raw.Or t u ts) = append-nil _ ∙ in_group _ _ (or_line _ _ _ _ _ _ _ _ (land_spells t) (land_spells u) (lands_spells ts))

  lnots_spells : (ts : RawTrees) → lnots_tokens (plain_lnots ts) ≡ written_factors ts
  lnots_spells raw.none = refl
  lnots_spells (raw.more t ts) = ap₂ (λ y z. Amp ∷ (y ++ z)) (lnot_spells t) (lnots_spells ts)

  lands_spells : (ts : RawTrees) → lands_tokens (plain_lands ts) ≡ written_products ts
  lands_spells raw.none = refl
  lands_spells (raw.more t ts) = more_line _ _ _ _ _ (land_spells t) (lands_spells ts)

pub label_spells : (t : RawTree) → label_tokens (plain_label t) ≡ label_tokens_at Alone t
label_spells raw.True = refl
label_spells raw.False = refl
label_spells (raw.Prop i) = refl
label_spells (raw.Alias name) = refl
label_spells (raw.Not t) = append-nil (Bang ∷ lnot_tokens (plain_lnot t)) ∙ ap (λ w. Bang ∷ w) (lnot_spells t)
label_spells (raw.And t u ts) = and_line _ _ _ _ _ _ (lnot_spells t) (lnot_spells u) (lnots_spells ts)
label_spells (raw.Or t u ts) = or_line _ _ _ _ _ _ _ _ (land_spells t) (land_spells u) (lands_spells ts)

-- what they mean, which is the same between `|` and alone as between `&`

first_means : (t : RawTree) → raw_conjunction (lnot_meaning (plain_first t)) (lnots_meaning (plain_others t)) ≡ lnot_meaning (plain_lnot t)
first_means raw.True = refl
first_means _ = refl

mutual
  lnot_means : (t : RawTree) → lnot_meaning (plain_lnot t) ≡ t
  lnot_means (raw.Not t) = ap raw.Not (lnot_means t)
  lnot_means (raw.And t u ts) = ap₃ raw.And (lnot_means t) (lnot_means u) (lnots_mean ts)
  lnot_means (raw.Or t u ts) = ap₃ raw.Or (first_means t ∙ lnot_means t) (first_means u ∙ lnot_means u) (lands_mean ts)
  lnot_means _ = refl

  lnots_mean : (ts : RawTrees) → raw_trees (lnots_meaning (plain_lnots ts)) ≡ ts
  lnots_mean raw.none = refl
  lnots_mean (raw.more t ts) = ap₂ raw.more (lnot_means t) (lnots_mean ts)

  lands_mean : (ts : RawTrees) → raw_trees (lands_meaning (plain_lands ts)) ≡ ts
  lands_mean raw.none = refl
  lands_mean (raw.more t ts) = ap₂ raw.more (first_means t ∙ lnot_means t) (lands_mean ts)

pub label_means : (t : RawTree) → label_meaning (plain_label t) ≡ t
label_means raw.True = refl
label_means t = lnot_means t
