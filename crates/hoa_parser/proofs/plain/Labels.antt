-- Labels in front of bytes.
use Rattle.std.proofs.Common.{◌≡◌, ℕ, ◌≤◌, List, [], ◌∷◌, ◌++◌, length, lit≤, refl, sym, ap, subst, ◌∙◌}
use Rattle.std.specs.Prelude.{codes}
use Rattle.std.proofs.lemmas.List.{append-nil, append_assoc}
use Rattle.aut_base.specs.declared.limit.TheConstants.{MOST_DEPTH}
use Rattle.hoa_lexer.specs.Spelling.{IsDelimited, IsIdentifier}
use Rattle.hoa_lexer.specs.Text.{IsFront}
use Rattle.hoa_lexer.specs.inner.Steps.{PassesBlanks}
use Rattle.hoa_lexer.specs.declared.token.Token.{Token}
use Rattle.hoa_lexer.specs.declared.token.Token.TheVariants as token
use Rattle.hoa_lexer.proofs.next_token.Fronts.{skips_none}
use Rattle.hoa_lexer.proofs.spelling.FirstBytes.{mark_front}
use Rattle.hoa_parser.specs.Phrases.{Label, Lands, Lnot, Lnots, LabelWithin, LandsWithin, LnotWithin, LnotsWithin, and_lnot, raw_conjunction, disjunction, false_label, group, label, label_tokens}
use Rattle.hoa_parser.specs.Phrases.{lands_meaning, lands_tokens, lnot_meaning, lnot_tokens, lnots_meaning, lnots_tokens, negated, no_land, no_lnot, or_land, proposition, true_label}
use Rattle.hoa_parser.specs.inner.RuleReads.{LandPhrase, LandWithin, land_meaning, land_tokens}
use Rattle.hoa_parser.specs.Raw as raw
use Rattle.hoa_parser.specs.Raw.{RawTree, all_literals, raw_all, raw_list, raw_tree}
use Rattle.hoa_parser.specs.declared.raw.RawLabel.{RawLabel}
use Rattle.hoa_parser.specs.declared.raw.RawLabels.{RawLabels}
use Rattle.hoa_parser.specs.inner.AtHand.{AreFactors, AreLiterals, AreMoreFactors, AreMoreLiterals, IsConjunctionText, IsFactor, IsGrouped, IsLabel, IsLiteral, IsIntText, IsSigned, Spelled}
use Rattle.hoa_parser.specs.inner.AtHand.{AreLiteralsBehind, IsLiteralOf, ShallowLnots, factors_meaning, literals_meaning}
use Rattle.hoa_parser.proofs.plain.Passing.{spelled_then}
use Rattle.hoa_parser.proofs.plain.Signs.{same_tokens, sign_alone, sign_then, spelled_length}

pub number_label : (l : RawLabel) (n : ℕ) (x y : List ℕ) → raw_tree l ≡ raw.Prop n → IsIntText n x y → IsLiteral l x y
number_label l n x y is s = record { phrase = proposition n; within = λ d m. tt; spelled = s; means = is }

pub negated_label : (l : RawLabel) (n b : ℕ) (w x y : List ℕ) → raw_tree l ≡ raw.Not (raw.Prop n) → w ≡ b ∷ x → b ≡ 33 → IsIntText n x y → IsLiteral l w y
negated_label l n b w x y is first bang s = subst (λ (v : List ℕ). IsLiteral l v y) (sym first) (record {
  phrase = negated (proposition n);
  within = λ d m. (m, tt);
  spelled = (b ∷ x, x, skips_none (b ∷ x), mark_front token.Bang b x bang, s);
  means = is;
})

letter : (word : List ℕ) (b : ℕ) (x : List ℕ) → word ≡ b ∷ [] → IsIdentifier word → IsDelimited (token.Identifier word) x → IsFront (b ∷ x) (token.Identifier word) x
letter word b x is identifier ends = record { word = word; split = ap (λ w. w ++ x) (sym is); spells = (identifier, refl); ends = ends }

pub true_front : (l : RawLabel) (b : ℕ) (w x y : List ℕ) → raw_tree l ≡ raw.True → w ≡ b ∷ x → b ≡ 116 → IsDelimited (token.Identifier (codes "t")) x → PassesBlanks x y → IsLiteral l w y
true_front l b w x y is first same ends s = subst (λ (v : List ℕ). IsLiteral l v y) (sym first) (record {
  phrase = true_label;
  within = λ d m. tt;
  spelled = (b ∷ x, x, skips_none (b ∷ x), letter (codes "t") b x (ap (λ c. c ∷ []) (sym same)) (refl, refl) ends, s);
  means = is;
})

pub false_front : (l : RawLabel) (b : ℕ) (w x y : List ℕ) → raw_tree l ≡ raw.False → w ≡ b ∷ x → b ≡ 102 → IsDelimited (token.Identifier (codes "f")) x → PassesBlanks x y → IsLiteral l w y
false_front l b w x y is first same ends s = subst (λ (v : List ℕ). IsLiteral l v y) (sym first) (record {
  phrase = false_label;
  within = λ d m. tt;
  spelled = (b ∷ x, x, skips_none (b ∷ x), letter (codes "f") b x (ap (λ c. c ∷ []) (sym same)) (refl, refl) ends, s);
  means = is;
})

-- one more at the end
abbrev lnots_and : Lnots → Lnot → Lnots
lnots_and no_lnot g = and_lnot g no_lnot
lnots_and (and_lnot f fs) g = and_lnot f (lnots_and fs g)

lnots_and_tokens : (fs : Lnots) (g : Lnot) → lnots_tokens fs ++ (token.Amp ∷ lnot_tokens g) ≡ lnots_tokens (lnots_and fs g)
lnots_and_tokens no_lnot g = ap (λ ts. token.Amp ∷ ts) (sym (append-nil (lnot_tokens g)))
lnots_and_tokens (and_lnot f fs) g =
    ap (λ ts. token.Amp ∷ ts) (append_assoc (lnot_tokens f) (lnots_tokens fs) (token.Amp ∷ lnot_tokens g) ∙ ap (λ ts. lnot_tokens f ++ ts) (lnots_and_tokens fs g))

lnots_and_meaning : (fs : Lnots) (g : Lnot) → lnots_meaning fs ++ lnot_meaning g ∷ [] ≡ lnots_meaning (lnots_and fs g)
lnots_and_meaning no_lnot g = refl
lnots_and_meaning (and_lnot f fs) g = ap (λ ts. lnot_meaning f ∷ ts) (lnots_and_meaning fs g)

lnots_and_within : (d : ℕ) (fs : Lnots) (g : Lnot) → LnotsWithin MOST_DEPTH d fs → LnotWithin MOST_DEPTH d g → LnotsWithin MOST_DEPTH d (lnots_and fs g)
lnots_and_within d no_lnot g w v = (v, tt)
lnots_and_within d (and_lnot f fs) g w v = (w.0, lnots_and_within d fs g w.1 v)

abbrev lands_or : Lands → LandPhrase → Lands
lands_or no_land p = or_land p.first p.others no_land
lands_or (or_land f fs ls) p = or_land f fs (lands_or ls p)

lands_or_tokens : (ls : Lands) (p : LandPhrase) → lands_tokens ls ++ (token.Bar ∷ land_tokens p) ≡ lands_tokens (lands_or ls p)
lands_or_tokens no_land p = ap (λ ts. token.Bar ∷ (lnot_tokens p.first ++ ts)) (sym (append-nil (lnots_tokens p.others)))
lands_or_tokens (or_land f fs ls) p =
    ap (λ ts. token.Bar ∷ ts) (append_assoc (lnot_tokens f) (lnots_tokens fs ++ lands_tokens ls) (token.Bar ∷ land_tokens p)
    ∙ ap (λ ts. lnot_tokens f ++ ts) (append_assoc (lnots_tokens fs) (lands_tokens ls) (token.Bar ∷ land_tokens p) ∙ ap (λ ts. lnots_tokens fs ++ ts) (lands_or_tokens ls p)))

lands_or_meaning : (ls : Lands) (p : LandPhrase) → lands_meaning ls ++ land_meaning p ∷ [] ≡ lands_meaning (lands_or ls p)
lands_or_meaning no_land p = refl
lands_or_meaning (or_land f fs ls) p = ap (λ ts. raw_conjunction (lnot_meaning f) (lnots_meaning fs) ∷ ts) (lands_or_meaning ls p)

lands_or_within : (ls : Lands) (p : LandPhrase) → LandsWithin MOST_DEPTH 0 ls → LandWithin 0 p → LandsWithin MOST_DEPTH 0 (lands_or ls p)
lands_or_within no_land p w v = (v.0, v.1, tt)
lands_or_within (or_land f fs ls) p w v = (w.0, w.1, lands_or_within ls p w.2 v)

-- a conjunction, part by part
pub one_literal : (l : RawLabel) (x y : List ℕ) → IsLiteral l x y → AreLiterals (raw_tree l ∷ []) x y
one_literal l x y s = record {
  phrase = record { first = s.phrase; others = no_lnot };
  within = λ d m. (s.within d m, tt);
  spelled = same_tokens (lnot_tokens s.phrase) (lnot_tokens s.phrase ++ []) x y (sym (append-nil (lnot_tokens s.phrase))) s.spelled;
  means = ap (λ t. t ∷ []) s.means;
}

pub literals_and : (us vs : List RawTree) (l : RawLabel) (x y z w : List ℕ) → vs ≡ us ++ raw_tree l ∷ [] → AreLiterals us x y → IsSigned 38 y z → IsLiteral l z w → AreLiterals vs x w
literals_and us vs l x y z w is s sign k =
    let p : LandPhrase = s.phrase in
    record {
      phrase = record { first = p.first; others = lnots_and p.others k.phrase };
      within = λ d m. ((s.within d m).0, lnots_and_within d p.others k.phrase (s.within d m).1 (k.within d m));
      spelled = same_tokens (land_tokens p ++ (token.Amp ∷ lnot_tokens k.phrase)) (lnot_tokens p.first ++ lnots_tokens (lnots_and p.others k.phrase)) x w
          (append_assoc (lnot_tokens p.first) (lnots_tokens p.others) (token.Amp ∷ lnot_tokens k.phrase) ∙ ap (λ ts. lnot_tokens p.first ++ ts) (lnots_and_tokens p.others k.phrase))
          (spelled_then (land_tokens p) (token.Amp ∷ lnot_tokens k.phrase) x y w s.spelled (sign_then token.Amp 38 (lnot_tokens k.phrase) y z w refl sign k.spelled));
      means = is ∙ ap (λ ts. ts ++ raw_tree l ∷ []) s.means ∙ ap (λ t. literals_meaning p ++ t ∷ []) k.means
          ∙ ap (λ ts. lnot_meaning p.first ∷ ts) (lnots_and_meaning p.others k.phrase);
    }

pub one_conjunction : (l : RawLabel) (x y : List ℕ) → IsLiteral l x y → IsConjunctionText l x y
one_conjunction l x y s = record {
  phrase = record { first = s.phrase; others = no_lnot };
  within = λ d m. (s.within d m, tt);
  spelled = same_tokens (lnot_tokens s.phrase) (lnot_tokens s.phrase ++ []) x y (sym (append-nil (lnot_tokens s.phrase))) s.spelled;
  means = s.means;
}

pub conjunction_more : (f l : RawLabel) (x y z w : List ℕ) → IsLiteral f x y → IsSigned 38 y z → AreMoreLiterals (raw_tree f) l z w → IsConjunctionText l x w
conjunction_more f l x y z w s sign k = record {
  phrase = record { first = s.phrase; others = and_lnot k.phrase.first k.phrase.others };
  within = λ d m. (s.within d m, k.within d m);
  spelled = spelled_then (lnot_tokens s.phrase) (token.Amp ∷ land_tokens k.phrase) x y w s.spelled (sign_then token.Amp 38 (land_tokens k.phrase) y z w refl sign k.spelled);
  means = k.means ∙ ap (λ t. raw_conjunction t (literals_meaning k.phrase)) s.means;
}

-- a conjunction in parentheses, or without
pub grouped : (l : RawLabel) (x y z : List ℕ) → IsConjunctionText l x y → IsSigned 41 y z → IsGrouped l x z
grouped l x y z s sign = record {
  phrase = s.phrase;
  within = s.within;
  spelled = spelled_then (land_tokens s.phrase) (token.RightParen ∷ []) x y z s.spelled (sign_alone token.RightParen 41 y z refl sign);
  means = s.means;
}

pub group_factor : (l : RawLabel) (x y z : List ℕ) → IsSigned 40 x y → IsGrouped l y z → IsFactor l x z
group_factor l x y z sign s =
    let p : LandPhrase = s.phrase in
    let ts : List Token = land_tokens p ++ token.RightParen ∷ [] in
    record {
      phrase = record { first = group (label p.first p.others no_land); others = no_lnot };
      within = ((lit≤ tt, ((s.within 1 (lit≤ tt)).0, (s.within 1 (lit≤ tt)).1, tt)), tt);
      spelled = same_tokens (token.LeftParen ∷ ts) (lnot_tokens (group (label p.first p.others no_land)) ++ []) x z
          (ap (λ us. token.LeftParen ∷ ((lnot_tokens p.first ++ us) ++ token.RightParen ∷ [])) (sym (append-nil (lnots_tokens p.others)))
          ∙ sym (append-nil (lnot_tokens (group (label p.first p.others no_land)))))
          (sign_then token.LeftParen 40 ts x y z refl sign s.spelled);
      means = s.means;
    }

-- a disjunction, part by part
pub one_factor : (l : RawLabel) (x y : List ℕ) → IsFactor l x y → AreFactors (raw_tree l ∷ []) x y
one_factor l x y s = record {
  phrase = label s.phrase.first s.phrase.others no_land;
  within = (s.within.0, s.within.1, tt);
  spelled = same_tokens (land_tokens s.phrase) (label_tokens (label s.phrase.first s.phrase.others no_land)) x y
      (ap (λ us. lnot_tokens s.phrase.first ++ us) (sym (append-nil (lnots_tokens s.phrase.others)))) s.spelled;
  means = ap (λ t. t ∷ []) s.means;
}

abbrev label_or : Label → LandPhrase → Label
label_or (label f fs ls) p = label f fs (lands_or ls p)

label_or_tokens : (l : Label) (p : LandPhrase) → label_tokens l ++ (token.Bar ∷ land_tokens p) ≡ label_tokens (label_or l p)
label_or_tokens (label f fs ls) p =
    append_assoc (lnot_tokens f) (lnots_tokens fs ++ lands_tokens ls) (token.Bar ∷ land_tokens p)
    ∙ ap (λ ts. lnot_tokens f ++ ts) (append_assoc (lnots_tokens fs) (lands_tokens ls) (token.Bar ∷ land_tokens p) ∙ ap (λ ts. lnots_tokens fs ++ ts) (lands_or_tokens ls p))

label_or_meaning : (l : Label) (p : LandPhrase) → factors_meaning l ++ land_meaning p ∷ [] ≡ factors_meaning (label_or l p)
label_or_meaning (label f fs ls) p = ap (λ ts. raw_conjunction (lnot_meaning f) (lnots_meaning fs) ∷ ts) (lands_or_meaning ls p)

label_or_within : (l : Label) (p : LandPhrase) → LabelWithin MOST_DEPTH 0 l → LandWithin 0 p → LabelWithin MOST_DEPTH 0 (label_or l p)
label_or_within (label f fs ls) p w v = (w.0, w.1, lands_or_within ls p w.2 v)

pub factors_or : (us vs : List RawTree) (l : RawLabel) (x y z w : List ℕ) → vs ≡ us ++ raw_tree l ∷ [] → AreFactors us x y → IsSigned 124 y z → IsFactor l z w → AreFactors vs x w
factors_or us vs l x y z w is s sign k = record {
  phrase = label_or s.phrase k.phrase;
  within = label_or_within s.phrase k.phrase s.within k.within;
  spelled = same_tokens (label_tokens s.phrase ++ (token.Bar ∷ land_tokens k.phrase)) (label_tokens (label_or s.phrase k.phrase)) x w (label_or_tokens s.phrase k.phrase)
      (spelled_then (label_tokens s.phrase) (token.Bar ∷ land_tokens k.phrase) x y w s.spelled (sign_then token.Bar 124 (land_tokens k.phrase) y z w refl sign k.spelled));
  means = is ∙ ap (λ ts. ts ++ raw_tree l ∷ []) s.means ∙ ap (λ t. factors_meaning s.phrase ++ t ∷ []) k.means ∙ label_or_meaning s.phrase k.phrase;
}

pub one_label : (l : RawLabel) (x y : List ℕ) → IsFactor l x y → IsLabel l x y
one_label l x y s = record {
  phrase = label s.phrase.first s.phrase.others no_land;
  within = (s.within.0, s.within.1, tt);
  spelled = same_tokens (land_tokens s.phrase) (label_tokens (label s.phrase.first s.phrase.others no_land)) x y
      (ap (λ us. lnot_tokens s.phrase.first ++ us) (sym (append-nil (lnots_tokens s.phrase.others)))) s.spelled;
  means = s.means;
}

label_with : (f l : RawLabel) (q : Label) (x y z w : List ℕ) → IsFactor f x y → IsSigned 124 y z → LabelWithin MOST_DEPTH 0 q → Spelled z (label_tokens q) w
    → raw_tree l ≡ disjunction (raw_tree f) (factors_meaning q) → IsLabel l x w
label_with f l (label g gs ls) x y z w s sign v k is = record {
  phrase = label s.phrase.first s.phrase.others (or_land g gs ls);
  within = (s.within.0, s.within.1, v);
  spelled = same_tokens (land_tokens s.phrase ++ (token.Bar ∷ label_tokens (label g gs ls))) (label_tokens (label s.phrase.first s.phrase.others (or_land g gs ls))) x w
      (append_assoc (lnot_tokens s.phrase.first) (lnots_tokens s.phrase.others) (token.Bar ∷ label_tokens (label g gs ls)))
      (spelled_then (land_tokens s.phrase) (token.Bar ∷ label_tokens (label g gs ls)) x y w s.spelled (sign_then token.Bar 124 (label_tokens (label g gs ls)) y z w refl sign k));
  means = is ∙ ap (λ t. disjunction t (factors_meaning (label g gs ls))) s.means;
}

pub label_more : (f l : RawLabel) (x y z w : List ℕ) → IsFactor f x y → IsSigned 124 y z → AreMoreFactors (raw_tree f) l z w → IsLabel l x w
label_more f l x y z w s sign k = label_with f l k.phrase x y z w s sign k.within k.spelled k.means

-- the parts behind a first one, and what is written of them
pub record Parted (Are : List RawTree → List ℕ → List ℕ → Type 0) (first : RawTree) (parts : RawLabels) (x y : List ℕ) : Type 0 where
  pub trees : List RawTree
  pub list : raw_list parts ≡ first ∷ trees
  pub are : Are trees x y

pub literals_pair : (first : RawTree) (parts : RawLabels) (l : RawLabel) (x y : List ℕ) → raw_list parts ≡ first ∷ raw_tree l ∷ [] → IsLiteral l x y → Parted AreLiterals first parts x y
literals_pair first parts l x y list s = record { trees = raw_tree l ∷ []; list = list; are = one_literal l x y s }

pub factors_pair : (first : RawTree) (parts : RawLabels) (l : RawLabel) (x y : List ℕ) → raw_list parts ≡ first ∷ raw_tree l ∷ [] → IsFactor l x y → Parted AreFactors first parts x y
factors_pair first parts l x y list s = record { trees = raw_tree l ∷ []; list = list; are = one_factor l x y s }

pub literals_push : (first : RawTree) (parts more : RawLabels) (l : RawLabel) (x y z w : List ℕ) → raw_list more ≡ raw_list parts ++ raw_tree l ∷ [] → Parted AreLiterals first parts x y
    → IsSigned 38 y z → IsLiteral l z w → Parted AreLiterals first more x w
literals_push first parts more l x y z w is s sign k = record {
  trees = s.trees ++ raw_tree l ∷ [];
  list = is ∙ ap (λ ts. ts ++ raw_tree l ∷ []) s.list;
  are = literals_and s.trees (s.trees ++ raw_tree l ∷ []) l x y z w refl s.are sign k;
}

pub factors_push : (first : RawTree) (parts more : RawLabels) (l : RawLabel) (x y z w : List ℕ) → raw_list more ≡ raw_list parts ++ raw_tree l ∷ [] → Parted AreFactors first parts x y
    → IsSigned 124 y z → IsFactor l z w → Parted AreFactors first more x w
factors_push first parts more l x y z w is s sign k = record {
  trees = s.trees ++ raw_tree l ∷ [];
  list = is ∙ ap (λ ts. ts ++ raw_tree l ∷ []) s.list;
  are = factors_or s.trees (s.trees ++ raw_tree l ∷ []) l x y z w refl s.are sign k;
}

-- what stands behind is no longer
pub literal_length : (l : RawLabel) (x y : List ℕ) → IsLiteral l x y → length y ≤ length x
literal_length l x y s = spelled_length (lnot_tokens s.phrase) x y s.spelled

pub factor_length : (l : RawLabel) (x y : List ℕ) → IsFactor l x y → length y ≤ length x
factor_length l x y s = spelled_length (land_tokens s.phrase) x y s.spelled

-- the literals of a cube, which are some and those that are written behind them
pub record Cubed (before : List RawTree) (names values : ℕ) (x y : List ℕ) : Type 0 where
  pub phrase : Lnots
  pub within : ShallowLnots phrase
  pub spelled : Spelled x (lnots_tokens phrase) y
  pub list : all_literals names values ≡ before ++ lnots_meaning phrase

pub cube_none : (before : List RawTree) (names values : ℕ) (x : List ℕ) → before ≡ all_literals names values → Cubed before names values x x
cube_none before names values x is = record { phrase = no_lnot; within = λ d m. tt; spelled = skips_none x; list = sym is ∙ sym (append-nil before) }

pub cube_push : (before : List RawTree) (n v m w : ℕ) (t : RawTree) (x y z u : List ℕ) → all_literals m w ≡ all_literals n v ++ t ∷ [] → Cubed before n v x y
    → IsSigned 38 y z → IsLiteralOf t z u → Cubed before m w x u
cube_push before n v m w t x y z u is s sign k = record {
  phrase = lnots_and s.phrase k.phrase;
  within = λ d m. lnots_and_within d s.phrase k.phrase (s.within d m) (k.within d m);
  spelled = same_tokens (lnots_tokens s.phrase ++ (token.Amp ∷ lnot_tokens k.phrase)) (lnots_tokens (lnots_and s.phrase k.phrase)) x u (lnots_and_tokens s.phrase k.phrase)
      (spelled_then (lnots_tokens s.phrase) (token.Amp ∷ lnot_tokens k.phrase) x y u s.spelled (sign_then token.Amp 38 (lnot_tokens k.phrase) y z u refl sign k.spelled));
  list = is ∙ (ap (λ ts. ts ++ t ∷ []) s.list ∙ (append_assoc before (lnots_meaning s.phrase) (t ∷ [])
      ∙ ap (λ ts. before ++ ts) (ap (λ a. lnots_meaning s.phrase ++ a ∷ []) k.means ∙ lnots_and_meaning s.phrase k.phrase)));
}

pub cube_whole : (before : List RawTree) (n v : ℕ) (l : RawLabel) (x y : List ℕ) → raw_tree l ≡ raw_all (all_literals n v) → Cubed before n v x y → AreLiteralsBehind before l x y
cube_whole before n v l x y is s = record { phrase = s.phrase; within = s.within; spelled = s.spelled; means = is ∙ ap raw_all s.list }

-- a first literal, a second one, and those behind them
pub cube_more : (first one two : RawTree) (none ones twos : List RawTree) (l : RawLabel) (x y z : List ℕ) → first ≡ one → none ≡ [] → ones ≡ none ++ one ∷ [] → twos ≡ ones ++ two ∷ []
    → IsLiteralOf two x y → AreLiteralsBehind twos l y z → AreMoreLiterals first l x z
cube_more first one two none ones twos l x y z is zero_of one_of two_of k s = record {
  phrase = record { first = k.phrase; others = s.phrase };
  within = λ d m. (k.within d m, s.within d m);
  spelled = spelled_then (lnot_tokens k.phrase) (lnots_tokens s.phrase) x y z k.spelled s.spelled;
  means = s.means ∙ (ap (λ ts. raw_all (ts ++ lnots_meaning s.phrase)) (two_of ∙ ap (λ ts. ts ++ two ∷ []) (one_of ∙ ap (λ ts. ts ++ one ∷ []) zero_of))
      ∙ (ap (λ t. raw_all (t ∷ two ∷ lnots_meaning s.phrase)) (sym is) ∙ ap (λ t. raw_all (first ∷ t ∷ lnots_meaning s.phrase)) k.means));
}

-- a literal by its proposition
pub number_literal : (n : ℕ) (x y : List ℕ) → IsIntText n x y → IsLiteralOf (raw.Prop n) x y
number_literal n x y s = record { phrase = proposition n; within = λ d m. tt; spelled = s; means = refl }

pub negated_literal : (n : ℕ) (x y z : List ℕ) → IsSigned 33 x y → IsIntText n y z → IsLiteralOf (raw.Not (raw.Prop n)) x z
negated_literal n x y z sign s = record {
  phrase = negated (proposition n);
  within = λ d m. (m, tt);
  spelled = sign_then token.Bang 33 (token.Int n ∷ []) x y z refl sign s;
  means = refl;
}

pub literal_of_length : (t : RawTree) (x y : List ℕ) → IsLiteralOf t x y → length y ≤ length x
literal_of_length t x y s = spelled_length (lnot_tokens s.phrase) x y s.spelled
