-- Chains of `&` and `|` in labels, part by part.
use Rattle.std.proofs.Common.{◌≡◌, ℕ, ◌∷◌, ◌++◌, refl, ap, ◌∙◌}
use Rattle.std.proofs.lemmas.List.{append_assoc}
use Rattle.aut_base.specs.declared.limit.TheConstants.{MOST_DEPTH}
use Rattle.hoa_lexer.specs.declared.token.Token.TheVariants as token
use Rattle.hoa_parser.proofs.reading.FrontParts.{passed_then, subst_tokens}
use Rattle.hoa_parser.proofs.reading.Chains.{IsChain, chain_whole}
use Rattle.hoa_parser.specs.inner.Chains.{AddsLands, AddsLnots}
use Rattle.hoa_parser.specs.Phrases.{LandsWithin, LnotWithin, LnotsWithin, and_lnot, raw_conjunction, disjunction, label, lands_meaning, lands_tokens}
use Rattle.hoa_parser.specs.Phrases.{lnot_meaning, lnot_tokens, lnots_meaning, lnots_tokens, no_land, no_lnot, or_land}
use Rattle.hoa_parser.specs.inner.Parsing.{Cursor}
use Rattle.hoa_parser.specs.inner.RuleReads.{IsAndLnots, IsLabel, IsLand, IsLnot, IsOrLands, LandWithin, land_meaning, land_tokens}
use Rattle.hoa_parser.specs.Raw as raw
use Rattle.hoa_parser.specs.Raw.{RawTree, raw_parts, raw_tree, raw_trees}
use Rattle.hoa_parser.specs.declared.raw.RawLabel.{RawLabel}
use Rattle.hoa_parser.specs.declared.raw.RawLabels.{RawLabels}

-- what their chains are
lnots_chain : (depth : ℕ) → IsChain (LnotWithin MOST_DEPTH depth) (λ f. token.Amp ∷ lnot_tokens f) lnot_meaning (LnotsWithin MOST_DEPTH depth) lnots_tokens lnots_meaning
lnots_chain depth = record {
  none = record { chain = no_lnot; within = tt; spelled = refl; means = refl };
  more = λ f ts us h c. record {
    chain = and_lnot f c.chain;
    within = (h, c.within);
    spelled = ap (λ w. token.Amp ∷ (lnot_tokens f ++ w)) c.spelled;
    means = ap (λ w. lnot_meaning f ∷ w) c.means;
  };
}

lands_chain : (depth : ℕ) → IsChain (LandWithin depth) (λ p. token.Bar ∷ land_tokens p) land_meaning (LandsWithin MOST_DEPTH depth) lands_tokens lands_meaning
lands_chain depth = record {
  none = record { chain = no_land; within = tt; spelled = refl; means = refl };
  more = λ p ts us h c. record {
    chain = or_land p.first p.others c.chain;
    within = (h.0, h.1, c.within);
    spelled = ap (λ w. token.Bar ∷ (land_tokens p ++ w)) c.spelled ∙ ap (λ w. token.Bar ∷ w) (append_assoc (lnot_tokens p.first) (lnots_tokens p.others) (lands_tokens c.chain));
    means = ap (λ w. land_meaning p ∷ w) c.means;
  };
}

-- all of the parts, as one label
pub lnots_whole : (depth : ℕ) (first : RawTree) (parts : RawLabels) (l : RawLabel) (a b : Cursor)
    → raw_tree l ≡ raw.And (raw_parts parts).first (raw_parts parts).second (raw_trees (raw_parts parts).others) → AddsLnots depth first parts a b → IsAndLnots depth first l a b
lnots_whole depth first parts l = chain_whole (lnots_chain depth) (λ x y zs. raw.And x y (raw_trees zs)) raw_conjunction (λ t u us. refl) (raw_parts parts).first (raw_parts parts).second first
    (raw_tree l) (raw_parts parts).others

pub lands_whole : (depth : ℕ) (first : RawTree) (parts : RawLabels) (l : RawLabel) (a b : Cursor)
    → raw_tree l ≡ raw.Or (raw_parts parts).first (raw_parts parts).second (raw_trees (raw_parts parts).others) → AddsLands depth first parts a b → IsOrLands depth first l a b
lands_whole depth first parts l = chain_whole (lands_chain depth) (λ x y zs. raw.Or x y (raw_trees zs)) disjunction (λ t u us. refl) (raw_parts parts).first (raw_parts parts).second first
    (raw_tree l) (raw_parts parts).others

-- a first part, and a chain behind it
pub land_of : (depth : ℕ) (first l : RawLabel) (a b c : Cursor) → IsLnot depth first a b → IsAndLnots depth (raw_tree first) l b c → IsLand depth l a c
land_of depth first l a b c one chain = record {
  phrase = record { first = one.phrase; others = chain.phrase };
  within = (one.within, chain.within);
  passed = passed_then a b c (lnot_tokens one.phrase) (lnots_tokens chain.phrase) one.passed chain.passed;
  means = chain.means ∙ ap (λ (t : RawTree). raw_conjunction t (lnots_meaning chain.phrase)) one.means;
}

pub label_of : (depth : ℕ) (first l : RawLabel) (a b c : Cursor) → IsLand depth first a b → IsOrLands depth (raw_tree first) l b c → IsLabel depth l a c
label_of depth first l a b c one chain = record {
  phrase = label one.phrase.first one.phrase.others chain.phrase;
  within = (one.within.0, one.within.1, chain.within);
  passed = subst_tokens a c (append_assoc (lnot_tokens one.phrase.first) (lnots_tokens one.phrase.others) (lands_tokens chain.phrase))
      (passed_then a b c (land_tokens one.phrase) (lands_tokens chain.phrase) one.passed chain.passed);
  means = chain.means ∙ ap (λ (t : RawTree). disjunction t (lands_meaning chain.phrase)) one.means;
}
