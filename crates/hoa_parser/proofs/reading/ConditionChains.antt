-- Chains of `&` and `|` in conditions, part by part.
use Rattle.std.proofs.Common.{◌≡◌, ℕ, ◌∷◌, ◌++◌, refl, ap, ◌∙◌}
use Rattle.std.proofs.lemmas.List.{append_assoc}
use Rattle.hoa_lexer.specs.declared.token.Token.TheVariants as token
use Rattle.hoa_parser.proofs.reading.FrontParts.{passed_then, subst_tokens}
use Rattle.hoa_parser.proofs.reading.Chains.{IsChain, chain_whole}
use Rattle.hoa_parser.specs.inner.Chains.{AddsFands, AddsFatoms}
use Rattle.hoa_parser.specs.Phrases.{FandsWithin, FatomWithin, FatomsWithin, and_fatom, formula_conjunction, formula_disjunction, condition, fands_meaning, fands_tokens}
use Rattle.hoa_parser.specs.Phrases.{fatom_meaning, fatom_tokens, fatoms_meaning, fatoms_tokens, no_fand, no_fatom, or_fand}
use Rattle.hoa_parser.specs.inner.Parsing.{Cursor}
use Rattle.hoa_parser.specs.inner.RuleReads.{IsAndFatoms, IsCondition, IsFand, IsFatom, IsOrFands, FandWithin, fand_meaning, fand_tokens}
use Rattle.aut_base.specs.Formula as formula
use Rattle.aut_base.specs.Formula.{FormulaTree, formula_parts, formula_tree, trees}
use Rattle.aut_base.specs.declared.formula.Formula.{Formula}
use Rattle.aut_base.specs.declared.formula.Formulas.{Formulas}
use Rattle.aut_base.specs.declared.limit.TheConstants.{MOST_DEPTH}

-- what their chains are
fatoms_chain : (depth : ℕ) → IsChain (FatomWithin MOST_DEPTH depth) (λ f. token.Amp ∷ fatom_tokens f) fatom_meaning (FatomsWithin MOST_DEPTH depth) fatoms_tokens fatoms_meaning
fatoms_chain depth = record {
  none = record { chain = no_fatom; within = tt; spelled = refl; means = refl };
  more = λ f ts us h c. record {
    chain = and_fatom f c.chain;
    within = (h, c.within);
    spelled = ap (λ w. token.Amp ∷ (fatom_tokens f ++ w)) c.spelled;
    means = ap (λ w. fatom_meaning f ∷ w) c.means;
  };
}

fands_chain : (depth : ℕ) → IsChain (FandWithin depth) (λ p. token.Bar ∷ fand_tokens p) fand_meaning (FandsWithin MOST_DEPTH depth) fands_tokens fands_meaning
fands_chain depth = record {
  none = record { chain = no_fand; within = tt; spelled = refl; means = refl };
  more = λ p ts us h c. record {
    chain = or_fand p.first p.others c.chain;
    within = (h.0, h.1, c.within);
    spelled = ap (λ w. token.Bar ∷ (fand_tokens p ++ w)) c.spelled ∙ ap (λ w. token.Bar ∷ w) (append_assoc (fatom_tokens p.first) (fatoms_tokens p.others) (fands_tokens c.chain));
    means = ap (λ w. fand_meaning p ∷ w) c.means;
  };
}

-- all of the parts, as one condition
pub fatoms_whole : (depth : ℕ) (first : FormulaTree) (parts : Formulas) (l : Formula) (a b : Cursor)
    → formula_tree l ≡ formula.And (formula_parts parts).first (formula_parts parts).second (trees (formula_parts parts).others) → AddsFatoms depth first parts a b → IsAndFatoms depth first l a b
fatoms_whole depth first parts l = chain_whole (fatoms_chain depth) (λ x y zs. formula.And x y (trees zs)) formula_conjunction (λ t u us. refl) (formula_parts parts).first (formula_parts parts).second
    first (formula_tree l) (formula_parts parts).others

pub fands_whole : (depth : ℕ) (first : FormulaTree) (parts : Formulas) (l : Formula) (a b : Cursor)
    → formula_tree l ≡ formula.Or (formula_parts parts).first (formula_parts parts).second (trees (formula_parts parts).others) → AddsFands depth first parts a b → IsOrFands depth first l a b
fands_whole depth first parts l = chain_whole (fands_chain depth) (λ x y zs. formula.Or x y (trees zs)) formula_disjunction (λ t u us. refl) (formula_parts parts).first
    (formula_parts parts).second first
    (formula_tree l) (formula_parts parts).others

-- a first part, and a chain behind it
pub fand_of : (depth : ℕ) (first l : Formula) (a b c : Cursor) → IsFatom depth first a b → IsAndFatoms depth (formula_tree first) l b c → IsFand depth l a c
fand_of depth first l a b c one chain = record {
  phrase = record { first = one.phrase; others = chain.phrase };
  within = (one.within, chain.within);
  passed = passed_then a b c (fatom_tokens one.phrase) (fatoms_tokens chain.phrase) one.passed chain.passed;
  means = chain.means ∙ ap (λ (t : FormulaTree). formula_conjunction t (fatoms_meaning chain.phrase)) one.means;
}

pub condition_of : (depth : ℕ) (first l : Formula) (a b c : Cursor) → IsFand depth first a b → IsOrFands depth (formula_tree first) l b c → IsCondition depth l a c
condition_of depth first l a b c one chain = record {
  phrase = condition one.phrase.first one.phrase.others chain.phrase;
  within = (one.within.0, one.within.1, chain.within);
  passed = subst_tokens a c (append_assoc (fatom_tokens one.phrase.first) (fatoms_tokens one.phrase.others) (fands_tokens chain.phrase))
      (passed_then a b c (fand_tokens one.phrase) (fands_tokens chain.phrase) one.passed chain.passed);
  means = chain.means ∙ ap (λ (t : FormulaTree). formula_disjunction t (fands_meaning chain.phrase)) one.means;
}
