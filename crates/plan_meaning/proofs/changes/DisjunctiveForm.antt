-- An automaton with its condition in disjunctive normal form.
use Rattle.std.proofs.Common.{◌≡◌, ◌∙◌, ℕ, true, List, ◌∷◌, ◌++◌, flat_map, map, refl, subst, sym}
use Rattle.std.specs.List.{AllByRecursion}
use Rattle.acc_forms.proofs.TermLaws.{met-of_terms, met-terms}
use Rattle.acc_forms.specs.Terms.{choices, each_terms, literal_formula, of_terms, pairs, terms}
use Rattle.acc_forms.specs.declared.literal.Literal.{Literal}
use Rattle.aut_base.proofs.lists.AllByRecursion.{AllByRecursion-append, AllByRecursion-flat_map, AllByRecursion-map, AllByRecursion-weaker}
use Rattle.aut_base.proofs.runs.LassoRuns.{marks_of}
use Rattle.aut_base.proofs.runs.OtherEdges.{accepts_wider}
use Rattle.aut_base.specs.Acceptance.{Accepts}
use Rattle.aut_base.specs.Automaton.{Automaton}
use Rattle.aut_base.specs.Formula.{And, EachSetsBelow, False, Fin, FormulaTree, FormulaTrees, Inf, Or, SetsBelow, True, met, more, none}
use Rattle.aut_base.specs.Word.{NameSet}
use Rattle.aut_core.specs.SymbolicAutomata.{SymbolicAutomaton, IsWellFormedSymbolic, automaton_of}
use Rattle.aut_core.specs.OtherNames.{AcceptTheSame}
use Rattle.fin_removal.proofs.Conditions.{below_parts, of_terms_holds}

-- ---- its terms have the same sets

module _ (n : ℕ) where
  abbrev TermBelow : List Literal → Type 0
  TermBelow term = AllByRecursion (λ l. SetsBelow n (literal_formula l)) term

  abbrev TermsBelow : List (List Literal) → Type 0
  TermsBelow ts = AllByRecursion TermBelow ts

  pairs_below : (ts us : List (List Literal)) → TermsBelow ts → TermsBelow us → TermsBelow (pairs ts us)
  pairs_below ts us firsts seconds =
      AllByRecursion-flat_map TermBelow (λ first. map (λ second. first ++ second) us) ts
      (AllByRecursion-weaker TermBelow (λ first. TermsBelow (map (λ second. first ++ second) us)) ts (λ first h.
      AllByRecursion-map TermBelow (λ second. first ++ second) us
      (AllByRecursion-weaker TermBelow (λ second. TermBelow (first ++ second)) us (λ second k. AllByRecursion-append (λ l. SetsBelow n (literal_formula l)) first second h k) seconds)) firsts)

  mutual
    pub terms_below : (f : FormulaTree) → SetsBelow n f → TermsBelow (terms f)
    terms_below True h = (tt, tt)
    terms_below False h = tt
    terms_below (Inf set neg) h = ((h, tt), tt)
    terms_below (Fin set neg) h = ((h, tt), tt)
    terms_below (And a b cs) h = pairs_below (terms a) (choices (terms b ∷ each_terms cs)) (terms_below a h.0)
        (pairs_below (terms b) (choices (each_terms cs)) (terms_below b h.1) (choices_below cs h.2))
    terms_below (Or a b cs) h = AllByRecursion-append TermBelow (terms a) (terms b ++ flat_map (λ those. those) (each_terms cs)) (terms_below a h.0)
        (AllByRecursion-append TermBelow (terms b) (flat_map (λ those. those) (each_terms cs)) (terms_below b h.1) (each_below cs h.2))

    choices_below : (fs : FormulaTrees) → EachSetsBelow n fs → TermsBelow (choices (each_terms fs))
    choices_below none h = (tt, tt)
    choices_below (more f fs) h = pairs_below (terms f) (choices (each_terms fs)) (terms_below f h.0) (choices_below fs h.1)

    each_below : (fs : FormulaTrees) → EachSetsBelow n fs → TermsBelow (flat_map (λ those. those) (each_terms fs))
    each_below none h = tt
    each_below (more f fs) h = AllByRecursion-append TermBelow (terms f) (flat_map (λ those. those) (each_terms fs)) (terms_below f h.0) (each_below fs h.1)

-- ---- it accepts the same words

-- under a condition that holds wherever its own does
accepts_under : (f : FormulaTree) (a : Automaton) → ((cycle : List (List ℕ)) → met cycle a.formula ≡ true → met cycle f ≡ true) → (u v : List NameSet) → Accepts a u v
    → Accepts (record a { formula = f }) u v
accepts_under f a holds u v r = accepts_wider a (record a { formula = f }) refl (λ e there. there) u v r r.is_start (holds (marks_of r.cycle) r.meets)

met_alike : (f : FormulaTree) (cycle : List (List ℕ)) → met cycle (of_terms (terms f)) ≡ met cycle f
met_alike f cycle = met-of_terms cycle (terms f) ∙ sym (met-terms cycle f)

pub disjunctive_accepts : (a : Automaton) → AcceptTheSame (record a { formula = of_terms (terms a.formula) }) a
disjunctive_accepts a u v = (
  accepts_under a.formula (record a { formula = of_terms (terms a.formula) }) (λ cycle h. sym (met_alike a.formula cycle) ∙ h) u v,
  accepts_under (of_terms (terms a.formula)) a (λ cycle h. met_alike a.formula cycle ∙ h) u v,
)

-- ---- its condition

of_own : (c : SymbolicAutomaton) (f : FormulaTree) (ts : List (List Literal)) → ts ≡ terms c.formula → f ≡ of_terms ts → f ≡ of_terms (terms c.formula)
of_own c f ts listed joined = joined ∙ (λ i. of_terms (listed i))

pub disjuncts_below : (c : SymbolicAutomaton) → IsWellFormedSymbolic c → (f : FormulaTree) (ts : List (List Literal)) → ts ≡ terms c.formula → f ≡ of_terms ts → SetsBelow c.sets f
disjuncts_below c core f ts listed joined =
    subst (SetsBelow c.sets) (sym (of_own c f ts listed joined)) (of_terms_holds (SetsBelow c.sets) (below_parts c.sets) (terms c.formula) (terms_below c.sets c.formula core.parts.formula))

pub same_disjuncts : (c made : SymbolicAutomaton) (f : FormulaTree) (ts : List (List Literal)) → ts ≡ terms c.formula → f ≡ of_terms ts → made ≡ record c { formula = f }
    → automaton_of made ≡ record (automaton_of c) { formula = of_terms (terms c.formula) }
same_disjuncts c made f ts listed joined same = (λ i. automaton_of (same i)) ∙ (λ i. record (automaton_of c) { formula = of_own c f ts listed joined i })
