-- What a phrase spells, its tokens spell by the grammar.
use Rattle.std.proofs.Common.{◌≡◌, ℕ, zero, suc, ◌+◌, true, false, List, [], ◌∷◌, ◌++◌, map, flat_map, Option, Some, None, refl, sym, ap, ◌∙◌, subst, arith}
use Rattle.std.specs.List.{AllByRecursion, list_all}
use Rattle.std.proofs.lemmas.List.{append_assoc, append-nil}
use Rattle.aut_base.specs.Chains.{Chains, IsFactor, AreFactors, AreProducts, IsSum, atom, negated, group, factor, factors, product, products, sum}
use Rattle.aut_base.specs.Formula.{FormulaTree, and_of, some_of}
use Rattle.hoa_lexer.specs.declared.token.Token.{Token}
use Rattle.hoa_parser.proofs.grammar.HeaderNames.{unknown}
use Rattle.hoa_parser.specs.Grammar as grammar
use Rattle.hoa_parser.specs.Grammar.{AreMarks, Each, IsEdge, IsItem, IsOptionalLabel, IsState, SpellsAutomaton, conditions, is_value, labels}
use Rattle.hoa_parser.specs.Phrases as phrase
use Rattle.hoa_parser.specs.Phrases.{AccValue, AutomatonPhrase, AutomatonWithin, Condition, ConditionWithin, EdgePhrase, Fands, FandsWithin, Fatom, FatomWithin}
use Rattle.hoa_parser.specs.Phrases.{Fatoms, FatomsWithin, ItemPhrase, ItemWithin, Label, LabelWithin, Lands, LandsWithin, Lnot, LnotWithin, Lnots, LnotsWithin}
use Rattle.hoa_parser.specs.Phrases.{OptionalWithin, SpellsPhrase, StatePhrase, StateWithin, Value, acc_value_token, automaton_meaning, automaton_tokens, condition_meaning}
use Rattle.hoa_parser.specs.Phrases.{condition_tokens, disjunction, edge_meaning, edge_tokens, fands_meaning, fands_tokens, fatom_meaning, fatom_tokens}
use Rattle.hoa_parser.specs.Phrases.{fatoms_meaning, fatoms_tokens, formula_conjunction, formula_disjunction, item_meaning, item_tokens, label_meaning}
use Rattle.hoa_parser.specs.Phrases.{label_tokens, lands_meaning, lands_tokens, lnot_meaning, lnot_tokens, lnots_meaning, lnots_tokens, marks_meaning}
use Rattle.hoa_parser.specs.Phrases.{optional_label, optional_marks, raw_conjunction, state_meaning, state_tokens, value_token}
use Rattle.hoa_parser.specs.Raw.{RawTree, Written, raw_all, raw_any}
use Rattle.std.specs.Option.{option_map}

-- the parts of a chain, joined

pub all_first : (t : RawTree) (ts : List RawTree) → raw_all (t ∷ ts) ≡ raw_conjunction t ts
all_first t [] = refl
all_first t (u ∷ us) = refl

pub any_first : (t : RawTree) (ts : List RawTree) → raw_any (t ∷ ts) ≡ disjunction t ts
any_first t [] = refl
any_first t (u ∷ us) = refl

pub and_of_first : (t : FormulaTree) (ts : List FormulaTree) → and_of (t ∷ ts) ≡ formula_conjunction t ts
and_of_first t [] = refl
and_of_first t (u ∷ us) = refl

pub some_of_first : (t : FormulaTree) (ts : List FormulaTree) → some_of (t ∷ ts) ≡ formula_disjunction t ts
some_of_first t [] = refl
some_of_first t (u ∷ us) = refl

products_same : {T : Type 0} (g : Chains Token T) (room : ℕ) {v w : List Token} {ts us : List T} → v ≡ w → ts ≡ us → AreProducts g room v ts → AreProducts g room w us
products_same {T} g room {v} {w} {ts} {us} p q h = subst (λ (x : List Token). AreProducts g room x us) p (subst (λ (y : List T). AreProducts g room v y) q h)

sum_same : {T : Type 0} (g : Chains Token T) (room : ℕ) {v w : List Token} {t u : T} → v ≡ w → t ≡ u → IsSum g room v t → IsSum g room w u
sum_same {T} g room {v} {w} {t} {u} p q h = subst (λ (x : List Token). IsSum g room x u) p (subst (λ (y : T). IsSum g room v y) q h)

-- labels

mutual
  pub label_sum : (most depth room : ℕ) (l : Label) → depth + room ≡ most → LabelWithin most depth l → IsSum labels room (label_tokens l) (label_meaning l)
  label_sum most depth room (phrase.label f fs ls) e w =
      let front = lnots_factors most depth room fs (lnot_tokens f) (lnot_meaning f) e (lnot_factor most depth room f e w.0) w.1 in
      let whole = lands_products most depth room ls (lnot_tokens f ++ lnots_tokens fs) (lnot_meaning f ∷ lnots_meaning fs) e front w.2 in
      sum_same labels room (append_assoc (lnot_tokens f) (lnots_tokens fs) (lands_tokens ls))
      (any_first (raw_all (lnot_meaning f ∷ lnots_meaning fs)) (lands_meaning ls) ∙ ap (λ (t : RawTree). disjunction t (lands_meaning ls)) (all_first (lnot_meaning f) (lnots_meaning fs)))
      (sum whole)

  lands_products : (most depth room : ℕ) (ls : Lands) (v : List Token) (ts : List RawTree) → depth + room ≡ most → AreFactors labels room v ts → LandsWithin most depth ls
      → AreProducts labels room (v ++ lands_tokens ls) (raw_all ts ∷ lands_meaning ls)
  lands_products most depth room phrase.no_land v ts e h w = products_same labels room (sym (append-nil v)) refl (product h)
  lands_products most depth room (phrase.or_land f fs ls) v ts e h w =
      let front = lnots_factors most depth room fs (lnot_tokens f) (lnot_meaning f) e (lnot_factor most depth room f e w.0) w.1 in
      let rest = lands_products most depth room ls (lnot_tokens f ++ lnots_tokens fs) (lnot_meaning f ∷ lnots_meaning fs) e front w.2 in
      products h (products_same labels room (append_assoc (lnot_tokens f) (lnots_tokens fs) (lands_tokens ls))
      (ap (λ (t : RawTree). t ∷ lands_meaning ls) (all_first (lnot_meaning f) (lnots_meaning fs))) rest)

  lnots_factors : (most depth room : ℕ) (fs : Lnots) (v : List Token) (t : RawTree) → depth + room ≡ most → IsFactor labels room v t → LnotsWithin most depth fs
      → AreFactors labels room (v ++ lnots_tokens fs) (t ∷ lnots_meaning fs)
  lnots_factors most depth room phrase.no_lnot v t e h w = subst (λ (x : List Token). AreFactors labels room x (t ∷ [])) (sym (append-nil v)) (factor h)
  lnots_factors most depth room (phrase.and_lnot f fs) v t e h w =
      factors h (lnots_factors most depth room fs (lnot_tokens f) (lnot_meaning f) e (lnot_factor most depth room f e w.0) w.1)

  lnot_factor : (most depth room : ℕ) (f : Lnot) → depth + room ≡ most → LnotWithin most depth f → IsFactor labels room (lnot_tokens f) (lnot_meaning f)
  lnot_factor most depth room phrase.true_label e w = atom grammar.true_label
  lnot_factor most depth room phrase.false_label e w = atom grammar.false_label
  lnot_factor most depth room (phrase.proposition i) e w = atom (grammar.proposition i)
  lnot_factor most depth room (phrase.alias name) e w = atom (grammar.alias name)
  lnot_factor most depth zero (phrase.negated f) e w = absurd (omega (arith, e, w.0))
  lnot_factor most depth (suc room) (phrase.negated f) e w = negated (lnot_factor most (suc depth) room f (omega (arith, e)) w.1) refl
  lnot_factor most depth zero (phrase.group l) e w = absurd (omega (arith, e, w.0))
  lnot_factor most depth (suc room) (phrase.group l) e w = group (label_sum most (suc depth) room l (omega (arith, e)) w.1)

-- conditions

mutual
  pub condition_sum : (most depth room : ℕ) (l : Condition) → depth + room ≡ most → ConditionWithin most depth l → IsSum conditions room (condition_tokens l) (condition_meaning l)
  condition_sum most depth room (phrase.condition f fs ls) e w =
      let front = fatoms_factors most depth room fs (fatom_tokens f) (fatom_meaning f) e (fatom_factor most depth room f e w.0) w.1 in
      let whole = fands_products most depth room ls (fatom_tokens f ++ fatoms_tokens fs) (fatom_meaning f ∷ fatoms_meaning fs) e front w.2 in
      sum_same conditions room (append_assoc (fatom_tokens f) (fatoms_tokens fs) (fands_tokens ls))
      (some_of_first (and_of (fatom_meaning f ∷ fatoms_meaning fs)) (fands_meaning ls)
      ∙ ap (λ (t : FormulaTree). formula_disjunction t (fands_meaning ls)) (and_of_first (fatom_meaning f) (fatoms_meaning fs)))
      (sum whole)

  fands_products : (most depth room : ℕ) (ls : Fands) (v : List Token) (ts : List FormulaTree) → depth + room ≡ most → AreFactors conditions room v ts → FandsWithin most depth ls
      → AreProducts conditions room (v ++ fands_tokens ls) (and_of ts ∷ fands_meaning ls)
  fands_products most depth room phrase.no_fand v ts e h w = products_same conditions room (sym (append-nil v)) refl (product h)
  fands_products most depth room (phrase.or_fand f fs ls) v ts e h w =
      let front = fatoms_factors most depth room fs (fatom_tokens f) (fatom_meaning f) e (fatom_factor most depth room f e w.0) w.1 in
      let rest = fands_products most depth room ls (fatom_tokens f ++ fatoms_tokens fs) (fatom_meaning f ∷ fatoms_meaning fs) e front w.2 in
      products h (products_same conditions room (append_assoc (fatom_tokens f) (fatoms_tokens fs) (fands_tokens ls))
      (ap (λ (t : FormulaTree). t ∷ fands_meaning ls) (and_of_first (fatom_meaning f) (fatoms_meaning fs))) rest)

  fatoms_factors : (most depth room : ℕ) (fs : Fatoms) (v : List Token) (t : FormulaTree) → depth + room ≡ most → IsFactor conditions room v t → FatomsWithin most depth fs
      → AreFactors conditions room (v ++ fatoms_tokens fs) (t ∷ fatoms_meaning fs)
  fatoms_factors most depth room phrase.no_fatom v t e h w = subst (λ (x : List Token). AreFactors conditions room x (t ∷ [])) (sym (append-nil v)) (factor h)
  fatoms_factors most depth room (phrase.and_fatom f fs) v t e h w =
      factors h (fatoms_factors most depth room fs (fatom_tokens f) (fatom_meaning f) e (fatom_factor most depth room f e w.0) w.1)

  fatom_factor : (most depth room : ℕ) (f : Fatom) → depth + room ≡ most → FatomWithin most depth f → IsFactor conditions room (fatom_tokens f) (fatom_meaning f)
  fatom_factor most depth room phrase.true_condition e w = atom grammar.true_condition
  fatom_factor most depth room phrase.false_condition e w = atom grammar.false_condition
  fatom_factor most depth room (phrase.infinitely set neg) e w = atom (grammar.infinitely set neg)
  fatom_factor most depth room (phrase.finitely set neg) e w = atom (grammar.finitely set neg)
  fatom_factor most depth zero (phrase.condition_group l) e w = absurd (omega (arith, e, w.0))
  fatom_factor most depth (suc room) (phrase.condition_group l) e w = group (condition_sum most (suc depth) room l (omega (arith, e)) w.1)

-- the parts of an automaton

each_spells : {P X : Type 0} (W : P → Type 0) (tokens : P → List Token) (meaning : P → X) (Is : List Token → X → Type 0) → ((p : P) → W p → Is (tokens p) (meaning p)) → (ps : List P)
    → AllByRecursion W ps → Each Is (flat_map tokens ps) (map meaning ps)
each_spells W tokens meaning Is one [] w = grammar.none
each_spells W tokens meaning Is one (p ∷ ps) w = grammar.also (one p w.0) (each_spells W tokens meaning Is one ps w.1)

acc_values_are : (values : List AccValue) → list_all (is_value false) (map acc_value_token values) ≡ true
acc_values_are [] = refl
acc_values_are (phrase.acc_number n ∷ values) = acc_values_are values
acc_values_are (phrase.acc_word word ∷ values) = acc_values_are values

values_are : (values : List Value) → list_all (is_value true) (map value_token values) ≡ true
values_are [] = refl
values_are (phrase.number_value n ∷ values) = values_are values
values_are (phrase.text_value text ∷ values) = values_are values
values_are (phrase.word_value word ∷ values) = values_are values

item_spells : (most : ℕ) (p : ItemPhrase) → ItemWithin most p → IsItem most (item_tokens p) (item_meaning p)
item_spells most (phrase.states_item n) w = grammar.states_item n
item_spells most (phrase.start_item c) w = grammar.start_item (grammar.conj c.first c.others)
item_spells most (phrase.names_item n names) w = grammar.names_item n names
item_spells most (phrase.alias_item name l) w = grammar.alias_item name (label_sum most 0 most l (omega arith) w)
item_spells most (phrase.acceptance_item n c) w = grammar.acceptance_item n (condition_sum most 0 most c (omega arith) w)
item_spells most (phrase.acc_name_item word values) w = grammar.acc_name_item word (map acc_value_token values) (acc_values_are values)
item_spells most (phrase.tool_item text other) w = grammar.tool_item text other
item_spells most (phrase.name_item text) w = grammar.name_item text
item_spells most (phrase.properties_item words) w = grammar.properties_item words
item_spells most (phrase.other_item name is values) w = grammar.other_item name (map value_token values) ((unknown name).1 is) (values_are values)

optional_spells : (most : ℕ) (l : Option Label) → OptionalWithin most l → IsOptionalLabel most (optional_label l) (option_map label_meaning l)
optional_spells most None w = grammar.no_label
optional_spells most (Some l) w = grammar.some_label (label_sum most 0 most l (omega arith) w)

marks_spell : (marks : Option (List ℕ)) → AreMarks (optional_marks marks) (marks_meaning marks)
marks_spell None = grammar.no_marks
marks_spell (Some marks) = grammar.some_marks marks

edge_spells : (most : ℕ) (p : EdgePhrase) → OptionalWithin most p.label → IsEdge most (edge_tokens p) (edge_meaning p)
edge_spells most p w = grammar.edge (optional_spells most p.label w) (grammar.conj p.to.first p.to.others) (marks_spell p.marks)

state_spells : (most : ℕ) (p : StatePhrase) → StateWithin most p → IsState most (state_tokens p) (state_meaning p)
state_spells most p w =
    grammar.state p.number p.name (optional_spells most p.label w.0) (marks_spell p.marks)
    (each_spells (λ (e : EdgePhrase). OptionalWithin most e.label) edge_tokens edge_meaning (IsEdge most) (edge_spells most) p.edges w.1)

pub automaton_spelled : (m : ℕ) (a : AutomatonPhrase) → AutomatonWithin m a → SpellsAutomaton m (automaton_tokens a) (automaton_meaning a)
automaton_spelled m a w = record {
  item_tokens = flat_map item_tokens a.items;
  state_tokens = flat_map state_tokens a.states;
  items = each_spells (ItemWithin m) item_tokens item_meaning (IsItem m) (item_spells m) a.items w.0;
  states = each_spells (StateWithin m) state_tokens state_meaning (IsState m) (state_spells m) a.states w.1;
  spelled = refl;
}

pub phrases_spell : (m : ℕ) (ts : List Token) (w : Written) → SpellsPhrase m ts w → SpellsAutomaton m ts w
phrases_spell m ts w s =
    subst (λ (x : List Token). SpellsAutomaton m x w) (sym s.spelled)
    (subst (λ (v : Written). SpellsAutomaton m (automaton_tokens s.phrase) v) (sym s.means) (automaton_spelled m s.phrase s.within))
