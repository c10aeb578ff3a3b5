-- What tokens spell by the grammar, a phrase spells.
use Rattle.std.proofs.Common.{◌≡◌, ℕ, suc, ◌+◌, Bool, true, false, List, [], ◌∷◌, ◌++◌, map, flat_map, Option, Some, None, refl, sym, ap, ◌∙◌, arith}
use Rattle.std.specs.Prelude.{codes, ◌&&◌}
use Rattle.std.specs.List.{AllByRecursion, list_all}
use Rattle.std.specs.Option.{option_map}
use Rattle.std.proofs.Math.Path.{ap₂}
use Rattle.std.proofs.lemmas.List.{append_assoc, append-nil}
use Rattle.aut_base.specs.Chains.{IsFactor, AreFactors, AreProducts, IsSum, atom, negated, group, factor, factors, product, products, sum}
use Rattle.aut_base.specs.Formula.{FormulaTree, and_of, some_of}
use Rattle.hoa_lexer.specs.declared.token.Token.{Token}
use Rattle.hoa_lexer.specs.declared.token.Token.TheVariants as token
use Rattle.hoa_parser.proofs.grammar.HeaderNames.{unknown}
use Rattle.hoa_parser.specs.Grammar as grammar
use Rattle.hoa_parser.specs.Grammar.{AreMarks, Each, IsConditionAtom, IsEdge, IsItem, IsLabelAtom, IsOptionalLabel, IsState, SpellsAutomaton, and_number, conditions}
use Rattle.hoa_parser.specs.Grammar.{is_value, labels, optional_text}
use Rattle.hoa_parser.specs.Phrases as phrase
use Rattle.hoa_parser.specs.Phrases.{AccValue, Condition, ConditionWithin, EdgePhrase, Fands, Fatom, FatomWithin, Fatoms, FatomsWithin, FandsWithin}
use Rattle.hoa_parser.specs.Phrases.{ItemWithin, Label, LabelWithin, Lands, LandsWithin, Lnot, LnotWithin, Lnots, LnotsWithin, OptionalWithin}
use Rattle.hoa_parser.specs.Phrases.{SpellsPhrase, StateWithin, Value, acc_value_token, condition_meaning, condition_tokens, edge_meaning, edge_tokens}
use Rattle.hoa_parser.specs.Phrases.{fands_meaning, fands_tokens, fatom_meaning, fatom_tokens, fatoms_meaning, fatoms_tokens, formula_conjunction}
use Rattle.hoa_parser.specs.Phrases.{item_meaning, item_tokens, label_meaning, label_tokens, lands_meaning, lands_tokens, lnot_meaning}
use Rattle.hoa_parser.specs.Phrases.{lnot_tokens, lnots_meaning, lnots_tokens, marks_meaning, optional_label, optional_marks, raw_conjunction, state_meaning}
use Rattle.hoa_parser.specs.Phrases.{state_tokens, value_token}
use Rattle.hoa_parser.specs.Raw as raw
use Rattle.hoa_parser.specs.Raw.{RawTree, Written, WrittenEdge, WrittenItem, WrittenState, raw_all, raw_any}
use Rattle.hoa_parser.proofs.grammar.JoinedParts.{ap₃}
use Rattle.hoa_parser.proofs.grammar.PhrasesSpell.{all_first, any_first, and_of_first, some_of_first}

-- a phrase with these tokens and this meaning
record Has {P X : Type 0} (W : P → Type 0) (tokens : P → List Token) (meaning : P → X) (w : List Token) (x : X) : Type 0 where
  phrase : P
  within : W phrase
  spelled : w ≡ tokens phrase
  means : x ≡ meaning phrase

-- labels

record Land : Type 0 where
  first : Lnot
  others : Lnots

record Sum : Type 0 where
  first : Lnot
  factors : Lnots
  others : Lands

abbrev LnotFits : ℕ → Lnot → Type 0
LnotFits room f = (most depth : ℕ) → depth + room ≡ most → LnotWithin most depth f

abbrev LandFits : ℕ → Land → Type 0
LandFits room p = (most depth : ℕ) → depth + room ≡ most → LnotWithin most depth p.first × LnotsWithin most depth p.others

abbrev SumFits : ℕ → Sum → Type 0
SumFits room p = (most depth : ℕ) → depth + room ≡ most → LnotWithin most depth p.first × LnotsWithin most depth p.factors × LandsWithin most depth p.others

abbrev LabelFits : ℕ → Label → Type 0
LabelFits room l = (most depth : ℕ) → depth + room ≡ most → LabelWithin most depth l

abbrev land_tokens : Land → List Token
land_tokens p = lnot_tokens p.first ++ lnots_tokens p.others

abbrev land_parts : Land → List RawTree
land_parts p = lnot_meaning p.first ∷ lnots_meaning p.others

abbrev sum_tokens : Sum → List Token
sum_tokens p = lnot_tokens p.first ++ (lnots_tokens p.factors ++ lands_tokens p.others)

abbrev sum_parts : Sum → List RawTree
sum_parts p = raw_conjunction (lnot_meaning p.first) (lnots_meaning p.factors) ∷ lands_meaning p.others

atom_phrase : (room : ℕ) {w : List Token} {t : RawTree} → IsLabelAtom w t → Has (LnotFits room) lnot_tokens lnot_meaning w t
atom_phrase room grammar.true_label = record { phrase = phrase.true_label; within = λ most depth e. tt; spelled = refl; means = refl }
atom_phrase room grammar.false_label = record { phrase = phrase.false_label; within = λ most depth e. tt; spelled = refl; means = refl }
atom_phrase room (grammar.proposition i) = record { phrase = phrase.proposition i; within = λ most depth e. tt; spelled = refl; means = refl }
atom_phrase room (grammar.alias name) = record { phrase = phrase.alias name; within = λ most depth e. tt; spelled = refl; means = refl }

mutual
  lnot_phrase : (room : ℕ) (w : List Token) (t : RawTree) → IsFactor labels room w t → Has (LnotFits room) lnot_tokens lnot_meaning w t
  lnot_phrase room w t (atom a) = atom_phrase room a
  lnot_phrase (suc room) _ u (negated {w = w} {t = t} f is) =
      let h = lnot_phrase room w t f in
      record {
        phrase = phrase.negated h.phrase;
        within = λ most depth e. (omega (arith, e), h.within most (suc depth) (omega (arith, e)));
        spelled = ap (λ (x : List Token). token.Bang ∷ x) h.spelled;
        means = is ∙ ap raw.Not h.means;
      }
  lnot_phrase (suc room) _ t (group {w = w} s) =
      let h = label_phrase room w t s in
      record {
        phrase = phrase.group h.phrase;
        within = λ most depth e. (omega (arith, e), h.within most (suc depth) (omega (arith, e)));
        spelled = ap (λ (x : List Token). token.LeftParen ∷ (x ++ token.RightParen ∷ [])) h.spelled;
        means = h.means;
      }

  land_phrase : (room : ℕ) (w : List Token) (ts : List RawTree) → AreFactors labels room w ts → Has (LandFits room) land_tokens land_parts w ts
  land_phrase room w _ (factor {t = t} f) =
      let h = lnot_phrase room w t f in
      record {
        phrase = record { first = h.phrase; others = phrase.no_lnot };
        within = λ most depth e. (h.within most depth e, tt);
        spelled = h.spelled ∙ sym (append-nil (lnot_tokens h.phrase));
        means = ap (λ (u : RawTree). u ∷ []) h.means;
      }
  land_phrase room _ _ (factors {v = v} {w = w} {t = t} {ts = ts} f fs) =
      let h = lnot_phrase room v t f in
      let k = land_phrase room w ts fs in
      record {
        phrase = record { first = h.phrase; others = phrase.and_lnot k.phrase.first k.phrase.others };
        within = λ most depth e. (h.within most depth e, k.within most depth e);
        spelled = ap₂ (λ (x y : List Token). x ++ token.Amp ∷ y) h.spelled k.spelled;
        means = ap₂ (λ (u : RawTree) (us : List RawTree). u ∷ us) h.means k.means;
      }

  sum_phrase : (room : ℕ) (w : List Token) (ts : List RawTree) → AreProducts labels room w ts → Has (SumFits room) sum_tokens sum_parts w ts
  sum_phrase room w _ (product {ts = ts} fs) =
      let h = land_phrase room w ts fs in
      record {
        phrase = record { first = h.phrase.first; factors = h.phrase.others; others = phrase.no_land };
        within = λ most depth e. ((h.within most depth e).0, (h.within most depth e).1, tt);
        spelled = h.spelled ∙ ap (λ (x : List Token). lnot_tokens h.phrase.first ++ x) (sym (append-nil (lnots_tokens h.phrase.others)));
        means = ap (λ (us : List RawTree). raw_all us ∷ []) h.means ∙ ap (λ (u : RawTree). u ∷ []) (all_first (lnot_meaning h.phrase.first) (lnots_meaning h.phrase.others));
      }
  sum_phrase room _ _ (products {v = v} {w = w} {ts = ts} {us = us} fs ps) =
      let h = land_phrase room v ts fs in
      let k = sum_phrase room w us ps in
      record {
        phrase = record { first = h.phrase.first; factors = h.phrase.others; others = phrase.or_land k.phrase.first k.phrase.factors k.phrase.others };
        within = λ most depth e. ((h.within most depth e).0, (h.within most depth e).1, k.within most depth e);
        spelled = ap₂ (λ (x y : List Token). x ++ token.Bar ∷ y) h.spelled k.spelled
            ∙ append_assoc (lnot_tokens h.phrase.first) (lnots_tokens h.phrase.others) (token.Bar ∷ sum_tokens k.phrase);
        means = ap₂ (λ (x : RawTree) (y : List RawTree). x ∷ y) (ap raw_all h.means ∙ all_first (lnot_meaning h.phrase.first) (lnots_meaning h.phrase.others)) k.means;
      }

  label_phrase : (room : ℕ) (w : List Token) (t : RawTree) → IsSum labels room w t → Has (LabelFits room) label_tokens label_meaning w t
  label_phrase room w _ (sum {ts = ts} ps) =
      let h = sum_phrase room w ts ps in
      record {
        phrase = phrase.label h.phrase.first h.phrase.factors h.phrase.others;
        within = h.within;
        spelled = h.spelled;
        means = ap raw_any h.means ∙ any_first (raw_conjunction (lnot_meaning h.phrase.first) (lnots_meaning h.phrase.factors)) (lands_meaning h.phrase.others);
      }

-- conditions

record Fand : Type 0 where
  first : Fatom
  others : Fatoms

record FormulaSum : Type 0 where
  first : Fatom
  factors : Fatoms
  others : Fands

abbrev FatomFits : ℕ → Fatom → Type 0
FatomFits room f = (most depth : ℕ) → depth + room ≡ most → FatomWithin most depth f

abbrev FandFits : ℕ → Fand → Type 0
FandFits room p = (most depth : ℕ) → depth + room ≡ most → FatomWithin most depth p.first × FatomsWithin most depth p.others

abbrev FormulaSumFits : ℕ → FormulaSum → Type 0
FormulaSumFits room p = (most depth : ℕ) → depth + room ≡ most → FatomWithin most depth p.first × FatomsWithin most depth p.factors × FandsWithin most depth p.others

abbrev ConditionFits : ℕ → Condition → Type 0
ConditionFits room l = (most depth : ℕ) → depth + room ≡ most → ConditionWithin most depth l

abbrev fand_tokens : Fand → List Token
fand_tokens p = fatom_tokens p.first ++ fatoms_tokens p.others

abbrev fand_parts : Fand → List FormulaTree
fand_parts p = fatom_meaning p.first ∷ fatoms_meaning p.others

abbrev formula_sum_tokens : FormulaSum → List Token
formula_sum_tokens p = fatom_tokens p.first ++ (fatoms_tokens p.factors ++ fands_tokens p.others)

abbrev formula_sum_parts : FormulaSum → List FormulaTree
formula_sum_parts p = formula_conjunction (fatom_meaning p.first) (fatoms_meaning p.factors) ∷ fands_meaning p.others

formula_atom_phrase : (room : ℕ) {w : List Token} {t : FormulaTree} → IsConditionAtom w t → Has (FatomFits room) fatom_tokens fatom_meaning w t
formula_atom_phrase room grammar.true_condition = record { phrase = phrase.true_condition; within = λ most depth e. tt; spelled = refl; means = refl }
formula_atom_phrase room grammar.false_condition = record { phrase = phrase.false_condition; within = λ most depth e. tt; spelled = refl; means = refl }
formula_atom_phrase room (grammar.infinitely set neg) = record { phrase = phrase.infinitely set neg; within = λ most depth e. tt; spelled = refl; means = refl }
formula_atom_phrase room (grammar.finitely set neg) = record { phrase = phrase.finitely set neg; within = λ most depth e. tt; spelled = refl; means = refl }

mutual
  fatom_phrase : (room : ℕ) (w : List Token) (t : FormulaTree) → IsFactor conditions room w t → Has (FatomFits room) fatom_tokens fatom_meaning w t
  fatom_phrase room w t (atom a) = formula_atom_phrase room a
  fatom_phrase (suc room) _ u (negated f never) = absurd never
  fatom_phrase (suc room) _ t (group {w = w} s) =
      let h = condition_phrase room w t s in
      record {
        phrase = phrase.condition_group h.phrase;
        within = λ most depth e. (omega (arith, e), h.within most (suc depth) (omega (arith, e)));
        spelled = ap (λ (x : List Token). token.LeftParen ∷ (x ++ token.RightParen ∷ [])) h.spelled;
        means = h.means;
      }

  fand_phrase : (room : ℕ) (w : List Token) (ts : List FormulaTree) → AreFactors conditions room w ts → Has (FandFits room) fand_tokens fand_parts w ts
  fand_phrase room w _ (factor {t = t} f) =
      let h = fatom_phrase room w t f in
      record {
        phrase = record { first = h.phrase; others = phrase.no_fatom };
        within = λ most depth e. (h.within most depth e, tt);
        spelled = h.spelled ∙ sym (append-nil (fatom_tokens h.phrase));
        means = ap (λ (u : FormulaTree). u ∷ []) h.means;
      }
  fand_phrase room _ _ (factors {v = v} {w = w} {t = t} {ts = ts} f fs) =
      let h = fatom_phrase room v t f in
      let k = fand_phrase room w ts fs in
      record {
        phrase = record { first = h.phrase; others = phrase.and_fatom k.phrase.first k.phrase.others };
        within = λ most depth e. (h.within most depth e, k.within most depth e);
        spelled = ap₂ (λ (x y : List Token). x ++ token.Amp ∷ y) h.spelled k.spelled;
        means = ap₂ (λ (u : FormulaTree) (us : List FormulaTree). u ∷ us) h.means k.means;
      }

  formula_sum_phrase : (room : ℕ) (w : List Token) (ts : List FormulaTree) → AreProducts conditions room w ts → Has (FormulaSumFits room) formula_sum_tokens formula_sum_parts w ts
  formula_sum_phrase room w _ (product {ts = ts} fs) =
      let h = fand_phrase room w ts fs in
      record {
        phrase = record { first = h.phrase.first; factors = h.phrase.others; others = phrase.no_fand };
        within = λ most depth e. ((h.within most depth e).0, (h.within most depth e).1, tt);
        spelled = h.spelled ∙ ap (λ (x : List Token). fatom_tokens h.phrase.first ++ x) (sym (append-nil (fatoms_tokens h.phrase.others)));
        means = ap (λ (us : List FormulaTree). and_of us ∷ []) h.means
            ∙ ap (λ (u : FormulaTree). u ∷ []) (and_of_first (fatom_meaning h.phrase.first) (fatoms_meaning h.phrase.others));
      }
  formula_sum_phrase room _ _ (products {v = v} {w = w} {ts = ts} {us = us} fs ps) =
      let h = fand_phrase room v ts fs in
      let k = formula_sum_phrase room w us ps in
      record {
        phrase = record { first = h.phrase.first; factors = h.phrase.others; others = phrase.or_fand k.phrase.first k.phrase.factors k.phrase.others };
        within = λ most depth e. ((h.within most depth e).0, (h.within most depth e).1, k.within most depth e);
        spelled = ap₂ (λ (x y : List Token). x ++ token.Bar ∷ y) h.spelled k.spelled
            ∙ append_assoc (fatom_tokens h.phrase.first) (fatoms_tokens h.phrase.others) (token.Bar ∷ formula_sum_tokens k.phrase);
        means = ap₂ (λ (x : FormulaTree) (y : List FormulaTree). x ∷ y)
            (ap and_of h.means ∙ and_of_first (fatom_meaning h.phrase.first) (fatoms_meaning h.phrase.others)) k.means;
      }

  condition_phrase : (room : ℕ) (w : List Token) (t : FormulaTree) → IsSum conditions room w t → Has (ConditionFits room) condition_tokens condition_meaning w t
  condition_phrase room w _ (sum {ts = ts} ps) =
      let h = formula_sum_phrase room w ts ps in
      record {
        phrase = phrase.condition h.phrase.first h.phrase.factors h.phrase.others;
        within = h.within;
        spelled = h.spelled;
        means = ap some_of h.means ∙ some_of_first (formula_conjunction (fatom_meaning h.phrase.first) (fatoms_meaning h.phrase.factors)) (fands_meaning h.phrase.others);
      }

-- the parts of an automaton

each_phrase : {P X : Type 0} (W : P → Type 0) (tokens : P → List Token) (meaning : P → X) (Is : List Token → X → Type 0)
    → ((w : List Token) (x : X) → Is w x → Has W tokens meaning w x) → (w : List Token) (xs : List X) → Each Is w xs → Has (AllByRecursion W) (flat_map tokens) (map meaning) w xs
each_phrase W tokens meaning Is has _ _ grammar.none = record { phrase = []; within = tt; spelled = refl; means = refl }
each_phrase {P} {X} W tokens meaning Is has _ _ (grammar.also {v = v} {w = w} {x = x} {xs = xs} one more) =
    let h = has v x one in
    let k = each_phrase W tokens meaning Is has w xs more in
    record {
      phrase = h.phrase ∷ k.phrase;
      within = (h.within, k.within);
      spelled = ap₂ (λ (y z : List Token). y ++ z) h.spelled k.spelled;
      means = ap₂ (λ (y : X) (ys : List X). y ∷ ys) h.means k.means;
    }

both_true : (a b : Bool) → (a && b) ≡ true → (a ≡ true) × (b ≡ true)
both_true true b e = (refl, e)
both_true false b e = absurd (cc)

acc_value : (z : Token) → is_value false z ≡ true → (value : AccValue) × (z ≡ acc_value_token value)
acc_value (token.Int n) e = (phrase.acc_number n, refl)
acc_value (token.Identifier word) e = (phrase.acc_word word, refl)
acc_value _ e = absurd (cc)

value : (z : Token) → is_value true z ≡ true → (value : Value) × (z ≡ value_token value)
value (token.Int n) e = (phrase.number_value n, refl)
value (token.Str text) e = (phrase.text_value text, refl)
value (token.Identifier word) e = (phrase.word_value word, refl)
value _ e = absurd (cc)

acc_values : (zs : List Token) → list_all (is_value false) zs ≡ true → (values : List AccValue) × (zs ≡ map acc_value_token values)
acc_values [] e = ([], refl)
acc_values (z ∷ zs) e =
    let both = both_true (is_value false z) (list_all (is_value false) zs) e in
    let one = acc_value z both.0 in
    let more = acc_values zs both.1 in
    (one.0 ∷ more.0, ap₂ (λ (x : Token) (xs : List Token). x ∷ xs) one.1 more.1)

all_values : (zs : List Token) → list_all (is_value true) zs ≡ true → (values : List Value) × (zs ≡ map value_token values)
all_values [] e = ([], refl)
all_values (z ∷ zs) e =
    let both = both_true (is_value true z) (list_all (is_value true) zs) e in
    let one = value z both.0 in
    let more = all_values zs both.1 in
    (one.0 ∷ more.0, ap₂ (λ (x : Token) (xs : List Token). x ∷ xs) one.1 more.1)

item_phrase : (most : ℕ) (w : List Token) (x : WrittenItem) → IsItem most w x → Has (ItemWithin most) item_tokens item_meaning w x
item_phrase most _ _ (grammar.states_item n) = record { phrase = phrase.states_item n; within = tt; spelled = refl; means = refl }
item_phrase most _ _ (grammar.start_item (grammar.conj first others)) =
    record { phrase = phrase.start_item (record { first = first; others = others }); within = tt; spelled = refl; means = refl }
item_phrase most _ _ (grammar.names_item n names) = record { phrase = phrase.names_item n names; within = tt; spelled = refl; means = refl }
item_phrase most _ _ (grammar.alias_item {w = w} {t = t} name s) =
    let h = label_phrase most w t s in
    record {
      phrase = phrase.alias_item name h.phrase;
      within = h.within most 0 (omega arith);
      spelled = ap (λ (ts : List Token). token.HeaderName (codes "Alias") ∷ token.Alias name ∷ ts) h.spelled;
      means = ap (raw.AliasOf name) h.means;
    }
item_phrase most _ _ (grammar.acceptance_item {w = w} {f = f} n s) =
    let h = condition_phrase most w f s in
    record {
      phrase = phrase.acceptance_item n h.phrase;
      within = h.within most 0 (omega arith);
      spelled = ap (λ (ts : List Token). token.HeaderName (codes "Acceptance") ∷ token.Int n ∷ ts) h.spelled;
      means = ap (raw.Acceptance n) h.means;
    }
item_phrase most _ _ (grammar.acc_name_item word values are) =
    let h = acc_values values are in
    record {
      phrase = phrase.acc_name_item word h.0;
      within = tt;
      spelled = ap (λ (ts : List Token). token.HeaderName (codes "acc-name") ∷ token.Identifier word ∷ ts) h.1;
      means = refl;
    }
item_phrase most _ _ (grammar.tool_item text other) = record { phrase = phrase.tool_item text other; within = tt; spelled = refl; means = refl }
item_phrase most _ _ (grammar.name_item text) = record { phrase = phrase.name_item text; within = tt; spelled = refl; means = refl }
item_phrase most _ _ (grammar.properties_item words) = record { phrase = phrase.properties_item words; within = tt; spelled = refl; means = refl }
item_phrase most _ _ (grammar.other_item name values is are) =
    let h = all_values values are in
    record { phrase = phrase.other_item name ((unknown name).0 is) h.0; within = tt; spelled = ap (λ (ts : List Token). token.HeaderName name ∷ ts) h.1; means = refl }

optional_phrase : (most : ℕ) (w : List Token) (t : Option RawTree) → IsOptionalLabel most w t → Has (OptionalWithin most) optional_label (option_map label_meaning) w t
optional_phrase most _ _ grammar.no_label = record { phrase = None; within = tt; spelled = refl; means = refl }
optional_phrase most _ _ (grammar.some_label {w = w} {t = t} s) =
    let h = label_phrase most w t s in
    record {
      phrase = Some h.phrase;
      within = h.within most 0 (omega arith);
      spelled = ap (λ (ts : List Token). token.LeftBracket ∷ (ts ++ token.RightBracket ∷ [])) h.spelled;
      means = ap (λ (u : RawTree). Some u) h.means;
    }

marks_phrase : (w : List Token) (marks : List ℕ) → AreMarks w marks → Has (λ (p : Option (List ℕ)). Unit {0}) optional_marks marks_meaning w marks
marks_phrase _ _ grammar.no_marks = record { phrase = None; within = tt; spelled = refl; means = refl }
marks_phrase _ _ (grammar.some_marks marks) = record { phrase = Some marks; within = tt; spelled = refl; means = refl }

abbrev EdgeFits : ℕ → EdgePhrase → Type 0
EdgeFits most e = OptionalWithin most e.label

edge_phrase : (most : ℕ) (w : List Token) (x : WrittenEdge) → IsEdge most w x → Has (EdgeFits most) edge_tokens edge_meaning w x
edge_phrase most _ _ (grammar.edge {u = u} {w = w} {label = label} {marks = marks} l (grammar.conj first others) m) =
    let h = optional_phrase most u label l in
    let k = marks_phrase w marks m in
    let whole : Option RawTree → List ℕ → WrittenEdge = λ x y. record { label = x; to = first ∷ others; marks = y } in
    record {
      phrase = record { label = h.phrase; to = record { first = first; others = others }; marks = k.phrase };
      within = h.within;
      spelled = ap₂ (λ (x y : List Token). x ++ ((token.Int first ∷ flat_map and_number others) ++ y)) h.spelled k.spelled;
      means = ap₂ whole h.means k.means;
    }

state_phrase : (most : ℕ) (w : List Token) (x : WrittenState) → IsState most w x → Has (StateWithin most) state_tokens state_meaning w x
state_phrase most _ _ (grammar.state {u = u} {v = v} {w = w} {label = label} {marks = marks} {edges = edges} number name l m es) =
    let h = optional_phrase most u label l in
    let k = marks_phrase v marks m in
    let i = each_phrase (EdgeFits most) edge_tokens edge_meaning (IsEdge most) (edge_phrase most) w edges es in
    let whole : Option RawTree → List ℕ → List WrittenEdge → WrittenState = λ x y z. record { label = x; number = number; marks = y; edges = z } in
    record {
      phrase = record { label = h.phrase; number = number; name = name; marks = k.phrase; edges = i.phrase };
      within = (h.within, i.within);
      spelled = ap₃ (λ (x y z : List Token). token.HeaderName (codes "State") ∷ (x ++ (token.Int number ∷ (optional_text name ++ (y ++ z))))) h.spelled k.spelled i.spelled;
      means = ap₃ whole h.means k.means i.means;
    }

pub have_phrases : (m : ℕ) (ts : List Token) (w : Written) → SpellsAutomaton m ts w → SpellsPhrase m ts w
have_phrases m ts w s =
    let h = each_phrase (ItemWithin m) item_tokens item_meaning (IsItem m) (item_phrase m) s.item_tokens w.items s.items in
    let k = each_phrase (StateWithin m) state_tokens state_meaning (IsState m) (state_phrase m) s.state_tokens w.states s.states in
    let whole : List WrittenItem → List WrittenState → Written = λ x y. record { version = w.version; items = x; states = y } in
    record {
      phrase = record { version = w.version; items = h.phrase; states = k.phrase };
      within = (h.within, k.within);
      spelled = s.spelled
          ∙ ap₂ (λ (x y : List Token). token.HeaderName (codes "HOA") ∷ token.Identifier w.version ∷ (x ++ token.Body ∷ (y ++ token.End ∷ []))) h.spelled k.spelled;
      means = ap₂ whole h.means k.means;
    }
