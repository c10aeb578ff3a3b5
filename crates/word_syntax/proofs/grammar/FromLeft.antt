-- Letters by chains that grow at their end, as the parser reads them. They are those of the grammar.
use Rattle.std.proofs.Common.{◌≡◌, ◌∙◌, ◌∷◌, ◌++◌, List, Some, [], ap, refl, slice_get, subst, suc, sym, ℕ}
use Rattle.std.proofs.lemmas.List.{append_assoc}
use Rattle.aut_base.specs.CanonicalLabel.{all_of, one_of}
use Rattle.aut_base.specs.Chains as chains
use Rattle.aut_base.specs.Chains.{AreFactors, AreProducts, IsFactor, IsSum}
use Rattle.aut_base.specs.Label as label
use Rattle.aut_base.specs.Label.{LabelTree}
use Rattle.word_syntax.specs.Grammar as grammar
use Rattle.word_syntax.specs.Grammar.{IsLetterAtom, letters_over}
use Rattle.word_syntax.specs.declared.token.Token.{Token}
use Rattle.word_syntax.specs.declared.token.Token.TheVariants as token

-- No more than `room` of `(` and `!` may be open at once.
mutual
  -- operand = "1" | "0" | NAME | "!" operand | "(" letter ")"
  pub data IsOperand : List (List ℕ) → ℕ → List Token → LabelTree → Type 0 where
    always : {names : List (List ℕ)} {room : ℕ} → IsOperand names room (token.True ∷ []) label.True
    never : {names : List (List ℕ)} {room : ℕ} → IsOperand names room (token.False ∷ []) label.False
    proposition : {names : List (List ℕ)} {room : ℕ} (name : List ℕ) (place : ℕ) → slice_get names place ≡ Some name → IsOperand names room (token.Name name ∷ []) (label.Prop place)
    negated : {names : List (List ℕ)} {room : ℕ} {w : List Token} {t : LabelTree} → IsOperand names room w t → IsOperand names (suc room) (token.Not ∷ w) (label.Not t)
    group : {names : List (List ℕ)} {room : ℕ} {w : List Token} {t : LabelTree} → IsLetter names room w t → IsOperand names (suc room) (token.LeftParen ∷ (w ++ token.RightParen ∷ [])) t

  -- (operand "&")*
  pub data AreConjuncts : List (List ℕ) → ℕ → List Token → List LabelTree → Type 0 where
    no_operand : {names : List (List ℕ)} {room : ℕ} → AreConjuncts names room [] []
    operand : {names : List (List ℕ)} {room : ℕ} {v w u : List Token} {ts us : List LabelTree} {t : LabelTree} → AreConjuncts names room v ts → IsOperand names room w t
        → u ≡ v ++ (w ++ token.And ∷ []) → us ≡ ts ++ t ∷ [] → AreConjuncts names room u us

  -- conjunction = (operand "&")* operand
  pub data IsConjunction : List (List ℕ) → ℕ → List Token → LabelTree → Type 0 where
    joined : {names : List (List ℕ)} {room : ℕ} {v w u : List Token} {ts : List LabelTree} {t c : LabelTree} → AreConjuncts names room v ts → IsOperand names room w t → u ≡ v ++ w
        → c ≡ all_of (ts ++ t ∷ []) → IsConjunction names room u c

  -- (conjunction "|")*
  pub data AreConjunctions : List (List ℕ) → ℕ → List Token → List LabelTree → Type 0 where
    no_conjunction : {names : List (List ℕ)} {room : ℕ} → AreConjunctions names room [] []
    alternative : {names : List (List ℕ)} {room : ℕ} {v w u : List Token} {ts us : List LabelTree} {t : LabelTree} → AreConjunctions names room v ts → IsConjunction names room w t
        → u ≡ v ++ (w ++ token.Or ∷ []) → us ≡ ts ++ t ∷ [] → AreConjunctions names room u us

  -- letter = (conjunction "|")* conjunction
  pub data IsLetter : List (List ℕ) → ℕ → List Token → LabelTree → Type 0 where
    either : {names : List (List ℕ)} {room : ℕ} {v w u : List Token} {ts : List LabelTree} {t l : LabelTree} → AreConjunctions names room v ts → IsConjunction names room w t → u ≡ v ++ w
        → l ≡ one_of (ts ++ t ∷ []) → IsLetter names room u l

-- one part more of a chain
longer : (v w x u : List Token) (z : Token) → u ≡ v ++ (w ++ z ∷ []) → u ++ x ≡ v ++ (w ++ z ∷ x)
longer v w x u z spelled =
    ap (λ (y : List Token). y ++ x) spelled ∙ (append_assoc v (w ++ z ∷ []) x ∙ ap (λ (y : List Token). v ++ y) (append_assoc w (z ∷ []) x))

longer_parts : (ts us ws : List LabelTree) (t : LabelTree) → us ≡ ts ++ t ∷ [] → us ++ ws ≡ ts ++ t ∷ ws
longer_parts ts us ws t parts = ap (λ (ys : List LabelTree). ys ++ ws) parts ∙ append_assoc ts (t ∷ []) ws

factors_same : (names : List (List ℕ)) (room : ℕ) {v w : List Token} {ts us : List LabelTree} → v ≡ w → ts ≡ us → AreFactors (letters_over names) room w us → AreFactors (letters_over names) room v ts
factors_same names room {v} {w} {ts} {us} p q h =
    subst (λ (x : List Token). AreFactors (letters_over names) room x ts) (sym p) (subst (λ (ys : List LabelTree). AreFactors (letters_over names) room w ys) (sym q) h)

products_same : (names : List (List ℕ)) (room : ℕ) {v w : List Token} {ts us : List LabelTree} → v ≡ w → ts ≡ us
    → AreProducts (letters_over names) room w us → AreProducts (letters_over names) room v ts
products_same names room {v} {w} {ts} {us} p q h =
    subst (λ (x : List Token). AreProducts (letters_over names) room x ts) (sym p) (subst (λ (ys : List LabelTree). AreProducts (letters_over names) room w ys) (sym q) h)

-- the parts of a conjunction
record Parts (names : List (List ℕ)) (room : ℕ) (w : List Token) (c : LabelTree) : Type 0 where
  trees : List LabelTree
  factors : AreFactors (letters_over names) room w trees
  says : c ≡ all_of trees

mutual
  operand_factor : {names : List (List ℕ)} {room : ℕ} {w : List Token} {t : LabelTree} → IsOperand names room w t → IsFactor (letters_over names) room w t
  operand_factor always = chains.atom grammar.always
  operand_factor never = chains.atom grammar.never
  operand_factor (proposition name place stands) = chains.atom (grammar.proposition name place stands)
  operand_factor (negated one) = chains.negated (operand_factor one) refl
  operand_factor (group l) = chains.group (letter_sum l)

  conjuncts_then : {names : List (List ℕ)} {room : ℕ} {v x : List Token} {ts ws : List LabelTree} → AreConjuncts names room v ts → AreFactors (letters_over names) room x ws
      → AreFactors (letters_over names) room (v ++ x) (ts ++ ws)
  conjuncts_then no_operand rest = rest
  conjuncts_then {names = names} {room = room} {x = x} {ws = ws} (operand {v = v} {w = w} {u = u} {ts = ts} {us = us} {t = t} before one spelled parts) rest =
      factors_same names room (longer v w x u token.And spelled) (longer_parts ts us ws t parts) (conjuncts_then before (chains.factors (operand_factor one) rest))

  conjunction_parts : {names : List (List ℕ)} {room : ℕ} {w : List Token} {c : LabelTree} → IsConjunction names room w c → Parts names room w c
  conjunction_parts {names = names} {room = room} (joined {ts = ts} {t = t} before last spelled says) =
      record { trees = ts ++ t ∷ []; factors = factors_same names room spelled refl (conjuncts_then before (chains.factor (operand_factor last))); says = says }

  conjunctions_then : {names : List (List ℕ)} {room : ℕ} {v x : List Token} {ts ws : List LabelTree} → AreConjunctions names room v ts → AreProducts (letters_over names) room x ws
      → AreProducts (letters_over names) room (v ++ x) (ts ++ ws)
  conjunctions_then no_conjunction rest = rest
  conjunctions_then {names = names} {room = room} {x = x} {ws = ws} (alternative {v = v} {w = w} {u = u} {ts = ts} {us = us} {t = t} before one spelled parts) rest =
      let c = conjunction_parts one in
      products_same names room (longer v w x u token.Or spelled) (longer_parts ts us ws t parts ∙ ap (λ (y : LabelTree). ts ++ y ∷ ws) c.says)
      (conjunctions_then before (chains.products c.factors rest))

  pub letter_sum : {names : List (List ℕ)} {room : ℕ} {w : List Token} {t : LabelTree} → IsLetter names room w t → IsSum (letters_over names) room w t
  letter_sum {names = names} {room = room} (either {v = v} {w = w} {u = u} {ts = ts} {t = t} {l = l} before last spelled says) =
      let c = conjunction_parts last in
      let whole = chains.sum (conjunctions_then before (chains.product c.factors)) in
      subst (λ (x : List Token). IsSum (letters_over names) room x l) (sym spelled)
      (subst (λ (y : LabelTree). IsSum (letters_over names) room (v ++ w) y) (sym (says ∙ ap (λ (y : LabelTree). one_of (ts ++ y ∷ [])) c.says)) whole)

atom_operand : {names : List (List ℕ)} {room : ℕ} {w : List Token} {t : LabelTree} → IsLetterAtom names w t → IsOperand names room w t
atom_operand grammar.always = always
atom_operand grammar.never = never
atom_operand (grammar.proposition name place stands) = proposition name place stands

module _ (names : List (List ℕ)) where
  mutual
    factor_operand : {room : ℕ} {w : List Token} {t : LabelTree} → IsFactor (letters_over names) room w t → IsOperand names room w t
    factor_operand (chains.atom a) = atom_operand a
    factor_operand (chains.negated {room = room} {w = w} one is) =
        subst (λ (y : LabelTree). IsOperand names (suc room) (token.Not ∷ w) y) (sym is) (negated (factor_operand one))
    factor_operand (chains.group s) = group (sum_letter s)

    factors_conjunction : {room : ℕ} {v x : List Token} {ts ws : List LabelTree} → AreConjuncts names room v ts → AreFactors (letters_over names) room x ws
        → IsConjunction names room (v ++ x) (all_of (ts ++ ws))
    factors_conjunction before (chains.factor f) = joined before (factor_operand f) refl refl
    factors_conjunction {room = room} {v = v} {ts = ts} before (chains.factors {v = x} {w = y} {t = t} {ts = us} f fs) =
        let more : AreConjuncts names room (v ++ (x ++ token.And ∷ [])) (ts ++ t ∷ []) = operand before (factor_operand f) refl refl in
        subst (λ (z : List Token). IsConjunction names room z (all_of (ts ++ t ∷ us))) (longer v x y (v ++ (x ++ token.And ∷ [])) token.And refl)
        (subst (λ (zs : List LabelTree). IsConjunction names room ((v ++ (x ++ token.And ∷ [])) ++ y) (all_of zs)) (longer_parts ts (ts ++ t ∷ []) us t refl)
        (factors_conjunction more fs))

    products_letter : {room : ℕ} {v x : List Token} {ts ws : List LabelTree} → AreConjunctions names room v ts → AreProducts (letters_over names) room x ws
        → IsLetter names room (v ++ x) (one_of (ts ++ ws))
    products_letter before (chains.product fs) = either before (factors_conjunction no_operand fs) refl refl
    products_letter {room = room} {v = v} {ts = ts} before (chains.products {v = x} {w = y} {ts = us} {us = ws} fs ps) =
        let more : AreConjunctions names room (v ++ (x ++ token.Or ∷ [])) (ts ++ all_of us ∷ []) = alternative before (factors_conjunction no_operand fs) refl refl in
        subst (λ (z : List Token). IsLetter names room z (one_of (ts ++ all_of us ∷ ws))) (longer v x y (v ++ (x ++ token.Or ∷ [])) token.Or refl)
        (subst (λ (zs : List LabelTree). IsLetter names room ((v ++ (x ++ token.Or ∷ [])) ++ y) (one_of zs)) (longer_parts ts (ts ++ all_of us ∷ []) ws (all_of us) refl)
        (products_letter more ps))

    pub sum_letter : {room : ℕ} {w : List Token} {t : LabelTree} → IsSum (letters_over names) room w t → IsLetter names room w t
    sum_letter (chains.sum ps) = products_letter no_conjunction ps
