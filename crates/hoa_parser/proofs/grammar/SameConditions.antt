-- The tokens of an acceptance condition have one meaning and one end.
use Rattle.std.proofs.Common.{◌≡◌, ℕ, Bool, true, false, List, [], ◌∷◌, ◌++◌, refl, sym, ◌∙◌}
use Rattle.std.specs.Prelude.{codes}
use Rattle.std.proofs.Math.Path.{ap₂}
use Rattle.std.proofs.lemmas.List.{append_assoc}
use Rattle.hoa_lexer.specs.declared.token.Token.{Token}
use Rattle.hoa_lexer.specs.declared.token.Token.TheVariants.{Amp, Bar, LeftParen, RightParen}
use Rattle.aut_base.proofs.lists.Lists.{append_three}
use Rattle.aut_base.specs.Formula as formula
use Rattle.hoa_parser.specs.Grammar.{set_tokens}
use Rattle.hoa_parser.specs.Phrases.{Condition, Fands, Fatoms, Fatom, formula_conjunction, formula_disjunction, condition_tokens, fands_tokens, fatoms_tokens}
use Rattle.hoa_parser.specs.Phrases.{fatom_tokens, condition_meaning, fands_meaning, fatoms_meaning, fatom_meaning}
use Rattle.hoa_parser.specs.Phrases.Condition.{condition}
use Rattle.hoa_parser.specs.Phrases.Fands.{no_fand, or_fand}
use Rattle.hoa_parser.specs.Phrases.Fatoms.{no_fatom, and_fatom}
use Rattle.hoa_parser.specs.Phrases.Fatom.{true_condition, false_condition, infinitely, finitely, condition_group}
use Rattle.hoa_parser.proofs.grammar.JoinedParts.{ap₃}
use Rattle.hoa_parser.proofs.grammar.Stops.{Stops, IsSame, is_amp, is_join, join_no_amp, stops_not, later_tokens, words_apart}

-- what follows the factors of a conjunction
fands_stop : (ls : Fands) (c : List Token) → Stops is_join c → Stops is_amp (fands_tokens ls ++ c)
fands_stop no_fand c s = join_no_amp c s
fands_stop (or_fand f fs ls) c s = refl

-- a set, with or without `!`
record IsSameSet (m n : ℕ) (p q : Bool) (c d : List Token) : Type 0 where
  set : m ≡ n
  sign : p ≡ q
  rest : c ≡ d

same_set : (m n : ℕ) (p q : Bool) (c d : List Token) → set_tokens m p ++ c ≡ set_tokens n q ++ d → IsSameSet m n p q c d
same_set m n false false c d e = record { set = cc; sign = refl; rest = cc }
same_set m n false true c d e = cc
same_set m n true false c d e = cc
same_set m n true true c d e = record { set = cc; sign = refl; rest = cc }

mutual
  pub same_condition : (l m : Condition) (c d : List Token) → condition_tokens l ++ c ≡ condition_tokens m ++ d → Stops is_join c → Stops is_join d
      → IsSame (condition_meaning l) (condition_meaning m) c d
  same_condition (condition f fs ls) (condition g gs ms) c d e s t =
      let a = same_fatom f g (fatoms_tokens fs ++ (fands_tokens ls ++ c)) (fatoms_tokens gs ++ (fands_tokens ms ++ d))
      (sym (append_three (fatom_tokens f) (fatoms_tokens fs) (fands_tokens ls) c) ∙ e ∙ append_three (fatom_tokens g) (fatoms_tokens gs) (fands_tokens ms) d) in
      let b = same_fatoms fs gs (fands_tokens ls ++ c) (fands_tokens ms ++ d) a.rest (fands_stop ls c s) (fands_stop ms d t) in
      let k = same_fands ls ms c d b.rest s t in
      record { value = ap₃ (λ x y z. formula_disjunction (formula_conjunction x y) z) a.value b.value k.value; rest = k.rest }

  pub same_fands : (ls ms : Fands) (c d : List Token) → fands_tokens ls ++ c ≡ fands_tokens ms ++ d → Stops is_join c → Stops is_join d → IsSame (fands_meaning ls) (fands_meaning ms) c d
  same_fands no_fand no_fand c d e s t = record { value = refl; rest = e }
  same_fands no_fand (or_fand g gs ms) c d e s t = absurd (stops_not is_join c Bar _ s refl e)
  same_fands (or_fand f fs ls) no_fand c d e s t = absurd (stops_not is_join d Bar _ t refl (sym e))
  same_fands (or_fand f fs ls) (or_fand g gs ms) c d e s t =
      let a = same_fatom f g (fatoms_tokens fs ++ (fands_tokens ls ++ c)) (fatoms_tokens gs ++ (fands_tokens ms ++ d))
      (sym (append_three (fatom_tokens f) (fatoms_tokens fs) (fands_tokens ls) c) ∙ later_tokens Bar Bar _ _ e ∙ append_three (fatom_tokens g) (fatoms_tokens gs) (fands_tokens ms) d) in
      let b = same_fatoms fs gs (fands_tokens ls ++ c) (fands_tokens ms ++ d) a.rest (fands_stop ls c s) (fands_stop ms d t) in
      let k = same_fands ls ms c d b.rest s t in
      record { value = ap₃ (λ x y z. formula_conjunction x y ∷ z) a.value b.value k.value; rest = k.rest }

  pub same_fatoms : (fs gs : Fatoms) (c d : List Token) → fatoms_tokens fs ++ c ≡ fatoms_tokens gs ++ d → Stops is_amp c → Stops is_amp d → IsSame (fatoms_meaning fs) (fatoms_meaning gs) c d
  same_fatoms no_fatom no_fatom c d e s t = record { value = refl; rest = e }
  same_fatoms no_fatom (and_fatom g gs) c d e s t = absurd (stops_not is_amp c Amp _ s refl e)
  same_fatoms (and_fatom f fs) no_fatom c d e s t = absurd (stops_not is_amp d Amp _ t refl (sym e))
  same_fatoms (and_fatom f fs) (and_fatom g gs) c d e s t =
      let a = same_fatom f g (fatoms_tokens fs ++ c) (fatoms_tokens gs ++ d)
      (sym (append_assoc (fatom_tokens f) (fatoms_tokens fs) c) ∙ later_tokens Amp Amp _ _ e ∙ append_assoc (fatom_tokens g) (fatoms_tokens gs) d) in
      let b = same_fatoms fs gs c d a.rest s t in
      record { value = ap₂ (λ x y. x ∷ y) a.value b.value; rest = b.rest }

  pub same_fatom : (f g : Fatom) (c d : List Token) → fatom_tokens f ++ c ≡ fatom_tokens g ++ d → IsSame (fatom_meaning f) (fatom_meaning g) c d
  same_fatom true_condition true_condition c d e = record { value = refl; rest = later_tokens _ _ c d e }
  same_fatom false_condition false_condition c d e = record { value = refl; rest = later_tokens _ _ c d e }
  same_fatom (infinitely m p) (infinitely n q) c d e =
      let a = same_set m n p q c d (later_tokens _ _ _ _ e) in
      record { value = ap₂ formula.Inf a.set a.sign; rest = a.rest }
  same_fatom (finitely m p) (finitely n q) c d e =
      let a = same_set m n p q c d (later_tokens _ _ _ _ e) in
      record { value = ap₂ formula.Fin a.set a.sign; rest = a.rest }
  same_fatom (condition_group l) (condition_group m) c d e =
      let a = same_condition l m (RightParen ∷ c) (RightParen ∷ d)
      (sym (append_assoc (condition_tokens l) (RightParen ∷ []) c) ∙ later_tokens LeftParen LeftParen _ _ e ∙ append_assoc (condition_tokens m) (RightParen ∷ []) d) refl refl in
      record { value = a.value; rest = later_tokens RightParen RightParen c d a.rest }
  same_fatom true_condition false_condition c d e = absurd (words_apart (codes "t") (codes "f") _ _ refl refl e)
  same_fatom true_condition (infinitely n q) c d e = absurd (words_apart (codes "t") (codes "Inf") _ _ refl refl e)
  same_fatom true_condition (finitely n q) c d e = absurd (words_apart (codes "t") (codes "Fin") _ _ refl refl e)
  same_fatom false_condition true_condition c d e = absurd (words_apart (codes "f") (codes "t") _ _ refl refl e)
  same_fatom false_condition (infinitely n q) c d e = absurd (words_apart (codes "f") (codes "Inf") _ _ refl refl e)
  same_fatom false_condition (finitely n q) c d e = absurd (words_apart (codes "f") (codes "Fin") _ _ refl refl e)
  same_fatom (infinitely n q) true_condition c d e = absurd (words_apart (codes "Inf") (codes "t") _ _ refl refl e)
  same_fatom (infinitely n q) false_condition c d e = absurd (words_apart (codes "Inf") (codes "f") _ _ refl refl e)
  same_fatom (infinitely m p) (finitely n q) c d e = absurd (words_apart (codes "Inf") (codes "Fin") _ _ refl refl e)
  same_fatom (finitely n q) true_condition c d e = absurd (words_apart (codes "Fin") (codes "t") _ _ refl refl e)
  same_fatom (finitely n q) false_condition c d e = absurd (words_apart (codes "Fin") (codes "f") _ _ refl refl e)
  same_fatom (finitely m p) (infinitely n q) c d e = absurd (words_apart (codes "Fin") (codes "Inf") _ _ refl refl e)
  same_fatom _ _ c d e = absurd (cc)
