-- What is expected after the tokens of a label or of an acceptance condition.
use Rattle.std.proofs.Common.{◌≡◌, ℕ, suc, ◌≤◌, Bool, true, false, List, [], ◌∷◌, ◌++◌, Option, Some, None, refl, ap, ◌∙◌, arith}
use Rattle.std.specs.Prelude.{codes, cond}
use Rattle.std.proofs.lemmas.Bool.{le-leb}
use Rattle.std.proofs.lemmas.List.{append_assoc}
use Rattle.hoa_lexer.specs.declared.token.Token.{Token}
use Rattle.hoa_lexer.specs.declared.token.Token.TheVariants as token
use Rattle.hoa_parser.specs.inner.Expecting.{Part, Factor, Factors, Products, Atom, Atoms, Conjunctions, OpeningParen, MaybeBang, Number}
use Rattle.hoa_parser.specs.inner.Expecting.{ClosingParen, TokenUse, Takes, Passes, parts_after, after_some, parts_behind, moved, move, open_at, expected_label}
use Rattle.hoa_parser.specs.inner.Expecting.{condition_parts, set_parts}
use Rattle.hoa_parser.specs.Phrases.{Label, Lands, Lnots, Lnot, label, no_land, or_land, no_lnot, and_lnot, true_label, false_label, proposition}
use Rattle.hoa_parser.specs.Phrases.{alias, negated, group, label_tokens, lands_tokens, lnots_tokens, lnot_tokens, LabelWithin, LandsWithin}
use Rattle.hoa_parser.specs.Phrases.{LnotsWithin, LnotWithin, Condition, Fands, Fatoms, Fatom, condition, no_fand, or_fand, no_fatom, and_fatom}
use Rattle.hoa_parser.specs.Phrases.{true_condition, false_condition, infinitely, finitely, condition_group, condition_tokens, fands_tokens}
use Rattle.hoa_parser.specs.Grammar.{set_tokens}
use Rattle.hoa_parser.specs.Phrases.{fatoms_tokens, fatom_tokens, ConditionWithin, FandsWithin, FatomsWithin, FatomWithin}

-- the tokens go on behind what the part stands for
abbrev pub Leaves : Part → List Token → Type 0
Leaves part [] = ⊥
Leaves part (z ∷ rest) = move part z ≡ Passes

pub after_append : (most : ℕ) (expected : Option (List Part)) (u v : List Token) → after_some most expected (u ++ v) ≡ after_some most (after_some most expected u) v
after_append most None u v = refl
after_append most (Some parts) [] v = refl
after_append most (Some parts) (t ∷ ts) v = after_append most (parts_behind most parts t) ts v

-- a part that is taken, and one that is passed
pub opened : (most : ℕ) (parts others : List Part) (passed : Option (List Part)) → open_at parts ≤ most → moved most (Takes parts) passed others ≡ Some (parts ++ others)
opened most parts others passed l = ap (λ b. cond b (Some (parts ++ others)) None) (le-leb (open_at parts) most l)

pub taken : (most : ℕ) (part : Part) (parts others : List Part) (t : Token) (c : List Token) → move part t ≡ Takes parts → open_at parts ≤ most
    → parts_after most (part ∷ others) (t ∷ c) ≡ parts_after most (parts ++ others) c
taken most part parts others t c e l =
    ap (λ (m : TokenUse). after_some most (moved most m (parts_behind most others t) others) c) e
    ∙ ap (λ (o : Option (List Part)). after_some most o c) (opened most parts others (parts_behind most others t) l)

pub left : (most : ℕ) (part : Part) (others : List Part) (c : List Token) → Leaves part c → parts_after most (part ∷ others) c ≡ parts_after most others c
left most part others [] e = absurd e
left most part others (t ∷ c) e = ap (λ (m : TokenUse). after_some most (moved most m (parts_behind most others t) others) c) e

pub regrouped : (most : ℕ) (parts : List Part) (u v c : List Token) → parts_after most parts ((u ++ v) ++ c) ≡ parts_after most parts (u ++ (v ++ c))
regrouped most parts u v c = ap (parts_after most parts) (append_assoc u v c)

lands_leave : (depth : ℕ) (ls : Lands) (c : List Token) → Leaves (Factors depth) c → Leaves (Factors depth) (lands_tokens ls ++ c)
lands_leave depth no_land c e = e
lands_leave depth (or_land f fs ls) c e = refl

mutual
  pub label_follows : (most depth : ℕ) (l : Label) (others : List Part) (c : List Token) → depth ≤ most → LabelWithin most depth l → Leaves (Factors depth) c → Leaves (Products depth) c
      → parts_after most (expected_label depth ++ others) (label_tokens l ++ c) ≡ parts_after most others c
  label_follows most depth (label f fs ls) others c d w e g =
      regrouped most (expected_label depth ++ others) (lnot_tokens f) (lnots_tokens fs ++ lands_tokens ls) c
      ∙ lnot_follows most depth f (Factors depth ∷ Products depth ∷ others) ((lnots_tokens fs ++ lands_tokens ls) ++ c) d w.0
      ∙ regrouped most (Factors depth ∷ Products depth ∷ others) (lnots_tokens fs) (lands_tokens ls) c
      ∙ lnots_follow most depth fs (Products depth ∷ others) (lands_tokens ls ++ c) d w.1 (lands_leave depth ls c e)
      ∙ lands_follow most depth ls others c d w.2 e g

  lands_follow : (most depth : ℕ) (ls : Lands) (others : List Part) (c : List Token) → depth ≤ most → LandsWithin most depth ls → Leaves (Factors depth) c → Leaves (Products depth) c
      → parts_after most (Products depth ∷ others) (lands_tokens ls ++ c) ≡ parts_after most others c
  lands_follow most depth no_land others c d w e g = left most (Products depth) others c g
  lands_follow most depth (or_land f fs ls) others c d w e g =
      taken most (Products depth) (expected_label depth) others token.Bar ((lnot_tokens f ++ (lnots_tokens fs ++ lands_tokens ls)) ++ c) refl d
      ∙ regrouped most (expected_label depth ++ others) (lnot_tokens f) (lnots_tokens fs ++ lands_tokens ls) c
      ∙ lnot_follows most depth f (Factors depth ∷ Products depth ∷ others) ((lnots_tokens fs ++ lands_tokens ls) ++ c) d w.0
      ∙ regrouped most (Factors depth ∷ Products depth ∷ others) (lnots_tokens fs) (lands_tokens ls) c
      ∙ lnots_follow most depth fs (Products depth ∷ others) (lands_tokens ls ++ c) d w.1 (lands_leave depth ls c e)
      ∙ lands_follow most depth ls others c d w.2 e g

  lnots_follow : (most depth : ℕ) (fs : Lnots) (others : List Part) (c : List Token) → depth ≤ most → LnotsWithin most depth fs → Leaves (Factors depth) c
      → parts_after most (Factors depth ∷ others) (lnots_tokens fs ++ c) ≡ parts_after most others c
  lnots_follow most depth no_lnot others c d w e = left most (Factors depth) others c e
  lnots_follow most depth (and_lnot f fs) others c d w e =
      taken most (Factors depth) (Factor depth ∷ Factors depth ∷ []) others token.Amp ((lnot_tokens f ++ lnots_tokens fs) ++ c) refl d
      ∙ regrouped most (Factor depth ∷ Factors depth ∷ others) (lnot_tokens f) (lnots_tokens fs) c
      ∙ lnot_follows most depth f (Factors depth ∷ others) (lnots_tokens fs ++ c) d w.0
      ∙ lnots_follow most depth fs others c d w.1 e

  pub lnot_follows : (most depth : ℕ) (f : Lnot) (others : List Part) (c : List Token) → depth ≤ most → LnotWithin most depth f
      → parts_after most (Factor depth ∷ others) (lnot_tokens f ++ c) ≡ parts_after most others c
  lnot_follows most depth true_label others c d w = taken most (Factor depth) [] others (token.Identifier (codes "t")) c refl (omega arith)
  lnot_follows most depth false_label others c d w = taken most (Factor depth) [] others (token.Identifier (codes "f")) c refl (omega arith)
  lnot_follows most depth (proposition i) others c d w = taken most (Factor depth) [] others (token.Int i) c refl (omega arith)
  lnot_follows most depth (alias name) others c d w = taken most (Factor depth) [] others (token.Alias name) c refl (omega arith)
  lnot_follows most depth (negated f) others c d w =
      taken most (Factor depth) (Factor (suc depth) ∷ []) others token.Bang (lnot_tokens f ++ c) refl w.0
      ∙ lnot_follows most (suc depth) f others c w.0 w.1
  lnot_follows most depth (group l) others c d w =
      taken most (Factor depth) (expected_label (suc depth) ++ ClosingParen ∷ []) others token.LeftParen ((label_tokens l ++ token.RightParen ∷ []) ++ c) refl w.0
      ∙ regrouped most (expected_label (suc depth) ++ ClosingParen ∷ others) (label_tokens l) (token.RightParen ∷ []) c
      ∙ label_follows most (suc depth) l (ClosingParen ∷ others) (token.RightParen ∷ c) w.0 w.1 refl refl
      ∙ taken most ClosingParen [] others token.RightParen c refl (omega arith)

fands_leave : (depth : ℕ) (ls : Fands) (c : List Token) → Leaves (Atoms depth) c → Leaves (Atoms depth) (fands_tokens ls ++ c)
fands_leave depth no_fand c e = e
fands_leave depth (or_fand f fs ls) c e = refl

-- "(" "!"? INT ")"
set_follows : (most set : ℕ) (neg : Bool) (others : List Part) (c : List Token) → parts_after most (set_parts ++ others) (set_tokens set neg ++ c) ≡ parts_after most others c
set_follows most set false others c =
    taken most OpeningParen [] (MaybeBang ∷ Number ∷ ClosingParen ∷ others) token.LeftParen (token.Int set ∷ token.RightParen ∷ c) refl (omega arith)
    ∙ left most MaybeBang (Number ∷ ClosingParen ∷ others) (token.Int set ∷ token.RightParen ∷ c) refl
    ∙ taken most Number [] (ClosingParen ∷ others) (token.Int set) (token.RightParen ∷ c) refl (omega arith)
    ∙ taken most ClosingParen [] others token.RightParen c refl (omega arith)
set_follows most set true others c =
    taken most OpeningParen [] (MaybeBang ∷ Number ∷ ClosingParen ∷ others) token.LeftParen (token.Bang ∷ token.Int set ∷ token.RightParen ∷ c) refl (omega arith)
    ∙ taken most MaybeBang [] (Number ∷ ClosingParen ∷ others) token.Bang (token.Int set ∷ token.RightParen ∷ c) refl (omega arith)
    ∙ taken most Number [] (ClosingParen ∷ others) (token.Int set) (token.RightParen ∷ c) refl (omega arith)
    ∙ taken most ClosingParen [] others token.RightParen c refl (omega arith)

mutual
  pub condition_follows : (most depth : ℕ) (l : Condition) (others : List Part) (c : List Token) → depth ≤ most → ConditionWithin most depth l → Leaves (Atoms depth) c
      → Leaves (Conjunctions depth) c → parts_after most (condition_parts depth ++ others) (condition_tokens l ++ c) ≡ parts_after most others c
  condition_follows most depth (condition f fs ls) others c d w e g =
      regrouped most (condition_parts depth ++ others) (fatom_tokens f) (fatoms_tokens fs ++ fands_tokens ls) c
      ∙ fatom_follows most depth f (Atoms depth ∷ Conjunctions depth ∷ others) ((fatoms_tokens fs ++ fands_tokens ls) ++ c) d w.0
      ∙ regrouped most (Atoms depth ∷ Conjunctions depth ∷ others) (fatoms_tokens fs) (fands_tokens ls) c
      ∙ fatoms_follow most depth fs (Conjunctions depth ∷ others) (fands_tokens ls ++ c) d w.1 (fands_leave depth ls c e)
      ∙ fands_follow most depth ls others c d w.2 e g

  fands_follow : (most depth : ℕ) (ls : Fands) (others : List Part) (c : List Token) → depth ≤ most → FandsWithin most depth ls → Leaves (Atoms depth) c → Leaves (Conjunctions depth) c
      → parts_after most (Conjunctions depth ∷ others) (fands_tokens ls ++ c) ≡ parts_after most others c
  fands_follow most depth no_fand others c d w e g = left most (Conjunctions depth) others c g
  fands_follow most depth (or_fand f fs ls) others c d w e g =
      taken most (Conjunctions depth) (condition_parts depth) others token.Bar ((fatom_tokens f ++ (fatoms_tokens fs ++ fands_tokens ls)) ++ c) refl d
      ∙ regrouped most (condition_parts depth ++ others) (fatom_tokens f) (fatoms_tokens fs ++ fands_tokens ls) c
      ∙ fatom_follows most depth f (Atoms depth ∷ Conjunctions depth ∷ others) ((fatoms_tokens fs ++ fands_tokens ls) ++ c) d w.0
      ∙ regrouped most (Atoms depth ∷ Conjunctions depth ∷ others) (fatoms_tokens fs) (fands_tokens ls) c
      ∙ fatoms_follow most depth fs (Conjunctions depth ∷ others) (fands_tokens ls ++ c) d w.1 (fands_leave depth ls c e)
      ∙ fands_follow most depth ls others c d w.2 e g

  fatoms_follow : (most depth : ℕ) (fs : Fatoms) (others : List Part) (c : List Token) → depth ≤ most → FatomsWithin most depth fs → Leaves (Atoms depth) c
      → parts_after most (Atoms depth ∷ others) (fatoms_tokens fs ++ c) ≡ parts_after most others c
  fatoms_follow most depth no_fatom others c d w e = left most (Atoms depth) others c e
  fatoms_follow most depth (and_fatom f fs) others c d w e =
      taken most (Atoms depth) (Atom depth ∷ Atoms depth ∷ []) others token.Amp ((fatom_tokens f ++ fatoms_tokens fs) ++ c) refl d
      ∙ regrouped most (Atom depth ∷ Atoms depth ∷ others) (fatom_tokens f) (fatoms_tokens fs) c
      ∙ fatom_follows most depth f (Atoms depth ∷ others) (fatoms_tokens fs ++ c) d w.0
      ∙ fatoms_follow most depth fs others c d w.1 e

  fatom_follows : (most depth : ℕ) (f : Fatom) (others : List Part) (c : List Token) → depth ≤ most → FatomWithin most depth f
      → parts_after most (Atom depth ∷ others) (fatom_tokens f ++ c) ≡ parts_after most others c
  fatom_follows most depth true_condition others c d w = taken most (Atom depth) [] others (token.Identifier (codes "t")) c refl (omega arith)
  fatom_follows most depth false_condition others c d w = taken most (Atom depth) [] others (token.Identifier (codes "f")) c refl (omega arith)
  fatom_follows most depth (infinitely set neg) others c d w =
      taken most (Atom depth) set_parts others (token.Identifier (codes "Inf")) (set_tokens set neg ++ c) refl (omega arith)
      ∙ set_follows most set neg others c
  fatom_follows most depth (finitely set neg) others c d w =
      taken most (Atom depth) set_parts others (token.Identifier (codes "Fin")) (set_tokens set neg ++ c) refl (omega arith)
      ∙ set_follows most set neg others c
  fatom_follows most depth (condition_group l) others c d w =
      taken most (Atom depth) (condition_parts (suc depth) ++ ClosingParen ∷ []) others token.LeftParen ((condition_tokens l ++ token.RightParen ∷ []) ++ c) refl w.0
      ∙ regrouped most (condition_parts (suc depth) ++ ClosingParen ∷ others) (condition_tokens l) (token.RightParen ∷ []) c
      ∙ condition_follows most (suc depth) l (ClosingParen ∷ others) (token.RightParen ∷ c) w.0 w.1 refl refl
      ∙ taken most ClosingParen [] others token.RightParen c refl (omega arith)
