-- An edge that was passed leads on to what begins behind it, and so does a state up to its edges.
use Rattle.std.proofs.Common.{◌≡◌, ℕ, List, [], ◌∷◌, ◌++◌, map, Option, Some, None, refl, sym, subst, ◌∙◌, arith}
use Rattle.aut_base.specs.declared.limit.TheConstants.{MOST_DEPTH}
use Rattle.hoa_lexer.specs.declared.token.Token.{Token}
use Rattle.hoa_lexer.specs.declared.token.Token.TheVariants as token
use Rattle.hoa_parser.specs.Phrases.{Label, Lands, Lnot, Lnots, LabelWithin, label, no_land, or_land, no_lnot, and_lnot, true_label, false_label, proposition, alias, negated, group}
use Rattle.hoa_parser.specs.Phrases.{label_tokens, lands_tokens, lnots_tokens, lnot_tokens, optional_label, optional_marks}
use Rattle.hoa_parser.specs.declared.parse.plain.Next.{Next}
use Rattle.hoa_parser.specs.declared.parse.plain.Next.TheVariants as next
use Rattle.hoa_parser.specs.inner.AtHand.{next_token}
use Rattle.hoa_parser.specs.inner.Expecting.{Part, Number, MoreNumbers, ClosingBracket, MaybeLabel, MaybeMarks, MaybeQuoted, Marks, Edges, States}
use Rattle.hoa_parser.specs.inner.Expecting.{parts_after, parts_behind, conj_parts, expected_label}
use Rattle.hoa_parser.specs.inner.Parsing.{Cursor, PassesTokens, Passed, Unended}
use Rattle.hoa_parser.proofs.grammar.AfterLabels.{taken, left, regrouped, label_follows}
use Rattle.hoa_parser.proofs.reading.Bodies.{state_name, state_rest}
use Rattle.hoa_parser.proofs.reading.FrontParts.{unended_then}

-- no token of an edge is `--END--`

mutual
  pub label_unended : (l : Label) → Unended (label_tokens l)
  label_unended (label f fs ls) =
      unended_then (lnot_tokens f) (lnots_tokens fs ++ lands_tokens ls) (lnot_unended f) (unended_then (lnots_tokens fs) (lands_tokens ls) (lnots_unended fs) (lands_unended ls))

  lands_unended : (ls : Lands) → Unended (lands_tokens ls)
  lands_unended no_land = tt
  lands_unended (or_land f fs ls) =
      (refl, unended_then (lnot_tokens f) (lnots_tokens fs ++ lands_tokens ls) (lnot_unended f) (unended_then (lnots_tokens fs) (lands_tokens ls) (lnots_unended fs) (lands_unended ls)))

  lnots_unended : (fs : Lnots) → Unended (lnots_tokens fs)
  lnots_unended no_lnot = tt
  lnots_unended (and_lnot f fs) = (refl, unended_then (lnot_tokens f) (lnots_tokens fs) (lnot_unended f) (lnots_unended fs))

  lnot_unended : (f : Lnot) → Unended (lnot_tokens f)
  lnot_unended true_label = (refl, tt)
  lnot_unended false_label = (refl, tt)
  lnot_unended (proposition i) = (refl, tt)
  lnot_unended (alias name) = (refl, tt)
  lnot_unended (negated f) = (refl, lnot_unended f)
  lnot_unended (group l) = (refl, unended_then (label_tokens l) (token.RightParen ∷ []) (label_unended l) (refl, tt))

numbers_unended : (ns : List ℕ) → Unended (map token.Int ns ++ token.RightBrace ∷ [])
numbers_unended [] = (refl, tt)
numbers_unended (n ∷ ns) = (refl, numbers_unended ns)

marks_unended : (marks : Option (List ℕ)) → Unended (optional_marks marks)
marks_unended None = tt
marks_unended (Some marks) = (refl, numbers_unended marks)

-- what is expected behind the marks
abbrev behind_marks : Option (List ℕ) → List Part
behind_marks None = MoreNumbers ∷ MaybeMarks ∷ Edges ∷ []
behind_marks (Some marks) = Edges ∷ []

marks_go : (ns : List ℕ) (others : List Part) → parts_after MOST_DEPTH (Marks ∷ others) (map token.Int ns ++ token.RightBrace ∷ []) ≡ Some others
marks_go [] others = taken MOST_DEPTH Marks [] others token.RightBrace [] refl (omega arith)
marks_go (n ∷ ns) others = taken MOST_DEPTH Marks (Marks ∷ []) others (token.Int n) (map token.Int ns ++ token.RightBrace ∷ []) refl (omega arith) ∙ marks_go ns others

goal_goes : (marks : Option (List ℕ)) (others : List Part) → parts_after MOST_DEPTH (MoreNumbers ∷ MaybeMarks ∷ Edges ∷ others) (optional_marks marks) ≡ Some (behind_marks marks ++ others)
goal_goes None others = refl
goal_goes (Some marks) others =
    left MOST_DEPTH MoreNumbers (MaybeMarks ∷ Edges ∷ others) (optional_marks (Some marks)) refl
    ∙ taken MOST_DEPTH MaybeMarks (Marks ∷ []) (Edges ∷ others) token.LeftBrace (map token.Int marks ++ token.RightBrace ∷ []) refl (omega arith)
    ∙ marks_go marks (Edges ∷ others)

-- the tokens of an edge with a label and one goal
abbrev pub plain_tokens : Label → ℕ → Option (List ℕ) → List Token
plain_tokens l n marks = optional_label (Some l) ++ (token.Int n ∷ optional_marks marks)

leads_edge : (l : Label) (n : ℕ) (marks : Option (List ℕ)) (others : List Part) → LabelWithin MOST_DEPTH 0 l
    → parts_after MOST_DEPTH (Edges ∷ others) (plain_tokens l n marks) ≡ Some (behind_marks marks ++ others)
leads_edge l n marks others w =
    let c : List Token = token.Int n ∷ optional_marks marks in
    let parts : List Part = conj_parts ++ MaybeMarks ∷ Edges ∷ others in
    taken MOST_DEPTH Edges (expected_label 0 ++ ClosingBracket ∷ (conj_parts ++ MaybeMarks ∷ Edges ∷ [])) others token.LeftBracket ((label_tokens l ++ token.RightBracket ∷ []) ++ c) refl (omega arith)
    ∙ regrouped MOST_DEPTH (expected_label 0 ++ ClosingBracket ∷ parts) (label_tokens l) (token.RightBracket ∷ []) c
    ∙ label_follows MOST_DEPTH 0 l (ClosingBracket ∷ parts) (token.RightBracket ∷ c) (omega arith) w refl refl
    ∙ taken MOST_DEPTH ClosingBracket [] parts token.RightBracket c refl (omega arith)
    ∙ taken MOST_DEPTH Number [] (MoreNumbers ∷ MaybeMarks ∷ Edges ∷ others) (token.Int n) (optional_marks marks) refl (omega arith)
    ∙ goal_goes marks others

over_marks : (n : Next) (marks : Option (List ℕ)) (z : Token) (most : ℕ) (others : List Part) → z ≡ next_token n
    → parts_behind most (behind_marks marks ++ others) z ≡ parts_behind most (Edges ∷ others) z
over_marks next.Edge None z most others e = subst (λ (t : Token). parts_behind most (behind_marks None ++ others) t ≡ parts_behind most (Edges ∷ others) t) (sym e) refl
over_marks next.State None z most others e = subst (λ (t : Token). parts_behind most (behind_marks None ++ others) t ≡ parts_behind most (Edges ∷ others) t) (sym e) refl
over_marks n (Some marks) z most others e = refl

-- An edge with a label was passed, and what begins behind it is at hand.
pub edge_goes : (k : Next) (l : Label) (n : ℕ) (marks : Option (List ℕ)) (a b : Cursor) → LabelWithin MOST_DEPTH 0 l → Passed a (plain_tokens l n marks) b → b.token ≡ next_token k
    → PassesTokens (Edges ∷ []) a (Edges ∷ []) b
edge_goes k l n marks a b w passed at = record {
  tokens = plain_tokens l n marks;
  passed = passed;
  left = behind_marks marks;
  leads = record { runs = λ others. leads_edge l n marks others w };
  unended = unended_then (optional_label (Some l)) (token.Int n ∷ optional_marks marks)
      (refl, unended_then (label_tokens l) (token.RightBracket ∷ []) (label_unended l) (refl, tt)) (refl, marks_unended marks);
  over = λ most others. over_marks k marks b.token most others at;
}

-- what is expected behind the number and the marks of a state
abbrev behind_head : Option (List ℕ) → List Part
behind_head None = MaybeQuoted ∷ MaybeMarks ∷ Edges ∷ States ∷ []
behind_head (Some marks) = Edges ∷ States ∷ []

number_goes : (marks : Option (List ℕ)) (others : List Part) → parts_after MOST_DEPTH (MaybeQuoted ∷ MaybeMarks ∷ Edges ∷ States ∷ others) (optional_marks marks) ≡ Some (behind_head marks ++ others)
number_goes None others = refl
number_goes (Some marks) others =
    left MOST_DEPTH MaybeQuoted (MaybeMarks ∷ Edges ∷ States ∷ others) (optional_marks (Some marks)) refl
    ∙ taken MOST_DEPTH MaybeMarks (Marks ∷ []) (Edges ∷ States ∷ others) token.LeftBrace (map token.Int marks ++ token.RightBrace ∷ []) refl (omega arith)
    ∙ marks_go marks (Edges ∷ States ∷ others)

-- the tokens of a state without a label, up to its edges
abbrev pub plain_head_tokens : ℕ → Option (List ℕ) → List Token
plain_head_tokens n marks = state_name ∷ token.Int n ∷ optional_marks marks

leads_head : (n : ℕ) (marks : Option (List ℕ)) (others : List Part) → parts_after MOST_DEPTH (States ∷ others) (plain_head_tokens n marks) ≡ Some (behind_head marks ++ others)
leads_head n marks others =
    let c : List Token = token.Int n ∷ optional_marks marks in
    let parts : List Part = Number ∷ MaybeQuoted ∷ MaybeMarks ∷ Edges ∷ States ∷ others in
    taken MOST_DEPTH States state_rest others state_name c refl (omega arith)
    ∙ left MOST_DEPTH MaybeLabel parts c refl
    ∙ taken MOST_DEPTH Number [] (MaybeQuoted ∷ MaybeMarks ∷ Edges ∷ States ∷ others) (token.Int n) (optional_marks marks) refl (omega arith)
    ∙ number_goes marks others

over_head : (n : Next) (marks : Option (List ℕ)) (z : Token) (most : ℕ) (others : List Part) → z ≡ next_token n
    → parts_behind most (behind_head marks ++ others) z ≡ parts_behind most (Edges ∷ States ∷ others) z
over_head next.Edge None z most others e = subst (λ (t : Token). parts_behind most (behind_head None ++ others) t ≡ parts_behind most (Edges ∷ States ∷ others) t) (sym e) refl
over_head next.State None z most others e = subst (λ (t : Token). parts_behind most (behind_head None ++ others) t ≡ parts_behind most (Edges ∷ States ∷ others) t) (sym e) refl
over_head n (Some marks) z most others e = refl

-- A state was passed up to its edges, and what begins behind it is at hand.
pub head_goes : (k : Next) (n : ℕ) (marks : Option (List ℕ)) (a b : Cursor) → Passed a (plain_head_tokens n marks) b → b.token ≡ next_token k → PassesTokens (States ∷ []) a (Edges ∷ States ∷ []) b
head_goes k n marks a b passed at = record {
  tokens = plain_head_tokens n marks;
  passed = passed;
  left = behind_head marks;
  leads = record { runs = λ others. leads_head n marks others };
  unended = (refl, (refl, marks_unended marks));
  over = λ most others. over_head k marks b.token most others at;
}
