-- The signs of acceptance conditions, and the sets behind them.
use Rattle.std.proofs.Common.{◌≡◌, ℕ, Bool, true, List, [], ◌∷◌, ◌++◌, refl, sym}
use Rattle.std.specs.Prelude.{nat_le}
use Rattle.aut_base.specs.Formula.{formula_tree}
use Rattle.aut_base.specs.declared.formula.Formula.{Formula}
use Rattle.aut_base.specs.declared.limit.TheConstants.{MOST_DEPTH}
use Rattle.hoa_lexer.specs.declared.token.Token.TheVariants as token
use Rattle.hoa_parser.proofs.reading.Atoms.{sign_word}
use Rattle.hoa_parser.proofs.reading.FrontParts.{passed_then, subst_tokens}
use Rattle.hoa_parser.proofs.reading.Steps.{Read, takes}
use Rattle.hoa_parser.specs.Grammar.{bang_tokens, set_tokens}
use Rattle.hoa_parser.specs.Phrases.{Fatom, FatomWithin, fatom_meaning, fatom_tokens}
use Rattle.hoa_parser.specs.inner.Expecting.{Atom, Part, Takes, move, open_at, set_parts}
use Rattle.hoa_parser.specs.inner.Parsing.{Advanced, Cursor, ReadsTo, State}
use Rattle.hoa_parser.specs.inner.RuleReads.{IsFatom, IsMaybeBang, IsIntToken, IsSet}
use Rattle.hoa_parser.specs.declared.parse.condition.SetAt.{SetAt}
use Rattle.hoa_parser.specs.declared.parse.condition.Sign.{Sign}
use Rattle.hoa_parser.specs.declared.parse.condition.Sign.TheVariants as sign

-- "(" "!"? INT ")"
pub set_of : (number : ℕ) (neg : Bool) (a b c d e : Cursor) → Read token.LeftParen a b → IsMaybeBang neg b c → IsIntToken number c d → Read token.RightParen d e
    → IsSet (record { number = number; neg = neg }) a e
set_of number neg a b c d e opens bang one close =
    passed_then a b e (token.LeftParen ∷ []) (bang_tokens neg ++ (token.Int number ∷ token.RightParen ∷ [])) opens
    (passed_then b c e (bang_tokens neg) (token.Int number ∷ token.RightParen ∷ []) bang (passed_then c d e (token.Int number ∷ []) (token.RightParen ∷ []) one close))

-- what is expected behind a sign
abbrev pub sign_parts : Sign → List Part
sign_parts sign.Inf = set_parts
sign_parts sign.Fin = set_parts
sign_parts _ = []

pub sign_taken : (depth : ℕ) (g : Sign) → move (Atom depth) (token.Identifier (sign_word g)) ≡ Takes (sign_parts g)
sign_taken depth sign.True = refl
sign_taken depth sign.False = refl
sign_taken depth sign.Inf = refl
sign_taken depth sign.Fin = refl

pub sign_opens : (g : Sign) → nat_le (open_at (sign_parts g)) MOST_DEPTH ≡ true
sign_opens sign.True = refl
sign_opens sign.False = refl
sign_opens sign.Inf = refl
sign_opens sign.Fin = refl

-- a sign that is all of the atom
pub sign_alone : (depth : ℕ) (g : Sign) (phrase : Fatom) (l : Formula) (a b : Cursor) → FatomWithin MOST_DEPTH depth phrase → fatom_tokens phrase ≡ token.Identifier (sign_word g) ∷ []
    → formula_tree l ≡ fatom_meaning phrase
    → Read (token.Identifier (sign_word g)) a b → IsFatom depth l a b
sign_alone depth g phrase l a b within spelled means one = record { phrase = phrase; within = within; passed = subst_tokens a b (sym spelled) one; means = means }

-- a sign and its set
pub sign_with_set : (depth : ℕ) (g : Sign) (set : SetAt) (phrase : Fatom) (l : Formula) (a b c : Cursor) → FatomWithin MOST_DEPTH depth phrase
    → fatom_tokens phrase ≡ token.Identifier (sign_word g) ∷ set_tokens set.number set.neg → formula_tree l ≡ fatom_meaning phrase
    → Read (token.Identifier (sign_word g)) a b → IsSet set b c → IsFatom depth l a c
sign_with_set depth g set phrase l a b c within spelled means one two = record {
  phrase = phrase;
  within = within;
  passed = subst_tokens a c (sym spelled) (passed_then a b c (token.Identifier (sign_word g) ∷ []) (set_tokens set.number set.neg) one two);
  means = means;
}

-- the token at hand was a sign
pub sign_taken_here : (depth : ℕ) (g : Sign) {s s' : State} → s.ahead ≡ token.Identifier (sign_word g) → Advanced s s'
    → ReadsTo (Atom depth ∷ []) (sign_parts g ++ []) (Read (token.Identifier (sign_word g))) s s'
sign_taken_here depth g is one = takes (Atom depth) [] (token.Identifier (sign_word g)) is (sign_taken depth g) (sign_opens g) refl one
