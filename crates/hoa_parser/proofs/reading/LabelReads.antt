-- Labels of one token, negations and groups.
use Rattle.std.proofs.Common.{◌≡◌, ◌≤◌, ℕ, suc, [], ◌∷◌, ◌++◌, Some, refl, sym, ap, ◌∙◌}
use Rattle.aut_base.specs.declared.limit.TheConstants.{MOST_DEPTH}
use Rattle.hoa_lexer.specs.declared.token.Token.TheVariants as token
use Rattle.hoa_parser.proofs.reading.Atoms.{IsAtom, atom_found}
use Rattle.hoa_parser.proofs.reading.FrontParts.{passed_then, subst_tokens}
use Rattle.hoa_parser.proofs.reading.Steps.{Read, reads_as, takes, takes_last}
use Rattle.hoa_parser.specs.inner.Expecting.{Factor}
use Rattle.hoa_parser.specs.Phrases.{group, label_tokens, lnot_tokens, negated}
use Rattle.hoa_parser.specs.inner.Parsing.{Advanced, Cursor, FailsAt, ReadsTo, State, Unadvanced}
use Rattle.hoa_parser.specs.inner.RuleReads.{IsLabel, IsLnot, atom_of}
use Rattle.hoa_parser.specs.Raw as raw
use Rattle.hoa_parser.specs.Raw.{RawTree, raw_tree}
use Rattle.hoa_parser.specs.declared.fault.ReadFault.{ReadFault}
use Rattle.hoa_parser.specs.declared.raw.RawLabel.{RawLabel}

-- "t" | "f" | INT | ANAME
pub atom_taken : (depth : ℕ) (l : RawLabel) (s s' : State) → atom_of s.ahead ≡ Some (raw_tree l) → Advanced s s' → ReadsTo (Factor depth ∷ []) [] (IsLnot depth l) s s'
atom_taken depth l s s' is one =
    let found : IsAtom depth s.ahead (raw_tree l) = atom_found depth s.ahead (raw_tree l) is in
    reads_as (λ a b h. record { phrase = found.phrase; within = found.within; passed = subst_tokens a b (sym found.spelled) h; means = found.means })
    (takes (Factor depth) [] s.ahead refl found.taken refl found.goes_on one)

pub atom_last : {f : ReadFault} (depth : ℕ) (t : RawTree) (s s' : State) → atom_of s.ahead ≡ Some t → Unadvanced f s s' → FailsAt f (Factor depth ∷ []) s s'
atom_last depth t s s' is one =
    let found : IsAtom depth s.ahead t = atom_found depth s.ahead t is in
    takes_last (Factor depth) [] s.ahead refl found.taken refl found.goes_on one

-- "!" lnot
pub negated_of : (depth : ℕ) (inner l : RawLabel) (a b c : Cursor) → suc depth ≤ MOST_DEPTH → raw_tree l ≡ raw.Not (raw_tree inner) → Read token.Bang a b → IsLnot (suc depth) inner b c
    → IsLnot depth l a c
negated_of depth inner l a b c room same bang one = record {
  phrase = negated one.phrase;
  within = (room, one.within);
  passed = passed_then a b c (token.Bang ∷ []) (lnot_tokens one.phrase) bang one.passed;
  means = same ∙ ap raw.Not one.means;
}

-- "(" label ")"
pub group_of : (depth : ℕ) (l : RawLabel) (a b c d : Cursor) → suc depth ≤ MOST_DEPTH → Read token.LeftParen a b → IsLabel (suc depth) l b c → Read token.RightParen c d → IsLnot depth l a d
group_of depth l a b c d room opens one close = record {
  phrase = group one.phrase;
  within = (room, one.within);
  passed = passed_then a b d (token.LeftParen ∷ []) (label_tokens one.phrase ++ token.RightParen ∷ []) opens (passed_then b c d (label_tokens one.phrase) (token.RightParen ∷ []) one.passed close);
  means = one.means;
}
