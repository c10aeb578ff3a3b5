-- No automaton holds `--ABORT--`, since it can stand nowhere.
use Rattle.std.proofs.Common.{◌≡◌, ℕ, List, [], ◌∷◌, ◌++◌, Option, Some, None, refl, sym, ap, ◌∙◌}
use Rattle.std.proofs.lemmas.List.{append_assoc}
use Rattle.hoa_lexer.specs.declared.token.Token.{Token}
use Rattle.hoa_lexer.specs.declared.token.Token.TheVariants.{Abort}
use Rattle.hoa_parser.proofs.grammar.AfterLabels.{after_append}
use Rattle.hoa_parser.proofs.grammar.AfterStates.{spelled_follows}
use Rattle.hoa_parser.specs.Grammar.{IsViable}
use Rattle.hoa_parser.specs.inner.Expecting as part
use Rattle.hoa_parser.specs.inner.Expecting.{Part, parts_after, after_some, parts_behind}

abort_behind : (most : ℕ) (p : Part) (left : List Part) → parts_behind most left Abort ≡ None → parts_behind most (p ∷ left) Abort ≡ None
abort_behind most part.MoreNumbers left h = h
abort_behind most part.MaybeQuoted left h = h
abort_behind most part.Strings left h = h
abort_behind most part.Words left h = h
abort_behind most part.AccValues left h = h
abort_behind most part.Values left h = h
abort_behind most (part.Factors depth) left h = h
abort_behind most (part.Products depth) left h = h
abort_behind most (part.Atoms depth) left h = h
abort_behind most (part.Conjunctions depth) left h = h
abort_behind most part.MaybeBang left h = h
abort_behind most part.MaybeLabel left h = h
abort_behind most part.MaybeMarks left h = h
abort_behind most part.Edges left h = h
abort_behind most _ left h = refl

pub abort : (most : ℕ) (left : List Part) → parts_behind most left Abort ≡ None
abort most [] = refl
abort most (p ∷ left) = abort_behind most p left (abort most left)

-- so nothing is expected behind it
none_behind : (most : ℕ) (expected : Option (List Part)) (ts : List Token) → after_some most expected (Abort ∷ ts) ≡ None
none_behind most None ts = refl
none_behind most (Some parts) ts = ap (λ (o : Option (List Part)). after_some most o ts) (abort most parts)

-- No automaton goes on with `--ABORT--`.
pub no_abort_inside : (m : ℕ) (ts us : List Token) → IsViable m (ts ++ Abort ∷ us) → ⊥
no_abort_inside m ts us v =
    let start : List Part = part.Whole ∷ [] in
    let nothing : parts_after m start ((ts ++ Abort ∷ us) ++ v.more) ≡ Some [] = spelled_follows m _ v.whole v.spelled in
    let none : parts_after m start (ts ++ Abort ∷ (us ++ v.more)) ≡ None =
    after_append m (Some start) ts (Abort ∷ (us ++ v.more)) ∙ none_behind m (parts_after m start ts) (us ++ v.more) in
    let both : Some [] ≡ None = sym nothing ∙ ap (parts_after m start) (append_assoc ts (Abort ∷ us) v.more) ∙ none in
    cc
