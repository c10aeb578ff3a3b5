-- Where a token cannot stand, no automaton begins so; where something is expected, none is whole.
use Rattle.std.proofs.Common.{◌≡◌, ℕ, ◌+◌, ◌≤◌, List, [], ◌∷◌, ◌++◌, Option, Some, None, refl, sym, ap, ◌∙◌, arith}
use Rattle.aut_base.specs.declared.limit.TheConstants.{MOST_DEPTH}
use Rattle.hoa_lexer.specs.declared.token.Token.{Token}
use Rattle.hoa_lexer.specs.declared.token.Token.TheVariants as token
use Rattle.hoa_parser.specs.inner.Expecting as part
use Rattle.hoa_parser.specs.inner.Expecting.{Part, parts_after, after_some, parts_behind}
use Rattle.hoa_parser.specs.Grammar.{IsViable, SpellsAutomaton}
use Rattle.hoa_parser.proofs.grammar.Depths.{after_more, spelled_more, viable_more}
use Rattle.hoa_parser.proofs.grammar.AfterLabels.{after_append}
use Rattle.hoa_parser.proofs.grammar.AfterStates.{spelled_follows}
use Rattle.hoa_parser.proofs.grammar.NoAbort.{abort}
use Rattle.hoa_parser.proofs.grammar.Viability.{viable}
use Rattle.hoa_parser.specs.Raw.{Written}

after_nothing : (most : ℕ) (expected : Option (List Part)) → after_some most expected [] ≡ expected
after_nothing most None = refl
after_nothing most (Some parts) = refl

-- one more token
pub after_next : (most : ℕ) (ts : List Token) (left : List Part) (z : Token) → parts_after most (part.Whole ∷ []) ts ≡ Some left
    → parts_after most (part.Whole ∷ []) (ts ++ z ∷ []) ≡ parts_behind most left z
after_next most ts left z e =
    after_append most (Some (part.Whole ∷ [])) ts (z ∷ [])
    ∙ ap (λ (o : Option (List Part)). after_some most o (z ∷ [])) e
    ∙ after_nothing most (parts_behind most left z)

none_nothing : (left : List Part) → None ≡ Some left → ⊥
none_nothing left e = cc

-- What cannot stand begins no automaton.
pub refused : (most : ℕ) (ts : List Token) → parts_after most (part.Whole ∷ []) ts ≡ None → IsViable most ts → ⊥
refused most ts e v =
    none_nothing [] (sym (after_append most (Some (part.Whole ∷ [])) ts v.more ∙ ap (λ (o : Option (List Part)). after_some most o v.more) e)
    ∙ spelled_follows most (ts ++ v.more) v.whole v.spelled)

pub dead : (ts : List Token) (left : List Part) (z : Token) → parts_after MOST_DEPTH (part.Whole ∷ []) ts ≡ Some left → ((most : ℕ) → parts_behind most left z ≡ None)
    → (most : ℕ) → IsViable most (ts ++ z ∷ []) → ⊥
dead ts left z e refuses most v =
    let n : ℕ = most + MOST_DEPTH in
    let l : MOST_DEPTH ≤ most + MOST_DEPTH = omega arith in
    let here = after_next n ts left z (after_more MOST_DEPTH n ts (part.Whole ∷ []) left l e) in
    refused n (ts ++ z ∷ []) (here ∙ refuses n) (viable_more most n (ts ++ z ∷ []) (omega arith) v)

-- `--ABORT--` can stand nowhere.
pub abort_is_dead : (ts : List Token) (left : List Part) → parts_after MOST_DEPTH (part.Whole ∷ []) ts ≡ Some left
    → (most : ℕ) → IsViable most (ts ++ token.Abort ∷ []) → ⊥
abort_is_dead ts left e = dead ts left token.Abort e (λ most. abort most left)

some_nothing : (p : Part) (left : List Part) → Some (p ∷ left) ≡ Some [] → ⊥
some_nothing p left e = cc

-- Where a part is expected, no automaton is whole.
pub unfinished : (ts : List Token) (p : Part) (left : List Part) → parts_after MOST_DEPTH (part.Whole ∷ []) ts ≡ Some (p ∷ left)
    → (most : ℕ) (w : Written) → SpellsAutomaton most ts w → ⊥
unfinished ts p left e most w s =
    let n : ℕ = most + MOST_DEPTH in
    let there = after_more MOST_DEPTH n ts (part.Whole ∷ []) (p ∷ left) (omega arith) e in
    some_nothing p left (sym there ∙ spelled_follows n ts w (spelled_more most n ts w (omega arith) s))

-- A token that could stand if more might be open.
pub deep : (m : ℕ) (ts : List Token) (left left' : List Part) (z : Token) → parts_after MOST_DEPTH (part.Whole ∷ []) ts ≡ Some left → parts_behind MOST_DEPTH left z ≡ None
    → parts_behind m left z ≡ Some left'
    → MOST_DEPTH ≤ m → IsViable m (ts ++ z ∷ []) × (IsViable MOST_DEPTH (ts ++ z ∷ []) → ⊥)
deep m ts left left' z e here there l = (
  viable m (ts ++ z ∷ []) left' (after_next m ts left z (after_more MOST_DEPTH m ts (part.Whole ∷ []) left l e) ∙ there),
  refused MOST_DEPTH (ts ++ z ∷ []) (after_next MOST_DEPTH ts left z e ∙ here),
)

-- before the first token
pub nothing_viable : IsViable MOST_DEPTH []
nothing_viable = viable MOST_DEPTH [] (part.Whole ∷ []) refl

pub nothing_unfinished : (most : ℕ) (w : Written) → SpellsAutomaton most [] w → ⊥
nothing_unfinished = unfinished [] part.Whole [] refl
