-- Edges in front of bytes.
use Rattle.std.proofs.Common.{◌≡◌, ℕ, List, [], ◌∷◌, ◌++◌, map, Option, Some, None, refl, sym, ap, subst, ◌∙◌}
use Rattle.std.proofs.lemmas.List.{map-append}
use Rattle.hoa_lexer.specs.inner.Steps.{PassesBlanks}
use Rattle.hoa_lexer.specs.declared.token.Token.TheVariants as token
use Rattle.hoa_lexer.proofs.next_token.Fronts.{skips_none}
use Rattle.hoa_parser.specs.Ends.{WrittenEnds}
use Rattle.hoa_parser.specs.Phrases.{label_tokens, optional_marks}
use Rattle.hoa_parser.specs.Raw.{RawTree, WrittenEdge}
use Rattle.hoa_parser.specs.declared.raw.RawLabel.{RawLabel}
use Rattle.hoa_parser.specs.inner.AtHand.{AreMarks, AreMaybeMarks, IsLabel, IsIntText, IsPlain, IsPlainHead, IsSigned, Spelled}
use Rattle.hoa_parser.specs.inner.RuleReads.{WrittenHead}
use Rattle.hoa_parser.proofs.plain.Passing.{spelled_behind, spelled_then}
use Rattle.hoa_parser.proofs.plain.Signs.{same_tokens, sign_alone, sign_then}

pub marks_none : (ms : List ℕ) (x : List ℕ) → ms ≡ [] → Spelled x (map token.Int ms) x
marks_none ms x is = subst (λ (ns : List ℕ). Spelled x (map token.Int ns) x) (sym is) (skips_none x)

pub marks_push : (ms ns : List ℕ) (n : ℕ) (x y z : List ℕ) → ns ≡ ms ++ n ∷ [] → Spelled x (map token.Int ms) y → IsIntText n y z → Spelled x (map token.Int ns) z
marks_push ms ns n x y z is s k =
    same_tokens (map token.Int ms ++ token.Int n ∷ []) (map token.Int ns) x z (sym (map-append token.Int ms (n ∷ [])) ∙ ap (map token.Int) (sym is))
    (spelled_then (map token.Int ms) (token.Int n ∷ []) x y z s k)

pub marks_end : (ms : List ℕ) (x y z : List ℕ) → Spelled x (map token.Int ms) y → IsSigned 125 y z → AreMarks ms x z
marks_end ms x y z s sign = spelled_then (map token.Int ms) (token.RightBrace ∷ []) x y z s (sign_alone token.RightBrace 125 y z refl sign)

pub no_marks : (ms : List ℕ) (x : List ℕ) → ms ≡ [] → AreMaybeMarks ms x x
no_marks ms x is = record { phrase = None; within = tt; spelled = skips_none x; means = is }

pub some_marks : (ms : List ℕ) (x y z : List ℕ) → IsSigned 123 x y → AreMarks ms y z → AreMaybeMarks ms x z
some_marks ms x y z sign s = record {
  phrase = Some ms;
  within = tt;
  spelled = sign_then token.LeftBrace 123 (map token.Int ms ++ token.RightBrace ∷ []) x y z refl sign s;
  means = refl;
}

edge_means : (l k : RawTree) (to to' marks marks' : List ℕ) → l ≡ k → to ≡ to' → marks ≡ marks'
    → (let e : WrittenEdge = record { label = Some l; to = to; marks = marks } in e) ≡ record { label = Some k; to = to'; marks = marks' }
edge_means l k to to' marks marks' same_label same_to same_marks = cc

pub plain : (l : RawLabel) (marks : List ℕ) (ends : WrittenEnds) (n : ℕ) (x x' y z u w next : List ℕ) → PassesBlanks x x' → IsLabel l x' y → IsSigned 93 y z → IsIntText n z u → AreMaybeMarks marks u w
    → ends ≡ record { to = n ∷ []; marks = marks } → w ≡ next → IsPlain (record { label = Some l; ends = ends }) x next
plain l marks ends n x x' y z u w next blanks labelled sign goes marked is behind = subst (IsPlain (record { label = Some l; ends = ends }) x) behind (record {
  label = labelled.phrase;
  goal = n;
  marks = marked.phrase;
  within = labelled.within;
  spelled = spelled_then (label_tokens labelled.phrase ++ token.RightBracket ∷ []) (token.Int n ∷ optional_marks marked.phrase) x z w
      (spelled_behind (label_tokens labelled.phrase ++ token.RightBracket ∷ []) x x' z blanks
      (spelled_then (label_tokens labelled.phrase) (token.RightBracket ∷ []) x' y z labelled.spelled (sign_alone token.RightBracket 93 y z refl sign)))
      (spelled_then (token.Int n ∷ []) (optional_marks marked.phrase) z u w goes marked.spelled);
  means = edge_means _ _ _ _ _ _ labelled.means (ap (λ (e : WrittenEnds). e.to) is) (ap (λ (e : WrittenEnds). e.marks) is ∙ marked.means);
})

head_means : (l : Option RawTree) (n : ℕ) (marks marks' : List ℕ) → marks ≡ marks'
    → (let e : WrittenHead = record { label = l; number = n; marks = marks } in e) ≡ record { label = l; number = n; marks = marks' }
head_means l n marks marks' same = cc

pub plain_state : (n : ℕ) (marks : List ℕ) (x y z next : List ℕ) → IsIntText n x y → AreMaybeMarks marks y z → z ≡ next → IsPlainHead (record { label = None; number = n; marks = marks }) x next
plain_state n marks x y z next numbered marked behind = subst (IsPlainHead (record { label = None; number = n; marks = marks }) x) behind (record {
  marks = marked.phrase;
  spelled = spelled_then (token.Int n ∷ []) (optional_marks marked.phrase) x y z numbered marked.spelled;
  means = head_means _ n _ _ marked.means;
})
