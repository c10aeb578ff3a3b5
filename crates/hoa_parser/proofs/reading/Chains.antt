-- Chains of `&` and `|`, in labels and in conditions, part by part.
use Rattle.std.proofs.Common.{◌≡◌, List, [], ◌∷◌, ◌++◌, map, refl, ap, ◌∙◌}
use Rattle.std.specs.List.{AllByRecursion}
use Rattle.std.specs.Prelude.{flat_map}
use Rattle.hoa_lexer.specs.declared.token.Token.{Token}
use Rattle.hoa_parser.proofs.grammar.JoinedParts.{joined_parts}
use Rattle.hoa_parser.proofs.reading.FrontParts.{subst_tokens}
use Rattle.hoa_parser.proofs.reading.RuleParts.{phrases_more}
use Rattle.hoa_parser.proofs.reading.Steps.{reads_as, reads_then}
use Rattle.hoa_parser.specs.inner.Chains.{AddsParts}
use Rattle.hoa_parser.specs.inner.Expecting.{Part}
use Rattle.hoa_parser.specs.inner.Parsing.{Cursor, IsWritten, ReadsTo, State}

-- the chain of parts that have these tokens and these meanings
pub record Chained {C T : Type 0} (AllWithin : C → Type 0) (all_tokens : C → List Token) (all_meaning : C → List T) (ts : List Token) (us : List T) : Type 0 where
  pub chain : C
  pub within : AllWithin chain
  pub spelled : ts ≡ all_tokens chain
  pub means : us ≡ all_meaning chain

-- A chain is none, or a part before a chain.
pub record IsChain {P C T : Type 0} (Within : P → Type 0) (tokens : P → List Token) (meaning : P → T) (AllWithin : C → Type 0) (all_tokens : C → List Token) (all_meaning : C → List T) : Type 0 where
  pub none : Chained AllWithin all_tokens all_meaning [] []
  pub more : (p : P) (ts : List Token) (us : List T) → Within p → Chained AllWithin all_tokens all_meaning ts us → Chained AllWithin all_tokens all_meaning (tokens p ++ ts) (meaning p ∷ us)

chained : {P C T : Type 0} {W : P → Type 0} {tokens : P → List Token} {meaning : P → T} {AllWithin : C → Type 0} {all_tokens : C → List Token} {all_meaning : C → List T}
    → IsChain W tokens meaning AllWithin all_tokens all_meaning → (ps : List P) → AllByRecursion W ps → Chained AllWithin all_tokens all_meaning (flat_map tokens ps) (map meaning ps)
chained k [] h = k.none
chained {tokens = tokens} {meaning = meaning} k (p ∷ ps) h = k.more p (flat_map tokens ps) (map meaning ps) h.0 (chained k ps h.1)

-- all of the parts, as one
pub chain_whole : {P C T : Type 0} {W : P → Type 0} {tokens : P → List Token} {meaning : P → T} {AllWithin : C → Type 0} {all_tokens : C → List Token} {all_meaning : C → List T}
    → IsChain W tokens meaning AllWithin all_tokens all_meaning → (join : T → T → List T → T) (whole : T → List T → T) → ((t u : T) (us : List T) → whole t (u ∷ us) ≡ join t u us)
    → (x y first value : T) (zs : List T) (a b : Cursor) → value ≡ join x y zs → AddsParts W tokens meaning first (x ∷ y ∷ zs) a b
    → IsWritten AllWithin all_tokens (λ ps. whole first (all_meaning ps)) value a b
chain_whole {meaning = meaning} k join whole joins x y first value zs a b is one =
    let c = chained k one.phrase one.within in
    record {
      phrase = c.chain;
      within = c.within;
      passed = subst_tokens a b c.spelled one.passed;
      means = is ∙ joined_parts join whole joins x y first zs (map meaning one.phrase) one.means ∙ ap (whole first) c.means;
    }

-- the first part behind another one, and one more part
pub chain_first : {P T : Type 0} {W : P → Type 0} {tokens : P → List Token} {meaning : P → T} {p q : List Part} {s s' : State} (first second : T) (list : List T) → list ≡ first ∷ second ∷ []
    → ReadsTo p q (IsWritten W tokens meaning second) s s' → ReadsTo p q (AddsParts W tokens meaning first list) s s'
chain_first {W = W} {tokens = tokens} {meaning = meaning} first second list is =
    reads_as (λ a b h. phrases_more {W = W} {tokens = tokens} {meaning = meaning} (first ∷ []) (first ∷ []) list second a a b is (record { phrase = []; within = tt; passed = refl; means = refl }) h)

pub chain_next : {P T : Type 0} {W : P → Type 0} {tokens : P → List Token} {meaning : P → T} {p q r : List Part} {s m s' : State} (first next : T) (list more : List T) → more ≡ list ++ next ∷ []
    → ReadsTo p q (AddsParts W tokens meaning first list) s m → ReadsTo q r (IsWritten W tokens meaning next) m s' → ReadsTo p r (AddsParts W tokens meaning first more) s s'
chain_next {W = W} {tokens = tokens} {meaning = meaning} first next list more is one two =
    reads_as (λ a c h. phrases_more {W = W} {tokens = tokens} {meaning = meaning} (first ∷ []) list more next a h.0 c is h.1 h.2) (reads_then one two)
