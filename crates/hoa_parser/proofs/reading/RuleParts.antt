-- How the parts of a rule are read, one after the other.
use Rattle.std.proofs.Common.{◌≡◌, false, List, [], ◌∷◌, ◌++◌, map, OnOk, Result, Ok, Err, refl, sym, ap, ◌∙◌, arith}
use Rattle.std.proofs.lemmas.Grind.{flat_map-append}
use Rattle.std.proofs.lemmas.List.{append_assoc, append-nil, map-append}
use Rattle.std.specs.List.{AllByRecursion}
use Rattle.std.specs.Prelude.{flat_map}
use Rattle.hoa_lexer.specs.declared.token.Token.{Token}
use Rattle.hoa_parser.proofs.reading.FrontParts.{passed_then, subst_tokens}
use Rattle.hoa_parser.proofs.reading.Steps.{Then, next_fails, next_reads, reads_as, reads_nothing, reads_then}
use Rattle.hoa_parser.specs.inner.Expecting.{Part}
use Rattle.hoa_parser.specs.inner.Parsing.{Advanced, Cursor, IsWritten, ReadsParts, ReadsTo, Relation, State, Uses}
use Rattle.hoa_parser.specs.declared.fault.ReadFault.{ReadFault}
use Rattle.aut_base.proofs.lists.AllByRecursion.{AllByRecursion-append}

-- whatever is answered of the next parts is the answer to all
pub next_answer : {T : Type 0} {p : List Part} {A : Relation} {s m : State} (parts more : List Part) (Q R : T → Relation) (result : Result T ReadFault) (s' : State)
    → ((w : T) (a c : Cursor) → Then A (Q w) a c → R w a c)
    → ReadsTo p (parts ++ more) A s m → ReadsParts parts [] Q result m s' → ReadsParts p more R result s s'
next_answer parts more Q R (Ok w) s' f one two = reads_as (f w) (next_reads one two)
next_answer parts more Q R (Err e) s' f one two = next_fails more one two

-- a byte was used
pub uses_then : {T : Type 0} {s m : State} (p q : List Part) (Q : T → Relation) (result : Result T ReadFault) (s' : State) → Advanced s m → ReadsParts p q Q result m s'
    → OnOk result (Uses s.lexer s'.lexer)
uses_then p q Q (Ok w) s' one two = omega (arith, one.uses, two.moves.used)
uses_then p q Q (Err f) s' one two = tt

-- phrases and one more, behind what `before` says
pub phrases_more : {X Y : Type 0} {W : X → Type 0} {tokens : X → List Token} {meaning : X → Y} (before ys zs : List Y) (y : Y) (a b c : Cursor) → zs ≡ ys ++ y ∷ []
    → IsWritten (AllByRecursion W) (flat_map tokens) (λ xs. before ++ map meaning xs) ys a b → IsWritten W tokens meaning y b c
    → IsWritten (AllByRecursion W) (flat_map tokens) (λ xs. before ++ map meaning xs) zs a c
phrases_more {W = W} {tokens = tokens} {meaning = meaning} before ys zs y a b c list h k = record {
  phrase = h.phrase ++ k.phrase ∷ [];
  within = AllByRecursion-append W h.phrase (k.phrase ∷ []) h.within (k.within, tt);
  passed = subst_tokens a c (sym (flat_map-append tokens h.phrase (k.phrase ∷ [])))
      (passed_then a b c (flat_map tokens h.phrase) (tokens k.phrase ++ []) h.passed (subst_tokens b c (sym (append-nil (tokens k.phrase))) k.passed));
  means = list ∙ ap (λ us. us ++ y ∷ []) h.means ∙ ap (λ u. (before ++ map meaning h.phrase) ++ u ∷ []) k.means
      ∙ append_assoc before (map meaning h.phrase) (meaning k.phrase ∷ []) ∙ ap (λ us. before ++ us) (sym (map-append meaning h.phrase (k.phrase ∷ [])));
}

-- the list, so far
abbrev pub ListSo : {X Y Z : Type 0} → (X → Type 0) → (X → List Token) → (X → Y) → (Z → Y) → List Z → Relation
ListSo W tokens meaning value zs = IsWritten (AllByRecursion W) (flat_map tokens) (map meaning) (map value zs)

-- a list of phrases is read by reading one phrase after the other
pub list_none : {X Y Z : Type 0} (p : Part) (W : X → Type 0) (tokens : X → List Token) (meaning : X → Y) (value : Z → Y) (zs : List Z) (s : State) → zs ≡ [] → s.lexer.spent ≡ false
    → ReadsTo (p ∷ []) (p ∷ []) (ListSo W tokens meaning value zs) s s
list_none p W tokens meaning value zs s none unspent =
    reads_nothing (p ∷ []) (ListSo W tokens meaning value zs) s unspent (λ a. record { phrase = []; within = tt; passed = refl; means = ap (map value) none })

pub list_next : {X Y Z : Type 0} (p : Part) (W : X → Type 0) (tokens : X → List Token) (meaning : X → Y) (value : Z → Y) (zs ws : List Z) (z : Z) {s m s' : State} → ws ≡ zs ++ z ∷ []
    → ReadsTo (p ∷ []) (p ∷ []) (ListSo W tokens meaning value zs) s m → ReadsTo (p ∷ []) (p ∷ []) (IsWritten W tokens meaning (value z)) m s'
    → ReadsTo (p ∷ []) (p ∷ []) (ListSo W tokens meaning value ws) s s'
list_next p W tokens meaning value zs ws z same one two =
    reads_as (λ a c h. phrases_more {W = W} {tokens = tokens} {meaning = meaning} [] (map value zs) (map value ws) (value z) a h.0 c (ap (map value) same ∙ map-append value zs (z ∷ [])) h.1
    h.2) (reads_then one two)
