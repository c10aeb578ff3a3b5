-- Runs of a parser over lists of tokens: how they join and split.
use Rattle.std.proofs.Common.{◌≡◌, ◌∙◌, ◌∷◌, ◌++◌, List, None, Option, Some, [], ap, refl, subst, sym}
use Rattle.std.proofs.lemmas.Option.{none-some, same_Some}
use Rattle.word_syntax.specs.inner.Runs.{RunsTokens}
use Rattle.word_syntax.specs.declared.token.Token.{Token}

pub runs_then : {S : Type 0} (step : S → Token → Option S) (s m end : S) (v w : List Token) → RunsTokens step s v m → RunsTokens step m w end → RunsTokens step s (v ++ w) end
runs_then {S = S} step s m end [] w first second = let P : S → Type 0 = λ x. RunsTokens step x w end in subst P (sym first) second
runs_then step s m end (t ∷ v) w first second = (first.0, first.1, runs_then step first.0 m end v w first.2 second)

-- another token
pub runs_push : {S : Type 0} (step : S → Token → Option S) (s m end : S) (v : List Token) (t : Token) → RunsTokens step s v m → step m t ≡ Some end → RunsTokens step s (v ++ t ∷ []) end
runs_push step s m end v t first last = runs_then step s m end v (t ∷ []) first (end, last, refl)

pub runs_to : {S : Type 0} (step : S → Token → Option S) (s m end : S) (v : List Token) → RunsTokens step s v m → m ≡ end → RunsTokens step s v end
runs_to {S = S} step s m end v runs e = let P : S → Type 0 = λ x. RunsTokens step s v x in subst P e runs

pub runs_over : {S : Type 0} (step : S → Token → Option S) (s end : S) (v w : List Token) → v ≡ w → RunsTokens step s v end → RunsTokens step s w end
runs_over step s end v w e runs = let P : List Token → Type 0 = λ x. RunsTokens step s x end in subst P e runs

-- the state to which a prefix of the tokens leads
pub record Front {S : Type 0} (step : S → Token → Option S) (s : S) (v w : List Token) (end : S) : Type 0 where
  pub mid : S
  pub front : RunsTokens step s v mid
  pub back : RunsTokens step mid w end

pub runs_front : {S : Type 0} (step : S → Token → Option S) (s end : S) (v w : List Token) → RunsTokens step s (v ++ w) end → Front step s v w end
runs_front step s end [] w runs = record { mid = s; front = refl; back = runs }
runs_front step s end (t ∷ v) w runs = let rest = runs_front step runs.0 end v w runs.2 in record { mid = rest.mid; front = (runs.0, runs.1, rest.front); back = rest.back }

pub runs_once : {S : Type 0} (step : S → Token → Option S) (s a b : S) (v : List Token) → RunsTokens step s v a → RunsTokens step s v b → a ≡ b
runs_once step s a b [] one two = sym one ∙ two
runs_once {S = S} step s a b (t ∷ v) one two =
    let P : S → Type 0 = λ x. RunsTokens step x v b in
    runs_once step one.0 a b v one.2 (subst P (same_Some two.0 one.0 (sym two.1 ∙ one.1)) two.2)

-- no run goes past a token that is rejected
pub runs_stuck : {S : Type 0} (step : S → Token → Option S) (s m end : S) (v : List Token) (t : Token) (w : List Token) → RunsTokens step s v m → step m t ≡ None
    → RunsTokens step s ((v ++ t ∷ []) ++ w) end → ⊥
runs_stuck {S = S} step s m end v t w front stuck runs =
    let whole = runs_front step s end (v ++ t ∷ []) w runs in
    let part = runs_front step s whole.mid v (t ∷ []) whole.front in
    let same : part.mid ≡ m = runs_once step s part.mid m v part.front front in
    none-some part.back.0 (sym stuck ∙ (ap (λ (x : S). step x t) (sym same) ∙ part.back.1))
