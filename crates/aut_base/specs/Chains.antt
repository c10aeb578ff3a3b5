-- How labels, acceptance conditions and letters of a word are written (HOA v1, Grammar). They have one grammar over atoms and
-- tokens of their own:
--
--     sum     = product ("|" product)*
--     product = factor ("&" factor)*
--     factor  = atom | "!" factor | "(" sum ")"
use Rattle.std.specs.Prelude.{◌≡◌, ℕ, suc, List, [], ◌∷◌, ◌++◌}

-- The tokens, which tokens are an atom and what it means, and what is meant by what is joined.
pub record Chains (Z T : Type 0) : Type 1 where
  pub bang : Z
  pub amp : Z
  pub bar : Z
  pub left : Z
  pub right : Z
  pub IsAtom : List Z → T → Type 0
  -- the second is the negation of the first; holds of nothing where the grammar has no "!"
  pub Negates : T → T → Type 0
  pub conjunction : List T → T
  pub disjunction : List T → T

-- These tokens mean this, where no more than `room` of `(` and `!` are open at once. Parentheses mean nothing of their own.
mutual
  pub data IsFactor {Z T : Type 0} (g : Chains Z T) : ℕ → List Z → T → Type 0 where
    atom : {room : ℕ} {w : List Z} {t : T} → g.IsAtom w t → IsFactor g room w t
    negated : {room : ℕ} {w : List Z} {t u : T} → IsFactor g room w t → g.Negates t u → IsFactor g (suc room) (g.bang ∷ w) u
    group : {room : ℕ} {w : List Z} {t : T} → IsSum g room w t → IsFactor g (suc room) (g.left ∷ (w ++ g.right ∷ [])) t

  pub data AreFactors {Z T : Type 0} (g : Chains Z T) : ℕ → List Z → List T → Type 0 where
    factor : {room : ℕ} {w : List Z} {t : T} → IsFactor g room w t → AreFactors g room w (t ∷ [])
    factors : {room : ℕ} {v w : List Z} {t : T} {ts : List T} → IsFactor g room v t → AreFactors g room w ts → AreFactors g room (v ++ g.amp ∷ w) (t ∷ ts)

  pub data AreProducts {Z T : Type 0} (g : Chains Z T) : ℕ → List Z → List T → Type 0 where
    product : {room : ℕ} {w : List Z} {ts : List T} → AreFactors g room w ts → AreProducts g room w (g.conjunction ts ∷ [])
    products : {room : ℕ} {v w : List Z} {ts us : List T} → AreFactors g room v ts → AreProducts g room w us → AreProducts g room (v ++ g.bar ∷ w) (g.conjunction ts ∷ us)

  pub data IsSum {Z T : Type 0} (g : Chains Z T) : ℕ → List Z → T → Type 0 where
    sum : {room : ℕ} {w : List Z} {ts : List T} → AreProducts g room w ts → IsSum g room w (g.disjunction ts)
