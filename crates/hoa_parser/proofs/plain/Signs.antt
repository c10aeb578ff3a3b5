-- Signs, and what stands behind them.
use Rattle.std.proofs.Common.{◌≡◌, ℕ, ◌≤◌, suc, List, [], ◌∷◌, length, Option, Some, None, sym, ap, subst, arith}
use Rattle.std.specs.Prelude.{MatchOption}
use Rattle.hoa_lexer.specs.inner.Steps.{IsSign}
use Rattle.hoa_lexer.specs.declared.token.Token.{Token}
use Rattle.hoa_lexer.proofs.next_token.Fronts.{skips_none}
use Rattle.hoa_lexer.proofs.spelling.FirstBytes.{mark_front}
use Rattle.hoa_parser.specs.inner.AtHand.{IsSigned, Spelled}
use Rattle.hoa_parser.proofs.plain.Passing.{front_length, skips_length, spelled_behind}

-- a sign, and more behind it and blanks
pub sign_then : (t : Token) (b : ℕ) (us : List Token) (x y z : List ℕ) → IsSign t b → IsSigned b x y → Spelled y us z → Spelled x (t ∷ us) z
sign_then t b us x y z is s k =
    subst (λ (w : List ℕ). Spelled w (t ∷ us) z) (sym s.1) (b ∷ s.0, s.0, skips_none (b ∷ s.0), mark_front t b s.0 is, spelled_behind us s.0 y z s.2 k)

pub sign_alone : (t : Token) (b : ℕ) (x y : List ℕ) → IsSign t b → IsSigned b x y → Spelled x (t ∷ []) y
sign_alone t b x y is s = sign_then t b [] x y y is s (skips_none y)

-- the same tokens
pub same_tokens : (ts us : List Token) (x y : List ℕ) → ts ≡ us → Spelled x ts y → Spelled x us y
same_tokens ts us x y e s = subst (λ (ws : List Token). Spelled x ws y) e s

-- what stands behind is no longer
pub spelled_length : (ts : List Token) (x y : List ℕ) → Spelled x ts y → length y ≤ length x
spelled_length [] x y s = skips_length x y s
spelled_length (t ∷ ts) x y s = omega (arith, skips_length x s.0 s.2, front_length s.0 s.1 t s.3, spelled_length ts s.1 y s.4)

pub sign_length : (b : ℕ) (x y : List ℕ) → IsSigned b x y → suc (length y) ≤ length x
sign_length b x y s = omega (arith, ap length s.1, skips_length s.0 y s.2)

-- what was found, in other words
pub found_as : {A : Type 0} {P Q : A → Type 0} → ((a : A) → P a → Q a) → (o : Option A) → MatchOption o (Unit {0}) P → MatchOption o (Unit {0}) Q
found_as f None h = h
found_as f (Some a) h = f a h
