-- Whether a byte past a token is held, and whether the token is delimited where the input ends.
use Rattle.std.proofs.Common.{◌≡◌, ◌↔◌, ◌∙◌, ℕ, zero, suc, Option, Some, None, [], true, false, is_some, not, ap, refl, sym}
use Rattle.std.proofs.lemmas.Bool.{false≢true}
use Rattle.aut_base.proofs.numbers.Truth.{true_from_not}
use Rattle.hoa_lexer.specs.Spelling.{IsDelimited, closes_itself}
use Rattle.hoa_lexer.specs.declared.token.Token.{Token}
use Rattle.hoa_lexer.specs.declared.token.Token.TheVariants.{Identifier, Int, Alias}

closes_at_end : (t : Token) → IsDelimited t [] → closes_itself t ≡ true
closes_at_end (Identifier name) d = absurd d.0
closes_at_end (Int zero) d = refl
closes_at_end (Int (suc n)) d = absurd d
closes_at_end (Alias name) d = absurd d
closes_at_end _ d = refl

delimited_at_end : (t : Token) → closes_itself t ≡ true → IsDelimited t []
delimited_at_end (Identifier name) c = absurd (false≢true c)
delimited_at_end (Int zero) c = tt
delimited_at_end (Int (suc n)) c = absurd (false≢true c)
delimited_at_end (Alias name) c = absurd (false≢true c)
delimited_at_end _ c = tt

open_at_end : (t : Token) → (IsDelimited t [] → ⊥) → true ≡ not (closes_itself t)
open_at_end (Identifier name) d = refl
open_at_end (Int zero) d = absurd (d tt)
open_at_end (Int (suc n)) d = refl
open_at_end (Alias name) d = refl
open_at_end _ d = absurd (d tt)

pub needed_at_end : (held : Option ℕ) (t : Token) → is_some held ≡ not (closes_itself t) → IsDelimited t [] ↔ (held ≡ None)
needed_at_end None t h = (λ d. refl, λ n. delimited_at_end t (true_from_not (closes_itself t) h))
needed_at_end (Some b) t h = (
  λ d. absurd (let no : true ≡ false = h ∙ ap not (closes_at_end t d) in cc),
  λ n. absurd (let no : Some b ≡ None = n in cc),
)

pub held_as_needed : (held : Option ℕ) (t : Token) → IsDelimited t [] ↔ (held ≡ None) → is_some held ≡ not (closes_itself t)
held_as_needed None t e = sym (ap not (closes_at_end t (e.1 refl)))
held_as_needed (Some b) t e = open_at_end t (λ d. let no : Some b ≡ None = e.0 d in cc)
