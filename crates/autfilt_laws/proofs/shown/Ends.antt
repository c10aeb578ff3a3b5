-- The byte that ends a token, and what is left after it.
use Rattle.std.proofs.Common.{List, None, Option, Some, [], is_some, not, refl, suc, zero, ℕ, ◌∷◌, ◌≡◌}
use Rattle.hoa_lexer.specs.Reading.{unread}
use Rattle.hoa_lexer.specs.Spelling.{IsDelimited, closes_itself}
use Rattle.hoa_lexer.specs.declared.token.Token.{Token}
use Rattle.hoa_lexer.specs.declared.token.Token.TheVariants.{Identifier, Int, Alias}

-- what follows a token: the byte that ends it, unless its own last byte does, and what is left
pub record IsClosed (t : Token) (after : List ℕ) : Type 0 where
  pub held : Option ℕ
  pub left : List ℕ
  pub follows : after ≡ unread held left
  pub needed : is_some held ≡ not (closes_itself t)

pub closing : (t : Token) (after : List ℕ) → IsDelimited t after → IsClosed t after
closing (Identifier name) [] e = absurd e.0
closing (Identifier name) (b ∷ rest) e = record { held = Some b; left = rest; follows = refl; needed = refl }
closing (Int zero) after e = record { held = None; left = after; follows = refl; needed = refl }
closing (Int (suc n)) [] e = absurd e
closing (Int (suc n)) (b ∷ rest) e = record { held = Some b; left = rest; follows = refl; needed = refl }
closing (Alias name) [] e = absurd e
closing (Alias name) (b ∷ rest) e = record { held = Some b; left = rest; follows = refl; needed = refl }
closing _ after e = record { held = None; left = after; follows = refl; needed = refl }
