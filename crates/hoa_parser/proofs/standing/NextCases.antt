-- What stands next in a text is one thing.
use Rattle.std.proofs.Common.{◌≡◌, ℕ, List, inl, inr, subst}
use Rattle.hoa_lexer.proofs.next_token.Cases.{one_next}
use Rattle.hoa_lexer.specs.Blanks.{IsBlanks}
use Rattle.hoa_lexer.specs.Laws.{Next, StandsNext}
use Rattle.hoa_lexer.specs.Laws.Next.{NoMore, OneToken, NoToken, InComment, InString, InToken}
use Rattle.hoa_lexer.specs.Text.{IsNext}
use Rattle.hoa_lexer.specs.declared.token.Token.{Token}
use Rattle.hoa_parser.specs.Standing.{IsNoTokenAt}
use Rattle.hoa_parser.specs.inner.Parsing.{EndsOpen}

-- a token stands next
pub record HasNext (used : ℕ) (rest : List ℕ) (token : Token) : Type 0 where
  pub offset : ℕ
  pub after : List ℕ
  pub next : IsNext rest used token offset after

pub one_token : (used : ℕ) (rest : List ℕ) (t u : Token) → HasNext used rest t → HasNext used rest u → t ≡ u
one_token used rest t u n m = let same = one_next used rest (OneToken t n.offset n.after) (OneToken u m.offset m.after) n.next m.next in cc

pub next_no_blanks : (used : ℕ) (rest : List ℕ) (t : Token) → HasNext used rest t → IsBlanks rest → ⊥
next_no_blanks used rest t n b = let no = one_next used rest (OneToken t n.offset n.after) NoMore n.next b in cc

pub next_no_fault : (k used : ℕ) (rest : List ℕ) (t : Token) → HasNext used rest t → IsNoTokenAt k used rest → ⊥
next_no_fault k used rest t n f = let no = one_next used rest (OneToken t n.offset n.after) (NoToken k) n.next f in cc

pub blanks_no_fault : (k used : ℕ) (rest : List ℕ) → IsBlanks rest → IsNoTokenAt k used rest → ⊥
blanks_no_fault k used rest b f = let no = one_next used rest NoMore (NoToken k) b f in cc

pub one_no_token : (j k used : ℕ) (rest : List ℕ) → IsNoTokenAt j used rest → IsNoTokenAt k used rest → j ≡ k
one_no_token j k used rest f g = let same = one_next used rest (NoToken j) (NoToken k) f g in cc

-- the text ends inside something
abbrev pub IsOpen : Next → Type 0
IsOpen InComment = Unit {0}
IsOpen InString = Unit {0}
IsOpen InToken = Unit {0}
IsOpen _ = ⊥

pub open_only : (a : Next) (used : ℕ) (rest : List ℕ) → StandsNext a used rest → EndsOpen rest → IsOpen a
open_only a used rest h (inl o) = subst IsOpen (one_next used rest InComment a o h) tt
open_only a used rest h (inr (inl o)) = subst IsOpen (one_next used rest InString a o h) tt
open_only a used rest h (inr (inr o)) = subst IsOpen (one_next used rest InToken a o h) tt

pub next_not_open : (used : ℕ) (rest : List ℕ) (t : Token) → HasNext used rest t → EndsOpen rest → ⊥
next_not_open used rest t n o = open_only (OneToken t n.offset n.after) used rest n.next o
