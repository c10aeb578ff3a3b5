-- Where a text ends among blanks, or inside a comment, a string or another token, one byte more is asked for.
use Rattle.std.proofs.Common.{◌≡◌, ℕ, ◌⊎◌, List, ◌++◌, Option, Some, None, inl, inr, refl, sym, subst}
use Rattle.hoa_lexer.specs.Blanks.{ClosesComments, IsBlanks, IsOpenComment}
use Rattle.hoa_lexer.specs.Text.{AfterBlanks, AsksForMore, BeginsToken, HasFront, IsOpenString, IsOpenToken}
use Rattle.hoa_lexer.specs.inner.Steps.{closing}
use Rattle.hoa_lexer.proofs.next_token.Exclusive.{IsStuck, open_string_stuck, open_token_stuck, stuck_no_token}
use Rattle.hoa_lexer.proofs.next_token.Fronts.{asks_after, asks_blanks, asks_comment, asks_slash, at_once}
use Rattle.hoa_lexer.proofs.next_token.StuckPlaces.{string_begins}
use Rattle.hoa_lexer.proofs.spelling.Comments.{closing_sound}
use Rattle.hoa_parser.specs.inner.Parsing.{EndsOpen}

-- no front of the bytes closes the comment
never_closed : (rest : List ℕ) (found : Option (List ℕ)) → closing 1 rest ≡ found → ((body more : List ℕ) → rest ≡ body ++ more → ClosesComments 1 body → ⊥) → closing 1 rest ≡ None
never_closed rest None e h = e
never_closed rest (Some more) e h =
    let w = closing_sound 1 rest more e in
    absurd (h w.body more w.split w.closes)

comment_asks : (bytes : List ℕ) → IsOpenComment bytes → AsksForMore bytes
comment_asks bytes o = subst AsksForMore (sym o.opens) (asks_comment o.rest (never_closed o.rest (closing 1 o.rest) refl o.open_still))

-- bytes that no token and no blank begins now, and that can go on so that a token does
begins_asks : (bytes : List ℕ) → IsStuck bytes → BeginsToken bytes → AsksForMore bytes
begins_asks bytes s b = record {
  unclosed = stuck_no_token bytes (at_once bytes IsStuck s);
  more = b.more;
  closes = at_once (bytes ++ b.more) HasFront b.front;
}

string_asks : (bytes : List ℕ) → IsOpenString bytes → AsksForMore bytes
string_asks bytes o = begins_asks bytes (open_string_stuck bytes o) (string_begins bytes o)

token_asks : (bytes : List ℕ) → IsOpenToken bytes → AsksForMore bytes
token_asks bytes o = elim o.begins [ inl e ↦ subst AsksForMore (sym e) asks_slash | inr b ↦ begins_asks bytes (open_token_stuck bytes o) b ]

behind_blanks : (rest : List ℕ) (P : List ℕ → Type 0) → ((bytes : List ℕ) → P bytes → AsksForMore bytes) → AfterBlanks rest P → AsksForMore rest
behind_blanks rest P asks a = subst AsksForMore (sym a.split) (asks_after a.before a.bytes a.blanks (asks a.bytes a.holds))

pub open_end_asks : (rest : List ℕ) → IsBlanks rest ⊎ EndsOpen rest → AsksForMore rest
open_end_asks rest (inl h) = asks_blanks rest h
open_end_asks rest (inr (inl a)) = behind_blanks rest IsOpenComment comment_asks a
open_end_asks rest (inr (inr (inl a))) = behind_blanks rest IsOpenString string_asks a
open_end_asks rest (inr (inr (inr a))) = behind_blanks rest IsOpenToken token_asks a
