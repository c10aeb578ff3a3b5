-- What is left of small texts where a reader stops.
use Rattle.std.proofs.Common.{◌<◌, ℕ, List, [], ◌∷◌, ◌++◌, codes, None, Some, inl, refl, ap, arith, length, lit<}
use Rattle.std.proofs.lemmas.List.{length-append}
use Rattle.aut_base.specs.declared.limit.TheConstants.{MOST_DEPTH}
use Rattle.autfilt_laws.proofs.alike.BadPlaces.{no_later}
use Rattle.autfilt_laws.specs.PlaceExamples.{WhatIsLeft}
use Rattle.hoa_lexer.proofs.next_token.Asked.{last_is_asked_for}
use Rattle.hoa_lexer.specs.Blanks.IsBlanks.{nothing}
use Rattle.hoa_lexer.specs.Spelling.{IsDelimited, Spells}
use Rattle.hoa_lexer.specs.Text.{IsNext}
use Rattle.hoa_lexer.specs.declared.token.Token.{Token}
use Rattle.hoa_lexer.specs.declared.token.Token.TheVariants.{Body, End, HeaderName, Identifier, Int}
use Rattle.hoa_parser.proofs.grammar.Stops.{first_token, later_tokens}
use Rattle.hoa_parser.proofs.standing.Hopeless.{Leaves, asked_last}
use Rattle.hoa_parser.proofs.standing.OpenEnds.{open_end_asks}
use Rattle.hoa_parser.proofs.standing.Settled.{bad_is_hopeless}
use Rattle.hoa_parser.specs.Grammar.{IsViable, SpellsAutomaton, none}
use Rattle.hoa_parser.specs.Raw.{Written}
use Rattle.hoa_parser.specs.Reads.{IsHopeless}
use Rattle.hoa_parser.specs.Standing.{IsBad, IsBegun}

-- the token is at the front
at_front : (word rest : List ℕ) (token : Token) (start : ℕ) → Spells token word → IsDelimited token rest → IsNext (word ++ rest) start token start rest
at_front word rest token start spells ends = record {
  before = [];
  bytes = word ++ rest;
  split = refl;
  blanks = nothing;
  place = omega arith;
  front = record { word = word; split = refl; spells = spells; ends = ends };
}

abbrev empty : Written
empty = record { version = codes "v1"; items = []; states = [] }

viable_nothing : IsViable MOST_DEPTH []
viable_nothing = record {
  more = HeaderName (codes "HOA") ∷ Identifier (codes "v1") ∷ Body ∷ End ∷ [];
  whole = empty;
  spelled = record { item_tokens = []; state_tokens = []; items = none; states = none; spelled = refl };
}

nothing_spelled : (most : ℕ) (w : Written) → SpellsAutomaton most [] w → ⊥
nothing_spelled most w s = let e = s.spelled in cc

-- nothing was read
before_all : (text : List ℕ) → IsBegun 0 text [] 0 text
before_all text = record { placed = []; shown = refl; lexes = refl; used_is = omega arith; viable = viable_nothing; unfinished = nothing_spelled }

no_number : (n m : ℕ) → IsViable m (Int n ∷ []) → ⊥
no_number n m v =
    let p = v.spelled in
    let opening = first_token (Int n) (HeaderName (codes "HOA")) _ _ p.spelled in
    cc

bad_number : (n : ℕ) (text after : List ℕ) → IsNext text 0 (Int n) 0 after → IsBad 0 text 0
bad_number n text after next = record {
  tokens = [];
  used = 0;
  rest = text;
  begun = before_all text;
  holds = inl (record { next_token = Int n; after = after; next = next; dead = no_number n; no_abort = λ some. absurd (some refl) });
}

hopeless : (used left : List ℕ) → IsBad 0 used 0 → IsHopeless 0 0 (used ++ left) left
hopeless used left bad = record { used = used; split = refl; bad = bad; hopeless = λ more w rest whole. bad_is_hopeless 0 0 used more rest w bad whole }

seven : (after : List ℕ) → IsNext (codes "7 " ++ after) 0 (Int 7) 0 (codes " " ++ after)
seven after = at_front (codes "7") (codes " " ++ after) (Int 7) 0 (refl, refl, lit< tt) refl

no : (after : List ℕ) → IsNext (codes "0" ++ after) 0 (Int 0) 0 after
no after = at_front (codes "0") after (Int 0) 0 (refl, refl, lit< tt) tt

header : (after : List ℕ) → IsNext (codes "HOA:" ++ after) 0 (HeaderName (codes "HOA")) 0 after
header after = at_front (codes "HOA:") after (HeaderName (codes "HOA")) 0 ((refl, refl), refl) tt

seven_shows : IsHopeless 0 0 (codes "7 8") (codes "8")
seven_shows = hopeless (codes "7 ") (codes "8") (bad_number 7 (codes "7 ") (codes " ") (seven []))

zero_shows : IsHopeless 0 0 (codes "0 8") (codes " 8")
zero_shows = hopeless (codes "0") (codes " 8") (bad_number 0 (codes "0") [] (no []))

not_shorter : (x y : List ℕ) → Leaves y x → length y < length x → ⊥
not_shorter x y l less = omega (arith, less, simp length-append at (ap length l.split))

opened_unfinished : (most : ℕ) (w : Written) → SpellsAutomaton most (HeaderName (codes "HOA") ∷ []) w → ⊥
opened_unfinished most w s =
    let rest = later_tokens (HeaderName (codes "HOA")) (HeaderName (codes "HOA")) [] _ s.spelled in
    cc

pub what_is_left : WhatIsLeft
what_is_left = record {
  number = seven_shows;
  number_last = asked_last 0 (codes "7 8") (codes "8") [] 0 (codes "7 8") (before_all (codes "7 8"))
      (last_is_asked_for (codes "7 8") 0 0 (Int 7) (Some 32) (codes "8") (seven (codes "8")) refl);
  number_only = λ a. not_shorter (codes "8") [] (no_later 0 0 (codes "7 8") (codes "8") [] seven_shows a) (lit< tt);
  zero = zero_shows;
  zero_last = asked_last 0 (codes "0 8") (codes " 8") [] 0 (codes "0 8") (before_all (codes "0 8"))
      (last_is_asked_for (codes "0 8") 0 0 (Int 0) None (codes " 8") (no (codes " 8")) refl);
  zero_only = λ a. not_shorter (codes " 8") (codes "8") (no_later 0 0 (codes "0 8") (codes " 8") (codes "8") zero_shows a) (lit< tt);
  opened = record {
    tokens = HeaderName (codes "HOA") ∷ [];
    used = 4;
    rest = [];
    begun = record {
      placed = (HeaderName (codes "HOA"), 0) ∷ [];
      shown = refl;
      lexes = ([], header [], refl);
      used_is = refl;
      viable = record {
        more = Identifier (codes "v1") ∷ Body ∷ End ∷ [];
        whole = empty;
        spelled = record { item_tokens = []; state_tokens = []; items = none; states = none; spelled = refl };
      };
      unfinished = opened_unfinished;
    };
    holds = record { at_hand = []; split = refl; asks = open_end_asks [] (inl nothing) };
  };
  opening = asked_last 0 (codes "HOA:v1") (codes "v1") [] 0 (codes "HOA:v1") (before_all (codes "HOA:v1"))
      (last_is_asked_for (codes "HOA:v1") 0 0 (HeaderName (codes "HOA")) None (codes "v1") (header (codes "v1")) refl);
}
