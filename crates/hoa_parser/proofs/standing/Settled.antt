-- What the bytes at hand settle stays so, however the text goes on.
use Rattle.std.proofs.Common.{◌≡◌, ◌≢◌, ℕ, ◌+◌, ◌-◌, true, List, [], ◌∷◌, ◌++◌, length, inl, inr, refl, subst, ◌∙◌, ap, arith}
use Rattle.std.proofs.lemmas.List.{append_assoc, length-append}
use Rattle.hoa_lexer.proofs.next_token.Asked.{ends_on}
use Rattle.hoa_lexer.specs.Bytes.{is_space}
use Rattle.hoa_lexer.specs.Text.{BeginsToken, HasFront, IsFront, IsNext, IsNoToken, Lexes}
use Rattle.hoa_lexer.specs.declared.token.Token.{Token}
use Rattle.hoa_parser.specs.Raw.{Written}
use Rattle.hoa_parser.specs.Standing.{IsAborted, IsBad, IsBegun, IsDeep, IsMisplaced, IsNoTokenAt, IsWhole}
use Rattle.hoa_parser.specs.Standing.Standing.{Blank, Whole, Deep, Bad, Aborted, Cut}
use Rattle.hoa_parser.specs.StandingLaws.{BadIsHopeless, SettledStays}
use Rattle.hoa_parser.proofs.standing.Begun.{aborted_behind, bad_behind, deep_behind}
use Rattle.hoa_parser.proofs.standing.OneStanding.{one_standing}

pub front_on : (bytes rest more : List ℕ) (t : Token) → IsFront bytes t rest → IsFront (bytes ++ more) t (rest ++ more)
front_on bytes rest more t f = record {
  word = f.word;
  split = ap (λ w. w ++ more) f.split ∙ append_assoc f.word rest more;
  spells = f.spells;
  ends = ends_on t rest more f.ends;
}

pub next_on : (input rest more : List ℕ) (start i : ℕ) (t : Token) → IsNext input start t i rest → IsNext (input ++ more) start t i (rest ++ more)
next_on input rest more start i t n = record {
  before = n.before;
  bytes = n.bytes ++ more;
  split = ap (λ w. w ++ more) n.split ∙ append_assoc n.before n.bytes more;
  blanks = n.blanks;
  place = n.place;
  front = front_on n.bytes rest more t n.front;
}

pub place_on : (start : ℕ) (text rest more : List ℕ) → start + (length text - length rest) ≡ start + (length (text ++ more) - length (rest ++ more))
place_on start text rest more = omega (arith, length-append text more, length-append rest more)

lexes_on : (input : List ℕ) (start : ℕ) (ts : List (Token × ℕ)) (rest more : List ℕ) → Lexes input start ts rest → Lexes (input ++ more) start ts (rest ++ more)
lexes_on input start [] rest more l = ap (λ w. w ++ more) l
lexes_on input start (t ∷ ts) rest more l = (
  l.0 ++ more,
  next_on input l.0 more start t.1 t.0 l.1,
  subst (λ (n : ℕ). Lexes (l.0 ++ more) n ts (rest ++ more)) (place_on start input l.0 more) (lexes_on l.0 (start + (length input - length l.0)) ts rest more l.2),
)

begun_on : (start : ℕ) (text : List ℕ) (tokens : List Token) (used : ℕ) (rest more : List ℕ) → IsBegun start text tokens used rest → IsBegun start (text ++ more) tokens used (rest ++ more)
begun_on start text tokens used rest more b = record {
  placed = b.placed;
  shown = b.shown;
  lexes = lexes_on text start b.placed rest more b.lexes;
  used_is = b.used_is ∙ place_on start text rest more;
  viable = b.viable;
  unfinished = b.unfinished;
}

begins_back : (bytes more : List ℕ) → BeginsToken (bytes ++ more) → BeginsToken bytes
begins_back bytes more g = record { more = more ++ g.more; front = subst HasFront (append_assoc bytes more g.more) g.front }

no_space_on : (bytes more : List ℕ) → IsNoToken bytes → (b : ℕ) (rest : List ℕ) → bytes ++ more ≡ b ∷ rest → is_space b ≡ true → ⊥
no_space_on [] more n b rest e h = n.some refl
no_space_on (c ∷ cs) more n b rest e h = n.no_space b cs (let first : c ≡ b = cc in ap (λ d. d ∷ cs) first) h

no_comment_on : (bytes more : List ℕ) → IsNoToken bytes → (rest : List ℕ) → bytes ++ more ≢ 47 ∷ 42 ∷ rest
no_comment_on [] more n rest e = n.some refl
no_comment_on (c ∷ []) more n rest e = n.no_slash (let first : c ≡ 47 = cc in ap (λ d. d ∷ []) first)
no_comment_on (c ∷ d ∷ cs) more n rest e = n.no_comment cs (let first : c ≡ 47 = cc in let second : d ≡ 42 = cc in cc)

no_slash_on : (bytes more : List ℕ) → IsNoToken bytes → bytes ++ more ≢ 47 ∷ []
no_slash_on [] more n e = n.some refl
no_slash_on (c ∷ []) more n e = n.no_slash (let first : c ≡ 47 = cc in ap (λ d. d ∷ []) first)
no_slash_on (c ∷ d ∷ cs) more n e = cc

some_on : (bytes more : List ℕ) → IsNoToken bytes → bytes ++ more ≢ []
some_on [] more n e = n.some refl
some_on (c ∷ cs) more n e = cc

no_token_on : (bytes more : List ℕ) → IsNoToken bytes → IsNoToken (bytes ++ more)
no_token_on bytes more n = record {
  some = some_on bytes more n;
  no_space = no_space_on bytes more n;
  no_comment = no_comment_on bytes more n;
  no_slash = no_slash_on bytes more n;
  no_token = λ g. n.no_token (begins_back bytes more g);
}

pub no_token_at_on : (k used : ℕ) (rest more : List ℕ) → IsNoTokenAt k used rest → IsNoTokenAt k used (rest ++ more)
no_token_at_on k used rest more n = record {
  before = n.before;
  bytes = n.bytes ++ more;
  split = ap (λ w. w ++ more) n.split ∙ append_assoc n.before n.bytes more;
  blanks = n.blanks;
  holds = (omega (arith, n.holds.0, length-append n.bytes more, length-append rest more), no_token_on n.bytes more n.holds.1);
}

misplaced_on : (k : ℕ) (tokens : List Token) (used : ℕ) (rest more : List ℕ) → IsMisplaced k tokens used rest → IsMisplaced k tokens used (rest ++ more)
misplaced_on k tokens used rest more m = record {
  next_token = m.next_token;
  after = m.after ++ more;
  next = next_on rest m.after more used k m.next_token m.next;
  dead = m.dead;
  no_abort = m.no_abort;
}

whole_on : (start : ℕ) (text more : List ℕ) (w : Written) (rest : List ℕ) → IsWhole start text w rest → IsWhole start (text ++ more) w (rest ++ more)
whole_on start text more w rest h = record { placed = h.placed; lexes = lexes_on text start h.placed rest more h.lexes; spells = h.spells }

deep_on : (start : ℕ) (text more : List ℕ) → IsDeep start text → IsDeep start (text ++ more)
deep_on start text more h =
    deep_behind h.most (begun_on start text h.tokens h.used h.rest more h.begun) (next_on h.rest h.after more h.used h.offset h.next_token h.next) h.viable h.too_deep

bad_on : (start : ℕ) (text more : List ℕ) (k : ℕ) → IsBad start text k → IsBad start (text ++ more) k
bad_on start text more k h =
    bad_behind k (begun_on start text h.tokens h.used h.rest more h.begun) (elim h.holds [
      | inl m ↦ inl (misplaced_on k h.tokens h.used h.rest more m)
      | inr n ↦ inr (no_token_at_on k h.used h.rest more n)
    ])

aborted_on : (start : ℕ) (text after more : List ℕ) → IsAborted start text after → IsAborted start (text ++ more) (after ++ more)
aborted_on start text after more h =
    aborted_behind (begun_on start text h.tokens h.used h.rest more h.begun) h.holds.0 (next_on h.rest after more h.used h.holds.1 _ h.holds.2)

pub settled_stays : SettledStays
settled_stays Blank start text more i h = absurd i
settled_stays (Whole w rest) start text more i h = whole_on start text more w rest h
settled_stays Deep start text more i h = deep_on start text more h
settled_stays (Bad k) start text more i h = bad_on start text more k h
settled_stays (Aborted after) start text more i h = aborted_on start text after more h
settled_stays Cut start text more i h = absurd i

pub bad_is_hopeless : BadIsHopeless
bad_is_hopeless start k text more rest w b h =
    let same = one_standing start (text ++ more) (Bad k) (Whole w rest) (bad_on start text more k b) h in
    cc
