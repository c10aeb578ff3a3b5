-- What a reading of a text comes to: its tokens, and what stands behind them.
use Rattle.std.proofs.Common.{◌≡◌, ◌≢◌, ℕ, ◌⊎◌, List, [], ◌∷◌, ◌++◌, map, inl, inr, refl, sym, subst, ◌∙◌, ap}
use Rattle.std.specs.Prelude.{codes}
use Rattle.std.proofs.lemmas.List.{append_assoc, append-nil}
use Rattle.aut_base.specs.declared.limit.TheConstants.{MOST_DEPTH}
use Rattle.hoa_lexer.specs.Blanks.{IsBlanks}
use Rattle.hoa_lexer.specs.Text.{IsNext, Lexes}
use Rattle.hoa_lexer.specs.declared.token.Token.{Token}
use Rattle.hoa_lexer.specs.declared.token.Token.TheVariants as token
use Rattle.hoa_parser.specs.Grammar.{IsViable, SpellsAutomaton, none}
use Rattle.hoa_parser.specs.Raw.{Written}
use Rattle.hoa_parser.specs.Standing.{IsBegun, IsMisplaced, IsNoTokenAt, Standing, Stands}
use Rattle.hoa_parser.specs.Standing.Standing.{Blank, Whole, Deep, Bad, Aborted, Cut}
use Rattle.hoa_parser.proofs.grammar.NoAbort.{no_abort_inside}
use Rattle.hoa_parser.proofs.grammar.OneRaw.{whole_goes_no_further}
use Rattle.hoa_parser.proofs.standing.Readings.{place}
use Rattle.hoa_parser.proofs.standing.NextCases.{HasNext, next_no_blanks, next_no_fault, next_not_open, one_token}
use Rattle.hoa_parser.specs.inner.Parsing.{EndsOpen}

-- begun, and not whole
pub record IsPart (tokens : List Token) : Type 0 where
  pub viable : IsViable MOST_DEPTH tokens
  pub unfinished : (most : ℕ) (w : Written) → SpellsAutomaton most tokens w → ⊥

-- the token would open one more than may be
pub record IsTooDeep (tokens : List Token) (used : ℕ) (rest : List ℕ) : Type 0 where
  pub token : Token
  pub next : HasNext used rest token
  pub most : ℕ
  pub viable : IsViable most (tokens ++ token ∷ [])
  pub too_deep : IsViable MOST_DEPTH (tokens ++ token ∷ []) → ⊥

abbrev pub Halts : Standing → List Token → ℕ → List ℕ → Type 0
Halts Blank tokens used rest = (tokens ≡ []) × IsBlanks rest
Halts (Whole w r) tokens used rest = SpellsAutomaton MOST_DEPTH tokens w × (r ≡ rest)
Halts Deep tokens used rest = IsPart tokens × IsTooDeep tokens used rest
Halts (Bad k) tokens used rest = IsPart tokens × (IsMisplaced k tokens used rest ⊎ IsNoTokenAt k used rest)
Halts (Aborted r) tokens used rest = IsPart tokens × (tokens ≢ []) × (offset : ℕ) × IsNext rest used token.Abort offset r
Halts Cut tokens used rest = IsPart tokens × ((tokens ≢ []) × IsBlanks rest ⊎ EndsOpen rest)

abbrev pub shown : List (Token × ℕ) → List Token
shown = map (λ p. p.0)

pub record Reading (s : Standing) (start : ℕ) (text : List ℕ) : Type 0 where
  pub placed : List (Token × ℕ)
  pub rest : List ℕ
  pub lexes : Lexes text start placed rest
  pub halts : Halts s (shown placed) (place start text rest) rest

part : (start : ℕ) (text : List ℕ) (tokens : List Token) (used : ℕ) (rest : List ℕ) → IsBegun start text tokens used rest → IsPart tokens
part start text tokens used rest b = record { viable = b.viable; unfinished = b.unfinished }

begun_reading : (s : Standing) (start : ℕ) (text : List ℕ) (tokens : List Token) (used : ℕ) (rest : List ℕ) → IsBegun start text tokens used rest → Halts s tokens used rest → Reading s start text
begun_reading s start text tokens used rest b h = record {
  placed = b.placed;
  rest = rest;
  lexes = b.lexes;
  halts = subst (λ (n : ℕ). Halts s (shown b.placed) n rest) b.used_is (subst (λ (ts : List Token). Halts s ts used rest) (sym b.shown) h);
}

pub reading : (s : Standing) (start : ℕ) (text : List ℕ) → Stands s start text → Reading s start text
reading Blank start text h = record { placed = []; rest = text; lexes = refl; halts = (refl, h) }
reading (Whole w r) start text h = record { placed = h.placed; rest = r; lexes = h.lexes; halts = (h.spells, refl) }
reading Deep start text h =
    begun_reading Deep start text h.tokens h.used h.rest h.begun (
      part start text h.tokens h.used h.rest h.begun,
      record {
        token = h.next_token;
        next = record { offset = h.offset; after = h.after; next = h.next };
        most = h.most;
        viable = h.viable;
        too_deep = h.too_deep;
      },
    )
reading (Bad k) start text h = begun_reading (Bad k) start text h.tokens h.used h.rest h.begun (part start text h.tokens h.used h.rest h.begun, h.holds)
reading (Aborted r) start text h =
    begun_reading (Aborted r) start text h.tokens h.used h.rest h.begun
    (part start text h.tokens h.used h.rest h.begun, h.holds.0, h.holds.1, h.holds.2)
reading Cut start text h = begun_reading Cut start text h.tokens h.used h.rest h.begun (part start text h.tokens h.used h.rest h.begun, h.holds)

pub viable_nothing : (m : ℕ) → IsViable m []
viable_nothing m = record {
  more = token.HeaderName (codes "HOA") ∷ token.Identifier [] ∷ token.Body ∷ token.End ∷ [];
  whole = record { version = []; items = []; states = [] };
  spelled = record { item_tokens = []; state_tokens = []; items = none; states = none; spelled = refl };
}

pub viable_whole : (m : ℕ) (tokens : List Token) (w : Written) → SpellsAutomaton m tokens w → IsViable m tokens
viable_whole m tokens w s = record { more = []; whole = w; spelled = subst (λ (ts : List Token). SpellsAutomaton m ts w) (sym (append-nil tokens)) s }

pub viable_part : (m : ℕ) (ts us : List Token) → IsViable m (ts ++ us) → IsViable m ts
viable_part m ts us v = record { more = us ++ v.more; whole = v.whole; spelled = subst (λ (xs : List Token). SpellsAutomaton m xs v.whole) (append_assoc ts us v.more) v.spelled }

-- what halts is viable
pub halts_viable : (s : Standing) (tokens : List Token) (used : ℕ) (rest : List ℕ) → Halts s tokens used rest → IsViable MOST_DEPTH tokens
halts_viable Blank tokens used rest h = subst (λ (ts : List Token). IsViable MOST_DEPTH ts) (sym h.0) (viable_nothing MOST_DEPTH)
halts_viable (Whole w r) tokens used rest h = viable_whole MOST_DEPTH tokens w h.0
halts_viable Deep tokens used rest h = h.0.viable
halts_viable (Bad k) tokens used rest h = h.0.viable
halts_viable (Aborted r) tokens used rest h = h.0.viable
halts_viable Cut tokens used rest h = h.0.viable

pub misplaced_next : (k : ℕ) (tokens : List Token) (used : ℕ) (rest : List ℕ) (m : IsMisplaced k tokens used rest) → HasNext used rest m.next_token
misplaced_next k tokens used rest m = record { offset = k; after = m.after; next = m.next }

-- where nothing viable goes on with the token
next_kept : (m : ℕ) (tokens us : List Token) (t u : Token) → t ≡ u → IsViable m (tokens ++ t ∷ us) → IsViable m (tokens ++ u ∷ [])
next_kept m tokens us t u e v =
    viable_part m (tokens ++ u ∷ []) us
    (subst (λ (xs : List Token). IsViable m xs) (ap (λ w. tokens ++ w ∷ us) e ∙ sym (append_assoc tokens (u ∷ []) us)) v)

pub abandons : (tokens : List Token) (used : ℕ) (rest r : List ℕ) → Halts (Aborted r) tokens used rest → HasNext used rest token.Abort
abandons tokens used rest r h = record { offset = h.2; after = r; next = h.3 }

-- A reading that halts goes no further.
pub halts_here : (s : Standing) (tokens us : List Token) (t : Token) (used : ℕ) (rest : List ℕ) → Halts s tokens used rest → HasNext used rest t → IsViable MOST_DEPTH (tokens ++ t ∷ us) → ⊥
halts_here Blank tokens us t used rest h n v = next_no_blanks used rest t n h.1
halts_here (Whole w r) tokens us t used rest h n v =
    let none : t ∷ us ≡ [] = whole_goes_no_further MOST_DEPTH MOST_DEPTH tokens (t ∷ us) w h.0 v in
    cc
halts_here Deep tokens us t used rest h n v = h.1.too_deep (next_kept MOST_DEPTH tokens us t h.1.token (one_token used rest t h.1.token n h.1.next) v)
halts_here (Bad k) tokens us t used rest h n v = elim h.1 [
  | inl m ↦ m.dead MOST_DEPTH (next_kept MOST_DEPTH tokens us t m.next_token (one_token used rest t m.next_token n (misplaced_next k tokens used rest m)) v)
  | inr o ↦ next_no_fault k used rest t n o
]
halts_here (Aborted r) tokens us t used rest h n v =
    no_abort_inside MOST_DEPTH tokens [] (next_kept MOST_DEPTH tokens us t token.Abort (one_token used rest t token.Abort n (abandons tokens used rest r h)) v)
halts_here Cut tokens us t used rest h n v = elim h.1 [
  | inl b ↦ next_no_blanks used rest t n b.1
  | inr o ↦ next_not_open used rest t n o
]
