-- In every text something stands next.
use Rattle.std.proofs.Common.{◌≡◌, ◌≢◌, ℕ, zero, suc, ◌+◌, ◌-◌, ◌≤◌, ◌<◌, ◌⊎◌, List, [], ◌∷◌, ◌++◌, length, map, Option, Some, None, inl, inr, refl, sym, ap, subst, ◌∙◌, arith}
use Rattle.std.proofs.lemmas.List.{length-append}
use Rattle.aut_base.specs.declared.limit.TheConstants.{MOST_DEPTH}
use Rattle.hoa_lexer.proofs.spelling.FirstBytes.{spelled_some}
use Rattle.hoa_lexer.specs.Blanks.{IsBlanks}
use Rattle.hoa_lexer.proofs.next_token.Cases.{some_next}
use Rattle.hoa_lexer.specs.Laws.{Next, StandsNext}
use Rattle.hoa_lexer.specs.Laws.Next.{NoMore, OneToken, NoToken, InComment, InString, InToken}
use Rattle.hoa_lexer.specs.Spelling as spelling
use Rattle.hoa_lexer.specs.Text.{IsNext, Lexes}
use Rattle.hoa_lexer.specs.declared.token.Token.{Token}
use Rattle.hoa_lexer.specs.declared.token.Token.TheVariants as token
use Rattle.hoa_parser.proofs.grammar.Viability.{viable, whole_so}
use Rattle.hoa_parser.proofs.standing.Begun.{aborted_behind, bad_behind, begun_with_tokens, cut_behind, deep_behind}
use Rattle.hoa_parser.proofs.standing.DeadEnds.{abort_is_dead, after_next, refused, unfinished}
use Rattle.hoa_parser.proofs.standing.StandingTokens.{Stand, stand_more}
use Rattle.hoa_parser.specs.Grammar.{SpellsAutomaton}
use Rattle.hoa_parser.specs.inner.Expecting as part
use Rattle.hoa_parser.specs.inner.Expecting.{Part, parts_after, parts_behind}
use Rattle.hoa_parser.specs.Standing.{IsBegun, SomeStanding, Standing, Stands}
use Rattle.hoa_parser.specs.Standing.Standing.{Blank, Whole, Deep, Bad, Aborted, Cut}

abbrev Nothing : ℕ → List ℕ → Type 0
Nothing start text = (s : Standing) → Stands s start text → ⊥

-- what was read so far, and what is expected behind it
record Reached (start : ℕ) (text : List ℕ) (tokens : List Token) (used : ℕ) (rest : List ℕ) (left : List Part) : Type 0 where
  stand : Stand start text tokens used rest
  shorter : length rest ≤ length text
  leads : parts_after MOST_DEPTH (part.Whole ∷ []) tokens ≡ Some left

begun : (start : ℕ) (text : List ℕ) (tokens : List Token) (used : ℕ) (rest : List ℕ) (p : Part) (ps : List Part) → Reached start text tokens used rest (p ∷ ps) → IsBegun start text tokens used rest
begun start text tokens used rest p ps r = begun_with_tokens r.stand (viable MOST_DEPTH tokens (p ∷ ps) r.leads) (unfinished tokens p ps r.leads)

pub word_some : (t : Token) (word : List ℕ) → spelling.Spells t word → 1 ≤ length word
word_some t [] h = absurd (spelled_some t h)
word_some t (b ∷ bs) h = omega arith

pub next_less : (input : List ℕ) (start : ℕ) (t : Token) (i : ℕ) (rest : List ℕ) → IsNext input start t i rest → length rest < length input
next_less input start t i rest n =
    omega (arith, word_some t n.front.word n.front.spells, simp length-append at (ap length n.split), simp length-append at (ap length n.front.split))

-- one token more
further : (start : ℕ) (text : List ℕ) (tokens : List Token) (used : ℕ) (rest : List ℕ) (left left' : List Part) (t : Token) (k : ℕ) (next : List ℕ) → Reached start text tokens used rest left
    → IsNext rest used t k next → parts_behind MOST_DEPTH left t ≡ Some left'
    → Reached start text (tokens ++ t ∷ []) (used + (length rest - length next)) next left'
further start text tokens used rest left left' t k next r n e =
    let less = next_less rest used t k next n in
    record {
      stand = stand_more start text tokens used rest t k next (used + (length rest - length next)) r.stand r.shorter n refl;
      shorter = omega (arith, r.shorter, less);
      leads = after_next MOST_DEPTH tokens left t r.leads ∙ e;
    }

nothing_placed : (placed : List (Token × ℕ)) → map (λ p. p.0) placed ≡ [] → placed ≡ []
nothing_placed [] e = refl
nothing_placed (p ∷ ps) e = absurd (let no : p.0 ∷ map (λ q. q.0) ps ≡ [] = e in cc)

-- only blanks are left
blanks : (start : ℕ) (text : List ℕ) (tokens : List Token) (used : ℕ) (rest : List ℕ) (p : Part) (ps : List Part) → Nothing start text → Reached start text tokens used rest (p ∷ ps)
    → IsBlanks rest → ⊥
blanks start text [] used rest p ps none r h =
    let all : text ≡ rest = subst (λ (ts : List (Token × ℕ)). Lexes text start ts rest) (nothing_placed r.stand.placed r.stand.shown) r.stand.lexes in
    none Blank (subst IsBlanks (sym all) h)
blanks start text (t ∷ ts) used rest p ps none r h =
    none Cut (cut_behind (begun start text (t ∷ ts) used rest p ps r) (inl (λ e. (let no : t ∷ ts ≡ [] = e in cc), h)))

abort_or : (t : Token) → (t ≡ token.Abort) ⊎ (t ≢ token.Abort)
abort_or token.Abort = inl refl
abort_or t = inr (λ e. (let no : t ≡ token.Abort = e in cc))

-- the token cannot stand there
aborts : (start : ℕ) (text : List ℕ) (tokens : List Token) (used : ℕ) (rest : List ℕ) (p : Part) (ps : List Part) (k : ℕ) (next : List ℕ) → Nothing start text
    → Reached start text tokens used rest (p ∷ ps) → IsNext rest used token.Abort k next → ⊥
aborts start text [] used rest p ps k next none r n =
    none (Bad k) (bad_behind k (begun start text [] used rest p ps r)
    (inl (record { next_token = token.Abort; after = next; next = n; dead = abort_is_dead [] (p ∷ ps) r.leads; no_abort = λ some. absurd (some refl) })))
aborts start text (t ∷ ts) used rest p ps k next none r n =
    none (Aborted next) (aborted_behind (begun start text (t ∷ ts) used rest p ps r) (λ e. (let no : t ∷ ts ≡ [] = e in cc)) n)

refuses : (start : ℕ) (text : List ℕ) (tokens : List Token) (used : ℕ) (rest : List ℕ) (p : Part) (ps : List Part) (t : Token) (k : ℕ) (next : List ℕ) → Nothing start text
    → Reached start text tokens used rest (p ∷ ps) → IsNext rest used t k next → parts_behind MOST_DEPTH (p ∷ ps) t ≡ None → ⊥
refuses start text tokens used rest p ps t k next none r n e =
    let first = begun start text tokens used rest p ps r in
    elim (abort_or t) [
      | inl is ↦ aborts start text tokens used rest p ps k next none r (subst (λ (z : Token). IsNext rest used z k next) is n)
      | inr other ↦ none (Bad k) (bad_behind k first (inl (record {
        next_token = t;
        after = next;
        next = n;
        dead = λ most v. none Deep (deep_behind most first n v (refused MOST_DEPTH (tokens ++ t ∷ []) (after_next MOST_DEPTH tokens (p ∷ ps) t r.leads ∙ e)));
        no_abort = λ some. other;
      })))
    ]

-- it is the last one of an automaton
whole : (start : ℕ) (text : List ℕ) (tokens : List Token) (used : ℕ) (rest : List ℕ) → Nothing start text → Reached start text tokens used rest [] → ⊥
whole start text tokens used rest none r =
    let spelled = whole_so MOST_DEPTH tokens r.leads in
    none (Whole spelled.0 rest) (record { placed = r.stand.placed; lexes = r.stand.lexes; spells = subst (λ (ts : List Token). SpellsAutomaton MOST_DEPTH ts spelled.0) (sym r.stand.shown) spelled.1 })

-- a token stands next, behind which more is expected
abbrev Later : ℕ → List ℕ → List Token → ℕ → List ℕ → Type 0
Later start text tokens used rest =
    (t : Token) (k : ℕ) (next : List ℕ) (q : Part) (qs : List Part) → IsNext rest used t k next → Reached start text (tokens ++ t ∷ []) (used + (length rest - length next)) next (q ∷ qs) → ⊥

token_so : (start : ℕ) (text : List ℕ) (tokens : List Token) (used : ℕ) (rest : List ℕ) (p : Part) (ps : List Part) (t : Token) (k : ℕ) (next : List ℕ) (found : Option (List Part))
    → parts_behind MOST_DEPTH (p ∷ ps) t ≡ found → Nothing start text
    → Reached start text tokens used rest (p ∷ ps) → Later start text tokens used rest → IsNext rest used t k next → ⊥
token_so start text tokens used rest p ps t k next None e none r later h = refuses start text tokens used rest p ps t k next none r h e
token_so start text tokens used rest p ps t k next (Some []) e none r later h =
    whole start text (tokens ++ t ∷ []) (used + (length rest - length next)) next none (further start text tokens used rest (p ∷ ps) [] t k next r h e)
token_so start text tokens used rest p ps t k next (Some (q ∷ qs)) e none r later h = later t k next q qs h (further start text tokens used rest (p ∷ ps) (q ∷ qs) t k next r h e)

next_so : (start : ℕ) (text : List ℕ) (tokens : List Token) (used : ℕ) (rest : List ℕ) (p : Part) (ps : List Part) (a : Next) → Nothing start text
    → Reached start text tokens used rest (p ∷ ps) → Later start text tokens used rest → StandsNext a used rest → ⊥
next_so start text tokens used rest p ps NoMore none r later h = blanks start text tokens used rest p ps none r h
next_so start text tokens used rest p ps (OneToken t k next) none r later h = token_so start text tokens used rest p ps t k next (parts_behind MOST_DEPTH (p ∷ ps) t) refl none r later h
next_so start text tokens used rest p ps (NoToken k) none r later h =
    none (Bad k) (bad_behind k (begun start text tokens used rest p ps r) (inr h))
next_so start text tokens used rest p ps InComment none r later h =
    none Cut (cut_behind (begun start text tokens used rest p ps r) (inr (inl h)))
next_so start text tokens used rest p ps InString none r later h =
    none Cut (cut_behind (begun start text tokens used rest p ps r) (inr (inr (inl h))))
next_so start text tokens used rest p ps InToken none r later h =
    none Cut (cut_behind (begun start text tokens used rest p ps r) (inr (inr (inr h))))

-- from there on something stands next
reached : (n start : ℕ) (text : List ℕ) (tokens : List Token) (used : ℕ) (rest : List ℕ) (p : Part) (ps : List Part) → Nothing start text → Reached start text tokens used rest (p ∷ ps)
    → length rest ≤ n → ⊥
reached zero start text tokens used rest p ps none r l =
    some_next used rest (λ a h. next_so start text tokens used rest p ps a none r (λ t k next q qs n s. absurd (omega (arith, l, next_less rest used t k next n))) h)
reached (suc m) start text tokens used rest p ps none r l =
    some_next used rest
    (λ a h.
    next_so start text tokens used rest p ps a none r
    (λ t k next q qs n s. reached m start text (tokens ++ t ∷ []) (used + (length rest - length next)) next q qs none s (omega (arith, l, next_less rest used t k next n))) h)

pub some_standing : SomeStanding
some_standing start text none =
    reached (length text) start text [] start text part.Whole [] none
    (record { stand = record { placed = []; shown = refl; lexes = refl; used_is = omega arith }; shorter = omega arith; leads = refl }) (omega arith)
