-- One thing stands next in a text.
use Rattle.std.proofs.Common.{◌≡◌, ◌≢◌, ℕ, ◌⊎◌, true, false, not, is_some, Option, Some, None, List, [], ◌∷◌, ◌++◌, inl, inr, refl, sym, subst, ◌∙◌, ap}
use Rattle.std.proofs.lemmas.List.{map-append}
use Rattle.aut_base.specs.declared.limit.TheConstants.{MOST_DEPTH}
use Rattle.hoa_lexer.specs.Blanks.{IsBlanks}
use Rattle.hoa_lexer.specs.Reading.{unread}
use Rattle.hoa_lexer.specs.Spelling.{closes_itself}
use Rattle.hoa_lexer.specs.Text.{IsNext}
use Rattle.hoa_lexer.specs.declared.token.Token.{Token}
use Rattle.hoa_lexer.specs.declared.token.Token.TheVariants as token
use Rattle.hoa_lexer.specs.Laws.Next.{NoMore, NoToken}
use Rattle.hoa_lexer.proofs.next_token.Unique.{one_next_token}
use Rattle.hoa_parser.specs.Grammar.{IsViable, SpellsAutomaton}
use Rattle.hoa_parser.specs.Raw.{Written}
use Rattle.hoa_parser.specs.Reads.{EndsDeep}
use Rattle.hoa_parser.specs.Standing.{IsDeep, IsMisplaced, IsNoTokenAt, OneStanding, Standing}
use Rattle.hoa_parser.specs.Standing.Standing.{Blank, Whole, Deep, Bad, Aborted, Cut}
use Rattle.hoa_parser.proofs.standing.Halts.{Halts, abandons, halts_here, halts_viable, misplaced_next, reading, shown}
use Rattle.hoa_parser.proofs.grammar.NoAbort.{no_abort_inside}
use Rattle.hoa_parser.proofs.grammar.OneRaw.{one_raw}
use Rattle.hoa_parser.proofs.standing.Readings.{IsFurther, compared, place}
use Rattle.hoa_parser.proofs.standing.Needed.{held_as_needed}
use Rattle.hoa_parser.proofs.standing.NextCases.{HasNext, blanks_no_fault, next_no_blanks, next_no_fault, next_not_open, one_no_token, one_token, open_only}
use Rattle.hoa_parser.specs.inner.Parsing.{EndsOpen}

spells_some : (m : ℕ) (tokens : List Token) (w : Written) → tokens ≡ [] → SpellsAutomaton m tokens w → ⊥
spells_some m tokens w e s = let all = sym e ∙ s.spelled in cc

-- a token stands next, or the text is cut
next_not_cut : (used : ℕ) (rest : List ℕ) (t : Token) (some : Type 0) → HasNext used rest t → some × IsBlanks rest ⊎ EndsOpen rest → ⊥
next_not_cut used rest t some n (inl b) = next_no_blanks used rest t n b.1
next_not_cut used rest t some n (inr o) = next_not_open used rest t n o

abbrev Fault : ℕ → List Token → ℕ → List ℕ → Type 0
Fault k tokens used rest = IsMisplaced k tokens used rest ⊎ IsNoTokenAt k used rest

fault_no_blanks : (k : ℕ) (tokens : List Token) (used : ℕ) (rest : List ℕ) → Fault k tokens used rest → IsBlanks rest → ⊥
fault_no_blanks k tokens used rest (inl m) b = next_no_blanks used rest m.next_token (misplaced_next k tokens used rest m) b
fault_no_blanks k tokens used rest (inr n) b = blanks_no_fault k used rest b n

fault_not_open : (k : ℕ) (tokens : List Token) (used : ℕ) (rest : List ℕ) → Fault k tokens used rest → EndsOpen rest → ⊥
fault_not_open k tokens used rest (inl m) o = next_not_open used rest m.next_token (misplaced_next k tokens used rest m) o
fault_not_open k tokens used rest (inr n) o = open_only (NoToken k) used rest n o

-- the token that stands next is dead
fault_next : (k : ℕ) (tokens : List Token) (used : ℕ) (rest : List ℕ) (t : Token) → Fault k tokens used rest → HasNext used rest t → (m : ℕ) → IsViable m (tokens ++ t ∷ []) → ⊥
fault_next k tokens used rest t (inl f) n m v =
    f.dead m (subst (λ (u : Token). IsViable m (tokens ++ u ∷ [])) (one_token used rest t f.next_token n (misplaced_next k tokens used rest f)) v)
fault_next k tokens used rest t (inr f) n m v = next_no_fault k used rest t n f

fault_abort : (k : ℕ) (tokens : List Token) (used : ℕ) (rest : List ℕ) → Fault k tokens used rest → (tokens ≢ []) → HasNext used rest token.Abort → ⊥
fault_abort k tokens used rest (inl f) s n = f.no_abort s (one_token used rest f.next_token token.Abort (misplaced_next k tokens used rest f) n)
fault_abort k tokens used rest (inr f) s n = next_no_fault k used rest token.Abort n f

one_fault : (j k : ℕ) (tokens : List Token) (used : ℕ) (rest : List ℕ) → Fault j tokens used rest → Fault k tokens used rest → j ≡ k
one_fault j k tokens used rest (inl f) (inl g) = (one_next_token rest used f.next_token g.next_token j k f.after g.after f.next g.next).1
one_fault j k tokens used rest (inl f) (inr g) = absurd (next_no_fault k used rest f.next_token (misplaced_next j tokens used rest f) g)
one_fault j k tokens used rest (inr f) (inl g) = absurd (next_no_fault j used rest g.next_token (misplaced_next k tokens used rest g) f)
one_fault j k tokens used rest (inr f) (inr g) = one_no_token j k used rest f g

blank_cut : (tokens : List Token) (used : ℕ) (rest : List ℕ) → Halts Blank tokens used rest → Halts Cut tokens used rest → ⊥
blank_cut tokens used rest f g = elim g.1 [ inl b ↦ b.0 f.0 | inr o ↦ open_only NoMore used rest f.1 o ]

fault_cut : (k : ℕ) (tokens : List Token) (used : ℕ) (rest : List ℕ) → Halts (Bad k) tokens used rest → Halts Cut tokens used rest → ⊥
fault_cut k tokens used rest f g = elim g.1 [ inl b ↦ fault_no_blanks k tokens used rest f.1 b.1 | inr o ↦ fault_not_open k tokens used rest f.1 o ]

deep_aborted : (tokens : List Token) (used : ℕ) (rest : List ℕ) → Halts Deep tokens used rest → HasNext used rest token.Abort → ⊥
deep_aborted tokens used rest f n =
    no_abort_inside f.1.most tokens [] (subst (λ (u : Token). IsViable f.1.most (tokens ++ u ∷ [])) (one_token used rest f.1.token token.Abort f.1.next n) f.1.viable)

-- what halts at one place is one thing
one_halt : (a b : Standing) (tokens : List Token) (used : ℕ) (rest : List ℕ) → Halts a tokens used rest → Halts b tokens used rest → a ≡ b
one_halt Blank Blank tokens used rest f g = refl
one_halt Blank (Whole w r) tokens used rest f g = absurd (spells_some MOST_DEPTH tokens w f.0 g.0)
one_halt Blank Deep tokens used rest f g = absurd (next_no_blanks used rest g.1.token g.1.next f.1)
one_halt Blank (Bad k) tokens used rest f g = absurd (fault_no_blanks k tokens used rest g.1 f.1)
one_halt Blank (Aborted r') tokens used rest f g = absurd (g.1 f.0)
one_halt Blank Cut tokens used rest f g = absurd (blank_cut tokens used rest f g)
one_halt (Whole w r) Blank tokens used rest f g = absurd (spells_some MOST_DEPTH tokens w g.0 f.0)
one_halt (Whole w r) (Whole v s) tokens used rest f g =
    let same = one_raw MOST_DEPTH MOST_DEPTH tokens w v f.0 g.0 in
    let ends : r ≡ s = f.1 ∙ sym g.1 in
    cc
one_halt (Whole w r) Deep tokens used rest f g = absurd (g.0.unfinished MOST_DEPTH w f.0)
one_halt (Whole w r) (Bad k) tokens used rest f g = absurd (g.0.unfinished MOST_DEPTH w f.0)
one_halt (Whole w r) (Aborted r') tokens used rest f g = absurd (g.0.unfinished MOST_DEPTH w f.0)
one_halt (Whole w r) Cut tokens used rest f g = absurd (g.0.unfinished MOST_DEPTH w f.0)
one_halt Deep Blank tokens used rest f g = absurd (next_no_blanks used rest f.1.token f.1.next g.1)
one_halt Deep (Whole w r) tokens used rest f g = absurd (f.0.unfinished MOST_DEPTH w g.0)
one_halt Deep Deep tokens used rest f g = refl
one_halt Deep (Bad k) tokens used rest f g = absurd (fault_next k tokens used rest f.1.token g.1 f.1.next f.1.most f.1.viable)
one_halt Deep (Aborted r') tokens used rest f g = absurd (deep_aborted tokens used rest f (abandons tokens used rest r' g))
one_halt Deep Cut tokens used rest f g = absurd (next_not_cut used rest f.1.token (tokens ≢ []) f.1.next g.1)
one_halt (Bad k) Blank tokens used rest f g = absurd (fault_no_blanks k tokens used rest f.1 g.1)
one_halt (Bad k) (Whole w r) tokens used rest f g = absurd (f.0.unfinished MOST_DEPTH w g.0)
one_halt (Bad k) Deep tokens used rest f g = absurd (fault_next k tokens used rest g.1.token f.1 g.1.next g.1.most g.1.viable)
one_halt (Bad j) (Bad k) tokens used rest f g = ap Bad (one_fault j k tokens used rest f.1 g.1)
one_halt (Bad k) (Aborted r') tokens used rest f g = absurd (fault_abort k tokens used rest f.1 g.1 (abandons tokens used rest r' g))
one_halt (Bad k) Cut tokens used rest f g = absurd (fault_cut k tokens used rest f g)
one_halt (Aborted r) Blank tokens used rest f g = absurd (f.1 g.0)
one_halt (Aborted r') (Whole w r) tokens used rest f g = absurd (f.0.unfinished MOST_DEPTH w g.0)
one_halt (Aborted r) Deep tokens used rest f g = absurd (deep_aborted tokens used rest g (abandons tokens used rest r f))
one_halt (Aborted r) (Bad k) tokens used rest f g = absurd (fault_abort k tokens used rest g.1 f.1 (abandons tokens used rest r f))
one_halt (Aborted r) (Aborted r') tokens used rest f g = ap Aborted (one_next_token rest used token.Abort token.Abort f.2 g.2 r r' f.3 g.3).2
one_halt (Aborted r) Cut tokens used rest f g = absurd (next_not_cut used rest token.Abort (tokens ≢ []) (abandons tokens used rest r f) g.1)
one_halt Cut Blank tokens used rest f g = absurd (blank_cut tokens used rest g f)
one_halt Cut (Whole w r) tokens used rest f g = absurd (f.0.unfinished MOST_DEPTH w g.0)
one_halt Cut Deep tokens used rest f g = absurd (next_not_cut used rest g.1.token (tokens ≢ []) g.1.next f.1)
one_halt Cut (Bad k) tokens used rest f g = absurd (fault_cut k tokens used rest g f)
one_halt Cut (Aborted r') tokens used rest f g = absurd (next_not_cut used rest token.Abort (tokens ≢ []) (abandons tokens used rest r' g) f.1)
one_halt Cut Cut tokens used rest f g = refl

-- one that halts is not followed by another
not_further : (a b : Standing) (ps qs : List (Token × ℕ)) (used used' : ℕ) (rest rest' : List ℕ) → Halts a (shown ps) used rest → Halts b (shown qs) used' rest' → IsFurther ps qs used rest → ⊥
not_further a b ps qs used used' rest rest' f g h =
    halts_here a (shown ps) (shown h.more) h.token.0 used rest f (record { offset = h.token.1; after = h.after; next = h.next })
    (subst (λ (ts : List Token). IsViable MOST_DEPTH ts) (ap shown h.goes_on ∙ map-append (λ p. p.0) ps (h.token ∷ h.more)) (halts_viable b (shown qs) used' rest' g))

same_place : (b : Standing) (ps qs : List (Token × ℕ)) (start : ℕ) (text rest rest' : List ℕ) → ps ≡ qs → rest ≡ rest' → Halts b (shown qs) (place start text rest') rest'
    → Halts b (shown ps) (place start text rest) rest
same_place b ps qs start text rest rest' e k h =
    subst (λ (r : List ℕ). Halts b (shown ps) (place start text r) r) (sym k) (subst (λ (ts : List (Token × ℕ)). Halts b (shown ts) (place start text rest') rest') (sym e) h)

pub one_standing : OneStanding
one_standing start text a b f g =
    let p = reading a start text f in
    let q = reading b start text g in
    elim (compared text start p.placed q.placed p.rest q.rest p.lexes q.lexes) [
      | inl same ↦ one_halt a b (shown p.placed) (place start text p.rest) p.rest p.halts (same_place b p.placed q.placed start text p.rest q.rest same.0 same.1 q.halts)
      | inr (inl h) ↦ absurd (not_further a b p.placed q.placed (place start text p.rest) (place start text q.rest) p.rest q.rest p.halts q.halts h)
      | inr (inr h) ↦ absurd (not_further b a q.placed p.placed (place start text q.rest) (place start text p.rest) q.rest p.rest q.halts p.halts h)
    ]

-- ---- the token that opens one more than may be open is one, and so is what follows it

deep_halts : (start : ℕ) (text : List ℕ) (d : IsDeep start text) → Halts Deep (shown d.begun.placed) (place start text d.rest) d.rest
deep_halts start text d =
    subst (λ (n : ℕ). Halts Deep (shown d.begun.placed) n d.rest) d.begun.used_is
    (subst (λ (ts : List Token). Halts Deep ts d.used d.rest) (sym d.begun.shown) (
      record { viable = d.begun.viable; unfinished = d.begun.unfinished },
      record {
        token = d.next_token;
        next = record { offset = d.offset; after = d.after; next = d.next };
        most = d.most;
        viable = d.viable;
        too_deep = d.too_deep;
      },
    ))

abbrev IsOneDeep : (start : ℕ) (text : List ℕ) (d e : IsDeep start text) → Type 0
IsOneDeep start text d e = (d.next_token ≡ e.next_token) × (d.after ≡ e.after)

one_deep_here : (start : ℕ) (text : List ℕ) (d e : IsDeep start text) → d.rest ≡ e.rest → IsOneDeep start text d e
one_deep_here start text d e same =
    let used : e.used ≡ d.used = e.begun.used_is ∙ ap (place start text) (sym same) ∙ sym d.begun.used_is in
    let there : IsNext d.rest d.used e.next_token e.offset e.after =
    subst (λ (n : ℕ). IsNext d.rest n e.next_token e.offset e.after) used (subst (λ (r : List ℕ). IsNext r e.used e.next_token e.offset e.after) (sym same) e.next) in
    let one = one_next_token d.rest d.used d.next_token e.next_token d.offset e.offset d.after e.after d.next there in
    (one.0, one.2)

one_deep : (start : ℕ) (text : List ℕ) (d e : IsDeep start text) → IsOneDeep start text d e
one_deep start text d e = elim (compared text start d.begun.placed e.begun.placed d.rest e.rest d.begun.lexes e.begun.lexes) [
  | inl same ↦ one_deep_here start text d e same.1
  | inr (inl h) ↦ absurd (not_further Deep Deep d.begun.placed e.begun.placed (place start text d.rest) (place start text e.rest) d.rest e.rest (deep_halts start text d) (deep_halts start text e) h)
  | inr (inr h) ↦ absurd (not_further Deep Deep e.begun.placed d.begun.placed (place start text e.rest) (place start text d.rest) e.rest d.rest (deep_halts start text e) (deep_halts start text d) h)
]

behind_held : (h k : Option ℕ) (x y : List ℕ) → is_some h ≡ is_some k → unread h x ≡ unread k y → x ≡ y
behind_held None None x y s e = e
behind_held None (Some c) x y s e = absurd (let no : false ≡ true = s in cc)
behind_held (Some b) None x y s e = absurd (let no : true ≡ false = s in cc)
behind_held (Some b) (Some c) x y s e = cc

pub one_deep_end : (start : ℕ) (text x y : List ℕ) → EndsDeep start text x → EndsDeep start text y → x ≡ y
one_deep_end start text x y f g =
    let one = one_deep start text f.deep g.deep in
    let holds = held_as_needed f.held f.deep.next_token f.needed in
    let holds' = held_as_needed g.held g.deep.next_token g.needed in
    behind_held f.held g.held x y (holds ∙ ap (λ t. not (closes_itself t)) one.0 ∙ sym holds') (sym f.behind ∙ one.1 ∙ g.behind)
