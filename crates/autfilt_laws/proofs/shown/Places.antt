-- For each fault of a text there is a byte that shows it, at which a reader can stop.
use Rattle.std.proofs.Common.{List, None, Option, Some, [], ap, inl, inr, is_some, not, subst, sym, true, ℕ, ◌++◌, ◌∙◌, ◌≡◌, ◌≢◌, ◌⊎◌}
use Rattle.std.proofs.lemmas.List.{append_assoc, append-nil}
use Rattle.aut_base.proofs.numbers.Truth.{true_from_not}
use Rattle.hoa_lexer.specs.Blanks.{IsBlanks}
use Rattle.hoa_lexer.specs.Spelling.{closes_itself}
use Rattle.hoa_lexer.specs.Text.{IsNext}
use Rattle.hoa_lexer.specs.declared.token.Token.{Token}
use Rattle.hoa_lexer.proofs.next_token.Asked.{last_is_asked_for}
use Rattle.hoa_parser.proofs.standing.Hopeless.{asked_last, held_bytes, hopeless_so, next_leaves, next_off, next_some, no_token_at, unread_is}
use Rattle.hoa_parser.proofs.standing.Needed.{needed_at_end}
use Rattle.hoa_parser.proofs.standing.OpenEnds.{open_end_asks}
use Rattle.hoa_parser.specs.Reads.{AskedForLast, IsHopeless}
use Rattle.hoa_parser.specs.Standing.{IsBegun, IsMisplaced, IsNoTokenAt}
use Rattle.autfilt_laws.specs.Places.{BadIsShown, CutIsShown, DeepIsShown}
use Rattle.autfilt_laws.proofs.shown.Ends.{IsClosed, closing}
use Rattle.autfilt_laws.proofs.shown.NoTokens.{refuses_at}

-- the last byte was needed, where a token is next
asked_for_token : (start : ℕ) (text : List ℕ) (tokens : List Token) (used : ℕ) (rest : List ℕ) (t : Token) (k : ℕ) (after : List ℕ) → IsBegun start text tokens used rest
    → IsNext rest used t k after → (c : IsClosed t after) → AskedForLast start text c.left
asked_for_token start text tokens used rest t k after begun next c =
    asked_last start text c.left tokens used rest begun
    (last_is_asked_for rest used k t c.held c.left (subst (λ (w : List ℕ). IsNext rest used t k w) c.follows next) c.needed)

-- the bytes that were taken show that no token can continue the text

-- where the lexer holds no byte, the token is complete with its own last byte
closed_so : (held : Option ℕ) (t : Token) → is_some held ≡ not (closes_itself t) → held_bytes held ≡ [] → closes_itself t ≡ true
closed_so None t e none = true_from_not (closes_itself t) e
closed_so (Some b) t e none = cc

misplaced_shown : (k start : ℕ) (text : List ℕ) (tokens : List Token) (used : ℕ) (rest : List ℕ) → IsBegun start text tokens used rest → (m : IsMisplaced k tokens used rest)
    → (c : IsClosed m.next_token m.after) → IsHopeless k start text c.left
misplaced_shown k start text tokens used rest begun m c =
    let z = m.next_token in
    let last = held_bytes c.held in
    let behind : m.after ≡ last ++ c.left = c.follows ∙ unread_is c.held c.left in
    let leaves = next_leaves rest used z k m.after m.next in
    let taken = leaves.before ++ last in
    let split : rest ≡ taken ++ c.left = leaves.split ∙ ap (λ w. leaves.before ++ w) behind ∙ sym (append_assoc leaves.before last c.left) in
    let shown = next_off taken last c.left used k z (closed_so c.held z c.needed)
    (subst (λ (w : List ℕ). IsNext w used z k (last ++ c.left)) split (subst (λ (w : List ℕ). IsNext rest used z k w) behind m.next)) in
    hopeless_so k start text c.left tokens used taken (subst (λ (w : List ℕ). IsBegun start text tokens used w) split begun) (next_some taken used z k last shown)
    (inl (record { next_token = z; after = last; next = shown; dead = m.dead; no_abort = m.no_abort }))

-- the places

fault_is_shown : (start k : ℕ) (text : List ℕ) (tokens : List Token) (used : ℕ) (rest : List ℕ) → IsBegun start text tokens used rest → IsMisplaced k tokens used rest ⊎ IsNoTokenAt k used rest
    → (left : List ℕ) × IsHopeless k start text left × AskedForLast start text left
fault_is_shown start k text tokens used rest begun (inl m) =
    let c = closing m.next_token m.after m.next.front.ends in
    (c.left, misplaced_shown k start text tokens used rest begun m c, asked_for_token start text tokens used rest m.next_token k m.after begun m.next c)
fault_is_shown start k text tokens used rest begun (inr n) =
    let r = refuses_at k used rest n in
    (r.left, no_token_at k start text r.left tokens used rest begun r.answers.2, asked_last start text r.left tokens used rest begun r.answers.1)

pub bad_is_shown : BadIsShown
bad_is_shown start k text h = fault_is_shown start k text h.tokens h.used h.rest h.begun h.holds

pub deep_is_shown : DeepIsShown
deep_is_shown start text h =
    let c = closing h.next_token h.after h.next.front.ends in (
      c.left,
      record { deep = h; held = c.held; behind = c.follows; needed = needed_at_end c.held h.next_token c.needed },
      asked_for_token start text h.tokens h.used h.rest h.next_token h.offset h.after h.begun h.next c,
    )

ends_so : (some blank other : Type 0) → some × blank ⊎ other → blank ⊎ other
ends_so some blank other (inl h) = inl h.1
ends_so some blank other (inr h) = inr h

pub cut_is_shown : CutIsShown
cut_is_shown start text h = record {
  tokens = h.tokens;
  used = h.used;
  rest = h.rest;
  begun = h.begun;
  holds = record { at_hand = h.rest; split = sym (append-nil h.rest); asks = open_end_asks h.rest (ends_so (h.tokens ≢ []) (IsBlanks h.rest) _ h.holds) };
}
