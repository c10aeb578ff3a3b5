-- How the readings of parts are put together.
use Rattle.std.proofs.Common.{◌≡◌, ◌≢◌, ◌≤◌, ℕ, Bool, true, false, List, [], ◌∷◌, ◌++◌, Option, Some, None, is_some, not, Result, Ok, Err, refl, sym, ap, subst, ◌∙◌, inl, inr, if◌then◌else◌}
use Rattle.std.proofs.lemmas.List.{append_assoc}
use Rattle.std.specs.Prelude.{nat_le}
use Rattle.std.specs.Result.{IsErrAnd}
use Rattle.aut_base.specs.declared.limit.TheConstants.{MOST_DEPTH}
use Rattle.hoa_lexer.proofs.next_token.Between.{between_as, between_same, between_then}
use Rattle.hoa_lexer.specs.Spelling.{closes_itself}
use Rattle.hoa_lexer.specs.declared.token.Token.{Token}
use Rattle.hoa_lexer.specs.declared.token.Token.TheVariants as token
use Rattle.hoa_parser.proofs.reading.FailedParts.{fails_more, fails_then, taken_no_abort, unread_behind}
use Rattle.hoa_parser.proofs.reading.FrontParts.{goes_more, goes_nowhere, follows_parts, goes_over, goes_then, passes_behind, refuses_behind, takes_behind}
use Rattle.hoa_lexer.proofs.next_token.Moving.{moves_nowhere, moves_then}
use Rattle.hoa_parser.specs.inner.Expecting as expecting
use Rattle.hoa_parser.specs.inner.Expecting.{TokenUse, Part, Takes, parts_behind, move, moved, open_at}
use Rattle.hoa_parser.specs.inner.Parsing.{Advanced, AdvancesReader, Cursor, FailsAt, LeavesReader, Passed, ReadsParts, ReadsTo, Relation, State, Unadvanced, is_end, cursor_of}
use Rattle.hoa_parser.specs.declared.fault.ReadFault.{ReadFault}
use Rattle.hoa_parser.specs.declared.fault.ReadFault.TheVariants as fault

-- the same place
abbrev pub Same : Relation
Same a b = a ≡ b

-- this token
abbrev pub Read : Token → Relation
Read z a b = Passed a (z ∷ []) b

-- one, and then the other
abbrev pub Then : Relation → Relation → Relation
Then A B a c = (b : Cursor) × A a b × B b c

-- some parts, and then more
pub reads_then : {p q r : List Part} {A B : Relation} {s m s' : State} → ReadsTo p q A s m → ReadsTo q r B m s' → ReadsTo p r (Then A B) s s'
reads_then {p} {q} {r} {A} {B} {s} {m} {s'} one two = record {
  moves = moves_then _ s.lexer m.lexer s'.lexer s.seen m.seen s'.seen one.moves two.moves;
  spent = two.spent;
  holds = λ h. two.holds (one.holds h);
  text = between_then s.seen.left m.seen.left s'.seen.left _ _ _ (λ x y z h k. ((cursor_of m y, h.0, k.0), goes_then p q r (cursor_of s x) (cursor_of m y) (cursor_of s' z) h.1 k.1)) one.text two.text;
}

-- and more that could not be read
pub fails_after : {p q : List Part} {A : Relation} {f : ReadFault} {s m s' : State} → ReadsTo p q A s m → FailsAt f q m s' → FailsAt f p s s'
fails_after {p} {q} {A} {f} {s} {m} {s'} one two = record {
  moves = moves_then _ s.lexer m.lexer s'.lexer s.seen m.seen s'.seen one.moves two.moves;
  leaves = λ h. two.leaves (one.holds h);
  text = between_then s.seen.left m.seen.left s'.seen.left _ _ _ (λ x y z h k. fails_then f p q (cursor_of s x) (cursor_of m y) (cursor_of s' z) h.1 k) one.text two.text;
}

-- behind the parts more is expected
pub reads_before : {p q : List Part} {A : Relation} {s s' : State} (more : List Part) → ReadsTo p q A s s' → ReadsTo (p ++ more) (q ++ more) A s s'
reads_before {p} {q} {A} {s} {s'} more one = record {
  moves = one.moves;
  spent = one.spent;
  holds = one.holds;
  text = between_as s.seen.left s'.seen.left _ _ (λ x y h. (h.0, goes_more p q more (cursor_of s x) (cursor_of s' y) h.1)) one.text;
}

pub fails_before : {p : List Part} {f : ReadFault} {s s' : State} (more : List Part) → FailsAt f p s s' → FailsAt f (p ++ more) s s'
fails_before {p} {f} {s} {s'} more one = record {
  moves = one.moves;
  leaves = one.leaves;
  text = between_as s.seen.left s'.seen.left _ _ (λ x y h. fails_more f p more (cursor_of s x) (cursor_of s' y) h) one.text;
}

-- the next parts of a rule
pub next_reads : {p parts more : List Part} {A B : Relation} {s m s' : State} → ReadsTo p (parts ++ more) A s m → ReadsTo parts [] B m s' → ReadsTo p more (Then A B) s s'
next_reads {p} {parts} {more} one two = reads_then one (reads_before more two)

pub next_fails : {p parts : List Part} {A : Relation} {f : ReadFault} {s m s' : State} (more : List Part) → ReadsTo p (parts ++ more) A s m → FailsAt f parts m s' → FailsAt f p s s'
next_fails more one two = fails_after one (fails_before more two)

-- what is true of the places, in other words
pub reads_as : {p q : List Part} {A B : Relation} {s s' : State} → ((a b : Cursor) → A a b → B a b) → ReadsTo p q A s s' → ReadsTo p q B s s'
reads_as {p} {q} {A} {B} {s} {s'} f one = record {
  moves = one.moves;
  spent = one.spent;
  holds = one.holds;
  text = between_as s.seen.left s'.seen.left _ _ (λ x y h. (f (cursor_of s x) (cursor_of s' y) h.0, h.1)) one.text;
}

-- and this is so of the token that is at hand then
pub reads_at : {p q : List Part} {A : Relation} {s s' : State} (z : Token) → s'.ahead ≡ z → ReadsTo p q A s s' → ReadsTo p q (λ a b. A a b × (b.token ≡ z)) s s'
reads_at {p} {q} {A} {s} {s'} z is one = record {
  moves = one.moves;
  spent = one.spent;
  holds = one.holds;
  text = between_as s.seen.left s'.seen.left _ _ (λ x y h. ((h.0, is), h.1)) one.text;
}

-- the token at hand is to these parts what it is to those
pub turns : {p q : List Part} (s : State) → s.lexer.spent ≡ false → ((most : ℕ) (others : List Part) → parts_behind most (p ++ others) s.ahead ≡ parts_behind most (q ++ others) s.ahead)
    → ReadsTo p q Same s s
turns {p} {q} s unspent over = record {
  moves = moves_nowhere s.lexer s.seen;
  spent = unspent;
  holds = λ h. h;
  text = between_same s.seen.left _ (λ x. (refl, goes_over p q (cursor_of s x) over));
}

-- so those are read in place of these
pub reads_for : {p parts : List Part} {B : Relation} {s m : State} (more : List Part) → s.lexer.spent ≡ false
    → ((most : ℕ) (others : List Part) → parts_behind most (p ++ others) s.ahead ≡ parts_behind most ((parts ++ more) ++ others) s.ahead) → ReadsTo parts [] B s m → ReadsTo p more B s m
reads_for {B = B} {s = s} more unspent over one = reads_as (λ a c h. subst (λ (x : Cursor). B x c) (sym h.1) h.2) (next_reads (turns s unspent over) one)

pub fails_for : {p parts : List Part} {f : ReadFault} {s m : State} (more : List Part) → s.lexer.spent ≡ false
    → ((most : ℕ) (others : List Part) → parts_behind most (p ++ others) s.ahead ≡ parts_behind most ((parts ++ more) ++ others) s.ahead) → FailsAt f parts s m → FailsAt f p s m
fails_for {s = s} more unspent over one = next_fails more (turns s unspent over) one

-- nothing was read
pub reads_nothing : (p : List Part) (A : Relation) (s : State) → s.lexer.spent ≡ false → ((a : Cursor) → A a a) → ReadsTo p p A s s
reads_nothing p A s unspent f = reads_as (λ a b h. subst (λ (x : Cursor). A a x) h (f a)) (turns {p = p} {q = p} s unspent (λ most others. refl))

-- the token at hand stands behind the first part, of which nothing is there
pub passes : (part : Part) (others : List Part) (s : State) → s.lexer.spent ≡ false → move part s.ahead ≡ expecting.Passes → ReadsTo (part ∷ others) others Same s s
passes part others s unspent over = turns s unspent (λ most more. passes_behind most part (others ++ more) s.ahead over)

pub token_passed : (part : Part) (A : Relation) (s : State) → s.lexer.spent ≡ false → move part s.ahead ≡ expecting.Passes → ((a : Cursor) → A a a) → ReadsTo (part ∷ []) [] A s s
token_passed part A s unspent over f = reads_as (λ a b h. subst (λ (x : Cursor). A a x) h (f a)) (passes part [] s unspent over)

-- so the last part is over
pub reads_end : {p : List Part} {A : Relation} {s s' : State} (part : Part) → move part s'.ahead ≡ expecting.Passes → ReadsTo p (part ∷ []) A s s' → ReadsTo p [] A s s'
reads_end {A = A} {s' = s'} part over one = reads_as (λ a c h. subst (λ (x : Cursor). A a x) h.2 h.1) (reads_then one (passes part [] s' one.spent over))

-- it was taken by the first part
pub takes : {parts : List Part} {s s' : State} (part : Part) (others : List Part) (z : Token) → s.ahead ≡ z → move part z ≡ Takes parts → nat_le (open_at parts) MOST_DEPTH ≡ true
    → is_end z ≡ false → Advanced s s'
    → ReadsTo (part ∷ others) (parts ++ others) (Read z) s s'
takes {parts} {s} {s'} part others z is goes opens unended one = record {
  moves = one.moves;
  spent = one.spent;
  holds = λ h. one.holds;
  text = between_as s.seen.left s'.seen.left _ _
      (λ x y h. ((cursor_of s' y, sym is, h, refl), follows_parts part parts others (cursor_of s x) (cursor_of s' y) (ap (move part) is ∙ goes) opens (ap is_end is ∙ unended) h)) one.text;
}

leaves_unread : (f : ReadFault) (s : State) → s.lexer.held ≡ None → s.ahead ≢ token.Abort → LeavesReader f s
leaves_unread (fault.Syntax k) s none no_abort = λ is. absurd (no_abort is)
leaves_unread fault.Truncated s none no_abort = none
leaves_unread fault.Depth s none no_abort = none
leaves_unread fault.Bytes s none no_abort = none
leaves_unread fault.Read s none no_abort = none
leaves_unread fault.Memory s none no_abort = tt

-- and there is no token behind it
pub takes_last : {parts : List Part} {f : ReadFault} {s s' : State} (part : Part) (others : List Part) (z : Token) → s.ahead ≡ z → move part z ≡ Takes parts
    → nat_le (open_at parts) MOST_DEPTH ≡ true → is_end z ≡ false → Unadvanced f s s' → FailsAt f (part ∷ others) s s'
takes_last {parts} {f} {s} {s'} part others z is goes opens unended one = record {
  moves = one.moves;
  leaves = λ h. leaves_unread f s' one.held (λ e. taken_no_abort part parts z goes opens (sym is ∙ sym one.stays ∙ e));
  text = between_as s.seen.left s'.seen.left _ _
      (λ x y h. inr (unread_behind f part parts others (cursor_of s x) (cursor_of s' y) (ap (move part) is ∙ goes) opens (ap is_end is ∙ unended) one.held one.stays h)) one.text;
}

unheld : (held : Option ℕ) (z : Token) → is_some held ≡ not (closes_itself z) → closes_itself z ≡ true → held ≡ None
unheld None z h c = refl
unheld (Some b) z h c = absurd (let no : true ≡ false = h ∙ ap not c in cc)

-- it cannot stand there
pub refuses : (p : List Part) (f : ReadFault) (s : State) → s.lexer.spent ≡ false → f ≡ fault.Syntax s.lexer.offset
    → ((most : ℕ) (others : List Part) → parts_behind most (p ++ others) s.ahead ≡ None) → FailsAt f p s s
refuses p f s unspent same refused =
    subst (λ (g : ReadFault). FailsAt g p s s) (sym same)
    (record {
      moves = moves_nowhere s.lexer s.seen;
      leaves = λ h is. (unheld s.lexer.held s.ahead h (ap closes_itself is), unspent);
      text = between_same s.seen.left _ (λ x. inl (record { target = p; goes = goes_nowhere p (cursor_of s x); refused = refused }, refl));
    })

pub token_refused : (part : Part) (others : List Part) (f : ReadFault) (s : State) → s.lexer.spent ≡ false → f ≡ fault.Syntax s.lexer.offset → move part s.ahead ≡ expecting.Refuses
    → FailsAt f (part ∷ others) s s
token_refused part others f s unspent same is = refuses (part ∷ others) f s unspent same (λ most more. refuses_behind most part (others ++ more) s.ahead is)

-- it opens one more than may be open
pub too_deep : {parts : List Part} (part : Part) (others : List Part) (z : Token) (s : State) → s.ahead ≡ z → closes_itself z ≡ true → move part z ≡ Takes parts
    → nat_le (open_at parts) MOST_DEPTH ≡ false → MOST_DEPTH ≤ open_at parts → nat_le (open_at parts) (open_at parts) ≡ true
    → FailsAt fault.Depth (part ∷ others) s s
too_deep {parts} part others z s is closes goes over far same = record {
  moves = moves_nowhere s.lexer s.seen;
  leaves = λ h. unheld s.lexer.held s.ahead h (ap closes_itself is ∙ closes);
  text = between_same s.seen.left _ (λ x. inl (record {
    target = part ∷ others;
    goes = goes_nowhere (part ∷ others) (cursor_of s x);
    refused = λ more. ap (λ (m : TokenUse). moved MOST_DEPTH m (parts_behind MOST_DEPTH (others ++ more) s.ahead) (others ++ more)) (ap (move part) is ∙ goes)
        ∙ ap (λ (b : Bool). if b then Some (parts ++ (others ++ more)) else None) over;
    most = open_at parts;
    more = far;
    left = parts ++ others;
    taken = λ more. takes_behind (open_at parts) part parts (others ++ more) s.ahead (ap (move part) is ∙ goes) same
        ∙ ap (λ (ps : List Part). Some ps) (sym (append_assoc parts others more));
  }));
}

-- memory was wanting behind what was read
pub no_memory : {p q : List Part} {A : Relation} {s s' : State} → ReadsTo p q A s s' → FailsAt fault.Memory p s s'
no_memory {p} {q} {A} {s} {s'} one = record {
  moves = one.moves;
  leaves = λ h. tt;
  text = between_as s.seen.left s'.seen.left _ _ (λ x y h. inl (q, h.1)) one.text;
}

-- a fault that a `?` hands on
pub handed_on : {T : Type 0} {p : List Part} {f : ReadFault} {s s' : State} (r : List Part) (Q : T → Relation) (result : Result T ReadFault) → IsErrAnd result (λ y. y ≡ f) → FailsAt f p s s'
    → ReadsParts p r Q result s s'
handed_on r Q (Ok x) h one = absurd h
handed_on {p = p} {s = s} {s' = s'} r Q (Err y) h one = subst (λ (e : ReadFault). FailsAt e p s s') (sym h) one

-- a part of one token, and whatever is answered of the token behind it
pub token_read : (part : Part) (z : Token) (Q : Unit {0} → Relation) (result : Result (Unit {0}) ReadFault) (s s' : State) → s.ahead ≡ z → move part z ≡ Takes [] → is_end z ≡ false
    → ((v : Unit {0}) (a b : Cursor) → Read z a b → Q v a b) → AdvancesReader result s s' → ReadsParts (part ∷ []) [] Q result s s'
token_read part z Q (Ok v) s s' is goes unended f one = reads_as (f v) (takes part [] z is goes refl unended one)
token_read part z Q (Err e) s s' is goes unended f one = takes_last part [] z is goes refl unended one
