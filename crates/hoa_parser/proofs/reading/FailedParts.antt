-- How a part that could not be read ends the reading of more.
use Rattle.std.proofs.Common.{◌≡◌, ◌≢◌, ℕ, true, false, List, [], ◌∷◌, ◌++◌, Some, None, sym, ap, ◌∙◌, inl, inr}
use Rattle.std.proofs.lemmas.List.{append_assoc}
use Rattle.std.specs.Prelude.{nat_le}
use Rattle.aut_base.specs.declared.limit.TheConstants.{MOST_DEPTH}
use Rattle.hoa_lexer.specs.declared.token.Token.{Token}
use Rattle.hoa_lexer.specs.declared.token.Token.TheVariants as token
use Rattle.hoa_parser.proofs.grammar.NoAbort.{abort}
use Rattle.hoa_parser.proofs.reading.FrontParts.{goes_more, goes_nowhere, goes_then, takes_behind}
use Rattle.hoa_parser.specs.inner.Expecting.{Part, Takes, parts_behind, move, open_at}
use Rattle.hoa_parser.specs.inner.Parsing.{Cursor, FailsParts, PassesTokens, HaltsHere, RefusesToken, TooDeep, Unlexed, Unread, is_end}
use Rattle.hoa_parser.specs.declared.fault.ReadFault.{ReadFault}
use Rattle.hoa_parser.specs.declared.fault.ReadFault.TheVariants as fault

refuses_then : (p q : List Part) (a m b : Cursor) → PassesTokens p a q m → RefusesToken q m b → RefusesToken p a b
refuses_then p q a m b one two = record { target = two.target; goes = goes_then p q two.target a m b one two.goes; refused = two.refused }

deep_then : (p q : List Part) (a m b : Cursor) → PassesTokens p a q m → TooDeep q m b → TooDeep p a b
deep_then p q a m b one two = record {
  target = two.target;
  goes = goes_then p q two.target a m b one two.goes;
  refused = two.refused;
  most = two.most;
  more = two.more;
  left = two.left;
  taken = two.taken;
}

halts_then : (f : ReadFault) (p q : List Part) (a m b : Cursor) → PassesTokens p a q m → HaltsHere f q m b → HaltsHere f p a b
halts_then (fault.Syntax k) p q a m b one h = (refuses_then p q a m b one h.0, h.1)
halts_then fault.Depth p q a m b one h = deep_then p q a m b one h
halts_then fault.Memory p q a m b one h = (h.0, goes_then p q h.0 a m b one h.1)
halts_then fault.Truncated p q a m b one h = absurd h
halts_then fault.Bytes p q a m b one h = absurd h
halts_then fault.Read p q a m b one h = absurd h

unread_then : (f : ReadFault) (p q : List Part) (a m last : Cursor) → PassesTokens p a q m → Unread f q m last → Unread f p a last
unread_then f p q a m last one two = record {
  target = two.target;
  b = two.b;
  goes = goes_then p q two.target a m two.b one two.goes;
  left = two.left;
  taken = two.taken;
  unended = two.unended;
  bytes = two.bytes;
  held = two.held;
  no_abort = two.no_abort;
}

-- what was read before does not change why the rest could not be read
pub fails_then : (f : ReadFault) (p q : List Part) (a m last : Cursor) → PassesTokens p a q m → FailsParts f q m last → FailsParts f p a last
fails_then f p q a m last one (inl h) = inl (halts_then f p q a m last one h)
fails_then f p q a m last one (inr h) = inr (unread_then f p q a m last one h)

behind_more : (most : ℕ) (p more others : List Part) (z : Token) → parts_behind most ((p ++ more) ++ others) z ≡ parts_behind most (p ++ (more ++ others)) z
behind_more most p more others z = ap (λ (ps : List Part). parts_behind most ps z) (append_assoc p more others)

some_more : (left more others : List Part) → Some (left ++ (more ++ others)) ≡ Some ((left ++ more) ++ others)
some_more left more others = ap (λ (ps : List Part). Some ps) (sym (append_assoc left more others))

refuses_more : (p more : List Part) (a b : Cursor) → RefusesToken p a b → RefusesToken (p ++ more) a b
refuses_more p more a b one = record {
  target = one.target ++ more;
  goes = goes_more p one.target more a b one.goes;
  refused = λ most others. behind_more most one.target more others b.token ∙ one.refused most (more ++ others);
}

deep_more : (p more : List Part) (a b : Cursor) → TooDeep p a b → TooDeep (p ++ more) a b
deep_more p more a b one = record {
  target = one.target ++ more;
  goes = goes_more p one.target more a b one.goes;
  refused = λ others. behind_more MOST_DEPTH one.target more others b.token ∙ one.refused (more ++ others);
  most = one.most;
  more = one.more;
  left = one.left ++ more;
  taken = λ others. behind_more one.most one.target more others b.token ∙ one.taken (more ++ others) ∙ some_more one.left more others;
}

halts_more : (f : ReadFault) (p more : List Part) (a b : Cursor) → HaltsHere f p a b → HaltsHere f (p ++ more) a b
halts_more (fault.Syntax k) p more a b h = (refuses_more p more a b h.0, h.1)
halts_more fault.Depth p more a b h = deep_more p more a b h
halts_more fault.Memory p more a b h = (h.0 ++ more, goes_more p h.0 more a b h.1)
halts_more fault.Truncated p more a b h = absurd h
halts_more fault.Bytes p more a b h = absurd h
halts_more fault.Read p more a b h = absurd h

unread_more : (f : ReadFault) (p more : List Part) (a last : Cursor) → Unread f p a last → Unread f (p ++ more) a last
unread_more f p more a last one = record {
  target = one.target ++ more;
  b = one.b;
  goes = goes_more p one.target more a one.b one.goes;
  left = one.left ++ more;
  taken = λ others. behind_more MOST_DEPTH one.target more others one.b.token ∙ one.taken (more ++ others) ∙ some_more one.left more others;
  unended = one.unended;
  bytes = one.bytes;
  held = one.held;
  no_abort = one.no_abort;
}

-- nor does what is expected behind it
pub fails_more : (f : ReadFault) (p more : List Part) (a last : Cursor) → FailsParts f p a last → FailsParts f (p ++ more) a last
fails_more f p more a last (inl h) = inl (halts_more f p more a last h)
fails_more f p more a last (inr h) = inr (unread_more f p more a last h)

-- what a part takes is not `--ABORT--`
pub taken_no_abort : (part : Part) (parts : List Part) (z : Token) → move part z ≡ Takes parts → nat_le (open_at parts) MOST_DEPTH ≡ true → z ≢ token.Abort
taken_no_abort part parts z takes opens is =
    let some : parts_behind MOST_DEPTH (part ∷ []) token.Abort ≡ Some (parts ++ []) = takes_behind MOST_DEPTH part parts [] token.Abort (ap (move part) (sym is) ∙ takes) opens in
    let none : parts_behind MOST_DEPTH (part ∷ []) token.Abort ≡ None = abort MOST_DEPTH (part ∷ []) in
    cc

-- there is no token behind one that the first part takes
pub unread_behind : (f : ReadFault) (part : Part) (parts others : List Part) (a last : Cursor) → move part a.token ≡ Takes parts → nat_le (open_at parts) MOST_DEPTH ≡ true
    → is_end a.token ≡ false → last.held ≡ None → last.token ≡ a.token → Unlexed f a.used a.rest last.rest
    → Unread f (part ∷ others) a last
unread_behind f part parts others a last takes opens unended held stays bytes = record {
  target = part ∷ others;
  b = a;
  goes = goes_nowhere (part ∷ others) a;
  left = parts ++ others;
  taken = λ more. takes_behind MOST_DEPTH part parts (others ++ more) a.token takes opens ∙ some_more parts others more;
  unended = unended;
  bytes = bytes;
  held = held;
  no_abort = λ is. taken_no_abort part parts a.token takes opens (sym stays ∙ is);
}
