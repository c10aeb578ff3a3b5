-- How readings of parts are put together, one behind the other.
use Rattle.std.proofs.Common.{◌≡◌, ℕ, Bool, true, false, if◌then◌else◌, List, [], ◌∷◌, ◌++◌, map, Option, Some, None, refl, sym, ap, subst, ◌∙◌}
use Rattle.std.proofs.lemmas.List.{append_assoc, append-nil, map-append}
use Rattle.std.specs.Prelude.{nat_le}
use Rattle.aut_base.specs.declared.limit.TheConstants.{MOST_DEPTH}
use Rattle.hoa_lexer.specs.declared.token.Token.{Token}
use Rattle.hoa_parser.proofs.grammar.AfterLabels.{after_append}
use Rattle.hoa_parser.specs.inner.Expecting.{Part, TokenUse, Takes, Passes, Refuses, parts_after, after_some, parts_behind, move, moved, open_at}
use Rattle.hoa_parser.specs.inner.Parsing.{Follows, PassesTokens, LeadsToParts, Passed, Cursor, Unended, is_end}

pub passed_then : (a m b : Cursor) (u v : List Token) → Passed a u m → Passed m v b → Passed a (u ++ v) b
passed_then a m b [] v p q = subst (λ (x : Cursor). Passed x v b) (sym p) q
passed_then a m b (t ∷ u) v p q = (p.0, p.1, p.2, passed_then p.0 m b u v p.3 q)

pub subst_tokens : (a b : Cursor) {ts us : List Token} → ts ≡ us → Passed a ts b → Passed a us b
subst_tokens a b same passed = subst (λ (vs : List Token). Passed a vs b) same passed

pub unended_then : (u v : List Token) → Unended u → Unended v → Unended (u ++ v)
unended_then [] v p q = q
unended_then (t ∷ u) v p q = (p.0, unended_then u v p.1 q)

-- a part that takes a token leaves what it leaves, whatever is behind it
pub takes_behind : (most : ℕ) (part : Part) (parts others : List Part) (z : Token) → move part z ≡ Takes parts → nat_le (open_at parts) most ≡ true
    → parts_behind most (part ∷ others) z ≡ Some (parts ++ others)
takes_behind most part parts others z takes opens =
    ap (λ (m : TokenUse). moved most m (parts_behind most others z) others) takes ∙ ap (λ (b : Bool). if b then Some (parts ++ others) else None) opens

pub passes_behind : (most : ℕ) (part : Part) (others : List Part) (z : Token) → move part z ≡ Passes → parts_behind most (part ∷ others) z ≡ parts_behind most others z
passes_behind most part others z passes = ap (λ (m : TokenUse). moved most m (parts_behind most others z) others) passes

pub refuses_behind : (most : ℕ) (part : Part) (others : List Part) (z : Token) → move part z ≡ Refuses → parts_behind most (part ∷ others) z ≡ None
refuses_behind most part others z refuses = ap (λ (m : TokenUse). moved most m (parts_behind most others z) others) refuses

pub leads_one : (part : Part) (parts others : List Part) (z : Token) → move part z ≡ Takes parts → nat_le (open_at parts) MOST_DEPTH ≡ true → LeadsToParts (part ∷ others) (z ∷ []) (parts ++ others)
leads_one part parts others z takes opens = record {
  runs = λ more.
      ap (λ (o : Option (List Part)). after_some MOST_DEPTH o []) (takes_behind MOST_DEPTH part parts (others ++ more) z takes opens)
      ∙ ap (λ (ps : List Part). Some ps) (sym (append_assoc parts others more));
}

-- no token was passed, and the one at hand is to these parts what it is to those
pub goes_over : (p q : List Part) (a : Cursor) → ((most : ℕ) (others : List Part) → parts_behind most (p ++ others) a.token ≡ parts_behind most (q ++ others) a.token) → PassesTokens p a q a
goes_over p q a over = record { tokens = []; passed = refl; left = p; leads = record { runs = λ others. refl }; unended = tt; over = over }

pub goes_nowhere : (parts : List Part) (a : Cursor) → PassesTokens parts a parts a
goes_nowhere parts a = goes_over parts parts a (λ most others. refl)

-- the token at hand is taken by the first part
pub follows_parts : (part : Part) (parts others : List Part) (a b : Cursor) → move part a.token ≡ Takes parts → nat_le (open_at parts) MOST_DEPTH ≡ true → is_end a.token ≡ false → Follows a b
    → PassesTokens (part ∷ others) a (parts ++ others) b
follows_parts part parts others a b takes opens unended follows = record {
  tokens = a.token ∷ [];
  passed = (b, refl, follows, refl);
  left = parts ++ others;
  leads = leads_one part parts others a.token takes opens;
  unended = (unended, tt);
  over = λ most more. refl;
}

leads_then : (p q left last : List Part) (u v : List Token) (z : Token) → LeadsToParts p u left
    → ((others : List Part) → parts_behind MOST_DEPTH (left ++ others) z ≡ parts_behind MOST_DEPTH (q ++ others) z)
    → LeadsToParts q (z ∷ v) last → LeadsToParts p (u ++ z ∷ v) last
leads_then p q left last u v z first over second = record {
  runs = λ others.
      after_append MOST_DEPTH (Some (p ++ others)) u (z ∷ v)
      ∙ ap (λ (o : Option (List Part)). after_some MOST_DEPTH o (z ∷ v)) (first.runs others)
      ∙ ap (λ (o : Option (List Part)). after_some MOST_DEPTH o v) (over others)
      ∙ second.runs others;
}

-- where no token was passed, all is still expected
same_left : (q last : List Part) → LeadsToParts q [] last → last ≡ q
same_left q last leads =
    let all : Some (q ++ []) ≡ Some (last ++ []) = leads.runs [] in
    let parts : q ++ [] ≡ last ++ [] = cc in
    sym (append-nil last) ∙ sym parts ∙ append-nil q

leads_nil : (p left : List Part) (u : List Token) → LeadsToParts p u left → LeadsToParts p (u ++ []) left
leads_nil p left u leads = subst (λ (us : List Token). LeadsToParts p us left) (sym (append-nil u)) leads

goes_both : (p q r : List Part) (a m b : Cursor) (one : PassesTokens p a q m) (v : List Token) (left : List Part) → Passed m v b → LeadsToParts q v left → Unended v
    → ((most : ℕ) (others : List Part) → parts_behind most (left ++ others) b.token ≡ parts_behind most (r ++ others) b.token) → PassesTokens p a r b
goes_both p q r a m b one [] left passed leads unended over = record {
  tokens = one.tokens ++ [];
  passed = passed_then a m b one.tokens [] one.passed passed;
  left = one.left;
  leads = leads_nil p one.left one.tokens one.leads;
  unended = unended_then one.tokens [] one.unended unended;
  over = λ most others.
      subst (λ (x : Cursor). parts_behind most (one.left ++ others) x.token ≡ parts_behind most (q ++ others) x.token) passed (one.over most others)
      ∙ sym (ap (λ (ps : List Part). parts_behind most (ps ++ others) b.token) (same_left q left leads))
      ∙ over most others;
}
goes_both p q r a m b one (z ∷ v) left passed leads unended over = record {
  tokens = one.tokens ++ z ∷ v;
  passed = passed_then a m b one.tokens (z ∷ v) one.passed passed;
  left = left;
  leads = leads_then p q one.left left one.tokens v z one.leads
      (λ others. subst (λ (t : Token). parts_behind MOST_DEPTH (one.left ++ others) t ≡ parts_behind MOST_DEPTH (q ++ others) t) (sym passed.1) (one.over MOST_DEPTH others)) leads;
  unended = unended_then one.tokens (z ∷ v) one.unended unended;
  over = over;
}

-- one reading and the next
pub goes_then : (p q r : List Part) (a m b : Cursor) → PassesTokens p a q m → PassesTokens q m r b → PassesTokens p a r b
goes_then p q r a m b one two = goes_both p q r a m b one two.tokens two.left two.passed two.leads two.unended two.over

-- behind the parts more may be expected
pub leads_more : (p left more : List Part) (u : List Token) → LeadsToParts p u left → LeadsToParts (p ++ more) u (left ++ more)
leads_more p left more u leads = record {
  runs = λ others.
      ap (λ (ps : List Part). parts_after MOST_DEPTH ps u) (append_assoc p more others)
      ∙ leads.runs (more ++ others)
      ∙ ap (λ (ps : List Part). Some ps) (sym (append_assoc left more others));
}

pub goes_more : (p q more : List Part) (a b : Cursor) → PassesTokens p a q b → PassesTokens (p ++ more) a (q ++ more) b
goes_more p q more a b one = record {
  tokens = one.tokens;
  passed = one.passed;
  left = one.left ++ more;
  leads = leads_more p one.left more one.tokens one.leads;
  unended = one.unended;
  over = λ most others.
      ap (λ (ps : List Part). parts_behind most ps b.token) (append_assoc one.left more others)
      ∙ one.over most (more ++ others)
      ∙ sym (ap (λ (ps : List Part). parts_behind most ps b.token) (append_assoc q more others));
}

-- no tokens
pub spelled_none : {X : Type 0} (f : X → Token) (xs : List X) (a : Cursor) → xs ≡ [] → Passed a (map f xs) a
spelled_none {X = X} f xs a none = subst (λ (ys : List X). Passed a (map f ys) a) (sym none) refl

-- one more token behind them
pub spelled_more : {X : Type 0} (f : X → Token) (xs : List X) (x : X) (ys : List X) (a b c : Cursor) → ys ≡ xs ++ x ∷ [] → Passed a (map f xs) b → Passed b (f x ∷ []) c → Passed a (map f ys) c
spelled_more f xs x ys a b c is p q =
    subst (λ (ts : List Token). Passed a ts c) (sym (map-append f xs (x ∷ [])) ∙ sym (ap (map f) is)) (passed_then a b c (map f xs) (f x ∷ []) p q)
