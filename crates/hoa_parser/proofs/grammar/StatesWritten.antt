-- A token that is taken, and what is written behind it, write the part that takes it: edges, states and the whole.
use Rattle.std.proofs.Common.{◌≡◌, ℕ, List, [], ◌∷◌, ◌++◌, Option, Some, None, refl, sym, ap, ◌∙◌}
use Rattle.std.specs.Prelude.{codes, flat_map}
use Rattle.std.specs.List.{AllByRecursion}
use Rattle.std.proofs.lemmas.List.{append_assoc}
use Rattle.hoa_lexer.specs.declared.token.Token.{Token}
use Rattle.hoa_lexer.specs.declared.token.Token.TheVariants as token
use Rattle.hoa_parser.specs.inner.Expecting as part
use Rattle.hoa_parser.specs.inner.Expecting.{Part, Takes, if_header, move}
use Rattle.hoa_parser.specs.Grammar.{and_number, optional_text}
use Rattle.hoa_parser.specs.Phrases.{Label, label, label_tokens, optional_label, OptionalWithin, optional_marks}
use Rattle.hoa_parser.specs.Phrases.{EdgePhrase, edge_tokens, StatePhrase, state_tokens, body_tokens}
use Rattle.hoa_parser.specs.declared.header.Header.{Header}
use Rattle.hoa_parser.specs.declared.header.Header.TheVariants as header
use Rattle.hoa_parser.proofs.grammar.PartsWritten.{Derives, rest_tokens}
use Rattle.hoa_parser.proofs.grammar.LabelsWritten.{Writes, joined, single, has_label}
use Rattle.hoa_parser.proofs.grammar.HeaderNames.{IsNamed, named}
use Rattle.hoa_parser.specs.Headers.{header_of}

-- what is written behind the number that an edge leads to
record HasGoal (most : ℕ) (u : List Token) : Type 0 where
  numbers : List ℕ
  marks : Option (List ℕ)
  edges : List EdgePhrase
  within : AllByRecursion (λ (e : EdgePhrase). OptionalWithin most e.label) edges
  split : u ≡ (flat_map and_number numbers ++ optional_marks marks) ++ flat_map edge_tokens edges

has_goal : (most : ℕ) (u : List Token) → Derives most (part.MoreNumbers ∷ part.MaybeMarks ∷ part.Edges ∷ []) u → HasGoal most u
has_goal most u (v, w, ns, (v', w', ms, d, e'), e) =
    let es = single most part.Edges w' d in
    let numbers : List Token = flat_map and_number ns.phrase in
    let marks : List Token = optional_marks ms.phrase in
    let edges : List Token = flat_map edge_tokens es.phrase in
    record {
      numbers = ns.phrase;
      marks = ms.phrase;
      edges = es.phrase;
      within = es.keeps;
      split = joined u v w numbers (marks ++ edges) e ns.spelled (joined w v' w' marks edges e' ms.spelled es.spelled) ∙ sym (append_assoc numbers marks edges);
    }

pub edges_write : (most : ℕ) (z : Token) → Writes most part.Edges z (move part.Edges z)
edges_write most token.LeftBracket = λ l u d.
    let x = has_label most 0 (part.ClosingBracket ∷ part.Number ∷ part.MoreNumbers ∷ part.MaybeMarks ∷ part.Edges ∷ []) u d in
    let inner : Label = label x.first x.others x.more in
    let (v, w, close, (v', w', n, more, e'), e) = x.behind in
    let g = has_goal most w' more in
    let goal : List Token = flat_map and_number g.numbers ++ optional_marks g.marks in
    let edges : List Token = flat_map edge_tokens g.edges in
    let number : Token = token.Int n.phrase in
    let rest : x.rest ≡ token.RightBracket ∷ number ∷ (goal ++ edges) =
    joined x.rest v w (token.RightBracket ∷ []) (number ∷ (goal ++ edges)) e close
    (joined w v' w' (number ∷ []) (goal ++ edges) e' n.spelled g.split) in
    record {
      phrase = record { label = Some inner; to = record { first = n.phrase; others = g.numbers }; marks = g.marks } ∷ g.edges;
      keeps = (x.within, g.within);
      spelled = ap (λ y. token.LeftBracket ∷ y) (
          x.split ∙ ap (λ y. label_tokens inner ++ y) rest
          ∙ sym (append_assoc (label_tokens inner) (token.RightBracket ∷ []) (number ∷ (goal ++ edges)))
          ∙ sym (append_assoc (label_tokens inner ++ token.RightBracket ∷ []) (number ∷ goal) edges));
    }
edges_write most (token.Int n) = λ l u d.
    let g = has_goal most u d in
    record {
      phrase = record { label = None; to = record { first = n; others = g.numbers }; marks = g.marks } ∷ g.edges;
      keeps = (tt, g.within);
      spelled = ap (λ w. token.Int n ∷ w) g.split;
    }
edges_write most _ = record { phrase = []; keeps = tt; spelled = refl }

regroup_state : (guard name marks edges states : List Token) (number : Token) → guard ++ number ∷ (name ++ (marks ++ (edges ++ states))) ≡ (guard ++ number ∷ (name ++ (marks ++ edges))) ++ states
regroup_state guard name marks edges states number =
    ap (λ w. guard ++ number ∷ (name ++ w)) (sym (append_assoc marks edges states))
    ∙ ap (λ w. guard ++ number ∷ w) (sym (append_assoc name (marks ++ edges) states))
    ∙ sym (append_assoc guard (number ∷ (name ++ (marks ++ edges))) states)

state_writes : (most : ℕ) (name : List ℕ) (h : Header) → IsNamed name h
    → Writes most part.States (token.HeaderName name) (if_header header.State h (part.MaybeLabel ∷ part.Number ∷ part.MaybeQuoted ∷ part.MaybeMarks ∷ part.Edges ∷ part.States ∷ []))
state_writes most name header.State is = λ l u (v, w, guard, (v₁, w₁, n, (v₂, w₂, text, (v₃, w₃, marks, (v₄, w₄, edges, d, e₄), e₃), e₂), e₁), e).
    let others = single most part.States w₄ d in
    let state : StatePhrase = record { label = guard.phrase; number = n.phrase; name = text.phrase; marks = marks.phrase; edges = edges.phrase } in
    let number : Token = token.Int n.phrase in
    let guard_tokens : List Token = optional_label guard.phrase in
    let text_tokens : List Token = optional_text text.phrase in
    let marks_tokens : List Token = optional_marks marks.phrase in
    let edges_tokens : List Token = flat_map edge_tokens edges.phrase in
    let states_tokens : List Token = body_tokens others.phrase in
    let from_marks : w₂ ≡ marks_tokens ++ (edges_tokens ++ states_tokens) =
    joined w₂ v₃ w₃ marks_tokens (edges_tokens ++ states_tokens) e₃ marks.spelled (joined w₃ v₄ w₄ edges_tokens states_tokens e₄ edges.spelled others.spelled) in
    let from_number : w ≡ number ∷ (text_tokens ++ (marks_tokens ++ (edges_tokens ++ states_tokens))) =
    joined w v₁ w₁ (number ∷ []) (text_tokens ++ (marks_tokens ++ (edges_tokens ++ states_tokens))) e₁ n.spelled
    (joined w₁ v₂ w₂ text_tokens (marks_tokens ++ (edges_tokens ++ states_tokens)) e₂ text.spelled from_marks) in
    record {
      phrase = state ∷ others.phrase;
      keeps = ((guard.keeps, edges.keeps), others.keeps);
      spelled =
          ap (λ x. token.HeaderName x ∷ u) is
          ∙ ap (λ x. token.HeaderName (codes "State") ∷ x) (
          joined u v w guard_tokens (number ∷ (text_tokens ++ (marks_tokens ++ (edges_tokens ++ states_tokens)))) e guard.spelled from_number
          ∙ regroup_state guard_tokens text_tokens marks_tokens edges_tokens states_tokens number)
          ∙ sym (append_assoc (state_tokens state) (flat_map state_tokens others.phrase) (token.End ∷ []));
    }
state_writes most name _ is = tt

pub states_write : (most : ℕ) (z : Token) → Writes most part.States z (move part.States z)
states_write most (token.HeaderName name) = state_writes most name (header_of name) (named name)
states_write most token.End = λ l u d. record { phrase = []; keeps = tt; spelled = ap (λ w. token.End ∷ w) d }
states_write most _ = tt

opening_writes : (most : ℕ) (name : List ℕ) (h : Header) → IsNamed name h → Writes most part.Whole (token.HeaderName name) (if_header header.Opening h (part.Word ∷ part.Items ∷ []))
opening_writes most name header.Opening is = λ l u (v, w, version, d, e).
    let rest = single most part.Items w d in
    record {
      phrase = record { version = version.phrase; items = rest.phrase.0; states = rest.phrase.1 };
      keeps = rest.keeps;
      spelled =
          ap (λ x. token.HeaderName x ∷ u) is
          ∙ ap (λ x. token.HeaderName (codes "HOA") ∷ x) (joined u v w (token.Identifier version.phrase ∷ []) (rest_tokens rest.phrase) e version.spelled rest.spelled);
    }
opening_writes most name _ is = tt

pub whole_writes : (most : ℕ) (z : Token) → Writes most part.Whole z (move part.Whole z)
whole_writes most (token.HeaderName name) = opening_writes most name (header_of name) (named name)
whole_writes most _ = tt
