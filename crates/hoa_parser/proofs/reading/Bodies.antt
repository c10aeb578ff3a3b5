-- What was read of the states of a body and their edges.
use Rattle.std.proofs.Common.{◌≡◌, ◌≢◌, ℕ, List, [], ◌∷◌, ◌++◌, Option, Some, refl, ap, subst, ◌∙◌}
use Rattle.std.proofs.lemmas.List.{append_assoc}
use Rattle.std.specs.Prelude.{codes, flat_map, map}
use Rattle.hoa_lexer.specs.declared.token.Token.{Token}
use Rattle.hoa_lexer.specs.declared.token.Token.TheVariants as token
use Rattle.hoa_parser.proofs.grammar.HeaderNames.{IsNamed, named}
use Rattle.hoa_parser.proofs.reading.FrontParts.{passed_then}
use Rattle.hoa_parser.proofs.reading.Steps.{Read}
use Rattle.hoa_parser.specs.Ends.{WrittenEnds}
use Rattle.hoa_parser.specs.inner.Expecting as part
use Rattle.hoa_parser.specs.inner.Expecting.{Part, parts_behind, if_header, move}
use Rattle.hoa_parser.specs.Grammar.{optional_text}
use Rattle.hoa_parser.specs.Headers.{header_of}
use Rattle.hoa_parser.specs.Phrases.{conj_tokens, edge_tokens, label_tokens, optional_label, optional_marks}
use Rattle.hoa_parser.specs.inner.Parsing.{Cursor, Passed}
use Rattle.hoa_parser.specs.inner.RuleReads.{AreEdgesWritten, AreMarks, HeadPhrase, IsConj, IsEdge, IsHead, IsLabel, IsMaybeLabel, IsIntToken}
use Rattle.hoa_parser.specs.inner.RuleReads.{IsOptionalText, IsState, WrittenHead, head_meaning, head_tokens}
use Rattle.hoa_parser.specs.Raw.{RawTree, WrittenEdge, WrittenState, written_edge}
use Rattle.hoa_parser.specs.declared.header.Header.{Header}
use Rattle.hoa_parser.specs.declared.header.Header.TheVariants as header
use Rattle.hoa_parser.specs.declared.parse.body.StateHead.{StateHead}
use Rattle.hoa_parser.specs.declared.raw.RawEdge.{RawEdge}
use Rattle.hoa_parser.specs.declared.raw.RawLabel.{RawLabel}

-- a label in brackets
pub bracketed : (l : RawLabel) (a b c d : Cursor) → Read token.LeftBracket a b → IsLabel 0 l b c → Read token.RightBracket c d → IsMaybeLabel (Some l) a d
bracketed l a b c d opens is closes = record {
  phrase = Some is.phrase;
  within = is.within;
  passed = passed_then a b d (token.LeftBracket ∷ []) _ opens (passed_then b c d (label_tokens is.phrase) (token.RightBracket ∷ []) is.passed closes);
  means = ap (λ t. Some t) is.means;
}

-- What begins an edge is what a label in brackets or a number is, before the rest of the edge.
abbrev pub edge_parts : List Part
edge_parts = part.MaybeLabel ∷ part.Number ∷ part.MoreNumbers ∷ part.MaybeMarks ∷ part.Edges ∷ []

pub edge_front : (most : ℕ) (others : List Part) (z : Token) → move part.Edges z ≢ part.Passes → parts_behind most (part.Edges ∷ others) z ≡ parts_behind most (edge_parts ++ others) z
edge_front most others token.LeftBracket begins = refl
edge_front most others (token.Int n) begins = refl
edge_front most others z begins = absurd (begins refl)

edge_means : (l k : Option RawTree) (to to' marks marks' : List ℕ) → l ≡ k → to ≡ to' → marks ≡ marks'
    → (let e : WrittenEdge = record { label = l; to = to; marks = marks } in e) ≡ record { label = k; to = to'; marks = marks' }
edge_means l k to to' marks marks' same_label same_to same_marks = cc

pub edge_is : (l : Option RawLabel) (to marks : List ℕ) (ends : WrittenEnds) (a b c d : Cursor) → IsMaybeLabel l a b → IsConj to b c → AreMarks marks c d
    → ends ≡ record { to = to; marks = marks } → IsEdge (record { label = l; ends = ends }) a d
edge_is l to marks ends a b c d labelled goes marked is = record {
  phrase = record { label = labelled.phrase; to = goes.phrase; marks = marked.phrase };
  within = labelled.within;
  passed = passed_then a b d (optional_label labelled.phrase) _ labelled.passed (passed_then b c d (conj_tokens goes.phrase) (optional_marks marked.phrase) goes.passed marked.passed);
  means = edge_means _ _ _ _ _ _ labelled.means (ap (λ (e : WrittenEnds). e.to) is ∙ goes.means) (ap (λ (e : WrittenEnds). e.marks) is ∙ marked.means);
}

-- the name that opens a state, and what is expected behind it
abbrev pub state_name : Token
state_name = token.HeaderName (codes "State")

abbrev pub state_rest : List Part
state_rest = part.MaybeLabel ∷ part.Number ∷ part.MaybeQuoted ∷ part.MaybeMarks ∷ part.Edges ∷ part.States ∷ []

pub is_state_name : (z : Token) (name : List ℕ) → z ≡ token.HeaderName name → header_of name ≡ header.State → z ≡ state_name
is_state_name z name is kind = is ∙ ap token.HeaderName (subst (IsNamed name) kind (named name))

head_means : (l k : Option RawTree) (n : ℕ) (marks marks' : List ℕ) → l ≡ k → marks ≡ marks'
    → (let e : WrittenHead = record { label = l; number = n; marks = marks } in e) ≡ record { label = k; number = n; marks = marks' }
head_means l k n marks marks' same_label same_marks = cc

-- a state up to its edges
pub head_is : (l : Option RawLabel) (n : ℕ) (marks : List ℕ) (a b c d e f : Cursor) → Read state_name a b → IsMaybeLabel l b c → IsIntToken n c d → IsOptionalText tt d e → AreMarks marks e f
    → IsHead (record { label = l; number = n; marks = marks }) a f
head_is l n marks a b c d e f opens labelled numbered texts marked = record {
  phrase = record { label = labelled.phrase; number = n; name = texts.0; marks = marked.phrase };
  within = labelled.within;
  passed = passed_then a b f (state_name ∷ []) _ opens (passed_then b c f (optional_label labelled.phrase) _ labelled.passed (passed_then c d f (token.Int n ∷ []) _ numbered
      (passed_then d e f (optional_text texts.0) (optional_marks marked.phrase) texts.1 marked.passed)));
  means = head_means _ _ n _ _ labelled.means marked.means;
}

-- and with them
abbrev with_edges : WrittenHead → List WrittenEdge → WrittenState
with_edges h edges = record { label = h.label; number = h.number; marks = h.marks; edges = edges }

state_grouped : (h : HeadPhrase) (edges : List Token)
    → head_tokens h ++ edges ≡ state_name ∷ (optional_label h.label ++ (token.Int h.number ∷ (optional_text h.name ++ (optional_marks h.marks ++ edges))))
state_grouped h edges = ap (λ ts. state_name ∷ ts)
    (append_assoc (optional_label h.label) (token.Int h.number ∷ (optional_text h.name ++ optional_marks h.marks)) edges
    ∙ ap (λ ts. optional_label h.label ++ (token.Int h.number ∷ ts)) (append_assoc (optional_text h.name) (optional_marks h.marks) edges))

pub state_is : (head : StateHead) (edges : List RawEdge) (a b c : Cursor) → IsHead head a b → AreEdgesWritten edges b c
    → IsState (record { label = head.label; number = head.number; marks = head.marks; edges = edges }) a c
state_is head edges a b c begins goes =
    let h : HeadPhrase = begins.phrase in
    let ts : List Token = flat_map edge_tokens goes.phrase in
    record {
      phrase = record { label = h.label; number = h.number; name = h.name; marks = h.marks; edges = goes.phrase };
      within = (begins.within, goes.within);
      passed = subst (λ (us : List Token). Passed a us c) (state_grouped h ts) (passed_then a b c (head_tokens h) ts begins.passed goes.passed);
      means = ap (λ w. with_edges w (map written_edge edges)) begins.means ∙ ap (with_edges (head_meaning h)) goes.means;
    }

no_state : (kind : Header) (parts : List Part) → kind ≢ header.State → if_header header.State kind parts ≡ part.Refuses
no_state header.State parts other = absurd (other refl)
no_state _ parts other = refl

-- another header's name opens no state
pub no_state_name : (name : List ℕ) (kind : Header) → kind ≡ header_of name → kind ≢ header.State → move part.States (token.HeaderName name) ≡ part.Refuses
no_state_name name kind is other = no_state (header_of name) state_rest (λ e. other (is ∙ e))
