-- What is expected after the tokens of a state, and after those of an automaton: nothing.
use Rattle.std.proofs.Common.{◌≡◌, ℕ, List, [], ◌∷◌, ◌++◌, map, Option, Some, None, refl, sym, ap, ◌∙◌, subst, arith}
use Rattle.std.specs.Prelude.{codes, flat_map}
use Rattle.std.specs.List.{AllByRecursion}
use Rattle.std.proofs.lemmas.List.{append_assoc}
use Rattle.hoa_lexer.specs.declared.token.Token.{Token}
use Rattle.hoa_lexer.specs.declared.token.Token.TheVariants as token
use Rattle.hoa_parser.specs.inner.Expecting.{Part, Whole, Number, MoreNumbers, MaybeQuoted, Word, ClosingBracket, Items, States, MaybeLabel}
use Rattle.hoa_parser.specs.inner.Expecting.{MaybeMarks, Marks, Edges, parts_after, conj_parts, expected_label}
use Rattle.hoa_parser.specs.Grammar.{SpellsAutomaton, and_number, optional_text}
use Rattle.hoa_parser.specs.Phrases.{Label, label_tokens, conj_tokens, optional_label, OptionalWithin, optional_marks}
use Rattle.hoa_parser.specs.Phrases.{item_tokens, EdgePhrase, edge_tokens, StatePhrase, StateWithin, state_tokens, body_tokens, AutomatonPhrase}
use Rattle.hoa_parser.specs.Phrases.{AutomatonWithin, automaton_tokens}
use Rattle.hoa_parser.specs.Raw.{Written}
use Rattle.hoa_parser.proofs.grammar.HavePhrases.{have_phrases}
use Rattle.hoa_parser.proofs.grammar.AfterLabels.{Leaves, taken, left, regrouped, label_follows}
use Rattle.hoa_parser.proofs.grammar.AfterItems.{conj_follows, text_follows, items_follow}

marks_go_on : (most : ℕ) (marks : List ℕ) (others : List Part) (c : List Token) → parts_after most (Marks ∷ others) ((map token.Int marks ++ token.RightBrace ∷ []) ++ c) ≡ parts_after most others c
marks_go_on most [] others c = taken most Marks [] others token.RightBrace c refl (omega arith)
marks_go_on most (n ∷ ns) others c =
    taken most Marks (Marks ∷ []) others (token.Int n) ((map token.Int ns ++ token.RightBrace ∷ []) ++ c) refl (omega arith) ∙ marks_go_on most ns others c

marks_follow : (most : ℕ) (marks : Option (List ℕ)) (others : List Part) (c : List Token) → Leaves MaybeMarks c
    → parts_after most (MaybeMarks ∷ others) (optional_marks marks ++ c) ≡ parts_after most others c
marks_follow most None others c e = left most MaybeMarks others c e
marks_follow most (Some marks) others c e =
    taken most MaybeMarks (Marks ∷ []) others token.LeftBrace ((map token.Int marks ++ token.RightBrace ∷ []) ++ c) refl (omega arith)
    ∙ marks_go_on most marks others c

-- a label in brackets, behind the opening one
guard_follows : (most : ℕ) (l : Label) (others : List Part) (c : List Token) → OptionalWithin most (Some l)
    → parts_after most (expected_label 0 ++ ClosingBracket ∷ others) ((label_tokens l ++ token.RightBracket ∷ []) ++ c) ≡ parts_after most others c
guard_follows most l others c w =
    regrouped most (expected_label 0 ++ ClosingBracket ∷ others) (label_tokens l) (token.RightBracket ∷ []) c
    ∙ label_follows most 0 l (ClosingBracket ∷ others) (token.RightBracket ∷ c) (omega arith) w refl refl
    ∙ taken most ClosingBracket [] others token.RightBracket c refl (omega arith)

label_of_state_follows : (most : ℕ) (l : Option Label) (others : List Part) (c : List Token) → OptionalWithin most l → Leaves MaybeLabel c
    → parts_after most (MaybeLabel ∷ others) (optional_label l ++ c) ≡ parts_after most others c
label_of_state_follows most None others c w e = left most MaybeLabel others c e
label_of_state_follows most (Some l) others c w e =
    taken most MaybeLabel (expected_label 0 ++ ClosingBracket ∷ []) others token.LeftBracket ((label_tokens l ++ token.RightBracket ∷ []) ++ c) refl (omega arith)
    ∙ guard_follows most l others c w

-- what stands behind an edge: the next one, the next state, or the end
abbrev IsBehindEdge : List Token → Type 0
IsBehindEdge (token.LeftBracket ∷ c) = Unit {0}
IsBehindEdge (token.Int n ∷ c) = Unit {0}
IsBehindEdge (token.HeaderName name ∷ c) = Unit {0}
IsBehindEdge (token.End ∷ c) = Unit {0}
IsBehindEdge _ = ⊥

-- what stands behind a state: the next one, or the end
abbrev IsBehindState : List Token → Type 0
IsBehindState (token.HeaderName name ∷ c) = Unit {0}
IsBehindState (token.End ∷ c) = Unit {0}
IsBehindState _ = ⊥

record LeavesEdge (c : List Token) : Type 0 where
  numbers : Leaves MoreNumbers c
  text : Leaves MaybeQuoted c
  marks : Leaves MaybeMarks c

leaves_edge : (c : List Token) → IsBehindEdge c → LeavesEdge c
leaves_edge (token.LeftBracket ∷ c) b = record { numbers = refl; text = refl; marks = refl }
leaves_edge (token.Int n ∷ c) b = record { numbers = refl; text = refl; marks = refl }
leaves_edge (token.HeaderName name ∷ c) b = record { numbers = refl; text = refl; marks = refl }
leaves_edge (token.End ∷ c) b = record { numbers = refl; text = refl; marks = refl }
leaves_edge _ b = absurd b

leaves_edges : (c : List Token) → IsBehindState c → Leaves Edges c
leaves_edges (token.HeaderName name ∷ c) b = refl
leaves_edges (token.End ∷ c) b = refl
leaves_edges _ b = absurd b

state_ends_edge : (c : List Token) → IsBehindState c → IsBehindEdge c
state_ends_edge (token.HeaderName name ∷ c) b = tt
state_ends_edge (token.End ∷ c) b = tt
state_ends_edge _ b = absurd b

-- "{" or what stands behind an edge
marks_leave_numbers : (marks : Option (List ℕ)) (c : List Token) → LeavesEdge c → Leaves MoreNumbers (optional_marks marks ++ c)
marks_leave_numbers None c e = e.numbers
marks_leave_numbers (Some marks) c e = refl

marks_leave_text : (marks : Option (List ℕ)) (c : List Token) → LeavesEdge c → Leaves MaybeQuoted (optional_marks marks ++ c)
marks_leave_text None c e = e.text
marks_leave_text (Some marks) c e = refl

-- the target of an edge, and its marks
goal_follows : (most : ℕ) (e : EdgePhrase) (c : List Token) (others : List Part) → LeavesEdge c
    → parts_after most (conj_parts ++ MaybeMarks ∷ others) ((conj_tokens e.to ++ optional_marks e.marks) ++ c) ≡ parts_after most others c
goal_follows most e c others b =
    regrouped most (conj_parts ++ MaybeMarks ∷ others) (conj_tokens e.to) (optional_marks e.marks) c
    ∙ conj_follows most e.to (MaybeMarks ∷ others) (optional_marks e.marks ++ c) (marks_leave_numbers e.marks c b)
    ∙ marks_follow most e.marks others c b.marks

edge_follows_by : (most : ℕ) (l : Option Label) (e : EdgePhrase) (others : List Part) (c : List Token) → OptionalWithin most l → LeavesEdge c
    → parts_after most (Edges ∷ others) ((optional_label l ++ (conj_tokens e.to ++ optional_marks e.marks)) ++ c) ≡ parts_after most (Edges ∷ others) c
edge_follows_by most None e others c w b =
    taken most Edges (MoreNumbers ∷ MaybeMarks ∷ Edges ∷ []) others (token.Int e.to.first) ((flat_map and_number e.to.others ++ optional_marks e.marks) ++ c) refl (omega arith)
    ∙ sym (taken most Number [] (MoreNumbers ∷ MaybeMarks ∷ Edges ∷ others) (token.Int e.to.first) ((flat_map and_number e.to.others ++ optional_marks e.marks) ++ c) refl (omega arith))
    ∙ goal_follows most e c (Edges ∷ others) b
edge_follows_by most (Some l) e others c w b =
    let goal : List Token = conj_tokens e.to ++ optional_marks e.marks in
    let parts : List Part = conj_parts ++ MaybeMarks ∷ Edges ∷ others in
    regrouped most (Edges ∷ others) (optional_label (Some l)) goal c
    ∙ taken most Edges (expected_label 0 ++ ClosingBracket ∷ (conj_parts ++ MaybeMarks ∷ Edges ∷ [])) others token.LeftBracket ((label_tokens l ++ token.RightBracket ∷ []) ++ (goal ++ c)) refl
    (omega arith)
    ∙ guard_follows most l parts (goal ++ c) w
    ∙ goal_follows most e c (Edges ∷ others) b

behind_edge_by : (l : Option Label) (e : EdgePhrase) (c : List Token) → IsBehindEdge ((optional_label l ++ (conj_tokens e.to ++ optional_marks e.marks)) ++ c)
behind_edge_by None e c = tt
behind_edge_by (Some l) e c = tt

behind_edges : (edges : List EdgePhrase) (c : List Token) → IsBehindEdge c → IsBehindEdge (flat_map edge_tokens edges ++ c)
behind_edges [] c b = b
behind_edges (e ∷ es) c b = subst IsBehindEdge (sym (append_assoc (edge_tokens e) (flat_map edge_tokens es) c)) (behind_edge_by e.label e (flat_map edge_tokens es ++ c))

edges_follow : (most : ℕ) (edges : List EdgePhrase) (others : List Part) (c : List Token) → AllByRecursion (λ (e : EdgePhrase). OptionalWithin most e.label) edges → IsBehindState c
    → parts_after most (Edges ∷ others) (flat_map edge_tokens edges ++ c) ≡ parts_after most others c
edges_follow most [] others c w b = left most Edges others c (leaves_edges c b)
edges_follow most (e ∷ es) others c w b =
    regrouped most (Edges ∷ others) (edge_tokens e) (flat_map edge_tokens es) c
    ∙ edge_follows_by most e.label e others (flat_map edge_tokens es ++ c) w.0 (leaves_edge (flat_map edge_tokens es ++ c) (behind_edges es c (state_ends_edge c b)))
    ∙ edges_follow most es others c w.1 b

state_follows : (most : ℕ) (s : StatePhrase) (c : List Token) → StateWithin most s → IsBehindState c → parts_after most (States ∷ []) (state_tokens s ++ c) ≡ parts_after most (States ∷ []) c
state_follows most s c w b =
    let edges : List Token = flat_map edge_tokens s.edges in
    let marks : List Token = optional_marks s.marks ++ edges in
    let name : List Token = optional_text s.name ++ marks in
    let behind_marks : LeavesEdge (edges ++ c) = leaves_edge (edges ++ c) (behind_edges s.edges c (state_ends_edge c b)) in
    taken most States (MaybeLabel ∷ Number ∷ MaybeQuoted ∷ MaybeMarks ∷ Edges ∷ States ∷ []) [] (token.HeaderName (codes "State"))
    ((optional_label s.label ++ (token.Int s.number ∷ name)) ++ c) refl (omega arith)
    ∙ regrouped most (MaybeLabel ∷ Number ∷ MaybeQuoted ∷ MaybeMarks ∷ Edges ∷ States ∷ []) (optional_label s.label) (token.Int s.number ∷ name) c
    ∙ label_of_state_follows most s.label (Number ∷ MaybeQuoted ∷ MaybeMarks ∷ Edges ∷ States ∷ []) (token.Int s.number ∷ (name ++ c)) w.0 refl
    ∙ taken most Number [] (MaybeQuoted ∷ MaybeMarks ∷ Edges ∷ States ∷ []) (token.Int s.number) (name ++ c) refl (omega arith)
    ∙ regrouped most (MaybeQuoted ∷ MaybeMarks ∷ Edges ∷ States ∷ []) (optional_text s.name) marks c
    ∙ ap (λ (w : List Token). parts_after most (MaybeQuoted ∷ MaybeMarks ∷ Edges ∷ States ∷ []) (optional_text s.name ++ w)) (append_assoc (optional_marks s.marks) edges c)
    ∙ text_follows most s.name (MaybeMarks ∷ Edges ∷ States ∷ []) (optional_marks s.marks ++ (edges ++ c)) (marks_leave_text s.marks (edges ++ c) behind_marks)
    ∙ marks_follow most s.marks (Edges ∷ States ∷ []) (edges ++ c) behind_marks.marks
    ∙ edges_follow most s.edges (States ∷ []) c w.1 b

behind_states : (states : List StatePhrase) → IsBehindState (body_tokens states)
behind_states [] = tt
behind_states (s ∷ ss) = tt

states_follow : (most : ℕ) (states : List StatePhrase) → AllByRecursion (StateWithin most) states → parts_after most (States ∷ []) (body_tokens states) ≡ Some []
states_follow most [] w = taken most States [] [] token.End [] refl (omega arith)
states_follow most (s ∷ ss) w =
    regrouped most (States ∷ []) (state_tokens s) (flat_map state_tokens ss) (token.End ∷ [])
    ∙ state_follows most s (body_tokens ss) w.0 (behind_states ss)
    ∙ states_follow most ss w.1

-- After a whole automaton nothing is expected.
pub follows : (most : ℕ) (p : AutomatonPhrase) → AutomatonWithin most p → parts_after most (Whole ∷ []) (automaton_tokens p) ≡ Some []
follows most p w =
    let body : List Token = token.Body ∷ body_tokens p.states in
    taken most Whole (Word ∷ Items ∷ []) [] (token.HeaderName (codes "HOA")) (token.Identifier p.version ∷ (flat_map item_tokens p.items ++ body)) refl (omega arith)
    ∙ taken most Word [] (Items ∷ []) (token.Identifier p.version) (flat_map item_tokens p.items ++ body) refl (omega arith)
    ∙ items_follow most p.items body w.0 tt
    ∙ taken most Items (States ∷ []) [] token.Body (body_tokens p.states) refl (omega arith)
    ∙ states_follow most p.states w.1

pub spelled_follows : (most : ℕ) (ts : List Token) (w : Written) → SpellsAutomaton most ts w → parts_after most (Whole ∷ []) ts ≡ Some []
spelled_follows most ts w s =
    let p = have_phrases most ts w s in
    ap (parts_after most (Whole ∷ [])) p.spelled ∙ follows most p.phrase p.within
