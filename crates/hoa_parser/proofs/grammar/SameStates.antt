-- The tokens of a state of the body have one meaning and one end.
use Rattle.std.proofs.Common.{◌≡◌, ℕ, Bool, true, false, List, [], ◌∷◌, ◌++◌, map, flat_map, Option, Some, None, refl, sym, ◌∙◌, ap}
use Rattle.std.specs.Prelude.{codes}
use Rattle.std.specs.Option.{option_map}
use Rattle.std.proofs.lemmas.List.{append_assoc, map-id}
use Rattle.hoa_lexer.specs.declared.token.Token.{Token}
use Rattle.hoa_lexer.specs.declared.token.Token.TheVariants.{HeaderName, Int, Amp, LeftBrace, RightBrace, LeftBracket, RightBracket, End}
use Rattle.hoa_parser.specs.Phrases.{EdgePhrase, Label, StatePhrase, conj_tokens, edge_meaning, edge_tokens, label_meaning, label_tokens}
use Rattle.hoa_parser.specs.Grammar.{optional_text}
use Rattle.hoa_parser.specs.Phrases.{marks_meaning, optional_label, optional_marks, state_meaning, state_tokens}
use Rattle.hoa_parser.proofs.grammar.ClearPhrases.{Begins, IsClear, either, flat_clear, flat_stops, map_clear, stops_less}
use Rattle.hoa_parser.proofs.grammar.SameItems.{is_text, same_conj, same_text_end}
use Rattle.hoa_parser.proofs.grammar.SameLabels.{same_label}
use Rattle.hoa_parser.proofs.grammar.Stops.{Stops, IsSame, is_amp, stops_not, first_token, later_tokens}
use Rattle.aut_base.proofs.lists.Lists.{append_three}

abbrev is_bracket : Token → Bool
is_bracket LeftBracket = true
is_bracket _ = false

abbrev is_brace : Token → Bool
is_brace LeftBrace = true
is_brace _ = false

abbrev is_number : Token → Bool
is_number (Int n) = true
is_number _ = false

-- what begins an edge, and what goes on with one
abbrev opens_edge : Token → Bool
opens_edge LeftBracket = true
opens_edge (Int n) = true
opens_edge _ = false

abbrev is_in_edge : Token → Bool
is_in_edge Amp = true
is_in_edge LeftBrace = true
is_in_edge _ = false

-- what can stand behind the first token of a state
abbrev pub is_in_state : Token → Bool
is_in_state (HeaderName name) = false
is_in_state End = false
is_in_state _ = true

edge_amp : (t : Token) → is_in_edge t ≡ false → is_amp t ≡ false
edge_amp Amp e = e
edge_amp _ e = refl

edge_brace : (t : Token) → is_in_edge t ≡ false → is_brace t ≡ false
edge_brace LeftBrace e = e
edge_brace _ e = refl

opens_no : (p : Token → Bool) → p LeftBracket ≡ false → ((n : ℕ) → p (Int n) ≡ false) → (t : Token) → opens_edge t ≡ true → p t ≡ false
opens_no p bracket number LeftBracket e = bracket
opens_no p bracket number (Int n) e = number n
opens_no p bracket number _ e = cc

-- behind a state stands the next one, the end, or nothing
ends_state : (p : Token → Bool) (c : List Token) → ((name : List ℕ) → p (HeaderName name) ≡ false) → p End ≡ false → Stops is_in_state c → Stops p c
ends_state p [] header end s = tt
ends_state p (HeaderName name ∷ c) header end s = header name
ends_state p (End ∷ c) header end s = end
ends_state p (_ ∷ c) header end s = cc

-- ("[" label "]")?
same_optional_label : (p q : Option Label) (c d : List Token) → optional_label p ++ c ≡ optional_label q ++ d → Stops is_bracket c → Stops is_bracket d
    → IsSame (option_map label_meaning p) (option_map label_meaning q) c d
same_optional_label None None c d e s k = record { value = refl; rest = e }
same_optional_label None (Some m) c d e s k = absurd (stops_not is_bracket c LeftBracket _ s refl e)
same_optional_label (Some l) None c d e s k = absurd (stops_not is_bracket d LeftBracket _ k refl (sym e))
same_optional_label (Some l) (Some m) c d e s k =
    let a = same_label l m (RightBracket ∷ c) (RightBracket ∷ d)
    (sym (append_assoc (label_tokens l) (RightBracket ∷ []) c) ∙ later_tokens LeftBracket LeftBracket _ _ e ∙ append_assoc (label_tokens m) (RightBracket ∷ []) d) refl refl in
    record { value = ap Some a.value; rest = later_tokens RightBracket RightBracket c d a.rest }

-- sig
same_marks : (p q : Option (List ℕ)) (c d : List Token) → optional_marks p ++ c ≡ optional_marks q ++ d → Stops is_brace c → Stops is_brace d → IsSame (marks_meaning p) (marks_meaning q) c d
same_marks None None c d e s k = record { value = refl; rest = e }
same_marks None (Some ns) c d e s k = absurd (stops_not is_brace c LeftBrace _ s refl e)
same_marks (Some ms) None c d e s k = absurd (stops_not is_brace d LeftBrace _ k refl (sym e))
same_marks (Some ms) (Some ns) c d e s k =
    let a = map_clear Int (λ x. x) is_number (λ x y w. cc) (λ x. refl) ms ns (RightBrace ∷ c) (RightBrace ∷ d)
    (sym (append_assoc (map Int ms) (RightBrace ∷ []) c) ∙ later_tokens LeftBrace LeftBrace _ _ e ∙ append_assoc (map Int ns) (RightBrace ∷ []) d) refl refl in
    record { value = sym (map-id ms) ∙ a.value ∙ map-id ns; rest = later_tokens RightBrace RightBrace c d a.rest }

-- behind the states that an edge leads to
marks_stop : (p : Option (List ℕ)) (c : List Token) → Stops is_amp c → Stops is_amp (optional_marks p ++ c)
marks_stop None c s = s
marks_stop (Some ms) c s = refl

same_edge : IsClear edge_tokens edge_meaning is_in_edge
same_edge p q c d e s k =
    let l = same_optional_label p.label q.label (conj_tokens p.to ++ (optional_marks p.marks ++ c)) (conj_tokens q.to ++ (optional_marks q.marks ++ d))
    (sym (append_three (optional_label p.label) (conj_tokens p.to) (optional_marks p.marks) c) ∙ e ∙ append_three (optional_label q.label) (conj_tokens q.to) (optional_marks q.marks) d) refl refl in
    let t = same_conj p.to q.to (optional_marks p.marks ++ c) (optional_marks q.marks ++ d) l.rest
    (marks_stop p.marks c (stops_less is_in_edge is_amp c edge_amp s)) (marks_stop q.marks d (stops_less is_in_edge is_amp d edge_amp k)) in
    let m = same_marks p.marks q.marks c d t.rest (stops_less is_in_edge is_brace c edge_brace s) (stops_less is_in_edge is_brace d edge_brace k) in
    let labels = l.value in
    let tos = t.value in
    let marks = m.value in
    record { value = cc; rest = m.rest }

edge_begins_at : (l : Option Label) (ts : List Token) (n : ℕ) → Begins opens_edge (optional_label l ++ (Int n ∷ ts))
edge_begins_at None ts n = refl
edge_begins_at (Some l) ts n = refl

edge_begins : (e : EdgePhrase) → Begins opens_edge (edge_tokens e)
edge_begins e = edge_begins_at e.label _ e.to.first

same_edges : IsClear (flat_map edge_tokens) (map edge_meaning) (either opens_edge is_in_edge)
same_edges = flat_clear edge_tokens edge_meaning is_in_edge opens_edge same_edge edge_begins (opens_no is_in_edge refl (λ n. refl))

edges_no_text : (p : Option (List ℕ)) (es : List EdgePhrase) (c : List Token) → Stops is_in_state c → Stops is_text (optional_marks p ++ (flat_map edge_tokens es ++ c))
edges_no_text None es c s = flat_stops edge_tokens is_text opens_edge edge_begins (opens_no is_text refl (λ n. refl)) es c (ends_state is_text c (λ n. refl) refl s)
edges_no_text (Some ms) es c s = refl

edges_no_brace : (es : List EdgePhrase) (c : List Token) → Stops is_in_state c → Stops is_brace (flat_map edge_tokens es ++ c)
edges_no_brace es c s = flat_stops edge_tokens is_brace opens_edge edge_begins (opens_no is_brace refl (λ n. refl)) es c (ends_state is_brace c (λ n. refl) refl s)

-- the tokens of a state, and what follows them, bracketed anew
state_regroup : (s : StatePhrase) (c : List Token) → state_tokens s ++ c
    ≡ HeaderName (codes "State") ∷ (optional_label s.label ++ (Int s.number ∷ (optional_text s.name ++ (optional_marks s.marks ++ (flat_map edge_tokens s.edges ++ c)))))
state_regroup s c =
    ap (λ w. HeaderName (codes "State") ∷ w) (append_assoc (optional_label s.label) _ c)
    ∙ ap (λ w. HeaderName (codes "State") ∷ (optional_label s.label ++ (Int s.number ∷ w))) (append_three (optional_text s.name) (optional_marks s.marks) (flat_map edge_tokens s.edges) c)

pub same_state : IsClear state_tokens state_meaning is_in_state
same_state p q c d e s k =
    let l = same_optional_label p.label q.label _ _ (later_tokens _ _ _ _ (sym (state_regroup p c) ∙ e ∙ state_regroup q d)) refl refl in
    let number = first_token (Int p.number) (Int q.number) _ _ l.rest in
    let named = same_text_end p.name q.name _ _ (later_tokens (Int p.number) (Int q.number) _ _ l.rest) (edges_no_text p.marks p.edges c s) (edges_no_text q.marks q.edges d k) in
    let m = same_marks p.marks q.marks (flat_map edge_tokens p.edges ++ c) (flat_map edge_tokens q.edges ++ d) named (edges_no_brace p.edges c s) (edges_no_brace q.edges d k) in
    let b = same_edges p.edges q.edges c d m.rest (ends_state (either opens_edge is_in_edge) c (λ n. refl) refl s)
    (ends_state (either opens_edge is_in_edge) d (λ n. refl) refl k) in
    let labels = l.value in
    let marks = m.value in
    let edges = b.value in
    record { value = cc; rest = b.rest }
