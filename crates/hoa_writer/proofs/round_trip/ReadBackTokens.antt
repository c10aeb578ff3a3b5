-- The tokens of a canonical text, and the automaton that they spell.
use Rattle.std.proofs.Common.{◌≡◌, ℕ, zero, suc, ◌^◌, ◌<◌, ◌==◌, List, [], ◌∷◌, ◌++◌, map, filter, flat_map, length, get_or, Option, Some, None, All, refl, sym, subst, ◌∙◌, ap, arith}
use Rattle.std.specs.Fmt.{decimal}
use Rattle.std.specs.Prelude.{codes}
use Rattle.std.specs.List.{range_with_len}
use Rattle.std.proofs.lemmas.List.{append_assoc, append-nil, map-append}
use Rattle.std.proofs.lemmas.List.Concat.{flat_map-append}
use Rattle.std.proofs.lemmas.List.Elements.{All-filter}
use Rattle.std.proofs.lemmas.List.FromFn.{length-range_with_len, get_or-range_with_len}
use Rattle.aut_base.specs.Automaton.{LabelledEdge, Automaton, IsEdgeOf, IsWellFormed}
use Rattle.hoa_lexer.specs.Laws.{HasTokens}
use Rattle.hoa_lexer.specs.declared.token.Token.{Token}
use Rattle.hoa_lexer.specs.declared.token.Token.TheVariants.{HeaderName, Identifier, Str, Int, LeftBracket, RightBracket, LeftBrace, RightBrace, Body, End}
use Rattle.hoa_parser.specs.Grammar.{SpellsAutomaton}
use Rattle.hoa_parser.specs.Phrases.{AutomatonPhrase, EdgePhrase, ItemPhrase, StatePhrase, automaton_meaning, automaton_tokens, edge_meaning}
use Rattle.hoa_parser.specs.Phrases.{edge_tokens, item_meaning, item_tokens, label_tokens, marks_meaning, optional_marks, state_meaning, state_tokens}
use Rattle.hoa_parser.specs.Phrases.ItemPhrase.{states_item, start_item, names_item, acceptance_item, name_item, properties_item}
use Rattle.hoa_parser.proofs.grammar.OneRaw.{one_raw}
use Rattle.hoa_parser.proofs.grammar.PhrasesSpell.{phrases_spell}
use Rattle.hoa_parser.specs.Raw as raw
use Rattle.hoa_parser.specs.Raw.{Written}
use Rattle.aut_base.specs.LabelText.{joined}
use Rattle.aut_base.specs.Text.{line}
use Rattle.hoa_writer.specs.inner.Lines.{name_line}
use Rattle.hoa_writer.specs.CanonicalText.{quoted, marks_text, edge_line, state_lines, header_lines, canonical_text, formula_text}
use Rattle.hoa_writer.specs.CanonicalWritten.{canonical_edge, canonical_state, name_items, canonical_items, canonical_written}
use Rattle.hoa_writer.proofs.spelling.ConditionsSpelled.{text_condition, text_condition_means, condition_spelled}
use Rattle.hoa_writer.proofs.spelling.LabelsSpelled.{text_label, text_label_means, label_spelled}
use Rattle.hoa_writer.proofs.spelling.PhraseDepths.{automaton_opens, automaton_within}
use Rattle.hoa_writer.proofs.spelling.SpelledOut.{Free, Held, Stops, free_free, free_held, held_free, held_held, as_held, free_one, free_blank}
use Rattle.hoa_writer.proofs.spelling.SpelledOut.{free_none, free_header, free_each, free_is_read, held_identifier}
use Rattle.hoa_writer.proofs.spelling.WordsSpelled.{number, string, gap}

-- the phrase of an automaton

abbrev text_marks : List ℕ → Option (List ℕ)
text_marks [] = None
text_marks (m ∷ ms) = Some (m ∷ ms)

abbrev text_edge : ℕ → LabelledEdge → EdgePhrase
text_edge n e = record { label = Some (text_label n e.label); to = record { first = e.to; others = [] }; marks = text_marks e.marks }

abbrev text_state : Automaton → ℕ → StatePhrase
text_state a q = record {
  label = None;
  number = q;
  name = None;
  marks = None;
  edges = map (text_edge (length a.names)) (filter (λ e. e.from == q) a.edges);
}

abbrev text_start : ℕ → ItemPhrase
text_start s = start_item (record { first = s; others = [] })

abbrev name_phrases : Option (List ℕ) → List ItemPhrase
name_phrases None = []
name_phrases (Some name) = name_item name ∷ []

abbrev text_properties : List (List ℕ)
text_properties = codes "trans-labels" ∷ codes "explicit-labels" ∷ codes "trans-acc" ∷ []

abbrev text_items : Automaton → Option (List ℕ) → List ItemPhrase
text_items a name =
    name_phrases name ++ (states_item a.states ∷ (map text_start a.starts
    ++ (names_item (length a.names) a.names ∷ acceptance_item a.sets (text_condition a.formula) ∷ properties_item text_properties ∷ [])))

abbrev text_automaton : Automaton → Option (List ℕ) → AutomatonPhrase
text_automaton a name = record {
  version = codes "v1";
  items = text_items a name;
  states = map (text_state a) (range_with_len 0 a.states);
}

-- what it means

all_mean : {A P M : Type 0} (phrase : A → P) (meaning : P → M) (written : A → M) → ((x : A) → meaning (phrase x) ≡ written x) → (xs : List A) → map meaning (map phrase xs) ≡ map written xs
all_mean phrase meaning written one [] = refl
all_mean phrase meaning written one (x ∷ xs) =
    let first = one x in
    let others = all_mean phrase meaning written one xs in
    cc

marks_mean : (ms : List ℕ) → marks_meaning (text_marks ms) ≡ ms
marks_mean [] = refl
marks_mean (m ∷ ms) = refl

edge_means : (n : ℕ) (e : LabelledEdge) → edge_meaning (text_edge n e) ≡ canonical_edge n e
edge_means n e =
    let label = text_label_means n e.label in
    let marks = marks_mean e.marks in
    cc

state_means : (a : Automaton) (q : ℕ) → state_meaning (text_state a q) ≡ canonical_state a q
state_means a q =
    let edges = all_mean (text_edge (length a.names)) edge_meaning (canonical_edge (length a.names)) (edge_means (length a.names)) (filter (λ e. e.from == q) a.edges) in
    cc

names_mean : (name : Option (List ℕ)) → map item_meaning (name_phrases name) ≡ name_items name
names_mean None = refl
names_mean (Some name) = refl

items_mean : (a : Automaton) (name : Option (List ℕ)) → map item_meaning (text_items a name) ≡ canonical_items a name
items_mean a name =
    let last : List ItemPhrase = names_item (length a.names) a.names ∷ acceptance_item a.sets (text_condition a.formula) ∷ properties_item text_properties ∷ [] in
    let others : List ItemPhrase = states_item a.states ∷ (map text_start a.starts ++ last) in
    let named = names_mean name in
    let starts = all_mean text_start item_meaning (λ s. raw.Start (s ∷ [])) (λ s. refl) a.starts in
    let condition = text_condition_means a.formula in
    let whole = map-append item_meaning (name_phrases name) others in
    let tail = map-append item_meaning (map text_start a.starts) last in
    cc

automaton_means : (a : Automaton) (name : Option (List ℕ)) → automaton_meaning (text_automaton a name) ≡ canonical_written a name
automaton_means a name =
    let items = items_mean a name in
    let states = all_mean (text_state a) state_meaning (canonical_state a) (state_means a) (range_with_len 0 a.states) in
    cc

-- lines

in_line : {ts : List Token} {text : List ℕ} → Held ts text → Free (ts ++ []) (line text)
in_line h = held_free h (λ rest. (refl, refl)) (free_blank 10 refl)

-- marks

ints_spelled : (m : ℕ) (ms : List ℕ) → m < 2 ^ 32 → All (λ k. k < 2 ^ 32) ms → Held (map Int (m ∷ ms)) (joined (codes " ") (map decimal (m ∷ ms)))
ints_spelled m [] h k = number m h
ints_spelled m (o ∷ os) h k = held_held (number m h) (λ rest s. (refl, refl)) (free_held gap (ints_spelled o os (k zero o (omega arith)) (λ i d near. k (suc i) d (omega arith))))

marks_spelled : (ms : List ℕ) → All (λ k. k < 2 ^ 32) ms → Held (optional_marks (text_marks ms)) (marks_text ms)
marks_spelled [] h = as_held free_none
marks_spelled (m ∷ ms) h =
    as_held (free_free (free_free gap (free_one LeftBrace (codes "{") refl (λ rest. tt)))
    (held_free (ints_spelled m ms (h zero m (omega arith)) (λ i d near. h (suc i) d (omega arith))) (λ rest. (refl, refl)) (free_one RightBrace (codes "}") refl (λ rest. tt))))

marks_stop : (ms : List ℕ) (rest : List ℕ) → Stops rest → Stops (marks_text ms ++ rest)
marks_stop [] rest s = s
marks_stop (m ∷ ms) rest s = (refl, refl)

-- edges

edge_spelled : (a : Automaton) (e : LabelledEdge) → a.states < 2 ^ 32 → a.sets < 2 ^ 32 → length a.names < 2 ^ 32 → IsEdgeOf a e
    → Free (edge_tokens (text_edge (length a.names) e)) (edge_line (length a.names) e)
edge_spelled a e few sets names h =
    let n = length a.names in
    let label = label_tokens (text_label n e.label) in
    let marks = optional_marks (text_marks e.marks) in
    let bracket = free_one LeftBracket (codes "[") refl (λ rest. tt) in
    let close = free_free (free_one RightBracket (codes "]") refl (λ rest. tt)) gap in
    let to = held_held (number e.to (omega (arith, h.to))) (marks_stop e.marks) (marks_spelled e.marks (λ i d near. omega (arith, h.marks i d near))) in
    let whole = in_line (free_held bracket (held_held (label_spelled n e.label (omega arith)) (λ rest s. (refl, refl)) (free_held close to))) in
    subst (λ (ts : List Token). Free ts (edge_line n e))
    (append-nil (LeftBracket ∷ (label ++ (RightBracket ∷ Int e.to ∷ marks))) ∙ ap (λ w. LeftBracket ∷ w) (sym (append_assoc label (RightBracket ∷ []) (Int e.to ∷ marks))))
    whole

-- states

state_spelled : (a : Automaton) (q : ℕ) → a.states < 2 ^ 32 → a.sets < 2 ^ 32 → length a.names < 2 ^ 32 → All (IsEdgeOf a) a.edges → q < 2 ^ 32 → Free (state_tokens (text_state a q)) (state_lines a q)
state_spelled a q few sets names h l =
    let edges = filter (λ e. e.from == q) a.edges in
    let own = All-filter (λ e. e.from == q) (IsEdgeOf a) a.edges h in
    free_free (in_line (free_held (free_free (free_header (codes "State") (refl, refl)) gap) (number q l)))
    (free_each (text_edge (length a.names)) edge_tokens (edge_line (length a.names)) edges (λ k d near. edge_spelled a (get_or edges k d) few sets names (own k d near)))

states_spelled : (a : Automaton) → a.states < 2 ^ 32 → a.sets < 2 ^ 32 → length a.names < 2 ^ 32 → All (IsEdgeOf a) a.edges
    → Free (flat_map state_tokens (map (text_state a) (range_with_len 0 a.states))) (flat_map (state_lines a) (range_with_len 0 a.states))
states_spelled a few sets names h =
    free_each (text_state a) state_tokens (state_lines a) (range_with_len 0 a.states)
    (λ k d near.
    let below : k < a.states = omega (arith, length-range_with_len 0 a.states) in
    state_spelled a (get_or (range_with_len 0 a.states) k d) few sets names h (omega (arith, get_or-range_with_len 0 a.states k d below)))

-- the header

name_spelled : (name : Option (List ℕ)) → Free (flat_map item_tokens (name_phrases name)) (name_line name)
name_spelled None = free_none
name_spelled (Some name) = free_free (free_free (free_free (free_header (codes "name") (refl, refl)) gap) (string name)) (free_blank 10 refl)

numbered : (name : List ℕ) (n : ℕ) → Free (HeaderName name ∷ []) (name ++ 58 ∷ []) → n < 2 ^ 32 → Free (HeaderName name ∷ Int n ∷ []) (line (((name ++ 58 ∷ []) ++ codes " ") ++ decimal n))
numbered name n h l = in_line (free_held (free_free h gap) (number n l))

starts_spelled : (starts : List ℕ) → All (λ s. s < 2 ^ 32) starts → Free (flat_map item_tokens (map text_start starts)) (flat_map (λ s. line (codes "Start: " ++ decimal s)) starts)
starts_spelled starts h =
    free_each text_start item_tokens (λ s. line (codes "Start: " ++ decimal s)) starts
    (λ k d near. numbered (codes "Start") (get_or starts k d) (free_header (codes "Start") (refl, refl)) (h k d near))

strings_spelled : (names : List (List ℕ)) → Free (map Str names) (flat_map (λ name. codes " " ++ quoted name) names)
strings_spelled [] = free_none
strings_spelled (name ∷ names) = free_free (free_free gap (string name)) (strings_spelled names)

strings_stop : (names : List (List ℕ)) (rest : List ℕ) → Stops rest → Stops (flat_map (λ name. codes " " ++ quoted name) names ++ rest)
strings_stop [] rest s = s
strings_stop (name ∷ names) rest s = (refl, refl)

ended : {ts : List Token} {text : List ℕ} → Free (ts ++ []) text → Free ts text
ended {ts} {text} f = subst (λ (us : List Token). Free us text) (append-nil ts) f

names_spelled : (names : List (List ℕ)) → length names < 2 ^ 32
    → Free (item_tokens (names_item (length names) names)) (line (codes "AP: " ++ (decimal (length names) ++ flat_map (λ name. codes " " ++ quoted name) names)))
names_spelled names l =
    ended (in_line (free_held (free_free (free_header (codes "AP") (refl, refl)) gap) (held_held (number (length names) l) (strings_stop names) (as_held (strings_spelled names)))))

acceptance_spelled : (a : Automaton) → a.sets < 2 ^ 32 → IsWellFormed a
    → Free (item_tokens (acceptance_item a.sets (text_condition a.formula))) (line (codes "Acceptance: " ++ (decimal a.sets ++ (codes " " ++ formula_text a.formula))))
acceptance_spelled a sets w =
    ended (in_line (free_held (free_free (free_header (codes "Acceptance") (refl, refl)) gap)
    (held_held (number a.sets sets) (λ rest s. (refl, refl)) (free_held gap (condition_spelled a.sets a.formula (omega arith) w.formula)))))

properties_spelled : Free (item_tokens (properties_item text_properties)) (line (codes "properties: trans-labels explicit-labels trans-acc"))
properties_spelled =
    in_line (free_held (free_free (free_header (codes "properties") (refl, refl)) gap)
    (held_held (held_identifier (codes "trans-labels") (refl, refl)) (λ rest s. (refl, refl))
    (free_held gap (held_held (held_identifier (codes "explicit-labels") (refl, refl)) (λ rest s. (refl, refl))
    (free_held gap (held_identifier (codes "trans-acc") (refl, refl)))))))

version_spelled : Free (HeaderName (codes "HOA") ∷ Identifier (codes "v1") ∷ []) (line (codes "HOA: v1"))
version_spelled = in_line (free_held (free_free (free_header (codes "HOA") (refl, refl)) gap) (held_identifier (codes "v1") (refl, refl)))

header_spelled : (a : Automaton) (name : Option (List ℕ)) → a.states < 2 ^ 32 → a.sets < 2 ^ 32 → length a.names < 2 ^ 32 → IsWellFormed a
    → Free (HeaderName (codes "HOA") ∷ Identifier (codes "v1") ∷ flat_map item_tokens (text_items a name)) (header_lines a name)
header_spelled a name few sets names w =
    let naming = names_item (length a.names) a.names in
    let accepting = acceptance_item a.sets (text_condition a.formula) in
    let last : List ItemPhrase = naming ∷ accepting ∷ properties_item text_properties ∷ [] in
    let others : List ItemPhrase = states_item a.states ∷ (map text_start a.starts ++ last) in
    let behind = free_free (names_spelled a.names names) (free_free (acceptance_spelled a sets w) properties_spelled) in
    let starts = free_free (starts_spelled a.starts (λ k d near. omega (arith, w.starts k d near))) behind in
    let whole = free_free version_spelled (free_free (name_spelled name) (free_free (numbered (codes "States") a.states (free_header (codes "States") (refl, refl)) few) starts)) in
    let first = flat_map-append item_tokens (name_phrases name) others in
    let second = flat_map-append item_tokens (map text_start a.starts) last in
    let named : List Token = flat_map item_tokens (name_phrases name) in
    let started : List Token = flat_map item_tokens (map text_start a.starts) in
    let same : HeaderName (codes "HOA") ∷ Identifier (codes "v1") ∷ (named ++ (HeaderName (codes "States") ∷ Int a.states ∷ (started ++ flat_map item_tokens last)))
    ≡ HeaderName (codes "HOA") ∷ Identifier (codes "v1") ∷ flat_map item_tokens (text_items a name) = cc in
    subst (λ (ts : List Token). Free ts (header_lines a name)) same whole

automaton_spelled : (a : Automaton) (name : Option (List ℕ)) → a.states < 2 ^ 32 → a.sets < 2 ^ 32 → length a.names < 2 ^ 32 → IsWellFormed a
    → Free (automaton_tokens (text_automaton a name)) (canonical_text a name)
automaton_spelled a name few sets names w =
    let body = free_free (free_one Body (codes "--BODY--") refl (λ rest. tt)) (free_blank 10 refl) in
    let end = free_free (free_one End (codes "--END--") refl (λ rest. tt)) (free_blank 10 refl) in
    free_free (header_spelled a name few sets names w) (free_free body (free_free (states_spelled a few sets names w.edges) end))

-- the tokens of a text, which spell this automaton and no other
pub record ReadsAs (text : List ℕ) (w : Written) : Type 0 where
  pub tokens : List Token
  pub lexes : HasTokens text 0 tokens
  pub most : ℕ
  pub spells : SpellsAutomaton most tokens w
  pub alone : (n : ℕ) (v : Written) → SpellsAutomaton n tokens v → v ≡ w

pub canonical_reads : (a : Automaton) (name : Option (List ℕ)) → a.states < 2 ^ 32 → a.sets < 2 ^ 32 → length a.names < 2 ^ 32 → IsWellFormed a
    → ReadsAs (canonical_text a name) (canonical_written a name)
canonical_reads a name few sets names w =
    let phrase = text_automaton a name in
    let tokens = automaton_tokens phrase in
    let most = automaton_opens phrase in
    let written = canonical_written a name in
    let spells = phrases_spell most tokens written (record { phrase = phrase; within = automaton_within phrase; spelled = refl; means = sym (automaton_means a name) }) in
    record {
      tokens = tokens;
      lexes = free_is_read tokens (canonical_text a name) (automaton_spelled a name few sets names w);
      most = most;
      spells = spells;
      alone = λ n v s. one_raw n most tokens v written s spells;
    }
