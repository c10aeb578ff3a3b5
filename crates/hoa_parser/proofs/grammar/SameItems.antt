-- The tokens of an item of the header have one meaning and one end.
use Rattle.std.proofs.Common.{◌≡◌, ℕ, Bool, true, false, List, [], ◌∷◌, ◌++◌, map, flat_map, Option, Some, None, refl, sym, ◌∙◌, ap}
use Rattle.std.specs.Prelude.{codes}
use Rattle.std.proofs.lemmas.List.{map-id}
use Rattle.hoa_lexer.specs.declared.token.Token.{Token}
use Rattle.hoa_lexer.specs.declared.token.Token.TheVariants.{HeaderName, Identifier, Str, Int, Alias, Amp, Body}
use Rattle.hoa_parser.specs.Raw as raw
use Rattle.hoa_parser.specs.Grammar.{and_number, optional_text}
use Rattle.hoa_parser.specs.Phrases.{AccValue, Conj, ItemPhrase, Value, acc_value_token, condition_tokens, conj_meaning, conj_tokens}
use Rattle.hoa_parser.specs.Phrases.{item_meaning, item_tokens, label_tokens, value_token}
use Rattle.hoa_parser.specs.Phrases.AccValue.{acc_number, acc_word}
use Rattle.hoa_parser.specs.Phrases.ItemPhrase.{states_item, start_item, names_item, alias_item, acceptance_item, acc_name_item, tool_item, name_item, properties_item, other_item}
use Rattle.hoa_parser.specs.Phrases.Value.{number_value, text_value, word_value}
use Rattle.hoa_parser.specs.declared.header.Header.{Header}
use Rattle.hoa_parser.specs.declared.header.Header.TheVariants as header
use Rattle.hoa_parser.proofs.grammar.ClearPhrases.{Begins, IsClear, map_clear}
use Rattle.hoa_parser.proofs.grammar.SameConditions.{same_condition}
use Rattle.hoa_parser.proofs.grammar.SameLabels.{same_label}
use Rattle.hoa_parser.proofs.grammar.Stops.{Stops, IsSame, is_amp, is_join, stops_not, first_token, later_tokens}
use Rattle.hoa_parser.specs.Headers.{header_of}

abbrev pub is_header : Token → Bool
is_header (HeaderName name) = true
is_header _ = false

-- what can stand behind the first token of an item
abbrev pub is_inner : Token → Bool
is_inner (HeaderName name) = false
is_inner Body = false
is_inner _ = true

abbrev pub is_text : Token → Bool
is_text (Str text) = true
is_text _ = false

abbrev is_word : Token → Bool
is_word (Identifier word) = true
is_word _ = false

-- behind an item stands the next one, the body, or nothing
ends_item : (p : Token → Bool) (c : List Token) → ((name : List ℕ) → p (HeaderName name) ≡ false) → p Body ≡ false → Stops is_inner c → Stops p c
ends_item p [] header body s = tt
ends_item p (HeaderName name ∷ c) header body s = header name
ends_item p (Body ∷ c) header body s = body
ends_item p (_ ∷ c) header body s = cc

-- INT ("&" INT)*
same_others : (xs ys : List ℕ) (c d : List Token) → flat_map and_number xs ++ c ≡ flat_map and_number ys ++ d → Stops is_amp c → Stops is_amp d → IsSame xs ys c d
same_others [] [] c d e s k = record { value = refl; rest = e }
same_others [] (y ∷ ys) c d e s k = absurd (stops_not is_amp c Amp _ s refl e)
same_others (x ∷ xs) [] c d e s k = absurd (stops_not is_amp d Amp _ k refl (sym e))
same_others (x ∷ xs) (y ∷ ys) c d e s k =
    let f = later_tokens Amp Amp (Int x ∷ (flat_map and_number xs ++ c)) (Int y ∷ (flat_map and_number ys ++ d)) e in
    let a = same_others xs ys c d (later_tokens (Int x) (Int y) _ _ f) s k in
    let first = first_token (Int x) (Int y) _ _ f in
    let others = a.value in
    record { value = cc; rest = a.rest }

pub same_conj : (p q : Conj) (c d : List Token) → conj_tokens p ++ c ≡ conj_tokens q ++ d → Stops is_amp c → Stops is_amp d → IsSame (conj_meaning p) (conj_meaning q) c d
same_conj p q c d e s k =
    let a = same_others p.others q.others c d (later_tokens (Int p.first) (Int q.first) _ _ e) s k in
    let first = first_token (Int p.first) (Int q.first) _ _ e in
    let others = a.value in
    record { value = cc; rest = a.rest }

pub same_text_end : (p q : Option (List ℕ)) (c d : List Token) → optional_text p ++ c ≡ optional_text q ++ d → Stops is_text c → Stops is_text d → c ≡ d
same_text_end None None c d e s k = e
same_text_end None (Some y) c d e s k = absurd (stops_not is_text c (Str y) _ s refl e)
same_text_end (Some x) None c d e s k = absurd (stops_not is_text d (Str x) _ k refl (sym e))
same_text_end (Some x) (Some y) c d e s k = later_tokens (Str x) (Str y) c d e

-- the header of an item, its name, and what follows the name
abbrev kind : ItemPhrase → Header
kind (states_item n) = header.States
kind (start_item c) = header.Start
kind (names_item n names) = header.Ap
kind (alias_item name l) = header.Alias
kind (acceptance_item n c) = header.Acceptance
kind (acc_name_item word values) = header.AccName
kind (tool_item text other) = header.Tool
kind (name_item text) = header.Name
kind (properties_item words) = header.Properties
kind (other_item name is values) = header.Other

record IsHeaded (p : ItemPhrase) (c : List Token) : Type 0 where
  name : List ℕ
  others : List Token
  heads : item_tokens p ++ c ≡ HeaderName name ∷ others
  kinds : header_of name ≡ kind p

headed : (p : ItemPhrase) (c : List Token) → IsHeaded p c
headed (states_item n) c = record { name = codes "States"; others = _; heads = refl; kinds = refl }
headed (start_item p) c = record { name = codes "Start"; others = _; heads = refl; kinds = refl }
headed (names_item n names) c = record { name = codes "AP"; others = _; heads = refl; kinds = refl }
headed (alias_item name l) c = record { name = codes "Alias"; others = _; heads = refl; kinds = refl }
headed (acceptance_item n p) c = record { name = codes "Acceptance"; others = _; heads = refl; kinds = refl }
headed (acc_name_item word values) c = record { name = codes "acc-name"; others = _; heads = refl; kinds = refl }
headed (tool_item text other) c = record { name = codes "tool"; others = _; heads = refl; kinds = refl }
headed (name_item text) c = record { name = codes "name"; others = _; heads = refl; kinds = refl }
headed (properties_item words) c = record { name = codes "properties"; others = _; heads = refl; kinds = refl }
headed (other_item name is values) c = record { name = name; others = _; heads = refl; kinds = is }

one_kind : (p q : ItemPhrase) (c d : List Token) → item_tokens p ++ c ≡ item_tokens q ++ d → kind p ≡ kind q
one_kind p q c d e =
    let a = headed p c in
    let b = headed q d in
    let first = first_token (HeaderName a.name) (HeaderName b.name) a.others b.others (sym a.heads ∙ e ∙ b.heads) in
    let names : a.name ≡ b.name = cc in
    sym a.kinds ∙ ap header_of names ∙ b.kinds

acc_goes : (v : AccValue) → is_inner (acc_value_token v) ≡ true
acc_goes (acc_number n) = refl
acc_goes (acc_word word) = refl

value_goes : (v : Value) → is_inner (value_token v) ≡ true
value_goes (number_value n) = refl
value_goes (text_value text) = refl
value_goes (word_value word) = refl

one_item : (p q : ItemPhrase) (c d : List Token) → kind p ≡ kind q → item_tokens p ++ c ≡ item_tokens q ++ d → Stops is_inner c → Stops is_inner d → IsSame (item_meaning p) (item_meaning q) c d
one_item (states_item m) (states_item n) c d h e s k = record { value = cc; rest = cc }
one_item (start_item p) (start_item q) c d h e s k =
    let a = same_conj p q c d (later_tokens _ _ _ _ e) (ends_item is_amp c (λ n. refl) refl s) (ends_item is_amp d (λ n. refl) refl k) in
    record { value = ap raw.Start a.value; rest = a.rest }
one_item (names_item m xs) (names_item n ys) c d h e s k =
    let f = later_tokens _ _ (Int m ∷ (map Str xs ++ c)) (Int n ∷ (map Str ys ++ d)) e in
    let a = map_clear Str (λ x. x) is_text (λ x y w. cc) (λ x. refl) xs ys c d (later_tokens _ _ _ _ f) (ends_item is_text c (λ n. refl) refl s) (ends_item is_text d (λ n. refl) refl k) in
    let count = first_token (Int m) (Int n) _ _ f in
    let names : xs ≡ ys = sym (map-id xs) ∙ a.value ∙ map-id ys in
    record { value = cc; rest = a.rest }
one_item (alias_item a l) (alias_item b m) c d h e s k =
    let f = later_tokens _ _ (Alias a ∷ (label_tokens l ++ c)) (Alias b ∷ (label_tokens m ++ d)) e in
    let x = same_label l m c d (later_tokens _ _ _ _ f) (ends_item is_join c (λ n. refl) refl s) (ends_item is_join d (λ n. refl) refl k) in
    record { value = cc (first_token (Alias a) (Alias b) _ _ f, x.value); rest = x.rest }
one_item (acceptance_item m p) (acceptance_item n q) c d h e s k =
    let f = later_tokens _ _ (Int m ∷ (condition_tokens p ++ c)) (Int n ∷ (condition_tokens q ++ d)) e in
    let x = same_condition p q c d (later_tokens _ _ _ _ f) (ends_item is_join c (λ n. refl) refl s) (ends_item is_join d (λ n. refl) refl k) in
    record { value = cc (first_token (Int m) (Int n) _ _ f, x.value); rest = x.rest }
one_item (acc_name_item v xs) (acc_name_item w ys) c d h e s k =
    let f = later_tokens _ _ (Identifier v ∷ (map acc_value_token xs ++ c)) (Identifier w ∷ (map acc_value_token ys ++ d)) e in
    let a = map_clear {M = Unit {0}} acc_value_token (λ x. tt) is_inner (λ x y w. refl) acc_goes xs ys c d (later_tokens _ _ _ _ f) s k in
    record { value = refl; rest = a.rest }
one_item (tool_item v x) (tool_item w y) c d h e s k =
    let f = later_tokens _ _ (Str v ∷ (optional_text x ++ c)) (Str w ∷ (optional_text y ++ d)) e in
    record { value = refl; rest = same_text_end x y c d (later_tokens _ _ _ _ f) (ends_item is_text c (λ n. refl) refl s) (ends_item is_text d (λ n. refl) refl k) }
one_item (name_item v) (name_item w) c d h e s k = record { value = cc; rest = cc }
one_item (properties_item xs) (properties_item ys) c d h e s k =
    let a = map_clear Identifier (λ x. x) is_word (λ x y w. cc) (λ x. refl) xs ys c d (later_tokens _ _ _ _ e) (ends_item is_word c (λ n. refl) refl s)
    (ends_item is_word d (λ n. refl) refl k) in
    let words : xs ≡ ys = sym (map-id xs) ∙ a.value ∙ map-id ys in
    record { value = ap raw.Properties words; rest = a.rest }
one_item (other_item v is xs) (other_item w it ys) c d h e s k =
    let a = map_clear {M = Unit {0}} value_token (λ x. tt) is_inner (λ x y w. refl) value_goes xs ys c d (later_tokens _ _ _ _ e) s k in
    let name = first_token (HeaderName v) (HeaderName w) _ _ e in
    record { value = cc; rest = a.rest }
one_item _ _ c d h e s k = absurd (cc)

pub same_item : IsClear item_tokens item_meaning is_inner
same_item p q c d e s k = one_item p q c d (one_kind p q c d e) e s k

pub item_begins : (p : ItemPhrase) → Begins is_header (item_tokens p)
item_begins (states_item n) = refl
item_begins _ = refl
