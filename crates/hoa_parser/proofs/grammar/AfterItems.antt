-- What is expected after the tokens of an item of the header.
use Rattle.std.proofs.Common.{◌≡◌, ℕ, ◌≤◌, List, [], ◌∷◌, ◌++◌, map, Option, Some, None, refl, sym, ap, ◌∙◌, subst, arith}
use Rattle.std.specs.Prelude.{codes, flat_map}
use Rattle.std.specs.List.{AllByRecursion}
use Rattle.std.proofs.lemmas.List.{append_assoc}
use Rattle.hoa_lexer.specs.declared.token.Token.{Token}
use Rattle.hoa_lexer.specs.declared.token.Token.TheVariants as token
use Rattle.hoa_parser.specs.inner.Expecting.{Part, Number, MoreNumbers, Quoted, MaybeQuoted, Strings, Word, Words, AliasName, AccValues, Values}
use Rattle.hoa_parser.specs.inner.Expecting.{Factors, Products, Atoms, Conjunctions, Items, Takes, Passes, parts_after, header_move, move, open_at, conj_parts, expected_label}
use Rattle.hoa_parser.specs.inner.Expecting.{condition_parts}
use Rattle.hoa_parser.specs.Phrases.{AccValue, acc_number, acc_word, acc_value_token, Value, number_value, text_value, word_value, value_token, Conj}
use Rattle.hoa_parser.specs.Grammar.{and_number, optional_text}
use Rattle.hoa_parser.specs.Phrases.{conj_tokens, condition_tokens, label_tokens, ItemPhrase, states_item, start_item}
use Rattle.hoa_parser.specs.Phrases.{names_item, alias_item, acceptance_item, acc_name_item, tool_item, name_item, properties_item, other_item}
use Rattle.hoa_parser.specs.Phrases.{item_tokens, ItemWithin}
use Rattle.hoa_parser.proofs.grammar.AfterLabels.{Leaves, taken, left, regrouped, label_follows, condition_follows}

-- lists of values

acc_value_taken : (v : AccValue) → move AccValues (acc_value_token v) ≡ Takes (AccValues ∷ [])
acc_value_taken (acc_number n) = refl
acc_value_taken (acc_word word) = refl

value_taken : (v : Value) → move Values (value_token v) ≡ Takes (Values ∷ [])
value_taken (number_value n) = refl
value_taken (text_value text) = refl
value_taken (word_value word) = refl

values_follow : {V : Type 0} (most : ℕ) (part : Part) (spelled : V → Token) → ((v : V) → move part (spelled v) ≡ Takes (part ∷ [])) → open_at (part ∷ []) ≤ most
    → (values : List V) (others : List Part) (c : List Token) → Leaves part c → parts_after most (part ∷ others) (map spelled values ++ c) ≡ parts_after most others c
values_follow most part spelled takes room [] others c e = left most part others c e
values_follow most part spelled takes room (v ∷ vs) others c e =
    taken most part (part ∷ []) others (spelled v) (map spelled vs ++ c) (takes v) room ∙ values_follow most part spelled takes room vs others c e

numbers_follow : (most : ℕ) (numbers : List ℕ) (others : List Part) (c : List Token) → Leaves MoreNumbers c
    → parts_after most (MoreNumbers ∷ others) (flat_map and_number numbers ++ c) ≡ parts_after most others c
numbers_follow most [] others c e = left most MoreNumbers others c e
numbers_follow most (n ∷ ns) others c e =
    taken most MoreNumbers (Number ∷ MoreNumbers ∷ []) others token.Amp (token.Int n ∷ (flat_map and_number ns ++ c)) refl (omega arith)
    ∙ taken most Number [] (MoreNumbers ∷ others) (token.Int n) (flat_map and_number ns ++ c) refl (omega arith)
    ∙ numbers_follow most ns others c e

pub conj_follows : (most : ℕ) (n : Conj) (others : List Part) (c : List Token) → Leaves MoreNumbers c → parts_after most (conj_parts ++ others) (conj_tokens n ++ c) ≡ parts_after most others c
conj_follows most n others c e =
    taken most Number [] (MoreNumbers ∷ others) (token.Int n.first) (flat_map and_number n.others ++ c) refl (omega arith)
    ∙ numbers_follow most n.others others c e

pub text_follows : (most : ℕ) (text : Option (List ℕ)) (others : List Part) (c : List Token) → Leaves MaybeQuoted c
    → parts_after most (MaybeQuoted ∷ others) (optional_text text ++ c) ≡ parts_after most others c
text_follows most None others c e = left most MaybeQuoted others c e
text_follows most (Some text) others c e = taken most MaybeQuoted [] others (token.Str text) c refl (omega arith)

-- what stands behind an item: the next one, or the body
abbrev pub IsBehindItem : List Token → Type 0
IsBehindItem (token.HeaderName name ∷ c) = Unit {0}
IsBehindItem (token.Body ∷ c) = Unit {0}
IsBehindItem _ = ⊥

leaves_item : (part : Part) (c : List Token) → ((name : List ℕ) → move part (token.HeaderName name) ≡ Passes) → move part token.Body ≡ Passes → IsBehindItem c → Leaves part c
leaves_item part (token.HeaderName name ∷ c) header body b = header name
leaves_item part (token.Body ∷ c) header body b = body
leaves_item part _ header body b = absurd b

item_follows : (most : ℕ) (i : ItemPhrase) (c : List Token) → ItemWithin most i → IsBehindItem c → parts_after most (Items ∷ []) (item_tokens i ++ c) ≡ parts_after most (Items ∷ []) c
item_follows most (states_item n) c w b =
    taken most Items (Number ∷ Items ∷ []) [] (token.HeaderName (codes "States")) (token.Int n ∷ c) refl (omega arith)
    ∙ taken most Number [] (Items ∷ []) (token.Int n) c refl (omega arith)
item_follows most (start_item n) c w b =
    taken most Items (conj_parts ++ Items ∷ []) [] (token.HeaderName (codes "Start")) (conj_tokens n ++ c) refl (omega arith)
    ∙ conj_follows most n (Items ∷ []) c (leaves_item MoreNumbers c (λ name. refl) refl b)
item_follows most (names_item n names) c w b =
    taken most Items (Number ∷ Strings ∷ Items ∷ []) [] (token.HeaderName (codes "AP")) (token.Int n ∷ (map token.Str names ++ c)) refl (omega arith)
    ∙ taken most Number [] (Strings ∷ Items ∷ []) (token.Int n) (map token.Str names ++ c) refl (omega arith)
    ∙ values_follow most Strings token.Str (λ t. refl) (omega arith) names (Items ∷ []) c (leaves_item Strings c (λ name. refl) refl b)
item_follows most (alias_item name l) c w b =
    taken most Items (AliasName ∷ (expected_label 0 ++ Items ∷ [])) [] (token.HeaderName (codes "Alias")) (token.Alias name ∷ (label_tokens l ++ c)) refl (omega arith)
    ∙ taken most AliasName [] (expected_label 0 ++ Items ∷ []) (token.Alias name) (label_tokens l ++ c) refl (omega arith)
    ∙ label_follows most 0 l (Items ∷ []) c (omega arith) w (leaves_item (Factors 0) c (λ name. refl) refl b) (leaves_item (Products 0) c (λ name. refl) refl b)
item_follows most (acceptance_item n l) c w b =
    taken most Items (Number ∷ (condition_parts 0 ++ Items ∷ [])) [] (token.HeaderName (codes "Acceptance")) (token.Int n ∷ (condition_tokens l ++ c)) refl (omega arith)
    ∙ taken most Number [] (condition_parts 0 ++ Items ∷ []) (token.Int n) (condition_tokens l ++ c) refl (omega arith)
    ∙ condition_follows most 0 l (Items ∷ []) c (omega arith) w (leaves_item (Atoms 0) c (λ name. refl) refl b) (leaves_item (Conjunctions 0) c (λ name. refl) refl b)
item_follows most (acc_name_item word values) c w b =
    taken most Items (Word ∷ AccValues ∷ Items ∷ []) [] (token.HeaderName (codes "acc-name")) (token.Identifier word ∷ (map acc_value_token values ++ c)) refl (omega arith)
    ∙ taken most Word [] (AccValues ∷ Items ∷ []) (token.Identifier word) (map acc_value_token values ++ c) refl (omega arith)
    ∙ values_follow most AccValues acc_value_token acc_value_taken (omega arith) values (Items ∷ []) c (leaves_item AccValues c (λ name. refl) refl b)
item_follows most (tool_item text other) c w b =
    taken most Items (Quoted ∷ MaybeQuoted ∷ Items ∷ []) [] (token.HeaderName (codes "tool")) (token.Str text ∷ (optional_text other ++ c)) refl (omega arith)
    ∙ taken most Quoted [] (MaybeQuoted ∷ Items ∷ []) (token.Str text) (optional_text other ++ c) refl (omega arith)
    ∙ text_follows most other (Items ∷ []) c (leaves_item MaybeQuoted c (λ name. refl) refl b)
item_follows most (name_item text) c w b =
    taken most Items (Quoted ∷ Items ∷ []) [] (token.HeaderName (codes "name")) (token.Str text ∷ c) refl (omega arith)
    ∙ taken most Quoted [] (Items ∷ []) (token.Str text) c refl (omega arith)
item_follows most (properties_item words) c w b =
    taken most Items (Words ∷ Items ∷ []) [] (token.HeaderName (codes "properties")) (map token.Identifier words ++ c) refl (omega arith)
    ∙ values_follow most Words token.Identifier (λ w. refl) (omega arith) words (Items ∷ []) c (leaves_item Words c (λ name. refl) refl b)
item_follows most (other_item name is values) c w b =
    taken most Items (Values ∷ Items ∷ []) [] (token.HeaderName name) (map value_token values ++ c) (ap header_move is) (omega arith)
    ∙ values_follow most Values value_token value_taken (omega arith) values (Items ∷ []) c (leaves_item Values c (λ name. refl) refl b)

behind_item : (i : ItemPhrase) (c : List Token) → IsBehindItem (item_tokens i ++ c)
behind_item (states_item n) c = tt
behind_item _ c = tt

behind_items : (items : List ItemPhrase) (c : List Token) → IsBehindItem c → IsBehindItem (flat_map item_tokens items ++ c)
behind_items [] c b = b
behind_items (i ∷ is) c b = subst IsBehindItem (sym (append_assoc (item_tokens i) (flat_map item_tokens is) c)) (behind_item i (flat_map item_tokens is ++ c))

pub items_follow : (most : ℕ) (items : List ItemPhrase) (c : List Token) → AllByRecursion (ItemWithin most) items → IsBehindItem c
    → parts_after most (Items ∷ []) (flat_map item_tokens items ++ c) ≡ parts_after most (Items ∷ []) c
items_follow most [] c w b = refl
items_follow most (i ∷ is) c w b =
    regrouped most (Items ∷ []) (item_tokens i) (flat_map item_tokens is) c
    ∙ item_follows most i (flat_map item_tokens is ++ c) w.0 (behind_items is c b)
    ∙ items_follow most is c w.1 b
