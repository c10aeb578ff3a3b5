-- How the items of a header are read.
use Rattle.std.proofs.Common.{◌≡◌, ◌≢◌, ◌⊎◌, inl, inr, ℕ, true, List, [], ◌∷◌, ◌++◌, map, Result, Ok, Err, refl, sym, ap, subst, ◌∙◌, false}
use Rattle.std.proofs.lemmas.List.{append-nil}
use Rattle.std.specs.Prelude.{codes, nat_le}
use Rattle.aut_base.specs.declared.formula.Formula.{Formula}
use Rattle.aut_base.specs.declared.limit.TheConstants.{MOST_DEPTH}
use Rattle.hoa_lexer.specs.declared.token.Token.{Token}
use Rattle.hoa_lexer.specs.declared.token.Token.TheVariants as token
use Rattle.hoa_parser.proofs.grammar.HeaderNames.{IsNamed, named}
use Rattle.hoa_parser.proofs.reading.FrontParts.{passed_then}
use Rattle.hoa_parser.proofs.reading.RuleParts.{next_answer}
use Rattle.hoa_parser.proofs.reading.Steps.{Read, reads_as, takes, takes_last}
use Rattle.hoa_parser.specs.inner.Expecting.{Items, Part, Takes, header_move, move, open_at}
use Rattle.hoa_parser.specs.inner.Expecting as expecting
use Rattle.hoa_parser.specs.Grammar.{optional_text}
use Rattle.hoa_parser.specs.Headers.{header_of}
use Rattle.hoa_parser.specs.Phrases.{ItemPhrase, ItemWithin, acc_name_item, acceptance_item, alias_item, item_meaning, item_tokens}
use Rattle.hoa_parser.specs.Phrases.{name_item, names_item, other_item, properties_item, start_item, states_item, tool_item, acc_value_token}
use Rattle.hoa_parser.specs.Phrases.{conj_tokens, condition_tokens, label_tokens, value_token}
use Rattle.hoa_parser.specs.inner.Parsing.{Advanced, Cursor, FailsAt, Passed, ReadsParts, ReadsTo, State, Unadvanced}
use Rattle.hoa_parser.specs.inner.Expecting.{header_parts}
use Rattle.hoa_parser.specs.inner.RuleReads.{AreTexts, AreValues, AreWords, IsAliasToken, IsCondition, IsConj, IsItem, IsItemOf}
use Rattle.hoa_parser.specs.inner.RuleReads.{IsItemWritten, IsLabel, IsIntToken, IsOptionalText, IsQuoted, IsIdentifierToken, ItemRest}
use Rattle.hoa_parser.specs.Raw as raw
use Rattle.hoa_parser.specs.Raw.{WrittenItem, written_item}
use Rattle.hoa_parser.specs.declared.fault.ReadFault.{ReadFault}
use Rattle.hoa_parser.specs.declared.header.Header.{Header}
use Rattle.hoa_parser.specs.declared.header.Header.TheVariants as header
use Rattle.hoa_parser.specs.declared.raw.Item.{Item}
use Rattle.hoa_parser.specs.declared.raw.Item.TheVariants as item
use Rattle.hoa_parser.specs.declared.raw.RawLabel.{RawLabel}

name_of : (name : List ℕ) (h : Header) → header_of name ≡ h → IsNamed name h
name_of name h is = subst (IsNamed name) is (named name)

-- what follows the name of a header, where the name is all that is wanted of it
rest_of : (name : List ℕ) (h : Header) (known : List ℕ) (ts : List Token) (phrase : ItemPhrase) (i : WrittenItem) (a b : Cursor) → (header_of name ≡ h → name ≡ known)
    → ItemWithin MOST_DEPTH phrase → token.HeaderName known ∷ ts ≡ item_tokens phrase → i ≡ item_meaning phrase → Passed a ts b → ItemRest h name i a b
rest_of name h known ts phrase i a b is within spelled means passed = record {
  tokens = ts;
  passed = passed;
  is_item = λ e. record { phrase = phrase; within = within; spelled = ap (λ (n : List ℕ). token.HeaderName n ∷ ts) (is e) ∙ spelled; means = means };
}

pub names_read : (count : ℕ) (names : List (List ℕ)) (a b c : Cursor) → IsIntToken count a b → AreTexts names b c → IsItemWritten header.Ap (item.Ap count names) a c
names_read count names a b c p q = λ name.
    rest_of name header.Ap (codes "AP") (token.Int count ∷ map token.Str names) (names_item count names) (raw.Ap count names) a c (λ e. name_of name header.Ap e) tt refl refl
    (passed_then a b c (token.Int count ∷ []) (map token.Str names) p q)

pub alias_read : (text : List ℕ) (l : RawLabel) (a b c : Cursor) → IsAliasToken text a b → IsLabel 0 l b c → IsItemWritten header.Alias (item.Alias text l) a c
alias_read text l a b c p q = λ name.
    rest_of name header.Alias (codes "Alias") (token.Alias text ∷ label_tokens q.phrase) (alias_item text q.phrase) (written_item (item.Alias text l)) a c (λ e. name_of name header.Alias e)
    q.within refl
    (ap (raw.AliasOf text) q.means) (passed_then a b c (token.Alias text ∷ []) (label_tokens q.phrase) p q.passed)

pub acceptance_read : (sets : ℕ) (f : Formula) (a b c : Cursor) → IsIntToken sets a b → IsCondition 0 f b c → IsItemWritten header.Acceptance (item.Acceptance sets f) a c
acceptance_read sets f a b c p q = λ name.
    rest_of name header.Acceptance (codes "Acceptance") (token.Int sets ∷ condition_tokens q.phrase) (acceptance_item sets q.phrase) (written_item (item.Acceptance sets f)) a c
    (λ e. name_of name header.Acceptance e) q.within refl
    (ap (raw.Acceptance sets) q.means) (passed_then a b c (token.Int sets ∷ []) (condition_tokens q.phrase) p q.passed)

pub acc_name_read : (word : List ℕ) (done : Unit {0}) (a b c : Cursor) → IsIdentifierToken word a b → AreValues false done b c → IsItemWritten header.AccName item.AccName a c
acc_name_read word done a b c p q = λ name.
    rest_of name header.AccName (codes "acc-name") (token.Identifier word ∷ map acc_value_token q.0) (acc_name_item word q.0) raw.AccName a c (λ e. name_of name header.AccName e) tt refl refl
    (passed_then a b c (token.Identifier word ∷ []) (map acc_value_token q.0) p q.1)

pub tool_read : (text : List ℕ) (done : Unit {0}) (a b c : Cursor) → IsQuoted text a b → IsOptionalText done b c → IsItemWritten header.Tool item.Tool a c
tool_read text done a b c p q = λ name.
    rest_of name header.Tool (codes "tool") (token.Str text ∷ optional_text q.0) (tool_item text q.0) raw.Tool a c (λ e. name_of name header.Tool e) tt refl refl
    (passed_then a b c (token.Str text ∷ []) (optional_text q.0) p q.1)

-- the items of one part
pub states_read : (name : List ℕ) (n : ℕ) (a b : Cursor) → IsIntToken n a b → IsItemOf header.States name (item.States n) a b
states_read name n a b p = rest_of name header.States (codes "States") (token.Int n ∷ []) (states_item n) (raw.States n) a b (λ e. name_of name header.States e) tt refl refl p

pub start_read : (name : List ℕ) (states : List ℕ) (a b : Cursor) → IsConj states a b → IsItemOf header.Start name (item.Start states) a b
start_read name states a b p = rest_of name header.Start (codes "Start") (conj_tokens p.phrase) (start_item p.phrase) (raw.Start states) a b (λ e. name_of name header.Start e) tt refl
    (ap raw.Start p.means) p.passed

pub name_read : (name : List ℕ) (text : List ℕ) (a b : Cursor) → IsQuoted text a b → IsItemOf header.Name name (item.Name text) a b
name_read name text a b p = rest_of name header.Name (codes "name") (token.Str text ∷ []) (name_item text) (raw.Name text) a b (λ e. name_of name header.Name e) tt refl refl p

pub properties_read : (name : List ℕ) (words : List (List ℕ)) (a b : Cursor) → AreWords words a b → IsItemOf header.Properties name (item.Properties words) a b
properties_read name words a b p = rest_of name header.Properties (codes "properties") (map token.Identifier words) (properties_item words) (raw.Properties words) a b
    (λ e. name_of name header.Properties e) tt refl refl p

-- a header of a name that is not known
pub is_other : (h : Header) → h ≢ header.Opening → h ≢ header.State → (h ≡ header.Other) ⊎ ((h ≡ header.Opening) ⊎ (h ≡ header.State)) → h ≡ header.Other
is_other h no_opening no_state (inl e) = e
is_other h no_opening no_state (inr (inl e)) = absurd (no_opening e)
is_other h no_opening no_state (inr (inr e)) = absurd (no_state e)

pub other_read : (name : List ℕ) (done : Unit {0}) (a b : Cursor) → AreValues true done a b → IsItemOf header.Other name (item.Other name) a b
other_read name done a b p = record {
  tokens = map value_token p.0;
  passed = p.1;
  is_item = λ e. record { phrase = other_item name e p.0; within = tt; spelled = refl; means = refl };
}

-- what the name of a header of an item leaves to be read
pub header_takes : (h : Header) → h ≢ header.Opening → h ≢ header.State → header_move h ≡ Takes (header_parts h ++ Items ∷ [])
header_takes header.Opening no_opening no_state = absurd (no_opening refl)
header_takes header.State no_opening no_state = absurd (no_state refl)
header_takes _ no_opening no_state = refl

pub header_opens : (h : Header) → nat_le (open_at (header_parts h ++ Items ∷ [])) MOST_DEPTH ≡ true
header_opens header.Opening = refl
header_opens _ = refl

pub no_item : (h : Header) → (h ≡ header.Opening) ⊎ (h ≡ header.State) → header_move h ≡ expecting.Refuses
no_item h (inl e) = ap header_move e
no_item h (inr e) = ap header_move e

-- the name of a header, and what is behind it
pub item_whole : (name : List ℕ) (i : Item) (a b c : Cursor) → Passed a (token.HeaderName name ∷ []) b → IsItemOf (header_of name) name i b c → IsItem i a c
item_whole name i a b c p q =
    let with_name = q.is_item refl in
    record {
      phrase = with_name.phrase;
      within = with_name.within;
      passed = subst (λ (ts : List Token). Passed a ts c) with_name.spelled (passed_then a b c (token.HeaderName name ∷ []) q.tokens p q.passed);
      means = with_name.means;
    }

-- the name of a header is taken
pub header_taken : (name : List ℕ) (h : Header) {s s' : State} → h ≡ header_of name → h ≢ header.Opening → h ≢ header.State → s.ahead ≡ token.HeaderName name → Advanced s s'
    → ReadsTo (Items ∷ []) (header_parts h ++ Items ∷ []) (Read (token.HeaderName name)) s s'
header_taken name h {s} {s'} same no_opening no_state is one =
    subst (λ (ps : List Part). ReadsTo (Items ∷ []) ps (Read (token.HeaderName name)) s s') (append-nil (header_parts h ++ Items ∷ []))
    (takes Items [] (token.HeaderName name) is (ap header_move (sym same) ∙ header_takes h no_opening no_state) (header_opens h) refl one)

pub header_last : {f : ReadFault} (name : List ℕ) (h : Header) {s s' : State} → h ≡ header_of name → h ≢ header.Opening → h ≢ header.State → s.ahead ≡ token.HeaderName name
    → Unadvanced f s s' → FailsAt f (Items ∷ []) s s'
header_last name h same no_opening no_state is one = takes_last Items [] (token.HeaderName name) is (ap header_move (sym same) ∙ header_takes h no_opening no_state) (header_opens h) refl one

-- an item that has a form of its own
pub item_of_form : (h : Header) (name : List ℕ) (result : Result Item ReadFault) (s s' : State) → ReadsParts (header_parts h) [] (IsItemWritten h) result s s'
    → ReadsParts (header_parts h) [] (IsItemOf h name) result s s'
item_of_form h name (Ok i) s s' one = reads_as (λ a b p. p name) one
item_of_form h name (Err f) s s' one = one

-- whatever is answered of what is behind the name
pub item_behind : {s m : State} (name : List ℕ) (h : Header) (result : Result Item ReadFault) (s' : State) → h ≡ header_of name → h ≢ header.Opening → h ≢ header.State
    → s.ahead ≡ token.HeaderName name → Advanced s m
    → ReadsParts (header_parts h) [] (IsItemOf h name) result m s' → ReadsParts (Items ∷ []) (Items ∷ []) IsItem result s s'
item_behind name h result s' same no_opening no_state is one two =
    next_answer (header_parts h) (Items ∷ []) (IsItemOf h name) IsItem result s' (λ w a d p. item_whole name w a p.0 d p.1 (subst (λ (k : Header). IsItemOf k name w p.0 d) same p.2))
    (header_taken name h same no_opening no_state is one) two

same_names : (name other : List ℕ) → token.HeaderName name ≡ token.HeaderName other → name ≡ other
same_names name other e = cc

-- the header of a name is that of the same name
pub header_again : (h : Header) (name other : List ℕ) → h ≡ header_of name → token.HeaderName name ≡ token.HeaderName other → h ≡ header_of other
header_again h name other same e = same ∙ ap header_of (same_names name other e)
