-- A token that is taken, and what is written behind it, write the part that takes it: items.
use Rattle.std.proofs.Common.{◌≡◌, ℕ, List, [], ◌∷◌, ◌++◌, refl, sym, ap, ◌∙◌}
use Rattle.std.specs.Prelude.{flat_map}
use Rattle.std.proofs.lemmas.List.{append_assoc}
use Rattle.hoa_lexer.specs.declared.token.Token.{Token}
use Rattle.hoa_lexer.specs.declared.token.Token.TheVariants as token
use Rattle.hoa_parser.specs.inner.Expecting as part
use Rattle.hoa_parser.specs.inner.Expecting.{Takes, header_move, move}
use Rattle.hoa_parser.specs.Phrases.{label, condition}
use Rattle.hoa_parser.specs.Phrases.{ItemPhrase, states_item, start_item}
use Rattle.hoa_parser.specs.Phrases.{names_item, alias_item, acceptance_item, acc_name_item, tool_item, name_item, properties_item, other_item}
use Rattle.hoa_parser.specs.Phrases.{item_tokens, ItemWithin}
use Rattle.hoa_parser.specs.declared.header.Header.{Header}
use Rattle.hoa_parser.specs.declared.header.Header.TheVariants as header
use Rattle.hoa_parser.proofs.grammar.PartsWritten.{Fills, Derives, rest_tokens}
use Rattle.hoa_parser.proofs.grammar.LabelsWritten.{Writes, joined, single, has_label, has_condition}
use Rattle.hoa_parser.proofs.grammar.HeaderNames.{IsNamed, named}
use Rattle.hoa_parser.specs.Headers.{header_of}

-- an item before others
item_within : {most : ℕ} (i : ItemPhrase) {name known : List ℕ} {values u w : List Token} → name ≡ known → item_tokens i ≡ token.HeaderName known ∷ values → ItemWithin most i → u ≡ values ++ w
    → Derives most (part.Items ∷ []) w → Fills most part.Items (token.HeaderName name ∷ u)
item_within {most} i {name} {known} {values} {u} {w} is spelled within e d =
    let f = single most part.Items w d in
    record {
      phrase = (i ∷ f.phrase.0, f.phrase.1);
      keeps = ((within, f.keeps.0), f.keeps.1);
      spelled =
          ap (λ x. token.HeaderName name ∷ x) (e ∙ ap (λ x. values ++ x) f.spelled)
          ∙ ap (λ x. token.HeaderName x ∷ (values ++ rest_tokens f.phrase)) is
          ∙ ap (λ x. x ++ rest_tokens f.phrase) (sym spelled)
          ∙ sym (append_assoc (item_tokens i) (flat_map item_tokens f.phrase.0) (token.Body ∷ _));
    }

-- what is written one behind the other
both : (u v w v' w' : List Token) {a b : List Token} → u ≡ v ++ w → v ≡ a → w ≡ v' ++ w' → v' ≡ b → u ≡ (a ++ b) ++ w'
both u v w v' w' {a} {b} e first e' second = joined u v w a (b ++ w') e first (joined w v' w' b w' e' second refl) ∙ sym (append_assoc a b w')

item_writes : (most : ℕ) (name : List ℕ) (h : Header) → header_of name ≡ h → IsNamed name h → Writes most part.Items (token.HeaderName name) (header_move h)
item_writes most name header.States is n = λ l u (v, w, k, d, e). item_within (states_item k.phrase) n refl tt (joined u v w _ w e k.spelled refl) d
item_writes most name header.Start is n = λ l u (v, w, k, (v', w', ks, d, e'), e).
    item_within (start_item (record { first = k.phrase; others = ks.phrase })) n refl tt (both u v w v' w' e k.spelled e' ks.spelled) d
item_writes most name header.Ap is n = λ l u (v, w, k, (v', w', ks, d, e'), e). item_within (names_item k.phrase ks.phrase) n refl tt (both u v w v' w' e k.spelled e' ks.spelled) d
item_writes most name header.Alias is n = λ l u (v, w, k, d, e).
    let x = has_label most 0 (part.Items ∷ []) w d in
    item_within (alias_item k.phrase (label x.first x.others x.more)) n refl x.within (joined u v w _ _ e k.spelled x.split) x.behind
item_writes most name header.Acceptance is n = λ l u (v, w, k, d, e).
    let x = has_condition most 0 (part.Items ∷ []) w d in
    item_within (acceptance_item k.phrase (condition x.first x.others x.more)) n refl x.within (joined u v w _ _ e k.spelled x.split) x.behind
item_writes most name header.AccName is n = λ l u (v, w, k, (v', w', ks, d, e'), e). item_within (acc_name_item k.phrase ks.phrase) n refl tt (both u v w v' w' e k.spelled e' ks.spelled) d
item_writes most name header.Tool is n = λ l u (v, w, k, (v', w', ks, d, e'), e). item_within (tool_item k.phrase ks.phrase) n refl tt (both u v w v' w' e k.spelled e' ks.spelled) d
item_writes most name header.Name is n = λ l u (v, w, k, d, e). item_within (name_item k.phrase) n refl tt (joined u v w _ w e k.spelled refl) d
item_writes most name header.Properties is n = λ l u (v, w, k, d, e). item_within (properties_item k.phrase) n refl tt (joined u v w _ w e k.spelled refl) d
item_writes most name header.Other is n = λ l u (v, w, k, d, e). item_within (other_item name is k.phrase) refl refl tt (joined u v w _ w e k.spelled refl) d
item_writes most name header.Opening is n = tt
item_writes most name header.State is n = tt

pub items_write : (most : ℕ) (z : Token) → Writes most part.Items z (move part.Items z)
items_write most (token.HeaderName name) = item_writes most name (header_of name) refl (named name)
items_write most token.Body = λ l u d.
    let f = single most part.States u d in
    record { phrase = ([], f.phrase); keeps = (tt, f.keeps); spelled = ap (λ w. token.Body ∷ w) f.spelled }
items_write most _ = tt
