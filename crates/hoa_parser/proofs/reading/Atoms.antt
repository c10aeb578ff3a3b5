-- Labels and conditions of one word.
use Rattle.std.proofs.Common.{◌≡◌, ◌≢◌, ℕ, Bool, true, false, cond, List, [], ◌∷◌, Some, None, codes, refl, sym, ap, ◌∙◌}
use Rattle.hoa_lexer.specs.declared.token.Token.{Token}
use Rattle.hoa_lexer.specs.declared.token.Token.TheVariants as token
use Rattle.hoa_parser.proofs.grammar.HeaderNames.{same}
use Rattle.hoa_parser.specs.inner.Expecting.{Atom, Factor, Refuses, Takes, label_word, move, set_parts}
use Rattle.hoa_parser.specs.Phrases.{Lnot, LnotWithin, alias, false_label, lnot_meaning, lnot_tokens, proposition, true_label}
use Rattle.hoa_parser.specs.inner.Parsing.{is_end}
use Rattle.hoa_parser.specs.inner.RuleReads.{atom_of, plain_atom_of, sign_at}
use Rattle.hoa_parser.specs.Raw as raw
use Rattle.hoa_parser.specs.Raw.{RawTree}
use Rattle.aut_base.specs.Text.{same_text}
use Rattle.aut_base.specs.declared.limit.TheConstants.{MOST_DEPTH}
use Rattle.hoa_parser.specs.declared.parse.condition.Sign.{Sign}
use Rattle.hoa_parser.specs.declared.parse.condition.Sign.TheVariants as sign

-- the token is a label of its own
pub record IsAtom (depth : ℕ) (z : Token) (t : RawTree) : Type 0 where
  pub phrase : Lnot
  pub within : LnotWithin MOST_DEPTH depth phrase
  pub spelled : lnot_tokens phrase ≡ z ∷ []
  pub means : t ≡ lnot_meaning phrase
  pub taken : move (Factor depth) z ≡ Takes []
  pub goes_on : is_end z ≡ false

-- and where it is no alias
pub plain_atom : (z : Token) → ((name : List ℕ) → z ≢ token.Alias name) → atom_of z ≡ plain_atom_of z
plain_atom (token.Alias name) not_alias = absurd (not_alias name refl)
plain_atom z not_alias = refl

same_some : (t u : RawTree) → Some u ≡ Some t → t ≡ u
same_some t u e = cc

word_atom : (depth : ℕ) (word : List ℕ) (t : RawTree) (a b : Bool) → same_text word (codes "t") ≡ a → same_text word (codes "f") ≡ b
    → cond a (Some raw.True) (cond b (Some raw.False) None) ≡ Some t → IsAtom depth (token.Identifier word) t
word_atom depth word t true b p q e = record {
  phrase = true_label;
  within = tt;
  spelled = ap (λ (w : List ℕ). token.Identifier w ∷ []) (sym (same word (codes "t") p));
  means = same_some t raw.True e;
  taken = ap (λ (x : Bool). cond x (Takes []) (cond (same_text word (codes "f")) (Takes []) Refuses)) p;
  goes_on = refl;
}
word_atom depth word t false true p q e = record {
  phrase = false_label;
  within = tt;
  spelled = ap (λ (w : List ℕ). token.Identifier w ∷ []) (sym (same word (codes "f") q));
  means = same_some t raw.False e;
  taken = ap (λ (x : Bool). cond x (Takes []) (cond (same_text word (codes "f")) (Takes []) Refuses)) p ∙ ap (λ (x : Bool). cond x (Takes []) Refuses) q;
  goes_on = refl;
}
word_atom depth word t false false p q e = absurd (let no : None ≡ Some t = e in cc)

pub atom_found : (depth : ℕ) (z : Token) (t : RawTree) → atom_of z ≡ Some t → IsAtom depth z t
atom_found depth (token.Identifier word) t e = word_atom depth word t (same_text word (codes "t")) (same_text word (codes "f")) refl refl e
atom_found depth (token.Int i) t e = record { phrase = proposition i; within = tt; spelled = refl; means = same_some t (raw.Prop i) e; taken = refl; goes_on = refl }
atom_found depth (token.Alias name) t e = record { phrase = alias name; within = tt; spelled = refl; means = same_some t (raw.Alias name) e; taken = refl; goes_on = refl }
atom_found depth z t e = absurd (let no : None ≡ Some t = e in cc)

no_truth_value : (word : List ℕ) (a b : Bool) → same_text word (codes "t") ≡ a → same_text word (codes "f") ≡ b → cond a (Some raw.True) (cond b (Some raw.False) None) ≡ None
    → label_word word ≡ Refuses
no_truth_value word true b p q e = absurd (let no : Some raw.True ≡ None = e in cc)
no_truth_value word false true p q e = absurd (let no : Some raw.False ≡ None = e in cc)
no_truth_value word false false p q e = ap (λ (x : Bool). cond x (Takes []) (cond (same_text word (codes "f")) (Takes []) Refuses)) p ∙ ap (λ (x : Bool). cond x (Takes []) Refuses) q

pub no_atom : (depth : ℕ) (z : Token) → z ≢ token.Bang → z ≢ token.LeftParen → atom_of z ≡ None → move (Factor depth) z ≡ Refuses
no_atom depth (token.Identifier word) no_bang no_paren e = no_truth_value word (same_text word (codes "t")) (same_text word (codes "f")) refl refl e
no_atom depth (token.Int i) no_bang no_paren e = absurd (let no : Some (raw.Prop i) ≡ None = e in cc)
no_atom depth (token.Alias name) no_bang no_paren e = absurd (let no : Some (raw.Alias name) ≡ None = e in cc)
no_atom depth token.Bang no_bang no_paren e = absurd (no_bang refl)
no_atom depth token.LeftParen no_bang no_paren e = absurd (no_paren refl)
no_atom depth z no_bang no_paren e = refl

-- the word of a sign, and what is expected behind it
abbrev pub sign_word : Sign → List ℕ
sign_word sign.True = codes "t"
sign_word sign.False = codes "f"
sign_word sign.Inf = codes "Inf"
sign_word sign.Fin = codes "Fin"

same_sign : (g h : Sign) → Some h ≡ Some g → h ≡ g
same_sign g h e = cc

word_signs : (word : List ℕ) (g : Sign) (a b c d : Bool) → same_text word (codes "t") ≡ a → same_text word (codes "f") ≡ b → same_text word (codes "Inf") ≡ c → same_text word (codes "Fin") ≡ d
    → cond a (Some sign.True) (cond b (Some sign.False) (cond c (Some sign.Inf) (cond d (Some sign.Fin) None))) ≡ Some g → word ≡ sign_word g
word_signs word g true b c d p q r t e = same word (codes "t") p ∙ ap sign_word (same_sign g sign.True e)
word_signs word g false true c d p q r t e = same word (codes "f") q ∙ ap sign_word (same_sign g sign.False e)
word_signs word g false false true d p q r t e = same word (codes "Inf") r ∙ ap sign_word (same_sign g sign.Inf e)
word_signs word g false false false true p q r t e = same word (codes "Fin") t ∙ ap sign_word (same_sign g sign.Fin e)
word_signs word g false false false false p q r t e = absurd (let no : None ≡ Some g = e in cc)

pub sign_found : (z : Token) (g : Sign) → sign_at z ≡ Some g → z ≡ token.Identifier (sign_word g)
sign_found (token.Identifier word) g e =
    ap token.Identifier (word_signs word g (same_text word (codes "t")) (same_text word (codes "f")) (same_text word (codes "Inf")) (same_text word (codes "Fin")) refl refl refl refl e)
sign_found z g e = absurd (let no : None ≡ Some g = e in cc)

no_word_sign : (word : List ℕ) (a b c d : Bool) → same_text word (codes "t") ≡ a → same_text word (codes "f") ≡ b → same_text word (codes "Inf") ≡ c → same_text word (codes "Fin") ≡ d
    → cond a (Some sign.True) (cond b (Some sign.False) (cond c (Some sign.Inf) (cond d (Some sign.Fin) None))) ≡ None
    → cond a (Takes []) (cond b (Takes []) (cond c (Takes set_parts) (cond d (Takes set_parts) Refuses))) ≡ Refuses
no_word_sign word true b c d p q r t e = absurd (let no : Some sign.True ≡ None = e in cc)
no_word_sign word false true c d p q r t e = absurd (let no : Some sign.False ≡ None = e in cc)
no_word_sign word false false true d p q r t e = absurd (let no : Some sign.Inf ≡ None = e in cc)
no_word_sign word false false false true p q r t e = absurd (let no : Some sign.Fin ≡ None = e in cc)
no_word_sign word false false false false p q r t e = refl

pub no_sign : (depth : ℕ) (z : Token) → z ≢ token.LeftParen → sign_at z ≡ None → move (Atom depth) z ≡ Refuses
no_sign depth (token.Identifier word) no_paren e =
    no_word_sign word (same_text word (codes "t")) (same_text word (codes "f")) (same_text word (codes "Inf")) (same_text word (codes "Fin")) refl refl refl refl e
no_sign depth token.LeftParen no_paren e = absurd (no_paren refl)
no_sign depth z no_paren e = refl
