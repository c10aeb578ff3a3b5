-- A token that is taken, and what is written behind it, write the part that takes it: labels and conditions.
use Rattle.std.proofs.Common.{◌≡◌, ℕ, ◌≤◌, Bool, List, [], ◌∷◌, ◌++◌, map, cond, refl, sym, ap, ◌∙◌, subst}
use Rattle.std.specs.Prelude.{codes}
use Rattle.std.proofs.lemmas.List.{append_assoc, append-nil}
use Rattle.hoa_lexer.specs.declared.token.Token.{Token}
use Rattle.hoa_lexer.specs.declared.token.Token.TheVariants as token
use Rattle.hoa_parser.specs.inner.Expecting as part
use Rattle.hoa_parser.specs.inner.Expecting.{Part, TokenUse, Takes, Passes, Refuses, open_at, expected_label, condition_parts, set_parts, label_word, condition_word}
use Rattle.hoa_parser.specs.Grammar.{bang_tokens, set_tokens}
use Rattle.hoa_parser.specs.Phrases.{FandsWithin, FatomWithin, FatomsWithin, LandsWithin, LnotWithin, LnotsWithin, fands_tokens, fatom_tokens, fatoms_tokens}
use Rattle.hoa_parser.specs.Phrases.{lands_tokens, lnot_tokens, lnots_tokens}
use Rattle.hoa_parser.specs.Phrases.Fatom.{false_condition, finitely, infinitely, true_condition}
use Rattle.hoa_parser.specs.Phrases.Lnot.{false_label, true_label}
use Rattle.aut_base.specs.Text.{same_text}
use Rattle.hoa_parser.proofs.grammar.PartsWritten.{Derives, Fills, IsPlain, IsWritten}
use Rattle.hoa_parser.proofs.grammar.HeaderNames.{same}
use Rattle.aut_base.proofs.numbers.Truth.{cond_either}

-- what is so of a move: what is taken writes the part, and what is passed stands behind nothing
abbrev pub Writes : ℕ → Part → Token → TokenUse → Type 0
Writes most p z (Takes ps) = open_at ps ≤ most → (u : List Token) → Derives most ps u → Fills most p (z ∷ u)
Writes most p z Passes = Fills most p []
Writes most p z Refuses = Unit {0}

pub joined : (u v w v' w' : List Token) → u ≡ v ++ w → v ≡ v' → w ≡ w' → u ≡ v' ++ w'
joined u v w v' w' e f g = e ∙ ap (λ x. x ++ w) f ∙ ap (λ x. v' ++ x) g

pub single : (most : ℕ) (p : Part) (u : List Token) → Derives most (p ∷ []) u → Fills most p u
single most p u d = subst (Fills most p) (sym (d.4 ∙ ap (λ w. d.0 ++ w) d.3 ∙ append-nil d.0)) d.2

-- a single token that is all of a phrase
pub written_alone : {V : Type 0} {tokens : V → List Token} (v : V) (z : Token) (u : List Token) → z ∷ [] ≡ tokens v → u ≡ [] → IsPlain V tokens (z ∷ u)
written_alone v z u same d = record { phrase = v; keeps = tt; spelled = ap (λ w. z ∷ w) d ∙ same }

-- a token before others of its list
pub written_more : {V : Type 0} (spelled : V → Token) (v : V) (u : List Token) → IsPlain (List V) (map spelled) u → IsPlain (List V) (map spelled) (spelled v ∷ u)
written_more spelled v u f = record { phrase = v ∷ f.phrase; keeps = tt; spelled = ap (λ w. spelled v ∷ w) f.spelled }

-- a word that the part takes, or else another one
word_or : (most : ℕ) (p : Part) (word known : List ℕ) (ps : List Part) (otherwise : TokenUse) → ((u : List Token) → Derives most ps u → Fills most p (token.Identifier known ∷ u))
    → Writes most p (token.Identifier word) otherwise → Writes most p (token.Identifier word) (cond (same_text word known) (Takes ps) otherwise)
word_or most p word known ps otherwise one =
    cond_either (Writes most p (token.Identifier word)) (same_text word known) (Takes ps) otherwise
    (λ h l u d. subst (λ (w : List ℕ). Fills most p (token.Identifier w ∷ u)) (sym (same word known h)) (one u d))

-- `&`, and a part before others of its chain
pub written_amp : {X Y : Type 0} {P : X → Type 0} {Q : Y → Type 0} {f : X → List Token} {g : Y → List Token} (u v w : List Token) → IsWritten X P f v → IsWritten Y Q g w → u ≡ v ++ w
    → (join : X → Y → Y) → ((x : X) (y : Y) → P x → Q y → Q (join x y)) → ((x : X) (y : Y) → token.Amp ∷ (f x ++ g y) ≡ g (join x y)) → IsWritten Y Q g (token.Amp ∷ u)
written_amp {f = f} {g = g} u v w one others e join keeps spells = record {
  phrase = join one.phrase others.phrase;
  keeps = keeps one.phrase others.phrase one.keeps others.keeps;
  spelled = ap (λ x. token.Amp ∷ x) (joined u v w (f one.phrase) (g others.phrase) e one.spelled others.spelled) ∙ spells one.phrase others.phrase;
}

-- a first factor, others and more products, and what is written behind them
pub record HasChain {X Y Z : Type 0} (P : X → Type 0) (Q : Y → Type 0) (R : Z → Type 0) (f : X → List Token) (g : Y → List Token) (h : Z → List Token) (Behind : List Token → Type 0)
    (u : List Token) : Type 0 where
  pub first : X
  pub others : Y
  pub more : Z
  pub within : P first × Q others × R more
  pub rest : List Token
  pub behind : Behind rest
  pub split : u ≡ (f first ++ (g others ++ h more)) ++ rest

has_chain : {X Y Z : Type 0} {P : X → Type 0} {Q : Y → Type 0} {R : Z → Type 0} {f : X → List Token} {g : Y → List Token} {h : Z → List Token} {Behind : List Token → Type 0}
    (u v w v' w' v'' w'' : List Token) → IsWritten X P f v → u ≡ v ++ w → IsWritten Y Q g v' → w ≡ v' ++ w' → IsWritten Z R h v'' → w' ≡ v'' ++ w'' → Behind w'' → HasChain P Q R f g h Behind u
has_chain {f = f} {g = g} {h = h} u v w v' w' v'' w'' one e others e' more e'' behind = record {
  first = one.phrase;
  others = others.phrase;
  more = more.phrase;
  within = (one.keeps, others.keeps, more.keeps);
  rest = w'';
  behind = behind;
  split =
      joined u v w (f one.phrase) (g others.phrase ++ (h more.phrase ++ w'')) e one.spelled
      (joined w v' w' (g others.phrase) (h more.phrase ++ w'') e' others.spelled
      (joined w' v'' w'' (h more.phrase) w'' e'' more.spelled refl))
      ∙ ap (λ x. f one.phrase ++ x) (sym (append_assoc (g others.phrase) (h more.phrase) w''))
      ∙ sym (append_assoc (f one.phrase) (g others.phrase ++ h more.phrase) w'');
}

-- a chain in parentheses or in brackets
pub written_group : {X Y Z F : Type 0} {P : X → Type 0} {Q : Y → Type 0} {R : Z → Type 0} {f : X → List Token} {g : Y → List Token} {h : Z → List Token} {K : F → Type 0} {tokens : F → List Token}
    {Behind : List Token → Type 0} (opening closing : Token) (u : List Token) → HasChain P Q R f g h Behind u → ((rest : List Token) → Behind rest → rest ≡ closing ∷ []) → (group : X → Y → Z → F)
    → ((x : X) (y : Y) (z : Z) → P x × Q y × R z → K (group x y z)) → ((x : X) (y : Y) (z : Z) → opening ∷ ((f x ++ (g y ++ h z)) ++ closing ∷ []) ≡ tokens (group x y z))
    → IsWritten F K tokens (opening ∷ u)
written_group {f = f} {g = g} {h = h} opening closing u x closes group keeps spells = record {
  phrase = group x.first x.others x.more;
  keeps = keeps x.first x.others x.more x.within;
  spelled = ap (λ w. opening ∷ w) (x.split ∙ ap (λ w. (f x.first ++ (g x.others ++ h x.more)) ++ w) (closes x.rest x.behind)) ∙ spells x.first x.others x.more;
}

-- `|`, and a chain that goes on to the end
pub written_bar : {X Y Z : Type 0} {P : X → Type 0} {Q : Y → Type 0} {R : Z → Type 0} {f : X → List Token} {g : Y → List Token} {h : Z → List Token} (most : ℕ) (u : List Token)
    → HasChain P Q R f g h (Derives most []) u → (join : X → Y → Z → Z) → ((x : X) (y : Y) (z : Z) → P x × Q y × R z → R (join x y z))
    → ((x : X) (y : Y) (z : Z) → token.Bar ∷ (f x ++ (g y ++ h z)) ≡ h (join x y z)) → IsWritten Z R h (token.Bar ∷ u)
written_bar {f = f} {g = g} {h = h} most u x join keeps spells =
    let whole : List Token = f x.first ++ (g x.others ++ h x.more) in
    record {
      phrase = join x.first x.others x.more;
      keeps = keeps x.first x.others x.more x.within;
      spelled = ap (λ w. token.Bar ∷ w) (x.split ∙ ap (λ w. whole ++ w) x.behind ∙ append-nil whole) ∙ spells x.first x.others x.more;
    }

-- labels

abbrev pub HasLabel : ℕ → ℕ → List Part → List Token → Type 0
HasLabel most depth ps = HasChain (LnotWithin most depth) (LnotsWithin most depth) (LandsWithin most depth) lnot_tokens lnots_tokens lands_tokens (Derives most ps)

pub has_label : (most depth : ℕ) (ps : List Part) (u : List Token) → Derives most (expected_label depth ++ ps) u → HasLabel most depth ps u
has_label most depth ps u (v, w, f, (v', w', fs, (v'', w'', ls, d, e''), e'), e) = has_chain u v w v' w' v'' w'' f e fs e' ls e'' d

pub label_word_writes : (most depth : ℕ) (word : List ℕ) → Writes most (part.Factor depth) (token.Identifier word) (label_word word)
label_word_writes most depth word =
    word_or most (part.Factor depth) word (codes "t") [] _ (λ u d. record { phrase = true_label; keeps = tt; spelled = ap (λ w. token.Identifier (codes "t") ∷ w) d })
    (word_or most (part.Factor depth) word (codes "f") [] Refuses (λ u d. record { phrase = false_label; keeps = tt; spelled = ap (λ w. token.Identifier (codes "f") ∷ w) d }) tt)

-- conditions

abbrev pub HasCondition : ℕ → ℕ → List Part → List Token → Type 0
HasCondition most depth ps = HasChain (FatomWithin most depth) (FatomsWithin most depth) (FandsWithin most depth) fatom_tokens fatoms_tokens fands_tokens (Derives most ps)

pub has_condition : (most depth : ℕ) (ps : List Part) (u : List Token) → Derives most (condition_parts depth ++ ps) u → HasCondition most depth ps u
has_condition most depth ps u (v, w, f, (v', w', fs, (v'', w'', ls, d, e''), e'), e) = has_chain u v w v' w' v'' w'' f e fs e' ls e'' d

record HasSet (most : ℕ) (u : List Token) : Type 0 where
  set : ℕ
  neg : Bool
  split : u ≡ set_tokens set neg

has_set : (most : ℕ) (u : List Token) → Derives most set_parts u → HasSet most u
has_set most u (v, w, opening, (v', w', bang, (v'', w'', n, d, e''), e'), e) =
    let close : w'' ≡ token.RightParen ∷ [] = single most part.ClosingParen w'' d in
    record {
      set = n.phrase;
      neg = bang.phrase;
      split =
          joined u v w (token.LeftParen ∷ []) (bang_tokens bang.phrase ++ token.Int n.phrase ∷ token.RightParen ∷ []) e opening
          (joined w v' w' (bang_tokens bang.phrase) (token.Int n.phrase ∷ token.RightParen ∷ []) e' bang.spelled
          (joined w' v'' w'' (token.Int n.phrase ∷ []) (token.RightParen ∷ []) e'' n.spelled close));
    }

pub condition_word_writes : (most depth : ℕ) (word : List ℕ) → Writes most (part.Atom depth) (token.Identifier word) (condition_word word)
condition_word_writes most depth word =
    word_or most (part.Atom depth) word (codes "t") [] _ (λ u d. record { phrase = true_condition; keeps = tt; spelled = ap (λ w. token.Identifier (codes "t") ∷ w) d })
    (word_or most (part.Atom depth) word (codes "f") [] _ (λ u d. record { phrase = false_condition; keeps = tt; spelled = ap (λ w. token.Identifier (codes "f") ∷ w) d })
    (word_or most (part.Atom depth) word (codes "Inf") set_parts _
    (λ u d. let x = has_set most u d in record { phrase = infinitely x.set x.neg; keeps = tt; spelled = ap (λ w. token.Identifier (codes "Inf") ∷ w) x.split })
    (word_or most (part.Atom depth) word (codes "Fin") set_parts Refuses
    (λ u d. let x = has_set most u d in record { phrase = finitely x.set x.neg; keeps = tt; spelled = ap (λ w. token.Identifier (codes "Fin") ∷ w) x.split }) tt)))
