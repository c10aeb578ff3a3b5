-- What can stand may go on to a whole automaton.
use Rattle.std.proofs.Common.{◌≡◌, ℕ, suc, Bool, true, false, cond, List, [], ◌∷◌, ◌++◌, Option, Some, None, refl, sym, ap, ◌∙◌, subst, leb}
use Rattle.std.proofs.lemmas.Bool.{leb-true}
use Rattle.std.proofs.lemmas.List.{append_assoc, append-nil}
use Rattle.hoa_lexer.specs.declared.token.Token.{Token}
use Rattle.hoa_lexer.specs.declared.token.Token.TheVariants as token
use Rattle.hoa_parser.specs.inner.Expecting as part
use Rattle.hoa_parser.specs.inner.Expecting.{Part, TokenUse, Takes, Passes, Refuses, parts_after, after_some, parts_behind, moved, move, open_at}
use Rattle.hoa_parser.specs.Grammar.{IsViable, SpellsAutomaton}
use Rattle.hoa_parser.specs.Phrases.{acc_value_token, automaton_meaning, value_token}
use Rattle.hoa_parser.specs.Phrases.AccValue.{acc_number, acc_word}
use Rattle.hoa_parser.specs.Phrases.Condition.{condition}
use Rattle.hoa_parser.specs.Phrases.Fands.{no_fand, or_fand}
use Rattle.hoa_parser.specs.Phrases.Fatom.{condition_group}
use Rattle.hoa_parser.specs.Phrases.Fatoms.{and_fatom, no_fatom}
use Rattle.hoa_parser.specs.Phrases.Label.{label}
use Rattle.hoa_parser.specs.Phrases.Lands.{no_land, or_land}
use Rattle.hoa_parser.specs.Phrases.Lnot.{alias, group, negated, proposition}
use Rattle.hoa_parser.specs.Phrases.Lnots.{and_lnot, no_lnot}
use Rattle.hoa_parser.specs.Phrases.Value.{number_value, text_value, word_value}
use Rattle.hoa_parser.specs.Raw.{Written}
use Rattle.hoa_parser.proofs.grammar.PhrasesSpell.{phrases_spell}
use Rattle.hoa_parser.proofs.grammar.PartsWritten.{Derives, completable}
use Rattle.hoa_parser.proofs.grammar.LabelsWritten.{Writes, condition_word_writes, has_condition, has_label, label_word_writes, single}
use Rattle.hoa_parser.proofs.grammar.LabelsWritten.{written_alone, written_amp, written_bar, written_group, written_more}
use Rattle.hoa_parser.proofs.grammar.ItemsWritten.{items_write}
use Rattle.hoa_parser.proofs.grammar.StatesWritten.{edges_write, states_write, whole_writes}
use Rattle.aut_base.proofs.lists.Lists.{none_some}

-- what a token writes that begins no such part: nothing, where the part may be left out
passed_writes : (most : ℕ) (p : Part) → Writes most p token.Abort (move p token.Abort)
passed_writes most part.MoreNumbers = record { phrase = []; keeps = tt; spelled = refl }
passed_writes most part.MaybeQuoted = record { phrase = None; keeps = tt; spelled = refl }
passed_writes most part.Strings = record { phrase = []; keeps = tt; spelled = refl }
passed_writes most part.Words = record { phrase = []; keeps = tt; spelled = refl }
passed_writes most part.AccValues = record { phrase = []; keeps = tt; spelled = refl }
passed_writes most part.Values = record { phrase = []; keeps = tt; spelled = refl }
passed_writes most (part.Factors depth) = record { phrase = no_lnot; keeps = tt; spelled = refl }
passed_writes most (part.Products depth) = record { phrase = no_land; keeps = tt; spelled = refl }
passed_writes most (part.Atoms depth) = record { phrase = no_fatom; keeps = tt; spelled = refl }
passed_writes most (part.Conjunctions depth) = record { phrase = no_fand; keeps = tt; spelled = refl }
passed_writes most part.MaybeBang = record { phrase = false; keeps = tt; spelled = refl }
passed_writes most part.MaybeLabel = record { phrase = None; keeps = tt; spelled = refl }
passed_writes most part.MaybeMarks = record { phrase = None; keeps = tt; spelled = refl }
passed_writes most part.Edges = record { phrase = []; keeps = tt; spelled = refl }
passed_writes most _ = tt

writes : (most : ℕ) (p : Part) (z : Token) → Writes most p z (move p z)
writes most part.Whole z = whole_writes most z
writes most part.Number (token.Int n) = λ l u d. written_alone n (token.Int n) u refl d
writes most part.MoreNumbers token.Amp = λ l u (v, w, n, d, e). written_amp u v w n (single most part.MoreNumbers w d) e (λ k ks. k ∷ ks) (λ k ks a b. tt) (λ k ks. refl)
writes most part.Quoted (token.Str text) = λ l u d. written_alone text (token.Str text) u refl d
writes most part.MaybeQuoted (token.Str text) = λ l u d. written_alone (Some text) (token.Str text) u refl d
writes most part.Strings (token.Str text) = λ l u d. written_more token.Str text u (single most part.Strings u d)
writes most part.Word (token.Identifier word) = λ l u d. written_alone word (token.Identifier word) u refl d
writes most part.Words (token.Identifier word) = λ l u d. written_more token.Identifier word u (single most part.Words u d)
writes most part.AliasName (token.Alias name) = λ l u d. written_alone name (token.Alias name) u refl d
writes most part.AccValues (token.Int n) = λ l u d. written_more acc_value_token (acc_number n) u (single most part.AccValues u d)
writes most part.AccValues (token.Identifier word) = λ l u d. written_more acc_value_token (acc_word word) u (single most part.AccValues u d)
writes most part.Values (token.Int n) = λ l u d. written_more value_token (number_value n) u (single most part.Values u d)
writes most part.Values (token.Str text) = λ l u d. written_more value_token (text_value text) u (single most part.Values u d)
writes most part.Values (token.Identifier word) = λ l u d. written_more value_token (word_value word) u (single most part.Values u d)
writes most (part.Factor depth) token.Bang = λ l u d.
    let f = single most (part.Factor (suc depth)) u d in
    record { phrase = negated f.phrase; keeps = (l, f.keeps); spelled = ap (λ w. token.Bang ∷ w) f.spelled }
writes most (part.Factor depth) (token.Identifier word) = label_word_writes most depth word
writes most (part.Factor depth) (token.Int n) = λ l u d. record { phrase = proposition n; keeps = tt; spelled = ap (λ w. token.Int n ∷ w) d }
writes most (part.Factor depth) (token.Alias name) = λ l u d. record { phrase = alias name; keeps = tt; spelled = ap (λ w. token.Alias name ∷ w) d }
writes most (part.Factor depth) token.LeftParen = λ l u d.
    written_group token.LeftParen token.RightParen u (has_label most (suc depth) (part.ClosingParen ∷ []) u d) (single most part.ClosingParen) (λ f fs ls. group (label f fs ls)) (λ f fs ls h. (l, h))
    (λ f fs ls. refl)
writes most (part.Factors depth) token.Amp = λ l u (v, w, f, d, e). written_amp u v w f (single most (part.Factors depth) w d) e and_lnot (λ f fs h k. (h, k)) (λ f fs. refl)
writes most (part.Products depth) token.Bar = λ l u d. written_bar most u (has_label most depth [] u d) or_land (λ f fs ls h. h) (λ f fs ls. refl)
writes most (part.Atom depth) (token.Identifier word) = condition_word_writes most depth word
writes most (part.Atom depth) token.LeftParen = λ l u d.
    written_group token.LeftParen token.RightParen u (has_condition most (suc depth) (part.ClosingParen ∷ []) u d) (single most part.ClosingParen) (λ f fs ls. condition_group (condition f fs ls))
    (λ f fs ls h. (l, h)) (λ f fs ls. refl)
writes most (part.Atoms depth) token.Amp = λ l u (v, w, f, d, e). written_amp u v w f (single most (part.Atoms depth) w d) e and_fatom (λ f fs h k. (h, k)) (λ f fs. refl)
writes most (part.Conjunctions depth) token.Bar = λ l u d. written_bar most u (has_condition most depth [] u d) or_fand (λ f fs ls h. h) (λ f fs ls. refl)
writes most part.OpeningParen token.LeftParen = λ l u d. ap (λ w. token.LeftParen ∷ w) d
writes most part.MaybeBang token.Bang = λ l u d. written_alone true token.Bang u refl d
writes most part.ClosingParen token.RightParen = λ l u d. ap (λ w. token.RightParen ∷ w) d
writes most part.ClosingBracket token.RightBracket = λ l u d. ap (λ w. token.RightBracket ∷ w) d
writes most part.Items z = items_write most z
writes most part.States z = states_write most z
writes most part.MaybeLabel token.LeftBracket = λ l u d.
    written_group token.LeftBracket token.RightBracket u (has_label most 0 (part.ClosingBracket ∷ []) u d) (single most part.ClosingBracket) (λ f fs ls. Some (label f fs ls)) (λ f fs ls h. h)
    (λ f fs ls. refl)
writes most part.MaybeMarks token.LeftBrace = λ l u d.
    let f = single most part.Marks u d in
    record { phrase = Some f.phrase; keeps = tt; spelled = ap (λ w. token.LeftBrace ∷ w) f.spelled }
writes most part.Marks (token.Int n) = λ l u d.
    let f = single most part.Marks u d in
    record { phrase = n ∷ f.phrase; keeps = tt; spelled = ap (λ w. token.Int n ∷ w) f.spelled }
writes most part.Marks token.RightBrace = λ l u d. written_alone [] token.RightBrace u refl d
writes most part.Edges z = edges_write most z
writes most p z = passed_writes most p

-- the parts in front of others
record IsSplit (most : ℕ) (ps others : List Part) (u : List Token) : Type 0 where
  before : List Token
  rest : List Token
  first : Derives most ps before
  later : Derives most others rest
  split : u ≡ before ++ rest

divided : (most : ℕ) (ps others : List Part) (u : List Token) → Derives most (ps ++ others) u → IsSplit most ps others u
divided most [] others u d = record { before = []; rest = u; first = refl; later = d; split = refl }
divided most (p ∷ ps) others u (v, w, f, d, e) =
    let x = divided most ps others w d in
    record {
      before = v ++ x.before;
      rest = x.rest;
      first = (v, x.before, f, x.first, refl);
      later = x.later;
      split = e ∙ ap (λ y. v ++ y) x.split ∙ sym (append_assoc v x.before x.rest);
    }

taken_derives : (most : ℕ) (p : Part) (ps others parts : List Part) (z : Token) (u : List Token) (b : Bool) → b ≡ leb (open_at ps) most → Writes most p z (Takes ps)
    → cond b (Some (ps ++ others)) None ≡ Some parts → Derives most parts u → Derives most (p ∷ others) (z ∷ u)
taken_derives most p ps others parts z u true l w e d =
    let same : ps ++ others ≡ parts = cc in
    let x = divided most ps others u (subst (λ (y : List Part). Derives most y u) (sym same) d) in
    (z ∷ x.before, x.rest, w (leb-true (open_at ps) most (sym l)) x.before x.first, x.later, ap (λ y. z ∷ y) x.split)
taken_derives most p ps others parts z u false l w e d = absurd (none_some parts e)

moved_derives : (most : ℕ) (p : Part) (others parts : List Part) (z : Token) (u : List Token) (m : TokenUse) → Writes most p z m → moved most m (parts_behind most others z) others ≡ Some parts
    → Derives most parts u → (parts_behind most others z ≡ Some parts → Derives most others (z ∷ u)) → Derives most (p ∷ others) (z ∷ u)
moved_derives most p others parts z u (Takes ps) w e d later = taken_derives most p ps others parts z u (leb (open_at ps) most) refl w e d
moved_derives most p others parts z u Passes w e d later = ([], z ∷ u, w, later e, refl)
moved_derives most p others parts z u Refuses w e d later = absurd (none_some parts e)

behind_derives : (most : ℕ) (ps parts : List Part) (z : Token) (u : List Token) → parts_behind most ps z ≡ Some parts → Derives most parts u → Derives most ps (z ∷ u)
behind_derives most [] parts z u e d = absurd (none_some parts e)
behind_derives most (p ∷ others) parts z u e d = moved_derives most p others parts z u (move p z) (writes most p z) e d (λ h. behind_derives most others parts z u h d)

step_derives : (most : ℕ) (ps left : List Part) (z : Token) (ts u : List Token) (expected : Option (List Part)) → expected ≡ parts_behind most ps z → after_some most expected ts ≡ Some left
    → ((parts : List Part) → parts_after most parts ts ≡ Some left → Derives most parts (ts ++ u)) → Derives most ps (z ∷ (ts ++ u))
step_derives most ps left z ts u None is e later = absurd (none_some left e)
step_derives most ps left z ts u (Some parts) is e later = behind_derives most ps parts z (ts ++ u) (sym is) (later parts e)

after_derives : (most : ℕ) (ts : List Token) (ps left : List Part) (u : List Token) → parts_after most ps ts ≡ Some left → Derives most left u → Derives most ps (ts ++ u)
after_derives most [] ps left u e d = subst (λ (x : List Part). Derives most x u) (let same : left ≡ ps = cc in same) d
after_derives most (t ∷ ts) ps left u e d = step_derives most ps left t ts u (parts_behind most ps t) refl e (λ parts h. after_derives most ts parts left u h d)

-- Where tokens can stand one after the other, an automaton may begin with them.
pub viable : (most : ℕ) (ts : List Token) (left : List Part) → parts_after most (part.Whole ∷ []) ts ≡ Some left → IsViable most ts
viable most ts left e =
    let rest = completable most left in
    let whole = single most part.Whole (ts ++ rest.tokens) (after_derives most ts (part.Whole ∷ []) left rest.tokens e rest.derives) in
    record {
      more = rest.tokens;
      whole = automaton_meaning whole.phrase;
      spelled = phrases_spell most (ts ++ rest.tokens) (automaton_meaning whole.phrase) (record { phrase = whole.phrase; within = whole.keeps; spelled = whole.spelled; means = refl });
    }

-- Where nothing is expected behind them, they spell one.
pub whole_so : (most : ℕ) (ts : List Token) → parts_after most (part.Whole ∷ []) ts ≡ Some [] → (w : Written) × SpellsAutomaton most ts w
whole_so most ts e =
    let whole = single most part.Whole (ts ++ []) (after_derives most ts (part.Whole ∷ []) [] [] e refl) in
    let w = automaton_meaning whole.phrase in
    (w, phrases_spell most ts w (record { phrase = whole.phrase; within = whole.keeps; spelled = sym (append-nil ts) ∙ whole.spelled; means = refl }))
