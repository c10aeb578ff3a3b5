-- Where more may be open, the same can stand.
use Rattle.std.proofs.Common.{◌≡◌, ℕ, ◌≤◌, Bool, true, false, cond, List, [], ◌∷◌, ◌++◌, Option, Some, None, refl, sym, ap, ◌∙◌, arith, leb}
use Rattle.std.proofs.lemmas.Bool.{leb-true}
use Rattle.hoa_lexer.specs.declared.token.Token.{Token}
use Rattle.hoa_parser.specs.inner.Expecting.{Part, TokenUse, Takes, Passes, Refuses, parts_after, after_some, parts_behind, moved, move, open_at}
use Rattle.hoa_parser.specs.Grammar.{IsViable, SpellsAutomaton}
use Rattle.hoa_parser.specs.Phrases.{AutomatonPhrase, AutomatonWithin, EdgePhrase, ItemPhrase, ItemWithin, Label, OptionalWithin, StatePhrase, StateWithin}
use Rattle.hoa_parser.specs.Phrases.ItemPhrase.{acceptance_item, alias_item}
use Rattle.hoa_parser.specs.Raw.{Written}
use Rattle.hoa_parser.proofs.grammar.HavePhrases.{have_phrases}
use Rattle.hoa_parser.proofs.grammar.PhrasesSpell.{phrases_spell}
use Rattle.hoa_parser.proofs.grammar.PlainConditions.{condition_laxer}
use Rattle.hoa_parser.proofs.grammar.PlainDepths.{label_laxer}
use Rattle.hoa_parser.proofs.grammar.AfterLabels.{opened}
use Rattle.aut_base.proofs.lists.Lists.{none_some}
use Rattle.aut_base.proofs.lists.AllByRecursion.{AllByRecursion-weaker}

-- what is expected

opened_more : (m n : ℕ) (ps others left : List Part) (passed : Option (List Part)) (b : Bool) → b ≡ leb (open_at ps) m → m ≤ n → cond b (Some (ps ++ others)) None ≡ Some left
    → moved n (Takes ps) passed others ≡ Some left
opened_more m n ps others left passed true is l e = opened n ps others passed (omega (arith, leb-true (open_at ps) m (sym is))) ∙ e
opened_more m n ps others left passed false is l e = absurd (none_some left e)

moved_more : (m n : ℕ) (move : TokenUse) (passed passed' : Option (List Part)) (others left : List Part) → m ≤ n → (passed ≡ Some left → passed' ≡ Some left)
    → moved m move passed others ≡ Some left → moved n move passed' others ≡ Some left
moved_more m n (Takes ps) passed passed' others left l later e = opened_more m n ps others left passed' (leb (open_at ps) m) refl l e
moved_more m n Passes passed passed' others left l later e = later e
moved_more m n Refuses passed passed' others left l later e = absurd (none_some left e)

pub behind_more : (m n : ℕ) (ps left : List Part) (z : Token) → m ≤ n → parts_behind m ps z ≡ Some left → parts_behind n ps z ≡ Some left
behind_more m n [] left z l e = e
behind_more m n (p ∷ ps) left z l e = moved_more m n (move p z) (parts_behind m ps z) (parts_behind n ps z) ps left l (behind_more m n ps left z l) e

step_more : (m n : ℕ) (ps left : List Part) (z : Token) (ts : List Token) (expected : Option (List Part)) → expected ≡ parts_behind m ps z → m ≤ n
    → ((parts : List Part) → parts_after m parts ts ≡ Some left → parts_after n parts ts ≡ Some left) → after_some m expected ts ≡ Some left → after_some n (parts_behind n ps z) ts ≡ Some left
step_more m n ps left z ts None is l later e = absurd (none_some left e)
step_more m n ps left z ts (Some parts) is l later e = ap (λ (o : Option (List Part)). after_some n o ts) (behind_more m n ps parts z l (sym is)) ∙ later parts e

pub after_more : (m n : ℕ) (ts : List Token) (ps left : List Part) → m ≤ n → parts_after m ps ts ≡ Some left → parts_after n ps ts ≡ Some left
after_more m n [] ps left l e = e
after_more m n (t ∷ ts) ps left l e = step_more m n ps left t ts (parts_behind m ps t) refl l (λ parts h. after_more m n ts parts left l h) e

-- what is written

item_more : (m n : ℕ) (i : ItemPhrase) → m ≤ n → ItemWithin m i → ItemWithin n i
item_more m n (alias_item name l) k w = label_laxer m n 0 0 l k (omega arith) w
item_more m n (acceptance_item count c) k w = condition_laxer m n 0 0 c k (omega arith) w
item_more m n _ k w = tt

optional_more : (m n : ℕ) (l : Option Label) → m ≤ n → OptionalWithin m l → OptionalWithin n l
optional_more m n None k w = tt
optional_more m n (Some l) k w = label_laxer m n 0 0 l k (omega arith) w

state_more : (m n : ℕ) (s : StatePhrase) → m ≤ n → StateWithin m s → StateWithin n s
state_more m n s k w = (
  optional_more m n s.label k w.0,
  AllByRecursion-weaker (λ (e : EdgePhrase). OptionalWithin m e.label) (λ (e : EdgePhrase). OptionalWithin n e.label) s.edges (λ e h. optional_more m n e.label k h) w.1,
)

within_more : (m n : ℕ) (p : AutomatonPhrase) → m ≤ n → AutomatonWithin m p → AutomatonWithin n p
within_more m n p k w = (
  AllByRecursion-weaker (ItemWithin m) (ItemWithin n) p.items (λ i h. item_more m n i k h) w.0,
  AllByRecursion-weaker (StateWithin m) (StateWithin n) p.states (λ s h. state_more m n s k h) w.1,
)

pub spelled_more : (m n : ℕ) (ts : List Token) (w : Written) → m ≤ n → SpellsAutomaton m ts w → SpellsAutomaton n ts w
spelled_more m n ts w k s =
    let p = have_phrases m ts w s in
    phrases_spell n ts w (record { phrase = p.phrase; within = within_more m n p.phrase k p.within; spelled = p.spelled; means = p.means })

pub viable_more : (m n : ℕ) (ts : List Token) → m ≤ n → IsViable m ts → IsViable n ts
viable_more m n ts k v = record { more = v.more; whole = v.whole; spelled = spelled_more m n (ts ++ v.more) v.whole k v.spelled }
