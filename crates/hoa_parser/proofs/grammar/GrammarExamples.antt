-- Lists of tokens, with what they spell, and some that spell nothing.
use Rattle.std.proofs.Common.{ℕ, true, false, [], ◌∷◌, Some, None, refl, ap, arith}
use Rattle.std.specs.Prelude.{codes}
use Rattle.hoa_lexer.specs.declared.token.Token.TheVariants.{HeaderName, Identifier, Int}
use Rattle.hoa_parser.specs.Grammar.{IsViable, SpellsAutomaton}
use Rattle.hoa_parser.specs.Phrases.{AutomatonPhrase, AutomatonWithin, ItemPhrase, StatePhrase, automaton_meaning, automaton_tokens}
use Rattle.hoa_parser.specs.Phrases.Condition.{condition}
use Rattle.hoa_parser.specs.Phrases.Fands.{no_fand, or_fand}
use Rattle.hoa_parser.specs.Phrases.Fatoms.{no_fatom, and_fatom}
use Rattle.hoa_parser.specs.Phrases.Fatom.{false_condition, infinitely, finitely, condition_group}
use Rattle.hoa_parser.specs.Phrases.ItemPhrase.{start_item, alias_item, acceptance_item, tool_item, other_item}
use Rattle.hoa_parser.specs.Phrases.Label.{label}
use Rattle.hoa_parser.specs.Phrases.Lands.{no_land, or_land}
use Rattle.hoa_parser.specs.Phrases.Lnots.{no_lnot, and_lnot}
use Rattle.hoa_parser.specs.Phrases.Lnot.{true_label, proposition, alias, negated, group}
use Rattle.hoa_parser.specs.Phrases.Value.{number_value}
use Rattle.hoa_parser.specs.GrammarExamples.{GrammarExamples, with_state, state_three}
use Rattle.hoa_parser.specs.Raw.{Written}
use Rattle.hoa_parser.proofs.grammar.NoAbort.{no_abort_inside}
use Rattle.hoa_parser.proofs.grammar.OneRaw.{one_raw, whole_goes_no_further}
use Rattle.hoa_parser.proofs.grammar.PhrasesSpell.{automaton_spelled}
use Rattle.hoa_parser.proofs.grammar.Stops.{first_token}

by_phrase : (m : ℕ) (a : AutomatonPhrase) → AutomatonWithin m a → SpellsAutomaton m (automaton_tokens a) (automaton_meaning a)
by_phrase = automaton_spelled

abbrev one_item : ItemPhrase → AutomatonPhrase
one_item p = record { version = codes "v1"; items = p ∷ []; states = [] }

abbrev one_state : StatePhrase → AutomatonPhrase
one_state s = record { version = codes "v1"; items = []; states = s ∷ [] }

abbrev factors_first : AutomatonPhrase
factors_first = one_item (alias_item (codes "a") (label (proposition 0) (and_lnot (proposition 1) no_lnot) (or_land (negated (proposition 2)) no_lnot no_land)))

abbrev three : StatePhrase
three = record {
  label = Some (label (negated (proposition 0)) no_lnot no_land);
  number = 3;
  name = Some (codes "three");
  marks = Some (1 ∷ []);
  edges = record { label = None; to = record { first = 4; others = 5 ∷ [] }; marks = Some (0 ∷ 2 ∷ []) }
      ∷ record { label = Some (label true_label no_lnot no_land); to = record { first = 3; others = [] }; marks = None } ∷ [];
}

spells_three : SpellsAutomaton 1 (with_state state_three) (automaton_meaning (one_state three))
spells_three = by_phrase 1 (one_state three) (tt, ((((omega arith, tt), tt, tt), (tt, ((tt, tt, tt), tt))), tt))

no_opening : (m : ℕ) → IsViable m (Int 0 ∷ []) → ⊥
no_opening m v =
    let p = v.spelled in
    let opening = first_token (Int 0) (HeaderName (codes "HOA")) _ _ p.spelled in
    cc

pub grammar_examples : GrammarExamples
grammar_examples = record {
  factors_first = by_phrase 1 factors_first (((tt, (tt, tt), ((omega arith, tt), tt, tt)), tt), tt);
  not_products_first = λ most s.
      let same = one_raw 1 most _ _ _ (by_phrase 1 factors_first (((tt, (tt, tt), ((omega arith, tt), tt, tt)), tt), tt)) s in
      let items = ap (λ (w : Written). w.items) same in
      cc;
  in_parentheses = by_phrase 1
      (one_item (alias_item (codes "b") (label (group (label (proposition 0) no_lnot (or_land (alias (codes "a")) no_lnot no_land))) (and_lnot true_label no_lnot) no_land)))
      ((((omega arith, (tt, tt, (tt, tt, tt))), (tt, tt), tt), tt), tt);
  condition = by_phrase 1
      (one_item (acceptance_item 2 (condition (infinitely 0 false) (and_fatom (condition_group (condition (finitely 1 true) no_fatom (or_fand false_condition no_fatom no_fand))) no_fatom) no_fand)))
      (((tt, ((omega arith, (tt, tt, (tt, tt, tt))), tt), tt), tt), tt);
  start = by_phrase 0 (one_item (start_item (record { first = 0; others = 1 ∷ [] }))) ((tt, tt), tt);
  dropped = by_phrase 0 (one_item (tool_item (codes "ltl") (Some (codes "2")))) ((tt, tt), tt);
  other = by_phrase 0 (one_item (other_item (codes "controllable-AP") refl (number_value 0 ∷ []))) ((tt, tt), tt);
  state = spells_three;
  no_opening = no_opening;
  no_abort = λ m v. no_abort_inside m (HeaderName (codes "HOA") ∷ Identifier (codes "v1") ∷ []) [] v;
  no_more = λ m v. let none = whole_goes_no_further 1 m (with_state state_three) (HeaderName (codes "HOA") ∷ []) _ spells_three v in cc;
}
