use Rattle.std.proofs.Common.{◌≢◌, ◌∙◌, ℕ, List, AllPairs, ap, map, subst, sym}
use Rattle.aut_core.specs.SymbolicAutomata.{SymbolicAutomaton, automaton_of}
use Rattle.hoa_parser.specs.Raw.{written, written_item}
use Rattle.hoa_parser.specs.declared.raw.Item.{Item}
use Rattle.hoa_reader.proofs.description.Built.{built, built_one_way, built_parts}
use Rattle.hoa_reader.proofs.description.WellFormed.{valid_is_well_formed}
use Rattle.hoa_reader.proofs.validity.NamesDiffer.{valid_names}
use Rattle.hoa_reader.specs.inner.Headers.{IsHeaderOf, first_names}
use Rattle.hoa_reader.proofs.elaborate.built.Goals as goal

pub header_of-header-requires : goal.header_of-header-requires
header_of-header-requires c =
    let P : List Item → Type 0 = λ is. AllPairs (λ (a : List ℕ) b. a ≢ b) (first_names (map written_item is)) in
    subst P (sym c.in_ok-items.ensures.items) (valid_names (written c.args.raw) c.requires.valid)

pub automaton-requires-clause-parts : goal.automaton-requires-clause-parts
automaton-requires-clause-parts c =
    let header = c.header_of-header.result in
    let head = subst (λ (is : List Item). IsHeaderOf (map written_item is) header) c.in_ok-items.ensures.items c.header_of-header.ensures in
    built_parts (written c.args.raw) header c.in_ok-items.body head c.in_ok-items.ensures.body

pub automaton-requires-clause-letters : goal.automaton-requires-clause-letters
automaton-requires-clause-letters c =
    let header = c.header_of-header.result in
    let head = subst (λ (is : List Item). IsHeaderOf (map written_item is) header) c.in_ok-items.ensures.items c.header_of-header.ensures in
    built_one_way (written c.args.raw) header c.in_ok-items.body head c.in_ok-items.ensures.body

pub returns : goal.returns
returns c =
    let w = written c.args.raw in
    let header = c.header_of-header.result in
    let head = subst (λ (is : List Item). IsHeaderOf (map written_item is) header) c.in_ok-items.ensures.items c.header_of-header.ensures in
    record {
      valid = c.requires.valid;
      within = c.requires.within;
      same = ap (λ (core : SymbolicAutomaton). automaton_of core) c.in_ok-automaton.ensures
          ∙ built w header c.in_ok-items.body head c.in_ok-items.ensures.body;
      formed = valid_is_well_formed w c.requires.valid;
      named = head.name;
    }
