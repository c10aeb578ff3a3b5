use Rattle.std.proofs.Common.{◌≡◌, ◌∙◌, ◌++◌, max, map, length, List, [], ℕ, ap, arith, get_or, sym}
use Rattle.std.specs.Prelude.{filter_map, flat_map}
use Rattle.hoa_parser.specs.Raw.{written, written_item, written_state}
use Rattle.hoa_parser.specs.declared.raw.Item.{Item}
use Rattle.hoa_parser.specs.declared.raw.RawState.{RawState}
use Rattle.hoa_reader.proofs.counting.AfterAll.{after_all-append}
use Rattle.hoa_reader.proofs.counting.BodySums.{body_after}
use Rattle.hoa_reader.specs.inner.Numbers.{after_all}
use Rattle.hoa_reader.specs.Validity.{acceptance_item, alias_item, body_labels, names_item, start_item, starts_written, written_names}
use Rattle.hoa_reader.specs.declared.elaborate.sums.Sums.{Sums}
use Rattle.hoa_reader.specs.inner.PickedOut.{edge_targets, no_acceptance, numbers, starts_named}
use Rattle.hoa_reader.specs.inner.Rising.{rises_from}
use Rattle.hoa_reader.specs.inner.Sums.{body_sums}
use Rattle.hoa_reader.proofs.elaborate.parts.parts_of.Goals as goal

pub returns : goal.returns
returns c =
    let w = written c.args.raw.now in
    let items = c.as_slice-items.ensures in
    let states = c.as_slice-states.ensures in
    let names : c.names_of-names.result.now ≡ written_names w = c.names_of-names.ensures ∙ ap (λ (is : List Item). get_or (filter_map names_item (map written_item is)) 0 []) items in
    let sums : c.body_sums-sums.result ≡ body_sums (length (written_names w)) w.states =
    c.body_sums-sums.ensures ∙ (λ i. body_sums (length (names i)) (map written_state (states i))) in
    let starts : map (λ s. s.now) c.in_ok-starts.starts.items ≡ starts_written w = c.in_ok-starts.ensures ∙ ap (λ (is : List Item). filter_map start_item (map written_item is)) items in
    let named : starts_named c.as_slice.result.now ≡ flat_map (λ (q : List ℕ). q) (starts_written w) =
    ap starts_named c.as_slice.ensures.value ∙ ap (flat_map (λ (q : List ℕ). q)) starts in
    let started : after_all (starts_named c.as_slice.result.now) ≡ after_all (flat_map (λ (q : List ℕ). q) (starts_written w)) = ap after_all named in
    let body : c.body_sums-sums.result.after ≡ max (after_all (numbers w.states)) (after_all (edge_targets w.states)) =
    ap (λ (s : Sums). s.after) sums ∙ sym (body_after (length (written_names w)) w.states) in
    let first = after_all-append (flat_map (λ (q : List ℕ). q) (starts_written w)) (numbers w.states ++ edge_targets w.states) in
    let second = after_all-append (numbers w.states) (edge_targets w.states) in
    record {
      names = names;
      acceptance = c.acceptance_of.ensures ∙ ap (λ (is : List Item). get_or (filter_map acceptance_item (map written_item is)) 0 no_acceptance) items;
      defs = c.in_ok-aliases_of.ensures ∙ ap (λ (is : List Item). filter_map alias_item (map written_item is)) items;
      starts = starts;
      sums = sums;
      labels = λ some. c.in_ok-labels_with_aliases.ensures some ∙ ap (λ (ss : List RawState). body_labels (map written_state ss)) states;
      after = omega (arith, c.after_starts-after.ensures, started, body, first, second);
      rising = c.numbers_rise.ensures ∙ ap (λ (ss : List RawState). rises_from 0 (numbers (map written_state ss))) states;
    }
