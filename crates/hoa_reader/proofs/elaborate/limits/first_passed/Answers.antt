use Rattle.std.proofs.Common.{◌≡◌, ◌∙◌, ℕ, false, nat_lt, length, List, refl, sym, ap, arith}
use Rattle.std.proofs.lemmas.Bool.Decides.{nat_tests}
use Rattle.aut_base.specs.declared.limit.TheConstants.{MOST_NAMES, MOST_SETS, MOST_EDGES, MOST_STATES}
use Rattle.hoa_reader.proofs.counting.EdgeCounts.{edge_count}
use Rattle.hoa_reader.proofs.counting.PassedFirst.{passed_first}
use Rattle.hoa_parser.specs.Raw.{written}
use Rattle.hoa_reader.specs.Described.{state_count}
use Rattle.hoa_reader.proofs.description.StatesInRange.{edges_of}
use Rattle.hoa_reader.specs.Validity.{acceptance_of, written_names}
use Rattle.hoa_reader.proofs.elaborate.limits.first_passed.Goals as goal
use Rattle.hoa_reader.proofs.elaborate.limits.first_passed.Goals.{After-has_more_edges, After-set_count, After-state_count}

-- What is known once the sets, the states, the edges are counted: no limit before theirs is passed.
names_within : (c : After-set_count) → nat_lt MOST_NAMES (length (written_names (written c.args.raw.now))) ≡ false
names_within c = ap (λ (ns : List (List ℕ)). nat_lt MOST_NAMES (length ns)) (sym c.requires.parts.names) ∙ grind (arith, nat_tests)

sets_within : (c : After-state_count) → nat_lt MOST_SETS (acceptance_of (written c.args.raw.now)).sets ≡ false
sets_within c = ap (nat_lt MOST_SETS) (sym c.set_count.ensures) ∙ grind (arith, nat_tests)

states_within : (c : After-has_more_edges) → nat_lt MOST_STATES (state_count (written c.args.raw.now)) ≡ false
states_within c = ap (nat_lt MOST_STATES) (sym c.state_count.ensures) ∙ grind (arith, nat_tests)

edges_counted : (c : After-has_more_edges) → c.has_more_edges.result ≡ nat_lt MOST_EDGES (length (edges_of (written c.args.raw.now)))
edges_counted c = c.has_more_edges.ensures ∙ ap (nat_lt MOST_EDGES) (sym (edge_count (written c.args.raw.now) c.requires.valid.1.1.1.1.1.0))

pub returns-then-parts : goal.returns-then-parts
returns-then-parts c =
    passed_first 0 _ (written c.args.raw.now) c.requires.valid refl tt (ap (λ (ns : List (List ℕ)). nat_lt MOST_NAMES (length ns)) (sym c.requires.parts.names) ∙ grind (arith, nat_tests))

pub returns-then-set_count-gt-MOST_SETS : goal.returns-then-set_count-gt-MOST_SETS
returns-then-set_count-gt-MOST_SETS c =
    let at = goal.at.returns-then-set_count-gt-MOST_SETS c in
    passed_first 1 _ (written c.args.raw.now) c.requires.valid refl (names_within at.After-set_count, tt) (ap (nat_lt MOST_SETS) (sym c.set_count.ensures) ∙ grind (arith, nat_tests))

pub returns-then-state_count-from : goal.returns-then-state_count-from
returns-then-state_count-from c =
    let at = goal.at.returns-then-state_count-from c in
    passed_first 2 _ (written c.args.raw.now) c.requires.valid refl (names_within at.After-set_count, (sets_within at.After-state_count, tt))
    (ap (nat_lt MOST_STATES) (sym c.state_count.ensures) ∙ grind (arith, nat_tests))

pub returns-then-has_more_edges : goal.returns-then-has_more_edges
returns-then-has_more_edges c =
    let at = goal.at.returns-then-has_more_edges c in
    passed_first 3 _ (written c.args.raw.now) c.requires.valid refl
    (names_within at.After-set_count, (sets_within at.After-state_count, (states_within at.After-has_more_edges, tt))) (sym (edges_counted at.After-has_more_edges) ∙ c.if-has_more_edges.true)

pub returns-then-grow_too_far : goal.returns-then-grow_too_far
returns-then-grow_too_far c =
    let at = goal.at.returns-then-grow_too_far c in
    let edges = sym (edges_counted at.After-has_more_edges) ∙ c.if-has_more_edges.false in
    passed_first 4 _ (written c.args.raw.now) c.requires.valid refl (names_within at.After-set_count, (sets_within at.After-state_count, (states_within at.After-has_more_edges, (edges, tt))))
    (sym c.grow_too_far.ensures ∙ c.if-grow_too_far.true)

pub returns : goal.returns
returns c =
    let at = goal.at.returns c in
    let edges = sym (edges_counted at.After-has_more_edges) ∙ c.if-has_more_edges.false in
    (names_within at.After-set_count, (sets_within at.After-state_count, (states_within at.After-has_more_edges, (edges, (sym c.grow_too_far.ensures ∙ c.if-grow_too_far.false, tt)))))
