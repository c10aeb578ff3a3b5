-- A reached accepting closed path gives an accepted word, and an accepted word such a path.
use Rattle.std.proofs.Common.{◌≡◌, ◌∙◌, ◌↔◌, ℕ, zero, suc, ◌+◌, ◌*◌, ◌<◌, ◌≤◌, List, [], ◌∷◌, ◌++◌, length, get_or, map, Option, None, Some, slice_get, inl, inr, ap, arith, refl, subst, sym}
use Rattle.std.specs.List.{All, Contains}
use Rattle.std.specs.Prelude.{MatchOption}
use Rattle.std.proofs.lemmas.List.{append-nil, length-append}
use Rattle.std.proofs.lemmas.List.Elements.{All-append, All-contains, All-nil, Contains-append_cases, Contains-append_left, Contains-append_right}
use Rattle.std.proofs.lemmas.Option.{get_or_from_slice_get, slice_get-get_or, slice_get_within}
use Rattle.std.proofs.Math.Nat.{mul-le-mul_left}
use Rattle.aut_base.proofs.lists.Members.{each_there, none_there, there_map}
use Rattle.aut_base.proofs.words.Spelled.{word_letter}
use Rattle.aut_base.proofs.runs.Walks.{as_long}
use Rattle.aut_base.specs.Acceptance.{Accepts, IsPath}
use Rattle.aut_base.specs.Formula.{FormulaTree, met}
use Rattle.aut_base.specs.Word.{IsReduced, NameSet, SpellsSame, copies}
use Rattle.aut_base.specs.declared.letter.Lasso.{Lasso}
use Rattle.aut_core.specs.SymbolicAutomata.{SymbolicAutomaton, IsWellFormedSymbolic, automaton_of}
use Rattle.aut_core.specs.declared.link.Link.{Link}
use Rattle.graph_walk.specs.Reach.{ReachedFrom}
use Rattle.graph_walk.proofs.WalkLemmas.{reach_none, reach_then}
use Rattle.lasso_emptiness.specs.Emptiness.{AcceptsNothing, IsAcceptedWord}
use Rattle.lasso_emptiness.specs.declared.live.EdgeRef.{EdgeRef}
use Rattle.lasso_emptiness.specs.inner.AcceptingComponents.{Finds, IsAcceptingComponent}
use Rattle.lasso_emptiness.specs.inner.Edges.{arc_of}
use Rattle.lasso_emptiness.specs.inner.Letters.{AreLettersOf, IsOwnWord}
use Rattle.lasso_emptiness.specs.inner.Live.{ArePassable, AreReachedEdges, IsPassable, IsReachedEdge}
use Rattle.lasso_emptiness.specs.inner.Tours.{IsStem, listed_edge}
use Rattle.lasso_emptiness.specs.inner.Trails.{IsAccepting, IsTrail, NoneAccepting}
use Rattle.lasso_emptiness.proofs.trails.Lettered.{letters_long, letters_own, reads_along, trail_of}
use Rattle.lasso_emptiness.proofs.trails.Trails.{trail_weaker}
use Rattle.word_syntax.specs.Printing.{HoldsOnly}

-- the first edge of a path begins where the path does
pub head_from : (Kind : EdgeRef → Type 0) (p q : ℕ) (es : List EdgeRef) → 0 < length es → IsTrail Kind p es q → (listed_edge es 0).from ≡ p
head_from Kind p q [] some trail = absurd (omega arith)
head_from Kind p q (e ∷ es) some trail = trail.1

-- the word of a stem and a closed path
pub own_word : (c : SymbolicAutomaton) (passable stem cycle : List EdgeRef) (state : ℕ) (w : Lasso) → state ≡ (listed_edge cycle 0).from → IsStem c.starts passable state stem
    → IsAccepting c.links (IsPassable c) c.formula cycle → AreLettersOf c stem w.stem → AreLettersOf c cycle w.cycle → IsOwnWord (automaton_of c) w
own_word c passable stem cycle state w at leads accepting stem_letters cycle_letters =
    let around = accepting.state in
    let same : state ≡ around = at ∙ head_from (IsPassable c) around around cycle accepting.some accepting.closed in
    let path_edges = reads_along c (Contains passable) leads.start state stem w.stem leads.leads stem_letters in
    let loop = reads_along c (IsPassable c) around around cycle w.cycle accepting.closed cycle_letters in
    let long : length w.cycle ≡ length cycle = letters_long c cycle w.cycle cycle_letters in
    let some : 0 < length cycle = accepting.some in
    record {
      own_names = each_there (HoldsOnly c.names) (w.stem ++ w.cycle) (λ x here. elim (Contains-append_cases w.stem w.cycle x here) [
        | inl left ↦ letters_own c stem w.stem stem_letters x left
        | inr right ↦ letters_own c cycle w.cycle cycle_letters x right
      ]);
      accepts = record {
        endless = omega arith;
        start = leads.start;
        state = around;
        stem_rounds = 0;
        cycle_rounds = 1;
        path_edges = path_edges.trees;
        cycle = loop.trees;
        is_start = leads.is_start;
        leads = subst (λ xs. IsPath (automaton_of c) leads.start xs path_edges.trees around) (sym (append-nil w.stem))
            (subst (λ q. IsPath (automaton_of c) leads.start w.stem path_edges.trees q) same path_edges.path);
        positive = omega arith;
        returns = subst (λ xs. IsPath (automaton_of c) around xs loop.trees around) (sym (append-nil w.cycle)) loop.path;
        meets = ap (λ marks. met marks c.formula) loop.marks ∙ accepting.meets;
      };
    }

-- a path from a reached state goes along edges that leave reached states, and its end is reached
pub reached_on : (starts : List ℕ) (edges reached : List EdgeRef) → AreReachedEdges starts edges reached → (p q : ℕ) (es : List EdgeRef) → ReachedFrom (map arc_of edges) starts p
    → IsTrail (Contains edges) p es q → IsTrail (Contains reached) p es q × ReachedFrom (map arc_of edges) starts q
reached_on starts edges reached are p q [] from trail = (trail, subst (ReachedFrom (map arc_of edges) starts) trail from)
reached_on starts edges reached are p q (e ∷ es) from trail =
    let here : ReachedFrom (map arc_of edges) starts e.from = subst (ReachedFrom (map arc_of edges) starts) (sym trail.1) from in
    let next : ReachedFrom (map arc_of edges) starts e.to = record {
      start = here.start;
      listed = here.listed;
      reached = reach_then (map arc_of edges) here.start e.from e.to here.reached (record { walk = arc_of e ∷ []; leads = (there_map arc_of edges e trail.0, refl, refl) });
    } in
    let rest = reached_on starts edges reached are e.to q es next trail.2 in
    ((are.added e trail.0 here, trail.1, rest.0), rest.1)

-- where no closed path along reached edges is accepting, nothing is accepted
pub accepts_nothing : (c : SymbolicAutomaton) → IsWellFormedSymbolic c → (passable reached : List EdgeRef) → ArePassable c passable → AreReachedEdges c.starts passable reached
    → NoneAccepting c.links (Contains reached) c.formula → AcceptsNothing (automaton_of c)
accepts_nothing c is passable reached are picked none u v accepts =
    let path_edges = trail_of c is accepts.start accepts.state (u ++ copies accepts.stem_rounds v) accepts.path_edges accepts.leads in
    let loop = trail_of c is accepts.state accepts.state (copies accepts.cycle_rounds v) accepts.cycle accepts.returns in
    let start : ReachedFrom (map arc_of passable) c.starts accepts.start = record { start = accepts.start; listed = accepts.is_start; reached = reach_none (map arc_of passable) accepts.start } in
    let there = reached_on c.starts passable reached picked accepts.start accepts.state path_edges.edges start
    (trail_weaker (IsPassable c) (Contains passable) are.whole accepts.start accepts.state path_edges.edges path_edges.trail) in
    let around = reached_on c.starts passable reached picked accepts.state accepts.state loop.edges there.1
    (trail_weaker (IsPassable c) (Contains passable) are.whole accepts.state accepts.state loop.edges loop.trail) in
    let long : length accepts.cycle ≡ length (copies accepts.cycle_rounds v) = as_long (automaton_of c) accepts.state (copies accepts.cycle_rounds v) accepts.cycle accepts.state accepts.returns in
    let some : 0 < length (copies accepts.cycle_rounds v) = some_copies accepts.cycle_rounds v accepts.positive accepts.endless in
    let edges_long : length loop.edges ≡ length accepts.cycle = loop.long in
    none loop.edges (record {
      some = omega arith;
      state = accepts.state;
      closed = around.0;
      meets = ap (λ marks. met marks c.formula) (sym loop.marks) ∙ accepts.meets;
    })
  where
    some_copies : (k : ℕ) (v : List NameSet) → 0 < k → 0 < length v → 0 < length (copies k v)
    some_copies zero v positive endless = absurd (omega arith)
    some_copies (suc k) v positive endless = let long = length-append v (copies k v) in omega arith

-- what holds of each letter of a lasso word holds of each letter of any that spells the same infinite word
copies_all : (P : NameSet → Type 0) (k : ℕ) (y : List NameSet) → All P y → All P (copies k y)
copies_all P zero y all = All-nil P
copies_all P (suc k) y all = All-append P y (copies k y) all (copies_all P k y all)

placed_all : (P : NameSet → Type 0) (xs : List NameSet) → ((k : ℕ) (x : NameSet) → slice_get xs k ≡ Some x → P x) → All P xs
placed_all P xs each k d within = each k (get_or xs k d) (slice_get-get_or xs k d within)

all_placed : (P : NameSet → Type 0) (xs : List NameSet) (k : ℕ) (x : NameSet) → All P xs → slice_get xs k ≡ Some x → P x
all_placed P xs k x all is = subst P (get_or_from_slice_get xs k x x is) (all k x (slice_get_within xs k x is))

pub own_same : (P : NameSet → Type 0) (u v x y : List NameSet) → 0 < length v → 0 < length y → SpellsSame u v x y → All P x → All P y → All P (u ++ v)
own_same P u v x y endless endless' same in_stem in_cycle = placed_all P (u ++ v) (λ k z is.
    let within = slice_get_within (u ++ v) k z is in
    let long = length-append u v in
    let few : k < length u + 1 * length v = omega arith in
    let enough : k + 1 ≤ (k + 1) * length y = grown (k + 1) (length y) endless' in
    let inside : k < length x + (k + 1) * length y = omega arith in
    let once : slice_get (u ++ copies 1 v) k ≡ Some z = ap (λ vs. slice_get (u ++ vs) k) (append-nil v) ∙ is in
    let there : slice_get (x ++ copies (k + 1) y) k ≡ Some z = sym (word_letter x y (k + 1) k endless' inside) ∙ sym (same k) ∙ word_letter u v 1 k endless few ∙ once in
    all_placed P (x ++ copies (k + 1) y) k z (All-append P x (copies (k + 1) y) in_stem (copies_all P (k + 1) y in_cycle)) there)
  where
    grown : (a b : ℕ) → 0 < b → a ≤ a * b
    grown a b some = let one : 1 ≤ b = omega arith in omega (arith, mul-le-mul_left a one)

-- the reduced word of an accepted one
pub reduced_word : (c : SymbolicAutomaton) (w new : Lasso) → 0 < length w.cycle → 0 < length new.cycle → IsOwnWord (automaton_of c) w → SpellsSame new.stem new.cycle w.stem w.cycle
    → IsReduced new.stem new.cycle → (Accepts (automaton_of c) new.stem new.cycle ↔ Accepts (automaton_of c) w.stem w.cycle) → IsAcceptedWord (automaton_of c) new
reduced_word c w new endless endless' own same reduced accepts = record {
  reduced = reduced;
  own_names = own_same (HoldsOnly c.names) new.stem new.cycle w.stem w.cycle endless' endless same (front w.stem w.cycle own.own_names) (back w.stem w.cycle own.own_names);
  accepts = accepts.1 own.accepts;
}
  where
    front : (xs ys : List NameSet) → All (HoldsOnly c.names) (xs ++ ys) → All (HoldsOnly c.names) xs
    front xs ys all = each_there (HoldsOnly c.names) xs (λ x here. All-contains (HoldsOnly c.names) (xs ++ ys) x all (Contains-append_left xs ys x here))

    back : (xs ys : List NameSet) → All (HoldsOnly c.names) (xs ++ ys) → All (HoldsOnly c.names) ys
    back xs ys all = each_there (HoldsOnly c.names) ys (λ x here. All-contains (HoldsOnly c.names) (xs ++ ys) x all (Contains-append_right xs ys x here))

-- the answer of a search, for equal arguments
pub finds_in : (links own : List Link) (slice edges : List EdgeRef) (f g : FormulaTree) (found : Option (List EdgeRef)) → links ≡ own → slice ≡ edges → f ≡ g
    → Finds links (Contains slice) f found → Finds own (Contains edges) g found
finds_in links own slice edges f g found links_are edges_are f_is finds =
    subst (λ h. Finds own (Contains edges) h found) f_is (subst (λ es. Finds own (Contains es) f found) edges_are (subst (λ (ls : List Link). Finds ls (Contains slice) f found) links_are finds))

-- a reached edge is one of the edges, and leaves a reached state
pub leaves_reached : (starts : List ℕ) (edges reached : List EdgeRef) → AreReachedEdges starts edges reached → (e : EdgeRef) → Contains reached e
    → Contains edges e × ReachedFrom (map arc_of edges) starts e.from
leaves_reached starts edges reached picked e here = elim (picked.nothing_else e here) [
  | inl old ↦ absurd (none_there e old)
  | inr found ↦ found
]

-- the answer of a search among the reached edges of an automaton
pub component_said : (c : SymbolicAutomaton) → IsWellFormedSymbolic c → (passable reached : List EdgeRef) → ArePassable c passable → AreReachedEdges c.starts passable reached
    → (found : Option (List EdgeRef))
    → Finds c.links (Contains reached) c.formula found → MatchOption found (AcceptsNothing (automaton_of c)) (IsAcceptingComponent c.links (IsReachedEdge c passable) c.formula)
component_said c is passable reached are picked None none = accepts_nothing c is passable reached are picked none
component_said c is passable reached are picked (Some group) carrier = record {
  some = carrier.some;
  kind = λ e here. let there = leaves_reached c.starts passable reached picked e (carrier.kind e here) in record { passable = are.each e there.0; reached = there.1 };
  joined = carrier.joined;
  meets = carrier.meets;
}
