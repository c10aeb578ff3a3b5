-- Lasso words that spell the same infinite word are accepted alike. Proof: an accepting run over the one word goes on along its closed
-- path until it has read the stem and a whole number of cycles of the other word. The closed path, rotated to begin there and repeated
-- often enough, reads a whole number of those cycles as well, and has the same edges.
use Rattle.std.proofs.Common.{◌≡◌, ◌∙◌, ℕ, ◌+◌, ◌-◌, ◌*◌, ◌<◌, ◌≤◌, List, ◌++◌, length, take, drop, Option, refl, sym, ap, subst, arith}
use Rattle.std.proofs.Math.Nat.{le-mul_of_pos_right}
use Rattle.std.proofs.lemmas.List.{length-append, length-drop, length-take-le, take-append-drop}
use Rattle.aut_base.specs.Acceptance.{Accepts, SameWordSameVerdict}
use Rattle.aut_base.specs.Automaton.{LabelledEdge, Automaton}
use Rattle.aut_base.specs.Word.{NameSet, copies, letter_at, SpellsSame}
use Rattle.aut_base.proofs.lists.Copies.{length-copies}
use Rattle.aut_base.proofs.words.SameEdges.{met_alike, turned_alike}
use Rattle.aut_base.proofs.words.Spelled.{word_letter, round_letter}
use Rattle.aut_base.proofs.runs.LassoRuns.{accepts_of, marks_of}
use Rattle.aut_base.specs.Runs.{LassoRun}
use Rattle.aut_base.proofs.runs.Walks.{Reads, Agrees, as_long, reads_word, reads_path, ends, join, split_first, split_second, repeated}

word_agrees : (w : ℕ → Option NameSet) (u v : List NameSet) (i : ℕ) → ((n : ℕ) → w n ≡ letter_at u v n) → 0 < length v → Agrees w 0 (u ++ copies i v)
word_agrees w u v i spells some k within =
    let at : 0 + k ≡ k = omega arith in
    let long = length-append u (copies i v) in
    let times = length-copies i v in
    ap w at ∙ (spells k ∙ word_letter u v i k some (omega arith))

round_agrees : (w : ℕ → Option NameSet) (u v : List NameSet) (s j : ℕ) → ((n : ℕ) → w n ≡ letter_at u v n) → 0 < length v → Agrees w (length u + s * length v) (copies j v)
round_agrees w u v s j spells some k within =
    let times = length-copies j v in
    spells (length u + s * length v + k) ∙ round_letter u v s j k _ some (omega arith) (omega arith)

-- The position at which the closed path over the second word begins: `wait` steps after position o, where the word's stem of x letters
-- and its cycle of y letters, `stem_rounds` times, were read. A closed path of `size` edges reads whole cycles if it is repeated `times` times.
record Moment (o size x y : ℕ) : Type 0 where
  stem_rounds : ℕ
  wait : ℕ
  times : ℕ
  cycle_rounds : ℕ
  at : o + wait ≡ x + stem_rounds * y
  enough : wait ≤ times * size
  whole : times * size ≡ cycle_rounds * y
  some_times : 0 < times
  some_rounds : 0 < cycle_rounds

moment : (o size x y : ℕ) → 0 < size → 0 < y → Moment o size x y
moment o size x y some_size some_y =
    let wait = x + o * y - o in
    let later : o ≤ o * y = le-mul_of_pos_right o some_y in
    let wide : wait + 1 ≤ (wait + 1) * y = le-mul_of_pos_right (wait + 1) some_y in
    let wider : (wait + 1) * y ≤ (wait + 1) * y * size = le-mul_of_pos_right ((wait + 1) * y) some_size in
    let long : wait + 1 ≤ (wait + 1) * size = le-mul_of_pos_right (wait + 1) some_size in
    record {
      stem_rounds = o;
      wait = wait;
      times = (wait + 1) * y;
      cycle_rounds = (wait + 1) * size;
      at = omega arith;
      enough = omega arith;
      whole = omega arith;
      some_times = omega arith;
      some_rounds = omega arith;
    }

-- A closed path, followed for `wait` steps and rotated to begin there.
record Turned (a : Automaton) (w : ℕ → Option NameSet) (n q wait : ℕ) (all : List LabelledEdge) : Type 0 where
  here : ℕ
  on : Reads a w n q (take wait all) here
  round : Reads a w (n + wait) here (drop wait all ++ take wait all) here

turn : (a : Automaton) (w : ℕ → Option NameSet) (n m q wait : ℕ) (all : List LabelledEdge) → wait ≤ length all → m ≡ n + length all → Reads a w n q all q → Reads a w m q all q
    → Turned a w n q wait all
turn a w n m q wait all enough at first again =
    let front = take wait all in
    let back = drop wait all in
    let parts : front ++ back ≡ all = take-append-drop wait all in
    let long : length front ≡ wait = length-take-le wait all enough in
    let left : length back ≡ length all - wait = length-drop wait all in
    let P : ℕ → List LabelledEdge → Type 0 = λ t es. Reads a w t q es q in
    let first' : Reads a w n q (front ++ back) q = subst (P n) (sym parts) first in
    let again' : Reads a w m q (front ++ back) q = subst (P m) (sym parts) again in
    record {
      here = ends q front;
      on = split_first a w n q q front back first';
      round = join a w (n + wait) m (ends q front) q (ends q front) back front (omega arith) (split_second a w n (n + wait) q q front back (omega arith) first')
          (split_first a w m q q front back again');
    }

-- An accepting run as paths over the infinite word `w`, which has period l from position o on: a path leads to a closed path, which
-- can be followed from each of those positions.
record Looped (a : Automaton) (u v : List NameSet) (r : Accepts a u v) (w : ℕ → Option NameSet) (o l : ℕ) : Type 0 where
  long_way : length r.path_edges ≡ o + r.stem_rounds * l
  long_cycle : length r.cycle ≡ r.cycle_rounds * l
  some_cycle : 0 < length r.cycle
  leads : Reads a w 0 r.start r.path_edges r.state
  round : (s : ℕ) → Reads a w (o + s * l) r.state r.cycle r.state

looped : (a : Automaton) (u v : List NameSet) → 0 < length v → (r : Accepts a u v) → Looped a u v r (letter_at u v) (length u) (length v)
looped a u v some r =
    let w : ℕ → Option NameSet = letter_at u v in
    let wide : r.cycle_rounds ≤ r.cycle_rounds * length v = le-mul_of_pos_right r.cycle_rounds some in
    let positive : 0 < r.cycle_rounds = r.positive in
    let word : length (u ++ copies r.stem_rounds v) ≡ length u + r.stem_rounds * length v = length-append u (copies r.stem_rounds v) ∙ ap (λ k. length u + k) (length-copies r.stem_rounds v) in
    let long : length r.cycle ≡ r.cycle_rounds * length v = as_long a r.state (copies r.cycle_rounds v) r.cycle r.state r.returns ∙ length-copies r.cycle_rounds v in
    record {
      long_way = as_long a r.start (u ++ copies r.stem_rounds v) r.path_edges r.state r.leads ∙ word;
      long_cycle = long;
      some_cycle = omega arith;
      leads = reads_word a w 0 r.start (u ++ copies r.stem_rounds v) r.path_edges r.state (word_agrees w u v r.stem_rounds (λ n. refl) some) r.leads;
      round = λ s. reads_word a w (length u + s * length v) r.state (copies r.cycle_rounds v) r.cycle r.state (round_agrees w u v s r.cycle_rounds (λ n. refl) some) r.returns;
    }

-- the closed path, repeated `times` times and rotated
turned : (a : Automaton) (u v : List NameSet) (r : Accepts a u v) (w : ℕ → Option NameSet) (o l wait times : ℕ) (g : Looped a u v r w o l) → wait ≤ times * length r.cycle
    → Turned a w (o + r.stem_rounds * l) r.state wait (copies times r.cycle)
turned a u v r w o l wait times g enough =
    let all = copies times r.cycle in
    let long : length all ≡ times * length r.cycle = length-copies times r.cycle in
    let long' : times * length r.cycle ≡ times * (r.cycle_rounds * l) = ap (λ k. times * k) g.long_cycle in
    let many = repeated a w o l r.cycle_rounds r.state r.cycle g.long_cycle g.round times in
    turn a w (o + r.stem_rounds * l) (o + (r.stem_rounds + times * r.cycle_rounds) * l) r.state wait all (omega arith) (omega arith) (many r.stem_rounds)
    (many (r.stem_rounds + times * r.cycle_rounds))

taken_up : (a : Automaton) (u v : List NameSet) (r : Accepts a u v) (w : ℕ → Option NameSet) (o l : ℕ) (x y : List NameSet) (g : Looped a u v r w o l) → 0 < length y
    → ((n : ℕ) → w n ≡ letter_at x y n) → Moment (o + r.stem_rounds * l) (length r.cycle) (length x) (length y) → Accepts a x y
taken_up a u v r w o l x y g some spells m =
    let all = copies m.times r.cycle in
    let front = take m.wait all in
    let back = drop m.wait all in
    let t = turned a u v r w o l m.wait m.times g m.enough in
    let long_all : length all ≡ m.times * length r.cycle = length-copies m.times r.cycle in
    let long_front : length front ≡ m.wait = length-take-le m.wait all (omega arith) in
    let long_back : length back ≡ length all - m.wait = length-drop m.wait all in
    let word : length (x ++ copies m.stem_rounds y) ≡ length x + m.stem_rounds * length y = length-append x (copies m.stem_rounds y) ∙ ap (λ k. length x + k) (length-copies m.stem_rounds y) in
    let gone : length (copies m.cycle_rounds y) ≡ m.cycle_rounds * length y = length-copies m.cycle_rounds y in
    let P : ℕ → Type 0 = λ n. Reads a w n t.here (back ++ front) t.here in
    let run : LassoRun a x y m.stem_rounds m.cycle_rounds = record {
      start = r.start;
      state = t.here;
      path_edges = r.path_edges ++ front;
      cycle = back ++ front;
      is_start = r.is_start;
      leads = reads_path a w 0 r.start (x ++ copies m.stem_rounds y) (r.path_edges ++ front) t.here (word_agrees w x y m.stem_rounds spells some) (omega (arith, length-append r.path_edges front))
          (join a w 0 (o + r.stem_rounds * l) r.start r.state t.here r.path_edges front (omega arith) g.leads t.on);
      returns = reads_path a w (length x + m.stem_rounds * length y) t.here (copies m.cycle_rounds y) (back ++ front) t.here (round_agrees w x y m.stem_rounds m.cycle_rounds spells some)
          (omega (arith, length-append back front)) (subst P m.at t.round);
    } in
    accepts_of a x y m.stem_rounds m.cycle_rounds run some m.some_rounds
    (met_alike (marks_of (back ++ front)) (marks_of r.cycle) (turned_alike (λ e. e.marks) m.times m.wait r.cycle m.some_times) a.formula ∙ r.meets)

carry : (a : Automaton) (u v x y : List NameSet) → 0 < length v → 0 < length y → SpellsSame u v x y → Accepts a u v → Accepts a x y
carry a u v x y some_v some_y same r =
    let g = looped a u v some_v r in
    taken_up a u v r (letter_at u v) (length u) (length v) x y g some_y same (moment (length u + r.stem_rounds * length v) (length r.cycle) (length x) (length y) g.some_cycle some_y)

pub same_word_same_verdict : SameWordSameVerdict
same_word_same_verdict a u v x y some_v some_y same = (carry a u v x y some_v some_y same, carry a x y u v some_y some_v (λ n. sym (same n)))
