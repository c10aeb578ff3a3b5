-- The generated text: automata over one name, each a ring of states with one edge from every state to the next one and one
-- from the last state to the first.
use Rattle.std.specs.Prelude.{ℕ, ◌+◌, ◌-◌, ◌%◌, ◌==◌, if◌then◌else◌, List, [], ◌∷◌, ◌++◌, codes, flat_map, Some}
use Rattle.std.specs.FinMap.{from_entries}
use Rattle.std.specs.Fmt.{decimal}
use Rattle.std.specs.List.{range_with_len}
use Rattle.aut_base.specs.Text.{line}
use Rattle.aut_io.specs.Outside.{Texts}
use Rattle.aut_io.specs.Seen.{Seen}

-- The last state, and the edge to the first. Only a ring with an odd number of states has a mark there: it accepts the words in
-- which `a` always holds. The others accept nothing.
abbrev pub state_back : ℕ → List ℕ
state_back ring = line (codes "State: " ++ decimal (ring - 1)) ++ line (codes "[0] 0" ++ (if ring % 2 == 1 then codes " {0}" else []))

-- the automaton with so many states, at least one; every state but the last has an edge to the next one
abbrev pub ring_text : ℕ → List ℕ
ring_text ring =
    line (codes "HOA: v1") ++ (line (codes "States: " ++ decimal ring) ++ (line (codes "Start: 0")
    ++ (line (codes "AP: 1 \"a\"") ++ (line (codes "Acceptance: 1 Inf(0)") ++ (line (codes "--BODY--")
    ++ (flat_map (λ state. line (codes "State: " ++ decimal state) ++ line (codes "[0] " ++ decimal (state + 1))) (range_with_len 0 (ring - 1))
    ++ (state_back ring ++ line (codes "--END--"))))))))

-- the name of the generated text
abbrev pub made_name : List ℕ
made_name = codes "made"

-- the generated text under its name, and nothing else: the rings of one to so many states
abbrev pub made_texts : ℕ → Texts
made_texts count = from_entries ((made_name, flat_map ring_text (range_with_len 1 count)) ∷ [])

-- the state that callers see: how many automata the text has, the rest of the open text, and how many times a text was
-- opened
pub record MadeState : Type 0 where
  pub count : ℕ
  pub left : List ℕ
  pub openings : ℕ

-- what contracts of inputs see of it: no call fails
abbrev pub seen_of_made : MadeState → Seen
seen_of_made m = record { texts = Some (made_texts m.count); left = Some m.left; openings = m.openings; open_faults = 0; read_faults = 0 }
