-- The generated text part by part: each part is fixed bytes, a number in decimal, and fixed bytes.
use Rattle.std.specs.Prelude.{ℕ, zero, suc, ◌+◌, ◌-◌, ◌%◌, ◌==◌, if◌then◌else◌, List, [], ◌++◌, codes, flat_map}
use Rattle.std.specs.Fmt.{decimal}
use Rattle.std.specs.List.{range_with_len}
use Rattle.made_stream.specs.Made.{ring_text}
use Rattle.made_stream.specs.declared.made.place.Part.{Part}
use Rattle.made_stream.specs.declared.made.place.Part.TheVariants as part

-- the fixed bytes before the number
abbrev pub part_front : Part → List ℕ
part_front part.Head = codes "HOA: v1\nStates: "
part_front part.State = codes "State: "
part_front part.Edge = codes "[0] "
part_front part.Last = codes "[0] "

-- the number in a part, for a ring of `ring` states and a part about `state`
abbrev pub part_number : ℕ → ℕ → Part → ℕ
part_number ring state part.Head = ring
part_number ring state part.State = state
part_number ring state part.Edge = state
part_number ring state part.Last = 0

-- the fixed bytes after the number
abbrev pub part_back : ℕ → Part → List ℕ
part_back ring part.Head = codes "\nStart: 0\nAP: 1 \"a\"\nAcceptance: 1 Inf(0)\n--BODY--\n"
part_back ring part.State = codes "\n"
part_back ring part.Edge = codes "\n"
part_back ring part.Last = if ring % 2 == 1 then codes " {0}\n--END--\n" else codes "\n--END--\n"

-- the bytes of a part
unfoldable pub ring_part_text : ℕ → ℕ → Part → List ℕ
ring_part_text ring state p = part_front p ++ (decimal (part_number ring state p) ++ part_back ring p)

-- the rest of a ring after the line of a state that `more` other states follow
unfoldable pub behind_state : ℕ → ℕ → ℕ → List ℕ
behind_state ring state zero = ring_part_text ring state part.Last
behind_state ring state (suc more) =
    ring_part_text ring (state + 1) part.Edge
    ++ (ring_part_text ring (state + 1) part.State ++ behind_state ring (state + 1) more)

-- the rest of a ring after a part
unfoldable pub behind_part : ℕ → ℕ → Part → List ℕ
behind_part ring state part.Head = ring_part_text ring state part.State ++ behind_state ring state (ring - 1 - state)
behind_part ring state part.State = behind_state ring state (ring - 1 - state)
behind_part ring state part.Edge = ring_part_text ring state part.State ++ behind_state ring state (ring - 1 - state)
behind_part ring state part.Last = []

-- the rings after this one, up to the last
unfoldable pub rings_behind : ℕ → ℕ → List ℕ
rings_behind count ring = flat_map ring_text (range_with_len (ring + 1) (count - ring))
