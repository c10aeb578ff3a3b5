-- The text of the rings, part by part.
use Rattle.std.proofs.Common.{◌≡◌, ℕ, zero, suc, ◌+◌, ◌-◌, ◌%◌, ◌<◌, ◌≤◌, ◌==◌, Bool, true, false, cond, List, [], ◌++◌, Some, length, drop}
use Rattle.std.proofs.Common.{slice_get, arith, refl, ap, sym, ◌∙◌, lit<, append_assoc, add-one, append-nil, codes, ◌⊎◌, inl, inr}
use Rattle.std.specs.Fmt.{decimal}
use Rattle.std.specs.List.{flat_map, range_with_len}
use Rattle.std.proofs.lemmas.Fmt.{decimal_digit}
use Rattle.std.proofs.lemmas.List.{drop_all}
use Rattle.std.proofs.Math.Seq.{drop-cons}
use Rattle.aut_base.proofs.lists.Lists.{drop-slice_get}
use Rattle.aut_base.specs.Text.{line}
use Rattle.made_stream.specs.Made.{ring_text, state_back}
use Rattle.made_stream.specs.inner.Parts.{behind_part, behind_state, ring_part_text, rings_behind}
use Rattle.made_stream.specs.declared.made.place.Part.{Part}
use Rattle.made_stream.specs.declared.made.place.Part.TheVariants as part

pub part_not_empty : (ring state : ℕ) (p : Part) → 0 < length (ring_part_text ring state p)
unfolding ring_part_text
part_not_empty ring state part.Head = omega arith
part_not_empty ring state part.State = omega arith
part_not_empty ring state part.Edge = omega arith
part_not_empty ring state part.Last = omega arith

-- the last part, in lines
last_lines :
    (odd : Bool) →
    codes "[0] 0" ++ cond odd (codes " {0}\n--END--\n") (codes "\n--END--\n")
    ≡ line (codes "[0] 0" ++ cond odd (codes " {0}") []) ++ line (codes "--END--")
last_lines true = refl
last_lines false = refl

abbrev edge_back : ℕ → List ℕ
edge_back ring = line (codes "[0] 0" ++ cond (ring % 2 == 1) (codes " {0}") [])

last_text : (ring state : ℕ) → ring_part_text ring state part.Last ≡ edge_back ring ++ line (codes "--END--")
unfolding ring_part_text
last_text ring state = rw (decimal_digit 0 (lit< tt)) (last_lines (ring % 2 == 1))

regrouped : (a b c d : List ℕ) → a ++ (b ++ (c ++ d)) ≡ ((a ++ b) ++ c) ++ d
regrouped a b c d = sym (append_assoc a b (c ++ d)) ∙ sym (append_assoc (a ++ b) c d)

-- a state, and the edge to the next one
abbrev state_on : ℕ → List ℕ
state_on state = line (codes "State: " ++ decimal state) ++ line (codes "[0] " ++ decimal (state + 1))

-- the line of a state, and the rest of the ring after it
states :
    (ring state more : ℕ) → state + more + 1 ≡ ring →
    ring_part_text ring state part.State ++ behind_state ring state more
    ≡ flat_map state_on (range_with_len state more) ++ (state_back ring ++ line (codes "--END--"))
unfolding ring_part_text behind_state
states ring state zero all =
    let e : ring - 1 ≡ state = omega arith in
    let here = line (codes "State: " ++ decimal state) in
    rw e
    (ap (λ t. here ++ t) (last_text ring state)
    ∙ sym (append_assoc here (edge_back ring) (line (codes "--END--"))))
states ring state (suc more) all =
    let here = line (codes "State: " ++ decimal state) in
    let edge = line (codes "[0] " ++ decimal (state + 1)) in
    let others = flat_map state_on (range_with_len (state + 1) more) in
    ap (λ t. here ++ (edge ++ t)) (states ring (state + 1) more (omega arith))
    ∙ regrouped here edge others (state_back ring ++ line (codes "--END--"))

abbrev with_head : ℕ → List ℕ → List ℕ
with_head ring rest =
    line (codes "HOA: v1") ++ (line (codes "States: " ++ decimal ring) ++ (line (codes "Start: 0")
    ++ (line (codes "AP: 1 \"a\"") ++ (line (codes "Acceptance: 1 Inf(0)") ++ (line (codes "--BODY--") ++ rest)))))

-- the first part, in lines
head_lines : (ring : ℕ) (rest : List ℕ) → ring_part_text ring 0 part.Head ++ rest ≡ with_head ring rest
unfolding ring_part_text
head_lines ring rest =
    ap (λ t. codes "HOA: v1\nStates: " ++ t)
    (append_assoc (decimal ring) (codes "\nStart: 0\nAP: 1 \"a\"\nAcceptance: 1 Inf(0)\n--BODY--\n") rest
    ∙ sym (append_assoc (decimal ring) (codes "\n") (codes "Start: 0\nAP: 1 \"a\"\nAcceptance: 1 Inf(0)\n--BODY--\n" ++ rest)))

pub ring_by_parts : (ring : ℕ) → 0 < ring → ring_part_text ring 0 part.Head ++ behind_part ring 0 part.Head ≡ ring_text ring
unfolding behind_part
ring_by_parts ring some =
    let e : ring - 1 - 0 ≡ ring - 1 = omega arith in
    rw e (head_lines ring _ ∙ ap (with_head ring) (states ring 0 (ring - 1) (omega arith)))

-- after a ring comes the next one, and nothing after the last
pub no_ring_behind : (count ring : ℕ) → count ≤ ring → rings_behind count ring ≡ []
unfolding rings_behind
no_ring_behind count ring last = let e : count - ring ≡ 0 = omega arith in rw e refl

pub ring_behind :
    (count ring : ℕ) → ring < count → rings_behind count ring ≡ ring_text (ring + 1) ++ rings_behind count (ring + 1)
unfolding rings_behind
ring_behind count ring before = let e : count - ring ≡ suc (count - (ring + 1)) = omega arith in rw e refl

-- the whole text is the first ring and all rings after it
pub all_rings : (count : ℕ) → 0 < count → ring_text 1 ++ rings_behind count 1 ≡ flat_map ring_text (range_with_len 1 count)
unfolding rings_behind
all_rings count some = let e : count - 0 ≡ count = omega arith in sym (ring_behind count 0 some) ∙ rw e refl

-- which part comes after which
pub state_behind :
    (ring state : ℕ) (p : Part) → (p ≡ part.Head) ⊎ (p ≡ part.Edge) →
    behind_part ring state p ≡ ring_part_text ring state part.State ++ behind_part ring state part.State
unfolding behind_part
state_behind ring state p (inl is) = rw is refl
state_behind ring state p (inr is) = rw is refl

pub edge_behind :
    (ring state : ℕ) (p : Part) → p ≡ part.State → state + 1 < ring →
    behind_part ring state p ≡ ring_part_text ring (state + 1) part.Edge ++ behind_part ring (state + 1) part.Edge
unfolding behind_part behind_state
edge_behind ring state p is more =
    let e : ring - 1 - state ≡ suc (ring - 1 - (state + 1)) = omega arith in
    rw (is, e) refl

pub last_behind :
    (ring state : ℕ) (p : Part) → p ≡ part.State → ring ≤ state + 1 →
    behind_part ring state p ≡ ring_part_text ring state part.Last ++ behind_part ring state part.Last
unfolding behind_part behind_state
last_behind ring state p is last =
    let e : ring - 1 - state ≡ 0 = omega arith in
    rw (is, e) (sym (append-nil _))

-- after the last part of a ring only other rings are left
pub rings_left :
    (count ring state : ℕ) (p : Part) → p ≡ part.Last →
    rings_behind count ring ≡ behind_part ring state p ++ rings_behind count ring
unfolding behind_part
rings_left count ring state p is = rw is refl

-- the text that is left where one part comes after another
pub part_behind :
    (left part others rings : List ℕ) {behind : List ℕ} → left ≡ part ++ (others ++ rings) → behind ≡ part ++ others →
    left ≡ behind ++ rings
part_behind left part others rings is joins =
    is ∙ sym (append_assoc part others rings) ∙ ap (λ t. t ++ rings) (sym joins)

-- the first byte of what is left of a part, and the bytes after it
pub first_byte :
    (text tail : List ℕ) (given byte : ℕ) → slice_get text given ≡ Some byte →
    slice_get (drop given text ++ tail) 0 ≡ Some byte
first_byte text tail given byte is = rw (drop-slice_get text given byte is) refl

pub one_byte_on :
    (text tail : List ℕ) (given : ℕ) → given < length text →
    drop (given + 1) text ++ tail ≡ drop 1 (drop given text ++ tail)
one_byte_on text tail given within = rw (add-one, drop-cons text given 0 within) refl

pub past_last_byte :
    (text tail : List ℕ) (given : ℕ) → given + 1 ≡ length text → tail ≡ drop 1 (drop given text ++ tail)
past_last_byte text tail given last =
    let none : drop (given + 1) text ≡ [] = drop_all (given + 1) text (omega arith) in
    ap (λ t. t ++ tail) (sym none) ∙ one_byte_on text tail given (omega arith)
