-- Parts of a list, as slices have them.
use Rattle.std.proofs.Common.{◌≡◌, ℕ, ◌+◌, ◌-◌, ◌≤◌, List, length, take, drop, ap, ◌∙◌, sym, arith}
use Rattle.std.proofs.lemmas.List.{drop-drop, drop-take, length-drop, length-take, take_all}
use Rattle.real_io.specs.Unread.{held}

-- the end of a list

pub slice_end : (bytes : List ℕ) (from : ℕ) → take (length bytes - from) (drop from bytes) ≡ drop from bytes
slice_end bytes from = let size = length-drop from bytes in take_all (length bytes - from) (drop from bytes) (omega arith)

-- what a block holds after the first of the bytes that it holds
pub held_behind : (block : List ℕ) (place end count : ℕ) → count ≤ length (held block place end)
    → held block (place + count) end ≡ drop count (held block place end)
held_behind block place end count within =
    let left = end - (place + count) in
    let more : end - place ≡ count + left = omega (arith, length-take (end - place) (drop place block)) in
    ap (take left) (sym (drop-drop count place block)) ∙ sym (drop-take count left (drop place block))
    ∙ ap (λ n. drop count (take n (drop place block))) (sym more)
