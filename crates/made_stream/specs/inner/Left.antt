-- The rest of the generated text from a place on.
use Rattle.std.specs.Prelude.{ℕ, List, [], ◌++◌, drop, Option, None, Some}
use Rattle.made_stream.specs.inner.Parts.{behind_part, ring_part_text, rings_behind}
use Rattle.made_stream.specs.declared.made.place.Place.{Place}

-- the rest of the part and of the ring, and the rings after it; nothing where there is no place
abbrev pub left_at : ℕ → Option Place → List ℕ
left_at count None = []
left_at count (Some p) =
    drop p.given (ring_part_text p.ring p.state p.part) ++ (behind_part p.ring p.state p.part ++ rings_behind count p.ring)
