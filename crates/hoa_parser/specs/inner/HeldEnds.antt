-- The lists that an `EdgeEnds` holds, whichever way they are stored.
use Rattle.std.specs.Prelude.{take, drop}
use Rattle.hoa_parser.specs.declared.ends.HeldEnds.{HeldEnds}
use Rattle.hoa_parser.specs.declared.ends.HeldEnds.TheVariants.{One, Two, Three, More}
use Rattle.hoa_parser.specs.Ends.{WrittenEnds}

-- the states, and the sets
abbrev pub held_ends : HeldEnds → WrittenEnds
held_ends (One numbers) = record { to = take 1 numbers; marks = drop 1 numbers }
held_ends (Two numbers) = record { to = take 1 numbers; marks = drop 1 numbers }
held_ends (Three numbers) = record { to = take 1 numbers; marks = drop 1 numbers }
held_ends (More lists) = record { to = lists.value.to; marks = lists.value.marks }
