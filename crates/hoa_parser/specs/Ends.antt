-- Where an edge leads, and the acceptance sets that it is in.
use Rattle.std.specs.Prelude.{ℕ, List}

-- both as they are written
pub record WrittenEnds : Type 0 where
  pub to : List ℕ
  pub marks : List ℕ
