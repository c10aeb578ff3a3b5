-- What is left of small texts where a reader stops. Values and counter-values that one sees by eye.
use Rattle.std.specs.Prelude.{[], codes}
use Rattle.hoa_parser.specs.Reads.{AskedForLast, AsksOn, IsHopeless}

pub record WhatIsLeft : Type 0 where
  -- an automaton begins with no number: `7` shows it once the space has ended it, and a reader takes no more
  pub number : IsHopeless 0 0 (codes "7 8") (codes "8")
  pub number_last : AskedForLast 0 (codes "7 8") (codes "8")
  pub number_only : AskedForLast 0 (codes "7 8") [] → ⊥
  -- `0` is a token at once, so the space behind it stays
  pub zero : IsHopeless 0 0 (codes "0 8") (codes " 8")
  pub zero_last : AskedForLast 0 (codes "0 8") (codes " 8")
  pub zero_only : AskedForLast 0 (codes "0 8") (codes "8") → ⊥
  -- behind the name of the first header more is asked for, and that name is at its end with the colon
  pub opened : AsksOn 0 (codes "HOA:") []
  pub opening : AskedForLast 0 (codes "HOA:v1") (codes "v1")
