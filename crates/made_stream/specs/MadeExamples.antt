-- The generated text of the first two rings, byte for byte.
use Rattle.std.specs.Prelude.{◌≡◌, ◌++◌, codes, flat_map}
use Rattle.std.specs.List.{range_with_len}
use Rattle.made_stream.specs.Made.{ring_text}
use Rattle.made_stream.specs.declared.made.TheConstants.{MOST_MADE}

pub record MadeExamples : Type 0 where
  pub one : ring_text 1 ≡
      codes "HOA: v1\nStates: 1\nStart: 0\nAP: 1 \"a\"\nAcceptance: 1 Inf(0)\n--BODY--\nState: 0\n[0] 0 {0}\n--END--\n"
  pub two : ring_text 2 ≡
      codes "HOA: v1\nStates: 2\nStart: 0\nAP: 1 \"a\"\nAcceptance: 1 Inf(0)\n--BODY--\nState: 0\n[0] 1\nState: 1\n[0] 0\n--END--\n"
  pub both : flat_map ring_text (range_with_len 1 2) ≡
      codes "HOA: v1\nStates: 1\nStart: 0\nAP: 1 \"a\"\nAcceptance: 1 Inf(0)\n--BODY--\nState: 0\n[0] 0 {0}\n--END--\n"
      ++ codes "HOA: v1\nStates: 2\nStart: 0\nAP: 1 \"a\"\nAcceptance: 1 Inf(0)\n--BODY--\nState: 0\n[0] 1\nState: 1\n[0] 0\n--END--\n"
  pub most : MOST_MADE ≡ 10000
