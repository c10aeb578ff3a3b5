-- Numbers on the command line.
use Rattle.std.specs.Prelude.{◌≡◌, ◌<◌, ◌≤◌, ◌^◌, ℕ, List}
use Rattle.std.specs.Str.Parse.{IsNumeral, digits_value}

-- one or more decimal digits, with a value below 2^32; leading zeros are allowed
abbrev pub IsNumber : List ℕ → ℕ → Type 0
IsNumber text n = IsNumeral 10 text × (digits_value 10 text ≡ n) × (n < 2 ^ 32)

-- the number of automata to generate, from 1 to 10,000
abbrev pub IsMadeCount : List ℕ → ℕ → Type 0
IsMadeCount text n = IsNumber text n × (1 ≤ n) × (n ≤ 10000)
