-- The names of aliases, of which some stand before others.
use Rattle.std.proofs.Common.{◌≡◌, ◌∙◌, ℕ, List, ◌++◌, ap, map}
use Rattle.std.proofs.lemmas.List.{map-append}
use Rattle.hoa_reader.specs.inner.PickedOut.{alias_def, line_names}
use Rattle.hoa_reader.specs.Validity.{AliasLine}
use Rattle.hoa_reader.specs.declared.elaborate.parts.AliasDef.{AliasDef}

-- the names of what is defined
abbrev pub named : List AliasDef → List (List ℕ)
named defs = line_names (map alias_def defs)

pub named-append : (xs ys : List AliasDef) → named (xs ++ ys) ≡ named xs ++ named ys
named-append xs ys = ap line_names (map-append alias_def xs ys) ∙ map-append (λ (l : AliasLine). l.name) (map alias_def xs) (map alias_def ys)
