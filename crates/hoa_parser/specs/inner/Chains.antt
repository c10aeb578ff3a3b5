-- What the loops over chains of `&` and `|` have read.
use Rattle.std.specs.Prelude.{ℕ, List, ◌∷◌, map, flat_map}
use Rattle.std.specs.List.{AllByRecursion}
use Rattle.aut_base.specs.Formula.{FormulaTree, formula_list}
use Rattle.aut_base.specs.declared.formula.Formulas.{Formulas}
use Rattle.aut_base.specs.declared.limit.TheConstants.{MOST_DEPTH}
use Rattle.hoa_lexer.specs.declared.token.Token.{Token}
use Rattle.hoa_lexer.specs.declared.token.Token.TheVariants as token
use Rattle.hoa_parser.specs.Phrases.{FatomWithin, LnotWithin, fatom_meaning, fatom_tokens, lnot_meaning, lnot_tokens}
use Rattle.hoa_parser.specs.inner.Parsing.{IsWritten, Cursor}
use Rattle.hoa_parser.specs.inner.RuleReads.{FandWithin, LandWithin, fand_meaning, fand_tokens, land_meaning, land_tokens}
use Rattle.hoa_parser.specs.Raw.{RawTree, raw_list}
use Rattle.hoa_parser.specs.declared.raw.RawLabels.{RawLabels}

-- parts behind a first one
abbrev pub AddsParts : {P T : Type 0} → (P → Type 0) → (P → List Token) → (P → T) → T → List T → Cursor → Cursor → Type 0
AddsParts Within tokens meaning first = IsWritten (AllByRecursion Within) (flat_map tokens) (λ ps. first ∷ map meaning ps)

abbrev pub AddsLnots : ℕ → RawTree → RawLabels → Cursor → Cursor → Type 0
AddsLnots depth first parts = AddsParts (LnotWithin MOST_DEPTH depth) (λ f. token.Amp ∷ lnot_tokens f) lnot_meaning first (raw_list parts)

abbrev pub AddsLands : ℕ → RawTree → RawLabels → Cursor → Cursor → Type 0
AddsLands depth first parts = AddsParts (LandWithin depth) (λ p. token.Bar ∷ land_tokens p) land_meaning first (raw_list parts)

abbrev pub AddsFatoms : ℕ → FormulaTree → Formulas → Cursor → Cursor → Type 0
AddsFatoms depth first parts = AddsParts (FatomWithin MOST_DEPTH depth) (λ f. token.Amp ∷ fatom_tokens f) fatom_meaning first (formula_list parts)

abbrev pub AddsFands : ℕ → FormulaTree → Formulas → Cursor → Cursor → Type 0
AddsFands depth first parts = AddsParts (FandWithin depth) (λ p. token.Bar ∷ fand_tokens p) fand_meaning first (formula_list parts)
