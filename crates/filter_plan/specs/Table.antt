-- The options: one row each, in the order in which filters, operations and output apply.
use Rattle.std.specs.Prelude.{◌≡◌, ◌↔◌, ◌≤◌, ⊤, ℕ, Bool, false, IsTrue, List, [], ◌∷◌, length, Option, Some, None, codes}
use Rattle.std.specs.Str.{bytes_eq}
use Rattle.clap.specs.Words.{Row, all_of}
use Rattle.std.specs.Option.{unwrap_or}
use Rattle.word_syntax.specs.Writing.{WritesWord, word_pattern}
use Rattle.word_syntax.specs.declared.pattern.Pattern.{Pattern}
use Rattle.filter_plan.specs.Formats.{IsFormat}
use Rattle.filter_plan.specs.Hiding.{IsHideOption}
use Rattle.filter_plan.specs.Numbers.{IsNumber, IsMadeCount}
use Rattle.filter_plan.specs.Spans.{IsRange}
use Rattle.filter_plan.specs.declared.format.Piece.{Piece}
use Rattle.filter_plan.specs.declared.plan.Form.{Form}
use Rattle.filter_plan.specs.declared.plan.Form.TheVariants.{Deterministic, Parity, Buchi, RemoveFin, Dnf, Monitor}
use Rattle.filter_plan.specs.declared.plan.Output.{Output}
use Rattle.filter_plan.specs.declared.plan.Output.TheVariants.{Stats, Refute}
use Rattle.filter_plan.specs.declared.plan.Plan.{Plan}

-- Whether an option takes a value, what that is read as, and the field of the plan that has it.
pub data Place : Type 1 where
  -- no value: whether the option is given
  Flag : (Plan → Bool) → Place
  -- no value: the plan has this form if the option is given
  FormFlag : Form → Place
  -- a value that is read so
  Value : {X : Type 0} → (List ℕ → X → Type 0) → (Plan → Option X) → Place
  -- the first of the streams
  Stream : Place

pub record OptionRow : Type 1 where
  pub long : List ℕ
  pub short : Option ℕ
  pub place : Place

abbrev pub option : List ℕ → Place → OptionRow
option long place = record { long = long; short = None; place = place }

-- an option with a short name too
abbrev pub lettered : List ℕ → ℕ → Place → OptionRow
lettered long letter place = record { long = long; short = Some letter; place = place }

-- a file is in the plan as it is named
abbrev pub IsFile : List ℕ → List ℕ → Type 0
IsFile value file = file ≡ value

-- a word is in the plan as the pattern that it spells
abbrev pub IsPattern : List ℕ → Pattern → Type 0
IsPattern value pattern = WritesWord value (word_pattern pattern)

-- the format of the figures, if these are printed
abbrev pub figures : Output → Option (List Piece)
figures (Stats pieces) = Some pieces
figures _ = None

-- the file of the operand of `--refute`, if refutations are printed
abbrev pub refuted : Output → Option (List ℕ)
refuted (Refute file) = Some file
refuted _ = None

unfoldable pub table : List OptionRow
table =
    -- filters
    option (codes "accept-word") (Value IsPattern (λ p. p.accept_word))
    ∷ option (codes "reject-word") (Value IsPattern (λ p. p.reject_word))
    ∷ option (codes "is-empty") (Flag (λ p. p.is_empty))
    ∷ option (codes "included-in") (Value IsFile (λ p. p.included_in))
    ∷ option (codes "equivalent-to") (Value IsFile (λ p. p.equivalent_to))
    ∷ option (codes "intersect") (Value IsFile (λ p. p.intersect))
    ∷ option (codes "is-deterministic") (Flag (λ p. p.is_deterministic))
    ∷ option (codes "is-complete") (Flag (λ p. p.is_complete))
    ∷ option (codes "is-unambiguous") (Flag (λ p. p.is_unambiguous))
    ∷ option (codes "states") (Value IsRange (λ p. p.states))
    ∷ option (codes "edges") (Value IsRange (λ p. p.edges))
    ∷ option (codes "acc-sets") (Value IsRange (λ p. p.acc_sets))
    ∷ option (codes "ap") (Value IsRange (λ p. p.ap))
    -- operations
    ∷ option (codes "product") (Value IsFile (λ p. p.product))
    ∷ option (codes "product-or") (Value IsFile (λ p. p.product_or))
    ∷ option (codes "sum") (Value IsFile (λ p. p.sum))
    ∷ option (codes "remove-ap") (Value IsHideOption (λ p. p.remove_ap))
    ∷ option (codes "remove-unreachable-states") (Flag (λ p. p.trim))
    ∷ option (codes "complement") (Flag (λ p. p.complement))
    -- forms
    ∷ lettered (codes "deterministic") 68 (FormFlag Deterministic)
    ∷ option (codes "parity") (FormFlag Parity)
    ∷ option (codes "buchi") (FormFlag Buchi)
    ∷ option (codes "remove-fin") (FormFlag RemoveFin)
    ∷ option (codes "dnf-acceptance") (FormFlag Dnf)
    ∷ lettered (codes "monitor") 77 (FormFlag Monitor)
    ∷ lettered (codes "complete") 67 (Flag (λ p. p.complete))
    -- output
    ∷ option (codes "stats") (Value IsFormat (λ p. figures p.output))
    ∷ option (codes "refute") (Value IsFile (λ p. refuted p.output))
    ∷ lettered (codes "invert-match") 118 (Flag (λ p. p.invert))
    ∷ lettered (codes "count") 99 (Flag (λ p. p.count))
    ∷ lettered (codes "quiet") 113 (Flag (λ p. p.quiet))
    ∷ lettered (codes "max-count") 110 (Value IsNumber (λ p. p.most))
    -- streams
    ∷ lettered (codes "file") 70 Stream
    ∷ option (codes "made") (Value IsMadeCount (λ p. p.made))
    ∷ []

-- the values that an option or operand was given
abbrev pub values_of : List ℕ → List Row → List (List ℕ)
values_of id rows = unwrap_or (all_of id rows) []

-- whether a flag is given: its value is then `true`, by `clap`
abbrev pub is_on : List (List ℕ) → Bool
is_on [] = false
is_on (value ∷ values) = bytes_eq value (codes "true")

-- The option was given once and its value is read as this, or it wasn't given. One that was given twice reads as nothing.
abbrev pub ReadsOption : {X : Type 0} → (List ℕ → X → Type 0) → List (List ℕ) → Option X → Type 0
ReadsOption IsRead [] None = ⊤
ReadsOption IsRead (value ∷ []) (Some x) = IsRead value x
ReadsOption IsRead _ _ = ⊥

-- The plan has in this field what the values of the option give. Since a plan has one form, no plan has two options of
-- forms.
abbrev pub Gives : Place → List (List ℕ) → Plan → Type 0
Gives (Flag at) values p = at p ≡ is_on values
Gives (FormFlag form) values p = IsTrue (is_on values) ↔ (p.form ≡ form)
Gives (Value IsRead at) values p = ReadsOption IsRead values (at p)
Gives Stream values p = length values ≤ 1

-- each option of the list, where `rows` has what `clap` found
abbrev pub EachGives : List OptionRow → List Row → Plan → Type 0
EachGives [] rows p = ⊤
EachGives (o ∷ os) rows p = Gives o.place (values_of o.long rows) p × EachGives os rows p
