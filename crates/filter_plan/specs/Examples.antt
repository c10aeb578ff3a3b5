-- Examples: what `clap`'s definition makes of some command lines.
use Rattle.std.specs.Prelude.{◌≡◌, [], ◌∷◌, codes}
use Rattle.clap.specs.Words.{fault_of, matches_of}
use Rattle.clap.specs.declared.error.kind.ErrorKind.TheVariants as kind
use Rattle.filter_plan.specs.Table.{values_of}
use Rattle.filter_plan.specs.Words.{autfilt, named_streams}

pub record WordExamples : Type 0 where
  pub nothing : named_streams (matches_of autfilt []) ≡ []
  pub twice : fault_of autfilt (codes "-c" ∷ codes "--count" ∷ []) ≡ kind.ArgumentConflict ∷ []
  pub value_twice : fault_of autfilt (codes "-n5" ∷ codes "-n" ∷ codes "5" ∷ []) ≡ kind.ArgumentConflict ∷ []
  pub minus : fault_of autfilt (codes "-n" ∷ codes "-5" ∷ []) ≡ kind.UnknownArgument ∷ []
  pub help : fault_of autfilt (codes "--help" ∷ []) ≡ kind.UnknownArgument ∷ []
  pub version : fault_of autfilt (codes "-V" ∷ []) ≡ kind.UnknownArgument ∷ []
  pub no_value : fault_of autfilt (codes "--product" ∷ []) ≡ kind.InvalidValue ∷ []
  pub bundle_taken : fault_of autfilt (codes "-cn5" ∷ []) ≡ []
  pub bundle_value : values_of (codes "max-count") (matches_of autfilt (codes "-cn5" ∷ [])) ≡ codes "5" ∷ []
  pub equals : values_of (codes "file") (matches_of autfilt (codes "-F=x" ∷ [])) ≡ codes "x" ∷ []
  pub behind_dashes : values_of (codes "FILE") (matches_of autfilt (codes "--" ∷ codes "-c" ∷ [])) ≡ codes "-c" ∷ []
  pub first : named_streams (matches_of autfilt (codes "a" ∷ codes "-F" ∷ codes "b" ∷ [])) ≡ codes "b" ∷ codes "a" ∷ []
