-- The results that a store remembers.
use Rattle.std.specs.Prelude.{ℕ, List}
use Rattle.std.specs.List.{All}
use Rattle.label_guards.specs.declared.computed.Known.{Known}
use Rattle.label_guards.specs.declared.computed.Question.{Question}
use Rattle.label_guards.specs.declared.computed.Question.TheVariants.{And, Or, Xor, Cube}
use Rattle.label_guards.specs.declared.guards.Operation.{Operation}
use Rattle.label_guards.specs.declared.guards.Operation.TheVariants as operation
use Rattle.label_guards.specs.Letters.{AreLastPlaces, LastLetter}
use Rattle.label_guards.specs.Numbers.{is_in_cube}
use Rattle.label_guards.specs.Operations.{IsJoin, IsPlaceOf}
use Rattle.label_guards.specs.Store.{Store}

-- what an operation on two places is asked as
abbrev pub question_of : Operation → Question
question_of operation.And = And
question_of operation.Or = Or
question_of operation.Xor = Xor

-- the place is the result in this store
abbrev pub IsAnswerTo : Store → Question → ℕ → ℕ → ℕ → Type 0
IsAnswerTo s And left right place = IsJoin s operation.And left right place
IsAnswerTo s Or left right place = IsJoin s operation.Or left right place
IsAnswerTo s Xor left right place = IsJoin s operation.Xor left right place
IsAnswerTo s Cube names values place = IsPlaceOf s (is_in_cube names values s.names) place

-- it is right in this store
abbrev pub IsComputed : Store → Known → Type 0
IsComputed s known = IsAnswerTo s known.question known.left known.right known.place

-- each of these is
abbrev pub AreComputed : Store → List Known → Type 0
AreComputed s results = All (IsComputed s) results

-- all that a store remembers is right in this one
pub record AreRemembered (s : Store) (known : List Known) (last : LastLetter) : Type 0 where
  pub results : AreComputed s known
  pub letters : AreLastPlaces s last
