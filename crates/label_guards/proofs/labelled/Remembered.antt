-- What a store remembers, with one result more, with more room, or under a larger store.
use Rattle.std.proofs.Common.{◌≡◌, ℕ, ◌<◌, ◌++◌, Bool, true, false, List, [], ap, arith, get_or, if◌then◌else◌, length, take, replicate, rules, subst, sym}
use denote.Enum.Bare.{sameb, same_true}
use Rattle.std.proofs.lemmas.List.Elements.{All-append, All-replicate, All-take, All-weaker}
use Rattle.label_guards.specs.contracts.computed.Question.{the_type}
use Rattle.label_guards.specs.declared.computed.Known.{Known}
use Rattle.label_guards.specs.declared.computed.Question.{Question}
use Rattle.label_guards.specs.declared.computed.Question.TheVariants as question
use Rattle.label_guards.specs.declared.guards.Operation.{Operation}
use Rattle.label_guards.specs.declared.guards.Operation.TheVariants as operation
use Rattle.label_guards.specs.Computed.{AreComputed, AreRemembered, IsComputed, IsAnswerTo, question_of}
use Rattle.label_guards.specs.Letters.{AreLastPlaces, LastLetter}
use Rattle.label_guards.specs.Nodes.{Grows}
use Rattle.label_guards.specs.Numbers.{is_in_cube}
use Rattle.label_guards.specs.Operations.{IsJoin}
use Rattle.label_guards.specs.Store.{Store}
use Rattle.label_guards.proofs.diagrams.Joins.{join_kept}
use Rattle.label_guards.proofs.labelled.LabelTruth.{keeps}
use Rattle.label_guards.proofs.labelled.Lasts.{letters_kept}
use Rattle.label_guards.proofs.labelled.Parts.{place_kept, place_same}

result_kept : {old new : Store} → Grows old new → (q : Question) (left right place : ℕ) → IsAnswerTo old q left right place → IsAnswerTo new q left right place
result_kept grows question.And left right place = join_kept grows operation.And left right place
result_kept grows question.Or left right place = join_kept grows operation.Or left right place
result_kept grows question.Xor left right place = join_kept grows operation.Xor left right place
result_kept {old} {new} grows question.Cube names values place = λ is.
    place_same new (is_in_cube names values old.names) (is_in_cube names values new.names) place (λ on. ap (λ n. is_in_cube names values n on) (sym grows.names))
    (place_kept grows (is_in_cube names values old.names) place is)

pub remembered_kept : {old new : Store} → Grows old new → (results : List Known) (letters : LastLetter) → AreRemembered old results letters → AreRemembered new results letters
remembered_kept {old} {new} grows results letters are = record {
  results = All-weaker (IsComputed old) (IsComputed new) (λ known. result_kept grows known.question known.left known.right known.place) results are.results;
  letters = letters_kept (keeps grows) letters are.letters;
}

-- in the beginning
pub none_remembered : (s : Store) (results : List Known) (letters : LastLetter) → results ≡ [] → AreLastPlaces s letters → AreRemembered s results letters
none_remembered s results letters none are = record { results = subst (AreComputed s) (sym none) (λ k known within. absurd (omega (arith, within))); letters = are }

pub question_same : (a b : Question) → sameb the_type a b ≡ true → a ≡ b
question_same a b h = same_true the_type (search rules) a b h

-- an operation's result, as it is asked for and as it is told
pub result_of_join : (s : Store) (o : Operation) (g h place : ℕ) → IsJoin s o g h place → IsAnswerTo s (question_of o) g h place
result_of_join s operation.And g h place is = is
result_of_join s operation.Or g h place is = is
result_of_join s operation.Xor g h place is = is

pub join_of_result : (s : Store) (o : Operation) (g h place : ℕ) → IsAnswerTo s (question_of o) g h place → IsJoin s o g h place
join_of_result s operation.And g h place is = is
join_of_result s operation.Or g h place is = is
join_of_result s operation.Xor g h place is = is

-- what stands in the table is what was asked for
pub computed_at : (s : Store) (results : List Known) (k : ℕ) (known : Known) (q : Question) (left right : ℕ) → AreComputed s results → k < length results → known ≡ get_or results k known
    → known.question ≡ q → known.left ≡ left → known.right ≡ right → IsAnswerTo s q left right known.place
computed_at s results k known q left right are within at a b c =
    let is : IsComputed s known = subst (IsComputed s) (sym at) (are k known within) in
    subst (λ (x : ℕ). IsAnswerTo s q left x known.place) c
    (subst (λ (x : ℕ). IsAnswerTo s q x known.right known.place) b (subst (λ (x : Question). IsAnswerTo s x known.left known.right known.place) a is))

computed_filled : (s : Store) (old : List Known) (n m : ℕ) (filler : Known) → IsComputed s filler → AreComputed s old → AreComputed s (take n old ++ replicate m filler)
computed_filled s old n m filler is are = All-append (IsComputed s) (take n old) (replicate m filler) (All-take (IsComputed s) n old are) (All-replicate (IsComputed s) m filler is)

pub computed_after : (s : Store) (old new : List Known) (n m : ℕ) (filler : Known) (grew : Bool) → new ≡ (if grew then take n old ++ replicate m filler else old) → IsComputed s filler
    → AreComputed s old
    → AreComputed s new
computed_after s old new n m filler true e is are = subst (AreComputed s) (sym e) (computed_filled s old n m filler is are)
computed_after s old new n m filler false e is are = subst (AreComputed s) (sym e) are
