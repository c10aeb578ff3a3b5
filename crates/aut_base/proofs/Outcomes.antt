-- Lemmas on the values of calls that return a `Result` or an `Option`.
use Rattle.std.proofs.Common.{◌≡◌, ◌<◌, true, false, List, [], ◌∷◌, length, nat_eq, Option, None, Some, Result, Ok, Err, IsErrOf, ap, arith, subst, sym}
use Rattle.std.specs.Prelude.{MatchOption, OnOk, is_some}
use Rattle.std.specs.Result.{IsErrAnd}
use Rattle.std.proofs.lemmas.Bool.{true≢false}

pub found_from : {A : Type 0} (P : Type 0) (Q : A → Type 0) (r : Option A) → is_some r ≡ true → MatchOption r P Q → (x : A) × Q x
found_from P Q None is said = absurd (true≢false (sym is))
found_from P Q (Some x) is said = (x, said)

pub ok_weaker : {T E : Type 0} (r : Result T E) (P Q : Type 0) → (P → Q) → OnOk r P → OnOk r Q
ok_weaker (Ok x) P Q weaker said = weaker said
ok_weaker (Err e) P Q weaker said = said

pub none_from : {A : Type 0} (P : Type 0) (Q : A → Type 0) (r : Option A) → is_some r ≡ false → MatchOption r P Q → P
none_from P Q None is said = said
none_from P Q (Some x) is said = absurd (true≢false is)

pub some_said : {A : Type 0} (P : Type 0) (Q : A → Type 0) (r : Option A) (x : A) → r ≡ Some x → MatchOption r P Q → Q x
some_said P Q r x is said = subst (λ o. MatchOption o P Q) is said

pub none_said : {A : Type 0} (P : Type 0) (Q : A → Type 0) (r : Option A) → r ≡ None → MatchOption r P Q → P
none_said P Q r is said = subst (λ o. MatchOption o P Q) is said

-- a list that doesn't test as empty has an item
pub some_in : {A : Type 0} (xs : List A) → false ≡ nat_eq (length xs) 0 → 0 < length xs
some_in [] is = absurd (true≢false (sym is))
some_in (x ∷ xs) is = omega arith

-- the error that `?` passes on is the error of the inner call
pub failed_as : {T F : Type 0} (r : Result T F) (came : F) → IsErrAnd r (λ y. y ≡ came) → r ≡ Err came
failed_as (Ok x) came passed = absurd passed
failed_as (Err y) came passed = ap Err passed

-- so what holds of that error holds of the result
pub hands_on : {T F : Type 0} (r : Result T F) (came : F) (P : Result T F → Type 0) → IsErrAnd r (λ y. y ≡ came) → P (Err came) → P r
hands_on r came P passed holds = subst P (sym (failed_as r came passed)) holds

-- and it is the error of the result
pub told_fault : {T F : Type 0} (r : Result T F) (came told : F) → IsErrAnd r (λ y. y ≡ came) → r ≡ Err told → came ≡ told
told_fault r came told passed is = let same = failed_as r came passed in cc

pub passed_on : {T U F : Type 0} (r : Result T F) (came told : F) → IsErrAnd r (λ y. y ≡ came) → IsErrOf r told → IsErrOf {T = U} (Err came) told
passed_on r came told passed is = ap Err (told_fault r came told passed is)
