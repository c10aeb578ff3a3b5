-- Two plans with what the options give have the same in each field.
use Rattle.std.proofs.Common.{◌≡◌, ◌∙◌, ℕ, List, [], ◌∷◌, Option, Some, None, ap, refl, sym}
use Rattle.std.specs.Prelude.{◌↔◌, ⊤}
use Rattle.std.specs.Str.{bytes_eq}
use Rattle.clap.specs.Words.{Row}
use Rattle.filter_plan.proofs.TableRows.{OfRow, either}
use Rattle.filter_plan.specs.Table.{EachGives, Flag, FormFlag, Gives, OptionRow, Place, ReadsOption, Stream, Value, table, values_of}
use Rattle.filter_plan.specs.declared.plan.Plan.{Plan}

-- where each text is read in at most one way, two readings of an option's values are equal
same_value : {X : Type 0} (IsRead : List ℕ → X → Type 0) → ((t : List ℕ) (x y : X) → IsRead t x → IsRead t y → x ≡ y) → (values : List (List ℕ)) (x y : Option X) → ReadsOption IsRead values x
    → ReadsOption IsRead values y → x ≡ y
same_value IsRead one [] None None h k = refl
same_value IsRead one [] None (Some y) h k = absurd k
same_value IsRead one [] (Some x) y h k = absurd h
same_value IsRead one (v ∷ []) None y h k = absurd h
same_value IsRead one (v ∷ []) (Some x) None h k = absurd k
same_value IsRead one (v ∷ []) (Some x) (Some y) h k = ap Some (one v x y h k)
same_value IsRead one (v ∷ w ∷ ws) None y h k = absurd h
same_value IsRead one (v ∷ w ∷ ws) (Some x) y h k = absurd h

-- the plans have the same in this field, if each value that it may have is read in one way
abbrev pub IsAlike : Place → Plan → Plan → Type 0
IsAlike (Flag at) p q = at p ≡ at q
IsAlike (FormFlag form) p q = (p.form ≡ form) ↔ (q.form ≡ form)
IsAlike (Value {X} IsRead at) p q = ((t : List ℕ) (x y : X) → IsRead t x → IsRead t y → x ≡ y) → at p ≡ at q
IsAlike Stream p q = ⊤

alike_in : (values : List (List ℕ)) (p q : Plan) (place : Place) → Gives place values p → Gives place values q → IsAlike place p q
alike_in values p q (Flag at) h k = h ∙ sym k
alike_in values p q (FormFlag form) h k = ((λ is. k.0 (h.1 is)), (λ is. h.0 (k.1 is)))
alike_in values p q (Value IsRead at) h k = λ one. same_value IsRead one values (at p) (at q) h k
alike_in values p q Stream h k = tt

alike_of : (rows : List Row) (p q : Plan) (os : List OptionRow) (name : List ℕ) → EachGives os rows p → EachGives os rows q → OfRow os name (λ place. IsAlike place p q)
alike_of rows p q [] name h k = tt
alike_of rows p q (o ∷ os) name h k = either (bytes_eq o.long name) (λ same. alike_in (values_of o.long rows) p q o.place h.0 k.0) (alike_of rows p q os name h.1 k.1)

pub alike : (rows : List Row) (p q : Plan) → EachGives table rows p → EachGives table rows q → (name : List ℕ) → OfRow table name (λ place. IsAlike place p q)
alike rows p q h k name = alike_of rows p q table name h k
