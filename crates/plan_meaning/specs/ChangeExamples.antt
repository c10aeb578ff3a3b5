-- What the set operation of a plan says of some words: values and counter-values that one sees by eye.
use Rattle.std.specs.Prelude.{◌≡◌, ◌↔◌, true, List, [], ◌∷◌, Some, codes}
use Rattle.ap_project.specs.declared.hide.Hide.{Hide}
use Rattle.ap_project.specs.declared.hide.Hide.TheVariants as hide
use Rattle.aut_base.specs.Acceptance.{Accepts}
use Rattle.aut_base.specs.Automaton.{Automaton}
use Rattle.aut_base.specs.Examples.{again, ever_after, name_a, never, off, off_again, on, so_often}
use Rattle.aut_base.specs.Word.{NameSet}
use Rattle.filter_plan.specs.declared.plan.Form.{Form}
use Rattle.filter_plan.specs.declared.plan.Form.TheVariants as form
use Rattle.filter_plan.specs.declared.plan.Plan.{Plan}
use Rattle.plan_meaning.specs.Changes.{Bring, Complement, Complete, Product, ProductOr, RemoveAp, Sum, Trim, changes_of, set_operation}
use Rattle.plan_meaning.specs.FilterExamples.{plain}

-- ---- plans of one operation, with the file of its operand where it has one

abbrev pub complemented : Plan → Plan
complemented p = record p { complement = true }

abbrev pub multiplied : Plan → Plan
multiplied p = record p { product = Some (codes "x") }

abbrev pub united : Plan → Plan
united p = record p { product_or = Some (codes "y") }

abbrev pub added : Plan → Plan
added p = record p { sum = Some (codes "z") }

-- the proposition `a` is hidden
abbrev pub hiding_a : Hide → Plan → Plan
hiding_a how p = record p { remove_ap = Some (record { name = name_a; how = how }) }

-- the automaton is trimmed, completed and brought into this form
abbrev pub shaped : Form → Plan → Plan
shaped f p = record p { trim = true; complete = true; form = f }

-- the words of a plan and of an automaton are the same
abbrev pub SaysTheSame : Plan → Automaton → Type 0
SaysTheSame p x = (u v : List NameSet) → set_operation p [] x u v ↔ Accepts x u v

pub record ChangeExamples : Type 0 where
  -- no operation, and those that change the shape alone
  pub nothing : (x : Automaton) → SaysTheSame plain x
  pub as_it_is : (x : Automaton) → SaysTheSame (shaped form.AsIs plain) x
  pub deterministic : (x : Automaton) → SaysTheSame (shaped form.Deterministic plain) x
  pub parity : (x : Automaton) → SaysTheSame (shaped form.Parity plain) x
  pub buchi : (x : Automaton) → SaysTheSame (shaped form.Buchi plain) x
  pub without_fin : (x : Automaton) → SaysTheSame (shaped form.RemoveFin plain) x
  pub dnf : (x : Automaton) → SaysTheSame (shaped form.Dnf plain) x
  -- not
  pub complement_on : ¬ set_operation (complemented plain) [] again [] (on ∷ [])
  pub complement_on_off : ¬ set_operation (complemented plain) [] again [] (on ∷ off ∷ [])
  pub complement_off : set_operation (complemented plain) [] again [] (off ∷ [])
  pub complement_never : (u v : List NameSet) → set_operation (complemented plain) [] never u v
  -- both
  pub product_on_off : set_operation (multiplied plain) (off_again ∷ []) again [] (on ∷ off ∷ [])
  pub product_on : ¬ set_operation (multiplied plain) (off_again ∷ []) again [] (on ∷ [])
  pub product_off : ¬ set_operation (multiplied plain) (off_again ∷ []) again [] (off ∷ [])
  -- either, made both ways
  pub product_or_on : set_operation (united plain) (so_often ∷ []) ever_after [] (on ∷ [])
  pub product_or_off : set_operation (united plain) (so_often ∷ []) ever_after [] (off ∷ [])
  pub product_or_on_off : ¬ set_operation (united plain) (so_often ∷ []) ever_after [] (on ∷ off ∷ [])
  pub sum_on : set_operation (added plain) (so_often ∷ []) ever_after [] (on ∷ [])
  pub sum_off : set_operation (added plain) (so_often ∷ []) ever_after [] (off ∷ [])
  pub sum_on_off : ¬ set_operation (added plain) (so_often ∷ []) ever_after [] (on ∷ off ∷ [])
  -- hidden: held to be true, to be false, or whatever
  pub present_off : set_operation (hiding_a hide.Present plain) [] again [] (off ∷ [])
  pub absent_on : ¬ set_operation (hiding_a hide.Absent plain) [] again [] (on ∷ [])
  pub any_off : set_operation (hiding_a hide.Any plain) [] again [] (off ∷ [])
  -- each word that some accepted word begins as, however far
  pub monitor_off : set_operation (record plain { form = form.Monitor }) [] again [] (off ∷ [])
  pub monitor_never : (u v : List NameSet) → ¬ set_operation (record plain { form = form.Monitor }) [] never u v
  -- one after the other: the product, and then its complement
  pub not_both_on_off : ¬ set_operation (complemented (multiplied plain)) (off_again ∷ []) again [] (on ∷ off ∷ [])
  pub not_both_on : set_operation (complemented (multiplied plain)) (off_again ∷ []) again [] (on ∷ [])
  pub not_both_off : set_operation (complemented (multiplied plain)) (off_again ∷ []) again [] (off ∷ [])
  -- the sum, and then its complement
  pub neither_on : ¬ set_operation (complemented (added plain)) (so_often ∷ []) ever_after [] (on ∷ [])
  pub neither_on_off : set_operation (complemented (added plain)) (so_often ∷ []) ever_after [] (on ∷ off ∷ [])
  -- the product with the first operand, and then the sum with the second
  pub both_or_on : set_operation (added (multiplied plain)) (never ∷ again ∷ []) ever_after [] (on ∷ [])
  pub both_or_off : ¬ set_operation (added (multiplied plain)) (never ∷ again ∷ []) so_often [] (off ∷ [])
  -- the order of all changes, and which operand belongs to which
  pub in_order : changes_of (complemented (hiding_a hide.Any (shaped form.Parity (added (united (multiplied plain)))))) (again ∷ never ∷ so_often ∷ [])
      ≡ Product again ∷ ProductOr never ∷ Sum so_often ∷ RemoveAp (record { name = name_a; how = hide.Any }) ∷ Trim ∷ Complement ∷ Bring form.Parity ∷ Complete ∷ []
  pub one_operand : changes_of (added plain) (so_often ∷ []) ≡ Sum so_often ∷ []
