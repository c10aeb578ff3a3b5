-- Lists of guards with their classes: as a store computes them, in a store that has grown, and in a cache with another list.
use Rattle.std.proofs.Common.{◌≡◌, ◌∙◌, ◌<◌, ℕ, All, Bool, true, false, cond, List, [], ◌∷◌, Some, ap, arith, get_or, length, nat_eq, refl, slice_get, subst, sym}
use Rattle.std.proofs.lemmas.Bool.{and_parts, true≢false}
use Rattle.std.proofs.lemmas.List.Elements.{All-contains, All-weaker}
use Rattle.std.proofs.lemmas.Option.{same_Some, slice_get-get_or, slice_get_within}
use Rattle.std.specs.Map.{lookup}
use Rattle.aut_base.proofs.canonical.CanonicalTruth.{label_of-same}
use Rattle.aut_base.proofs.lists.Members.{placed_there, map_alike}
use Rattle.aut_base.specs.Label.{LabelTree}
use Rattle.aut_base.specs.Valuation.{IsLeast, holds_in, truth_on}
use Rattle.aut_core.proofs.Made.{label_in_settled}
use Rattle.label_guards.proofs.alike.ClassLeastLaws.{by_leasts}
use Rattle.label_guards.specs.ClassLeasts.{are_alike, class_leasts, labels_in}
use Rattle.label_guards.specs.Classes.{AreClasses}
use Rattle.label_guards.specs.Store.{Has, Keeps, Store, label_in}
use Rattle.label_guards.specs.declared.guard.Guard.{Guard}
use Rattle.letter_classes.proofs.Told.{same_place}
use Rattle.letter_classes.specs.Known.{AreClassesKnown, IsKnown, IsListClass, AreClassesInserted, same_list}
use Rattle.letter_classes.specs.SetClasses.{class_label}

-- the classes that a store computes
class_found : (s : Store) (list classes : List Guard) (most : ℕ) → AreClasses s list most classes → (k : ℕ) (g : Guard) → slice_get classes k ≡ Some g → IsListClass s list k g
class_found s list classes most are k g at =
    let of = by_leasts s list most classes are in
    let leasts = class_leasts s.names (labels_in s list) in
    let within : k < length leasts = omega (arith, slice_get_within classes k g at, of.count) in
    let v = get_or leasts k [] in
    let there = slice_get-get_or leasts k [] within in
    record {
      valuation = v;
      at = there;
      has = All-contains (Has s) classes g are.has (placed_there classes k g at);
      least = of.least k g v at there;
      label = sym (label_in_settled s g)
          ∙ label_of-same s.names (truth_on (label_in s g)) (λ w. are_alike (labels_in s list) (holds_in v) (holds_in w)) (λ w size. of.truth k g v at there (holds_in w));
    }

pub found_known : (s : Store) (list classes : List Guard) (most : ℕ) → All (Has s) list → AreClasses s list most classes → IsKnown s list classes
found_known s list classes most has are = record {
  has = has;
  are = record { all = (by_leasts s list most classes are).count; each = class_found s list classes most are };
}

-- in a store that has grown
module _ (s t : Store) (keeps : Keeps s t) where
  class_later : (list : List Guard) → labels_in t list ≡ labels_in s list → (k : ℕ) (g : Guard) → IsListClass s list k g → IsListClass t list k g
  class_later list labels k g is = record {
    valuation = is.valuation;
    at = (λ i. slice_get (class_leasts (keeps.names i) (labels i)) k) ∙ is.at;
    has = keeps.has g is.has;
    least = subst (λ (n : ℕ). IsLeast n (truth_on (label_in t g)) is.valuation) (sym keeps.names)
        (subst (λ (l : LabelTree). IsLeast s.names (truth_on l) is.valuation) (sym (keeps.labels g is.has)) is.least);
    label = keeps.labels g is.has ∙ (is.label ∙ sym (λ i. class_label (keeps.names i) (labels i) is.valuation));
  }

  known_later : (list classes : List Guard) → IsKnown s list classes → IsKnown t list classes
  known_later list classes is =
      let labels : labels_in t list ≡ labels_in s list = map_alike (label_in t) (label_in s) list (λ g there. keeps.labels g (All-contains (Has s) list g is.has there)) in
      let leasts : class_leasts t.names (labels_in t list) ≡ class_leasts s.names (labels_in s list) = λ i. class_leasts (keeps.names i) (labels i) in
      record {
        has = All-weaker (Has s) (Has t) keeps.has list is.has;
        are = record {
          all = is.are.all ∙ sym (ap (λ (vs : List (List Bool)). length vs) leasts);
          each = λ k g at. class_later list labels k g (is.are.each k g at);
        };
      }

  pub all_later : (known : List (List Guard × List Guard)) → AreClassesKnown s known → AreClassesKnown t known
  all_later known are = λ list classes at. known_later list classes (are list classes at)

-- in a cache with another list
same_lists : (xs ys : List Guard) → same_list xs ys ≡ true → xs ≡ ys
same_lists [] [] is = refl
same_lists [] (y ∷ ys) is = absurd (true≢false (sym is))
same_lists (x ∷ xs) [] is = absurd (true≢false (sym is))
same_lists (x ∷ xs) (y ∷ ys) is =
    let parts = and_parts (nat_eq x.place y.place) (same_list xs ys) is in
    let first = same_place x y parts.0 in
    let rest = same_lists xs ys parts.1 in
    λ i. first i ∷ rest i

pub put_known : (s : Store) (old new : List (List Guard × List Guard)) (list classes : List Guard) → AreClassesInserted old new list classes → AreClassesKnown s old → IsKnown s list classes
    → AreClassesKnown s new
put_known s old new list classes put are is = λ q found at. by_cases q found (same_list list q) refl (sym (put q) ∙ at)
  where
    by_cases : (q found : List Guard) (b : Bool) → same_list list q ≡ b → cond (same_list list q) (Some classes) (lookup (same_list q) old) ≡ Some found → IsKnown s q found
    by_cases q found false differ at = are q found (sym (ap (λ b. cond b (Some classes) (lookup (same_list q) old)) differ) ∙ at)
    by_cases q found true same at =
        let value : classes ≡ found = same_Some classes found (sym (ap (λ b. cond b (Some classes) (lookup (same_list q) old)) same) ∙ at) in
        subst (λ (x : List Guard). IsKnown s x found) (same_lists list q same) (subst (IsKnown s list) value is)
