-- The classes that were found, and what they say of the labels.
use Rattle.std.proofs.Common.{zero, ◌<◌, take, ◌≡◌, ℕ, suc, ◌+◌, ◌∙◌, Bool, true, false, ◌&&◌, List, [], ◌∷◌, length, All, AllPairs, sym, refl, ap, arith}
use Rattle.std.proofs.lemmas.Bool.{and_parts, false≢true}
use Rattle.std.proofs.lemmas.List.{length-take-le}
use Rattle.std.proofs.lemmas.List.Elements.{All-from_recursion, All-take, recursion_from_All}
use Rattle.std.proofs.lemmas.List.Kept.{AllPairs-cons}
use Rattle.std.specs.Bool.{beq}
use Rattle.std.specs.Cmp.{booleans_Decides}
use Rattle.std.specs.List.{AllByRecursion}
use Rattle.aut_base.proofs.lists.AllByRecursion.{AllByRecursion-weaker}
use Rattle.aut_base.proofs.order.Ordered.{Pairs, pairs_weaker}
use Rattle.aut_base.specs.Label.{truth}
use Rattle.aut_base.specs.Valuation.{holds_in}
use Rattle.label_guards.specs.declared.guard.Guard.{Guard}
use Rattle.label_guards.specs.Classes.{AreAlike, HasMoreLetterClasses, agree}
use Rattle.label_guards.specs.Guards.{truth_in}
use Rattle.label_guards.specs.Nodes.{IsReducedDiagram}
use Rattle.label_guards.specs.Operations.{IsPlaceOf}
use Rattle.label_guards.specs.Store.{Store, Has, Keeps, outcome}
use Rattle.label_guards.specs.ClassParts.{IsAlikeness, IsFirst, Test}
use Rattle.label_guards.proofs.alike.Firsts.{AreApart, IsEarlier, is_apart}
use Rattle.label_guards.proofs.diagrams.Growth.{grows_none}
use Rattle.label_guards.proofs.labelled.LabelTruth.{keeps, truth_is}

-- the classes are those of these valuations
abbrev pub AreFound : Store → Test → List (List Bool) → List Guard → Type 0
AreFound s alike [] [] = Unit {0}
AreFound s alike [] (c ∷ cs) = ⊥
AreFound s alike (v ∷ vs) [] = ⊥
AreFound s alike (v ∷ vs) (c ∷ cs) = IsPlaceOf s (alike (holds_in v)) c.place × AreFound s alike vs cs

-- all classes of what is alike, in the order of their least valuations
pub record AreAllFound (s : Store) (alike : Test) (classes : List Guard) : Type 0 where
  pub valuations : List (List Bool)
  pub first : AllByRecursion (IsFirst s.names alike) valuations
  pub pairs : Pairs (IsEarlier alike) valuations
  pub found : AreFound s alike valuations classes
  pub every : (on : ℕ → Bool) → is_apart alike valuations on ≡ false

beq-self : (b : Bool) → beq b b ≡ true
beq-self true = refl
beq-self false = refl

agree-self : (s : Store) (list : List Guard) (on : ℕ → Bool) → agree s list on on ≡ true
agree-self s [] on = refl
agree-self s (g ∷ list) on = λ i. beq-self (outcome s.nodes on g.place) i && agree-self s list on i

agree-same : (s : Store) (list : List Guard) (on also : ℕ → Bool) → agree s list on also ≡ true → (other : ℕ → Bool) → agree s list other on ≡ agree s list other also
agree-same s [] on also h other = refl
agree-same s (g ∷ list) on also h other =
    let e = and_parts _ _ h in
    let here : outcome s.nodes on g.place ≡ outcome s.nodes also g.place = (booleans_Decides _ _).0 e.0 in
    λ i. beq (outcome s.nodes other g.place) (here i) && agree-same s list on also e.1 other i

pub agree_is : (s : Store) (list : List Guard) → IsAlikeness (agree s list)
agree_is s list = record { self = agree-self s list; same = agree-same s list }

-- what is alike by labels is so by places
module _ (old : Store) (reduced : IsReducedDiagram old.names old.nodes) (t : Store) (kept : Keeps old t) (on also : ℕ → Bool) where
  truth_was : (on : ℕ → Bool) (g : Guard) → Has old g → truth_in t g on ≡ outcome old.nodes on g.place
  truth_was on g has = ap (truth on) (kept.labels g has) ∙ truth_is old reduced g has on

  agree_each : (list : List Guard) → AllByRecursion (Has old) list → AllByRecursion (λ g. truth_in t g on ≡ truth_in t g also) list → agree old list on also ≡ true
  agree_each [] has all = refl
  agree_each (g ∷ list) has all = λ i. (ap (λ b. beq (outcome old.nodes on g.place) b) (sym (truth_was also g has.0) ∙ (sym all.0 ∙ truth_was on g has.0))
      ∙ beq-self (outcome old.nodes on g.place)) i && agree_each list has.1 all.1 i

  alike_each : (list : List Guard) → AllByRecursion (Has old) list → agree old list on also ≡ true → AllByRecursion (λ g. truth_in t g on ≡ truth_in t g also) list
  alike_each [] has h = tt
  alike_each (g ∷ list) has h =
      let e = and_parts _ _ h in
      (truth_was on g has.0 ∙ ((booleans_Decides _ _).0 e.0 ∙ sym (truth_was also g has.0)), alike_each list has.1 e.1)

  pub agree_alike : (list : List Guard) → All (Has old) list → AreAlike t list on also → agree old list on also ≡ true
  agree_alike list has alike = agree_each list (recursion_from_All (Has old) list has) (recursion_from_All (λ g. truth_in t g on ≡ truth_in t g also) list alike)

  pub alike_agree : (list : List Guard) → All (Has old) list → agree old list on also ≡ true → AreAlike t list on also
  alike_agree list has h = All-from_recursion (λ g. truth_in t g on ≡ truth_in t g also) list (alike_each list (recursion_from_All (Has old) list has) h)

pub all_pairs : {X : Type 0} (R : X → X → Type 0) (xs : List X) → Pairs R xs → AllPairs R xs
all_pairs R [] pairs = λ i j d less within. absurd (omega (arith, within))
all_pairs R (x ∷ xs) pairs = AllPairs-cons R x xs (All-from_recursion (R x) xs pairs.0) (all_pairs R xs pairs.1)

module _ {X : Type 0} where
  all_taken : (P : X → Type 0) (k : ℕ) (xs : List X) → AllByRecursion P xs → AllByRecursion P (take k xs)
  all_taken P zero xs all = tt
  all_taken P (suc k) [] all = tt
  all_taken P (suc k) (x ∷ xs) all = (all.0, all_taken P k xs all.1)

  pairs_taken : (R : X → X → Type 0) (k : ℕ) (xs : List X) → Pairs R xs → Pairs R (take k xs)
  pairs_taken R zero xs pairs = tt
  pairs_taken R (suc k) [] pairs = tt
  pairs_taken R (suc k) (x ∷ xs) pairs = (all_taken (R x) k xs pairs.0, pairs_taken R k xs pairs.1)

-- more classes under the first guards of the list are more under all of it
pub more_classes : (old s : Store) → IsReducedDiagram old.names old.nodes → s.names ≡ old.names → (list : List Guard) (valuations : List (List Bool)) (count most : ℕ) → All (Has old) list
    → AllByRecursion (IsFirst s.names (agree old (take count list))) valuations → Pairs (AreApart (agree old (take count list))) valuations → most < length valuations
    → HasMoreLetterClasses old list most
more_classes old s reduced names list valuations count most has firsts apart more =
    let alike : Test = agree old (take count list) in
    let vs : List (List Bool) = take (most + 1) valuations in
    record {
      valuations = vs;
      count = length-take-le (most + 1) valuations (omega arith);
      sizes = All-from_recursion (λ v. length v ≡ old.names) vs
          (AllByRecursion-weaker (IsFirst s.names alike) (λ v. length v ≡ old.names) vs (λ v is. is.size ∙ names) (all_taken (IsFirst s.names alike) (most + 1) valuations firsts));
      differ = all_pairs _ vs (pairs_weaker (AreApart alike) (λ v w. AreAlike old list (holds_in v) (holds_in w) → ⊥) vs
          (λ v w h same. false≢true (sym h ∙ agree_alike old reduced old (keeps (grows_none old)) (holds_in v) (holds_in w) (take count list) (All-take (Has old) count list has)
          (All-take (λ g. truth_in old g (holds_in v) ≡ truth_in old g (holds_in w)) count list same)))
          (pairs_taken (AreApart alike) (most + 1) valuations apart));
    }
