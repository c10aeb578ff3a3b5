-- Whether a letter has given names alone, tested name by name.
use Rattle.std.proofs.Common.{◌≡◌, ◌≢◌, ◌∷◌, ◌+◌, ◌<◌, ◌≤◌, ◌↔◌, All, Contains, IsTrue, List, [], arith, get_or, length, refl, subst, suc, sym, take, zero, ℕ}
use Rattle.std.proofs.lemmas.List.{take_all}
use Rattle.std.proofs.lemmas.List.Elements.{All-contains}
use Rattle.std.specs.FinSet.{contains}
use Rattle.std.specs.List.{AllByRecursion}
use Rattle.aut_base.proofs.lists.AllByRecursion.{AllByRecursion-push}
use Rattle.aut_base.proofs.lists.Lists.{take-push}
use Rattle.aut_base.specs.Word.{NameSet}
use Rattle.word_syntax.specs.Printing.{HoldsOnly}

abbrev pub Members : NameSet → List (List ℕ) → Type 0
Members letter items = (name : List ℕ) → IsTrue (contains letter name) ↔ Contains items name

pub not_held : (names items : List (List ℕ)) (letter : NameSet) (i : ℕ) (item : List ℕ) → i < length items → item ≡ get_or items i item → Members letter items
    → All (λ other. other ≢ item) names → HoldsOnly names letter → ⊥
not_held names items letter i item within is members lacks holds = All-contains (λ other. other ≢ item) names item lacks (holds item ((members item).1 (i, within, sym is))) refl

pub held_more : (names items : List (List ℕ)) (i : ℕ) (item : List ℕ) → i < length items → item ≡ get_or items i item → AllByRecursion (λ name. Contains names name) (take i items)
    → Contains names item → AllByRecursion (λ name. Contains names name) (take (i + 1) items)
held_more names items i item within is so_far here = subst (λ (x : List (List ℕ)). AllByRecursion (λ name. Contains names name) x) (sym (take-push items i item within is))
    (AllByRecursion-push (λ name. Contains names name) (take i items) item so_far here)

each_held : (names items : List (List ℕ)) (name : List ℕ) → AllByRecursion (λ n. Contains names n) items → (k : ℕ) → k < length items → get_or items k name ≡ name → Contains names name
each_held names [] name all k within is = absurd (omega arith)
each_held names (item ∷ items) name all zero within is = subst (λ (n : List ℕ). Contains names n) is all.0
each_held names (item ∷ items) name all (suc k) within is = each_held names items name all.1 k (omega arith) is

pub all_held : (names items : List (List ℕ)) (letter : NameSet) (i : ℕ) → length items ≤ i → AllByRecursion (λ name. Contains names name) (take i items) → Members letter items → HoldsOnly names letter
all_held names items letter i past all members name h =
    let c = (members name).0 h in
    each_held names items name (subst (λ (x : List (List ℕ)). AllByRecursion (λ n. Contains names n) x) (take_all i items past) all) c.0 c.1 c.2

pub members_of : (letter : NameSet) (listed items : List (List ℕ)) → items ≡ listed → Members letter listed → Members letter items
members_of letter listed items is m = subst (λ (x : List (List ℕ)). Members letter x) (sym is) m
