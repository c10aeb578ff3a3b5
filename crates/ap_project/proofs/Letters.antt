-- Letters with a name taken out or put in, and letters that are the same but for one name.
use Rattle.std.proofs.Common.{◌≡◌, ◌≢◌, ◌∙◌, ◌&&◌, ◌||◌, Bool, true, false, List, ap, not, refl, sym, ℕ}
use Rattle.std.proofs.lemmas.Bool.{false_from_ne_true, true≢false}
use Rattle.std.proofs.lemmas.Cmp.{eq_by_cmp_equiv, nat_list_cmp_total}
use Rattle.std.proofs.lemmas.Map.Lookups.{exact_bytes}
use Rattle.std.proofs.lemmas.Map.Views.{tells_apart}
use Rattle.std.specs.FinMap.{nat_cmp-IsAntisymmetric, slice_cmp-IsAntisymmetric}
use Rattle.std.specs.FinSet as set
use Rattle.aut_base.proofs.words.LetterNames.{same_name}
use Rattle.aut_base.specs.Word.{NameSet}

-- the letter with the name taken out
abbrev pub without : List ℕ → NameSet → NameSet
without name x = set.remove x name

-- the letter with the name put in
abbrev pub including : List ℕ → NameSet → NameSet
including name x = set.insert x name

-- both letters have the same names, apart from this one
abbrev pub SameBut : List ℕ → NameSet → NameSet → Type 0
SameBut name x y = (other : List ℕ) → other ≢ name → set.contains x other ≡ set.contains y other

same_from : (x y : NameSet) → ((q : List ℕ) → set.contains x q ≡ set.contains y q) → x ≡ y
same_from x y is = set.same_set nat_list_cmp_total (slice_cmp-IsAntisymmetric nat_cmp-IsAntisymmetric) x y is

is_other : (q name : List ℕ) → q ≢ name → same_name q name ≡ false
is_other q name apart = false_from_ne_true (same_name q name) (λ e. apart (tells_apart exact_bytes q name e))

is_same : (q name : List ℕ) → q ≡ name → same_name q name ≡ true
is_same q name e = ap (λ p. same_name p name) e ∙ (eq_by_cmp_equiv nat_list_cmp_total).refl name

apart_from : (q name : List ℕ) → same_name q name ≡ false → q ≢ name
apart_from q name differ e = true≢false (sym (is_same q name e) ∙ differ)

has_without : (name : List ℕ) (x : NameSet) (q : List ℕ) → set.contains (without name x) q ≡ (not (same_name q name) && set.contains x q)
has_without name x q = set.contains-remove nat_list_cmp_total x name q

has_including : (name : List ℕ) (x : NameSet) (q : List ℕ) → set.contains (including name x) q ≡ (same_name q name || set.contains x q)
has_including name x q = set.contains-insert nat_list_cmp_total x name q

pub but_without : (name : List ℕ) (x : NameSet) → SameBut name x (without name x)
but_without name x q apart = sym (has_without name x q ∙ ap (λ b. not b && set.contains x q) (is_other q name apart))

pub but_including : (name : List ℕ) (x : NameSet) → SameBut name x (including name x)
but_including name x q apart = sym (has_including name x q ∙ ap (λ b. b || set.contains x q) (is_other q name apart))

-- whether a letter contains a name, after that name or another one is taken out or put in
pub without_alike : (name : List ℕ) (x y : NameSet) (q : List ℕ) → (q ≢ name → set.contains x q ≡ set.contains y q) → set.contains (without name x) q ≡ set.contains (without name y) q
without_alike name x y q but = has_without name x q ∙ (by_cases (same_name q name) (set.contains x q) (set.contains y q) (λ differ. but (apart_from q name differ)) ∙ sym (has_without name y q))
  where
    by_cases : (b c d : Bool) → (b ≡ false → c ≡ d) → (not b && c) ≡ (not b && d)
    by_cases true c d e = refl
    by_cases false c d e = e refl

pub including_alike : (name : List ℕ) (x y : NameSet) (q : List ℕ) → (q ≢ name → set.contains x q ≡ set.contains y q) → set.contains (including name x) q ≡ set.contains (including name y) q
including_alike name x y q but = has_including name x q ∙ (by_cases (same_name q name) (set.contains x q) (set.contains y q) (λ differ. but (apart_from q name differ)) ∙ sym (has_including name y q))
  where
    by_cases : (b c d : Bool) → (b ≡ false → c ≡ d) → (b || c) ≡ (b || d)
    by_cases true c d e = refl
    by_cases false c d e = e refl

pub without_same : (name : List ℕ) (x y : NameSet) → SameBut name x y → without name x ≡ without name y
without_same name x y but = same_from (without name x) (without name y) (λ q. without_alike name x y q (but q))

pub including_same : (name : List ℕ) (x y : NameSet) → SameBut name x y → including name x ≡ including name y
including_same name x y but = same_from (including name x) (including name y) (λ q. including_alike name x y q (but q))

pub without_twice : (name : List ℕ) (x : NameSet) → without name (without name x) ≡ without name x
without_twice name x = sym (without_same name x (without name x) (but_without name x))

pub including_again : (name : List ℕ) (x : NameSet) → including name (without name x) ≡ including name x
including_again name x = sym (including_same name x (without name x) (but_without name x))

pub absent_itself : (name : List ℕ) (x : NameSet) → set.contains x name ≡ false → without name x ≡ x
absent_itself name x lacks = same_from (without name x) x
    (λ q. has_without name x q ∙ by_cases (same_name q name) (set.contains x q) (λ e. ap (set.contains x) (tells_apart exact_bytes q name e) ∙ lacks))
  where
    by_cases : (b c : Bool) → (b ≡ true → c ≡ false) → (not b && c) ≡ c
    by_cases true c e = sym (e refl)
    by_cases false c e = refl

pub present_itself : (name : List ℕ) (x : NameSet) → set.contains x name ≡ true → including name x ≡ x
present_itself name x has = same_from (including name x) x
    (λ q. has_including name x q ∙ by_cases (same_name q name) (set.contains x q) (λ e. ap (set.contains x) (tells_apart exact_bytes q name e) ∙ has))
  where
    by_cases : (b c : Bool) → (b ≡ true → c ≡ true) → (b || c) ≡ c
    by_cases true c e = sym (e refl)
    by_cases false c e = refl

pub has_name : (name : List ℕ) (x : NameSet) → set.contains (including name x) name ≡ true
has_name name x = has_including name x name ∙ ap (λ b. b || set.contains x name) (is_same name name refl)

pub lacks_name : (name : List ℕ) (x : NameSet) → set.contains (without name x) name ≡ false
lacks_name name x = has_without name x name ∙ ap (λ b. not b && set.contains x name) (is_same name name refl)
