-- Letters restricted to some names: an automaton over these names reads them as it reads the whole letters.
use Rattle.std.proofs.Common.{◌≡◌, ◌∙◌, ◌↔◌, ℕ, zero, suc, List, [], ◌∷◌, Contains, ap, filter, map, refl, sym}
use Rattle.std.proofs.Math.Path.{fun_ext}
use Rattle.std.specs.FinSet as set
use Rattle.ap_project.proofs.Related.{Carries, accepts_carried, map_related, related_map}
use Rattle.aut_base.proofs.words.LetterNames.{contains_listed}
use Rattle.aut_base.proofs.lists.Members.{first_there, from_filter, later_there, there_filter}
use Rattle.aut_base.proofs.numbers.Truth.{same_truth}
use Rattle.aut_base.specs.Acceptance.{Accepts}
use Rattle.aut_base.specs.Automaton.{Automaton}
use Rattle.aut_base.specs.Label.{holds_at, truth}
use Rattle.aut_base.specs.Word.{NameSet}
use Rattle.word_syntax.specs.Printing.{HoldsOnly}
use Rattle.word_syntax.specs.ReadBack.{AgreesOn}

-- the letter without other names
abbrev pub restricted : List (List ℕ) → NameSet → NameSet
restricted names x = set.from_list (filter (set.contains x) names)

pub restricted_holds : (names : List (List ℕ)) (x : NameSet) → HoldsOnly names (restricted names x)
restricted_holds names x name is = (from_filter (set.contains x) names name ((contains_listed (filter (set.contains x) names) name).0 is)).0

restricted_agrees : (names : List (List ℕ)) (x : NameSet) → AgreesOn names (restricted names x) x
restricted_agrees names x name there =
    let listed = contains_listed (filter (set.contains x) names) name in
    same_truth (set.contains (restricted names x) name) (set.contains x name)
    (λ is. (from_filter (set.contains x) names name (listed.0 is)).1)
    (λ is. listed.1 (there_filter (set.contains x) names name there is))

agrees_back : (names : List (List ℕ)) (x : NameSet) → AgreesOn names x (restricted names x)
agrees_back names x name there = sym (restricted_agrees names x name there)

holds_alike : (names : List (List ℕ)) (x y : NameSet) → AgreesOn names x y → (i : ℕ) → holds_at names x i ≡ holds_at names y i
holds_alike [] x y agree i = refl
holds_alike (name ∷ names) x y agree zero = agree name (first_there name names)
holds_alike (name ∷ names) x y agree (suc i) = holds_alike names x y (λ other there. agree other (later_there name names other there)) i

-- the names include those of the automaton
abbrev pub Knows : List (List ℕ) → Automaton → Type 0
Knows names a = (name : List ℕ) → Contains a.names name → Contains names name

carries : (a : Automaton) (names : List (List ℕ)) → Knows names a → Carries (AgreesOn names) a a
carries a names knows e x y agree there holds =
    let same : holds_at a.names x ≡ holds_at a.names y = fun_ext (holds_alike a.names x y (λ name own. agree name (knows name own))) in
    record {
      edge = e;
      there = there;
      twin = record { from = refl; to = refl; marks = refl };
      holds = ap (λ on. truth on e.label) (sym same) ∙ holds;
    }

pub read_alike : (a : Automaton) (names : List (List ℕ)) → Knows names a → (u v : List NameSet) → Accepts a u v ↔ Accepts a (map (restricted names) u) (map (restricted names) v)
read_alike a names knows u v =
    let f = restricted names in
    let R = AgreesOn names in
    let over = carries a names knows in (
      accepts_carried R a a over (λ s there. there) refl u v (map f u) (map f v) (related_map R f (agrees_back names) u) (related_map R f (agrees_back names) v),
      accepts_carried R a a over (λ s there. there) refl (map f u) (map f v) u v (map_related R f (restricted_agrees names) u) (map_related R f (restricted_agrees names) v),
    )
