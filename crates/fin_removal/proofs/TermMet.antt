-- A term on a cycle: every edge meets its Fin literals, and its Inf literals are met by some.
use Rattle.std.proofs.Common.{◌≡◌, ◌∙◌, ◌+◌, ◌<◌, ◌≤◌, ◌==◌, ℕ, true, false, not, List, [], Some, Contains, ap, arith, get_or, length, refl, subst, sym, slice_get, inl, inr}
use Rattle.std.specs.List.{list_all, list_any, range_with_len}
use Rattle.std.specs.Option.{option_map_or}
use Rattle.std.proofs.lemmas.Bool.{cases_Bool, cases_lt, eq-eqb, eqb-true, not-true, not_from_false}
use Rattle.std.proofs.lemmas.List.Elements.{Contains-get_or}
use Rattle.std.proofs.lemmas.Option.{slice_get-get_or, slice_get_past}
use Rattle.aut_base.proofs.lists.Members.{any_found, any_from, each_from, each_is, from_filter, from_map, from_range, there_filter, there_map, there_range}
use Rattle.aut_base.specs.Formula.{met}
use Rattle.aut_base.specs.Marks.{is_in}
use Rattle.acc_forms.specs.Terms.{literal_formula}
use Rattle.acc_forms.specs.declared.literal.Literal.{Literal}
use Rattle.acc_forms.specs.declared.literal.Literal.TheVariants.{Inf, Fin}
use Rattle.fin_removal.specs.Copies.{marks_in, owned}
use Rattle.fin_removal.proofs.Parts.{allows}
use Rattle.fin_removal.specs.Meeting.{fins, infs, is_inf, meets, meets_at, literal_places}
use Rattle.fin_removal.specs.declared.term_copy.TermCopy.{TermCopy}
use Rattle.fin_removal.proofs.CopyNumbers.{Owns}

pub met_inf : (cycle : List (List ℕ)) (l : Literal) → is_inf l ≡ true → met cycle (literal_formula l) ≡ list_any (λ marks. meets marks l) cycle
met_inf cycle (Inf set false) e = refl
met_inf cycle (Inf set true) e = refl
met_inf cycle (Fin set neg) e = cc

pub met_fin : (cycle : List (List ℕ)) (l : Literal) → is_inf l ≡ false → met cycle (literal_formula l) ≡ list_all (λ marks. meets marks l) cycle
met_fin cycle (Fin set false) e = refl
met_fin cycle (Fin set true) e = refl
met_fin cycle (Inf set neg) e = cc

-- some edge meets the literal of this index
pub record Passes (literals : List Literal) (place : ℕ) (cycle : List (List ℕ)) : Type 0 where
  pub marks : List ℕ
  pub there : Contains cycle marks
  pub meets : meets_at literals place marks ≡ true

pub record IsMetIn (copy : TermCopy) (cycle : List (List ℕ)) : Type 0 where
  pub allowed : (marks : List ℕ) → Contains cycle marks → allows copy marks ≡ true
  pub passed : (place : ℕ) → place < literal_places copy.infs → Passes copy.infs place cycle

meets_there : (literals : List Literal) (place : ℕ) (l : Literal) (marks : List ℕ) → slice_get literals place ≡ Some l → meets_at literals place marks ≡ meets marks l
meets_there literals place l marks at = ap (λ o. option_map_or (meets marks) o true) at

meets_past : (literals : List Literal) (place : ℕ) (marks : List ℕ) → length literals ≤ place → meets_at literals place marks ≡ true
meets_past literals place marks past = ap (λ o. option_map_or (meets marks) o true) (slice_get_past literals place past)

-- where each literal of the list is met by some edge, so is each index
pub passes_each : (literals : List Literal) (cycle : List (List ℕ)) → 0 < length cycle → ((l : Literal) → Contains literals l → list_any (λ marks. meets marks l) cycle ≡ true) → (place : ℕ)
    → Passes literals place cycle
passes_each literals cycle some each place = elim (cases_lt place (length literals)) [
  | inl within ↦ (let l = get_or literals place (Inf 0 false) in
      let there = slice_get-get_or literals place (Inf 0 false) within in
      let found = any_found (λ marks. meets marks l) cycle (each l (Contains-get_or literals place (Inf 0 false) within)) in
      record { marks = found.0; there = found.1; meets = meets_there literals place l found.0 there ∙ found.2 })
  | inr past ↦ record { marks = get_or cycle 0 []; there = Contains-get_or cycle 0 [] some; meets = meets_past literals place (get_or cycle 0 []) past }
]

pub each_passed : (literals : List Literal) (cycle : List (List ℕ)) → ((place : ℕ) → place < literal_places literals → Passes literals place cycle) → (l : Literal) → Contains literals l
    → list_any (λ marks. meets marks l) cycle ≡ true
each_passed literals cycle passed l there =
    let place = there.0 in
    let found = passed place (omega (arith, there.1)) in
    let at : slice_get literals place ≡ Some l = slice_get-get_or literals place l there.1 ∙ ap Some there.2 in
    any_from (λ marks. meets marks l) cycle found.marks found.there (sym (meets_there literals place l found.marks at) ∙ found.meets)

-- where a cycle meets a term, all its edges are allowed in the term's copy, and each of the copy's literals is met
pub term_met : (cycle : List (List ℕ)) (term : List Literal) (copy : TermCopy) → 0 < length cycle → copy.fins ≡ fins term → copy.infs ≡ infs term
    → list_all (λ l. met cycle (literal_formula l)) term ≡ true → IsMetIn copy cycle
term_met cycle term copy some is_fins is_infs holds = record {
  allowed = λ marks there. each_from (meets marks) copy.fins (λ l listed.
      let kept = from_filter (λ m. not (is_inf m)) term l (subst (λ (ls : List Literal). Contains ls l) is_fins listed) in
      each_is (λ m. meets m l) cycle marks (sym (met_fin cycle l (not-true (is_inf l) kept.1)) ∙ each_is (λ m. met cycle (literal_formula m)) term l holds kept.0) there);
  passed = λ place within. passes_each copy.infs cycle some (λ l listed.
      let kept = from_filter is_inf term l (subst (λ (ls : List Literal). Contains ls l) is_infs listed) in
      sym (met_inf cycle l kept.1) ∙ each_is (λ m. met cycle (literal_formula m)) term l holds kept.0) place;
}

pub term_is_met : (cycle : List (List ℕ)) (term : List Literal) (copy : TermCopy) → copy.fins ≡ fins term → copy.infs ≡ infs term → IsMetIn copy cycle
    → list_all (λ l. met cycle (literal_formula l)) term ≡ true
term_is_met cycle term copy is_fins is_infs holds = each_from (λ l. met cycle (literal_formula l)) term (λ l there. elim (cases_Bool (is_inf l)) [
  | inl inf ↦ met_inf cycle l inf ∙ each_passed copy.infs cycle holds.passed l (subst (λ (ls : List Literal). Contains ls l) (sym is_infs) (there_filter is_inf term l there inf))
  | inr fin ↦ met_fin cycle l fin ∙ each_from (λ marks. meets marks l) cycle (λ marks listed.
      each_is (meets marks) copy.fins l (holds.allowed marks listed)
      (subst (λ (ls : List Literal). Contains ls l) (sym is_fins) (there_filter (λ m. not (is_inf m)) term l there (not_from_false (is_inf l) fin))))
])

-- the sets of an edge in a copy
pub in_marks : (copy : TermCopy) (marks : List ℕ) (place : ℕ) → place < literal_places copy.infs → meets_at copy.infs place marks ≡ true → is_in (copy.first + place) (marks_in copy marks) ≡ true
in_marks copy marks place within passes =
    any_from (λ mark. mark == copy.first + place) (marks_in copy marks) (copy.first + place)
    (there_map (λ s. copy.first + s) _ place (there_filter (λ s. meets_at copy.infs s marks) (range_with_len 0 (literal_places copy.infs)) place
    (there_range 0 (literal_places copy.infs) place (omega arith) (omega (arith, within))) passes))
    (eq-eqb (copy.first + place) (copy.first + place) refl)

pub record IsCarried (copy : TermCopy) (marks : List ℕ) (set : ℕ) : Type 0 where
  pub place : ℕ
  pub within : place < literal_places copy.infs
  pub is : copy.first + place ≡ set
  pub meets : meets_at copy.infs place marks ≡ true

pub of_marks : (copy : TermCopy) (marks : List ℕ) (set : ℕ) → is_in set (marks_in copy marks) ≡ true → IsCarried copy marks set
of_marks copy marks set carried =
    let found = any_found (λ mark. mark == set) (marks_in copy marks) carried in
    let at = from_map (λ s. copy.first + s) _ found.0 found.1 in
    let kept = from_filter (λ s. meets_at copy.infs s marks) (range_with_len 0 (literal_places copy.infs)) at.0 at.1 in
    let within = from_range 0 (literal_places copy.infs) at.0 kept.0 in
    record { place = at.0; within = omega (arith, within.1); is = at.2 ∙ eqb-true found.0 set found.2; meets = kept.1 }

-- Inf of each set of the copy
pub owned_met : (cycle : List (List ℕ)) (copy : TermCopy) → ((set : ℕ) → Owns copy set → list_any (is_in set) cycle ≡ true) → list_all (λ l. met cycle (literal_formula l)) (owned copy) ≡ true
owned_met cycle copy each = each_from (λ l. met cycle (literal_formula l)) (owned copy) (λ l there.
    let at = from_map (λ set. Inf set false) (range_with_len copy.first (literal_places copy.infs)) l there in
    let within = from_range copy.first (literal_places copy.infs) at.0 at.1 in
    ap (λ m. met cycle (literal_formula m)) (sym at.2) ∙ each at.0 (record { from = within.0; to = within.1 }))

pub owned_is_met : (cycle : List (List ℕ)) (copy : TermCopy) → list_all (λ l. met cycle (literal_formula l)) (owned copy) ≡ true → (set : ℕ) → Owns copy set → list_any (is_in set) cycle ≡ true
owned_is_met cycle copy holds set own =
    each_is (λ l. met cycle (literal_formula l)) (owned copy) (Inf set false) holds
    (there_map (λ s. Inf s false) (range_with_len copy.first (literal_places copy.infs)) set (there_range copy.first (literal_places copy.infs) set own.from own.to))
