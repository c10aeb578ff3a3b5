-- The needed edges suffice for a condition, by cases: none is added, one for an `Inf`, those of each part, or those of one part.
use Rattle.std.proofs.Common.{◌≡◌, ◌∙◌, ℕ, ◌+◌, ◌≤◌, Bool, true, false, not, List, [], ◌∷◌, ◌++◌, map, take, Some, slice_get, refl, sym, ap, subst}
use Rattle.std.specs.List.{All, Contains, list_all, list_any}
use Rattle.std.proofs.lemmas.Bool.{true≢false}
use Rattle.std.proofs.lemmas.List.Elements.{All-contains, All-contains_itself, All-push, All-weaker, Contains-append_left, Contains-push}
use Rattle.aut_base.proofs.lists.Members.{all_take_more, any_at, any_found, from_map}
use Rattle.aut_base.specs.Formula.{FormulaTree, Fin, Inf, formula_list, formula_tree, met}
use Rattle.aut_base.specs.declared.formula.Formula.TheVariants.{And, Or}
use Rattle.aut_base.specs.declared.formula.Formulas.{Formulas}
use Rattle.acc_forms.proofs.Parts.{met-And, met-Or}
use Rattle.aut_core.specs.declared.link.Link.{Link}
use Rattle.lasso_emptiness.specs.declared.live.EdgeRef.{EdgeRef}
use Rattle.lasso_emptiness.specs.inner.Edges.{marks_of, met_along, on_side}
use Rattle.lasso_emptiness.specs.inner.Needed.{IsPartOf, Serves, ServesAll, Suits}
use Rattle.lasso_emptiness.proofs.conditions.Conditions.{met-Fin}
use Rattle.lasso_emptiness.proofs.conditions.Marked.{inf_met, one_on}

module _ (links : List Link) (edges : List EdgeRef) where
  abbrev marked : List EdgeRef → List (List ℕ)
  marked es = map (marks_of links) es

  -- a `Fin` that all edges together meet is met by any cycle of them
  pub fin_fewer : (set : ℕ) (neg : Bool) (cycle : List EdgeRef) → All (Contains edges) cycle → met_along links edges (Fin set neg) ≡ true → met_along links cycle (Fin set neg) ≡ true
  fin_fewer set neg cycle within holds = met-Fin (marked cycle) set neg ∙ ap not (none (list_any (on_side set neg) (marked cycle)) refl)
    where
      none : (b : Bool) → list_any (on_side set neg) (marked cycle) ≡ b → list_any (on_side set neg) (marked cycle) ≡ false
      none false is = is
      none true is =
          let found = any_found (on_side set neg) (marked cycle) is in
          let edge = from_map (marks_of links) cycle found.0 found.1 in
          let on : on_side set neg (marks_of links edge.0) ≡ true = ap (on_side set neg) edge.2 ∙ found.2 in
          let some = one_on links edges set neg edge.0 (All-contains (Contains edges) cycle edge.0 within edge.1) on in
          absurd (true≢false (sym holds ∙ met-Fin (marked edges) set neg ∙ ap not some))

  -- nothing is added
  pub suits_same : (test : List (List ℕ) → Type 0) (old : List EdgeRef) → All (Contains edges) old
      → ((cycle : List EdgeRef) → All (Contains edges) cycle → All (Contains cycle) old → test (marked cycle)) → Suits links edges test old old
  suits_same test old inside enough = record { kept = All-contains_itself old; inside = inside; enough = enough }

  -- an edge that meets an `Inf` was chosen before
  pub inf_there : (set : ℕ) (neg : Bool) (old : List EdgeRef) (e : EdgeRef) → All (Contains edges) old → Contains old e → on_side set neg (marks_of links e) ≡ true
      → Serves links edges (Inf set neg) old old
  inf_there set neg old e inside there on =
      suits_same (λ marks. met marks (Inf set neg) ≡ true) old inside (λ cycle within has. inf_met links cycle set neg e (All-contains (Contains cycle) old e has there) on)

  -- such an edge is added
  pub inf_added : (set : ℕ) (neg : Bool) (old new : List EdgeRef) (e : EdgeRef) → new ≡ old ++ e ∷ [] → All (Contains edges) old → Contains edges e
      → on_side set neg (marks_of links e) ≡ true → Serves links edges (Inf set neg) old new
  inf_added set neg old new e made inside here on = subst (Serves links edges (Inf set neg) old) (sym made) (record {
    kept = All-weaker (Contains old) (Contains (old ++ e ∷ [])) (λ d. Contains-append_left old (e ∷ []) d) old (All-contains_itself old);
    inside = All-push (Contains edges) old e inside here;
    enough = λ cycle within has. inf_met links cycle set neg e (All-contains (Contains cycle) (old ++ e ∷ []) e has (Contains-push old e)) on;
  })

  -- edges chosen for two tests, one after the other, suffice for both
  pub suits_then : (P Q R : List (List ℕ) → Type 0) (old mid new : List EdgeRef) → ((marks : List (List ℕ)) → P marks → Q marks → R marks) → Suits links edges P old mid
      → Suits links edges Q mid new → Suits links edges R old new
  suits_then P Q R old mid new both first second = record {
    kept = All-weaker (Contains mid) (Contains new) (λ d there. All-contains (Contains new) mid d second.kept there) old first.kept;
    inside = second.inside;
    enough = λ cycle within has. both (marked cycle)
        (first.enough cycle within (All-weaker (Contains new) (Contains cycle) (λ d there. All-contains (Contains cycle) new d has there) mid second.kept)) (second.enough cycle within has);
  }

  pub suits_all_more : (fs : List FormulaTree) (place : ℕ) (part : FormulaTree) (old mid new : List EdgeRef) → slice_get fs place ≡ Some part
      → Suits links edges (λ marks. list_all (met marks) (take place fs) ≡ true) old mid → Serves links edges part mid new
      → Suits links edges (λ marks. list_all (met marks) (take (place + 1) fs) ≡ true) old new
  suits_all_more fs place part old mid new is before here =
      suits_then (λ marks. list_all (met marks) (take place fs) ≡ true) (λ marks. met marks part ≡ true) (λ marks. list_all (met marks) (take (place + 1) fs) ≡ true) old mid new
      (λ marks so_far holds. all_take_more (met marks) fs place part is so_far holds) before here

  -- edges that suffice for a test suffice for each weaker one
  suits_weaker : (P Q : List (List ℕ) → Type 0) (old new : List EdgeRef) → ((marks : List (List ℕ)) → P marks → Q marks) → Suits links edges P old new → Suits links edges Q old new
  suits_weaker P Q old new weaker suits = record {
    kept = suits.kept;
    inside = suits.inside;
    enough = λ cycle within has. weaker (marked cycle) (suits.enough cycle within has);
  }

  pub serves-And : (p : Formulas) (old new : List EdgeRef) → ServesAll links edges (formula_list p) old new → Serves links edges (formula_tree (And p)) old new
  serves-And p old new = suits_weaker (λ marks. list_all (met marks) (formula_list p) ≡ true) (λ marks. met marks (formula_tree (And p)) ≡ true) old new (λ marks holds. met-And marks p ∙ holds)

  pub serves-Or : (p : Formulas) (part : FormulaTree) (old new : List EdgeRef) → IsPartOf (formula_list p) part → Serves links edges part old new
      → Serves links edges (formula_tree (Or p)) old new
  serves-Or p part old new is = suits_weaker (λ marks. met marks part ≡ true) (λ marks. met marks (formula_tree (Or p)) ≡ true) old new
      (λ marks holds. met-Or marks p ∙ any_at (met marks) (formula_list p) is.0 part is.1 holds)
