-- The language of an automaton with a name hidden under `Absent` or `Present`.
use Rattle.std.proofs.Common.{◌≡◌, ◌∙◌, ◌↔◌, ℕ, List, Contains, ap, map, refl, subst, sym}
use Rattle.aut_base.specs.Acceptance.{Accepts}
use Rattle.aut_base.specs.Automaton.{Automaton}
use Rattle.aut_base.specs.Label.{LabelTree, holds_at, truth}
use Rattle.aut_base.specs.Word.{NameSet}
use Rattle.ap_project.proofs.Letters.{including, without}
use Rattle.ap_project.proofs.Related.{Carries, Related, accepts_carried, map_related, related_map}
use Rattle.ap_project.specs.Hiding.{hidden_truth}
use Rattle.ap_project.specs.Laws.{HiddenAbsent, HiddenPresent, IsHidden}
use Rattle.ap_project.specs.declared.hide.Hide.{Hide}
use Rattle.ap_project.specs.declared.hide.Hide.TheVariants.{Absent, Present}

-- where the hidden label's truth at x is the label's truth at the one letter f x
module _ (how : Hide) (f : NameSet → NameSet) (name : List ℕ) (a h : Automaton)
    (asked : (l : LabelTree) (x : NameSet) → hidden_truth how name a.names l x ≡ truth (holds_at a.names (f x)) l) (is : IsHidden how name a h) where
  to_a : Carries (λ x y. f x ≡ y) h a
  to_a e x y same there holds =
      let one = is.back e x there holds in
      record {
        edge = one.edge;
        there = one.there;
        twin = one.twin;
        holds = ap (λ z. truth (holds_at a.names z) one.edge.label) (sym same) ∙ (sym (asked one.edge.label x) ∙ one.holds);
      }

  to_h : Carries (λ x y. x ≡ f y) a h
  to_h e x y same there holds = is.forth e y there (asked e.label y ∙ (ap (λ z. truth (holds_at a.names z) e.label) (sym same) ∙ holds))

  mapped : (xs : List NameSet) → Related (λ x y. f x ≡ y) xs (map f xs)
  mapped xs = related_map (λ x y. f x ≡ y) f (λ x. refl) xs

  back : (xs : List NameSet) → Related (λ x y. x ≡ f y) (map f xs) xs
  back xs = map_related (λ x y. x ≡ f y) f (λ x. refl) xs

  fixed : (u v : List NameSet) → Accepts h u v ↔ Accepts a (map f u) (map f v)
  fixed u v = (
    accepts_carried (λ x y. f x ≡ y) h a to_a (λ s. subst (λ ss. Contains ss s) is.starts) is.formula u v _ _ (mapped u) (mapped v),
    accepts_carried (λ x y. x ≡ f y) a h to_h (λ s. subst (λ ss. Contains ss s) (sym is.starts)) (sym is.formula) _ _ u v (back u) (back v),
  )

pub hidden_absent : HiddenAbsent
hidden_absent name a h is = fixed Absent (without name) name a h (λ l x. refl) is

pub hidden_present : HiddenPresent
hidden_present name a h is = fixed Present (including name) name a h (λ l x. refl) is
