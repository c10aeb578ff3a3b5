-- Guards of labels as they are written, by the guards of their parts.
use Rattle.std.proofs.Common.{◌≡◌, ◌∙◌, ◌+◌, ◌≤◌, ◌&&◌, ◌||◌, ℕ, suc, Bool, true, false, List, [], ◌∷◌, ap, drop, length, map, refl, sym, arith, Some, slice_get}
use Rattle.std.proofs.lemmas.List.{drop_all}
use Rattle.std.proofs.lemmas.Option.{slice_get-map}
use Rattle.std.specs.Global.{Global}
use Rattle.std.specs.Option.{option_map}
use Rattle.std.specs.declared.boxed.Box.{Box}
use Rattle.aut_base.proofs.canonical.CanonicalTruth.{label_of-same, truth_on-label_of}
use Rattle.aut_base.proofs.trees.LabelSizes.{label_size-at}
use Rattle.aut_base.specs.CanonicalLabel.{canonical_label}
use Rattle.aut_base.specs.Label.{AllBelow, EachBelow, LabelTree, LabelTrees, all_true, label_size, labels_size, some_true, trees, truth}
use Rattle.aut_base.specs.Valuation.{holds_in, truth_on}
use Rattle.hoa_parser.proofs.grammar.RawTrees.{raw_tree-And, raw_tree-Cube, raw_tree-Or}
use Rattle.hoa_parser.specs.Raw.{RawTree, all_literals, raw_all, raw_list, raw_parts, raw_tree, raw_trees}
use Rattle.hoa_parser.specs.declared.raw.RawLabel.{RawLabel}
use Rattle.hoa_parser.specs.declared.raw.RawLabel.TheVariants as raw_label
use Rattle.hoa_parser.specs.declared.raw.RawLabels.{RawLabels}
use Rattle.hoa_reader.proofs.labels.CubeLabels.{cube_alike}
use Rattle.hoa_reader.specs.Described.{Meaning, each_expanded, expanded}
use Rattle.hoa_reader.specs.declared.elaborate.edges.Shared.{Shared}
use Rattle.hoa_reader.specs.inner.Growing.{meanings_by}
use Rattle.hoa_reader.specs.inner.TreeEdges.{parts_replaced, replaced}
use Rattle.label_guards.proofs.labelled.Parts.{next_left, part_below}
use Rattle.label_guards.specs.Guards.{IsGuardOf, literal_truth, truth_in}
use Rattle.label_guards.specs.Store.{Has, Keeps, Store, label_at, label_in, outcome}
use Rattle.label_guards.specs.declared.guard.Guard.{Guard}

-- the same, said in other words
pub guard_same : (s : Store) (says also : (ℕ → Bool) → Bool) (g : Guard) → ((on : ℕ → Bool) → says on ≡ also on) → IsGuardOf s says g → IsGuardOf s also g
guard_same s says also g same is = record { has = is.has; truth = λ on. is.truth on ∙ same on }

-- the guard of a label that is known to be this one
pub guard_of_label : (s : Store) (t u : LabelTree) (g : Guard) → t ≡ u → IsGuardOf s (λ on. truth on u) g → IsGuardOf s (λ on. truth on t) g
guard_of_label s t u g e is = guard_same s (λ on. truth on u) (λ on. truth on t) g (λ on. ap (truth on) (sym e)) is

-- a conjunction of literals that is given by its bits has no alias
pub cube_written : (x : Shared) (label : RawLabel) (n v : ℕ) → label ≡ raw_label.Cube n v → replaced x (raw_tree label) ≡ expanded [] (raw_all (all_literals n v))
cube_written x label n v is = ap (λ l. replaced x (raw_tree l)) is ∙ (ap (replaced x) (raw_tree-Cube n v) ∙ cube_alike (meanings_by x.defs.items) n v)

-- a guard with the truth of a label has its canonical form
pub canonical_guard : (s : Store) (t : LabelTree) (g : Guard) → IsGuardOf s (λ on. truth on t) g → label_in s g ≡ canonical_label s.names t
unfolding label_at
canonical_guard s t g is =
    let says : List Bool → Bool = λ v. outcome s.nodes (holds_in v) g.place in
    label_of-same s.names says (truth_on t) (λ v size. sym (truth_on-label_of s.names says v size) ∙ is.truth (holds_in v))

-- of all that may hold, `t` with a literal is that literal
pub literal_alone : (s t : Store) (prop : ℕ) (holds : Bool) (all g : Guard) → IsGuardOf s (λ on. true) all
    → IsGuardOf t (λ on. literal_truth prop holds on && truth_in s all on) g → IsGuardOf t (literal_truth prop holds) g
literal_alone s t prop holds all g is_all is =
    guard_same t _ (literal_truth prop holds) g (λ on. ap (λ (b : Bool). literal_truth prop holds on && b) (is_all.truth on) ∙ end (literal_truth prop holds on)) is
  where
    end : (b : Bool) → (b && true) ≡ b
    end true = refl
    end false = refl

-- a guard with the truth of a part and another that was there before, by an operation
pub guard_beside : (s t u : Store) (op : Bool → Bool → Bool) (says : (ℕ → Bool) → Bool) (own guard g : Guard) → Keeps s t → Has s guard → IsGuardOf t says own
    → IsGuardOf u (λ on. op (truth_in t own on) (truth_in t guard on)) g → IsGuardOf u (λ on. op (says on) (truth_in s guard on)) g
guard_beside s t u op says own guard g keeps has is_own is =
    guard_same u _ _ g (λ on. λ i. op (is_own.truth on i) (ap (truth on) (keeps.labels guard has) i)) is

-- The parts of a conjunction or disjunction, each with its aliases replaced.
each_of : (ms : List Meaning) (ts : List RawTree) → each_expanded ms (raw_trees ts) ≡ trees (map (expanded ms) ts)
each_of ms [] = refl
each_of ms (t ∷ ts) = ap (LabelTrees.more (expanded ms t)) (each_of ms ts)

pub and_replaced : (x : Shared) (p : Box RawLabels Global)
    → replaced x (raw_tree (raw_label.And p))
    ≡ LabelTree.And (replaced x (raw_parts p.value).first) (replaced x (raw_parts p.value).second) (trees (map (replaced x) (raw_parts p.value).others))
and_replaced x p =
    ap (replaced x) (raw_tree-And p)
    ∙ ap (LabelTree.And (replaced x (raw_parts p.value).first) (replaced x (raw_parts p.value).second)) (each_of (meanings_by x.defs.items) (raw_parts p.value).others)

pub or_replaced : (x : Shared) (p : Box RawLabels Global)
    → replaced x (raw_tree (raw_label.Or p))
    ≡ LabelTree.Or (replaced x (raw_parts p.value).first) (replaced x (raw_parts p.value).second) (trees (map (replaced x) (raw_parts p.value).others))
or_replaced x p =
    ap (replaced x) (raw_tree-Or p)
    ∙ ap (LabelTree.Or (replaced x (raw_parts p.value).first) (replaced x (raw_parts p.value).second)) (each_of (meanings_by x.defs.items) (raw_parts p.value).others)

part_there : (x : Shared) (p : RawLabels) (i : ℕ) (t : RawTree) → slice_get (raw_list p) i ≡ Some t → slice_get (map (replaced x) (raw_list p)) i ≡ Some (replaced x t)
part_there x p i t at = slice_get-map (replaced x) (raw_list p) i ∙ ap (option_map (replaced x)) at

pub part_is_below : (x : Shared) (n : ℕ) (p : RawLabels) (i : ℕ) (t : RawTree) → EachBelow n (parts_replaced x p) → slice_get (raw_list p) i ≡ Some t → AllBelow n (replaced x t)
part_is_below x n p i t below at = part_below n (map (replaced x) (raw_list p)) i (replaced x t) below (part_there x p i t at)

pub part_is_smaller : (x : Shared) (p : RawLabels) (i : ℕ) (t : RawTree) → slice_get (raw_list p) i ≡ Some t → label_size (replaced x t) ≤ labels_size (parts_replaced x p)
part_is_smaller x p i t at = label_size-at (map (replaced x) (raw_list p)) i (replaced x t) (part_there x p i t at)

length_kept : (x : Shared) (ts : List RawTree) → length (map (replaced x) ts) ≡ length ts
length_kept x [] = refl
length_kept x (t ∷ ts) = ap suc (length_kept x ts)

-- no part yet
none_left : (x : Shared) (p : RawLabels) (n : ℕ) → n ≡ length (raw_list p) → drop n (map (replaced x) (raw_list p)) ≡ []
none_left x p n e = let size = length_kept x (raw_list p) in drop_all n (map (replaced x) (raw_list p)) (omega arith)

pub all_none : (x : Shared) (s : Store) (p : RawLabels) (n : ℕ) (g : Guard) → n ≡ length (raw_list p) → IsGuardOf s (λ on. true) g
    → IsGuardOf s (λ on. all_true on (trees (drop n (map (replaced x) (raw_list p))))) g
all_none x s p n g e is = guard_same s _ _ g (λ on. ap (λ (ts : List LabelTree). all_true on (trees ts)) (sym (none_left x p n e))) is

pub some_none : (x : Shared) (s : Store) (p : RawLabels) (n : ℕ) (g : Guard) → n ≡ length (raw_list p) → IsGuardOf s (λ on. false) g
    → IsGuardOf s (λ on. some_true on (trees (drop n (map (replaced x) (raw_list p))))) g
some_none x s p n g e is = guard_same s _ _ g (λ on. ap (λ (ts : List LabelTree). some_true on (trees ts)) (sym (none_left x p n e))) is

-- one part more, from the last to the first
pub all_more : (x : Shared) (s t : Store) (p : RawLabels) (i left : ℕ) (part : RawTree) (g result : Guard) → left ≡ i + 1 → slice_get (raw_list p) i ≡ Some part
    → IsGuardOf s (λ on. all_true on (trees (drop left (map (replaced x) (raw_list p))))) g → IsGuardOf t (λ on. truth on (replaced x part) && truth_in s g on) result
    → IsGuardOf t (λ on. all_true on (trees (drop i (map (replaced x) (raw_list p))))) result
all_more x s t p i left part g result e at so_far is =
    guard_same t _ _ result
    (λ on. ap (λ (b : Bool). truth on (replaced x part) && b) (so_far.truth on)
    ∙ sym (ap (λ (ts : List LabelTree). all_true on (trees ts)) (next_left (map (replaced x) (raw_list p)) i left (replaced x part) e (part_there x p i part at)))) is

pub some_more : (x : Shared) (s t : Store) (p : RawLabels) (i left : ℕ) (part : RawTree) (g result : Guard) → left ≡ i + 1 → slice_get (raw_list p) i ≡ Some part
    → IsGuardOf s (λ on. some_true on (trees (drop left (map (replaced x) (raw_list p))))) g → IsGuardOf t (λ on. truth on (replaced x part) || truth_in s g on) result
    → IsGuardOf t (λ on. some_true on (trees (drop i (map (replaced x) (raw_list p))))) result
some_more x s t p i left part g result e at so_far is =
    guard_same t _ _ result
    (λ on. ap (λ (b : Bool). truth on (replaced x part) || b) (so_far.truth on)
    ∙ sym (ap (λ (ts : List LabelTree). some_true on (trees ts)) (next_left (map (replaced x) (raw_list p)) i left (replaced x part) e (part_there x p i part at)))) is
