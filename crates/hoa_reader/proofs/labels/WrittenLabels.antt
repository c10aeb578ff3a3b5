-- The label of an edge, by what is written for it.
use Rattle.std.proofs.Common.{◌≡◌, ◌∙◌, ℕ, Option, Some, None, ap, refl, sym}
use Rattle.std.specs.Option.{option_map_or}
use Rattle.aut_base.specs.Label.{LabelTree}
use Rattle.hoa_parser.specs.Raw.{RawTree, WrittenEdge, WrittenState}
use Rattle.hoa_reader.specs.Described.{expanded, letter_label}
use Rattle.hoa_reader.specs.declared.elaborate.edges.Shared.{Shared}
use Rattle.hoa_reader.specs.inner.Growing.{meanings_by}
use Rattle.hoa_reader.specs.inner.TreeEdges.{label_due, label_for, label_written}

by_due : (f : RawTree → LabelTree) (s own : Option RawTree) (other : LabelTree)
    → option_map_or f (label_due s own) other ≡ option_map_or f s (option_map_or f own other)
by_due f None own other = refl
by_due f (Some t) own other = refl

pub has_written : (x : Shared) (s : WrittenState) (i : ℕ) (e : WrittenEdge) (t : RawTree) → label_written s e ≡ Some t
    → expanded (meanings_by x.defs.items) t ≡ label_for x s i e
has_written x s i e t is =
    let f = expanded (meanings_by x.defs.items) in
    ap (λ o. option_map_or f o (letter_label x.names i)) (sym is) ∙ by_due f s.label e.label (letter_label x.names i)

pub has_none : (x : Shared) (s : WrittenState) (i : ℕ) (e : WrittenEdge) → label_written s e ≡ None → letter_label x.names i ≡ label_for x s i e
has_none x s i e is =
    let f = expanded (meanings_by x.defs.items) in
    ap (λ o. option_map_or f o (letter_label x.names i)) (sym is) ∙ by_due f s.label e.label (letter_label x.names i)
