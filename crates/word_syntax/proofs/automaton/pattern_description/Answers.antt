use Rattle.std.proofs.Common.{List, [], ap, arith, length, map, ◌+◌, ◌++◌, ◌∷◌, ◌∙◌, ◌≡◌, ℕ}
use Rattle.std.proofs.lemmas.List.{length-append, length-map}
use Rattle.aut_base.proofs.trees.FormulaTrees.{formula_tree-True}
use Rattle.aut_base.specs.Automaton.{labelled_edge}
use Rattle.aut_base.specs.Label.{label_tree}
use Rattle.aut_base.specs.declared.label.Label.{Label}
use Rattle.word_syntax.proofs.matching.PatternEdges.{all_edges, edges_number, made_automaton}
use Rattle.word_syntax.specs.Matching.{edges_along}
use Rattle.word_syntax.proofs.automaton.pattern_description.Goals as goal

pub push_edges-requires-2 : goal.push_edges-requires-2
push_edges-requires-2 c =
    let first = edges_number c.len-back.result (c.len-back.result + c.len.result) (length c.new-edges.result) c.new-edges.result c.push_edges.new.edges (map label_tree c.as_slice.result.now)
    c.in_ok-push_edges.ensures in
    omega (
      arith,
      first,
      length-map c.as_slice.result.now label_tree,
      ap (λ (x : List Label). length x) c.as_slice.ensures,
      ap (λ (x : List Label). length x) c.as_slice-2.ensures,
      c.len-back.ensures,
      c.len.ensures,
      ap (λ x. length x) c.new-edges.ensures,
    )

pub returns : goal.returns
returns c =
    let stem = c.args.pattern.now.stem in
    let cycle = c.args.pattern.now.cycle in
    let total : c.len-back.result + c.len.result ≡ length c.args.pattern.now.stem + length c.args.pattern.now.cycle = omega (arith, c.len-back.ensures, c.len.ensures) in
    let states : c.len-back.result + c.len.result ≡ length (map label_tree c.args.pattern.now.stem ++ map label_tree c.args.pattern.now.cycle) =
    omega (
      arith,
      total,
      length-append (map label_tree c.args.pattern.now.stem) (map label_tree c.args.pattern.now.cycle),
      length-map c.args.pattern.now.stem label_tree,
      length-map c.args.pattern.now.cycle label_tree,
    ) in
    let one = c.in_ok-push_edges.ensures ∙ ap
    (λ (x : List Label). map labelled_edge c.new-edges.result ++ edges_along c.len-back.result (c.len-back.result + c.len.result) (length c.new-edges.result) (map label_tree x)) c.as_slice.ensures in
    let two = c.in_ok-push_edges-2.ensures ∙ ap
    (λ (x : List Label). map labelled_edge c.push_edges.new.edges ++ edges_along c.len-back.result (c.len-back.result + c.len.result) (length c.push_edges.new.edges) (map label_tree x))
    c.as_slice-2.ensures in
    made_automaton _ c.args.pattern.now.names _ _ _ _ (map label_tree c.args.pattern.now.stem) (map label_tree c.args.pattern.now.cycle) c.in_ok-copy_names.ensures
    (c.in_ok-push.ensures.ok ∙ ap (λ (x : List ℕ). x ++ 0 ∷ []) c.new-starts.ensures) states
    (all_edges c.len-back.result (c.len-back.result + c.len.result) c.new-edges.result c.push_edges.new.edges c.push_edges-2.new.edges c.args.pattern.now.stem c.args.pattern.now.cycle
    c.new-edges.ensures c.len-back.ensures total one two) formula_tree-True
