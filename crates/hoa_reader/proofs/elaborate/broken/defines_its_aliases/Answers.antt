use Rattle.std.proofs.Common.{◌≡◌, ◌∙◌, ◌&&◌, Bool, true, false, List, [], ap, map, refl, sym}
use Rattle.std.proofs.lemmas.Result.{IfOk-weaker}
use Rattle.std.specs.List.{list_all}
use Rattle.aut_base.specs.Text.{same_text}
use Rattle.hoa_parser.specs.Raw.{RawTree, written}
use Rattle.hoa_reader.proofs.counting.BodySums.{and_in_turn, body_plain}
use Rattle.hoa_reader.proofs.counting.PlainLabels.{plain_among}
use Rattle.hoa_reader.specs.Validity.{AliasLine, alias_lines, aliases_among, all_differ, body_labels, uses_earlier}
use Rattle.hoa_reader.specs.declared.elaborate.sums.Sums.{Sums}
use Rattle.hoa_reader.specs.inner.PickedOut.{alias_def, are_defined, label_refs, line_names}
use Rattle.hoa_reader.proofs.elaborate.broken.defines_its_aliases.Goals as goal

-- labels without aliases ask for none
plain_defines : (lines : List AliasLine) (ts : List RawTree) → list_all (aliases_among []) ts ≡ true
    → are_defined lines ≡ (all_differ same_text (line_names lines) && (uses_earlier [] lines && list_all (aliases_among (line_names lines)) ts))
plain_defines lines ts plain =
    ap (λ b. all_differ same_text (line_names lines) && b) (sym (ap (λ b. uses_earlier [] lines && b) (plain_among (line_names lines) ts plain) ∙ end (uses_earlier [] lines)))
  where
    end : (b : Bool) → (b && true) ≡ b
    end true = refl
    end false = refl

pub returns-then-parts : goal.returns-then-parts
returns-then-parts c =
    let w = written c.args.raw.now in
    let plain : list_all (aliases_among []) (body_labels w.states) ≡ true = body_plain _ w.states ∙ sym (ap (λ (s : Sums). s.plain) c.requires.sums) ∙ c.if-parts.true in
    IfOk-weaker c.are_defined.result _ _
    (λ kept is. is ∙ ap are_defined (ap (map alias_def) c.deref.ensures.value ∙ c.requires.defs) ∙ plain_defines (alias_lines w) (body_labels w.states) plain) c.are_defined.ensures

pub returns : goal.returns
returns c =
    let w = written c.args.raw.now in
    let defs : map alias_def c.deref-2.result.now ≡ alias_lines w = ap (map alias_def) c.deref-2.ensures.value ∙ c.requires.defs in
    let labels : map label_refs c.deref-3.result.now ≡ body_labels w.states = ap (map label_refs) c.deref-3.ensures.value ∙ c.requires.labels c.if-parts.false in
    IfOk-weaker c.defines_aliases.result _ _
    (λ kept is. is ∙ (λ i. are_defined (defs i) && list_all (aliases_among (line_names (defs i))) (labels i))
    ∙ and_in_turn (all_differ same_text (line_names (alias_lines w))) (uses_earlier [] (alias_lines w)) (list_all (aliases_among (line_names (alias_lines w))) (body_labels w.states)))
    c.defines_aliases.ensures
