-- An automaton with other labels on the same edges is one with a name hidden, where each label has the truth of the hidden
-- one.
use Rattle.std.proofs.Common.{◌∙◌, Contains, ap, refl, subst, sym}
use Rattle.aut_base.proofs.lists.Members.{from_map, there_map}
use Rattle.aut_base.specs.Automaton.{LabelledEdge}
use Rattle.aut_base.specs.Label.{LabelTree, holds_at, truth}
use Rattle.ap_project.specs.Laws.{RelabelledIsHidden}

abbrev relabelled : (LabelledEdge → LabelTree) → LabelledEdge → LabelledEdge
relabelled label e = record e { label = label e }

pub relabelled_is_hidden : RelabelledIsHidden
relabelled_is_hidden hiding name a h is = record {
  starts = is.starts;
  formula = is.formula;
  forth = λ e x there meets. record {
    edge = relabelled is.label e;
    there = subst (λ es. Contains es (relabelled is.label e)) (sym is.edges) (there_map (relabelled is.label) a.edges e there);
    twin = record { from = refl; to = refl; marks = refl };
    holds = is.says e x there ∙ meets;
  };
  back = λ f x there holds. (let found = from_map (relabelled is.label) a.edges f (subst (λ es. Contains es f) is.edges there) in record {
    edge = found.0;
    there = found.1;
    twin = record { from = ap (λ (d : LabelledEdge). d.from) found.2; to = ap (λ (d : LabelledEdge). d.to) found.2; marks = ap (λ (d : LabelledEdge). d.marks) found.2 };
    holds = sym (is.says found.0 x found.1) ∙ (ap (λ (d : LabelledEdge). truth (holds_at h.names x) d.label) found.2 ∙ holds);
  });
}
