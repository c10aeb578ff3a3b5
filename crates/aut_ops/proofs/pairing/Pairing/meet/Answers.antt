use Rattle.std.proofs.Common.{◌≡◌, ◌∙◌, ◌∷◌, ◌++◌, Some, [], List, ap, slice_get, subst, sym}
use Rattle.aut_core.specs.SymbolicAutomata.{edge_of}
use Rattle.aut_core.specs.declared.link.Link.{Link}
use Rattle.aut_ops.proofs.joint_runs.JointEdges.{joined}
use Rattle.aut_ops.proofs.links.Labels.{label_both}
use Rattle.aut_ops.proofs.pairs.Pairings.{adds_nothing, adds_one, beyond_one, ends, met_none, met_one, never_met}
use Rattle.aut_ops.specs.Products.{JointEdge}
use Rattle.aut_base.proofs.Outcomes.{passed_on}
use Rattle.aut_base.specs.declared.limit.TheConstants.{MOST_PAIRS}
use Rattle.aut_ops.specs.inner.Pairings.{AddsJointEdges, AreBeyond, PairingStage, meeting}
use Rattle.aut_ops.proofs.pairing.Pairing.meet.Goals as goal

pub returns-then-is_false-clause-adds : goal.returns-then-is_false-clause-adds
returns-then-is_false-clause-adds c =
    let s = c.self.inside.guards in
    let link = c.args.link.now in
    let other = c.args.other.now in
    let never = never_met s c.and.new.self link.guard other.guard c.in_ok-guard.guard c.is_false.result c.and.ensures.keeps c.in_ok-guard.ensures.and c.is_false.ensures.valuations
    ∙ c.if-is_false.true in
    let after : PairingStage = record { store = c.and.new.self; pairs = c.self.inside.pairs.keys; links = c.self.inside.links } in
    let before : PairingStage = record { store = s; pairs = c.self.inside.pairs.keys; links = c.self.inside.links } in
    subst (λ (r : PairingStage). AddsJointEdges r after (meeting r.store c.args.sets link other)) c.self.view_is
    (subst (AddsJointEdges before after) (sym (met_none s c.args.sets link other never)) (adds_nothing s c.and.new.self c.self.inside.pairs.keys c.self.inside.links c.and.ensures.keeps))

pub returns-in_err-to-clause-many : goal.returns-in_err-to-clause-many
returns-in_err-to-clause-many c is =
    let s = c.self.inside.guards in
    let link = c.args.link.now in
    let other = c.args.other.now in
    let some = never_met s c.and.new.self link.guard other.guard c.in_ok-guard.guard c.is_false.result c.and.ensures.keeps c.in_ok-guard.ensures.and c.is_false.ensures.valuations
    ∙ c.if-is_false.false in
    let fault = passed_on c.from_residual-in_err-to.result _ _ c.from_residual-in_err-to.ensures.1 is in
    let many = beyond_one MOST_PAIRS c.self.inside.pairs.keys (link.to, other.to) (c.in_err-to.ensures.many fault) in
    subst (λ (r : PairingStage). AreBeyond MOST_PAIRS r.pairs (ends (meeting r.store c.args.sets link other))) c.self.view_is
    (subst (λ (js : List JointEdge). AreBeyond MOST_PAIRS c.self.inside.pairs.keys (ends js)) (sym (met_one s c.args.sets link other some)) many)

pub returns-clause-adds : goal.returns-clause-adds
returns-clause-adds c =
    let s = c.self.inside.guards in
    let link = c.args.link.now in
    let other = c.args.other.now in
    let some = never_met s c.and.new.self link.guard other.guard c.in_ok-guard.guard c.is_false.result c.and.ensures.keeps c.in_ok-guard.ensures.and c.is_false.ensures.valuations
    ∙ c.if-is_false.false in
    let stage = c.number.new.self in
    let before : PairingStage = record { store = s; pairs = c.self.inside.pairs.keys; links = c.self.inside.links } in
    let middle : PairingStage = record { store = c.and.new.self; pairs = stage.pairs; links = c.push.new.self } in
    let after : PairingStage = record { store = c.self-2.inside.guards; pairs = c.self-2.inside.pairs.keys; links = c.push.new.self } in
    let same : middle ≡ after = λ i. record {
      store = (sym c.number.ensures.store ∙ sym (ap (λ (r : PairingStage). r.store) c.self-2.view_is)) i;
      pairs =
          sym (ap (λ (r : PairingStage). r.pairs) c.self-2.view_is) i;
      links = c.push.new.self;
    } in
    let l : Link = record { from = c.args.at; guard = c.in_ok-guard.guard; to = c.in_ok-to.to; marks = c.in_ok-marks.marks } in
    let pushed : c.push.new.self ≡ c.self.inside.links ++ l ∷ [] = c.in_ok-push.ensures.ok
    ∙ ap (λ (ls : List Link). ls ++ l ∷ []) (ap (λ (r : PairingStage). r.links) c.self-2.view_is ∙ c.number.ensures.links) in
    let at = subst (λ (r : PairingStage). slice_get r.pairs c.args.at ≡ Some (link.from, other.from)) (sym c.self.view_is) c.requires.meet.place in
    let one = adds_one s c.and.new.self c.self.inside.pairs.keys stage.pairs c.self.inside.links c.push.new.self l (joined s.names c.args.sets (edge_of s link) (edge_of s other))
    c.and.ensures.keeps c.in_ok-to.ensures.pairs pushed c.in_ok-guard.ensures.and.has at c.in_ok-to.ensures.place
    (label_both s c.and.new.self link.guard other.guard c.in_ok-guard.guard c.and.ensures.keeps.names c.in_ok-guard.ensures.and) c.in_ok-marks.ensures in
    subst (λ (r : PairingStage). AddsJointEdges r after (meeting r.store c.args.sets link other)) c.self.view_is
    (subst (AddsJointEdges before after) (sym (met_one s c.args.sets link other some))
    (subst (λ (t : PairingStage). AddsJointEdges before t (joined s.names c.args.sets (edge_of s link) (edge_of s other) ∷ [])) same one))
