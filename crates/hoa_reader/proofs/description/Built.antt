-- The parts of the automaton that is built.
use Rattle.std.proofs.Common.{◌≡◌, ◌≤◌, ◌∙◌, ℕ, true, List, ap, arith, length, map, subst, sym}
use Rattle.std.proofs.lemmas.Bool.{ltb-false}
use Rattle.aut_base.proofs.canonical.LabelLaws.{canonical_accepts_the_same}
use Rattle.aut_base.specs.Automaton.{IsWellFormed}
use Rattle.aut_base.specs.CanonicalLabel.{canonical}
use Rattle.aut_base.specs.declared.limit.TheConstants.{MOST_NAMES}
use Rattle.aut_core.proofs.Made.{parts_from}
use Rattle.aut_core.specs.SymbolicAutomata.{AreSymbolicParts, automaton_of}
use Rattle.aut_core.specs.Deterministic.{GoesOneWay}
use Rattle.aut_core.specs.Links.{StandFor}
use Rattle.aut_core.specs.declared.link.Link.{Link}
use Rattle.hoa_parser.specs.Raw.{Written}
use Rattle.hoa_reader.proofs.description.Framed.{framed_edges}
use Rattle.hoa_reader.proofs.description.OneWay.{one_way}
use Rattle.hoa_reader.proofs.description.WellFormed.{valid_is_well_formed}
use Rattle.hoa_reader.specs.Counts.{PassesNone}
use Rattle.hoa_reader.specs.Described.{described}
use Rattle.hoa_reader.proofs.description.StatesInRange.{edges_of}
use Rattle.hoa_reader.specs.Validity.{written_names}
use Rattle.hoa_reader.specs.declared.elaborate.body.Body.{Body}
use Rattle.hoa_reader.specs.declared.elaborate.edges.Shared.{Shared}
use Rattle.hoa_reader.specs.declared.elaborate.frame.Frame.{Frame}
use Rattle.hoa_reader.specs.declared.elaborate.header.Header.{Header}
use Rattle.hoa_reader.specs.inner.Built.{IsBodyOf, symbolic_of_body}
use Rattle.hoa_reader.specs.inner.Frames.{IsFrameOf, IsSharedBy}
use Rattle.hoa_reader.specs.inner.Headers.{IsHeaderOf}
use Rattle.hoa_reader.specs.inner.TreeEdges.{edges_for, settled}
use Rattle.label_guards.specs.Store.{Store}

pub few_names : (w : Written) → PassesNone w → length (written_names w) ≤ MOST_NAMES
few_names w within = ltb-false MOST_NAMES (length (written_names w)) within.0

-- the links of a frame stand for the edges that are described
pub stand_for : (w : Written) (f : Frame) (x : Shared) (links : List Link) (n : ℕ) (s : Store) → IsFrameOf w f → IsSharedBy f w.items x → n ≡ f.names
    → StandFor s links (map (settled n) (edges_for x w.states f.states)) → StandFor s links (map (settled (length (written_names w))) (edges_of w))
stand_for w f x links n s of by count stand =
    subst (StandFor s links) (ap (map (settled n)) (framed_edges w f x of by) ∙ ap (λ m. map (settled m) (edges_of w)) (count ∙ of.count)) stand

-- it is what is described, with canonical labels
pub built : (w : Written) (h : Header) (b : Body) → IsHeaderOf w.items h → IsBodyOf w b → automaton_of (symbolic_of_body h.names h.formula b) ≡ canonical (described w)
built w h b head of = λ i. record { names = head.names i; starts = of.starts i; states = of.states i; edges = of.stand.edges i; sets = of.sets i; formula = head.formula i }

pub built_parts : (w : Written) (h : Header) (b : Body) → IsHeaderOf w.items h → IsBodyOf w b → AreSymbolicParts (symbolic_of_body h.names h.formula b)
built_parts w h b head of =
    let few = few_names w of.within in
    let count = ap length head.names in
    parts_from (symbolic_of_body h.names h.formula b) (subst IsWellFormed (sym (built w h b head of))
    ((canonical_accepts_the_same (described w)).well_formed (valid_is_well_formed w of.valid)))
    (omega (arith, few, count)) (of.count ∙ sym count) of.stand.has

-- each letter meets just one edge of every state where labels are implicit
pub built_one_way : (w : Written) (h : Header) (b : Body) → IsHeaderOf w.items h → IsBodyOf w b → b.implicit ≡ true → GoesOneWay (automaton_of (symbolic_of_body h.names h.formula b))
built_one_way w h b head of implicit = subst GoesOneWay (sym (built w h b head of)) (one_way w (of.implicit implicit))
