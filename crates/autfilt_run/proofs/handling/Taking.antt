-- The automaton that is built of what was parsed, with labels in canonical form.
use Rattle.std.proofs.Common.{◌≡◌, List, refl, sym, ap, ◌∙◌, subst}
use Rattle.std.specs.Prelude.{◌↔◌}
use Rattle.std.proofs.lemmas.Bool.{ltb-false}
use Rattle.aut_base.proofs.canonical.CanonicalAutomata.{canonical_accepts_the_same, labels_below}
use Rattle.aut_base.specs.Acceptance.{Accepts}
use Rattle.aut_base.specs.Automaton.{Automaton}
use Rattle.aut_base.specs.CanonicalLabel.{canonical}
use Rattle.aut_base.specs.Word.{NameSet}
use Rattle.aut_base.specs.declared.limit.TheConstants.{MOST_SETS, MOST_STATES}
use Rattle.aut_core.specs.SymbolicAutomata.{automaton_of}
use Rattle.autfilt_run.specs.inner.Taking.{IsReadAs}
use Rattle.hoa_parser.specs.Raw.{Written}
use Rattle.hoa_reader.specs.Described as reader
use Rattle.hoa_reader.specs.Elaborating.{IsBuilt}
use Rattle.hoa_reader.specs.Validity.{acceptance_of}
use Rattle.hoa_reader.specs.declared.elaborate.Named.{Named}
use Rattle.plan_meaning.specs.Operands.{IsOfReadSize}

-- the one that is built is the one that is read
pub read_as : (w : Written) (n : Named) → IsBuilt w n → IsReadAs w (automaton_of n.automaton)
read_as w n built = record {
  valid = built.valid;
  within = built.within;
  described = reader.described w;
  is = built.same;
  same = refl;
  formed = built.formed;
  size = subst IsOfReadSize (sym built.same)
      (record { states = ltb-false MOST_STATES (reader.state_count w) built.within.1.1.0; sets = ltb-false MOST_SETS (acceptance_of w).sets built.within.1.0 });
}

-- it is the one in canonical form
pub core_is : (w : Written) (core : Automaton) → IsReadAs w core → core ≡ canonical (reader.described w)
core_is w core r = r.is ∙ ap canonical r.same

-- and accepts the same words
pub accepts_read : (w : Written) (core : Automaton) → IsReadAs w core → (u v : List NameSet) → Accepts core u v ↔ Accepts (reader.described w) u v
accepts_read w core r u v =
    let P : Automaton → Type 0 = λ x. Accepts x u v ↔ Accepts (reader.described w) u v in
    let Q : Automaton → Type 0 = λ x. Accepts (canonical r.described) u v ↔ Accepts x u v in
    subst P (sym r.is) (subst Q r.same (canonical_accepts_the_same r.described (labels_below r.described r.formed) u v))
