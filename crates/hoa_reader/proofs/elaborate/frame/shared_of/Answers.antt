use Rattle.std.proofs.Common.{[], List, ap, refl, subst}
use Rattle.hoa_reader.specs.Described.{meanings_after}
use Rattle.hoa_reader.specs.declared.elaborate.parts.AliasDef.{AliasDef}
use Rattle.hoa_reader.specs.inner.Growing.{AreAliasesKnown, meanings_by}
use Rattle.hoa_reader.proofs.elaborate.frame.shared_of.Goals as goal

pub returns : goal.returns
returns c = record {
  count = refl;
  sets = refl;
  meanings = ap (meanings_after []) c.in_ok-defs.ensures;
  known = subst (λ (defs : List AliasDef). AreAliasesKnown (meanings_by defs) defs c.in_ok-known.known) c.deref.ensures.value c.in_ok-known.ensures;
}
