use Rattle.std.proofs.Common.{Some, ap, sym, ◌∙◌, refl, rules, arith}
use Rattle.made_stream.proofs.MadeTexts.{text_of_made, text_of_other}
use Rattle.made_stream.proofs.Rings.{all_rings}
use Rattle.made_stream.proofs.made.MadeInputs.open.Goals as goal
use Rattle.made_stream.proofs.made.MadeInputs.open.Goals.{then-is, else-is}

pub returns-clause-opens : goal.returns-clause-opens
returns-clause-opens c =
    rw (← c.self.view_is)
    elim c.if-is.branch [
      | then-is w ↦
          let name = text_of_made _ _ (sym c.is.ensures.same ∙ w.if-is.true) in
          rw w.self-is
          record {
            texts = refl;
            counted = c.saturating_add-self-inside.ensures;
            opened = ap Some (w.first.ensures _ ∙ all_rings _ c.self.invariant.0 ∙ sym name);
            closed = tt;
            failed = search rules;
            memory = search rules;
            calm = refl;
            later = omega arith;
            reads = refl;
          }
      | else-is w ↦
          let name = text_of_other _ _ (sym c.is.ensures.same ∙ w.if-is.false) in
          rw w.self-is
          record {
            texts = refl;
            counted = c.saturating_add-self-inside.ensures;
            opened = ap Some (sym name);
            closed = tt;
            failed = search rules;
            memory = search rules;
            calm = refl;
            later = omega arith;
            reads = refl;
          }
    ]
