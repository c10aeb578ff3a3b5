use Rattle.std.proofs.Common.{[], sym, ◌∙◌}
use Rattle.hoa_parser.proofs.reading.Atoms.{no_atom, plain_atom}
use Rattle.hoa_parser.proofs.reading.LabelReads.{atom_last, atom_taken}
use Rattle.hoa_parser.proofs.reading.Steps.{handed_on, token_refused}
use Rattle.hoa_parser.specs.inner.Expecting.{Factor}
use Rattle.hoa_parser.proofs.parse.label.atom.Goals as goal

pub returns-in_default-plain_atom : goal.returns-in_default-plain_atom
returns-in_default-plain_atom g c = record {
  reads = token_refused (Factor c.args.depth) [] _ _ c.requires.unspent c.refused.ensures
      (no_atom c.args.depth c.args.ahead.now c.requires.no_bang c.requires.no_paren (plain_atom _ c.in_default.not-Alias ∙ sym c.in_default-plain_atom.ensures));
}

pub returns-in_err-advance : goal.returns-in_err-advance
returns-in_err-advance g c = record {
  reads = handed_on _ _ _ c.from_residual.ensures.1
      (atom_last c.args.depth _ _ _ (plain_atom _ c.in_default.not-Alias ∙ sym c.in-Some.ensures) c.in_err-advance.ensures);
}

pub returns : goal.returns
returns g c = record {
  reads = atom_taken c.args.depth c.in-Some.label _ _ (plain_atom _ c.in_default.not-Alias ∙ sym c.in-Some.ensures) c.in_ok-advance.ensures;
}
