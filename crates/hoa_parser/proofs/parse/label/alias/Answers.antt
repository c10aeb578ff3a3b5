use Rattle.std.proofs.Common.{[], Some, refl, sym, ap, ◌∙◌}
use Rattle.hoa_lexer.specs.declared.token.Token.TheVariants as token
use Rattle.hoa_parser.proofs.grammar.RawTrees.{raw_tree-Alias}
use Rattle.hoa_parser.proofs.reading.LabelReads.{atom_last, atom_taken}
use Rattle.hoa_parser.proofs.reading.Steps.{handed_on, no_memory, takes}
use Rattle.hoa_parser.specs.Raw as raw
use Rattle.hoa_parser.specs.inner.Expecting.{Factor}
use Rattle.hoa_parser.specs.inner.RuleReads.{atom_of}
use Rattle.hoa_parser.specs.declared.raw.RawLabel.TheVariants as label
use Rattle.hoa_parser.proofs.parse.label.alias.Goals as goal

pub returns-in_err-name : goal.returns-in_err-name
returns-in_err-name g c = record {
  reads = handed_on _ _ _ c.from_residual.ensures.1 (atom_last c.args.depth _ _ _ (ap atom_of c.requires.names.1) c.in_err-name.ensures.advances);
}

pub returns-in_err-new-in-Alias : goal.returns-in_err-new-in-Alias
returns-in_err-new-in-Alias g c = record {
  reads = handed_on _ _ _ c.from_residual-in_err-new-in-Alias.ensures.1
      (no_memory (takes (Factor c.args.depth) [] (token.Alias c.in-Alias.name) (sym c.in_ok-name.ensures.takes ∙ c.in-Alias.is) refl refl refl c.in_ok-name.ensures.advances));
}

pub returns : goal.returns
returns g c = record {
  reads = atom_taken c.args.depth (label.Alias c.in_ok-new-in-Alias.field-0) _ _
      (ap atom_of (sym c.in_ok-name.ensures.takes ∙ c.in-Alias.is)
      ∙ ap Some (ap raw.Alias (sym c.in_ok-new-in-Alias.ensures.ok) ∙ sym (raw_tree-Alias c.in_ok-new-in-Alias.field-0)))
      c.in_ok-name.ensures.advances;
}
