use Rattle.std.proofs.Common.{◌≡◌, ℕ, List, [], ◌∷◌, sym, ap, ◌∙◌}
use Rattle.hoa_lexer.specs.declared.token.Token.TheVariants as token
use Rattle.hoa_parser.proofs.reading.FrontParts.{spelled_more, spelled_none}
use Rattle.hoa_parser.proofs.grammar.OtherTokens.{other}
use Rattle.hoa_parser.proofs.reading.Steps.{fails_after, fails_for, handed_on, no_memory, reads_as, reads_end, reads_for, reads_nothing, reads_then}
use Rattle.hoa_lexer.specs.declared.token.Token.{Token}
use Rattle.hoa_parser.specs.inner.Expecting.{Part, Quoted, Strings, parts_behind}
use Rattle.hoa_parser.proofs.parse.lists.strings.Goals as goal

-- one more stands here
same_parts_behind : (z : Token) (text : List ℕ) → z ≡ token.Str text → (most : ℕ) (others : List Part) → parts_behind most (Strings ∷ others) z ≡ parts_behind most (Quoted ∷ Strings ∷ others) z
same_parts_behind z text is most others = ap (parts_behind most (Strings ∷ others)) is ∙ sym (ap (parts_behind most (Quoted ∷ Strings ∷ others)) is)

pub texts-init : goal.texts-init
texts-init g c = reads_nothing (Strings ∷ []) _ _ c.requires.unspent (λ a. spelled_none token.Str c.new-texts.result a c.new-texts.ensures)

pub returns-in_default : goal.returns-in_default
returns-in_default g c = record { reads = reads_end Strings (other Strings _ c.in_default.not-Str) c.texts.invariant }

pub returns-in_err-text : goal.returns-in_err-text
returns-in_err-text g c = record {
  reads =
      handed_on _ _ _ c.from_residual.ensures.1
      (fails_after c.texts.invariant (fails_for (Strings ∷ []) c.texts.invariant.spent (same_parts_behind _ c.in-Str.field-0 c.in-Str.is) c.in_err-text.ensures.reads));
}

pub returns-in_err-push : goal.returns-in_err-push
returns-in_err-push g c = record {
  reads =
      handed_on _ _ _ c.from_residual-in_err-push.ensures.1
      (no_memory (reads_then c.texts.invariant (reads_for (Strings ∷ []) c.texts.invariant.spent (same_parts_behind _ c.in-Str.field-0 c.in-Str.is) c.in_ok-text.ensures.reads)));
}

pub texts-preserved : goal.texts-preserved
texts-preserved g c =
    reads_as (λ a d h. spelled_more token.Str c.texts.texts c.in_ok-text.text c.push.new.self a h.0 d c.in_ok-push.ensures.ok h.1 h.2)
    (reads_then c.texts.invariant (reads_for (Strings ∷ []) c.texts.invariant.spent (same_parts_behind _ c.in-Str.field-0 c.in-Str.is) c.in_ok-text.ensures.reads))
