use Rattle.std.proofs.Common.{◌≡◌, ℕ, List, [], ◌∷◌, sym, ap, ◌∙◌}
use Rattle.hoa_lexer.specs.declared.token.Token.TheVariants as token
use Rattle.hoa_parser.proofs.reading.FrontParts.{spelled_more, spelled_none}
use Rattle.hoa_parser.proofs.grammar.OtherTokens.{other}
use Rattle.hoa_parser.proofs.reading.Steps.{fails_after, fails_for, handed_on, no_memory, reads_as, reads_end, reads_for, reads_nothing, reads_then}
use Rattle.hoa_lexer.specs.declared.token.Token.{Token}
use Rattle.hoa_parser.specs.inner.Expecting.{Part, Word, Words, parts_behind}
use Rattle.hoa_parser.proofs.parse.lists.words.Goals as goal

-- one more stands here
same_parts_behind : (z : Token) (text : List ℕ) → z ≡ token.Identifier text → (most : ℕ) (others : List Part) → parts_behind most (Words ∷ others) z ≡ parts_behind most (Word ∷ Words ∷ others) z
same_parts_behind z text is most others = ap (parts_behind most (Words ∷ others)) is ∙ sym (ap (parts_behind most (Word ∷ Words ∷ others)) is)

pub words-init : goal.words-init
words-init g c = reads_nothing (Words ∷ []) _ _ c.requires.unspent (λ a. spelled_none token.Identifier c.new-words.result a c.new-words.ensures)

pub returns-in_default : goal.returns-in_default
returns-in_default g c = record { reads = reads_end Words (other Words _ c.in_default.not-Identifier) c.words.invariant }

pub returns-in_err-word : goal.returns-in_err-word
returns-in_err-word g c = record {
  reads =
      handed_on _ _ _ c.from_residual.ensures.1
      (fails_after c.words.invariant (fails_for (Words ∷ []) c.words.invariant.spent (same_parts_behind _ c.in-Identifier.field-0 c.in-Identifier.is) c.in_err-word.ensures.reads));
}

pub returns-in_err-push : goal.returns-in_err-push
returns-in_err-push g c = record {
  reads =
      handed_on _ _ _ c.from_residual-in_err-push.ensures.1
      (no_memory (reads_then c.words.invariant (reads_for (Words ∷ []) c.words.invariant.spent (same_parts_behind _ c.in-Identifier.field-0 c.in-Identifier.is) c.in_ok-word.ensures.reads)));
}

pub words-preserved : goal.words-preserved
words-preserved g c =
    reads_as (λ a d h. spelled_more token.Identifier c.words.words c.in_ok-word.word c.push.new.self a h.0 d c.in_ok-push.ensures.ok h.1 h.2)
    (reads_then c.words.invariant (reads_for (Words ∷ []) c.words.invariant.spent (same_parts_behind _ c.in-Identifier.field-0 c.in-Identifier.is) c.in_ok-word.ensures.reads))
