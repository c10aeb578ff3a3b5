-- The text that is printed reads back as an automaton of the language that the plan describes.
use Rattle.std.proofs.Common.{ℕ, List, Option, subst, sym}
use Rattle.ap_project.specs.Laws.{SayTheSame}
use Rattle.aut_base.specs.Acceptance.{Accepts}
use Rattle.aut_base.specs.Automaton.{Automaton}
use Rattle.autfilt_run.specs.Due.{ReadsAs}
use Rattle.hoa_lexer.specs.declared.token.Token.{Token}
use Rattle.hoa_parser.specs.Grammar.{SpellsAutomaton}
use Rattle.hoa_writer.specs.CanonicalWritten.{ReadsBack, canonical_written}
use Rattle.plan_meaning.specs.Changes.{Language}

pub reads_as : (text : List ℕ) (made : Automaton) (name : Option (List ℕ)) (says : Language) → ReadsBack text made name → SayTheSame (λ u v. Accepts made u v) says → ReadsAs text says
reads_as text made name says back said = record {
  placed = back.lexes.placed;
  rest = back.lexes.rest;
  lexes = back.lexes.lexes;
  blanks = back.lexes.blanks;
  spelled = canonical_written made name;
  most = back.most;
  spells = subst (λ (ts : List Token). SpellsAutomaton back.most ts (canonical_written made name)) (sym back.lexes.tokens) back.spells;
  alone = λ n v spells. back.alone n v (subst (λ (ts : List Token). SpellsAutomaton n ts v) back.lexes.tokens spells);
  valid = back.valid;
  accepts = λ u v some. (λ h. (said u v some).0 ((back.accepts u v).0 h), λ h. (back.accepts u v).1 ((said u v some).1 h));
}
