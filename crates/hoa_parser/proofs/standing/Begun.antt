-- What stands next in a text that begins an automaton, by what is behind the tokens that were begun.
use Rattle.std.proofs.Common.{◌≢◌, ℕ, List, [], ◌∷◌, ◌++◌}
use Rattle.std.specs.Prelude.{◌⊎◌}
use Rattle.aut_base.specs.declared.limit.TheConstants.{MOST_DEPTH}
use Rattle.hoa_lexer.specs.Blanks.{IsBlanks}
use Rattle.hoa_lexer.specs.Text.{IsNext}
use Rattle.hoa_lexer.specs.declared.token.Token.{Token}
use Rattle.hoa_lexer.specs.declared.token.Token.TheVariants as token
use Rattle.hoa_parser.proofs.standing.StandingTokens.{Stand}
use Rattle.hoa_parser.specs.Grammar.{IsViable, SpellsAutomaton}
use Rattle.hoa_parser.specs.Raw.{Written}
use Rattle.hoa_parser.specs.Standing.{IsAborted, IsBad, IsBegun, IsCut, IsDeep, IsMisplaced, IsNoTokenAt}
use Rattle.hoa_parser.specs.inner.Parsing.{EndsOpen}

-- tokens that can go on to a whole automaton, and are none yet
pub begun_with_tokens : {start used : ℕ} {text rest : List ℕ} {tokens : List Token} → Stand start text tokens used rest → IsViable MOST_DEPTH tokens
    → ((most : ℕ) (w : Written) → SpellsAutomaton most tokens w → ⊥) → IsBegun start text tokens used rest
begun_with_tokens s viable unfinished = record { placed = s.placed; shown = s.shown; lexes = s.lexes; used_is = s.used_is; viable = viable; unfinished = unfinished }

pub bad_behind : {start used : ℕ} {text rest : List ℕ} {tokens : List Token} (k : ℕ) → IsBegun start text tokens used rest → IsMisplaced k tokens used rest ⊎ IsNoTokenAt k used rest
    → IsBad start text k
bad_behind {used = used} {rest = rest} {tokens = tokens} k begun fault = record { tokens = tokens; used = used; rest = rest; begun = begun; holds = fault }

pub cut_behind : {start used : ℕ} {text rest : List ℕ} {tokens : List Token} → IsBegun start text tokens used rest → (tokens ≢ []) × IsBlanks rest ⊎ EndsOpen rest → IsCut start text
cut_behind {used = used} {rest = rest} {tokens = tokens} begun ends = record { tokens = tokens; used = used; rest = rest; begun = begun; holds = ends }

pub aborted_behind : {start used offset : ℕ} {text rest after : List ℕ} {tokens : List Token} → IsBegun start text tokens used rest → tokens ≢ [] → IsNext rest used token.Abort offset after
    → IsAborted start text after
aborted_behind {used = used} {offset = offset} {rest = rest} {tokens = tokens} begun some next =
    record { tokens = tokens; used = used; rest = rest; begun = begun; holds = (some, offset, next) }

abbrev pub deep_behind : {start used offset : ℕ} {text rest after : List ℕ} {tokens : List Token} {next_token : Token} (most : ℕ) → IsBegun start text tokens used rest
    → IsNext rest used next_token offset after → IsViable most (tokens ++ next_token ∷ []) → (IsViable MOST_DEPTH (tokens ++ next_token ∷ []) → ⊥) → IsDeep start text
deep_behind {used = used} {offset = offset} {rest = rest} {after = after} {tokens = tokens} {next_token = next_token} most begun next viable too_deep = record {
  tokens = tokens;
  used = used;
  rest = rest;
  begun = begun;
  next_token = next_token;
  offset = offset;
  after = after;
  next = next;
  most = most;
  viable = viable;
  too_deep = too_deep;
}
