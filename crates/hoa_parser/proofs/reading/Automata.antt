-- What was read of an automaton.
use Rattle.std.proofs.Common.{◌≡◌, ℕ, List, [], ◌∷◌, ◌++◌}
use Rattle.std.specs.Prelude.{codes, flat_map}
use Rattle.hoa_lexer.specs.declared.token.Token.{Token}
use Rattle.hoa_lexer.specs.declared.token.Token.TheVariants as token
use Rattle.hoa_parser.proofs.reading.FrontParts.{passed_then}
use Rattle.hoa_parser.proofs.reading.Steps.{Read}
use Rattle.hoa_parser.specs.Phrases.{item_tokens, state_tokens}
use Rattle.hoa_parser.specs.inner.Parsing.{Cursor}
use Rattle.hoa_parser.specs.inner.RuleReads.{AreItems, AreStatesWritten, IsAutomaton, IsIdentifierToken}
use Rattle.hoa_parser.specs.Raw.{Written, WrittenItem, WrittenState}
use Rattle.hoa_parser.specs.declared.raw.Item.{Item}
use Rattle.hoa_parser.specs.declared.raw.RawState.{RawState}

-- the name that opens an automaton
abbrev pub opening : Token
opening = token.HeaderName (codes "HOA")

whole_means : (version : List ℕ) (items items' : List WrittenItem) (states states' : List WrittenState) → items ≡ items' → states ≡ states'
    → (let e : Written = record { version = version; items = items; states = states } in e) ≡ record { version = version; items = items'; states = states' }
whole_means version items items' states states' same_items same_states = cc

pub whole_is : (version : List ℕ) (items : List Item) (states : List RawState) (a b c d e f : Cursor) → Read opening a b → IsIdentifierToken version b c → AreItems items c d → Read token.Body d e
    → AreStatesWritten states e f → IsAutomaton (record { version = version; items = items; states = states }) a f
whole_is version items states a b c d e f opens names heads goes body = record {
  is_written = record {
    phrase = record { version = version; items = heads.phrase; states = body.written.phrase };
    within = (heads.within, body.written.within);
    passed = passed_then a b f (opening ∷ []) (token.Identifier version ∷ (flat_map item_tokens heads.phrase ++ token.Body ∷ flat_map state_tokens body.written.phrase)) opens
        (passed_then b c f (token.Identifier version ∷ []) (flat_map item_tokens heads.phrase ++ token.Body ∷ flat_map state_tokens body.written.phrase) names
        (passed_then c d f (flat_map item_tokens heads.phrase) (token.Body ∷ flat_map state_tokens body.written.phrase) heads.passed
        (passed_then d e f (token.Body ∷ []) (flat_map state_tokens body.written.phrase) goes body.written.passed)));
    means = whole_means version _ _ _ _ heads.means body.written.means;
  };
  ends = body.ends;
}
