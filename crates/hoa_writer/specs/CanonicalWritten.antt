-- The described automaton that a canonical text spells, and the law that it reads back.
use Rattle.std.specs.Prelude.{◌≡◌, ◌↔◌, ◌<◌, ◌^◌, ℕ, ◌==◌, List, [], ◌∷◌, ◌++◌, length, map, filter, codes, Option, Some, None}
use Rattle.std.specs.List.{range_with_len}
use Rattle.aut_base.specs.Acceptance.{Accepts}
use Rattle.aut_base.specs.Automaton.{LabelledEdge, Automaton, IsWellFormed}
use Rattle.aut_base.specs.CanonicalLabel.{canonical, canonical_label}
use Rattle.aut_base.specs.Label as label
use Rattle.aut_base.specs.Label.{LabelTree}
use Rattle.aut_base.specs.Word.{NameSet}
use Rattle.hoa_lexer.specs.Laws.{HasTokens}
use Rattle.hoa_lexer.specs.declared.token.Token.{Token}
use Rattle.hoa_reader.specs.Described.{described}
use Rattle.hoa_parser.specs.Grammar.{SpellsAutomaton}
use Rattle.hoa_parser.specs.Naming.{name_of}
use Rattle.hoa_parser.specs.Raw as raw
use Rattle.hoa_parser.specs.Raw.{RawTree, Written, WrittenEdge, WrittenItem, WrittenState}
use Rattle.hoa_reader.specs.Validity.{IsValid}
use Rattle.hoa_writer.specs.CanonicalText.{canonical_text}

-- the label as it is written, without aliases
abbrev mutual
  pub written_label : LabelTree → RawTree
  written_label label.True = raw.True
  written_label label.False = raw.False
  written_label (label.Prop i) = raw.Prop i
  written_label (label.Not t) = raw.Not (written_label t)
  written_label (label.And a b cs) = raw.And (written_label a) (written_label b) (written_labels cs)
  written_label (label.Or a b cs) = raw.Or (written_label a) (written_label b) (written_labels cs)

  pub written_labels : label.LabelTrees → raw.RawTrees
  written_labels label.none = raw.none
  written_labels (label.more t ts) = raw.more (written_label t) (written_labels ts)

abbrev pub canonical_edge : ℕ → LabelledEdge → WrittenEdge
canonical_edge n e = record { label = Some (written_label (canonical_label n e.label)); to = e.to ∷ []; marks = e.marks }

abbrev pub canonical_state : Automaton → ℕ → WrittenState
canonical_state a q = record {
  label = None;
  number = q;
  marks = [];
  edges = map (canonical_edge (length a.names)) (filter (λ e. e.from == q) a.edges);
}

abbrev pub name_items : Option (List ℕ) → List WrittenItem
name_items None = []
name_items (Some name) = raw.Name name ∷ []

abbrev pub canonical_items : Automaton → Option (List ℕ) → List WrittenItem
canonical_items a name =
    name_items name ++ (raw.States a.states ∷ (map (λ s. raw.Start (s ∷ [])) a.starts
    ++ (raw.Ap (length a.names) a.names ∷ raw.Acceptance a.sets a.formula
    ∷ raw.Properties (codes "trans-labels" ∷ codes "explicit-labels" ∷ codes "trans-acc" ∷ []) ∷ [])))

-- what the canonical text of an automaton, and of its name if it has one, spells
abbrev pub canonical_written : Automaton → Option (List ℕ) → Written
canonical_written a name = record {
  version = codes "v1";
  items = canonical_items a name;
  states = map (canonical_state a) (range_with_len 0 a.states);
}

-- The text's tokens spell one automaton and no other. It is valid, and it describes the one that was written, with each label
-- in its canonical form, so it accepts the same words. No limit of a reader is involved.
pub record ReadsBack (text : List ℕ) (a : Automaton) (name : Option (List ℕ)) : Type 0 where
  pub tokens : List Token
  pub lexes : HasTokens text 0 tokens
  pub most : ℕ
  pub spells : SpellsAutomaton most tokens (canonical_written a name)
  pub alone : (n : ℕ) (w : Written) → SpellsAutomaton n tokens w → w ≡ canonical_written a name
  pub valid : IsValid (canonical_written a name)
  pub describes : described (canonical_written a name) ≡ canonical a
  pub accepts : (u v : List NameSet) → Accepts (described (canonical_written a name)) u v ↔ Accepts a u v
  pub named : name_of (canonical_written a name) ≡ name

-- The canonical text of every well-formed automaton reads back, where its numbers are ones that a lexer reads.
abbrev pub CanonicalTextReadsBack : Type 0
CanonicalTextReadsBack = (a : Automaton) (name : Option (List ℕ)) → IsWellFormed a → a.states < 2 ^ 32 → a.sets < 2 ^ 32 → length a.names < 2 ^ 32 → ReadsBack (canonical_text a name) a name

-- An automaton and its canonical form have the same text.
abbrev pub CanonicalFormHasTheSameText : Type 0
CanonicalFormHasTheSameText = (a : Automaton) (name : Option (List ℕ)) → canonical_text (canonical a) name ≡ canonical_text a name
