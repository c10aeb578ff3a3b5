-- What a list of tokens spells can be written down.
use Rattle.std.proofs.Common.{◌≡◌, ℕ, List, [], ◌∷◌, ◌++◌, map, flat_map, Option, Some, None, refl, sym, subst, ◌∙◌, ap}
use Rattle.std.specs.Prelude.{codes}
use Rattle.std.specs.Option.{option_map}
use Rattle.hoa_lexer.specs.declared.token.Token.{Token}
use Rattle.hoa_lexer.specs.declared.token.Token.TheVariants.{HeaderName, Int, Alias, LeftBracket, RightBracket}
use Rattle.hoa_parser.specs.Grammar.{SpellsAutomaton}
use Rattle.hoa_parser.specs.Phrases.{AutomatonPhrase, AutomatonWithin, EdgePhrase, ItemPhrase, ItemWithin, Label, OptionalWithin, StatePhrase}
use Rattle.hoa_parser.specs.Phrases.{StateWithin, automaton_meaning, automaton_tokens, condition_meaning, edge_meaning, edge_tokens, item_meaning}
use Rattle.hoa_parser.specs.Phrases.{item_tokens, label_meaning, marks_meaning, optional_label, optional_marks, state_meaning, state_tokens}
use Rattle.hoa_parser.specs.Phrases.ItemPhrase.{states_item, start_item, names_item, alias_item, acceptance_item, acc_name_item, tool_item, name_item, properties_item, other_item}
use Rattle.hoa_parser.specs.GrammarLaws.{CanBeWrittenDown}
use Rattle.hoa_parser.specs.Raw as raw
use Rattle.hoa_parser.specs.Raw.{RawTree, Written}
use Rattle.hoa_parser.specs.StandingLaws.{WrittenDownIsRead}
use Rattle.hoa_parser.specs.WrittenDown as down
use Rattle.hoa_parser.specs.WrittenDown.{bracketed, marks_tokens, written_conj, written_tokens}
use Rattle.hoa_lexer.proofs.spelling.Apart.{spelled_apart_is_read}
use Rattle.hoa_parser.proofs.grammar.HavePhrases.{have_phrases}
use Rattle.hoa_parser.proofs.grammar.PhrasesSpell.{phrases_spell}
use Rattle.hoa_parser.proofs.grammar.PlainConditions.{plain_condition, condition_spells, condition_means, condition_within}
use Rattle.hoa_parser.proofs.grammar.PlainDepths.{plain_within}
use Rattle.hoa_parser.proofs.grammar.PlainLabels.{plain_label, label_spells, label_means}
use Rattle.aut_base.proofs.lists.AllByRecursion.{AllByRecursion-map_within}
use Rattle.aut_base.proofs.lists.Lists.{map-map_same}
use Rattle.aut_base.specs.declared.limit.TheConstants.{MOST_DEPTH}

-- the phrase that is written down of a phrase
abbrev plain_item : ItemPhrase → ItemPhrase
plain_item (alias_item name l) = alias_item name (plain_label (label_meaning l))
plain_item (acceptance_item n c) = acceptance_item n (plain_condition (condition_meaning c))
plain_item (acc_name_item word values) = acc_name_item (codes "x") []
plain_item (tool_item text other) = tool_item [] None
plain_item (other_item name is values) = other_item name is []
plain_item p = p

abbrev plain_marks : List ℕ → Option (List ℕ)
plain_marks [] = None
plain_marks (n ∷ ns) = Some (n ∷ ns)

abbrev plain_optional : Option Label → Option Label
plain_optional None = None
plain_optional (Some l) = Some (plain_label (label_meaning l))

abbrev plain_edge : EdgePhrase → EdgePhrase
plain_edge e = record { label = plain_optional e.label; to = e.to; marks = plain_marks (marks_meaning e.marks) }

abbrev plain_state : StatePhrase → StatePhrase
plain_state s = record { label = plain_optional s.label; number = s.number; name = None; marks = plain_marks (marks_meaning s.marks); edges = map plain_edge s.edges }

abbrev plain_automaton : AutomatonPhrase → AutomatonPhrase
plain_automaton a = record { version = a.version; items = map plain_item a.items; states = map plain_state a.states }

-- its tokens

item_spells : (p : ItemPhrase) → item_tokens (plain_item p) ≡ down.item_tokens (item_meaning p)
item_spells (states_item n) = refl
item_spells (start_item c) = refl
item_spells (names_item n names) = refl
item_spells (alias_item name l) = ap (λ w. HeaderName (codes "Alias") ∷ Alias name ∷ w) (label_spells (label_meaning l))
item_spells (acceptance_item n c) = ap (λ w. HeaderName (codes "Acceptance") ∷ Int n ∷ w) (condition_spells (condition_meaning c))
item_spells (acc_name_item word values) = refl
item_spells (tool_item text other) = refl
item_spells (name_item text) = refl
item_spells (properties_item words) = refl
item_spells (other_item name is values) = refl

marks_spell : (ns : List ℕ) → optional_marks (plain_marks ns) ≡ marks_tokens ns
marks_spell [] = refl
marks_spell (n ∷ ns) = refl

optional_spells : (l : Option Label) → optional_label (plain_optional l) ≡ bracketed (option_map label_meaning l)
optional_spells None = refl
optional_spells (Some l) = ap (λ w. LeftBracket ∷ (w ++ RightBracket ∷ [])) (label_spells (label_meaning l))

edge_spells : (e : EdgePhrase) → edge_tokens (plain_edge e) ≡ down.edge_tokens (edge_meaning e)
edge_spells e =
    let label = optional_spells e.label in
    let marks = marks_spell (marks_meaning e.marks) in
    cc

all_spell : {P M : Type 0} (plain : P → P) (tokens : P → List Token) (meaning : P → M) (written : M → List Token)
    → ((p : P) → tokens (plain p) ≡ written (meaning p)) → (ps : List P) → flat_map tokens (map plain ps) ≡ flat_map written (map meaning ps)
all_spell plain tokens meaning written one [] = refl
all_spell plain tokens meaning written one (p ∷ ps) =
    let first = one p in
    let others = all_spell plain tokens meaning written one ps in
    cc

state_spells : (s : StatePhrase) → state_tokens (plain_state s) ≡ down.state_tokens (state_meaning s)
state_spells s =
    let label = optional_spells s.label in
    let marks = marks_spell (marks_meaning s.marks) in
    let edges = all_spell plain_edge edge_tokens edge_meaning down.edge_tokens edge_spells s.edges in
    cc

automaton_spells : (a : AutomatonPhrase) → automaton_tokens (plain_automaton a) ≡ written_tokens (automaton_meaning a)
automaton_spells a =
    let items = all_spell plain_item item_tokens item_meaning down.item_tokens item_spells a.items in
    let states = all_spell plain_state state_tokens state_meaning down.state_tokens state_spells a.states in
    cc

-- what it means

item_means : (p : ItemPhrase) → item_meaning (plain_item p) ≡ item_meaning p
item_means (states_item n) = refl
item_means (start_item c) = refl
item_means (names_item n names) = refl
item_means (alias_item name l) = ap (raw.AliasOf name) (label_means (label_meaning l))
item_means (acceptance_item n c) = ap (raw.Acceptance n) (condition_means (condition_meaning c))
item_means (acc_name_item word values) = refl
item_means (tool_item text other) = refl
item_means (name_item text) = refl
item_means (properties_item words) = refl
item_means (other_item name is values) = refl

marks_mean : (ns : List ℕ) → marks_meaning (plain_marks ns) ≡ ns
marks_mean [] = refl
marks_mean (n ∷ ns) = refl

optional_means : (l : Option Label) → option_map label_meaning (plain_optional l) ≡ option_map label_meaning l
optional_means None = refl
optional_means (Some l) = ap Some (label_means (label_meaning l))

edge_means : (e : EdgePhrase) → edge_meaning (plain_edge e) ≡ edge_meaning e
edge_means e =
    let label = optional_means e.label in
    let marks = marks_mean (marks_meaning e.marks) in
    cc

state_means : (s : StatePhrase) → state_meaning (plain_state s) ≡ state_meaning s
state_means s =
    let label = optional_means s.label in
    let marks = marks_mean (marks_meaning s.marks) in
    let edges = map-map_same plain_edge edge_meaning edge_means s.edges in
    cc

automaton_means : (a : AutomatonPhrase) → automaton_meaning (plain_automaton a) ≡ automaton_meaning a
automaton_means a =
    let items = map-map_same plain_item item_meaning item_means a.items in
    let states = map-map_same plain_state state_meaning state_means a.states in
    cc

-- it opens no more

item_within : (m : ℕ) (p : ItemPhrase) → ItemWithin m p → ItemWithin m (plain_item p)
item_within m (states_item n) h = tt
item_within m (start_item c) h = tt
item_within m (names_item n names) h = tt
item_within m (alias_item name l) h = plain_within m 0 l h
item_within m (acceptance_item n c) h = condition_within m 0 c h
item_within m (acc_name_item word values) h = tt
item_within m (tool_item text other) h = tt
item_within m (name_item text) h = tt
item_within m (properties_item words) h = tt
item_within m (other_item name is values) h = tt

optional_within : (m : ℕ) (l : Option Label) → OptionalWithin m l → OptionalWithin m (plain_optional l)
optional_within m None h = tt
optional_within m (Some l) h = plain_within m 0 l h

state_within : (m : ℕ) (s : StatePhrase) → StateWithin m s → StateWithin m (plain_state s)
state_within m s h = (optional_within m s.label h.0, AllByRecursion-map_within plain_edge (λ e. OptionalWithin m e.label) (λ e k. optional_within m e.label k) s.edges h.1)

automaton_within : (m : ℕ) (a : AutomatonPhrase) → AutomatonWithin m a → AutomatonWithin m (plain_automaton a)
automaton_within m a h = (AllByRecursion-map_within plain_item (ItemWithin m) (item_within m) a.items h.0, AllByRecursion-map_within plain_state (StateWithin m) (state_within m) a.states h.1)

pub can_be_written_down : CanBeWrittenDown
can_be_written_down m ts w s =
    let p = have_phrases m ts w s in
    phrases_spell m (written_tokens w) w (record {
      phrase = plain_automaton p.phrase;
      within = automaton_within m p.phrase p.within;
      spelled = ap written_tokens p.means ∙ sym (automaton_spells p.phrase);
      means = p.means ∙ sym (automaton_means p.phrase);
    })

pub written_down_is_read : WrittenDownIsRead
written_down_is_read ts w text s apart =
    let read = spelled_apart_is_read (written_tokens w) text apart in (
      read.rest,
      read.blanks,
      record {
        placed = read.placed;
        lexes = read.lexes;
        spells = subst (λ (us : List Token). SpellsAutomaton MOST_DEPTH us w) (sym read.tokens) (can_be_written_down MOST_DEPTH ts w s);
      },
    )
