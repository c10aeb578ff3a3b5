-- Which command lines are a plan, and which plan they are.
use Rattle.std.specs.Prelude.{◌≡◌, ◌≤◌, ℕ, Bool, true, false, ◌||◌, List, [], ◌∷◌, ◌++◌, map, All, count_by, Option, Some, None, is_some, codes, IsUtf8}
use Rattle.std.specs.Str.{bytes_eq}
use Rattle.clap.specs.Words.{App, Row, Rule, fault_of, matches_of, new_rule}
use Rattle.clap.specs.Simple.{new_shape}
use Rattle.clap.specs.declared.builder.action.ArgAction.{ArgAction}
use Rattle.clap.specs.declared.builder.action.ArgAction.TheVariants.{Set, Append, SetTrue}
use Rattle.filter_plan.specs.Table.{Place, Flag, FormFlag, EachGives, refuted, table, values_of}
use Rattle.filter_plan.specs.declared.plan.Form.{Form}
use Rattle.filter_plan.specs.declared.plan.Form.TheVariants.{AsIs}
use Rattle.filter_plan.specs.declared.plan.Plan.{Plan}

-- ---- the command, as it is defined for `clap`

abbrev pub action_at : Place → ArgAction
action_at (Flag at) = SetTrue
action_at (FormFlag form) = SetTrue
action_at _ = Set

-- the files that are given without an option, any number of them
abbrev pub operands_rule : List ℕ → Rule
operands_rule id = record (new_rule id) { action = Some Append }

-- A command with these rules. Its words begin after the program's name, and no option is added for help or the version.
abbrev pub command_of : List Rule → App
command_of rules = record {
  top = record (new_shape (codes "autfilt")) {
    rules = rules;
    no_binary_name = true;
    disable_help_flag = true;
    disable_version_flag = true;
    disable_help_subcommand = true;
  };
  subs = [];
}

unfoldable pub autfilt : App
unfolding table
autfilt = command_of (map (λ o. record (new_rule o.long) { long = Some o.long; short = o.short; action = Some (action_at o.place) }) table ++ operands_rule (codes "FILE") ∷ [])

-- ---- streams

abbrev pub dash : List ℕ
dash = codes "-"

-- the files that are named as streams: that of `-F`, and then the others
abbrev pub named_streams : List Row → List (List ℕ)
named_streams rows = values_of (codes "file") rows ++ values_of (codes "FILE") rows

-- standard input, where no stream is named and none is generated
abbrev pub streams_of : List (List ℕ) → Option ℕ → List (List ℕ)
streams_of [] None = dash ∷ []
streams_of named made = named

-- ---- rules between options

abbrev pub file_list : Option (List ℕ) → List (List ℕ)
file_list None = []
file_list (Some file) = file ∷ []

-- the files that automata are compared or combined with, in the order in which they are read
abbrev pub operands : Plan → List (List ℕ)
operands p = file_list p.included_in ++ (file_list p.equivalent_to ++ (file_list p.intersect ++ (file_list p.product
    ++ (file_list p.product_or ++ (file_list p.sum ++ file_list (refuted p.output))))))

abbrev pub has_form : Form → Bool
has_form AsIs = false
has_form _ = true

-- the plan has an operation, a form or completion
abbrev pub changes : Plan → Bool
changes p = is_some p.product || (is_some p.product_or || (is_some p.sum || (is_some p.remove_ap
    || (p.trim || (p.complement || (has_form p.form || p.complete))))))

pub record KeepsRules (p : Plan) : Type 0 where
  -- a refutation is of the automaton as it was read
  pub refutes_alone : is_some (refuted p.output) ≡ true → changes p ≡ false
  -- a generated stream comes without any other stream
  pub made_alone : is_some p.made ≡ true → p.streams ≡ []
  -- standard input is read once
  pub one_dash : count_by (bytes_eq dash) (operands p ++ p.streams) ≤ 1

-- ---- the plan

unfoldable pub IsText : List ℕ → Type 0
IsText word = IsUtf8 word

-- The words after the program's name are this plan: each is text, `clap` takes them, each option gives the plan what its
-- row says, the streams are those that are named, and the rules between options are kept.
pub record IsPlan (words : List (List ℕ)) (p : Plan) : Type 0 where
  pub texts : All IsText words
  pub taken : fault_of autfilt words ≡ []
  pub options : EachGives table (matches_of autfilt words) p
  pub streams : p.streams ≡ streams_of (named_streams (matches_of autfilt words)) p.made
  pub rules : KeepsRules p
