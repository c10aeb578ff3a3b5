-- The `clap` rule of an entry of the code's table.
use Rattle.std.specs.Prelude.{Some, if◌then◌else◌}
use Rattle.clap.specs.Words.{Rule, new_rule}
use Rattle.clap.specs.declared.builder.action.ArgAction.TheVariants.{Set, SetTrue}
use Rattle.filter_plan.specs.declared.entry.Entry.{Entry}

abbrev pub entry_rule : Entry → Rule
entry_rule e = record (new_rule e.name.now) {
  long = Some e.name.now;
  short = e.letter;
  action = Some (if e.takes_value then Set else SetTrue);
}
