use Rattle.std.proofs.Common.{◌≡◌, fold, map, drop}
use Rattle.clap.specs.Words.{app_of, with_rule}
use Rattle.filter_plan.specs.inner.Entries.{entry_rule}
use Rattle.filter_plan.proofs.command.with_options.Given as goal

abbrev pub invariant-entries : goal.invariant-entries
invariant-entries l =
    fold with_rule (app_of l.command) (map entry_rule (drop l.entry-index l.entries))
    ≡ fold with_rule (app_of l.initial.command) (map entry_rule l.entries)
