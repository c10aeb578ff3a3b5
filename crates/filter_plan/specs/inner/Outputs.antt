-- What is printed of a kept automaton, by the options.
use Rattle.std.specs.Prelude.{List, codes}
use Rattle.clap.specs.Words.{Row}
use Rattle.filter_plan.specs.Formats.{IsFormat}
use Rattle.filter_plan.specs.Table.{IsFile, ReadsOption, figures, refuted, values_of}
use Rattle.filter_plan.specs.declared.plan.Output.{Output}

pub record IsOutput (rows : List Row) (output : Output) : Type 0 where
  pub stats : ReadsOption IsFormat (values_of (codes "stats") rows) (figures output)
  pub refute : ReadsOption IsFile (values_of (codes "refute") rows) (refuted output)
