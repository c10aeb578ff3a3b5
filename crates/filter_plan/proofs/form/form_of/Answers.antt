use Rattle.std.proofs.Common.{rules}
use Rattle.filter_plan.proofs.FormFlags.{flags_of_form}
use Rattle.clap.specs.Words.{found_of, rows_of}
use Rattle.filter_plan.proofs.form.form_of.Goals as goal

pub returns-clause-usage : goal.returns-clause-usage
returns-clause-usage c refused form is =
    let same = flags_of_form (rows_of (found_of c.args.matches.now)) form is in
    c.form_with.ensures.usage refused form (search (rules, same))
