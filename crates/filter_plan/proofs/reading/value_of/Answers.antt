use Rattle.std.proofs.Common.{◌≡◌, ◌∷◌, [], rules}
use Rattle.aut_base.proofs.Outcomes.{passed_on}
use Rattle.clap.specs.Words.{found_of, rows_of}
use Rattle.filter_plan.proofs.Readings.{refused_one}
use Rattle.filter_plan.specs.Table.{values_of}
use Rattle.filter_plan.proofs.reading.value_of.Goals as goal

pub returns-in_err-read-in-Some-clause-usage : goal.returns-in_err-read-in-Some-clause-usage
returns-in_err-read-in-Some-clause-usage g c passed =
    let is : values_of c.args.id.now (rows_of (found_of c.args.matches.now)) ≡ c.in-Some.text.now ∷ [] = search rules in
    refused_one g.T.OptionValue.is_read _ c.in-Some.text.now is (c.in_err-read-in-Some.ensures.usage (passed_on _ _ _ c.from_residual-in_err-read-in-Some.ensures.1 passed))
