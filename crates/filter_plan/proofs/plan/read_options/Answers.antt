use Rattle.std.proofs.Common.{ℕ, List, codes, rules}
use Rattle.aut_base.proofs.Outcomes.{passed_on}
use Rattle.clap.specs.Words.{Row}
use Rattle.filter_plan.proofs.TableRows.{OfRow, given}
use Rattle.filter_plan.specs.Table.{EachGives, Gives, table, values_of}
use Rattle.filter_plan.specs.declared.plan.Plan.{Plan}
use Rattle.filter_plan.specs.inner.Forms.{IsForm}
use Rattle.filter_plan.specs.inner.Given.{IsGiven, operand_files}
use Rattle.filter_plan.specs.inner.Groups.{AreOperandOptions}
use Rattle.filter_plan.specs.inner.Outputs.{IsOutput}
use Rattle.filter_plan.proofs.plan.read_options.Goals as goal

-- ---- what is read together

form_given : (rows : List Row) (p : Plan) → EachGives table rows p → IsForm rows p.form
unfolding table
form_given rows p is = record {
  deterministic = given rows p is (codes "deterministic");
  parity = given rows p is (codes "parity");
  buchi = given rows p is (codes "buchi");
  remove_fin = given rows p is (codes "remove-fin");
  dnf = given rows p is (codes "dnf-acceptance");
  monitor = given rows p is (codes "monitor");
}

operands_given : (rows : List Row) (p : Plan) → EachGives table rows p → AreOperandOptions rows (operand_files p)
unfolding table
operands_given rows p is = record {
  included_in = given rows p is (codes "included-in");
  equivalent_to = given rows p is (codes "equivalent-to");
  intersect = given rows p is (codes "intersect");
  product = given rows p is (codes "product");
  product_or = given rows p is (codes "product-or");
  sum = given rows p is (codes "sum");
}

output_given : (rows : List Row) (p : Plan) → EachGives table rows p → IsOutput rows p.output
unfolding table
output_given rows p is = record {
  stats = given rows p is (codes "stats");
  refute = given rows p is (codes "refute");
}

-- ---- no plan

-- what the row of this option gives a plan
field : (rows : List Row) (p : Plan) → IsGiven rows p → (name : List ℕ) → OfRow table name (λ place. Gives place (values_of name rows) p)
field rows p is = given rows p is.options

pub returns-in_err-form-clause-usage : goal.returns-in_err-form-clause-usage
unfolding table
returns-in_err-form-clause-usage c passed p is = c.in_err-form.ensures.usage (passed_on _ _ _ c.from_residual.ensures.1 passed) p.form (form_given _ p is.options)

pub returns-in_err-states-clause-usage : goal.returns-in_err-states-clause-usage
unfolding table
returns-in_err-states-clause-usage c passed p is = c.in_err-states.ensures.usage (passed_on _ _ _ c.from_residual-in_err-states.ensures.1 passed) p.states (field _ p is (codes "states"))

pub returns-in_err-edges-clause-usage : goal.returns-in_err-edges-clause-usage
unfolding table
returns-in_err-edges-clause-usage c passed p is = c.in_err-edges.ensures.usage (passed_on _ _ _ c.from_residual-in_err-edges.ensures.1 passed) p.edges (field _ p is (codes "edges"))

pub returns-in_err-acc_sets-clause-usage : goal.returns-in_err-acc_sets-clause-usage
unfolding table
returns-in_err-acc_sets-clause-usage c passed p is = c.in_err-acc_sets.ensures.usage (passed_on _ _ _ c.from_residual-in_err-acc_sets.ensures.1 passed) p.acc_sets
    (field _ p is (codes "acc-sets"))

pub returns-in_err-ap-clause-usage : goal.returns-in_err-ap-clause-usage
unfolding table
returns-in_err-ap-clause-usage c passed p is = c.in_err-ap.ensures.usage (passed_on _ _ _ c.from_residual-in_err-ap.ensures.1 passed) p.ap (field _ p is (codes "ap"))

pub returns-in_err-most-clause-usage : goal.returns-in_err-most-clause-usage
unfolding table
returns-in_err-most-clause-usage c passed p is = c.in_err-most.ensures.usage (passed_on _ _ _ c.from_residual-in_err-most.ensures.1 passed) p.most (field _ p is (codes "max-count"))

pub returns-in_err-made-clause-usage : goal.returns-in_err-made-clause-usage
unfolding table
returns-in_err-made-clause-usage c passed p is = c.in_err-made.ensures.usage (passed_on _ _ _ c.from_residual-in_err-made.ensures.1 passed) p.made (field _ p is (codes "made"))

pub returns-in_err-streams-clause-usage : goal.returns-in_err-streams-clause-usage
unfolding table
returns-in_err-streams-clause-usage c passed p is = c.in_err-streams.ensures.usage (passed_on _ _ _ c.from_residual-in_err-streams.ensures.1 passed) (field _ p is (codes "file"))

pub returns-in_err-output-clause-usage : goal.returns-in_err-output-clause-usage
unfolding table
returns-in_err-output-clause-usage c passed p is = c.in_err-output.ensures.usage (passed_on _ _ _ c.from_residual-in_err-output.ensures.1 passed) p.output (output_given _ p is.options)

pub returns-in_err-remove_ap-clause-usage : goal.returns-in_err-remove_ap-clause-usage
unfolding table
returns-in_err-remove_ap-clause-usage c passed p is = c.in_err-remove_ap.ensures.usage (passed_on _ _ _ c.from_residual-in_err-remove_ap.ensures.1 passed) p.remove_ap
    (field _ p is (codes "remove-ap"))

pub returns-in_err-accept_word-clause-usage : goal.returns-in_err-accept_word-clause-usage
unfolding table
returns-in_err-accept_word-clause-usage c passed p is = c.in_err-accept_word.ensures.usage (passed_on _ _ _ c.from_residual-in_err-accept_word.ensures.1 passed) p.accept_word
    (field _ p is (codes "accept-word"))

pub returns-in_err-reject_word-clause-usage : goal.returns-in_err-reject_word-clause-usage
unfolding table
returns-in_err-reject_word-clause-usage c passed p is = c.in_err-reject_word.ensures.usage (passed_on _ _ _ c.from_residual-in_err-reject_word.ensures.1 passed) p.reject_word
    (field _ p is (codes "reject-word"))

pub returns-in_err-operands-clause-usage : goal.returns-in_err-operands-clause-usage
unfolding table
returns-in_err-operands-clause-usage c passed p is = c.in_err-operands.ensures.usage (passed_on _ _ _ c.from_residual-in_err-operands.ensures.1 passed) (operand_files p)
    (operands_given _ p is.options)

-- ---- the plan

pub returns-clause-given : goal.returns-clause-given
unfolding table
returns-clause-given c = record { options = search rules; streams = c.in_ok-streams.ensures.streams }
