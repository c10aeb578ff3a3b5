-- The plan that the options and streams give, without the rules between options; and its files of operands.
use Rattle.std.specs.Prelude.{◌≡◌, List}
use Rattle.clap.specs.Words.{Row}
use Rattle.filter_plan.specs.Table.{EachGives, table}
use Rattle.filter_plan.specs.Words.{named_streams, streams_of}
use Rattle.filter_plan.specs.declared.group.Operands.{Operands}
use Rattle.filter_plan.specs.declared.plan.Plan.{Plan}

pub record IsGiven (rows : List Row) (p : Plan) : Type 0 where
  pub options : EachGives table rows p
  pub streams : p.streams ≡ streams_of (named_streams rows) p.made

abbrev pub operand_files : Plan → Operands
operand_files p = record {
  included_in = p.included_in;
  equivalent_to = p.equivalent_to;
  intersect = p.intersect;
  product = p.product;
  product_or = p.product_or;
  sum = p.sum;
}
