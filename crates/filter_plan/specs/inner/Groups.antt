-- The files of operands that the options give.
use Rattle.std.specs.Prelude.{List, codes}
use Rattle.clap.specs.Words.{Row}
use Rattle.filter_plan.specs.Table.{IsFile, ReadsOption, values_of}
use Rattle.filter_plan.specs.declared.group.Operands.{Operands}

pub record AreOperandOptions (rows : List Row) (x : Operands) : Type 0 where
  pub included_in : ReadsOption IsFile (values_of (codes "included-in") rows) x.included_in
  pub equivalent_to : ReadsOption IsFile (values_of (codes "equivalent-to") rows) x.equivalent_to
  pub intersect : ReadsOption IsFile (values_of (codes "intersect") rows) x.intersect
  pub product : ReadsOption IsFile (values_of (codes "product") rows) x.product
  pub product_or : ReadsOption IsFile (values_of (codes "product-or") rows) x.product_or
  pub sum : ReadsOption IsFile (values_of (codes "sum") rows) x.sum
