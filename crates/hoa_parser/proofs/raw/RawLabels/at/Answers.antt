use Rattle.std.proofs.Common.{arith}
use Rattle.aut_base.proofs.trees.Places.{tree_behind_two}
use Rattle.hoa_parser.specs.Raw.{raw_tree}
use Rattle.hoa_parser.proofs.grammar.RawTrees.{raw_list-fields}
use Rattle.hoa_parser.proofs.raw.RawLabels.at.Goals as goal

pub returns-in_default : goal.returns-in_default
returns-in_default c =
    let parts = c.args.self.now in
    tree_behind_two raw_tree _ _ parts.others.items _ c.args.place _ (raw_list-fields parts) (omega arith) c.requires c.index.ensures
