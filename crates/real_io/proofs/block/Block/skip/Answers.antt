use Rattle.real_io.proofs.Slices.{held_behind}
use Rattle.real_io.proofs.block.Block.skip.Goals as goal

pub returns : goal.returns
returns c =
    rw (← c.self.view_is) (held_behind c.self.inside.bytes.items c.self.inside.place c.self.inside.end c.args.count (rw (← c.self.view_is) at c.requires))
