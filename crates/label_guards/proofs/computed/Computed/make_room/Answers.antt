use Rattle.std.proofs.Common.{subst, sym}
use Rattle.label_guards.specs.Computed.{AreComputed}
use Rattle.label_guards.proofs.labelled.Remembered.{computed_after}
use Rattle.label_guards.proofs.computed.Computed.make_room.Goals as goal

pub returns-then-room-max : goal.returns-then-room-max
returns-then-room-max c = λ s are is. computed_after s c.self.inside.table.items c.resize.new.self.items _ _ _ _ c.resize.ensures.items is
    (subst (AreComputed s) (sym c.self.view_is) are)
