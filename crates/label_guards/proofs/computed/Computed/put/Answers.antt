use Rattle.std.proofs.Common.{List, slice_set, subst, sym}
use Rattle.std.proofs.lemmas.List.Elements.{All-set}
use Rattle.label_guards.specs.Computed.{AreComputed, IsComputed}
use Rattle.label_guards.specs.declared.computed.Known.{Known}
use Rattle.label_guards.proofs.computed.Computed.put.Goals as goal

pub returns-then-index-len : goal.returns-then-index-len
returns-then-index-len c = λ s are is. subst (λ (results : List Known). AreComputed s (slice_set results c.index-index.result c.args.known)) (sym c.self.view_is)
    (All-set (IsComputed s) c.make_room.new.self c.index-index.result c.args.known is (c.make_room.ensures s are is))
