use Rattle.std.proofs.Common.{true, false, arith, sym, ◌∙◌}
use Rattle.aut_io.proofs.Texts.{find_step}
use Rattle.aut_io.proofs.text_store.place_of.Goals as goal

pub returns-then-eq : goal.returns-then-eq
returns-then-eq c =
    let here = find_step c.args.name.now c.index-names-place.result c.args.names.now c.args.texts.now c.loop-place.place (omega arith) c.requires c.index-names-place.is true cc in
    (omega arith, sym c.loop-place.invariant ∙ here)

pub loop-place-preserved : goal.loop-place-preserved
loop-place-preserved c =
    let behind = find_step c.args.name.now c.index-names-place.result c.args.names.now c.args.texts.now c.loop-place.place (omega arith) c.requires c.index-names-place.is false cc in
    sym behind ∙ c.loop-place.invariant
