use Rattle.std.proofs.Common.{◌∙◌, sym, arith}
use Rattle.aut_base.proofs.words.Texts.{not_before_more, other_text, same_text, none_is, is_there}
use Rattle.aut_base.proofs.names.place_of.Goals as goal

pub places-preserved : goal.places-preserved
places-preserved c =
    not_before_more _ _ _ c.index-items-place.result (omega arith) c.index-items-place.is (other_text _ _ (sym c.eq.ensures ∙ c.if-eq.false)) c.places.invariant

pub returns : goal.returns
returns c = none_is _ _ c.places.place (omega arith) c.places.invariant

pub returns-then-eq : goal.returns-then-eq
returns-then-eq c = is_there c.args.items.now c.args.name.now c.places.place c.index-items-place.result (omega arith) c.index-items-place.is (same_text _ _ (sym c.eq.ensures ∙ c.if-eq.true))
