use Rattle.std.proofs.Common.{◌∙◌, ◌+◌, ◌<◌, ℕ, length, subst, sym}
use Rattle.std.proofs.lemmas.List.Elements.{All-contains}
use Rattle.aut_base.proofs.lists.Members.{placed_there}
use Rattle.unambiguous.proofs.parting.Parted.{one_less, one_more}
use Rattle.unambiguous.specs.Parted.{ArePartings}
use Rattle.unambiguous.proofs.parted.partings.Goals as goal

pub have_parted-requires : goal.have_parted-requires
have_parted-requires c = All-contains (λ (pair : ℕ × ℕ). pair.0 < length c.args.flags.now) c.args.pairs.now.keys c.pair_at.result c.requires.within
    (placed_there c.args.pairs.now.keys c.places.place c.pair_at.result c.pair_at.ensures)

pub places-preserved-then-not-have_parted : goal.places-preserved-then-not-have_parted
places-preserved-then-not-have_parted c = one_less c.args.flags.now c.args.pairs.now.keys c.places.place c.pair_at.result c.pair_at.ensures c.places.starts c.places.invariant
    (sym c.have_parted.ensures ∙ c.if-not-have_parted.true)

pub places-preserved : goal.places-preserved
places-preserved c = subst (ArePartings c.args.flags.now c.args.pairs.now.keys (c.places.place + 1)) (sym c.in_ok-push.ensures.ok)
    (one_more c.args.flags.now c.args.pairs.now.keys c.places.place c.pair_at.result c.pair_at.ensures c.places.starts c.places.invariant
    (sym c.have_parted.ensures ∙ c.if-not-have_parted.false))
