use Rattle.std.proofs.Common.{◌≡◌, ◌∙◌, ap, arith, length, subst, sym}
use Rattle.label_guards.specs.Letters.{AreLastPlaces, IsLastPlace, LastLetter}
use Rattle.label_guards.proofs.labelled.Lasts.{last_none, last_there}
use Rattle.label_guards.proofs.letters.Letters.last.Goals as goal

pub returns-then-count-eq0 : goal.returns-then-count-eq0
returns-then-count-eq0 c s is are =
    let none : 0 ≡ length c.self.inside.places.items = omega (arith, c.len-count.ensures, c.if-count-eq0.true) in
    subst (λ n. IsLastPlace s c.args.self.now.number n 1) (none ∙ ap (λ (l : LastLetter). length l.places) c.self.view_is) (last_none s is c.args.self.now.number)

pub returns : goal.returns
returns c s is are =
    let size : c.len-count.result ≡ length c.self.inside.places.items = omega (arith, c.len-count.ensures) in
    subst (λ (l : LastLetter). IsLastPlace s l.number (length l.places) c.index.result.now) c.self.view_is
    (last_there s (record { number = c.self.inside.number; places = c.self.inside.places.items }) c.len-count.result c.index.result.now (subst (AreLastPlaces s) (sym c.self.view_is) are) size
    (omega (arith, c.if-count-eq0.false)) c.index.ensures)
