use Rattle.std.proofs.Common.{◌∙◌, ◌-◌, List, ℕ, ap, arith, subst, sym, take}
use Rattle.label_guards.specs.Letters.{AreLastPlaces, LastLetter}
use Rattle.label_guards.proofs.labelled.Lasts.{letters_turned}
use Rattle.label_guards.proofs.letters.Letters.turn_to.Goals as goal

pub returns-clause-letters : goal.returns-clause-letters
returns-clause-letters c s is are =
    let inside : LastLetter = record { number = c.self.inside.number; places = c.self.inside.places.items } in
    let differ = c.differing-differ.result in
    let most = c.differing-differ.ensures.most in
    let old : AreLastPlaces s inside = subst (AreLastPlaces s) (sym c.self.view_is) are in
    subst (λ (ps : List ℕ). AreLastPlaces s (record { number = c.args.number; places = ps })) (ap (λ n. take (n - differ) c.self.inside.places.items) is ∙ sym c.truncate.ensures.items)
    (letters_turned s c.self.inside.number c.args.number differ c.self.inside.places.items (omega (arith, is, most)) (λ less. c.differing-differ.ensures.same (omega (arith, is, less))) old)
