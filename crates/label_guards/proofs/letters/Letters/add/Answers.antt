use Rattle.std.proofs.Common.{◌≡◌, ◌+◌, ◌∙◌, List, [], ◌∷◌, ℕ, ap, arith, length, length-append, subst, sym}
use Rattle.label_guards.specs.Letters.{AreLastPlaces, IsLastPlace, LastLetter}
use Rattle.label_guards.specs.Numbers.{is_set}
use Rattle.label_guards.proofs.labelled.LabelTruth.{keeps}
use Rattle.label_guards.proofs.labelled.Lasts.{last_later, last_more, letters_kept, letters_pushed}
use Rattle.label_guards.proofs.letters.Letters.add.Goals as goal

pub decided-requires-clause-later : goal.decided-requires-clause-later
decided-requires-clause-later c =
    let next = c.requires.next in
    let later = last_later c.args.guards.now c.reduced.ensures c.args.self.now.number (length c.args.self.now.places) c.args.place c.requires.place in
    omega (arith, next, later)

pub returns-in_err-place-clause-letters : goal.returns-in_err-place-clause-letters
returns-in_err-place-clause-letters c = letters_kept (keeps c.decided.ensures.grows) c.args.self.now c.requires.letters

pub returns-in_err-push-clause-letters : goal.returns-in_err-push-clause-letters
returns-in_err-push-clause-letters c =
    let inside : LastLetter = record { number = c.self.inside.number; places = c.self.inside.places.items } in
    let old : AreLastPlaces c.decided.new.self inside =
    subst (AreLastPlaces c.decided.new.self) (sym c.self.view_is) (letters_kept (keeps c.decided.ensures.grows) c.args.self.now c.requires.letters) in
    subst (λ (ps : List ℕ). AreLastPlaces c.decided.new.self (record { number = c.self.inside.number; places = ps })) (sym c.in_err-push.ensures.items) old

pub returns-clause-letters : goal.returns-clause-letters
returns-clause-letters c =
    let inside : LastLetter = record { number = c.self.inside.number; places = c.self.inside.places.items } in
    let old : AreLastPlaces c.decided.new.self inside =
    subst (AreLastPlaces c.decided.new.self) (sym c.self.view_is) (letters_kept (keeps c.decided.ensures.grows) c.args.self.now c.requires.letters) in
    let place : IsLastPlace c.args.guards.now c.self.inside.number (length c.self.inside.places.items) c.args.place =
    subst (λ (l : LastLetter). IsLastPlace c.args.guards.now l.number (length l.places) c.args.place) (sym c.self.view_is) c.requires.place in
    let next : c.args.prop + (length c.self.inside.places.items + 1) ≡ c.args.guards.now.names = subst (λ (l : LastLetter). c.args.prop + (length l.places + 1) ≡ c.args.guards.now.names)
    (sym c.self.view_is) c.requires.next in
    let names = c.decided.ensures.grows.names in
    letters_pushed c.decided.new.self c.self.inside.number c.in_ok-place.place c.self.inside.places.items c.push.new.self.items old (omega (arith, next, names))
    (last_more c.reduced.ensures c.reduced-2.ensures c.decided.ensures.grows c.self.inside.number (length c.self.inside.places.items) c.args.prop c.args.place c.in_ok-place.place _
    c.is_set.ensures next place
    c.in_ok-place.ensures.has c.in_ok-place.ensures.truth) c.in_ok-push.ensures.items

pub returns-clause-place : goal.returns-clause-place
returns-clause-place c =
    let size : length c.push.new.self.items ≡ length c.args.self.now.places + 1 =
    ap length c.in_ok-push.ensures.items ∙ (length-append c.self.inside.places.items (c.in_ok-place.place ∷ []) ∙ ap (λ (l : LastLetter). length l.places + 1) c.self.view_is) in
    subst (λ n. IsLastPlace c.decided.new.self c.args.self.now.number n c.in_ok-place.place) (sym size)
    (last_more c.reduced.ensures c.reduced-2.ensures c.decided.ensures.grows c.args.self.now.number (length c.args.self.now.places) c.args.prop c.args.place c.in_ok-place.place _
    (c.is_set.ensures ∙ ap (λ (l : LastLetter). is_set l.number c.args.prop) c.self.view_is) c.requires.next c.requires.place
    c.in_ok-place.ensures.has c.in_ok-place.ensures.truth)
