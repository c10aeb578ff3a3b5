use Rattle.std.proofs.Common.{◌≡◌, ◌∙◌, Bool, ℕ, ap, sym}
use Rattle.label_guards.specs.Guards.{truth_in}
use Rattle.label_guards.specs.Letters.{IsLastPlace}
use Rattle.label_guards.specs.Numbers.{is_at, last_at}
use Rattle.label_guards.specs.Store.{Store}
use Rattle.label_guards.proofs.labelled.LabelTruth.{at, canonical_at, truth_is}
use Rattle.label_guards.proofs.labelled.Lasts.{all_last}
use Rattle.label_guards.proofs.letters.Letters.guard.Goals as goal

-- the place for all propositions is true at the number alone
alone : (s : Store) (number due names place : ℕ) → IsLastPlace s number names place → s.names ≡ names → number ≡ due → (on : ℕ → Bool) → truth_in s (at place) on ≡ is_at due names on
alone s number due names place last same is on =
    last.truth on ∙ (ap (λ n. last_at number n names on) same ∙ (all_last number names on ∙ ap (λ m. is_at m names on) is))

pub returns-clause-guard : goal.returns-clause-guard
returns-clause-guard c = record {
  has = c.in_ok-place.ensures.place.has;
  truth = alone c.whole.new.guards c.turn_to.new.self.number c.args.number c.args.guards.now.names c.in_ok-place.place c.in_ok-place.ensures.place c.whole.ensures.grows.names c.turn_to.ensures.number;
}

pub returns-clause-label : goal.returns-clause-label
returns-clause-label c t same =
    let last = c.in_ok-place.ensures.place in
    canonical_at c.whole.ensures.grows t c.in_ok-place.place (record {
      has = last.has;
      truth = λ on. sym (truth_is c.whole.new.guards c.reduced-2.ensures (at c.in_ok-place.place) last.has on)
          ∙ (alone c.whole.new.guards c.turn_to.new.self.number c.args.number c.args.guards.now.names c.in_ok-place.place last c.whole.ensures.grows.names c.turn_to.ensures.number on ∙ sym (same on));
    })
