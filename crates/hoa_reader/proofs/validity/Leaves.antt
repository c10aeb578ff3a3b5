-- The leaves of labels, tested by tests that agree.
use Rattle.std.proofs.Common.{◌≡◌, ℕ, Bool, ◌&&◌, List, refl, ap, ◌∙◌}
use Rattle.hoa_parser.specs.Raw as raw
use Rattle.hoa_parser.specs.Raw.{RawTree, RawTrees}
use Rattle.hoa_reader.specs.Validity.{all_leaves_pass, leaves_pass}
use Rattle.aut_base.proofs.numbers.Truth.{and_three}

mutual
  pub leaves_agree : (prop : ℕ → Bool) (f g : List ℕ → Bool) → ((name : List ℕ) → f name ≡ g name) → (t : RawTree) → leaves_pass prop f t ≡ leaves_pass prop g t
  leaves_agree prop f g h raw.True = refl
  leaves_agree prop f g h raw.False = refl
  leaves_agree prop f g h (raw.Prop i) = refl
  leaves_agree prop f g h (raw.Alias name) = h name
  leaves_agree prop f g h (raw.Not t) = leaves_agree prop f g h t
  leaves_agree prop f g h (raw.And a b cs) = and_three _ _ _ _ _ _ (leaves_agree prop f g h a) (leaves_agree prop f g h b) (all_leaves_agree prop f g h cs)
  leaves_agree prop f g h (raw.Or a b cs) = and_three _ _ _ _ _ _ (leaves_agree prop f g h a) (leaves_agree prop f g h b) (all_leaves_agree prop f g h cs)

  all_leaves_agree : (prop : ℕ → Bool) (f g : List ℕ → Bool) → ((name : List ℕ) → f name ≡ g name) → (ts : RawTrees) → all_leaves_pass prop f ts ≡ all_leaves_pass prop g ts
  all_leaves_agree prop f g h raw.none = refl
  all_leaves_agree prop f g h (raw.more t ts) = ap (λ x. x && all_leaves_pass prop f ts) (leaves_agree prop f g h t) ∙ ap (λ x. leaves_pass prop g t && x) (all_leaves_agree prop f g h ts)
