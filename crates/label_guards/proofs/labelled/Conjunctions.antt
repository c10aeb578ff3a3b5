-- The place of a conjunction of literals, from its last literal to its first.
use Rattle.std.proofs.Common.{◌≡◌, ℕ, suc, ◌∙◌, Bool, true, false, ◌&&◌, ap, refl, sym}
use Rattle.label_guards.specs.Numbers.{is_as_asked, is_in_cube}
use Rattle.label_guards.specs.Store.{Store, outcome}
use Rattle.label_guards.proofs.diagrams.Outcomes.{outcome-true}

together : (a b c : Bool) → (a && (b && c)) ≡ ((a && b) && c)
together true b c = refl
together false b c = refl

itself : (b : Bool) → (b && true) ≡ b
itself true = refl
itself false = refl

-- with no literal yet
pub cube_none : (s : Store) (names values left : ℕ) (on : ℕ → Bool) → (is_in_cube names values left on && outcome s.nodes on 1) ≡ is_in_cube names values left on
cube_none s names values left on = ap (λ b. is_in_cube names values left on && b) (outcome-true s.nodes on) ∙ itself (is_in_cube names values left on)

-- with one proposition more
pub cube_more : (s t : Store) (names values left less place made : ℕ) (whole : (ℕ → Bool) → Bool) → left ≡ suc less
    → ((on : ℕ → Bool) → (is_in_cube names values left on && outcome s.nodes on place) ≡ whole on)
    → ((on : ℕ → Bool) → outcome t.nodes on made ≡ (is_as_asked names values less on && outcome s.nodes on place))
    → (on : ℕ → Bool) → (is_in_cube names values less on && outcome t.nodes on made) ≡ whole on
cube_more s t names values left less place made whole next so_far here on =
    ap (λ b. is_in_cube names values less on && b) (here on)
    ∙ (together (is_in_cube names values less on) (is_as_asked names values less on) (outcome s.nodes on place)
    ∙ (ap (λ n. is_in_cube names values n on && outcome s.nodes on place) (sym next) ∙ so_far on))
