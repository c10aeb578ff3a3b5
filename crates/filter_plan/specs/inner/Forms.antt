-- The flags of forms.
use Rattle.std.specs.Prelude.{◌≡◌, ◌↔◌, Bool, IsTrue, List, [], ◌∷◌, codes}
use denote.Enum.Bare.{sameb}
use Rattle.clap.specs.Words.{Row}
use Rattle.filter_plan.specs.Table.{is_on, values_of}
use Rattle.filter_plan.specs.contracts.plan.Form.{the_type}
use Rattle.filter_plan.specs.declared.plan.Form.{Form}
use Rattle.filter_plan.specs.declared.plan.Form.TheVariants.{Deterministic, Parity, Buchi, RemoveFin, Dnf, Monitor}

-- which flags are given where the plan has this form
abbrev pub flags_of : Form → List Bool
flags_of form = sameb the_type form Deterministic ∷ sameb the_type form Parity ∷ sameb the_type form Buchi ∷ sameb the_type form RemoveFin ∷ sameb the_type form Dnf ∷ sameb the_type form Monitor ∷ []

-- which flags of forms are given
abbrev pub standing : List Row → List Bool
standing rows = is_on (values_of (codes "deterministic") rows) ∷ is_on (values_of (codes "parity") rows) ∷ is_on (values_of (codes "buchi") rows) ∷ is_on
    (values_of (codes "remove-fin") rows) ∷ is_on (values_of (codes "dnf-acceptance") rows) ∷ is_on (values_of (codes "monitor") rows) ∷ []

-- each flag is given exactly where the plan has its form
pub record IsForm (rows : List Row) (form : Form) : Type 0 where
  pub deterministic : IsTrue (is_on (values_of (codes "deterministic") rows)) ↔ (form ≡ Deterministic)
  pub parity : IsTrue (is_on (values_of (codes "parity") rows)) ↔ (form ≡ Parity)
  pub buchi : IsTrue (is_on (values_of (codes "buchi") rows)) ↔ (form ≡ Buchi)
  pub remove_fin : IsTrue (is_on (values_of (codes "remove-fin") rows)) ↔ (form ≡ RemoveFin)
  pub dnf : IsTrue (is_on (values_of (codes "dnf-acceptance") rows)) ↔ (form ≡ Dnf)
  pub monitor : IsTrue (is_on (values_of (codes "monitor") rows)) ↔ (form ≡ Monitor)
