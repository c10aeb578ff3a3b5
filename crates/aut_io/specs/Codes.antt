-- Codes of the states of sources in memory, by which proofs compare them.
use Rattle.std.specs.Prelude.{ℕ, List, refl}
use Rattle.std.specs.Cmp.Lexicographic.{slice_cmp}
use Rattle.std.specs.Coded.{Coded, code_by, coded×, coded_ℕ, coded_list}
use Rattle.std.specs.FinMap.{code}
use Rattle.std.specs.Ordering.{nat_cmp}
use Rattle.aut_io.specs.InMemory.{SourceState, TextState}
use Rattle.aut_io.specs.Outside.{Texts}

abbrev pub text_state_code : Coded TextState
text_state_code =
    code_by (Texts × (List ℕ × ℕ)) (coded× (code {R = slice_cmp nat_cmp} (coded_list coded_ℕ) (coded_list coded_ℕ)) (coded× (coded_list coded_ℕ) coded_ℕ))
    (λ s. (s.texts, (s.left, s.openings)))
    (λ p. record { texts = p.0; left = p.1.0; openings = p.1.1 })
    (λ _. refl)

abbrev pub source_state_code : Coded SourceState
source_state_code =
    code_by (TextState × (List ℕ × (ℕ × (ℕ × ℕ)))) (coded× text_state_code (coded× (coded_list coded_ℕ) (coded× coded_ℕ (coded× coded_ℕ coded_ℕ))))
    (λ s. (record { texts = s.texts; left = s.left; openings = s.openings }, (s.failing, (s.calls, (s.open_faults, s.read_faults)))))
    (λ p. record { texts = p.0.texts; left = p.0.left; openings = p.0.openings; failing = p.1.0; calls = p.1.1.0; open_faults = p.1.1.1.0; read_faults = p.1.1.1.1 })
    (λ _. refl)
