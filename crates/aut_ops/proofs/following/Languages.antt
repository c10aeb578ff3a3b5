-- Intersections and unions of languages, where automata are replaced by others that accept the same.
use Rattle.std.proofs.Common.{inl, inr}
use Rattle.aut_base.specs.Automaton.{Automaton}
use Rattle.aut_core.specs.OtherNames.{AcceptTheSame}
use Rattle.aut_ops.specs.Languages.{AcceptsBoth, AcceptsEither}

pub either_like : (made a b c d : Automaton) → AcceptTheSame a c → AcceptTheSame b d → AcceptsEither made a b → AcceptsEither made c d
either_like made a b c d first second is u v = (
  (λ r. elim ((is u v).0 r) [ inl x ↦ inl ((first u v).0 x) | inr x ↦ inr ((second u v).0 x) ]),
  (λ r. elim r [ inl x ↦ (is u v).1 (inl ((first u v).1 x)) | inr x ↦ (is u v).1 (inr ((second u v).1 x)) ]),
)

pub both_like : (made a b c d : Automaton) → AcceptTheSame a c → AcceptTheSame b d → AcceptsBoth made a b → AcceptsBoth made c d
both_like made a b c d first second is u v = (
  (λ r. let both = (is u v).0 r in ((first u v).0 both.0, (second u v).0 both.1)),
  (λ r. (is u v).1 ((first u v).1 r.0, (second u v).1 r.1)),
)
