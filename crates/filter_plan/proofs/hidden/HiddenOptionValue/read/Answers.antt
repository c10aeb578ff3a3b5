use Rattle.std.proofs.Common.{◌≡◌, ◌∙◌, ◌-◌, List, ℕ, MatchOption, Option, None, Some, arith, drop, length, length-drop, subst, take}
use Rattle.std.proofs.lemmas.List.{take_all}
use Rattle.word_syntax.proofs.texts.FrontTokens.{one_front}
use Rattle.filter_plan.specs.Hiding.{IsHideOption, suffix}
use Rattle.filter_plan.specs.declared.plan.Hidden.{Hidden}
use Rattle.ap_project.specs.declared.hide.Hide.{Hide}
use Rattle.word_syntax.specs.Writing.{IsNameAtFront, NoNameAtFront}
use Rattle.word_syntax.specs.declared.token.Token.TheVariants.{Name}
use Rattle.filter_plan.proofs.hidden.HiddenOptionValue.read.Goals as goal

abbrev Answers : List ℕ → Option (List ℕ × ℕ) → Type 0
Answers text found = MatchOption found (NoNameAtFront text) (λ name. IsNameAtFront text name.0 name.1)

no_name : (text : List ℕ) (found : Option (List ℕ × ℕ)) → Answers text found → found ≡ None → (h : Hidden) → IsHideOption text h → ⊥
no_name text found answers none h is = (subst (Answers text) none answers) h.name (suffix h.how) is

other_way : (text : List ℕ) (found : Option (List ℕ × ℕ)) (name : List ℕ) (size : ℕ) → Answers text found → found ≡ Some (name, size)
    → ((how : Hide) → take (length text - size) (drop size text) ≡ suffix how → ⊥) → (h : Hidden) → IsHideOption text h → ⊥
other_way text found name size answers some none h is =
    let front : IsNameAtFront text name size = subst (Answers text) some answers in
    let same = one_front text (Name name) (Name h.name) (drop size text) (suffix h.how) front.front is in
    none h.how (take_all (length text - size) (drop size text) (omega (arith, length-drop size text)) ∙ same.1)

pub returns-in_default-clause-usage : goal.returns-in_default-clause-usage
returns-in_default-clause-usage c _ =
    let is = c.in_ok-spelled.ensures ∙ c.as_bytes.ensures.value in
    no_name c.args.text.now c.in_ok-name.field-0 (subst (λ t. Answers t c.in_ok-name.field-0) is c.in_ok-name.ensures) c.in_default.is

pub returns-clause-usage : goal.returns-clause-usage
returns-clause-usage c _ =
    let is = c.in_ok-spelled.ensures ∙ c.as_bytes.ensures.value in
    other_way c.args.text.now c.in_ok-name.field-0 c.in-Some.name c.in-Some.size (subst (λ t. Answers t c.in_ok-name.field-0) is c.in_ok-name.ensures) c.in-Some.is
    (subst (λ t. (how : Hide) → take (length t - c.in-Some.size) (drop c.in-Some.size t) ≡ suffix how → ⊥) (c.as_bytes-2.ensures ∙ is) c.in-None.ensures)
