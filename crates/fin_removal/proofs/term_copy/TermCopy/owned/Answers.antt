use Rattle.std.proofs.Common.{◌≡◌, ◌∙◌, ◌+◌, ◌-◌, ◌++◌, ◌∷◌, [], List, ap, arith, false, map, sym, ℕ}
use Rattle.std.specs.List.{range_with_len}
use Rattle.std.proofs.lemmas.List.FromFn.{map-range_with_len_more}
use Rattle.acc_forms.specs.declared.literal.Literal.{Literal}
use Rattle.acc_forms.specs.declared.literal.Literal.TheVariants.{Inf}
use Rattle.fin_removal.proofs.term_copy.TermCopy.owned.Goals as goal

pub sets-preserved : goal.sets-preserved
sets-preserved c =
    let first = c.args.self.now.first in
    let inf : ℕ → Literal = λ set. Inf set false in
    let at : first + (c.sets.set - first) ≡ c.sets.set = omega (arith, c.sets.auto.set) in
    let far : c.sets.set - first + 1 ≡ c.sets.set + 1 - first = omega (arith, c.sets.auto.set) in
    c.in_ok-push.ensures.ok ∙ (ap (λ (ls : List Literal). ls ++ inf c.sets.set ∷ []) c.sets.invariant
    ∙ (sym (map-range_with_len_more inf first (c.sets.set - first) c.sets.set at) ∙ ap (λ n. map inf (range_with_len first n)) far))
