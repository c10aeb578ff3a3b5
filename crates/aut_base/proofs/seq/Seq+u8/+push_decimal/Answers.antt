use Rattle.std.proofs.Common.{◌+◌, ◌%◌, ◌/◌, ◌++◌, [], ◌∷◌, ◌∙◌, sym, ap, arith}
use Rattle.std.proofs.lemmas.Fmt.{decimal_step}
use Rattle.std.proofs.lemmas.List.{append_assoc}
use Rattle.std.proofs.lemmas.Result.{on_ok_weaker}
use Rattle.std.specs.Fmt.{decimal}
use Rattle.aut_base.proofs.seq.Seq+u8.+push_decimal.Goals as goal

pub returns-clause-ok : goal.returns-clause-ok
returns-clause-ok t c =
    let n = c.args.number in
    let digit = (48 + n % 10) ∷ [] in
    on_ok_weaker c.push-2.result
    (λ e. e ∙ (ap (λ xs. xs ++ digit) c.in_ok-push_decimal.ensures.ok
    ∙ (append_assoc c.args.self.now (decimal (n / 10)) digit ∙ ap (λ xs. c.args.self.now ++ xs) (sym (decimal_step n (omega arith) (omega arith))))))
    c.push-2.ensures.ok
