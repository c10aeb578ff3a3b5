use Rattle.std.proofs.Common.{◌+◌, ◌<◌, ◌∙◌, arith, drop, length, sym, take}
use Rattle.std.proofs.lemmas.List.{get_or_default}
use Rattle.aut_base.proofs.lists.Lists.{split-at}
use Rattle.hoa_reader.specs.Validity.{rules}
use Rattle.hoa_reader.proofs.elaborate.broken.first_broken.Goals as goal

pub returns-then-not-branch : goal.returns-then-not-branch
returns-then-not-branch c =
    let k = c.rules.rule-index in
    let within : k < length rules = omega arith in (
      record {
        before = take k rules;
        after = drop (k + 1) rules;
        all = split-at rules k _ within (get_or_default rules k _ _ within);
        earlier = c.rules.invariant;
      },
      sym c.in_ok-keeps.ensures ∙ c.if-not-branch.true,
    )
