use Rattle.std.proofs.Common.{◌≡◌, ◌∙◌, ◌+◌, ◌*◌, ◌%◌, ◌^◌, ◌++◌, ◌∷◌, [], ap, arith, sym}
use Rattle.std.proofs.lemmas.Nat.{one_shl}
use Rattle.hoa_parser.specs.Raw.{all_literals, raw_literal}
use Rattle.hoa_parser.proofs.plain.Cubes.{added_fails, added_holds}
use Rattle.hoa_parser.proofs.parse.cube.marked.Goals as goal

pub returns-then-holds-clause-literals : goal.returns-then-holds-clause-literals
returns-then-holds-clause-literals c =
    let few = c.requires.few in
    let shifted = one_shl c.args.place 32 few in
    let bit : 1 * 2 ^ c.args.place % 4294967296 ≡ 2 ^ c.args.place = omega (arith, shifted) in
    ap (λ b. all_literals (c.args.cube.names + b) (c.args.cube.values + b)) bit
    ∙ (added_holds c.args.cube.names c.args.cube.values c.args.place c.requires.after c.requires.within few
    ∙ ap (λ b. all_literals c.args.cube.names c.args.cube.values ++ raw_literal c.args.place b ∷ []) (sym c.if-holds.true))

pub returns-clause-literals : goal.returns-clause-literals
returns-clause-literals c =
    let few = c.requires.few in
    let shifted = one_shl c.args.place 32 few in
    let bit : 1 * 2 ^ c.args.place % 4294967296 ≡ 2 ^ c.args.place = omega (arith, shifted) in
    ap (λ b. all_literals (c.args.cube.names + b) c.args.cube.values) bit
    ∙ (added_fails c.args.cube.names c.args.cube.values c.args.place c.requires.after c.requires.within few
    ∙ ap (λ b. all_literals c.args.cube.names c.args.cube.values ++ raw_literal c.args.place b ∷ []) (sym c.if-holds.false))
