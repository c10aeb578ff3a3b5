use Rattle.std.proofs.Common.{◌≡◌, ◌+◌, ◌-◌, ◌*◌, ◌||◌, ◌∙◌, ℕ, Bool, true, false, nat_lt, map, List, [], refl, sym, ap, arith}
use Rattle.std.specs.Prelude.{sum_by}
use Rattle.aut_base.specs.declared.limit.TheConstants.{MOST_ALIASES}
use Rattle.hoa_reader.proofs.counting.Weights.{edge_weighed, either_passes, tall_law, weight_law}
use Rattle.hoa_reader.specs.Counts.{growth, height, weight}
use Rattle.hoa_reader.specs.Described.{greatest}
use Rattle.hoa_reader.specs.Described.{Meaning, expanded, meanings_after, meanings_of}
use Rattle.hoa_reader.specs.inner.Gathered.{ArePartsOf}
use Rattle.hoa_reader.specs.inner.Growing.{AreAliasesKnown, cap, meanings_by}
use Rattle.hoa_parser.specs.Raw.{RawTree, Written, WrittenState, written}
use Rattle.hoa_reader.specs.Validity.{body_labels}
use Rattle.hoa_reader.specs.inner.Weighing.{are_tall, states_counted}
use Rattle.hoa_reader.specs.declared.elaborate.aliases.Known.{Known}
use Rattle.hoa_reader.specs.declared.elaborate.parts.Parts.{Parts}
use Rattle.hoa_reader.specs.declared.elaborate.places.Places.{Places}
use Rattle.hoa_reader.proofs.elaborate.limits.grow_too_far.Goals as goal

grows : (w : Written) (p : Parts) (known : Places Known) (tall heavy : Bool) → ArePartsOf w p → AreAliasesKnown (meanings_by p.defs.items) p.defs.items known
    → tall ≡ are_tall known (body_labels w.states)
    → heavy ≡ nat_lt 16785407 (states_counted known w.states) → (tall || heavy) ≡ nat_lt MOST_ALIASES (growth w)
grows w p known tall heavy parts all t h =
    let ms = meanings_by p.defs.items in
    let same : ms ≡ meanings_of w = ap (meanings_after []) parts.defs in
    let W : List Meaning → ℕ = λ ms. sum_by (λ (s : WrittenState). sum_by (edge_weighed ms s) s.edges) w.states in
    let law : cap (states_counted known w.states) ≡ cap (weight w) = weight_law ms p.defs.items known all w.states ∙ ap (λ ms. cap (W ms)) same in
    either_passes (greatest (map (λ (t : RawTree). height (expanded (meanings_of w) t)) (body_labels w.states))) (weight w) (states_counted known w.states) tall heavy
    (t ∙ tall_law ms p.defs.items known all (body_labels w.states) ∙ ap (λ ms. nat_lt MOST_ALIASES (greatest (map (λ (t : RawTree). height (expanded ms t)) (body_labels w.states)))) same) h law

pub returns-then-is_tall : goal.returns-then-is_tall
returns-then-is_tall c =
    let w = written c.args.raw.now in
    let known = c.args.known.now in
    let tall : true ≡ are_tall known (body_labels w.states) = sym c.if-is_tall.true ∙ c.is_tall.ensures in
    grows w c.args.parts.now known true (nat_lt 16785407 (states_counted known w.states)) c.requires.parts c.requires.known tall refl

pub returns : goal.returns
returns c =
    let w = written c.args.raw.now in
    let known = c.args.known.now in
    let tall : false ≡ are_tall known (body_labels w.states) = sym c.if-is_tall.false ∙ c.is_tall.ensures in
    let most : (c.from.result + 1) * 8192 - 1 ≡ 16785407 = omega (arith, c.from.ensures) in
    let heavy : c.is_heavy.result ≡ nat_lt 16785407 (states_counted known w.states) = c.is_heavy.ensures ∙ ap (λ n. nat_lt n (states_counted known w.states)) most in
    grows w c.args.parts.now known false c.is_heavy.result c.requires.parts c.requires.known tall heavy
