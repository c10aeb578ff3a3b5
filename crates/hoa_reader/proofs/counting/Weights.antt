-- What is counted of labels, and what they weigh.
use Rattle.std.proofs.Common.{◌≡◌, ◌<◌, ◌+◌, ◌-◌, ◌^◌, ◌/◌, max, ℕ, Bool, true, false, not, cond, ◌||◌, List, [], ◌∷◌, length, map, Option, Some, None, nat_lt, refl, arith}
use Rattle.std.proofs.lemmas.Bool.Decides.{nat_tests}
use Rattle.std.proofs.lemmas.List.{length-append}
use Rattle.std.proofs.lemmas.List.Sums.{sum_by-cons}
use Rattle.std.specs.Prelude.{sum_by}
use Rattle.std.specs.Option.{option_map_or}
use Rattle.aut_base.specs.declared.limit.TheConstants.{MOST_ALIASES}
use Rattle.aut_base.specs.Label.{label_size}
use Rattle.hoa_reader.proofs.labels.Meanings.{known_heights, known_sizes}
use Rattle.hoa_reader.specs.Counts.{height}
use Rattle.hoa_reader.specs.Described.{greatest}
use Rattle.hoa_reader.specs.Described.{Meaning, expanded}
use Rattle.hoa_reader.specs.inner.Growing.{AreAliasesKnown, cap, capped_height, capped_size, heights_in, sizes_in}
use Rattle.hoa_parser.specs.Raw.{RawTree, WrittenEdge, WrittenState}
use Rattle.hoa_reader.specs.Validity.{aliases_among}
use Rattle.hoa_reader.specs.inner.Weighing.{all_edges, are_tall, states_counted, edge_counted, own_counted, state_counted}
use Rattle.hoa_reader.specs.declared.elaborate.aliases.Known.{Known}
use Rattle.hoa_reader.specs.declared.elaborate.parts.AliasDef.{AliasDef}
use Rattle.hoa_reader.specs.declared.elaborate.places.Places.{Places}

pub edges-cons : (s : WrittenState) (states : List WrittenState) → length (all_edges (s ∷ states)) ≡ length s.edges + length (all_edges states)
edges-cons s states = length-append s.edges (all_edges states)

tall_cons : (n h c m : ℕ) (b : Bool) → c ≡ cap h → n < 2 ^ 64 - 1 → b ≡ nat_lt n m → (nat_lt n c || b) ≡ nat_lt n (max h m)
tall_cons n h c m b e l f = grind (arith, nat_tests)

-- labels are taller than a number where the tallest is
pub tall_law : (ms : List Meaning) (defs : List AliasDef) (known : Places Known) → AreAliasesKnown ms defs known → (ts : List RawTree)
    → are_tall known ts ≡ nat_lt MOST_ALIASES (greatest (map (λ t. height (expanded ms t)) ts))
tall_law ms defs known all [] = refl
tall_law ms defs known all (t ∷ ts) =
    tall_cons MOST_ALIASES (height (expanded ms t)) (capped_height (heights_in known) t) (greatest (map (λ t. height (expanded ms t)) ts)) (are_tall known ts)
    (known_heights ms defs known all t) (omega arith) (tall_law ms defs known all ts)

-- the weights of edges, as they are counted
abbrev pub own_weighed : List Meaning → RawTree → ℕ
own_weighed ms t = cond (not (aliases_among [] t)) (label_size (expanded ms t)) 0

abbrev pub edge_weighed : List Meaning → WrittenState → WrittenEdge → ℕ
edge_weighed ms s e = option_map_or (λ t. label_size (expanded ms t)) s.label (option_map_or (own_weighed ms) e.label 0)

own_law : (b : Bool) (c n : ℕ) → c ≡ cap n → cond b c 0 ≡ cap (cond b n 0)
own_law true c n e = e
own_law false c n e = omega arith

edge_law : (ms : List Meaning) (defs : List AliasDef) (known : Places Known) → AreAliasesKnown ms defs known → (o p : Option RawTree)
    → option_map_or (capped_size (sizes_in known)) o (option_map_or (own_counted known) p 0) ≡ cap (option_map_or (λ t. label_size (expanded ms t)) o (option_map_or (own_weighed ms) p 0))
edge_law ms defs known all None None = omega arith
edge_law ms defs known all None (Some t) = own_law (not (aliases_among [] t)) (capped_size (sizes_in known) t) (label_size (expanded ms t)) (known_sizes ms defs known all t)
edge_law ms defs known all (Some t) p = known_sizes ms defs known all t

sum_law : {X : Type 0} (f g : X → ℕ) → ((x : X) → cap (f x) ≡ cap (g x)) → (xs : List X) → cap (sum_by f xs) ≡ cap (sum_by g xs)
sum_law f g h [] = refl
sum_law f g h (x ∷ xs) = let here = h x in let rest = sum_law f g h xs in let first = sum_by-cons f x xs in let second = sum_by-cons g x xs in omega (arith, here, rest, first, second)

pub weight_law : (ms : List Meaning) (defs : List AliasDef) (known : Places Known) → AreAliasesKnown ms defs known → (states : List WrittenState)
    → cap (states_counted known states) ≡ cap (sum_by (λ (s : WrittenState). sum_by (edge_weighed ms s) s.edges) states)
weight_law ms defs known all states =
    sum_law (state_counted known) (λ (s : WrittenState). sum_by (edge_weighed ms s) s.edges)
    (λ s. sum_law (edge_counted known s) (edge_weighed ms s) (λ e. let law = edge_law ms defs known all s.label e.label in omega (arith, law)) s.edges) states

-- the limit of both
pub either_passes : (tallest weight counts : ℕ) (tall heavy : Bool) → tall ≡ nat_lt MOST_ALIASES tallest → heavy ≡ nat_lt 16785407 counts → cap counts ≡ cap weight
    → (tall || heavy) ≡ nat_lt MOST_ALIASES (max tallest (weight / 8192))
either_passes tallest weight counts tall heavy t h same = grind (arith, nat_tests)
