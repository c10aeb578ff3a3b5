-- What is counted of a written automaton that keeps the rules, and the numbers that the counts may not pass.
use Rattle.std.specs.Prelude.{◌≡◌, ◌+◌, ◌/◌, max, ℕ, false, not, if◌then◌else◌, nat_lt, List, [], ◌∷◌, length, map, sum_by}
use Rattle.std.specs.List.{AllByRecursion}
use Rattle.std.specs.Option.{option_map_or}
use Rattle.aut_base.specs.Label as label
use Rattle.aut_base.specs.Label.{LabelTree, LabelTrees, label_size}
use Rattle.aut_base.specs.declared.limit.Limit.{Limit}
use Rattle.aut_base.specs.declared.limit.Limit.TheVariants as limit
use Rattle.aut_base.specs.declared.limit.TheConstants.{MOST_NAMES, MOST_SETS, MOST_STATES, MOST_EDGES, MOST_ALIASES}
use Rattle.hoa_reader.specs.Described.{described, expanded, greatest, meanings_of, state_count}
use Rattle.hoa_parser.specs.Raw.{RawTree, Written}
use Rattle.hoa_reader.specs.Validity.{acceptance_of, aliases_among, body_labels, written_names}

-- how many signs of a label stand one inside the other at most, and of each of more labels
abbrev mutual
  pub height : LabelTree → ℕ
  height label.True = 1
  height label.False = 1
  height (label.Prop i) = 1
  height (label.Not t) = 1 + height t
  height (label.And a b cs) = 1 + max (height a) (max (height b) (greatest_height cs))
  height (label.Or a b cs) = 1 + max (height a) (max (height b) (greatest_height cs))

  pub greatest_height : LabelTrees → ℕ
  greatest_height label.none = 0
  greatest_height (label.more t ts) = max (height t) (greatest_height ts)

-- the size of a label whose aliases are replaced
abbrev pub size_in : Written → RawTree → ℕ
size_in w t = label_size (expanded (meanings_of w) t)

-- What edges weigh: the label of its state is copied for each, and so are the labels of its aliases. A label of its own without aliases
-- weighs nothing.
abbrev pub own_weight : Written → RawTree → ℕ
own_weight w t = if not (aliases_among [] t) then size_in w t else 0

abbrev pub weight : Written → ℕ
weight w = sum_by (λ s. sum_by (λ e. option_map_or (size_in w) s.label (option_map_or (own_weight w) e.label 0)) s.edges) w.states

-- how far labels grow when their aliases are replaced
abbrev pub growth : Written → ℕ
growth w = max (greatest (map (λ t. height (expanded (meanings_of w) t)) (body_labels w.states))) (weight w / 8192)

-- A count of what is written, the limit on it, and the greatest number that is read.
pub record Counted : Type 0 where
  pub which : Limit
  pub count : ℕ
  pub most : ℕ

-- all of them, in the order in which they are examined
abbrev pub limit_counts : Written → List Counted
limit_counts w =
    record { which = limit.Names; count = length (written_names w); most = MOST_NAMES }
    ∷ record { which = limit.Sets; count = (acceptance_of w).sets; most = MOST_SETS }
    ∷ record { which = limit.States; count = state_count w; most = MOST_STATES }
    ∷ record { which = limit.Edges; count = length (described w).edges; most = MOST_EDGES }
    ∷ record { which = limit.Aliases; count = growth w; most = MOST_ALIASES }
    ∷ []

abbrev pub IsCountWithin : Counted → Type 0
IsCountWithin c = nat_lt c.most c.count ≡ false

-- none passes its number
abbrev pub PassesNone : Written → Type 0
PassesNone w = AllByRecursion IsCountWithin (limit_counts w)
