-- What the limits count, by what is known of each alias.
use Rattle.std.specs.Prelude.{ℕ, Bool, not, if◌then◌else◌, nat_lt, List, [], flat_map, sum_by}
use Rattle.std.specs.List.{list_any}
use Rattle.std.specs.Option.{option_map_or}
use Rattle.aut_base.specs.declared.limit.TheConstants.{MOST_ALIASES}
use Rattle.hoa_reader.specs.Validity.{aliases_among}
use Rattle.hoa_reader.specs.inner.Growing.{capped_height, capped_size, heights_in, sizes_in}
use Rattle.hoa_parser.specs.Raw.{RawTree, WrittenEdge, WrittenState}
use Rattle.hoa_reader.specs.declared.elaborate.aliases.Known.{Known}
use Rattle.hoa_reader.specs.declared.elaborate.places.Places.{Places}

abbrev pub all_edges : List WrittenState → List WrittenEdge
all_edges states = flat_map (λ s. s.edges) states

-- one of the labels is taller than may be
abbrev pub are_tall : Places Known → List RawTree → Bool
are_tall known ts = list_any (λ t. nat_lt MOST_ALIASES (capped_height (heights_in known) t)) ts

abbrev pub own_counted : Places Known → RawTree → ℕ
own_counted known t = if not (aliases_among [] t) then capped_size (sizes_in known) t else 0

abbrev pub edge_counted : Places Known → WrittenState → WrittenEdge → ℕ
edge_counted known s e = option_map_or (capped_size (sizes_in known)) s.label (option_map_or (own_counted known) e.label 0)

abbrev pub state_counted : Places Known → WrittenState → ℕ
state_counted known s = sum_by (edge_counted known s) s.edges

abbrev pub states_counted : Places Known → List WrittenState → ℕ
states_counted known states = sum_by (state_counted known) states
