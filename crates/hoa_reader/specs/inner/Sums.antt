-- What one pass over the body tells.
use Rattle.std.specs.Prelude.{◌+◌, ◌*◌, ◌^◌, ◌==◌, ◌&&◌, ◌||◌, max, ℕ, Bool, true, not, is_none, is_some, List, [], ◌∷◌, length, Option}
use Rattle.std.specs.Option.{option_map_or}
use Rattle.hoa_parser.specs.Raw as raw
use Rattle.hoa_parser.specs.Raw.{RawTree, RawTrees, WrittenEdge, WrittenState}
use Rattle.hoa_reader.specs.inner.Numbers.{after_all}
use Rattle.hoa_reader.specs.Validity.{aliases_among}
use Rattle.hoa_reader.specs.declared.elaborate.sums.Sums.{Sums}
use Rattle.hoa_reader.specs.inner.Growing.{cap, capped_height, capped_size}

-- the least number that is above every proposition of a label
abbrev mutual
  pub props_after : RawTree → ℕ
  props_after raw.True = 0
  props_after raw.False = 0
  props_after (raw.Prop i) = i + 1
  props_after (raw.Alias name) = 0
  props_after (raw.Not t) = props_after t
  props_after (raw.And a b cs) = max (props_after a) (max (props_after b) (all_props_after cs))
  props_after (raw.Or a b cs) = max (props_after a) (max (props_after b) (all_props_after cs))

  pub all_props_after : RawTrees → ℕ
  all_props_after raw.none = 0
  all_props_after (raw.more t ts) = max (props_after t) (all_props_after ts)

-- an alias counts as one sign
abbrev pub one_sign : List ℕ → ℕ
one_sign name = 1

-- of a label that may be missing
abbrev pub option_props : Option RawTree → ℕ
option_props label = option_map_or props_after label 0

abbrev pub option_plain : Option RawTree → Bool
option_plain label = option_map_or (aliases_among []) label true

abbrev pub option_height : Option RawTree → ℕ
option_height label = option_map_or (capped_height one_sign) label 0

abbrev pub option_size : Option RawTree → ℕ
option_size label = option_map_or (capped_size one_sign) label 0

-- what an edge tells
abbrev pub edge_sums : WrittenEdge → Sums
edge_sums e = record {
  single = length e.to == 1;
  after = after_all e.to;
  props = option_props e.label;
  plain = option_plain e.label;
  marks = after_all e.marks;
  labelled = is_some e.label;
  bare = is_none e.label;
  one_way = true;
  letters = true;
  edges = 0;
  height = option_height e.label;
  weight = 0;
}

-- what two tell together
abbrev pub beside : Sums → Sums → Sums
beside a b = record {
  single = a.single && b.single;
  after = max a.after b.after;
  props = max a.props b.props;
  plain = a.plain && b.plain;
  marks = max a.marks b.marks;
  labelled = a.labelled && b.labelled;
  bare = a.bare && b.bare;
  one_way = a.one_way && b.one_way;
  letters = a.letters && b.letters;
  edges = cap (a.edges + b.edges);
  height = max a.height b.height;
  weight = cap (a.weight + b.weight);
}

-- what is told where there is nothing
abbrev pub nothing : Sums
nothing = record {
  single = true;
  after = 0;
  props = 0;
  plain = true;
  marks = 0;
  labelled = true;
  bare = true;
  one_way = true;
  letters = true;
  edges = 0;
  height = 0;
  weight = 0;
}

abbrev pub edges_sums : List WrittenEdge → Sums
edges_sums [] = nothing
edges_sums (e ∷ es) = beside (edge_sums e) (edges_sums es)

-- what a state tells over so many names, by what its edges tell
abbrev pub state_sums_by : ℕ → WrittenState → Sums → Sums
state_sums_by names s all = record {
  single = all.single;
  after = max (s.number + 1) all.after;
  props = max (option_props s.label) all.props;
  plain = option_plain s.label && all.plain;
  marks = max all.marks (after_all s.marks);
  labelled = true;
  bare = true;
  one_way = all.bare || (is_none s.label && all.labelled);
  letters = (length s.edges == 0) || ((length s.edges == 2 ^ names) || not (is_none s.label && all.bare));
  edges = cap (length s.edges);
  height = max (option_height s.label) all.height;
  weight = cap (option_size s.label * length s.edges);
}

abbrev pub state_sums : ℕ → WrittenState → Sums
state_sums names s = state_sums_by names s (edges_sums s.edges)

abbrev pub body_sums : ℕ → List WrittenState → Sums
body_sums names [] = nothing
body_sums names (s ∷ ss) = beside (state_sums names s) (body_sums names ss)
