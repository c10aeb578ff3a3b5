-- For each fault of a text there is a byte that shows it, at which a reader can stop.
use Rattle.std.specs.Prelude.{◌≢◌, ◌⊎◌, ℕ, ◌≤◌, List, [], length}
use Rattle.aut_base.specs.Automaton.{Automaton}
use Rattle.aut_base.specs.declared.limit.Limit.{Limit}
use Rattle.aut_base.specs.declared.limit.Limit.TheVariants as limit
use Rattle.autfilt_run.specs.Over.{IsOverLimit}
use Rattle.filter_plan.specs.declared.plan.Plan.{Plan}
use Rattle.hoa_parser.specs.Raw.{Written}
use Rattle.hoa_parser.specs.Reads.{AskedForLast, AsksOn, EndsDeep, IsHopeless}
use Rattle.hoa_parser.specs.Standing.{IsWhole, Stands, Bad, Cut, Deep}
use Rattle.hoa_reader.specs.Elaborating.{PassesLimit}

-- Where no token can be at offset k, some prefix of the text shows it, and a reader needs to take no more than that.
abbrev pub BadIsShown : Type 0
BadIsShown = (start k : ℕ) (text : List ℕ) → Stands (Bad k) start text → (left : List ℕ) × IsHopeless k start text left × AskedForLast start text left

-- Where a token nests too deep, a reader needs to take no more than the token and, if it needs one, the byte that ends it.
abbrev pub DeepIsShown : Type 0
DeepIsShown = (start : ℕ) (text : List ℕ) → Stands Deep start text → (left : List ℕ) × EndsDeep start text left × AskedForLast start text left

-- Where the text ends inside an automaton, its last byte leaves a reader asking for more.
abbrev pub CutIsShown : Type 0
CutIsShown = (start : ℕ) (text : List ℕ) → Stands Cut start text → AsksOn start text []

-- A reader that took all of a whole automaton doesn't ask for another byte.
abbrev pub NoneAsksBehind : Type 0
NoneAsksBehind = (start : ℕ) (text : List ℕ) (w : Written) (rest new : List ℕ) → IsWhole start text w rest → AsksOn start text new → length new ≤ length rest → ⊥

-- An automaton that was read whole passes neither the limit of depth nor that of bytes, by what was read, by a filter or by
-- printing. So these two are told only while a text is read (`StopsAtLimit`).
abbrev pub WholePassesOthers : Type 0
WholePassesOthers = (which : Limit) (plan : Plan) (ops : List Automaton) (w : Written) → PassesLimit which w ⊎ IsOverLimit which plan ops w → (which ≢ limit.Depth) × (which ≢ limit.Bytes)
