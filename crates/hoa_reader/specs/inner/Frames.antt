-- What was read, once it is known to keep the rules and to be within the limits, and what of it isn't edges, names or condition.
use Rattle.std.specs.Prelude.{◌≡◌, [], length, filter_map, List, Result, Ok, Err}
use Rattle.hoa_parser.specs.Raw.{Written, WrittenItem}
use Rattle.hoa_reader.specs.Counts.{PassesNone}
use Rattle.hoa_reader.specs.Described.{described, meanings_after, state_count}
use Rattle.hoa_reader.specs.Elaborating.{IsRefusedFor}
use Rattle.hoa_reader.specs.Validity.{IsValid, acceptance_of, alias_item, written_names}
use Rattle.hoa_reader.specs.declared.elaborate.ElabFault.{ElabFault}
use Rattle.hoa_reader.specs.declared.elaborate.edges.Shared.{Shared}
use Rattle.hoa_reader.specs.declared.elaborate.frame.Frame.{Frame}
use Rattle.hoa_reader.specs.inner.Growing.{meanings_by}
use Rattle.hoa_reader.specs.inner.PickedOut.{numbers}
use Rattle.hoa_reader.specs.inner.Rising.{rises_from}
use Rattle.hoa_reader.specs.inner.TreeEdges.{HasKnown}

-- It is valid and within the limits, and this is all that is described but for edges, names and condition.
pub record IsFrameOf (w : Written) (f : Frame) : Type 0 where
  pub valid : IsValid w
  pub within : PassesNone w
  pub starts : f.starts ≡ (described w).starts
  pub states : f.states ≡ state_count w
  pub rising : f.rising ≡ rises_from 0 (numbers w.states)
  pub count : f.names ≡ length (written_names w)
  pub sets : f.sets ≡ (acceptance_of w).sets

abbrev pub ExaminesText : Result Frame ElabFault → Written → Type 0
ExaminesText (Ok f) w = IsFrameOf w f
ExaminesText (Err why) w = IsRefusedFor why w

-- these are the numbers of the frame, with what is known of each alias of the items
pub record IsSharedBy (f : Frame) (items : List WrittenItem) (x : Shared) : Type 0 where
  pub count : x.names ≡ f.names
  pub sets : x.sets ≡ f.sets
  pub meanings : meanings_by x.defs.items ≡ meanings_after [] (filter_map alias_item items)
  pub known : HasKnown x
