use Rattle.std.proofs.Common.{◌∙◌, ℕ, List, ap, length, map}
use Rattle.std.specs.Borrow.{Bor}
use Rattle.hoa_reader.specs.inner.Numbers.{only_state, without_repeats}
use Rattle.hoa_reader.proofs.elaborate.frame.frame_of.Goals as goal

pub returns : goal.returns
returns c =
    let parts = c.requires.parts in
    record {
      valid = c.requires.valid;
      within = c.requires.within;
      starts = c.in_ok-starts.ensures ∙ ap (λ (groups : List (List ℕ)). without_repeats (map only_state groups))
          (ap (map (λ (s : Bor (List ℕ)). s.now)) c.deref.ensures.value ∙ parts.starts);
      states = c.state_count-states.ensures;
      rising = parts.rising;
      count = ap length parts.names;
      sets = c.set_count-sets.ensures;
    }
