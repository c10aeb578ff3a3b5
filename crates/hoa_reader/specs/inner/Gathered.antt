-- What the rules speak of, picked out of what was written.
use Rattle.std.specs.Prelude.{◌≡◌, false, length, map}
use Rattle.std.specs.Option.{option_map_or}
use Rattle.hoa_reader.specs.inner.Numbers.{after_all}
use Rattle.hoa_reader.specs.inner.PickedOut.{acceptance_def, alias_def, label_refs, no_acceptance, numbers}
use Rattle.hoa_reader.specs.inner.Rising.{rises_from}
use Rattle.hoa_parser.specs.Raw.{Written}
use Rattle.hoa_reader.specs.Validity.{acceptance_of, alias_lines, body_labels, starts_written, used_states, written_names}
use Rattle.hoa_reader.specs.declared.elaborate.parts.Parts.{Parts}
use Rattle.hoa_reader.specs.inner.Sums.{body_sums}

pub record ArePartsOf (w : Written) (p : Parts) : Type 0 where
  pub names : p.names.now ≡ written_names w
  pub acceptance : option_map_or acceptance_def p.acceptance no_acceptance ≡ acceptance_of w
  pub defs : map alias_def p.defs.items ≡ alias_lines w
  pub starts : map (λ s. s.now) p.starts.items ≡ starts_written w
  pub sums : p.sums ≡ body_sums (length (written_names w)) w.states
  pub labels : p.sums.plain ≡ false → map label_refs p.labels.items ≡ body_labels w.states
  pub after : p.after ≡ after_all (used_states w)
  pub rising : p.rising ≡ rises_from 0 (numbers w.states)
