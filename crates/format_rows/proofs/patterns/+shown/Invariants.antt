use Rattle.std.proofs.Common.{◌*◌, ◌+◌}
use Rattle.format_rows.proofs.patterns.+shown.Given as goal

abbrev pub decreases-add_label : goal.decreases-add_label
decreases-add_label l = 2 * l.depth

abbrev pub decreases-add_labels : goal.decreases-add_labels
decreases-add_labels l = 2 * l.depth + 1
