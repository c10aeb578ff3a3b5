-- How a caller knows that the copies can be numbered: by what the terms count, or by the number of states alone.
use Rattle.std.proofs.Common.{◌+◌, ◌*◌, ◌^◌, ◌<◌, ◌≤◌}
