use Rattle.std.proofs.Common.{◌+◌, ◌*◌}
use Rattle.sort_parser.proofs.sorts.+in_place.Given as goal

abbrev pub decreases-in_place : goal.decreases-in_place
decreases-in_place l = 10 * l.depth + l.places
