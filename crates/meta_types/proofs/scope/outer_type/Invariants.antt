use Rattle.std.proofs.Common.{◌≡◌, ◌≤◌, length, take}
use Rattle.meta_types.specs.Scopes.{type_among}
use Rattle.meta_types.specs.Frames.{frames}
use Rattle.meta_types.proofs.scope.outer_type.Given as goal

abbrev pub invariant-loop-left : goal.invariant-loop-left
invariant-loop-left l = record { within : l.left ≤ length l.scopes; rest : type_among l.word (frames l.scopes) ≡ type_among l.word (frames (take l.left l.scopes)) }

abbrev pub decreases-loop-left : goal.decreases-loop-left
decreases-loop-left l = l.left
