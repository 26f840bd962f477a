use Rattle.std.proofs.Common.{◌≡◌, drop}
use Rattle.c_forms.specs.Forests.{forest}
use Rattle.scope_meanings.specs.Meanings.{has_type}
use Rattle.scope_meanings.proofs.meaning.has_type.Given as goal

abbrev pub invariant-loop-spec : goal.invariant-loop-spec
invariant-loop-spec l = has_type (forest (drop l.spec-index l.specs)) ≡ has_type (forest l.specs)
