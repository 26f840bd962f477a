use Rattle.std.proofs.Common.{ap, not, is_some}
use Rattle.fresh_names.specs.Names.{is_among}
use Rattle.fresh_names.proofs.number.is_free.Goals as goal

pub returns-in-Some : goal.returns-in-Some
unfolding is_among
returns-in-Some c = ap (λ o. not (is_some o)) c.in-Some.ensures

pub returns-in-None : goal.returns-in-None
unfolding is_among
returns-in-None c = ap (λ o. not (is_some o)) c.in-None.ensures
