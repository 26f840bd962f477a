-- Where a list of elements stands, as the program keeps it.
use Rattle.pattern_language.specs.declared.rules.Context.{Context}
use Rattle.pattern_language.specs.Sets.{has}
use Rattle.pattern_language.specs.Earlier.{names_before}
use Rattle.pattern_language.specs.Rules.{Place}

abbrev pub place_of : Context → Place
place_of c = record { depth = c.depth; earlier = names_before c.earlier.now; follow = has c.follow; ends = c.ends; whole = c.whole }
