-- Sets with a class in common.
use Rattle.std.proofs.Common.{◌≡◌, sym, ◌∙◌}
use Rattle.c_tokens.specs.declared.class.Class.{Class}
use Rattle.pattern_language.specs.Classes.{Classes, Meets}

pub meets_alike : (a b f g : Classes) → ((c : Class) → a c ≡ f c) → ((c : Class) → b c ≡ g c) → Meets a b → Meets f g
meets_alike a b f g e h m = (m.0, sym (e m.0) ∙ m.1, sym (h m.0) ∙ m.2)
