-- Spans that count tokens, and the bytes of those tokens.
use Rattle.std.specs.Prelude.{ℕ, ◌-◌, min, nat_lt, if◌then◌else◌, List, length, slice_get, Option, Some, None}
use Rattle.c_tokens.specs.declared.span.Span.{Span}
use Rattle.c_tokens.specs.declared.token.Token.{Token}
use Rattle.c_forms.specs.Forests.{Plain, Forest, empty, tree}

-- ---- trees with other spans

-- each span replaced
abbrev pub respanned : (Span → Span) → Forest → Forest
respanned g empty = empty
respanned g (tree f s ps rest) = tree f (g s) (respanned g ps) (respanned g rest)

abbrev pub respanned_tree : (Span → Span) → Plain → Plain
respanned_tree g t = record { form = t.form; span = g t.span; parts = respanned g t.parts }

-- ---- tokens and bytes

abbrev pub between : ℕ → ℕ → Span
between i j = record { start = i; «end» = j }

abbrev pub span_in : Option Token → Span
span_in (Some t) = t.span
span_in None = between 0 0

-- the bytes of the token with a number; beyond the last token, those of the last
abbrev pub bytes_of : List Token → ℕ → Span
bytes_of ts i = span_in (slice_get ts (min i (length ts - 1)))

-- from the first byte of token i to the last one of the token before j;
-- where there is no token between them, nothing, where token i begins
abbrev pub placed_from : List Token → ℕ → ℕ → Span
placed_from ts i j = between (bytes_of ts i).start (if nat_lt i j then (bytes_of ts (j - 1)).«end» else (bytes_of ts i).start)

abbrev pub placed_span : List Token → Span → Span
placed_span ts s = placed_from ts s.start s.«end»

-- the tree with each span in bytes
abbrev pub placed : List Token → Plain → Plain
placed ts t = respanned_tree (placed_span ts) t
