-- The text of marks.
use Rattle.std.specs.Prelude.{ℕ, ◌*◌, List, [], ◌∷◌, ◌++◌, replicate, Option, Some, None, if◌then◌else◌}
use Rattle.c_tokens.specs.declared.token.Shape.{Shape}
use Rattle.c_layout.specs.declared.marks.Use.{Use}
use Rattle.c_layout.specs.declared.marks.Mark.{Mark}
use Rattle.c_layout.specs.declared.marks.Mark.TheVariants as mark
use Rattle.c_text.specs.Texts.{text_of_shape}
use Rattle.c_text.specs.Spacing.{is_close}

-- what ends the line of the last mark: a line feed, if there was a mark
abbrev pub line_end : Option Mark → List ℕ
line_end None = []
line_end (Some m) = 10 ∷ []

-- what begins a line: four spaces a step
abbrev pub indentation : ℕ → List ℕ
indentation depth = replicate (4 * depth) 32

-- what stands between the last mark and a token: a space, unless the token begins the line or stands close
abbrev pub gap : Option Mark → Shape → Use → List ℕ
gap None b v = []
gap (Some (mark.Line depth)) b v = []
gap (Some (mark.Token a u)) b v = if is_close a u b v then [] else 32 ∷ []

-- the text of a mark after the last one
abbrev pub text_of_mark : List (List ℕ) → Option Mark → Mark → List ℕ
text_of_mark names last (mark.Line depth) = line_end last ++ indentation depth
text_of_mark names last (mark.Token b v) = gap last b v ++ text_of_shape names b

-- the text of marks after the last one
unfoldable pub text_after : List (List ℕ) → Option Mark → List Mark → List ℕ
text_after names last [] = line_end last
text_after names last (m ∷ ms) = text_of_mark names last m ++ text_after names (Some m) ms

-- The text of marks. A list of marks that is not empty has lines, each ended by a line feed: tokens before the first
-- beginning of a line have one too.
abbrev pub text : List (List ℕ) → List Mark → List ℕ
text names marks = text_after names None marks
