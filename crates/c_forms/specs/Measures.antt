-- What the row of a form says of a node by itself.
use Rattle.std.specs.Prelude.{ℕ, Bool, true, false, List}
use Rattle.c_forms.specs.declared.pieces.Piece.{Piece}
use Rattle.c_forms.specs.declared.pieces.Counts.{Counts}
use Rattle.c_forms.specs.declared.pieces.Counts.TheVariants.{Nothing, Size, SizeAndHeight}
use Rattle.c_forms.specs.declared.forms.Form.{Form}
use Rattle.c_forms.specs.declared.forms.Form.TheVariants as form
use Rattle.c_forms.specs.declared.forms.ItemForm.{ItemForm}
use Rattle.c_forms.specs.declared.forms.ItemForm.TheVariants as item
use Rattle.c_forms.specs.declared.forms.StmtForm.{StmtForm}
use Rattle.c_forms.specs.declared.forms.StmtForm.TheVariants as stmt
use Rattle.c_forms.specs.declared.forms.MetaStmtForm.{MetaStmtForm}
use Rattle.c_forms.specs.declared.forms.MetaStmtForm.TheVariants as metastmt
use Rattle.c_forms.specs.declared.forms.GroupForm.{GroupForm}
use Rattle.c_forms.specs.declared.forms.GroupForm.TheVariants as group
use Rattle.c_forms.specs.Rows.{row}

abbrev pub weight_of : Counts → ℕ
weight_of Nothing = 0
weight_of Size = 1
weight_of SizeAndHeight = 1

abbrev pub star_of : Counts → ℕ
star_of Nothing = 0
star_of Size = 0
star_of SizeAndHeight = 1

-- how many nodes a node counts for
abbrev pub weight : Form → ℕ
weight f = weight_of (row f).counts

-- how much it adds to the height
abbrev pub star : Form → ℕ
star f = star_of (row f).counts

-- how tightly it holds together
abbrev pub level : Form → ℕ
level f = (row f).level

abbrev pub pieces : Form → List Piece
pieces f = (row f).pieces

abbrev pub is_external_declaration : ItemForm → Bool
is_external_declaration item.Function = true
is_external_declaration item.Declaration = true
is_external_declaration _ = false

-- neither a placeholder, nor a call of a macro, nor a definition of the macro notation
abbrev pub is_plain : Form → Bool
is_plain (form.Hole h) = false
is_plain (form.Call n gives tail) = false
is_plain (form.Item f) = is_external_declaration f
is_plain _ = true

abbrev pub stmt_ends_as_last_part : StmtForm → Bool
stmt_ends_as_last_part stmt.Label = true
stmt_ends_as_last_part stmt.Case = true
stmt_ends_as_last_part stmt.Default = true
stmt_ends_as_last_part stmt.If = true
stmt_ends_as_last_part stmt.Switch = true
stmt_ends_as_last_part stmt.While = true
stmt_ends_as_last_part stmt.For = true
stmt_ends_as_last_part _ = false

abbrev pub meta_stmt_ends_as_last_part : MetaStmtForm → Bool
meta_stmt_ends_as_last_part metastmt.If = true
meta_stmt_ends_as_last_part metastmt.While = true
meta_stmt_ends_as_last_part metastmt.For = true
meta_stmt_ends_as_last_part metastmt.Match = true
meta_stmt_ends_as_last_part _ = false

abbrev pub group_ends_as_last_part : GroupForm → Bool
group_ends_as_last_part group.List = true
group_ends_as_last_part group.ElsePart = true
group_ends_as_last_part group.MetaElsePart = true
group_ends_as_last_part _ = false

-- whether a node ends open where its last part does
abbrev pub ends_as_last_part : Form → Bool
ends_as_last_part (form.Stmt f) = stmt_ends_as_last_part f
ends_as_last_part (form.MetaStmt f) = meta_stmt_ends_as_last_part f
ends_as_last_part (form.Group f) = group_ends_as_last_part f
ends_as_last_part (form.Call n gives tail) = tail
ends_as_last_part _ = false
