-- Which parts of a node begin lines.
use Rattle.std.specs.Prelude.{Bool, true, false}
use Rattle.c_forms.specs.declared.pieces.Sort.{Sort}
use Rattle.c_forms.specs.declared.pieces.Sort.TheVariants as sort
use Rattle.c_forms.specs.declared.forms.StmtForm.{StmtForm}
use Rattle.c_forms.specs.declared.forms.StmtForm.TheVariants as stmt
use Rattle.c_forms.specs.declared.forms.GroupForm.TheVariants as group
use Rattle.c_forms.specs.declared.forms.Form.{Form}
use Rattle.c_forms.specs.declared.forms.Form.TheVariants as form
use Rattle.c_layout.specs.declared.standing.Standing.{Standing}
use Rattle.c_layout.specs.declared.standing.Standing.TheVariants as stands
use Rattle.c_layout.specs.declared.standing.GroupStanding.{GroupStanding}
use Rattle.c_layout.specs.declared.standing.GroupStanding.TheVariants as stand

-- the body of `if`, `switch`, `while`, `for` and `do`; the statement after a label goes on with the line
abbrev pub body_of : StmtForm → Standing
body_of stmt.If = stands.Body
body_of stmt.Switch = stands.Body
body_of stmt.While = stands.Body
body_of stmt.For = stands.Body
body_of stmt.Do = stands.BodyOfDo
body_of _ = stands.Along

abbrev pub statement_in : Form → Standing
statement_in (form.Stmt f) = body_of f
statement_in (form.Group group.ElsePart) = stands.BodyOfElse
statement_in _ = stands.Along

-- how a part of a sort stands in a node of a form
abbrev pub standing_of_part : Form → Sort → Standing
standing_of_part f sort.Stmt = statement_in f
standing_of_part f _ = stands.Along

-- how the elements of a group of a sort stand: what is in a block, the declarations of the parameters of a function
-- definition, and the else-part of an `if`
abbrev pub standing_of_group : Sort → GroupStanding
standing_of_group sort.BlockItem = stand.Inside
standing_of_group sort.Decl = stand.Declarations
standing_of_group sort.ElsePart = stand.Else
standing_of_group _ = stand.Along

abbrev pub is_block : Form → Bool
is_block (form.Stmt stmt.Block) = true
is_block _ = false

-- whether it goes on with the line of an `else`
abbrev pub follows_else : Form → Bool
follows_else (form.Stmt stmt.Block) = true
follows_else (form.Stmt stmt.If) = true
follows_else _ = false
