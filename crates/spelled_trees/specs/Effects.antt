-- What reading a tree of a sort does to the declaration that stands around it.
use Rattle.std.specs.Prelude.{◌≡◌, Bool, true, false, None}
use Rattle.c_forms.specs.declared.pieces.Sort.{Sort}
use Rattle.c_forms.specs.declared.pieces.Sort.TheVariants as s
use Rattle.c_reader.specs.States.{State, Kept}

-- the sorts of plain C90
abbrev pub is_plain_sort : Sort → Bool
is_plain_sort s.Exp = true
is_plain_sort s.Id = true
is_plain_sort s.DeclaredId = true
is_plain_sort s.ParameterId = true
is_plain_sort s.EnumeratorId = true
is_plain_sort s.Literal = true
is_plain_sort s.TypeName = true
is_plain_sort s.Spec = true
is_plain_sort s.PlainSpec = true
is_plain_sort s.Qualifier = true
is_plain_sort s.Member = true
is_plain_sort s.Enumerator = true
is_plain_sort s.Declarator = true
is_plain_sort s.AbstractDeclarator = true
is_plain_sort s.ParamDeclarator = true
is_plain_sort s.MemberName = true
is_plain_sort s.Params = true
is_plain_sort s.Param = true
is_plain_sort s.Init = true
is_plain_sort s.Decl = true
is_plain_sort s.Stmt = true
is_plain_sort s.Block = true
is_plain_sort s.BlockItem = true
is_plain_sort s.Item = true
is_plain_sort s.InitDeclarator = true
is_plain_sort s.Initializer = true
is_plain_sort s.MemberDeclarator = true
is_plain_sort s.Width = true
is_plain_sort s.Members = true
is_plain_sort s.Enumerators = true
is_plain_sort s.EnumeratorValue = true
is_plain_sort s.ElsePart = true
is_plain_sort _ = false

-- ---- what a sort needs where it begins

pub data Need : Type 0 where
  NoMatter : Need
  -- no declaration has begun
  Anew : Need
  -- no declarator has a name yet
  Unnamed : Need

abbrev pub needs : Sort → Need
needs s.TypeName = Anew
needs s.Member = Anew
needs s.Members = Anew
needs s.Params = Anew
needs s.Param = Anew
needs s.Decl = Anew
needs s.Stmt = Anew
needs s.Block = Anew
needs s.BlockItem = Anew
needs s.ElsePart = Anew
needs s.Item = Anew
needs s.AbstractDeclarator = Unnamed
needs s.ParamDeclarator = Unnamed
needs _ = NoMatter

-- neither a type nor a name
pub record IsNew (kept : Kept) : Type 0 where
  pub untyped : kept.has_type ≡ false
  pub unsettled : kept.is_sole ≡ false
  pub nameless : kept.name ≡ None

abbrev pub Meets : Need → Kept → Type 0
Meets NoMatter kept = Unit {0}
Meets Anew kept = IsNew kept
Meets Unnamed kept = kept.name ≡ None

-- ---- what it does

pub data Does : Type 0 where
  -- it leaves all as it was
  Keeps : Does
  -- it ends what it began
  Renews : Does
  -- it leaves the name as it was
  LeavesName : Does
  Changes : Does

abbrev pub does : Sort → Does
does s.Exp = Keeps
does s.Id = Keeps
does s.Literal = Keeps
does s.Qualifier = Keeps
does s.Init = Keeps
does s.Initializer = Keeps
does s.Width = Keeps
does s.EnumeratorValue = Keeps
does s.Member = Renews
does s.Members = Renews
does s.Param = Renews
does s.Decl = Renews
does s.Stmt = Renews
does s.Block = Renews
does s.BlockItem = Renews
does s.ElsePart = Renews
does s.Item = Renews
does s.Spec = LeavesName
does s.PlainSpec = LeavesName
does s.AbstractDeclarator = LeavesName
does _ = Changes

abbrev pub Done : Does → Kept → Kept → Type 0
Done Keeps old new = new ≡ old
Done Renews old new = IsNew new
Done LeavesName old new = new.name ≡ old.name
Done Changes old new = Unit {0}

-- the declarations around it stay, and its own is as its sort says
pub record Leaves (due : Sort) (old new : State) : Type 0 where
  pub aside : new.aside ≡ old.aside
  pub kept : Done (does due) old.kept new.kept
