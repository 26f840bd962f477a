-- Each sort is read in its way.
use Rattle.std.proofs.Common.{◌≡◌, refl, ap, sym, ◌∙◌, ℕ, Bool, false, Option, Some, None}
use Rattle.c_forms.specs.declared.pieces.Sort.{Sort}
use Rattle.c_forms.specs.declared.pieces.Sort.TheVariants as s
use Rattle.c_forms.specs.declared.forms.Form.{Form}
use Rattle.c_forms.specs.Tokens as tokens
use Rattle.c_reader.specs.Readers.{Reader, Found}
use Rattle.c_syntax.specs.Reading.{Parts}
use Rattle.c_syntax.specs.Grammar.{at_sort, expression, declarator_of, specifier, parameters, identifier, declared_identifier, parameter_identifier, enumerator_identifier, literal, initializer, statement, block, block_item, external}
use Rattle.sort_parser.specs.declared.sorts.Way.{Way}
use Rattle.sort_parser.specs.declared.sorts.Way.TheVariants as way
use Rattle.sort_parser.specs.Ways.{way_of, whole_by, whole_form}
use Rattle.table_parser.specs.Sound.{is_element}

-- the reader of a sort that is read in a way
abbrev by_way : Parts → Sort → ℕ → Way → Reader Found
by_way inner due least way.Expression = expression inner least
by_way inner due least way.Declarator = declarator_of inner due least
by_way inner due least way.Specifier = specifier inner due
by_way inner due least way.Parameters = parameters inner
by_way inner due least way.Identifier = identifier
by_way inner due least way.DeclaredIdentifier = declared_identifier
by_way inner due least way.ParameterIdentifier = parameter_identifier
by_way inner due least way.EnumeratorIdentifier = enumerator_identifier
by_way inner due least way.Literal = literal
by_way inner due least way.Initializer = initializer inner
by_way inner due least way.Statement = statement inner
by_way inner due least way.Block = block inner
by_way inner due least way.BlockItem = block_item inner
by_way inner due least way.External = external inner
by_way inner due least way.Whole = whole_by inner due (whole_form due)

at_way : (inner : Parts) (due : Sort) (least : ℕ) → at_sort inner due least ≡ by_way inner due least (way_of due)
at_way inner s.Exp least = refl
at_way inner s.Declarator least = refl
at_way inner s.AbstractDeclarator least = refl
at_way inner s.ParamDeclarator least = refl
at_way inner s.MemberName least = refl
at_way inner s.Spec least = refl
at_way inner s.PlainSpec least = refl
at_way inner s.Qualifier least = refl
at_way inner s.Params least = refl
at_way inner s.Id least = refl
at_way inner s.DeclaredId least = refl
at_way inner s.ParameterId least = refl
at_way inner s.EnumeratorId least = refl
at_way inner s.Literal least = refl
at_way inner s.Init least = refl
at_way inner s.Stmt least = refl
at_way inner s.Block least = refl
at_way inner s.BlockItem least = refl
at_way inner s.Item least = refl
at_way inner _ least = refl

module _ (inner : Parts) (due : Sort) (least : ℕ) (w : Way) (e : w ≡ way_of due) where
  in_way : at_sort inner due least ≡ by_way inner due least w
  in_way = at_way inner due least ∙ ap (by_way inner due least) (sym e)

pub way_expression : (inner : Parts) (due : Sort) (least : ℕ) → way.Expression ≡ way_of due → at_sort inner due least ≡ expression inner least
way_expression inner due least e = in_way inner due least way.Expression e

pub way_declarator : (inner : Parts) (due : Sort) (least : ℕ) → way.Declarator ≡ way_of due → at_sort inner due least ≡ declarator_of inner due least
way_declarator inner due least e = in_way inner due least way.Declarator e

pub way_specifier : (inner : Parts) (due : Sort) (least : ℕ) → way.Specifier ≡ way_of due → at_sort inner due least ≡ specifier inner due
way_specifier inner due least e = in_way inner due least way.Specifier e

pub way_parameters : (inner : Parts) (due : Sort) (least : ℕ) → way.Parameters ≡ way_of due → at_sort inner due least ≡ parameters inner
way_parameters inner due least e = in_way inner due least way.Parameters e

pub way_identifier : (inner : Parts) (due : Sort) (least : ℕ) → way.Identifier ≡ way_of due → at_sort inner due least ≡ identifier
way_identifier inner due least e = in_way inner due least way.Identifier e

pub way_declared_identifier : (inner : Parts) (due : Sort) (least : ℕ) → way.DeclaredIdentifier ≡ way_of due → at_sort inner due least ≡ declared_identifier
way_declared_identifier inner due least e = in_way inner due least way.DeclaredIdentifier e

pub way_parameter_identifier : (inner : Parts) (due : Sort) (least : ℕ) → way.ParameterIdentifier ≡ way_of due → at_sort inner due least ≡ parameter_identifier
way_parameter_identifier inner due least e = in_way inner due least way.ParameterIdentifier e

pub way_enumerator_identifier : (inner : Parts) (due : Sort) (least : ℕ) → way.EnumeratorIdentifier ≡ way_of due → at_sort inner due least ≡ enumerator_identifier
way_enumerator_identifier inner due least e = in_way inner due least way.EnumeratorIdentifier e

pub way_literal : (inner : Parts) (due : Sort) (least : ℕ) → way.Literal ≡ way_of due → at_sort inner due least ≡ literal
way_literal inner due least e = in_way inner due least way.Literal e

pub way_initializer : (inner : Parts) (due : Sort) (least : ℕ) → way.Initializer ≡ way_of due → at_sort inner due least ≡ initializer inner
way_initializer inner due least e = in_way inner due least way.Initializer e

pub way_statement : (inner : Parts) (due : Sort) (least : ℕ) → way.Statement ≡ way_of due → at_sort inner due least ≡ statement inner
way_statement inner due least e = in_way inner due least way.Statement e

pub way_block : (inner : Parts) (due : Sort) (least : ℕ) → way.Block ≡ way_of due → at_sort inner due least ≡ block inner
way_block inner due least e = in_way inner due least way.Block e

pub way_block_item : (inner : Parts) (due : Sort) (least : ℕ) → way.BlockItem ≡ way_of due → at_sort inner due least ≡ block_item inner
way_block_item inner due least e = in_way inner due least way.BlockItem e

pub way_external : (inner : Parts) (due : Sort) (least : ℕ) → way.External ≡ way_of due → at_sort inner due least ≡ external inner
way_external inner due least e = in_way inner due least way.External e

pub way_whole : (inner : Parts) (due : Sort) (least : ℕ) → way.Whole ≡ way_of due → at_sort inner due least ≡ whole_by inner due (whole_form due)
way_whole inner due least e = in_way inner due least way.Whole e

-- a specifier begins as in every declaration
pub way_begun : (due : Sort) → way.Specifier ≡ way_of due → tokens.begun due ≡ tokens.begun s.Spec
way_begun s.Spec e = refl
way_begun s.PlainSpec e = refl
way_begun s.Qualifier e = refl
way_begun _ e = absurd (cc e)

pub ruleset ways = (way_expression, way_declarator, way_specifier, way_parameters, way_identifier, way_declared_identifier, way_parameter_identifier, way_enumerator_identifier, way_literal, way_initializer, way_statement, way_block, way_block_item, way_external, way_whole, way_begun)

abbrev element_in : Option Form → Bool
element_in (Some f) = is_element f
element_in None = false

no_element : (due : Sort) → element_in (whole_form due) ≡ false
no_element s.TypeName = refl
no_element _ = refl

pub whole_element : (due : Sort) (f : Form) → Some f ≡ whole_form due → is_element f ≡ false
whole_element due f e = ap element_in e ∙ no_element due
