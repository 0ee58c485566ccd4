-- What a statement of input or output and a CALL do, given what the names of their unit are. ANSI X3.9-1978, sections 12.8, 12.9, 12.10 and 15.6.
use Rattle.std.specs.Prelude.{ℕ, Bool, true, false, List, Option, Some, None, if◌then◌else◌}
use Rattle.f_tree.specs.declared.expressions.Expr.{Expr}
use Rattle.f_tree.specs.declared.statements.Control.{Control}
use Rattle.f_tree.specs.declared.statements.ControlValue.{ControlValue}
use Rattle.f_tree.specs.declared.statements.ControlValue.TheVariants as value
use Rattle.f_tree.specs.declared.statements.ControlWord.{ControlWord}
use Rattle.f_tree.specs.declared.statements.ControlWord.TheVariants as word
use Rattle.f_tree.specs.declared.statements.ListItem.{ListItem}
use Rattle.f_tree.specs.declared.statements.Direction.{Direction}
use Rattle.f_tree.specs.declared.statements.AuxiliaryKind.{AuxiliaryKind}
use Rattle.f_tree.specs.Values.{Bytes, IsInt}
use Rattle.f_tree.specs.Terms.{Term, Val, Alone, All, terms}
use Rattle.f_tree.specs.Facts as fact
use Rattle.f_tree.specs.Facts.{ToCall, On}
use Rattle.f_tree.specs.Uses.{heading_of}
use Rattle.f_tree.specs.Reading.{Read, read, name_or_none}
use Rattle.f_tree.specs.Lines.{Naming, arguments_of, is_array, array_or, is_text, settled, standard_unit, controls_written, way_of, transfer_form, auxiliary_of, auxiliary_form}
use Rattle.statement_lowering.specs.declared.controls.Taken.{Taken}
use Rattle.statement_lowering.specs.declared.controls.Taken.TheVariants as taken
use Rattle.statement_lowering.specs.declared.controls.Manner.{Manner}
use Rattle.statement_lowering.specs.declared.controls.Manner.TheVariants as manner
use Rattle.statement_lowering.specs.StatementForms.{Forms}

-- READ, WRITE and PRINT (12.8)
unfoldable pub transferring : Direction → List Control → List ListItem → Forms
transferring way controls items names = transfer_form (way_of way) names items (controls_written (way_of way) names controls)

-- OPEN, CLOSE, BACKSPACE, ENDFILE and REWIND (12.10)
unfoldable pub acting_on : AuxiliaryKind → List Control → Forms
acting_on which controls names = auxiliary_form (auxiliary_of which) (controls_written fact.Output names controls)

-- CALL (15.6)
unfoldable pub calling : Bytes → List Expr → Forms
calling x es names = On (ToCall x) (terms (arguments_of names es))

unfoldable pub arguments_in : List Expr → Naming → List Term
arguments_in es names = arguments_of names es

-- a term, given what the names are
abbrev pub Meant : Type 0
Meant = Naming → Term

-- what is taken of an expression: its value, the place that it is alone, or all elements of the array that it names
unfoldable pub taking : Taken → Expr → Meant
taking taken.Value e names = (read names e).value
taking taken.Alone e names = Alone (read names e).actual
taking taken.Whole e names = All (name_or_none (heading_of e).alone)

-- the same, or all elements of the array that an expression names
unfoldable pub taking_or : Taken → Expr → Meant
taking_or t e names = array_or (taking t e names) names (read names e).named

-- what is taken of the expression after a control word
unfoldable pub by_manner : Manner → Naming → Read → Term
by_manner manner.Value names r = r.value
by_manner manner.Place names r = r.actual
by_manner manner.Settled names r = settled names r
by_manner manner.Unit names r = if is_text names r.base then settled names r else r.value

unfoldable pub taking_by : Manner → Expr → Meant
taking_by m e names = by_manner m names (read names e)

-- is a name, where it stands alone, that of an array
unfoldable pub names_array : Naming → Option Bytes → Bool
names_array names None = false
names_array names (Some x) = is_array (names x)

-- the control words that take an operand
unfoldable pub manner_of : ControlWord → Option Manner
manner_of word.Unit = Some manner.Unit
manner_of word.Format = Some manner.Settled
manner_of word.Status = Some manner.Place
manner_of word.OnError = None
manner_of word.OnEnd = None
manner_of word.File = Some manner.Settled
manner_of word.FileStatus = Some manner.Value
manner_of word.Access = Some manner.Value
manner_of word.Form = Some manner.Value
manner_of word.Blank = Some manner.Value

-- the operands of a list of control words
unfoldable pub operands_in : fact.Direction → List Control → Naming → List Term
operands_in way controls names = (controls_written way names controls).operands

-- is a control word that of the unit
unfoldable pub is_unit : ControlWord → Bool
is_unit word.Unit = true
is_unit _ = false

-- the operand of a control word with `*`, given whether it is that of the unit: the standard unit
unfoldable pub star_operand : fact.Direction → Bool → Option Term
star_operand way true = Some (Val (IsInt (standard_unit way)))
star_operand way false = None

-- the operand of a control word with an expression
unfoldable pub operand_after : Naming → Option Manner → Expr → Option Term
operand_after names None e = None
operand_after names (Some m) e = Some (taking_by m e names)

-- the operand of a control word
unfoldable pub operand_of : fact.Direction → Naming → ControlWord → ControlValue → Option Term
operand_of way names w value.Star = star_operand way (is_unit w)
operand_of way names w (value.Label l) = None
operand_of way names w (value.Value e) = operand_after names (manner_of w) e

-- the word that has `*` for its operand
unfoldable pub star_word : ControlWord → Option fact.Word
star_word word.Unit = Some fact.UnitWord
star_word _ = None

-- the word that has an expression for its operand
unfoldable pub word_before : ControlWord → Option fact.Word
word_before word.Unit = Some fact.UnitWord
word_before word.Format = Some fact.FormatWord
word_before word.Status = Some fact.StatusWord
word_before word.OnError = None
word_before word.OnEnd = None
word_before word.File = Some fact.FileWord
word_before word.FileStatus = Some fact.FileStatusWord
word_before word.Access = Some fact.AccessWord
word_before word.Form = Some fact.FormWord
word_before word.Blank = Some fact.BlankWord

-- the word whose operand stands among those of its statement
unfoldable pub word_of : ControlWord → ControlValue → Option fact.Word
word_of w value.Star = star_word w
word_of w (value.Label l) = None
word_of w (value.Value e) = word_before w

-- the label of a control word
unfoldable pub label_of : ControlValue → Option ℕ
label_of value.Star = None
label_of (value.Label l) = Some l
label_of (value.Value e) = None

-- the label of ERR
unfoldable pub error_of : ControlWord → ControlValue → Option ℕ
error_of word.OnError v = label_of v
error_of _ v = None

-- the label of END
unfoldable pub end_of : ControlWord → ControlValue → Option ℕ
end_of word.OnEnd v = label_of v
end_of _ v = None

-- how a format lays the records out
unfoldable pub layout_by : ControlValue → fact.Layout
layout_by value.Star = fact.Listed
layout_by (value.Label l) = fact.Labelled l
layout_by (value.Value e) = fact.Computed

-- is a transfer list-directed
unfoldable pub is_listed : fact.Layout → Bool
is_listed fact.Listed = true
is_listed _ = false

-- how a control word lays the records out, where it is that of a format
unfoldable pub layout_of : ControlWord → ControlValue → Option fact.Layout
layout_of word.Format v = Some (layout_by v)
layout_of _ v = None

unfoldable pub transfer_forms_opened : Unit {0}
unfolding transferring acting_on calling arguments_in taking taking_or by_manner taking_by names_array manner_of operands_in is_unit star_operand operand_after operand_of star_word word_before word_of label_of error_of end_of layout_by is_listed layout_of
transfer_forms_opened = tt
