-- The C file of a FORTRAN file of which each form is translated today, and where a file has another form: F99 at its first statement that has one, else
-- where its unit begins. A file is translated that is one main program of integers and logicals, with storage of their own, and of the statements
-- that lowering and emission know. ANSI X3.9-1978, sections 2.4, 4.1, 8 to 12 and 14.
use Rattle.std.specs.List.{list_all}
use Rattle.std.specs.Prelude.{◌+◌, ◌^◌, nat_lt, nat_le, Bool, true, false, ◌&&◌, List, [], ◌∷◌, ◌++◌, length, Option, Some, None, is_none, option_map, if◌then◌else◌}
use Rattle.statement_lowering.specs.f_tree.declared.names.Basic.{Basic}
use Rattle.statement_lowering.specs.f_tree.declared.names.Basic.TheVariants.{Character}
use Rattle.statement_lowering.specs.f_tree.declared.names.Options.{Options}
use Rattle.statement_lowering.specs.f_tree.declared.refusals.Kind.TheVariants.{NotBuiltYet}
use Rattle.statement_lowering.specs.f_tree.declared.refusals.Refusal.{Refusal}
use Rattle.statement_lowering.specs.f_tree.declared.statements.Body.{Body}
use Rattle.statement_lowering.specs.f_tree.declared.statements.Body.TheOpen as body
use Rattle.statement_lowering.specs.f_tree.declared.statements.Control.{Control}
use Rattle.statement_lowering.specs.f_tree.declared.statements.ControlValue.{ControlValue}
use Rattle.statement_lowering.specs.f_tree.declared.statements.ControlValue.TheVariants as value
use Rattle.statement_lowering.specs.f_tree.declared.statements.ControlWord.{ControlWord}
use Rattle.statement_lowering.specs.f_tree.declared.statements.ControlWord.TheVariants as word
use Rattle.statement_lowering.specs.f_tree.declared.statements.Direction.{Direction}
use Rattle.statement_lowering.specs.f_tree.declared.statements.Direction.TheVariants as way
use Rattle.statement_lowering.specs.f_tree.declared.statements.ListItem.{ListItem}
use Rattle.statement_lowering.specs.f_tree.declared.statements.ListItem.TheOpen as item
use Rattle.statement_lowering.specs.f_tree.declared.statements.Stmt.{Stmt}
use Rattle.statement_lowering.specs.f_tree.declared.units.File.{File}
use Rattle.statement_lowering.specs.f_tree.declared.units.Unit.{Unit as WrittenUnit}
use Rattle.statement_lowering.specs.f_tree.Facts.{ProgramUnit}
use Rattle.statement_lowering.specs.f_tree.Folds.{fold_body, fold_item}
use Rattle.statement_lowering.specs.f_tree.Lines.{unit_read}
use Rattle.statement_lowering.specs.declaration_rows.NameRows.{given_names}
use Rattle.statement_lowering.specs.l_core.Steps.{Step, Halt, Text}
use Rattle.statement_lowering.specs.lowering.Units.{lowered_unit}
use Rattle.named_mains.specs.c_tree.declared.file.CFile.{CFile}
use Rattle.named_mains.specs.main_file.MainFile.{main_file}
use Rattle.named_mains.specs.main_translation.Contents.{temporaries_in, inventory_of}
use Rattle.named_mains.specs.main_translation.Outlined.{labels_in}
use Rattle.named_mains.specs.NamedMains.{named_body_of}
use Rattle.plain_forms.specs.OwnStorage.{plain_facts}
use Rattle.plain_forms.specs.PlainUnits.{is_plain_main}
use Rattle.plain_forms.specs.SpellableNames.{is_spellable}
use Rattle.translated_forms.specs.LoweredForms.{statements_lower}

-- ## The C file

-- the text of STOP is of bytes, and its length has 32 bits
unfoldable pub stop_fits : Step → Bool
stop_fits (Halt text) = list_all (λ byte. nat_lt byte 256) text && nat_lt (length text) 2147483648
stop_fits st = true

-- a lowered text that fits into memory
unfoldable pub fits : Text → Bool
fits u =
    nat_le (1 + length u.steps) (2 ^ 64) && (nat_le (1 + temporaries_in u.steps) (2 ^ 64) && (nat_le (1 + length u.marks) (2 ^ 64)
    && (list_all (λ label. nat_lt label (2 ^ 64)) (labels_in u.steps) && list_all stop_fits u.steps)))

-- what is asked for it
unfoldable pub file_if : Bool → Option CFile → Option CFile
file_if true file = file
file_if false file = None

-- the file of a unit with its lowered text
unfoldable pub file_by : ProgramUnit → Option Text → Option CFile
file_by unit None = None
file_by unit (Some u) = file_if (fits u) (option_map (main_file (inventory_of unit u)) (named_body_of unit u))

-- the C file of a program unit, where each of its forms is translated
unfoldable pub unit_file : Options → WrittenUnit → Option CFile
unit_file options u =
    file_if (is_plain_main options u && (is_spellable (unit_read options u) && statements_lower (given_names u) u.statements))
    (file_by (unit_read options u) (lowered_unit (plain_facts (unit_read options u))))

-- a file is translated that is one program unit
unfoldable pub units_file : Options → List WrittenUnit → Option CFile
units_file options [] = None
units_file options (u ∷ []) = unit_file options u
units_file options (u ∷ v ∷ us) = None

abbrev pub file_of : Options → File → Option CFile
file_of options tree = units_file options tree.units

-- ## Statements by their form

unfoldable pub is_number : Basic → Bool
is_number Character = false
is_number _ = true

unfoldable pub is_star : ControlValue → Bool
is_star value.Star = true
is_star _ = false

-- a unit, and the format `*`
unfoldable pub is_plain_word : ControlWord → ControlValue → Bool
is_plain_word word.Unit v = true
is_plain_word word.Format v = is_star v
is_plain_word _ v = false

-- an item, which is no implied DO
unfoldable pub layer_single : item.ListItem-F Bool → Bool
layer_single (item.Item e) = true
layer_single (item.Loop bs control) = false

unfoldable pub is_output : Direction → Bool
is_output way.Write = true
is_output way.Read = false

-- list-directed output
unfoldable pub is_listed : Direction → List Control → List ListItem → Bool
is_listed way controls items = is_output way && (list_all (λ (c : Control). is_plain_word c.word c.value) controls && list_all (fold_item layer_single) items)

-- one layer of a statement, given whether the statement of a logical IF is of such a form: no shared storage, no initial values, no type CHARACTER, no
-- reference of a procedure, and no input or output but by lists
unfoldable pub layer_form : body.Body-F Bool → Bool
layer_form (body.Declare spec names) = is_number spec.basic
layer_form (body.Common groups) = false
layer_form (body.Equivalence groups) = false
layer_form (body.Init groups) = false
layer_form (body.Entry x dummies) = false
layer_form (body.IfOne e b) = b
layer_form (body.Call x es) = false
layer_form (body.Return e) = is_none e
layer_form (body.Transfer way controls items) = is_listed way controls items
layer_form (body.Auxiliary which controls) = false
layer_form (body.Include name) = false
layer_form _ = true

unfoldable pub is_translated_form : Body → Bool
is_translated_form b = fold_body layer_form b

-- ## Rows

-- F99 at the first statement of another form, else where the unit begins
unfoldable pub form_row : WrittenUnit → List Stmt → Refusal
form_row u [] = record { file = u.file; card = u.card; kind = NotBuiltYet }
form_row u (s ∷ ss) = if is_translated_form s.body then form_row u ss else record { file = s.file; card = s.card; kind = NotBuiltYet }

unfoldable pub row_unless : Option CFile → Refusal → List Refusal
row_unless None r = r ∷ []
row_unless (Some file) r = []

unfoldable pub unit_not_translated : Options → WrittenUnit → List Refusal
unit_not_translated options u = row_unless (unit_file options u) (form_row u u.statements)

-- each unit behind the first, where it begins
unfoldable pub others_not_translated : List WrittenUnit → List Refusal
others_not_translated [] = []
others_not_translated (u ∷ us) = record { file = u.file; card = u.card; kind = NotBuiltYet } ∷ others_not_translated us

-- a file without units: F99 at card 1
unfoldable pub units_not_translated : Options → List WrittenUnit → List Refusal
units_not_translated options [] = record { file = 0; card = 1; kind = NotBuiltYet } ∷ []
units_not_translated options (u ∷ us) = unit_not_translated options u ++ others_not_translated us

-- the rows of a file, and of files
abbrev pub not_translated : Options → File → List Refusal
not_translated options tree = units_not_translated options tree.units

unfoldable pub files_not_translated : Options → List File → List Refusal
files_not_translated options [] = []
files_not_translated options (f ∷ fs) = not_translated options f ++ files_not_translated options fs

unfoldable pub translated_forms_opened : Unit {0}
unfolding stop_fits fits file_if file_by unit_file units_file is_number is_star is_plain_word layer_single is_output is_listed layer_form is_translated_form form_row row_unless unit_not_translated others_not_translated units_not_translated files_not_translated
translated_forms_opened = tt
