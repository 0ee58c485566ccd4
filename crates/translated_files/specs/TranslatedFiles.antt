-- The C files of a set of FORTRAN files of which each form is translated, and where one has another form: F99 at the first statement of a unit that has one,
-- else where the unit begins. Files are translated whose units are main programs, subroutines and functions of integers and logicals, with storage of their
-- own, which call procedures of the set, and of the statements that lowering and emission know. ANSI X3.9-1978, sections 2.4, 3.5, 4.1, 8 to 12, 14 and 15.
use Rattle.std.specs.List.{list_all, list_any}
use Rattle.std.specs.Prelude.{ℕ, suc, ◌+◌, ◌^◌, nat_lt, nat_le, ℤ, Bool, true, false, ◌&&◌, List, [], ◌∷◌, ◌++◌, map, length, Option, Some, None, option_map, option_and_then, bytes_eq, if◌then◌else◌}
use Rattle.unit_forms.specs.f_tree.declared.names.Class.{Class}
use Rattle.unit_forms.specs.f_tree.declared.names.Class.TheVariants as class
use Rattle.unit_forms.specs.f_tree.declared.names.Options.{Options}
use Rattle.unit_forms.specs.f_tree.declared.refusals.Kind.TheVariants.{NotBuiltYet}
use Rattle.unit_forms.specs.f_tree.declared.refusals.Refusal.{Refusal}
use Rattle.unit_forms.specs.f_tree.declared.statements.Body.{Body}
use Rattle.unit_forms.specs.f_tree.declared.statements.Body.TheOpen as body
use Rattle.unit_forms.specs.f_tree.declared.statements.Stmt.{Stmt}
use Rattle.unit_forms.specs.f_tree.declared.units.File.{File}
use Rattle.unit_forms.specs.f_tree.declared.units.Unit.{Unit as GivenUnit}
use Rattle.unit_forms.specs.f_tree.Values.{Bytes}
use Rattle.unit_forms.specs.f_tree.Facts.{UnitKind, MainProgram, SubroutineUnit, FunctionUnit, BlockDataUnit}
use Rattle.unit_forms.specs.f_tree.Folds.{fold_body}
use Rattle.unit_forms.specs.f_tree.Uses.{uses_of_statements}
use Rattle.unit_forms.specs.f_tree.Reading.{name_or_none}
use Rattle.unit_forms.specs.f_tree.Attributes.{arrays_of, Described, all_described}
use Rattle.unit_forms.specs.f_tree.Lines.{unit_kind, unit_read}
use Rattle.translated_forms.specs.declaration_rows.GlobalRows.{all_units}
use Rattle.translated_forms.specs.declaration_rows.NameRows.{given_names}
use Rattle.unit_forms.specs.l_core.Steps.{Text}
use Rattle.unit_forms.specs.lowering.Units.{lowered_unit}
use Rattle.unit_forms.specs.c_tree.declared.file.CFile.{CFile}
use Rattle.unit_forms.specs.faithful.Signatures.{dummy_of}
use Rattle.unit_forms.specs.main_translation.Outlined.{labels_in}
use Rattle.unit_forms.specs.OwnSetting.{own_facts}
use Rattle.unit_forms.specs.PlainProcedures.{is_plain_unit}
use Rattle.unit_forms.specs.SpellableUnits.{is_spellable_unit}
use Rattle.named_units.specs.unit_translation.UnitContents.{LoweredUnit, whole_text, temporaries_kept, constants_passed}
use Rattle.named_units.specs.unit_sites.UnitSites.{UnitsOfFile, files_of as c_files}
use Rattle.named_units.specs.unit_translation.UnitBodies.{all_lowered}
use Rattle.named_units.specs.NamedUnits.{named_body_of, named_files}
use Rattle.translated_forms.specs.LoweredForms.{statements_lower}
use Rattle.translated_forms.specs.TranslatedForms.{stop_fits, layer_form}

-- ## Units with their lowered texts

-- a lowered text that fits into memory
unfoldable pub text_fits : Text → Bool
text_fits u =
    nat_le (1 + length u.steps) (2 ^ 64) && (nat_le (1 + temporaries_kept u.steps) (2 ^ 64) && (nat_le (1 + length u.marks) (2 ^ 64)
    && (list_all (λ label. nat_lt label (2 ^ 64)) (labels_in u.steps) && list_all stop_fits u.steps)))

-- the names of the procedures of a set
unfoldable pub is_procedure : UnitKind → Bool
is_procedure MainProgram = false
is_procedure SubroutineUnit = true
is_procedure FunctionUnit = true
is_procedure BlockDataUnit = false

unfoldable pub procedure_names : List GivenUnit → List Bytes
procedure_names [] = []
procedure_names (u ∷ us) = if is_procedure (unit_kind u) then name_or_none u.name ∷ procedure_names us else procedure_names us

-- a name that stands for a procedure is that of one of the set
unfoldable pub is_defined : List Bytes → Class → Bytes → Bool
is_defined procedures class.Procedure x = list_any (bytes_eq x) procedures
is_defined procedures other x = true

unfoldable pub procedures_are_defined : List Bytes → GivenUnit → Bool
procedures_are_defined procedures u = list_all (λ (d : Described). is_defined procedures d.attribute.class d.name) (all_described u)

-- the unit is plain, its names are spelled in C, the procedures that it calls or passes are units of the set, and its statements are lowered
unfoldable pub passes_tests : Options → List Bytes → GivenUnit → Bool
passes_tests options procedures u =
    is_plain_unit options u && (is_spellable_unit (unit_read options u) && (procedures_are_defined procedures u && statements_lower (given_names u) u.statements))

-- with its lowered text
abbrev pub unit_with : Options → GivenUnit → Text → LoweredUnit
unit_with options u text = record { unit = unit_read options u; text = text; use_of = λ x. (dummy_of (uses_of_statements (arrays_of u) u.statements) (unit_read options u).attribute x).use_of }

unfoldable pub lowered_by : Options → GivenUnit → Option Text → Option LoweredUnit
lowered_by options u None = None
lowered_by options u (Some text) = if text_fits (whole_text (unit_with options u text)) then Some (unit_with options u text) else None

-- a unit among those of all files, by its number
unfoldable pub lowered_at : Options → List GivenUnit → ℕ → GivenUnit → Option LoweredUnit
lowered_at options units j u =
    if passes_tests options (procedure_names units) u then lowered_by options u (lowered_unit (own_facts (map (unit_read options) units) j (unit_read options u))) else None

unfoldable pub lowered_before : Option LoweredUnit → Option (List LoweredUnit) → Option (List LoweredUnit)
lowered_before (Some u) (Some later) = Some (u ∷ later)
lowered_before u later = None

unfoldable pub lowered_from : Options → List GivenUnit → ℕ → List GivenUnit → Option (List LoweredUnit)
lowered_from options units j [] = Some []
lowered_from options units j (u ∷ later) = lowered_before (lowered_at options units j u) (lowered_from options units (suc j) later)

-- the units of a file before those of others
unfoldable pub files_before : Option (List LoweredUnit) → Option (List (List LoweredUnit)) → Option (List (List LoweredUnit))
files_before (Some us) (Some later) = Some (us ∷ later)
files_before us later = None

-- the units of each file, whose numbers among all begin at one
unfoldable pub lowered_files : Options → List GivenUnit → ℕ → List File → Option (List (List LoweredUnit))
lowered_files options units j [] = Some []
lowered_files options units j (f ∷ fs) = files_before (lowered_from options units j f.units) (lowered_files options units (j + length f.units) fs)

-- ## The C files

unfoldable pub has_units : List GivenUnit → Bool
has_units [] = false
has_units (u ∷ later) = true

-- each file has a unit
unfoldable pub each_has_units : List File → Bool
each_has_units fs = list_all (λ (f : File). has_units f.units) fs

unfoldable pub made_files : Options → List File → Option (List UnitsOfFile)
made_files options fs = if each_has_units fs then option_and_then named_files (lowered_files options (all_units fs) 0 fs) else None

-- one for each file, in their order
unfoldable pub files_of : Options → List File → Option (List CFile)
files_of options fs = option_map c_files (made_files options fs)

-- ## Statements by their form

-- one layer of a statement, given whether the statement of a logical IF is of such a form: calls and returns besides those of main programs
unfoldable pub layer_unit_form : body.Body-F Bool → Bool
layer_unit_form (body.Call x es) = true
layer_unit_form (body.Return e) = true
layer_unit_form b = layer_form b

unfoldable pub is_translated_form : Body → Bool
is_translated_form b = fold_body layer_unit_form b

-- ## Rows

-- F99 at the first statement of another form, else where the unit begins
unfoldable pub form_row : GivenUnit → List Stmt → Refusal
form_row u [] = record { file = u.file; card = u.card; kind = NotBuiltYet }
form_row u (s ∷ ss) = if is_translated_form s.body then form_row u ss else record { file = s.file; card = s.card; kind = NotBuiltYet }

unfoldable pub row_unless : {A : Type 0} → Option A → Refusal → List Refusal
row_unless None r = r ∷ []
row_unless (Some a) r = []

-- the units that are not lowered
unfoldable pub rows_of_lowering : Options → List GivenUnit → ℕ → List GivenUnit → List Refusal
rows_of_lowering options units j [] = []
rows_of_lowering options units j (u ∷ later) = row_unless (lowered_at options units j u) (form_row u u.statements) ++ rows_of_lowering options units (suc j) later

-- and where all are, those whose functions are not made, given the constants of their file and the units of all files
unfoldable pub rows_of_bodies : List ℤ → List LoweredUnit → List LoweredUnit → List GivenUnit → List Refusal
rows_of_bodies constants all (lowered ∷ ls) (u ∷ later) = row_unless (named_body_of constants all lowered) (form_row u u.statements) ++ rows_of_bodies constants all ls later
rows_of_bodies constants all ls later = []

unfoldable pub rows_of_files : List LoweredUnit → List (List LoweredUnit) → List File → List Refusal
rows_of_files all (us ∷ lfs) (f ∷ fs) = rows_of_bodies (constants_passed us) all us f.units ++ rows_of_files all lfs fs
rows_of_files all lfs fs = []

unfoldable pub rows_behind : Option (List (List LoweredUnit)) → List Refusal → List File → List Refusal
rows_behind None rows fs = rows
rows_behind (Some lfs) rows fs = rows_of_files (all_lowered lfs) lfs fs

unfoldable pub units_not_translated : Options → List File → List Refusal
units_not_translated options fs = rows_behind (lowered_files options (all_units fs) 0 fs) (rows_of_lowering options (all_units fs) 0 (all_units fs)) fs

-- a file without units, by its number: F99 at card 1
unfoldable pub row_of_none : ℕ → List GivenUnit → List Refusal
row_of_none k [] = record { file = k; card = 1; kind = NotBuiltYet } ∷ []
row_of_none k (u ∷ later) = []

unfoldable pub files_without_units : ℕ → List File → List Refusal
files_without_units k [] = []
files_without_units k (f ∷ fs) = row_of_none k f.units ++ files_without_units (suc k) fs

-- the rows of the files of a set
unfoldable pub files_not_translated : Options → List File → List Refusal
files_not_translated options fs = files_without_units 0 fs ++ units_not_translated options fs

unfoldable pub translated_files_opened : Unit {0}
unfolding text_fits is_procedure procedure_names is_defined procedures_are_defined passes_tests lowered_by lowered_at lowered_before lowered_from files_before lowered_files has_units each_has_units made_files files_of layer_unit_form is_translated_form form_row row_unless rows_of_lowering rows_of_bodies rows_of_files rows_behind units_not_translated row_of_none files_without_units files_not_translated
translated_files_opened = tt
