-- What is answered for a unit: whether it is translated, its heading, its lowered text where it has one, and all of it. ANSI X3.9-1978, sections 2.4, 3.5,
-- 15.5 to 15.9 and 18; C89, 3.1.2 and 3.7.
use Rattle.std.specs.List.{flat_map}
use Rattle.std.specs.Prelude.{◌≡◌, ℕ, Bool, true, false, ◌&&◌, List, [], ◌∷◌, map, Option, Some, None, if◌then◌else◌}
use Rattle.f_tree.specs.declared.names.Options.{Options}
use Rattle.f_tree.specs.declared.statements.DummyArgument.{DummyArgument}
use Rattle.f_tree.specs.declared.statements.DummyArgument.TheVariants as dummy
use Rattle.f_tree.specs.declared.statements.Stmt.{Stmt}
use Rattle.f_tree.specs.declared.units.Unit.{Unit as GivenUnit}
use Rattle.f_tree.specs.Values.{Bytes}
use Rattle.f_tree.specs.CNames.{DummyUse}
use Rattle.f_tree.specs.Uses.{uses_of_statements}
use Rattle.f_tree.specs.Reading.{name_or_none}
use Rattle.f_tree.specs.Attributes.{arrays_of, named_dummies}
use Rattle.f_tree.specs.Lines.{unit_kind, unit_read}
use Rattle.declaration_rows.specs.NameRows.{all_names, given_names}
use Rattle.lowered_tree.specs.l_core.Pures.{Pure}
use Rattle.lowered_tree.specs.l_core.Steps.{Text}
use Rattle.c_tree.specs.declared.types.ParameterType.{ParameterType}
use Rattle.c_tree.specs.Tokens.{begins_with, is_letter}
use Rattle.faithful.specs.Signatures.{dummy_of}
use Rattle.lowered_text.specs.declared.text.LoweredText.{LoweredText}
use Rattle.lowered_text.specs.Texts.{IsText}
use Rattle.name_facts.specs.declared.table.NameFacts.{NameFacts}
use Rattle.unit_lowering.specs.statement_places.StatementPlaces.{statements_lower}
use Rattle.unit_translation.specs.unit_file.UnitFile.{Parameter, BoundKind, KeptBound}
use Rattle.unit_forms.specs.PlainProcedures.{may_run, is_plain_unit}
use Rattle.unit_forms.specs.SpellableUnits.{is_spellable_unit}
use Rattle.unit_lowering.specs.LoweredUnits.{IsLoweredUnit}
use Rattle.unit_contents.specs.ContentsOf.{AreContentsOf}
use Rattle.unit_translation.specs.behind_bounds.BehindBounds.{behind}
use Rattle.unit_translation.specs.UnitBounds.{array_kept}
use Rattle.unit_translation.specs.UnitContents.{LoweredUnit, whole_text, parameter_for}
use Rattle.unit_writer.specs.declared.heading.Heading.{Heading}
use Rattle.unit_writer.specs.ToldUnits.{kind_told, dummy_told, bound_told, IsToldUnit}
use Rattle.translated_files.specs.TranslatedFiles.{is_procedure, procedure_names, procedures_are_defined, lowered_at}
use Rattle.translator.specs.declared.unit.NamedUnit.{NamedUnit}
use Rattle.translator.specs.declared.unit.PlainUnit.{PlainUnit}
use Rattle.translator.specs.FittingSteps.{FitsIf}

-- ## Names

-- the name of a unit, if it is a procedure
unfoldable pub own_procedure : GivenUnit → List Bytes
own_procedure u = if is_procedure (unit_kind u) then name_or_none u.name ∷ [] else []

unfoldable pub dummy_is_spelled : DummyArgument → Bool
dummy_is_spelled (dummy.Named x) = begins_with is_letter x
dummy_is_spelled dummy.AlternateReturn = true

-- whether a unit is plain, its names are spelled in C, and its procedures are those of the set
pub record IsPlainIf (procedures : List Bytes) (u : GivenUnit) (b : Bool) : Type 0 where
  pub is : (options : Options) → b ≡ (is_plain_unit options u && (is_spellable_unit (unit_read options u) && procedures_are_defined procedures u))

-- ## The heading

-- what a dummy stands for by its uses
unfoldable pub use_in : GivenUnit → Bytes → DummyUse
use_in u x = (dummy_of (uses_of_statements (arrays_of u) u.statements) (given_names u) x).use_of

abbrev pub parameter_in : GivenUnit → Bytes → ParameterType
parameter_in u x = parameter_for (use_in u x)

abbrev pub dummy_in : GivenUnit → Bytes → Parameter
dummy_in u x = record { name = x; type = parameter_in u x }

-- a bound of an array, where it has a pure value
unfoldable pub kept_if : Bytes → ℕ → BoundKind → Option Pure → List KeptBound
kept_if x k kind None = []
kept_if x k kind (Some p) = record { dummy = x; place = k; kind = kind; value = p } ∷ []

-- what is kept of the arrays among dummies
unfoldable pub kept_among : GivenUnit → List DummyArgument → List KeptBound
kept_among u ds = flat_map (λ x. array_kept x (given_names u x)) (named_dummies ds)

pub record IsHeading (u : GivenUnit) (heading : Heading) : Type 0 where
  pub role : may_run (unit_kind u) ≡ true → unit_kind u ≡ kind_told heading.role
  pub name : heading.name.now ≡ name_or_none u.name
  pub dummies : map dummy_told heading.dummies.items ≡ map (dummy_in u) (named_dummies u.dummies)
  pub bounds : map bound_told heading.bounds.items ≡ kept_among u u.dummies

-- the names of a unit in their order, and its heading
pub record IsNamed (u : GivenUnit) (named : NamedUnit) : Type 0 where
  pub names : map (λ name. name.now) named.names.items ≡ all_names u
  pub heading : IsHeading u named.heading

-- ## The lowered text

-- the lowered text of statements, and none where one is not lowered
unfoldable pub IsLoweredIf : NameFacts → Bool → List Stmt → Option LoweredText → Type 0
IsLoweredIf table once ss None = statements_lower table ss ≡ false
IsLoweredIf table once ss (Some t) = IsLoweredUnit table once ss t

-- a text that fits, and none where it does not
pub record IsFitting (t other : LoweredText) : Type 0 where
  pub same : other ≡ t
  pub fits : FitsIf t true

unfoldable pub IsFittingIf : LoweredText → Option LoweredText → Type 0
IsFittingIf t None = FitsIf t false
IsFittingIf t (Some other) = IsFitting t other

-- a text behind so many steps, if that fits, and none where it does not
pub record IsWholeIf (first : ℕ) (t : LoweredText) (found : Option LoweredText) : Type 0 where
  pub whole : LoweredText
  pub is : (u : Text) → IsText t u → IsText whole (behind first u)
  pub fitting : IsFittingIf whole found

abbrev pub unit_by : Options → GivenUnit → Text → LoweredUnit
unit_by options u text = record { unit = unit_read options u; text = text; use_of = use_in u }

-- among the units of a set, whatever its number, this is the text of a unit, behind what the unit keeps of its dummy arrays
pub record IsTextAt (options : Options) (u : GivenUnit) (t : LoweredText) (o : Option LoweredUnit) : Type 0 where
  pub plain : is_plain_unit options u ≡ true
  pub text : Text
  pub found : o ≡ Some (unit_by options u text)
  pub is : IsText t (whole_text (unit_by options u text))
  pub program : text.facts.program ≡ unit_read options u

unfoldable pub IsTextIf : Options → List Bytes → GivenUnit → Option LoweredText → Type 0
IsTextIf options procedures u None = (units : List GivenUnit) (j : ℕ) → procedure_names units ≡ procedures → lowered_at options units j u ≡ None
IsTextIf options procedures u (Some t) = (units : List GivenUnit) (j : ℕ) → procedure_names units ≡ procedures → IsTextAt options u t (lowered_at options units j u)

-- ## The whole

-- what the function of a unit is written from tells what the unit is
pub record IsToldAs (lowered : LoweredUnit) (plain : PlainUnit) : Type 0 where
  pub program : lowered.text.facts.program ≡ lowered.unit
  pub told : IsToldUnit plain.table (map (λ name. name.now) plain.names.items) plain.heading lowered
  pub text : IsText plain.text (whole_text lowered)
  pub contents : AreContentsOf plain.table plain.text plain.contents

pub record IsUnitAt (u : GivenUnit) (plain : PlainUnit) (o : Option LoweredUnit) : Type 0 where
  pub lowered : LoweredUnit
  pub found : o ≡ Some lowered
  pub told : IsToldAs lowered plain
  pub given : plain.unit.now ≡ u

unfoldable pub IsUnitIf : Options → List Bytes → GivenUnit → Option PlainUnit → Type 0
IsUnitIf options procedures u None = (units : List GivenUnit) (j : ℕ) → procedure_names units ≡ procedures → lowered_at options units j u ≡ None
IsUnitIf options procedures u (Some plain) = (units : List GivenUnit) (j : ℕ) → procedure_names units ≡ procedures → IsUnitAt u plain (lowered_at options units j u)

unfoldable pub unit_files_opened : Unit {0}
unfolding own_procedure dummy_is_spelled use_in kept_if kept_among IsLoweredIf IsFittingIf IsTextIf IsUnitIf
unit_files_opened = tt
