-- The procedures of a unit that are seen by a table of its names are those of the unit.
use Rattle.std.specs.Prelude.{◌≡◌, List, [], ◌∷◌, ◌++◌, map, Option, Some, None}
use Rattle.std.proofs.Common.{refl, sym, ap, ◌∙◌, append_assoc}
use Rattle.std.proofs.Math.Path.{fun_ext}
use Rattle.std.proofs.lemmas.List.{append-nil}
use Rattle.f_tree.specs.declared.names.Basic.{Basic}
use Rattle.f_tree.specs.declared.names.Class.{Class}
use Rattle.f_tree.specs.declared.names.Class.TheVariants as class
use Rattle.f_tree.specs.declared.statements.Body.{Body, Entry, IfOne', more_of-Body}
use Rattle.f_tree.specs.declared.statements.Body.TheVariants as variant
use Rattle.f_tree.specs.declared.statements.Body.TheOpen as body
use Rattle.f_tree.specs.declared.statements.DummyArgument.{DummyArgument}
use Rattle.f_tree.specs.declared.statements.DummyArgument.TheVariants as dummy
use Rattle.f_tree.specs.declared.statements.UnitKind.{UnitKind}
use Rattle.f_tree.specs.declared.statements.UnitKind.TheVariants as kind
use Rattle.f_tree.specs.declared.statements.Stmt.{Stmt}
use Rattle.f_tree.specs.declared.units.Unit.{Unit as WrittenUnit}
use Rattle.f_tree.specs.declared.units.File.{File}
use Rattle.f_tree.specs.Folds.{layer_of}
use Rattle.f_tree.specs.Values.{Bytes}
use Rattle.f_tree.specs.Facts.{Attribute}
use Rattle.f_tree.specs.Attributes.{from_all}
use Rattle.call_shapes.specs.declaration_rows.GlobalRows.{all_units}
use Rattle.call_shapes.specs.declaration_rows.NameRows.{given_names, known_in}
use Rattle.expression_judge.specs.declared.names.Names.{Names}
use Rattle.expression_judge.specs.SeenNames.{fact_in, AreSeen}
use Rattle.call_shapes.specs.declared.shapes.Argument.{Argument}
use Rattle.call_shapes.specs.declared.shapes.Argument.TheVariants.{Procedure}
use Rattle.call_shapes.specs.declared.shapes.NamedShape.{NamedShape}
use Rattle.call_shapes.specs.declared.shapes.ShapeResult.TheVariants.{Subroutine, Function}
use Rattle.call_shapes.specs.ProcedureShapes.{argument_of_type, argument_of_name, dummy_argument, result_of, shaped, procedure_of, own_procedure, entry_procedure, unit_procedures, procedures_of}
use Rattle.call_check.specs.ProceduresSeen.{argument_by_class, seen_dummy, result_by_kind, seen_procedure, seen_own, seen_entry, seen_procedures}

class_is : (c : Class) (basic : Basic) → argument_by_class c basic ≡ elim c [ class.DummyProcedure ↦ Procedure | _ ↦ argument_of_type basic ]
unfolding argument_by_class
class_is class.Constant basic = refl
class_is class.Stored basic = refl
class_is class.Dummy basic = refl
class_is class.Result basic = refl
class_is class.Procedure basic = refl
class_is class.DummyProcedure basic = refl
class_is class.StatementFunction basic = refl
class_is class.Intrinsic basic = refl
class_is class.Unit basic = refl

name_is : (a : Attribute) → argument_by_class a.class a.basic ≡ argument_of_name a
unfolding argument_of_name
name_is a = class_is a.class a.basic

kind_is : (k : UnitKind) (basic : Basic) → result_by_kind k basic ≡ elim k [ kind.Subroutine ↦ Some Subroutine | kind.Function spec ↦ Some (Function basic) | _ ↦ None ]
unfolding result_by_kind
kind_is kind.Main basic = refl
kind_is kind.Subroutine basic = refl
kind_is (kind.Function spec) basic = refl
kind_is kind.BlockData basic = refl

result_is : (u : WrittenUnit) (x : Bytes) → result_by_kind u.kind (given_names u x).basic ≡ result_of u x
unfolding result_of
result_is u x = kind_is u.kind (given_names u x).basic

abbrev entry_by : (Bytes → List DummyArgument → List NamedShape) → Body → List NamedShape
entry_by f b = elim (layer_of b) [ body.Entry x dummies ↦ f x dummies | _ ↦ [] ]

module _ (u : WrittenUnit) (names : Names) (agree : AreSeen (known_in u) names) where
  class_seen : (x : Bytes) → (fact_in names x).class ≡ (given_names u x).class
  unfolding known_in
  class_seen x = (agree.facts x).class

  basic_seen : (x : Bytes) → (fact_in names x).basic ≡ (given_names u x).basic
  unfolding known_in
  basic_seen x = (agree.facts x).basic

  dummy_seen : (d : DummyArgument) → seen_dummy names d ≡ dummy_argument u d
  unfolding seen_dummy dummy_argument
  dummy_seen (dummy.Named x) =
      ap (λ (c : Class). argument_by_class c (fact_in names x).basic) (class_seen x) ∙ ap (λ (b : Basic). argument_by_class (given_names u x).class b) (basic_seen x)
      ∙ name_is (given_names u x)
  dummy_seen dummy.AlternateReturn = refl

  procedure_seen : (x : Bytes) (ds : List DummyArgument) → seen_procedure names u.kind x ds ≡ procedure_of u x ds
  unfolding seen_procedure procedure_of
  procedure_seen x ds =
      ap (λ (f : DummyArgument → Argument). shaped x (map f ds) (result_by_kind u.kind (fact_in names x).basic)) (fun_ext dummy_seen)
      ∙ ap (shaped x (map (dummy_argument u) ds)) (ap (result_by_kind u.kind) (basic_seen x) ∙ result_is u x)

  own_seen : (o : Option Bytes) → seen_own names u.kind u.dummies o ≡ own_procedure u o
  unfolding seen_own own_procedure
  own_seen None = refl
  own_seen (Some x) = procedure_seen x u.dummies

  entry_seen : (b : Body) → seen_entry names u.kind b ≡ entry_procedure u b
  unfolding seen_entry entry_procedure
  entry_seen b =
      ap (λ (f : Bytes → List DummyArgument → List NamedShape). entry_by f b) (fun_ext λ x. fun_ext λ ds. procedure_seen x ds)

  pub procedures_seen : seen_procedures names u ≡ unit_procedures u
  unfolding seen_procedures unit_procedures
  procedures_seen =
      ap (λ (ps : List NamedShape). ps ++ from_all (seen_entry names u.kind) u.statements) (own_seen u.name)
      ∙ ap (λ (f : Body → List NamedShape). own_procedure u u.name ++ from_all f u.statements) (fun_ext entry_seen)

-- a statement that is no ENTRY statement
entry_none : (names : Names) (k : UnitKind) (b : Body) → ((x : Bytes) (ds : List DummyArgument) → b ≡ variant.Entry x ds → ⊥) → seen_entry names k b ≡ []
unfolding seen_entry layer_of
entry_none names k (Entry x ds) other = absurd (other x ds refl)
entry_none names k (IfOne' e s (more_of-Body b r)) other = refl
entry_none names k _ other = refl

pub no_entry : (names : Names) (k : UnitKind) (b : Body) (done : List NamedShape) → ((x : Bytes) (ds : List DummyArgument) → b ≡ variant.Entry x ds → ⊥)
    → done ≡ done ++ seen_entry names k b
no_entry names k b done other = sym (append-nil done) ∙ ap (λ (ps : List NamedShape). done ++ ps) (sym (entry_none names k b other))

-- LISTS of statements, of units and of files
pub entries_step : (f : Body → List NamedShape) (s : Stmt) (ss : List Stmt) → from_all f (s ∷ ss) ≡ f s.body ++ from_all f ss
unfolding from_all
entries_step f s ss = refl

pub entries_end : (f : Body → List NamedShape) → from_all f [] ≡ []
unfolding from_all
entries_end f = refl

pub units_step : (u : WrittenUnit) (us : List WrittenUnit) → procedures_of (u ∷ us) ≡ unit_procedures u ++ procedures_of us
unfolding procedures_of
units_step u us = refl

pub units_end : procedures_of [] ≡ []
unfolding procedures_of
units_end = refl

both_units : (us vs : List WrittenUnit) → procedures_of (us ++ vs) ≡ procedures_of us ++ procedures_of vs
unfolding procedures_of
both_units [] vs = refl
both_units (u ∷ us) vs = ap (λ (ps : List NamedShape). unit_procedures u ++ ps) (both_units us vs) ∙ sym (append_assoc (unit_procedures u) (procedures_of us) (procedures_of vs))

pub files_step : (f : File) (fs : List File) → procedures_of (all_units (f ∷ fs)) ≡ procedures_of f.units ++ procedures_of (all_units fs)
unfolding all_units
files_step f fs = both_units f.units (all_units fs)

pub files_end : procedures_of (all_units []) ≡ []
unfolding all_units procedures_of
files_end = refl
