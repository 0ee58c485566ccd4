-- Where the calls of a set are checked and none is found to disagree, no call of a run by a direct name disagrees with a procedure of the set in kind,
-- number or type. ANSI X3.9-1978, sections 15.5.2.2, 15.6.2.2 and 15.9.3.
use Rattle.std.specs.Prelude.{◌≡◌, ℕ, true, List, [], Some, slice_get}
use Rattle.call_shapes.specs.f_tree.declared.names.Options.{Options}
use Rattle.call_shapes.specs.f_tree.declared.statements.Stmt.{Stmt}
use Rattle.call_shapes.specs.f_tree.declared.units.File.{File}
use Rattle.call_shapes.specs.f_tree.declared.units.FileSet.{FileSet}
use Rattle.call_shapes.specs.f_tree.declared.units.Unit.{Unit as WrittenUnit}
use Rattle.call_shapes.specs.f_tree.run_state.Units.{Units}
use Rattle.call_shapes.specs.f_tree.declared.names.Class.TheVariants as class
use Rattle.call_shapes.specs.f_tree.simulation.Machine.{Calls, Refused, Frame as Active, Runs}
use Rattle.call_shapes.specs.f_tree.Values.{Bytes, Disagreement}
use Rattle.call_shapes.specs.f_tree.Facts.{ProgramUnit, Facts}
use Rattle.call_shapes.specs.f_tree.World.{World, View, Procedure, Passed, fortran_sorts}
use Rattle.call_shapes.specs.f_tree.Association.{start}
use Rattle.call_shapes.specs.f_tree.Step.{step}
use Rattle.call_shapes.specs.f_tree.Setting.{Setting, IsSetting, IsIn}
use Rattle.call_shapes.specs.f_tree.Meaning.{units_of, facts_at, ftn}
use Rattle.call_shapes.specs.declaration_rows.GlobalRows.{all_units}
use Rattle.call_shapes.specs.declaration_rows.SetRows.{set_faults}
use Rattle.call_shapes.specs.declared.shapes.NamedShape.{NamedShape}
use Rattle.call_shapes.specs.Disagreements.{disagreeing}
use Rattle.agreeing_runs.specs.Mismatches.{name_called, IsProcedure, IsMismatched, length_differs}

-- a card of a file has one initial line, so a statement that stands in a unit once more, by INCLUDE, is the same statement (3.2)
abbrev pub HasOneStatementToACard : List File → Type 0
HasOneStatementToACard files = (u : WrittenUnit) → IsIn u (all_units files) → (s t : Stmt) → IsIn s u.statements → IsIn t u.statements → s.file ≡ t.file →
    s.card ≡ t.card → s.body ≡ t.body

abbrev pub EachCheckedRunAgrees : Type 0
EachCheckedRunAgrees = (options : Options) (set : FileSet) (lines : List NamedShape) (g : Setting) (units : Units) (n : ℕ) → set_faults options set ≡ [] →
    HasOneStatementToACard set.files → disagreeing set.files lines ≡ [] → IsSetting (units_of options set) g →
    IsMismatched g (units_of options set) (ftn g (units_of options set) units n) → ⊥

-- The next step of a unit calls a procedure of the set by a name that is no dummy procedure, and the procedure refuses because the call disagrees.
pub record IsRefused (g : Setting) (S : List ProgramUnit) (c : Facts) (v : View) (w : World) : Type 0 where
  pub name : Bytes
  pub named : name_called c v w ≡ Some name
  pub direct : (c.program.attribute name).class ≡ class.DummyProcedure → ⊥
  pub procedure : IsProcedure S name
  pub waiting : View
  pub ready : World
  pub passed : Passed
  pub calls : step c v w ≡ Calls waiting ready (Procedure name) passed
  pub refuses : start (facts_at g procedure.place (Some procedure.unit)) (Procedure name) passed ready ≡ Refused Disagreement

-- It refuses because of a length alone.
abbrev pub EachRefusalIsOfLength : Type 0
EachRefusalIsOfLength = (options : Options) (set : FileSet) (lines : List NamedShape) (g : Setting) (units : Units) (n : ℕ) (k : ℕ) (v : View)
    (below : List (Active fortran_sorts)) (w : World) → set_faults options set ≡ [] → HasOneStatementToACard set.files → disagreeing set.files lines ≡ [] →
    IsSetting (units_of options set) g → ftn g (units_of options set) units n ≡ Runs k v below w →
    (r : IsRefused g (units_of options set) (facts_at g k (slice_get (units_of options set) k)) v w) →
    length_differs r.procedure.unit r.procedure.entry r.passed.want r.passed.actuals ≡ true
