-- A call at a step of a run that disagrees with the procedure that it calls: in the kind of the procedure, in the type of its result, or in the
-- number of its arguments or the kind or type of one. ANSI X3.9-1978, sections 15.5.2.2 (references to functions), 15.6.2.2 (CALL) and 15.9.3.
use Rattle.std.specs.Prelude.{◌≡◌, ℕ, nat_le, Bool, true, false, not, ◌||◌, List, [], ◌∷◌, Option, Some, None, slice_get, IsTrue}
use Rattle.fortran_totality.specs.f_tree.declared.names.Class.TheVariants as class
use Rattle.fortran_totality.specs.f_tree.simulation.Machine.{Calls, Refused, Frame as Active, Runs}
use Rattle.fortran_totality.specs.f_tree.Values.{Bytes, Datum, IsSpot, IsProc, IsLabel, Disagreement}
use Rattle.fortran_totality.specs.f_tree.Terms.{Wanted, AsSubroutine, AsFunction, Terms}
use Rattle.fortran_totality.specs.f_tree.Facts.{Attribute, Formal, Named, Alternate, UnitKind, SubroutineUnit, FunctionUnit, EntryPoint, Head, ToCall, Passes, On, ProgramUnit, Facts}
use Rattle.fortran_totality.specs.f_tree.Attributes.{is_not_empty}
use Rattle.fortran_totality.specs.f_tree.Valuing.{Red, Valued, Asks, reduce_all}
use Rattle.fortran_totality.specs.f_tree.World.{World, View, Doing, Procedure, Passed, fortran_sorts}
use Rattle.fortran_totality.specs.f_tree.Association.{entry_of, same_basic, same_width, start}
use Rattle.fortran_totality.specs.f_tree.Step.{step}
use Rattle.fortran_totality.specs.f_tree.Setting.{Setting, IsIn}
use Rattle.fortran_totality.specs.f_tree.Meaning.{RunState, found_from, facts_at}
use Rattle.fortran_totality.specs.f_tree.WellFormed.{IsWellFormed, is_dummy}

-- CALL wants a subroutine, and a reference to a function a function of its type (15.6.2.2, 15.5.2.2)
unfoldable pub result_differs : UnitKind → Attribute → Wanted → Bool
result_differs SubroutineUnit a AsSubroutine = false
result_differs FunctionUnit a (AsFunction basic width) = not (same_basic a.basic basic)
result_differs _ a want = true

-- a dummy variable or array wants a place or a value of its type, a dummy procedure a procedure (15.9.3.1 to 15.9.3.4)
unfoldable pub argument_differs : Attribute → Datum → Bool
argument_differs a (IsSpot p) = elim a.class [ class.Dummy ↦ not (same_basic a.basic p.basic) | class.DummyProcedure ↦ true | _ ↦ false ]
argument_differs a (IsProc x) = elim a.class [ class.Dummy ↦ true | _ ↦ false ]
argument_differs a _ = true

-- and an asterisk wants the label of an alternate return (15.9.3.5)
unfoldable pub formal_differs : ProgramUnit → Formal → Datum → Bool
formal_differs u (Named x) d = argument_differs (u.attribute x) d
formal_differs u Alternate (IsLabel label) = false
formal_differs u Alternate _ = true

-- as many actual arguments as dummy arguments, each as its dummy argument wants it (15.9.3)
unfoldable pub arguments_differ : ProgramUnit → List Formal → List Datum → Bool
arguments_differ u [] [] = false
arguments_differ u (formal ∷ formals) (d ∷ ds) = formal_differs u formal d || arguments_differ u formals ds
arguments_differ u _ _ = true

-- does a call differ from an entry of a unit
unfoldable pub differs : ProgramUnit → EntryPoint → Wanted → List Datum → Bool
differs u e want actuals = result_differs u.kind (u.attribute e.name) want || arguments_differ u e.formals actuals

-- the subroutine, function or entry that a set has by a name (15.5, 15.6, 15.7)
pub record IsProcedure (S : List ProgramUnit) (x : Bytes) : Type 0 where
  pub is_name : IsTrue (is_not_empty x)
  pub place : ℕ
  pub found : found_from 0 S (Procedure x) ≡ Some place
  pub unit : ProgramUnit
  pub unit_is : slice_get S place ≡ Some unit
  pub entry : EntryPoint
  pub entry_is : entry_of unit.kind unit.entries (Procedure x) ≡ Some entry

-- the name by which a step calls a procedure: that of CALL, or that of the reference which its operands have come to
unfoldable pub name_of_call : Head → Red (List Datum) Terms → Option Bytes
name_of_call head (Asks callee ds rest) = Some callee.name
name_of_call (ToCall x) (Valued ds) = Some x
name_of_call head _ = None

unfoldable pub name_called : Facts → View → World → Option Bytes
name_called c v w = elim v.now [
  | Doing form ↦ (elim form [ On head operands ↦ name_of_call head (reduce_all c v.frame w.store [] operands) | Passes ↦ None ])
  | _ ↦ None
]

-- The next step of a unit calls a procedure of the set by a name that is no dummy procedure, and the call differs from it.
pub record CallsAmiss (S : List ProgramUnit) (c : Facts) (v : View) (w : World) : Type 0 where
  pub name : Bytes
  pub named : name_called c v w ≡ Some name
  pub direct : (c.program.attribute name).class ≡ class.DummyProcedure → ⊥
  pub procedure : IsProcedure S name
  pub waiting : View
  pub ready : World
  pub passed : Passed
  pub calls : step c v w ≡ Calls waiting ready (Procedure name) passed
  pub amiss : differs procedure.unit procedure.entry passed.want passed.actuals ≡ true

pub data IsMismatched (g : Setting) (S : List ProgramUnit) : RunState → Type 0 where
  at_call : (k : ℕ) (v : View) (below : List (Active fortran_sorts)) (w : World) → CallsAmiss S (facts_at g k (slice_get S k)) v w →
      IsMismatched g S (Runs k v below w)

-- A LENGTH is no kind and no type: a character function of another length than is wanted (15.5.2.2), and a dummy argument of which one element is longer
-- than the actual argument (15.9.3.1)
unfoldable pub longer_than : Option ℕ → Datum → Bool
longer_than (Some n) (IsSpot p) = not (nat_le n p.width)
longer_than width d = false

unfoldable pub any_longer : ProgramUnit → List Formal → List Datum → Bool
any_longer u (Named x ∷ formals) (d ∷ ds) = longer_than (u.attribute x).width d || any_longer u formals ds
any_longer u (Alternate ∷ formals) (d ∷ ds) = any_longer u formals ds
any_longer u _ _ = false

unfoldable pub result_length_differs : Attribute → Wanted → Bool
result_length_differs a (AsFunction basic width) = not (same_width basic a.width width)
result_length_differs a AsSubroutine = false

unfoldable pub length_differs : ProgramUnit → EntryPoint → Wanted → List Datum → Bool
length_differs u e want actuals = result_length_differs (u.attribute e.name) want || any_longer u e.formals actuals

-- A subroutine or function that refuses its call because it disagrees differs from it, or a length does.
abbrev pub EachRefusedCallDiffers : Type 0
EachRefusedCallDiffers = (c : Facts) (least : ℕ) (name : Bytes) (passed : Passed) (w : World) (e : EntryPoint) → IsWellFormed c least →
    entry_of c.program.kind c.program.entries (Procedure name) ≡ Some e →
    ((x : Bytes) → IsIn (Named x) e.formals → IsTrue (is_dummy (c.program.attribute x).class)) →
    start c (Procedure name) passed w ≡ Refused Disagreement →
    (differs c.program e passed.want passed.actuals || length_differs c.program e passed.want passed.actuals) ≡ true

unfoldable pub mismatches_opened : Unit {0}
unfolding result_differs argument_differs formal_differs arguments_differ differs name_of_call name_called longer_than any_longer result_length_differs length_differs
mismatches_opened = tt
