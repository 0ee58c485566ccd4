-- How a procedure with one entry begins.
use Rattle.std.specs.Prelude.{◌≡◌, ℕ, Bool, true, false, List, [], ◌∷◌, length, bytes_eq, Option, Some, None, if◌then◌else◌}
use Rattle.std.proofs.Common.{refl, sym, ap, ◌∙◌}
use Rattle.procedure_emission.specs.simulation.Machine.{Entry, Enters, Refused}
use Rattle.procedure_emission.specs.f_tree.Values.{Disagreement, Checked, Gives, Fails}
use Rattle.procedure_emission.specs.f_tree.Facts.{Bounds, UnitKind, MainProgram, SubroutineUnit, FunctionUnit, BlockDataUnit, EntryPoint, ProgramUnit, Facts, Frame}
use Rattle.procedure_emission.specs.f_tree.World as fortran
use Rattle.procedure_emission.specs.f_tree.World.{World, Turning, Doing, Waits, Returning, Called, TheMain, Procedure, Passed, fortran_sorts, entered}
use Rattle.procedure_emission.specs.f_tree.Places.{Landing, at_range_end, landed, arrived}
use Rattle.procedure_emission.specs.f_tree.Association.{Bindings, bounds_for, bind_all, all_dimensions_by, result_of, with_result, frame_of, begun_with, begun_bound, begun_at, entry_of, serves, start}

-- ## The view

view_in : fortran.View → Checked fortran.View → fortran.View
view_in v (Gives x) = x
view_in v (Fails act) = v

landed_frame : (u : ProgramUnit) (f : Frame) (x : Checked Landing) (v : fortran.View) → landed u f [] x ≡ Gives v → v.frame ≡ f
unfolding landed at_range_end view_in
landed_frame u f (Fails act) v e = absurd (cc)
landed_frame u f (Gives l) v e = by l.now e
  where
    by : (now : fortran.Now) → (elim now [ Turning ↦ at_range_end u f [] l.at | _ ↦ Gives (record { frame = f; at = l.at; now = l.now; loops = [] }) ]) ≡ Gives v → v.frame ≡ f
    by Turning h = absurd (cc)
    by (Doing form) h = sym (ap (λ y. (view_in v y).frame) h)
    by (Waits height rest) h = sym (ap (λ y. (view_in v y).frame) h)
    by (Returning height) h = sym (ap (λ y. (view_in v y).frame) h)

arrived_frame : (u : ProgramUnit) (f : Frame) (i : ℕ) (v : fortran.View) → arrived u f [] i ≡ Gives v → v.frame ≡ f
unfolding arrived
arrived_frame u f i v e = landed_frame u f _ v e

record IsEntered (x : Checked fortran.View) (w w' : World) (v : fortran.View) : Type 0 where
  view : x ≡ Gives v
  world : w' ≡ w

view_entered : fortran.View → Entry fortran_sorts → fortran.View
view_entered v (Enters x w) = x
view_entered v (Refused act) = v

world_entered : World → Entry fortran_sorts → World
world_entered w (Enters x now) = now
world_entered w (Refused act) = w

entered_by : (x : Checked fortran.View) (w w' : World) (v : fortran.View) → entered x w ≡ Enters v w' → IsEntered x w w' v
unfolding entered view_entered world_entered
entered_by (Gives y) w w' v e = record { view = ap (λ z. Gives (view_entered v z)) e; world = sym (ap (world_entered w') e) }
entered_by (Fails act) w w' v e = absurd (cc)

-- ## The begin

-- the frame at the begin, before dimensions are fixed
abbrev pub first_frame : Facts → EntryPoint → Passed → World → Bindings → Frame
first_frame c only a w bindings = frame_of only bindings (result_of c.program.kind (c.program.attribute only.name) a.result w.store) (length w.store)

pub record IsBegun (c : Facts) (only : EntryPoint) (a : Passed) (w w' : World) (v : fortran.View) : Type 0 where
  pub served : serves c.program.kind (c.program.attribute only.name) a.want ≡ true
  pub bindings : Bindings
  pub bound : bind_all c.program only.formals a.actuals ≡ Gives bindings
  pub bounds : List (List Bounds)
  pub fixed : all_dimensions_by c (first_frame c only a w bindings) (with_result c.program.kind a.result w.store) bindings.names ≡ Gives bounds
  pub frame : v.frame ≡ record (first_frame c only a w bindings) { dimensions = λ x. bounds_for x bindings.names bounds }
  pub world : w' ≡ record w { store = with_result c.program.kind a.result w.store }

entry_in : EntryPoint → Option EntryPoint → EntryPoint
entry_in e None = e
entry_in e (Some x) = x

entry_is : (kind : UnitKind) (only e : EntryPoint) (n : Called) → entry_of kind (only ∷ []) n ≡ Some e → e ≡ only
unfolding entry_of entry_in
entry_is MainProgram only e TheMain h = sym (ap (entry_in e) h)
entry_is SubroutineUnit only e TheMain h = absurd (cc)
entry_is FunctionUnit only e TheMain h = absurd (cc)
entry_is BlockDataUnit only e TheMain h = absurd (cc)
entry_is kind only e (Procedure name) h = by (bytes_eq only.name name) h
  where
    by : (b : Bool) → (if b then Some only else None) ≡ Some e → e ≡ only
    by true g = sym (ap (entry_in e) g)
    by false g = absurd (cc)

module _ (c : Facts) (only : EntryPoint) (a : Passed) (w w' : World) (v : fortran.View) where
  with_bounds : (bindings : Bindings) → serves c.program.kind (c.program.attribute only.name) a.want ≡ true → bind_all c.program only.formals a.actuals ≡ Gives bindings → (r : Checked (List (List Bounds)))
      → all_dimensions_by c (first_frame c only a w bindings) (with_result c.program.kind a.result w.store) bindings.names ≡ r
      → begun_with c (record w { store = with_result c.program.kind a.result w.store }) (first_frame c only a w bindings) bindings.names r ≡ Enters v w' → IsBegun c only a w w' v
  unfolding begun_with frame_of
  with_bounds bindings served bound (Gives bounds) fixed e =
      let f' : Frame = record (first_frame c only a w bindings) { dimensions = λ x. bounds_for x bindings.names bounds } in
      let is = entered_by (arrived c.program f' [] f'.called.start) (record w { store = with_result c.program.kind a.result w.store }) w' v e in
      record { served = served; bindings = bindings; bound = bound; bounds = bounds; fixed = fixed; frame = arrived_frame c.program f' f'.called.start v is.view; world = is.world }
  with_bounds bindings served bound (Fails act) fixed e = absurd (cc)

  with_bindings : (r : Checked Bindings) → serves c.program.kind (c.program.attribute only.name) a.want ≡ true → bind_all c.program only.formals a.actuals ≡ r → begun_bound c w only a.result r ≡ Enters v w' → IsBegun c only a w w' v
  unfolding begun_bound
  with_bindings (Gives bindings) served bound e =
      with_bounds bindings served bound (all_dimensions_by c (first_frame c only a w bindings) (with_result c.program.kind a.result w.store) bindings.names) refl e
  with_bindings (Fails act) served bound e = absurd (cc)

  if_served : (b : Bool) → serves c.program.kind (c.program.attribute only.name) a.want ≡ b → (if b then begun_bound c w only a.result (bind_all c.program only.formals a.actuals) else Refused Disagreement) ≡ Enters v w' → IsBegun c only a w w' v
  if_served true served e = with_bindings (bind_all c.program only.formals a.actuals) served refl e
  if_served false served e = absurd (cc)

  by_entry : (found : Option EntryPoint) → (n : Called) → entry_of c.program.kind (only ∷ []) n ≡ found → begun_at c a w found ≡ Enters v w' → IsBegun c only a w w' v
  unfolding begun_at
  by_entry None n is e = absurd (cc)
  by_entry (Some entry) n is e =
      if_served (serves c.program.kind (c.program.attribute only.name) a.want) refl
      (ap (λ (one : EntryPoint). begun_at c a w (Some one)) (sym (entry_is c.program.kind only entry n is)) ∙ e)

pub procedure_begins : (c : Facts) (only : EntryPoint) (n : Called) (a : Passed) (w w' : World) (v : fortran.View) → c.program.entries ≡ only ∷ [] → start c n a w ≡ Enters v w' → IsBegun c only a w w' v
unfolding start
procedure_begins c only n a w w' v entries e =
    by_entry c only a w w' v (entry_of c.program.kind (only ∷ []) n) n refl (ap (λ es. begun_at c a w (entry_of c.program.kind es n)) (sym entries) ∙ e)
