-- How a main program begins, and what its function knows then.
use Rattle.std.specs.Prelude.{◌≡◌, ℕ, Bool, true, false, List, [], ◌∷◌, length, bytes_eq, Option, Some, None, if◌then◌else◌}
use Rattle.std.proofs.Common.{refl, sym, ap, ◌∙◌}
use Rattle.output_laws.specs.simulation.Machine.{Entry, Enters, Refused}
use Rattle.output_laws.specs.f_tree.Values.{Bytes, Datum, Disagreement, Checked, Gives, Fails}
use Rattle.output_laws.specs.f_tree.Terms.{Wanted, AsSubroutine, AsFunction}
use Rattle.output_laws.specs.f_tree.Facts.{Bounds, Attribute, Formal, UnitKind, MainProgram, EntryPoint, ProgramUnit, Facts, Frame}
use Rattle.output_laws.specs.f_tree.World as fortran
use Rattle.output_laws.specs.f_tree.World.{World, Round, Turning, Doing, Waits, Returning, Called, TheMain, Procedure, Passed, fortran_sorts, entered}
use Rattle.output_laws.specs.f_tree.Places.{Landing, at_range_end, landed, arrived}
use Rattle.output_laws.specs.f_tree.Association.{Bindings, value_for, length_for, bounds_for, bind_all, all_dimensions_by, result_of, with_result, frame_of, begun_with, begun_bound, begun_at, entry_of, serves, start}

-- ## The begin

pub record IsMainBegun (only : EntryPoint) (a : Passed) (w w' : World) (v : fortran.View) : Type 0 where
  pub world : w' ≡ w
  pub bound : (x : Bytes) → v.frame.bound x ≡ None
  pub lengths : (x : Bytes) → v.frame.lengths x ≡ None
  pub dimensions : (x : Bytes) → v.frame.dimensions x ≡ None
  pub result : v.frame.result ≡ None
  pub called : v.frame.called ≡ only
  pub start : v.frame.called.start ≡ 0
  pub actuals : a.actuals ≡ []
  pub want : a.want ≡ AsSubroutine

view_in : fortran.View → Checked fortran.View → fortran.View
view_in v (Gives x) = x
view_in v (Fails act) = v

landed_frame : (u : ProgramUnit) (f : Frame) (x : Checked Landing) (v : fortran.View) → landed u f [] x ≡ Gives v → v.frame ≡ f
unfolding landed at_range_end view_in
landed_frame u f (Fails act) v e = absurd (cc)
landed_frame u f (Gives l) v e = by l.now e
  where
    by : (now : fortran.Now) → (elim now [ Turning ↦ at_range_end u f [] l.at | _ ↦ Gives (record { frame = f; at = l.at; now = l.now; loops = [] }) ]) ≡ Gives v → v.frame ≡ f
    by Turning h = absurd (cc)
    by (Doing form) h = sym (ap (λ y. (view_in v y).frame) h)
    by (Waits height rest) h = sym (ap (λ y. (view_in v y).frame) h)
    by (Returning height) h = sym (ap (λ y. (view_in v y).frame) h)

arrived_frame : (u : ProgramUnit) (f : Frame) (i : ℕ) (v : fortran.View) → arrived u f [] i ≡ Gives v → v.frame ≡ f
unfolding arrived
arrived_frame u f i v e = landed_frame u f _ v e

record IsEntered (x : Checked fortran.View) (w w' : World) (v : fortran.View) : Type 0 where
  view : x ≡ Gives v
  world : w' ≡ w

view_entered : fortran.View → Entry fortran_sorts → fortran.View
view_entered v (Enters x w) = x
view_entered v (Refused act) = v

world_entered : World → Entry fortran_sorts → World
world_entered w (Enters x now) = now
world_entered w (Refused act) = w

entered_by : (x : Checked fortran.View) (w w' : World) (v : fortran.View) → entered x w ≡ Enters v w' → IsEntered x w w' v
unfolding entered view_entered world_entered
entered_by (Gives y) w w' v e = record { view = ap (λ z. Gives (view_entered v z)) e; world = sym (ap (world_entered w') e) }
entered_by (Fails act) w w' v e = absurd (cc)

-- nothing is bound where there are no dummies
abbrev nothing_bound : Bindings
nothing_bound = record { names = []; values = []; lengths = []; labels = [] }

record BindsNothing (ds : List Datum) (bs : Bindings) : Type 0 where
  none : ds ≡ []
  is : bs ≡ nothing_bound

bindings_in : Bindings → Checked Bindings → Bindings
bindings_in bs (Gives x) = x
bindings_in bs (Fails act) = bs

binds_nothing : (u : ProgramUnit) (formals : List Formal) (ds : List Datum) (bs : Bindings) → formals ≡ [] → bind_all u formals ds ≡ Gives bs → BindsNothing ds bs
unfolding bind_all bindings_in
binds_nothing u formals ds bs none e = by ds (ap (λ fs. bind_all u fs ds) (sym none) ∙ e)
  where
    by : (ds : List Datum) → bind_all u [] ds ≡ Gives bs → BindsNothing ds bs
    by [] h = record { none = refl; is = sym (ap (bindings_in bs) h) }
    by (d ∷ ds) h = absurd (cc)

module _ (c : Facts) (only : EntryPoint) (a : Passed) (w w' : World) (v : fortran.View) (kind : c.program.kind ≡ MainProgram) where
  begun_frame : (x : World) (f : Frame) (names : List Bytes) (r : Checked (List (List Bounds))) → begun_with c x f names r ≡ Enters v w' → (bss : List (List Bounds)) × (v.frame ≡ record f { dimensions = λ x. bounds_for x names bss }) × (w' ≡ x)
  unfolding begun_with
  begun_frame x f names (Gives bss) e =
      let f' : Frame = record f { dimensions = λ x. bounds_for x names bss } in
      let is = entered_by (arrived c.program f' [] f.called.start) x w' v e in
      (bss, arrived_frame c.program f' f.called.start v is.view, is.world)
  begun_frame x f names (Fails act) e = absurd (cc)

  begun_nothing : (e : EntryPoint) (bs : Bindings) → e ≡ only → e.start ≡ 0 → bs ≡ nothing_bound → a.actuals ≡ [] → a.want ≡ AsSubroutine → begun_bound c w e a.result (Gives bs) ≡ Enters v w' → IsMainBegun only a w w' v
  unfolding begun_bound frame_of value_for length_for bounds_for with_result result_of
  begun_nothing e bs same first nothing none want begun =
      let s = with_result c.program.kind a.result w.store in
      let f = frame_of e bs (result_of c.program.kind (c.program.attribute e.name) a.result w.store) (length w.store) in
      let is = begun_frame (record w { store = s }) f bs.names (all_dimensions_by c f s bs.names) begun in
      let store : s ≡ w.store = ap (λ k. with_result k a.result w.store) kind in
      record {
        world = is.2 ∙ ap (λ z. record w { store = z }) store;
        bound = λ x. ap (λ (g : Frame). g.bound x) is.1 ∙ ap (λ (b : Bindings). value_for x b.names b.values) nothing;
        lengths = λ x. ap (λ (g : Frame). g.lengths x) is.1 ∙ ap (λ (b : Bindings). length_for x b.names b.lengths) nothing;
        dimensions = λ x. ap (λ (g : Frame). g.dimensions x) is.1 ∙ ap (λ (b : Bindings). bounds_for x b.names is.0) nothing;
        result = ap (λ (g : Frame). g.result) is.1 ∙ ap (λ k. result_of k (c.program.attribute e.name) a.result w.store) kind;
        called = ap (λ (g : Frame). g.called) is.1 ∙ same;
        start = ap (λ (g : Frame). g.called.start) is.1 ∙ first;
        actuals = none;
        want = want;
      }

  begun_by : (e : EntryPoint) (r : Checked Bindings) → e ≡ only → e.start ≡ 0 → e.formals ≡ [] → bind_all c.program e.formals a.actuals ≡ r → a.want ≡ AsSubroutine → begun_bound c w e a.result r ≡ Enters v w' → IsMainBegun only a w w' v
  unfolding begun_bound
  begun_by e (Gives bs) same first none is want begun =
      let nothing = binds_nothing c.program e.formals a.actuals bs none is in
      begun_nothing e bs same first nothing.is nothing.none want begun
  begun_by e (Fails act) same first none is want begun = absurd (cc)

wanted : (kind : UnitKind) (a : Attribute) (want : Wanted) → kind ≡ MainProgram → serves kind a want ≡ true → want ≡ AsSubroutine
unfolding serves
wanted kind a want is e = by want (ap (λ k. serves k a want) (sym is) ∙ e)
  where
    by : (want : Wanted) → serves MainProgram a want ≡ true → want ≡ AsSubroutine
    by AsSubroutine h = refl
    by (AsFunction basic width) h = absurd (cc)

entry_in : EntryPoint → Option EntryPoint → EntryPoint
entry_in e None = e
entry_in e (Some x) = x

entry_is : (only e : EntryPoint) (n : Called) → entry_of MainProgram (only ∷ []) n ≡ Some e → e ≡ only
unfolding entry_of entry_in
entry_is only e TheMain h = sym (ap (entry_in e) h)
entry_is only e (Procedure name) h = by (bytes_eq only.name name) h
  where
    by : (b : Bool) → (if b then Some only else None) ≡ Some e → e ≡ only
    by true g = sym (ap (entry_in e) g)
    by false g = absurd (cc)

pub main_begins : (c : Facts) (only : EntryPoint) (n : Called) (a : Passed) (w w' : World) (v : fortran.View) → c.program.kind ≡ MainProgram → c.program.entries ≡ only ∷ [] → only.formals ≡ [] → only.start ≡ 0
    → start c n a w ≡ Enters v w' → IsMainBegun only a w w' v
unfolding start begun_at
main_begins c only n a w w' v kind entries none first e = by (entry_of c.program.kind c.program.entries n) refl e
  where
    by : (found : Option EntryPoint) → entry_of c.program.kind c.program.entries n ≡ found → begun_at c a w found ≡ Enters v w' → IsMainBegun only a w w' v
    by None is h = absurd (cc)
    by (Some found) is h =
        let same : found ≡ only = entry_is only found n ((λ i. entry_of (sym kind i) (sym entries i) n) ∙ is) in
        choose found same (serves c.program.kind (c.program.attribute found.name) a.want) refl h
      where
        choose : (found : EntryPoint) → found ≡ only → (b : Bool) → serves c.program.kind (c.program.attribute found.name) a.want ≡ b
            → (if b then begun_bound c w found a.result (bind_all c.program found.formals a.actuals) else Refused Disagreement) ≡ Enters v w' → IsMainBegun only a w w' v
        choose found same true serves' g =
            begun_by c only a w w' v kind found (bind_all c.program found.formals a.actuals) same (ap (λ (e : EntryPoint). e.start) same ∙ first) (ap (λ (e : EntryPoint). e.formals) same ∙ none) refl
            (wanted c.program.kind (c.program.attribute found.name) a.want kind serves') g
        choose found same false serves' g = absurd (cc)
