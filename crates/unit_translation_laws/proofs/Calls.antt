-- What steps call is declared: functions of the library, and each procedure as its unit defines it.
use Rattle.std.specs.List.{list_any, flat_map}
use Rattle.std.specs.Prelude.{◌≡◌, ℕ, zero, suc, ◌+◌, ◌-◌, nat_lt, Bool, true, false, ◌||◌, List, [], ◌∷◌, ◌++◌, map, length, fold, Option, Some, None, option_and_then, unwrap_or, slice_get, bytes_eq, codes, if◌then◌else◌}
use Rattle.std.proofs.Common.{refl, sym, ap, ◌∙◌, subst, arith}
use Rattle.std.proofs.lemmas.Bool.{ltb-true, ltb-false}
use Rattle.std.proofs.lemmas.Slice.Eq.{bytes_eq-Decides}
use Rattle.unit_translation.specs.f_tree.declared.names.Class.{Class}
use Rattle.unit_translation.specs.f_tree.declared.names.Class.TheVariants as class
use Rattle.unit_translation.specs.f_tree.Values.{Bytes}
use Rattle.unit_translation.specs.f_tree.Terms.{Function}
use Rattle.unit_translation.specs.f_tree.World.{Procedure}
use Rattle.unit_translation.specs.f_tree.Facts.{UnitKind, MainProgram, SubroutineUnit, FunctionUnit, BlockDataUnit, EntryPoint, ProgramUnit, Facts}
use Rattle.unit_translation.specs.f_tree.Setting.{IsIn, first_in, later_in}
use Rattle.unit_translation.specs.f_tree.CNames.{external_name, main_name}
use Rattle.unit_translation.specs.f_tree.Meaning.{has_entry, answers_to}
use Rattle.unit_translation.specs.l_core.Pures.{Name, Pures, NoPure, AndPure}
use Rattle.unit_translation.specs.l_core.Steps.{Starts, Takes, Finishes, Step, Compute, CallFor, CallSub, Halt, Pass, Acts, Text}
use Rattle.unit_translation.specs.c_tree.Builtins.{builtin_names}
use Rattle.unit_translation.specs.c_tree.Flat.{Flat}
use Rattle.unit_translation.specs.c_emit.Numbers.{Writing}
use Rattle.unit_translation.specs.c_emit.LibraryFunctions.{LibraryFunction, library_function}
use Rattle.unit_translation.specs.faithful.StorageImage.{function_name, name_of_entries}
use Rattle.main_translation_laws.proofs.linking_laws.Places.{some_same, get_front, map_at}
use Rattle.unit_translation.specs.procedure_emission.ProcedureItems.{procedure_item}
use Rattle.unit_translation.specs.main_file.MainFile.{Called}
use Rattle.unit_translation.specs.main_translation.Contents.{begins_output, takes_item, ends_output, stops_run, calls_of}
use Rattle.main_translation_laws.proofs.Lists.{InEither, in_one, in_other, in_either, in_map, in_mapped, in_at, at_in}
use Rattle.main_translation_laws.proofs.Contents.{IsAmong, calls_named, listed_at, starts_called, item_called, ends_called, stop_called, function_is_called}
use Rattle.main_translation_laws.proofs.Built.{started}
use Rattle.main_translation_laws.proofs.FlowLaws.{in_front, in_back}
use Rattle.unit_translation.specs.unit_file.UnitFile.{Variable, Parameter, Callee, Inventory}
use Rattle.unit_translation.specs.unit_file.UnitNames.{own_names, routine_name}
use Rattle.unit_translation.specs.behind_bounds.BehindBounds.{StandBehind}
use Rattle.unit_translation.specs.procedure_emission.bound_items.BoundItems.{Saving}
use Rattle.unit_translation.specs.unit_file.UnitItems.{unit_items, whole_items, procedure_called, procedure_passed, procedures_passed, procedures_named}
use Rattle.unit_programs.specs.unit_file_laws.BuiltUnits.{IsCalled, FunctionIsCalled, AreDeclared, IsListed, AreListed}
use Rattle.unit_translation.specs.UnitContents.{LoweredUnit, program_units, bounds_kept, whole_text, unit_numbers, library_callee, procedures_by, with_name, procedures_in, unit_callee, procedure_callee, inventory_of, inventories_of}
use Rattle.unit_programs.proofs.Objects.{found_back, emitted_at, whole_by}
use Rattle.unit_translation_laws.proofs.FlatLists.{in_flat, of_flat}
use Rattle.unit_translation_laws.proofs.Names.{IsOfCallee, of_library, of_procedure, IsUnnumbered}
use Rattle.main_translation_laws.proofs.Names.{IsCalledName}
use Rattle.unit_translation_laws.proofs.LibraryNames.{calls_unnumbered}

-- ## Names, each once

any_same : (x : Bytes) (seen : List Bytes) → list_any (bytes_eq x) seen ≡ true → IsIn x seen
any_same x [] h = absurd (cc)
any_same x (y ∷ seen) h = by (bytes_eq x y) refl h (any_same x seen)
  where
    by : (b : Bool) → bytes_eq x y ≡ b → (b || list_any (bytes_eq x) seen) ≡ true → (list_any (bytes_eq x) seen ≡ true → IsIn x seen) → IsIn x (y ∷ seen)
    by true same g later = subst (λ z. IsIn z (y ∷ seen)) (sym ((bytes_eq-Decides x y).0 same)) first_in
    by false other g later = later_in (later g)

new_seen : (seen : List Bytes) (x : Bytes) → IsIn x (with_name seen x)
unfolding with_name
new_seen seen x = by (list_any (bytes_eq x) seen) refl
  where
    by : (b : Bool) → list_any (bytes_eq x) seen ≡ b → IsIn x (if b then seen else seen ++ x ∷ [])
    by true there = any_same x seen there
    by false other = in_back x seen (x ∷ []) first_in

old_seen : (seen : List Bytes) (x y : Bytes) → IsIn y seen → IsIn y (with_name seen x)
unfolding with_name
old_seen seen x y o = by (list_any (bytes_eq x) seen)
  where
    by : (b : Bool) → IsIn y (if b then seen else seen ++ x ∷ [])
    by true = o
    by false = in_front y seen (x ∷ []) o

data IsSeen (seen : List Bytes) (x y : Bytes) : Type 0 where
  seen_before : IsIn y seen → IsSeen seen x y
  seen_now : y ≡ x → IsSeen seen x y

only_one : (x y : Bytes) → IsIn y (x ∷ []) → y ≡ x
only_one x _ first_in = refl
only_one x y (later_in o) = elim o [ ]

seen_by : (seen : List Bytes) (x y : Bytes) → IsIn y (with_name seen x) → IsSeen seen x y
unfolding with_name
seen_by seen x y o = by (list_any (bytes_eq x) seen) o
  where
    either : InEither y seen (x ∷ []) → IsSeen seen x y
    either (in_one p) = seen_before p
    either (in_other p) = seen_now (only_one x y p)

    by : (b : Bool) → IsIn y (if b then seen else seen ++ x ∷ []) → IsSeen seen x y
    by true p = seen_before p
    by false p = either (in_either y seen (x ∷ []) p)

kept_seen : (more seen : List Bytes) (y : Bytes) → IsIn y seen → IsIn y (fold with_name seen more)
kept_seen [] seen y o = o
kept_seen (x ∷ more) seen y o = kept_seen more (with_name seen x) y (old_seen seen x y o)

all_seen : (more seen : List Bytes) (y : Bytes) → IsIn y more → IsIn y (fold with_name seen more)
all_seen [] seen y o = elim o [ ]
all_seen (_ ∷ more) seen y first_in = kept_seen more (with_name seen y) y (new_seen seen y)
all_seen (x ∷ more) seen y (later_in o) = all_seen more (with_name seen x) y o

seen_from : (more seen : List Bytes) (y : Bytes) → IsIn y (fold with_name seen more) → InEither y seen more
seen_from [] seen y o = in_one o
seen_from (x ∷ more) seen y o = by (seen_from more (with_name seen x) y o)
  where
    first : IsSeen seen x y → InEither y seen (x ∷ more)
    first (seen_before p) = in_one p
    first (seen_now same) = in_other (subst (λ z. IsIn z (x ∷ more)) (sym same) first_in)

    by : InEither y (with_name seen x) more → InEither y seen (x ∷ more)
    by (in_one p) = first (seen_by seen x y p)
    by (in_other p) = in_other (later_in p)

-- ## Procedures that steps name

-- a name that a step may call or pass as that of a procedure
pub data IsProcedure (k : Class) : Type 0 where
  as_procedure : k ≡ class.Procedure → IsProcedure k
  as_result : k ≡ class.Result → IsProcedure k
  as_unit : k ≡ class.Unit → IsProcedure k

pub not_stored : (k : Class) → IsProcedure k → k ≡ class.Stored → ⊥
not_stored k (as_procedure is) same = let no : class.Procedure ≡ class.Stored = sym is ∙ same in absurd (cc)
not_stored k (as_result is) same = let no : class.Result ≡ class.Stored = sym is ∙ same in absurd (cc)
not_stored k (as_unit is) same = let no : class.Unit ≡ class.Stored = sym is ∙ same in absurd (cc)

pub no_dummy : (k : Class) → IsProcedure k → k ≡ class.Dummy → ⊥
no_dummy k (as_procedure is) same = let no : class.Procedure ≡ class.Dummy = sym is ∙ same in absurd (cc)
no_dummy k (as_result is) same = let no : class.Result ≡ class.Dummy = sym is ∙ same in absurd (cc)
no_dummy k (as_unit is) same = let no : class.Unit ≡ class.Dummy = sym is ∙ same in absurd (cc)

pub no_dummy_procedure : (k : Class) → IsProcedure k → k ≡ class.DummyProcedure → ⊥
no_dummy_procedure k (as_procedure is) same = let no : class.Procedure ≡ class.DummyProcedure = sym is ∙ same in absurd (cc)
no_dummy_procedure k (as_result is) same = let no : class.Result ≡ class.DummyProcedure = sym is ∙ same in absurd (cc)
no_dummy_procedure k (as_unit is) same = let no : class.Unit ≡ class.DummyProcedure = sym is ∙ same in absurd (cc)

called_by : (c : Facts) (x y : Bytes) (k : Class) → (c.program.attribute x).class ≡ k → IsIn y (procedure_called k x) → IsProcedure (c.program.attribute y).class
unfolding procedure_called
called_by c x y class.Procedure is o = as_procedure (ap (λ z. (c.program.attribute z).class) (only_one x y o) ∙ is)
called_by c x y class.Result is o = as_result (ap (λ z. (c.program.attribute z).class) (only_one x y o) ∙ is)
called_by c x y class.Unit is o = as_unit (ap (λ z. (c.program.attribute z).class) (only_one x y o) ∙ is)
called_by c x y k is o = elim o [ ]

passed_one : (c : Facts) (x y : Bytes) (k : Class) → (c.program.attribute x).class ≡ k → IsIn y (procedure_passed k x) → IsProcedure (c.program.attribute y).class
unfolding procedure_passed
passed_one c x y class.Procedure is o = as_procedure (ap (λ z. (c.program.attribute z).class) (only_one x y o) ∙ is)
passed_one c x y k is o = elim o [ ]

passed_by : (c : Facts) (y : Bytes) (ps : Pures) → IsIn y (procedures_passed c ps) → IsProcedure (c.program.attribute y).class
unfolding procedures_passed
passed_by c y NoPure o = elim o [ ]
passed_by c y (AndPure (Name x) ps) o = by (in_either y (procedure_passed (c.program.attribute x).class x) (procedures_passed c ps) o) (passed_by c y ps)
  where
    by : InEither y (procedure_passed (c.program.attribute x).class x) (procedures_passed c ps) → (IsIn y (procedures_passed c ps) → IsProcedure (c.program.attribute y).class) → IsProcedure (c.program.attribute y).class
    by (in_one p) later = passed_one c x y (c.program.attribute x).class refl p
    by (in_other p) later = later p
passed_by c y (AndPure p ps) o = passed_by c y ps o

named_by : (c : Facts) (x y : Bytes) (ps : Pures) → IsIn y (procedures_named c x ps) → IsProcedure (c.program.attribute y).class
unfolding procedures_named
named_by c x y ps o = by (in_either y (procedure_called (c.program.attribute x).class x) (procedures_passed c ps) o)
  where
    by : InEither y (procedure_called (c.program.attribute x).class x) (procedures_passed c ps) → IsProcedure (c.program.attribute y).class
    by (in_one p) = called_by c x y (c.program.attribute x).class refl p
    by (in_other p) = passed_by c y ps p

step_names : (c : Facts) (y : Bytes) (st : Step) → IsIn y (procedures_by c st) → IsProcedure (c.program.attribute y).class
unfolding procedures_by
step_names c y (CallFor k callee ps) o = named_by c callee.name y ps o
step_names c y (CallSub k x ps) o = named_by c x y ps o
step_names c y st o = elim o [ ]

-- those of a text
text_names : (u : Text) (y : Bytes) → IsIn y (procedures_in u) → IsProcedure (u.facts.program.attribute y).class
unfolding procedures_in
text_names u y o = by (seen_from (flat_map (procedures_by u.facts) u.steps) [] y o)
  where
    by : InEither y [] (flat_map (procedures_by u.facts) u.steps) → IsProcedure (u.facts.program.attribute y).class
    by (in_one p) = elim p [ ]
    by (in_other p) = let step = of_flat (procedures_by u.facts) u.steps y p in step_names u.facts y step.whole step.part

text_has : (u : Text) (n : ℕ) (st : Step) (y : Bytes) → slice_get u.steps n ≡ Some st → IsIn y (procedures_by u.facts st) → IsIn y (procedures_in u)
unfolding procedures_in
text_has u n st y at o = all_seen (flat_map (procedures_by u.facts) u.steps) [] y (in_flat (procedures_by u.facts) st u.steps y (in_at u.steps n st at) o)

-- ## Units by the names of their procedures

-- a unit that is found by the name of a procedure
record IsOwner (us : List LoweredUnit) (x : Bytes) (k : ℕ) : Type 0 where
  unit : LoweredUnit
  at : slice_get us k ≡ Some unit
  answers : answers_to (Procedure x) unit.unit ≡ true

unit_at : (us : List LoweredUnit) (k : ℕ) (unit : ProgramUnit) → slice_get (program_units us) k ≡ Some unit → (u : LoweredUnit) × (slice_get us k ≡ Some u) × (u.unit ≡ unit)
unit_at [] k unit at = absurd (cc)
unit_at (u ∷ us) zero unit at = (u, refl, some_same u.unit unit at)
unit_at (u ∷ us) (suc k) unit at = unit_at us k unit at

owner : (us : List LoweredUnit) (x : Bytes) (k : ℕ) → unit_numbers us (Procedure x) ≡ Some k → IsOwner us x k
owner us x k found =
    let f = found_back 0 (program_units us) (Procedure x) k found in
    let there = f.is in
    let place : k ≡ f.place = omega (arith, there) in
    let u = unit_at us f.place f.unit f.at in
    record { unit = u.0; at = ap (slice_get us) place ∙ u.1; answers = ap (answers_to (Procedure x)) u.2 ∙ f.answers }

-- the one entry of such a unit has the name
entry_named : (entry : EntryPoint) (x : Bytes) → has_entry (entry ∷ []) x ≡ true → entry.name ≡ x
unfolding has_entry
entry_named entry x h = (bytes_eq-Decides entry.name x).0 (first_so (bytes_eq entry.name x) h)
  where
    first_so : (t : Bool) → (t || false) ≡ true → t ≡ true
    first_so true g = refl
    first_so false g = absurd (cc)

owner_named : (unit : ProgramUnit) (entry : EntryPoint) (x : Bytes) → unit.entries ≡ entry ∷ [] → answers_to (Procedure x) unit ≡ true → function_name unit ≡ external_name x
unfolding answers_to function_name
owner_named unit entry x only h = by unit.kind h
  where
    same_name : has_entry unit.entries x ≡ true → name_of_entries unit.entries ≡ external_name x
    same_name g = ap name_of_entries only ∙ ap external_name (entry_named entry x (ap (λ es. has_entry es x) (sym only) ∙ g))

    by : (k : UnitKind) → elim k [ SubroutineUnit ↦ has_entry unit.entries x | FunctionUnit ↦ has_entry unit.entries x | _ ↦ false ] ≡ true → elim k [ MainProgram ↦ main_name | _ ↦ name_of_entries unit.entries ] ≡ external_name x
    by MainProgram g = absurd (cc)
    by SubroutineUnit g = same_name g
    by FunctionUnit g = same_name g
    by BlockDataUnit g = absurd (cc)

-- ## What is declared

called_in : (v : Inventory) (call : Callee) → IsIn call v.calls → IsCalled v call.name
called_in v call o = let found = at_in call v.calls o in (found.index, map_at (λ (c : Callee). c.name) v.calls found.index call found.at)

module _ (us : List LoweredUnit) (u : LoweredUnit) where
  abbrev v : Inventory
  v = inventory_of us u

  library_called : (name : List ℕ) → IsAmong name (calls_of (whole_text u).steps) → IsCalled v name
  library_called name among =
      let found = in_map (λ (call : Called). call.name) (calls_of (whole_text u).steps) name (in_at (map (λ (call : Called). call.name) (calls_of (whole_text u).steps)) among.index name among.at) in
      subst (IsCalled v) found.is
      (called_in v (library_callee found.from)
      (in_front (library_callee found.from) (map library_callee (calls_of (whole_text u).steps)) (flat_map (procedure_callee us) (procedures_in (whole_text u))) (in_mapped library_callee found.from (calls_of (whole_text u).steps) found.among)))

  routine_is : (k : ℕ) (w : LoweredUnit) → slice_get us k ≡ Some w → routine_name (inventories_of us) k ≡ function_name w.unit
  routine_is k w at =
      ap (λ o. unwrap_or o [])
      (get_front (own_names (inventories_of us)) builtin_names k (function_name w.unit) (map_at (λ (i : Inventory). i.name) (inventories_of us) k (inventory_of us w) (map_at (inventory_of us) us k w at)))

  procedure_declared : (x : Bytes) (k : ℕ) → IsIn x (procedures_in (whole_text u)) → unit_numbers us (Procedure x) ≡ Some k → IsCalled v (routine_name (inventories_of us) k)
  unfolding procedure_callee unit_callee
  procedure_declared x k among found =
      let own = owner us x k found in
      let it = ap (λ n. unit_callee (option_and_then (slice_get us) n)) found ∙ ap unit_callee own.at in
      subst (IsCalled v) (sym (routine_is k own.unit own.at))
      (called_in v _
      (in_back _ (map library_callee (calls_of (whole_text u).steps)) (flat_map (procedure_callee us) (procedures_in (whole_text u)))
      (in_flat (procedure_callee us) x (procedures_in (whole_text u)) _ among (subst (IsIn _) (sym it) first_in))))

  all_declared : (xs : List Bytes) → ((x : Bytes) → IsIn x xs → IsIn x (procedures_in (whole_text u))) → AreDeclared (unit_numbers us) (inventories_of us) v xs
  all_declared [] every = tt
  all_declared (x ∷ xs) every = ((λ k found. procedure_declared x k (every x first_in) found), all_declared xs (λ y o. every y (later_in o)))

  -- ### Steps

  function_listed : (n k : ℕ) (f : Function) (ps : Pures) → slice_get (whole_text u).steps n ≡ Some (Compute k f ps) → (found : Option LibraryFunction) → library_function f ≡ found → FunctionIsCalled v found
  function_listed n k f ps at (Some one) is = library_called one.name (function_is_called (whole_text u).steps n k f ps one at is)
  function_listed n k f ps at None is = tt

  step_listed : (w : Writing) (n : ℕ) (st : Step) (item : Flat) → slice_get (whole_text u).steps n ≡ Some st → procedure_item (unit_numbers us) w (λ k. k) (whole_text u).position n st ≡ Some item
      → IsListed (unit_numbers us) (inventories_of us) u.text.facts v n st
  unfolding procedure_item
  step_listed w n (CallFor k callee ps) item at h =
      all_declared (procedures_named u.text.facts callee.name ps) (λ x o. text_has (whole_text u) n (CallFor k callee ps) x at (unfold procedures_by in o))
  step_listed w n (CallSub k x ps) item at h = all_declared (procedures_named u.text.facts x ps) (λ y o. text_has (whole_text u) n (CallSub k x ps) y at (unfold procedures_by in o))
  step_listed w n (Acts (Starts way layout controls) ps m) item at h =
      let its = started w (whole_text u).position n way layout controls ps m item h in
      let list = listed_at 0 (whole_text u).steps n n way layout controls ps m its.0 (omega arith) at its.1 in
      (library_called (codes "s_wsle") (starts_called (whole_text u).steps n (Acts (Starts way layout controls) ps m) at (unfold begins_output in refl)), (list.index, list.place))
  step_listed w n (Acts Takes ps m) item at h = library_called (codes "do_lio") (item_called (whole_text u).steps n (Acts Takes ps m) at (unfold takes_item in refl))
  step_listed w n (Acts Finishes ps m) item at h = library_called (codes "e_wsle") (ends_called (whole_text u).steps n (Acts Finishes ps m) at (unfold ends_output in refl))
  step_listed w n (Halt text) item at h = library_called (codes "s_stop") (stop_called (whole_text u).steps n (Halt text) at (unfold stops_run in refl))
  step_listed w n (Compute k f ps) item at h = function_listed n k f ps at (library_function f) refl
  step_listed w n st item at h = tt

  each_listed : (n : ℕ) (steps : List Step) → ((i k : ℕ) (st : Step) → k ≡ n + i → slice_get steps i ≡ Some st → IsListed (unit_numbers us) (inventories_of us) u.text.facts v k st)
      → AreListed (unit_numbers us) (inventories_of us) u.text.facts v n steps
  each_listed n [] every = tt
  each_listed n (st ∷ later) every = (every 0 n st (omega arith) refl, each_listed (suc n) later (λ i k st' at stands. every (suc i) k st' (omega (arith, at)) stands))

  pass_listed : (n : ℕ) (st : Step) → Pass ≡ st → IsListed (unit_numbers us) (inventories_of us) u.text.facts v n st
  pass_listed n st is = subst (IsListed (unit_numbers us) (inventories_of us) u.text.facts v n) is tt

  -- what stands before the steps calls nothing, and each step has its item behind those of what is kept
  listed_there : (w : Writing) (items : List Flat) → StandBehind (length (bounds_kept u.unit)) u.text → unit_items (unit_numbers us) w (whole_text u).position (length (bounds_kept u.unit)) u.text.steps ≡ Some items
      → (k : ℕ) (st : Step) → slice_get (whole_text u).steps k ≡ Some st → IsListed (unit_numbers us) (inventories_of us) u.text.facts v k st
  listed_there w items stand h k st there = by (nat_lt k (length (bounds_kept u.unit))) refl
    where
      by : (t : Bool) → nat_lt k (length (bounds_kept u.unit)) ≡ t → IsListed (unit_numbers us) (inventories_of us) u.text.facts v k st
      by true is = pass_listed k st (some_same Pass st (sym (stand.before k (ltb-true k (length (bounds_kept u.unit)) is)) ∙ there))
      by false is =
          let first = length (bounds_kept u.unit) in
          let late = ltb-false k first is in
          let at : k ≡ first + (k - first) = omega (arith, late) in
          let stands : slice_get u.text.steps (k - first) ≡ Some st = sym (stand.places (k - first)) ∙ ap (slice_get (whole_text u).steps) (sym at) ∙ there in
          let item = emitted_at (unit_numbers us) w (whole_text u).position first (k - first) k u.text.steps items st at h stands in
          step_listed w k st item.item there item.emitted

  pub all_listed : (w : Writing) (savings : List Saving) (items : List Flat) → length savings ≡ length (bounds_kept u.unit) → StandBehind (length (bounds_kept u.unit)) u.text
      → whole_items (unit_numbers us) w (whole_text u).position savings (whole_text u).steps ≡ Some items → AreListed (unit_numbers us) (inventories_of us) u.text.facts v 0 (whole_text u).steps
  all_listed w savings items many stand h =
      let whole = whole_by (unit_numbers us) w (whole_text u).position (length (bounds_kept u.unit)) savings u.text.steps items many h in
      each_listed 0 (whole_text u).steps (λ i k st at stands.
      let same : k ≡ i = omega (arith, at) in
      listed_there w whole.later stand whole.emitted k st (ap (slice_get (whole_text u).steps) same ∙ stands))

  -- ### Names of what is called

  one_callee : (w : LoweredUnit) (call : Callee) → IsIn call (unit_callee (Some w)) → call.name ≡ function_name w.unit
  unfolding unit_callee
  one_callee w _ first_in = refl
  one_callee w call (later_in o) = elim o [ ]

  -- where each unit has one entry
  pub callee_sort : ((k : ℕ) (w : LoweredUnit) → slice_get us k ≡ Some w → (entry : EntryPoint) × (w.unit.entries ≡ entry ∷ [])) → ((one : Variable) → IsIn one v.variables → (u.text.facts.program.attribute one.name).class ≡ class.Stored)
      → ((p : Parameter) → IsIn p v.parameters → IsProcedure (u.text.facts.program.attribute p.name).class → ⊥) → (call : Callee) → IsIn call v.calls → IsOfCallee v call.name
  unfolding unit_callee
  callee_sort single stored dummies call o = by (in_either call (map library_callee (calls_of (whole_text u).steps)) (flat_map (procedure_callee us) (procedures_in (whole_text u))) o)
    where
      variables_apart : (x : Bytes) → IsProcedure (u.text.facts.program.attribute x).class → (one : Variable) → IsIn one v.variables → one.name ≡ x → ⊥
      variables_apart x is one among same = not_stored (u.text.facts.program.attribute x).class is (ap (λ y. (u.text.facts.program.attribute y).class) (sym same) ∙ stored one among)

      parameters_apart : (x : Bytes) → IsProcedure (u.text.facts.program.attribute x).class → (p : Parameter) → IsIn p v.parameters → p.name ≡ x → ⊥
      parameters_apart x is p among same = dummies p among (subst (λ y. IsProcedure (u.text.facts.program.attribute y).class) (sym same) is)

      by_owner : (x : Bytes) → IsProcedure (u.text.facts.program.attribute x).class → (found : Option ℕ) → unit_numbers us (Procedure x) ≡ found → IsIn call (unit_callee (option_and_then (slice_get us) found)) → IsOfCallee v call.name
      by_owner x is None number p = elim p [ ]
      by_owner x is (Some k) number p =
          let own = owner us x k number in
          let entry = single k own.unit own.at in
          let same = one_callee own.unit call (subst (λ found. IsIn call (unit_callee found)) own.at p) in
          of_procedure x (same ∙ owner_named own.unit.unit entry.0 x entry.1 own.answers) (variables_apart x is) (parameters_apart x is)

      by : InEither call (map library_callee (calls_of (whole_text u).steps)) (flat_map (procedure_callee us) (procedures_in (whole_text u))) → IsOfCallee v call.name
      by (in_one p) =
          let found = in_map library_callee (calls_of (whole_text u).steps) call p in
          of_library (subst (λ (c : Callee). IsCalledName c.name) found.is (calls_named (whole_text u).steps found.from found.among))
          (subst (λ (c : Callee). IsUnnumbered c.name) found.is (calls_unnumbered (whole_text u).steps found.from found.among))
      by (in_other p) =
          let found = of_flat (procedure_callee us) (procedures_in (whole_text u)) call p in
          by_owner found.whole (text_names (whole_text u) found.whole found.among) (unit_numbers us (Procedure found.whole)) refl (unfold procedure_callee in found.part)
