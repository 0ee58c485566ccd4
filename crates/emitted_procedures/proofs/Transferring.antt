-- What the function does for the steps of a list-directed output, and for STOP: calls of the library.
use Rattle.std.specs.Prelude.{◌≡◌, ℕ, zero, suc, ◌+◌, ◌-◌, nat_lt, ℤ, pos, Bool, true, false, ◌&&◌, List, [], ◌∷◌, ◌++◌, length, position, Option, Some, None, is_none, option_and_then, unwrap_or, bytes_eq, Ok, codes, slice_get, if◌then◌else◌}
use Rattle.std.proofs.Common.{refl, sym, ap, ◌∙◌, subst, arith}
use Rattle.std.proofs.lemmas.Bool.{ltb-true}
use Rattle.procedure_emission.specs.simulation.Machine.{Goes, Ends, Breaks}
use Rattle.procedure_emission.specs.simulation.LocalSimulation.{last, Meets}
use Rattle.procedure_emission.specs.edit_meaning.Listed.{ListedValue, Int, Logical}
use Rattle.procedure_emission.specs.run_state.Units.{Units, reads_zero_blanks}
use Rattle.procedure_emission.specs.f_tree.declared.names.Basic.{Basic}
use Rattle.procedure_emission.specs.f_tree.declared.names.Basic.TheVariants as basic
use Rattle.procedure_emission.specs.f_tree.Values.{Bytes, Spot, Datum, IsInt, IsLog, IsText, IsSpot, Checked, Gives, Fails, in_range, given_that}
use Rattle.procedure_emission.specs.f_tree.Values as fortran_values
use Rattle.procedure_emission.specs.f_tree.Store.{Whole, Number as ANumber, Truth}
use Rattle.procedure_emission.specs.f_tree.Facts.{Word, UnitWord, Direction, Output, Layout, Listed, Controls}
use Rattle.procedure_emission.specs.f_tree.Setting.{IsIn, first_in}
use Rattle.procedure_emission.specs.f_tree.World as fortran
use Rattle.procedure_emission.specs.f_tree.Courses.{Course}
use Rattle.procedure_emission.specs.f_tree.Transfers.{begins, item_done, finished}
use Rattle.procedure_emission.specs.f_tree.Step.{stop_ending}
use Rattle.procedure_emission.specs.l_core.Pures.{Pure, Constant, Pures, NoPure, AndPure, meant, all_meant}
use Rattle.procedure_emission.specs.l_core.Steps.{Acting, Starts, Takes, Finishes, Step, Halt, Acts, Text}
use Rattle.procedure_emission.specs.l_core.Machine.{View, Doing, to, onward, past, course_of, coursing, acting, done, step}
use Rattle.procedure_emission.specs.l_core.Costs.{cost}
use Rattle.procedure_emission.specs.c_tree.declared.outcome.CValue.{CValue}
use Rattle.procedure_emission.specs.c_tree.declared.outcome.CValue.TheVariants.{Number, Pointer}
use Rattle.procedure_emission.specs.c_tree.declared.types.CastType.TheVariants as cast_to
use Rattle.procedure_emission.specs.c_tree.declared.types.ListType.TheVariants as list_type
use Rattle.procedure_emission.specs.c_tree.Faults.{Or, after}
use Rattle.procedure_emission.specs.c_tree.Access.{ToNumber, ToChar, ToList}
use Rattle.procedure_emission.specs.c_tree.Objects.{Object, Bytes as Stored}
use Rattle.procedure_emission.specs.c_tree.Terms as c_term
use Rattle.procedure_emission.specs.c_tree.Terms.{Term}
use Rattle.procedure_emission.specs.c_tree.Values as c_values
use Rattle.procedure_emission.specs.c_tree.Values.{values_of, value_of}
use Rattle.procedure_emission.specs.c_tree.Flat.{Flat, Invoke, Ignored, Direct}
use Rattle.procedure_emission.specs.c_tree.World as c
use Rattle.procedure_emission.specs.c_tree.World.{Reply}
use Rattle.procedure_emission.specs.c_tree.Builtins.{Signature, signature, signatures, builtin_names, one_list, ANumber as TakesNumber, APointer, do_lio, s_stop}
use Rattle.procedure_emission.specs.c_tree.LibraryArguments.{number_through, text_at}
use Rattle.procedure_emission.specs.c_tree.Library.{library, stopped, stops}
use Rattle.procedure_emission.specs.c_tree.Steps as c_steps
use Rattle.procedure_emission.specs.c_tree.Steps.{WantsNothing, takes_all, replied}
use Rattle.procedure_emission.proofs.c_laws.StepLaws.{step_at, library_call_replies}
use Rattle.procedure_emission.proofs.c_laws.ValueLaws.{values_of-cons, value_of-number, Size-counts, Length-counts, Constant-counts, address_of_variable}
use Rattle.procedure_emission.specs.faithful.StorageImage.{number_for}
use Rattle.procedure_emission.specs.faithful.SameTransfer.{SameTransfer, neither, both, outputs, listed, on_unit}
use Rattle.procedure_emission.specs.c_image.World.{World}
use Rattle.procedure_emission.specs.c_image.Standing.{Stands}
use Rattle.procedure_emission.specs.c_image.Held.{whole_for, Holds}
use Rattle.procedure_emission.specs.c_image_laws.Meanings.{IsPlace}
use Rattle.procedure_emission.proofs.c_image_laws.AddressValues.{Address-points}
use Rattle.procedure_emission.proofs.c_image_laws.Keeping.{held_number, held_text}
use Rattle.procedure_emission.proofs.c_image_laws.TextValues.{length_is}
use Rattle.procedure_emission.specs.c_emit.Numbers.{Writing}
use Rattle.procedure_emission.specs.c_emit.Types.{HasType, type_of}
use Rattle.procedure_emission.specs.c_emit.Calls.{call_of, address_of, is_unit_alone, is_plain, start_on, start_item, unit_of, held_term, kind_number, item_by, takes_item, finish_item, stop_item}
use Rattle.procedure_emission.specs.c_emit.Flats.{flat_of}
use Rattle.procedure_emission.proofs.c_emit_laws.Choices.{some_same}
use Rattle.procedure_emission.proofs.c_emit_laws.HeldNumbers.{number_there, value_holds}
use Rattle.procedure_emission.proofs.c_emit_laws.TypeLaws.{types_are_right}
use Rattle.procedure_emission.specs.output_laws.ListedOutputs.{fortran_listing, c_listing, list_object, unit_alone, s_wsle, e_wsle, GoOnOrStop, go_on, stop, EndOrStop, end', stopped as both_stopped, IsItem, an_integer, a_truth}
use Rattle.procedure_emission.proofs.output_laws.ListedActs.{starts_are_alike, items_are_alike, ends_are_alike}
use Rattle.procedure_emission.specs.emitted_texts.SecondLayer.{Surroundings, Emission, OutputIsOn, TransfersStand}
use Rattle.procedure_emission.specs.emitted_texts.Emitted.{leads, stage_behind, is_of_output}
use Rattle.procedure_emission.specs.Reading.{kind_after, numbers_kept}
use Rattle.procedure_emission.specs.CallLayer.{CallWorld, IsActive, IsStaged, IsAtStep, call_couple}
use Rattle.procedure_emission.specs.EmittedUnits.{leads_on, IsItem as StandsAt, IsEmittedUnit}
use Rattle.emitted_procedures.proofs.KeptNumbers.{left_true, right_true}
use Rattle.emitted_procedures.proofs.ReadNumbers.{typed_read, held_read}

-- ## What is emitted

plain_by : (words : List Word) (on_error on_end : Option ℕ) → is_unit_alone words && (is_none on_error && is_none on_end) ≡ true → record { words = words; on_error = on_error; on_end = on_end } ≡ unit_alone
unfolding is_unit_alone
plain_by (UnitWord ∷ []) None None h = refl
plain_by (UnitWord ∷ []) None (Some l) h = absurd (cc)
plain_by (UnitWord ∷ []) (Some l) on_end h = absurd (cc)
plain_by _ on_error on_end h = absurd (cc)

record IsStart (w : Writing) (n : ℕ) (controls : Controls) (ps : Pures) (item : Flat) : Type 0 where
  unit : ℤ
  operands : ps ≡ AndPure (Constant (IsInt unit)) NoPure
  plainly : controls ≡ unit_alone
  is : item ≡ call_of w (codes "s_wsle") (address_of (c_term.Variable (w.library.list n) (ToList list_type.Transfer)) ∷ [])

start_by : (w : Writing) (n : ℕ) (controls : Controls) (ps : Pures) (item : Flat) → start_item w n controls ps ≡ Some item → IsStart w n controls ps item
unfolding start_item start_on is_plain
start_by w n controls (AndPure (Constant (IsInt unit)) NoPure) item h = by (is_plain controls && in_range unit) refl h
  where
    by : (b : Bool) → is_plain controls && in_range unit ≡ b → start_on w n b ≡ Some item → IsStart w n controls (AndPure (Constant (IsInt unit)) NoPure) item
    by true plainly h = record {
      unit = unit;
      operands = refl;
      plainly = plain_by controls.words controls.on_error controls.on_end (left_true (is_plain controls) (in_range unit) plainly);
      is = sym (some_same _ item h);
    }
    by false plainly h = absurd (cc)
start_by w n controls _ item h = absurd (cc)

record IsItemOf (w : Writing) (n : ℕ) (ps : Pures) (item : Flat) : Type 0 where
  value : Pure
  operands : ps ≡ AndPure value NoPure
  type : Basic
  typed : type_of w n value ≡ Some type
  kind : ℤ
  kind_is : kind_number type ≡ Some kind
  term : Term
  held : held_term w value ≡ Some term
  has_kind : w.library.has kind ≡ true
  has_one : w.library.has (pos 1) ≡ true
  is : item ≡ call_of w (codes "do_lio")
      (address_of (c_term.Variable (w.library.constant kind) ToNumber) ∷ address_of (c_term.Variable (w.library.constant (pos 1)) ToNumber) ∷ c_term.Cast cast_to.Chars (address_of term) ∷ c_term.Cast cast_to.Length c_term.Size ∷ [])

item_of : (w : Writing) (n : ℕ) (p : Pure) (item : Flat) (type : Option Basic) (term : Option Term) → type_of w n p ≡ type → held_term w p ≡ term → item_by w (option_and_then kind_number type) term ≡ Some item → IsItemOf w n (AndPure p NoPure) item
unfolding item_by
item_of w n p item None term typed held h = absurd (cc)
item_of w n p item (Some t) term typed held h = by (kind_number t) term refl held h
  where
    flat : ℤ → Term → Flat
    flat kind found = call_of w (codes "do_lio")
        (address_of (c_term.Variable (w.library.constant kind) ToNumber) ∷ address_of (c_term.Variable (w.library.constant (pos 1)) ToNumber) ∷ c_term.Cast cast_to.Chars (address_of found) ∷ c_term.Cast cast_to.Length c_term.Size ∷ [])

    chosen_by : (kind : ℤ) (found : Term) → kind_number t ≡ Some kind → held_term w p ≡ Some found → (b : Bool) → w.library.has kind && w.library.has (pos 1) ≡ b → (if b then Some (flat kind found) else None) ≡ Some item → IsItemOf w n (AndPure p NoPure) item
    chosen_by kind found is there true has g = record {
      value = p;
      operands = refl;
      type = t;
      typed = typed;
      kind = kind;
      kind_is = is;
      term = found;
      held = there;
      has_kind = left_true (w.library.has kind) (w.library.has (pos 1)) has;
      has_one = right_true (w.library.has kind) (w.library.has (pos 1)) has;
      is = sym (some_same (flat kind found) item g);
    }
    chosen_by kind found is there false has g = absurd (cc)

    by : (kind : Option ℤ) (found : Option Term) → kind_number t ≡ kind → held_term w p ≡ found → item_by w kind found ≡ Some item → IsItemOf w n (AndPure p NoPure) item
    by (Some kind) (Some found) is there g = chosen_by kind found is there (w.library.has kind && w.library.has (pos 1)) refl g
    by (Some kind) None is there g = absurd (cc)
    by None found is there g = absurd (cc)

takes_by : (w : Writing) (n : ℕ) (ps : Pures) (item : Flat) → takes_item w n ps ≡ Some item → IsItemOf w n ps item
unfolding takes_item
takes_by w n (AndPure p NoPure) item h = item_of w n p item (type_of w n p) (held_term w p) refl refl h
takes_by w n _ item h = absurd (cc)

record IsFinish (w : Writing) (ps : Pures) (item : Flat) : Type 0 where
  operands : ps ≡ NoPure
  is : item ≡ call_of w (codes "e_wsle") []

finish_by : (w : Writing) (ps : Pures) (item : Flat) → finish_item w ps ≡ Some item → IsFinish w ps item
unfolding finish_item
finish_by w NoPure item h = record { operands = refl; is = sym (some_same _ item h) }
finish_by w (AndPure p ps) item h = absurd (cc)

-- ## What is passed

-- the address of what holds it, as a pointer to characters
chars_at : (objects : List Object) (term : Term) (object offset : ℕ) → IsPlace objects term object offset ToNumber → value_of objects (c_term.Cast cast_to.Chars (address_of term)) ≡ Ok (Pointer object offset)
unfolding c_values.seen
chars_at objects term object offset named =
    ap (λ found. after (after found (c_values.cast cast_to.Chars)) λ typed. Ok typed.value) (Address-points objects term object offset ToNumber named)

whole_of_type : (b : Basic) (d : Datum) (kind : ℤ) → kind_number b ≡ Some kind → HasType b d → (value : ListedValue) × (whole : Whole) × (whole_for d ≡ Some whole) × IsItem d kind value (number_for whole)
unfolding kind_number
whole_of_type basic.Integer (IsInt z) kind is typed = (Int z, ANumber z, refl, subst (λ k. IsItem (IsInt z) k (Int z) z) (some_same (pos 3) kind is) (an_integer z))
whole_of_type basic.Logical (IsLog b) kind is typed = (Logical b, Truth b, refl, subst (λ k. IsItem (IsLog b) k (Logical b) (number_for (Truth b))) (some_same (pos 8) kind is) (a_truth b))
whole_of_type basic.Integer (IsLog b) kind is typed = absurd typed
whole_of_type basic.Integer (IsText cs) kind is typed = absurd typed
whole_of_type basic.Integer (IsSpot p) kind is typed = absurd typed
whole_of_type basic.Integer (fortran_values.IsProc y) kind is typed = absurd typed
whole_of_type basic.Integer (fortran_values.IsLabel l) kind is typed = absurd typed
whole_of_type basic.Integer fortran_values.Nothing kind is typed = absurd typed
whole_of_type basic.Logical (IsInt z) kind is typed = absurd typed
whole_of_type basic.Logical (IsText cs) kind is typed = absurd typed
whole_of_type basic.Logical (IsSpot p) kind is typed = absurd typed
whole_of_type basic.Logical (fortran_values.IsProc y) kind is typed = absurd typed
whole_of_type basic.Logical (fortran_values.IsLabel l) kind is typed = absurd typed
whole_of_type basic.Logical fortran_values.Nothing kind is typed = absurd typed
whole_of_type basic.Character d kind is typed = absurd (cc)
whole_of_type basic.Untyped d kind is typed = absurd (cc)

array_is : (objects : List Object) (k : ℕ) → value_of objects (c_term.Array k ToChar) ≡ Ok (Pointer k 0)
unfolding c_values.seen
array_is objects k = refl

-- what is passed for an item
item_values : (objects : List Object) (kind count : ℕ) (term : Term) (object offset : ℕ) → IsPlace objects term object offset ToNumber →
    values_of objects (address_of (c_term.Variable kind ToNumber) ∷ address_of (c_term.Variable count ToNumber) ∷ c_term.Cast cast_to.Chars (address_of term) ∷ c_term.Cast cast_to.Length c_term.Size ∷ [])
    ≡ Ok (Pointer kind 0 ∷ Pointer count 0 ∷ Pointer object offset ∷ Number (pos 4) ∷ [])
item_values objects kind count term object offset named =
    let size : List Term = c_term.Cast cast_to.Length c_term.Size ∷ [] in
    let item : List Term = c_term.Cast cast_to.Chars (address_of term) ∷ size in
    let counted : List Term = address_of (c_term.Variable count ToNumber) ∷ item in
    let of_size : values_of objects size ≡ Ok (Number (pos 4) ∷ []) =
    values_of-cons objects (c_term.Cast cast_to.Length c_term.Size) [] (Number (pos 4)) [] (value_of-number objects (c_term.Cast cast_to.Length c_term.Size) (pos 4) (Length-counts objects c_term.Size (pos 4) (Size-counts objects))) refl in
    let of_item : values_of objects item ≡ Ok (Pointer object offset ∷ Number (pos 4) ∷ []) =
    values_of-cons objects (c_term.Cast cast_to.Chars (address_of term)) size (Pointer object offset) (Number (pos 4) ∷ []) (chars_at objects term object offset named) of_size in
    let of_count : values_of objects counted ≡ Ok (Pointer count 0 ∷ Pointer object offset ∷ Number (pos 4) ∷ []) =
    values_of-cons objects (address_of (c_term.Variable count ToNumber)) item (Pointer count 0) (Pointer object offset ∷ Number (pos 4) ∷ []) (address_of_variable objects count ToNumber) of_item in
    values_of-cons objects (address_of (c_term.Variable kind ToNumber)) counted (Pointer kind 0) (Pointer count 0 ∷ Pointer object offset ∷ Number (pos 4) ∷ []) (address_of_variable objects kind ToNumber) of_count

-- and for the text of STOP
text_values : (objects : List Object) (k n : ℕ) → values_of objects (c_term.Array k ToChar ∷ c_term.Cast cast_to.Length (c_term.Constant (pos n)) ∷ []) ≡ Ok (Pointer k 0 ∷ Number (pos n) ∷ [])
text_values objects k n =
    let size : List Term = c_term.Cast cast_to.Length (c_term.Constant (pos n)) ∷ [] in
    let of_size : values_of objects size ≡ Ok (Number (pos n) ∷ []) =
    values_of-cons objects (c_term.Cast cast_to.Length (c_term.Constant (pos n))) [] (Number (pos n)) [] (value_of-number objects (c_term.Cast cast_to.Length (c_term.Constant (pos n))) (pos n) (Length-counts objects (c_term.Constant (pos n)) (pos n) (Constant-counts objects (pos n)))) refl in
    values_of-cons objects (c_term.Array k ToChar) size (Pointer k 0) (Number (pos n) ∷ []) (array_is objects k) of_size

stops_by : (world : c.World) (text : Bytes) → stopped world text ≡ c.Stops (stop_ending text) world
unfolding stop_ending
stops_by world [] = refl
stops_by world (first ∷ later) = refl

-- ## Steps

not_below : (a b k : ℕ) → a ≡ b → nat_lt (a + k) b ≡ false
not_below a b k same = by (nat_lt (a + k) b) refl
  where
    by : (c : Bool) → nat_lt (a + k) b ≡ c → nat_lt (a + k) b ≡ false
    by true h = let below = ltb-true (a + k) b h in absurd (omega (arith, below, same))
    by false h = h

nothing_said : {A : Type 0} (one : Option fortran.Transfer) (t : fortran.Transfer) → one ≡ None → one ≡ Some t → A
nothing_said one t none some = absurd (cc)

none_in_both : (homes : ℕ → Option ℕ) (one : Option fortran.Transfer) (other : Option c.Transfer) → SameTransfer homes one other → one ≡ None → other ≡ None
none_in_both homes _ _ neither e = refl
none_in_both homes _ _ (both one other agree) e = absurd (cc)

no_transfers : (μ : World) → TransfersStand μ None None
no_transfers μ = record { same = neither; below = λ t p some internal. nothing_said None t refl some }

-- two outputs with the same values agree
listings_stand : (μ : World) (unit : ℤ) (zeros : Bool) (values : List ListedValue) (written : ℕ) → TransfersStand μ (Some (fortran_listing unit unit_alone zeros values written)) (Some (c_listing unit values written))
listings_stand μ unit zeros values written = record {
  same = both _ _ (record { direction = outputs; layout = listed _; medium = on_unit unit; progress = record { values = refl; written = refl } });
  below = λ t p some internal. on_no_file t p (some_same (fortran_listing unit unit_alone zeros values written) t some) internal;
}
  where
    on_no_file : {A : Type 0} (t : fortran.Transfer) (p : Spot) → fortran_listing unit unit_alone zeros values written ≡ t → t.medium ≡ fortran.Internal p → A
    on_no_file t p same internal = let wrong : fortran.External unit ≡ fortran.Internal p = ap (λ (z : fortran.Transfer). z.medium) same ∙ internal in absurd (cc)

module _ (s : Surroundings) (number : ℕ) (u : Text) (costs : List ℕ) (e : Emission) (is : IsEmittedUnit s number u costs e) (μ : CallWorld) (v : View) (x : fortran.World) (w : c_steps.View) (y : c.World) (now : IsAtStep s number e μ v x w y)
    (st : Step) (at : slice_get u.steps v.at ≡ Some st) (item : StandsAt s u e v.at st) where
  stands : Stands now.active.now x.store y.objects
  stands = now.active.both.stands

  -- what is held from the first step on is held now
  still : (k : ℕ) (object : Object) → s.first.frozen k ≡ Some object → now.active.now.frozen k ≡ Some object
  still k object first = now.active.both.extends.frozen k object (now.active.housed.frozen k object first)

  done_is : (ev : Doing) → step u v x ≡ ev → done u v x (Some st) ≡ ev
  unfolding step
  done_is ev h = sym (ap (done u v x) at) ∙ h

  -- a call of the library
  called : (name : List ℕ) (k : ℕ) (arguments : List Term) (values : List CValue) (sig : Signature) (reply : Reply) → item.item ≡ call_of e.writing name arguments → unwrap_or (position (bytes_eq name) builtin_names) 0 ≡ k
      → slice_get signatures k ≡ Some sig → values_of y.objects arguments ≡ Ok values → takes_all sig.takes values ≡ true → library sig.builtin y values ≡ Ok reply → c_steps.step e.function w y ≡ replied w WantsNothing reply
  unfolding call_of
  called name k arguments values sig reply item_is place found valued taken given =
      let here : slice_get e.function.code w.position ≡ Some item.item = ap (slice_get e.function.code) now.position ∙ item.stands in
      let behind : (e.writing.library.own + k) - e.function.own ≡ k = (let own = is.fit.own in omega (arith, own)) in
      step_at e.function w y item.item here
      ∙ ap (c_steps.deed e.function w y) (item_is ∙ ap (λ n. Invoke Ignored (Direct (e.writing.library.own + n)) arguments) place)
      ∙ library_call_replies e.function w y (e.writing.library.own + k) arguments values sig reply valued (not_below e.writing.library.own e.function.own k is.fit.own) (ap (slice_get signatures) behind ∙ found) taken given

  -- the types and the output behind a step that keeps nothing
  kept_as : kind_after e.writing v.at st ≡ e.writing.kind v.at → IsIn (suc v.at) (leads_on u v.at st) → (k : ℕ) (d : Datum) (basic : Basic) → v.kept k ≡ Some d → e.writing.kind (suc v.at) k ≡ Some basic → HasType basic d
  kept_as same led k d basic holds kind = now.typed k d basic holds (sym (ap (λ f. f k) same) ∙ is.fit.kinds v.at st (suc v.at) at led k basic kind)

  active_behind : (x' : fortran.World) (y' : c.World) → x'.store ≡ x.store → y'.objects ≡ y.objects → x'.units ≡ y'.units → TransfersStand μ.image x'.transfer y'.transfer → (at' : ℕ) → IsActive s number e μ (record v { at = at' }) x' y'
  active_behind x' y' store objects units transfers at' = record {
    now = now.active.now;
    housed = now.active.housed;
    both = record {
      extends = now.active.both.extends;
      stands = subst (λ o. Stands now.active.now x'.store o) (sym objects) (subst (λ z. Stands now.active.now z y.objects) (sym store) stands);
      units = units;
      transfers = transfers;
      as_many = ap length objects ∙ now.active.both.as_many;
    };
    free = now.active.free;
    others = now.active.others;
    frame = now.active.frame;
    known = now.active.known;
    temporaries = now.active.temporaries;
    procedures = now.active.procedures;
  }

  -- the output goes on
  goes_on : (unit : ℤ) (zeros : Bool) (values : List ListedValue) (units : Units) (written : ℕ) → kind_after e.writing v.at st ≡ e.writing.kind v.at → IsIn (suc v.at) (leads_on u v.at st)
      → e.stage (suc v.at) ≡ Some unit → μ.transfer ≡ None → μ.other ≡ None
      → c_steps.step e.function w y ≡ replied w WantsNothing (c.Gives (pos 0) (record y { units = units; transfer = Some (c_listing unit values written) }))
      → Meets (call_couple s number u costs e) μ w y (cost costs v.at) (Goes (record v { at = suc v.at }) (record x { units = units; transfer = Some (fortran_listing unit unit_alone zeros values written) }))
  goes_on unit zeros values units written kinds led staged none none' does =
      let x' : fortran.World = record x { units = units; transfer = Some (fortran_listing unit unit_alone zeros values written) } in
      let y' : c.World = record y { units = units; transfer = Some (c_listing unit values written) } in
      record {
        count = 1;
        view = c_steps.past w;
        shared = y';
        does = last does refl;
        few = is.positive v.at st at;
        matched = record {
          position = ap (λ n. n + 1) now.position ∙ sym (is.in_order v.at st at);
          active = active_behind x' y' refl refl refl (listings_stand μ.image unit zeros values written) (suc v.at);
          plain = now.plain;
          typed = kept_as kinds led;
          staged = subst (IsStaged μ x' y') (sym staged) (record { zeros = zeros; values = values; written = written; on = record { one = refl; other = refl; units = refl } }, none, none');
        };
      }

  -- the run ends with a number
  both_end : (course : Course) (reply : Or Reply) (n : ℤ) → reply ≡ Ok (c.Stops (c.Io n) (record y { transfer = None })) → (c_steps.step e.function w y ≡ replied w WantsNothing (c.Stops (c.Io n) (record y { transfer = None })))
      → Meets (call_couple s number u costs e) μ w y (cost costs v.at) (Ends (fortran.Io n) v (record x { transfer = None }))
  both_end course reply n other does = record {
    count = 1;
    view = w;
    shared = record y { transfer = None };
    does = last does refl;
    few = is.positive v.at st at;
    halted = active_behind (record x { transfer = None }) (record y { transfer = None }) refl refl now.active.both.units (no_transfers μ.image) v.at;
  }

  -- where no transfer is in progress none was found
  none_found : (stage : Option ℤ) → IsStaged μ x y stage → x.transfer ≡ None → y.transfer ≡ None → (μ.transfer ≡ None) × (μ.other ≡ None)
  none_found None staged one other = (sym staged.0 ∙ one, sym staged.1 ∙ other)
  none_found (Some unit) staged one other = (staged.1, staged.2)

  -- ### The start

  begun : (way : Direction) (layout : Layout) (controls : Controls) (ps : Pures) (m : ℕ) → st ≡ Acts (Starts way layout controls) ps m → way ≡ Output → layout ≡ Listed → (start : IsStart e.writing v.at controls ps item.item) → (found : Option fortran.Transfer) → x.transfer ≡ found
      → Meets (call_couple s number u costs e) μ w y (cost costs v.at) (step u v x)
  unfolding done acting coursing course_of onward to all_meant meant given_that leads leads_on stage_behind kind_after unit_of begins library
  begun way layout controls ps m form out list start (Some t) there =
      let event : step u v x ≡ Breaks fortran_values.TransferInTransfer =
      sym (done_is (step u v x) refl) ∙ (λ i. done u v x (Some (form i)))
      ∙ (λ i. acting u m v x (Starts (out i) (list i) (start.plainly i)) (all_meant u.facts v.frame v.kept x.store (start.operands i)))
      ∙ ap (λ o. coursing u m v (begins u.facts.program.formats x Output Listed unit_alone (IsInt start.unit ∷ []) o)) there in
      subst (Meets (call_couple s number u costs e) μ w y (cost costs v.at)) (sym event) (λ claimed. absurd claimed)
  begun way layout controls ps m form out list start None there =
      let event : step u v x ≡ coursing u m v (begins u.facts.program.formats x Output Listed unit_alone (IsInt start.unit ∷ []) x.transfer) =
      sym (done_is (step u v x) refl) ∙ (λ i. done u v x (Some (form i)))
      ∙ (λ i. acting u m v x (Starts (out i) (list i) (start.plainly i)) (all_meant u.facts v.frame v.kept x.store (start.operands i))) in
      let none = none_in_both μ.image.homes x.transfer y.transfer now.active.both.transfers.same there in
      let nothing = none_found (e.stage v.at) now.staged there none in
      let control : s.first.frozen (e.writing.library.list v.at) ≡ Some (list_object start.unit) = is.fit.lists v.at way layout controls ps m start.unit (at ∙ ap Some form) (ap unit_of start.operands) in
      let held : slice_get y.objects (e.writing.library.list v.at) ≡ Some (list_object start.unit) = stands.held (e.writing.library.list v.at) (list_object start.unit) (still (e.writing.library.list v.at) (list_object start.unit) control) in
      let valued : values_of y.objects (address_of (c_term.Variable (e.writing.library.list v.at) (ToList list_type.Transfer)) ∷ []) ≡ Ok (Pointer (e.writing.library.list v.at) 0 ∷ []) =
      values_of-cons y.objects (address_of (c_term.Variable (e.writing.library.list v.at) (ToList list_type.Transfer))) [] (Pointer (e.writing.library.list v.at) 0) [] (address_of_variable y.objects (e.writing.library.list v.at) (ToList list_type.Transfer)) refl in
      let calls : (reply : Reply) → library s_wsle y (Pointer (e.writing.library.list v.at) 0 ∷ []) ≡ Ok reply → c_steps.step e.function w y ≡ replied w WantsNothing reply =
      λ reply given. called (codes "s_wsle") 14 _ _ (signature s_wsle (codes "s_wsle") one_list true) reply start.is refl refl valued refl given in
      subst (Meets (call_couple s number u costs e) μ w y (cost costs v.at)) (sym event)
      (by nothing.0 nothing.1 _ _ (starts_are_alike u.facts.program.formats x y start.unit (e.writing.library.list v.at) there none now.active.both.units held) calls)
    where
      kinds_are : kind_after e.writing v.at st ≡ e.writing.kind v.at
      kinds_are = ap (kind_after e.writing v.at) form

      led_on : IsIn (suc v.at) (leads_on u v.at st)
      led_on = subst (λ o. IsIn (suc v.at) (leads_on u v.at o)) (sym form) first_in

      staged_as : e.stage (suc v.at) ≡ Some start.unit
      staged_as = is.fit.stages v.at st (suc v.at) at led_on ∙ ap (stage_behind (e.stage v.at)) form ∙ ap unit_of start.operands

      by : μ.transfer ≡ None → μ.other ≡ None → (course : Course) (reply : Or Reply) → GoOnOrStop x y start.unit (reads_zero_blanks start.unit x.units) [] course reply → ((r : Reply) → reply ≡ Ok r → c_steps.step e.function w y ≡ replied w WantsNothing r)
          → Meets (call_couple s number u costs e) μ w y (cost costs v.at) (coursing u m v course)
      by none none' course reply (go_on g) calls =
          subst (λ z. Meets (call_couple s number u costs e) μ w y (cost costs v.at) (coursing u m v z)) (sym g.one)
          (goes_on start.unit (reads_zero_blanks start.unit x.units) [] g.units g.written kinds_are led_on staged_as none none' (calls _ g.other))
      by none none' course reply (stop g) calls =
          subst (λ z. Meets (call_couple s number u costs e) μ w y (cost costs v.at) (coursing u m v z)) (sym g.one) (both_end course reply g.number g.other (calls _ g.other))

  -- ### An item

  on_it : is_of_output st ≡ true → (unit : ℤ) × (e.stage v.at ≡ Some unit) × OutputIsOn x y unit × (μ.transfer ≡ None) × (μ.other ≡ None)
  on_it of =
      let stage = is.fit.outputs v.at st at of in
      let on : IsStaged μ x y (Some stage.0) = subst (IsStaged μ x y) stage.1 now.staged in
      (stage.0, stage.1, on.0, on.1, on.2)

  -- a constant is held now
  constants : (z : ℤ) → e.writing.library.has z ≡ true → Holds (now.active.now.frozen (e.writing.library.constant z)) (IsInt z)
  constants z has = let held = is.fit.constants z has in record { bytes = held.bytes; is = still (e.writing.library.constant z) (Stored held.bytes) held.is; begins = held.begins }

  constant_read : (z : ℤ) → e.writing.library.has z ≡ true → number_through y.objects (Pointer (e.writing.library.constant z) 0) ≡ Ok z
  constant_read z has =
      number_there y.objects (e.writing.library.constant z) 0 z (held_number now.active.now x.store y.objects (e.writing.library.constant z) (IsInt z) (ANumber z) stands (constants z has) refl)

  taken_by : (ps : Pures) (m : ℕ) → st ≡ Acts Takes ps m → (one : IsItemOf e.writing v.at ps item.item) → (found : Checked Datum) → meant u.facts v.frame v.kept x.store one.value ≡ found → Meets (call_couple s number u costs e) μ w y (cost costs v.at) (step u v x)
  unfolding done acting coursing course_of onward to all_meant given_that leads leads_on stage_behind kind_after is_of_output
  taken_by ps m form one (Fails act) found =
      let event : step u v x ≡ Breaks act =
      sym (done_is (step u v x) refl) ∙ (λ i. done u v x (Some (form i))) ∙ (λ i. acting u m v x Takes (all_meant u.facts v.frame v.kept x.store (one.operands i)))
      ∙ ap (λ r. acting u m v x Takes (given_that r (λ d. given_that (Gives []) (λ ds. Gives (d ∷ ds))))) found in
      subst (Meets (call_couple s number u costs e) μ w y (cost costs v.at)) (sym event) (λ claimed. absurd claimed)
  taken_by ps m form one (Gives d) found =
      let event : step u v x ≡ coursing u m v (item_done x d x.transfer) =
      sym (done_is (step u v x) refl) ∙ (λ i. done u v x (Some (form i))) ∙ (λ i. acting u m v x Takes (all_meant u.facts v.frame v.kept x.store (one.operands i)))
      ∙ ap (λ r. acting u m v x Takes (given_that r (λ d. given_that (Gives []) (λ ds. Gives (d ∷ ds))))) found in
      let gives : meant e.writing.facts v.frame v.kept x.store one.value ≡ Gives d = ap (λ f. meant f v.frame v.kept x.store one.value) is.facts ∙ found in
      let typed = types_are_right e.writing v.at v.frame v.kept x.store one.value d one.type now.active.known.types now.typed one.typed gives in
      let kept : meant e.writing.facts v.frame (numbers_kept v.kept) x.store one.value ≡ Gives d =
      typed_read (meant e.writing.facts v.frame (numbers_kept v.kept) x.store one.value) one.type d typed (held_read e.writing v.frame v.kept x.store now.plain one.value one.term d one.held gives) in
      let value = whole_of_type one.type d one.kind one.kind_is typed in
      let holds = value_holds now.active.now x.store y.objects e.writing v.frame (numbers_kept v.kept) stands now.active.known constants one.value d value.1 one.term kept value.2 one.held in
      let on = on_it (ap is_of_output form) in
      let valued = item_values y.objects (e.writing.library.constant one.kind) (e.writing.library.constant (pos 1)) one.term holds.object holds.offset holds.named in
      let values = Pointer (e.writing.library.constant one.kind) 0 ∷ Pointer (e.writing.library.constant (pos 1)) 0 ∷ Pointer holds.object holds.offset ∷ Number (pos 4) ∷ [] in
      let calls : (reply : Reply) → library do_lio y values ≡ Ok reply → c_steps.step e.function w y ≡ replied w WantsNothing reply =
      λ reply given. called (codes "do_lio") 21 _ values (signature do_lio (codes "do_lio") (APointer ∷ APointer ∷ APointer ∷ TakesNumber ∷ []) true) reply one.is refl refl valued refl given in
      subst (Meets (call_couple s number u costs e) μ w y (cost costs v.at)) (sym event)
      (by on.0 on.1 on.3 on.4 on.2.zeros (on.2.values ++ value.0 ∷ []) _ _
      (items_are_alike x y on.0 on.2.zeros on.2.values on.2.written d one.kind (number_for value.1) value.0 (Pointer (e.writing.library.constant one.kind) 0) (Pointer (e.writing.library.constant (pos 1)) 0) (Pointer holds.object holds.offset)
      on.2.on value.3 (constant_read one.kind one.has_kind) (constant_read (pos 1) one.has_one) (number_there y.objects holds.object holds.offset (number_for value.1) holds.holds)) calls)
    where
      kinds_are : kind_after e.writing v.at st ≡ e.writing.kind v.at
      kinds_are = ap (kind_after e.writing v.at) form

      led_on : IsIn (suc v.at) (leads_on u v.at st)
      led_on = subst (λ o. IsIn (suc v.at) (leads_on u v.at o)) (sym form) first_in

      by : (unit : ℤ) → e.stage v.at ≡ Some unit → μ.transfer ≡ None → μ.other ≡ None → (zeros : Bool) (values : List ListedValue) (course : Course) (reply : Or Reply) → GoOnOrStop x y unit zeros values course reply → ((r : Reply) → reply ≡ Ok r → c_steps.step e.function w y ≡ replied w WantsNothing r)
          → Meets (call_couple s number u costs e) μ w y (cost costs v.at) (coursing u m v course)
      by unit stage none none' zeros values course reply (go_on g) calls =
          subst (λ z. Meets (call_couple s number u costs e) μ w y (cost costs v.at) (coursing u m v z)) (sym g.one)
          (goes_on unit zeros values g.units g.written kinds_are led_on (is.fit.stages v.at st (suc v.at) at led_on ∙ ap (stage_behind (e.stage v.at)) form ∙ stage) none none' (calls _ g.other))
      by unit stage none none' zeros values course reply (stop g) calls =
          subst (λ z. Meets (call_couple s number u costs e) μ w y (cost costs v.at) (coursing u m v z)) (sym g.one) (both_end course reply g.number g.other (calls _ g.other))

  -- ### The end

  ended : (ps : Pures) → st ≡ Acts Finishes ps 0 → IsFinish e.writing ps item.item → Meets (call_couple s number u costs e) μ w y (cost costs v.at) (step u v x)
  unfolding done acting coursing course_of past to all_meant given_that leads leads_on stage_behind kind_after is_of_output
  ended ps form finish =
      let event : step u v x ≡ coursing u 0 v (finished x x.transfer) =
      sym (done_is (step u v x) refl) ∙ (λ i. done u v x (Some (form i))) ∙ (λ i. acting u 0 v x Finishes (all_meant u.facts v.frame v.kept x.store (finish.operands i))) in
      let on = on_it (ap is_of_output form) in
      let calls : (reply : Reply) → library e_wsle y [] ≡ Ok reply → c_steps.step e.function w y ≡ replied w WantsNothing reply =
      λ reply given. called (codes "e_wsle") 24 [] [] (signature e_wsle (codes "e_wsle") [] true) reply finish.is refl refl refl refl given in
      subst (Meets (call_couple s number u costs e) μ w y (cost costs v.at)) (sym event)
      (by on.3 on.4 _ _ (ends_are_alike x y on.0 on.2.zeros on.2.values on.2.written on.2.on) calls)
    where
      kinds_are : kind_after e.writing v.at st ≡ e.writing.kind v.at
      kinds_are = ap (kind_after e.writing v.at) form

      led_on : IsIn (suc v.at) (leads_on u v.at st)
      led_on = subst (λ o. IsIn (suc v.at) (leads_on u v.at o)) (sym form) first_in

      staged_as : e.stage (suc v.at) ≡ None
      staged_as = is.fit.stages v.at st (suc v.at) at led_on ∙ ap (stage_behind (e.stage v.at)) form

      by : μ.transfer ≡ None → μ.other ≡ None → (course : Course) (reply : Or Reply) → EndOrStop x y course reply → ((r : Reply) → reply ≡ Ok r → c_steps.step e.function w y ≡ replied w WantsNothing r) → Meets (call_couple s number u costs e) μ w y (cost costs v.at) (coursing u 0 v course)
      by none none' course reply (end' g) calls =
          let behind : suc v.at + 0 ≡ suc v.at = omega arith in
          let x' : fortran.World = record x { units = g.units; transfer = None } in
          let y' : c.World = record y { units = g.units; transfer = None } in
          subst (λ z. Meets (call_couple s number u costs e) μ w y (cost costs v.at) (coursing u 0 v z)) (sym g.one)
          (subst (λ n. Meets (call_couple s number u costs e) μ w y (cost costs v.at) (Goes (record v { at = n }) x')) (sym behind)
          (record {
            count = 1;
            view = c_steps.past w;
            shared = y';
            does = last (calls _ g.other) refl;
            few = is.positive v.at st at;
            matched = record {
              position = ap (λ n. n + 1) now.position ∙ sym (is.in_order v.at st at);
              active = active_behind x' y' refl refl refl (no_transfers μ.image) (suc v.at);
              plain = now.plain;
              typed = kept_as kinds_are led_on;
              staged = subst (IsStaged μ x' y') (sym staged_as) (sym none, sym none');
            };
          }))
      by none none' course reply (both_stopped g) calls =
          subst (λ z. Meets (call_couple s number u costs e) μ w y (cost costs v.at) (coursing u 0 v z)) (sym g.one) (both_end course reply g.number g.other (calls _ g.other))

  -- ### STOP

  text_read : (text : Bytes) → Holds (s.first.frozen (e.writing.library.text v.at)) (IsText text) → text_at y.objects (Pointer (e.writing.library.text v.at) 0) (length text) ≡ Ok text
  text_read text held =
      held_text now.active.now x.store y.objects (e.writing.library.text v.at) text stands (record { bytes = held.bytes; is = still (e.writing.library.text v.at) (Stored held.bytes) held.is; begins = held.begins })

  stop_replies : (text : Bytes) → text_at y.objects (Pointer (e.writing.library.text v.at) 0) (length text) ≡ Ok text → library s_stop y (Pointer (e.writing.library.text v.at) 0 ∷ Number (pos (length text)) ∷ []) ≡ Ok (c.Stops (stop_ending text) y)
  unfolding library stops
  stop_replies text read =
      ap (λ r. after r λ count. after (text_at y.objects (Pointer (e.writing.library.text v.at) 0) count) λ found. Ok (stopped y found)) (length_is (length text))
      ∙ ap (λ r. after r λ found. Ok (stopped y found)) read ∙ ap Ok (stops_by y text)

  pub halted : (text : Bytes) → st ≡ Halt text → item.item ≡ stop_item e.writing v.at text → Meets (call_couple s number u costs e) μ w y (cost costs v.at) (step u v x)
  unfolding done stop_item
  halted text form item_is =
      let event : step u v x ≡ Ends (stop_ending text) v x = sym (done_is (step u v x) refl) ∙ (λ i. done u v x (Some (form i))) in
      let read = text_read text (is.fit.texts v.at text (at ∙ ap Some form)) in
      let valued = text_values y.objects (e.writing.library.text v.at) (length text) in
      let does = called (codes "s_stop") 11 _ _ (signature s_stop (codes "s_stop") (APointer ∷ TakesNumber ∷ []) true) (c.Stops (stop_ending text) y) item_is refl refl valued refl (stop_replies text read) in
      subst (Meets (call_couple s number u costs e) μ w y (cost costs v.at)) (sym event) (record {
        count = 1;
        view = w;
        shared = y;
        does = last does refl;
        few = is.positive v.at st at;
        halted = active_behind x y refl refl now.active.both.units now.active.both.transfers v.at;
      })

  -- an act of an output
  pub acted : (act : Acting) (ps : Pures) (m : ℕ) → st ≡ Acts act ps m → flat_of e.writing e.place u.position v.at (Acts act ps m) ≡ Some item.item → Meets (call_couple s number u costs e) μ w y (cost costs v.at) (step u v x)
  unfolding flat_of
  acted (Starts Output Listed controls) ps m form emitted = begun Output Listed controls ps m form refl refl (start_by e.writing v.at controls ps item.item emitted) x.transfer refl
  acted Takes ps m form emitted = let one = takes_by e.writing v.at ps item.item emitted in taken_by ps m form one (meant u.facts v.frame v.kept x.store one.value) refl
  acted Finishes ps zero form emitted = ended ps form (finish_by e.writing ps item.item emitted)
  acted _ ps m form emitted = absurd (cc)
