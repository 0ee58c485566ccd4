-- The start, an item and the end of a list-directed output on a unit, in both runs.
use Rattle.std.specs.Prelude.{◌≡◌, ℕ, ℤ, pos, negsuc, Bool, true, false, not, List, [], ◌∷◌, ◌++◌, length, drop, Option, Some, None, Result, Ok, Err, codes, slice_get, if◌then◌else◌}
use Rattle.std.specs.Ordering.{int_eq}
use Rattle.std.proofs.Common.{refl, sym, ap, ◌∙◌}
use Rattle.faithful.specs.edit_meaning.Listed as list
use Rattle.faithful.specs.run_state.Units.{Units, is_connected, reads_zero_blanks}
use Rattle.faithful.specs.run_state.declared.refusals.UnitRefusal.{UnitRefusal}
use Rattle.faithful.specs.f_tree.Values.{Datum, IsInt, given_that}
use Rattle.faithful.specs.f_tree.Store.{Truth}
use Rattle.faithful.specs.f_tree.Facts.{Output, Listed, LabelledFormat}
use Rattle.faithful.specs.f_tree.World as fortran
use Rattle.faithful.specs.f_tree.Courses.{Course, Further, IsDone, StopsWith}
use Rattle.faithful.specs.f_tree.Statuses as statuses
use Rattle.faithful.specs.f_tree.Statuses.{fails_with}
use Rattle.faithful.specs.f_tree.Records.{Wrote, StoppedBy, put_lines}
use Rattle.faithful.specs.f_tree.Transfers as source
use Rattle.faithful.specs.f_tree.Transfers.{begins, item_done, finished}
use Rattle.faithful.specs.c_tree.declared.outcome.CValue.{CValue}
use Rattle.faithful.specs.c_tree.declared.outcome.CValue.TheVariants.{Number, Pointer}
use Rattle.faithful.specs.c_tree.declared.types.ListType.TheVariants as list_type
use Rattle.faithful.specs.c_tree.Faults.{Or, after}
use Rattle.faithful.specs.c_tree.Access.{ToList, ToField, NumberField}
use Rattle.faithful.specs.c_tree.Objects.{Object, Place, plain, fetched, read_object, as_number}
use Rattle.faithful.specs.c_tree.Values.{field}
use Rattle.faithful.specs.c_tree.World as c
use Rattle.faithful.specs.c_tree.World.{Reply}
use Rattle.faithful.specs.c_tree.Builtins.{do_lio}
use Rattle.faithful.specs.c_tree.LibraryArguments.{number_through, list_of, list_at, field_number}
use Rattle.faithful.specs.c_tree.Transfers.{refusal_number, asked, numbered, ended_by, Control, unit_control, new_transfer, passed}
use Rattle.faithful.specs.c_tree.TransferStarts.{starts, begun}
use Rattle.faithful.specs.c_tree.TransferOutput.{StopsAt, ItemKind, IntegerItem, LogicalItem, items_at, listed_put, made, put_further, put_last, put_on_unit, write_all}
use Rattle.faithful.specs.c_tree.TransferCalls.{listed_items, ends}
use Rattle.faithful.specs.c_tree.Library.{library}
use Rattle.faithful.specs.StorageImage.{number_for}
use Rattle.output_laws.specs.ListedOutputs.{fortran_listing, c_listing, list_object, unit_alone, s_wsle, e_wsle, GoOnOrStop, go_on, stop, EndOrStop, end', stopped, StartsAreAlike, IsInProgress, IsItem, an_integer, a_truth, ItemsAreAlike, EndsAreAlike}
use Rattle.output_laws.proofs.WrittenRecords.{BothWrite, wrote, refused, both_write}

abbrev world_of : List Object → Units → Option c.Transfer → c.World
world_of objects units transfer = record { objects = objects; units = units; transfer = transfer }

after_value : {A B : Type 0} (r : Or A) (a : A) (rest : A → Or B) → r ≡ Ok a → after r rest ≡ rest a
after_value r a rest is = ap (λ found. after found rest) is

-- ## The start in C

abbrev list_place : ℕ → Place
list_place n = record { at = Pointer n 0; access = ToList list_type.Transfer }

control_there : (objects : List Object) (n : ℕ) (unit : ℤ) → slice_get objects n ≡ Some (list_object unit) → list_at objects list_type.Transfer (Pointer n 0) ≡ Ok (list_place n)
control_there objects n unit there = ap (λ object. list_of list_type.Transfer object 0 (list_place n)) there

field_read : (objects : List Object) (n at : ℕ) (name : List ℕ) (unit z : ℤ) → field name (list_place n) ≡ Ok (record { at = Pointer n at; access = ToField NumberField }) →
    slice_get objects n ≡ Some (list_object unit) → read_object (ToField NumberField) at (Some (list_object unit)) ≡ Ok (plain (Number z)) → field_number objects (list_place n) name ≡ Ok z
unfolding fetched
field_read objects n at name unit z named there holds =
    ap (λ place. after (after place λ place. after (fetched objects place) λ typed. Ok typed.value) as_number) named
    ∙ ap (λ read. after (after read λ typed. Ok typed.value) as_number) (ap (read_object (ToField NumberField) at) there ∙ holds)

abbrev on_unit : ℤ → Control
on_unit unit = record { medium = c.Unit unit; on_error = pos 0; on_end = pos 0 }

control_read : (objects : List Object) (n : ℕ) (unit : ℤ) → slice_get objects n ≡ Some (list_object unit) → unit_control objects (Pointer n 0) ≡ Ok (on_unit unit)
control_read objects n unit there =
    after_value (list_at objects list_type.Transfer (Pointer n 0)) (list_place n) _ (control_there objects n unit there)
    ∙ after_value (field_number objects (list_place n) (codes "cierr")) (pos 0) _ (field_read objects n 0 (codes "cierr") unit (pos 0) refl there refl)
    ∙ after_value (field_number objects (list_place n) (codes "ciunit")) unit _ (field_read objects n 1 (codes "ciunit") unit unit refl there refl)
    ∙ after_value (field_number objects (list_place n) (codes "ciend")) (pos 0) _ (field_read objects n 2 (codes "ciend") unit (pos 0) refl there refl)

start_replies : (objects : List Object) (units : Units) (n : ℕ) (unit : ℤ) (connected : Bool) → is_connected unit units ≡ connected → slice_get objects n ≡ Some (list_object unit) →
    library s_wsle (world_of objects units None) (Pointer n 0 ∷ [])
    ≡ Ok (if connected then c.Gives (pos 0) (world_of objects units (Some (c_listing unit [] 0))) else c.Stops (c.Io (pos 6)) (world_of objects units None))
unfolding library starts
start_replies objects units n unit true is there =
    after_value (unit_control objects (Pointer n 0)) (on_unit unit) _ (control_read objects n unit there)
    ∙ ap (λ test. if test then begun (new_transfer c.Output c.Listed (on_unit unit)) (world_of objects units None) else Ok (numbered (pos 6) (pos 0) (pos 0) (world_of objects units None))) is
start_replies objects units n unit false is there =
    after_value (unit_control objects (Pointer n 0)) (on_unit unit) _ (control_read objects n unit there)
    ∙ ap (λ test. if test then begun (new_transfer c.Output c.Listed (on_unit unit)) (world_of objects units None) else Ok (numbered (pos 6) (pos 0) (pos 0) (world_of objects units None))) is

-- ## The start in FORTRAN

begins_by : (formats : List LabelledFormat) (x : fortran.World) (unit : ℤ) (connected : Bool) → is_connected unit x.units ≡ connected →
    begins formats x Output Listed unit_alone (IsInt unit ∷ []) None
    ≡ (if connected then Further (record x { transfer = Some (fortran_listing unit unit_alone (reads_zero_blanks unit x.units) [] 0) }) else fails_with x (pos 6) unit_alone None)
unfolding source.transfers_opened
begins_by formats x unit connected is =
    ap (λ test. if test then Further (record x { transfer = Some (fortran_listing unit unit_alone (reads_zero_blanks unit x.units) [] 0) }) else fails_with x (pos 6) unit_alone None) is

-- what fails with a number that nothing asks for
fails_by : (x : fortran.World) (number : ℤ) → fails_with x number unit_alone None ≡ StopsWith number (record x { transfer = None })
unfolding statuses.statuses_opened
fails_by x (pos n) = refl
fails_by x (negsuc n) = refl

starts_by : (formats : List LabelledFormat) (x : fortran.World) (y : c.World) (unit : ℤ) (n : ℕ) → x.transfer ≡ None → y.transfer ≡ None → x.units ≡ y.units → slice_get y.objects n ≡ Some (list_object unit) → (connected : Bool) → is_connected unit x.units ≡ connected
    → GoOnOrStop x y unit (reads_zero_blanks unit x.units) [] (begins formats x Output Listed unit_alone (IsInt unit ∷ []) x.transfer) (library s_wsle y (Pointer n 0 ∷ []))
starts_by formats x y unit n none none' same there true is =
    go_on (record {
      units = x.units;
      written = 0;
      one = ap (begins formats x Output Listed unit_alone (IsInt unit ∷ [])) none ∙ begins_by formats x unit true is;
      other = ap (λ t. library s_wsle (world_of y.objects y.units t) (Pointer n 0 ∷ [])) none' ∙ start_replies y.objects y.units n unit true (ap (is_connected unit) (sym same) ∙ is) there
          ∙ ap (λ u. Ok (c.Gives (pos 0) (world_of y.objects u (Some (c_listing unit [] 0))))) (sym same);
    })
starts_by formats x y unit n none none' same there false is =
    stop (record {
      number = pos 6;
      one = ap (begins formats x Output Listed unit_alone (IsInt unit ∷ [])) none ∙ begins_by formats x unit false is ∙ fails_by x (pos 6);
      other = ap (λ t. library s_wsle (world_of y.objects y.units t) (Pointer n 0 ∷ [])) none' ∙ start_replies y.objects y.units n unit false (ap (is_connected unit) (sym same) ∙ is) there;
    })

pub starts_are_alike : StartsAreAlike
starts_are_alike formats x y unit n none none' same there = starts_by formats x y unit n none none' same there (is_connected unit x.units) refl

-- ## Items

-- the records that are complete and not yet written
abbrev due : List list.ListedValue → ℕ → Bool → List (List ℕ)
due values written closed = drop written (list.listed values closed)

-- a number that nothing asks for ends the run
asked_none : (number : ℤ) → asked number (pos 0) (pos 0) ≡ pos 0
asked_none (pos n) = refl
asked_none (negsuc n) = refl

unasked : (unit number : ℤ) (values : List list.ListedValue) (written : ℕ) (world : c.World) → ended_by number (c_listing unit values written) world ≡ c.Stops (c.Io number) (record world { transfer = None })
unasked unit number values written world =
    ap (λ asks. if int_eq asks (pos 0) then c.Stops (c.Io number) (record world { transfer = None }) else c.Gives number (record world { transfer = None })) (asked_none number)

-- what an item comes to, by what writing comes to
abbrev item_reply : ℤ → List list.ListedValue → ℕ → c.World → Result Units UnitRefusal → Or Reply
item_reply unit longer written world r =
    after (after (put_on_unit unit world r) λ putting. Ok (put_further (c_listing unit longer written) (made (c_listing unit longer written) false) putting)) λ passage. Ok (passed passage)

integer_there : (objects : List Object) (p : CValue) (z : ℤ) → number_through objects p ≡ Ok z → items_at IntegerItem objects 4 1 p ≡ Ok (list.Int z ∷ [])
integer_there objects p z held = ap (λ found. after (after found λ number. Ok (list.Int number)) λ value. Ok (value ∷ [])) held

truth_there : (objects : List Object) (p : CValue) (b : Bool) → number_through objects p ≡ Ok (number_for (Truth b)) → items_at LogicalItem objects 4 1 p ≡ Ok (list.Logical b ∷ [])
truth_there objects p true held = ap (λ found. after (after found λ number. Ok (list.Logical (not (int_eq number (pos 0))))) λ value. Ok (value ∷ [])) held
truth_there objects p false held = ap (λ found. after (after found λ number. Ok (list.Logical (not (int_eq number (pos 0))))) λ value. Ok (value ∷ [])) held

item_puts : (kind : ItemKind) (objects : List Object) (units : Units) (unit : ℤ) (values : List list.ListedValue) (written : ℕ) (p : CValue) (value : list.ListedValue) → items_at kind objects 4 1 p ≡ Ok (value ∷ []) →
    listed_put kind 4 1 p (c_listing unit values written) (world_of objects units (Some (c_listing unit values written)))
    ≡ item_reply unit (values ++ value ∷ []) written (world_of objects units (Some (c_listing unit values written))) (write_all unit (due (values ++ value ∷ []) written false) units)
item_puts kind objects units unit values written p value held = after_value (items_at kind objects 4 1 p) (value ∷ []) _ held

item_replies : (objects : List Object) (units : Units) (unit : ℤ) (values : List list.ListedValue) (written : ℕ) (d : Datum) (kind number : ℤ) (value : list.ListedValue) (kind_at count_at item_at : CValue) → IsItem d kind value number →
    number_through objects kind_at ≡ Ok kind → number_through objects count_at ≡ Ok (pos 1) → number_through objects item_at ≡ Ok number →
    library do_lio (world_of objects units (Some (c_listing unit values written))) (kind_at ∷ count_at ∷ item_at ∷ Number (pos 4) ∷ [])
    ≡ item_reply unit (values ++ value ∷ []) written (world_of objects units (Some (c_listing unit values written))) (write_all unit (due (values ++ value ∷ []) written false) units)
unfolding library listed_items
item_replies objects units unit values written d kind number value kind_at count_at item_at (an_integer z) has_kind has_count has =
    after_value (number_through objects kind_at) (pos 3) _ has_kind ∙ after_value (number_through objects count_at) (pos 1) _ has_count
    ∙ item_puts IntegerItem objects units unit values written item_at (list.Int z) (integer_there objects item_at z has)
item_replies objects units unit values written d kind number value kind_at count_at item_at (a_truth b) has_kind has_count has =
    after_value (number_through objects kind_at) (pos 8) _ has_kind ∙ after_value (number_through objects count_at) (pos 1) _ has_count
    ∙ item_puts LogicalItem objects units unit values written item_at (list.Logical b) (truth_there objects item_at b has)

item_course : (x : fortran.World) (unit : ℤ) (zeros : Bool) (values : List list.ListedValue) (written : ℕ) (d : Datum) (kind number : ℤ) (value : list.ListedValue) → IsItem d kind value number →
    item_done x d (Some (fortran_listing unit unit_alone zeros values written))
    ≡ source.after_writing (fortran_listing unit unit_alone zeros (values ++ value ∷ []) written) None (put_lines (fortran.External unit) written (due (values ++ value ∷ []) written false) x)
    (λ later. source.going_on later (fortran_listing unit unit_alone zeros (values ++ value ∷ []) (length (list.listed (values ++ value ∷ []) false))))
unfolding source.transfers_opened given_that
item_course x unit zeros values written d kind number value (an_integer z) = refl
item_course x unit zeros values written d kind number value (a_truth b) = refl

refused_item : (x : fortran.World) (unit : ℤ) (zeros : Bool) (values : List list.ListedValue) (written : ℕ) (number : ℤ) (next : fortran.World → Course) →
    source.after_writing (fortran_listing unit unit_alone zeros values written) None (StoppedBy number x) next ≡ StopsWith number (record x { transfer = None })
unfolding source.after_writing
refused_item x unit zeros values written number next = fails_by x number

wrote_item : (x : fortran.World) (units : Units) (t later : fortran.Transfer) → source.after_writing t None (Wrote (record x { units = units })) (λ w. source.going_on w later) ≡ Further (record x { units = units; transfer = Some later })
unfolding source.after_writing source.unless_halted source.going_on
wrote_item x units t later = refl

refused_reply : (unit : ℤ) (longer : List list.ListedValue) (written : ℕ) (world : c.World) (refusal : UnitRefusal) (number : ℤ) → refusal_number refusal ≡ Ok number → item_reply unit longer written world (Err refusal) ≡ Ok (c.Stops (c.Io number) (record world { transfer = None }))
refused_reply unit longer written world refusal number is =
    ap (λ found. after (after (after found λ number. Ok (StopsAt number world)) λ putting. Ok (put_further (c_listing unit longer written) (made (c_listing unit longer written) false) putting)) λ passage. Ok (passed passage)) is
    ∙ ap Ok (unasked unit number longer written world)

items_by : (x : fortran.World) (y : c.World) (unit : ℤ) (zeros : Bool) (values : List list.ListedValue) (written : ℕ) (d : Datum) (kind number : ℤ) (value : list.ListedValue) (kind_at count_at item_at : CValue) →
    IsInProgress x y unit zeros values written → IsItem d kind value number → number_through y.objects kind_at ≡ Ok kind → number_through y.objects count_at ≡ Ok (pos 1) → number_through y.objects item_at ≡ Ok number →
    BothWrite unit (due (values ++ value ∷ []) written false) written x →
    GoOnOrStop x y unit zeros (values ++ value ∷ []) (item_done x d x.transfer) (library do_lio y (kind_at ∷ count_at ∷ item_at ∷ Number (pos 4) ∷ []))
items_by x y unit zeros values written d kind number value kind_at count_at item_at on item has_kind has_count has both =
    let longer = values ++ value ∷ [] in
    let course = ap (item_done x d) on.one ∙ item_course x unit zeros values written d kind number value item in
    let reply = ap (λ t. library do_lio (world_of y.objects y.units t) (kind_at ∷ count_at ∷ item_at ∷ Number (pos 4) ∷ [])) on.other
    ∙ item_replies y.objects y.units unit values written d kind number value kind_at count_at item_at item has_kind has_count has
    ∙ ap (λ u. item_reply unit longer written (world_of y.objects u (Some (c_listing unit values written))) (write_all unit (due longer written false) u)) (sym on.units) in
    elim both [
      | wrote units ok put ↦ go_on (record {
        units = units;
        written = length (list.listed longer false);
        one = course ∙ ap (λ w. source.after_writing (fortran_listing unit unit_alone zeros longer written) None w (λ later. source.going_on later (fortran_listing unit unit_alone zeros longer (length (list.listed longer false))))) put
            ∙ wrote_item x units (fortran_listing unit unit_alone zeros longer written) (fortran_listing unit unit_alone zeros longer (length (list.listed longer false)));
        other = reply ∙ ap (item_reply unit longer written (world_of y.objects x.units (Some (c_listing unit values written)))) ok;
      })
      | refused refusal n bad numbers put ↦ stop (record {
        number = n;
        one = course ∙ ap (λ w. source.after_writing (fortran_listing unit unit_alone zeros longer written) None w (λ later. source.going_on later (fortran_listing unit unit_alone zeros longer (length (list.listed longer false))))) put
            ∙ refused_item x unit zeros longer written n _;
        other = reply ∙ ap (item_reply unit longer written (world_of y.objects x.units (Some (c_listing unit values written)))) bad
            ∙ refused_reply unit longer written (world_of y.objects x.units (Some (c_listing unit values written))) refusal n numbers
            ∙ ap (λ u. Ok (c.Stops (c.Io n) (world_of y.objects u None))) on.units;
      })
    ]

pub items_are_alike : ItemsAreAlike
items_are_alike x y unit zeros values written d kind number value kind_at count_at item_at on item has_kind has_count has =
    items_by x y unit zeros values written d kind number value kind_at count_at item_at on item has_kind has_count has (both_write unit (due (values ++ value ∷ []) written false) written x)

-- ## The end

abbrev end_reply : ℤ → List list.ListedValue → ℕ → c.World → Result Units UnitRefusal → Or Reply
end_reply unit values written world r = after (put_on_unit unit world r) λ putting. Ok (put_last (c_listing unit values written) None putting)

end_replies : (objects : List Object) (units : Units) (unit : ℤ) (values : List list.ListedValue) (written : ℕ) →
    library e_wsle (world_of objects units (Some (c_listing unit values written))) []
    ≡ end_reply unit values written (world_of objects units (Some (c_listing unit values written))) (write_all unit (due values written true) units)
unfolding library ends
end_replies objects units unit values written = refl

end_course : (x : fortran.World) (unit : ℤ) (zeros : Bool) (values : List list.ListedValue) (written : ℕ) →
    finished x (Some (fortran_listing unit unit_alone zeros values written))
    ≡ source.after_writing (fortran_listing unit unit_alone zeros values written) None (put_lines (fortran.External unit) written (due values written true) x) (λ later. statuses.ends_well later None)
unfolding source.transfers_opened
end_course x unit zeros values written = refl

ended_well : (x : fortran.World) (units : Units) (t : fortran.Transfer) → source.after_writing t None (Wrote (record x { units = units })) (λ w. statuses.ends_well w None) ≡ IsDone (record x { units = units; transfer = None })
unfolding source.after_writing source.unless_halted statuses.statuses_opened
ended_well x units t = refl

refused_end : (unit : ℤ) (values : List list.ListedValue) (written : ℕ) (world : c.World) (refusal : UnitRefusal) (number : ℤ) → refusal_number refusal ≡ Ok number → end_reply unit values written world (Err refusal) ≡ Ok (c.Stops (c.Io number) (record world { transfer = None }))
refused_end unit values written world refusal number is =
    ap (λ found. after (after found λ number. Ok (StopsAt number world)) λ putting. Ok (put_last (c_listing unit values written) None putting)) is ∙ ap Ok (unasked unit number values written world)

ends_by : (x : fortran.World) (y : c.World) (unit : ℤ) (zeros : Bool) (values : List list.ListedValue) (written : ℕ) → IsInProgress x y unit zeros values written → BothWrite unit (due values written true) written x →
    EndOrStop x y (finished x x.transfer) (library e_wsle y [])
ends_by x y unit zeros values written on both =
    let course = ap (finished x) on.one ∙ end_course x unit zeros values written in
    let reply = ap (λ t. library e_wsle (world_of y.objects y.units t) []) on.other ∙ end_replies y.objects y.units unit values written
    ∙ ap (λ u. end_reply unit values written (world_of y.objects u (Some (c_listing unit values written))) (write_all unit (due values written true) u)) (sym on.units) in
    elim both [
      | wrote units ok put ↦ end' (record {
        units = units;
        one = course ∙ ap (λ w. source.after_writing (fortran_listing unit unit_alone zeros values written) None w (λ later. statuses.ends_well later None)) put
            ∙ ended_well x units (fortran_listing unit unit_alone zeros values written);
        other = reply ∙ ap (end_reply unit values written (world_of y.objects x.units (Some (c_listing unit values written)))) ok;
      })
      | refused refusal n bad numbers put ↦ stopped (record {
        number = n;
        one = course ∙ ap (λ w. source.after_writing (fortran_listing unit unit_alone zeros values written) None w (λ later. statuses.ends_well later None)) put ∙ refused_item x unit zeros values written n _;
        other = reply ∙ ap (end_reply unit values written (world_of y.objects x.units (Some (c_listing unit values written)))) bad
            ∙ refused_end unit values written (world_of y.objects x.units (Some (c_listing unit values written))) refusal n numbers
            ∙ ap (λ u. Ok (c.Stops (c.Io n) (world_of y.objects u None))) on.units;
      })
    ]

pub ends_are_alike : EndsAreAlike
ends_are_alike x y unit zeros values written on = ends_by x y unit zeros values written on (both_write unit (due values written true) written x)
