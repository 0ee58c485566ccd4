-- What the library reads and stores through its arguments, and its functions of numbers, texts and units, are values or
-- faults.
use Rattle.std.specs.Prelude.{ℕ, zero, suc, ℤ, pos, negsuc, Bool, true, false, List, [], ◌∷◌, length, Option, Some, None, Result, Ok, Err, codes, slice_get}
use Rattle.c_laws.specs.run_state.Units.{Units, UnitState, Picked, Closing, with_unit, with_record, unless_ended, write_at, write_unit, one_back, back_at, back_unit, rewind_at, rewind_unit, end_at, end_unit, close_at, close_unit, connect_file, pick, open_at, open_unit}
use Rattle.c_laws.specs.run_state.declared.refusals.UnitRefusal.{UnitRefusal}
use Rattle.c_laws.specs.run_state.declared.refusals.UnitRefusal.TheVariants.{NotConnected, NotOffered, Taken, PastEnd, Failed}
use Rattle.c_laws.specs.c_tree.declared.outcome.CValue.{CValue}
use Rattle.c_laws.specs.c_tree.declared.outcome.CValue.TheVariants.{Pointer, Null}
use Rattle.c_laws.specs.c_tree.declared.outcome.CFault.TheVariants.{Library}
use Rattle.c_laws.specs.c_tree.declared.types.ListType.{ListType}
use Rattle.c_laws.specs.c_tree.declared.types.ListType.TheVariants as list_type
use Rattle.c_laws.specs.c_tree.Faults.{Or, failing}
use Rattle.c_laws.specs.c_tree.Access.{Access, ToList}
use Rattle.c_laws.specs.c_tree.Objects.{Object, Bytes, Values, Place}
use Rattle.c_laws.specs.c_tree.World.{World, Transfer}
use Rattle.c_laws.specs.c_tree.LibraryArguments.{number_through, count_from, length_from, text_in, text_through, text_at, with_text, store_text, text_stored, list_in, list_of, list_at, name_from, name_in, name_at, field_value, field_number, shifted as further, fitted}
use Rattle.c_laws.specs.c_tree.LibraryNumbers.{in_32_bits, power, signed, positive_difference, on_integers, on_integer, or_fault, truth_or_fault}
use Rattle.c_laws.specs.c_tree.LibraryTexts.{put_text, copied, on_texts, pieces, concatenated}
use Rattle.c_laws.specs.c_tree.LibraryUnits.{changed_units, name_given, zero_blanks_given, opens, closed, closes, positions}
use Rattle.c_laws.specs.c_tree.Transfers.{refusal_number, outside_transfers, in_transfer}
use Rattle.c_totality.specs.Sound.{IsMeant, gives, faults}
use Rattle.c_totality.proofs.SoundLaws.{after-meant, meant}
use Rattle.c_totality.proofs.ValueSound.{as_number-meant, fetched-meant, bytes_at-meant, with_bytes-meant, field-meant, checked-meant}

-- ## Arguments

pub number_through-meant : (objects : List Object) (pointer : CValue) → IsMeant (number_through objects pointer)
number_through-meant objects pointer = after-meant (fetched-meant objects _) (λ typed. as_number-meant typed.value)

pub count_from-meant : (number : ℤ) → IsMeant (count_from number)
count_from-meant number = search meant

pub length_from-meant : (value : CValue) → IsMeant (length_from value)
length_from-meant value = after-meant (as_number-meant value) count_from-meant

pub text_in-meant : (object : Option Object) (offset count : ℕ) → IsMeant (text_in object offset count)
text_in-meant None offset count = search meant
text_in-meant (Some (Bytes bytes)) offset count = bytes_at-meant offset count bytes
text_in-meant (Some (Values held)) offset count = search meant

pub text_through-meant : (objects : List Object) (pointer : CValue) (count : ℕ) → IsMeant (text_through objects pointer count)
text_through-meant objects (Pointer object offset) count = text_in-meant (slice_get objects object) offset count
text_through-meant objects other count = search meant

pub text_at-meant : (objects : List Object) (pointer : CValue) (count : ℕ) → IsMeant (text_at objects pointer count)
text_at-meant objects pointer count = search (meant, text_through-meant)

pub with_text-meant : (offset : ℕ) (text : List ℕ) (object : Option Object) → IsMeant (with_text offset text object)
with_text-meant offset text None = search meant
with_text-meant offset text (Some (Bytes bytes)) = with_bytes-meant offset text bytes
with_text-meant offset text (Some (Values held)) = search meant

pub store_text-meant : (objects : List Object) (pointer : CValue) (text : List ℕ) → IsMeant (store_text objects pointer text)
store_text-meant objects (Pointer object offset) text = after-meant (with_text-meant offset text (slice_get objects object)) (λ changed. gives _)
store_text-meant objects other text = search meant

pub text_stored-meant : (objects : List Object) (pointer : CValue) (text : List ℕ) → IsMeant (text_stored objects pointer text)
text_stored-meant objects pointer [] = gives _
text_stored-meant objects pointer (first ∷ rest) = store_text-meant objects pointer (first ∷ rest)

pub list_in-meant : (type : ListType) (access : Access) (size offset : ℕ) (place : Place) → IsMeant (list_in type access size offset place)
list_in-meant type (ToList other) size offset place = search meant
list_in-meant type access size offset place = search meant

pub list_of-meant : (type : ListType) (object : Option Object) (offset : ℕ) (place : Place) → IsMeant (list_of type object offset place)
list_of-meant type None offset place = search meant
list_of-meant type (Some (Bytes bytes)) offset place = search meant
list_of-meant type (Some (Values held)) offset place = list_in-meant type held.type (length held.values) offset place

pub list_at-meant : (objects : List Object) (type : ListType) (pointer : CValue) → IsMeant (list_at objects type pointer)
list_at-meant objects type (Pointer object offset) = search list_of-meant
list_at-meant objects type other = search meant

pub name_from-meant : (bytes : List (Option ℕ)) → IsMeant (name_from bytes)
name_from-meant [] = faults _
name_from-meant (None ∷ later) = faults _
name_from-meant (Some zero ∷ later) = gives _
name_from-meant (Some (suc less) ∷ later) = after-meant (name_from-meant later) (λ bytes. gives _)

pub name_in-meant : (object : Option Object) (offset : ℕ) → IsMeant (name_in object offset)
name_in-meant None offset = search meant
name_in-meant (Some (Bytes bytes)) offset = search name_from-meant
name_in-meant (Some (Values held)) offset = search meant

pub name_at-meant : (objects : List Object) (pointer : CValue) → IsMeant (name_at objects pointer)
name_at-meant objects (Pointer object offset) = name_in-meant (slice_get objects object) offset
name_at-meant objects other = search meant

pub field_value-meant : (objects : List Object) (list : Place) (name : List ℕ) → IsMeant (field_value objects list name)
field_value-meant objects list name = after-meant (field-meant name list) (λ place. after-meant (fetched-meant objects place) (λ typed. gives _))

pub field_number-meant : (objects : List Object) (list : Place) (name : List ℕ) → IsMeant (field_number objects list name)
field_number-meant objects list name = after-meant (field_value-meant objects list name) as_number-meant

-- ## Numbers

pub in_32_bits-meant : (number : ℤ) → IsMeant (in_32_bits number)
in_32_bits-meant number = after-meant (checked-meant number) (λ typed. as_number-meant typed.value)

pub power-meant : (base exponent : ℤ) → IsMeant (power base exponent)
power-meant base (pos exponent) = search in_32_bits-meant
power-meant base (negsuc exponent) = search meant

pub signed-meant : (number sign : ℤ) → IsMeant (signed number sign)
signed-meant number sign = search in_32_bits-meant

pub positive_difference-meant : (left right : ℤ) → IsMeant (positive_difference left right)
positive_difference-meant left right = search (meant, in_32_bits-meant)

pub on_integers-meant : (result : ℤ → ℤ → Or ℤ) (world : World) (first second : CValue) → ((left right : ℤ) → IsMeant (result left right)) → IsMeant (on_integers result world first second)
unfolding on_integers
on_integers-meant result world first second each =
    after-meant (number_through-meant world.objects first) (λ left. after-meant (number_through-meant world.objects second) (λ right. after-meant (each left right) (λ number. gives _)))

pub on_integer-meant : (result : ℤ → ℤ) (world : World) (pointer : CValue) → IsMeant (on_integer result world pointer)
unfolding on_integer
on_integer-meant result world pointer = after-meant (number_through-meant world.objects pointer) (λ number. gives _)

pub or_fault-meant : (number : Option ℤ) → IsMeant (or_fault number)
or_fault-meant None = search meant
or_fault-meant (Some number) = search meant

pub truth_or_fault-meant : (truth : Option Bool) → IsMeant (truth_or_fault truth)
truth_or_fault-meant None = search meant
truth_or_fault-meant (Some truth) = search meant

-- ## Texts

pub put_text-meant : (world : World) (pointer : CValue) (size : ℕ) (text : List ℕ) → IsMeant (put_text world pointer size text)
put_text-meant world pointer size text = after-meant (text_stored-meant world.objects pointer (fitted size text)) (λ objects. gives _)

pub copied-meant : (world : World) (target source target_length source_length : CValue) → IsMeant (copied world target source target_length source_length)
unfolding copied
copied-meant world target source target_length source_length =
    after-meant (length_from-meant target_length) (λ size. after-meant (length_from-meant source_length) (λ count.
    after-meant (text_at-meant world.objects source count) (λ text. put_text-meant world target size text)))

pub on_texts-meant : (number : List ℕ → List ℕ → ℤ) (world : World) (first second first_length second_length : CValue) → IsMeant (on_texts number world first second first_length second_length)
unfolding on_texts
on_texts-meant number world first second first_length second_length =
    after-meant (length_from-meant first_length) (λ size. after-meant (length_from-meant second_length) (λ count.
    after-meant (text_at-meant world.objects first size) (λ left. after-meant (text_at-meant world.objects second count) (λ right. gives _))))

pub pieces-meant : (objects : List Object) (addresses lengths : CValue) (count : ℕ) → IsMeant (pieces objects addresses lengths count)
pieces-meant objects addresses lengths zero = gives _
pieces-meant objects addresses lengths (suc count) =
    after-meant (fetched-meant objects _) (λ address. after-meant (number_through-meant objects lengths) (λ number. after-meant (count_from-meant number) (λ size.
    after-meant (text_at-meant objects address.value size) (λ piece. after-meant (pieces-meant objects (further 1 addresses) (further 4 lengths) count) (λ later. gives _)))))

pub concatenated-meant : (world : World) (target addresses lengths count_pointer target_length : CValue) → IsMeant (concatenated world target addresses lengths count_pointer target_length)
unfolding concatenated
concatenated-meant world target addresses lengths count_pointer target_length =
    after-meant (number_through-meant world.objects count_pointer) (λ number. after-meant (count_from-meant number) (λ count. after-meant (length_from-meant target_length) (λ size.
    after-meant (pieces-meant world.objects addresses lengths count) (λ text. put_text-meant world target size text))))

-- ## Units: what is done with one is refused only for reasons that have a number

pub data HasNumber {A : Type 0} : Result A UnitRefusal → Type 0 where
  is_done : (a : A) → HasNumber (Ok a)
  is_refused : (refusal : UnitRefusal) → IsMeant (refusal_number refusal) → HasNumber (Err refusal)

pub not_connected : {A : Type 0} → HasNumber {A = A} (Err NotConnected)
not_connected = is_refused NotConnected (gives _)

pub not_offered : {A : Type 0} → HasNumber {A = A} (Err NotOffered)
not_offered = is_refused NotOffered (gives _)

pub taken : {A : Type 0} → HasNumber {A = A} (Err Taken)
taken = is_refused Taken (gives _)

pub past_end : {A : Type 0} → HasNumber {A = A} (Err PastEnd)
past_end = is_refused PastEnd (gives _)

pub ended_has_number : (ended : Bool) (units : Units) → HasNumber (unless_ended ended units)
ended_has_number true units = past_end
ended_has_number false units = is_done units

pub write_at_has_number : (number : ℤ) (bytes : List ℕ) (state : Option UnitState) (units : Units) → HasNumber (write_at number bytes state units)
write_at_has_number number bytes None units = not_connected
write_at_has_number number bytes (Some unit) units = ended_has_number unit.end_mark (with_unit number (Some (with_record bytes unit)) units)

pub write_has_number : (number : ℤ) (bytes : List ℕ) (units : Units) → HasNumber (write_unit number bytes units)
unfolding write_unit
write_has_number number bytes units = write_at_has_number number bytes (units.connected number) units

pub back_at_has_number : (number : ℤ) (state : Option UnitState) (units : Units) → HasNumber (back_at number state units)
back_at_has_number number None units = not_connected
back_at_has_number number (Some unit) units = is_done (with_unit number (Some (one_back unit.end_mark unit)) units)

pub back_has_number : (number : ℤ) (units : Units) → HasNumber (back_unit number units)
unfolding back_unit
back_has_number number units = back_at_has_number number (units.connected number) units

pub rewind_at_has_number : (number : ℤ) (state : Option UnitState) (units : Units) → HasNumber (rewind_at number state units)
rewind_at_has_number number None units = not_connected
rewind_at_has_number number (Some unit) units = is_done _

pub rewind_has_number : (number : ℤ) (units : Units) → HasNumber (rewind_unit number units)
unfolding rewind_unit
rewind_has_number number units = rewind_at_has_number number (units.connected number) units

pub end_at_has_number : (number : ℤ) (state : Option UnitState) (units : Units) → HasNumber (end_at number state units)
end_at_has_number number None units = not_connected
end_at_has_number number (Some unit) units = ended_has_number unit.end_mark _

pub end_has_number : (number : ℤ) (units : Units) → HasNumber (end_unit number units)
unfolding end_unit
end_has_number number units = end_at_has_number number (units.connected number) units

pub close_at_has_number : (number : ℤ) (state : Option UnitState) (units : Units) → HasNumber (close_at number state units)
close_at_has_number number None units = not_connected
close_at_has_number number (Some unit) units = is_done _

pub close_has_number : (number : ℤ) (units : Units) → HasNumber (close_unit number units)
unfolding close_unit
close_has_number number units = close_at_has_number number (units.connected number) units

pub connect_has_number : (number : ℤ) (zeros : Bool) (picked : Option Picked) (units : Units) → HasNumber (connect_file number zeros picked units)
connect_has_number number zeros None units = not_offered
connect_has_number number zeros (Some picked) units = is_done _

pub open_at_has_number : (number : ℤ) (name : List ℕ) (zeros : Bool) (state : Option UnitState) (units : Units) → HasNumber (open_at number name zeros state units)
open_at_has_number number name zeros None units = connect_has_number number zeros (pick name units.drawer) units
open_at_has_number number name zeros (Some unit) units = taken

pub open_has_number : (number : ℤ) (name : List ℕ) (zeros : Bool) (units : Units) → HasNumber (open_unit number name zeros units)
unfolding open_unit
open_has_number number name zeros units = open_at_has_number number name zeros (units.connected number) units

-- ## The calls on units

outside-meant : (world : World) (transfer : Option Transfer) → IsMeant {A = World} (elim transfer [ None ↦ Ok world | Some transfer ↦ failing Library ])
outside-meant world None = gives _
outside-meant world (Some transfer) = faults _

pub outside_transfers-meant : (world : World) → IsMeant (outside_transfers world)
outside_transfers-meant world = outside-meant world world.transfer

inside-meant : (transfer : Option Transfer) → IsMeant {A = Transfer} (elim transfer [ None ↦ failing Library | Some transfer ↦ Ok transfer ])
inside-meant None = faults _
inside-meant (Some transfer) = gives _

pub in_transfer-meant : (world : World) → IsMeant (in_transfer world)
in_transfer-meant world = inside-meant world.transfer

pub changed_units-meant : (on_error : ℤ) (world : World) (result : Result Units UnitRefusal) → HasNumber result → IsMeant (changed_units on_error world result)
changed_units-meant on_error world result (is_done units) = gives _
changed_units-meant on_error world result (is_refused refusal number) = after-meant number (λ number. gives _)

pub name_given-meant : (objects : List Object) (unit : ℤ) (pointer size : CValue) → IsMeant (name_given objects unit pointer size)
name_given-meant objects unit Null size = gives _
name_given-meant objects unit pointer size = after-meant (length_from-meant size) (λ count. after-meant (text_at-meant objects pointer count) (λ text. gives _))

pub zero_blanks_given-meant : (objects : List Object) (pointer : CValue) → IsMeant (zero_blanks_given objects pointer)
zero_blanks_given-meant objects Null = gives _
zero_blanks_given-meant objects pointer = after-meant (fetched-meant objects _) (λ typed. after-meant (as_number-meant typed.value) (λ byte. gives _))

pub opens-meant : (world : World) (pointer : CValue) → IsMeant (opens world pointer)
unfolding opens
opens-meant world pointer =
    after-meant (outside_transfers-meant world) (λ outside. after-meant (list_at-meant world.objects list_type.Open pointer) (λ list.
    after-meant (field_number-meant world.objects list (codes "oerr")) (λ on_error. after-meant (field_number-meant world.objects list (codes "ounit")) (λ unit.
    after-meant (field_value-meant world.objects list (codes "ofnm")) (λ name. after-meant (field_value-meant world.objects list (codes "ofnmlen")) (λ size.
    after-meant (name_given-meant world.objects unit name size) (λ file. after-meant (field_value-meant world.objects list (codes "oblnk")) (λ blanks.
    after-meant (zero_blanks_given-meant world.objects blanks) (λ zero_blanks.
    changed_units-meant on_error world _ (open_has_number unit file zero_blanks world.units))))))))))

pub closed_has_number : (world : World) (result : Result Closing UnitRefusal) → HasNumber result → HasNumber (closed world result)
closed_has_number world result (is_done closing) = is_done _
closed_has_number world result (is_refused NotConnected number) = is_done _
closed_has_number world result (is_refused NotOffered number) = is_refused NotOffered number
closed_has_number world result (is_refused Taken number) = is_refused Taken number
closed_has_number world result (is_refused PastEnd number) = is_refused PastEnd number
closed_has_number world result (is_refused Failed number) = is_refused Failed number

pub closes-meant : (world : World) (pointer : CValue) → IsMeant (closes world pointer)
unfolding closes
closes-meant world pointer =
    after-meant (outside_transfers-meant world) (λ outside. after-meant (list_at-meant world.objects list_type.Close pointer) (λ list.
    after-meant (field_number-meant world.objects list (codes "cerr")) (λ on_error. after-meant (field_number-meant world.objects list (codes "cunit")) (λ unit.
    changed_units-meant on_error world _ (closed_has_number world _ (close_has_number unit world.units))))))

pub positions-meant : (statement : ℤ → Units → Result Units UnitRefusal) (world : World) (pointer : CValue) → ((unit : ℤ) (units : Units) → HasNumber (statement unit units)) → IsMeant (positions statement world pointer)
unfolding positions
positions-meant statement world pointer each =
    after-meant (outside_transfers-meant world) (λ outside. after-meant (list_at-meant world.objects list_type.Position pointer) (λ list.
    after-meant (field_number-meant world.objects list (codes "aerr")) (λ on_error. after-meant (field_number-meant world.objects list (codes "aunit")) (λ unit.
    changed_units-meant on_error world _ (each unit world.units)))))
