-- Which unit a call of the library is on, and which calls are those of a transfer (ANSI X3.9-1978, 12.8, 12.9 and 12.10).
use Rattle.std.specs.Prelude.{◌≡◌, ℕ, ℤ, Bool, false, List, ◌∷◌, [], Option, Some, None, Ok, Err, codes, if◌then◌else◌}
use Rattle.c_tree.specs.declared.outcome.CValue.{CValue}
use Rattle.c_tree.specs.declared.types.ListType.{ListType}
use Rattle.c_tree.specs.declared.types.ListType.TheVariants as list_type
use Rattle.c_tree.specs.Faults.{Or, after}
use Rattle.c_tree.specs.Objects.{Object}
use Rattle.c_tree.specs.World as media
use Rattle.c_tree.specs.World.{World, Medium, Transfer}
use Rattle.c_tree.specs.LibraryArguments.{list_at, field_number}
use Rattle.c_tree.specs.Builtins.{Builtin, ByFormat, ByList, Begin, Finish, do_fio, do_lio, f_open, f_clos, f_back, f_rew, f_end}
use Rattle.c_tree.specs.TransferCalls.{is_style, is_kind}

-- the unit of a transfer; an internal file is none
abbrev pub unit_of_medium : Medium → Option ℤ
unit_of_medium (media.Unit unit) = Some unit
unit_of_medium (media.Internal file) = None

abbrev pub unit_in_progress : Option Transfer → Option ℤ
unit_in_progress None = None
unit_in_progress (Some transfer) = unit_of_medium transfer.medium

-- the number in a field of the list to which a pointer points
abbrev pub number_found : Or ℤ → Option ℤ
number_found (Ok number) = Some number
number_found (Err reason) = None

abbrev pub unit_listed : ListType → List ℕ → List Object → CValue → Option ℤ
unit_listed type field objects pointer = number_found (after (list_at objects type pointer) λ list. field_number objects list field)

-- the unit of a call: that of the control list for the start of a transfer and for a statement, and that of the transfer in progress for
-- its items and its end
abbrev pub unit_of_call : Builtin → List Object → Option Transfer → List CValue → Option ℤ
unit_of_call (Begin kind) objects transfer (pointer ∷ []) = unit_listed list_type.Transfer (codes "ciunit") objects pointer
unit_of_call f_open objects transfer (pointer ∷ []) = unit_listed list_type.Open (codes "ounit") objects pointer
unit_of_call f_clos objects transfer (pointer ∷ []) = unit_listed list_type.Close (codes "cunit") objects pointer
unit_of_call f_back objects transfer (pointer ∷ []) = unit_listed list_type.Position (codes "aunit") objects pointer
unit_of_call f_rew objects transfer (pointer ∷ []) = unit_listed list_type.Position (codes "aunit") objects pointer
unit_of_call f_end objects transfer (pointer ∷ []) = unit_listed list_type.Position (codes "aunit") objects pointer
unit_of_call do_fio objects transfer values = unit_in_progress transfer
unit_of_call do_lio objects transfer values = unit_in_progress transfer
unit_of_call (Finish kind) objects transfer values = unit_in_progress transfer
unit_of_call builtin objects transfer values = None

abbrev pub is_on : Builtin → World → List CValue → ℤ → Type 0
is_on builtin world values unit = unit_of_call builtin world.objects world.transfer values ≡ Some unit

-- whether a call is one of a transfer: its items, or its end
abbrev pub is_of_transfer : Builtin → Transfer → Bool
is_of_transfer do_fio transfer = is_style ByFormat transfer.layout
is_of_transfer do_lio transfer = is_style ByList transfer.layout
is_of_transfer (Finish kind) transfer = is_kind kind transfer
is_of_transfer builtin transfer = false

-- the transfer in progress, for a call that is one of it: no call is one of none
abbrev pub transfer_of_call : Builtin → Option Transfer → Option Transfer
transfer_of_call builtin None = None
transfer_of_call builtin (Some transfer) = if is_of_transfer builtin transfer then Some transfer else None
