-- Calls of the library on small memories, and what is seen of their replies.
use Rattle.std.specs.Prelude.{ℕ, ℤ, pos, negsuc, Bool, true, List, [], ◌∷◌, ◌++◌, map, replicate, Option, Some, None, Ok, codes, slice_get, if◌then◌else◌}
use Rattle.c_tree.specs.declared.outcome.CValue.{CValue}
use Rattle.c_tree.specs.declared.outcome.CValue.TheVariants.{Number, Pointer, Null}
use Rattle.std.specs.Ordering.{int_eq}
use Rattle.c_tree.specs.run_state.Units.{Units, UnitState, Offered}
use Rattle.c_tree.specs.Faults.{Or, after}
use Rattle.c_tree.specs.declared.types.ListType.{ListType}
use Rattle.c_tree.specs.declared.types.ListType.TheVariants as list
use Rattle.c_tree.specs.Access.{Access, ToChar, ToList, ToPointer}
use Rattle.c_tree.specs.Objects.{Object, Bytes, Values, bytes_of_number}
use Rattle.c_tree.specs.World.{World, Ending, Range, Reply, Gives, Void, Stops}
use Rattle.c_tree.specs.Builtins.{Builtin, s_cat, do_lio, f_open, f_clos, s_rnge}
use Rattle.c_rows.specs.TransferNames.{s_wsle, e_wsle, s_rsle, e_rsle, s_wsli}
use Rattle.c_tree.specs.Library.{library}
use Rattle.c_tree.specs.declared.expression.CExpr.TheVariants as expr
use Rattle.c_tree.specs.declared.file.CFile.{CFile}
use Rattle.c_rows.specs.RowTexts.{no_units, output_unit, empty_unit, file_of, function_named, extern_int, do_call, whole_number, return_zero}

abbrev pub text : List ℕ → Object
text bytes = Bytes (map Some bytes)

abbrev pub number : ℤ → Object
number value = text (bytes_of_number value)

-- the start of an object
abbrev pub start_of : ℕ → CValue
start_of object = Pointer object 0

abbrev pub size : ℕ → CValue
size count = Number (pos count)

abbrev pub memory : List Object → World
memory objects = record { objects = objects; units = no_units; transfer = None }

-- a function of two numbers that its arguments point to
abbrev pub of_numbers : Builtin → ℤ → ℤ → Or Reply
of_numbers function left right =
    library function (memory (number left ∷ number right ∷ [])) (start_of 0 ∷ start_of 1 ∷ [])

-- a function of two texts and their lengths
abbrev pub of_texts : Builtin → List ℕ → ℕ → List ℕ → ℕ → Or Reply
of_texts function left left_size right right_size =
    library
    function
    (memory (text left ∷ text right ∷ []))
    (start_of 0 ∷ start_of 1 ∷ size left_size ∷ size right_size ∷ [])

-- `s_cat` of the first so many of two pieces, of two and three bytes, into six bytes; the third address is not set
abbrev pub pieces_into : ℕ → ℕ → Or Reply
pieces_into length count =
    library
    s_cat
    (memory
    (text (codes "......")
    ∷ Values (record { type = ToPointer ToChar; values = Some (start_of 2) ∷ Some (start_of 3) ∷ None ∷ [] })
    ∷ text (codes "AB")
    ∷ text (codes "XYZ")
    ∷ text (bytes_of_number (pos 2) ++ bytes_of_number (pos 3) ++ bytes_of_number (pos 1) ++ bytes_of_number (pos 1))
    ∷ number (pos count)
    ∷ []))
    (start_of 0 ∷ start_of 1 ∷ start_of 4 ∷ start_of 5 ∷ size length ∷ [])

-- the number that a call gives
abbrev pub given_number : Reply → Option ℤ
given_number (Gives result world) = Some result
given_number (Void world) = None
given_number (Stops ending world) = None

-- how a call ends the run
abbrev pub given_ending : Reply → Option Ending
given_ending (Stops ending world) = Some ending
given_ending (Gives result world) = None
given_ending (Void world) = None

abbrev pub world_after : Reply → World
world_after (Gives result world) = world
world_after (Void world) = world
world_after (Stops ending world) = world

-- an object after a call
abbrev pub object_after : ℕ → Reply → Option Object
object_after index reply = slice_get (world_after reply).objects index

abbrev pub gives : Or Reply → Or (Option ℤ)
gives reply = after reply λ given. Ok (given_number given)

abbrev pub ends_with : Or Reply → Or (Option Ending)
ends_with reply = after reply λ given. Ok (given_ending given)

abbrev pub leaves : ℕ → Or Reply → Or (Option Object)
leaves index reply = after reply λ given. Ok (object_after index given)

-- an object that holds these values, by the type of each
abbrev pub held : Access → List CValue → Object
held type values = Values (record { type = type; values = map Some values })

-- a list of the library, and an array of addresses
abbrev pub list_object : ListType → List CValue → Object
list_object type values = held (ToList type) values

abbrev pub addresses : List CValue → Object
addresses values = held (ToPointer ToChar) values

-- a `cilist` for list-directed transfers: its error field, its unit and its end field
abbrev pub control_list : ℕ → ℕ → ℕ → Object
control_list on_error unit on_end = list_object list.Transfer (size on_error ∷ size unit ∷ size on_end ∷ Null ∷ size 0 ∷ [])

-- a call
pub record Call : Type 0 where
  pub function : Builtin
  pub arguments : List CValue

abbrev pub calling : Builtin → List CValue → Call
calling function arguments = record { function = function; arguments = arguments }

-- calls one after the other, with the reply of the last
abbrev pub calls : World → List Call → Or Reply
calls world [] = Ok (Void world)
calls world (last ∷ []) = library last.function world last.arguments
calls world (first ∷ second ∷ later) =
    after (library first.function world first.arguments) λ reply. calls (world_after reply) (second ∷ later)

-- an item of list-directed output, by the objects of its kind, its count and its first element
abbrev pub item : ℕ → ℕ → ℕ → ℕ → Call
item kind count first length = calling do_lio (start_of kind ∷ start_of count ∷ start_of first ∷ size length ∷ [])

-- the objects of the rows on transfers: a list for unit 6 that asks for nothing, the kinds 3, 8 and 9, the counts 1
-- and 2, and items
abbrev pub transfer_objects : ℕ → List Object
transfer_objects on_error =
    control_list on_error 6 0
    ∷ number (pos 3)
    ∷ number (pos 8)
    ∷ number (pos 9)
    ∷ number (pos 1)
    ∷ number (pos 2)
    ∷ text (codes "ABC")
    ∷ text (bytes_of_number (pos 10) ++ bytes_of_number (negsuc 4))
    ∷ number (negsuc 0)
    ∷ text (replicate 79 65)
    ∷ []

abbrev pub with_units : Units → List Object → World
with_units units objects = record { objects = objects; units = units; transfer = None }

abbrev pub records_in : Option UnitState → List (List ℕ)
records_in None = []
records_in (Some unit) = unit.records

-- the records of a unit after a call
abbrev pub records_after : ℤ → Or Reply → Or (List (List ℕ))
records_after unit reply = after reply λ given. Ok (records_in ((world_after given).units.connected unit))

abbrev pub start_output : Call
start_output = calling s_wsle (start_of 0 ∷ [])

abbrev pub end_output : Call
end_output = calling e_wsle []

-- the calls on a unit 6 that is connected and empty, or that stands behind its end
abbrev pub on_unit : List Call → Or Reply
on_unit made = calls (with_units output_unit (transfer_objects 0)) made

abbrev pub ended_unit : Units
ended_unit = record output_unit {
  connected = λ asked. if int_eq asked (pos 6) then Some (record empty_unit { end_mark = true }) else None;
}

abbrev pub on_ended_unit : ℕ → List Call → Or Reply
on_ended_unit on_error made = calls (with_units ended_unit (transfer_objects on_error)) made

-- an `icilist` for an internal file in the object 7, which has so many records of so many bytes
abbrev pub internal_list : ℕ → ℕ → Object
internal_list length count =
    list_object list.Internal (size 1 ∷ start_of 7 ∷ size 1 ∷ Null ∷ size length ∷ size count ∷ [])

-- list-directed output of numbers to an internal file of twelve bytes
abbrev pub on_internal : ℕ → ℕ → List Call → Or Reply
on_internal length count made =
    calls
    (memory
    (internal_list length count
    ∷ number (pos 3)
    ∷ number (pos 1)
    ∷ number (pos 42)
    ∷ number (pos 9)
    ∷ text (replicate 79 65)
    ∷ number (pos 2)
    ∷ text (codes "............")
    ∷ []))
    (calling s_wsli (start_of 0 ∷ []) ∷ made)

abbrev pub offered : List ℕ → Offered
offered file = record { name = file; records = codes "R" ∷ []; position = 0 }

-- an `olist`, with the file's name in the object 1 or null, and BLANK in the object 2 or null
abbrev pub open_list_asking : ℕ → ℕ → CValue → ℕ → CValue → Object
open_list_asking asks unit file length blanks =
    list_object list.Open
    (size asks ∷ size unit ∷ file ∷ size length ∷ Null ∷ Null ∷ Null ∷ size 0 ∷ blanks ∷ [])

abbrev pub open_list : ℕ → CValue → ℕ → CValue → Object
open_list unit file length blanks = open_list_asking 1 unit file length blanks

abbrev pub drawer_units : Units
drawer_units = record output_unit { drawer = offered (codes "D") ∷ offered (codes "fort.9") ∷ [] }

-- the lists of the rows on units: in the objects 0 to 2 an `olist`, the name and BLANK; a `cllist` for unit 9; an
-- `alist` for unit 9, and one for unit 6
abbrev pub unit_objects : Object → List Object
unit_objects opening =
    opening
    ∷ text (codes "D  ")
    ∷ text (codes "ZERO")
    ∷ list_object list.Close (size 1 ∷ size 9 ∷ Null ∷ [])
    ∷ list_object list.Position (size 1 ∷ size 9 ∷ [])
    ∷ list_object list.Position (size 1 ∷ size 6 ∷ [])
    ∷ []

abbrev pub on_drawer : Object → List Call → Or Reply
on_drawer opening made = calls (with_units drawer_units (unit_objects opening)) made

abbrev pub open_file : Call
open_file = calling f_open (start_of 0 ∷ [])

abbrev pub close_9 : Call
close_9 = calling f_clos (start_of 3 ∷ [])

abbrev pub on_9 : Builtin → Call
on_9 function = calling function (start_of 4 ∷ [])

abbrev pub on_6 : Builtin → Call
on_6 function = calling function (start_of 5 ∷ [])

abbrev pub zero_blanks_in : Option UnitState → Option Bool
zero_blanks_in None = None
zero_blanks_in (Some unit) = Some unit.zero_blanks

-- the blank mode of a unit after a call, where it is connected
abbrev pub blanks_after : ℤ → Or Reply → Or (Option Bool)
blanks_after unit reply = after reply λ given. Ok (zero_blanks_in ((world_after given).units.connected unit))

-- a unit 5 with these records, none of them read
abbrev pub input_units : List (List ℕ) → Units
input_units lines = record no_units {
  connected =
      λ asked. if int_eq asked (pos 5) then Some (record empty_unit { records = lines }) else None;
}

-- calls on a unit 5 with these records. The objects are a list for unit 5 that asks for errors and ends, the kinds
-- 3, 8 and 9, the counts 1 and 5, five integers of 8, 9 and so on, a logical, and a text of five bytes
abbrev pub on_input : List (List ℕ) → List Call → Or Reply
on_input lines made =
    calls
    (with_units
    (input_units lines)
    (control_list 1 5 1
    ∷ number (pos 3)
    ∷ number (pos 8)
    ∷ number (pos 9)
    ∷ number (pos 1)
    ∷ number (pos 5)
    ∷ text
    (bytes_of_number (pos 8)
    ++ bytes_of_number (pos 9)
    ++ bytes_of_number (pos 10)
    ++ bytes_of_number (pos 11)
    ++ bytes_of_number (pos 12))
    ∷ number (pos 0)
    ∷ text (codes ".....")
    ∷ []))
    (calling s_rsle (start_of 0 ∷ []) ∷ made)

abbrev pub end_input : Call
end_input = calling e_rsle []

-- five integers end to end
abbrev pub five_numbers : ℤ → ℤ → ℤ → ℤ → ℤ → Object
five_numbers first second third fourth fifth =
    text
    (bytes_of_number first
    ++ bytes_of_number second
    ++ bytes_of_number third
    ++ bytes_of_number fourth
    ++ bytes_of_number fifth)

abbrev pub position_in : Option UnitState → Option ℕ
position_in None = None
position_in (Some unit) = Some unit.position

-- how many records of a unit stand before its position after a call, where it is connected
abbrev pub position_after : ℤ → Or Reply → Or (Option ℕ)
position_after unit reply = after reply λ given. Ok (position_in ((world_after given).units.connected unit))

-- a function of one number that its argument points to
abbrev pub of_number : Builtin → ℤ → Or Reply
of_number function value = library function (memory (number value ∷ [])) (start_of 0 ∷ [])

-- a name with the zero byte behind it
abbrev pub ended_name : List ℕ → Object
ended_name bytes = text (bytes ++ 0 ∷ [])

-- `s_rnge` with the number 4 and the card 12, over two objects, by pointers to the names of the variable and the unit
abbrev pub reporting : Object → Object → CValue → CValue → Or Reply
reporting first second variable unit =
    library s_rnge (memory (first ∷ second ∷ [])) (variable ∷ size 4 ∷ unit ∷ size 12 ∷ [])

-- the ending by that number and card
abbrev pub reported : List ℕ → List ℕ → Ending
reported variable unit = Range (record { variable = variable; number = pos 4; unit = unit; card = pos 12 })

-- two pieces of two bytes, by the object that stands for the array of their addresses
abbrev pub pieces_by : Object → Or Reply
pieces_by held_addresses =
    library
    s_cat
    (memory (text (codes "ABCD") ∷ held_addresses ∷ text (bytes_of_number (pos 2) ++ bytes_of_number (pos 2)) ∷ number (pos 2) ∷ []))
    (start_of 0 ∷ start_of 1 ∷ start_of 2 ∷ start_of 3 ∷ size 4 ∷ [])

-- what the fields of a list for unit 6 would be, in an array of five addresses
abbrev pub five_addresses : Object
five_addresses = addresses (size 0 ∷ size 6 ∷ size 0 ∷ Null ∷ size 0 ∷ [])

-- the start of a list-directed output by a pointer to an object
abbrev pub starting_at : Object → ℕ → Or Reply
starting_at object offset = calls (with_units output_unit (object ∷ [])) (calling s_wsle (Pointer 0 offset ∷ []) ∷ [])

-- `s_rnge("ia", 4, "MAIN__", 12);` in a main program
abbrev pub reports_in_a_program : CFile
reports_in_a_program =
    file_of
    (function_named
    (codes "MAIN__")
    (extern_int (codes "s_rnge") ∷ [])
    (do_call (codes "s_rnge") (expr.Str (codes "ia") ∷ whole_number 4 ∷ expr.Str (codes "MAIN__") ∷ whole_number 12 ∷ [])
    ∷ return_zero
    ∷ [])
    ∷ [])
