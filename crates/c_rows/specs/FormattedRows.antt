-- Calls of the library in transfers under a format, on small memories.
use Rattle.std.specs.Prelude.{ℕ, pos, negsuc, true, List, [], ◌∷◌, ◌++◌, if◌then◌else◌, Some, None, codes}
use Rattle.std.specs.Ordering.{int_eq}
use Rattle.c_tree.specs.declared.outcome.CValue.{CValue}
use Rattle.c_tree.specs.declared.outcome.CValue.TheVariants.{Pointer}
use Rattle.c_tree.specs.run_state.Units.{Units}
use Rattle.c_tree.specs.Faults.{Or}
use Rattle.c_tree.specs.Objects.{Object, bytes_of_number}
use Rattle.c_tree.specs.World.{Reply}
use Rattle.c_tree.specs.declared.types.ListType.TheVariants as list
use Rattle.c_tree.specs.Builtins.{Builtin, do_fio, do_lio}
use Rattle.c_rows.specs.TransferNames.{s_wsfe, s_rsfe, s_wsfi, s_rsfi, s_rsli, e_wsfe, e_rsfe, e_wsfi, e_rsfi, e_rsli}
use Rattle.c_rows.specs.RowTexts.{no_units, output_unit, empty_unit}
use Rattle.c_rows.specs.LibraryRows.{text, number, start_of, size, list_object, Call, calling, calls, with_units, input_units}

-- a `cilist` for a unit, with what it gives as its format; its error and end fields are the same
abbrev pub format_list : ℕ → ℕ → CValue → Object
format_list unit asks given = list_object list.Transfer (size asks ∷ size unit ∷ size asks ∷ given ∷ size 0 ∷ [])

-- an `icilist` for an internal file in the object 7, with its format in the object 1
abbrev pub internal_format_list : ℕ → ℕ → Object
internal_format_list length count =
    list_object list.Internal (size 1 ∷ start_of 7 ∷ size 1 ∷ start_of 1 ∷ size length ∷ size count ∷ [])

-- the objects behind the list of a transfer: a format, the counts 1 and 2, the numbers 7 and -12 end to end, a logical that
-- is true, a text of three bytes, an internal file, and the kind 3
abbrev pub format_objects : Object → List ℕ → List ℕ → List Object
format_objects list format file =
    list
    ∷ text format
    ∷ number (pos 1)
    ∷ number (pos 2)
    ∷ text (bytes_of_number (pos 7) ++ bytes_of_number (negsuc 11))
    ∷ number (pos 1)
    ∷ text (65 ∷ 66 ∷ 67 ∷ [])
    ∷ text file
    ∷ number (pos 3)
    ∷ []

-- items from the start of an object on, so many of a length as the object 2 or 3 says
abbrev pub formatted : ℕ → ℕ → ℕ → Call
formatted count first length = calling do_fio (start_of count ∷ start_of first ∷ size length ∷ [])

-- the numbers, the logical and the text
abbrev pub a_number : Call
a_number = formatted 2 4 4

abbrev pub both_numbers : Call
both_numbers = formatted 3 4 4

abbrev pub a_logical : Call
a_logical = formatted 2 5 4

abbrev pub a_text : Call
a_text = formatted 2 6 3

-- calls behind the start of formatted output on unit 6
abbrev pub writing_by : ℕ → ℕ → CValue → List ℕ → List Call → Or Reply
writing_by unit asks given format made =
    calls (with_units output_unit (format_objects (format_list unit asks given) format [])) (calling s_wsfe (start_of 0 ∷ []) ∷ made)

abbrev pub writing : List ℕ → List Call → Or Reply
writing format made = writing_by 6 1 (start_of 1) format made

abbrev pub end_writing : Call
end_writing = calling e_wsfe []

-- calls behind the start of formatted input from these records of unit 5
abbrev pub reading_on : Units → List ℕ → List Call → Or Reply
reading_on units format made =
    calls (with_units units (format_objects (format_list 5 1 (start_of 1)) format [])) (calling s_rsfe (start_of 0 ∷ []) ∷ made)

abbrev pub reading : List (List ℕ) → List ℕ → List Call → Or Reply
reading lines format made = reading_on (input_units lines) format made

abbrev pub end_reading : Call
end_reading = calling e_rsfe []

-- the same records of a unit that was opened with BLANK='ZERO'
abbrev pub zero_blanks_units : List (List ℕ) → Units
zero_blanks_units lines = record no_units {
  connected =
      λ asked. if int_eq asked (pos 5) then Some (record empty_unit { records = lines; zero_blanks = true }) else None;
}

-- calls behind the start of a transfer on an internal file of so many records of a length
abbrev pub filling : ℕ → ℕ → List ℕ → List ℕ → List Call → Or Reply
filling length count file format made =
    calls (with_units no_units (format_objects (internal_format_list length count) format file)) (calling s_wsfi (start_of 0 ∷ []) ∷ made)

abbrev pub fetching : ℕ → ℕ → List ℕ → List ℕ → List Call → Or Reply
fetching length count file format made =
    calls (with_units no_units (format_objects (internal_format_list length count) format file)) (calling s_rsfi (start_of 0 ∷ []) ∷ made)

abbrev pub fetching_listed : ℕ → ℕ → List ℕ → List Call → Or Reply
fetching_listed length count file made =
    calls (with_units no_units (format_objects (internal_format_list length count) [] file)) (calling s_rsli (start_of 0 ∷ []) ∷ made)

abbrev pub end_filling : Call
end_filling = calling e_wsfi []

abbrev pub end_fetching : Call
end_fetching = calling e_rsfi []

abbrev pub end_fetching_listed : Call
end_fetching_listed = calling e_rsli []

-- so many integers of list-directed input, as the object 2 or 3 says
abbrev pub listed_numbers : ℕ → Call
listed_numbers count = calling do_lio (start_of 8 ∷ start_of count ∷ start_of 4 ∷ size 4 ∷ [])

-- one list alone, and a start that takes it
abbrev pub starting : Builtin → Object → Or Reply
starting function list =
    calls (with_units output_unit (format_objects list (codes "(I3)") [])) (calling function (start_of 0 ∷ []) ∷ [])

abbrev pub an_internal_list : Object
an_internal_list = internal_format_list 3 1

abbrev pub a_unit_list : Object
a_unit_list = format_list 6 1 (start_of 1)

-- a start or a statement on a unit inside a transfer
abbrev pub starting_inside : Builtin → Or Reply
starting_inside function = writing (codes "(I3)") (calling function (start_of 0 ∷ []) ∷ [])

-- calls outside every transfer
abbrev pub calls_alone : List Call → Or Reply
calls_alone made = calls (with_units output_unit (format_objects a_unit_list (codes "(I3)") [])) made

-- formatted input whose list asks for errors and for ends, or does not
abbrev pub reading_asking : ℕ → ℕ → List (List ℕ) → List Call → Or Reply
reading_asking on_error on_end lines made =
    calls
    (with_units
    (input_units lines)
    (format_objects
    (list_object list.Transfer (size on_error ∷ size 5 ∷ size on_end ∷ start_of 1 ∷ size 0 ∷ []))
    (codes "(I3)")
    []))
    (calling s_rsfe (start_of 0 ∷ []) ∷ made)

-- formatted output whose three items, of two bytes, stand two bytes before the three records of its internal file
abbrev pub filling_from_itself : Or Reply
filling_from_itself =
    calls
    (with_units no_units (format_objects (list_object list.Internal (size 1 ∷ Pointer 7 2 ∷ size 1 ∷ start_of 1 ∷ size 2 ∷ size 3 ∷ [])) (codes "(A2)") (codes "uvwxyz..")))
    (calling s_wsfi (start_of 0 ∷ []) ∷ formatted 8 7 2 ∷ end_filling ∷ [])
