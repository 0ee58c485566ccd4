-- What the arguments of a function stand for, in the order in which they are valued.
use Rattle.std.specs.Prelude.{ℕ, ℤ, List, Ok}
use Rattle.c_tree.specs.run_state.Endings.{Report}
use Rattle.c_tree.specs.declared.outcome.CValue.{CValue}
use Rattle.c_tree.specs.Faults.{Or, after}
use Rattle.c_tree.specs.Objects.{Object, as_number}
use Rattle.c_tree.specs.LibraryArguments.{number_through, count_from, length_from, text_at, name_at}

-- two texts, by pointers to them and the lengths of both
abbrev pub two_texts : List Object → CValue → CValue → CValue → CValue → Or (List ℕ × List ℕ)
two_texts objects first second first_length second_length =
    after (length_from first_length) λ size.
    after (length_from second_length) λ count.
    after (text_at objects first size) λ left.
    after (text_at objects second count) λ right.
    Ok (left, right)

-- two numbers that are pointed to
abbrev pub two_numbers : List Object → CValue → CValue → Or (ℤ × ℤ)
two_numbers objects first second =
    after (number_through objects first) λ left.
    after (number_through objects second) λ right.
    Ok (left, right)

-- a text, behind the length of the one that it is assigned to
abbrev pub assigned_text : List Object → CValue → CValue → CValue → Or (ℕ × List ℕ)
assigned_text objects source target_length source_length =
    after (length_from target_length) λ size.
    after (length_from source_length) λ count.
    after (text_at objects source count) λ text.
    Ok (size, text)

-- how many pieces a concatenation has, and the length of the text that it is assigned to
abbrev pub piece_counts : List Object → CValue → CValue → Or (ℕ × ℕ)
piece_counts objects count_pointer target_length =
    after (number_through objects count_pointer) λ number.
    after (count_from number) λ count.
    after (length_from target_length) λ size.
    Ok (count, size)

-- the text of a STOP
abbrev pub ending_text : List Object → CValue → CValue → Or (List ℕ)
ending_text objects pointer size = after (length_from size) λ count. text_at objects pointer count

-- a place outside its declared bounds
abbrev pub report_of : List Object → CValue → CValue → CValue → CValue → Or Report
report_of objects variable number unit card =
    after (name_at objects variable) λ variable_name.
    after (as_number number) λ found.
    after (name_at objects unit) λ unit_name.
    after (as_number card) λ line.
    Ok (record { variable = variable_name; number = found; unit = unit_name; card = line })
