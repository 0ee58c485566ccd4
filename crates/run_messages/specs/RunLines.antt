-- The lines that a run of C files writes on Fault (CSTR 149, appendix on the run time library).
use Rattle.std.specs.Prelude.{ℕ, ℤ, List, [], ◌∷◌, codes, decimal}
use Rattle.std.specs.Fmt.{signed_decimal}
use Rattle.run_state.specs.Endings.{Report}
use Rattle.shelf_texts.specs.ShelfLoops.{joined}

-- f2c: FILE:LINE: not in the C subset (C89, 3.7)
abbrev pub not_c_line : List ℕ → ℕ → List ℕ
not_c_line name line = joined (codes "f2c: " ∷ name ∷ codes ":" ∷ decimal line ∷ codes ": not in the C subset\n" ∷ [])

-- f2c: link K (C89, 3.1.2.2)
abbrev pub link_line : ℕ → List ℕ
link_line rule = joined (codes "f2c: link " ∷ decimal rule ∷ codes "\n" ∷ [])

-- f2c: fault KIND in FUNCTION (C89, 3.3 and 3.6)
abbrev pub fault_line : List ℕ → List ℕ → List ℕ
fault_line kind function = joined (codes "f2c: fault " ∷ kind ∷ codes " in " ∷ function ∷ codes "\n" ∷ [])

-- f2c: out of steps (C89, 2.1.2.3)
abbrev pub out_of_steps_line : List ℕ
out_of_steps_line = joined (codes "f2c: out of steps\n" ∷ [])

-- f2c: unit U: device fault (ANSI X3.9-1978, 12.3)
abbrev pub device_line : ℤ → List ℕ
device_line unit = joined (codes "f2c: unit " ∷ signed_decimal unit ∷ codes ": device fault\n" ∷ [])

-- f2c: I/O error NUMBER (ANSI X3.9-1978, 12.7)
abbrev pub io_line : ℤ → List ℕ
io_line number = joined (codes "f2c: I/O error " ∷ signed_decimal number ∷ codes "\n" ∷ [])

-- f2c: range VARIABLE NUMBER in UNIT line CARD (ANSI X3.9-1978, 5.4 and 5.7)
abbrev pub range_line : Report → List ℕ
range_line report =
    joined
    (codes "f2c: range "
    ∷ report.variable
    ∷ codes " "
    ∷ signed_decimal report.number
    ∷ codes " in "
    ∷ report.unit
    ∷ codes " line "
    ∷ signed_decimal report.card
    ∷ codes "\n"
    ∷ [])

-- STOP TEXT statement executed (ANSI X3.9-1978, 11.12)
abbrev pub stop_line : List ℕ → List ℕ
stop_line text = joined (codes "STOP " ∷ text ∷ codes " statement executed\n" ∷ [])

-- f2c: too much to count
abbrev pub uncounted_line : List ℕ
uncounted_line = joined (codes "f2c: too much to count\n" ∷ [])
