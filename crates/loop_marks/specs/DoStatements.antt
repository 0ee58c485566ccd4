-- The DO statements of a unit as it is read. ANSI X3.9-1978, section 11.10; MIL-STD-1753 for DO WHILE.
use Rattle.std.specs.Prelude.{ℕ, ◌+◌, List, [], ◌∷◌}
use Rattle.lowering.specs.l_core.f_tree.Facts.{ToLoop, ToTestLoop, Form, Passes, On, Line}

-- a DO statement, and a DO WHILE
unfoldable pub dos_of : Form → ℕ
dos_of Passes = 0
dos_of (On head operands) = elim head [ ToLoop label ↦ 1 | _ ↦ 0 ]

unfoldable pub whiles_of : Form → ℕ
whiles_of Passes = 0
whiles_of (On head operands) = elim head [ ToTestLoop label ↦ 1 | _ ↦ 0 ]

-- how many of each there are
unfoldable pub dos_among : List Line → ℕ
dos_among [] = 0
dos_among (line ∷ lines) = dos_of line.form + dos_among lines

unfoldable pub whiles_among : List Line → ℕ
whiles_among [] = 0
whiles_among (line ∷ lines) = whiles_of line.form + whiles_among lines

unfoldable pub do_statements_opened : Unit {0}
unfolding dos_of whiles_of dos_among whiles_among
do_statements_opened = tt
