-- What a reader of list-directed input answers and where it stands, as plain data over its record.
use Rattle.std.specs.Prelude.{ℕ, ℤ, ◌≤◌, ◌==◌, true, false, if◌then◌else◌, Result, Err, List, [], ◌∷◌, drop, ⊤}
use Rattle.edit_meaning.specs.ListInput as input
use Rattle.edit_meaning.specs.TakenFields.{with_blanks_as, int_of}
use Rattle.edit_rules.specs.declared.list_scan.Sought.{Sought}
use Rattle.edit_rules.specs.declared.list_scan.Sought.TheVariants as at
use Rattle.edit_rules.specs.declared.list_scan.TextEnd.{TextEnd}
use Rattle.edit_rules.specs.declared.list_scan.TextEnd.TheVariants as end

abbrev pub sought_at : List ℕ → Sought → input.Sought
sought_at rest (at.End valued) = input.AtEnd valued
sought_at rest (at.Null place) = input.AtNull (drop place rest)
sought_at rest at.Slash = input.AtSlash
sought_at rest (at.Value place) = input.AtValue (drop place rest)

-- the place is one of so many characters, or behind them
abbrev pub SoughtWithin : ℕ → Sought → Type 0
SoughtWithin size (at.End valued) = ⊤
SoughtWithin size (at.Null place) = place ≤ size
SoughtWithin size at.Slash = ⊤
SoughtWithin size (at.Value place) = place ≤ size

abbrev pub ending_of : TextEnd → input.Ending
ending_of end.Open = input.Open
ending_of end.Well = input.Well
ending_of end.Badly = input.Badly

-- an integer, where blanks among the digits are left out; a word has none
abbrev pub int_word_of_blanks : List ℕ → Result ℤ ℕ
int_word_of_blanks [] = Err 1
int_word_of_blanks (c ∷ cs) =
    if c == 45 then int_of true (with_blanks_as false cs)
    else (if c == 43 then int_of false (with_blanks_as false cs) else int_of false (with_blanks_as false (c ∷ cs)))
