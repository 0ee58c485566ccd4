-- The line that each outcome writes on Fault.
use Rattle.std.specs.Prelude.{ℕ, List, [], ◌∷◌, Option, Some, None, codes, decimal, nat_lt, if◌then◌else◌}
use Rattle.f2c_outside.specs.declared.shelves.Place.{Place}
use Rattle.f2c_outside.specs.declared.shelves.Place.TheVariants.{Input, Output, Fault, File}
use Rattle.f2c_outside.specs.Texts.{word_at}
use Rattle.shelf_texts.specs.ShelfLoops.{joined}
use Rattle.f_tree.specs.declared.refusals.Refusal.{Refusal}
use Rattle.f_tree.specs.RefusalRows.{number_of, text_of}
use Rattle.outcomes.specs.declared.outcome.Outcome.{Outcome}
use Rattle.outcomes.specs.declared.outcome.Outcome.TheVariants.{Done, Disagree, Changed, Refused, NotPrototype, BadWord, NotThere, Unread, Unwritten, NoFreeName, NoMemory}

-- a place as a message names it: a file by its name, a stream in angle brackets
abbrev pub shown : Place → List ℕ
shown Input = codes "<stdin>"
shown Output = codes "<stdout>"
shown Fault = codes "<stderr>"
shown (File name) = name

-- the name of a place that has one
abbrev pub name_of_place : Place → Option (List ℕ)
name_of_place (File name) = Some name
name_of_place Input = None
name_of_place Output = None
name_of_place Fault = None

-- the file of a refusal as a message gives it: by its name, or Input
abbrev pub file_shown : Option (List ℕ) → List ℕ
file_shown None = shown Input
file_shown (Some name) = name

-- the word with this number, or that it is missing where there is none
abbrev pub word_shown : Option (List ℕ) → List ℕ
word_shown (Some word) = word
word_shown None = codes "missing"

-- what stands before the number of a row of refusals, so that it has two digits at least
abbrev pub row_start : ℕ → List ℕ
row_start number = if nat_lt number 10 then codes ": F0" else codes ": F"

-- f2c: FILE:CARD: F11 TEXT
abbrev pub refusal_line : Option (List ℕ) → Refusal → List ℕ
refusal_line name refusal =
    joined
    (codes "f2c: "
    ∷ file_shown name
    ∷ codes ":"
    ∷ decimal refusal.card
    ∷ row_start (number_of refusal.kind)
    ∷ decimal (number_of refusal.kind)
    ∷ codes " "
    ∷ text_of refusal.kind
    ∷ codes "\n"
    ∷ [])

-- f2c: FILE:LINE: not a prototype
abbrev pub not_prototype_line : List ℕ → ℕ → List ℕ
not_prototype_line name line = joined (codes "f2c: " ∷ name ∷ codes ":" ∷ decimal line ∷ codes ": not a prototype\n" ∷ [])

-- f2c: word I: WORD
abbrev pub bad_word_line : List (List ℕ) → ℕ → List ℕ
bad_word_line words number =
    joined (codes "f2c: word " ∷ decimal number ∷ codes ": " ∷ word_shown (word_at number words) ∷ codes "\n" ∷ [])

-- f2c: FILE: not there
abbrev pub not_there_line : List ℕ → List ℕ
not_there_line name = joined (codes "f2c: " ∷ name ∷ codes ": not there\n" ∷ [])

-- f2c: FILE: shelf fault
abbrev pub shelf_fault_line : Place → List ℕ
shelf_fault_line place = joined (codes "f2c: " ∷ shown place ∷ codes ": shelf fault\n" ∷ [])

-- f2c: no free name for piece K
abbrev pub no_free_name_line : ℕ → List ℕ
no_free_name_line number = joined (codes "f2c: no free name for piece " ∷ decimal number ∷ codes "\n" ∷ [])

-- f2c: out of memory
abbrev pub no_memory_line : List ℕ
no_memory_line = joined (codes "f2c: out of memory\n" ∷ [])

-- the line of an outcome; a command that did its work writes none
abbrev pub line_of : List (List ℕ) → Outcome → List ℕ
line_of words Done = []
line_of words Disagree = []
line_of words Changed = []
line_of words (Refused refusal name) = refusal_line name refusal
line_of words (NotPrototype name line) = not_prototype_line name line
line_of words (BadWord number) = bad_word_line words number
line_of words (NotThere name) = not_there_line name
line_of words (Unread place) = shelf_fault_line place
line_of words (Unwritten place) = shelf_fault_line place
line_of words (NoFreeName number) = no_free_name_line number
line_of words NoMemory = no_memory_line
