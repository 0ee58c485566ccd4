-- Which statement a text is. ANSI X3.9-1978, sections 3.3 to 3.5 and 7 to 13, and MIL-STD-1753: DO WHILE, END DO and INCLUDE. Keywords are
-- not reserved: the forms of DO WHILE come first, then an `=` outside parentheses and constants, and then the longest keyword that begins
-- the text. Texts are without blanks outside constants, and there in lower case.
use Rattle.std.specs.Prelude.{ℕ, zero, suc, ◌+◌, ◌-◌, Bool, true, false, not, ◌||◌, ◌&&◌, ◌==◌, nat_eq, nat_lt, List, [], ◌∷◌, length, drop, map, filter, codes, Option, Some, None, if◌then◌else◌}
use Rattle.std.specs.Char.{is_ascii_digit, is_ascii_lowercase}
use Rattle.std.specs.List.{list_any, starts_with, prefix_len}
use Rattle.fortran_text.specs.CharactersOfText.{characters, is_letter_or_digit}
use Rattle.fortran_text.specs.declared.characters.Character.{Character}
use Rattle.fortran_lexemes.specs.declared.kinds.StmtKind.{StmtKind}
use Rattle.fortran_lexemes.specs.declared.kinds.StmtKind.TheVariants as kind

-- The word of a statement; an assignment has none.
unfoldable pub word_of : StmtKind → List ℕ
word_of kind.Assignment = []
word_of kind.Do = codes "do"
word_of kind.DoWhile = codes "do"
word_of kind.Assign = codes "assign"
word_of kind.Backspace = codes "backspace"
word_of kind.BlockData = codes "blockdata"
word_of kind.Call = codes "call"
word_of kind.Character = codes "character"
word_of kind.Close = codes "close"
word_of kind.Common = codes "common"
word_of kind.Complex = codes "complex"
word_of kind.Continue = codes "continue"
word_of kind.Init = codes "data"
word_of kind.Dimension = codes "dimension"
word_of kind.DoublePrecision = codes "doubleprecision"
word_of kind.Else = codes "else"
word_of kind.ElseIf = codes "elseif"
word_of kind.End = codes "end"
word_of kind.EndDo = codes "enddo"
word_of kind.EndFile = codes "endfile"
word_of kind.EndIf = codes "endif"
word_of kind.Entry = codes "entry"
word_of kind.Equivalence = codes "equivalence"
word_of kind.External = codes "external"
word_of kind.Format = codes "format"
word_of kind.Function = codes "function"
word_of kind.Goto = codes "goto"
word_of kind.If = codes "if"
word_of kind.Implicit = codes "implicit"
word_of kind.Include = codes "include"
word_of kind.Inquire = codes "inquire"
word_of kind.Integer = codes "integer"
word_of kind.Intrinsic = codes "intrinsic"
word_of kind.Logical = codes "logical"
word_of kind.Namelist = codes "namelist"
word_of kind.OpenUnit = codes "open"
word_of kind.Parameter = codes "parameter"
word_of kind.Pause = codes "pause"
word_of kind.Print = codes "print"
word_of kind.Program = codes "program"
word_of kind.Read = codes "read"
word_of kind.Real = codes "real"
word_of kind.Return = codes "return"
word_of kind.Rewind = codes "rewind"
word_of kind.Save = codes "save"
word_of kind.Stop = codes "stop"
word_of kind.Subroutine = codes "subroutine"
word_of kind.Write = codes "write"

-- The statements that go by their word.
unfoldable pub keywords : List StmtKind
keywords =
    kind.Assign ∷ kind.Backspace ∷ kind.BlockData ∷ kind.Call ∷ kind.Character ∷ kind.Close ∷ kind.Common ∷ kind.Complex
    ∷ kind.Continue ∷ kind.Init ∷ kind.Dimension ∷ kind.DoublePrecision ∷ kind.Else ∷ kind.ElseIf ∷ kind.End ∷ kind.EndDo
    ∷ kind.EndFile ∷ kind.EndIf ∷ kind.Entry ∷ kind.Equivalence ∷ kind.External ∷ kind.Format ∷ kind.Function ∷ kind.Goto
    ∷ kind.If ∷ kind.Implicit ∷ kind.Include ∷ kind.Inquire ∷ kind.Integer ∷ kind.Intrinsic ∷ kind.Logical ∷ kind.Namelist
    ∷ kind.OpenUnit ∷ kind.Parameter ∷ kind.Pause ∷ kind.Print ∷ kind.Program ∷ kind.Read ∷ kind.Real ∷ kind.Return ∷ kind.Rewind
    ∷ kind.Save ∷ kind.Stop ∷ kind.Subroutine ∷ kind.Write ∷ []

-- The one of two statements that has the longer word.
unfoldable pub longer : StmtKind → Option StmtKind → Option StmtKind
longer k None = Some k
longer k (Some other) = if nat_lt (length (word_of k)) (length (word_of other)) then Some other else Some k

-- The statement with the longest of the words that begin a text.
unfoldable pub longest_keyword : List StmtKind → List ℕ → Option StmtKind
longest_keyword [] text = None
longest_keyword (k ∷ more) text =
    let other = longest_keyword more text in if starts_with nat_eq text (word_of k) then longer k other else other

-- The characters of a text that stand outside character constants, with the apostrophes.
unfoldable pub outside_constants : List Character → List ℕ
outside_constants text = map (λ (c : Character). c.code) (filter (λ (c : Character). not c.quoted) text)

-- How many parentheses are open behind a character, of so many before it; one that closes none counts for nothing.
unfoldable pub nesting_behind : ℕ → ℕ → ℕ
nesting_behind depth c = if c == 40 then depth + 1 else if c == 41 then depth - 1 else depth

-- The characters outside parentheses, from a place inside so many.
unfoldable pub outside_parentheses : ℕ → List ℕ → List ℕ
outside_parentheses depth [] = []
outside_parentheses depth (c ∷ rest) =
    let more = outside_parentheses (nesting_behind depth c) rest in if depth == 0 && not (c == 40) then c ∷ more else more

-- What follows the parenthesis that closes so many; nothing where none does.
unfoldable pub after_parentheses : ℕ → List ℕ → Option (List ℕ)
after_parentheses zero text = Some text
after_parentheses (suc depth) [] = None
after_parentheses (suc depth) (c ∷ rest) = after_parentheses (nesting_behind (suc depth) c) rest

unfoldable pub begins_with : (ℕ → Bool) → List ℕ → Bool
begins_with test [] = false
begins_with test (c ∷ rest) = test c

-- A test of what follows the parenthesis that closes the one open before a text.
unfoldable pub closed_before : (List ℕ → Bool) → Option (List ℕ) → Bool
closed_before test None = false
closed_before test (Some rest) = test rest

unfoldable pub is_empty : List ℕ → Bool
is_empty [] = true
is_empty (c ∷ rest) = false

-- `WHILE(`, of which the matching parenthesis ends the text.
unfoldable pub is_while : List ℕ → Bool
is_while text = starts_with nat_eq text (codes "while(") && closed_before is_empty (after_parentheses 1 (drop 6 text))

-- A text without the comma that may begin it.
unfoldable pub past_comma : List ℕ → List ℕ
past_comma [] = []
past_comma (c ∷ rest) = if c == 44 then rest else c ∷ rest

-- A label, a comma that may be left out, and `WHILE(..)`.
unfoldable pub is_labelled_while : List ℕ → Bool
is_labelled_while text = begins_with is_ascii_digit text && is_while (past_comma (drop (prefix_len is_ascii_digit text) text))

-- `DO`, with a label or without one, and `WHILE(..)`.
unfoldable pub is_do_while : List ℕ → Bool
is_do_while text = starts_with nat_eq text (codes "do") && (is_while (drop 2 text) || is_labelled_while (drop 2 text))

-- `IF(`, with a letter or digit behind the matching parenthesis.
unfoldable pub is_logical_if : List ℕ → Bool
is_logical_if text =
    starts_with nat_eq text (codes "if(") && closed_before (begins_with is_letter_or_digit) (after_parentheses 1 (drop 3 text))

unfoldable pub or_nothing : Option (List ℕ) → List ℕ
or_nothing None = []
or_nothing (Some rest) = rest

-- What follows the `n` or `(..)` of a length.
unfoldable pub after_amount : List ℕ → List ℕ
after_amount rest =
    if starts_with nat_eq rest (codes "(") then or_nothing (after_parentheses 1 (drop 1 rest))
    else drop (prefix_len is_ascii_digit rest) rest

-- What follows a length behind the word of a type: `*n` or `*(..)`.
unfoldable pub after_length : List ℕ → List ℕ
after_length [] = []
after_length (c ∷ rest) = if c == 42 then after_amount rest else c ∷ rest

-- `FUNCTION`, a name and `(`.
unfoldable pub begins_function : List ℕ → Bool
begins_function text =
    let named = drop 8 text in
    starts_with nat_eq text (codes "function") && begins_with is_ascii_lowercase named
    && begins_with (λ c. c == 40) (drop (prefix_len (λ c. is_letter_or_digit c || c == 95) named) named)

-- A type of these, and then a function.
unfoldable pub begins_typed_function : List StmtKind → List ℕ → Bool
begins_typed_function [] text = false
begins_typed_function (k ∷ more) text =
    (starts_with nat_eq text (word_of k) && begins_function (after_length (drop (length (word_of k)) text)))
    || begins_typed_function more text

unfoldable pub types : List StmtKind
types = kind.Integer ∷ kind.Real ∷ kind.DoublePrecision ∷ kind.Complex ∷ kind.Logical ∷ kind.Character ∷ []

-- What follows the first `=`; nothing where none stands.
unfoldable pub behind_equals : List ℕ → List ℕ
behind_equals [] = []
behind_equals (c ∷ rest) = let more = behind_equals rest in if c == 61 then rest else more

-- Where an `=` stands outside: a comma after it makes a DO.
unfoldable pub kind_with_equals : List ℕ → List ℕ → StmtKind
kind_with_equals outside marks =
    if list_any (λ c. c == 44) (behind_equals marks) then kind.Do
    else if is_logical_if outside then kind.If
    else kind.Assignment

-- The kind of a text, of which is told what stands outside constants and what of that outside parentheses.
unfoldable pub kind_of_marks : Bool → List ℕ → List ℕ → Option StmtKind
kind_of_marks first outside marks =
    if is_do_while outside then Some kind.DoWhile
    else if list_any (λ c. c == 61) marks then Some (kind_with_equals outside marks)
    else if first && begins_typed_function types outside then Some kind.Function
    else longest_keyword keywords outside

-- The kind of the characters of a statement, which may be the first of its unit.
unfoldable pub kind_of_characters : Bool → List Character → Option StmtKind
kind_of_characters first text =
    let outside = outside_constants text in kind_of_marks first outside (outside_parentheses zero outside)

-- The kind of a statement: whether it is the first of a unit in a file that is not included, whether it has a label, and its text.
unfoldable pub kind_of_statement : Bool → Bool → List ℕ → Option StmtKind
kind_of_statement first labelled text = kind_of_characters first (characters labelled text)
