-- The pieces of a statement. ANSI X3.9-1978, sections 2.2 and 3.3: keywords are not reserved, so the kind of a statement and the place say
-- which words may stand there. MIL-STD-1753: DO WHILE.
use Rattle.std.specs.Prelude.{ℕ, zero, suc, ◌+◌, ◌-◌, Bool, false, not, ◌||◌, ◌&&◌, ◌==◌, nat_lt, List, [], ◌∷◌, ◌++◌, length, drop, codes, Option, Some, None, if◌then◌else◌}
use Rattle.std.specs.Option.{option_to_list}
use Rattle.fortran_text.specs.declared.characters.Character.{Character}
use Rattle.fortran_lexemes.specs.KindsOfStatements.{word_of, types, kind_of_characters}
use Rattle.fortran_lexemes.specs.Lexemes.{Lexeme, Lexemes, Mark, Word, To, Then, FormatText, Other}
use Rattle.fortran_lexemes.specs.PiecesOfText.{is_mark, is_digit, codes_of, begins, constant_end, cut_at}
use Rattle.fortran_lexemes.specs.declared.kinds.StmtKind.{StmtKind}
use Rattle.fortran_lexemes.specs.declared.kinds.StmtKind.TheVariants as kind
use Rattle.fortran_lexemes.specs.declared.modes.Expected.{Expected}
use Rattle.fortran_lexemes.specs.declared.modes.Expected.TheVariants as expected
use Rattle.fortran_lexemes.specs.declared.modes.Mode.{Mode}
use Rattle.fortran_lexemes.specs.declared.modes.Mode.TheVariants as mode
use Rattle.fortran_lexemes.specs.declared.signs.Sign.TheVariants as sign

-- What is cut at a place: a piece or none, what is left behind it, and which words may stand there.
pub record Step : Type 0 where
  pub piece : Option Lexeme
  pub rest : List Character
  pub next : Mode

-- A word of so many characters.
abbrev pub word_step : Lexeme → ℕ → List Character → Mode → Step
word_step word n text next = record { piece = Some word; rest = drop n text; next = next }

-- A piece that is no word of a statement.
abbrev pub plain_step : Mode → Character → List Character → Step
plain_step next c rest = let cut = cut_at c rest in record { piece = Some cut.piece; rest = cut.rest; next = next }

-- How many parentheses are open behind a character, of so many before it.
unfoldable pub depth_behind : ℕ → Character → ℕ
depth_behind depth c = if is_mark 40 c then depth + 1 else if is_mark 41 c then depth - 1 else depth

-- How many characters are left behind the parenthesis that closes all of so many that are open; none where none does.
unfoldable pub left_behind : ℕ → List Character → Option ℕ
left_behind zero text = Some (length text)
left_behind (suc depth) [] = None
left_behind (suc depth) (c ∷ rest) = left_behind (depth_behind (suc depth) c) rest

unfoldable pub within : Expected → Option ℕ → Mode
within wanted None = mode.Plain
within wanted (Some left) = mode.Within wanted left

-- A parenthesis that opens, and behind its partner the word that is expected.
unfoldable pub opened_step : Expected → List Character → Step
opened_step wanted rest = record { piece = Some (Mark sign.Open); rest = rest; next = within wanted (left_behind 1 rest) }

-- The mode behind the word of a statement.
unfoldable pub behind_word : StmtKind → Mode
behind_word kind.Assign = mode.Label
behind_word kind.DoWhile = mode.While
behind_word kind.ElseIf = mode.Condition expected.Then
behind_word kind.If = mode.Condition expected.ThenOrStatement
behind_word kind.Format = mode.Format
behind_word kind.Implicit = mode.Awaits expected.Type
behind_word k = mode.Plain

-- The first of these types whose word begins a text. None of the words begins another.
unfoldable pub type_at : List StmtKind → List Character → Option StmtKind
type_at [] text = None
type_at (k ∷ more) text = let other = type_at more text in if begins (word_of k) text then Some k else other

-- A type before FUNCTION, if one stands there.
unfoldable pub typed_step : Option StmtKind → Character → List Character → Step
typed_step None c rest = plain_step mode.Plain c rest
typed_step (Some k) c rest = word_step (Word k) (length (word_of k)) (c ∷ rest) (mode.Awaits expected.Function)

-- The beginning of a statement of a kind that has a word: the word, if it stands there.
unfoldable pub statement_step : StmtKind → Character → List Character → Step
statement_step k c rest =
    if begins (word_of k) (c ∷ rest) then word_step (Word k) (length (word_of k)) (c ∷ rest) (behind_word k)
    else plain_step mode.Plain c rest

-- The beginning of a function, with a type or without one.
unfoldable pub function_step : Character → List Character → Step
function_step c rest =
    if begins (word_of kind.Function) (c ∷ rest) then statement_step kind.Function c rest
    else typed_step (type_at types (c ∷ rest)) c rest

-- The beginning of a statement.
unfoldable pub begin_step : StmtKind → Character → List Character → Step
begin_step kind.Assignment c rest = plain_step mode.Plain c rest
begin_step kind.Function c rest = function_step c rest
begin_step k c rest = statement_step k c rest

-- The beginning of the statement that an IF may have in it.
unfoldable pub inner_step : Option StmtKind → Character → List Character → Step
inner_step None c rest = plain_step mode.Plain c rest
inner_step (Some k) c rest = begin_step k c rest

-- THEN alone.
unfoldable pub is_then : List Character → Bool
is_then text = begins (codes "then") text && length text == 4

-- A word that may stand further on: a parenthesis is passed with all that is in it.
unfoldable pub awaiting_step : Expected → Character → List Character → Step
awaiting_step wanted c rest = if is_mark 40 c then opened_step wanted rest else plain_step (mode.Awaits wanted) c rest

-- A type in IMPLICIT.
unfoldable pub type_step : Option StmtKind → Character → List Character → Step
type_step None c rest = awaiting_step expected.Type c rest
type_step (Some k) c rest = word_step (Word k) (length (word_of k)) (c ∷ rest) (mode.Awaits expected.Type)

-- FUNCTION behind a type.
unfoldable pub behind_type_step : Character → List Character → Step
behind_type_step c rest =
    if begins (word_of kind.Function) (c ∷ rest) then statement_step kind.Function c rest
    else awaiting_step expected.Function c rest

-- THEN alone.
unfoldable pub then_step : Character → List Character → Step
then_step c rest =
    if is_then (c ∷ rest) then word_step Then 4 (c ∷ rest) mode.Plain else plain_step mode.Plain c rest

-- THEN alone, or the beginning of a statement.
unfoldable pub behind_if_step : Character → List Character → Step
behind_if_step c rest =
    if is_then (c ∷ rest) then word_step Then 4 (c ∷ rest) mode.Plain
    else inner_step (kind_of_characters false (c ∷ rest)) c rest

-- The word that is expected, if it stands there.
unfoldable pub expected_step : Expected → Character → List Character → Step
expected_step expected.Then c rest = then_step c rest
expected_step expected.ThenOrStatement c rest = behind_if_step c rest
expected_step expected.Type c rest = type_step (type_at types (c ∷ rest)) c rest
expected_step expected.Function c rest = behind_type_step c rest

-- TO behind a label.
unfoldable pub to_step : Character → List Character → Step
to_step c rest =
    if begins (codes "to") (c ∷ rest) then word_step To 2 (c ∷ rest) mode.Plain else plain_step mode.Plain c rest

-- WHILE, which is no piece: the word of the statement stands for it too.
unfoldable pub while_step : Character → List Character → Step
while_step c rest =
    if begins (codes "while") (c ∷ rest) then record { piece = None; rest = drop 5 (c ∷ rest); next = mode.Plain }
    else plain_step mode.While c rest

-- What stands in a FORMAT statement whose text is no format: constants, parentheses and single characters.
unfoldable pub part_step : Character → List Character → Step
part_step c rest =
    if is_mark 39 c || is_mark 40 c || is_mark 41 c then plain_step mode.FormatParts c rest
    else word_step (Other c.code) 0 rest mode.FormatParts

-- What is left behind a character of a format that is no parenthesis: behind a constant that it opens, which is to be closed and not empty.
unfoldable pub behind_constant : Option ℕ → List Character → Option (List Character)
behind_constant None rest = None
behind_constant (Some zero) rest = None
behind_constant (Some (suc n)) rest = Some (drop (suc (suc n)) rest)

unfoldable pub behind_part : Character → List Character → Option (List Character)
behind_part c rest = if is_mark 39 c then behind_constant (constant_end 0 rest) rest else Some rest

-- The text of a format, from a place where so many parentheses are open, at most 64: its last character closes the first of them, and its
-- constants are closed and not empty. The first number is not less than that of its characters.
unfoldable pub is_format : ℕ → ℕ → Option (List Character) → Bool
is_format zero depth text = false
is_format (suc fuel) depth None = false
is_format (suc fuel) depth (Some []) = depth == 0
is_format (suc fuel) depth (Some (c ∷ rest)) =
    let more = is_format fuel (depth_behind depth c) (behind_part c rest) in not (depth == 0) && nat_lt depth 65 && more

-- The text of a FORMAT statement: one piece, if it is the text of a format.
unfoldable pub format_step : Character → List Character → Step
format_step c rest =
    if is_mark 40 c && is_format (suc (length rest)) 1 (Some rest)
    then record { piece = Some (FormatText (codes_of (c ∷ rest))); rest = []; next = mode.Plain }
    else part_step c rest

-- A label, and TO behind it.
unfoldable pub label_step : Character → List Character → Step
label_step c rest = if is_digit c then plain_step mode.To c rest else plain_step mode.Plain c rest

-- A condition in parentheses.
unfoldable pub condition_step : Expected → Character → List Character → Step
condition_step wanted c rest = if is_mark 40 c then opened_step wanted rest else plain_step mode.Plain c rest

-- The word that is expected where so many characters are left.
unfoldable pub within_step : Expected → ℕ → Character → List Character → Step
within_step wanted left c rest =
    if length rest + 1 == left then expected_step wanted c rest else plain_step (mode.Within wanted left) c rest

-- What is cut at a place of a text.
unfoldable pub step : Mode → Character → List Character → Step
step (mode.Begins k) c rest = begin_step k c rest
step mode.Plain c rest = plain_step mode.Plain c rest
step mode.Label c rest = label_step c rest
step mode.To c rest = to_step c rest
step mode.While c rest = while_step c rest
step (mode.Condition wanted) c rest = condition_step wanted c rest
step (mode.Awaits wanted) c rest = expected_step wanted c rest
step (mode.Within wanted left) c rest = within_step wanted left c rest
step mode.Format c rest = format_step c rest
step mode.FormatParts c rest = part_step c rest

-- The blank that stays between two constants is no piece.
unfoldable pub step_past_blank : Mode → Character → List Character → Step
step_past_blank m c rest = if is_mark 32 c then record { piece = None; rest = rest; next = m } else step m c rest

-- The pieces of a text from a place; the first number is not less than that of its characters.
unfoldable pub pieces_from : ℕ → Mode → List Character → Lexemes
pieces_from zero m text = []
pieces_from (suc fuel) m [] = []
pieces_from (suc fuel) m (c ∷ rest) =
    let s = step_past_blank m c rest in option_to_list s.piece ++ pieces_from fuel s.next s.rest

-- The pieces of the characters of a statement of a kind.
unfoldable pub pieces : StmtKind → List Character → Lexemes
pieces k text = pieces_from (length text) (mode.Begins k) text
