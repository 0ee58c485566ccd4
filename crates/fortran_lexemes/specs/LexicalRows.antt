-- The rows by which the pieces of a statement are refused, before any form is asked for: F12 to F17. ANSI X3.9-1978, sections 2.2, 4.3 and
-- 4.8; 8.4, 11 and 12 for what is not supported. FORMAT has its own pieces, so that F12, F13 and F15 never hold in it.
use Rattle.std.specs.Prelude.{ℕ, ◌+◌, ◌-◌, Bool, true, false, not, ◌||◌, ◌&&◌, ◌==◌, nat_lt, List, [], ◌∷◌, drop, codes, Option, Some, None}
use Rattle.std.specs.List.{list_any}
use Rattle.std.specs.Str.{bytes_eq}
use Rattle.fortran_text.specs.f_tree.declared.expressions.BinaryOp.TheVariants as op
use Rattle.fortran_text.specs.f_tree.declared.refusals.Kind.{Kind}
use Rattle.fortran_text.specs.f_tree.declared.refusals.Kind.TheVariants.{IntegerTooLarge, NameTooLong, BadCharacterConstant, TypeNotSupported, StatementOrSpecifierNotSupported, NestingTooDeep}
use Rattle.fortran_lexemes.specs.Lexemes.{Lexeme, Lexemes, Name, LongName, Number, TooLarge, Quoted, BadQuote, Infix, Mark, Word}
use Rattle.fortran_lexemes.specs.declared.kinds.StmtKind.{StmtKind}
use Rattle.fortran_lexemes.specs.declared.kinds.StmtKind.TheVariants as kind
use Rattle.fortran_lexemes.specs.declared.signs.Sign.TheVariants as sign

-- F12 integer too large: a constant past 2147483647.
unfoldable pub is_too_large : Lexeme → Bool
is_too_large TooLarge = true
is_too_large piece = false

unfoldable pub has_too_large : Lexemes → Bool
has_too_large pieces = list_any is_too_large pieces

-- F13 name too long: past 31 characters.
unfoldable pub is_long_name : Lexeme → Bool
is_long_name LongName = true
is_long_name piece = false

unfoldable pub has_long_name : Lexemes → Bool
has_long_name pieces = list_any is_long_name pieces

-- F14 bad character constant: not closed, or empty.
unfoldable pub is_bad_quote : Lexeme → Bool
is_bad_quote BadQuote = true
is_bad_quote piece = false

unfoldable pub has_bad_quote : Lexemes → Bool
has_bad_quote pieces = list_any is_bad_quote pieces

-- F15 type not supported: a type that is no INTEGER, LOGICAL or CHARACTER, another length than 4 directly behind INTEGER or LOGICAL, or a
-- digit string beside a point that belongs to no operator and no logical constant.
unfoldable pub is_other_type : Lexeme → Bool
is_other_type (Word kind.Real) = true
is_other_type (Word kind.DoublePrecision) = true
is_other_type (Word kind.Complex) = true
is_other_type piece = false

unfoldable pub is_point : Lexeme → Bool
is_point (Mark sign.Point) = true
is_point piece = false

unfoldable pub is_number : Lexeme → Bool
is_number (Number digits value) = true
is_number piece = false

unfoldable pub is_other_length : Lexeme → Bool
is_other_length (Number digits value) = not (value == 4)
is_other_length piece = false

unfoldable pub is_times : Lexeme → Bool
is_times (Infix op.Times) = true
is_times piece = false

unfoldable pub is_sized_type : Lexeme → Bool
is_sized_type (Word kind.Integer) = true
is_sized_type (Word kind.Logical) = true
is_sized_type piece = false

-- A test of the first piece, if there is one.
unfoldable pub first_is : (Lexeme → Bool) → Lexemes → Bool
first_is test [] = false
first_is test (piece ∷ rest) = test piece

unfoldable pub begins_other_type : Lexeme → Lexemes → Bool
begins_other_type piece rest =
    is_other_type piece || (is_number piece && first_is is_point rest) || (is_point piece && first_is is_number rest)
    || (is_sized_type piece && first_is is_times rest && first_is is_other_length (drop 1 rest))

unfoldable pub has_other_type : Lexemes → Bool
has_other_type [] = false
has_other_type (piece ∷ rest) = begins_other_type piece rest || has_other_type rest

-- F16 statement or specifier not supported: INQUIRE, NAMELIST and PAUSE; REC, RECL and NML before `=` in a list of controls; a constant alone
-- behind STATUS, ACCESS, FORM or BLANK that is none of the words of this statement.
unfoldable pub is_other_statement : Lexeme → Bool
is_other_statement (Word kind.Inquire) = true
is_other_statement (Word kind.Namelist) = true
is_other_statement (Word kind.Pause) = true
is_other_statement piece = false

unfoldable pub takes_controls : StmtKind → Bool
takes_controls kind.Read = true
takes_controls kind.Write = true
takes_controls kind.OpenUnit = true
takes_controls kind.Close = true
takes_controls kind.Backspace = true
takes_controls kind.EndFile = true
takes_controls kind.Rewind = true
takes_controls k = false

unfoldable pub is_equals : Lexeme → Bool
is_equals (Mark sign.Equals) = true
is_equals piece = false

-- A name that is one of these words.
unfoldable pub is_named : List ℕ → Lexeme → Bool
is_named word (Name name) = bytes_eq name word
is_named word piece = false

-- A constant that is this text.
unfoldable pub is_constant : List ℕ → Lexeme → Bool
is_constant word (Quoted text) = bytes_eq text word
is_constant word piece = false

unfoldable pub is_quoted : Lexeme → Bool
is_quoted (Quoted text) = true
is_quoted piece = false

-- A control ends here.
unfoldable pub ends_control : Lexeme → Bool
ends_control (Mark sign.Comma) = true
ends_control (Mark sign.Close) = true
ends_control piece = false

unfoldable pub is_other_specifier : Lexeme → Bool
is_other_specifier piece = is_named (codes "rec") piece || is_named (codes "recl") piece || is_named (codes "nml") piece

unfoldable pub takes_word : Lexeme → Bool
takes_word piece =
    is_named (codes "status") piece || is_named (codes "access") piece || is_named (codes "form") piece || is_named (codes "blank") piece

-- The words that STATUS takes in OPEN, and those that the other specifiers take there.
unfoldable pub is_status : Lexeme → Lexeme → Bool
is_status name text =
    is_named (codes "status") name && (is_constant (codes "OLD") text || is_constant (codes "NEW") text || is_constant (codes "UNKNOWN") text)

unfoldable pub is_property : Lexeme → Lexeme → Bool
is_property name text =
    (is_named (codes "access") name && is_constant (codes "SEQUENTIAL") text)
    || (is_named (codes "form") name && is_constant (codes "FORMATTED") text)

unfoldable pub is_blank_word : Lexeme → Lexeme → Bool
is_blank_word name text = is_named (codes "blank") name && (is_constant (codes "NULL") text || is_constant (codes "ZERO") text)

abbrev pub is_word_of_open : Lexeme → Lexeme → Bool
is_word_of_open name text = is_status name text || is_property name text || is_blank_word name text

-- The words that STATUS takes in CLOSE.
abbrev pub is_word_of_close : Lexeme → Lexeme → Bool
is_word_of_close name text = is_named (codes "status") name && is_constant (codes "KEEP") text

unfoldable pub is_word_of : StmtKind → Lexeme → Lexeme → Bool
is_word_of kind.OpenUnit name text = is_word_of_open name text
is_word_of kind.Close name text = is_word_of_close name text
is_word_of k name text = false

-- The first piece is a constant that is none of the words of a specifier, and a control ends behind it.
unfoldable pub is_other_word : StmtKind → Lexeme → Lexemes → Bool
is_other_word k name [] = false
is_other_word k name (text ∷ rest) = is_quoted text && first_is ends_control rest && not (is_word_of k name text)

unfoldable pub is_other_control : StmtKind → Lexeme → Lexemes → Bool
is_other_control k name rest =
    first_is is_equals rest && (is_other_specifier name || (takes_word name && is_other_word k name (drop 1 rest)))

-- How many parentheses are open behind a piece, of so many before it; one that closes none counts for nothing.
unfoldable pub depth_after : ℕ → Lexeme → ℕ
depth_after depth (Mark sign.Open) = depth + 1
depth_after depth (Mark sign.Close) = depth - 1
depth_after depth piece = depth

-- A control that is not supported in a list of controls, from a place where so many parentheses are open.
unfoldable pub has_other_control : StmtKind → ℕ → Lexemes → Bool
has_other_control k depth [] = false
has_other_control k depth (piece ∷ rest) =
    let more = has_other_control k (depth_after depth piece) rest in
    not (depth == 0) && ((depth == 1 && is_other_control k piece rest) || more)

unfoldable pub is_opening : Lexeme → Bool
is_opening (Mark sign.Open) = true
is_opening piece = false

-- A statement that begins with this word and has such a control in its list.
unfoldable pub has_other_controls : StmtKind → Lexemes → Bool
has_other_controls k rest = takes_controls k && first_is is_opening rest && has_other_control k 1 (drop 1 rest)

unfoldable pub begins_other_control : Lexeme → Lexemes → Bool
begins_other_control (Word k) rest = has_other_controls k rest
begins_other_control piece rest = false

unfoldable pub has_other_statement : Lexemes → Bool
has_other_statement [] = false
has_other_statement (piece ∷ rest) = is_other_statement piece || begins_other_control piece rest || has_other_statement rest

-- F17 nesting too deep: more than 64 open parentheses, where so many are open.
unfoldable pub is_deeper : ℕ → Lexemes → Bool
is_deeper depth [] = nat_lt 64 depth
is_deeper depth (piece ∷ rest) = nat_lt 64 depth || is_deeper (depth_after depth piece) rest

unfoldable pub is_too_deep : Lexemes → Bool
is_too_deep pieces = is_deeper 0 pieces

-- The least of the rows that hold, by the tests of the rows.
abbrev pub least_row : Bool → Bool → Bool → Bool → Bool → Bool → Option Kind
least_row true b c d e f = Some IntegerTooLarge
least_row false true c d e f = Some NameTooLong
least_row false false true d e f = Some BadCharacterConstant
least_row false false false true e f = Some TypeNotSupported
least_row false false false false true f = Some StatementOrSpecifierNotSupported
least_row false false false false false true = Some NestingTooDeep
least_row false false false false false false = None

-- The first row of the pieces of a statement.
unfoldable pub first_lexical_row : StmtKind → Lexemes → Option Kind
first_lexical_row k pieces =
    least_row (has_too_large pieces) (has_long_name pieces) (has_bad_quote pieces) (has_other_type pieces) (has_other_statement pieces)
    (is_too_deep pieces)
