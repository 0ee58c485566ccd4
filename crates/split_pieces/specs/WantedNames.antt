-- The name that a piece asks for, by its first statement. ANSI X3.9-1978, section 14.1: PROGRAM; 15.5.1: FUNCTION; 15.6.1: SUBROUTINE; 16.1:
-- BLOCK DATA, whose name may be left out; 14: a main program may begin with another statement. No more of the statement is judged.
use Rattle.std.specs.Prelude.{ℕ, zero, Bool, true, false, ◌||◌, ◌&&◌, ◌==◌, nat_eq, nat_le, List, [], ◌∷◌, ◌++◌, length, take, drop, codes, Option, Some, None, is_some, if◌then◌else◌}
use Rattle.std.specs.Char.{is_ascii_lowercase}
use Rattle.std.specs.List.{starts_with, prefix_len}
use Rattle.fortran_lexemes.specs.fortran_text.Cards.{cards_of}
use Rattle.fortran_lexemes.specs.fortran_text.CharactersOfText.{characters, is_letter_or_digit}
use Rattle.fortran_lexemes.specs.fortran_text.StatementsOfFile.{statements}
use Rattle.fortran_lexemes.specs.fortran_text.declared.source.Statement.{Statement}
use Rattle.fortran_lexemes.specs.KindsOfStatements.{word_of, outside_constants, nesting_behind, begins_with, is_empty, kind_of_statement}
use Rattle.fortran_lexemes.specs.declared.kinds.StmtKind.{StmtKind}
use Rattle.fortran_lexemes.specs.declared.kinds.StmtKind.TheVariants as kind
use Rattle.split_pieces.specs.declared.wanted.Wanted.{Wanted}
use Rattle.split_pieces.specs.declared.wanted.Wanted.TheVariants.{Named, Main, BlockData, Unknown}
use Rattle.split_pieces.specs.declared.wanted.WantedName.{WantedName}

-- A letter, a digit or an underscore, in a text without upper case.
abbrev pub is_in_name : ℕ → Bool
is_in_name c = is_letter_or_digit c || c == 95

-- The longest run of these that begins a text.
unfoldable pub run_of : List ℕ → List ℕ
run_of text = take (prefix_len is_in_name text) text

-- A run that is a name: it begins with a letter and has at most 31 characters.
unfoldable pub is_name : List ℕ → Bool
is_name run = begins_with is_ascii_lowercase run && nat_le (length run) 31

-- A piece that has no name of its own.
abbrev pub nameless : Wanted → WantedName
nameless wanted = record { wanted = wanted; name = [] }

-- What a piece asks for whose unit has the name that a run should be.
unfoldable pub by_run : List ℕ → WantedName
by_run run = if is_name run then record { wanted = Named; name = run ++ codes ".f" } else nameless Unknown

-- BLOCK DATA may have no name.
unfoldable pub by_block_run : List ℕ → WantedName
by_block_run run = if is_empty run then nameless BlockData else by_run run

-- What follows the word of a statement.
unfoldable pub behind_word : StmtKind → List ℕ → List ℕ
behind_word k text = drop (length (word_of k)) text

-- What follows the first FUNCTION outside parentheses: a type, with a length or without one, may stand before it.
unfoldable pub behind_function : ℕ → List ℕ → List ℕ
behind_function depth [] = []
behind_function depth (c ∷ rest) =
    if depth == 0 && starts_with nat_eq (c ∷ rest) (codes "function") then drop 7 rest else behind_function (nesting_behind depth c) rest

-- What a piece asks for by the kind of its first statement and the text of that, without blanks and in lower case.
unfoldable pub by_kind : Option StmtKind → List ℕ → WantedName
by_kind None text = nameless Unknown
by_kind (Some kind.Program) text = by_run (run_of (behind_word kind.Program text))
by_kind (Some kind.Subroutine) text = by_run (run_of (behind_word kind.Subroutine text))
by_kind (Some kind.Function) text = by_run (run_of (behind_function zero text))
by_kind (Some kind.BlockData) text = by_block_run (run_of (behind_word kind.BlockData text))
by_kind (Some _) text = nameless Main

-- The text of a statement that is no FORMAT, without blanks and what stands inside constants, in lower case.
unfoldable pub marks_of : List ℕ → List ℕ
marks_of text = outside_constants (characters false text)

-- What a piece with these statements asks for.
unfoldable pub wanted_by : List Statement → WantedName
wanted_by [] = nameless Unknown
wanted_by (s ∷ more) = by_kind (kind_of_statement true (is_some s.label) s.text) (marks_of s.text)

unfoldable pub wanted_of : List ℕ → WantedName
wanted_of piece = wanted_by (statements zero 1 (cards_of piece))
