-- What the words of a command line ask for (CSTR 149, appendix B, gives the words of f2c; those that are
-- not listed here stand in no command).
use Rattle.std.specs.Prelude.{ℕ, suc, ◌+◌, Bool, false, not, ◌&&◌, ◌||◌, List, [], ◌∷◌, ◌++◌, length, drop, Option, Some, None, codes, bytes_eq, nat_eq, nat_lt, if◌then◌else◌}
use Rattle.std.specs.List.{list_any}
use Rattle.f2c_outside.specs.declared.shelves.Place.{Place}
use Rattle.f2c_outside.specs.declared.shelves.Place.TheVariants.{Input, File}
use Rattle.f2c_outside.specs.Shelf.{text_or_none}
use Rattle.f2c_outside.specs.Texts.{word_at}
use Rattle.f_tree.specs.declared.names.Options.{Options}
use Rattle.output_names.specs.OutputNames.{is_file_word, is_prototype_word, have_one_output}
use Rattle.command_words.specs.declared.command.Command.{Command}
use Rattle.command_words.specs.declared.command.Command.TheVariants.{Translate, Split, Check, Help, BadWord}
use Rattle.command_words.specs.declared.command.Origin.{Origin}
use Rattle.command_words.specs.declared.command.Translation.{Translation}
use Rattle.command_words.specs.declared.command.Origin.TheVariants as origin

-- a word that asks for the usage
abbrev pub is_help : List ℕ → Bool
is_help word = bytes_eq word (codes "-h") || bytes_eq word (codes "--help")

-- the options of a translation: no name has a type by its letter, loops are run at least once, text past column 72 is refused
abbrev pub no_implied_types : List ℕ
no_implied_types = codes "-u"

abbrev pub one_turn : List ℕ
one_turn = codes "-onetrip"

abbrev pub long_cards : List ℕ
long_cards = codes "-72"

-- and those that change nothing
abbrev pub changes_nothing : List ℕ → Bool
changes_nothing word = bytes_eq word (codes "-A") || (bytes_eq word (codes "-w") || bytes_eq word (codes "-!bs"))

-- the prototypes of each file are written, and they are compared with those that were there
abbrev pub with_prototypes : List ℕ
with_prototypes = codes "-P"

abbrev pub with_comparison : List ℕ
with_comparison = codes "-Ps"

abbrev pub is_prototype_option : List ℕ → Bool
is_prototype_option word = bytes_eq word with_prototypes || bytes_eq word with_comparison

abbrev pub is_option : List ℕ → Bool
is_option word = bytes_eq word no_implied_types || (bytes_eq word one_turn || (bytes_eq word long_cards || changes_nothing word))

-- whether there is a word, which is this one
abbrev pub is_the_word : List ℕ → Option (List ℕ) → Bool
is_the_word word None = false
is_the_word word (Some other) = bytes_eq word other

abbrev pub has_word : List ℕ → List (List ℕ) → Bool
has_word word words = list_any (bytes_eq word) words

abbrev pub options_of : List (List ℕ) → Options
options_of words = record {
  undeclared = has_word no_implied_types words;
  onetrip = has_word one_turn words;
  long_cards = has_word long_cards words;
  checks = false;
}

-- what is to be translated: under which options, whether prototypes are written, and whether they are compared
abbrev pub translation_of : List (List ℕ) → Translation
translation_of words = record {
  options = options_of words;
  prototypes = has_word with_prototypes words || has_word with_comparison words;
  compared = has_word with_comparison words;
}

-- whether there is a word, which names a file with the output name of this one
abbrev pub gives_its_output : List ℕ → Option (List ℕ) → Bool
gives_its_output word None = false
gives_its_output word (Some other) = have_one_output word other

-- a translation goes on with an option, with a file of prototypes, and with a FORTRAN file that gives another output name than those before
abbrev pub goes_on : List (List ℕ) → List ℕ → Bool
goes_on before word =
    is_option word || (is_prototype_option word || (is_prototype_word word || (is_file_word word && not (list_any (have_one_output word) before))))

-- whether there is a word with which it goes on
abbrev pub goes_on_with : List (List ℕ) → Option (List ℕ) → Bool
goes_on_with before None = false
goes_on_with before (Some word) = goes_on before word

-- the number of the first word, behind those before, with which no translation goes on
unfoldable pub first_other : ℕ → List (List ℕ) → List (List ℕ) → Option ℕ
first_other number before [] = None
first_other number before (word ∷ words) = if goes_on before word then first_other (suc number) (before ++ word ∷ []) words else Some number

-- whether there is a word that asks for prototypes, and whether there is one that is a FORTRAN file
abbrev pub is_some_asking : Option (List ℕ) → Bool
is_some_asking None = false
is_some_asking (Some word) = is_prototype_option word

abbrev pub is_some_source : Option (List ℕ) → Bool
is_some_source None = false
is_some_source (Some word) = is_file_word word

-- prototypes are those of FORTRAN files: where they are asked for and there is none, it is missing behind the last word
abbrev pub lacks_a_file : List (List ℕ) → Bool
lacks_a_file words = list_any is_prototype_option words && not (list_any is_file_word words)

-- the number behind that of the last word, as far as words are counted
abbrev pub one_past : List (List ℕ) → ℕ
one_past words = if nat_lt (length words) 18446744073709551615 then length words + 1 else length words

abbrev pub translation_by : List (List ℕ) → Option ℕ → Command
translation_by words None = if lacks_a_file words then BadWord (one_past words) else Translate (translation_of words)
translation_by words (Some number) = BadWord number

-- `-split`: what is read is split
abbrev pub is_split : List ℕ → Bool
is_split word = bytes_eq word (codes "-split")

-- behind `-split` stands at most one word, which names a FORTRAN file; without it Input is split
abbrev pub split_by : Option (List ℕ) → List (List ℕ) → Command
split_by None words = Split origin.Input
split_by (Some word) words = if is_file_word word then (if nat_eq (length words) 2 then Split (origin.Word 2) else BadWord 3) else BadWord 2

-- the place that splitting reads
abbrev pub place_from : List (List ℕ) → Origin → Place
place_from words origin.Input = Input
place_from words (origin.Word number) = File (text_or_none (word_at number words))

-- `-check`: the calls of FORTRAN files are checked, by what they and prototype files say
abbrev pub is_check : List ℕ → Bool
is_check word = bytes_eq word (codes "-check")

-- a word that names a file of a check
abbrev pub names_a_file : List ℕ → Bool
names_a_file word = is_file_word word || is_prototype_word word

-- whether there is a word that names one
abbrev pub is_some_file : Option (List ℕ) → Bool
is_some_file None = false
is_some_file (Some word) = names_a_file word

-- the number of the first word with which no check goes on
unfoldable pub first_unchecked : ℕ → List (List ℕ) → Option ℕ
first_unchecked number [] = None
first_unchecked number (word ∷ words) = if names_a_file word then first_unchecked (suc number) words else Some number

-- a check has no options
abbrev pub no_options : Options
no_options = record { undeclared = false; onetrip = false; long_cards = false; checks = false }

-- and behind `-check` one file at least
abbrev pub check_by : List (List ℕ) → Option ℕ → Command
check_by words None = if nat_lt 1 (length words) then Check no_options else BadWord 2
check_by words (Some number) = BadWord number

-- options and files, in any order, ask for a translation, an option as often as one likes; `-split` stands first, before a file at most; a word that
-- asks for the usage stands alone; `-check` stands first, before files; else the first word is named with which no command goes on
abbrev pub command_for : Option (List ℕ) → List (List ℕ) → Command
command_for None words = translation_by words (first_other 1 [] words)
command_for (Some first) words =
    if is_split first then split_by (word_at 2 words) words
    else (if is_help first then (if nat_eq (length words) 1 then Help else BadWord 2) else
    (if is_check first then check_by words (first_unchecked 2 (drop 1 words)) else translation_by words (first_other 1 [] words)))

abbrev pub command_of : List (List ℕ) → Command
command_of words = command_for (word_at 1 words) words
