-- What the words of a run of C files ask for. CSTR 149 has no such command: it stands beside the words of its appendix B.
use Rattle.std.specs.Prelude.{ℕ, suc, ◌+◌, ◌-◌, Bool, true, false, not, ◌&&◌, ◌||◌, List, [], ◌∷◌, ◌++◌, length, drop, Option, Some, None, is_some, unwrap_or, Result, Ok, Err, codes, bytes_eq, nat_lt, nat_le, if◌then◌else◌}
use Rattle.std.specs.List.{list_all}
use Rattle.std.specs.Char.{is_ascii_digit}
use Rattle.std.specs.Str.Parse.{digits_value}
use Rattle.f2c_outside.specs.Texts.{word_at}
use Rattle.run_words.specs.declared.kinds.Expected.{Expected}
use Rattle.run_words.specs.declared.kinds.Expected.TheVariants.{Any, FileName, StepLimit}
use Rattle.run_words.specs.declared.request.RunRequest.{RunRequest}

-- ## Words

-- a word that asks for a run
abbrev pub is_run : List ℕ → Bool
is_run word = bytes_eq word (codes "-run")

-- behind one a file is named that the program may open, behind the other the greatest number of steps stands
abbrev pub is_file_option : List ℕ → Bool
is_file_option word = bytes_eq word (codes "-file")

abbrev pub is_limit_option : List ℕ → Bool
is_limit_option word = bytes_eq word (codes "-steps")

-- a C file ends in `.c`, has another byte before, and at most the 255 bytes of a name
abbrev pub has_ending : List ℕ → Bool
has_ending word = bytes_eq (drop (length word - 2) word) (codes ".c")

abbrev pub is_c_word : List ℕ → Bool
is_c_word word = nat_lt 2 (length word) && (nat_le (length word) 255 && has_ending word)

-- a name has 1 to 255 bytes
abbrev pub is_name : List ℕ → Bool
is_name word = nat_lt 0 (length word) && nat_le (length word) 255

-- a limit has 1 to 13 digits, and a value from 1 to a million millions
abbrev pub limit_within : ℕ → Option ℕ
limit_within value = if nat_lt 0 value && nat_le value 1000000000000 then Some value else None

abbrev pub step_limit : List ℕ → Option ℕ
step_limit word = if nat_lt 0 (length word) && (nat_le (length word) 13 && list_all is_ascii_digit word) then limit_within (digits_value 10 word) else None

-- ## One word behind others

abbrev pub expected_behind : List ℕ → Expected
expected_behind word = if is_file_option word then FileName else (if is_limit_option word then StepLimit else Any)

-- a C file, or an option, of which a limit stands but once
abbrev pub follows : List ℕ → Bool → Bool
follows word is_limited = is_c_word word || (is_file_option word || (is_limit_option word && not is_limited))

-- a run goes on with one of these, and behind an option with what it asks for
unfoldable pub goes_on : RunRequest → List ℕ → Bool
goes_on request word = elim request.expected [
  | Any ↦ follows word request.is_limited
  | FileName ↦ is_name word
  | StepLimit ↦ is_some (step_limit word)
]

-- what is asked for with a word more
abbrev pub with_c_word : List ℕ → List (List ℕ) → List (List ℕ)
with_c_word word files = if is_c_word word then files ++ word ∷ [] else files

unfoldable pub with_word : RunRequest → List ℕ → RunRequest
with_word request word = elim request.expected [
  | Any ↦ record request { expected = expected_behind word; is_limited = request.is_limited || is_limit_option word; files = with_c_word word request.files }
  | FileName ↦ record request { expected = Any; drawer = request.drawer ++ word ∷ [] }
  | StepLimit ↦ record request { expected = Any; steps = unwrap_or (step_limit word) request.steps }
]

-- ## All words

-- without a limit a run has at most a thousand million steps
abbrev pub nothing_asked : RunRequest
nothing_asked = record { expected = Any; is_limited = false; steps = 1000000000; drawer = []; files = [] }

-- what is asked for by words, up to the first with which no run goes on
unfoldable pub asked_by : RunRequest → List (List ℕ) → RunRequest
asked_by request [] = request
asked_by request (word ∷ words) = if goes_on request word then asked_by (with_word request word) words else request

-- the number of that word, counted from a number on
unfoldable pub first_other : ℕ → RunRequest → List (List ℕ) → Option ℕ
first_other number request [] = None
first_other number request (word ∷ words) = if goes_on request word then first_other (suc number) (with_word request word) words else Some number

-- a word is missing behind an option, and where there is no C file
abbrev pub has_files : List (List ℕ) → Bool
has_files [] = false
has_files (file ∷ files) = true

abbrev pub is_whole : RunRequest → Bool
is_whole request = elim request.expected [ Any ↦ has_files request.files | FileName ↦ false | StepLimit ↦ false ]

-- the number behind that of the last word, as far as words are counted
abbrev pub one_past : List (List ℕ) → ℕ
one_past words = if nat_lt (length words) 18446744073709551615 then length words + 1 else length words

-- what the words behind `-run` ask for, or the number of the first word with which no run goes on
abbrev pub asked_if : List (List ℕ) → Option ℕ → RunRequest → Result RunRequest ℕ
asked_if words (Some number) request = Err number
asked_if words None request = if is_whole request then Ok request else Err (one_past words)

abbrev pub run_of : List (List ℕ) → Result RunRequest ℕ
run_of words = asked_if words (first_other 2 nothing_asked (drop 1 words)) (asked_by nothing_asked (drop 1 words))

-- the files that the program of a run may open, named up to the first word with which no run goes on
abbrev pub is_some_run : Option (List ℕ) → Bool
is_some_run None = false
is_some_run (Some word) = is_run word

abbrev pub drawer_of : List (List ℕ) → List (List ℕ)
drawer_of words = if is_some_run (word_at 1 words) then (asked_by nothing_asked (drop 1 words)).drawer else []
