-- What `-h` and `--help` put on Output: every word that a command takes has a line.
use Rattle.std.specs.Prelude.{◌≡◌, ℕ, Bool, true, false, ◌&&◌, ◌||◌, List, [], ◌∷◌, ◌++◌, get_or, codes, nat_eq}
use Rattle.shelf_texts.specs.ShelfLoops.{joined}
use Rattle.command_words.specs.CommandWords.{is_help, is_option, is_prototype_option, is_split, is_check}
use Rattle.run_words.specs.RunWords.{is_run, is_file_option, is_limit_option}

-- the pieces in which it is put
abbrev pub usage_pieces : List (List ℕ)
usage_pieces =
    codes "usage: f2c [OPTION | FILE.f | FILE.P] ..\n       f2c -split [FILE.f]\n       f2c -check FILE.f | FILE.P ..\n       f2c -run FILE.c | -file NAME | -steps N ..\n"
    ∷ codes "Translates FORTRAN 77 files, as one program, to C: each FILE.f to FILE.c in the current folder.\nWithout a FILE.f it translates standard input to standard output.\n"
    ∷ codes "\n"
    ∷ codes "  -u          refuses names without a type statement\n  -onetrip    runs the range of each DO statement at least once\n  -72         refuses text past column 72\n"
    ∷ codes "  -P          writes the prototypes of the functions of each FILE.f to FILE.P in the current folder, too\n  -Ps         likewise, and compares them with those that were there\n  -A -w -!bs  change nothing\n"
    ∷ codes "  -split      writes each program unit of FILE.f, or of standard input, to a new file of its own,\n              and the names of these files on standard output\n"
    ∷ codes "  -check      lists each call of the FILE.f that disagrees with what it calls, among them or else in a FILE.P,\n              on standard output; a FILE.P is a file of prototypes\n"
    ∷ codes "  -run        runs the program of the FILE.c with standard input as unit 5 and standard output as unit 6\n  -file NAME  lets OPEN of the run take the file NAME; each file has a -file of its own\n  -steps N    ends the run after N steps at most, 1000000000 without it\n"
    ∷ codes "  -h, --help  puts this on standard output, and reads nothing\n"
    ∷ codes "\n"
    ∷ codes "Status 0: it is done. 1: the source is refused, and a line says in which file, at which card and why,\nor a FILE.P is none, and a line says where; nothing is written.\n"
    ∷ codes "2: a line names a word that is none of those above, not beside the others, or missing, or a FILE.f whose output another has.\n3: a file is not there, or a file or stream failed. 4: all is done, and a FILE.P is not as it was.\n5: out of memory.\n"
    ∷ codes "6: a FILE.c is not in the subset of C that is written here, or the files lack a function or a main program,\nor have a main program with parameters, or a function or the image of an object twice, or more than 268435456 bytes of objects.\n7: the run has a fault. 8: it is not over after its steps. 9: the device of a unit failed.\n10: an error of input or output ends it. 11: a call disagrees. 12: a place is out of bounds.\n13: no name is free for a program unit, and a line says for which. 15: a run reads more records than it can count.\n"
    ∷ []

abbrev pub usage : List ℕ
usage = joined usage_pieces

-- the words by which commands and runs tell what is to be done and how, which name no file
abbrev pub is_option_word : List ℕ → Bool
is_option_word word =
    is_option word
    || (is_prototype_option word
    || (is_help word || (is_split word || (is_check word || (is_run word || (is_file_option word || is_limit_option word))))))

-- whether a text begins with these bytes
abbrev pub begins_with : List ℕ → List ℕ → Bool
begins_with [] text = true
begins_with (byte ∷ bytes) [] = false
begins_with (byte ∷ bytes) (other ∷ text) = nat_eq byte other && begins_with bytes text

-- whether it has them somewhere
abbrev pub has_bytes : List ℕ → List ℕ → Bool
has_bytes bytes [] = begins_with bytes []
has_bytes bytes (other ∷ text) = begins_with bytes (other ∷ text) || has_bytes bytes text

-- whether a word stands in a text behind a blank, and before a blank or a comma
abbrev pub stands_in : List ℕ → List ℕ → Bool
stands_in word text = has_bytes (32 ∷ (word ++ 32 ∷ [])) text || has_bytes (32 ∷ (word ++ 44 ∷ [])) text

-- a piece of the usage names a word
pub record IsNamed (word : List ℕ) : Type 0 where
  pub piece : ℕ
  pub stands : stands_in word (get_or usage_pieces piece []) ≡ true
