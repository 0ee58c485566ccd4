-- Which words of a command line name FORTRAN files and prototype files, and the names of the C files that translations stand in. CSTR 149, section 1 and appendix B.
use Rattle.std.specs.Prelude.{ℕ, suc, ◌-◌, nat_le, nat_lt, nat_eq, Bool, ◌&&◌, List, [], ◌∷◌, ◌++◌, length, take, drop, codes, bytes_eq, if◌then◌else◌}

-- a word ends in `.f`
abbrev pub has_ending : List ℕ → Bool
has_ending word = bytes_eq (drop (length word - 2) word) (codes ".f")

-- a word names a file where it ends so, has another byte before, and at most the 255 bytes of a name
abbrev pub is_file_word : List ℕ → Bool
is_file_word word = nat_lt 2 (length word) && (nat_le (length word) 255 && has_ending word)

-- a word ends in `.P`
abbrev pub has_prototype_ending : List ℕ → Bool
has_prototype_ending word = bytes_eq (drop (length word - 2) word) (codes ".P")

-- a word names a prototype file where it ends so, on the same terms
abbrev pub is_prototype_word : List ℕ → Bool
is_prototype_word word = nat_lt 2 (length word) && (nat_le (length word) 255 && has_prototype_ending word)

-- where the part behind the last slash begins, in bytes of which the first has this place
unfoldable pub last_part_from : ℕ → ℕ → List ℕ → ℕ
last_part_from begin place [] = begin
last_part_from begin place (byte ∷ more) = last_part_from (if nat_eq byte 47 then suc place else begin) (suc place) more

-- the part behind the last slash
abbrev pub last_part : List ℕ → List ℕ
last_part bytes = drop (last_part_from 0 0 bytes) bytes

-- the name of a file without its folder and its ending
abbrev pub stem_of : List ℕ → List ℕ
stem_of word = last_part (take (length word - 2) word)

-- the C file of its translation, in the current folder
abbrev pub output_name : List ℕ → List ℕ
output_name word = stem_of word ++ codes ".c"

-- the file of its prototypes
abbrev pub prototype_output : List ℕ → List ℕ
prototype_output word = stem_of word ++ codes ".P"

-- two words name files with one output name
abbrev pub have_one_output : List ℕ → List ℕ → Bool
have_one_output one other = is_file_word one && (is_file_word other && bytes_eq (output_name one) (output_name other))
