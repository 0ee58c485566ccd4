-- The names of the files that pieces are written to. A name that is there, or that an earlier piece has, is not taken: no file is
-- overwritten.
use Rattle.std.specs.Prelude.{◌≡◌, ℕ, zero, suc, ◌+◌, ◌<◌, ◌/◌, ◌%◌, Bool, true, false, not, ◌||◌, ◌&&◌, List, [], ◌∷◌, ◌++◌, codes, Option, Some, None, Result, Ok, Err, if◌then◌else◌}
use Rattle.std.specs.List.{list_any}
use Rattle.std.specs.Str.{bytes_eq}
use Rattle.split_pieces.specs.declared.wanted.Wanted.{Wanted}
use Rattle.split_pieces.specs.declared.wanted.Wanted.TheVariants.{Named, Main, BlockData, Unknown}
use Rattle.split_pieces.specs.declared.wanted.WantedName.{WantedName}

-- How the name begins that has a number.
unfoldable pub prefix_of : Wanted → List ℕ
prefix_of Named = codes "zzz"
prefix_of Main = codes "main"
prefix_of BlockData = codes "blkdta"
prefix_of Unknown = codes "zzz"

-- A number below 1000, with three digits.
unfoldable pub three_digits : ℕ → List ℕ
three_digits n = (48 + n / 100) ∷ (48 + n / 10 % 10) ∷ (48 + n % 10) ∷ []

unfoldable pub numbered : List ℕ → ℕ → List ℕ
numbered prefix n = prefix ++ three_digits n ++ codes ".f"

-- A name is free where it is neither there nor that of an earlier piece.
unfoldable pub is_free : (List ℕ → Bool) → List (List ℕ) → List ℕ → Bool
is_free there taken name = not (there name || list_any (bytes_eq name) taken)

-- The first free name with a number, of so many numbers from one on.
unfoldable pub first_free : (List ℕ → Bool) → List (List ℕ) → List ℕ → ℕ → ℕ → Option (List ℕ)
first_free there taken prefix zero n = None
first_free there taken prefix (suc count) n =
    if is_free there taken (numbered prefix n) then Some (numbered prefix n) else first_free there taken prefix count (suc n)

unfoldable pub is_named : Wanted → Bool
is_named Named = true
is_named Main = false
is_named BlockData = false
is_named Unknown = false

-- The name of a piece: its own where it has one that is free, else the first with one of the numbers 000 to 999.
unfoldable pub choice : (List ℕ → Bool) → List (List ℕ) → WantedName → Option (List ℕ)
choice there taken w =
    if is_named w.wanted && is_free there taken w.name then Some w.name else first_free there taken (prefix_of w.wanted) 1000 0

-- A name that a piece may get: its own, or one with a number.
pub data IsCandidate (w : WantedName) (name : List ℕ) : Type 0 where
  own : w.wanted ≡ Named → name ≡ w.name → IsCandidate w name
  with_number : (n : ℕ) → n < 1000 → name ≡ numbered (prefix_of w.wanted) n → IsCandidate w name

-- The names of pieces behind those that are taken, or the number, from 1, of the first piece for which no number is free.
abbrev pub behind_choice : ℕ → (List ℕ → Result (List (List ℕ)) ℕ) → Option (List ℕ) → Result (List (List ℕ)) ℕ
behind_choice number later None = Err number
behind_choice number later (Some name) = later name

unfoldable pub names_behind : (List ℕ → Bool) → List (List ℕ) → ℕ → List WantedName → Result (List (List ℕ)) ℕ
names_behind there taken number [] = Ok taken
names_behind there taken number (w ∷ more) =
    behind_choice number (λ name. names_behind there (taken ++ name ∷ []) (suc number) more) (choice there taken w)

-- The names of pieces, in their order, where it is told which names are there.
unfoldable pub chosen_names : (List ℕ → Bool) → List WantedName → Result (List (List ℕ)) ℕ
chosen_names there wanted = names_behind there [] 1 wanted
