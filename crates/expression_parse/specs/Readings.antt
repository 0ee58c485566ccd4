-- What a reading of tokens gives.
use Rattle.std.specs.Prelude.{◌≡◌, ℕ, ◌&&◌, if◌then◌else◌, List, [], ◌∷◌, Option, Some, None, Result, Ok, Err}
use Rattle.fortran_text.specs.declared.characters.Character.{Character}
use Rattle.fortran_lexemes.specs.Lexemes.{Lexemes}
use Rattle.fortran_lexemes.specs.PiecesOfText.{is_mark}
use Rattle.expression_parse.specs.declared.failure.Failure.{Failure}
use Rattle.expression_parse.specs.declared.failure.Failure.TheVariants.{NoMemory, Syntax}

-- A result is what a reader gives, and a fault of syntax where it gives nothing; want of memory says nothing.
abbrev pub Gives : {A B : Type 0} → (A → B) → Result A Failure → Option B → Type 0
Gives shown (Ok x) given = given ≡ Some (shown x)
Gives shown (Err Syntax) given = given ≡ None
Gives shown (Err NoMemory) given = Unit {0}

-- What was read, where no pieces are left.
unfoldable pub alone_by : {A : Type 0} → A → Lexemes → Option A
alone_by x [] = Some x
alone_by x (piece ∷ more) = None

unfoldable pub alone : {A : Type 0} → A × Lexemes → Option A
alone p = alone_by p.0 p.1

abbrev pub all_of : {A : Type 0} → Option (A × Lexemes) → Option A
all_of None = None
all_of (Some p) = alone p

-- A result is the only tree that is spelled, and a fault of syntax where none is; want of memory says nothing.
abbrev pub IsExact : {A : Type 0} → (A → Type 0) → Result A Failure → Type 0
IsExact {A} Spelled (Ok x) = Spelled x × ((other : A) → Spelled other → other ≡ x)
IsExact {A} Spelled (Err Syntax) = (other : A) → Spelled other → ⊥
IsExact Spelled (Err NoMemory) = Unit {0}

-- What is left of a constant behind a character, and behind the other one where it is a doubled apostrophe. Section 4.8.
unfoldable pub behind_doubled : Character → List Character → List Character
behind_doubled c [] = []
behind_doubled c (d ∷ rest) = if is_mark 39 c && is_mark 39 d then rest else d ∷ rest

-- The one code that there is.
unfoldable pub only_one : List ℕ → Option ℕ
only_one (code ∷ []) = Some code
only_one codes = None
