-- The names of the pieces of a file as a shelf lets them be chosen.
use Rattle.std.specs.Prelude.{◌≡◌, ℕ, List, [], ◌∷◌, map, Option, Some, None, Ok, Err, IfSome, slice_get}
use Rattle.f2c_outside.specs.Shelf.{Contents, ShelfState, Rose}
use Rattle.f2c_outside.specs.Texts.{IsName}
use Rattle.fsplit.specs.split_pieces.ChosenNames.{IsCandidate, chosen_names}
use Rattle.fsplit.specs.split_pieces.Pieces.{Piece}
use Rattle.fsplit.specs.split_pieces.declared.wanted.Wanted.TheVariants.{Named}
use Rattle.fsplit.specs.split_pieces.declared.wanted.WantedName.{WantedName}
use Rattle.piece_names.specs.Asking.{has}
use Rattle.piece_names.specs.declared.choosing.ChoiceFail.{ChoiceFail}
use Rattle.piece_names.specs.declared.choosing.ChoiceFail.TheVariants as choice_fail
use Rattle.piece_choice.specs.declared.choosing.NamesFail.{NamesFail}
use Rattle.piece_choice.specs.declared.choosing.NamesFail.TheVariants.{NoMemory, Failed, NoneFree}

-- What the pieces ask for.
abbrev pub wanted_names : List Piece → List WantedName
wanted_names pieces = map (λ (p : Piece). p.wanted) pieces

-- A unit's own name that is asked for is the name of a file.
abbrev pub AreAskable : List Piece → Type 0
AreAskable [] = Unit {0}
AreAskable (p ∷ more) = (p.wanted.wanted ≡ Named → IsName p.wanted.name) × AreAskable more

-- Where the shelf tells which files are there, these are the names by the definition.
abbrev pub AreChosen : List Piece → List (List ℕ) → Option Contents → Type 0
AreChosen pieces names told = IfSome told (λ c. chosen_names (has c) (wanted_names pieces) ≡ Ok names)

-- No file has one of these names.
abbrev pub AllLack : List (List ℕ) → Contents → Type 0
AllLack [] c = Unit {0}
AllLack (name ∷ more) c = (c.files name ≡ None) × AllLack more c

abbrev pub AreNew : List (List ℕ) → Option Contents → Type 0
AreNew names told = IfSome told (AllLack names)

-- A name that one of the pieces may get.
pub record IsInQuestion (pieces : List Piece) (name : List ℕ) : Type 0 where
  pub place : ℕ
  pub wanted : WantedName
  pub of_piece : slice_get (wanted_names pieces) place ≡ Some wanted
  pub candidate : IsCandidate wanted name

-- Why no names were chosen: the piece with this number is the first for which no number is free, or the count of faults rose when the shelf was
-- asked for a name that comes in question.
abbrev pub AreNotChosen : List Piece → ShelfState → ShelfState → NamesFail → Type 0
AreNotChosen pieces b a NoMemory = Unit {0}
AreNotChosen pieces b a (Failed name) = IsInQuestion pieces name × Rose b.faults a.faults
AreNotChosen pieces b a (NoneFree number) = IfSome b.told (λ c. chosen_names (has c) (wanted_names pieces) ≡ Err number)

-- That the name of one piece was not chosen, as that of all.
abbrev pub IsFailOf : ChoiceFail → NamesFail → Type 0
IsFailOf choice_fail.NoMemory fail = fail ≡ NoMemory
IsFailOf (choice_fail.Failed name) fail = fail ≡ Failed name
