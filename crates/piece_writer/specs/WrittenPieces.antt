-- What writing pieces to files of their own does to a shelf.
use Rattle.std.specs.Prelude.{◌≡◌, ℕ, ◌≤◌, ◌⊎◌, false, List, [], ◌∷◌, ◌++◌, Some, bytes_eq}
use Rattle.std.specs.List.{AllZip, list_any}
use Rattle.f2c_outside.specs.declared.shelves.Place.{Place}
use Rattle.f2c_outside.specs.declared.shelves.Place.TheVariants.{File}
use Rattle.f2c_outside.specs.Shelf.{ShelfState, Contents, Rose}
use Rattle.shelf_texts.specs.ShelfLoops.{Both, IsFront, IsUnwritten}

-- The file with this name was not written.
abbrev pub IsUnwrittenFile : List ℕ → List ℕ → Place → ShelfState → ShelfState → Type 0
IsUnwrittenFile name text place b a = (place ≡ File name) × IsUnwritten (File name) text b a

-- Each file holds its text, and there are as many of both.
abbrev pub AllHold : List (List ℕ) → List (List ℕ) → Contents → Type 0
AllHold names texts c = AllZip (λ name text. c.files name ≡ Some text) names texts

-- Nothing is changed but files with these names.
pub record OnlyFiles (names : List (List ℕ)) (b a : Contents) : Type 0 where
  pub others : (name : List ℕ) → list_any (bytes_eq name) names ≡ false → a.files name ≡ b.files name
  pub input : a.input ≡ b.input
  pub output : a.output ≡ b.output
  pub fault : a.fault ≡ b.fault

-- The files hold their texts, and nothing else is changed.
pub record AreMade (names texts : List (List ℕ)) (b a : Contents) : Type 0 where
  pub hold : AllHold names texts a
  pub only : OnlyFiles names b a

-- All pieces were written, and the count of faults did not rise.
pub record AreWritten (names texts : List (List ℕ)) (b a : ShelfState) : Type 0 where
  pub quiet : a.faults ≡ b.faults
  pub made : Both b.told a.told (AreMade names texts)

-- The file is as before, or holds a front of its text.
abbrev pub IsFrontMade : List ℕ → List ℕ → Contents → Contents → Type 0
IsFrontMade name text b a = (a.files name ≡ b.files name) ⊎ ((part : List ℕ) × IsFront part text × (a.files name ≡ Some part))

-- The files before hold their texts, the one that failed is as before or holds a front of its own, and nothing else is changed.
pub record AreMadeUpTo (before earlier : List (List ℕ)) (name text : List ℕ) (b a : Contents) : Type 0 where
  pub hold : AllHold before earlier a
  pub front : IsFrontMade name text b a
  pub only : OnlyFiles (before ++ name ∷ []) b a

-- Writing one of the pieces failed, and the count of faults rose.
pub record AreNotWritten (names texts : List (List ℕ)) (place : Place) (b a : ShelfState) : Type 0 where
  pub before : List (List ℕ)
  pub name : List ℕ
  pub behind : List (List ℕ)
  pub names_are : names ≡ before ++ name ∷ behind
  pub earlier : List (List ℕ)
  pub text : List ℕ
  pub later : List (List ℕ)
  pub texts_are : texts ≡ earlier ++ text ∷ later
  pub named : place ≡ File name
  pub rose : Rose b.faults a.faults
  pub not_less : b.faults ≤ a.faults
  pub made : Both b.told a.told (AreMadeUpTo before earlier name text)
