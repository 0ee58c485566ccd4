-- What reading a whole place and writing a whole text do to a shelf.
use Rattle.std.specs.Prelude.{◌≡◌, ℕ, ◌<◌, ◌≤◌, ◌⊎◌, List, [], ◌∷◌, ◌++◌, length, take, Bool, false, IsTrue, Option, Some, None, option_map, IfSome}
use Rattle.f2c_outside.specs.declared.shelves.Place.{Place}
use Rattle.f2c_outside.specs.Shelf.{ShelfState, Contents, Writes, Rose, IsFile, Lacks, bytes_of, begun, added}
use Rattle.shelf_texts.specs.declared.loops.ReadFail.{ReadFail}
use Rattle.shelf_texts.specs.declared.loops.ReadFail.TheVariants.{NoMemory, NotThere, Failed}

-- the pieces of a line, one after the other
abbrev pub joined : List (List ℕ) → List ℕ
joined [] = []
joined (piece ∷ others) = piece ++ joined others

-- a fact of what two options hold, of which either both hold something or none does
abbrev pub Both : {A : Type 0} → Option A → Option A → (A → A → Type 0) → Type 0
Both None None P = Unit {0}
Both (Some x) (Some y) P = P x y
Both None (Some y) P = ⊥
Both (Some x) None P = ⊥

-- a part of a text that stands at its front
pub record IsFront (part whole : List ℕ) : Type 0 where
  pub rest : List ℕ
  pub is : part ++ rest ≡ whole

-- the shelf holds what it held, and its count of faults did not fall
pub record IsKept (b a : ShelfState) : Type 0 where
  pub same : a.told ≡ b.told
  pub later : b.faults ≤ a.faults

-- what was read, from `old` to `new`, came from the front of the bytes left: nothing was lost on the way, and
-- the count of faults did not rise
pub record HasTaken (b a : ShelfState) (old new : List ℕ) : Type 0 where
  pub kept : IsKept b a
  pub quiet : a.faults ≡ b.faults
  pub active : a.active ≡ b.active
  pub whole : Both b.left a.left (λ before after. new ++ after ≡ old ++ before)

-- one call of `take` put at most `most` bytes there: one at least, or none, as it answers, where none was left
pub record TookMore (more : Bool) (most : ℕ) (b a : ShelfState) (old new : List ℕ) : Type 0 where
  pub taken : HasTaken b a old new
  pub within : length new ≤ most
  pub some : IsTrue more → length old < length new
  pub none : more ≡ false → IfSome a.left (λ rest. rest ≡ [])

-- the bytes left were read to their end, or the first `most` of them where they are more
pub record TookAll (most : ℕ) (b a : ShelfState) (bytes : List ℕ) : Type 0 where
  pub kept : IsKept b a
  pub quiet : a.faults ≡ b.faults
  pub front : IfSome b.left (λ rest. bytes ≡ take most rest)

-- why no bytes were taken: the count of faults rose, or want of memory
abbrev pub HasTakeCause : ReadFail → ShelfState → ShelfState → Type 0
HasTakeCause NoMemory b a = Unit {0}
HasTakeCause NotThere b a = ⊥
HasTakeCause Failed b a = Rose b.faults a.faults

-- bytes were not taken, and the shelf holds what it held
pub record IsUntaken (why : ReadFail) (b a : ShelfState) : Type 0 where
  pub kept : IsKept b a
  pub cause : HasTakeCause why b a

-- the place was there, and its bytes were read to the end, or to the first `most` of them where it holds more;
-- the count of faults did not rise
pub record IsRead (place : Place) (most : ℕ) (b a : ShelfState) (bytes : List ℕ) : Type 0 where
  pub kept : IsKept b a
  pub quiet : a.faults ≡ b.faults
  pub there : IfSome b.told (λ contents. ¬ Lacks place contents)
  pub front : IfSome b.told (λ contents. bytes ≡ take most (bytes_of place contents))

-- why a place was not read: a file that is not on the shelf, where no call failed, a count of faults that rose, or want of memory
abbrev pub HasReadCause : ReadFail → Place → ShelfState → ShelfState → Type 0
HasReadCause NoMemory place b a = Unit {0}
HasReadCause NotThere place b a = IsFile place × (a.faults ≡ b.faults) × IfSome b.told (Lacks place)
HasReadCause Failed place b a = Rose b.faults a.faults

-- a place was not read, and the shelf holds what it held
pub record IsUnreadFor (why : ReadFail) (place : Place) (b a : ShelfState) : Type 0 where
  pub kept : IsKept b a
  pub cause : HasReadCause why place b a

-- these bytes went behind what the place that is being written holds
pub record HasPut (bytes : List ℕ) (b a : ShelfState) : Type 0 where
  pub active : a.active ≡ b.active
  pub later : b.faults ≤ a.faults
  pub put : (place : Place) → b.active ≡ Writes place → a.told ≡ option_map (added place bytes) b.told

-- a front of these bytes went behind what the place that is being written holds, and the count of faults rose
pub record HasPutFront (bytes : List ℕ) (b a : ShelfState) : Type 0 where
  pub part : List ℕ
  pub front : IsFront part bytes
  pub put : HasPut part b a
  pub rose : Rose b.faults a.faults

-- what is told once a place has been begun and this text stands in it
abbrev pub written : Place → List ℕ → Option Contents → Option Contents
written place text = option_map (λ contents. added place text (begun place contents))

-- the place holds this text, behind what it held where it is a stream, and the count of faults did not rise
pub record IsWritten (place : Place) (text : List ℕ) (b a : ShelfState) : Type 0 where
  pub quiet : a.faults ≡ b.faults
  pub whole : a.told ≡ written place text b.told

-- what is told after a failed writing: as before where the start failed, else a front of the text
abbrev pub IsFrontWritten : Place → List ℕ → Option Contents → Option Contents → Type 0
IsFrontWritten place text b a = (a ≡ b) ⊎ ((part : List ℕ) × IsFront part text × (a ≡ written place part b))

-- writing the text failed: the count rose, and the place is unchanged or holds a front of the text
pub record IsUnwritten (place : Place) (text : List ℕ) (b a : ShelfState) : Type 0 where
  pub rose : Rose b.faults a.faults
  pub later : b.faults ≤ a.faults
  pub front : IsFrontWritten place text b.told a.told
