-- What writing texts to places, one behind the other, does to a shelf.
use Rattle.std.specs.Prelude.{◌≡◌, ℕ, ◌≤◌, List, [], ◌∷◌, take, slice_get, Some, option_map}
use Rattle.f2c_outside.specs.declared.shelves.Place.{Place}
use Rattle.f2c_outside.specs.Shelf.{ShelfState, Contents, Rose, begun, added}
use Rattle.shelf_texts.specs.ShelfLoops.{IsFrontWritten}

-- the contents once each place holds its text, behind what it held where it is a stream
unfoldable pub all_written : List Place → List (List ℕ) → Contents → Contents
all_written [] texts contents = contents
all_written (place ∷ places) [] contents = contents
all_written (place ∷ places) (text ∷ texts) contents = all_written places texts (added place text (begun place contents))

-- each place holds its text, and the count of faults did not rise
pub record AreWritten (places : List Place) (texts : List (List ℕ)) (b a : ShelfState) : Type 0 where
  pub quiet : a.faults ≡ b.faults
  pub whole : a.told ≡ option_map (all_written places texts) b.told

-- writing failed at the place with a number: the count rose, each place before it holds its text, it is unchanged or holds a front of its text,
-- and those behind it are unchanged
pub record IsStoppedAt (places : List Place) (texts : List (List ℕ)) (number : ℕ) (b a : ShelfState) : Type 0 where
  pub place : Place
  pub text : List ℕ
  pub place_is : slice_get places number ≡ Some place
  pub text_is : slice_get texts number ≡ Some text
  pub rose : Rose b.faults a.faults
  pub later : b.faults ≤ a.faults
  pub front : IsFrontWritten place text (option_map (all_written (take number places) (take number texts)) b.told) a.told

-- the same, by the place
pub record AreUnwritten (places : List Place) (texts : List (List ℕ)) (place : Place) (b a : ShelfState) : Type 0 where
  pub number : ℕ
  pub stopped : IsStoppedAt places texts number b a
  pub named : stopped.place ≡ place
