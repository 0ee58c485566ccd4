-- What a definition of a place leaves in the units of its sequence: the units of the new value, and the others as they were or
-- undefined. ANSI X3.9-1978, sections 17.2 and 17.3.
use Rattle.std.specs.Prelude.{◌≡◌, ◌≢◌, ℕ, zero, suc, ◌+◌, ◌-◌, ◌<◌, ◌≤◌, List, [], ◌∷◌, length, take, drop, Option, Some, None, slice_get}
use Rattle.std.proofs.Common.{refl, sym, ap, ◌∙◌, arith}
use Rattle.std.proofs.lemmas.List.{length-append, length-take-le, length-drop}
use Rattle.c_image.specs.f_tree.Values.{Bytes}
use Rattle.c_image.specs.f_tree.Store.{Cell, Undefined, Chr, Part, Whole, with_whole, no_part, no_parts, without_value_of, with_character, with_characters}
use Rattle.c_laws.specs.c_tree.Objects.{bytes_of_number, overlaid}
use Rattle.c_laws.proofs.ObjectLaws.{length-bytes_of_number, slice_get-slice_set_same, slice_get-slice_set_other, length-slice_set}
use Rattle.c_image.specs.faithful.StorageImage.{number_for, byte_for}
use Rattle.c_image_laws.proofs.ListLaws.{at_front, at_back, at_taken, at_dropped, one_there, overlaid_before, overlaid_within, overlaid_behind, by_equal, by_less}

-- each unit with a byte stands there by its byte
abbrev pub Follows : List Cell → List (Option ℕ) → Type 0
Follows cells bytes = (place byte : ℕ) (cell : Cell) → slice_get cells place ≡ Some cell → byte_for cell ≡ Some byte → slice_get bytes place ≡ Some (Some byte)

-- a unit with a byte, once bytes were written from a place on: one that was written, or one that stood there before
pub data IsWritten (new : List ℕ) (first : ℕ) (cells : List Cell) (place byte : ℕ) : Type 0 where
  new_unit : (i : ℕ) → place ≡ first + i → slice_get new i ≡ Some byte → IsWritten new first cells place byte
  unit_before : (cell : Cell) → place < first → slice_get cells place ≡ Some cell → byte_for cell ≡ Some byte → IsWritten new first cells place byte
  unit_behind : (cell : Cell) (i : ℕ) → place ≡ first + length new + i → slice_get cells place ≡ Some cell → byte_for cell ≡ Some byte → IsWritten new first cells place byte

pub written_byte : (new : List ℕ) (first : ℕ) (cells : List Cell) (bytes : List (Option ℕ)) (place byte : ℕ) → Follows cells bytes → first + length new ≤ length bytes →
    IsWritten new first cells place byte → slice_get (overlaid first new bytes) place ≡ Some (Some byte)
written_byte new first cells bytes place byte follows fits (new_unit i at there) =
    overlaid_within first new bytes i place byte (omega (arith, fits)) at there
written_byte new first cells bytes place byte follows fits (unit_before cell before there has) =
    overlaid_before first new bytes place (omega (arith, fits)) before ∙ follows place byte cell there has
written_byte new first cells bytes place byte follows fits (unit_behind cell i at there has) =
    overlaid_behind first new bytes i place fits at ∙ follows place byte cell there has

-- ## Four parts of a value

-- the four parts at a place, and what stands before and behind them
pub data IsWholeUnit (w : Whole) (first : ℕ) (cells : List Cell) (place : ℕ) (cell : Cell) : Type 0 where
  part_of_it : (i : ℕ) → place ≡ first + i → i < 4 → cell ≡ Part w i → IsWholeUnit w first cells place cell
  before_it : place < first → slice_get cells place ≡ Some cell → IsWholeUnit w first cells place cell
  behind_it : (i : ℕ) → place ≡ first + 4 + i → slice_get cells place ≡ Some cell → IsWholeUnit w first cells place cell

pub whole_units : (w : Whole) (first : ℕ) (cells : List Cell) (place : ℕ) (cell : Cell) → first + 4 ≤ length cells → slice_get (with_whole w first cells) place ≡ Some cell →
    IsWholeUnit w first cells place cell
unfolding with_whole
whole_units w first cells place cell fits there =
    by_less (IsWholeUnit w first cells place cell) place first before (λ i at. part i at)
  where
    parts : List Cell
    parts = Part w 0 ∷ Part w 1 ∷ Part w 2 ∷ Part w 3 ∷ drop (first + 4) cells

    size : length (take first cells) ≡ first
    size = length-take-le first cells (omega (arith, fits))

    before : place < first → IsWholeUnit w first cells place cell
    before less = before_it less (sym (at_front (take first cells) parts place (omega (arith, size, less)) ∙ at_taken first cells place less) ∙ there)

    found : (i : ℕ) → place ≡ first + i → slice_get parts i ≡ Some cell
    found i at = sym (at_back (take first cells) parts i place (omega (arith, size, at))) ∙ there

    part : (i : ℕ) → place ≡ first + i → IsWholeUnit w first cells place cell
    part zero at = part_of_it 0 at (omega arith) (one_there (slice_get parts 0) cell (Part w 0) (found 0 at) refl)
    part (suc zero) at = part_of_it 1 at (omega arith) (one_there (slice_get parts 1) cell (Part w 1) (found 1 at) refl)
    part (suc (suc zero)) at = part_of_it 2 at (omega arith) (one_there (slice_get parts 2) cell (Part w 2) (found 2 at) refl)
    part (suc (suc (suc zero))) at = part_of_it 3 at (omega arith) (one_there (slice_get parts 3) cell (Part w 3) (found 3 at) refl)
    part (suc (suc (suc (suc i)))) at =
        behind_it i (omega (arith, at))
        (sym (at_dropped (first + 4) cells i place (omega (arith, at))) ∙ found (suc (suc (suc (suc i)))) at)

pub whole_written : (w : Whole) (first : ℕ) (cells : List Cell) (place byte : ℕ) (cell : Cell) → first + 4 ≤ length cells → slice_get (with_whole w first cells) place ≡ Some cell →
    byte_for cell ≡ Some byte → IsWritten (bytes_of_number (number_for w)) first cells place byte
unfolding byte_for
whole_written w first cells place byte cell fits there has = by (whole_units w first cells place cell fits there)
  where
    size : length (bytes_of_number (number_for w)) ≡ 4
    size = length-bytes_of_number (number_for w)

    by : IsWholeUnit w first cells place cell → IsWritten (bytes_of_number (number_for w)) first cells place byte
    by (part_of_it i at inside is) = new_unit i at (sym (ap byte_for is) ∙ has)
    by (before_it less old) = unit_before cell less old has
    by (behind_it i at old) = unit_behind cell i (omega (arith, at, size)) old has

pub length-with_whole : (w : Whole) (first : ℕ) (cells : List Cell) → first + 4 ≤ length cells → length (with_whole w first cells) ≡ length cells
unfolding with_whole
length-with_whole w first cells fits =
    let whole = length-append (take first cells) (Part w 0 ∷ Part w 1 ∷ Part w 2 ∷ Part w 3 ∷ drop (first + 4) cells) in
    let front = length-take-le first cells (omega (arith, fits)) in
    let rest = length-drop (first + 4) cells in
    omega (arith, whole, front, rest, fits)

-- ## Characters

-- a unit that stays, or whose value is gone
pub data IsLeft (cells : List Cell) (place : ℕ) (cell : Cell) : Type 0 where
  it_stays : slice_get cells place ≡ Some cell → IsLeft cells place cell
  it_is_gone : cell ≡ Undefined → IsLeft cells place cell

left_later : (c : Cell) (cells : List Cell) (place : ℕ) (cell : Cell) → IsLeft cells place cell → IsLeft (c ∷ cells) (suc place) cell
left_later c cells place cell (it_stays there) = it_stays there
left_later c cells place cell (it_is_gone is) = it_is_gone is

no_part_left : (c : Cell) (cells : List Cell) (cell : Cell) → Some (no_part c) ≡ Some cell → IsLeft (c ∷ cells) zero cell
unfolding no_part
no_part_left (Part w i) cells cell is = it_is_gone (let same : Undefined ≡ cell = cc in sym same)
no_part_left Undefined cells cell is = it_is_gone (let same : Undefined ≡ cell = cc in sym same)
no_part_left (Chr c) cells cell is = it_stays is

no_parts_left : (from count : ℕ) (cells : List Cell) (place : ℕ) (cell : Cell) → slice_get (no_parts from count cells) place ≡ Some cell → IsLeft cells place cell
unfolding no_parts
no_parts_left from zero cells place cell there = it_stays there
no_parts_left zero (suc count) [] place cell there = absurd (cc)
no_parts_left zero (suc count) (c ∷ cells) zero cell there = no_part_left c cells cell there
no_parts_left zero (suc count) (c ∷ cells) (suc place) cell there = left_later c cells place cell (no_parts_left zero count cells place cell there)
no_parts_left (suc from) (suc count) [] place cell there = absurd (cc)
no_parts_left (suc from) (suc count) (c ∷ cells) zero cell there = it_stays there
no_parts_left (suc from) (suc count) (c ∷ cells) (suc place) cell there = left_later c cells place cell (no_parts_left from (suc count) cells place cell there)

length-no_parts : (from count : ℕ) (cells : List Cell) → length (no_parts from count cells) ≡ length cells
unfolding no_parts
length-no_parts from zero cells = refl
length-no_parts zero (suc count) [] = refl
length-no_parts zero (suc count) (c ∷ cells) = ap suc (length-no_parts zero count cells)
length-no_parts (suc from) (suc count) [] = refl
length-no_parts (suc from) (suc count) (c ∷ cells) = ap suc (length-no_parts from (suc count) cells)

without_left : (found : Option Cell) (at : ℕ) (cells : List Cell) (place : ℕ) (cell : Cell) → slice_get (without_value_of found at cells) place ≡ Some cell → IsLeft cells place cell
unfolding without_value_of
without_left None at cells place cell there = it_stays there
without_left (Some Undefined) at cells place cell there = it_stays there
without_left (Some (Chr c)) at cells place cell there = it_stays there
without_left (Some (Part w i)) at cells place cell there = no_parts_left (at - i) 4 cells place cell there

length-without : (found : Option Cell) (at : ℕ) (cells : List Cell) → length (without_value_of found at cells) ≡ length cells
unfolding without_value_of
length-without None at cells = refl
length-without (Some Undefined) at cells = refl
length-without (Some (Chr c)) at cells = refl
length-without (Some (Part w i)) at cells = length-no_parts (at - i) 4 cells

length-with_character : (c at : ℕ) (cells : List Cell) → length (with_character c at cells) ≡ length cells
unfolding with_character
length-with_character c at cells =
    length-slice_set (without_value_of (slice_get cells at) at cells) at (Chr c) ∙ length-without (slice_get cells at) at cells

character_there : (c at : ℕ) (cells : List Cell) → at < length cells → slice_get (with_character c at cells) at ≡ Some (Chr c)
unfolding with_character
character_there c at cells inside =
    slice_get-slice_set_same (without_value_of (slice_get cells at) at cells) at (Chr c)
    (let size = length-without (slice_get cells at) at cells in omega (arith, size, inside))

character_elsewhere : (c at : ℕ) (cells : List Cell) (place : ℕ) (cell : Cell) → place ≢ at → slice_get (with_character c at cells) place ≡ Some cell → IsLeft cells place cell
unfolding with_character
character_elsewhere c at cells place cell apart there =
    without_left (slice_get cells at) at cells place cell
    (sym (slice_get-slice_set_other (without_value_of (slice_get cells at) at cells) at place (Chr c) apart) ∙ there)

-- what stands at a place once a text was written from a place on
pub data IsTextUnit (cs : Bytes) (first : ℕ) (cells : List Cell) (place : ℕ) (cell : Cell) : Type 0 where
  character_of_it : (i c : ℕ) → place ≡ first + i → slice_get cs i ≡ Some c → cell ≡ Chr c → IsTextUnit cs first cells place cell
  before_text : place < first → slice_get cells place ≡ Some cell → IsTextUnit cs first cells place cell
  behind_text : (i : ℕ) → place ≡ first + length cs + i → slice_get cells place ≡ Some cell → IsTextUnit cs first cells place cell
  gone_unit : cell ≡ Undefined → IsTextUnit cs first cells place cell

text_before : (cs : Bytes) (first : ℕ) (cells : List Cell) (place : ℕ) (cell : Cell) → place < first → IsLeft cells place cell → IsTextUnit cs first cells place cell
text_before cs first cells place cell less (it_stays there) = before_text less there
text_before cs first cells place cell less (it_is_gone is) = gone_unit is

text_behind : (cs : Bytes) (first : ℕ) (cells : List Cell) (place : ℕ) (cell : Cell) (i : ℕ) → place ≡ first + length cs + i → IsLeft cells place cell → IsTextUnit cs first cells place cell
text_behind cs first cells place cell i at (it_stays there) = behind_text i at there
text_behind cs first cells place cell i at (it_is_gone is) = gone_unit is

-- a character more in front
text_longer : (c : ℕ) (cs : Bytes) (at : ℕ) (cells : List Cell) (place : ℕ) (cell : Cell) → at < length cells → IsTextUnit cs (suc at) (with_character c at cells) place cell →
    IsTextUnit (c ∷ cs) at cells place cell
text_longer c cs at cells place cell inside (character_of_it i d here there is) = character_of_it (suc i) d (omega (arith, here)) there is
text_longer c cs at cells place cell inside (before_text less there) =
    by_equal (IsTextUnit (c ∷ cs) at cells place cell) place at
    (λ same. character_of_it 0 c (omega (arith, same)) refl
    (one_there (slice_get (with_character c at cells) place) cell (Chr c) there (ap (slice_get (with_character c at cells)) same ∙ character_there c at cells inside)))
    (λ apart. text_before (c ∷ cs) at cells place cell (omega (arith, less, apart)) (character_elsewhere c at cells place cell apart there))
text_longer c cs at cells place cell inside (behind_text i here there) =
    text_behind (c ∷ cs) at cells place cell i (omega (arith, here)) (character_elsewhere c at cells place cell (λ same. omega (arith, here, same)) there)
text_longer c cs at cells place cell inside (gone_unit is) = gone_unit is

pub text_units : (cs : Bytes) (at : ℕ) (cells : List Cell) (place : ℕ) (cell : Cell) → at + length cs ≤ length cells → slice_get (with_characters cs at cells) place ≡ Some cell →
    IsTextUnit cs at cells place cell
unfolding with_characters
text_units [] at cells place cell fits there =
    by_less (IsTextUnit [] at cells place cell) place at (λ less. before_text less there) (λ i here. behind_text i (omega (arith, here)) there)
text_units (c ∷ cs) at cells place cell fits there =
    let size = length-with_character c at cells in
    text_longer c cs at cells place cell (omega (arith, fits))
    (text_units cs (suc at) (with_character c at cells) place cell (omega (arith, fits, size)) there)

pub text_written : (cs : Bytes) (at : ℕ) (cells : List Cell) (place byte : ℕ) (cell : Cell) → at + length cs ≤ length cells → slice_get (with_characters cs at cells) place ≡ Some cell →
    byte_for cell ≡ Some byte → IsWritten cs at cells place byte
unfolding byte_for
text_written cs at cells place byte cell fits there has = by (text_units cs at cells place cell fits there)
  where
    by : IsTextUnit cs at cells place cell → IsWritten cs at cells place byte
    by (character_of_it i c here found is) = new_unit i here (found ∙ (sym (ap byte_for is) ∙ has))
    by (before_text less old) = unit_before cell less old has
    by (behind_text i here old) = unit_behind cell i here old has
    by (gone_unit is) = let none : None ≡ Some byte = sym (ap byte_for is) ∙ has in absurd (cc)

pub length-with_characters : (cs : Bytes) (at : ℕ) (cells : List Cell) → length (with_characters cs at cells) ≡ length cells
unfolding with_characters
length-with_characters [] at cells = refl
length-with_characters (c ∷ cs) at cells = length-with_characters cs (suc at) (with_character c at cells) ∙ length-with_character c at cells
