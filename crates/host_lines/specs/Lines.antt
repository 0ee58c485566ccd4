-- The lines of a text: each ends with a line feed, which the last may lack.
use Rattle.std.specs.Prelude.{◌≡◌, ℕ, suc, ◌+◌, ◌-◌, ◌<◌, ◌≤◌, Bool, true, false, not, List, [], ◌∷◌, ◌++◌, length, take, drop, Option, Some, None, IfSome, nat_eq, if◌then◌else◌}
use Rattle.std.specs.List.{list_any}
use Rattle.std.specs.Io.KnownBytes.{Consumes, Appends, IsAtEnd, Keeps}
use Rattle.host_lines.specs.declared.reading.Found.{Found}
use Rattle.host_lines.specs.declared.reading.Found.TheVariants.{Line, LastLine, End}

abbrev pub is_end : ℕ → Bool
is_end byte = nat_eq byte 10

-- a line without its line feed
abbrev pub HasNoEnd : List ℕ → Type 0
HasNoEnd bytes = list_any is_end bytes ≡ false

-- how many line feeds there are
abbrev pub ends_in : List ℕ → ℕ
ends_in [] = 0
ends_in (byte ∷ bytes) = if is_end byte then suc (ends_in bytes) else ends_in bytes

-- whether a text ends inside a line, where what stood before it did or did not
abbrev pub inside_after : Bool → List ℕ → Bool
inside_after inside [] = inside
inside_after inside (byte ∷ bytes) = inside_after (not (is_end byte)) bytes

-- how many lines a text has
abbrev pub lines_in : List ℕ → ℕ
lines_in bytes = ends_in bytes + (if inside_after false bytes then 1 else 0)

-- the first line feed stands there
pub record IsFirstEndAt (number : ℕ) (text : List ℕ) : Type 0 where
  pub front : List ℕ
  pub back : List ℕ
  pub is : text ≡ front ++ 10 ∷ back
  pub at : number ≡ length front
  pub none : HasNoEnd front

-- where the first line feed stands, or `None` where there is none
abbrev pub IsFirstEnd : List ℕ → Option ℕ → Type 0
IsFirstEnd text None = HasNoEnd text
IsFirstEnd text (Some number) = IsFirstEndAt number text

-- a line feed stands there, and none behind it
pub record IsLastEndAt (number : ℕ) (text : List ℕ) : Type 0 where
  pub front : List ℕ
  pub back : List ℕ
  pub is : text ≡ front ++ 10 ∷ back
  pub at : number ≡ length front
  pub none : HasNoEnd back

-- where the last line feed stands, or `None` where there is none
abbrev pub IsLastEnd : List ℕ → Option ℕ → Type 0
IsLastEnd text None = HasNoEnd text
IsLastEnd text (Some number) = IsLastEndAt number text

-- a byte was read, or the end was met
abbrev pub GaveByte : Option (List ℕ) → Option (List ℕ) → Option ℕ → Type 0
GaveByte old new None = Consumes old new [] × IsAtEnd new
GaveByte old new (Some byte) = Consumes old new (byte ∷ [])

-- a line and its line feed were read, a last line without one, or nothing at the end
abbrev pub HasRead : Option (List ℕ) → Option (List ℕ) → List ℕ → Found → Type 0
HasRead old new line Line = HasNoEnd line × Consumes old new (line ++ 10 ∷ [])
HasRead old new line LastLine = HasNoEnd line × (0 < length line) × Consumes old new line × IsAtEnd new
HasRead old new line End = (line ≡ []) × Consumes old new [] × IsAtEnd new

-- a read that failed may have lost bytes, none of which is a line feed
pub record LosesPart (old new : Option (List ℕ)) : Type 0 where
  pub lost : List ℕ
  pub taken : Consumes old new lost
  pub none : HasNoEnd lost

-- a line, its line feed, and what stands behind it
pub record HasFirstLine (line text : List ℕ) : Type 0 where
  pub rest : List ℕ
  pub is : text ≡ line ++ 10 ∷ rest
  pub none : HasNoEnd line

-- a text begins with a line and its line feed, is a last line without one, or is empty
abbrev pub HasFirst : Found → List ℕ → List ℕ → Type 0
HasFirst Line line text = HasFirstLine line text
HasFirst LastLine line text = HasNoEnd line × (0 < length line) × (text ≡ line)
HasFirst End line text = (line ≡ []) × (text ≡ [])

-- the part before the first line feed
pub record AddsPart (bytes old new : List ℕ) : Type 0 where
  pub part : List ℕ
  pub line : HasFirstLine part bytes
  pub is : new ≡ old ++ part

-- what stands before the first line feed went behind a line, and whether there is one
abbrev pub AddsLine : List ℕ → List ℕ → List ℕ → Bool → Type 0
AddsLine bytes old new true = AddsPart bytes old new
AddsLine bytes old new false = HasNoEnd bytes × (new ≡ old ++ bytes)

-- a front of the bytes went out
pub record PutFront (old new : Option (List ℕ)) (bytes : List ℕ) : Type 0 where
  pub count : ℕ
  pub fits : count ≤ length bytes
  pub put : Appends old new (take count bytes)

-- what is written before a record, where the line before lacks its line feed or has it
abbrev pub end_before : Bool → List ℕ
end_before lacks_end = if lacks_end then 10 ∷ [] else []

-- what is written for a record
abbrev pub record_text : Bool → List ℕ → List ℕ
record_text lacks_end bytes = end_before lacks_end ++ (bytes ++ 10 ∷ [])

-- a file moved to an offset, where it tells its position, and what it had left then is as P says, where it tells that
pub record ReadsAt {F : Type 0} (position : F → Option ℕ) (bytes remaining : F → Option (List ℕ)) (offset : ℕ) (file : F) (P : List ℕ → Type 0) : Type 0 where
  pub there : F
  pub moved : IfSome (position file) (λ before. position there ≡ Some offset)
  pub kept : Keeps (bytes file) (bytes there)
  pub read : IfSome (remaining there) P

-- a file moved to an offset, where it tells its position, and holds what it held, where it tells that
pub record Moved {F : Type 0} (position : F → Option ℕ) (bytes : F → Option (List ℕ)) (offset : ℕ) (before there : F) : Type 0 where
  pub moved : IfSome (position before) (λ was. position there ≡ Some offset)
  pub kept : Keeps (bytes before) (bytes there)

-- a file moved to an offset, and a piece was read from there on
pub record TakesAt {F : Type 0} (position : F → Option ℕ) (bytes remaining : F → Option (List ℕ)) (offset : ℕ) (before after : F) (piece : List ℕ) : Type 0 where
  pub there : F
  pub moved : Moved position bytes offset before there
  pub taken : Consumes (remaining there) (remaining after) piece

-- pieces of a file were read backwards from an offset, each right before the one that was read before it; `seen` is what stands
-- from the last of them on up to that offset
pub data ReadBack {F : Type 0} (position : F → Option ℕ) (bytes remaining : F → Option (List ℕ)) (upto : ℕ) (first : F) : (from : ℕ) (file : F) (seen : List ℕ) → Type 0 where
  Nothing : ReadBack position bytes remaining upto first upto first []
  Piece : (from end : ℕ) (before after : F) (piece seen : List ℕ)
      → ReadBack position bytes remaining upto first end before seen
      → TakesAt position bytes remaining from before after piece
      → from + length piece ≡ end
      → ReadBack position bytes remaining upto first from after (piece ++ seen)

-- where the last line of a text begins: behind its last line feed, or at its first byte
abbrev pub last_line : List ℕ → ℕ
last_line [] = 0
last_line (byte ∷ bytes) = if list_any is_end (byte ∷ bytes) then suc (last_line bytes) else 0

-- where the line begins that ends right before an offset, with its line feed or without one
abbrev pub line_start : List ℕ → ℕ → ℕ
line_start text offset = last_line (take (offset - 1) text)

-- a text has these bytes from an offset on
abbrev pub HasAt : ℕ → List ℕ → List ℕ → Type 0
HasAt from bytes text = take (length bytes) (drop from text) ≡ bytes

-- the line before an offset begins there in each text that has what was read where it was read
pub record FoundBack {F : Type 0} (position : F → Option ℕ) (bytes remaining : F → Option (List ℕ)) (offset : ℕ) (before after : F) (start : ℕ) : Type 0 where
  pub from : ℕ
  pub seen : List ℕ
  pub read : ReadBack position bytes remaining (offset - 1) before from after seen
  pub start_of : (text : List ℕ) → HasAt from seen text → start ≡ line_start text offset

-- a file moved to an offset and kept what it held, and bytes went behind what it held then, where it tells that
pub record WritesAt {F : Type 0} (position : F → Option ℕ) (bytes contents : F → Option (List ℕ)) (offset : ℕ) (before after : F) (text : List ℕ) : Type 0 where
  pub there : F
  pub moved : Moved position bytes offset before there
  pub put : Appends (contents there) (contents after) text

-- a file kept what it held, and a front of the bytes went behind what it held then: none where it had not moved to the offset
pub record WritesFrontAt {F : Type 0} (position : F → Option ℕ) (bytes contents : F → Option (List ℕ)) (offset : ℕ) (before after : F) (text : List ℕ) : Type 0 where
  pub there : F
  pub kept : Keeps (bytes before) (bytes there)
  pub put : PutFront (contents there) (contents after) text
  pub moved : 0 < put.count → IfSome (position before) (λ was. position there ≡ Some offset)
