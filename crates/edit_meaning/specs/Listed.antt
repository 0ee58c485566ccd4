-- List-directed output: the records that a list of values makes, and the record in the making.
-- ANSI X3.9-1978, section 13.6.2, which leaves the widths and the places where records end to the
-- processor. A record has at most 80 columns and begins with one blank.
use Rattle.std.specs.Prelude.{ℕ, zero, suc, ℤ, ◌+◌, ◌-◌, ◌/◌, nat_le, Bool, true, false, if◌then◌else◌, List, [], ◌∷◌, ◌++◌, length, take, drop}
use Rattle.std.specs.Fmt.{digits, signed_decimal}

-- a value of an output list
pub data ListedValue : Type 0 where
  Int : ℤ → ListedValue
  Logical : Bool → ListedValue
  Text : List ℕ → ListedValue

-- how a value is written: an integer as one blank and its shortest text, a logical as one blank and T or F, a text as it stands
unfoldable pub shown : ListedValue → List ℕ
shown (Int number) = 32 ∷ signed_decimal number
shown (Logical true) = 32 ∷ 84 ∷ []
shown (Logical false) = 32 ∷ 70 ∷ []
shown (Text bytes) = bytes

-- a text cut so that `more` pieces of 79 stand before its last one
abbrev pub cut_in : ℕ → List ℕ → List (List ℕ)
cut_in zero text = text ∷ []
cut_in (suc more) text = take 79 text ∷ cut_in more (drop 79 text)

-- a text in pieces of 79, the last of which may be shorter
unfoldable pub pieces : List ℕ → List (List ℕ)
pieces text = cut_in ((length text - 1) / 79) text

-- an output so far: its complete records, and the record in the making
pub record Listing : Type 0 where
  pub complete : List (List ℕ)
  pub making : List ℕ

-- the output before its first value
unfoldable pub begun : Listing
begun = record { complete = []; making = 32 ∷ [] }

-- the record in the making is written, and a new one begins with one blank
unfoldable pub next_record : Listing → Listing
next_record out = record { complete = out.complete ++ out.making ∷ []; making = 32 ∷ [] }

-- the characters stand at the end of the record in the making
unfoldable pub extended : Listing → List ℕ → Listing
extended out text = record out { making = out.making ++ text }

-- the pieces follow, each but the first in a record of its own
unfoldable pub in_pieces : Listing → List (List ℕ) → Listing
in_pieces out [] = out
in_pieces out (piece ∷ []) = extended out piece
in_pieces out (piece ∷ next ∷ later) = in_pieces (next_record (extended out piece)) (next ∷ later)

-- the value's text follows: in the record in the making where it does not pass column 80, and otherwise, in pieces, from a record
-- that holds its first blank alone
unfoldable pub followed_by : Listing → List ℕ → Listing
followed_by out text =
    if nat_le (length out.making + length text) 80 then extended out text
    else in_pieces (if nat_le (length out.making) 1 then out else next_record out) (pieces text)

-- the values follow, one after the other
unfoldable pub listing_from : Listing → List ListedValue → Listing
listing_from out [] = out
listing_from out (value ∷ later) = listing_from (followed_by out (shown value)) later

-- the output of a list of values
unfoldable pub listing : List ListedValue → Listing
listing values = listing_from begun values

-- the complete records of an output: those before the record in the making, and at its end this one too
unfoldable pub listed : List ListedValue → Bool → List (List ℕ)
listed values false = (listing values).complete
listed values true = (listing values).complete ++ (listing values).making ∷ []

-- the record in the making
unfoldable pub in_making : List ListedValue → List ℕ
in_making values = (listing values).making

-- `unfolding listed_whole` opens each definition above, for an output that is computed
unfoldable pub listed_whole : Unit {0}
unfolding digits shown pieces begun next_record extended in_pieces followed_by listing_from listing listed in_making
listed_whole = tt
