-- List-directed input that goes no further beside why, and beside what the item holds then. ANSI X3.9-1978, section 13.6.1.
use Rattle.std.specs.Prelude.{ℕ, pos, true, List, [], ◌∷◌, codes}
use Rattle.edit_meaning.specs.ListInput.{Kind, IntItem, LogicalItem, TextItem}
use Rattle.edit_meaning.specs.ListItems.{Value, IntValue, LogicalValue, TextValue, Kept, Outcome, Filled, Slashed, Failed, EndOfRecords, Items, items}

-- records, the kinds of the items, the values, and how the input ends
pub record Row : Type 0 where
  pub records : List (List ℕ)
  pub kinds : List Kind
  pub values : List Value
  pub outcome : Outcome

abbrev pub row : List (List ℕ) → List Kind → List Value → Outcome → Row
row records kinds values outcome = record { records = records; kinds = kinds; values = values; outcome = outcome }

abbrev pub found : Row → Items
found row = items row.records row.kinds

abbrev pub wanted : Row → Items
wanted row = record { values = row.values; outcome = row.outcome }

unfoldable pub rows : List Row
rows =
    -- no integer, an integer past 32 bits, no logical
    row (codes "x" ∷ []) (IntItem ∷ []) [] (Failed 1 [])
    ∷ row (codes "1 2147483648" ∷ []) (IntItem ∷ IntItem ∷ []) (IntValue (pos 1) ∷ []) (Failed 3 [])
    ∷ row (codes "T,x" ∷ []) (LogicalItem ∷ LogicalItem ∷ []) (LogicalValue true ∷ []) (Failed 2 [])
    -- a repeated text that is not closed in its record; one that is; and one that stands once and goes on
    ∷ row (codes "2*'ab" ∷ codes "c'" ∷ []) (TextItem ∷ []) [] (Failed 1 [])
    ∷ row (codes "2*'ab'" ∷ []) (TextItem ∷ TextItem ∷ []) (TextValue (codes "ab") ∷ TextValue (codes "ab") ∷ []) Filled
    ∷ row (codes "1*'ab" ∷ codes "c'" ∷ []) (TextItem ∷ []) (TextValue (codes "abc") ∷ []) Filled
    -- a text that is followed by neither a separator nor the end of the record: the item is kept; after it has gone on, the item holds
    -- the characters of the earlier records
    ∷ row (codes "'ab'c" ∷ []) (TextItem ∷ []) [] (Failed 1 [])
    ∷ row (codes "'ab" ∷ codes "c'd" ∷ []) (TextItem ∷ []) [] (Failed 1 (codes "ab"))
    -- the end of the records: before the first, behind a value, and in a text
    ∷ row [] (IntItem ∷ []) [] (EndOfRecords [])
    ∷ row (codes "1" ∷ []) (IntItem ∷ IntItem ∷ []) (IntValue (pos 1) ∷ []) (EndOfRecords [])
    ∷ row (codes "'ab" ∷ []) (TextItem ∷ []) [] (EndOfRecords (codes "ab"))
    -- a repeat, a null and a slash
    ∷ row (codes "3*7,," ∷ codes "/" ∷ []) (IntItem ∷ IntItem ∷ IntItem ∷ IntItem ∷ IntItem ∷ [])
    (IntValue (pos 7) ∷ IntValue (pos 7) ∷ IntValue (pos 7) ∷ Kept ∷ []) Slashed
    ∷ []
