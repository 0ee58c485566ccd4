-- Inputs that are known from outside, computed.
use Rattle.std.proofs.Common.{◌≡◌, pos, [], ◌∷◌, refl}
use Rattle.edit_meaning.specs.ListInput.{IntItem, TextItem, given}
use Rattle.edit_meaning.specs.ListItems.{IntValue, TextValue, Kept, Filled, Slashed, Failed, EndOfRecords, items, items_from}

-- the records 3*7,, and /
repeats : items ((51 ∷ 42 ∷ 55 ∷ 44 ∷ 44 ∷ []) ∷ (47 ∷ []) ∷ []) (IntItem ∷ IntItem ∷ IntItem ∷ IntItem ∷ IntItem ∷ [])
    ≡ record { values = IntValue (pos 7) ∷ IntValue (pos 7) ∷ IntValue (pos 7) ∷ Kept ∷ []; outcome = Slashed }
unfolding items items_from given
repeats = refl

-- a text that goes on in the next record: 'A''B and C' 5
goes_on : items ((39 ∷ 65 ∷ 39 ∷ 39 ∷ 66 ∷ []) ∷ (67 ∷ 39 ∷ 32 ∷ 53 ∷ []) ∷ []) (TextItem ∷ IntItem ∷ [])
    ≡ record { values = TextValue (65 ∷ 39 ∷ 66 ∷ 67 ∷ []) ∷ IntValue (pos 5) ∷ []; outcome = Filled }
unfolding items items_from given
goes_on = refl

-- a text that is not closed: 'A and B
unclosed : items ((39 ∷ 65 ∷ []) ∷ (66 ∷ []) ∷ []) (TextItem ∷ []) ≡ record { values = []; outcome = EndOfRecords (65 ∷ 66 ∷ []) }
unfolding items items_from given
unclosed = refl

-- an apostrophe before another character in the second record: 'A and B'C
badly : items ((39 ∷ 65 ∷ []) ∷ (66 ∷ 39 ∷ 67 ∷ []) ∷ []) (TextItem ∷ []) ≡ record { values = []; outcome = Failed 1 (65 ∷ []) }
unfolding items items_from given
badly = refl
