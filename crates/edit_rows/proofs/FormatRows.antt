-- Formats whose edits are known from outside, computed.
use Rattle.std.proofs.Common.{◌≡◌, pos, true, false, None, Some, [], ◌∷◌, refl}
use Rattle.std.specs.Fmt.{digits}
use Rattle.edit_meaning.specs.EditedFields.{int_field}
use Rattle.edit_meaning.specs.EditedRecords.{made, made_on}
use Rattle.edit_meaning.specs.Listed.{Int}
use Rattle.edit_meaning.specs.ListItems.{IntValue, TextValue}
use Rattle.edit_meaning.specs.TakenFields.{int_in, text_in}
use Rattle.edit_meaning.specs.Halts.{EndOfRecords}
use Rattle.edit_meaning.specs.TakenRecords.{WantInt, WantText, taken}
use Rattle.edit_meaning.specs.Formats.{IntIn, TextIn, RightBy, NextRecord, Empty, Takes, Does, Group, Item, Act, edits_for}

-- (I3,2(1X,I2.2)/) goes on at its group: I3, then pairs, each before a new record
reverts : edits_for (Takes 1 (IntIn 3 None) (Group 2 (Does 1 (RightBy 1) (Takes 1 (IntIn 2 (Some 2)) Empty)) (Does 1 NextRecord Empty))) 5
    ≡ record {
      edits = Item (IntIn 3 None) ∷ Act (RightBy 1) ∷ Item (IntIn 2 (Some 2)) ∷ Act (RightBy 1) ∷ Item (IntIn 2 (Some 2)) ∷ Act NextRecord ∷ Act NextRecord
          ∷ Act (RightBy 1) ∷ Item (IntIn 2 (Some 2)) ∷ Act (RightBy 1) ∷ Item (IntIn 2 (Some 2)) ∷ [];
      unserved = 0;
      left = Act NextRecord ∷ [];
    }
unfolding edits_for
reverts = refl

-- 1 to 9 under that format: eight records, every other one of them empty
pairs : (made (Takes 1 (IntIn 3 None) (Group 2 (Does 1 (RightBy 1) (Takes 1 (IntIn 2 (Some 2)) Empty)) (Does 1 NextRecord Empty)))
    (Int (pos 1) ∷ Int (pos 2) ∷ Int (pos 3) ∷ Int (pos 4) ∷ Int (pos 5) ∷ Int (pos 6) ∷ Int (pos 7) ∷ Int (pos 8) ∷ Int (pos 9) ∷ []) true).complete
    ≡ (32 ∷ 32 ∷ 49 ∷ 32 ∷ 48 ∷ 50 ∷ 32 ∷ 48 ∷ 51 ∷ []) ∷ [] ∷ (32 ∷ 48 ∷ 52 ∷ 32 ∷ 48 ∷ 53 ∷ []) ∷ [] ∷ (32 ∷ 48 ∷ 54 ∷ 32 ∷ 48 ∷ 55 ∷ [])
    ∷ [] ∷ (32 ∷ 48 ∷ 56 ∷ 32 ∷ 48 ∷ 57 ∷ []) ∷ [] ∷ []
unfolding made_on edits_for int_field digits
pairs = refl

-- the record `  7 x` under (I3,1X,A1): 7 and x
fields : (taken (Takes 1 (IntIn 3 None) (Does 1 (RightBy 1) (Takes 1 (TextIn (Some 1)) Empty))) ((32 ∷ 32 ∷ 55 ∷ 32 ∷ 120 ∷ []) ∷ []) (WantInt ∷ WantText 1 ∷ []) false).values
    ≡ IntValue (pos 7) ∷ TextValue (120 ∷ []) ∷ []
unfolding taken edits_for int_in text_in
fields = refl

-- no record is there
no_record : (taken Empty [] [] false).halted ≡ Some EndOfRecords
unfolding taken edits_for
no_record = refl
