-- The value of a field, as an item is given it.
use Rattle.std.proofs.Common.{◌≡◌, ℕ, ◌+◌, ◌-◌, ◌≤◌, ℤ, Bool, List, [], ◌++◌, length, drop, replicate, Some, refl, ap, sym, ◌∙◌, subst, arith}
use Rattle.std.specs.Prelude.{Result, Ok, Err, OnOk}
use Rattle.c_tree.specs.declared.outcome.CValue.{CValue}
use Rattle.c_tree.specs.declared.outcome.CValue.TheVariants as value
use Rattle.c_tree.specs.declared.outcome.CFault.{CFault}
use Rattle.c_tree.specs.Access.{ToNumber}
use Rattle.c_tree.specs.Objects.{Object, Place, stored}
use Rattle.c_tree.specs.LibraryArguments.{text_stored, fitted}
use Rattle.c_tree.specs.TransferInput.{wanted_under}
use Rattle.edit_rules.specs.edit_meaning.Formats.{Descriptor}
use Rattle.edit_rules.specs.edit_meaning.TakenRecords as inputs
use Rattle.taken_records.specs.declared.record.RecordInput.{RecordInput}
use Rattle.taken_records.specs.declared.fields.Want.{Want}
use Rattle.taken_records.specs.declared.fields.Want.TheVariants as want
use Rattle.taken_records.specs.declared.fields.Taken.{Taken}
use Rattle.taken_records.specs.declared.fields.Taken.TheVariants as given
use Rattle.taken_records.specs.declared.halt.Halt.{Halt}
use Rattle.taken_records.specs.Records.{want_of, value_in, characters_in, Takes, IsFor}
use Rattle.run_bytes.specs.Layout.{Stores}
use Rattle.listed_output.specs.Items.{StandsThere}
use Rattle.taken_items.specs.Storing.{ComesTo, IsSized, IsWanted, GivesValue}
use Rattle.taken_items.specs.Taking.{TakesItem, TakesValue}
use Rattle.taken_items.specs.declared.values.ItemHalt.TheVariants as item
use Rattle.taken_items.proofs.RoomLaws.{number-there}
use Rattle.listed_input.proofs.SeekLaws.{length-short}
use Rattle.listed_input.proofs.StoreLaws.{spaces}
use Rattle.taken_items.proofs.PadLaws.{fitted-padded}

-- what is given has the size of what was wanted
pub sized-by : (size : ℕ) (wanted : Want) (taken : Taken) → IsWanted size wanted → IsFor wanted taken → IsSized size taken
sized-by size want.Int (given.Int number) four is = four
sized-by size want.Int (given.Logical truth) four is = absurd is
sized-by size want.Int (given.Text from to blanks) four is = absurd is
sized-by size want.Logical (given.Int number) four is = absurd is
sized-by size want.Logical (given.Logical truth) four is = four
sized-by size want.Logical (given.Text from to blanks) four is = absurd is
sized-by size (want.Text count) (given.Int number) same is = absurd is
sized-by size (want.Text count) (given.Logical truth) same is = absurd is
sized-by size (want.Text count) (given.Text from to blanks) same is = (is.0, is.1, is.2 ∙ same)

pub sized-text : (size : ℕ) (taken : Taken) (from to blanks : ℕ) → taken ≡ given.Text from to blanks → IsSized size taken → (from ≤ to) × (to ≤ 1024) × ((to - from) + blanks ≡ size)
sized-text size taken from to blanks is sized = subst (λ (one : Taken). IsSized size one) is sized

pub sized-number : (size : ℕ) (taken : Taken) (number : ℤ) → taken ≡ given.Int number → IsSized size taken → size ≡ 4
sized-number size taken number is sized = subst (λ (one : Taken). IsSized size one) is sized

pub sized-truth : (size : ℕ) (taken : Taken) (truth : Bool) → taken ≡ given.Logical truth → IsSized size taken → size ≡ 4
sized-truth size taken truth is sized = subst (λ (one : Taken). IsSized size one) is sized

-- the characters of a field have at most the size of the item
pub characters-short : (read : RecordInput) (size from to blanks : ℕ) (text : List ℕ) → text ≡ characters_in read from to → (to - from) + blanks ≡ size → length text + blanks ≤ size
characters-short read size from to blanks text is all =
    let few : length (characters_in read from to) ≤ to - from = length-short (to - from) (drop from read.line) in omega (arith, few, all, ap length is)

-- a text that is padded is the text of the item
pub text-given : (read : RecordInput) (taken : Taken) (pointer : CValue) (size from to blanks : ℕ) (text : List ℕ) (old new : List Object) (result : Result (Unit {0}) CFault) →
    taken ≡ given.Text from to blanks → text ≡ characters_in read from to → IsSized size taken →
    ComesTo (text_stored old pointer (text ++ replicate (size - length text) 32)) new result → GivesValue (value_in read taken) pointer size old new result
text-given read taken pointer size from to blanks text old new result is same sized comes =
    let parts = sized-text size taken from to blanks is sized in
    let fits : fitted size (text ++ spaces blanks) ≡ text ++ spaces (size - length text) = fitted-padded size blanks text (characters-short read size from to blanks text same parts.2) in
    subst (λ (one : Taken). GivesValue (value_in read one) pointer size old new result) (sym is)
    (subst (λ (one : List ℕ). ComesTo (text_stored old pointer (fitted size (one ++ spaces blanks))) new result) same
    (subst (λ (one : List ℕ). ComesTo (text_stored old pointer one) new result) (sym fits) comes))

-- ## The item

wants-as : (descriptor : Descriptor) (size : ℕ) (wanted : Want) (old new : RecordInput) (taken : Taken) → want_of wanted ≡ wanted_under (Some descriptor) size →
    Takes descriptor (want_of wanted) old new (Ok taken) → TakesValue descriptor size old new (value_in new taken)
wants-as descriptor size wanted old new taken is takes =
    let same : Takes descriptor (wanted_under (Some descriptor) size) old new (Ok taken) = subst (λ (one : inputs.Want). Takes descriptor one old new (Ok taken)) is takes in
    record { takes = λ later. same later [] }

pub item-given : (descriptor : Descriptor) (pointer : CValue) (size : ℕ) (wanted : Want) (old new : RecordInput) (taken : Taken) (objects objects' : List Object) →
    want_of wanted ≡ wanted_under (Some descriptor) size → Takes descriptor (want_of wanted) old new (Ok taken) → GivesValue (value_in new taken) pointer size objects objects' (Ok tt) →
    TakesItem descriptor pointer size old new objects objects' (Ok tt)
item-given descriptor pointer size wanted old new taken objects objects' is takes gives = (value_in new taken, wants-as descriptor size wanted old new taken is takes, gives)

pub item-faulty : (descriptor : Descriptor) (pointer : CValue) (size : ℕ) (wanted : Want) (old new : RecordInput) (taken : Taken) (objects objects' : List Object) (fault : CFault) →
    want_of wanted ≡ wanted_under (Some descriptor) size → Takes descriptor (want_of wanted) old new (Ok taken) → GivesValue (value_in new taken) pointer size objects objects' (Err fault) →
    TakesItem descriptor pointer size old new objects objects' (Err (item.Fault fault))
item-faulty descriptor pointer size wanted old new taken objects objects' fault is takes gives = (value_in new taken, wants-as descriptor size wanted old new taken is takes, gives)

pub item-halts : (descriptor : Descriptor) (pointer : CValue) (size : ℕ) (wanted : Want) (old new : RecordInput) (objects : List Object) (halt : Halt) →
    want_of wanted ≡ wanted_under (Some descriptor) size → Takes descriptor (want_of wanted) old new (Err halt) →
    TakesItem descriptor pointer size old new objects objects (Err (item.Halts halt))
item-halts descriptor pointer size wanted old new objects halt is takes =
    let same : Takes descriptor (wanted_under (Some descriptor) size) old new (Err halt) = subst (λ (one : inputs.Want). Takes descriptor one old new (Err halt)) is takes in
    (refl, λ later. (same later []).1)

-- ## A number that is stored

abbrev at_pointer : CValue → Place
at_pointer pointer = record { at = pointer; access = ToNumber }

pub stored-there : (pointer : CValue) (size : ℕ) (number : ℤ) (old new : List Object) (result : Result (Unit {0}) CFault) → size ≡ 4 →
    Stores (λ all. stored all (at_pointer pointer) (value.Number number)) old new result → OnOk result (StandsThere size old pointer)
stored-there pointer size number old new (Ok done) four stores = number-there old new pointer number size four stores
stored-there pointer size number old new (Err fault) four stores = tt
