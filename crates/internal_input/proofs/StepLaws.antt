-- The steps of the search for the value of an item.
use Rattle.std.proofs.Common.{◌≡◌, ℕ, ℤ, pos, Bool, true, false, List, [], refl, ap, sym, ◌∙◌, subst}
use Rattle.std.specs.Prelude.{Result, Ok, Err, if◌then◌else◌}
use Rattle.c_tree.specs.declared.outcome.CValue.TheVariants as values
use Rattle.c_tree.specs.declared.outcome.CFault.{CFault}
use Rattle.c_tree.specs.Faults.{failing}
use Rattle.c_tree.specs.Access.{ToNumber}
use Rattle.c_tree.specs.Objects.{Object, stored}
use Rattle.c_tree.specs.World.{InternalFile, Internal, Transfer}
use Rattle.c_tree.specs.TransferInput.{value_taken}
use Rattle.edit_rules.specs.edit_meaning.ListInput.{Number, Truth, Piece, Null, Slash, NeedRecord, Wrong, given}
use Rattle.edit_rules.specs.edit_meaning.ListItems.{Value, IntValue, LogicalValue, TextValue, Kept, Takes, begun_with_value, item_over}
use Rattle.edit_rules.specs.declared.list_reader.ListItem.TheVariants as item
use Rattle.edit_rules.specs.Reader.{place_in}
use Rattle.internal_records.specs.declared.records.RecordEnd.TheVariants as record_ends
use Rattle.internal_input.specs.declared.ends.ItemEnd.{ItemEnd}
use Rattle.internal_input.specs.declared.ends.ItemEnd.TheVariants as ends
use Rattle.internal_input.specs.declared.ends.ItemRead.TheVariants as reads
use Rattle.internal_input.specs.declared.ends.Step.{Step}
use Rattle.internal_input.specs.declared.ends.Step.TheVariants as steps
use Rattle.listed_input.specs.declared.reading.RecordInReading.{RecordInReading}
use Rattle.listed_input.specs.Reading.{line_of, place_of, Gives}
use Rattle.internal_input.specs.Fetching.{ReadsNext}
use Rattle.internal_input.specs.Reading.{ReadsItem}
use Rattle.internal_input.specs.Steps.{StepsNumber, StepsPiece, StepsLast, StepsText, StepsBad, StepsRecord, Further, NoFurther, Faulty}
use Rattle.internal_input.specs.Searching.{Search, kind_in, Seeking, Steps}
use Rattle.listed_input.proofs.SeekLaws.{item-given, place-behind, piece_of}
use Rattle.internal_input.proofs.SeekLaws.{seeking-piece, seeking-record}
use Rattle.internal_input.proofs.TakeLaws.{IsAt, takes-on, takes-faulty, slash-on, wrong-ends, wrong-faulty, records-end, records-stuck, records-faulty}

is-at : (from : Search) (transfer : Transfer) → transfer.medium ≡ Internal from.file → transfer.place ≡ from.place → transfer.slashed ≡ false → IsAt from transfer
is-at from transfer medium place slashed = record { medium = medium; place = place; slashed = slashed }

-- ## Values

-- a value is taken
value-given : (from : Search) (before reading : RecordInReading) (file : InternalFile) (objects : List Object) (buffer : List ℕ) (done : ℕ) (value : Value) →
    (seeking : Seeking from before file buffer done) →
    ((later : List (List ℕ)) → item_over (place_of before) later (kind_in from) ≡ Takes value (place_of reading) later) →
    value_taken from.objects from.item.pointer from.item.size (begun_with_value seeking.text value) ≡ Ok objects →
    ReadsItem from.item from.place (place_of reading) from.objects objects from.file file (Ok reads.Given)
value-given from before reading file objects buffer done value seeking is stores = record {
  replies = λ units transfer stale medium place slashed.
      takes-on from before file buffer done objects transfer stale units value (place_of reading) seeking (is-at from transfer medium place slashed) is stores;
}

value-faulty : (from : Search) (before reading : RecordInReading) (file : InternalFile) (objects : List Object) (buffer : List ℕ) (done : ℕ) (value : Value) (fault : CFault) →
    (seeking : Seeking from before file buffer done) →
    ((later : List (List ℕ)) → item_over (place_of before) later (kind_in from) ≡ Takes value (place_of reading) later) →
    value_taken from.objects from.item.pointer from.item.size (begun_with_value seeking.text value) ≡ failing fault →
    ReadsItem from.item from.place (place_of reading) from.objects objects from.file file (Err (ends.Fault fault))
value-faulty from before reading file objects buffer done value fault seeking is wrong = record {
  replies = λ units transfer stale medium place slashed. takes-faulty from before file buffer done transfer stale units value (place_of reading) fault seeking is wrong;
}

-- a number is stored
number-step : (from : Search) (before reading : RecordInReading) (file : InternalFile) (objects : List Object) (buffer : List ℕ) (done : ℕ) (number : ℤ) (value : Value) (result : Result Step ItemEnd) →
    (seeking : Seeking from before file buffer done) →
    ((later : List (List ℕ)) → item_over (place_of before) later (kind_in from) ≡ Takes value (place_of reading) later) →
    value_taken from.objects from.item.pointer from.item.size (begun_with_value seeking.text value)
    ≡ stored from.objects (record { at = from.item.pointer; access = ToNumber }) (values.Number number) →
    StepsNumber from.item number from.objects objects result → Steps from before file reading objects file buffer result
number-step from before reading file objects buffer done number value (Ok (steps.Read reads.Given)) seeking is means stores =
    value-given from before reading file objects buffer done value seeking is (means ∙ stores)
number-step from before reading file objects buffer done number value (Ok (steps.Read reads.Slashed)) seeking is means stores = absurd stores
number-step from before reading file objects buffer done number value (Ok (steps.GoesOn other)) seeking is means stores = absurd stores
number-step from before reading file objects buffer done number value (Err (ends.Fault fault)) seeking is means stores =
    value-faulty from before reading file objects buffer done value fault seeking is (means ∙ stores)
number-step from before reading file objects buffer done number value (Err (ends.Number other)) seeking is means stores = absurd stores

pub int-step : (from : Search) (before reading : RecordInReading) (file : InternalFile) (objects : List Object) (buffer : List ℕ) (done : ℕ) (number : ℤ) (result : Result Step ItemEnd) →
    Gives (kind_in from) before reading (item.Int number) → Seeking from before file buffer done → StepsNumber from.item number from.objects objects result →
    Steps from before file reading objects file buffer result
int-step from before reading file objects buffer done number result gives seeking stores =
    let is : Number number (place_of reading) ≡ given (place_of before) (kind_in from) = ap (Number number) (sym (place-behind before reading gives.same)) ∙ gives.given_is in
    number-step from before reading file objects buffer done number (IntValue number) result seeking
    (item-given (place_of before) (kind_in from) (Number number (place_of reading)) is) refl stores

pub truth-step : (from : Search) (before reading : RecordInReading) (file : InternalFile) (objects : List Object) (buffer : List ℕ) (done : ℕ) (truth : Bool) (number : ℤ) (result : Result Step ItemEnd) →
    (if truth then pos 1 else pos 0) ≡ number → Gives (kind_in from) before reading (item.Logical truth) → Seeking from before file buffer done →
    StepsNumber from.item number from.objects objects result → Steps from before file reading objects file buffer result
truth-step from before reading file objects buffer done truth number result same gives seeking stores =
    let is : Truth truth (place_of reading) ≡ given (place_of before) (kind_in from) = ap (Truth truth) (sym (place-behind before reading gives.same)) ∙ gives.given_is in
    number-step from before reading file objects buffer done number (LogicalValue truth) result seeking
    (item-given (place_of before) (kind_in from) (Truth truth (place_of reading)) is)
    (ap (λ (one : ℤ). stored from.objects (record { at = from.item.pointer; access = ToNumber }) (values.Number one)) same) stores

pub null-step : (from : Search) (before reading : RecordInReading) (file : InternalFile) (buffer : List ℕ) (done : ℕ) → Gives (kind_in from) before reading item.Null → Seeking from before file buffer done →
    ReadsItem from.item from.place (place_of reading) from.objects from.objects from.file file (Ok reads.Given)
null-step from before reading file buffer done gives seeking =
    let is : Null (place_of reading) ≡ given (place_of before) (kind_in from) = ap Null (sym (place-behind before reading gives.same)) ∙ gives.given_is in
    value-given from before reading file from.objects buffer done Kept seeking (item-given (place_of before) (kind_in from) (Null (place_of reading)) is) refl

pub slash-step : (from : Search) (before reading : RecordInReading) (file : InternalFile) (buffer : List ℕ) (done : ℕ) → Gives (kind_in from) before reading item.Slash → Seeking from before file buffer done →
    ReadsItem from.item from.place (place_of reading) from.objects from.objects from.file file (Ok reads.Slashed)
slash-step from before reading file buffer done gives seeking = record {
  replies = λ units transfer stale medium place slashed.
      slash-on from before file buffer done transfer stale units (place_of reading) seeking (is-at from transfer medium place slashed)
      (item-given (place_of before) (kind_in from) Slash gives.given_is);
}

-- ## A text

piece-step : (from : Search) (before reading : RecordInReading) (file : InternalFile) (objects : List Object) (buffer buffer' : List ℕ) (done start end : ℕ) (result : Result Step ItemEnd) →
    Gives (kind_in from) before reading (item.Text start end true) → Seeking from before file buffer done →
    StepsPiece from.item done (piece_of (line_of before) start end) buffer buffer' from.objects objects result → Steps from before file reading objects file buffer' result
piece-step from before reading file objects buffer buffer' done start end (Ok (steps.Read read)) gives seeking puts = absurd puts
piece-step from before reading file objects buffer buffer' done start end (Ok (steps.GoesOn done')) gives seeking puts =
    seeking-piece from before reading file objects buffer buffer' done done' start end gives puts.0 puts.1 seeking
piece-step from before reading file objects buffer buffer' done start end (Err end') gives seeking puts = absurd puts

last-step : (from : Search) (before reading : RecordInReading) (file : InternalFile) (objects : List Object) (buffer buffer' : List ℕ) (done start end : ℕ) (result : Result Step ItemEnd) →
    Gives (kind_in from) before reading (item.Text start end false) → Seeking from before file buffer done →
    StepsLast from.item done (piece_of (line_of before) start end) buffer from.objects objects result → Steps from before file reading objects file buffer' result
last-step from before reading file objects buffer buffer' done start end (Ok (steps.Read reads.Given)) gives seeking puts =
    let piece : List ℕ = piece_of (line_of before) start end in
    let is : Piece piece false (place_of reading) ≡ given (place_of before) (kind_in from) = ap (Piece piece false) (sym (place-behind before reading gives.same)) ∙ gives.given_is in
    value-given from before reading file objects buffer done (TextValue piece) seeking
    (item-given (place_of before) (kind_in from) (Piece piece false (place_of reading)) is) (puts seeking.text seeking.gathered)
last-step from before reading file objects buffer buffer' done start end (Ok (steps.Read reads.Slashed)) gives seeking puts = absurd puts
last-step from before reading file objects buffer buffer' done start end (Ok (steps.GoesOn done')) gives seeking puts = absurd puts
last-step from before reading file objects buffer buffer' done start end (Err (ends.Fault fault)) gives seeking puts =
    let piece : List ℕ = piece_of (line_of before) start end in
    let is : Piece piece false (place_of reading) ≡ given (place_of before) (kind_in from) = ap (Piece piece false) (sym (place-behind before reading gives.same)) ∙ gives.given_is in
    value-faulty from before reading file objects buffer done (TextValue piece) fault seeking
    (item-given (place_of before) (kind_in from) (Piece piece false (place_of reading)) is) (puts seeking.text seeking.gathered)
last-step from before reading file objects buffer buffer' done start end (Err (ends.Number number)) gives seeking puts = absurd puts

pub text-step : (from : Search) (before reading : RecordInReading) (file : InternalFile) (objects : List Object) (buffer buffer' : List ℕ) (done start end : ℕ) (more : Bool) (result : Result Step ItemEnd) →
    Gives (kind_in from) before reading (item.Text start end more) → Seeking from before file buffer done →
    StepsText more from.item done (piece_of (line_of before) start end) buffer buffer' from.objects objects result → Steps from before file reading objects file buffer' result
text-step from before reading file objects buffer buffer' done start end true result gives seeking puts =
    piece-step from before reading file objects buffer buffer' done start end result gives seeking puts
text-step from before reading file objects buffer buffer' done start end false result gives seeking puts =
    last-step from before reading file objects buffer buffer' done start end result gives seeking puts

-- ## Ends

-- the number of an error
pub bad-step : (from : Search) (before reading : RecordInReading) (file : InternalFile) (objects : List Object) (buffer : List ℕ) (done number : ℕ) (result : Result Step ItemEnd) →
    Gives (kind_in from) before reading (item.Bad number) → Seeking from before file buffer done → StepsBad from.item done (pos number) buffer from.objects objects result →
    Steps from before file reading objects file buffer result
bad-step from before reading file objects buffer done number (Ok step) gives seeking stores = absurd stores
bad-step from before reading file objects buffer done number (Err (ends.Number said)) gives seeking stores =
    subst (λ (n : ℤ). ReadsItem from.item from.place (place_of reading) from.objects objects from.file file (Err (ends.Number n))) (sym stores.0)
    (record {
      replies = λ units transfer stale medium place slashed.
          wrong-ends from before file buffer done number objects transfer stale units seeking (is-at from transfer medium place slashed)
          (item-given (place_of before) (kind_in from) (Wrong number) gives.given_is) (stores.1 from.item.size seeking.text seeking.gathered);
    })
bad-step from before reading file objects buffer done number (Err (ends.Fault fault)) gives seeking stores = record {
  replies = λ units transfer stale medium place slashed.
      wrong-faulty from before file buffer done number fault transfer stale units seeking (is-at from transfer medium place slashed)
      (item-given (place_of before) (kind_in from) (Wrong number) gives.given_is) (stores from.item.size seeking.text seeking.gathered);
}

-- no record comes next, and a number in its place
none-step : (from : Search) (before between reading : RecordInReading) (file file' : InternalFile) (objects : List Object) (buffer : List ℕ) (done : ℕ) (number : ℤ) (result : Result Step ItemEnd) →
    Gives (kind_in from) before between item.NeedLine → Seeking from before file buffer done → ReadsNext from.objects between reading file file' (Err (record_ends.Number number)) →
    StepsBad from.item done number buffer from.objects objects result → Steps from before file reading objects file' buffer result
none-step from before between reading file file' objects buffer done number (Ok step) gives seeking none stores = absurd stores
none-step from before between reading file file' objects buffer done number (Err (ends.Number said)) gives seeking none stores =
    subst (λ (n : ℤ). ReadsItem from.item from.place (place_of reading) from.objects objects from.file file' (Err (ends.Number n))) (sym stores.0)
    (record {
      replies = λ units transfer stale medium place slashed.
          records-end from before file buffer done number objects transfer stale units seeking (is-at from transfer medium place slashed)
          (item-given (place_of before) (kind_in from) (NeedRecord (place_in [] between.reader)) gives.given_is []) none
          (stores.1 from.item.size seeking.text seeking.gathered);
    })
none-step from before between reading file file' objects buffer done number (Err (ends.Fault fault)) gives seeking none stores = record {
  replies = λ units transfer stale medium place slashed.
      records-stuck from before file buffer done number fault transfer stale units seeking
      (item-given (place_of before) (kind_in from) (NeedRecord (place_in [] between.reader)) gives.given_is []) none
      (stores from.item.size seeking.text seeking.gathered);
}

pub record-step : (from : Search) (before between reading : RecordInReading) (file file' : InternalFile) (objects : List Object) (buffer : List ℕ) (done : ℕ) (result : Result Step ItemEnd) →
    Gives (kind_in from) before between item.NeedLine → Seeking from before file buffer done →
    StepsRecord from.item done buffer between reading from.objects objects file file' result → Steps from before file reading objects file' buffer result
record-step from before between reading file file' objects buffer done result gives seeking (Further is unchanged next) =
    subst (Steps from before file reading objects file' buffer) (sym is) (seeking-record from before between reading file file' objects buffer done gives next unchanged seeking)
record-step from before between reading file file' objects buffer done result gives seeking (NoFurther number none stores) =
    none-step from before between reading file file' objects buffer done number result gives seeking none stores
record-step from before between reading file file' objects buffer done result gives seeking (Faulty fault is none) =
    subst (Steps from before file reading objects file' buffer) (sym is)
    (record {
      replies = λ units transfer stale medium place slashed.
          records-faulty from before file buffer done fault transfer stale units seeking
          (item-given (place_of before) (kind_in from) (NeedRecord (place_in [] between.reader)) gives.given_is []) none;
    })
