-- The steps of the search for the value of an item.
use Rattle.std.proofs.Common.{◌≡◌, ◌^◌, ◌+◌, ℕ, ◌≤◌, ℤ, pos, Bool, true, false, List, [], ◌∷◌, length, refl, ap, sym, ◌∙◌, subst, arith}
use Rattle.std.specs.Prelude.{Result, Ok, Err, IfSome, if◌then◌else◌}
use Rattle.c_tree.specs.declared.outcome.CValue.TheVariants as values
use Rattle.c_tree.specs.Access.{ToNumber}
use Rattle.c_tree.specs.Objects.{Object, stored}
use Rattle.c_tree.specs.World.{Transfer}
use Rattle.c_tree.specs.World as media
use Rattle.c_tree.specs.TransferInput.{kind_of, value_taken}
use Rattle.listed_output.specs.Kinds.{kind_shown}
use Rattle.edit_rules.specs.edit_meaning.ListInput.{Kind, Place, Given, Number, Truth, Piece, Null, Slash, NeedRecord, Wrong, given}
use Rattle.edit_rules.specs.edit_meaning.ListItems.{Value, IntValue, LogicalValue, TextValue, Kept, Takes, begun_with_value, item_over}
use Rattle.edit_rules.specs.declared.list_reader.ListItem.TheVariants as item
use Rattle.edit_rules.specs.declared.list_reader.ListItem.{ListItem}
use Rattle.edit_rules.specs.declared.list_reader.ListReader.{ListReader}
use Rattle.edit_rules.specs.Reader.{place_in, KeepsPlace}
use Rattle.f2c_outside.specs.Table.{Row, Offers, Connects, Closed}
use Rattle.f2c_outside.specs.Finishing.{OnDevice}
use Rattle.f2c_outside.specs.Meaning.{units_of}
use Rattle.unit_answers.specs.Failing.{Quiet, NoneFailed, faults_in}
use Rattle.listed_output.specs.Writing.{StaysAt, StayedOn}
use Rattle.listed_output.proofs.RowLaws.{stays-quietly, stays-fails}
use Rattle.listed_input.specs.declared.ends.ItemEnd.{ItemEnd}
use Rattle.listed_input.specs.declared.ends.ItemEnd.TheVariants as ends
use Rattle.listed_input.specs.declared.ends.ItemRead.{ItemRead}
use Rattle.listed_input.specs.declared.ends.ItemRead.TheVariants as reads
use Rattle.listed_input.specs.declared.ends.Step.{Step}
use Rattle.listed_input.specs.declared.ends.Step.TheVariants as steps
use Rattle.listed_input.specs.declared.kinds.Item as items
use Rattle.listed_input.specs.declared.reading.RecordInReading.{RecordInReading}
use Rattle.listed_input.specs.Reading.{line_of, place_of, Gives, ReadsNext, ReadsItem}
use Rattle.listed_input.specs.Fetching.{position_of}
use Rattle.listed_input.specs.Steps.{StepsNumber, StepsPiece, StepsLast, StepsText, StepsRecord}
use Rattle.listed_input.specs.Searching.{Search, kind_in, one_more, Seeking, Steps, GoesAnywhere}
use Rattle.listed_input.proofs.ItemLaws.{IsOfText, GoesInside, goes-inside, outside-by, inside-item, begun-twice}
use Rattle.listed_input.proofs.SeekLaws.{length-short, item-given, place-behind, piece_of, seeking-starts, seeking-piece, seeking-record}
use Rattle.listed_input.proofs.TakeLaws.{IsAt, takes-on, takes-faulty, fresh-objects, slash-on, wrong-ends, records-end, text-faulty}

-- ## The rows

quiet-then : (unit : ℤ) (x y z : Row) → OnDevice (StaysAt unit) x y → Quiet x y → Quiet y z → Quiet x z
quiet-then unit (Offers name device) y z stays first second = subst (λ (row : Row). Quiet row z) stays second
quiet-then unit Closed y z stays first second = subst (λ (row : Row). Quiet row z) stays second
quiet-then unit (Connects own device m blanks) y z stays first second =
    let same : stays.device'.faults ≡ device.faults = subst (λ (row : Row). Quiet (Connects own device m blanks) row) stays.is first in
    subst (λ (count : ℕ). IfSome (faults_in z) (λ now. now ≡ count)) same (subst (λ (row : Row). Quiet row z) stays.is second)

-- no device failed, and then none did
pub stays-quiet : (unit : ℤ) (x y z : List Row) → StayedOn unit x y → NoneFailed y z → NoneFailed x z
stays-quiet unit [] y z first second = subst (λ (rows : List Row). NoneFailed rows z) first second
stays-quiet unit (row ∷ rest) [] z first second = absurd first
stays-quiet unit (row ∷ rest) (row' ∷ rest') [] first second = absurd second
stays-quiet unit (row ∷ rest) (row' ∷ rest') (row'' ∷ rest'') first second = (
  quiet-then unit row row' row'' first.0 (stays-quietly unit (row ∷ rest) (row' ∷ rest') first).0 second.0,
  stays-quiet unit rest rest' rest'' first.1 second.1,
)

-- ## What is given

is-at : (from : Search) (transfer : Transfer) → transfer.medium ≡ media.Unit from.unit → transfer.place ≡ from.place → transfer.slashed ≡ false → IsAt from transfer
is-at from transfer medium place slashed = record { medium = medium; place = place; slashed = slashed }

-- a text is not begun where something else is given
pub fresh-by : (from : Search) (before : RecordInReading) (objects : List Object) (rows : List Row) (done : ℕ) (g : Given) → (seeking : Seeking from before objects rows done) →
    g ≡ given (place_of before) (kind_in from) → (IsOfText g → ⊥) → seeking.text ≡ []
fresh-by from before objects rows done g seeking is none = seeking.fresh (outside-by (place_of before) (kind_in from) g is none)

-- a number is stored
number-step : (from : Search) (before reading : RecordInReading) (objects objects' : List Object) (rows : List Row) (done : ℕ) (number : ℤ) (value : Value) (result : Result Step ItemEnd) →
    (seeking : Seeking from before objects rows done) → seeking.text ≡ [] →
    ((later : List (List ℕ)) → item_over (place_of before) later (kind_in from) ≡ Takes value (place_of reading) later) →
    ((all : List Object) → value_taken all from.item.pointer from.item.size (begun_with_value seeking.text value)
    ≡ stored all (record { at = from.item.pointer; access = ToNumber }) (values.Number number)) →
    StepsNumber from.item number objects objects' result → Steps from reading objects' rows result
number-step from before reading objects objects' rows done number value (Ok (steps.Read reads.Given)) seeking none is means stores = record {
  tells = seeking.tells;
  replies = λ tells transfer stale medium place slashed.
      takes-on from before objects objects' rows done transfer stale value (place_of reading) seeking tells (is-at from transfer medium place slashed) is
      (ap (λ (all : List Object). value_taken all from.item.pointer from.item.size (begun_with_value seeking.text value)) (fresh-objects from before objects rows done seeking none)
      ∙ means objects ∙ stores);
  devices = seeking.stays;
  uncounted = tt;
}
number-step from before reading objects objects' rows done number value (Ok (steps.Read reads.Slashed)) seeking none is means stores = absurd stores
number-step from before reading objects objects' rows done number value (Ok (steps.GoesOn other)) seeking none is means stores = absurd stores
number-step from before reading objects objects' rows done number value (Err (ends.Fault fault)) seeking none is means stores = record {
  tells = seeking.tells;
  replies = λ tells transfer stale medium place slashed.
      takes-faulty from before objects rows done transfer stale value (place_of reading) fault seeking tells is
      (ap (λ (all : List Object). value_taken all from.item.pointer from.item.size (begun_with_value seeking.text value)) (fresh-objects from before objects rows done seeking none)
      ∙ means objects ∙ stores);
  devices = seeking.stays;
  uncounted = tt;
}
number-step from before reading objects objects' rows done number value (Err (ends.Number other)) seeking none is means stores = absurd stores
number-step from before reading objects objects' rows done number value (Err ends.Device) seeking none is means stores = absurd stores
number-step from before reading objects objects' rows done number value (Err ends.Uncounted) seeking none is means stores = absurd stores

pub int-step : (from : Search) (before reading : RecordInReading) (objects objects' : List Object) (rows : List Row) (done : ℕ) (number : ℤ) (result : Result Step ItemEnd) →
    Gives (kind_in from) before reading (item.Int number) → Seeking from before objects rows done → StepsNumber from.item number objects objects' result → Steps from reading objects' rows result
int-step from before reading objects objects' rows done number result gives seeking stores =
    let is : Number number (place_of reading) ≡ given (place_of before) (kind_in from) = ap (Number number) (sym (place-behind before reading gives.same)) ∙ gives.given_is in
    number-step from before reading objects objects' rows done number (IntValue number) result seeking
    (fresh-by from before objects rows done (Number number (place_of reading)) seeking is (λ wrong. wrong))
    (item-given (place_of before) (kind_in from) (Number number (place_of reading)) is) (λ all. refl) stores

pub truth-step : (from : Search) (before reading : RecordInReading) (objects objects' : List Object) (rows : List Row) (done : ℕ) (truth : Bool) (number : ℤ) (result : Result Step ItemEnd) →
    (if truth then pos 1 else pos 0) ≡ number →
    Gives (kind_in from) before reading (item.Logical truth) → Seeking from before objects rows done → StepsNumber from.item number objects objects' result → Steps from reading objects' rows result
truth-step from before reading objects objects' rows done truth number result same gives seeking stores =
    let is : Truth truth (place_of reading) ≡ given (place_of before) (kind_in from) = ap (Truth truth) (sym (place-behind before reading gives.same)) ∙ gives.given_is in
    number-step from before reading objects objects' rows done number (LogicalValue truth) result seeking
    (fresh-by from before objects rows done (Truth truth (place_of reading)) seeking is (λ wrong. wrong))
    (item-given (place_of before) (kind_in from) (Truth truth (place_of reading)) is)
    (λ all. ap (λ (one : ℤ). stored all (record { at = from.item.pointer; access = ToNumber }) (values.Number one)) same) stores

pub null-step : (from : Search) (before reading : RecordInReading) (objects : List Object) (rows : List Row) (done : ℕ) →
    Gives (kind_in from) before reading item.Null → Seeking from before objects rows done → Steps from reading objects rows (Ok (steps.Read reads.Given))
null-step from before reading objects rows done gives seeking =
    let is : Null (place_of reading) ≡ given (place_of before) (kind_in from) = ap Null (sym (place-behind before reading gives.same)) ∙ gives.given_is in
    let none : seeking.text ≡ [] = fresh-by from before objects rows done (Null (place_of reading)) seeking is (λ wrong. wrong) in
    record {
      tells = seeking.tells;
      replies = λ tells transfer stale medium place slashed.
          takes-on from before objects objects rows done transfer stale Kept (place_of reading) seeking tells (is-at from transfer medium place slashed)
          (item-given (place_of before) (kind_in from) (Null (place_of reading)) is) (ap Ok (fresh-objects from before objects rows done seeking none));
      devices = seeking.stays;
      uncounted = tt;
    }

pub slash-step : (from : Search) (before reading : RecordInReading) (objects : List Object) (rows : List Row) (done : ℕ) →
    Gives (kind_in from) before reading item.Slash → Seeking from before objects rows done → Steps from reading objects rows (Ok (steps.Read reads.Slashed))
slash-step from before reading objects rows done gives seeking =
    let none : seeking.text ≡ [] = fresh-by from before objects rows done Slash seeking gives.given_is (λ wrong. wrong) in
    record {
      tells = seeking.tells;
      replies = λ tells transfer stale medium place slashed.
          slash-on from before objects rows done transfer stale (place_of reading) seeking tells (is-at from transfer medium place slashed) none
          (item-given (place_of before) (kind_in from) Slash gives.given_is);
      devices = seeking.stays;
      uncounted = tt;
    }

pub bad-step : (from : Search) (before reading : RecordInReading) (objects : List Object) (rows : List Row) (done number : ℕ) →
    Gives (kind_in from) before reading (item.Bad number) → Seeking from before objects rows done → Steps from reading objects rows (Err (ends.Number (pos number)))
bad-step from before reading objects rows done number gives seeking = record {
  tells = seeking.tells;
  replies = λ tells transfer stale medium place slashed.
      wrong-ends from before objects rows done number transfer stale seeking tells (is-at from transfer medium place slashed)
      (item-given (place_of before) (kind_in from) (Wrong number) gives.given_is);
  devices = stays-quietly from.unit from.rows rows seeking.stays;
  uncounted = tt;
}

-- ## A text

piece-step : (from : Search) (before reading : RecordInReading) (objects objects' : List Object) (rows : List Row) (done start end : ℕ) (result : Result Step ItemEnd) →
    Gives (kind_in from) before reading (item.Text start end true) → Seeking from before objects rows done →
    StepsPiece from.item done (piece_of (line_of before) start end) objects objects' result → Steps from reading objects' rows result
piece-step from before reading objects objects' rows done start end (Ok (steps.Read read)) gives seeking puts = absurd puts
piece-step from before reading objects objects' rows done start end (Ok (steps.GoesOn done')) gives seeking puts =
    seeking-piece from before reading objects objects' rows done done' start end gives puts seeking
piece-step from before reading objects objects' rows done start end (Err (ends.Fault fault)) gives seeking puts =
    let piece : List ℕ = piece_of (line_of before) start end in
    let is : Piece piece true (place_of reading) ≡ given (place_of before) (kind_in from) = ap (Piece piece true) (sym (place-behind before reading gives.same)) ∙ gives.given_is in
    let goes : GoesInside (Piece piece true (place_of reading)) = subst GoesInside (sym is) (goes-inside (place_of before) (kind_in from)) in
    record {
      tells = seeking.tells;
      replies = λ tells transfer stale medium place slashed.
          text-faulty from before objects rows done transfer stale piece fault seeking tells (λ later. item_over (place_of reading) later (kind_in from))
          (item-given (place_of before) (kind_in from) (Piece piece true (place_of reading)) is)
          (λ later. inside-item piece (place_of reading) later (kind_in from) goes) begun-twice
          (λ more. puts from.objects seeking.text more seeking.written);
      devices = seeking.stays;
      uncounted = tt;
    }
piece-step from before reading objects objects' rows done start end (Err (ends.Number number)) gives seeking puts = absurd puts
piece-step from before reading objects objects' rows done start end (Err ends.Device) gives seeking puts = absurd puts
piece-step from before reading objects objects' rows done start end (Err ends.Uncounted) gives seeking puts = absurd puts

last-step : (from : Search) (before reading : RecordInReading) (objects objects' : List Object) (rows : List Row) (done start end : ℕ) (result : Result Step ItemEnd) →
    Gives (kind_in from) before reading (item.Text start end false) → Seeking from before objects rows done →
    StepsLast from.item done (piece_of (line_of before) start end) objects objects' result → Steps from reading objects' rows result
last-step from before reading objects objects' rows done start end (Ok (steps.Read reads.Given)) gives seeking puts =
    let piece : List ℕ = piece_of (line_of before) start end in
    let is : Piece piece false (place_of reading) ≡ given (place_of before) (kind_in from) = ap (Piece piece false) (sym (place-behind before reading gives.same)) ∙ gives.given_is in
    record {
      tells = seeking.tells;
      replies = λ tells transfer stale medium place slashed.
          takes-on from before objects objects' rows done transfer stale (TextValue piece) (place_of reading) seeking tells (is-at from transfer medium place slashed)
          (item-given (place_of before) (kind_in from) (Piece piece false (place_of reading)) is) (puts from.objects seeking.text seeking.written);
      devices = seeking.stays;
      uncounted = tt;
    }
last-step from before reading objects objects' rows done start end (Ok (steps.Read reads.Slashed)) gives seeking puts = absurd puts
last-step from before reading objects objects' rows done start end (Ok (steps.GoesOn done')) gives seeking puts = absurd puts
last-step from before reading objects objects' rows done start end (Err (ends.Fault fault)) gives seeking puts =
    let piece : List ℕ = piece_of (line_of before) start end in
    let is : Piece piece false (place_of reading) ≡ given (place_of before) (kind_in from) = ap (Piece piece false) (sym (place-behind before reading gives.same)) ∙ gives.given_is in
    record {
      tells = seeking.tells;
      replies = λ tells transfer stale medium place slashed.
          takes-faulty from before objects rows done transfer stale (TextValue piece) (place_of reading) fault seeking tells
          (item-given (place_of before) (kind_in from) (Piece piece false (place_of reading)) is) (puts from.objects seeking.text seeking.written);
      devices = seeking.stays;
      uncounted = tt;
    }
last-step from before reading objects objects' rows done start end (Err (ends.Number number)) gives seeking puts = absurd puts
last-step from before reading objects objects' rows done start end (Err ends.Device) gives seeking puts = absurd puts
last-step from before reading objects objects' rows done start end (Err ends.Uncounted) gives seeking puts = absurd puts

pub text-step : (from : Search) (before reading : RecordInReading) (objects objects' : List Object) (rows : List Row) (done start end : ℕ) (more : Bool) (line : List ℕ) (result : Result Step ItemEnd) →
    line ≡ line_of reading → Gives (kind_in from) before reading (item.Text start end more) → Seeking from before objects rows done →
    StepsText more from.item done (piece_of line start end) objects objects' result → Steps from reading objects' rows result
text-step from before reading objects objects' rows done start end true line result same gives seeking puts =
    piece-step from before reading objects objects' rows done start end result gives seeking
    (subst (λ (one : List ℕ). StepsPiece from.item done (piece_of one start end) objects objects' result) (same ∙ gives.same) puts)
text-step from before reading objects objects' rows done start end false line result same gives seeking puts =
    last-step from before reading objects objects' rows done start end result gives seeking
    (subst (λ (one : List ℕ). StepsLast from.item done (piece_of one start end) objects objects' result) (same ∙ gives.same) puts)

-- ## The next record

pub record-step : (from : Search) (before between reading : RecordInReading) (objects : List Object) (rows rows' : List Row) (done : ℕ) (result : Result Step ItemEnd) →
    Gives (kind_in from) before between item.NeedLine → Seeking from before objects rows done →
    StepsRecord from.unit done between reading rows rows' result → Steps from reading objects rows' result
record-step from before between reading objects rows rows' done (Ok (steps.Read read)) gives seeking reads = absurd reads
record-step from before between reading objects rows rows' done (Ok (steps.GoesOn done')) gives seeking reads =
    subst (λ (n : ℕ). Seeking (one_more from) reading objects rows' n) (sym reads.0) (seeking-record from before between reading objects rows rows' done gives reads.1 seeking)
record-step from before between reading objects rows rows' done (Err (ends.Fault fault)) gives seeking reads = absurd (reads.devices)
record-step from before between reading objects rows rows' done (Err (ends.Number number)) gives seeking reads = record {
  tells = λ tells. reads.tells (seeking.tells tells);
  replies = λ tells transfer stale medium place slashed.
      records-end from before objects rows done number (units_of rows') transfer stale seeking tells (is-at from transfer medium place slashed)
      (item-given (place_of before) (kind_in from) (NeedRecord (place_in [] between.reader)) gives.given_is [])
      (reads.means (seeking.tells tells)).0 (reads.means (seeking.tells tells)).1;
  devices = stays-quiet from.unit from.rows rows rows' seeking.stays reads.devices;
  uncounted = tt;
}
record-step from before between reading objects rows rows' done (Err ends.Device) gives seeking reads = record {
  tells = λ tells. reads.tells (seeking.tells tells);
  replies = λ tells transfer stale medium place slashed. tt;
  devices = stays-fails from.unit from.rows rows rows' seeking.stays reads.devices;
  uncounted = tt;
}
record-step from before between reading objects rows rows' done (Err ends.Uncounted) gives seeking reads = absurd (reads.devices)

-- ## Around the steps

pub goes-anywhere : (item : ListItem) (old new : ListReader) → KeepsPlace item old new → GoesAnywhere item new
goes-anywhere item.NeedLine old new keeps = keeps
goes-anywhere item.Slash old new keeps = tt
goes-anywhere item.Null old new keeps = tt
goes-anywhere (item.Bad number) old new keeps = tt
goes-anywhere (item.Int number) old new keeps = tt
goes-anywhere (item.Logical truth) old new keeps = tt
goes-anywhere (item.Text start end more) old new keeps = tt

pub done-within : (from : Search) (reading : RecordInReading) (objects : List Object) (rows : List Row) (done : ℕ) → Seeking from reading objects rows done → done ≤ from.item.size
done-within from reading objects rows done seeking = omega (arith, seeking.written.done_is, length-short from.item.size seeking.text)

search-uncounted : (from : Search) (reading : RecordInReading) (objects : List Object) (rows : List Row) (done : ℕ) → 18446744073709551615 ≤ from.steps →
    Seeking from reading objects rows done →
    ReadsItem from.unit from.item from.place (place_of reading) from.objects objects from.rows rows (Err ends.Uncounted)
search-uncounted from reading objects rows done many seeking = record {
  tells = seeking.tells;
  replies = λ tells transfer stale medium place slashed. tt;
  devices = stays-quietly from.unit from.rows rows seeking.stays;
  uncounted = let deep : 2 ^ 53 ≤ position_of from.unit (units_of rows) = omega (arith, many, seeking.counted, seeking.deep) in deep;
}

-- ## The steps as the code has them

pub at-int : (from : Search) (before reading : RecordInReading) (objects objects' : List Object) (rows : List Row) (done : ℕ) (mine : items.Item) (is : ListItem) (number said : ℤ)
    (result : Result Step ItemEnd) → from.item ≡ mine → is ≡ item.Int number → said ≡ number →
    Gives (kind_in from) before reading is → Seeking from before objects rows done → StepsNumber mine said objects objects' result → Steps from reading objects' rows result
at-int from before reading objects objects' rows done mine is number said result same found right gives seeking stores =
    int-step from before reading objects objects' rows done number result (subst (λ (one : ListItem). Gives (kind_in from) before reading one) found gives) seeking
    (subst (λ (one : items.Item). StepsNumber one number objects objects' result) (sym same) (subst (λ (n : ℤ). StepsNumber mine n objects objects' result) right stores))

pub at-truth : (from : Search) (before reading : RecordInReading) (objects objects' : List Object) (rows : List Row) (done : ℕ) (mine : items.Item) (is : ListItem) (truth : Bool) (said : ℤ)
    (result : Result Step ItemEnd) → from.item ≡ mine → is ≡ item.Logical truth → said ≡ (if truth then pos 1 else pos 0) →
    Gives (kind_in from) before reading is → Seeking from before objects rows done → StepsNumber mine said objects objects' result → Steps from reading objects' rows result
at-truth from before reading objects objects' rows done mine is truth said result same found right gives seeking stores =
    truth-step from before reading objects objects' rows done truth said result (sym right) (subst (λ (one : ListItem). Gives (kind_in from) before reading one) found gives) seeking
    (subst (λ (one : items.Item). StepsNumber one said objects objects' result) (sym same) stores)

pub at-text : (from : Search) (before reading : RecordInReading) (objects objects' : List Object) (rows : List Row) (done : ℕ) (mine : items.Item) (is : ListItem) (start end : ℕ) (more : Bool)
    (result : Result Step ItemEnd) → from.item ≡ mine → is ≡ item.Text start end more →
    Gives (kind_in from) before reading is → Seeking from before objects rows done →
    StepsText more mine done (piece_of (line_of reading) start end) objects objects' result → Steps from reading objects' rows result
at-text from before reading objects objects' rows done mine is start end more result same found gives seeking puts =
    text-step from before reading objects objects' rows done start end more (line_of reading) result refl
    (subst (λ (one : ListItem). Gives (kind_in from) before reading one) found gives) seeking
    (subst (λ (one : items.Item). StepsText more one done (piece_of (line_of reading) start end) objects objects' result) (sym same) puts)

pub at-null : (from : Search) (before reading : RecordInReading) (objects : List Object) (rows : List Row) (done : ℕ) (is : ListItem) → is ≡ item.Null →
    Gives (kind_in from) before reading is → Seeking from before objects rows done → Steps from reading objects rows (Ok (steps.Read reads.Given))
at-null from before reading objects rows done is found gives seeking =
    null-step from before reading objects rows done (subst (λ (one : ListItem). Gives (kind_in from) before reading one) found gives) seeking

pub at-slash : (from : Search) (before reading : RecordInReading) (objects : List Object) (rows : List Row) (done : ℕ) (is : ListItem) → is ≡ item.Slash →
    Gives (kind_in from) before reading is → Seeking from before objects rows done → Steps from reading objects rows (Ok (steps.Read reads.Slashed))
at-slash from before reading objects rows done is found gives seeking =
    slash-step from before reading objects rows done (subst (λ (one : ListItem). Gives (kind_in from) before reading one) found gives) seeking

pub at-bad : (from : Search) (before reading : RecordInReading) (objects : List Object) (rows : List Row) (done : ℕ) (is : ListItem) (number : ℕ) (said : ℤ) → is ≡ item.Bad number →
    said ≡ pos number → Gives (kind_in from) before reading is → Seeking from before objects rows done → Steps from reading objects rows (Err (ends.Number said))
at-bad from before reading objects rows done is number said found right gives seeking =
    subst (λ (n : ℤ). Steps from reading objects rows (Err (ends.Number n))) (sym right)
    (bad-step from before reading objects rows done number (subst (λ (one : ListItem). Gives (kind_in from) before reading one) found gives) seeking)

pub at-line : (from : Search) (before between reading : RecordInReading) (objects : List Object) (rows rows' : List Row) (done : ℕ) (is : ListItem) (unit own : ℤ) (result : Result Step ItemEnd) →
    from.unit ≡ unit → own ≡ unit → is ≡ item.NeedLine → Gives (kind_in from) before between is → Seeking from before objects rows done →
    StepsRecord own done between reading rows rows' result → Steps from reading objects rows' result
at-line from before between reading objects rows rows' done is unit own result same right found gives seeking reads =
    record-step from before between reading objects rows rows' done result (subst (λ (one : ListItem). Gives (kind_in from) before between one) found gives) seeking
    (subst (λ (n : ℤ). StepsRecord n done between reading rows rows' result) (right ∙ sym same) reads)

pub record-at : (unit own : ℤ) (done : ℕ) (reading reading' : RecordInReading) (old new : List Row) → own ≡ unit → ReadsNext own reading reading' old new (Ok tt) →
    StepsRecord unit done reading reading' old new (Ok (steps.GoesOn done))
record-at unit own done reading reading' old new same reads = (refl, subst (λ (n : ℤ). ReadsNext n reading reading' old new (Ok tt)) same reads)

-- the reader needs a record only where it stands in each
pub anywhere-needed : (is : ListItem) (reader : ListReader) → is ≡ item.NeedLine → GoesAnywhere is reader → GoesAnywhere item.NeedLine reader
anywhere-needed is reader found anywhere = subst (λ (one : ListItem). GoesAnywhere one reader) found anywhere

-- ## The loop

-- where an item begins, as the code has it
abbrev pub search_at : ℤ → items.Item → Place → List Object → List Row → ℕ → Search
search_at unit mine place first before count = record { unit = unit; item = mine; place = place; objects = first; rows = before; steps = count }

stepped : (own : ℤ) (mine : items.Item) (place : Place) (first : List Object) (before : List Row) (count : ℕ) (reading between reading' : RecordInReading) (objects objects' : List Object) (rows rows' : List Row)
    (done : ℕ) (is : ListItem) (kind : Kind) (result last : Result Step ItemEnd) → kind ≡ kind_of (kind_shown mine.kind) → Gives kind reading between is →
    Seeking (search_at own mine place first before count) reading objects rows done →
    ((from : Search) → (before : RecordInReading) → from.unit ≡ own → from.item ≡ mine → Gives (kind_in from) before between is →
    Seeking from before objects rows done → Steps from reading' objects' rows' result) → result ≡ last →
    Steps (search_at own mine place first before count) reading' objects' rows' last
stepped own mine place first before count reading between reading' objects objects' rows rows' done is kind result last same gives seeking steps_to found =
    subst (Steps (search_at own mine place first before count) reading' objects' rows') found
    (steps_to (search_at own mine place first before count) reading refl refl (subst (λ (one : Kind). Gives one reading between is) same gives) seeking)

pub loop-goes : (own : ℤ) (mine : items.Item) (place : Place) (first : List Object) (before : List Row) (count : ℕ) (reading between reading' : RecordInReading) (objects objects' : List Object) (rows rows' : List Row)
    (done done' : ℕ) (is : ListItem) (kind : Kind) (result : Result Step ItemEnd) → kind ≡ kind_of (kind_shown mine.kind) → Gives kind reading between is →
    Seeking (search_at own mine place first before count) reading objects rows done →
    ((from : Search) → (before : RecordInReading) → from.unit ≡ own → from.item ≡ mine → Gives (kind_in from) before between is →
    Seeking from before objects rows done → Steps from reading' objects' rows' result) → result ≡ Ok (steps.GoesOn done') →
    Seeking (search_at own mine place first before (count + 1)) reading' objects' rows' done'
loop-goes own mine place first before count reading between reading' objects objects' rows rows' done done' is kind result same gives seeking steps_to found =
    stepped own mine place first before count reading between reading' objects objects' rows rows' done is kind result (Ok (steps.GoesOn done')) same gives seeking steps_to found

reads-at : (unit own : ℤ) (mine : items.Item) (place place' : Place) (first objects : List Object) (before rows : List Row) (result : Result ItemRead ItemEnd) → own ≡ unit →
    ReadsItem own mine place place' first objects before rows result → ReadsItem unit mine place place' first objects before rows result
reads-at unit own mine place place' first objects before rows result same reads =
    subst (λ (n : ℤ). ReadsItem n mine place place' first objects before rows result) same reads

pub loop-reads : (unit own : ℤ) (mine : items.Item) (place : Place) (first : List Object) (before : List Row) (count : ℕ) (reading between reading' : RecordInReading) (objects objects' : List Object) (rows rows' : List Row)
    (done : ℕ) (is : ListItem) (kind : Kind) (result : Result Step ItemEnd) (read : ItemRead) → own ≡ unit → kind ≡ kind_of (kind_shown mine.kind) → Gives kind reading between is →
    Seeking (search_at own mine place first before count) reading objects rows done →
    ((from : Search) → (before : RecordInReading) → from.unit ≡ own → from.item ≡ mine → Gives (kind_in from) before between is →
    Seeking from before objects rows done → Steps from reading' objects' rows' result) → result ≡ Ok (steps.Read read) →
    ReadsItem unit mine place (place_of reading') first objects' before rows' (Ok read)
loop-reads unit own mine place first before count reading between reading' objects objects' rows rows' done is kind result read at same gives seeking steps_to found =
    reads-at unit own mine place (place_of reading') first objects' before rows' (Ok read) at
    (stepped own mine place first before count reading between reading' objects objects' rows rows' done is kind result (Ok (steps.Read read)) same gives seeking steps_to found)

pub loop-ends : (unit own : ℤ) (mine : items.Item) (place : Place) (first : List Object) (before : List Row) (count : ℕ) (reading between reading' : RecordInReading) (objects objects' : List Object) (rows rows' : List Row)
    (done : ℕ) (is : ListItem) (kind : Kind) (result : Result Step ItemEnd) (end : ItemEnd) → own ≡ unit → kind ≡ kind_of (kind_shown mine.kind) → Gives kind reading between is →
    Seeking (search_at own mine place first before count) reading objects rows done →
    ((from : Search) → (before : RecordInReading) → from.unit ≡ own → from.item ≡ mine → Gives (kind_in from) before between is →
    Seeking from before objects rows done → Steps from reading' objects' rows' result) → result ≡ Err end →
    ReadsItem unit mine place (place_of reading') first objects' before rows' (Err end)
loop-ends unit own mine place first before count reading between reading' objects objects' rows rows' done is kind result end at same gives seeking steps_to found =
    reads-at unit own mine place (place_of reading') first objects' before rows' (Err end) at
    (stepped own mine place first before count reading between reading' objects objects' rows rows' done is kind result (Err end) same gives seeking steps_to found)

pub loop-uncounted : (unit own : ℤ) (mine : items.Item) (place : Place) (first : List Object) (before : List Row) (count : ℕ) (reading : RecordInReading) (objects : List Object) (rows : List Row) (done : ℕ) →
    18446744073709551615 ≤ count → own ≡ unit → Seeking (search_at own mine place first before count) reading objects rows done →
    ReadsItem unit mine place (place_of reading) first objects before rows (Err ends.Uncounted)
loop-uncounted unit own mine place first before count reading objects rows done many at seeking =
    reads-at unit own mine place (place_of reading) first objects before rows (Err ends.Uncounted) at
    (search-uncounted (search_at own mine place first before count) reading objects rows done many seeking)

pub loop-starts : (own : ℤ) (mine : items.Item) (reading : RecordInReading) (objects : List Object) (rows : List Row) →
    Seeking (search_at own mine (place_of reading) objects rows 0) reading objects rows 0
loop-starts own mine reading objects rows = seeking-starts (search_at own mine (place_of reading) objects rows 0) reading refl refl
