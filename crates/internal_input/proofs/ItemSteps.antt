-- The steps of the search for the value of an item, as the code has them.
use Rattle.std.proofs.Common.{◌≡◌, ℕ, ◌≤◌, ℤ, pos, Bool, List, refl, sym, subst, arith}
use Rattle.std.specs.Prelude.{Result, Ok, Err, if◌then◌else◌}
use Rattle.c_tree.specs.declared.outcome.CFault.{CFault}
use Rattle.c_tree.specs.Objects.{Object}
use Rattle.c_tree.specs.World.{InternalFile}
use Rattle.c_tree.specs.TransferInput.{kind_of}
use Rattle.listed_output.specs.Kinds.{kind_shown}
use Rattle.edit_rules.specs.edit_meaning.ListInput.{Kind, Place}
use Rattle.edit_rules.specs.declared.list_reader.ListItem.TheVariants as item
use Rattle.edit_rules.specs.declared.list_reader.ListItem.{ListItem}
use Rattle.internal_records.specs.declared.records.RecordEnd.{RecordEnd}
use Rattle.internal_records.specs.declared.records.RecordEnd.TheVariants as record_ends
use Rattle.internal_input.specs.declared.ends.ItemEnd.{ItemEnd}
use Rattle.internal_input.specs.declared.ends.ItemEnd.TheVariants as ends
use Rattle.internal_input.specs.declared.ends.ItemRead.{ItemRead}
use Rattle.internal_input.specs.declared.ends.ItemRead.TheVariants as reads
use Rattle.internal_input.specs.declared.ends.Step.{Step}
use Rattle.internal_input.specs.declared.ends.Step.TheVariants as steps
use Rattle.listed_input.specs.declared.kinds.Item as items
use Rattle.listed_input.specs.declared.reading.RecordInReading.{RecordInReading}
use Rattle.listed_input.specs.Reading.{line_of, place_of, Gives}
use Rattle.internal_input.specs.Fetching.{ReadsNext}
use Rattle.internal_input.specs.Reading.{ReadsItem}
use Rattle.internal_input.specs.Steps.{StepsNumber, StepsText, StepsBad, StepsRecord, NoFurther, Faulty}
use Rattle.internal_input.specs.Searching.{Search, kind_in, Seeking, GoesFurther, Steps}
use Rattle.listed_input.proofs.SeekLaws.{length-short, piece_of}
use Rattle.internal_input.proofs.SeekLaws.{seeking-starts}
use Rattle.internal_input.proofs.StepLaws.{int-step, truth-step, null-step, slash-step, text-step, bad-step, record-step}

-- ## One step

pub at-int : (from : Search) (before reading : RecordInReading) (file : InternalFile) (old objects : List Object) (buffer : List ℕ) (done : ℕ) (mine : items.Item) (is : ListItem) (number said : ℤ)
    (result : Result Step ItemEnd) → from.item ≡ mine → from.objects ≡ old → is ≡ item.Int number → said ≡ number → Gives (kind_in from) before reading is → Seeking from before file buffer done →
    StepsNumber mine said old objects result → Steps from before file reading objects file buffer result
at-int from before reading file old objects buffer done mine is number said result same at found right gives seeking stores =
    int-step from before reading file objects buffer done number result (subst (Gives (kind_in from) before reading) found gives) seeking
    (subst (λ (one : items.Item). StepsNumber one number from.objects objects result) (sym same)
    (subst (λ (all : List Object). StepsNumber mine number all objects result) (sym at) (subst (λ (n : ℤ). StepsNumber mine n old objects result) right stores)))

pub at-truth : (from : Search) (before reading : RecordInReading) (file : InternalFile) (old objects : List Object) (buffer : List ℕ) (done : ℕ) (mine : items.Item) (is : ListItem) (truth : Bool) (said : ℤ)
    (result : Result Step ItemEnd) → from.item ≡ mine → from.objects ≡ old → is ≡ item.Logical truth → said ≡ (if truth then pos 1 else pos 0) → Gives (kind_in from) before reading is →
    Seeking from before file buffer done → StepsNumber mine said old objects result → Steps from before file reading objects file buffer result
at-truth from before reading file old objects buffer done mine is truth said result same at found right gives seeking stores =
    truth-step from before reading file objects buffer done truth said result (sym right) (subst (Gives (kind_in from) before reading) found gives) seeking
    (subst (λ (one : items.Item). StepsNumber one said from.objects objects result) (sym same) (subst (λ (all : List Object). StepsNumber mine said all objects result) (sym at) stores))

pub at-text : (from : Search) (before reading : RecordInReading) (file : InternalFile) (old objects : List Object) (buffer buffer' : List ℕ) (done : ℕ) (mine : items.Item) (is : ListItem) (start end : ℕ) (more : Bool)
    (result : Result Step ItemEnd) → from.item ≡ mine → from.objects ≡ old → is ≡ item.Text start end more → Gives (kind_in from) before reading is → Seeking from before file buffer done →
    StepsText more mine done (piece_of (line_of reading) start end) buffer buffer' old objects result → Steps from before file reading objects file buffer' result
at-text from before reading file old objects buffer buffer' done mine is start end more result same at found gives seeking puts =
    text-step from before reading file objects buffer buffer' done start end more result (subst (Gives (kind_in from) before reading) found gives) seeking
    (subst (λ (line : List ℕ). StepsText more from.item done (piece_of line start end) buffer buffer' from.objects objects result) gives.same
    (subst (λ (one : items.Item). StepsText more one done (piece_of (line_of reading) start end) buffer buffer' from.objects objects result) (sym same)
    (subst (λ (all : List Object). StepsText more mine done (piece_of (line_of reading) start end) buffer buffer' all objects result) (sym at) puts)))

pub at-null : (from : Search) (before reading : RecordInReading) (file : InternalFile) (old : List Object) (buffer : List ℕ) (done : ℕ) (is : ListItem) → from.objects ≡ old → is ≡ item.Null →
    Gives (kind_in from) before reading is → Seeking from before file buffer done → Steps from before file reading old file buffer (Ok (steps.Read reads.Given))
at-null from before reading file old buffer done is at found gives seeking =
    subst (λ (all : List Object). ReadsItem from.item from.place (place_of reading) from.objects all from.file file (Ok reads.Given)) at
    (null-step from before reading file buffer done (subst (Gives (kind_in from) before reading) found gives) seeking)

pub at-slash : (from : Search) (before reading : RecordInReading) (file : InternalFile) (old : List Object) (buffer : List ℕ) (done : ℕ) (is : ListItem) → from.objects ≡ old → is ≡ item.Slash →
    Gives (kind_in from) before reading is → Seeking from before file buffer done → Steps from before file reading old file buffer (Ok (steps.Read reads.Slashed))
at-slash from before reading file old buffer done is at found gives seeking =
    subst (λ (all : List Object). ReadsItem from.item from.place (place_of reading) from.objects all from.file file (Ok reads.Slashed)) at
    (slash-step from before reading file buffer done (subst (Gives (kind_in from) before reading) found gives) seeking)

pub at-bad : (from : Search) (before reading : RecordInReading) (file : InternalFile) (old objects : List Object) (buffer : List ℕ) (done : ℕ) (mine : items.Item) (is : ListItem) (number : ℕ) (said : ℤ)
    (result : Result Step ItemEnd) → from.item ≡ mine → from.objects ≡ old → is ≡ item.Bad number → said ≡ pos number → Gives (kind_in from) before reading is → Seeking from before file buffer done →
    StepsBad mine done said buffer old objects result → Steps from before file reading objects file buffer result
at-bad from before reading file old objects buffer done mine is number said result same at found right gives seeking stores =
    bad-step from before reading file objects buffer done number result (subst (Gives (kind_in from) before reading) found gives) seeking
    (subst (λ (one : items.Item). StepsBad one done (pos number) buffer from.objects objects result) (sym same)
    (subst (λ (all : List Object). StepsBad mine done (pos number) buffer all objects result) (sym at) (subst (λ (n : ℤ). StepsBad mine done n buffer old objects result) right stores)))

pub at-line : (from : Search) (before between reading : RecordInReading) (file file' : InternalFile) (old objects : List Object) (buffer : List ℕ) (done : ℕ) (mine : items.Item) (is : ListItem)
    (result : Result Step ItemEnd) → from.item ≡ mine → from.objects ≡ old → is ≡ item.NeedLine → Gives (kind_in from) before between is → Seeking from before file buffer done →
    StepsRecord mine done buffer between reading old objects file file' result → Steps from before file reading objects file' buffer result
at-line from before between reading file file' old objects buffer done mine is result same at found gives seeking next =
    record-step from before between reading file file' objects buffer done result (subst (Gives (kind_in from) before between) found gives) seeking
    (subst (λ (one : items.Item). StepsRecord one done buffer between reading from.objects objects file file' result) (sym same)
    (subst (λ (all : List Object). StepsRecord mine done buffer between reading all objects file file' result) (sym at) next))

pub none-further : (mine : items.Item) (done : ℕ) (buffer : List ℕ) (reading reading' : RecordInReading) (old new : List Object) (file file' : InternalFile) (number said : ℤ) →
    (found : Result (Unit {0}) RecordEnd) (result : Result Step ItemEnd) → found ≡ Err (record_ends.Number number) → said ≡ number → ReadsNext old reading reading' file file' found →
    StepsBad mine done said buffer old new result → StepsRecord mine done buffer reading reading' old new file file' result
none-further mine done buffer reading reading' old new file file' number said found result is right next stores =
    NoFurther number (subst (ReadsNext old reading reading' file file') is next) (subst (λ (n : ℤ). StepsBad mine done n buffer old new result) right stores)

pub faulty-record : (mine : items.Item) (done : ℕ) (buffer : List ℕ) (reading reading' : RecordInReading) (old new : List Object) (file file' : InternalFile) (fault : CFault) →
    (found : Result (Unit {0}) RecordEnd) → found ≡ Err (record_ends.Fault fault) → ReadsNext old reading reading' file file' found →
    StepsRecord mine done buffer reading reading' old new file file' (Err (ends.Fault fault))
faulty-record mine done buffer reading reading' old new file file' fault found is next = Faulty fault refl (subst (ReadsNext old reading reading' file file') is next)

-- ## The loop

pub done-within : (from : Search) (reading : RecordInReading) (file : InternalFile) (buffer : List ℕ) (done : ℕ) → Seeking from reading file buffer done → done ≤ from.item.size
done-within from reading file buffer done seeking = omega (arith, seeking.gathered.done_is, length-short from.item.size seeking.text)

-- where an item begins, as the code has it
abbrev pub search_at : items.Item → Place → List Object → InternalFile → Search
search_at mine place first file = record { item = mine; place = place; objects = first; file = file }

-- what a step does, as the code has it
abbrev pub StepsAs : items.Item → List Object → ListItem → RecordInReading → InternalFile → List ℕ → ℕ → RecordInReading → List Object → InternalFile → List ℕ → Result Step ItemEnd → Type 0
StepsAs mine old is between file buffer done reading objects file' buffer' result =
    (from : Search) → (before : RecordInReading) → from.item ≡ mine → from.objects ≡ old → Gives (kind_in from) before between is → Seeking from before file buffer done →
    Steps from before file reading objects file' buffer' result

stepped : (mine : items.Item) (place : Place) (first old : List Object) (start : InternalFile) (before between reading : RecordInReading) (objects : List Object) (file file' : InternalFile) (buffer buffer' : List ℕ)
    (done : ℕ) (is : ListItem) (kind : Kind) (result last : Result Step ItemEnd) → old ≡ first → kind ≡ kind_of (kind_shown mine.kind) → Gives kind before between is →
    Seeking (search_at mine place first start) before file buffer done → StepsAs mine old is between file buffer done reading objects file' buffer' result → result ≡ last →
    Steps (search_at mine place first start) before file reading objects file' buffer' last
stepped mine place first old start before between reading objects file file' buffer buffer' done is kind result last unchanged same gives seeking steps_to found =
    subst (Steps (search_at mine place first start) before file reading objects file' buffer') found
    (steps_to (search_at mine place first start) before refl (sym unchanged) (subst (λ (one : Kind). Gives one before between is) same gives) seeking)

pub loop-goes : (mine : items.Item) (place : Place) (first old : List Object) (start : InternalFile) (before between reading : RecordInReading) (objects : List Object) (file file' : InternalFile) (buffer buffer' : List ℕ)
    (done done' : ℕ) (is : ListItem) (kind : Kind) (result : Result Step ItemEnd) → old ≡ first → kind ≡ kind_of (kind_shown mine.kind) → Gives kind before between is →
    Seeking (search_at mine place first start) before file buffer done → StepsAs mine old is between file buffer done reading objects file' buffer' result → result ≡ Ok (steps.GoesOn done') →
    GoesFurther (search_at mine place first start) before file reading objects file' buffer' done'
loop-goes mine place first old start before between reading objects file file' buffer buffer' done done' is kind result unchanged same gives seeking steps_to found =
    stepped mine place first old start before between reading objects file file' buffer buffer' done is kind result (Ok (steps.GoesOn done')) unchanged same gives seeking steps_to found

pub loop-reads : (mine : items.Item) (place : Place) (first old : List Object) (start : InternalFile) (before between reading : RecordInReading) (objects : List Object) (file file' : InternalFile) (buffer buffer' : List ℕ)
    (done : ℕ) (is : ListItem) (kind : Kind) (result : Result Step ItemEnd) (read : ItemRead) → old ≡ first → kind ≡ kind_of (kind_shown mine.kind) → Gives kind before between is →
    Seeking (search_at mine place first start) before file buffer done → StepsAs mine old is between file buffer done reading objects file' buffer' result → result ≡ Ok (steps.Read read) →
    ReadsItem mine place (place_of reading) first objects start file' (Ok read)
loop-reads mine place first old start before between reading objects file file' buffer buffer' done is kind result read unchanged same gives seeking steps_to found =
    stepped mine place first old start before between reading objects file file' buffer buffer' done is kind result (Ok (steps.Read read)) unchanged same gives seeking steps_to found

pub loop-ends : (mine : items.Item) (place : Place) (first old : List Object) (start : InternalFile) (before between reading : RecordInReading) (objects : List Object) (file file' : InternalFile) (buffer buffer' : List ℕ)
    (done : ℕ) (is : ListItem) (kind : Kind) (result : Result Step ItemEnd) (end : ItemEnd) → old ≡ first → kind ≡ kind_of (kind_shown mine.kind) → Gives kind before between is →
    Seeking (search_at mine place first start) before file buffer done → StepsAs mine old is between file buffer done reading objects file' buffer' result → result ≡ Err end →
    ReadsItem mine place (place_of reading) first objects start file' (Err end)
loop-ends mine place first old start before between reading objects file file' buffer buffer' done is kind result end unchanged same gives seeking steps_to found =
    stepped mine place first old start before between reading objects file file' buffer buffer' done is kind result (Err end) unchanged same gives seeking steps_to found

pub loop-starts : (mine : items.Item) (reading : RecordInReading) (objects : List Object) (file : InternalFile) (buffer : List ℕ) →
    Seeking (search_at mine (place_of reading) objects file) reading file buffer 0
loop-starts mine reading objects file buffer = seeking-starts (search_at mine (place_of reading) objects file) reading buffer refl
