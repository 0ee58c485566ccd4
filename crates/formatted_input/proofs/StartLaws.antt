-- What the start of a formatted input replies.
use Rattle.std.proofs.Common.{◌≡◌, ℕ, ℤ, pos, Bool, true, false, List, [], ◌∷◌, take, Option, Some, None, refl, ap, sym, ◌∙◌, subst}
use Rattle.std.specs.Prelude.{Result, Ok, Err, codes, if◌then◌else◌}
use Rattle.std.specs.Ordering.{int_eq}
use Rattle.c_tree.specs.run_state.Units.{Units, is_connected, reads_zero_blanks}
use Rattle.c_tree.specs.declared.outcome.CValue.{CValue}
use Rattle.c_tree.specs.declared.outcome.CFault.{CFault}
use Rattle.c_tree.specs.declared.types.ListType.TheVariants as list_type
use Rattle.c_tree.specs.Faults.{Or, failing}
use Rattle.c_tree.specs.Objects.{Object}
use Rattle.c_tree.specs.World.{Input, Formatted, Transfer, Reply, Gives, Stops, Io}
use Rattle.c_tree.specs.World as media
use Rattle.c_tree.specs.FormatsGiven.{format_at}
use Rattle.c_tree.specs.Transfers.{Upcoming, asked, numbered, unit_control, format_field, new_transfer, nothing_but, read_on}
use Rattle.c_tree.specs.TransferStarts.{starts, first_read}
use Rattle.c_tree.specs.Builtins.{Begin}
use Rattle.c_tree.specs.Library.{library}
use Rattle.edit_rules.specs.edit_meaning.Formats.{Format, pass, reverted}
use Rattle.edit_rules.specs.edit_meaning.FormatGrammar.{SpellsFormat}
use Rattle.edit_rules.specs.edit_meaning.TakenRecords.{input_start}
use Rattle.edit_rules.specs.Walks as walks
use Rattle.f2c_outside.specs.Table.{Row}
use Rattle.f2c_outside.specs.Meaning.{Tells, units_of}
use Rattle.control_lists.specs.declared.controls.UnitControl.{UnitControl}
use Rattle.control_lists.specs.Controls.{unit_shown}
use Rattle.unit_answers.specs.declared.ends.CallEnd.{CallEnd}
use Rattle.unit_answers.specs.declared.ends.CallEnd.TheVariants.{Fault, Ended, Device}
use Rattle.unit_answers.specs.Failing.{NoneFailed}
use Rattle.unit_answers.specs.Answers.{world_with, numbered_answer}
use Rattle.unit_answers.proofs.OrLemmas.{known, faulty}
use Rattle.unit_answers.proofs.FailureLaws.{none-failed}
use Rattle.listed_output.proofs.RowLaws.{stays-quietly}
use Rattle.listed_input.specs.declared.records.NextRecord.TheVariants.{Record, Nothing, Failed}
use Rattle.listed_input.specs.Fetching.{coming, before_others, Fetches}
use Rattle.listed_input.specs.Transferring.{NamesUnit}
use Rattle.listed_input.proofs.CallLaws.{SameControl, names-unit}
use Rattle.taken_records.specs.Records.{Begins}
use Rattle.formatted_output.specs.Fronts.{ReadsFormat}
use Rattle.formatted_input.specs.declared.calls.FormattedInput.{FormattedInput}
use Rattle.formatted_input.specs.declared.calls.Start.{Start}
use Rattle.formatted_input.specs.declared.calls.Start.TheVariants as start
use Rattle.formatted_input.specs.Transferring.{formatted_kind, StandsFor, StartReplies, StartDevice, BeginsIn, AnswersBegin, AnswersStart, first_under, AnswersReading, under, AnswersUnder, start_of}

-- ## A number that a start answers

by-number : (meaning : Units → Or Reply) (Own : ℤ → Type 0) (objects : List Object) (old new : List Row) (text : List ℕ) (number on_error on_end : ℤ) → (Tells old → Tells new) → NoneFailed old new →
    (Tells old → meaning (units_of old) ≡ Ok (numbered number on_error on_end (world_with objects None (units_of new)))) →
    AnswersBegin meaning Own objects old new text (start_of (numbered_answer number on_error on_end))
by-number meaning Own objects old new text number on_error on_end tells none means = record {
  inside = within (int_eq (asked number on_error on_end) (pos 0));
  tells = tells;
  replies = λ told.
      subst (λ (one : Or Reply). StartReplies one objects (units_of new) text (start_of (numbered_answer number on_error on_end))) (sym (means told))
      (by (int_eq (asked number on_error on_end) (pos 0)));
  devices = device (int_eq (asked number on_error on_end) (pos 0));
}
  where
    within : (over : Bool) → BeginsIn text (start_of (if over then Err (Ended number) else Ok number))
    within true = tt
    within false = tt

    by : (over : Bool) →
        StartReplies (Ok (if over then Stops (Io number) (world_with objects None (units_of new)) else Gives number (world_with objects None (units_of new)))) objects (units_of new) text
        (start_of (if over then Err (Ended number) else Ok number))
    by true = refl
    by false = refl

    device : (over : Bool) → StartDevice Own old new (start_of (if over then Err (Ended number) else Ok number))
    device true = none
    device false = none

-- ## The first record

-- the transfer in its first record
abbrev first_transfer : UnitControl → Format → List ℕ → Bool → Transfer
first_transfer control format line zeros = record (new_transfer Input (Formatted format) (unit_shown control)) {
  course = record { left = pass format; state = input_start (line ∷ []) zeros };
}

begins-record : (objects : List Object) (before after_it : Units) (control : UnitControl) (format : Format) (line : List ℕ) →
    coming control.unit before ≡ before_others line (coming control.unit after_it) → after_it ≡ read_on 1 control.unit before →
    first_under objects before control format
    ≡ Ok (Gives (pos 0) (world_with objects (Some (first_transfer control format line (reads_zero_blanks control.unit before))) after_it))
begins-record objects before after_it control format line comes is =
    ap (λ (next : Upcoming). first_read (new_transfer Input (Formatted format) (unit_shown control)) (world_with objects None before) next.lines next.then_comes) comes
    ∙ ap (λ (behind : Units). Ok (Gives (pos 0) (world_with objects (Some (first_transfer control format line (reads_zero_blanks control.unit before))) behind))) (sym is)

begins-nothing : (objects : List Object) (before after_it : Units) (control : UnitControl) (format : Format) (number : ℤ) →
    coming control.unit before ≡ nothing_but (Ok number) → after_it ≡ read_on 1 control.unit before →
    first_under objects before control format ≡ Ok (numbered number control.on_error control.on_end (world_with objects None after_it))
begins-nothing objects before after_it control format number comes is =
    ap (λ (next : Upcoming). first_read (new_transfer Input (Formatted format) (unit_shown control)) (world_with objects None before) next.lines next.then_comes) comes
    ∙ ap (λ (behind : Units). Ok (numbered number control.on_error control.on_end (world_with objects None behind))) (sym is)

-- an input at the start of its first record, in the text of a format
pub record IsFirst (control : UnitControl) (text line : List ℕ) (zeros : Bool) (given : FormattedInput) : Type 0 where
  pub unit : given.unit ≡ control.unit
  pub on_error : given.on_error ≡ control.on_error
  pub on_end : given.on_end ≡ control.on_end
  pub walks : (format : Format) → (after : List ℕ) → SpellsFormat format text after → walks.Stands text (pass (reverted format)) given.walk (pass format)
  pub first : Begins line zeros given.record

stands-first : (control : UnitControl) (format : Format) (text behind line : List ℕ) (zeros : Bool) (given : FormattedInput) → SpellsFormat format text behind → IsFirst control text line zeros given →
    StandsFor text given (first_transfer control format line zeros)
stands-first control format text behind line zeros given spelled is = record {
  direction = refl;
  format = format;
  layout = refl;
  medium = ap media.Unit (sym is.unit);
  on_error = sym is.on_error;
  on_end = sym is.on_end;
  walks = is.walks format behind spelled;
  later = [];
  values = [];
  place = is.first [];
}

begins-at : (control : UnitControl) (text line : List ℕ) (used : ℕ) (zeros : Bool) (given : FormattedInput) (old new : List Row) → zeros ≡ reads_zero_blanks control.unit (units_of old) →
    IsFirst control text (take used line) zeros given → Fetches control.unit line old new (Record used) → AnswersReading control old new text (Ok (start.Begins given))
begins-at control text line used zeros given old new blanks is fetches = λ objects format behind spelled. record {
  inside = record { again = pass (reverted format); rest = pass format; stands = is.walks format behind spelled };
  tells = fetches.tells;
  replies = λ tells. record {
    transfer = first_transfer control format (take used line) zeros;
    stands = stands-first control format text behind (take used line) zeros given spelled is;
    replies = begins-record objects (units_of old) (units_of new) control format (take used line) (fetches.means tells).0 (fetches.means tells).1
        ∙ ap (λ (one : Bool). Ok (Gives (pos 0) (world_with objects (Some (first_transfer control format (take used line) one)) (units_of new)))) (sym blanks);
  };
  devices = stays-quietly control.unit old new fetches.devices;
}

pub reading-begins : (control : UnitControl) (own : ℤ) (text line : List ℕ) (used : ℕ) (zeros : Bool) (given : FormattedInput) (old new : List Row) → own ≡ control.unit →
    zeros ≡ reads_zero_blanks own (units_of old) → IsFirst control text (take used line) zeros given → Fetches own line old new (Record used) →
    AnswersReading control old new text (Ok (start.Begins given))
reading-begins control own text line used zeros given old new same blanks is fetches =
    begins-at control text line used zeros given old new (blanks ∙ ap (λ (unit : ℤ). reads_zero_blanks unit (units_of old)) same) is
    (subst (λ (unit : ℤ). Fetches unit line old new (Record used)) same fetches)

ends-at : (control : UnitControl) (text line : List ℕ) (number : ℤ) (old new : List Row) → Fetches control.unit line old new (Nothing number) →
    AnswersReading control old new text (start_of (numbered_answer number control.on_error control.on_end))
ends-at control text line number old new fetches = λ objects format behind spelled.
    by-number (λ units. first_under objects units control format) (λ unit. unit ≡ control.unit) objects old new text number control.on_error control.on_end fetches.tells fetches.devices
    (λ tells. begins-nothing objects (units_of old) (units_of new) control format number (fetches.means tells).0 (fetches.means tells).1)

pub reading-ends : (control : UnitControl) (own on_error on_end number said : ℤ) (text line : List ℕ) (old new : List Row) (answer : Result ℤ CallEnd) (result : Result Start CallEnd) →
    SameControl control own on_error on_end → said ≡ number → result ≡ start_of answer → answer ≡ numbered_answer said on_error on_end → Fetches own line old new (Nothing number) →
    AnswersReading control old new text result
reading-ends control own on_error on_end number said text line old new answer result same right is numbers fetches =
    subst (λ (one : Result Start CallEnd). AnswersReading control old new text one)
    (sym (is ∙ ap start_of (numbers
    ∙ ap (λ (n : ℤ). numbered_answer n on_error on_end) right
    ∙ ap (λ (n : ℤ). numbered_answer number n on_end) same.error_is
    ∙ ap (λ (n : ℤ). numbered_answer number control.on_error n) same.end_is)))
    (ends-at control text line number old new (subst (λ (unit : ℤ). Fetches unit line old new (Nothing number)) same.unit_is fetches))

pub reading-fails : (control : UnitControl) (own : ℤ) (text line : List ℕ) (old new : List Row) → own ≡ control.unit → Fetches own line old new Failed →
    AnswersReading control old new text (Err (Device own))
reading-fails control own text line old new same fetches = λ objects format behind spelled.
    record { inside = tt; tells = fetches.tells; replies = λ tells. tt; devices = (same, fetches.devices) }

-- ## The format

under-format : (given : Or (Option Format)) (objects : List Object) (control : UnitControl) (old new : List Row) (text behind : List ℕ) (format : Format) (result : Result Start CallEnd) →
    given ≡ Ok (Some format) → SpellsFormat format text behind → AnswersReading control old new text result → AnswersUnder given objects control old new text result
under-format given objects control old new text behind format result is spelled reads =
    let answers = reads objects format behind spelled in
    record {
      inside = answers.inside;
      tells = answers.tells;
      replies = λ tells. subst (λ (meaning : Or Reply). StartReplies meaning objects (units_of new) text result) (sym (ap (under objects (units_of old) control) is)) (answers.replies tells);
      devices = answers.devices;
    }

under-none : (given : Or (Option Format)) (objects : List Object) (control : UnitControl) (on_error on_end : ℤ) (rows : List Row) (text : List ℕ) (answer : Result ℤ CallEnd) (result : Result Start CallEnd) →
    on_error ≡ control.on_error → on_end ≡ control.on_end → result ≡ start_of answer → answer ≡ numbered_answer (pos 10) on_error on_end → given ≡ Ok None →
    AnswersUnder given objects control rows rows text result
under-none given objects control on_error on_end rows text answer result same_error same_end is said none =
    subst (λ (one : Result Start CallEnd). AnswersUnder given objects control rows rows text one)
    (sym (is ∙ ap start_of (said ∙ ap (λ (n : ℤ). numbered_answer (pos 10) n on_end) same_error ∙ ap (λ (n : ℤ). numbered_answer (pos 10) control.on_error n) same_end)))
    (by-number (λ units. under objects units control given) (λ unit. unit ≡ control.unit) objects rows rows text (pos 10) control.on_error control.on_end (λ tells. tells) (none-failed rows)
    (λ tells. ap (under objects (units_of rows) control) none))

pub under-read : (given : Or (Option Format)) (objects : List Object) (control : UnitControl) (old new : List Row) (text : List ℕ) (found : Bool) (result : Result Start CallEnd) → found ≡ true →
    ReadsFormat given text (Ok found) → AnswersReading control old new text result → AnswersUnder given objects control old new text result
under-read given objects control old new text found result is reads answers =
    let format : ReadsFormat given text (Ok true) = subst (λ (one : Bool). ReadsFormat given text (Ok one)) is reads in
    under-format given objects control old new text format.1.0 format.0 result format.1.1 format.1.2 answers

pub under-unread : (given : Or (Option Format)) (objects : List Object) (control : UnitControl) (on_error on_end : ℤ) (rows : List Row) (text : List ℕ) (found : Bool) (answer : Result ℤ CallEnd)
    (result : Result Start CallEnd) → found ≡ false → on_error ≡ control.on_error → on_end ≡ control.on_end → result ≡ start_of answer → answer ≡ numbered_answer (pos 10) on_error on_end →
    ReadsFormat given text (Ok found) → AnswersUnder given objects control rows rows text result
under-unread given objects control on_error on_end rows text found answer result is same_error same_end shown said reads =
    under-none given objects control on_error on_end rows text answer result same_error same_end shown said (subst (λ (one : Bool). ReadsFormat given text (Ok one)) is reads)

-- ## The start

-- the start, once its list is read
started : (objects : List Object) (units : Units) (pointer given : CValue) (control : UnitControl) → Ok (unit_shown control) ≡ unit_control objects pointer →
    Ok given ≡ format_field list_type.Transfer (codes "cifmt") objects pointer →
    library (Begin formatted_kind) (world_with objects None units) (pointer ∷ [])
    ≡ (if is_connected control.unit units then under objects units control (format_at objects given)
    else Ok (numbered (pos 6) control.on_error control.on_end (world_with objects None units)))
unfolding library starts
started objects units pointer given control is format =
    known (unit_control objects pointer) (unit_shown control) _ is ∙ known (format_field list_type.Transfer (codes "cifmt") objects pointer) given _ format

connected :
    (objects : List Object) (units : Units) (pointer given : CValue) (control : UnitControl) (unit : ℤ) (there : Bool) → Ok (unit_shown control) ≡ unit_control objects pointer →
    Ok given ≡ format_field list_type.Transfer (codes "cifmt") objects pointer → unit ≡ control.unit → there ≡ is_connected unit units →
    library (Begin formatted_kind) (world_with objects None units) (pointer ∷ [])
    ≡ (if there then under objects units control (format_at objects given)
    else Ok (numbered (pos 6) control.on_error control.on_end (world_with objects None units)))
connected objects units pointer given control unit there is format same connects =
    started objects units pointer given control is format
    ∙ ap (λ (number : ℤ). if is_connected number units then under objects units control (format_at objects given)
    else Ok (numbered (pos 6) control.on_error control.on_end (world_with objects None units))) (sym same)
    ∙ ap (λ (one : Bool). if one then under objects units control (format_at objects given)
    else Ok (numbered (pos 6) control.on_error control.on_end (world_with objects None units))) (sym connects)

-- the unit of the control is that which the list names
named-device : (objects : List Object) (pointer : CValue) (control : UnitControl) (old new : List Row) (result : Result Start CallEnd) → Ok (unit_shown control) ≡ unit_control objects pointer →
    StartDevice (λ unit. unit ≡ control.unit) old new result → StartDevice (NamesUnit (unit_control objects pointer)) old new result
named-device objects pointer control old new (Ok start) is told = told
named-device objects pointer control old new (Err (Fault fault)) is told = told
named-device objects pointer control old new (Err (Ended number)) is told = told
named-device objects pointer control old new (Err (Device unit)) is told = (names-unit objects pointer control unit is told.0, told.1)

pub start-under :
    (objects : List Object) (pointer given : CValue) (control : UnitControl) (unit : ℤ) (old new : List Row) (text : List ℕ) (result : Result Start CallEnd) →
    Ok (unit_shown control) ≡ unit_control objects pointer → Ok given ≡ format_field list_type.Transfer (codes "cifmt") objects pointer → unit ≡ control.unit →
    true ≡ is_connected unit (units_of old) → AnswersUnder (format_at objects given) objects control old new text result → AnswersStart objects pointer old new text result
start-under objects pointer given control unit old new text result is format same there answers = record {
  inside = answers.inside;
  tells = answers.tells;
  replies = λ tells.
      subst (λ (meaning : Or Reply). StartReplies meaning objects (units_of new) text result) (sym (connected objects (units_of old) pointer given control unit true is format same there))
      (answers.replies tells);
  devices = named-device objects pointer control old new result is answers.devices;
}

pub start-refused :
    (objects : List Object) (pointer given : CValue) (control : UnitControl) (unit on_error on_end : ℤ) (rows : List Row) (text : List ℕ) (answer : Result ℤ CallEnd) (result : Result Start CallEnd) →
    result ≡ start_of answer → answer ≡ numbered_answer (pos 6) on_error on_end → Ok (unit_shown control) ≡ unit_control objects pointer →
    Ok given ≡ format_field list_type.Transfer (codes "cifmt") objects pointer → SameControl control unit on_error on_end → false ≡ is_connected unit (units_of rows) →
    AnswersStart objects pointer rows rows text result
start-refused objects pointer given control unit on_error on_end rows text answer result shown numbers is format same there =
    subst (λ (one : Result Start CallEnd). AnswersStart objects pointer rows rows text one)
    (sym (shown ∙ ap start_of (numbers ∙ ap (λ (n : ℤ). numbered_answer (pos 6) n on_end) same.error_is ∙ ap (λ (n : ℤ). numbered_answer (pos 6) control.on_error n) same.end_is)))
    (by-number (λ units. library (Begin formatted_kind) (world_with objects None units) (pointer ∷ [])) (NamesUnit (unit_control objects pointer)) objects rows rows text (pos 6) control.on_error control.on_end (λ tells. tells)
    (none-failed rows) (λ tells. connected objects (units_of rows) pointer given control unit false is format same.unit_is there))

pub list-faulty : (objects : List Object) (pointer : CValue) (fault : CFault) (rows : List Row) (text : List ℕ) → failing fault ≡ unit_control objects pointer →
    AnswersStart objects pointer rows rows text (Err (Fault fault))
unfolding library starts
list-faulty objects pointer fault rows text is =
    record { inside = tt; tells = λ tells. tells; replies = λ tells. faulty (unit_control objects pointer) fault _ is; devices = refl }

pub format-faulty : (objects : List Object) (pointer : CValue) (control : UnitControl) (fault : CFault) (rows : List Row) (text : List ℕ) → Ok (unit_shown control) ≡ unit_control objects pointer →
    failing fault ≡ format_field list_type.Transfer (codes "cifmt") objects pointer → AnswersStart objects pointer rows rows text (Err (Fault fault))
unfolding library starts
format-faulty objects pointer control fault rows text is format = record {
  inside = tt;
  tells = λ tells. tells;
  replies = λ tells.
      known (unit_control objects pointer) (unit_shown control) _ is ∙ faulty (format_field list_type.Transfer (codes "cifmt") objects pointer) fault _ format;
  devices = refl;
}
