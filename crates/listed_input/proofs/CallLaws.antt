-- What the start and the end of a list-directed input reply.
use Rattle.std.proofs.Common.{◌≡◌, ℕ, ◌≤◌, ℤ, pos, Bool, true, false, List, [], ◌∷◌, length, take, drop, Some, None, refl, ap, sym, ◌∙◌, subst, arith}
use Rattle.std.specs.Prelude.{Result, Ok, Err, if◌then◌else◌}
use Rattle.std.specs.Ordering.{int_eq}
use Rattle.c_tree.specs.run_state.Units.{Units, is_connected}
use Rattle.c_tree.specs.declared.outcome.CValue.{CValue}
use Rattle.c_tree.specs.declared.outcome.CFault.{CFault}
use Rattle.c_tree.specs.Faults.{Or, failing}
use Rattle.c_tree.specs.Objects.{Object}
use Rattle.c_tree.specs.World.{Direction, Input, Layout, Listed, Medium, Transfer, World, Reply, Gives, Stops, Io}
use Rattle.c_tree.specs.World as media
use Rattle.c_tree.specs.Transfers.{Control, Upcoming, asked, numbered, unit_control, new_transfer, nothing_but, read_on}
use Rattle.c_tree.specs.TransferStarts.{starts, first_read}
use Rattle.c_tree.specs.TransferCalls.{ends}
use Rattle.c_tree.specs.Builtins.{Begin, Finish}
use Rattle.c_tree.specs.Library.{library}
use Rattle.edit_rules.specs.edit_meaning.ListInput.{Between}
use Rattle.edit_rules.specs.declared.list_reader.Doing.{Doing}
use Rattle.edit_rules.specs.declared.list_reader.Doing.TheVariants as doing
use Rattle.edit_rules.specs.declared.list_reader.ListReader.{ListReader}
use Rattle.edit_rules.specs.Reader.{place_by, place_in, StandsIn, ConstantWithin}
use Rattle.f2c_outside.specs.Table.{Row}
use Rattle.f2c_outside.specs.Meaning.{units_of}
use Rattle.control_lists.specs.declared.controls.UnitControl.{UnitControl}
use Rattle.control_lists.specs.Controls.{unit_shown}
use Rattle.unit_answers.specs.declared.ends.CallEnd.{CallEnd}
use Rattle.unit_answers.specs.declared.ends.CallEnd.TheVariants.{Fault, Ended, Device}
use Rattle.unit_answers.specs.Failing.{NoneFailed}
use Rattle.unit_answers.specs.Answers.{world_with, numbered_answer}
use Rattle.unit_answers.proofs.OrLemmas.{known, faulty}
use Rattle.unit_answers.proofs.FailureLaws.{none-failed}
use Rattle.listed_output.proofs.RowLaws.{stays-quietly}
use Rattle.listed_input.specs.declared.records.NextRecord.TheVariants.{Record, Nothing, Failed}
use Rattle.listed_input.specs.declared.calls.ListedInput.{ListedInput}
use Rattle.listed_input.specs.declared.calls.Start.{Start}
use Rattle.listed_input.specs.declared.calls.Start.TheVariants.{Begins}
use Rattle.listed_input.specs.Fetching.{coming, before_others, Fetches, constant_of}
use Rattle.listed_input.specs.Reading.{place_of}
use Rattle.listed_input.specs.Transferring.{listed_kind, StandsFor, StartReplies, NamesUnit, StartDevice, AnswersStart, AnswersEnd, AnswersReading, begins, start_of}

-- ## The place at the start

start-by : (doing : Doing) (place : ℕ) (line : List ℕ) → place_by doing place [] ≡ Between false [] → place ≤ 0 → place_by doing place line ≡ Between false line
start-by (doing.Between valued) place line is none =
    let same : valued ≡ false = cc in
    let first : place ≡ 0 = omega arith in
    ap (λ (had : Bool). Between had (drop place line)) same ∙ ap (λ (n : ℕ). Between false (drop n line)) first
start-by (doing.Repeated more) place line is none = absurd (cc)
start-by (doing.Nulls more) place line is none = absurd (cc)
start-by (doing.Inside more constant) place line is none = absurd (cc)

pub start-place : (reader : ListReader) (line : List ℕ) → place_in [] reader ≡ Between false [] → ((line : List ℕ) → StandsIn reader line) → place_in line reader ≡ Between false line
start-place reader line is stands = start-by reader.doing reader.place line is (stands []).place

constant-by : (doing : Doing) (size : ℕ) → ConstantWithin doing size → constant_of doing ≤ size
constant-by (doing.Between valued) size within = omega arith
constant-by (doing.Repeated more) size within = omega arith
constant-by (doing.Nulls more) size within = omega arith
constant-by (doing.Inside more constant) size within = within

pub stands-begun : (reader : ListReader) (line : List ℕ) → StandsIn reader line → constant_of reader.doing ≤ length line
stands-begun reader line stands = constant-by reader.doing (length line) stands.constant

pub first-placed : (reader : ListReader) (used : ℕ) → ((line : List ℕ) → StandsIn reader line) → (reader.place ≤ used) × (constant_of reader.doing ≤ used)
first-placed reader used stands =
    let place : reader.place ≤ 0 = (stands []).place in
    let constant : constant_of reader.doing ≤ 0 = stands-begun reader [] (stands []) in
    (omega arith, omega arith)

-- ## The start

-- the start, once its list is read
started : (objects : List Object) (units : Units) (pointer : CValue) (control : UnitControl) → Ok (unit_shown control) ≡ unit_control objects pointer →
    library (Begin listed_kind) (world_with objects None units) (pointer ∷ [])
    ≡ (if is_connected control.unit units then begins objects units (unit_shown control)
    else Ok (numbered (pos 6) control.on_error control.on_end (world_with objects None units)))
unfolding library starts
started objects units pointer control is = known (unit_control objects pointer) (unit_shown control) _ is

-- the transfer behind its first record
abbrev first_transfer : UnitControl → List ℕ → Transfer
first_transfer control line = record (new_transfer Input Listed (unit_shown control)) { line = line; place = Between false line }

-- an input at the start of its first record
pub record IsFirst (control : UnitControl) (line : List ℕ) (input : ListedInput) : Type 0 where
  pub unit : input.unit ≡ control.unit
  pub on_error : input.on_error ≡ control.on_error
  pub on_end : input.on_end ≡ control.on_end
  pub slashed : input.slashed ≡ false
  pub place : place_of input.reading ≡ Between false line

stands-first : (control : UnitControl) (line : List ℕ) (input : ListedInput) → IsFirst control line input → StandsFor input (first_transfer control line)
stands-first control line input is = record {
  direction = refl;
  layout = refl;
  medium = ap media.Unit (sym is.unit);
  on_error = sym is.on_error;
  on_end = sym is.on_end;
  slashed = sym is.slashed;
  place = λ none. sym is.place;
}

begins-record : (objects : List Object) (units after : Units) (control : UnitControl) (line : List ℕ) →
    coming control.unit units ≡ before_others line (coming control.unit after) → after ≡ read_on 1 control.unit units →
    begins objects units (unit_shown control) ≡ Ok (Gives (pos 0) (world_with objects (Some (first_transfer control line)) after))
begins-record objects units after control line comes is =
    ap (λ (next : Upcoming). first_read (new_transfer Input Listed (unit_shown control)) (world_with objects None units) next.lines next.then_comes) comes
    ∙ ap (λ (behind : Units). Ok (Gives (pos 0) (world_with objects (Some (first_transfer control line)) behind))) (sym is)

begins-nothing : (objects : List Object) (units after : Units) (control : UnitControl) (number : ℤ) →
    coming control.unit units ≡ nothing_but (Ok number) → after ≡ read_on 1 control.unit units →
    begins objects units (unit_shown control) ≡ Ok (numbered number control.on_error control.on_end (world_with objects None after))
begins-nothing objects units after control number comes is =
    ap (λ (next : Upcoming). first_read (new_transfer Input Listed (unit_shown control)) (world_with objects None units) next.lines next.then_comes) comes
    ∙ ap (λ (behind : Units). Ok (numbered number control.on_error control.on_end (world_with objects None behind))) (sym is)

-- a start by a number
by-number : (number on_error on_end : ℤ) (objects : List Object) (units : Units) →
    StartReplies (Ok (numbered number on_error on_end (world_with objects None units))) objects units (start_of (numbered_answer number on_error on_end))
by-number number on_error on_end objects units = by (int_eq (asked number on_error on_end) (pos 0))
  where
    by : (over : Bool) →
        StartReplies (Ok (if over then Stops (Io number) (world_with objects None units) else Gives number (world_with objects None units))) objects units
        (start_of (if over then Err (Ended number) else Ok number))
    by true = refl
    by false = refl

by-number-device : (Own : ℤ → Type 0) (number on_error on_end : ℤ) (old new : List Row) → NoneFailed old new → StartDevice Own old new (start_of (numbered_answer number on_error on_end))
by-number-device Own number on_error on_end old new none = by (int_eq (asked number on_error on_end) (pos 0))
  where
    by : (over : Bool) → StartDevice Own old new (start_of (if over then Err (Ended number) else Ok number))
    by true = none
    by false = none

-- the numbers of a control list as a call has them
pub record SameControl (control : UnitControl) (unit on_error on_end : ℤ) : Type 0 where
  pub unit_is : unit ≡ control.unit
  pub error_is : on_error ≡ control.on_error
  pub end_is : on_end ≡ control.on_end

pub reading-begins : (objects : List Object) (control : UnitControl) (own : ℤ) (line : List ℕ) (used : ℕ) (input : ListedInput) (old new : List Row) → own ≡ control.unit →
    IsFirst control (take used line) input → Fetches own line old new (Record used) → AnswersReading control objects old new (Ok (Begins input))
reading-begins objects control own line used input old new same is fetched =
    let fetches : Fetches control.unit line old new (Record used) = subst (λ (unit : ℤ). Fetches unit line old new (Record used)) same fetched in
    record {
      tells = fetches.tells;
      replies = λ tells. record {
        transfer = first_transfer control (take used line);
        stands = stands-first control (take used line) input is;
        replies = begins-record objects (units_of old) (units_of new) control (take used line) (fetches.means tells).0 (fetches.means tells).1;
      };
      devices = stays-quietly control.unit old new fetches.devices;
    }

number-answered : (objects : List Object) (control : UnitControl) (number : ℤ) (line : List ℕ) (old new : List Row) → Fetches control.unit line old new (Nothing number) →
    AnswersReading control objects old new (start_of (numbered_answer number control.on_error control.on_end))
number-answered objects control number line old new fetches = record {
  tells = fetches.tells;
  replies = λ tells.
      subst (λ (meaning : Or Reply). StartReplies meaning objects (units_of new) (start_of (numbered_answer number control.on_error control.on_end)))
      (sym (begins-nothing objects (units_of old) (units_of new) control number (fetches.means tells).0 (fetches.means tells).1))
      (by-number number control.on_error control.on_end objects (units_of new));
  devices = by-number-device (λ unit. unit ≡ control.unit) number control.on_error control.on_end old new fetches.devices;
}

answer-is : (control : UnitControl) (unit on_error on_end number : ℤ) (answer : Result ℤ CallEnd) (result : Result Start CallEnd) → SameControl control unit on_error on_end →
    answer ≡ numbered_answer number on_error on_end → result ≡ start_of answer → result ≡ start_of (numbered_answer number control.on_error control.on_end)
answer-is control unit on_error on_end number answer result same numbers is =
    is ∙ ap start_of (numbers ∙ ap (λ (n : ℤ). numbered_answer number n on_end) same.error_is ∙ ap (λ (n : ℤ). numbered_answer number control.on_error n) same.end_is)

pub reading-ends : (objects : List Object) (control : UnitControl) (own on_error on_end number said : ℤ) → said ≡ number → (answer : Result ℤ CallEnd) (result : Result Start CallEnd) (line : List ℕ) (old new : List Row) →
    SameControl control own on_error on_end → answer ≡ numbered_answer said on_error on_end → result ≡ start_of answer →
    Fetches own line old new (Nothing number) → AnswersReading control objects old new result
reading-ends objects control own on_error on_end number said right answer result line old new same numbers is fetched =
    subst (λ (one : Result Start CallEnd). AnswersReading control objects old new one)
    (sym (answer-is control own on_error on_end number answer result same (numbers ∙ ap (λ (n : ℤ). numbered_answer n on_error on_end) right) is))
    (number-answered objects control number line old new (subst (λ (unit : ℤ). Fetches unit line old new (Nothing number)) same.unit_is fetched))

connected-start : (objects : List Object) (units : Units) (pointer : CValue) (control : UnitControl) (connected : Bool) → Ok (unit_shown control) ≡ unit_control objects pointer →
    connected ≡ is_connected control.unit units →
    library (Begin listed_kind) (world_with objects None units) (pointer ∷ [])
    ≡ (if connected then begins objects units (unit_shown control) else Ok (numbered (pos 6) control.on_error control.on_end (world_with objects None units)))
connected-start objects units pointer control connected is there =
    started objects units pointer control is
    ∙ ap (λ (one : Bool). if one then begins objects units (unit_shown control) else Ok (numbered (pos 6) control.on_error control.on_end (world_with objects None units))) (sym there)

pub reading-fails : (objects : List Object) (control : UnitControl) (own : ℤ) (line : List ℕ) (old new : List Row) → own ≡ control.unit → Fetches own line old new Failed →
    AnswersReading control objects old new (Err (Device own))
reading-fails objects control own line old new same fetches = record { tells = fetches.tells; replies = λ tells. tt; devices = (same, fetches.devices) }

-- the unit of the control is that which the list names
pub names-unit : (objects : List Object) (pointer : CValue) (control : UnitControl) (unit : ℤ) → Ok (unit_shown control) ≡ unit_control objects pointer → unit ≡ control.unit →
    NamesUnit (unit_control objects pointer) unit
names-unit objects pointer control unit is same = subst (λ (found : Or Control). NamesUnit found unit) is (ap media.Unit (sym same))

named-device : (objects : List Object) (pointer : CValue) (control : UnitControl) (old new : List Row) (result : Result Start CallEnd) → Ok (unit_shown control) ≡ unit_control objects pointer →
    StartDevice (λ unit. unit ≡ control.unit) old new result → StartDevice (NamesUnit (unit_control objects pointer)) old new result
named-device objects pointer control old new (Ok start) is told = told
named-device objects pointer control old new (Err (Fault fault)) is told = told
named-device objects pointer control old new (Err (Ended number)) is told = told
named-device objects pointer control old new (Err (Device unit)) is told = (names-unit objects pointer control unit is told.0, told.1)

pub start-begins : (objects : List Object) (pointer : CValue) (control : UnitControl) (own : ℤ) (old new : List Row) (result : Result Start CallEnd) →
    Ok (unit_shown control) ≡ unit_control objects pointer → own ≡ control.unit → true ≡ is_connected own (units_of old) →
    AnswersReading control objects old new result → AnswersStart objects pointer old new result
start-begins objects pointer control own old new result is same there reads = record {
  tells = reads.tells;
  replies = λ tells.
      subst (λ (meaning : Or Reply). StartReplies meaning objects (units_of new) result)
      (sym (connected-start objects (units_of old) pointer control true is (there ∙ ap (λ (unit : ℤ). is_connected unit (units_of old)) same)))
      (reads.replies tells);
  devices = named-device objects pointer control old new result is reads.devices;
}

number-start : (objects : List Object) (pointer : CValue) (control : UnitControl) (rows : List Row) → Ok (unit_shown control) ≡ unit_control objects pointer →
    false ≡ is_connected control.unit (units_of rows) → AnswersStart objects pointer rows rows (start_of (numbered_answer (pos 6) control.on_error control.on_end))
number-start objects pointer control rows is there = record {
  tells = λ tells. tells;
  replies = λ tells.
      subst (λ (meaning : Or Reply). StartReplies meaning objects (units_of rows) (start_of (numbered_answer (pos 6) control.on_error control.on_end)))
      (sym (connected-start objects (units_of rows) pointer control false is there))
      (by-number (pos 6) control.on_error control.on_end objects (units_of rows));
  devices = by-number-device (NamesUnit (unit_control objects pointer)) (pos 6) control.on_error control.on_end rows rows (none-failed rows);
}

pub start-refused : (objects : List Object) (pointer : CValue) (control : UnitControl) (own on_error on_end : ℤ) (answer : Result ℤ CallEnd) (result : Result Start CallEnd) (rows : List Row) →
    SameControl control own on_error on_end → answer ≡ numbered_answer (pos 6) on_error on_end → result ≡ start_of answer →
    Ok (unit_shown control) ≡ unit_control objects pointer → false ≡ is_connected own (units_of rows) → AnswersStart objects pointer rows rows result
start-refused objects pointer control own on_error on_end answer result rows same numbers is said there =
    subst (λ (one : Result Start CallEnd). AnswersStart objects pointer rows rows one) (sym (answer-is control own on_error on_end (pos 6) answer result same numbers is))
    (number-start objects pointer control rows said (there ∙ ap (λ (unit : ℤ). is_connected unit (units_of rows)) same.unit_is))

pub start-faulty : (objects : List Object) (pointer : CValue) (fault : CFault) (rows : List Row) → failing fault ≡ unit_control objects pointer →
    AnswersStart objects pointer rows rows (Err (Fault fault))
unfolding library starts
start-faulty objects pointer fault rows is = record {
  tells = λ tells. tells;
  replies = λ tells. faulty (unit_control objects pointer) fault _ is;
  devices = refl;
}

-- ## The end

-- the transfer, with what the input says of it
abbrev pub shown_by : ListedInput → Transfer → Transfer
shown_by input transfer = record transfer {
  direction = Input;
  layout = Listed;
  medium = media.Unit input.unit;
  on_error = input.on_error;
  on_end = input.on_end;
}

pub is-shown : (input : ListedInput) (transfer : Transfer) → StandsFor input transfer → transfer ≡ shown_by input transfer
is-shown input transfer stands =
    ap (λ (direction : Direction). record transfer { direction = direction }) stands.direction
    ∙ ap (λ (layout : Layout). record transfer { direction = Input; layout = layout }) stands.layout
    ∙ ap (λ (medium : Medium). record transfer { direction = Input; layout = Listed; medium = medium }) stands.medium
    ∙ ap (λ (number : ℤ). record transfer { direction = Input; layout = Listed; medium = media.Unit input.unit; on_error = number }) stands.on_error
    ∙ ap (λ (number : ℤ). record transfer { direction = Input; layout = Listed; medium = media.Unit input.unit; on_error = input.on_error; on_end = number }) stands.on_end

pub input-ends : (input : ListedInput) → AnswersEnd input (pos 0)
unfolding library ends
input-ends input objects units transfer stands =
    ap (λ (one : Transfer). library (Finish listed_kind) (world_with objects (Some one) units) []) (is-shown input transfer stands)
