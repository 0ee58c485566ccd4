-- What the start and the end of a list-directed input on an internal file reply.
use Rattle.std.proofs.Common.{◌≡◌, ℕ, ℤ, pos, Bool, true, false, List, [], ◌∷◌, take, Some, None, refl, ap, sym, ◌∙◌, subst}
use Rattle.std.specs.Prelude.{Result, Ok, Err, if◌then◌else◌}
use Rattle.std.specs.Ordering.{int_eq}
use Rattle.c_tree.specs.run_state.Units.{Units}
use Rattle.c_tree.specs.declared.outcome.CValue.{CValue}
use Rattle.c_tree.specs.declared.outcome.CFault.{CFault}
use Rattle.c_tree.specs.Faults.{Or, failing}
use Rattle.c_tree.specs.Objects.{Object}
use Rattle.c_tree.specs.World.{Direction, Input, Layout, Listed, Medium, Internal, InternalFile, Transfer, Reply, Gives, Stops, Io}
use Rattle.c_tree.specs.Transfers.{Upcoming, asked, numbered, internal_control, new_transfer, nothing_but}
use Rattle.c_tree.specs.TransferStarts.{first_read, starts}
use Rattle.c_tree.specs.TransferCalls.{ends}
use Rattle.c_tree.specs.Builtins.{Begin, Finish}
use Rattle.c_tree.specs.Library.{library}
use Rattle.edit_rules.specs.edit_meaning.ListInput.{Between}
use Rattle.control_lists.specs.declared.controls.InternalControl.{InternalControl}
use Rattle.control_lists.specs.Controls.{file_shown, internal_shown}
use Rattle.unit_answers.specs.declared.ends.CallEnd.{CallEnd}
use Rattle.unit_answers.specs.declared.ends.CallEnd.TheVariants.{Fault, Ended}
use Rattle.unit_answers.specs.Answers.{world_with, numbered_answer}
use Rattle.unit_answers.proofs.OrLemmas.{known, faulty}
use Rattle.internal_output.specs.Files.{file_of}
use Rattle.internal_records.specs.declared.records.RecordEnd.{RecordEnd}
use Rattle.internal_records.specs.declared.records.RecordEnd.TheVariants as record_ends
use Rattle.internal_input.specs.declared.calls.InternalInput.{InternalInput}
use Rattle.internal_input.specs.declared.calls.Start.{Start}
use Rattle.internal_input.specs.declared.calls.Start.TheVariants.{Begins}
use Rattle.listed_input.specs.Reading.{place_of}
use Rattle.internal_records.specs.Fetching.{coming, moved, Comes, NoneComes}
use Rattle.internal_input.specs.Fetching.{ReadsInto}
use Rattle.internal_input.specs.Transferring.{internal_kind, StandsFor, StartReplies, NoDeviceAtStart, AnswersStart, AnswersEnd, AnswersReading, begins, start_of}

-- ## The start

-- the transfer behind its first record
abbrev first_transfer : InternalControl → List ℕ → Transfer
first_transfer control line =
    record (new_transfer Input Listed (internal_shown control)) { line = line; place = Between false line; medium = Internal (moved 1 (file_shown control)) }

-- an input at the start of its first record
pub record IsFirst (control : InternalControl) (line : List ℕ) (input : InternalInput) : Type 0 where
  pub on_error : input.on_error ≡ control.on_error
  pub on_end : input.on_end ≡ control.on_end
  pub slashed : input.slashed ≡ false
  pub place : place_of input.reading ≡ Between false line

stands-first : (control : InternalControl) (line : List ℕ) (input : InternalInput) → file_of input.file ≡ moved 1 (file_shown control) → IsFirst control line input →
    StandsFor input (first_transfer control line)
stands-first control line input file_is is = record {
  direction = refl;
  layout = refl;
  medium = ap Internal (sym file_is);
  on_error = sym is.on_error;
  on_end = sym is.on_end;
  slashed = sym is.slashed;
  place = λ none. sym is.place;
}

-- the start by what comes next
begins-by : (objects : List Object) (units : Units) (control : InternalControl) (next : Upcoming) → coming objects (file_shown control) ≡ next →
    begins objects units (internal_shown control)
    ≡ first_read (new_transfer Input Listed (internal_shown control)) (world_with objects None units) next.lines next.then_comes
begins-by objects units control next comes =
    ap (λ (one : Upcoming). first_read (new_transfer Input Listed (internal_shown control)) (world_with objects None units) one.lines one.then_comes) comes

-- a start by a number
by-number : (number on_error on_end : ℤ) (objects : List Object) (units : Units) →
    StartReplies (Ok (numbered number on_error on_end (world_with objects None units))) objects units (start_of (numbered_answer number on_error on_end))
by-number number on_error on_end objects units = by (int_eq (asked number on_error on_end) (pos 0))
  where
    by : (over : Bool) →
        StartReplies (Ok (if over then Stops (Io number) (world_with objects None units) else Gives number (world_with objects None units))) objects units
        (start_of (if over then Err (Ended number) else Ok number))
    by true = refl
    by false = refl

by-no-device : (number on_error on_end : ℤ) → NoDeviceAtStart (start_of (numbered_answer number on_error on_end))
by-no-device number on_error on_end = by (int_eq (asked number on_error on_end) (pos 0))
  where
    by : (over : Bool) → NoDeviceAtStart (start_of (if over then Err (Ended number) else Ok number))
    by true = tt
    by false = tt

pub reading-begins : (objects : List Object) (control : InternalControl) (line : List ℕ) (used : ℕ) (start : InternalFile) (input : InternalInput) → start ≡ file_shown control →
    IsFirst control (take used line) input → ReadsInto objects line start (file_of input.file) (Ok used) → AnswersReading control objects (Ok (Begins input))
reading-begins objects control line used start input same is fetched =
    let comes : Comes objects (take used line) (file_shown control) (file_of input.file) = subst (λ (one : InternalFile). Comes objects (take used line) one (file_of input.file)) same fetched.0 in
    record {
      replies = λ units. record {
        transfer = first_transfer control (take used line);
        stands = stands-first control (take used line) input comes.behind is;
        replies = begins-by objects units control _ comes.first;
      };
      no_device = tt;
    }

reading-none : (objects : List Object) (control : InternalControl) (start : InternalFile) (end : RecordEnd) → start ≡ file_shown control → NoneComes objects start end → NoneComes objects (file_shown control) end
reading-none objects control start end same none = subst (λ (one : InternalFile). NoneComes objects one end) same none

number-answered : (objects : List Object) (control : InternalControl) (number : ℤ) → NoneComes objects (file_shown control) (record_ends.Number number) →
    AnswersReading control objects (start_of (numbered_answer number control.on_error control.on_end))
number-answered objects control number none = record {
  replies = λ units.
      subst (λ (meaning : Or Reply). StartReplies meaning objects units (start_of (numbered_answer number control.on_error control.on_end)))
      (sym (begins-by objects units control (nothing_but (Ok number)) none))
      (by-number number control.on_error control.on_end objects units);
  no_device = by-no-device number control.on_error control.on_end;
}

pub reading-ends : (objects : List Object) (control : InternalControl) (line : List ℕ) (start file' : InternalFile) (found : Result ℕ RecordEnd) (number said on_error on_end : ℤ) (answer : Result ℤ CallEnd) (result : Result Start CallEnd) →
    start ≡ file_shown control → found ≡ Err (record_ends.Number number) → said ≡ number → on_error ≡ control.on_error → on_end ≡ control.on_end →
    answer ≡ numbered_answer said on_error on_end → result ≡ start_of answer → ReadsInto objects line start file' found → AnswersReading control objects result
reading-ends objects control line start file' found number said on_error on_end answer result same is right error_is end_is numbers gives fetched =
    subst (AnswersReading control objects)
    (sym (gives ∙ ap start_of
    (numbers ∙ ap (λ (n : ℤ). numbered_answer n on_error on_end) right ∙ ap (λ (n : ℤ). numbered_answer number n on_end) error_is
    ∙ ap (λ (n : ℤ). numbered_answer number control.on_error n) end_is)))
    (number-answered objects control number (reading-none objects control start (record_ends.Number number) same (subst (ReadsInto objects line start file') is fetched)))

pub reading-faulty : (objects : List Object) (control : InternalControl) (line : List ℕ) (start file' : InternalFile) (found : Result ℕ RecordEnd) (fault : CFault) → start ≡ file_shown control →
    found ≡ Err (record_ends.Fault fault) → ReadsInto objects line start file' found → AnswersReading control objects (Err (Fault fault))
reading-faulty objects control line start file' found fault same is fetched = record {
  replies = λ units. begins-by objects units control (nothing_but (failing fault)) (reading-none objects control start (record_ends.Fault fault) same (subst (ReadsInto objects line start file') is fetched));
  no_device = tt;
}

-- the start, once its list is read
started : (objects : List Object) (units : Units) (pointer : CValue) (control : InternalControl) → Ok (internal_shown control) ≡ internal_control objects pointer →
    library (Begin internal_kind) (world_with objects None units) (pointer ∷ []) ≡ begins objects units (internal_shown control)
unfolding library starts
started objects units pointer control is = known (internal_control objects pointer) (internal_shown control) _ is

pub start-begins : (objects : List Object) (pointer : CValue) (control : InternalControl) (result : Result Start CallEnd) → Ok (internal_shown control) ≡ internal_control objects pointer →
    AnswersReading control objects result → AnswersStart objects pointer result
start-begins objects pointer control result is reads = record {
  replies = λ units. subst (λ (meaning : Or Reply). StartReplies meaning objects units result) (sym (started objects units pointer control is)) (reads.replies units);
  no_device = reads.no_device;
}

pub start-faulty : (objects : List Object) (pointer : CValue) (fault : CFault) → failing fault ≡ internal_control objects pointer → AnswersStart objects pointer (Err (Fault fault))
unfolding library starts
start-faulty objects pointer fault is = record { replies = λ units. faulty (internal_control objects pointer) fault _ is; no_device = tt }

-- ## The end

-- the transfer, with what the input says of it
abbrev pub shown_by : InternalInput → Transfer → Transfer
shown_by input transfer = record transfer {
  direction = Input;
  layout = Listed;
  medium = Internal (file_of input.file);
  on_error = input.on_error;
  on_end = input.on_end;
}

pub is-shown : (input : InternalInput) (transfer : Transfer) → StandsFor input transfer → transfer ≡ shown_by input transfer
is-shown input transfer stands =
    ap (λ (direction : Direction). record transfer { direction = direction }) stands.direction
    ∙ ap (λ (layout : Layout). record transfer { direction = Input; layout = layout }) stands.layout
    ∙ ap (λ (medium : Medium). record transfer { direction = Input; layout = Listed; medium = medium }) stands.medium
    ∙ ap (λ (number : ℤ). record transfer { direction = Input; layout = Listed; medium = Internal (file_of input.file); on_error = number }) stands.on_error
    ∙ ap (λ (number : ℤ). record transfer { direction = Input; layout = Listed; medium = Internal (file_of input.file); on_error = input.on_error; on_end = number }) stands.on_end

pub input-ends : (input : InternalInput) → AnswersEnd input (pos 0)
unfolding library ends
input-ends input objects units transfer stands =
    ap (λ (one : Transfer). library (Finish internal_kind) (world_with objects (Some one) units) []) (is-shown input transfer stands)
