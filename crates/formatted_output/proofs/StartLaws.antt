-- What the start of a formatted output replies.
use Rattle.std.proofs.Common.{◌≡◌, ℕ, ℤ, pos, Bool, true, false, List, [], ◌∷◌, Option, Some, None, refl, ap, sym, ◌∙◌, subst}
use Rattle.std.specs.Prelude.{Result, Ok, Err, codes, if◌then◌else◌}
use Rattle.std.specs.Ordering.{int_eq}
use Rattle.c_tree.specs.run_state.Units.{Units, is_connected}
use Rattle.c_tree.specs.declared.outcome.CValue.{CValue}
use Rattle.c_tree.specs.declared.outcome.CFault.{CFault}
use Rattle.c_tree.specs.declared.types.ListType.TheVariants as list_type
use Rattle.c_tree.specs.Faults.{Or, after, failing}
use Rattle.c_tree.specs.Objects.{Object}
use Rattle.c_tree.specs.World.{Output, Formatted, Transfer, World, Reply, Gives, Stops, Io}
use Rattle.c_tree.specs.World as media
use Rattle.c_tree.specs.FormatsGiven.{format_at}
use Rattle.c_tree.specs.Transfers.{asked, numbered, unit_control, format_field, new_transfer, when_format}
use Rattle.c_tree.specs.TransferStarts.{starts}
use Rattle.c_tree.specs.Builtins.{Begin}
use Rattle.c_tree.specs.Library.{library}
use Rattle.edit_rules.specs.edit_meaning.Formats.{Format, Edit, Served, pass, reverted}
use Rattle.edit_rules.specs.edit_meaning.FormatGrammar.{SpellsFormat}
use Rattle.edit_rules.specs.edit_meaning.EditedRecords.{output, output_start, unit_sheet, made_on}
use Rattle.edit_rules.specs.edit_meaning.Transfers.{served_over}
use Rattle.edit_rules.specs.Walks as walks
use Rattle.edit_rules.proofs.EditLaws.{edits_none}
use Rattle.control_lists.specs.declared.controls.UnitControl.{UnitControl}
use Rattle.control_lists.specs.Controls.{unit_shown}
use Rattle.unit_answers.specs.declared.ends.CallEnd.{CallEnd}
use Rattle.unit_answers.specs.declared.ends.CallEnd.TheVariants.{Fault, Ended, Device}
use Rattle.unit_answers.specs.Answers.{world_with, numbered_answer}
use Rattle.unit_answers.proofs.OrLemmas.{known, faulty}
use Rattle.formatted_output.specs.declared.calls.FormattedOutput.{FormattedOutput}
use Rattle.formatted_output.specs.declared.calls.Start.{Start}
use Rattle.formatted_output.specs.declared.calls.Start.TheVariants as start
use Rattle.formatted_output.specs.Transferring.{formatted_kind, StandsFor, StartReplies, IsBegun, FormatStarts, start_of}

-- ## A number that a start answers

-- a number that is answered, or that ends the run
pub given-number : (number on_error on_end answer : ℤ) (objects : List Object) (units : Units) → numbered_answer number on_error on_end ≡ Ok answer →
    numbered number on_error on_end (world_with objects None units) ≡ Gives answer (world_with objects None units)
given-number number on_error on_end answer objects units = by (int_eq (asked number on_error on_end) (pos 0))
  where
    by : (over : Bool) → (let r : Result ℤ CallEnd = if over then Err (Ended number) else Ok number in r) ≡ Ok answer →
        (if over then Stops (Io number) (world_with objects None units) else Gives number (world_with objects None units)) ≡ Gives answer (world_with objects None units)
    by true is = absurd (cc)
    by false is = let same : number ≡ answer = cc in ap (λ (n : ℤ). Gives n (world_with objects None units)) same

pub ended-number : (number on_error on_end last : ℤ) (objects : List Object) (units : Units) → numbered_answer number on_error on_end ≡ Err (Ended last) →
    numbered number on_error on_end (world_with objects None units) ≡ Stops (Io last) (world_with objects None units)
ended-number number on_error on_end last objects units = by (int_eq (asked number on_error on_end) (pos 0))
  where
    by : (over : Bool) → (let r : Result ℤ CallEnd = if over then Err (Ended number) else Ok number in r) ≡ Err (Ended last) →
        (if over then Stops (Io number) (world_with objects None units) else Gives number (world_with objects None units)) ≡ Stops (Io last) (world_with objects None units)
    by true is = let same : number ≡ last = cc in ap (λ (n : ℤ). Stops (Io n) (world_with objects None units)) same
    by false is = absurd (cc)

number-replies : (number on_error on_end : ℤ) (objects : List Object) (units : Units) (text : List ℕ) →
    StartReplies (Ok (numbered number on_error on_end (world_with objects None units))) objects units text (start_of (numbered_answer number on_error on_end))
number-replies number on_error on_end objects units text = by (int_eq (asked number on_error on_end) (pos 0))
  where
    by : (over : Bool) →
        StartReplies (Ok (if over then Stops (Io number) (world_with objects None units) else Gives number (world_with objects None units))) objects units text
        (start_of (if over then Err (Ended number) else Ok number))
    by true = refl
    by false = refl

-- ## A transfer as it begins

made-none : (format : Format) → made_on unit_sheet format [] false ≡ output_start unit_sheet
unfolding made_on
made-none format = ap (λ (served : Served). served_over (output unit_sheet) served [] (output_start unit_sheet)) (edits_none format)

stands-at-start : (control : UnitControl) (text : List ℕ) (out : FormattedOutput) (format : Format) (behind : List ℕ) → SpellsFormat format text behind → IsBegun control text out →
    StandsFor text out (new_transfer Output (Formatted format) (unit_shown control))
stands-at-start control text out format behind spelled is = record {
  direction = refl;
  format = format;
  layout = refl;
  medium = ap media.Unit (sym is.unit);
  on_error = sym is.on_error;
  on_end = sym is.on_end;
  served = ap (λ (served : Served). served.unserved) (edits_none format);
  walks = subst (λ (left : List Edit). walks.Stands text (pass (reverted format)) out.walk left) (sym (ap (λ (served : Served). served.left) (edits_none format)))
      (is.walks format behind spelled);
  complete = [];
  on = is.sheet.0;
  made = made-none format ∙ is.sheet.1;
  written = refl;
}

-- ## The start

-- the rest of a start on a connected unit
abbrev under : List Object → Units → UnitControl → Or (Option Format) → Or Reply
under objects units control given =
    after given λ format. when_format format (unit_shown control) (world_with objects None units) λ format.
    Ok (Gives (pos 0) (world_with objects (Some (new_transfer Output (Formatted format) (unit_shown control))) units))

-- the start, once its list is read
started : (objects : List Object) (units : Units) (pointer given : CValue) (control : UnitControl) → Ok (unit_shown control) ≡ unit_control objects pointer →
    Ok given ≡ format_field list_type.Transfer (codes "cifmt") objects pointer →
    library (Begin formatted_kind) (world_with objects None units) (pointer ∷ [])
    ≡ (if is_connected control.unit units then under objects units control (format_at objects given)
    else Ok (numbered (pos 6) control.on_error control.on_end (world_with objects None units)))
unfolding library starts
started objects units pointer given control is format =
    known (unit_control objects pointer) (unit_shown control) _ is ∙ known (format_field list_type.Transfer (codes "cifmt") objects pointer) given _ format

connected :
    (objects : List Object) (units : Units) (pointer given : CValue) (control : UnitControl) (unit : ℤ) (there : Bool) → Ok (unit_shown control) ≡ unit_control objects pointer →
    Ok given ≡ format_field list_type.Transfer (codes "cifmt") objects pointer → unit ≡ control.unit → there ≡ is_connected unit units →
    library (Begin formatted_kind) (world_with objects None units) (pointer ∷ [])
    ≡ (if there then under objects units control (format_at objects given)
    else Ok (numbered (pos 6) control.on_error control.on_end (world_with objects None units)))
connected objects units pointer given control unit there is format same connects =
    started objects units pointer given control is format
    ∙ ap (λ (number : ℤ). if is_connected number units then under objects units control (format_at objects given)
    else Ok (numbered (pos 6) control.on_error control.on_end (world_with objects None units))) (sym same)
    ∙ ap (λ (one : Bool). if one then under objects units control (format_at objects given)
    else Ok (numbered (pos 6) control.on_error control.on_end (world_with objects None units))) (sym connects)

pub start-under :
    (objects : List Object) (units : Units) (pointer given : CValue) (control : UnitControl) (unit : ℤ) (text : List ℕ) (result : Result Start CallEnd) →
    Ok (unit_shown control) ≡ unit_control objects pointer → Ok given ≡ format_field list_type.Transfer (codes "cifmt") objects pointer → unit ≡ control.unit →
    true ≡ is_connected unit units → FormatStarts (format_at objects given) control text result →
    StartReplies (library (Begin formatted_kind) (world_with objects None units) (pointer ∷ [])) objects units text result
start-under objects units pointer given control unit text (Ok (start.Begins out)) is format same there starts = record {
  transfer = new_transfer Output (Formatted starts.0) (unit_shown control);
  stands = stands-at-start control text out starts.0 starts.1.0 starts.1.2 starts.1.3;
  replies = connected objects units pointer given control unit true is format same there ∙ ap (under objects units control) starts.1.1;
}
start-under objects units pointer given control unit text (Ok (start.Answers number)) is format same there starts =
    connected objects units pointer given control unit true is format same there ∙ ap (under objects units control) starts.0
    ∙ ap (λ (reply : Reply). Ok reply) (given-number (pos 10) control.on_error control.on_end number objects units starts.1)
start-under objects units pointer given control unit text (Err (Fault fault)) is format same there starts =
    connected objects units pointer given control unit true is format same there ∙ ap (under objects units control) starts
start-under objects units pointer given control unit text (Err (Ended number)) is format same there starts =
    connected objects units pointer given control unit true is format same there ∙ ap (under objects units control) starts.0
    ∙ ap (λ (reply : Reply). Ok reply) (ended-number (pos 10) control.on_error control.on_end number objects units starts.1)
start-under objects units pointer given control unit text (Err (Device number)) is format same there starts = absurd starts

pub start-refused :
    (objects : List Object) (units : Units) (pointer given : CValue) (control : UnitControl) (unit on_error on_end : ℤ) (text : List ℕ) (answer : Result ℤ CallEnd) (result : Result Start CallEnd) →
    result ≡ start_of answer → answer ≡ numbered_answer (pos 6) on_error on_end → Ok (unit_shown control) ≡ unit_control objects pointer →
    Ok given ≡ format_field list_type.Transfer (codes "cifmt") objects pointer → unit ≡ control.unit → false ≡ is_connected unit units → on_error ≡ control.on_error → on_end ≡ control.on_end →
    StartReplies (library (Begin formatted_kind) (world_with objects None units) (pointer ∷ [])) objects units text result
start-refused objects units pointer given control unit on_error on_end text answer result shown numbers is format same there same_error same_end =
    subst (λ (one : Result Start CallEnd). StartReplies (library (Begin formatted_kind) (world_with objects None units) (pointer ∷ [])) objects units text one)
    (sym (shown ∙ ap start_of (numbers ∙ ap (λ (number : ℤ). numbered_answer (pos 6) number on_end) same_error ∙ ap (λ (number : ℤ). numbered_answer (pos 6) control.on_error number) same_end)))
    (subst (λ (meaning : Or Reply). StartReplies meaning objects units text (start_of (numbered_answer (pos 6) control.on_error control.on_end)))
    (sym (connected objects units pointer given control unit false is format same there))
    (number-replies (pos 6) control.on_error control.on_end objects units text))

pub list-faulty : (objects : List Object) (units : Units) (pointer : CValue) (fault : CFault) → failing fault ≡ unit_control objects pointer →
    library (Begin formatted_kind) (world_with objects None units) (pointer ∷ []) ≡ failing fault
unfolding library starts
list-faulty objects units pointer fault is = faulty (unit_control objects pointer) fault _ is

pub format-faulty : (objects : List Object) (units : Units) (pointer : CValue) (control : UnitControl) (fault : CFault) → Ok (unit_shown control) ≡ unit_control objects pointer →
    failing fault ≡ format_field list_type.Transfer (codes "cifmt") objects pointer →
    library (Begin formatted_kind) (world_with objects None units) (pointer ∷ []) ≡ failing fault
unfolding library starts
format-faulty objects units pointer control fault is format =
    known (unit_control objects pointer) (unit_shown control) _ is ∙ faulty (format_field list_type.Transfer (codes "cifmt") objects pointer) fault _ format
