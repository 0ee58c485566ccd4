-- What the start of a formatted output on an internal file replies.
use Rattle.std.proofs.Common.{◌≡◌, ℕ, zero, suc, pos, false, List, [], ◌∷◌, Option, Some, None, refl, ap, sym, ◌∙◌, subst}
use Rattle.std.specs.Prelude.{Result, Ok, Err, codes}
use Rattle.c_tree.specs.run_state.Units.{Units}
use Rattle.c_tree.specs.declared.outcome.CValue.{CValue}
use Rattle.c_tree.specs.declared.outcome.CFault.{CFault}
use Rattle.c_tree.specs.declared.types.ListType.TheVariants as list_type
use Rattle.c_tree.specs.Faults.{Or, after, failing}
use Rattle.c_tree.specs.Objects.{Object}
use Rattle.c_tree.specs.World.{Output, Formatted, Internal, InternalFile, Transfer, Reply, Gives}
use Rattle.c_tree.specs.FormatsGiven.{format_at}
use Rattle.c_tree.specs.Transfers.{internal_control, format_field, new_transfer, when_format}
use Rattle.c_tree.specs.TransferStarts.{starts}
use Rattle.c_tree.specs.Builtins.{Begin}
use Rattle.c_tree.specs.Library.{library}
use Rattle.edit_rules.specs.edit_meaning.Formats.{Format, Edit, Served, pass, reverted}
use Rattle.edit_rules.specs.edit_meaning.FormatGrammar.{SpellsFormat}
use Rattle.edit_rules.specs.edit_meaning.EditedRecords.{Sheet, output, output_start, made_on}
use Rattle.edit_rules.specs.edit_meaning.Transfers.{served_over}
use Rattle.edit_rules.specs.Walks as walks
use Rattle.edit_rules.proofs.EditLaws.{edits_none}
use Rattle.control_lists.specs.declared.controls.InternalControl.{InternalControl}
use Rattle.control_lists.specs.Controls.{file_shown, internal_shown}
use Rattle.unit_answers.specs.declared.ends.CallEnd.{CallEnd}
use Rattle.unit_answers.specs.declared.ends.CallEnd.TheVariants.{Fault, Ended, Device}
use Rattle.unit_answers.specs.Answers.{world_with}
use Rattle.unit_answers.proofs.OrLemmas.{known, faulty}
use Rattle.formatted_records.specs.Sheets.{StandsOn, Begins}
use Rattle.formatted_output.proofs.StartLaws.{given-number, ended-number}
use Rattle.internal_output.specs.Files.{file_of}
use Rattle.internal_formatted.specs.declared.calls.InternalFormatted.{InternalFormatted}
use Rattle.internal_formatted.specs.declared.calls.Start.{Start}
use Rattle.internal_formatted.specs.declared.calls.Start.TheVariants as start
use Rattle.internal_formatted.specs.Transferring.{formatted_kind, page_in, Going, StandsFor, WithRecords, WithoutRecords, AnswersStart, IsBegun, FormatStarts}
use Rattle.internal_formatted.proofs.ItemLaws.{none-more}

-- ## A transfer as it begins

made-none : (page : Sheet) (format : Format) → made_on page format [] false ≡ output_start page
unfolding made_on
made-none page format = ap (λ (served : Served). served_over (output page) served [] (output_start page)) (edits_none format) ∙ none-more page (output_start page).halted (output_start page)

abbrev first : InternalControl → Format → Transfer
first control format = new_transfer Output (Formatted format) (internal_shown control)

-- on a file with records
goes-at-start : (control : InternalControl) (text : List ℕ) (out : InternalFormatted) (format : Format) (behind : List ℕ) → SpellsFormat format text behind → IsBegun control text out →
    (control.count ≡ 0 → ⊥) → Going text out (first control format)
goes-at-start control text out format behind spelled is some =
    let begins : Begins (page_in (file_shown control)) out.sheet = is.sheet some in
    let page : page_in (file_of out.file) ≡ page_in (file_shown control) = ap page_in is.file in
    record {
      direction = refl;
      format = format;
      layout = refl;
      medium = ap Internal (sym is.file);
      on_error = sym is.on_error;
      on_end = sym is.on_end;
      served = ap (λ (served : Served). served.unserved) (edits_none format);
      walks = subst (λ (left : List Edit). walks.Stands text (pass (reverted format)) out.walk left) (sym (ap (λ (served : Served). served.left) (edits_none format)))
          (is.walks format behind spelled);
      complete = [];
      on = subst (λ (one : Sheet). StandsOn one [] out.sheet) (sym page) begins.0;
      made = made-none (page_in (file_of out.file)) format ∙ ap output_start page ∙ begins.1;
      written = refl;
    }

stands-at-start : (control : InternalControl) (text : List ℕ) (out : InternalFormatted) (format : Format) (behind : List ℕ) → SpellsFormat format text behind → IsBegun control text out →
    StandsFor text out (first control format)
stands-at-start control text out format behind spelled is = by control.count refl
  where
    by : (count : ℕ) → control.count ≡ count → StandsFor text out (first control format)
    by zero none = WithoutRecords (record {
      direction = refl;
      format = format;
      layout = refl;
      medium = ap Internal (sym is.file);
      on_error = sym is.on_error;
      on_end = sym is.on_end;
      none = ap (λ (file : InternalFile). file.count) is.file ∙ none;
      values = refl;
      written = refl;
      inside = record { again = pass (reverted format); rest = pass format; stands = is.walks format behind spelled };
    })
    by (suc more) some = WithRecords (goes-at-start control text out format behind spelled is (λ none. let clash : suc more ≡ 0 = sym some ∙ none in absurd (cc)))

-- ## The start

-- the rest of a start
abbrev under : List Object → Units → InternalControl → Or (Option Format) → Or Reply
under objects units control given =
    after given λ format. when_format format (internal_shown control) (world_with objects None units) λ format.
    Ok (Gives (pos 0) (world_with objects (Some (first control format)) units))

-- the start, once its list is read
started : (objects : List Object) (units : Units) (pointer given : CValue) (control : InternalControl) → Ok (internal_shown control) ≡ internal_control objects pointer →
    Ok given ≡ format_field list_type.Internal (codes "icifmt") objects pointer →
    library (Begin formatted_kind) (world_with objects None units) (pointer ∷ []) ≡ under objects units control (format_at objects given)
unfolding library starts
started objects units pointer given control is format =
    known (internal_control objects pointer) (internal_shown control) _ is ∙ known (format_field list_type.Internal (codes "icifmt") objects pointer) given _ format

pub start-under :
    (objects : List Object) (pointer given : CValue) (control : InternalControl) (text : List ℕ) (result : Result Start CallEnd) →
    Ok (internal_shown control) ≡ internal_control objects pointer → Ok given ≡ format_field list_type.Internal (codes "icifmt") objects pointer →
    FormatStarts (format_at objects given) control text result → AnswersStart objects pointer text result
start-under objects pointer given control text (Ok (start.Begins out)) is format starts units = record {
  transfer = first control starts.0;
  stands = stands-at-start control text out starts.0 starts.1.0 starts.1.2 starts.1.3;
  replies = started objects units pointer given control is format ∙ ap (under objects units control) starts.1.1;
}
start-under objects pointer given control text (Ok (start.Answers number)) is format starts units =
    started objects units pointer given control is format ∙ ap (under objects units control) starts.0
    ∙ ap (λ (reply : Reply). Ok reply) (given-number (pos 10) control.on_error control.on_end number objects units starts.1)
start-under objects pointer given control text (Err (Fault fault)) is format starts units =
    started objects units pointer given control is format ∙ ap (under objects units control) starts
start-under objects pointer given control text (Err (Ended number)) is format starts units =
    started objects units pointer given control is format ∙ ap (under objects units control) starts.0
    ∙ ap (λ (reply : Reply). Ok reply) (ended-number (pos 10) control.on_error control.on_end number objects units starts.1)
start-under objects pointer given control text (Err (Device number)) is format starts units = absurd starts

pub list-faulty : (objects : List Object) (pointer : CValue) (text : List ℕ) (fault : CFault) → failing fault ≡ internal_control objects pointer → AnswersStart objects pointer text (Err (Fault fault))
unfolding library starts
list-faulty objects pointer text fault is units = faulty (internal_control objects pointer) fault _ is

pub format-faulty : (objects : List Object) (pointer : CValue) (text : List ℕ) (control : InternalControl) (fault : CFault) → Ok (internal_shown control) ≡ internal_control objects pointer →
    failing fault ≡ format_field list_type.Internal (codes "icifmt") objects pointer → AnswersStart objects pointer text (Err (Fault fault))
unfolding library starts
format-faulty objects pointer text control fault is format units =
    known (internal_control objects pointer) (internal_shown control) _ is ∙ faulty (format_field list_type.Internal (codes "icifmt") objects pointer) fault _ format
