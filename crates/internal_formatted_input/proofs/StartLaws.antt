-- What the start of a formatted input on an internal file replies.
use Rattle.std.proofs.Common.{◌≡◌, ℕ, true, List, [], ◌∷◌, Option, None, refl, ap, sym, ◌∙◌, subst}
use Rattle.std.specs.Prelude.{Result, Ok, Err, codes}
use Rattle.c_tree.specs.run_state.Units.{Units}
use Rattle.c_tree.specs.declared.outcome.CValue.{CValue}
use Rattle.c_tree.specs.declared.outcome.CFault.{CFault}
use Rattle.c_tree.specs.declared.types.ListType.TheVariants as list_type
use Rattle.c_tree.specs.Faults.{Or, failing}
use Rattle.c_tree.specs.Objects.{Object}
use Rattle.c_tree.specs.World.{Reply}
use Rattle.c_tree.specs.FormatsGiven.{format_at}
use Rattle.c_tree.specs.Transfers.{internal_control, format_field}
use Rattle.c_tree.specs.TransferStarts.{starts}
use Rattle.c_tree.specs.Builtins.{Begin}
use Rattle.c_tree.specs.Library.{library}
use Rattle.edit_rules.specs.edit_meaning.Formats.{Format}
use Rattle.control_lists.specs.declared.controls.InternalControl.{InternalControl}
use Rattle.control_lists.specs.Controls.{internal_shown}
use Rattle.formatted_output.specs.Fronts.{ReadsFormat}
use Rattle.unit_answers.specs.declared.ends.CallEnd.{CallEnd}
use Rattle.unit_answers.specs.declared.ends.CallEnd.TheVariants.{Fault}
use Rattle.unit_answers.specs.Answers.{world_with}
use Rattle.unit_answers.proofs.OrLemmas.{known, faulty}
use Rattle.internal_formatted_input.specs.declared.calls.Start.{Start}
use Rattle.internal_formatted_input.specs.Transferring.{formatted_kind, StartReplies, Answers, AnswersStart, FirstReads, FormatStarts, first_under, under}

-- ## Starts with which no transfer begins

answers-as : (meaning other : Units → Or Reply) (objects : List Object) (text : List ℕ) (result : Result Start CallEnd) → ((units : Units) → meaning units ≡ other units) →
    Answers other objects text result → Answers meaning objects text result
answers-as meaning other objects text result same answers = record {
  inside = answers.inside;
  replies = λ units. subst (λ (one : Or Reply). StartReplies one objects units text result) (sym (same units)) (answers.replies units);
}

fault-starts : (fault : CFault) (objects : List Object) (text : List ℕ) → Answers (λ units. failing fault) objects text (Err (Fault fault))
fault-starts fault objects text = record { inside = tt; replies = λ units. refl }

-- ## The format

pub under-format : (found : Or (Option Format)) (objects : List Object) (control : InternalControl) (text : List ℕ) (result : Result Start CallEnd) → ReadsFormat found text (Ok true) →
    FirstReads objects control text result → FormatStarts found objects control text result
under-format found objects control text result reads first =
    answers-as (under objects control found) (first_under objects control reads.0) objects text result (λ units. ap (λ (one : Or (Option Format)). under objects control one units) reads.1.1)
    (first reads.0 reads.1.0 reads.1.2)

-- ## The start

-- the start, once its list is read
started : (objects : List Object) (units : Units) (pointer given : CValue) (control : InternalControl) → Ok (internal_shown control) ≡ internal_control objects pointer →
    Ok given ≡ format_field list_type.Internal (codes "icifmt") objects pointer →
    library (Begin formatted_kind) (world_with objects None units) (pointer ∷ []) ≡ under objects control (format_at objects given) units
unfolding library starts
started objects units pointer given control is format =
    known (internal_control objects pointer) (internal_shown control) _ is ∙ known (format_field list_type.Internal (codes "icifmt") objects pointer) given _ format

pub start-under :
    (objects : List Object) (pointer given : CValue) (control : InternalControl) (text : List ℕ) (result : Result Start CallEnd) →
    Ok (internal_shown control) ≡ internal_control objects pointer → Ok given ≡ format_field list_type.Internal (codes "icifmt") objects pointer →
    FormatStarts (format_at objects given) objects control text result → AnswersStart objects pointer text result
start-under objects pointer given control text result is format answers =
    answers-as (λ units. library (Begin formatted_kind) (world_with objects None units) (pointer ∷ [])) (under objects control (format_at objects given)) objects text result
    (λ units. started objects units pointer given control is format) answers

list-fault : (objects : List Object) (units : Units) (pointer : CValue) (fault : CFault) → failing fault ≡ internal_control objects pointer →
    library (Begin formatted_kind) (world_with objects None units) (pointer ∷ []) ≡ failing fault
unfolding library starts
list-fault objects units pointer fault is = faulty (internal_control objects pointer) fault _ is

pub list-faulty : (objects : List Object) (pointer : CValue) (text : List ℕ) (fault : CFault) → failing fault ≡ internal_control objects pointer → AnswersStart objects pointer text (Err (Fault fault))
list-faulty objects pointer text fault is =
    answers-as (λ units. library (Begin formatted_kind) (world_with objects None units) (pointer ∷ [])) (λ units. failing fault) objects text (Err (Fault fault))
    (λ units. list-fault objects units pointer fault is) (fault-starts fault objects text)

format-fault : (objects : List Object) (units : Units) (pointer : CValue) (control : InternalControl) (fault : CFault) → Ok (internal_shown control) ≡ internal_control objects pointer →
    failing fault ≡ format_field list_type.Internal (codes "icifmt") objects pointer → library (Begin formatted_kind) (world_with objects None units) (pointer ∷ []) ≡ failing fault
unfolding library starts
format-fault objects units pointer control fault is format =
    known (internal_control objects pointer) (internal_shown control) _ is ∙ faulty (format_field list_type.Internal (codes "icifmt") objects pointer) fault _ format

pub format-faulty : (objects : List Object) (pointer : CValue) (text : List ℕ) (control : InternalControl) (fault : CFault) → Ok (internal_shown control) ≡ internal_control objects pointer →
    failing fault ≡ format_field list_type.Internal (codes "icifmt") objects pointer → AnswersStart objects pointer text (Err (Fault fault))
format-faulty objects pointer text control fault is format =
    answers-as (λ units. library (Begin formatted_kind) (world_with objects None units) (pointer ∷ [])) (λ units. failing fault) objects text (Err (Fault fault))
    (λ units. format-fault objects units pointer control fault is format) (fault-starts fault objects text)
