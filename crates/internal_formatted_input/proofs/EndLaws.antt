-- What the end of a formatted input on an internal file replies.
use Rattle.std.proofs.Common.{◌≡◌, ℕ, ◌-◌, ℤ, List, [], length, Option, Some, None, refl, ap, sym, ◌∙◌, subst}
use Rattle.std.specs.Prelude.{Result, Ok, Err}
use Rattle.c_tree.specs.run_state.Units.{Units}
use Rattle.c_tree.specs.Faults.{Or}
use Rattle.c_tree.specs.Objects.{Object}
use Rattle.c_tree.specs.World.{Transfer, Reply}
use Rattle.c_tree.specs.Transfers.{numbered}
use Rattle.c_tree.specs.TransferInput.{closed_input}
use Rattle.c_tree.specs.TransferCalls.{ends}
use Rattle.c_tree.specs.Builtins.{Finish}
use Rattle.c_tree.specs.Library.{library}
use Rattle.edit_rules.specs.edit_meaning.Formats.{Format, closing, pass, reverted}
use Rattle.edit_rules.specs.edit_meaning.Halts.{Halt}
use Rattle.edit_rules.specs.edit_meaning.ListItems.{Value}
use Rattle.edit_rules.specs.edit_meaning.TakenRecords.{Input, input}
use Rattle.edit_rules.specs.edit_meaning.Transfers.{edited}
use Rattle.unit_answers.specs.declared.ends.CallEnd.{CallEnd}
use Rattle.unit_answers.specs.Answers.{world_with, numbered_answer, Replies, IfDevice}
use Rattle.unit_answers.proofs.AnswerLaws.{numbered-replies}
use Rattle.unit_answers.proofs.CallLaws.{numbered-device}
use Rattle.internal_output.specs.Files.{file_of}
use Rattle.internal_output.specs.declared.files.FileRecords.{FileRecords}
use Rattle.internal_records.specs.Fetching.{coming}
use Rattle.taken_records.specs.declared.record.RecordInput.{RecordInput}
use Rattle.internal_formatted_input.specs.declared.calls.InternalFormattedInput.{InternalFormattedInput}
use Rattle.internal_formatted_input.specs.declared.acts.Stop.{Stop}
use Rattle.internal_formatted_input.specs.declared.acts.Stop.TheVariants as stop
use Rattle.internal_formatted_input.specs.Acting.{input_at, Stops, Comes}
use Rattle.internal_formatted_input.specs.Reaching.{Closes}
use Rattle.internal_formatted_input.specs.Transferring.{formatted_kind, StandsFor, AnswersEnd, stop_answer, end_answer}
use Rattle.internal_formatted_input.proofs.ItemLaws.{shown_by, is-shown, stop_reply, format-stops}

-- what the format comes to behind the last item
abbrev closed_of : InternalFormattedInput → Transfer → List Object → Input
closed_of given transfer objects = edited input None (closing transfer.course.left) [] (input_at objects (file_of given.file) given.record)

end-called : (objects : List Object) (units : Units) (given : InternalFormattedInput) (format : Format) (later : List (List ℕ)) (values : List Value) (transfer : Transfer) →
    library (Finish formatted_kind) (world_with objects (Some (shown_by given format later values transfer)) units) []
    ≡ closed_input (shown_by given format later values transfer) (world_with objects (Some (shown_by given format later values transfer)) units) (coming objects (file_of given.file))
    (closed_of given transfer objects) (closed_of given transfer objects).halted
unfolding library ends
end-called objects units given format later values transfer = refl

end-known : (objects : List Object) (units : Units) (text : List ℕ) (given : InternalFormattedInput) (transfer : Transfer) (halted : Option Halt) → (stands : StandsFor text given transfer) →
    (closed_of given transfer objects).halted ≡ halted →
    library (Finish formatted_kind) (world_with objects (Some transfer) units) []
    ≡ closed_input (shown_by given stands.format stands.later stands.values transfer) (world_with objects (Some (shown_by given stands.format stands.later stands.values transfer)) units)
    (coming objects (file_of given.file)) (closed_of given transfer objects) halted
end-known objects units text given transfer halted stands is =
    let one : Transfer = shown_by given stands.format stands.later stands.values transfer in
    ap (λ (t : Transfer). library (Finish formatted_kind) (world_with objects (Some t) units) []) (is-shown text given transfer stands)
    ∙ end-called objects units given stands.format stands.later stands.values transfer
    ∙ ap (closed_input one (world_with objects (Some one) units) (coming objects (file_of given.file)) (closed_of given transfer objects)) is

end-stops : (objects : List Object) (units : Units) (text : List ℕ) (given : InternalFormattedInput) (transfer : Transfer) (why : Stop) → (stands : StandsFor text given transfer) →
    Stops objects (file_of given.file) (closed_of given transfer objects) why →
    library (Finish formatted_kind) (world_with objects (Some transfer) units) []
    ≡ stop_reply why given (world_with objects (Some (shown_by given stands.format stands.later stands.values transfer)) units)
end-stops objects units text given transfer why stands stops =
    let one : Transfer = shown_by given stands.format stands.later stands.values transfer in
    end-known objects units text given transfer (Some stops.halt) stands stops.halted
    ∙ format-stops why stops.halt given stands.format stands.later stands.values transfer objects (Some one) units (coming objects (file_of given.file))
    (length (coming objects (file_of given.file)).lines - length (closed_of given transfer objects).later) stops.by

numbered-end : (meaning : Or Reply) (number : ℤ) (given : InternalFormattedInput) (objects : List Object) (units : Units) (one : Transfer) →
    meaning ≡ Ok (numbered number given.on_error given.on_end (world_with objects (Some one) units)) → Replies meaning (world_with objects None units) (numbered_answer number given.on_error given.on_end)
numbered-end meaning number given objects units one is =
    subst (λ (other : Or Reply). Replies other (world_with objects None units) (numbered_answer number given.on_error given.on_end)) (sym is)
    (numbered-replies number given.on_error given.on_end (world_with objects (Some one) units))

ends-reply :
    (objects : List Object) (units : Units) (text : List ℕ) (given : InternalFormattedInput) (transfer : Transfer) (file' : FileRecords) (new : RecordInput) (result : Result (Unit {0}) Stop) →
    (stands : StandsFor text given transfer) → Comes objects (closed_of given transfer objects) (file_of given.file) (file_of file') new result →
    Replies (library (Finish formatted_kind) (world_with objects (Some transfer) units) []) (world_with objects None units) (end_answer given result)
ends-reply objects units text given transfer file' new (Ok done) stands comes =
    end-known objects units text given transfer None stands (ap (λ (out : Input). out.halted) comes.is)
ends-reply objects units text given transfer file' new (Err (stop.Number number)) stands stops =
    numbered-end (library (Finish formatted_kind) (world_with objects (Some transfer) units) []) number given objects units (shown_by given stands.format stands.later stands.values transfer)
    (end-stops objects units text given transfer (stop.Number number) stands stops)
ends-reply objects units text given transfer file' new (Err (stop.Fault fault)) stands stops = end-stops objects units text given transfer (stop.Fault fault) stands stops

-- no end is that of a device
pub stop-device : (why : Stop) (on_error on_end : ℤ) → IfDevice (stop_answer on_error on_end why) (λ unit. ⊥) (Unit {0})
stop-device (stop.Number number) on_error on_end = numbered-device number on_error on_end (λ unit. ⊥) (Unit {0}) tt
stop-device (stop.Fault fault) on_error on_end = tt

ends-device : (given : InternalFormattedInput) (result : Result (Unit {0}) Stop) → IfDevice (end_answer given result) (λ unit. ⊥) (Unit {0})
ends-device given (Ok done) = tt
ends-device given (Err why) = stop-device why given.on_error given.on_end

pub end-answered :
    (text : List ℕ) (given : InternalFormattedInput) (file' : FileRecords) (new : RecordInput) (objects : List Object) (done : Result (Unit {0}) Stop) (result : Result ℤ CallEnd) → result ≡ end_answer given done →
    Closes objects text given.walk given.record new (file_of given.file) (file_of file') done → AnswersEnd text given objects result
end-answered text given file' new objects done result is closes =
    subst (λ (answer : Result ℤ CallEnd). AnswersEnd text given objects answer) (sym is)
    (record {
      replies = λ units transfer stands.
          ends-reply objects units text given transfer file' new done stands (closes (pass (reverted stands.format)) transfer.course.left stands.walks);
      no_device = ends-device given done;
    })

-- the same answer, by the same numbers
pub same-stop : (on_error on_error' on_end on_end' : ℤ) (why : Stop) (result : Result ℤ CallEnd) → result ≡ stop_answer on_error' on_end' why → on_error' ≡ on_error → on_end' ≡ on_end →
    result ≡ stop_answer on_error on_end why
same-stop on_error on_error' on_end on_end' why result is same_error same_end =
    is ∙ ap (λ (number : ℤ). stop_answer number on_end' why) same_error ∙ ap (λ (number : ℤ). stop_answer on_error number why) same_end
