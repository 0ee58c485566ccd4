-- What the end of a formatted output on an internal file replies.
use Rattle.std.proofs.Common.{◌≡◌, ℕ, ℤ, pos, negsuc, true, List, [], ◌++◌, length, drop, Option, Some, None, refl, ap, sym, ◌∙◌, subst, append_assoc}
use Rattle.std.specs.Prelude.{Result, Ok, Err}
use Rattle.c_tree.specs.run_state.Units.{Units}
use Rattle.c_tree.specs.Faults.{Or, after}
use Rattle.c_tree.specs.Objects.{Object}
use Rattle.c_tree.specs.World.{InternalFile, Transfer, World, Reply}
use Rattle.c_tree.specs.Transfers.{numbered}
use Rattle.c_tree.specs.TransferOutput.{Filling, fill_all, put_in_file, put_last}
use Rattle.c_tree.specs.TransferCalls.{ends}
use Rattle.c_tree.specs.Builtins.{Finish}
use Rattle.c_tree.specs.Library.{library}
use Rattle.edit_rules.specs.edit_meaning.Formats.{Format, pass, reverted, edits_for}
use Rattle.edit_rules.specs.edit_meaning.Halts.{Halt}
use Rattle.edit_rules.specs.edit_meaning.EditedRecords.{Output, internal_sheet, made_on, output_closed}
use Rattle.item_deeds.proofs.FormLaws.{same-objects}
use Rattle.unit_answers.specs.declared.ends.CallEnd.{CallEnd}
use Rattle.unit_answers.specs.Answers.{world_with, numbered_answer, Replies, IfDevice}
use Rattle.unit_answers.proofs.AnswerLaws.{numbered-replies}
use Rattle.unit_answers.proofs.CallLaws.{numbered-device}
use Rattle.formatted_records.specs.Sheets.{shown}
use Rattle.formatted_output.proofs.EndLaws.{behind-written}
use Rattle.internal_output.specs.declared.files.FileRecords.{FileRecords}
use Rattle.internal_output.specs.declared.files.RecordRefusal.{RecordRefusal}
use Rattle.internal_output.specs.declared.files.RecordRefusal.TheVariants.{UsedUp, TooLong, Faulty}
use Rattle.internal_output.specs.Files.{file_of, filling_by}
use Rattle.internal_output.proofs.FileLaws.{fills-refused}
use Rattle.internal_formatted.specs.declared.calls.InternalFormatted.{InternalFormatted}
use Rattle.internal_formatted.specs.declared.acts.Stop.{Stop}
use Rattle.internal_formatted.specs.declared.acts.Stop.TheVariants as stop
use Rattle.internal_formatted.specs.Acting.{storing}
use Rattle.internal_formatted.specs.Closing.{Finished, Finishes}
use Rattle.internal_formatted.specs.Storing.{held, Stores}
use Rattle.internal_formatted.specs.Transferring.{formatted_kind, Going, Recordless, StandsFor, WithRecords, WithoutRecords, AnswersEnd, stop_answer, end_answer}
use Rattle.internal_formatted.proofs.ShownLaws.{shown_by, is-shown, blank_by, is-recordless}
use Rattle.internal_formatted.proofs.ItemLaws.{page_of}
use Rattle.internal_formatted.proofs.RecordlessLaws.{closed-nothing, going-not}

-- ## The end on a file with records

-- the end of a transfer, by what it made and what storing comes to
abbrev end_reply : Transfer → World → Option Halt → Or Filling → Or Reply
end_reply transfer world halted found = after (after found λ filling. Ok (put_in_file world filling)) λ putting. Ok (put_last transfer halted putting)

abbrev whole : InternalFormatted → Format → Transfer → Output
whole output format transfer = made_on (page_of output) format transfer.values true

-- the world of a transfer for which an output stands
abbrev world_by : List Object → Units → Transfer → World
world_by objects units one = world_with objects (Some one) units

end-called : (objects : List Object) (units : Units) (output : InternalFormatted) (format : Format) (transfer : Transfer) →
    library (Finish formatted_kind) (world_by objects units (shown_by output format transfer)) []
    ≡ end_reply (shown_by output format transfer) (world_by objects units (shown_by output format transfer)) (whole output format transfer).halted
    (fill_all (drop transfer.written (whole output format transfer).complete) (file_of output.file) objects)
unfolding library ends
end-called objects units output format transfer = refl

-- what the output makes to its end
whole-is : (text : List ℕ) (output : InternalFormatted) (transfer : Transfer) → (stands : Going text output transfer) →
    whole output stands.format transfer ≡ output_closed (page_of output) (edits_for stands.format (length transfer.values)).left (shown output.sheet stands.complete)
unfolding made_on
whole-is text output transfer stands = ap (output_closed (page_of output) (edits_for stands.format (length transfer.values)).left) stands.made

-- the reply once it is known what was made
end-known : (objects : List Object) (units : Units) (text : List ℕ) (output : InternalFormatted) (transfer : Transfer) (lines : List (List ℕ)) (halted : Option Halt) →
    (stands : Going text output transfer) → (whole output stands.format transfer).complete ≡ stands.complete ++ lines → (whole output stands.format transfer).halted ≡ halted →
    library (Finish formatted_kind) (world_by objects units transfer) []
    ≡ end_reply (shown_by output stands.format transfer) (world_by objects units (shown_by output stands.format transfer)) halted (fill_all lines (file_of output.file) objects)
end-known objects units text output transfer lines halted stands made halts =
    let one : Transfer = shown_by output stands.format transfer in
    ap (λ (t : Transfer). library (Finish formatted_kind) (world_by objects units t) []) (is-shown text output transfer stands)
    ∙ end-called objects units output stands.format transfer
    ∙ ap (λ (why : Option Halt). end_reply one (world_by objects units one) why (fill_all (drop transfer.written (whole output stands.format transfer).complete) (file_of output.file) objects)) halts
    ∙ ap (λ (all : List (List ℕ)). end_reply one (world_by objects units one) halted (fill_all all (file_of output.file) objects))
    (ap (drop transfer.written) made ∙ behind-written transfer.written stands.complete lines stands.written)

refused-end :
    (refusal : RecordRefusal) (old new : List Object) (file' : FileRecords) (units : Units) (text : List ℕ) (output : InternalFormatted) (transfer : Transfer) (lines later : List (List ℕ)) →
    (stands : Going text output transfer) → (whole output stands.format transfer).complete ≡ (stands.complete ++ lines) ++ later →
    fill_all lines (file_of output.file) old ≡ filling_by (file_of file') new (Err refusal) →
    library (Finish formatted_kind) (world_by old units transfer) []
    ≡ end_reply (shown_by output stands.format transfer) (world_by old units (shown_by output stands.format transfer)) (whole output stands.format transfer).halted
    (filling_by (file_of file') new (Err refusal))
refused-end refusal old new file' units text output transfer lines later stands made refused =
    let one : Transfer = shown_by output stands.format transfer in
    end-known old units text output transfer (lines ++ later) (whole output stands.format transfer).halted stands (made ∙ append_assoc stands.complete lines later) refl
    ∙ ap (end_reply one (world_by old units one) (whole output stands.format transfer).halted) (fills-refused lines later output.file old file' new refusal refused)

finished-whole : (text : List ℕ) (output : InternalFormatted) (transfer : Transfer) (lines : List (List ℕ)) (result : Result (Unit {0}) Stop) → (stands : Going text output transfer) →
    Finished (output_closed (page_of output) (edits_for stands.format (length transfer.values)).left (shown output.sheet stands.complete)) (stands.complete ++ lines) result →
    Finished (whole output stands.format transfer) (stands.complete ++ lines) result
finished-whole text output transfer lines result stands finished =
    subst (λ (out : Output). Finished out (stands.complete ++ lines) result) (sym (whole-is text output transfer stands)) finished

-- a number that ends the output
numbered-end : (meaning : Or Reply) (number : ℤ) (output : InternalFormatted) (new : List Object) (units : Units) (one : Transfer) →
    meaning ≡ Ok (numbered number output.on_error output.on_end (world_with new (Some one) units)) → Replies meaning (world_with new None units) (numbered_answer number output.on_error output.on_end)
numbered-end meaning number output new units one is =
    subst (λ (other : Or Reply). Replies other (world_with new None units) (numbered_answer number output.on_error output.on_end)) (sym is)
    (numbered-replies number output.on_error output.on_end (world_with new (Some one) units))

ends-reply :
    (old new : List Object) (file' : FileRecords) (units : Units) (text : List ℕ) (output : InternalFormatted) (transfer : Transfer) (lines : List (List ℕ)) (result : Result (Unit {0}) Stop) →
    (stands : Going text output transfer) → Finished (whole output stands.format transfer) (stands.complete ++ lines) result → Stores lines (held output.file old) (held file' new) (storing result) →
    Replies (library (Finish formatted_kind) (world_by old units transfer) []) (world_with new None units) (end_answer output result)
ends-reply old new file' units text output transfer lines (Ok done) stands finished stored =
    let one : Transfer = shown_by output stands.format transfer in
    end-known old units text output transfer lines None stands finished.0 finished.1 ∙ ap (end_reply one (world_by old units one) None) stored.fills
ends-reply old new file' units text output transfer lines (Err (stop.Number number)) stands finished stored =
    let one : Transfer = shown_by output stands.format transfer in
    numbered-end (library (Finish formatted_kind) (world_by old units transfer) []) number output new units one
    (end-known old units text output transfer lines (Some finished.1.0) stands finished.0 finished.1.1
    ∙ ap (end_reply one (world_by old units one) (Some finished.1.0)) stored.fills
    ∙ ap (λ (n : ℤ). Ok (numbered n output.on_error output.on_end (world_with new (Some one) units))) finished.1.2)
ends-reply old new file' units text output transfer lines (Err (stop.Refused UsedUp)) stands finished stored =
    numbered-end (library (Finish formatted_kind) (world_by old units transfer) []) (negsuc 0) output new units (shown_by output stands.format transfer)
    (refused-end UsedUp old new file' units text output transfer lines finished.0 stands finished.1 stored.fills)
ends-reply old new file' units text output transfer lines (Err (stop.Refused TooLong)) stands finished stored =
    numbered-end (library (Finish formatted_kind) (world_by old units transfer) []) (pos 5) output new units (shown_by output stands.format transfer)
    (refused-end TooLong old new file' units text output transfer lines finished.0 stands finished.1 stored.fills)
ends-reply old new file' units text output transfer lines (Err (stop.Refused (Faulty fault))) stands finished stored =
    refused-end (Faulty fault) old new file' units text output transfer lines finished.0 stands finished.1 stored.fills
ends-reply old new file' units text output transfer lines (Err (stop.Fault fault)) stands finished stored = absurd finished

-- no end is that of a device
pub stop-device : (why : Stop) (on_error on_end : ℤ) → IfDevice (stop_answer on_error on_end why) (λ unit. ⊥) (Unit {0})
stop-device (stop.Number number) on_error on_end = numbered-device number on_error on_end (λ unit. ⊥) (Unit {0}) tt
stop-device (stop.Refused UsedUp) on_error on_end = numbered-device (negsuc 0) on_error on_end (λ unit. ⊥) (Unit {0}) tt
stop-device (stop.Refused TooLong) on_error on_end = numbered-device (pos 5) on_error on_end (λ unit. ⊥) (Unit {0}) tt
stop-device (stop.Refused (Faulty fault)) on_error on_end = tt
stop-device (stop.Fault fault) on_error on_end = tt

ends-device : (output : InternalFormatted) (result : Result (Unit {0}) Stop) → IfDevice (end_answer output result) (λ unit. ⊥) (Unit {0})
ends-device output (Ok done) = tt
ends-device output (Err why) = stop-device why output.on_error output.on_end

pub end-answered :
    (text : List ℕ) (output : InternalFormatted) (file' : FileRecords) (old new : List Object) (done : Result (Unit {0}) Stop) (result : Result ℤ CallEnd) → result ≡ end_answer output done →
    (output.file.count ≡ 0 → ⊥) → Finishes text output.walk output.sheet (held output.file old) (held file' new) done → AnswersEnd text output old new result
end-answered text output file' old new done result given some finishes =
    subst (λ (answer : Result ℤ CallEnd). AnswersEnd text output old new answer) (sym given)
    (record { replies = λ units transfer stands. by units transfer stands; forms = finishes.stores.forms; no_device = ends-device output done })
  where
    by : (units : Units) (transfer : Transfer) → StandsFor text output transfer →
        Replies (library (Finish formatted_kind) (world_by old units transfer) []) (world_with new None units) (end_answer output done)
    by units transfer (WithRecords stands) =
        ends-reply old new file' units text output transfer finishes.lines done stands
        (finished-whole text output transfer finishes.lines done stands
        (finishes.comes (pass (reverted stands.format)) (edits_for stands.format (length transfer.values)).left stands.walks (page_of output) stands.complete stands.on))
        finishes.stores
    by units transfer (WithoutRecords stands) = absurd (some stands.none)

-- the same answer, by the same numbers
pub same-stop : (on_error on_error' on_end on_end' : ℤ) (why : Stop) (result : Result ℤ CallEnd) → result ≡ stop_answer on_error' on_end' why → on_error' ≡ on_error → on_end' ≡ on_end →
    result ≡ stop_answer on_error on_end why
same-stop on_error on_error' on_end on_end' why result is same_error same_end =
    is ∙ ap (λ (number : ℤ). stop_answer number on_end' why) same_error ∙ ap (λ (number : ℤ). stop_answer on_error number why) same_end

-- ## The end on a file that has no record

-- the end, by all that was made
abbrev end_rest : InternalFile → Transfer → World → Output → Or Reply
end_rest file one world out = end_reply one world out.halted (fill_all out.complete file world.objects)

blank-called : (objects : List Object) (units : Units) (output : InternalFormatted) (format : Format) (transfer : Transfer) →
    library (Finish formatted_kind) (world_by objects units (blank_by output format transfer)) []
    ≡ end_rest (file_of output.file) (blank_by output format transfer) (world_by objects units (blank_by output format transfer)) (made_on (page_of output) format [] true)
unfolding library ends
blank-called objects units output format transfer = refl

recordless-end : {text : List ℕ} (objects : List Object) (units : Units) (output : InternalFormatted) (transfer : Transfer) → (stands : Recordless text output transfer) →
    library (Finish formatted_kind) (world_by objects units transfer) []
    ≡ Ok (numbered (negsuc 0) output.on_error output.on_end (world_by objects units (blank_by output stands.format transfer)))
recordless-end objects units output transfer stands =
    let one : Transfer = blank_by output stands.format transfer in
    ap (λ (t : Transfer). library (Finish formatted_kind) (world_by objects units t) []) (is-recordless output transfer stands)
    ∙ blank-called objects units output stands.format transfer
    ∙ ap (end_rest (file_of output.file) one (world_by objects units one))
    (ap (λ (count : ℕ). made_on (internal_sheet count output.file.size) stands.format [] true) stands.none ∙ closed-nothing output.file.size stands.format [])

pub recordless-ended :
    (text : List ℕ) (output : InternalFormatted) (objects : List Object) (result : Result ℤ CallEnd) → result ≡ numbered_answer (negsuc 0) output.on_error output.on_end → output.file.count ≡ 0 →
    AnswersEnd text output objects objects result
recordless-ended text output objects result given none =
    subst (λ (answer : Result ℤ CallEnd). AnswersEnd text output objects objects answer) (sym given)
    (record {
      replies = λ units transfer stands. by units transfer stands;
      forms = same-objects objects;
      no_device = numbered-device (negsuc 0) output.on_error output.on_end (λ unit. ⊥) (Unit {0}) tt;
    })
  where
    by : (units : Units) (transfer : Transfer) → StandsFor text output transfer →
        Replies (library (Finish formatted_kind) (world_by objects units transfer) []) (world_with objects None units) (numbered_answer (negsuc 0) output.on_error output.on_end)
    by units transfer (WithRecords stands) = absurd (going-not text output transfer stands none)
    by units transfer (WithoutRecords stands) =
        numbered-end (library (Finish formatted_kind) (world_by objects units transfer) []) (negsuc 0) output objects units (blank_by output stands.format transfer)
        (recordless-end objects units output transfer stands)

pub same-number : (on_error on_error' on_end on_end' : ℤ) (result : Result ℤ CallEnd) → result ≡ numbered_answer (negsuc 0) on_error' on_end' → on_error' ≡ on_error → on_end' ≡ on_end →
    result ≡ numbered_answer (negsuc 0) on_error on_end
same-number on_error on_error' on_end on_end' result is same_error same_end =
    is ∙ ap (λ (number : ℤ). numbered_answer (negsuc 0) number on_end') same_error ∙ ap (λ (number : ℤ). numbered_answer (negsuc 0) on_error number) same_end
