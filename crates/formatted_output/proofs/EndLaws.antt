-- What the end of a formatted output replies.
use Rattle.std.proofs.Common.{◌≡◌, ℕ, ℤ, pos, Bool, true, false, List, [], ◌∷◌, ◌++◌, length, drop, Option, Some, None, refl, ap, sym, ◌∙◌, subst, append_assoc}
use Rattle.std.specs.Prelude.{Result, Ok, Err, if◌then◌else◌}
use Rattle.std.specs.Ordering.{int_eq}
use Rattle.c_tree.specs.run_state.Units.{Units}
use Rattle.run_state.specs.declared.refusals.UnitRefusal.{UnitRefusal}
use Rattle.run_state.specs.declared.refusals.UnitRefusal.TheVariants.{NotConnected, NotOffered, Taken, PastEnd, Failed}
use Rattle.c_tree.specs.Faults.{Or, after}
use Rattle.c_tree.specs.Objects.{Object}
use Rattle.c_tree.specs.World.{Direction, Output as Writing, Layout, Formatted, Medium, Transfer, World, Reply, Gives, Stops, Io}
use Rattle.c_tree.specs.World as media
use Rattle.c_tree.specs.Transfers.{numbered, asked}
use Rattle.c_tree.specs.TransferOutput.{put_on_unit, put_last, write_all}
use Rattle.c_tree.specs.TransferCalls.{ends}
use Rattle.c_tree.specs.Builtins.{Finish}
use Rattle.c_tree.specs.Library.{library}
use Rattle.edit_rules.specs.edit_meaning.Formats.{Format, pass, reverted, edits_for}
use Rattle.edit_rules.specs.edit_meaning.Halts.{Halt}
use Rattle.edit_rules.specs.edit_meaning.EditedRecords.{Output, unit_sheet, made_on, output_closed}
use Rattle.f2c_outside.specs.Table.{Row}
use Rattle.f2c_outside.specs.Meaning.{units_of}
use Rattle.unit_answers.specs.declared.ends.CallEnd.{CallEnd}
use Rattle.unit_answers.specs.declared.ends.CallEnd.TheVariants.{Ended}
use Rattle.unit_answers.specs.Answers.{world_with, numbered_answer, Replies}
use Rattle.unit_answers.proofs.AnswerLaws.{numbered-replies}
use Rattle.listed_output.specs.Writing.{StayedOn, FailsOn, WritesAs}
use Rattle.listed_output.proofs.RowLaws.{stays-quietly}
use Rattle.listed_output.proofs.WriteLaws.{write-both, then_write}
use Rattle.formatted_records.specs.Sheets.{shown}
use Rattle.formatted_output.specs.declared.calls.FormattedOutput.{FormattedOutput}
use Rattle.formatted_output.specs.declared.acts.Stop.{Stop}
use Rattle.formatted_output.specs.declared.acts.Stop.TheVariants as stop
use Rattle.formatted_output.specs.Acting.{writing}
use Rattle.formatted_output.specs.Closing.{Finished, Finishes}
use Rattle.formatted_output.specs.Transferring.{formatted_kind, StandsFor, EndDevice, AnswersEnd, stop_answer, end_answer}

-- ## A transfer for which an output stands

-- the transfer, with what the output says of it
abbrev pub shown_by : FormattedOutput → Format → Transfer → Transfer
shown_by output format transfer = record transfer {
  direction = Writing;
  layout = Formatted format;
  medium = media.Unit output.unit;
  on_error = output.on_error;
  on_end = output.on_end;
}

pub is-shown : (text : List ℕ) (output : FormattedOutput) (transfer : Transfer) → (stands : StandsFor text output transfer) → transfer ≡ shown_by output stands.format transfer
is-shown text output transfer stands =
    ap (λ (direction : Direction). record transfer { direction = direction }) stands.direction
    ∙ ap (λ (layout : Layout). record transfer { direction = Writing; layout = layout }) stands.layout
    ∙ ap (λ (medium : Medium). record transfer { direction = Writing; layout = Formatted stands.format; medium = medium }) stands.medium
    ∙ ap (λ (number : ℤ). record transfer { direction = Writing; layout = Formatted stands.format; medium = media.Unit output.unit; on_error = number }) stands.on_error
    ∙ ap (λ (number : ℤ). record transfer { direction = Writing; layout = Formatted stands.format; medium = media.Unit output.unit; on_error = output.on_error; on_end = number }) stands.on_end

-- the lines behind those that are written
pub behind-written : (written : ℕ) (complete lines : List (List ℕ)) → written ≡ length complete → drop written (complete ++ lines) ≡ lines
behind-written written complete lines is = ap (λ (n : ℕ). drop n (complete ++ lines)) is ∙ by complete
  where
    by : (front : List (List ℕ)) → drop (length front) (front ++ lines) ≡ lines
    by [] = refl
    by (line ∷ later) = by later

-- ## The end

-- the end of a transfer, by what it made and what writing comes to
abbrev end_reply : ℤ → Transfer → World → Option Halt → Result Units UnitRefusal → Or Reply
end_reply unit transfer world halted found = after (put_on_unit unit world found) λ putting. Ok (put_last transfer halted putting)

abbrev whole : Format → Transfer → Output
whole format transfer = made_on unit_sheet format transfer.values true

end-called : (objects : List Object) (units : Units) (output : FormattedOutput) (format : Format) (transfer : Transfer) →
    library (Finish formatted_kind) (world_with objects (Some (shown_by output format transfer)) units) []
    ≡ end_reply output.unit (shown_by output format transfer) (world_with objects (Some (shown_by output format transfer)) units) (whole format transfer).halted
    (write_all output.unit (drop transfer.written (whole format transfer).complete) units)
unfolding library ends
end-called objects units output format transfer = refl

-- what the output makes to its end
whole-is : (text : List ℕ) (output : FormattedOutput) (transfer : Transfer) → (stands : StandsFor text output transfer) →
    whole stands.format transfer ≡ output_closed unit_sheet (edits_for stands.format (length transfer.values)).left (shown output.sheet stands.complete)
unfolding made_on
whole-is text output transfer stands = ap (output_closed unit_sheet (edits_for stands.format (length transfer.values)).left) stands.made

-- the reply once it is known what was made
end-known : (objects : List Object) (units : Units) (text : List ℕ) (output : FormattedOutput) (transfer : Transfer) (lines : List (List ℕ)) (halted : Option Halt) →
    (stands : StandsFor text output transfer) → (whole stands.format transfer).complete ≡ stands.complete ++ lines → (whole stands.format transfer).halted ≡ halted →
    library (Finish formatted_kind) (world_with objects (Some transfer) units) []
    ≡ end_reply output.unit (shown_by output stands.format transfer) (world_with objects (Some (shown_by output stands.format transfer)) units) halted (write_all output.unit lines units)
end-known objects units text output transfer lines halted stands made halts =
    ap (λ (one : Transfer). library (Finish formatted_kind) (world_with objects (Some one) units) []) (is-shown text output transfer stands)
    ∙ end-called objects units output stands.format transfer
    ∙ ap (λ (one : Option Halt). end_reply output.unit (shown_by output stands.format transfer) (world_with objects (Some (shown_by output stands.format transfer)) units) one
    (write_all output.unit (drop transfer.written (whole stands.format transfer).complete) units)) halts
    ∙ ap (λ (all : List (List ℕ)). end_reply output.unit (shown_by output stands.format transfer) (world_with objects (Some (shown_by output stands.format transfer)) units) halted (write_all output.unit all units))
    (ap (drop transfer.written) made ∙ behind-written transfer.written stands.complete lines stands.written)

refused-end :
    (refusal : UnitRefusal) (number : ℤ) (objects : List Object) (before after_it : Units) (text : List ℕ) (output : FormattedOutput) (transfer : Transfer) (lines later : List (List ℕ)) →
    ((world : World) → (one : Transfer) → (halted : Option Halt) → end_reply output.unit one world halted (Err refusal) ≡ Ok (numbered number one.on_error one.on_end world)) →
    (stands : StandsFor text output transfer) → (whole stands.format transfer).complete ≡ (stands.complete ++ lines) ++ later →
    (write_all output.unit lines before ≡ Err refusal) × (after_it ≡ before) →
    Replies (library (Finish formatted_kind) (world_with objects (Some transfer) before) []) (world_with objects None after_it) (numbered_answer number output.on_error output.on_end)
refused-end refusal number objects before after_it text output transfer lines later numbers stands made refused =
    let one : Transfer = shown_by output stands.format transfer in
    let halted : Option Halt = (whole stands.format transfer).halted in
    let all : write_all output.unit (lines ++ later) before ≡ Err refusal = write-both output.unit lines later before ∙ ap (then_write output.unit later) refused.0 in
    subst (λ (units : Units). Replies (library (Finish formatted_kind) (world_with objects (Some transfer) before) []) (world_with objects None units) (numbered_answer number output.on_error output.on_end))
    (sym refused.1)
    (subst (λ (meaning : Or Reply). Replies meaning (world_with objects None before) (numbered_answer number output.on_error output.on_end))
    (sym (end-known objects before text output transfer (lines ++ later) halted stands (made ∙ append_assoc stands.complete lines later) refl
    ∙ ap (end_reply output.unit one (world_with objects (Some one) before) halted) all
    ∙ numbers (world_with objects (Some one) before) one halted))
    (numbered-replies number output.on_error output.on_end (world_with objects (Some one) before)))

finished-whole : (text : List ℕ) (output : FormattedOutput) (transfer : Transfer) (lines : List (List ℕ)) (result : Result (Unit {0}) Stop) → (stands : StandsFor text output transfer) →
    Finished (output_closed unit_sheet (edits_for stands.format (length transfer.values)).left (shown output.sheet stands.complete)) (stands.complete ++ lines) result →
    Finished (whole stands.format transfer) (stands.complete ++ lines) result
finished-whole text output transfer lines result stands finished =
    subst (λ (out : Output). Finished out (stands.complete ++ lines) result) (sym (whole-is text output transfer stands)) finished

ends-reply :
    (objects : List Object) (before after_it : Units) (text : List ℕ) (output : FormattedOutput) (transfer : Transfer) (lines : List (List ℕ)) (result : Result (Unit {0}) Stop) →
    (stands : StandsFor text output transfer) → Finished (whole stands.format transfer) (stands.complete ++ lines) result → WritesAs output.unit lines before after_it (writing result) →
    Replies (library (Finish formatted_kind) (world_with objects (Some transfer) before) []) (world_with objects None after_it) (end_answer output result)
ends-reply objects before after_it text output transfer lines (Ok done) stands finished wrote =
    end-known objects before text output transfer lines None stands finished.0 finished.1
    ∙ ap (end_reply output.unit (shown_by output stands.format transfer) (world_with objects (Some (shown_by output stands.format transfer)) before) None) wrote
ends-reply objects before after_it text output transfer lines (Err (stop.Number number)) stands finished wrote =
    let one : Transfer = shown_by output stands.format transfer in
    let halt : Halt = finished.1.0 in
    subst (λ (meaning : Or Reply). Replies meaning (world_with objects None after_it) (numbered_answer number output.on_error output.on_end))
    (sym (end-known objects before text output transfer lines (Some halt) stands finished.0 finished.1.1
    ∙ ap (end_reply output.unit one (world_with objects (Some one) before) (Some halt)) wrote
    ∙ ap (λ (n : ℤ). Ok (numbered n output.on_error output.on_end (world_with objects (Some one) after_it))) finished.1.2))
    (numbered-replies number output.on_error output.on_end (world_with objects (Some one) after_it))
ends-reply objects before after_it text output transfer lines (Err (stop.Refused Failed)) stands finished wrote = tt
ends-reply objects before after_it text output transfer lines (Err (stop.Refused NotConnected)) stands finished wrote =
    refused-end NotConnected (pos 6) objects before after_it text output transfer lines finished.0 (λ world one halted. refl) stands finished.1 wrote
ends-reply objects before after_it text output transfer lines (Err (stop.Refused NotOffered)) stands finished wrote =
    refused-end NotOffered (pos 7) objects before after_it text output transfer lines finished.0 (λ world one halted. refl) stands finished.1 wrote
ends-reply objects before after_it text output transfer lines (Err (stop.Refused Taken)) stands finished wrote =
    refused-end Taken (pos 8) objects before after_it text output transfer lines finished.0 (λ world one halted. refl) stands finished.1 wrote
ends-reply objects before after_it text output transfer lines (Err (stop.Refused PastEnd)) stands finished wrote =
    refused-end PastEnd (pos 9) objects before after_it text output transfer lines finished.0 (λ world one halted. refl) stands finished.1 wrote
ends-reply objects before after_it text output transfer lines (Err (stop.Fault fault)) stands finished wrote = absurd finished

number-device : (number : ℤ) (output : FormattedOutput) (old new : List Row) → StayedOn output.unit old new → EndDevice output old new (numbered_answer number output.on_error output.on_end)
number-device number output old new stays = by (int_eq (asked number output.on_error output.on_end) (pos 0))
  where
    by : (over : Bool) → EndDevice output old new (if over then Err (Ended number) else Ok number)
    by true = stays-quietly output.unit old new stays
    by false = stays-quietly output.unit old new stays

ends-device : (output : FormattedOutput) (old new : List Row) (result : Result (Unit {0}) Stop) → FailsOn output.unit old new (writing result) → EndDevice output old new (end_answer output result)
ends-device output old new (Ok done) stays = stays-quietly output.unit old new stays
ends-device output old new (Err (stop.Number number)) stays = number-device number output old new stays
ends-device output old new (Err (stop.Refused Failed)) failed = (refl, failed)
ends-device output old new (Err (stop.Refused NotConnected)) stays = number-device (pos 6) output old new stays
ends-device output old new (Err (stop.Refused NotOffered)) stays = number-device (pos 7) output old new stays
ends-device output old new (Err (stop.Refused Taken)) stays = number-device (pos 8) output old new stays
ends-device output old new (Err (stop.Refused PastEnd)) stays = number-device (pos 9) output old new stays
ends-device output old new (Err (stop.Fault fault)) stays = stays

pub end-answered :
    (text : List ℕ) (output : FormattedOutput) (own : ℤ) (old new : List Row) (done : Result (Unit {0}) Stop) (result : Result ℤ CallEnd) → result ≡ end_answer output done → own ≡ output.unit →
    Finishes text output.walk own output.sheet old new done → AnswersEnd text output old new result
end-answered text output own old new done result given same finishes' =
    let finishes : Finishes text output.walk output.unit output.sheet old new done = subst (λ (number : ℤ). Finishes text output.walk number output.sheet old new done) same finishes' in
    subst (λ (answer : Result ℤ CallEnd). AnswersEnd text output old new answer) (sym given)
    (record {
      tells = finishes.writes.tells;
      replies = λ tells objects transfer stands.
          ends-reply objects (units_of old) (units_of new) text output transfer finishes.lines done stands
          (finished-whole text output transfer finishes.lines done stands
          (finishes.comes (pass (reverted stands.format)) (edits_for stands.format (length transfer.values)).left stands.walks stands.complete stands.on))
          (finishes.writes.means tells);
      devices = ends-device output old new done finishes.writes.devices;
    })

-- the same answer, by the same numbers
pub same-stop : (unit unit' on_error on_error' on_end on_end' : ℤ) (why : Stop) (result : Result ℤ CallEnd) → result ≡ stop_answer unit' on_error' on_end' why → unit' ≡ unit →
    on_error' ≡ on_error → on_end' ≡ on_end → result ≡ stop_answer unit on_error on_end why
same-stop unit unit' on_error on_error' on_end on_end' why result is same_unit same_error same_end =
    is ∙ ap (λ (number : ℤ). stop_answer number on_error' on_end' why) same_unit ∙ ap (λ (number : ℤ). stop_answer unit number on_end' why) same_error
    ∙ ap (λ (number : ℤ). stop_answer unit on_error number why) same_end
