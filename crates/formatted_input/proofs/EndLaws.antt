-- What the end of a formatted input replies.
use Rattle.std.proofs.Common.{◌≡◌, ℕ, ℤ, pos, Bool, true, false, List, [], Some, None, refl, ap, sym, ◌∙◌, subst}
use Rattle.std.specs.Prelude.{Result, Ok, Err, if◌then◌else◌}
use Rattle.std.specs.Ordering.{int_eq}
use Rattle.c_tree.specs.run_state.Units.{Units}
use Rattle.c_tree.specs.Faults.{Or}
use Rattle.c_tree.specs.Objects.{Object}
use Rattle.c_tree.specs.World.{Transfer, Reply, Gives}
use Rattle.c_tree.specs.Transfers.{asked}
use Rattle.c_tree.specs.TransferInput.{closed_input}
use Rattle.c_tree.specs.TransferCalls.{ends}
use Rattle.c_tree.specs.Builtins.{Finish}
use Rattle.c_tree.specs.Library.{library}
use Rattle.edit_rules.specs.edit_meaning.Formats.{closing, pass, reverted}
use Rattle.edit_rules.specs.edit_meaning.TakenRecords.{Input, input}
use Rattle.edit_rules.specs.edit_meaning.Transfers.{edited}
use Rattle.f2c_outside.specs.Table.{Row}
use Rattle.f2c_outside.specs.Meaning.{units_of}
use Rattle.unit_answers.specs.declared.ends.CallEnd.{CallEnd}
use Rattle.unit_answers.specs.declared.ends.CallEnd.TheVariants.{Ended}
use Rattle.unit_answers.specs.Failing.{NoneFailed}
use Rattle.unit_answers.specs.Answers.{world_with, numbered_answer, Replies}
use Rattle.unit_answers.proofs.AnswerLaws.{numbered-replies}
use Rattle.listed_output.proofs.RowLaws.{stays-quietly}
use Rattle.listed_input.specs.Fetching.{coming}
use Rattle.taken_records.specs.declared.record.RecordInput.{RecordInput}
use Rattle.formatted_input.specs.declared.calls.FormattedInput.{FormattedInput}
use Rattle.formatted_input.specs.declared.acts.Stop.{Stop}
use Rattle.formatted_input.specs.declared.acts.Stop.TheVariants as stop
use Rattle.formatted_input.specs.Acting.{input_at, Comes, ReadsFrom}
use Rattle.formatted_input.specs.Reaching.{Closes}
use Rattle.formatted_input.specs.Transferring.{formatted_kind, StandsFor, EndDevice, AnswersEnd, stop_answer, end_answer}
use Rattle.formatted_input.proofs.ItemLaws.{shown_by, is-shown, stop-replies, read-counted}

-- the input behind what the format gives with no item left
abbrev closed_state : FormattedInput → Transfer → Units → Input
closed_state given transfer units = edited input None (closing transfer.course.left) [] (input_at given.unit given.record units)

abbrev end_reply : (text : List ℕ) (given : FormattedInput) (transfer : Transfer) → StandsFor text given transfer → List Object → Units → Input → Or Reply
end_reply text given transfer stands objects units state =
    closed_input (shown_by text given transfer stands) (world_with objects (Some (shown_by text given transfer stands)) units) (coming given.unit units) state state.halted

end-called : (text : List ℕ) (objects : List Object) (units : Units) (given : FormattedInput) (transfer : Transfer) → (stands : StandsFor text given transfer) →
    library (Finish formatted_kind) (world_with objects (Some (shown_by text given transfer stands)) units) []
    ≡ end_reply text given transfer stands objects units (closed_state given transfer units)
unfolding library ends
end-called text objects units given transfer stands = refl

end-known : (text : List ℕ) (objects : List Object) (units : Units) (given : FormattedInput) (transfer : Transfer) (state : Input) → (stands : StandsFor text given transfer) →
    closed_state given transfer units ≡ state →
    library (Finish formatted_kind) (world_with objects (Some transfer) units) [] ≡ end_reply text given transfer stands objects units state
end-known text objects units given transfer state stands is =
    ap (λ (one : Transfer). library (Finish formatted_kind) (world_with objects (Some one) units) []) (is-shown text given transfer stands)
    ∙ end-called text objects units given transfer stands
    ∙ ap (end_reply text given transfer stands objects units) is

ends-reply :
    (objects : List Object) (before after_it : Units) (text : List ℕ) (given : FormattedInput) (transfer : Transfer) (new : RecordInput) (result : Result (Unit {0}) Stop) →
    (stands : StandsFor text given transfer) → Comes (closed_state given transfer before) given.unit before after_it new result →
    Replies (library (Finish formatted_kind) (world_with objects (Some transfer) before) []) (world_with objects None after_it) (end_answer given result)
ends-reply objects before after_it text given transfer new (Ok done) stands comes =
    end-known text objects before given transfer (input_at given.unit new after_it) stands comes.is
    ∙ ap (λ (units : Units). Ok (Gives (pos 0) (world_with objects None units))) (read-counted given.unit (coming given.unit after_it).lines before after_it comes.reads.reads)
ends-reply objects before after_it text given transfer new (Err (stop.Number number)) stands comes =
    let one : Transfer = shown_by text given transfer stands in
    let state : Input = closed_state given transfer before in
    subst (λ (meaning : Or Reply). Replies meaning (world_with objects None after_it) (numbered_answer number given.on_error given.on_end))
    (sym (end-known text objects before given transfer state stands refl
    ∙ ap (closed_input one (world_with objects (Some one) before) (coming given.unit before) state) comes.halted
    ∙ stop-replies given.unit number one objects (Some one) before after_it state.later comes.halt refl comes.reads))
    (numbered-replies number given.on_error given.on_end (world_with objects (Some one) after_it))
ends-reply objects before after_it text given transfer new (Err stop.Device) stands comes = tt
ends-reply objects before after_it text given transfer new (Err (stop.Fault fault)) stands comes = absurd comes

number-device : (number : ℤ) (given : FormattedInput) (old new : List Row) → NoneFailed old new → EndDevice given old new (numbered_answer number given.on_error given.on_end)
number-device number given old new none = by (int_eq (asked number given.on_error given.on_end) (pos 0))
  where
    by : (over : Bool) → EndDevice given old new (if over then Err (Ended number) else Ok number)
    by true = none
    by false = none

ends-device : (given : FormattedInput) (old new : List Row) (result : Result (Unit {0}) Stop) → ReadsFrom given.unit old new result → EndDevice given old new (end_answer given result)
ends-device given old new (Ok done) stays = stays-quietly given.unit old new stays
ends-device given old new (Err (stop.Number number)) none = number-device number given old new none
ends-device given old new (Err stop.Device) failed = (refl, failed)
ends-device given old new (Err (stop.Fault fault)) stays = stays

pub end-answered :
    (text : List ℕ) (given : FormattedInput) (own : ℤ) (last : RecordInput) (old new : List Row) (done : Result (Unit {0}) Stop) (result : Result ℤ CallEnd) → result ≡ end_answer given done → own ≡ given.unit →
    Closes text given.walk own given.record last old new done → AnswersEnd text given old new result
end-answered text given own last old new done result is same closes' =
    let closes : Closes text given.walk given.unit given.record last old new done = subst (λ (number : ℤ). Closes text given.walk number given.record last old new done) same closes' in
    subst (λ (answer : Result ℤ CallEnd). AnswersEnd text given old new answer) (sym is)
    (record {
      tells = closes.tells;
      replies = λ tells objects transfer stands.
          ends-reply objects (units_of old) (units_of new) text given transfer last done stands
          (closes.comes tells (pass (reverted stands.format)) transfer.course.left stands.walks);
      devices = ends-device given old new done closes.devices;
    })

-- the same answer, by the same numbers
pub same-stop : (unit unit' on_error on_error' on_end on_end' : ℤ) (why : Stop) (result : Result ℤ CallEnd) → result ≡ stop_answer unit' on_error' on_end' why → unit' ≡ unit →
    on_error' ≡ on_error → on_end' ≡ on_end → result ≡ stop_answer unit on_error on_end why
same-stop unit unit' on_error on_error' on_end on_end' why result is same_unit same_error same_end =
    is ∙ ap (λ (number : ℤ). stop_answer number on_error' on_end' why) same_unit ∙ ap (λ (number : ℤ). stop_answer unit number on_end' why) same_error
    ∙ ap (λ (number : ℤ). stop_answer unit on_error number why) same_end
