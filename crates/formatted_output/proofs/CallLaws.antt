-- What a call with items of a formatted output replies.
use Rattle.std.proofs.Common.{◌≡◌, ℕ, ℤ, pos, Bool, true, false, List, [], ◌∷◌, Some, None, refl, ap, sym, ◌∙◌, subst}
use Rattle.std.specs.Prelude.{Result, Ok, Err, if◌then◌else◌}
use Rattle.std.specs.Ordering.{int_eq}
use Rattle.c_tree.specs.run_state.Units.{Units}
use Rattle.run_state.specs.declared.refusals.UnitRefusal.TheVariants.{NotConnected, NotOffered, Taken, PastEnd, Failed}
use Rattle.c_tree.specs.declared.outcome.CValue.{CValue}
use Rattle.c_tree.specs.declared.outcome.CFault.{CFault}
use Rattle.c_tree.specs.Faults.{Or, after, failing}
use Rattle.c_tree.specs.Objects.{Object}
use Rattle.c_tree.specs.World.{Transfer, Reply, Gives, Stops, Io}
use Rattle.c_tree.specs.LibraryArguments.{number_through, count_from, length_from}
use Rattle.c_tree.specs.Transfers.{asked}
use Rattle.c_tree.specs.TransferOutput.{formatted_put}
use Rattle.c_tree.specs.TransferCalls.{each_item, formatted_items}
use Rattle.c_tree.specs.Builtins.{do_fio}
use Rattle.c_tree.specs.Library.{library}
use Rattle.edit_rules.specs.edit_meaning.Formats.{Format}
use Rattle.edit_rules.specs.Walks.{StandsIn}
use Rattle.f2c_outside.specs.Table.{Row}
use Rattle.f2c_outside.specs.Meaning.{units_of}
use Rattle.unit_answers.specs.declared.ends.CallEnd.{CallEnd}
use Rattle.unit_answers.specs.declared.ends.CallEnd.TheVariants.{Fault, Ended}
use Rattle.unit_answers.specs.Answers.{world_with, numbered_answer}
use Rattle.unit_answers.proofs.OrLemmas.{known, faulty, behind, same-rest}
use Rattle.listed_output.specs.Writing.{StayedOn, FailsOn}
use Rattle.listed_output.proofs.RowLaws.{stays-quietly, stays-same}
use Rattle.formatted_output.specs.declared.calls.FormattedOutput.{FormattedOutput}
use Rattle.formatted_output.specs.declared.calls.Passage.{Passage}
use Rattle.formatted_output.specs.declared.calls.Passage.TheVariants.{GoesOn}
use Rattle.formatted_output.specs.declared.items.ItemList.{ItemList}
use Rattle.formatted_output.specs.declared.acts.Stop.{Stop}
use Rattle.formatted_output.specs.declared.acts.Stop.TheVariants as stop
use Rattle.formatted_output.specs.Acting.{writing}
use Rattle.formatted_output.specs.Putting.{SameOutput, Numbered, ItemsMean, PutsItems, list_shown, items_given}
use Rattle.formatted_output.specs.Transferring.{StandsFor, ItemsReply, ItemsDevice, AnswersItems, stop_answer, over_by}
use Rattle.formatted_output.proofs.EndLaws.{shown_by, is-shown}

-- a call with items, once its arguments are read
items-called : (objects : List Object) (units : Units) (output : FormattedOutput) (format : Format) (transfer : Transfer) (count first size : CValue) →
    library do_fio (world_with objects (Some (shown_by output format transfer)) units) (count ∷ first ∷ size ∷ [])
    ≡ after (items_given objects count size)
    (λ given. each_item given.size (formatted_put format given.size) given.count first (shown_by output format transfer) (world_with objects (Some (shown_by output format transfer)) units))
unfolding library formatted_items
items-called objects units output format transfer count first size =
    sym (behind (number_through objects count) _ _
    ∙ same-rest (number_through objects count) _ _ (λ count_number. behind (count_from count_number) _ _
    ∙ same-rest (count_from count_number) _ _ (λ number. behind (length_from size) _ _)))

items-known : (objects : List Object) (units : Units) (text : List ℕ) (output : FormattedOutput) (transfer : Transfer) (count first size : CValue) (list : ItemList) → (stands : StandsFor text output transfer) →
    Ok (list_shown list) ≡ items_given objects count size →
    library do_fio (world_with objects (Some transfer) units) (count ∷ first ∷ size ∷ [])
    ≡ each_item list.size (formatted_put stands.format list.size) list.count first transfer (world_with objects (Some transfer) units)
items-known objects units text output transfer count first size list stands given =
    ap (λ (one : Transfer). library do_fio (world_with objects (Some one) units) (count ∷ first ∷ size ∷ [])) (is-shown text output transfer stands)
    ∙ items-called objects units output stands.format transfer count first size
    ∙ known (items_given objects count size) (list_shown list) _ given
    ∙ ap (λ (one : Transfer). each_item list.size (formatted_put stands.format list.size) list.count first one (world_with objects (Some one) units)) (sym (is-shown text output transfer stands))

items-fault : (objects : List Object) (units : Units) (text : List ℕ) (output : FormattedOutput) (transfer : Transfer) (count first size : CValue) (fault : CFault) → StandsFor text output transfer →
    failing fault ≡ items_given objects count size → library do_fio (world_with objects (Some transfer) units) (count ∷ first ∷ size ∷ []) ≡ failing fault
items-fault objects units text output transfer count first size fault stands given =
    ap (λ (one : Transfer). library do_fio (world_with objects (Some one) units) (count ∷ first ∷ size ∷ [])) (is-shown text output transfer stands)
    ∙ items-called objects units output stands.format transfer count first size
    ∙ faulty (items_given objects count size) fault _ given

-- what the code answers
abbrev pub items_answer : FormattedOutput → Result (Unit {0}) Stop → Result Passage CallEnd
items_answer output (Ok done) = Ok GoesOn
items_answer output (Err why) = over_by (stop_answer output.unit output.on_error output.on_end why)

number-reply : (meaning : Or Reply) (objects : List Object) (units : Units) (text : List ℕ) (output output' : FormattedOutput) (number : ℤ) → Numbered meaning objects units output number →
    ItemsReply meaning objects units text output' (over_by (numbered_answer number output.on_error output.on_end))
number-reply meaning objects units text output output' number is =
    subst (λ (one : Or Reply). ItemsReply one objects units text output' (over_by (numbered_answer number output.on_error output.on_end))) (sym is)
    (by (int_eq (asked number output.on_error output.on_end) (pos 0)))
  where
    by : (over : Bool) →
        ItemsReply (Ok (if over then Stops (Io number) (world_with objects None units) else Gives number (world_with objects None units))) objects units text output'
        (over_by (if over then Err (Ended number) else Ok number))
    by true = refl
    by false = refl

puts-reply : (meaning : Or Reply) (objects : List Object) (units : Units) (text : List ℕ) (output output' : FormattedOutput) (done : Result (Unit {0}) Stop) →
    ItemsMean meaning objects units text output output' done → ItemsReply meaning objects units text output' (items_answer output done)
puts-reply meaning objects units text output output' (Ok done) means = means
puts-reply meaning objects units text output output' (Err (stop.Number number)) means = number-reply meaning objects units text output output' number means
puts-reply meaning objects units text output output' (Err (stop.Refused NotConnected)) means = number-reply meaning objects units text output output' (pos 6) means
puts-reply meaning objects units text output output' (Err (stop.Refused NotOffered)) means = number-reply meaning objects units text output output' (pos 7) means
puts-reply meaning objects units text output output' (Err (stop.Refused Taken)) means = number-reply meaning objects units text output output' (pos 8) means
puts-reply meaning objects units text output output' (Err (stop.Refused PastEnd)) means = number-reply meaning objects units text output output' (pos 9) means
puts-reply meaning objects units text output output' (Err (stop.Refused Failed)) means = tt
puts-reply meaning objects units text output output' (Err (stop.Fault fault)) means = means

number-device : (number : ℤ) (output : FormattedOutput) (old new : List Row) → StayedOn output.unit old new → ItemsDevice output old new (over_by (numbered_answer number output.on_error output.on_end))
number-device number output old new stays = by (int_eq (asked number output.on_error output.on_end) (pos 0))
  where
    by : (over : Bool) → ItemsDevice output old new (over_by (if over then Err (Ended number) else Ok number))
    by true = stays-quietly output.unit old new stays
    by false = stays-quietly output.unit old new stays

puts-device : (output : FormattedOutput) (old new : List Row) (done : Result (Unit {0}) Stop) → FailsOn output.unit old new (writing done) → ItemsDevice output old new (items_answer output done)
puts-device output old new (Ok done) stays = stays-quietly output.unit old new stays
puts-device output old new (Err (stop.Number number)) stays = number-device number output old new stays
puts-device output old new (Err (stop.Refused NotConnected)) stays = number-device (pos 6) output old new stays
puts-device output old new (Err (stop.Refused NotOffered)) stays = number-device (pos 7) output old new stays
puts-device output old new (Err (stop.Refused Taken)) stays = number-device (pos 8) output old new stays
puts-device output old new (Err (stop.Refused PastEnd)) stays = number-device (pos 9) output old new stays
puts-device output old new (Err (stop.Refused Failed)) failed = (refl, failed)
puts-device output old new (Err (stop.Fault fault)) stays = stays

pub items-answered :
    (text : List ℕ) (objects : List Object) (count first size : CValue) (list : ItemList) (output output' : FormattedOutput) (old new : List Row) (done : Result (Unit {0}) Stop) (result : Result Passage CallEnd) →
    result ≡ items_answer output done → Ok (list_shown list) ≡ items_given objects count size → PutsItems text output output' objects list.count list.size first old new done →
    AnswersItems text objects (count ∷ first ∷ size ∷ []) output output' old new result
items-answered text objects count first size list output output' old new done result shown given puts =
    subst (λ (answer : Result Passage CallEnd). AnswersItems text objects (count ∷ first ∷ size ∷ []) output output' old new answer) (sym shown)
    (record {
      inside = puts.inside;
      tells = puts.tells;
      replies = λ tells transfer stands.
          subst (λ (meaning : Or Reply). ItemsReply meaning objects (units_of new) text output' (items_answer output done))
          (sym (items-known objects (units_of old) text output transfer count first size list stands given))
          (puts-reply (each_item list.size (formatted_put stands.format list.size) list.count first transfer (world_with objects (Some transfer) (units_of old))) objects (units_of new) text output output' done
          (puts.means tells transfer stands (Some transfer)));
      devices = puts-device output old new done puts.devices;
    })

pub items-faulty :
    (text : List ℕ) (objects : List Object) (count first size : CValue) (output : FormattedOutput) (rows : List Row) (fault : CFault) → StandsIn output.walk text →
    failing fault ≡ items_given objects count size → AnswersItems text objects (count ∷ first ∷ size ∷ []) output output rows rows (Err (Fault fault))
items-faulty text objects count first size output rows fault inside given = record {
  inside = inside;
  tells = λ tells. tells;
  replies = λ tells transfer stands. items-fault objects (units_of rows) text output transfer count first size fault stands given;
  devices = stays-same output.unit rows;
}

-- the end of an output by the numbers of the output behind the call, which are those before it
pub stopped-at : (output output' : FormattedOutput) (unit on_error on_end : ℤ) (why : Stop) (answer : Result ℤ CallEnd) (result : Result Passage CallEnd) → SameOutput output output' → result ≡ over_by answer →
    answer ≡ stop_answer unit on_error on_end why → unit ≡ output'.unit → on_error ≡ output'.on_error → on_end ≡ output'.on_end → result ≡ items_answer output (Err why)
stopped-at output output' unit on_error on_end why answer result same is given same_unit same_error same_end =
    is ∙ ap over_by (given
    ∙ ap (λ (number : ℤ). stop_answer number on_error on_end why) (same_unit ∙ same.unit)
    ∙ ap (λ (number : ℤ). stop_answer output.unit number on_end why) (same_error ∙ same.on_error)
    ∙ ap (λ (number : ℤ). stop_answer output.unit output.on_error number why) (same_end ∙ same.on_end))
