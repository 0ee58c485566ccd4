-- What a call with items of a formatted input replies.
use Rattle.std.proofs.Common.{◌≡◌, ℕ, ℤ, pos, Bool, true, false, List, [], ◌∷◌, Some, None, refl, ap, sym, ◌∙◌, subst}
use Rattle.std.specs.Prelude.{Result, Ok, Err, if◌then◌else◌}
use Rattle.std.specs.Ordering.{int_eq}
use Rattle.c_tree.specs.run_state.Units.{Units}
use Rattle.c_tree.specs.declared.outcome.CValue.{CValue}
use Rattle.c_tree.specs.declared.outcome.CFault.{CFault}
use Rattle.c_tree.specs.Faults.{Or, after, failing}
use Rattle.c_tree.specs.Objects.{Object}
use Rattle.c_tree.specs.World.{Transfer, Reply, Gives, Stops, Io}
use Rattle.c_tree.specs.LibraryArguments.{number_through, count_from, length_from}
use Rattle.c_tree.specs.Transfers.{asked, numbered}
use Rattle.c_tree.specs.TransferInput.{formatted_item}
use Rattle.c_tree.specs.TransferCalls.{each_item, formatted_items}
use Rattle.c_tree.specs.Builtins.{do_fio}
use Rattle.c_tree.specs.Library.{library}
use Rattle.edit_rules.specs.Walks.{StandsIn}
use Rattle.f2c_outside.specs.Table.{Row}
use Rattle.f2c_outside.specs.Meaning.{units_of}
use Rattle.unit_answers.specs.declared.ends.CallEnd.{CallEnd}
use Rattle.unit_answers.specs.declared.ends.CallEnd.TheVariants.{Fault, Ended}
use Rattle.unit_answers.specs.Failing.{NoneFailed}
use Rattle.unit_answers.specs.Answers.{world_with, numbered_answer}
use Rattle.unit_answers.proofs.OrLemmas.{known, faulty, behind, same-rest}
use Rattle.item_deeds.specs.Forms.{SameForms}
use Rattle.item_deeds.proofs.FormLaws.{same-objects}
use Rattle.listed_output.proofs.RowLaws.{stays-quietly, stays-same}
use Rattle.formatted_output.specs.declared.calls.Passage.{Passage}
use Rattle.formatted_output.specs.declared.calls.Passage.TheVariants.{GoesOn}
use Rattle.formatted_output.specs.declared.items.ItemList.{ItemList}
use Rattle.formatted_output.specs.Putting.{list_shown, items_given}
use Rattle.formatted_input.specs.declared.calls.FormattedInput.{FormattedInput}
use Rattle.formatted_input.specs.declared.acts.Stop.{Stop}
use Rattle.formatted_input.specs.declared.acts.Stop.TheVariants as stop
use Rattle.formatted_input.specs.Acting.{ReadsFrom}
use Rattle.formatted_input.specs.Giving.{SameInput, ItemsMean, GivesItems}
use Rattle.formatted_input.specs.Transferring.{StandsFor, ItemsReply, ItemsDevice, AnswersItems, stop_answer, over_by}
use Rattle.formatted_input.proofs.ItemLaws.{shown_by, is-shown}

-- a call with items, once its arguments are read
items-called : (text : List ℕ) (objects : List Object) (units : Units) (given : FormattedInput) (transfer : Transfer) (count first size : CValue) → (stands : StandsFor text given transfer) →
    library do_fio (world_with objects (Some (shown_by text given transfer stands)) units) (count ∷ first ∷ size ∷ [])
    ≡ after (items_given objects count size)
    (λ list. each_item list.size (formatted_item stands.format list.size) list.count first (shown_by text given transfer stands)
    (world_with objects (Some (shown_by text given transfer stands)) units))
unfolding library formatted_items
items-called text objects units given transfer count first size stands =
    sym (behind (number_through objects count) _ _
    ∙ same-rest (number_through objects count) _ _ (λ count_number. behind (count_from count_number) _ _
    ∙ same-rest (count_from count_number) _ _ (λ number. behind (length_from size) _ _)))

items-known : (objects : List Object) (units : Units) (text : List ℕ) (given : FormattedInput) (transfer : Transfer) (count first size : CValue) (list : ItemList) → (stands : StandsFor text given transfer) →
    Ok (list_shown list) ≡ items_given objects count size →
    library do_fio (world_with objects (Some transfer) units) (count ∷ first ∷ size ∷ [])
    ≡ each_item list.size (formatted_item stands.format list.size) list.count first transfer (world_with objects (Some transfer) units)
items-known objects units text given transfer count first size list stands is =
    ap (λ (one : Transfer). library do_fio (world_with objects (Some one) units) (count ∷ first ∷ size ∷ [])) (is-shown text given transfer stands)
    ∙ items-called text objects units given transfer count first size stands
    ∙ known (items_given objects count size) (list_shown list) _ is
    ∙ ap (λ (one : Transfer). each_item list.size (formatted_item stands.format list.size) list.count first one (world_with objects (Some one) units)) (sym (is-shown text given transfer stands))

items-fault : (objects : List Object) (units : Units) (text : List ℕ) (given : FormattedInput) (transfer : Transfer) (count first size : CValue) (fault : CFault) → StandsFor text given transfer →
    failing fault ≡ items_given objects count size → library do_fio (world_with objects (Some transfer) units) (count ∷ first ∷ size ∷ []) ≡ failing fault
items-fault objects units text given transfer count first size fault stands is =
    ap (λ (one : Transfer). library do_fio (world_with objects (Some one) units) (count ∷ first ∷ size ∷ [])) (is-shown text given transfer stands)
    ∙ items-called text objects units given transfer count first size stands
    ∙ faulty (items_given objects count size) fault _ is

-- what the code answers
abbrev pub items_answer : FormattedInput → Result (Unit {0}) Stop → Result Passage CallEnd
items_answer given (Ok done) = Ok GoesOn
items_answer given (Err why) = over_by (stop_answer given.unit given.on_error given.on_end why)

number-reply : (meaning : Or Reply) (objects : List Object) (units : Units) (text : List ℕ) (given given' : FormattedInput) (number : ℤ) →
    meaning ≡ Ok (numbered number given.on_error given.on_end (world_with objects None units)) →
    ItemsReply meaning objects units text given' (over_by (numbered_answer number given.on_error given.on_end))
number-reply meaning objects units text given given' number is =
    subst (λ (one : Or Reply). ItemsReply one objects units text given' (over_by (numbered_answer number given.on_error given.on_end))) (sym is)
    (by (int_eq (asked number given.on_error given.on_end) (pos 0)))
  where
    by : (over : Bool) →
        ItemsReply (Ok (if over then Stops (Io number) (world_with objects None units) else Gives number (world_with objects None units))) objects units text given'
        (over_by (if over then Err (Ended number) else Ok number))
    by true = refl
    by false = refl

items-reply : (meaning : Or Reply) (objects : List Object) (units : Units) (text : List ℕ) (given given' : FormattedInput) (done : Result (Unit {0}) Stop) →
    ItemsMean meaning objects units text given given' done → ItemsReply meaning objects units text given' (items_answer given done)
items-reply meaning objects units text given given' (Ok done) means = means
items-reply meaning objects units text given given' (Err (stop.Number number)) means = number-reply meaning objects units text given given' number means
items-reply meaning objects units text given given' (Err stop.Device) means = tt
items-reply meaning objects units text given given' (Err (stop.Fault fault)) means = means

number-device : (number : ℤ) (given : FormattedInput) (old new : List Row) → NoneFailed old new → ItemsDevice given old new (over_by (numbered_answer number given.on_error given.on_end))
number-device number given old new none = by (int_eq (asked number given.on_error given.on_end) (pos 0))
  where
    by : (over : Bool) → ItemsDevice given old new (over_by (if over then Err (Ended number) else Ok number))
    by true = none
    by false = none

items-device : (given : FormattedInput) (old new : List Row) (done : Result (Unit {0}) Stop) → ReadsFrom given.unit old new done → ItemsDevice given old new (items_answer given done)
items-device given old new (Ok done) stays = stays-quietly given.unit old new stays
items-device given old new (Err (stop.Number number)) none = number-device number given old new none
items-device given old new (Err stop.Device) failed = (refl, failed)
items-device given old new (Err (stop.Fault fault)) stays = stays

pub items-answered :
    (text : List ℕ) (objects objects' : List Object) (count first size : CValue) (list : ItemList) (given given' : FormattedInput) (old new : List Row) (done : Result (Unit {0}) Stop) (result : Result Passage CallEnd) →
    result ≡ items_answer given done → Ok (list_shown list) ≡ items_given objects count size → SameForms objects objects' →
    GivesItems text given given' objects objects' list.count list.size first old new done →
    AnswersItems text objects objects' (count ∷ first ∷ size ∷ []) given given' old new result
items-answered text objects objects' count first size list given given' old new done result shown is forms gives =
    subst (λ (answer : Result Passage CallEnd). AnswersItems text objects objects' (count ∷ first ∷ size ∷ []) given given' old new answer) (sym shown)
    (record {
      inside = gives.inside;
      tells = gives.tells;
      replies = λ tells transfer stands.
          subst (λ (meaning : Or Reply). ItemsReply meaning objects' (units_of new) text given' (items_answer given done))
          (sym (items-known objects (units_of old) text given transfer count first size list stands is))
          (items-reply (each_item list.size (formatted_item stands.format list.size) list.count first transfer (world_with objects (Some transfer) (units_of old))) objects' (units_of new) text given given' done
          (gives.means tells transfer stands (Some transfer)));
      devices = items-device given old new done gives.devices;
      forms = forms;
    })

pub items-faulty :
    (text : List ℕ) (objects : List Object) (count first size : CValue) (given : FormattedInput) (rows : List Row) (fault : CFault) → StandsIn given.walk text →
    failing fault ≡ items_given objects count size → AnswersItems text objects objects (count ∷ first ∷ size ∷ []) given given rows rows (Err (Fault fault))
items-faulty text objects count first size given rows fault inside is = record {
  inside = inside;
  tells = λ tells. tells;
  replies = λ tells transfer stands. items-fault objects (units_of rows) text given transfer count first size fault stands is;
  devices = stays-same given.unit rows;
  forms = same-objects objects;
}

-- the end of an input by the numbers of the input behind the call, which are those before it
pub stopped-at : (given given' : FormattedInput) (unit on_error on_end : ℤ) (why : Stop) (answer : Result ℤ CallEnd) (result : Result Passage CallEnd) → SameInput given given' → result ≡ over_by answer →
    answer ≡ stop_answer unit on_error on_end why → unit ≡ given'.unit → on_error ≡ given'.on_error → on_end ≡ given'.on_end → result ≡ items_answer given (Err why)
stopped-at given given' unit on_error on_end why answer result same is said same_unit same_error same_end =
    is ∙ ap over_by (said
    ∙ ap (λ (number : ℤ). stop_answer number on_error on_end why) (same_unit ∙ same.unit)
    ∙ ap (λ (number : ℤ). stop_answer given.unit number on_end why) (same_error ∙ same.on_error)
    ∙ ap (λ (number : ℤ). stop_answer given.unit given.on_error number why) (same_end ∙ same.on_end))
