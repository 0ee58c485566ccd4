-- What a call with items of a formatted input on an internal file replies.
use Rattle.std.proofs.Common.{◌≡◌, ℕ, ℤ, pos, Bool, true, false, List, [], ◌∷◌, Some, None, refl, ap, sym, ◌∙◌, subst}
use Rattle.std.specs.Prelude.{Result, Ok, Err, if◌then◌else◌}
use Rattle.std.specs.Ordering.{int_eq}
use Rattle.c_tree.specs.run_state.Units.{Units}
use Rattle.c_tree.specs.declared.outcome.CValue.{CValue}
use Rattle.c_tree.specs.declared.outcome.CFault.{CFault}
use Rattle.c_tree.specs.Faults.{Or, after, failing}
use Rattle.c_tree.specs.Objects.{Object}
use Rattle.c_tree.specs.World.{Transfer, Reply, Gives, Stops, Io}
use Rattle.c_tree.specs.LibraryArguments.{number_through, count_from, length_from}
use Rattle.c_tree.specs.Transfers.{asked, numbered}
use Rattle.c_tree.specs.TransferInput.{formatted_item}
use Rattle.c_tree.specs.TransferCalls.{each_item, formatted_items}
use Rattle.c_tree.specs.Builtins.{do_fio}
use Rattle.c_tree.specs.Library.{library}
use Rattle.edit_rules.specs.edit_meaning.Formats.{Format}
use Rattle.edit_rules.specs.edit_meaning.ListItems.{Value}
use Rattle.edit_rules.specs.Walks.{StandsIn}
use Rattle.item_deeds.specs.Forms.{SameForms}
use Rattle.item_deeds.proofs.FormLaws.{same-objects}
use Rattle.unit_answers.specs.declared.ends.CallEnd.{CallEnd}
use Rattle.unit_answers.specs.declared.ends.CallEnd.TheVariants.{Fault, Ended, Device}
use Rattle.unit_answers.specs.Answers.{world_with, numbered_answer, IfDevice}
use Rattle.unit_answers.proofs.OrLemmas.{known, faulty, behind, same-rest}
use Rattle.formatted_output.specs.declared.calls.Passage.{Passage}
use Rattle.formatted_output.specs.declared.calls.Passage.TheVariants.{GoesOn}
use Rattle.formatted_output.specs.declared.items.ItemList.{ItemList}
use Rattle.formatted_output.specs.Putting.{list_shown, items_given}
use Rattle.formatted_output.specs.Transferring.{over_by}
use Rattle.internal_formatted_input.specs.declared.calls.InternalFormattedInput.{InternalFormattedInput}
use Rattle.internal_formatted_input.specs.declared.acts.Stop.{Stop}
use Rattle.internal_formatted_input.specs.declared.acts.Stop.TheVariants as stop
use Rattle.internal_formatted_input.specs.Giving.{SameInput, ItemsMean, GivesItems}
use Rattle.internal_formatted_input.specs.Transferring.{StandsFor, ItemsReply, NoDevice, AnswersItems, stop_answer}
use Rattle.internal_formatted_input.proofs.ItemLaws.{shown_by, is-shown}
use Rattle.internal_formatted_input.proofs.EndLaws.{stop-device}

-- ## The arguments

-- a call with items, once its arguments are read
items-called : (objects : List Object) (units : Units) (given : InternalFormattedInput) (format : Format) (later : List (List ℕ)) (values : List Value) (transfer : Transfer) (count first size : CValue) →
    library do_fio (world_with objects (Some (shown_by given format later values transfer)) units) (count ∷ first ∷ size ∷ [])
    ≡ after (items_given objects count size)
    (λ list. each_item list.size (formatted_item format list.size) list.count first (shown_by given format later values transfer) (world_with objects (Some (shown_by given format later values transfer)) units))
unfolding library formatted_items
items-called objects units given format later values transfer count first size =
    sym (behind (number_through objects count) _ _
    ∙ same-rest (number_through objects count) _ _ (λ count_number. behind (count_from count_number) _ _
    ∙ same-rest (count_from count_number) _ _ (λ number. behind (length_from size) _ _)))

items-known : (text : List ℕ) (objects : List Object) (units : Units) (given : InternalFormattedInput) (transfer : Transfer) (count first size : CValue) (list : ItemList) → (stands : StandsFor text given transfer) →
    Ok (list_shown list) ≡ items_given objects count size →
    library do_fio (world_with objects (Some transfer) units) (count ∷ first ∷ size ∷ [])
    ≡ each_item list.size (formatted_item stands.format list.size) list.count first transfer (world_with objects (Some transfer) units)
items-known text objects units given transfer count first size list stands found =
    let shown : transfer ≡ shown_by given stands.format stands.later stands.values transfer = is-shown text given transfer stands in
    ap (λ (one : Transfer). library do_fio (world_with objects (Some one) units) (count ∷ first ∷ size ∷ [])) shown
    ∙ items-called objects units given stands.format stands.later stands.values transfer count first size
    ∙ known (items_given objects count size) (list_shown list) _ found
    ∙ ap (λ (one : Transfer). each_item list.size (formatted_item stands.format list.size) list.count first one (world_with objects (Some one) units)) (sym shown)

items-fault : (text : List ℕ) (objects : List Object) (units : Units) (given : InternalFormattedInput) (transfer : Transfer) (count first size : CValue) (fault : CFault) → (stands : StandsFor text given transfer) →
    failing fault ≡ items_given objects count size → library do_fio (world_with objects (Some transfer) units) (count ∷ first ∷ size ∷ []) ≡ failing fault
items-fault text objects units given transfer count first size fault stands found =
    ap (λ (one : Transfer). library do_fio (world_with objects (Some one) units) (count ∷ first ∷ size ∷ [])) (is-shown text given transfer stands)
    ∙ items-called objects units given stands.format stands.later stands.values transfer count first size
    ∙ faulty (items_given objects count size) fault _ found

-- ## What the call answers

abbrev pub items_answer : InternalFormattedInput → Result (Unit {0}) Stop → Result Passage CallEnd
items_answer given (Ok done) = Ok GoesOn
items_answer given (Err why) = over_by (stop_answer given.on_error given.on_end why)

number-reply : (meaning : Or Reply) (objects : List Object) (units : Units) (text : List ℕ) (given given' : InternalFormattedInput) (number : ℤ) →
    meaning ≡ Ok (numbered number given.on_error given.on_end (world_with objects None units)) →
    ItemsReply meaning objects units text given' (over_by (numbered_answer number given.on_error given.on_end))
number-reply meaning objects units text given given' number is =
    subst (λ (one : Or Reply). ItemsReply one objects units text given' (over_by (numbered_answer number given.on_error given.on_end))) (sym is)
    (by (int_eq (asked number given.on_error given.on_end) (pos 0)))
  where
    by : (over : Bool) →
        ItemsReply (Ok (if over then Stops (Io number) (world_with objects None units) else Gives number (world_with objects None units))) objects units text given'
        (over_by (if over then Err (Ended number) else Ok number))
    by true = refl
    by false = refl

gives-reply : (meaning : Or Reply) (objects : List Object) (units : Units) (text : List ℕ) (given given' : InternalFormattedInput) (done : Result (Unit {0}) Stop) →
    ItemsMean meaning objects units text given given' done → ItemsReply meaning objects units text given' (items_answer given done)
gives-reply meaning objects units text given given' (Ok done) means = means
gives-reply meaning objects units text given given' (Err (stop.Number number)) means = number-reply meaning objects units text given given' number means
gives-reply meaning objects units text given given' (Err (stop.Fault fault)) means = means

-- no device
over-device : (answer : Result ℤ CallEnd) → IfDevice answer (λ unit. ⊥) (Unit {0}) → NoDevice (over_by answer)
over-device (Ok number) none = tt
over-device (Err (Fault fault)) none = tt
over-device (Err (Ended number)) none = tt
over-device (Err (Device unit)) none = none

items-device : (given : InternalFormattedInput) (done : Result (Unit {0}) Stop) → NoDevice (items_answer given done)
items-device given (Ok done) = tt
items-device given (Err why) = over-device (stop_answer given.on_error given.on_end why) (stop-device why given.on_error given.on_end)

pub items-answered :
    (text : List ℕ) (count first size : CValue) (list : ItemList) (given given' : InternalFormattedInput) (old new : List Object) (done : Result (Unit {0}) Stop) (result : Result Passage CallEnd) →
    result ≡ items_answer given done → Ok (list_shown list) ≡ items_given old count size → GivesItems text given given' old new list.count list.size first done → SameForms old new →
    AnswersItems text (count ∷ first ∷ size ∷ []) given given' old new result
items-answered text count first size list given given' old new done result is found gives forms =
    subst (λ (answer : Result Passage CallEnd). AnswersItems text (count ∷ first ∷ size ∷ []) given given' old new answer) (sym is)
    (record {
      inside = gives.inside;
      replies = λ units transfer stands.
          subst (λ (meaning : Or Reply). ItemsReply meaning new units text given' (items_answer given done))
          (sym (items-known text old units given transfer count first size list stands found))
          (gives-reply (each_item list.size (formatted_item stands.format list.size) list.count first transfer (world_with old (Some transfer) units)) new units text given given' done
          (gives.means units transfer stands (Some transfer)));
      forms = forms;
      no_device = items-device given done;
    })

pub items-faulty :
    (text : List ℕ) (count first size : CValue) (given : InternalFormattedInput) (objects : List Object) (fault : CFault) → StandsIn given.walk text →
    failing fault ≡ items_given objects count size → AnswersItems text (count ∷ first ∷ size ∷ []) given given objects objects (Err (Fault fault))
items-faulty text count first size given objects fault inside found = record {
  inside = inside;
  replies = λ units transfer stands. items-fault text objects units given transfer count first size fault stands found;
  forms = same-objects objects;
  no_device = tt;
}

-- the end of an input by the numbers of the input behind the call, which are those before it
pub stopped-at : (given given' : InternalFormattedInput) (on_error on_end : ℤ) (why : Stop) (answer : Result ℤ CallEnd) (result : Result Passage CallEnd) → SameInput given given' → result ≡ over_by answer →
    answer ≡ stop_answer on_error on_end why → on_error ≡ given'.on_error → on_end ≡ given'.on_end → result ≡ items_answer given (Err why)
stopped-at given given' on_error on_end why answer result same is stops same_error same_end =
    is ∙ ap over_by (stops
    ∙ ap (λ (number : ℤ). stop_answer number on_end why) (same_error ∙ same.on_error)
    ∙ ap (λ (number : ℤ). stop_answer given.on_error number why) (same_end ∙ same.on_end))
