-- What a call with items of a formatted output on an internal file replies.
use Rattle.std.proofs.Common.{◌≡◌, ℕ, zero, suc, ℤ, pos, negsuc, Bool, true, false, List, [], ◌∷◌, Option, Some, None, refl, ap, sym, ◌∙◌, subst}
use Rattle.std.specs.Prelude.{Result, Ok, Err, if◌then◌else◌}
use Rattle.std.specs.Ordering.{int_eq}
use Rattle.c_tree.specs.run_state.Units.{Units}
use Rattle.c_tree.specs.declared.outcome.CValue.{CValue}
use Rattle.c_tree.specs.declared.outcome.CFault.{CFault}
use Rattle.c_tree.specs.Faults.{Or, after, failing}
use Rattle.c_tree.specs.Objects.{Object}
use Rattle.c_tree.specs.World.{InternalFile, Transfer, World, Reply, Gives, Stops, Io}
use Rattle.c_tree.specs.LibraryArguments.{number_through, count_from, length_from, shifted}
use Rattle.c_tree.specs.Transfers.{Passage as Way, Answers, asked, numbered}
use Rattle.c_tree.specs.TransferOutput.{fill_all, put_in_file, put_further, led_on, value_put, formatted_put}
use Rattle.c_tree.specs.TransferCalls.{each_item, then_later, formatted_items}
use Rattle.c_tree.specs.Builtins.{do_fio}
use Rattle.c_tree.specs.Library.{library}
use Rattle.edit_rules.specs.edit_meaning.Formats.{Format}
use Rattle.edit_rules.specs.edit_meaning.EditedRecords.{Output, internal_sheet, made_ahead}
use Rattle.edit_rules.specs.Walks.{StandsIn}
use Rattle.item_deeds.proofs.FormLaws.{same-objects}
use Rattle.unit_answers.specs.declared.ends.CallEnd.{CallEnd}
use Rattle.unit_answers.specs.declared.ends.CallEnd.TheVariants.{Fault, Ended, Device}
use Rattle.unit_answers.specs.Answers.{world_with, numbered_answer, IfDevice}
use Rattle.unit_answers.proofs.OrLemmas.{known, faulty, behind, same-rest}
use Rattle.unit_answers.proofs.CallLaws.{numbered-device}
use Rattle.formatted_output.specs.declared.calls.Passage.{Passage}
use Rattle.formatted_output.specs.declared.calls.Passage.TheVariants.{GoesOn}
use Rattle.formatted_output.specs.declared.items.ItemList.{ItemList}
use Rattle.formatted_output.specs.Putting.{list_shown, items_given}
use Rattle.formatted_output.specs.Transferring.{over_by}
use Rattle.internal_output.specs.declared.files.RecordRefusal.TheVariants.{UsedUp, TooLong, Faulty}
use Rattle.internal_output.specs.Files.{file_of}
use Rattle.internal_formatted.specs.declared.calls.InternalFormatted.{InternalFormatted}
use Rattle.internal_formatted.specs.declared.acts.Stop.{Stop}
use Rattle.internal_formatted.specs.declared.acts.Stop.TheVariants as stop
use Rattle.internal_formatted.specs.Putting.{SameOutput, Numbered, ItemsMean, PutsItems}
use Rattle.internal_formatted.specs.Transferring.{Recordless, StandsFor, WithRecords, WithoutRecords, ItemsReply, NoDevice, AnswersItems, stop_answer, none_answer}
use Rattle.internal_formatted.proofs.ShownLaws.{shown_by, is-shown, blank_by, is-recordless}
use Rattle.internal_formatted.proofs.ItemLaws.{page_of}
use Rattle.internal_formatted.proofs.RecordlessLaws.{ahead-nothing, going-not}
use Rattle.internal_formatted.proofs.EndLaws.{stop-device}

-- ## The arguments

-- a call with items, once its arguments are read
items-called : (objects : List Object) (units : Units) (output : InternalFormatted) (format : Format) (transfer : Transfer) (count first size : CValue) →
    library do_fio (world_with objects (Some (shown_by output format transfer)) units) (count ∷ first ∷ size ∷ [])
    ≡ after (items_given objects count size)
    (λ given. each_item given.size (formatted_put format given.size) given.count first (shown_by output format transfer) (world_with objects (Some (shown_by output format transfer)) units))
unfolding library formatted_items
items-called objects units output format transfer count first size =
    sym (behind (number_through objects count) _ _
    ∙ same-rest (number_through objects count) _ _ (λ count_number. behind (count_from count_number) _ _
    ∙ same-rest (count_from count_number) _ _ (λ number. behind (length_from size) _ _)))

items-known : (objects : List Object) (units : Units) (output : InternalFormatted) (format : Format) (transfer : Transfer) (count first size : CValue) (list : ItemList) → transfer ≡ shown_by output format transfer →
    Ok (list_shown list) ≡ items_given objects count size →
    library do_fio (world_with objects (Some transfer) units) (count ∷ first ∷ size ∷ [])
    ≡ each_item list.size (formatted_put format list.size) list.count first transfer (world_with objects (Some transfer) units)
items-known objects units output format transfer count first size list shown given =
    ap (λ (one : Transfer). library do_fio (world_with objects (Some one) units) (count ∷ first ∷ size ∷ [])) shown
    ∙ items-called objects units output format transfer count first size
    ∙ known (items_given objects count size) (list_shown list) _ given
    ∙ ap (λ (one : Transfer). each_item list.size (formatted_put format list.size) list.count first one (world_with objects (Some one) units)) (sym shown)

items-fault : (objects : List Object) (units : Units) (output : InternalFormatted) (format : Format) (transfer : Transfer) (count first size : CValue) (fault : CFault) → transfer ≡ shown_by output format transfer →
    failing fault ≡ items_given objects count size → library do_fio (world_with objects (Some transfer) units) (count ∷ first ∷ size ∷ []) ≡ failing fault
items-fault objects units output format transfer count first size fault shown given =
    ap (λ (one : Transfer). library do_fio (world_with objects (Some one) units) (count ∷ first ∷ size ∷ [])) shown
    ∙ items-called objects units output format transfer count first size
    ∙ faulty (items_given objects count size) fault _ given

-- a transfer without values, as the output shows it
recordless-shown : {text : List ℕ} (output : InternalFormatted) (transfer : Transfer) → (stands : Recordless text output transfer) → transfer ≡ shown_by output stands.format transfer
recordless-shown output transfer stands =
    let blank : transfer ≡ blank_by output stands.format transfer = is-recordless output transfer stands in
    blank ∙ ap (shown_by output stands.format) (sym blank)

-- ## Items on a file with records

-- what the code answers
abbrev pub items_answer : InternalFormatted → Result (Unit {0}) Stop → Result Passage CallEnd
items_answer output (Ok done) = Ok GoesOn
items_answer output (Err why) = over_by (stop_answer output.on_error output.on_end why)

number-reply : (meaning : Or Reply) (objects : List Object) (units : Units) (text : List ℕ) (output output' : InternalFormatted) (number : ℤ) → Numbered meaning objects units output number →
    ItemsReply meaning objects units text output' (over_by (numbered_answer number output.on_error output.on_end))
number-reply meaning objects units text output output' number is =
    subst (λ (one : Or Reply). ItemsReply one objects units text output' (over_by (numbered_answer number output.on_error output.on_end))) (sym is)
    (by (int_eq (asked number output.on_error output.on_end) (pos 0)))
  where
    by : (over : Bool) →
        ItemsReply (Ok (if over then Stops (Io number) (world_with objects None units) else Gives number (world_with objects None units))) objects units text output'
        (over_by (if over then Err (Ended number) else Ok number))
    by true = refl
    by false = refl

puts-reply : (meaning : Or Reply) (objects : List Object) (units : Units) (text : List ℕ) (output output' : InternalFormatted) (done : Result (Unit {0}) Stop) →
    ItemsMean meaning objects units text output output' done → ItemsReply meaning objects units text output' (items_answer output done)
puts-reply meaning objects units text output output' (Ok done) means = means
puts-reply meaning objects units text output output' (Err (stop.Number number)) means = number-reply meaning objects units text output output' number means
puts-reply meaning objects units text output output' (Err (stop.Refused UsedUp)) means = number-reply meaning objects units text output output' (negsuc 0) means
puts-reply meaning objects units text output output' (Err (stop.Refused TooLong)) means = number-reply meaning objects units text output output' (pos 5) means
puts-reply meaning objects units text output output' (Err (stop.Refused (Faulty fault))) means = means
puts-reply meaning objects units text output output' (Err (stop.Fault fault)) means = means

-- no device
over-device : (answer : Result ℤ CallEnd) → IfDevice answer (λ unit. ⊥) (Unit {0}) → NoDevice (over_by answer)
over-device (Ok number) none = tt
over-device (Err (Fault fault)) none = tt
over-device (Err (Ended number)) none = tt
over-device (Err (Device unit)) none = none

items-device : (output : InternalFormatted) (done : Result (Unit {0}) Stop) → NoDevice (items_answer output done)
items-device output (Ok done) = tt
items-device output (Err why) = over-device (stop_answer output.on_error output.on_end why) (stop-device why output.on_error output.on_end)

pub items-answered :
    (text : List ℕ) (count first size : CValue) (list : ItemList) (output output' : InternalFormatted) (old new : List Object) (done : Result (Unit {0}) Stop) (result : Result Passage CallEnd) →
    result ≡ items_answer output done → (output.file.count ≡ 0 → ⊥) → Ok (list_shown list) ≡ items_given old count size → PutsItems text output output' list.count list.size first old new done →
    AnswersItems text (count ∷ first ∷ size ∷ []) output output' old new result
items-answered text count first size list output output' old new done result shown some given puts =
    subst (λ (answer : Result Passage CallEnd). AnswersItems text (count ∷ first ∷ size ∷ []) output output' old new answer) (sym shown)
    (record { inside = puts.inside; replies = λ units transfer stands. by units transfer stands; forms = puts.forms; no_device = items-device output done })
  where
    by : (units : Units) (transfer : Transfer) → StandsFor text output transfer →
        ItemsReply (library do_fio (world_with old (Some transfer) units) (count ∷ first ∷ size ∷ [])) new units text output' (items_answer output done)
    by units transfer (WithRecords stands) =
        subst (λ (meaning : Or Reply). ItemsReply meaning new units text output' (items_answer output done))
        (sym (items-known old units output stands.format transfer count first size list (is-shown text output transfer stands) given))
        (puts-reply (each_item list.size (formatted_put stands.format list.size) list.count first transfer (world_with old (Some transfer) units)) new units text output output' done
        (puts.means units transfer stands (Some transfer)))
    by units transfer (WithoutRecords stands) = absurd (some stands.none)

pub items-faulty :
    (text : List ℕ) (count first size : CValue) (output : InternalFormatted) (objects : List Object) (fault : CFault) → StandsIn output.walk text →
    failing fault ≡ items_given objects count size → AnswersItems text (count ∷ first ∷ size ∷ []) output output objects objects (Err (Fault fault))
items-faulty text count first size output objects fault inside given = record {
  inside = inside;
  replies = λ units transfer stands. by units transfer stands;
  forms = same-objects objects;
  no_device = tt;
}
  where
    by : (units : Units) (transfer : Transfer) → StandsFor text output transfer → library do_fio (world_with objects (Some transfer) units) (count ∷ first ∷ size ∷ []) ≡ failing fault
    by units transfer (WithRecords stands) = items-fault objects units output stands.format transfer count first size fault (is-shown text output transfer stands) given
    by units transfer (WithoutRecords stands) = items-fault objects units output stands.format transfer count first size fault (recordless-shown output transfer stands) given

-- the end of an output by the numbers of the output behind the call, which are those before it
pub stopped-at : (output output' : InternalFormatted) (on_error on_end : ℤ) (why : Stop) (answer : Result ℤ CallEnd) (result : Result Passage CallEnd) → SameOutput output output' → result ≡ over_by answer →
    answer ≡ stop_answer on_error on_end why → on_error ≡ output'.on_error → on_end ≡ output'.on_end → result ≡ items_answer output (Err why)
stopped-at output output' on_error on_end why answer result same is given same_error same_end =
    is ∙ ap over_by (given
    ∙ ap (λ (number : ℤ). stop_answer number on_end why) (same_error ∙ same.on_error)
    ∙ ap (λ (number : ℤ). stop_answer output.on_error number why) (same_end ∙ same.on_end))

-- ## Items on a file that has no record

-- the first item, by all that is made before it
abbrev item_rest : InternalFile → Format → ℕ → CValue → Transfer → World → Output → Or Way
item_rest file format size pointer one world out =
    after (after (after (fill_all out.complete file world.objects) λ filling. Ok (put_in_file world filling)) λ putting. Ok (put_further one (record { records = out.complete; halted = out.halted }) putting)) λ passage.
    led_on passage (value_put format size pointer)

blank-called : (objects : List Object) (going : Option Transfer) (units : Units) (output : InternalFormatted) (format : Format) (transfer : Transfer) (size : ℕ) (pointer : CValue) →
    formatted_put format size pointer (blank_by output format transfer) (world_with objects going units)
    ≡ item_rest (file_of output.file) format size pointer (blank_by output format transfer) (world_with objects going units) (made_ahead (page_of output) format [])
blank-called objects going units output format transfer size pointer = refl

recordless-item : {text : List ℕ} (objects : List Object) (going : Option Transfer) (units : Units) (output : InternalFormatted) (transfer : Transfer) (size : ℕ) (pointer : CValue) → (stands : Recordless text output transfer) →
    formatted_put stands.format size pointer transfer (world_with objects going units) ≡ Ok (Answers (numbered (negsuc 0) output.on_error output.on_end (world_with objects going units)))
recordless-item objects going units output transfer size pointer stands =
    ap (λ (one : Transfer). formatted_put stands.format size pointer one (world_with objects going units)) (is-recordless output transfer stands)
    ∙ blank-called objects going units output stands.format transfer size pointer
    ∙ ap (item_rest (file_of output.file) stands.format size pointer (blank_by output stands.format transfer) (world_with objects going units))
    (ap (λ (count : ℕ). made_ahead (internal_sheet count output.file.size) stands.format []) stands.none ∙ ahead-nothing output.file.size stands.format [])

recordless-reply : (text : List ℕ) (objects : List Object) (units : Units) (output : InternalFormatted) (transfer : Transfer) (count size : ℕ) (first : CValue) → (stands : Recordless text output transfer) →
    ItemsReply (each_item size (formatted_put stands.format size) count first transfer (world_with objects (Some transfer) units)) objects units text output (none_answer count output.on_error output.on_end)
recordless-reply text objects units output transfer zero size first stands = record { transfer = transfer; stands = WithoutRecords stands; replies = refl }
recordless-reply text objects units output transfer (suc count) size first stands =
    number-reply (each_item size (formatted_put stands.format size) (suc count) first transfer (world_with objects (Some transfer) units)) objects units text output output (negsuc 0)
    (ap (λ (one : Or Way). after one (λ one. then_later one (λ changed after_it. each_item size (formatted_put stands.format size) count (shifted size first) changed after_it)))
    (recordless-item objects (Some transfer) units output transfer size first stands))

none-device : (count : ℕ) (on_error on_end : ℤ) → NoDevice (none_answer count on_error on_end)
none-device zero on_error on_end = tt
none-device (suc count) on_error on_end = over-device (numbered_answer (negsuc 0) on_error on_end) (numbered-device (negsuc 0) on_error on_end (λ unit. ⊥) (Unit {0}) tt)

pub recordless-answered :
    (text : List ℕ) (count first size : CValue) (list : ItemList) (output : InternalFormatted) (objects : List Object) (result : Result Passage CallEnd) →
    result ≡ none_answer list.count output.on_error output.on_end → output.file.count ≡ 0 → StandsIn output.walk text → Ok (list_shown list) ≡ items_given objects count size →
    AnswersItems text (count ∷ first ∷ size ∷ []) output output objects objects result
recordless-answered text count first size list output objects result shown none inside given =
    subst (λ (answer : Result Passage CallEnd). AnswersItems text (count ∷ first ∷ size ∷ []) output output objects objects answer) (sym shown)
    (record {
      inside = inside;
      replies = λ units transfer stands. by units transfer stands;
      forms = same-objects objects;
      no_device = none-device list.count output.on_error output.on_end;
    })
  where
    by : (units : Units) (transfer : Transfer) → StandsFor text output transfer →
        ItemsReply (library do_fio (world_with objects (Some transfer) units) (count ∷ first ∷ size ∷ [])) objects units text output (none_answer list.count output.on_error output.on_end)
    by units transfer (WithRecords stands) = absurd (going-not text output transfer stands none)
    by units transfer (WithoutRecords stands) =
        subst (λ (meaning : Or Reply). ItemsReply meaning objects units text output (none_answer list.count output.on_error output.on_end))
        (sym (items-known objects units output stands.format transfer count first size list (recordless-shown output transfer stands) given))
        (recordless-reply text objects units output transfer list.count list.size first stands)

-- the same answer, by the same numbers
pub same-none : (count : ℕ) (on_error on_error' on_end on_end' : ℤ) (result : Result Passage CallEnd) → result ≡ none_answer count on_error' on_end' → on_error' ≡ on_error → on_end' ≡ on_end →
    result ≡ none_answer count on_error on_end
same-none count on_error on_error' on_end on_end' result is same_error same_end =
    is ∙ ap (λ (number : ℤ). none_answer count number on_end') same_error ∙ ap (λ (number : ℤ). none_answer count on_error number) same_end
