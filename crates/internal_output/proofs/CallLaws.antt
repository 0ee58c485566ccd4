-- What the calls of a list-directed output on an internal file reply.
use Rattle.std.proofs.Common.{◌≡◌, ℕ, ℤ, pos, negsuc, Bool, true, false, List, [], ◌∷◌, ◌++◌, length, take, drop, Some, None, refl, ap, sym, ◌∙◌, subst, append_assoc}
use Rattle.std.specs.Prelude.{Result, Ok, Err, if◌then◌else◌}
use Rattle.std.specs.Ordering.{int_eq}
use Rattle.c_tree.specs.run_state.Units.{Units}
use Rattle.c_tree.specs.declared.outcome.CValue.{CValue}
use Rattle.c_tree.specs.declared.outcome.CFault.{CFault}
use Rattle.c_tree.specs.Faults.{Or, after, failing}
use Rattle.c_tree.specs.Objects.{Object}
use Rattle.c_tree.specs.World.{Direction, Output, Layout, Listed, Medium, Internal, InternalFile, Transfer, World, Reply, Gives, Stops, Io}
use Rattle.c_tree.specs.LibraryArguments.{number_through, count_from, length_from}
use Rattle.c_tree.specs.Transfers.{asked, numbered, internal_control, new_transfer, passed}
use Rattle.c_tree.specs.TransferStarts.{starts}
use Rattle.c_tree.specs.TransferOutput.{item_kind, item_length, items_at, made, Filling, fill_all, put_in_file, put_further, put_last}
use Rattle.c_tree.specs.TransferCalls.{listed_items, ends}
use Rattle.c_tree.specs.Builtins.{Finish, do_lio}
use Rattle.c_tree.specs.Library.{library}
use Rattle.edit_rules.specs.edit_meaning.Listed.{ListedValue, Listing, listing, listed, in_making}
use Rattle.edit_rules.specs.Writer.{used_by}
use Rattle.edit_rules.proofs.ListedLaws.{listed-open, listed-closed, in_making-is}
use Rattle.item_deeds.proofs.FormLaws.{same-objects}
use Rattle.control_lists.specs.declared.controls.InternalControl.{InternalControl}
use Rattle.control_lists.specs.Controls.{internal_shown}
use Rattle.unit_answers.specs.declared.ends.CallEnd.{CallEnd}
use Rattle.unit_answers.specs.declared.ends.CallEnd.TheVariants.{Fault, Ended, Device}
use Rattle.unit_answers.specs.Answers.{world_with, numbered_answer, Replies, IfDevice}
use Rattle.unit_answers.proofs.OrLemmas.{known, faulty, behind, same-rest}
use Rattle.unit_answers.proofs.AnswerLaws.{numbered-replies}
use Rattle.unit_answers.proofs.CallLaws.{numbered-device}
use Rattle.listed_output.specs.declared.calls.Passage.{Passage}
use Rattle.listed_output.specs.declared.calls.Passage.TheVariants.{GoesOn}
use Rattle.listed_output.specs.declared.kinds.ItemList.{ItemList}
use Rattle.listed_output.specs.Items.{Given, list_shown, items_given}
use Rattle.listed_output.specs.Kinds.{kind_shown}
use Rattle.listed_output.specs.Transferring.{over_by}
use Rattle.listed_output.proofs.CallLaws.{behind-written, listing-none}
use Rattle.internal_output.specs.declared.calls.InternalOutput.{InternalOutput}
use Rattle.internal_output.specs.declared.files.FileRecords.{FileRecords}
use Rattle.internal_output.specs.declared.files.RecordRefusal.{RecordRefusal}
use Rattle.internal_output.specs.declared.files.RecordRefusal.TheVariants.{UsedUp, TooLong, Faulty}
use Rattle.internal_output.specs.Files.{file_of, filling_by, Fills, refusal_answer}
use Rattle.internal_output.specs.Putting.{Makes, PutsItems}
use Rattle.internal_output.specs.Transferring.{internal_kind, making_in, StandsFor, AnswersStart, ItemsReply, NoDevice, AnswersItems, AnswersEnd, IsBegun}
use Rattle.internal_output.proofs.FileLaws.{fills-refused}

-- ## A transfer for which an output stands

-- the transfer, with what the output says of it
abbrev shown_by : InternalOutput → Transfer → Transfer
shown_by output transfer = record transfer {
  direction = Output;
  layout = Listed;
  medium = Internal (file_of output.file);
  on_error = output.on_error;
  on_end = output.on_end;
}

is-shown : (output : InternalOutput) (transfer : Transfer) → StandsFor output transfer → transfer ≡ shown_by output transfer
is-shown output transfer stands =
    ap (λ (direction : Direction). record transfer { direction = direction }) stands.direction
    ∙ ap (λ (layout : Layout). record transfer { direction = Output; layout = layout }) stands.layout
    ∙ ap (λ (medium : Medium). record transfer { direction = Output; layout = Listed; medium = medium }) stands.medium
    ∙ ap (λ (number : ℤ). record transfer { direction = Output; layout = Listed; medium = Internal (file_of output.file); on_error = number }) stands.on_error
    ∙ ap (λ (number : ℤ). record transfer { direction = Output; layout = Listed; medium = Internal (file_of output.file); on_error = output.on_error; on_end = number }) stands.on_end

-- the listing of the values so far
listing-is : (output : InternalOutput) (transfer : Transfer) → StandsFor output transfer →
    listing transfer.values ≡ record { complete = (listing transfer.values).complete; making = making_in output }
listing-is output transfer stands = ap (λ (making : List ℕ). record { complete = (listing transfer.values).complete; making = making }) stands.making

-- ## The start

stands-at-start : (control : InternalControl) (output : InternalOutput) → IsBegun control output → StandsFor output (new_transfer Output Listed (internal_shown control))
stands-at-start control output is = record {
  direction = refl;
  layout = refl;
  medium = ap Internal (sym is.file);
  on_error = sym is.on_error;
  on_end = sym is.on_end;
  written = ap (λ (out : Listing). length out.complete) (sym listing-none);
  making = ap (λ (out : Listing). out.making) listing-none ∙ sym is.making;
}

pub start-begins : (objects : List Object) (pointer : CValue) (control : InternalControl) (output : InternalOutput) → Ok (internal_shown control) ≡ internal_control objects pointer →
    IsBegun control output → AnswersStart objects pointer (Ok output)
unfolding library starts
start-begins objects pointer control output is begins units = record {
  transfer = new_transfer Output Listed (internal_shown control);
  stands = stands-at-start control output begins;
  replies = known (internal_control objects pointer) (internal_shown control) _ is;
}

pub start-faulty : (objects : List Object) (pointer : CValue) (fault : CFault) → failing fault ≡ internal_control objects pointer → AnswersStart objects pointer (Err fault)
unfolding library starts
start-faulty objects pointer fault is units = faulty (internal_control objects pointer) fault _ is

-- ## Items

-- what the values of items come to, by what storing comes to
abbrev items_reply : Transfer → World → Or Filling → Or Reply
items_reply longer world found =
    after (after (after found λ filling. Ok (put_in_file world filling)) λ putting. Ok (put_further longer (made longer false) putting)) λ passage. Ok (passed passage)

-- a transfer with further values
abbrev longer_by : List ListedValue → Transfer → Transfer
longer_by values transfer = record transfer { values = transfer.values ++ values }

items-called : (objects : List Object) (units : Units) (output : InternalOutput) (transfer : Transfer) (kind count first size : CValue) →
    library do_lio (world_with objects (Some (shown_by output transfer)) units) (kind ∷ count ∷ first ∷ size ∷ [])
    ≡ after (items_given objects kind count size)
    (λ given. after (items_at given.kind objects given.size given.count first)
    λ values. items_reply (longer_by values (shown_by output transfer)) (world_with objects (Some (shown_by output transfer)) units)
    (fill_all (drop transfer.written (listed (transfer.values ++ values) false)) (file_of output.file) objects))
unfolding library listed_items
items-called objects units output transfer kind count first size =
    sym (behind (number_through objects kind) _ _
    ∙ same-rest (number_through objects kind) _ _ (λ kind_number. behind (number_through objects count) _ _
    ∙ same-rest (number_through objects count) _ _ (λ count_number. behind (item_kind kind_number) _ _
    ∙ same-rest (item_kind kind_number) _ _ (λ one. behind (count_from count_number) _ _
    ∙ same-rest (count_from count_number) _ _ (λ number. behind (length_from size) _ _
    ∙ same-rest (length_from size) _ _ (λ given. behind (item_length one given) _ _))))))

-- a call whose items are there
items-known : (objects : List Object) (units : Units) (output : InternalOutput) (transfer : Transfer) (kind count first size : CValue) (list : ItemList) (values : List ListedValue) →
    StandsFor output transfer → items_given objects kind count size ≡ Ok (list_shown list) → items_at (kind_shown list.kind) objects list.size list.count first ≡ Ok values →
    library do_lio (world_with objects (Some transfer) units) (kind ∷ count ∷ first ∷ size ∷ [])
    ≡ items_reply (longer_by values (shown_by output transfer)) (world_with objects (Some (shown_by output transfer)) units)
    (fill_all (drop transfer.written (listed (transfer.values ++ values) false)) (file_of output.file) objects)
items-known objects units output transfer kind count first size list values stands given there =
    ap (λ (one : Transfer). library do_lio (world_with objects (Some one) units) (kind ∷ count ∷ first ∷ size ∷ [])) (is-shown output transfer stands)
    ∙ items-called objects units output transfer kind count first size
    ∙ known (items_given objects kind count size) (list_shown list) _ (sym given)
    ∙ known (items_at (kind_shown list.kind) objects list.size list.count first) values _ (sym there)

items-fault : (objects : List Object) (units : Units) (output : InternalOutput) (transfer : Transfer) (kind count first size : CValue) (fault : CFault) → StandsFor output transfer →
    after (items_given objects kind count size) (λ given. items_at given.kind objects given.size given.count first) ≡ failing fault →
    library do_lio (world_with objects (Some transfer) units) (kind ∷ count ∷ first ∷ size ∷ []) ≡ failing fault
items-fault objects units output transfer kind count first size fault stands is =
    ap (λ (one : Transfer). library do_lio (world_with objects (Some one) units) (kind ∷ count ∷ first ∷ size ∷ [])) (is-shown output transfer stands)
    ∙ items-called objects units output transfer kind count first size
    ∙ by (items_given objects kind count size) _ is
  where
    by : {B : Type 0} (found : Or Given) (rest : Given → List ListedValue → Or B) → after found (λ given. items_at given.kind objects given.size given.count first) ≡ failing fault →
        after found (λ given. after (items_at given.kind objects given.size given.count first) (rest given)) ≡ failing fault
    by (Ok given) rest wrong = faulty (items_at given.kind objects given.size given.count first) fault (rest given) (sym wrong)
    by (Err reason) rest wrong = cc

-- the transfer behind the values
abbrev later_of : InternalOutput → InternalOutput → Transfer → List ListedValue → Transfer
later_of output output' transfer values =
    record (longer_by values (shown_by output transfer)) { medium = Internal (file_of output'.file); written = length (listed (transfer.values ++ values) false) }

-- of an output only the place in the file and the record in the making change
pub record SameOutput (output output' : InternalOutput) : Type 0 where
  pub on_error : output'.on_error ≡ output.on_error
  pub on_end : output'.on_end ≡ output.on_end

stands-later :
    (output output' : InternalOutput) (transfer : Transfer) (values : List ListedValue) (lines : List (List ℕ)) → StandsFor output transfer → SameOutput output output' →
    listing (transfer.values ++ values) ≡ record { complete = (listing transfer.values).complete ++ lines; making = making_in output' } → StandsFor output' (later_of output output' transfer values)
stands-later output output' transfer values lines stands same made = record {
  direction = refl;
  layout = refl;
  medium = refl;
  on_error = sym same.on_error;
  on_end = sym same.on_end;
  written = ap (λ (records : List (List ℕ)). length records) (listed-open (transfer.values ++ values));
  making = ap (λ (out : Listing). out.making) made;
}

-- the lines that are new
new-lines : (output : InternalOutput) (transfer : Transfer) (values : List ListedValue) (lines : List (List ℕ)) → StandsFor output transfer →
    (listing (transfer.values ++ values)).complete ≡ (listing transfer.values).complete ++ lines → drop transfer.written (listed (transfer.values ++ values) false) ≡ lines
new-lines output transfer values lines stands made =
    ap (drop transfer.written) (listed-open (transfer.values ++ values) ∙ made) ∙ behind-written transfer.written (listing transfer.values).complete lines stands.written

-- a number that ends an output
over-reply : (number on_error on_end : ℤ) (objects : List Object) (units : Units) (transfer : Transfer) (output : InternalOutput) →
    ItemsReply (Ok (numbered number on_error on_end (world_with objects (Some transfer) units))) objects units output (over_by (numbered_answer number on_error on_end))
over-reply number on_error on_end objects units transfer output = by (int_eq (asked number on_error on_end) (pos 0))
  where
    by : (over : Bool) →
        ItemsReply (Ok (if over then Stops (Io number) (world_with objects None units) else Gives number (world_with objects None units))) objects units output
        (over_by (if over then Err (Ended number) else Ok number))
    by true = refl
    by false = refl

-- what the code answers
abbrev pub items_answer : InternalOutput → Result (Unit {0}) RecordRefusal → Result Passage CallEnd
items_answer output (Ok done) = Ok GoesOn
items_answer output (Err refusal) = over_by (refusal_answer refusal output.on_error output.on_end)

-- a record that is not stored ends the output
refusal-reply : (objects objects' : List Object) (units : Units) (output output' : InternalOutput) (transfer : Transfer) (values : List ListedValue) (refusal : RecordRefusal) →
    ItemsReply
    (items_reply (longer_by values (shown_by output transfer)) (world_with objects (Some (shown_by output transfer)) units) (filling_by (file_of output'.file) objects' (Err refusal))) objects' units output'
    (items_answer output (Err refusal))
refusal-reply objects objects' units output output' transfer values UsedUp = over-reply (negsuc 0) output.on_error output.on_end objects' units (shown_by output transfer) output'
refusal-reply objects objects' units output output' transfer values TooLong = over-reply (pos 5) output.on_error output.on_end objects' units (shown_by output transfer) output'
refusal-reply objects objects' units output output' transfer values (Faulty fault) = refl

puts-reply :
    (objects objects' : List Object) (units : Units) (output output' : InternalOutput) (transfer : Transfer) (values : List ListedValue) (lines : List (List ℕ))
    (done : Result (Unit {0}) RecordRefusal) → StandsFor output transfer → SameOutput output output' →
    Makes (transfer.values ++ values) (listing transfer.values).complete lines output'.making.writer output'.making.line done →
    Fills lines output.file objects output'.file objects' done →
    ItemsReply
    (items_reply (longer_by values (shown_by output transfer)) (world_with objects (Some (shown_by output transfer)) units)
    (fill_all (drop transfer.written (listed (transfer.values ++ values) false)) (file_of output.file) objects))
    objects' units output' (items_answer output done)
puts-reply objects objects' units output output' transfer values lines (Ok done) stands next made stored = record {
  transfer = later_of output output' transfer values;
  stands = stands-later output output' transfer values lines stands next made;
  replies =
      ap (λ (all : List (List ℕ)). items_reply (longer_by values (shown_by output transfer)) (world_with objects (Some (shown_by output transfer)) units) (fill_all all (file_of output.file) objects))
      (new-lines output transfer values lines stands (ap (λ (out : Listing). out.complete) made))
      ∙ ap (items_reply (longer_by values (shown_by output transfer)) (world_with objects (Some (shown_by output transfer)) units)) stored.fills;
}
puts-reply objects objects' units output output' transfer values lines (Err refusal) stands next made stored =
    subst (λ (meaning : Or Reply). ItemsReply meaning objects' units output' (items_answer output (Err refusal)))
    (sym (ap (λ (all : List (List ℕ)). items_reply (longer_by values (shown_by output transfer)) (world_with objects (Some (shown_by output transfer)) units) (fill_all all (file_of output.file) objects))
    (new-lines output transfer values (lines ++ made.0) stands (made.1 ∙ append_assoc (listing transfer.values).complete lines made.0))
    ∙ ap (items_reply (longer_by values (shown_by output transfer)) (world_with objects (Some (shown_by output transfer)) units))
    (fills-refused lines made.0 output.file objects output'.file objects' refusal stored.fills)))
    (refusal-reply objects objects' units output output' transfer values refusal)

-- no refusal is that of a device
refusal-device : (refusal : RecordRefusal) (on_error on_end : ℤ) → IfDevice (refusal_answer refusal on_error on_end) (λ unit. ⊥) (Unit {0})
refusal-device UsedUp on_error on_end = numbered-device (negsuc 0) on_error on_end (λ unit. ⊥) (Unit {0}) tt
refusal-device TooLong on_error on_end = numbered-device (pos 5) on_error on_end (λ unit. ⊥) (Unit {0}) tt
refusal-device (Faulty fault) on_error on_end = tt

over-device : (answer : Result ℤ CallEnd) → IfDevice answer (λ unit. ⊥) (Unit {0}) → NoDevice (over_by answer)
over-device (Ok number) none = tt
over-device (Err (Fault fault)) none = tt
over-device (Err (Ended number)) none = tt
over-device (Err (Device unit)) none = none

items-device : (output : InternalOutput) (done : Result (Unit {0}) RecordRefusal) → NoDevice (items_answer output done)
items-device output (Ok done) = tt
items-device output (Err refusal) = over-device (refusal_answer refusal output.on_error output.on_end) (refusal-device refusal output.on_error output.on_end)

pub items-answered :
    (objects objects' : List Object) (kind count first size : CValue) (list : ItemList) (values : List ListedValue) (output output' : InternalOutput) (done : Result (Unit {0}) RecordRefusal)
    (result : Result Passage CallEnd) → result ≡ items_answer output done → items_given objects kind count size ≡ Ok (list_shown list) →
    items_at (kind_shown list.kind) objects list.size list.count first ≡ Ok values → SameOutput output output' →
    PutsItems values output.making.writer output.making.line output'.making.writer output'.making.line output.file objects output'.file objects' done →
    AnswersItems (kind ∷ count ∷ first ∷ size ∷ []) output output' objects objects' result
items-answered objects objects' kind count first size list values output output' done result given is there same puts =
    subst (λ (answer : Result Passage CallEnd). AnswersItems (kind ∷ count ∷ first ∷ size ∷ []) output output' objects objects' answer) (sym given)
    (record {
      replies = λ units transfer stands.
          subst (λ (meaning : Or Reply). ItemsReply meaning objects' units output' (items_answer output done))
          (sym (items-known objects units output transfer kind count first size list values stands is there))
          (puts-reply objects objects' units output output' transfer values puts.lines done stands same
          (puts.makes transfer.values (listing transfer.values).complete (listing-is output transfer stands)) puts.stores);
      forms = puts.stores.forms;
      no_device = items-device output done;
    })

pub items-faulty :
    (objects : List Object) (kind count first size : CValue) (output : InternalOutput) (fault : CFault) →
    after (items_given objects kind count size) (λ given. items_at given.kind objects given.size given.count first) ≡ failing fault →
    AnswersItems (kind ∷ count ∷ first ∷ size ∷ []) output output objects objects (Err (Fault fault))
items-faulty objects kind count first size output fault is = record {
  replies = λ units transfer stands. items-fault objects units output transfer kind count first size fault stands is;
  forms = same-objects objects;
  no_device = tt;
}

-- a refusal by the same numbers
pub same-refused :
    (refusal : RecordRefusal) (on_error on_error' on_end on_end' : ℤ) (result : Result ℤ CallEnd) → result ≡ refusal_answer refusal on_error' on_end' → on_error' ≡ on_error → on_end' ≡ on_end →
    result ≡ refusal_answer refusal on_error on_end
same-refused refusal on_error on_error' on_end on_end' result is same_error same_end =
    is ∙ ap (λ (number : ℤ). refusal_answer refusal number on_end') same_error ∙ ap (λ (number : ℤ). refusal_answer refusal on_error number) same_end

-- ## The end

abbrev end_reply : Transfer → World → Or Filling → Or Reply
end_reply transfer world found = after (after found λ filling. Ok (put_in_file world filling)) λ putting. Ok (put_last transfer None putting)

end-called : (objects : List Object) (units : Units) (output : InternalOutput) (transfer : Transfer) →
    library (Finish internal_kind) (world_with objects (Some (shown_by output transfer)) units) []
    ≡ end_reply (shown_by output transfer) (world_with objects (Some (shown_by output transfer)) units) (fill_all (drop transfer.written (listed transfer.values true)) (file_of output.file) objects)
unfolding library ends
end-called objects units output transfer = refl

last-line : (output : InternalOutput) (transfer : Transfer) → StandsFor output transfer → drop transfer.written (listed transfer.values true) ≡ making_in output ∷ []
last-line output transfer stands =
    ap (drop transfer.written) (listed-closed transfer.values ∙ ap (λ (records : List (List ℕ)). records ++ in_making transfer.values ∷ []) (listed-open transfer.values))
    ∙ behind-written transfer.written (listing transfer.values).complete (in_making transfer.values ∷ []) stands.written
    ∙ ap (λ (record' : List ℕ). record' ∷ []) (in_making-is transfer.values ∙ stands.making)

end-known : (objects : List Object) (units : Units) (output : InternalOutput) (transfer : Transfer) → StandsFor output transfer →
    library (Finish internal_kind) (world_with objects (Some transfer) units) []
    ≡ end_reply (shown_by output transfer) (world_with objects (Some (shown_by output transfer)) units) (fill_all (making_in output ∷ []) (file_of output.file) objects)
end-known objects units output transfer stands =
    ap (λ (one : Transfer). library (Finish internal_kind) (world_with objects (Some one) units) []) (is-shown output transfer stands)
    ∙ end-called objects units output transfer
    ∙ ap (λ (lines : List (List ℕ)). end_reply (shown_by output transfer) (world_with objects (Some (shown_by output transfer)) units) (fill_all lines (file_of output.file) objects))
    (last-line output transfer stands)

-- what the code answers
abbrev pub end_answer : InternalOutput → Result (Unit {0}) RecordRefusal → Result ℤ CallEnd
end_answer output (Ok done) = Ok (pos 0)
end_answer output (Err refusal) = refusal_answer refusal output.on_error output.on_end

ends-reply : (objects objects' : List Object) (units : Units) (output : InternalOutput) (file' : InternalFile) (transfer : Transfer) (done : Result (Unit {0}) RecordRefusal) →
    Replies (end_reply (shown_by output transfer) (world_with objects (Some (shown_by output transfer)) units) (filling_by file' objects' done)) (world_with objects' None units) (end_answer output done)
ends-reply objects objects' units output file' transfer (Ok done) = refl
ends-reply objects objects' units output file' transfer (Err UsedUp) = numbered-replies (negsuc 0) output.on_error output.on_end (world_with objects' (Some (shown_by output transfer)) units)
ends-reply objects objects' units output file' transfer (Err TooLong) = numbered-replies (pos 5) output.on_error output.on_end (world_with objects' (Some (shown_by output transfer)) units)
ends-reply objects objects' units output file' transfer (Err (Faulty fault)) = refl

no-device : (output : InternalOutput) (done : Result (Unit {0}) RecordRefusal) → IfDevice (end_answer output done) (λ unit. ⊥) (Unit {0})
no-device output (Ok done) = tt
no-device output (Err refusal) = refusal-device refusal output.on_error output.on_end

pub end-answered :
    (output : InternalOutput) (file' : FileRecords) (used : ℕ) (old new : List Object) (done : Result (Unit {0}) RecordRefusal) (result : Result ℤ CallEnd) → result ≡ end_answer output done →
    used ≡ used_by output.making.writer → Fills (take used output.making.line ∷ []) output.file old file' new done → AnswersEnd output old new result
end-answered output file' used old new done result given same_used stored =
    let fills : fill_all (making_in output ∷ []) (file_of output.file) old ≡ filling_by (file_of file') new done =
    ap (λ (count : ℕ). fill_all (take count output.making.line ∷ []) (file_of output.file) old) (sym same_used) ∙ stored.fills in
    subst (λ (answer : Result ℤ CallEnd). AnswersEnd output old new answer) (sym given)
    (record {
      replies = λ units transfer stands.
          subst (λ (meaning : Or Reply). Replies meaning (world_with new None units) (end_answer output done))
          (sym (end-known old units output transfer stands ∙ ap (end_reply (shown_by output transfer) (world_with old (Some (shown_by output transfer)) units)) fills))
          (ends-reply old new units output (file_of file') transfer done);
      forms = stored.forms;
      no_device = no-device output done;
    })
