-- What the calls of a list-directed output reply.
use Rattle.std.proofs.Common.{◌≡◌, ℕ, ℤ, pos, Bool, true, false, List, [], ◌∷◌, ◌++◌, length, take, drop, Some, None, refl, ap, sym, ◌∙◌, subst, append_assoc}
use Rattle.std.specs.Prelude.{Result, Ok, Err, if◌then◌else◌}
use Rattle.std.specs.Ordering.{int_eq}
use Rattle.c_tree.specs.run_state.Units.{Units, is_connected}
use Rattle.run_state.specs.declared.refusals.UnitRefusal.{UnitRefusal}
use Rattle.run_state.specs.declared.refusals.UnitRefusal.TheVariants.{NotConnected, NotOffered, Taken, PastEnd, Failed}
use Rattle.c_tree.specs.declared.outcome.CValue.{CValue}
use Rattle.c_tree.specs.declared.outcome.CFault.{CFault}
use Rattle.c_tree.specs.Faults.{Or, after, failing}
use Rattle.c_tree.specs.Objects.{Object}
use Rattle.c_tree.specs.World.{Direction, Output, Layout, Listed, Medium, Transfer, World, Reply, Gives, Stops, Io}
use Rattle.c_tree.specs.World as media
use Rattle.c_tree.specs.LibraryArguments.{number_through, count_from, length_from}
use Rattle.c_tree.specs.Transfers.{asked, numbered, unit_control, new_transfer, passed}
use Rattle.c_tree.specs.TransferStarts.{starts}
use Rattle.c_tree.specs.TransferOutput.{item_kind, item_length, items_at, made, put_on_unit, put_further, put_last, write_all}
use Rattle.c_tree.specs.TransferCalls.{listed_items, ends}
use Rattle.c_tree.specs.Builtins.{Begin, Finish, do_lio}
use Rattle.c_tree.specs.Library.{library}
use Rattle.edit_rules.specs.edit_meaning.Listed.{ListedValue, Listing, begun, listing, listing_from, listed, in_making}
use Rattle.edit_rules.specs.Writer.{used_by}
use Rattle.edit_rules.proofs.ListedLaws.{listed-open, listed-closed, in_making-is}
use Rattle.f2c_outside.specs.Table.{Row}
use Rattle.f2c_outside.specs.Meaning.{units_of}
use Rattle.control_lists.specs.declared.controls.UnitControl.{UnitControl}
use Rattle.control_lists.specs.Controls.{unit_shown}
use Rattle.unit_answers.specs.declared.ends.CallEnd.{CallEnd}
use Rattle.unit_answers.specs.declared.ends.CallEnd.TheVariants.{Fault, Ended}
use Rattle.unit_answers.specs.Failing.{FailedOn, NoneFailed}
use Rattle.unit_answers.specs.Answers.{world_with, numbered_answer, refused_answer, Replies, IfDevice}
use Rattle.unit_answers.proofs.OrLemmas.{known, faulty, behind, same-rest}
use Rattle.unit_answers.proofs.AnswerLaws.{numbered-replies}
use Rattle.unit_answers.proofs.CallLaws.{numbered-device}
use Rattle.listed_output.specs.declared.calls.ListedOutput.{ListedOutput}
use Rattle.listed_output.specs.declared.calls.Start.{Start}
use Rattle.listed_output.specs.declared.calls.Passage.{Passage}
use Rattle.listed_output.specs.declared.calls.Passage.TheVariants.{GoesOn}
use Rattle.listed_output.specs.declared.kinds.ItemList.{ItemList}
use Rattle.listed_output.specs.Items.{Given, list_shown, items_given, AreThere}
use Rattle.listed_output.specs.Kinds.{kind_shown}
use Rattle.listed_output.specs.Writing.{StayedOn, FailsOn, WritesAs, Writes, Makes, PutsItems}
use Rattle.listed_output.specs.Transferring.{listed_kind, making_in, StandsFor, Stands, StartReplies, start_of, ItemsReply, ItemsDevice, AnswersItems, AnswersEnd, IsBegun, IsReady, over_by}
use Rattle.listed_output.proofs.RowLaws.{stays-quietly}
use Rattle.listed_output.proofs.WriteLaws.{write-both, then_write}

-- ## A transfer for which an output stands

-- the transfer, with what the output says of it
abbrev shown_by : ListedOutput → Transfer → Transfer
shown_by output transfer = record transfer {
  direction = Output;
  layout = Listed;
  medium = media.Unit output.unit;
  on_error = output.on_error;
  on_end = output.on_end;
}

is-shown : (output : ListedOutput) (transfer : Transfer) → StandsFor output transfer → transfer ≡ shown_by output transfer
is-shown output transfer stands =
    ap (λ (direction : Direction). record transfer { direction = direction }) stands.direction
    ∙ ap (λ (layout : Layout). record transfer { direction = Output; layout = layout }) stands.layout
    ∙ ap (λ (medium : Medium). record transfer { direction = Output; layout = Listed; medium = medium }) stands.medium
    ∙ ap (λ (number : ℤ). record transfer { direction = Output; layout = Listed; medium = media.Unit output.unit; on_error = number }) stands.on_error
    ∙ ap (λ (number : ℤ). record transfer { direction = Output; layout = Listed; medium = media.Unit output.unit; on_error = output.on_error; on_end = number }) stands.on_end

-- the lines behind those that are written
pub behind-written : (written : ℕ) (complete lines : List (List ℕ)) → written ≡ length complete → drop written (complete ++ lines) ≡ lines
behind-written written complete lines is = ap (λ (n : ℕ). drop n (complete ++ lines)) is ∙ by complete
  where
    by : (front : List (List ℕ)) → drop (length front) (front ++ lines) ≡ lines
    by [] = refl
    by (line ∷ later) = by later

-- the listing of the values so far
listing-is : (output : ListedOutput) (transfer : Transfer) → StandsFor output transfer →
    listing transfer.values ≡ record { complete = (listing transfer.values).complete; making = making_in output }
listing-is output transfer stands = ap (λ (making : List ℕ). record { complete = (listing transfer.values).complete; making = making }) stands.making

-- ## The start

pub listing-none : listing [] ≡ record { complete = []; making = 32 ∷ [] }
unfolding listing listing_from begun
listing-none = refl

stands-at-start : (control : UnitControl) (output : ListedOutput) → IsBegun control output → StandsFor output (new_transfer Output Listed (unit_shown control))
stands-at-start control output is = record {
  direction = refl;
  layout = refl;
  medium = ap media.Unit (sym is.unit);
  on_error = sym is.on_error;
  on_end = sym is.on_end;
  written = ap (λ (out : Listing). length out.complete) (sym listing-none);
  making = ap (λ (out : Listing). out.making) listing-none ∙ sym is.making;
}

-- the start, once its list is read
started : (objects : List Object) (units : Units) (pointer : CValue) (control : UnitControl) → Ok (unit_shown control) ≡ unit_control objects pointer →
    library (Begin listed_kind) (world_with objects None units) (pointer ∷ [])
    ≡ (if is_connected control.unit units then Ok (Gives (pos 0) (world_with objects (Some (new_transfer Output Listed (unit_shown control))) units))
    else Ok (numbered (pos 6) control.on_error control.on_end (world_with objects None units)))
unfolding library starts
started objects units pointer control is = known (unit_control objects pointer) (unit_shown control) _ is

pub start-begins :
    (objects : List Object) (units : Units) (pointer : CValue) (control : UnitControl) (unit : ℤ) (output : ListedOutput) → Ok (unit_shown control) ≡ unit_control objects pointer →
    unit ≡ control.unit → true ≡ is_connected unit units → IsBegun control output →
    Stands (library (Begin listed_kind) (world_with objects None units) (pointer ∷ [])) objects units output
start-begins objects units pointer control unit output is same there begins = record {
  transfer = new_transfer Output Listed (unit_shown control);
  stands = stands-at-start control output begins;
  replies = started objects units pointer control is
      ∙ ap (λ (number : ℤ). if is_connected number units then Ok (Gives (pos 0) (world_with objects (Some (new_transfer Output Listed (unit_shown control))) units))
      else Ok (numbered (pos 6) control.on_error control.on_end (world_with objects None units))) (sym same)
      ∙ ap (λ (connected : Bool). if connected then Ok (Gives (pos 0) (world_with objects (Some (new_transfer Output Listed (unit_shown control))) units))
      else Ok (numbered (pos 6) control.on_error control.on_end (world_with objects None units))) (sym there);
}

not-connected : (number on_error on_end : ℤ) (objects : List Object) (units : Units) →
    StartReplies (Ok (numbered number on_error on_end (world_with objects None units))) objects units (start_of (numbered_answer number on_error on_end))
not-connected number on_error on_end objects units = by (int_eq (asked number on_error on_end) (pos 0))
  where
    by : (over : Bool) →
        StartReplies (Ok (if over then Stops (Io number) (world_with objects None units) else Gives number (world_with objects None units))) objects units
        (start_of (if over then Err (Ended number) else Ok number))
    by true = refl
    by false = refl

pub start-refused :
    (objects : List Object) (units : Units) (pointer : CValue) (control : UnitControl) (unit on_error on_end : ℤ) (answer : Result ℤ CallEnd) (result : Result Start CallEnd) →
    result ≡ start_of answer → answer ≡ numbered_answer (pos 6) on_error on_end → Ok (unit_shown control) ≡ unit_control objects pointer →
    unit ≡ control.unit → false ≡ is_connected unit units → on_error ≡ control.on_error → on_end ≡ control.on_end →
    StartReplies (library (Begin listed_kind) (world_with objects None units) (pointer ∷ [])) objects units result
start-refused objects units pointer control unit on_error on_end answer result given numbers is same there same_error same_end =
    subst (λ (one : Result Start CallEnd). StartReplies (library (Begin listed_kind) (world_with objects None units) (pointer ∷ [])) objects units one)
    (sym (given ∙ ap start_of (numbers ∙ ap (λ (number : ℤ). numbered_answer (pos 6) number on_end) same_error ∙ ap (λ (number : ℤ). numbered_answer (pos 6) control.on_error number) same_end)))
    (subst (λ (meaning : Or Reply). StartReplies meaning objects units (start_of (numbered_answer (pos 6) control.on_error control.on_end)))
    (sym (started objects units pointer control is
    ∙ ap (λ (number : ℤ). if is_connected number units then Ok (Gives (pos 0) (world_with objects (Some (new_transfer Output Listed (unit_shown control))) units))
    else Ok (numbered (pos 6) control.on_error control.on_end (world_with objects None units))) (sym same)
    ∙ ap (λ (connected : Bool). if connected then Ok (Gives (pos 0) (world_with objects (Some (new_transfer Output Listed (unit_shown control))) units))
    else Ok (numbered (pos 6) control.on_error control.on_end (world_with objects None units))) (sym there)))
    (not-connected (pos 6) control.on_error control.on_end objects units))

pub start-faulty : (objects : List Object) (units : Units) (pointer : CValue) (fault : CFault) → failing fault ≡ unit_control objects pointer →
    library (Begin listed_kind) (world_with objects None units) (pointer ∷ []) ≡ failing fault
unfolding library starts
start-faulty objects units pointer fault is = faulty (unit_control objects pointer) fault _ is

-- ## Items

-- what the values of items come to, by what writing comes to
abbrev items_reply : ℤ → Transfer → World → Result Units UnitRefusal → Or Reply
items_reply unit longer world found =
    after (after (put_on_unit unit world found) λ putting. Ok (put_further longer (made longer false) putting)) λ passage. Ok (passed passage)

-- a transfer with further values
abbrev longer_by : List ListedValue → Transfer → Transfer
longer_by values transfer = record transfer { values = transfer.values ++ values }

items-called : (objects : List Object) (units : Units) (output : ListedOutput) (transfer : Transfer) (kind count first size : CValue) →
    library do_lio (world_with objects (Some (shown_by output transfer)) units) (kind ∷ count ∷ first ∷ size ∷ [])
    ≡ after (items_given objects kind count size)
    (λ given. after (items_at given.kind objects given.size given.count first)
    λ values. items_reply output.unit (longer_by values (shown_by output transfer)) (world_with objects (Some (shown_by output transfer)) units)
    (write_all output.unit (drop transfer.written (listed (transfer.values ++ values) false)) units))
unfolding library listed_items
items-called objects units output transfer kind count first size =
    sym (behind (number_through objects kind) _ _
    ∙ same-rest (number_through objects kind) _ _ (λ kind_number. behind (number_through objects count) _ _
    ∙ same-rest (number_through objects count) _ _ (λ count_number. behind (item_kind kind_number) _ _
    ∙ same-rest (item_kind kind_number) _ _ (λ one. behind (count_from count_number) _ _
    ∙ same-rest (count_from count_number) _ _ (λ number. behind (length_from size) _ _
    ∙ same-rest (length_from size) _ _ (λ given. behind (item_length one given) _ _))))))

-- a call whose items are there
items-known : (objects : List Object) (units : Units) (output : ListedOutput) (transfer : Transfer) (kind count first size : CValue) (list : ItemList) (values : List ListedValue) →
    StandsFor output transfer → items_given objects kind count size ≡ Ok (list_shown list) → items_at (kind_shown list.kind) objects list.size list.count first ≡ Ok values →
    library do_lio (world_with objects (Some transfer) units) (kind ∷ count ∷ first ∷ size ∷ [])
    ≡ items_reply output.unit (longer_by values (shown_by output transfer)) (world_with objects (Some (shown_by output transfer)) units)
    (write_all output.unit (drop transfer.written (listed (transfer.values ++ values) false)) units)
items-known objects units output transfer kind count first size list values stands given there =
    ap (λ (one : Transfer). library do_lio (world_with objects (Some one) units) (kind ∷ count ∷ first ∷ size ∷ [])) (is-shown output transfer stands)
    ∙ items-called objects units output transfer kind count first size
    ∙ known (items_given objects kind count size) (list_shown list) _ (sym given)
    ∙ known (items_at (kind_shown list.kind) objects list.size list.count first) values _ (sym there)

items-fault : (objects : List Object) (units : Units) (output : ListedOutput) (transfer : Transfer) (kind count first size : CValue) (fault : CFault) → StandsFor output transfer →
    after (items_given objects kind count size) (λ given. items_at given.kind objects given.size given.count first) ≡ failing fault →
    library do_lio (world_with objects (Some transfer) units) (kind ∷ count ∷ first ∷ size ∷ []) ≡ failing fault
items-fault objects units output transfer kind count first size fault stands is =
    ap (λ (one : Transfer). library do_lio (world_with objects (Some one) units) (kind ∷ count ∷ first ∷ size ∷ [])) (is-shown output transfer stands)
    ∙ items-called objects units output transfer kind count first size
    ∙ by (items_given objects kind count size) _ is
  where
    by : {B : Type 0} (found : Or Given) (rest : Given → List ListedValue → Or B) → after found (λ given. items_at given.kind objects given.size given.count first) ≡ failing fault →
        after found (λ given. after (items_at given.kind objects given.size given.count first) (rest given)) ≡ failing fault
    by (Ok given) rest wrong = faulty (items_at given.kind objects given.size given.count first) fault (rest given) (sym wrong)
    by (Err reason) rest wrong = cc

-- the transfer behind the values
abbrev later_of : ListedOutput → Transfer → List ListedValue → Transfer
later_of output transfer values =
    record (longer_by values (shown_by output transfer)) { medium = media.Unit output.unit; written = length (listed (transfer.values ++ values) false) }

-- of an output only the record in the making changes
pub record SameOutput (output output' : ListedOutput) : Type 0 where
  pub unit : output'.unit ≡ output.unit
  pub on_error : output'.on_error ≡ output.on_error
  pub on_end : output'.on_end ≡ output.on_end

stands-later :
    (output output' : ListedOutput) (transfer : Transfer) (values : List ListedValue) (lines : List (List ℕ)) → StandsFor output transfer → SameOutput output output' →
    listing (transfer.values ++ values) ≡ record { complete = (listing transfer.values).complete ++ lines; making = making_in output' } → StandsFor output' (later_of output transfer values)
stands-later output output' transfer values lines stands same made = record {
  direction = refl;
  layout = refl;
  medium = ap media.Unit (sym same.unit);
  on_error = sym same.on_error;
  on_end = sym same.on_end;
  written = ap (λ (records : List (List ℕ)). length records) (listed-open (transfer.values ++ values));
  making = ap (λ (out : Listing). out.making) made;
}

-- the lines that are new
new-lines : (output : ListedOutput) (transfer : Transfer) (values : List ListedValue) (lines : List (List ℕ)) → StandsFor output transfer →
    (listing (transfer.values ++ values)).complete ≡ (listing transfer.values).complete ++ lines → drop transfer.written (listed (transfer.values ++ values) false) ≡ lines
new-lines output transfer values lines stands made =
    ap (drop transfer.written) (listed-open (transfer.values ++ values) ∙ made) ∙ behind-written transfer.written (listing transfer.values).complete lines stands.written

-- a number that ends an output
over-reply : (number on_error on_end : ℤ) (objects : List Object) (units : Units) (transfer : Transfer) (output : ListedOutput) →
    ItemsReply (Ok (numbered number on_error on_end (world_with objects (Some transfer) units))) objects units output (over_by (numbered_answer number on_error on_end))
over-reply number on_error on_end objects units transfer output = by (int_eq (asked number on_error on_end) (pos 0))
  where
    by : (over : Bool) →
        ItemsReply (Ok (if over then Stops (Io number) (world_with objects None units) else Gives number (world_with objects None units))) objects units output
        (over_by (if over then Err (Ended number) else Ok number))
    by true = refl
    by false = refl

-- writing that is refused
write-refused : (unit : ℤ) (front back : List (List ℕ)) (units : Units) (refusal : UnitRefusal) → write_all unit front units ≡ Err refusal → write_all unit (front ++ back) units ≡ Err refusal
write-refused unit front back units refusal is = write-both unit front back units ∙ ap (then_write unit back) is

refused-numbered :
    (refusal : UnitRefusal) (number : ℤ) (objects : List Object) (before after_it : Units) (output output' : ListedOutput) (transfer : Transfer) (values : List ListedValue) (lines later : List (List ℕ)) →
    ((world : World) → (longer : Transfer) → items_reply output.unit longer world (Err refusal) ≡ Ok (numbered number longer.on_error longer.on_end world)) → StandsFor output transfer →
    (listing (transfer.values ++ values)).complete ≡ ((listing transfer.values).complete ++ lines) ++ later → (write_all output.unit lines before ≡ Err refusal) × (after_it ≡ before) →
    ItemsReply
    (items_reply output.unit (longer_by values (shown_by output transfer)) (world_with objects (Some (shown_by output transfer)) before)
    (write_all output.unit (drop transfer.written (listed (transfer.values ++ values) false)) before))
    objects after_it output' (over_by (numbered_answer number output.on_error output.on_end))
refused-numbered refusal number objects before after_it output output' transfer values lines later numbers stands made refused =
    subst (λ (units : Units). ItemsReply
    (items_reply output.unit (longer_by values (shown_by output transfer)) (world_with objects (Some (shown_by output transfer)) before)
    (write_all output.unit (drop transfer.written (listed (transfer.values ++ values) false)) before))
    objects units output' (over_by (numbered_answer number output.on_error output.on_end)))
    (sym refused.1)
    (subst (λ (meaning : Or Reply). ItemsReply meaning objects before output' (over_by (numbered_answer number output.on_error output.on_end)))
    (sym (ap (λ (all : List (List ℕ)). items_reply output.unit (longer_by values (shown_by output transfer)) (world_with objects (Some (shown_by output transfer)) before) (write_all output.unit all before))
    (new-lines output transfer values (lines ++ later) stands (made ∙ append_assoc (listing transfer.values).complete lines later))
    ∙ ap (items_reply output.unit (longer_by values (shown_by output transfer)) (world_with objects (Some (shown_by output transfer)) before))
    (write-refused output.unit lines later before refusal refused.0)
    ∙ numbers (world_with objects (Some (shown_by output transfer)) before) (longer_by values (shown_by output transfer))))
    (over-reply number output.on_error output.on_end objects before (shown_by output transfer) output'))

-- what the code answers
abbrev pub items_answer : ListedOutput → Result (Unit {0}) UnitRefusal → Result Passage CallEnd
items_answer output (Ok done) = Ok GoesOn
items_answer output (Err refusal) = over_by (refused_answer output.unit refusal output.on_error output.on_end)

puts-reply :
    (objects : List Object) (before after_it : Units) (output output' : ListedOutput) (transfer : Transfer) (values : List ListedValue) (lines : List (List ℕ))
    (done : Result (Unit {0}) UnitRefusal) → StandsFor output transfer → SameOutput output output' →
    Makes (transfer.values ++ values) (listing transfer.values).complete lines output'.making.writer output'.making.line done → WritesAs output.unit lines before after_it done →
    ItemsReply
    (items_reply output.unit (longer_by values (shown_by output transfer)) (world_with objects (Some (shown_by output transfer)) before)
    (write_all output.unit (drop transfer.written (listed (transfer.values ++ values) false)) before))
    objects after_it output' (items_answer output done)
puts-reply objects before after_it output output' transfer values lines (Ok done) stands next made wrote = record {
  transfer = later_of output transfer values;
  stands = stands-later output output' transfer values lines stands next made;
  replies =
      ap (λ (all : List (List ℕ)). items_reply output.unit (longer_by values (shown_by output transfer)) (world_with objects (Some (shown_by output transfer)) before) (write_all output.unit all before))
      (new-lines output transfer values lines stands (ap (λ (out : Listing). out.complete) made))
      ∙ ap (items_reply output.unit (longer_by values (shown_by output transfer)) (world_with objects (Some (shown_by output transfer)) before)) wrote;
}
puts-reply objects before after_it output output' transfer values lines (Err Failed) stands next made wrote = tt
puts-reply objects before after_it output output' transfer values lines (Err NotConnected) stands next made wrote =
    refused-numbered NotConnected (pos 6) objects before after_it output output' transfer values lines made.0 (λ world longer. refl) stands made.1 wrote
puts-reply objects before after_it output output' transfer values lines (Err NotOffered) stands next made wrote =
    refused-numbered NotOffered (pos 7) objects before after_it output output' transfer values lines made.0 (λ world longer. refl) stands made.1 wrote
puts-reply objects before after_it output output' transfer values lines (Err Taken) stands next made wrote =
    refused-numbered Taken (pos 8) objects before after_it output output' transfer values lines made.0 (λ world longer. refl) stands made.1 wrote
puts-reply objects before after_it output output' transfer values lines (Err PastEnd) stands next made wrote =
    refused-numbered PastEnd (pos 9) objects before after_it output output' transfer values lines made.0 (λ world longer. refl) stands made.1 wrote

over-device : (number on_error on_end : ℤ) (output : ListedOutput) (old new : List Row) → NoneFailed old new → ItemsDevice output old new (over_by (numbered_answer number on_error on_end))
over-device number on_error on_end output old new none = by (int_eq (asked number on_error on_end) (pos 0))
  where
    by : (over : Bool) → ItemsDevice output old new (over_by (if over then Err (Ended number) else Ok number))
    by true = none
    by false = none

puts-device : (output : ListedOutput) (old new : List Row) (done : Result (Unit {0}) UnitRefusal) → FailsOn output.unit old new done → ItemsDevice output old new (items_answer output done)
puts-device output old new (Ok done) stays = stays-quietly output.unit old new stays
puts-device output old new (Err Failed) failed = (refl, failed)
puts-device output old new (Err NotConnected) stays = over-device (pos 6) output.on_error output.on_end output old new (stays-quietly output.unit old new stays)
puts-device output old new (Err NotOffered) stays = over-device (pos 7) output.on_error output.on_end output old new (stays-quietly output.unit old new stays)
puts-device output old new (Err Taken) stays = over-device (pos 8) output.on_error output.on_end output old new (stays-quietly output.unit old new stays)
puts-device output old new (Err PastEnd) stays = over-device (pos 9) output.on_error output.on_end output old new (stays-quietly output.unit old new stays)

pub items-answered :
    (objects : List Object) (kind count first size : CValue) (list : ItemList) (values : List ListedValue) (output output' : ListedOutput) (old new : List Row) (done : Result (Unit {0}) UnitRefusal)
    (result : Result Passage CallEnd) → result ≡ items_answer output done → items_given objects kind count size ≡ Ok (list_shown list) →
    items_at (kind_shown list.kind) objects list.size list.count first ≡ Ok values → SameOutput output output' →
    PutsItems output.unit values output.making.writer output.making.line output'.making.writer output'.making.line old new done →
    AnswersItems objects (kind ∷ count ∷ first ∷ size ∷ []) output output' old new result
items-answered objects kind count first size list values output output' old new done result given is there same puts =
    subst (λ (answer : Result Passage CallEnd). AnswersItems objects (kind ∷ count ∷ first ∷ size ∷ []) output output' old new answer) (sym given)
    (record {
      tells = puts.writes.tells;
      replies = λ tells transfer stands.
          subst (λ (meaning : Or Reply). ItemsReply meaning objects (units_of new) output' (items_answer output done))
          (sym (items-known objects (units_of old) output transfer kind count first size list values stands is there))
          (puts-reply objects (units_of old) (units_of new) output output' transfer values puts.lines done stands same
          (puts.makes transfer.values (listing transfer.values).complete (listing-is output transfer stands)) (puts.writes.means tells));
      devices = puts-device output old new done puts.writes.devices;
    })

pub items-faulty :
    (objects : List Object) (kind count first size : CValue) (output : ListedOutput) (rows : List Row) (fault : CFault) →
    after (items_given objects kind count size) (λ given. items_at given.kind objects given.size given.count first) ≡ failing fault →
    AnswersItems objects (kind ∷ count ∷ first ∷ size ∷ []) output output rows rows (Err (Fault fault))
items-faulty objects kind count first size output rows fault is = record {
  tells = λ tells. tells;
  replies = λ tells transfer stands. items-fault objects (units_of rows) output transfer kind count first size fault stands is;
  devices = refl;
}

-- ## The end

abbrev end_reply : ℤ → Transfer → World → Result Units UnitRefusal → Or Reply
end_reply unit transfer world found = after (put_on_unit unit world found) λ putting. Ok (put_last transfer None putting)

end-called : (objects : List Object) (units : Units) (output : ListedOutput) (transfer : Transfer) →
    library (Finish listed_kind) (world_with objects (Some (shown_by output transfer)) units) []
    ≡ end_reply output.unit (shown_by output transfer) (world_with objects (Some (shown_by output transfer)) units) (write_all output.unit (drop transfer.written (listed transfer.values true)) units)
unfolding library ends
end-called objects units output transfer = refl

last-line : (output : ListedOutput) (transfer : Transfer) → StandsFor output transfer → drop transfer.written (listed transfer.values true) ≡ making_in output ∷ []
last-line output transfer stands =
    ap (drop transfer.written) (listed-closed transfer.values ∙ ap (λ (records : List (List ℕ)). records ++ in_making transfer.values ∷ []) (listed-open transfer.values))
    ∙ behind-written transfer.written (listing transfer.values).complete (in_making transfer.values ∷ []) stands.written
    ∙ ap (λ (record' : List ℕ). record' ∷ []) (in_making-is transfer.values ∙ stands.making)

end-known : (objects : List Object) (units : Units) (output : ListedOutput) (transfer : Transfer) → StandsFor output transfer →
    library (Finish listed_kind) (world_with objects (Some transfer) units) []
    ≡ end_reply output.unit (shown_by output transfer) (world_with objects (Some (shown_by output transfer)) units) (write_all output.unit (making_in output ∷ []) units)
end-known objects units output transfer stands =
    ap (λ (one : Transfer). library (Finish listed_kind) (world_with objects (Some one) units) []) (is-shown output transfer stands)
    ∙ end-called objects units output transfer
    ∙ ap (λ (lines : List (List ℕ)). end_reply output.unit (shown_by output transfer) (world_with objects (Some (shown_by output transfer)) units) (write_all output.unit lines units)) (last-line output transfer stands)

-- a refusal by the same numbers
pub same-refused :
    (unit unit' : ℤ) (refusal : UnitRefusal) (on_error on_error' on_end on_end' : ℤ) (result : Result ℤ CallEnd) → result ≡ refused_answer unit' refusal on_error' on_end' → unit' ≡ unit →
    on_error' ≡ on_error → on_end' ≡ on_end → result ≡ refused_answer unit refusal on_error on_end
same-refused unit unit' refusal on_error on_error' on_end on_end' result is same_unit same_error same_end =
    is ∙ ap (λ (number : ℤ). refused_answer number refusal on_error' on_end') same_unit ∙ ap (λ (number : ℤ). refused_answer unit refusal number on_end') same_error
    ∙ ap (λ (number : ℤ). refused_answer unit refusal on_error number) same_end

-- what the code answers
abbrev pub end_answer : ListedOutput → Result (Unit {0}) UnitRefusal → Result ℤ CallEnd
end_answer output (Ok done) = Ok (pos 0)
end_answer output (Err refusal) = refused_answer output.unit refusal output.on_error output.on_end

refused-end :
    (refusal : UnitRefusal) (number : ℤ) (objects : List Object) (before after_it : Units) (output : ListedOutput) (transfer : Transfer) (lines : List (List ℕ)) →
    ((world : World) → (one : Transfer) → end_reply output.unit one world (Err refusal) ≡ Ok (numbered number one.on_error one.on_end world)) →
    (write_all output.unit lines before ≡ Err refusal) × (after_it ≡ before) →
    Replies (end_reply output.unit (shown_by output transfer) (world_with objects (Some (shown_by output transfer)) before) (write_all output.unit lines before)) (world_with objects None after_it)
    (numbered_answer number output.on_error output.on_end)
refused-end refusal number objects before after_it output transfer lines numbers refused =
    subst (λ (units : Units). Replies (end_reply output.unit (shown_by output transfer) (world_with objects (Some (shown_by output transfer)) before) (write_all output.unit lines before)) (world_with objects None units)
    (numbered_answer number output.on_error output.on_end)) (sym refused.1)
    (subst (λ (meaning : Or Reply). Replies meaning (world_with objects None before) (numbered_answer number output.on_error output.on_end))
    (sym (ap (end_reply output.unit (shown_by output transfer) (world_with objects (Some (shown_by output transfer)) before)) refused.0
    ∙ numbers (world_with objects (Some (shown_by output transfer)) before) (shown_by output transfer)))
    (numbered-replies number output.on_error output.on_end (world_with objects (Some (shown_by output transfer)) before)))

ends-reply :
    (objects : List Object) (before after_it : Units) (output : ListedOutput) (transfer : Transfer) (lines : List (List ℕ)) (done : Result (Unit {0}) UnitRefusal) →
    WritesAs output.unit lines before after_it done →
    Replies (end_reply output.unit (shown_by output transfer) (world_with objects (Some (shown_by output transfer)) before) (write_all output.unit lines before)) (world_with objects None after_it) (end_answer output done)
ends-reply objects before after_it output transfer lines (Ok done) wrote = ap (end_reply output.unit (shown_by output transfer) (world_with objects (Some (shown_by output transfer)) before)) wrote
ends-reply objects before after_it output transfer lines (Err Failed) wrote = tt
ends-reply objects before after_it output transfer lines (Err NotConnected) wrote = refused-end NotConnected (pos 6) objects before after_it output transfer lines (λ world one. refl) wrote
ends-reply objects before after_it output transfer lines (Err NotOffered) wrote = refused-end NotOffered (pos 7) objects before after_it output transfer lines (λ world one. refl) wrote
ends-reply objects before after_it output transfer lines (Err Taken) wrote = refused-end Taken (pos 8) objects before after_it output transfer lines (λ world one. refl) wrote
ends-reply objects before after_it output transfer lines (Err PastEnd) wrote = refused-end PastEnd (pos 9) objects before after_it output transfer lines (λ world one. refl) wrote

end-device : (number : ℤ) (output : ListedOutput) (old new : List Row) → StayedOn output.unit old new →
    IfDevice (numbered_answer number output.on_error output.on_end) (λ unit. (unit ≡ output.unit) × FailedOn unit old new) (NoneFailed old new)
end-device number output old new stays =
    numbered-device number output.on_error output.on_end (λ unit. (unit ≡ output.unit) × FailedOn unit old new) (NoneFailed old new) (stays-quietly output.unit old new stays)

ends-device : (output : ListedOutput) (old new : List Row) (done : Result (Unit {0}) UnitRefusal) → FailsOn output.unit old new done →
    IfDevice (end_answer output done) (λ unit. (unit ≡ output.unit) × FailedOn unit old new) (NoneFailed old new)
ends-device output old new (Ok done) stays = stays-quietly output.unit old new stays
ends-device output old new (Err Failed) failed = (refl, failed)
ends-device output old new (Err NotConnected) stays = end-device (pos 6) output old new stays
ends-device output old new (Err NotOffered) stays = end-device (pos 7) output old new stays
ends-device output old new (Err Taken) stays = end-device (pos 8) output old new stays
ends-device output old new (Err PastEnd) stays = end-device (pos 9) output old new stays

pub end-answered :
    (output : ListedOutput) (unit : ℤ) (used : ℕ) (old new : List Row) (done : Result (Unit {0}) UnitRefusal) (result : Result ℤ CallEnd) → result ≡ end_answer output done →
    unit ≡ output.unit → used ≡ used_by output.making.writer → Writes unit (take used output.making.line ∷ []) old new done → AnswersEnd output old new result
end-answered output unit used old new done result given same_unit same_used wrote =
    let writes : Writes output.unit (making_in output ∷ []) old new done =
    subst (λ (number : ℤ). Writes number (making_in output ∷ []) old new done) same_unit
    (subst (λ (count : ℕ). Writes unit (take count output.making.line ∷ []) old new done) same_used wrote) in
    subst (λ (answer : Result ℤ CallEnd). AnswersEnd output old new answer) (sym given)
    (record {
      tells = writes.tells;
      replies = λ tells objects transfer stands.
          subst (λ (meaning : Or Reply). Replies meaning (world_with objects None (units_of new)) (end_answer output done)) (sym (end-known objects (units_of old) output transfer stands))
          (ends-reply objects (units_of old) (units_of new) output transfer (making_in output ∷ []) done (writes.means tells));
      devices = ends-device output old new done writes.devices;
    })

-- ## What is ready

pub ready-there : (objects : List Object) (kind count first size : CValue) (list : ItemList) → Ok (list_shown list) ≡ items_given objects kind count size →
    AreThere (items_at (kind_shown list.kind) objects list.size list.count first) (Ok tt) → IsReady objects kind count first size (Ok list)
ready-there objects kind count first size list is there = (sym is, there.0, there.1)

pub ready-fault : (objects : List Object) (kind count first size : CValue) (fault : CFault) → failing fault ≡ items_given objects kind count size →
    IsReady objects kind count first size (Err fault)
ready-fault objects kind count first size fault is = faulty (items_given objects kind count size) fault _ is

pub ready-missing : (objects : List Object) (kind count first size : CValue) (list : ItemList) (fault : CFault) → Ok (list_shown list) ≡ items_given objects kind count size →
    items_at (kind_shown list.kind) objects list.size list.count first ≡ failing fault → IsReady objects kind count first size (Err fault)
ready-missing objects kind count first size list fault is missing = known (items_given objects kind count size) (list_shown list) _ is ∙ missing
