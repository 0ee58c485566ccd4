-- What an item of a formatted input means.
use Rattle.std.proofs.Common.{◌≡◌, ℕ, ◌+◌, ◌-◌, ℤ, List, [], ◌∷◌, ◌++◌, length, Option, Some, None, refl, ap, sym, ◌∙◌, subst, arith}
use Rattle.std.specs.Prelude.{Ok, Err}
use Rattle.c_tree.specs.run_state.Units.{Units}
use Rattle.c_tree.specs.declared.outcome.CValue.{CValue}
use Rattle.c_tree.specs.declared.outcome.CFault.{CFault}
use Rattle.c_tree.specs.Faults.{Or, after, failing}
use Rattle.c_tree.specs.Objects.{Object}
use Rattle.c_tree.specs.World.{Direction, Input as Reads, Layout, Formatted, Medium, Internal, InternalFile, Transfer, World, Reply}
use Rattle.c_tree.specs.Transfers.{Upcoming, Passage, GoesOn, Answers, numbered}
use Rattle.c_tree.specs.TransferOutput.{descriptor_in, halt_number}
use Rattle.c_tree.specs.TransferInput.{value_taken, wanted_under, format_stop, formatted_taken, formatted_item}
use Rattle.edit_rules.specs.edit_meaning.Formats as formats
use Rattle.edit_rules.specs.edit_meaning.Formats.{Format, Descriptor, pass, reverted}
use Rattle.edit_rules.specs.edit_meaning.Halts as halts
use Rattle.edit_rules.specs.edit_meaning.ListItems.{Value}
use Rattle.edit_rules.specs.edit_meaning.TakenRecords.{Input, Want, input, with_field}
use Rattle.edit_rules.specs.edit_meaning.Transfers.{edited, unserved_by, for_next}
use Rattle.edit_rules.specs.Walks.{Stands}
use Rattle.edit_rules.specs.declared.format_walk.FormatWalk.{FormatWalk}
use Rattle.unit_answers.specs.Answers.{world_with}
use Rattle.formatted_records.specs.declared.fields.Field.{Field}
use Rattle.formatted_records.specs.Sheets.{descriptor_of}
use Rattle.internal_output.specs.Files.{file_of}
use Rattle.internal_records.specs.Fetching.{coming, moved}
use Rattle.taken_records.specs.declared.halt.Halt.{Halt}
use Rattle.taken_records.specs.declared.record.RecordInput.{RecordInput}
use Rattle.taken_records.specs.Records.{halt_of, shown}
use Rattle.taken_items.specs.declared.values.ItemHalt.TheVariants as item
use Rattle.taken_items.specs.Taking.{TakesValue, TakesItem}
use Rattle.internal_formatted_input.specs.declared.calls.InternalFormattedInput.{InternalFormattedInput}
use Rattle.internal_formatted_input.specs.declared.acts.Stop.{Stop}
use Rattle.internal_formatted_input.specs.declared.acts.Stop.TheVariants as stop
use Rattle.internal_formatted_input.specs.Acting.{input_at, ReadOn, HaltsBy, Stops}
use Rattle.taken_items.specs.Reaching.{over_next, with_next}
use Rattle.internal_formatted_input.specs.Reaching.{AtField, Reaches}
use Rattle.internal_formatted_input.specs.Giving.{SameInput, ItemMeans, GivesItem}
use Rattle.internal_formatted_input.specs.Transferring.{StandsFor}
use Rattle.internal_formatted_input.proofs.ActLaws.{halts-by}

-- ## The transfer for which an input stands

-- the transfer, with what the input says of it
abbrev pub shown_by : InternalFormattedInput → Format → List (List ℕ) → List Value → Transfer → Transfer
shown_by given format later values transfer = record transfer {
  direction = Reads;
  layout = Formatted format;
  medium = Internal (file_of given.file);
  on_error = given.on_error;
  on_end = given.on_end;
  course = record { left = transfer.course.left; state = shown given.record later values };
}

pub is-shown : (text : List ℕ) (given : InternalFormattedInput) (transfer : Transfer) → (stands : StandsFor text given transfer) → transfer ≡ shown_by given stands.format stands.later stands.values transfer
is-shown text given transfer stands =
    ap (λ (direction : Direction). record transfer { direction = direction }) stands.direction
    ∙ ap (λ (layout : Layout). record transfer { direction = Reads; layout = layout }) stands.layout
    ∙ ap (λ (medium : Medium). record transfer { direction = Reads; layout = Formatted stands.format; medium = medium }) stands.medium
    ∙ ap (λ (number : ℤ). record transfer { direction = Reads; layout = Formatted stands.format; medium = Internal (file_of given.file); on_error = number }) stands.on_error
    ∙ ap (λ (number : ℤ). record transfer { direction = Reads; layout = Formatted stands.format; medium = Internal (file_of given.file); on_error = given.on_error; on_end = number }) stands.on_end
    ∙ ap (λ (state : Input). record transfer {
      direction = Reads;
      layout = Formatted stands.format;
      medium = Internal (file_of given.file);
      on_error = given.on_error;
      on_end = given.on_end;
      course = record { left = transfer.course.left; state = state };
    }) stands.place

-- ## Where it goes no further

-- what a call replies there
abbrev pub stop_reply : Stop → InternalFormattedInput → World → Or Reply
stop_reply (stop.Number number) given world = Ok (numbered number given.on_error given.on_end world)
stop_reply (stop.Fault fault) given world = failing fault

pub format-stops : (why : Stop) (halt : halts.Halt) (given : InternalFormattedInput) (format : Format) (later : List (List ℕ)) (values : List Value) (transfer : Transfer) (objects : List Object)
    (going : Option Transfer) (units : Units) (next : Upcoming) (read : ℕ) → HaltsBy next.then_comes why halt →
    format_stop (shown_by given format later values transfer) (world_with objects going units) next read halt ≡ stop_reply why given (world_with objects going units)
format-stops (stop.Number number) (halts.Number error) given format later values transfer objects going units next read by =
    ap (λ (n : ℤ). Ok (numbered n given.on_error given.on_end (world_with objects going units))) (sym by)
format-stops (stop.Number number) halts.OtherType given format later values transfer objects going units next read by =
    ap (λ (n : ℤ). Ok (numbered n given.on_error given.on_end (world_with objects going units))) (sym by)
format-stops (stop.Number number) halts.EndOfRecords given format later values transfer objects going units next read by =
    ap (λ (found : Or ℤ). after found λ n. Ok (numbered n given.on_error given.on_end (world_with objects going units))) by
format-stops (stop.Fault fault) (halts.Number error) given format later values transfer objects going units next read by = absurd by
format-stops (stop.Fault fault) halts.OtherType given format later values transfer objects going units next read by = absurd by
format-stops (stop.Fault fault) halts.EndOfRecords given format later values transfer objects going units next read by =
    ap (λ (found : Or ℤ). after found λ n. Ok (numbered n given.on_error given.on_end (world_with objects going units))) by

-- ## The item, by what its edits come to

-- what the item wants
abbrev want_of : Format → List formats.Edit → ℕ → Want
want_of format rest size = wanted_under (descriptor_in (for_next (pass (reverted format)) rest).edits) size

-- what its edits come to
abbrev out_of : InternalFormattedInput → Format → Transfer → List Object → ℕ → Input
out_of given format transfer objects size =
    with_next (pass (reverted format)) transfer.course.left (want_of format transfer.course.left size ∷ []) (input_at objects (file_of given.file) given.record)

-- the rest of the item then
abbrev rest_of : ℕ → CValue → Transfer → World → Upcoming → List formats.Edit → Input → Option halts.Halt → Or Passage
rest_of size pointer one world next left out halted = formatted_taken pointer size one world next (record { left = left; state = out }) halted

item-called : (given : InternalFormattedInput) (format : Format) (later : List (List ℕ)) (values : List Value) (transfer : Transfer) (objects : List Object) (going : Option Transfer) (units : Units) (size : ℕ) (pointer : CValue) →
    formatted_item format size pointer (shown_by given format later values transfer) (world_with objects going units)
    ≡ rest_of size pointer (shown_by given format later values transfer) (world_with objects going units) (coming objects (file_of given.file))
    (for_next (pass (reverted format)) transfer.course.left).left (out_of given format transfer objects size) (out_of given format transfer objects size).halted
item-called given format later values transfer objects going units size pointer = refl

item-known : (text : List ℕ) (given : InternalFormattedInput) (transfer : Transfer) (objects : List Object) (going : Option Transfer) (units : Units) (size : ℕ) (pointer : CValue) (out : Input) →
    (stands : StandsFor text given transfer) → out_of given stands.format transfer objects size ≡ out →
    formatted_item stands.format size pointer transfer (world_with objects going units)
    ≡ rest_of size pointer (shown_by given stands.format stands.later stands.values transfer) (world_with objects going units) (coming objects (file_of given.file))
    (for_next (pass (reverted stands.format)) transfer.course.left).left out out.halted
item-known text given transfer objects going units size pointer out stands is =
    ap (λ (one : Transfer). formatted_item stands.format size pointer one (world_with objects going units)) (is-shown text given transfer stands)
    ∙ item-called given stands.format stands.later stands.values transfer objects going units size pointer
    ∙ ap (λ (o : Input). rest_of size pointer (shown_by given stands.format stands.later stands.values transfer) (world_with objects going units) (coming objects (file_of given.file))
    (for_next (pass (reverted stands.format)) transfer.course.left).left o o.halted) is

-- it is halted
item-halts : (text : List ℕ) (given : InternalFormattedInput) (transfer : Transfer) (objects : List Object) (going : Option Transfer) (units : Units) (size : ℕ) (pointer : CValue) (why : Stop) →
    (stands : StandsFor text given transfer) → Stops objects (file_of given.file) (out_of given stands.format transfer objects size) why →
    formatted_item stands.format size pointer transfer (world_with objects going units) ≡ after (stop_reply why given (world_with objects going units)) λ reply. Ok (Answers reply)
item-halts text given transfer objects going units size pointer why stands stops =
    let one : Transfer = shown_by given stands.format stands.later stands.values transfer in
    let world : World = world_with objects going units in
    let next : Upcoming = coming objects (file_of given.file) in
    let out : Input = out_of given stands.format transfer objects size in
    item-known text given transfer objects going units size pointer out stands refl
    ∙ ap (rest_of size pointer one world next (for_next (pass (reverted stands.format)) transfer.course.left).left out) stops.halted
    ∙ ap (λ (found : Or Reply). after found λ reply. Ok (Answers reply))
    (format-stops why stops.halt given stands.format stands.later stands.values transfer objects going units next (length next.lines - length out.later) stops.by)

halted-means : (text : List ℕ) (given given' : InternalFormattedInput) (transfer : Transfer) (objects : List Object) (going : Option Transfer) (units : Units) (size : ℕ) (pointer : CValue) (why : Stop) →
    (stands : StandsFor text given transfer) → Stops objects (file_of given.file) (out_of given stands.format transfer objects size) why →
    ItemMeans (formatted_item stands.format size pointer transfer (world_with objects going units)) objects going units text stands.format given given' (Err why)
halted-means text given given' transfer objects going units size pointer (stop.Number number) stands stops = item-halts text given transfer objects going units size pointer (stop.Number number) stands stops
halted-means text given given' transfer objects going units size pointer (stop.Fault fault) stands stops = item-halts text given transfer objects going units size pointer (stop.Fault fault) stands stops

pub item-stopped :
    (text : List ℕ) (given given' : InternalFormattedInput) (pointer : CValue) (size : ℕ) (objects : List Object) (why : Stop) → SameInput given given' →
    Reaches objects text given.walk given'.walk given.record given'.record (file_of given.file) (file_of given'.file) (Err why) → GivesItem text given given' objects objects pointer size (Err why)
item-stopped text given given' pointer size objects why same reaches = record {
  same = same;
  inside = reaches.inside;
  means = λ units transfer stands going.
      halted-means text given given' transfer objects going units size pointer why stands
      (reaches.comes (pass (reverted stands.format)) transfer.course.left stands.walks (want_of stands.format transfer.course.left size ∷ []));
}

-- ## Its descriptor is come to

none-more : (halted : Option halts.Halt) (out : Input) → edited input halted [] [] out ≡ out
none-more None out = refl
none-more (Some halt) out = refl

abbrev IsAt : List ℕ → InternalFormattedInput → Format → Transfer → List Object → FormatWalk → InternalFile → RecordInput → Field → Type 0
IsAt text given format transfer objects walk' file' mid field =
    AtField objects text (pass (reverted format)) transfer.course.left walk' given.record (file_of given.file) file' mid field

-- what the field takes
abbrev taken_at : List Object → InternalFile → RecordInput → Descriptor → ℕ → Input
taken_at objects file' mid descriptor size = with_field descriptor (wanted_under (Some descriptor) size) (shown mid (coming objects file').lines [])

out-is : (text : List ℕ) (given : InternalFormattedInput) (format : Format) (transfer : Transfer) (objects : List Object) (walk' : FormatWalk) (file' : InternalFile) (mid : RecordInput) (field : Field) (size : ℕ) →
    IsAt text given format transfer objects walk' file' mid field → out_of given format transfer objects size ≡ taken_at objects file' mid (descriptor_of field) size
out-is text given format transfer objects walk' file' mid field size at =
    let again : List formats.Edit = pass (reverted format) in
    let rest : List formats.Edit = transfer.course.left in
    let start : Input = input_at objects (file_of given.file) given.record in
    let want : Want = wanted_under (Some (descriptor_of field)) size in
    ap (λ (descriptor : Option Descriptor). with_next again rest (wanted_under descriptor size ∷ []) start) at.descriptor
    ∙ ap (λ (unserved : ℕ). unserved_by input unserved (over_next again rest (want ∷ []) start).halted (over_next again rest (want ∷ []) start)) at.served
    ∙ at.edits (want ∷ [])
    ∙ none-more (taken_at objects file' mid (descriptor_of field) size).halted (taken_at objects file' mid (descriptor_of field) size)

-- how many records were read
count-is : (objects : List Object) (before after : InternalFile) → (reads : ReadOn objects before after) → length (coming objects before).lines - length (coming objects after).lines ≡ reads.count
count-is objects before after reads =
    let lines : length (coming objects before).lines ≡ reads.count + length (coming objects after).lines = reads.lines in omega arith

-- the item once its field gave a value
value-known : (text : List ℕ) (given : InternalFormattedInput) (transfer : Transfer) (objects : List Object) (going : Option Transfer) (units : Units) (size : ℕ) (pointer : CValue) (walk' : FormatWalk) (file' : InternalFile)
    (mid new : RecordInput) (field : Field) (value : Value) → (stands : StandsFor text given transfer) → IsAt text given stands.format transfer objects walk' file' mid field →
    TakesValue (descriptor_of field) size mid new value →
    formatted_item stands.format size pointer transfer (world_with objects going units)
    ≡ rest_of size pointer (shown_by given stands.format stands.later stands.values transfer) (world_with objects going units) (coming objects (file_of given.file))
    (for_next (pass (reverted stands.format)) transfer.course.left).left (shown new (coming objects file').lines (value ∷ [])) None
value-known text given transfer objects going units size pointer walk' file' mid new field value stands at takes =
    item-known text given transfer objects going units size pointer (shown new (coming objects file').lines (value ∷ [])) stands
    (out-is text given stands.format transfer objects walk' file' mid field size at ∙ takes.takes (coming objects file').lines)

-- what is stored then
stored-then : (objects : List Object) (given : InternalFormattedInput) (format : Format) (later : List (List ℕ)) (values : List Value) (transfer : Transfer) (going : Option Transfer) (units : Units) (size : ℕ) (pointer : CValue)
    (left : List formats.Edit) (file' : InternalFile) (new : RecordInput) (value : Value) (found : Or (List Object)) → value_taken objects pointer size value ≡ found →
    rest_of size pointer (shown_by given format later values transfer) (world_with objects going units) (coming objects (file_of given.file)) left (shown new (coming objects file').lines (value ∷ [])) None
    ≡ after (after found λ changed. Ok changed) λ changed.
    Ok (GoesOn
    (record (shown_by given format later values transfer) {
      medium = Internal (moved (length (coming objects (file_of given.file)).lines - length (coming objects file').lines) (file_of given.file));
      course = record { left = left; state = shown new (coming objects file').lines (value ∷ []) };
      received = transfer.received ++ value ∷ [];
    })
    (world_with changed going units))
stored-then objects given format later values transfer going units size pointer left file' new value found is =
    ap (λ (one : Or (List Object)). after (after one λ changed. Ok changed) λ changed.
    Ok (GoesOn
    (record (shown_by given format later values transfer) {
      medium = Internal (moved (length (coming objects (file_of given.file)).lines - length (coming objects file').lines) (file_of given.file));
      course = record { left = left; state = shown new (coming objects file').lines (value ∷ []) };
      received = transfer.received ++ value ∷ [];
    })
    (world_with changed going units))) is

pub item-taken :
    (text : List ℕ) (given given' : InternalFormattedInput) (mid : RecordInput) (pointer : CValue) (size : ℕ) (old new : List Object) (field : Field) → SameInput given given' →
    Reaches old text given.walk given'.walk given.record mid (file_of given.file) (file_of given'.file) (Ok field) →
    TakesItem (descriptor_of field) pointer size mid given'.record old new (Ok tt) → GivesItem text given given' old new pointer size (Ok tt)
item-taken text given given' mid pointer size old new field same reaches takes = record {
  same = same;
  inside = reaches.inside;
  means = λ units transfer stands going.
      let at : IsAt text given stands.format transfer old given'.walk (file_of given'.file) mid field = reaches.comes (pass (reverted stands.format)) transfer.course.left stands.walks in
      let left : List formats.Edit = (for_next (pass (reverted stands.format)) transfer.course.left).left in
      record {
        transfer = record (shown_by given stands.format stands.later stands.values transfer) {
          medium = Internal (moved (length (coming old (file_of given.file)).lines - length (coming old (file_of given'.file)).lines) (file_of given.file));
          course = record { left = left; state = shown given'.record (coming old (file_of given'.file)).lines (takes.0 ∷ []) };
          received = transfer.received ++ takes.0 ∷ [];
        };
        stands = record {
          direction = refl;
          format = stands.format;
          layout = refl;
          medium = ap (λ (n : ℕ). Internal (moved n (file_of given.file))) (count-is old (file_of given.file) (file_of given'.file) at.reads) ∙ ap Internal (sym at.reads.behind);
          on_error = sym same.on_error;
          on_end = sym same.on_end;
          walks = subst (λ (one : List formats.Edit). Stands text (pass (reverted stands.format)) given'.walk one) (sym at.behind) at.stands;
          later = (coming old (file_of given'.file)).lines;
          values = takes.0 ∷ [];
          place = refl;
        };
        same = refl;
        means = value-known text given transfer old going units size pointer given'.walk (file_of given'.file) mid given'.record field takes.0 stands at takes.1
            ∙ stored-then old given stands.format stands.later stands.values transfer going units size pointer left (file_of given'.file) given'.record takes.0 (Ok new) takes.2;
      };
}

pub item-faulty :
    (text : List ℕ) (given given' : InternalFormattedInput) (mid : RecordInput) (pointer : CValue) (size : ℕ) (old new : List Object) (field : Field) (fault : CFault) → SameInput given given' →
    Reaches old text given.walk given'.walk given.record mid (file_of given.file) (file_of given'.file) (Ok field) →
    TakesItem (descriptor_of field) pointer size mid given'.record old new (Err (item.Fault fault)) → GivesItem text given given' old new pointer size (Err (stop.Fault fault))
item-faulty text given given' mid pointer size old new field fault same reaches takes = record {
  same = same;
  inside = reaches.inside;
  means = λ units transfer stands going.
      let at : IsAt text given stands.format transfer old given'.walk (file_of given'.file) mid field = reaches.comes (pass (reverted stands.format)) transfer.course.left stands.walks in
      value-known text given transfer old going units size pointer given'.walk (file_of given'.file) mid given'.record field takes.0 stands at takes.1
      ∙ stored-then old given stands.format stands.later stands.values transfer going units size pointer (for_next (pass (reverted stands.format)) transfer.course.left).left (file_of given'.file)
      given'.record takes.0 (failing fault) takes.2;
}

pub item-halted :
    (text : List ℕ) (given given' : InternalFormattedInput) (mid : RecordInput) (pointer : CValue) (size : ℕ) (old new : List Object) (field : Field) (halt : Halt) (stopped : Stop) → SameInput given given' →
    Reaches old text given.walk given'.walk given.record mid (file_of given.file) (file_of given'.file) (Ok field) →
    TakesItem (descriptor_of field) pointer size mid given'.record old new (Err (item.Halts halt)) → stopped ≡ stop.Number (halt_number (halt_of halt)) →
    GivesItem text given given' old new pointer size (Err stopped)
item-halted text given given' mid pointer size old new field halt stopped same reaches takes stops =
    subst (λ (one : Stop). GivesItem text given given' old new pointer size (Err one)) (sym stops)
    (subst (λ (objects : List Object). GivesItem text given given' old objects pointer size (Err (stop.Number (halt_number (halt_of halt))))) (sym takes.0)
    (record {
      same = same;
      inside = reaches.inside;
      means = λ units transfer stands going.
          let at : IsAt text given stands.format transfer old given'.walk (file_of given'.file) mid field = reaches.comes (pass (reverted stands.format)) transfer.course.left stands.walks in
          halted-means text given given' transfer old going units size pointer (stop.Number (halt_number (halt_of halt))) stands
          (record {
            halt = halt_of halt;
            halted = ap (λ (out : Input). out.halted)
                (out-is text given stands.format transfer old given'.walk (file_of given'.file) mid field size at ∙ takes.1 (coming old (file_of given'.file)).lines);
            by = halts-by (coming old (file_of given.file)).then_comes halt;
          });
    }))
