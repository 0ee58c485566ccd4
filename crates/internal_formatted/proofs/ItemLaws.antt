-- What an item of a formatted output means.
use Rattle.std.proofs.Common.{◌≡◌, ℕ, ℤ, false, List, [], ◌∷◌, ◌++◌, length, drop, Option, Some, None, refl, ap, sym, ◌∙◌, subst, append_assoc}
use Rattle.std.specs.Prelude.{Bool, true, Result, Ok, Err, nat_eq, if◌then◌else◌}
use Rattle.c_tree.specs.run_state.Units.{Units}
use Rattle.c_tree.specs.declared.outcome.CValue.{CValue}
use Rattle.c_tree.specs.declared.outcome.CFault.{CFault}
use Rattle.c_tree.specs.Faults.{Or, after, failing}
use Rattle.c_tree.specs.Objects.{Object}
use Rattle.c_tree.specs.World.{Internal, InternalFile, Transfer, World}
use Rattle.c_tree.specs.Transfers.{Passage, Answers, numbered}
use Rattle.c_tree.specs.TransferOutput.{ItemKind, IntegerItem, LogicalItem, TextItem, item_at, if_four, Filling, Filled, put_in_file, put_further, put_unless, fill_all, halt_number, item_under, led_on, value_put, put_values, formatted_put}
use Rattle.edit_rules.specs.edit_meaning.Formats.{Descriptor, IntIn, LogicalIn, Format, Edit, pass, reverted, edits_for}
use Rattle.edit_rules.specs.edit_meaning.Halts as halts
use Rattle.edit_rules.specs.edit_meaning.Listed.{ListedValue, Text}
use Rattle.edit_rules.specs.edit_meaning.EditedRecords.{Sheet, Output, field_of, with_field, made_on, made_ahead}
use Rattle.edit_rules.specs.edit_meaning.EditedRecords as records
use Rattle.edit_rules.specs.edit_meaning.Transfers.{edited, unserved_by}
use Rattle.edit_rules.specs.Walks.{Stands}
use Rattle.edit_rules.specs.declared.format_walk.FormatWalk.{FormatWalk}
use Rattle.unit_answers.specs.Answers.{world_with}
use Rattle.unit_answers.proofs.OrLemmas.{known, faulty}
use Rattle.listed_output.specs.Items.{StandsThere}
use Rattle.listed_output.specs.Kinds.{has_size}
use Rattle.listed_output.proofs.ItemLaws.{item-there}
use Rattle.formatted_records.specs.declared.halt.Halt.{Halt}
use Rattle.formatted_records.specs.declared.fields.Field.{Field}
use Rattle.formatted_records.specs.declared.fields.Field.TheVariants as fields
use Rattle.formatted_records.specs.declared.sheet.RecordSheet.{RecordSheet}
use Rattle.formatted_records.specs.Sheets.{StandsOn, Acts, shown, halt_of, descriptor_of}
use Rattle.formatted_output.proofs.EndLaws.{behind-written}
use Rattle.formatted_output.proofs.ItemLaws.{drop-whole}
use Rattle.formatted_output.proofs.ServedLaws.{longer-by, next-left, next-unserved}
use Rattle.internal_output.specs.declared.files.FileRecords.{FileRecords}
use Rattle.internal_output.specs.declared.files.RecordRefusal.{RecordRefusal}
use Rattle.internal_output.specs.declared.files.RecordRefusal.TheVariants.{UsedUp, TooLong, Faulty}
use Rattle.internal_output.specs.Files.{file_of, filling_by}
use Rattle.internal_output.proofs.FileLaws.{fills-refused}
use Rattle.internal_formatted.specs.declared.calls.InternalFormatted.{InternalFormatted}
use Rattle.internal_formatted.specs.declared.acts.Stop.{Stop}
use Rattle.internal_formatted.specs.declared.acts.Stop.TheVariants as stop
use Rattle.internal_formatted.specs.Acting.{storing, StopsBy}
use Rattle.internal_formatted.specs.Reaching.{over_next, with_next, AtField, Reaches}
use Rattle.internal_formatted.specs.Putting.{SameOutput, ItemMeans, PutsItem}
use Rattle.internal_formatted.specs.Storing.{held, Stores}
use Rattle.internal_formatted.specs.Transferring.{page_in, Going}
use Rattle.internal_formatted.proofs.ShownLaws.{shown_by, is-shown}
use Rattle.internal_formatted.proofs.MadeLaws.{ahead-of, made-with}
use Rattle.internal_formatted.proofs.StoreLaws.{same-page}

-- ## What is made before the descriptor

-- the sheet of the file of an output
abbrev pub page_of : InternalFormatted → Sheet
page_of output = page_in (file_of output.file)

abbrev ahead : InternalFormatted → Format → Transfer → Output
ahead output format transfer = made_ahead (page_of output) format transfer.values

-- the rest, once what is made before the descriptor is known, and what storing comes to
abbrev item_reply : Format → ℕ → CValue → Transfer → World → List (List ℕ) → Option halts.Halt → Or Filling → Or Passage
item_reply format size pointer one world written halted found =
    after (after (after found λ filling. Ok (put_in_file world filling)) λ putting. Ok (put_further one (record { records = written; halted = halted }) putting)) λ passage.
    led_on passage (value_put format size pointer)

item-called : (objects : List Object) (going : Option Transfer) (units : Units) (output : InternalFormatted) (format : Format) (transfer : Transfer) (size : ℕ) (pointer : CValue) →
    formatted_put format size pointer (shown_by output format transfer) (world_with objects going units)
    ≡ item_reply format size pointer (shown_by output format transfer) (world_with objects going units) (ahead output format transfer).complete (ahead output format transfer).halted
    (fill_all (drop transfer.written (ahead output format transfer).complete) (file_of output.file) objects)
item-called objects going units output format transfer size pointer = refl

item-known : (objects : List Object) (going : Option Transfer) (units : Units) (text : List ℕ) (output : InternalFormatted) (transfer : Transfer) (size : ℕ) (pointer : CValue)
    (lines : List (List ℕ)) (halted : Option halts.Halt) → (stands : Going text output transfer) → (ahead output stands.format transfer).complete ≡ stands.complete ++ lines →
    (ahead output stands.format transfer).halted ≡ halted →
    formatted_put stands.format size pointer transfer (world_with objects going units)
    ≡ item_reply stands.format size pointer (shown_by output stands.format transfer) (world_with objects going units) (stands.complete ++ lines) halted (fill_all lines (file_of output.file) objects)
item-known objects going units text output transfer size pointer lines halted stands made halts' =
    let one : Transfer = shown_by output stands.format transfer in
    let world : World = world_with objects going units in
    ap (λ (t : Transfer). formatted_put stands.format size pointer t world) (is-shown text output transfer stands)
    ∙ item-called objects going units output stands.format transfer size pointer
    ∙ ap (λ (h : Option halts.Halt). item_reply stands.format size pointer one world (ahead output stands.format transfer).complete h
    (fill_all (drop transfer.written (ahead output stands.format transfer).complete) (file_of output.file) objects)) halts'
    ∙ ap (λ (all : List (List ℕ)). item_reply stands.format size pointer one world all halted (fill_all (drop transfer.written all) (file_of output.file) objects)) made
    ∙ ap (λ (new : List (List ℕ)). item_reply stands.format size pointer one world (stands.complete ++ lines) halted (fill_all new (file_of output.file) objects))
    (behind-written transfer.written stands.complete lines stands.written)

ahead-is : (text : List ℕ) (output : InternalFormatted) (transfer : Transfer) → (stands : Going text output transfer) →
    ahead output stands.format transfer ≡ with_next (page_of output) (pass (reverted stands.format)) (edits_for stands.format (length transfer.values)).left [] (shown output.sheet stands.complete)
ahead-is text output transfer stands = ahead-of (page_of output) stands.format transfer.values (shown output.sheet stands.complete) stands.served refl stands.made

-- ## It goes no further

refused-item :
    (refusal : RecordRefusal) (old new : List Object) (file' : FileRecords) (going : Option Transfer) (units : Units) (text : List ℕ) (output : InternalFormatted) (transfer : Transfer) (size : ℕ) (pointer : CValue)
    (lines later : List (List ℕ)) → (stands : Going text output transfer) → (ahead output stands.format transfer).complete ≡ (stands.complete ++ lines) ++ later →
    fill_all lines (file_of output.file) old ≡ filling_by (file_of file') new (Err refusal) →
    formatted_put stands.format size pointer transfer (world_with old going units)
    ≡ item_reply stands.format size pointer (shown_by output stands.format transfer) (world_with old going units) (stands.complete ++ (lines ++ later)) (ahead output stands.format transfer).halted
    (filling_by (file_of file') new (Err refusal))
refused-item refusal old new file' going units text output transfer size pointer lines later stands made refused =
    item-known old going units text output transfer size pointer (lines ++ later) (ahead output stands.format transfer).halted stands (made ∙ append_assoc stands.complete lines later) refl
    ∙ ap (item_reply stands.format size pointer (shown_by output stands.format transfer) (world_with old going units) (stands.complete ++ (lines ++ later)) (ahead output stands.format transfer).halted)
    (fills-refused lines later output.file old file' new refusal refused)

stopped-means :
    (old new : List Object) (file' : FileRecords) (going : Option Transfer) (units : Units) (text : List ℕ) (output output' : InternalFormatted) (transfer : Transfer) (size : ℕ) (pointer : CValue) (lines : List (List ℕ))
    (why : Stop) → (stands : Going text output transfer) → StopsBy (ahead output stands.format transfer) (stands.complete ++ lines) why →
    Stores lines (held output.file old) (held file' new) (let r : Result (Unit {0}) Stop = Err why in storing r) →
    ItemMeans (formatted_put stands.format size pointer transfer (world_with old going units)) pointer size new going units text stands.format output output' (Err why)
stopped-means old new file' going units text output output' transfer size pointer lines (stop.Number number) stands stops stored =
    let one : Transfer = shown_by output stands.format transfer in
    item-known old going units text output transfer size pointer lines (Some stops.1.0) stands stops.0 stops.1.1
    ∙ ap (item_reply stands.format size pointer one (world_with old going units) (stands.complete ++ lines) (Some stops.1.0)) stored.fills
    ∙ ap (λ (n : ℤ). Ok (Answers (numbered n output.on_error output.on_end (world_with new going units)))) stops.1.2
stopped-means old new file' going units text output output' transfer size pointer lines (stop.Refused UsedUp) stands stops stored =
    refused-item UsedUp old new file' going units text output transfer size pointer lines stops.0 stands stops.1 stored.fills
stopped-means old new file' going units text output output' transfer size pointer lines (stop.Refused TooLong) stands stops stored =
    refused-item TooLong old new file' going units text output transfer size pointer lines stops.0 stands stops.1 stored.fills
stopped-means old new file' going units text output output' transfer size pointer lines (stop.Refused (Faulty fault)) stands stops stored =
    refused-item (Faulty fault) old new file' going units text output transfer size pointer lines stops.0 stands stops.1 stored.fills
stopped-means old new file' going units text output output' transfer size pointer lines (stop.Fault fault) stands stops stored = absurd stops

pub item-stopped :
    (text : List ℕ) (output output' : InternalFormatted) (pointer : CValue) (size : ℕ) (old new : List Object) (why : Stop) → SameOutput output output' →
    Reaches text output.walk output'.walk output.sheet output'.sheet (held output.file old) (held output'.file new) (Err why) → PutsItem text output output' pointer size old new (Err why)
item-stopped text output output' pointer size old new why same reaches = record {
  same = same;
  inside = reaches.inside;
  forms = reaches.stores.forms;
  means = λ units transfer stands going.
      stopped-means old new output'.file going units text output output' transfer size pointer reaches.lines why stands
      (subst (λ (out : Output). StopsBy out (stands.complete ++ reaches.lines) why) (sym (ahead-is text output transfer stands))
      (reaches.comes (pass (reverted stands.format)) (edits_for stands.format (length transfer.values)).left stands.walks (page_of output) stands.complete stands.on))
      reaches.stores;
}

-- ## Its descriptor is come to

-- the transfer before the item, and with it
abbrev before_item : InternalFile → Transfer → List (List ℕ) → Transfer
before_item file one complete = record one { medium = Internal file; written = length complete }

abbrev with_item : InternalFile → Transfer → List (List ℕ) → ListedValue → Transfer
with_item file one complete value = record one { medium = Internal file; values = one.values ++ value ∷ []; written = length complete }

-- the descriptor of the next item is come to, behind the values so far
abbrev IsAt : (text : List ℕ) (output : InternalFormatted) (transfer : Transfer) → Going text output transfer → FormatWalk → List (List ℕ) → RecordSheet → Field → Type 0
IsAt text output transfer stands walk' complete' new field =
    AtField (page_of output) text (pass (reverted stands.format)) (edits_for stands.format (length transfer.values)).left walk' output.sheet stands.complete complete' new field

-- what is made before the descriptor, where it is come to
reached-ahead : (text : List ℕ) (output : InternalFormatted) (transfer : Transfer) (walk' : FormatWalk) (complete' : List (List ℕ)) (new : RecordSheet) (field : Field) → (stands : Going text output transfer) →
    IsAt text output transfer stands walk' complete' new field → ahead output stands.format transfer ≡ shown new complete'
reached-ahead text output transfer walk' complete' new field stands at =
    let out : Output = over_next (page_of output) (pass (reverted stands.format)) (edits_for stands.format (length transfer.values)).left [] (shown output.sheet stands.complete) in
    ahead-is text output transfer stands ∙ ap (λ (u : ℕ). unserved_by (records.output (page_of output)) u out.halted out) at.served ∙ at.edits []

pub none-more : (page : Sheet) (halted : Option halts.Halt) (out : Output) → edited (records.output page) halted [] [] out ≡ out
none-more page None out = refl
none-more page (Some halt) out = refl

-- and with the item
reached-with : (text : List ℕ) (output : InternalFormatted) (transfer : Transfer) (walk' : FormatWalk) (complete' : List (List ℕ)) (new : RecordSheet) (field : Field) (value : ListedValue) →
    (stands : Going text output transfer) → IsAt text output transfer stands walk' complete' new field →
    made_on (page_of output) stands.format (transfer.values ++ value ∷ []) false ≡ with_field (page_of output) (field_of (descriptor_of field) value new.plus) (shown new complete')
reached-with text output transfer walk' complete' new field value stands at =
    let out : Output = over_next (page_of output) (pass (reverted stands.format)) (edits_for stands.format (length transfer.values)).left (value ∷ []) (shown output.sheet stands.complete) in
    let put : Output = with_field (page_of output) (field_of (descriptor_of field) value new.plus) (shown new complete') in
    made-with (page_of output) stands.format transfer.values value (shown output.sheet stands.complete) stands.served refl stands.made
    ∙ ap (λ (u : ℕ). unserved_by (records.output (page_of output)) u out.halted out) at.served ∙ at.edits (value ∷ []) ∙ none-more (page_of output) put.halted put

-- the value of the item is fetched from the objects behind the records that are complete by then
fetched : (old new : List Object) (file' : FileRecords) (going : Option Transfer) (units : Units) (text : List ℕ) (output : InternalFormatted) (transfer : Transfer) (size : ℕ) (pointer : CValue)
    (lines : List (List ℕ)) (walk' : FormatWalk) (sheet : RecordSheet) (field : Field) → (stands : Going text output transfer) →
    IsAt text output transfer stands walk' (stands.complete ++ lines) sheet field →
    fill_all lines (file_of output.file) old ≡ Ok (Filled (file_of file') new) →
    formatted_put stands.format size pointer transfer (world_with old going units)
    ≡ after (item_under (Some (descriptor_of field)) new pointer size)
    (λ value. put_values (value ∷ []) (before_item (file_of file') (shown_by output stands.format transfer) (stands.complete ++ lines)) (world_with new going units))
fetched old new file' going units text output transfer size pointer lines walk' sheet field stands at stored =
    let one : Transfer = shown_by output stands.format transfer in
    let made : ahead output stands.format transfer ≡ shown sheet (stands.complete ++ lines) = reached-ahead text output transfer walk' (stands.complete ++ lines) sheet field stands at in
    item-known old going units text output transfer size pointer lines None stands (ap (λ (o : Output). o.complete) made) (ap (λ (o : Output). o.halted) made)
    ∙ ap (item_reply stands.format size pointer one (world_with old going units) (stands.complete ++ lines) None) stored
    ∙ ap (λ (found : Option Descriptor). after (item_under found new pointer size)
    (λ value. put_values (value ∷ []) (before_item (file_of file') one (stands.complete ++ lines)) (world_with new going units))) at.descriptor

-- the rest behind the value, by what is made with it
abbrev lines_rest : InternalFile → Transfer → World → Option halts.Halt → List (List ℕ) → List (List ℕ) → Or Passage
lines_rest file one world halted all lines =
    after (after (fill_all lines file world.objects) λ filling. Ok (put_in_file world filling)) λ putting. Ok (put_further one (record { records = all; halted = halted }) putting)

abbrev value_rest : InternalFile → Transfer → World → ℕ → Output → Or Passage
value_rest file one world written out = lines_rest file one world out.halted out.complete (drop written out.complete)

-- the value is put
valued : (objects : List Object) (going : Option Transfer) (units : Units) (output : InternalFormatted) (file' : InternalFile) (format : Format) (transfer : Transfer) (complete : List (List ℕ)) (value : ListedValue)
    (out : Output) → page_in file' ≡ page_of output → made_on (page_of output) format (transfer.values ++ value ∷ []) false ≡ out → out.complete ≡ complete →
    put_values (value ∷ []) (before_item file' (shown_by output format transfer) complete) (world_with objects going units)
    ≡ Ok (put_unless out.halted (with_item file' (shown_by output format transfer) complete value) (length complete) (Internal file') (world_with objects going units))
valued objects going units output file' format transfer complete value out same made lines =
    let one : Transfer = with_item file' (shown_by output format transfer) complete value in
    let world : World = world_with objects going units in
    ap (value_rest file' one world (length complete)) (ap (λ (page : Sheet). made_on page format (transfer.values ++ value ∷ []) false) same ∙ made)
    ∙ ap (λ (all : List (List ℕ)). lines_rest file' one world out.halted all (drop (length complete) all)) lines
    ∙ ap (lines_rest file' one world out.halted complete) (drop-whole complete)

-- ## The item is put

stands-with : (text : List ℕ) (output output' : InternalFormatted) (transfer : Transfer) (complete' : List (List ℕ)) (new : RecordSheet) (field : Field) (value : ListedValue) → SameOutput output output' →
    page_of output' ≡ page_of output → (stands : Going text output transfer) → IsAt text output transfer stands output'.walk complete' new field →
    StandsOn (page_of output) complete' output'.sheet →
    with_field (page_of output) (field_of (descriptor_of field) value new.plus) (shown new complete') ≡ shown output'.sheet complete' →
    (made : Going text output' (with_item (file_of output'.file) (shown_by output stands.format transfer) complete' value)) × (made.format ≡ stands.format)
stands-with text output output' transfer complete' new field value same same_page stands at on put = (
  record {
    direction = refl;
    format = stands.format;
    layout = refl;
    medium = refl;
    on_error = sym same.on_error;
    on_end = sym same.on_end;
    served = ap (λ (n : ℕ). (edits_for stands.format n).unserved) (longer-by transfer.values value) ∙ next-unserved stands.format (length transfer.values) stands.served ∙ at.served;
    walks = subst (λ (left : List Edit). Stands text (pass (reverted stands.format)) output'.walk left)
        (sym at.behind ∙ sym (next-left stands.format (length transfer.values) stands.served) ∙ ap (λ (n : ℕ). (edits_for stands.format n).left) (sym (longer-by transfer.values value)))
        at.stands;
    complete = complete';
    on = subst (λ (page : Sheet). StandsOn page complete' output'.sheet) (sym same_page) on;
    made = ap (λ (page : Sheet). made_on page stands.format (transfer.values ++ value ∷ []) false) same_page
        ∙ reached-with text output transfer output'.walk complete' new field value stands at ∙ put;
    written = refl;
  },
  refl,
)

-- an item of a given output, whose descriptor is come to and whose value is fetched
put-means : (old new : List Object) (file' : FileRecords) (going : Option Transfer) (units : Units) (text : List ℕ) (output : InternalFormatted) (transfer : Transfer) (size : ℕ) (pointer : CValue)
    (lines : List (List ℕ)) (walk' : FormatWalk) (sheet : RecordSheet) (field : Field) (value : ListedValue) (out : Output) → (stands : Going text output transfer) →
    IsAt text output transfer stands walk' (stands.complete ++ lines) sheet field →
    fill_all lines (file_of output.file) old ≡ Ok (Filled (file_of file') new) → Ok value ≡ item_under (Some (descriptor_of field)) new pointer size →
    with_field (page_of output) (field_of (descriptor_of field) value sheet.plus) (shown sheet (stands.complete ++ lines)) ≡ out → out.complete ≡ stands.complete ++ lines →
    formatted_put stands.format size pointer transfer (world_with old going units)
    ≡ Ok (put_unless out.halted (with_item (file_of file') (shown_by output stands.format transfer) (stands.complete ++ lines) value) (length (stands.complete ++ lines)) (Internal (file_of file'))
    (world_with new going units))
put-means old new file' going units text output transfer size pointer lines walk' sheet field value out stands at stored given put whole =
    fetched old new file' going units text output transfer size pointer lines walk' sheet field stands at stored
    ∙ known (item_under (Some (descriptor_of field)) new pointer size) value _ given
    ∙ valued new going units output (file_of file') stands.format transfer (stands.complete ++ lines) value out (same-page lines (file_of output.file) old (file_of file') new stored)
    (reached-with text output transfer walk' (stands.complete ++ lines) sheet field value stands at ∙ put) whole

-- the act of a field
abbrev pub FieldActs : Field → ListedValue → RecordSheet → RecordSheet → Result (Unit {0}) Halt → Type 0
FieldActs field value sheet sheet' done = (page : Sheet) → Acts page (λ out. with_field page (field_of (descriptor_of field) value out.plus) out) sheet sheet' done

-- an item that is put is there
four-there : (page : Sheet) (kind : ItemKind) (other : Descriptor) (value : ListedValue) (objects : List Object) (pointer : CValue) (size : ℕ) (plus : Bool) (out : Output) (new : RecordSheet) (complete : List (List ℕ)) →
    has_size kind size ≡ nat_eq size 4 → (field_of other (Text []) plus ≡ None) → Ok value ≡ if_four size (item_at kind objects pointer size) →
    with_field page (field_of other value plus) out ≡ shown new complete → StandsThere size objects pointer
four-there page kind other value objects pointer size plus out new complete has refuses given put = by (nat_eq size 4) refl given
  where
    by : (four : Bool) → nat_eq size 4 ≡ four → Ok value ≡ (if four then item_at kind objects pointer size else Ok (Text [])) → StandsThere size objects pointer
    by true is there = item-there kind objects pointer size value (has ∙ is) there
    by false is there =
        let empty : value ≡ Text [] = cc in
        let halted : (let h : Option halts.Halt = Some halts.OtherType in h) ≡ None =
        sym (ap (λ (o : Output). o.halted) (ap (λ (field : Option (List ℕ)). with_field page field out) (ap (λ (v : ListedValue). field_of other v plus) empty ∙ refuses))) ∙ ap (λ (o : Output). o.halted) put in
        absurd (cc)

there-by : (page : Sheet) (field : Field) (value : ListedValue) (objects : List Object) (pointer : CValue) (size : ℕ) (sheet new : RecordSheet) (complete : List (List ℕ)) →
    Ok value ≡ item_under (Some (descriptor_of field)) objects pointer size → with_field page (field_of (descriptor_of field) value sheet.plus) (shown sheet complete) ≡ shown new complete →
    StandsThere size objects pointer
there-by page (fields.Int width least) value objects pointer size sheet new complete given put =
    four-there page IntegerItem (IntIn width least) value objects pointer size sheet.plus (shown sheet complete) new complete refl refl given put
there-by page (fields.Logical width) value objects pointer size sheet new complete given put =
    four-there page LogicalItem (LogicalIn width) value objects pointer size sheet.plus (shown sheet complete) new complete refl refl given put
there-by page (fields.Text width) value objects pointer size sheet new complete given put = item-there TextItem objects pointer size value refl given

pub item-put :
    (text : List ℕ) (output output' : InternalFormatted) (pointer : CValue) (size : ℕ) (old new : List Object) (sheet : RecordSheet) (field : Field) (value : ListedValue) →
    SameOutput output output' → Reaches text output.walk output'.walk output.sheet sheet (held output.file old) (held output'.file new) (Ok field) →
    Ok value ≡ item_under (Some (descriptor_of field)) new pointer size → FieldActs field value sheet output'.sheet (Ok tt) → PutsItem text output output' pointer size old new (Ok tt)
item-put text output output' pointer size old new sheet field value same reaches given acts = record {
  same = same;
  inside = reaches.inside;
  forms = reaches.stores.forms;
  means = λ units transfer stands going.
      let at = reaches.comes (pass (reverted stands.format)) (edits_for stands.format (length transfer.values)).left stands.walks (page_of output) stands.complete stands.on in
      let done = acts (page_of output) (stands.complete ++ reaches.lines) at.on in
      let page = same-page reaches.lines (file_of output.file) old (file_of output'.file) new reaches.stores.fills in
      let later = stands-with text output output' transfer (stands.complete ++ reaches.lines) sheet field value same page stands at done.0 done.1 in
      record {
        transfer = with_item (file_of output'.file) (shown_by output stands.format transfer) (stands.complete ++ reaches.lines) value;
        stands = later.0;
        same = later.1;
        there = there-by (page_of output) field value new pointer size sheet output'.sheet (stands.complete ++ reaches.lines) given done.1;
        means = put-means old new output'.file going units text output transfer size pointer reaches.lines output'.walk sheet field value
            (shown output'.sheet (stands.complete ++ reaches.lines)) stands at reaches.stores.fills given done.1 refl;
      };
}

pub item-halted :
    (text : List ℕ) (output output' : InternalFormatted) (pointer : CValue) (size : ℕ) (old new : List Object) (sheet : RecordSheet) (field : Field) (value : ListedValue)
    (why : Halt) (stopped : Stop) → SameOutput output output' → Reaches text output.walk output'.walk output.sheet sheet (held output.file old) (held output'.file new) (Ok field) →
    Ok value ≡ item_under (Some (descriptor_of field)) new pointer size → FieldActs field value sheet output'.sheet (Err why) → stopped ≡ stop.Number (halt_number (halt_of why)) →
    PutsItem text output output' pointer size old new (Err stopped)
item-halted text output output' pointer size old new sheet field value why stopped same reaches given acts stops =
    subst (λ (one : Stop). PutsItem text output output' pointer size old new (Err one)) (sym stops)
    (record {
      same = same;
      inside = reaches.inside;
      forms = reaches.stores.forms;
      means = λ units transfer stands going.
          let at = reaches.comes (pass (reverted stands.format)) (edits_for stands.format (length transfer.values)).left stands.walks (page_of output) stands.complete stands.on in
          let done = acts (page_of output) (stands.complete ++ reaches.lines) at.on in
          put-means old new output'.file going units text output transfer size pointer reaches.lines output'.walk sheet field value
          (record (shown sheet (stands.complete ++ reaches.lines)) { halted = Some (halt_of why) }) stands at reaches.stores.fills given done.1 refl;
    })

pub item-faulty :
    (text : List ℕ) (output output' : InternalFormatted) (pointer : CValue) (size : ℕ) (old new : List Object) (field : Field) (fault : CFault) →
    SameOutput output output' → Reaches text output.walk output'.walk output.sheet output'.sheet (held output.file old) (held output'.file new) (Ok field) →
    failing fault ≡ item_under (Some (descriptor_of field)) new pointer size → PutsItem text output output' pointer size old new (Err (stop.Fault fault))
item-faulty text output output' pointer size old new field fault same reaches given = record {
  same = same;
  inside = reaches.inside;
  forms = reaches.stores.forms;
  means = λ units transfer stands going.
      let at = reaches.comes (pass (reverted stands.format)) (edits_for stands.format (length transfer.values)).left stands.walks (page_of output) stands.complete stands.on in
      fetched old new output'.file going units text output transfer size pointer reaches.lines output'.walk output'.sheet field stands at reaches.stores.fills
      ∙ faulty (item_under (Some (descriptor_of field)) new pointer size) fault _ given;
}
