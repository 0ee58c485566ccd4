-- What an item of a formatted output means.
use Rattle.std.proofs.Common.{◌≡◌, ℕ, ℤ, pos, false, List, [], ◌∷◌, ◌++◌, length, drop, Option, Some, None, refl, ap, sym, ◌∙◌, subst, append_assoc}
use Rattle.std.specs.Prelude.{Bool, true, Result, Ok, Err, nat_eq, if◌then◌else◌}
use Rattle.c_tree.specs.run_state.Units.{Units}
use Rattle.run_state.specs.declared.refusals.UnitRefusal.{UnitRefusal}
use Rattle.run_state.specs.declared.refusals.UnitRefusal.TheVariants.{NotConnected, NotOffered, Taken, PastEnd, Failed}
use Rattle.c_tree.specs.declared.outcome.CValue.{CValue}
use Rattle.c_tree.specs.declared.outcome.CFault.{CFault}
use Rattle.c_tree.specs.Faults.{Or, after, failing}
use Rattle.c_tree.specs.Objects.{Object}
use Rattle.c_tree.specs.World.{Output as Writing, Formatted, Transfer, World}
use Rattle.c_tree.specs.World as media
use Rattle.c_tree.specs.Transfers.{Passage, Answers, numbered}
use Rattle.c_tree.specs.TransferOutput.{ItemKind, IntegerItem, LogicalItem, TextItem, item_at, if_four, put_on_unit, put_further, put_unless, write_all, halt_number, item_under, led_on, value_put, put_values, formatted_put}
use Rattle.edit_rules.specs.edit_meaning.Formats.{Descriptor, IntIn, LogicalIn, Format, Edit, pass, reverted, edits_for}
use Rattle.edit_rules.specs.edit_meaning.Halts as halts
use Rattle.edit_rules.specs.edit_meaning.Listed.{ListedValue, Text}
use Rattle.edit_rules.specs.edit_meaning.EditedRecords.{Output, unit_sheet, field_of, with_field, made_on, made_ahead}
use Rattle.edit_rules.specs.edit_meaning.EditedRecords as records
use Rattle.edit_rules.specs.edit_meaning.Transfers.{edited, unserved_by}
use Rattle.edit_rules.specs.Walks.{Stands}
use Rattle.edit_rules.specs.declared.format_walk.FormatWalk.{FormatWalk}
use Rattle.f2c_outside.specs.Table.{Row}
use Rattle.f2c_outside.specs.Meaning.{units_of}
use Rattle.unit_answers.specs.Answers.{world_with}
use Rattle.unit_answers.proofs.OrLemmas.{known, faulty}
use Rattle.listed_output.specs.Writing.{WritesAs}
use Rattle.listed_output.specs.Items.{StandsThere}
use Rattle.listed_output.specs.Kinds.{has_size}
use Rattle.listed_output.proofs.ItemLaws.{item-there}
use Rattle.listed_output.proofs.WriteLaws.{write-both, then_write}
use Rattle.formatted_records.specs.declared.halt.Halt.{Halt}
use Rattle.formatted_records.specs.declared.fields.Field.{Field}
use Rattle.formatted_records.specs.declared.fields.Field.TheVariants as fields
use Rattle.formatted_records.specs.declared.sheet.RecordSheet.{RecordSheet}
use Rattle.formatted_records.specs.Sheets.{StandsOn, Acts, shown, halt_of, descriptor_of}
use Rattle.formatted_output.specs.declared.calls.FormattedOutput.{FormattedOutput}
use Rattle.formatted_output.specs.declared.acts.Stop.{Stop}
use Rattle.formatted_output.specs.declared.acts.Stop.TheVariants as stop
use Rattle.formatted_output.specs.Acting.{writing, StopsBy}
use Rattle.formatted_output.specs.Reaching.{over_next, with_next, AtField, Reaches}
use Rattle.formatted_output.specs.Putting.{SameOutput, Answered, ItemMeans, PutsItem}
use Rattle.formatted_output.specs.Transferring.{StandsFor}
use Rattle.formatted_output.proofs.EndLaws.{shown_by, is-shown, behind-written}
use Rattle.formatted_output.proofs.ServedLaws.{longer-by, next-left, next-unserved, ahead-of, made-with}

-- ## What is made before the descriptor

abbrev ahead : Format → Transfer → Output
ahead format transfer = made_ahead unit_sheet format transfer.values

-- the rest, once what is made before the descriptor is known, and what writing comes to
abbrev item_reply : ℤ → Format → ℕ → CValue → Transfer → World → List (List ℕ) → Option halts.Halt → Result Units UnitRefusal → Or Passage
item_reply unit format size pointer one world written halted found =
    after (after (put_on_unit unit world found) λ putting. Ok (put_further one (record { records = written; halted = halted }) putting)) λ passage.
    led_on passage (value_put format size pointer)

item-called : (objects : List Object) (going : Option Transfer) (units : Units) (output : FormattedOutput) (format : Format) (transfer : Transfer) (size : ℕ) (pointer : CValue) →
    formatted_put format size pointer (shown_by output format transfer) (world_with objects going units)
    ≡ item_reply output.unit format size pointer (shown_by output format transfer) (world_with objects going units) (ahead format transfer).complete (ahead format transfer).halted
    (write_all output.unit (drop transfer.written (ahead format transfer).complete) units)
item-called objects going units output format transfer size pointer = refl

item-known : (objects : List Object) (going : Option Transfer) (units : Units) (text : List ℕ) (output : FormattedOutput) (transfer : Transfer) (size : ℕ) (pointer : CValue)
    (lines : List (List ℕ)) (halted : Option halts.Halt) → (stands : StandsFor text output transfer) → (ahead stands.format transfer).complete ≡ stands.complete ++ lines →
    (ahead stands.format transfer).halted ≡ halted →
    formatted_put stands.format size pointer transfer (world_with objects going units)
    ≡ item_reply output.unit stands.format size pointer (shown_by output stands.format transfer) (world_with objects going units) (stands.complete ++ lines) halted (write_all output.unit lines units)
item-known objects going units text output transfer size pointer lines halted stands made halts' =
    let one : Transfer = shown_by output stands.format transfer in
    let world : World = world_with objects going units in
    ap (λ (t : Transfer). formatted_put stands.format size pointer t world) (is-shown text output transfer stands)
    ∙ item-called objects going units output stands.format transfer size pointer
    ∙ ap (λ (h : Option halts.Halt). item_reply output.unit stands.format size pointer one world (ahead stands.format transfer).complete h
    (write_all output.unit (drop transfer.written (ahead stands.format transfer).complete) units)) halts'
    ∙ ap (λ (all : List (List ℕ)). item_reply output.unit stands.format size pointer one world all halted (write_all output.unit (drop transfer.written all) units)) made
    ∙ ap (λ (new : List (List ℕ)). item_reply output.unit stands.format size pointer one world (stands.complete ++ lines) halted (write_all output.unit new units))
    (behind-written transfer.written stands.complete lines stands.written)

ahead-is : (text : List ℕ) (output : FormattedOutput) (transfer : Transfer) → (stands : StandsFor text output transfer) →
    ahead stands.format transfer ≡ with_next (pass (reverted stands.format)) (edits_for stands.format (length transfer.values)).left [] (shown output.sheet stands.complete)
ahead-is text output transfer stands = ahead-of stands.format transfer.values (shown output.sheet stands.complete) stands.served refl stands.made

-- ## It goes no further

refused-item :
    (refusal : UnitRefusal) (number : ℤ) (objects : List Object) (going : Option Transfer) (before after_it : Units) (text : List ℕ) (output : FormattedOutput) (transfer : Transfer) (size : ℕ) (pointer : CValue)
    (lines later : List (List ℕ)) →
    ((format : Format) → (one : Transfer) → (world : World) → (written : List (List ℕ)) → (halted : Option halts.Halt) →
    item_reply output.unit format size pointer one world written halted (Err refusal) ≡ Ok (Answers (numbered number one.on_error one.on_end world))) →
    (stands : StandsFor text output transfer) → (ahead stands.format transfer).complete ≡ (stands.complete ++ lines) ++ later →
    (write_all output.unit lines before ≡ Err refusal) × (after_it ≡ before) →
    Answered (formatted_put stands.format size pointer transfer (world_with objects going before)) objects going after_it output number
refused-item refusal number objects going before after_it text output transfer size pointer lines later numbers stands made refused =
    let one : Transfer = shown_by output stands.format transfer in
    let world : World = world_with objects going before in
    let all : write_all output.unit (lines ++ later) before ≡ Err refusal = write-both output.unit lines later before ∙ ap (then_write output.unit later) refused.0 in
    item-known objects going before text output transfer size pointer (lines ++ later) (ahead stands.format transfer).halted stands (made ∙ append_assoc stands.complete lines later) refl
    ∙ ap (item_reply output.unit stands.format size pointer one world (stands.complete ++ (lines ++ later)) (ahead stands.format transfer).halted) all
    ∙ numbers stands.format one world (stands.complete ++ (lines ++ later)) (ahead stands.format transfer).halted
    ∙ ap (λ (units : Units). Ok (Answers (numbered number output.on_error output.on_end (world_with objects going units)))) (sym refused.1)

stopped-means :
    (objects : List Object) (going : Option Transfer) (before after_it : Units) (text : List ℕ) (output output' : FormattedOutput) (transfer : Transfer) (size : ℕ) (pointer : CValue) (lines : List (List ℕ))
    (why : Stop) → (stands : StandsFor text output transfer) → StopsBy (ahead stands.format transfer) (stands.complete ++ lines) why →
    WritesAs output.unit lines before after_it (let r : Result (Unit {0}) Stop = Err why in writing r) →
    ItemMeans (formatted_put stands.format size pointer transfer (world_with objects going before)) pointer size objects going after_it text stands.format output output' (Err why)
stopped-means objects going before after_it text output output' transfer size pointer lines (stop.Number number) stands stops wrote =
    let one : Transfer = shown_by output stands.format transfer in
    item-known objects going before text output transfer size pointer lines (Some stops.1.0) stands stops.0 stops.1.1
    ∙ ap (item_reply output.unit stands.format size pointer one (world_with objects going before) (stands.complete ++ lines) (Some stops.1.0)) wrote
    ∙ ap (λ (n : ℤ). Ok (Answers (numbered n output.on_error output.on_end (world_with objects going after_it)))) stops.1.2
stopped-means objects going before after_it text output output' transfer size pointer lines (stop.Refused Failed) stands stops wrote = tt
stopped-means objects going before after_it text output output' transfer size pointer lines (stop.Refused NotConnected) stands stops wrote =
    refused-item NotConnected (pos 6) objects going before after_it text output transfer size pointer lines stops.0 (λ format one world written halted. refl) stands stops.1 wrote
stopped-means objects going before after_it text output output' transfer size pointer lines (stop.Refused NotOffered) stands stops wrote =
    refused-item NotOffered (pos 7) objects going before after_it text output transfer size pointer lines stops.0 (λ format one world written halted. refl) stands stops.1 wrote
stopped-means objects going before after_it text output output' transfer size pointer lines (stop.Refused Taken) stands stops wrote =
    refused-item Taken (pos 8) objects going before after_it text output transfer size pointer lines stops.0 (λ format one world written halted. refl) stands stops.1 wrote
stopped-means objects going before after_it text output output' transfer size pointer lines (stop.Refused PastEnd) stands stops wrote =
    refused-item PastEnd (pos 9) objects going before after_it text output transfer size pointer lines stops.0 (λ format one world written halted. refl) stands stops.1 wrote
stopped-means objects going before after_it text output output' transfer size pointer lines (stop.Fault fault) stands stops wrote = absurd stops

pub item-stopped :
    (text : List ℕ) (output output' : FormattedOutput) (own : ℤ) (objects : List Object) (pointer : CValue) (size : ℕ) (rows rows' : List Row) (why : Stop) → own ≡ output.unit → SameOutput output output' →
    Reaches text output.walk output'.walk own output.sheet output'.sheet rows rows' (Err why) → PutsItem text output output' objects pointer size rows rows' (Err why)
item-stopped text output output' own objects pointer size rows rows' why same_unit same reaches' =
    let reaches : Reaches text output.walk output'.walk output.unit output.sheet output'.sheet rows rows' (Err why) =
    subst (λ (number : ℤ). Reaches text output.walk output'.walk number output.sheet output'.sheet rows rows' (Err why)) same_unit reaches' in
    record {
      same = same;
      inside = reaches.inside;
      tells = reaches.writes.tells;
      means = λ tells transfer stands going.
          stopped-means objects going (units_of rows) (units_of rows') text output output' transfer size pointer reaches.lines why stands
          (subst (λ (out : Output). StopsBy out (stands.complete ++ reaches.lines) why) (sym (ahead-is text output transfer stands))
          (reaches.comes (pass (reverted stands.format)) (edits_for stands.format (length transfer.values)).left stands.walks stands.complete stands.on))
          (reaches.writes.means tells);
      devices = reaches.writes.devices;
    }

-- ## Its descriptor is come to

-- the transfer before the item, and with it
abbrev before_item : ℤ → Transfer → List (List ℕ) → Transfer
before_item unit one complete = record one { medium = media.Unit unit; written = length complete }

abbrev with_item : ℤ → Transfer → List (List ℕ) → ListedValue → Transfer
with_item unit one complete value = record one { medium = media.Unit unit; values = one.values ++ value ∷ []; written = length complete }

-- what is made before the descriptor, where it is come to
reached-ahead : (text : List ℕ) (output : FormattedOutput) (transfer : Transfer) (walk' : FormatWalk) (complete' : List (List ℕ)) (new : RecordSheet) (field : Field) → (stands : StandsFor text output transfer) →
    AtField text (pass (reverted stands.format)) (edits_for stands.format (length transfer.values)).left walk' output.sheet stands.complete complete' new field →
    ahead stands.format transfer ≡ shown new complete'
reached-ahead text output transfer walk' complete' new field stands at =
    let out : Output = over_next (pass (reverted stands.format)) (edits_for stands.format (length transfer.values)).left [] (shown output.sheet stands.complete) in
    ahead-is text output transfer stands ∙ ap (λ (u : ℕ). unserved_by (records.output unit_sheet) u out.halted out) at.served ∙ at.edits []

none-more : (halted : Option halts.Halt) (out : Output) → edited (records.output unit_sheet) halted [] [] out ≡ out
none-more None out = refl
none-more (Some halt) out = refl

-- and with the item
reached-with : (text : List ℕ) (output : FormattedOutput) (transfer : Transfer) (walk' : FormatWalk) (complete' : List (List ℕ)) (new : RecordSheet) (field : Field) (value : ListedValue) → (stands : StandsFor text output transfer) →
    AtField text (pass (reverted stands.format)) (edits_for stands.format (length transfer.values)).left walk' output.sheet stands.complete complete' new field →
    made_on unit_sheet stands.format (transfer.values ++ value ∷ []) false ≡ with_field unit_sheet (field_of (descriptor_of field) value new.plus) (shown new complete')
reached-with text output transfer walk' complete' new field value stands at =
    let out : Output = over_next (pass (reverted stands.format)) (edits_for stands.format (length transfer.values)).left (value ∷ []) (shown output.sheet stands.complete) in
    let put : Output = with_field unit_sheet (field_of (descriptor_of field) value new.plus) (shown new complete') in
    made-with stands.format transfer.values value (shown output.sheet stands.complete) stands.served refl stands.made
    ∙ ap (λ (u : ℕ). unserved_by (records.output unit_sheet) u out.halted out) at.served ∙ at.edits (value ∷ []) ∙ none-more put.halted put

pub drop-whole : (lines : List (List ℕ)) → drop (length lines) lines ≡ []
drop-whole [] = refl
drop-whole (line ∷ later) = drop-whole later

-- the value of the item is fetched
fetched : (objects : List Object) (going : Option Transfer) (before after_it : Units) (text : List ℕ) (output : FormattedOutput) (transfer : Transfer) (size : ℕ) (pointer : CValue)
    (lines : List (List ℕ)) (walk' : FormatWalk) (new : RecordSheet) (field : Field) → (stands : StandsFor text output transfer) →
    AtField text (pass (reverted stands.format)) (edits_for stands.format (length transfer.values)).left walk' output.sheet stands.complete (stands.complete ++ lines) new field →
    write_all output.unit lines before ≡ Ok after_it →
    formatted_put stands.format size pointer transfer (world_with objects going before)
    ≡ after (item_under (Some (descriptor_of field)) objects pointer size)
    (λ value. put_values (value ∷ []) (before_item output.unit (shown_by output stands.format transfer) (stands.complete ++ lines)) (world_with objects going after_it))
fetched objects going before after_it text output transfer size pointer lines walk' new field stands at wrote =
    let one : Transfer = shown_by output stands.format transfer in
    let made : ahead stands.format transfer ≡ shown new (stands.complete ++ lines) = reached-ahead text output transfer walk' (stands.complete ++ lines) new field stands at in
    item-known objects going before text output transfer size pointer lines None stands (ap (λ (o : Output). o.complete) made) (ap (λ (o : Output). o.halted) made)
    ∙ ap (item_reply output.unit stands.format size pointer one (world_with objects going before) (stands.complete ++ lines) None) wrote
    ∙ ap (λ (found : Option Descriptor). after (item_under found objects pointer size)
    (λ value. put_values (value ∷ []) (before_item output.unit one (stands.complete ++ lines)) (world_with objects going after_it))) at.descriptor

-- the rest behind the value, by what is made with it
abbrev lines_rest : ℤ → Transfer → World → Option halts.Halt → List (List ℕ) → List (List ℕ) → Or Passage
lines_rest unit one world halted all lines =
    after (put_on_unit unit world (write_all unit lines world.units)) λ putting. Ok (put_further one (record { records = all; halted = halted }) putting)

abbrev value_rest : ℤ → Transfer → World → ℕ → Output → Or Passage
value_rest unit one world written out = lines_rest unit one world out.halted out.complete (drop written out.complete)

-- the value is put
valued : (objects : List Object) (going : Option Transfer) (units : Units) (output : FormattedOutput) (format : Format) (transfer : Transfer) (complete : List (List ℕ)) (value : ListedValue) (out : Output) →
    made_on unit_sheet format (transfer.values ++ value ∷ []) false ≡ out → out.complete ≡ complete →
    put_values (value ∷ []) (before_item output.unit (shown_by output format transfer) complete) (world_with objects going units)
    ≡ Ok (put_unless out.halted (with_item output.unit (shown_by output format transfer) complete value) (length complete) (media.Unit output.unit) (world_with objects going units))
valued objects going units output format transfer complete value out made lines =
    let one : Transfer = with_item output.unit (shown_by output format transfer) complete value in
    let world : World = world_with objects going units in
    ap (value_rest output.unit one world (length complete)) made
    ∙ ap (λ (all : List (List ℕ)). lines_rest output.unit one world out.halted all (drop (length complete) all)) lines
    ∙ ap (lines_rest output.unit one world out.halted complete) (drop-whole complete)

-- ## The item is put

abbrev stands-with : (text : List ℕ) (output output' : FormattedOutput) (transfer : Transfer) (complete' : List (List ℕ)) (new : RecordSheet) (field : Field) (value : ListedValue) → SameOutput output output' →
    (stands : StandsFor text output transfer) →
    AtField text (pass (reverted stands.format)) (edits_for stands.format (length transfer.values)).left output'.walk output.sheet stands.complete complete' new field →
    StandsOn unit_sheet complete' output'.sheet →
    with_field unit_sheet (field_of (descriptor_of field) value new.plus) (shown new complete') ≡ shown output'.sheet complete' →
    StandsFor text output' (with_item output.unit (shown_by output stands.format transfer) complete' value)
stands-with text output output' transfer complete' new field value same stands at on put = record {
  direction = refl;
  format = stands.format;
  layout = refl;
  medium = ap media.Unit (sym same.unit);
  on_error = sym same.on_error;
  on_end = sym same.on_end;
  served = ap (λ (n : ℕ). (edits_for stands.format n).unserved) (longer-by transfer.values value) ∙ next-unserved stands.format (length transfer.values) stands.served ∙ at.served;
  walks = subst (λ (left : List Edit). Stands text (pass (reverted stands.format)) output'.walk left)
      (sym at.behind ∙ sym (next-left stands.format (length transfer.values) stands.served) ∙ ap (λ (n : ℕ). (edits_for stands.format n).left) (sym (longer-by transfer.values value)))
      at.stands;
  complete = complete';
  on = on;
  made = reached-with text output transfer output'.walk complete' new field value stands at ∙ put;
  written = refl;
}

-- an item of a given output, whose descriptor is come to and whose value is fetched
put-means : (objects : List Object) (going : Option Transfer) (before after_it : Units) (text : List ℕ) (output : FormattedOutput) (transfer : Transfer) (size : ℕ) (pointer : CValue)
    (lines : List (List ℕ)) (walk' : FormatWalk) (new : RecordSheet) (field : Field) (value : ListedValue) (out : Output) → (stands : StandsFor text output transfer) →
    AtField text (pass (reverted stands.format)) (edits_for stands.format (length transfer.values)).left walk' output.sheet stands.complete (stands.complete ++ lines) new field →
    write_all output.unit lines before ≡ Ok after_it → Ok value ≡ item_under (Some (descriptor_of field)) objects pointer size →
    with_field unit_sheet (field_of (descriptor_of field) value new.plus) (shown new (stands.complete ++ lines)) ≡ out → out.complete ≡ stands.complete ++ lines →
    formatted_put stands.format size pointer transfer (world_with objects going before)
    ≡ Ok (put_unless out.halted (with_item output.unit (shown_by output stands.format transfer) (stands.complete ++ lines) value) (length (stands.complete ++ lines)) (media.Unit output.unit)
    (world_with objects going after_it))
put-means objects going before after_it text output transfer size pointer lines walk' new field value out stands at wrote given put whole =
    fetched objects going before after_it text output transfer size pointer lines walk' new field stands at wrote
    ∙ known (item_under (Some (descriptor_of field)) objects pointer size) value _ given
    ∙ valued objects going after_it output stands.format transfer (stands.complete ++ lines) value out
    (reached-with text output transfer walk' (stands.complete ++ lines) new field value stands at ∙ put) whole

at-unit : (text : List ℕ) (output : FormattedOutput) (walk' : FormatWalk) (own : ℤ) (sheet : RecordSheet) (rows rows' : List Row) (field : Field) → own ≡ output.unit →
    Reaches text output.walk walk' own output.sheet sheet rows rows' (Ok field) → Reaches text output.walk walk' output.unit output.sheet sheet rows rows' (Ok field)
at-unit text output walk' own sheet rows rows' field same reaches = subst (λ (number : ℤ). Reaches text output.walk walk' number output.sheet sheet rows rows' (Ok field)) same reaches

-- the act of a field
abbrev pub FieldActs : Field → ListedValue → RecordSheet → RecordSheet → Result (Unit {0}) Halt → Type 0
FieldActs field value sheet sheet' done = Acts unit_sheet (λ out. with_field unit_sheet (field_of (descriptor_of field) value out.plus) out) sheet sheet' done

-- an item that is put is there
four-there : (kind : ItemKind) (other : Descriptor) (value : ListedValue) (objects : List Object) (pointer : CValue) (size : ℕ) (plus : Bool) (out : Output) (new : RecordSheet) (complete : List (List ℕ)) →
    has_size kind size ≡ nat_eq size 4 → (field_of other (Text []) plus ≡ None) → Ok value ≡ if_four size (item_at kind objects pointer size) →
    with_field unit_sheet (field_of other value plus) out ≡ shown new complete → StandsThere size objects pointer
four-there kind other value objects pointer size plus out new complete has refuses given put = by (nat_eq size 4) refl given
  where
    by : (four : Bool) → nat_eq size 4 ≡ four → Ok value ≡ (if four then item_at kind objects pointer size else Ok (Text [])) → StandsThere size objects pointer
    by true is there = item-there kind objects pointer size value (has ∙ is) there
    by false is there =
        let empty : value ≡ Text [] = cc in
        let halted : (let h : Option halts.Halt = Some halts.OtherType in h) ≡ None =
        sym (ap (λ (o : Output). o.halted) (ap (λ (field : Option (List ℕ)). with_field unit_sheet field out) (ap (λ (v : ListedValue). field_of other v plus) empty ∙ refuses))) ∙ ap (λ (o : Output). o.halted) put in
        absurd (cc)

there-by : (field : Field) (value : ListedValue) (objects : List Object) (pointer : CValue) (size : ℕ) (sheet new : RecordSheet) (complete : List (List ℕ)) →
    Ok value ≡ item_under (Some (descriptor_of field)) objects pointer size → with_field unit_sheet (field_of (descriptor_of field) value sheet.plus) (shown sheet complete) ≡ shown new complete →
    StandsThere size objects pointer
there-by (fields.Int width least) value objects pointer size sheet new complete given put =
    four-there IntegerItem (IntIn width least) value objects pointer size sheet.plus (shown sheet complete) new complete refl refl given put
there-by (fields.Logical width) value objects pointer size sheet new complete given put =
    four-there LogicalItem (LogicalIn width) value objects pointer size sheet.plus (shown sheet complete) new complete refl refl given put
there-by (fields.Text width) value objects pointer size sheet new complete given put = item-there TextItem objects pointer size value refl given

pub item-put :
    (text : List ℕ) (output output' : FormattedOutput) (own : ℤ) (objects : List Object) (pointer : CValue) (size : ℕ) (rows rows' : List Row) (sheet : RecordSheet) (field : Field) (value : ListedValue) →
    own ≡ output.unit → SameOutput output output' → Reaches text output.walk output'.walk own output.sheet sheet rows rows' (Ok field) →
    Ok value ≡ item_under (Some (descriptor_of field)) objects pointer size → FieldActs field value sheet output'.sheet (Ok tt) → PutsItem text output output' objects pointer size rows rows' (Ok tt)
item-put text output output' own objects pointer size rows rows' sheet field value same_unit same reaches' given acts =
    let reaches = at-unit text output output'.walk own sheet rows rows' field same_unit reaches' in
    record {
      same = same;
      inside = reaches.inside;
      tells = reaches.writes.tells;
      means = λ tells transfer stands going.
          let at = reaches.comes (pass (reverted stands.format)) (edits_for stands.format (length transfer.values)).left stands.walks stands.complete stands.on in
          let done = acts (stands.complete ++ reaches.lines) at.on in
          record {
            transfer = with_item output.unit (shown_by output stands.format transfer) (stands.complete ++ reaches.lines) value;
            stands = stands-with text output output' transfer (stands.complete ++ reaches.lines) sheet field value same stands at done.0 done.1;
            same = refl;
            there = there-by field value objects pointer size sheet output'.sheet (stands.complete ++ reaches.lines) given done.1;
            means = put-means objects going (units_of rows) (units_of rows') text output transfer size pointer reaches.lines output'.walk sheet field value
                (shown output'.sheet (stands.complete ++ reaches.lines)) stands at (reaches.writes.means tells) given done.1 refl;
          };
      devices = reaches.writes.devices;
    }

pub item-halted :
    (text : List ℕ) (output output' : FormattedOutput) (own : ℤ) (objects : List Object) (pointer : CValue) (size : ℕ) (rows rows' : List Row) (sheet : RecordSheet) (field : Field) (value : ListedValue)
    (why : Halt) (stopped : Stop) → own ≡ output.unit → SameOutput output output' → Reaches text output.walk output'.walk own output.sheet sheet rows rows' (Ok field) →
    Ok value ≡ item_under (Some (descriptor_of field)) objects pointer size → FieldActs field value sheet output'.sheet (Err why) → stopped ≡ stop.Number (halt_number (halt_of why)) →
    PutsItem text output output' objects pointer size rows rows' (Err stopped)
item-halted text output output' own objects pointer size rows rows' sheet field value why stopped same_unit same reaches' given acts stops =
    let reaches = at-unit text output output'.walk own sheet rows rows' field same_unit reaches' in
    subst (λ (one : Stop). PutsItem text output output' objects pointer size rows rows' (Err one)) (sym stops)
    (record {
      same = same;
      inside = reaches.inside;
      tells = reaches.writes.tells;
      means = λ tells transfer stands going.
          let at = reaches.comes (pass (reverted stands.format)) (edits_for stands.format (length transfer.values)).left stands.walks stands.complete stands.on in
          let done = acts (stands.complete ++ reaches.lines) at.on in
          put-means objects going (units_of rows) (units_of rows') text output transfer size pointer reaches.lines output'.walk sheet field value
          (record (shown sheet (stands.complete ++ reaches.lines)) { halted = Some (halt_of why) }) stands at (reaches.writes.means tells) given done.1 refl;
      devices = reaches.writes.devices;
    })

pub item-faulty :
    (text : List ℕ) (output output' : FormattedOutput) (own : ℤ) (objects : List Object) (pointer : CValue) (size : ℕ) (rows rows' : List Row) (field : Field) (fault : CFault) →
    own ≡ output.unit → SameOutput output output' → Reaches text output.walk output'.walk own output.sheet output'.sheet rows rows' (Ok field) →
    failing fault ≡ item_under (Some (descriptor_of field)) objects pointer size → PutsItem text output output' objects pointer size rows rows' (Err (stop.Fault fault))
item-faulty text output output' own objects pointer size rows rows' field fault same_unit same reaches' given =
    let reaches = at-unit text output output'.walk own output'.sheet rows rows' field same_unit reaches' in
    record {
      same = same;
      inside = reaches.inside;
      tells = reaches.writes.tells;
      means = λ tells transfer stands going.
          let at = reaches.comes (pass (reverted stands.format)) (edits_for stands.format (length transfer.values)).left stands.walks stands.complete stands.on in
          fetched objects going (units_of rows) (units_of rows') text output transfer size pointer reaches.lines output'.walk output'.sheet field stands at (reaches.writes.means tells)
          ∙ faulty (item_under (Some (descriptor_of field)) objects pointer size) fault _ given;
      devices = reaches.writes.devices;
    }
