-- What an item of a formatted input means.
use Rattle.std.proofs.Common.{◌≡◌, ℕ, ◌+◌, ◌-◌, ℤ, pos, List, [], ◌∷◌, ◌++◌, length, Option, Some, None, refl, ap, sym, ◌∙◌, subst, arith}
use Rattle.std.specs.Prelude.{Ok, Err}
use Rattle.c_tree.specs.run_state.Units.{Units}
use Rattle.c_tree.specs.declared.outcome.CValue.{CValue}
use Rattle.c_tree.specs.declared.outcome.CFault.{CFault}
use Rattle.c_tree.specs.Faults.{Or, after, failing}
use Rattle.c_tree.specs.Objects.{Object}
use Rattle.c_tree.specs.World.{Direction, Input as Reading, Layout, Formatted, Medium, Transfer, Reply}
use Rattle.c_tree.specs.World as media
use Rattle.c_tree.specs.Transfers.{Passage, GoesOn, Answers, ended_by, read_on, units_behind}
use Rattle.c_tree.specs.TransferOutput.{next_descriptor}
use Rattle.c_tree.specs.TransferInput.{formatted_item, formatted_taken, format_stop, all_taken, value_taken, wanted_under}
use Rattle.edit_rules.specs.edit_meaning.Formats.{Descriptor, Format, Edit, pass, reverted}
use Rattle.edit_rules.specs.edit_meaning.Halts as halts
use Rattle.edit_rules.specs.edit_meaning.ListItems.{Value}
use Rattle.edit_rules.specs.edit_meaning.TakenRecords.{Input, Want, input, with_field, halted_by}
use Rattle.edit_rules.specs.edit_meaning.Transfers.{edited, unserved_by, for_next}
use Rattle.f2c_outside.specs.Table.{Row}
use Rattle.f2c_outside.specs.Meaning.{units_of}
use Rattle.unit_answers.specs.Answers.{world_with}
use Rattle.unit_answers.proofs.OrLemmas.{known, faulty}
use Rattle.listed_output.proofs.RowLaws.{stays-quietly}
use Rattle.listed_input.specs.Fetching.{coming}
use Rattle.formatted_records.specs.declared.fields.Field.{Field}
use Rattle.formatted_records.specs.Sheets.{descriptor_of}
use Rattle.taken_records.specs.declared.halt.Halt.{Halt}
use Rattle.taken_records.specs.declared.record.RecordInput.{RecordInput}
use Rattle.taken_records.specs.Records.{shown, halt_of}
use Rattle.c_tree.specs.TransferOutput.{halt_number}
use Rattle.taken_items.specs.declared.values.ItemHalt.{ItemHalt}
use Rattle.taken_items.specs.declared.values.ItemHalt.TheVariants as item
use Rattle.taken_items.specs.Taking.{TakesValue, TakesItem}
use Rattle.edit_rules.specs.declared.format_walk.FormatWalk.{FormatWalk}
use Rattle.edit_rules.specs.Walks.{Stands}
use Rattle.formatted_input.specs.declared.calls.FormattedInput.{FormattedInput}
use Rattle.formatted_input.specs.declared.acts.Stop.{Stop}
use Rattle.formatted_input.specs.declared.acts.Stop.TheVariants as stop
use Rattle.formatted_input.specs.Acting.{input_at, Behind, ReadOn, HaltsBy, StopsBy, Stops}
use Rattle.taken_items.specs.Reaching.{over_next, with_next}
use Rattle.formatted_input.specs.Reaching.{AtField, Reaches}
use Rattle.formatted_input.specs.Transferring.{StandsFor}
use Rattle.formatted_input.specs.Giving.{SameInput, GivesOn, ItemMeans, GivesItem}
use Rattle.formatted_input.proofs.ReadLaws.{stops-by-then}
use Rattle.formatted_input.proofs.ActLaws.{halted-here}

-- ## A transfer for which an input stands

-- the transfer, with what the input says of it
abbrev pub shown_by : (text : List ℕ) (input : FormattedInput) (transfer : Transfer) → StandsFor text input transfer → Transfer
shown_by text given transfer stands = record transfer {
  direction = Reading;
  layout = Formatted stands.format;
  medium = media.Unit given.unit;
  on_error = given.on_error;
  on_end = given.on_end;
  course = record { left = transfer.course.left; state = shown given.record stands.later stands.values };
}

pub is-shown : (text : List ℕ) (given : FormattedInput) (transfer : Transfer) → (stands : StandsFor text given transfer) → transfer ≡ shown_by text given transfer stands
is-shown text given transfer stands =
    ap (λ (direction : Direction). record transfer { direction = direction }) stands.direction
    ∙ ap (λ (layout : Layout). record transfer { direction = Reading; layout = layout }) stands.layout
    ∙ ap (λ (medium : Medium). record transfer { direction = Reading; layout = Formatted stands.format; medium = medium }) stands.medium
    ∙ ap (λ (number : ℤ). record transfer { direction = Reading; layout = Formatted stands.format; medium = media.Unit given.unit; on_error = number }) stands.on_error
    ∙ ap (λ (number : ℤ). record transfer { direction = Reading; layout = Formatted stands.format; medium = media.Unit given.unit; on_error = given.on_error; on_end = number }) stands.on_end
    ∙ ap (λ (state : Input). record transfer {
      direction = Reading;
      layout = Formatted stands.format;
      medium = media.Unit given.unit;
      on_error = given.on_error;
      on_end = given.on_end;
      course = record { left = transfer.course.left; state = state };
    }) stands.place

-- ## Why it goes no further

-- so many records are behind, which are those that came next up to the later ones
pub read-counted : (unit : ℤ) (later : List (List ℕ)) (before after_it : Units) → (behind : Behind unit later before after_it) →
    read_on (length (coming unit before).lines - length later) unit before ≡ after_it
read-counted unit later before after_it behind =
    ap (λ (n : ℕ). read_on n unit before) (let e : length (coming unit before).lines - length later ≡ behind.count = omega (arith, behind.lines) in e) ∙ sym behind.units

pub stop-replies : (unit number : ℤ) (transfer : Transfer) (objects : List Object) (going : Option Transfer) (before after_it : Units) (later : List (List ℕ)) (halt : halts.Halt) →
    transfer.medium ≡ media.Unit unit → HaltsBy unit number later before after_it halt →
    format_stop transfer (world_with objects going before) (coming unit before) (length (coming unit before).lines - length later) halt
    ≡ Ok (ended_by number transfer (world_with objects going after_it))
stop-replies unit number transfer objects going before after_it later (halts.Number error) on halts' =
    ap (λ (medium : Medium). Ok (ended_by (pos error) transfer (world_with objects going (units_behind (length (coming unit before).lines - length later) medium before)))) on
    ∙ ap (λ (units : Units). Ok (ended_by (pos error) transfer (world_with objects going units))) (read-counted unit later before after_it halts'.1)
    ∙ ap (λ (n : ℤ). Ok (ended_by n transfer (world_with objects going after_it))) (sym halts'.0)
stop-replies unit number transfer objects going before after_it later halts.OtherType on halts' =
    ap (λ (medium : Medium). Ok (ended_by (pos 4) transfer (world_with objects going (units_behind (length (coming unit before).lines - length later) medium before)))) on
    ∙ ap (λ (units : Units). Ok (ended_by (pos 4) transfer (world_with objects going units))) (read-counted unit later before after_it halts'.1)
    ∙ ap (λ (n : ℤ). Ok (ended_by n transfer (world_with objects going after_it))) (sym halts'.0)
stop-replies unit number transfer objects going before after_it later halts.EndOfRecords on halts' =
    ap (λ (found : Or ℤ). after found (λ n. Ok (ended_by n transfer (world_with objects going (units_behind (length (coming unit before).lines + 1) transfer.medium before))))) halts'.0
    ∙ ap (λ (medium : Medium). Ok (ended_by number transfer (world_with objects going (units_behind (length (coming unit before).lines + 1) medium before)))) on
    ∙ ap (λ (units : Units). Ok (ended_by number transfer (world_with objects going units))) (sym halts'.1)

-- ## An item

-- what an item wants under the descriptor that it gets
abbrev wanted : (text : List ℕ) (given : FormattedInput) (transfer : Transfer) → StandsFor text given transfer → ℕ → Want
wanted text given transfer stands size = wanted_under (next_descriptor stands.format transfer.course.left) size

-- the edits that are left behind it
abbrev left_by : Format → Transfer → List Edit
left_by format transfer = (for_next (pass (reverted format)) transfer.course.left).left

-- the input with it
abbrev state_by : (text : List ℕ) (given : FormattedInput) (transfer : Transfer) → StandsFor text given transfer → ℕ → Units → Input
state_by text given transfer stands size units =
    with_next (pass (reverted stands.format)) transfer.course.left (wanted text given transfer stands size ∷ []) (input_at given.unit given.record units)

-- the rest of an item, by the input with it
abbrev rest_of : CValue → ℕ → ℤ → Transfer → List Object → Option Transfer → Units → List Edit → Input → Or Passage
rest_of pointer size unit one objects going units left state =
    formatted_taken pointer size one (world_with objects going units) (coming unit units) (record { left = left; state = state }) state.halted

item-called : (text : List ℕ) (given : FormattedInput) (transfer : Transfer) (objects : List Object) (going : Option Transfer) (units : Units) (size : ℕ) (pointer : CValue) →
    (stands : StandsFor text given transfer) →
    formatted_item stands.format size pointer (shown_by text given transfer stands) (world_with objects going units)
    ≡ rest_of pointer size given.unit (shown_by text given transfer stands) objects going units (left_by stands.format transfer) (state_by text given transfer stands size units)
item-called text given transfer objects going units size pointer stands = refl

item-known : (text : List ℕ) (given : FormattedInput) (transfer : Transfer) (objects : List Object) (going : Option Transfer) (units : Units) (size : ℕ) (pointer : CValue) (state : Input) →
    (stands : StandsFor text given transfer) → state_by text given transfer stands size units ≡ state →
    formatted_item stands.format size pointer transfer (world_with objects going units)
    ≡ rest_of pointer size given.unit (shown_by text given transfer stands) objects going units (left_by stands.format transfer) state
item-known text given transfer objects going units size pointer state stands is =
    ap (λ (one : Transfer). formatted_item stands.format size pointer one (world_with objects going units)) (is-shown text given transfer stands)
    ∙ item-called text given transfer objects going units size pointer stands
    ∙ ap (rest_of pointer size given.unit (shown_by text given transfer stands) objects going units (left_by stands.format transfer)) is

-- ## It goes no further

number-means :
    (text : List ℕ) (given given' : FormattedInput) (transfer : Transfer) (objects : List Object) (going : Option Transfer) (before after_it : Units) (size : ℕ) (pointer : CValue) (number : ℤ) →
    (stands : StandsFor text given transfer) → StopsBy (state_by text given transfer stands size before) given.unit number before after_it →
    ItemMeans (formatted_item stands.format size pointer transfer (world_with objects going before)) objects going after_it text stands.format given given' (Err (stop.Number number))
number-means text given given' transfer objects going before after_it size pointer number stands stops =
    let one : Transfer = shown_by text given transfer stands in
    let state : Input = state_by text given transfer stands size before in
    item-known text given transfer objects going before size pointer state stands refl
    ∙ ap (formatted_taken pointer size one (world_with objects going before) (coming given.unit before) (record { left = left_by stands.format transfer; state = state })) stops.halted
    ∙ ap (λ (reply : Or Reply). after reply (λ answer. Ok (Answers answer)))
    (stop-replies given.unit number one objects going before after_it state.later stops.halt refl stops.reads)

stopped-means :
    (text : List ℕ) (given given' : FormattedInput) (transfer : Transfer) (objects : List Object) (going : Option Transfer) (before after_it : Units) (size : ℕ) (pointer : CValue) (why : Stop) →
    (stands : StandsFor text given transfer) → Stops (state_by text given transfer stands size before) given.unit before after_it why →
    ItemMeans (formatted_item stands.format size pointer transfer (world_with objects going before)) objects going after_it text stands.format given given' (Err why)
stopped-means text given given' transfer objects going before after_it size pointer (stop.Number number) stands stops =
    number-means text given given' transfer objects going before after_it size pointer number stands stops
stopped-means text given given' transfer objects going before after_it size pointer stop.Device stands stops = tt
stopped-means text given given' transfer objects going before after_it size pointer (stop.Fault fault) stands stops = absurd stops

pub item-stopped :
    (text : List ℕ) (given given' : FormattedInput) (own : ℤ) (objects : List Object) (pointer : CValue) (size : ℕ) (rows rows' : List Row) (why : Stop) → own ≡ given.unit → SameInput given given' →
    Reaches text given.walk given'.walk own given.record given'.record rows rows' (Err why) → GivesItem text given given' objects objects pointer size rows rows' (Err why)
item-stopped text given given' own objects pointer size rows rows' why same_unit same reaches' =
    let reaches : Reaches text given.walk given'.walk given.unit given.record given'.record rows rows' (Err why) =
    subst (λ (number : ℤ). Reaches text given.walk given'.walk number given.record given'.record rows rows' (Err why)) same_unit reaches' in
    record {
      same = same;
      inside = reaches.inside;
      tells = reaches.tells;
      means = λ tells transfer stands going.
          stopped-means text given given' transfer objects going (units_of rows) (units_of rows') size pointer why stands
          (reaches.comes tells (pass (reverted stands.format)) transfer.course.left stands.walks (wanted text given transfer stands size ∷ []));
      devices = reaches.devices;
    }

-- ## Its descriptor is come to

none-more : (halted : Option halts.Halt) (state : Input) → edited input halted [] [] state ≡ state
none-more None state = refl
none-more (Some halt) state = refl

-- the input with the item, where its descriptor is come to
state-reached :
    (text : List ℕ) (given : FormattedInput) (transfer : Transfer) (walk' : FormatWalk) (before middle : Units) (new : RecordInput) (field : Field) (size : ℕ) → (stands : StandsFor text given transfer) →
    AtField text (pass (reverted stands.format)) transfer.course.left walk' given.unit given.record before middle new field →
    state_by text given transfer stands size before ≡ with_field (descriptor_of field) (wanted_under (Some (descriptor_of field)) size) (input_at given.unit new middle)
state-reached text given transfer walk' before middle new field size stands at =
    let wants : List Want = wanted text given transfer stands size ∷ [] in
    let out : Input = over_next (pass (reverted stands.format)) transfer.course.left wants (input_at given.unit given.record before) in
    let taken : Input = with_field (descriptor_of field) (wanted text given transfer stands size) (input_at given.unit new middle) in
    ap (λ (u : ℕ). unserved_by input u out.halted out) at.served
    ∙ at.edits wants
    ∙ none-more taken.halted taken
    ∙ ap (λ (one : Option Descriptor). with_field (descriptor_of field) (wanted_under one size) (input_at given.unit new middle)) at.descriptor

-- the transfer behind the item
abbrev went_on : Transfer → List Edit → Input → List Value → Transfer
went_on one left state values = record one { course = record { left = left; state = state }; received = one.received ++ values }

-- once the value is stored, or has a fault
taken-means : (pointer : CValue) (size : ℕ) (unit : ℤ) (one : Transfer) (objects objects' : List Object) (going : Option Transfer) (before after_it : Units) (left : List Edit) (new : RecordInput) (value : Value) →
    ReadOn unit before after_it → value_taken objects pointer size value ≡ Ok objects' →
    rest_of pointer size unit (record one { medium = media.Unit unit }) objects going before left (shown new (coming unit after_it).lines (value ∷ []))
    ≡ Ok (GoesOn (went_on (record one { medium = media.Unit unit }) left (shown new (coming unit after_it).lines (value ∷ [])) (value ∷ [])) (world_with objects' going after_it))
taken-means pointer size unit one objects objects' going before after_it left new value reads stored =
    let next : Transfer = went_on (record one { medium = media.Unit unit }) left (shown new (coming unit after_it).lines (value ∷ [])) (value ∷ []) in
    let all : all_taken pointer size (value ∷ []) objects ≡ Ok objects' = ap (λ (found : Or (List Object)). after found (λ changed. all_taken pointer size [] changed)) stored in
    known (all_taken pointer size (value ∷ []) objects) objects' _ (sym all)
    ∙ ap (λ (units : Units). Ok (GoesOn next (world_with objects' going units))) (read-counted unit (coming unit after_it).lines before after_it reads.reads)

fault-means : (pointer : CValue) (size : ℕ) (unit : ℤ) (one : Transfer) (objects : List Object) (going : Option Transfer) (before : Units) (later : List (List ℕ)) (left : List Edit) (new : RecordInput) (value : Value)
    (fault : CFault) → value_taken objects pointer size value ≡ failing fault →
    rest_of pointer size unit one objects going before left (shown new later (value ∷ [])) ≡ failing fault
fault-means pointer size unit one objects going before later left new value fault stored =
    let all : all_taken pointer size (value ∷ []) objects ≡ failing fault = ap (λ (found : Or (List Object)). after found (λ changed. all_taken pointer size [] changed)) stored in
    faulty (all_taken pointer size (value ∷ []) objects) fault _ (sym all)

-- ## The item

reaches-own : (text : List ℕ) (given given' : FormattedInput) (own : ℤ) (new : RecordInput) (rows rows' : List Row) (field : Field) → own ≡ given.unit →
    Reaches text given.walk given'.walk own given.record new rows rows' (Ok field) → Reaches text given.walk given'.walk given.unit given.record new rows rows' (Ok field)
reaches-own text given given' own new rows rows' field same reaches =
    subst (λ (number : ℤ). Reaches text given.walk given'.walk number given.record new rows rows' (Ok field)) same reaches

gives-on :
    (text : List ℕ) (given given' : FormattedInput) (objects objects' : List Object) (pointer : CValue) (size : ℕ) (before after_it : Units) (new : RecordInput) (field : Field) (value : Value) (transfer : Transfer)
    (going : Option Transfer) → SameInput given given' → (stands : StandsFor text given transfer) →
    AtField text (pass (reverted stands.format)) transfer.course.left given'.walk given.unit given.record before after_it new field →
    TakesValue (descriptor_of field) size new given'.record value → value_taken objects pointer size value ≡ Ok objects' →
    GivesOn (formatted_item stands.format size pointer transfer (world_with objects going before)) objects' going after_it text stands.format given'
gives-on text given given' objects objects' pointer size before after_it new field value transfer going same stands at takes stored =
    let one : Transfer = shown_by text given transfer stands in
    let state : Input = shown given'.record (coming given.unit after_it).lines (value ∷ []) in
    record {
      transfer = went_on one (left_by stands.format transfer) state (value ∷ []);
      stands = record {
        direction = refl;
        format = stands.format;
        layout = refl;
        medium = ap media.Unit (sym same.unit);
        on_error = sym same.on_error;
        on_end = sym same.on_end;
        walks = subst (λ (left : List Edit). Stands text (pass (reverted stands.format)) given'.walk left) (sym at.behind) at.stands;
        later = (coming given.unit after_it).lines;
        values = value ∷ [];
        place = refl;
      };
      same = refl;
      means = item-known text given transfer objects going before size pointer state stands
          (state-reached text given transfer given'.walk before after_it new field size stands at ∙ takes.takes (coming given.unit after_it).lines)
          ∙ taken-means pointer size given.unit one objects objects' going before after_it (left_by stands.format transfer) given'.record value at.reads stored;
    }

pub item-given :
    (text : List ℕ) (given given' : FormattedInput) (own : ℤ) (objects objects' : List Object) (pointer : CValue) (size : ℕ) (rows rows' : List Row) (new : RecordInput) (field : Field) → own ≡ given.unit →
    SameInput given given' → Reaches text given.walk given'.walk own given.record new rows rows' (Ok field) →
    TakesItem (descriptor_of field) pointer size new given'.record objects objects' (Ok tt) → GivesItem text given given' objects objects' pointer size rows rows' (Ok tt)
item-given text given given' own objects objects' pointer size rows rows' new field same_unit same reaches' takes =
    let reaches = reaches-own text given given' own new rows rows' field same_unit reaches' in
    record {
      same = same;
      inside = reaches.inside;
      tells = reaches.tells;
      means = λ tells transfer stands going.
          gives-on text given given' objects objects' pointer size (units_of rows) (units_of rows') new field takes.0 transfer going same stands
          (reaches.comes tells (pass (reverted stands.format)) transfer.course.left stands.walks) takes.1 takes.2;
      devices = reaches.devices;
    }

pub item-faulty :
    (text : List ℕ) (given given' : FormattedInput) (own : ℤ) (objects objects' : List Object) (pointer : CValue) (size : ℕ) (rows rows' : List Row) (new : RecordInput) (field : Field) (fault : CFault) →
    own ≡ given.unit → SameInput given given' → Reaches text given.walk given'.walk own given.record new rows rows' (Ok field) →
    TakesItem (descriptor_of field) pointer size new given'.record objects objects' (Err (item.Fault fault)) →
    GivesItem text given given' objects objects' pointer size rows rows' (Err (stop.Fault fault))
item-faulty text given given' own objects objects' pointer size rows rows' new field fault same_unit same reaches' takes =
    let reaches = reaches-own text given given' own new rows rows' field same_unit reaches' in
    record {
      same = same;
      inside = reaches.inside;
      tells = reaches.tells;
      means = λ tells transfer stands going.
          let at = reaches.comes tells (pass (reverted stands.format)) transfer.course.left stands.walks in
          let later : List (List ℕ) = (coming given.unit (units_of rows')).lines in
          item-known text given transfer objects going (units_of rows) size pointer (shown given'.record later (takes.0 ∷ [])) stands
          (state-reached text given transfer given'.walk (units_of rows) (units_of rows') new field size stands at ∙ takes.1.takes later)
          ∙ fault-means pointer size given.unit (shown_by text given transfer stands) objects going (units_of rows) later (left_by stands.format transfer) given'.record takes.0 fault takes.2;
      devices = reaches.devices;
    }

halted-item :
    (text : List ℕ) (given given' : FormattedInput) (own : ℤ) (objects : List Object) (pointer : CValue) (size : ℕ) (rows rows' : List Row) (new : RecordInput) (field : Field) (halt : Halt) →
    own ≡ given.unit → SameInput given given' → Reaches text given.walk given'.walk own given.record new rows rows' (Ok field) →
    ((later : List (List ℕ)) → with_field (descriptor_of field) (wanted_under (Some (descriptor_of field)) size) (shown new later []) ≡ halted_by (halt_of halt) (shown new later [])) →
    GivesItem text given given' objects objects pointer size rows rows' (Err (stop.Number (halt_number (halt_of halt))))
halted-item text given given' own objects pointer size rows rows' new field halt same_unit same reaches' halts' =
    let reaches = reaches-own text given given' own new rows rows' field same_unit reaches' in
    record {
      same = same;
      inside = reaches.inside;
      tells = reaches.tells;
      means = λ tells transfer stands going.
          let at = reaches.comes tells (pass (reverted stands.format)) transfer.course.left stands.walks in
          let after_it : Units = units_of rows' in
          let state : Input = state_by text given transfer stands size (units_of rows) in
          number-means text given given' transfer objects going (units_of rows) after_it size pointer (halt_number (halt_of halt)) stands
          (stops-by-then state given.unit (halt_number (halt_of halt)) (units_of rows) after_it after_it at.reads
          (halted-here given.unit after_it new state halt
          (state-reached text given transfer given'.walk (units_of rows) after_it new field size stands at ∙ halts' (coming given.unit after_it).lines)));
      devices = stays-quietly given.unit rows rows' reaches.devices;
    }

pub item-halted :
    (text : List ℕ) (given given' : FormattedInput) (own : ℤ) (objects objects' : List Object) (pointer : CValue) (size : ℕ) (rows rows' : List Row) (new : RecordInput) (field : Field) (halt : Halt) (stopped : Stop) →
    own ≡ given.unit → SameInput given given' → Reaches text given.walk given'.walk own given.record new rows rows' (Ok field) →
    TakesItem (descriptor_of field) pointer size new given'.record objects objects' (Err (item.Halts halt)) → stopped ≡ stop.Number (halt_number (halt_of halt)) →
    GivesItem text given given' objects objects' pointer size rows rows' (Err stopped)
item-halted text given given' own objects objects' pointer size rows rows' new field halt stopped same_unit same reaches takes is =
    subst (λ (one : Stop). GivesItem text given given' objects objects' pointer size rows rows' (Err one)) (sym is)
    (subst (λ (all : List Object). GivesItem text given given' objects all pointer size rows rows' (Err (stop.Number (halt_number (halt_of halt))))) (sym takes.0)
    (halted-item text given given' own objects pointer size rows rows' new field halt same_unit same reaches takes.1))

-- why an item gets no value, by what it is
pub takes-as : (descriptor : Descriptor) (pointer : CValue) (size : ℕ) (old new : RecordInput) (objects objects' : List Object) (found last : ItemHalt) → found ≡ last →
    TakesItem descriptor pointer size old new objects objects' (Err found) → TakesItem descriptor pointer size old new objects objects' (Err last)
takes-as descriptor pointer size old new objects objects' found last is takes =
    subst (λ (one : ItemHalt). TakesItem descriptor pointer size old new objects objects' (Err one)) is takes
