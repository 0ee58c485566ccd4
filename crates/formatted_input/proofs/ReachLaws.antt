-- The edits before the next item, one by one.
use Rattle.std.proofs.Common.{◌≡◌, ℕ, ℤ, zero, suc, ◌<◌, true, List, length, Option, Some, None, refl, sym, ap, ◌∙◌, subst, arith}
use Rattle.std.specs.Prelude.{pos, Result, Ok, Err}
use Rattle.c_tree.specs.run_state.Units.{Units}
use Rattle.c_tree.specs.TransferOutput.{descriptor_in}
use Rattle.edit_rules.specs.edit_meaning.Formats as formats
use Rattle.edit_rules.specs.edit_meaning.Formats.{Item, Act, Control, Served, led_by}
use Rattle.edit_rules.specs.edit_meaning.Halts.{Halt, Number}
use Rattle.edit_rules.specs.edit_meaning.TakenRecords.{Input, Want, input, halted_by, with_control}
use Rattle.edit_rules.specs.edit_meaning.Transfers.{edited, unserved_by, for_next}
use Rattle.edit_rules.specs.PartPlaces.{edit_in}
use Rattle.edit_rules.specs.Walks.{Stands, StandsIn, Given}
use Rattle.edit_rules.specs.declared.edits.Edit.{Edit}
use Rattle.edit_rules.specs.declared.format_walk.FormatWalk.{FormatWalk}
use Rattle.f2c_outside.specs.Table.{Row}
use Rattle.f2c_outside.specs.Meaning.{Tells, units_of}
use Rattle.listed_output.specs.Writing.{StayedOn}
use Rattle.listed_output.proofs.RowLaws.{stays-same, stays-stays, stays-quietly}
use Rattle.formatted_records.specs.declared.fields.Field.{Field}
use Rattle.formatted_records.specs.Sheets.{descriptor_of}
use Rattle.taken_records.specs.declared.record.RecordInput.{RecordInput}
use Rattle.formatted_output.proofs.PlaceLaws.{edits_ahead, ahead-is}
use Rattle.formatted_output.proofs.ReachLaws.{given-as, Acted, acted}
use Rattle.formatted_input.specs.declared.acts.Stop.{Stop}
use Rattle.formatted_input.specs.declared.acts.Stop.TheVariants as stop
use Rattle.formatted_input.specs.Acting.{input_at, ReadOn, StopsBy, Stops, Does}
use Rattle.taken_items.specs.Reaching.{over_next, with_next}
use Rattle.formatted_input.specs.Reaching.{Reaches}
use Rattle.formatted_input.proofs.ReadLaws.{reads-none, reads-then, stops-then, devices-then}

-- how far the edits before the next item are done
pub record Gone (text : List ℕ) (again rest : List formats.Edit) (walk : FormatWalk) (unit : ℤ) (before now : Units) (old taken : RecordInput) : Type 0 where
  pub left : List formats.Edit
  pub stands : Stands text again walk left
  pub unserved : (for_next again rest).unserved ≡ (for_next again left).unserved
  pub behind : (for_next again rest).left ≡ (for_next again left).left
  pub descriptor : descriptor_in (for_next again rest).edits ≡ descriptor_in (for_next again left).edits
  pub reads : ReadOn unit before now
  pub edits : (wants : List Want) → over_next again rest wants (input_at unit old before) ≡ over_next again left wants (input_at unit taken now)

pub record Going (text : List ℕ) (first walk : FormatWalk) (unit : ℤ) (old taken : RecordInput) (rows rows' : List Row) : Type 0 where
  pub inside : StandsIn walk text
  pub tells : Tells rows → Tells rows'
  pub stays : StayedOn unit rows rows'
  pub comes : Tells rows → (again rest : List formats.Edit) → Stands text again first rest → Gone text again rest walk unit (units_of rows) (units_of rows') old taken

pub going-starts : (text : List ℕ) (walk : FormatWalk) (unit : ℤ) (old : RecordInput) (rows : List Row) → StandsIn walk text → Going text walk walk unit old old rows rows
going-starts text walk unit old rows inside = record {
  inside = inside;
  tells = λ tells. tells;
  stays = stays-same unit rows;
  comes = λ tells again rest stands. record {
    left = rest;
    stands = stands;
    unserved = refl;
    behind = refl;
    descriptor = refl;
    reads = reads-none unit (units_of rows);
    edits = λ wants. refl;
  };
}

-- the edits from an act on
from-act : (state : Input) (control : Control) (again rest left : List formats.Edit) (wants : List Want) → for_next again rest ≡ led_by (Act control) (for_next again left) →
    over_next again rest wants state ≡ edited input (with_control control state).halted (for_next again left).edits wants (with_control control state)
from-act state control again rest left wants is = ap (λ (next : Served). edited input None next.edits wants state) is

pub going-goes_on :
    (text : List ℕ) (first walk walk' : FormatWalk) (unit : ℤ) (old taken taken' : RecordInput) (rows rows' rows'' : List Row) (given : Edit) →
    StandsIn walk' text → ((again rest : List formats.Edit) → Stands text again walk rest → Given true text again rest walk' given) →
    (found : (control : Control) × (edit_in text given ≡ Some (Act control))) → Does (with_control found.0) unit taken taken' rows' rows'' (Ok tt) →
    Going text first walk unit old taken rows rows' → Going text first walk' unit old taken' rows rows''
going-goes_on text first walk walk' unit old taken taken' rows rows' rows'' given inside gives found does before = record {
  inside = inside;
  tells = λ tells. does.tells (before.tells tells);
  stays = stays-stays unit rows rows' rows'' before.stays does.devices;
  comes = λ tells again rest stands.
      let gone : Gone text again rest walk unit (units_of rows) (units_of rows') old taken = before.comes tells again rest stands in
      let next : Acted text again gone.left walk' found.0 = acted text again gone.left walk' given found.0 found.1 (gives again gone.left gone.stands) in
      let done = does.comes (before.tells tells) in
      record {
        left = next.left;
        stands = next.stands;
        unserved = gone.unserved ∙ ap (λ (one : Served). one.unserved) next.is;
        behind = gone.behind ∙ ap (λ (one : Served). one.left) next.is;
        descriptor = gone.descriptor ∙ ap (λ (one : Served). descriptor_in one.edits) next.is;
        reads = reads-then unit (units_of rows) (units_of rows') (units_of rows'') gone.reads done.reads;
        edits = λ wants. gone.edits wants
            ∙ from-act (input_at unit taken (units_of rows')) found.0 again gone.left next.left wants next.is
            ∙ ap (λ (state : Input). edited input state.halted (for_next again next.left).edits wants state) done.is;
      };
}

pub going-smaller :
    (text : List ℕ) (first walk walk' : FormatWalk) (unit : ℤ) (old taken : RecordInput) (rows rows' : List Row) (given : Edit) →
    ((again rest : List formats.Edit) → Stands text again walk rest → Given true text again rest walk' given) →
    (found : (control : Control) × (edit_in text given ≡ Some (Act control))) → Going text first walk unit old taken rows rows' → edits_ahead text walk' < edits_ahead text walk
going-smaller text first walk walk' unit old taken rows rows' given gives found before =
    let inside : StandsIn walk text = before.inside in
    let next : Acted text inside.again inside.rest walk' found.0 = acted text inside.again inside.rest walk' given found.0 found.1 (gives inside.again inside.rest inside.stands) in
    let here : edits_ahead text walk ≡ length (for_next inside.again inside.rest).edits = ahead-is text inside.again walk inside.rest inside.stands in
    let there : edits_ahead text walk' ≡ length (for_next inside.again next.left).edits = ahead-is text inside.again walk' next.left next.stands in
    let more : length (for_next inside.again inside.rest).edits ≡ suc (length (for_next inside.again next.left).edits) = ap (λ (one : Served). length one.edits) next.is in
    omega arith

-- an input that is stopped stays so over further edits, and where an item gets no descriptor
pub stops-edited : (why : Stop) (unit : ℤ) (before after : Units) (edits : List formats.Edit) (wants : List Want) (out : Input) → Stops out unit before after why →
    Stops (edited input out.halted edits wants out) unit before after why
stops-edited (stop.Number number) unit before after edits wants out stops =
    subst (λ (one : Input). StopsBy one unit number before after) (sym (ap (λ (halted : Option Halt). edited input halted edits wants out) stops.halted)) stops
stops-edited stop.Device unit before after edits wants out stops = tt
stops-edited (stop.Fault fault) unit before after edits wants out stops = stops

unserved-halted : (unserved : ℕ) (halt : Halt) (out : Input) → unserved_by input unserved (Some halt) out ≡ out
unserved-halted zero halt out = refl
unserved-halted (suc more) halt out = refl

unserved-stops : (why : Stop) (unit : ℤ) (before after : Units) (unserved : ℕ) (out : Input) → Stops out unit before after why → Stops (unserved_by input unserved out.halted out) unit before after why
unserved-stops (stop.Number number) unit before after unserved out stops =
    subst (λ (one : Input). StopsBy one unit number before after)
    (sym (ap (λ (halted : Option Halt). unserved_by input unserved halted out) stops.halted ∙ unserved-halted unserved stops.halt out)) stops
unserved-stops stop.Device unit before after unserved out stops = tt
unserved-stops (stop.Fault fault) unit before after unserved out stops = stops

pub going-stops :
    (text : List ℕ) (first walk walk' : FormatWalk) (unit : ℤ) (old taken taken' : RecordInput) (rows rows' rows'' : List Row) (given : Edit) (why : Stop) →
    StandsIn walk' text → ((again rest : List formats.Edit) → Stands text again walk rest → Given true text again rest walk' given) →
    (found : (control : Control) × (edit_in text given ≡ Some (Act control))) → Does (with_control found.0) unit taken taken' rows' rows'' (Err why) →
    Going text first walk unit old taken rows rows' → Reaches text first walk' unit old taken' rows rows'' (Err why)
going-stops text first walk walk' unit old taken taken' rows rows' rows'' given why inside gives found does before = record {
  inside = inside;
  tells = λ tells. does.tells (before.tells tells);
  comes = λ tells again rest stands wants.
      let gone : Gone text again rest walk unit (units_of rows) (units_of rows') old taken = before.comes tells again rest stands in
      let next : Acted text again gone.left walk' found.0 = acted text again gone.left walk' given found.0 found.1 (gives again gone.left gone.stands) in
      let out : Input = with_control found.0 (input_at unit taken (units_of rows')) in
      let stops : Stops out unit (units_of rows) (units_of rows'') why =
      stops-then why out unit (units_of rows) (units_of rows') (units_of rows'') gone.reads (does.comes (before.tells tells)) in
      let over : Stops (over_next again rest wants (input_at unit old (units_of rows))) unit (units_of rows) (units_of rows'') why =
      subst (λ (one : Input). Stops one unit (units_of rows) (units_of rows'') why)
      (sym (gone.edits wants ∙ from-act (input_at unit taken (units_of rows')) found.0 again gone.left next.left wants next.is))
      (stops-edited why unit (units_of rows) (units_of rows'') (for_next again next.left).edits wants out stops) in
      unserved-stops why unit (units_of rows) (units_of rows'') (for_next again rest).unserved (over_next again rest wants (input_at unit old (units_of rows))) over;
  devices = devices-then (Unit {0}) Field unit rows rows' rows'' why before.stays does.devices;
}

pub going-takes :
    (text : List ℕ) (first walk walk' : FormatWalk) (unit : ℤ) (old taken : RecordInput) (rows rows' : List Row) (given : Edit) (field : Field) →
    StandsIn walk' text → ((again rest : List formats.Edit) → Stands text again walk rest → Given true text again rest walk' given) →
    edit_in text given ≡ Some (Item (descriptor_of field)) → Going text first walk unit old taken rows rows' → Reaches text first walk' unit old taken rows rows' (Ok field)
going-takes text first walk walk' unit old taken rows rows' given field inside gives is before = record {
  inside = inside;
  tells = before.tells;
  comes = λ tells again rest stands.
      let gone : Gone text again rest walk unit (units_of rows) (units_of rows') old taken = before.comes tells again rest stands in
      let known = given-as text again gone.left walk' given (Some (Item (descriptor_of field))) is (gives again gone.left gone.stands) in
      record {
        left = known.0;
        stands = known.1;
        served = gone.unserved ∙ ap (λ (one : Served). one.unserved) known.2;
        behind = gone.behind ∙ ap (λ (one : Served). one.left) known.2;
        descriptor = gone.descriptor ∙ ap (λ (one : Served). descriptor_in one.edits) known.2;
        reads = gone.reads;
        edits = λ wants. gone.edits wants ∙ ap (λ (one : Served). edited input None one.edits wants (input_at unit taken (units_of rows'))) known.2;
      };
  devices = before.stays;
}

-- the next item gets no descriptor
none-left : (unit : ℤ) (before now : Units) (again rest : List formats.Edit) (wants : List Want) (start : Input) (taken : RecordInput) → ReadOn unit before now →
    (for_next again rest).unserved ≡ 1 → over_next again rest wants start ≡ input_at unit taken now → StopsBy (with_next again rest wants start) unit (pos 4) before now
none-left unit before now again rest wants start taken reads one over =
    let whole : with_next again rest wants start ≡ halted_by (Number 4) (input_at unit taken now) =
    ap (λ (state : Input). unserved_by input (for_next again rest).unserved state.halted state) over
    ∙ ap (λ (n : ℕ). unserved_by input n None (input_at unit taken now)) one in
    subst (λ (state : Input). StopsBy state unit (pos 4) before now) (sym whole) (record { halt = Number 4; halted = refl; reads = (refl, reads.reads) })

pub going-ends :
    (text : List ℕ) (first walk walk' : FormatWalk) (unit : ℤ) (old taken : RecordInput) (rows rows' : List Row) (given : Edit) →
    StandsIn walk' text → ((again rest : List formats.Edit) → Stands text again walk rest → Given true text again rest walk' given) →
    edit_in text given ≡ None → Going text first walk unit old taken rows rows' → Reaches text first walk' unit old taken rows rows' (Err (stop.Number (pos 4)))
going-ends text first walk walk' unit old taken rows rows' given inside gives is before = record {
  inside = inside;
  tells = before.tells;
  comes = λ tells again rest stands wants.
      let gone : Gone text again rest walk unit (units_of rows) (units_of rows') old taken = before.comes tells again rest stands in
      let known = given-as text again gone.left walk' given None is (gives again gone.left gone.stands) in
      none-left unit (units_of rows) (units_of rows') again rest wants (input_at unit old (units_of rows)) taken gone.reads (gone.unserved ∙ known.3)
      (gone.edits wants ∙ ap (λ (edits : List formats.Edit). edited input None edits wants (input_at unit taken (units_of rows'))) known.2);
  devices = stays-quietly unit rows rows' before.stays;
}

pub reaches-at : (text : List ℕ) (first walk : FormatWalk) (own unit : ℤ) (old new : RecordInput) (rows rows' : List Row) (result : Result Field Stop) → own ≡ unit →
    Reaches text first walk own old new rows rows' result → Reaches text first walk unit old new rows rows' result
reaches-at text first walk own unit old new rows rows' result same reaches = subst (λ (number : ℤ). Reaches text first walk number old new rows rows' result) same reaches
