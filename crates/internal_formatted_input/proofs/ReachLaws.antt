-- The edits before the next item, one by one.
use Rattle.std.proofs.Common.{◌≡◌, ℕ, zero, suc, ◌<◌, true, pos, List, length, Option, Some, None, refl, sym, ap, ◌∙◌, subst, arith}
use Rattle.std.specs.Prelude.{Ok, Err}
use Rattle.c_tree.specs.Objects.{Object}
use Rattle.c_tree.specs.World.{InternalFile}
use Rattle.c_tree.specs.TransferOutput.{descriptor_in}
use Rattle.edit_rules.specs.edit_meaning.Formats as formats
use Rattle.edit_rules.specs.edit_meaning.Formats.{Item, Act, Control, Served, led_by}
use Rattle.edit_rules.specs.edit_meaning.Halts as halts
use Rattle.edit_rules.specs.edit_meaning.TakenRecords.{Input, Want, input, with_control}
use Rattle.edit_rules.specs.edit_meaning.Transfers.{edited, unserved_by, for_next}
use Rattle.edit_rules.specs.PartPlaces.{edit_in}
use Rattle.edit_rules.specs.Walks.{Stands, StandsIn, Given}
use Rattle.edit_rules.specs.declared.edits.Edit.{Edit}
use Rattle.edit_rules.specs.declared.format_walk.FormatWalk.{FormatWalk}
use Rattle.formatted_records.specs.declared.fields.Field.{Field}
use Rattle.formatted_records.specs.Sheets.{descriptor_of}
use Rattle.formatted_output.proofs.PlaceLaws.{edits_ahead, ahead-is}
use Rattle.formatted_output.proofs.ReachLaws.{given-as, Acted, acted}
use Rattle.taken_records.specs.declared.record.RecordInput.{RecordInput}
use Rattle.internal_formatted_input.specs.declared.acts.Stop.{Stop}
use Rattle.internal_formatted_input.specs.declared.acts.Stop.TheVariants as stop
use Rattle.internal_formatted_input.specs.Acting.{input_at, ReadOn, Stops, Does}
use Rattle.taken_items.specs.Reaching.{over_next, with_next}
use Rattle.internal_formatted_input.specs.Reaching.{Reaches}
use Rattle.internal_formatted_input.proofs.ActLaws.{read-none, read-then, stops-from}

-- how far the edits before the next item are done
pub record Gone (objects : List Object) (text : List ℕ) (again rest : List formats.Edit) (walk : FormatWalk) (before after : InternalFile) (old read : RecordInput) : Type 0 where
  pub left : List formats.Edit
  pub stands : Stands text again walk left
  pub unserved : (for_next again rest).unserved ≡ (for_next again left).unserved
  pub behind : (for_next again rest).left ≡ (for_next again left).left
  pub descriptor : descriptor_in (for_next again rest).edits ≡ descriptor_in (for_next again left).edits
  pub edits : (wants : List Want) → over_next again rest wants (input_at objects before old) ≡ over_next again left wants (input_at objects after read)

pub record Going (objects : List Object) (text : List ℕ) (first walk : FormatWalk) (before after : InternalFile) (old read : RecordInput) : Type 0 where
  pub inside : StandsIn walk text
  pub reads : ReadOn objects before after
  pub comes : (again rest : List formats.Edit) → Stands text again first rest → Gone objects text again rest walk before after old read

pub going-starts : (objects : List Object) (text : List ℕ) (walk : FormatWalk) (file : InternalFile) (old : RecordInput) → StandsIn walk text → Going objects text walk walk file file old old
going-starts objects text walk file old inside = record {
  inside = inside;
  reads = read-none objects file;
  comes = λ again rest stands. record {
    left = rest;
    stands = stands;
    unserved = refl;
    behind = refl;
    descriptor = refl;
    edits = λ wants. refl;
  };
}

-- the edits from an act on
from-act : (out : Input) (control : Control) (again rest left : List formats.Edit) (wants : List Want) → for_next again rest ≡ led_by (Act control) (for_next again left) →
    over_next again rest wants out ≡ edited input (with_control control out).halted (for_next again left).edits wants (with_control control out)
from-act out control again rest left wants is = ap (λ (next : Served). edited input None next.edits wants out) is

pub going-goes_on :
    (objects : List Object) (text : List ℕ) (first walk walk' : FormatWalk) (before now after : InternalFile) (old read read' : RecordInput) (given : Edit) →
    StandsIn walk' text → ((again rest : List formats.Edit) → Stands text again walk rest → Given true text again rest walk' given) →
    (found : (control : Control) × (edit_in text given ≡ Some (Act control))) → Does objects (with_control found.0) read read' now after (Ok tt) →
    Going objects text first walk before now old read → Going objects text first walk' before after old read'
going-goes_on objects text first walk walk' before now after old read read' given inside gives found does so_far = record {
  inside = inside;
  reads = read-then objects before now after so_far.reads does.reads;
  comes = λ again rest stands.
      let gone : Gone objects text again rest walk before now old read = so_far.comes again rest stands in
      let next : Acted text again gone.left walk' found.0 = acted text again gone.left walk' given found.0 found.1 (gives again gone.left gone.stands) in
      record {
        left = next.left;
        stands = next.stands;
        unserved = gone.unserved ∙ ap (λ (one : Served). one.unserved) next.is;
        behind = gone.behind ∙ ap (λ (one : Served). one.left) next.is;
        descriptor = gone.descriptor ∙ ap (λ (one : Served). descriptor_in one.edits) next.is;
        edits = λ wants. gone.edits wants
            ∙ from-act (input_at objects now read) found.0 again gone.left next.left wants next.is
            ∙ ap (λ (out : Input). edited input out.halted (for_next again next.left).edits wants out) does.is;
      };
}

pub going-smaller :
    (objects : List Object) (text : List ℕ) (first walk walk' : FormatWalk) (before now : InternalFile) (old read : RecordInput) (given : Edit) →
    ((again rest : List formats.Edit) → Stands text again walk rest → Given true text again rest walk' given) →
    (found : (control : Control) × (edit_in text given ≡ Some (Act control))) → Going objects text first walk before now old read → edits_ahead text walk' < edits_ahead text walk
going-smaller objects text first walk walk' before now old read given gives found so_far =
    let inside : StandsIn walk text = so_far.inside in
    let next : Acted text inside.again inside.rest walk' found.0 = acted text inside.again inside.rest walk' given found.0 found.1 (gives inside.again inside.rest inside.stands) in
    let here : edits_ahead text walk ≡ length (for_next inside.again inside.rest).edits = ahead-is text inside.again walk inside.rest inside.stands in
    let there : edits_ahead text walk' ≡ length (for_next inside.again next.left).edits = ahead-is text inside.again walk' next.left next.stands in
    let more : length (for_next inside.again inside.rest).edits ≡ suc (length (for_next inside.again next.left).edits) = ap (λ (one : Served). length one.edits) next.is in
    omega arith

-- an input that is halted stays so over further edits
pub stops-edited : (objects : List Object) (file : InternalFile) (why : Stop) (edits : List formats.Edit) (wants : List Want) (out : Input) → Stops objects file out why →
    Stops objects file (edited input out.halted edits wants out) why
stops-edited objects file why edits wants out stops =
    subst (λ (one : Input). Stops objects file one why) (sym (ap (λ (halted : Option halts.Halt). edited input halted edits wants out) stops.halted)) stops

-- and where an item gets no descriptor
stops-unserved : (objects : List Object) (file : InternalFile) (why : Stop) (unserved : ℕ) (out : Input) → Stops objects file out why → Stops objects file (unserved_by input unserved out.halted out) why
stops-unserved objects file why zero out stops = stops
stops-unserved objects file why (suc more) out stops =
    subst (λ (one : Input). Stops objects file one why) (sym (ap (λ (halted : Option halts.Halt). unserved_by input (suc more) halted out) stops.halted)) stops

pub going-stops :
    (objects : List Object) (text : List ℕ) (first walk walk' : FormatWalk) (before now after : InternalFile) (old read read' : RecordInput) (given : Edit) (why : Stop) →
    StandsIn walk' text → ((again rest : List formats.Edit) → Stands text again walk rest → Given true text again rest walk' given) →
    (found : (control : Control) × (edit_in text given ≡ Some (Act control))) → Does objects (with_control found.0) read read' now after (Err why) →
    Going objects text first walk before now old read → Reaches objects text first walk' old read' before after (Err why)
going-stops objects text first walk walk' before now after old read read' given why inside gives found does so_far = record {
  inside = inside;
  comes = λ again rest stands wants.
      let gone : Gone objects text again rest walk before now old read = so_far.comes again rest stands in
      let next : Acted text again gone.left walk' found.0 = acted text again gone.left walk' given found.0 found.1 (gives again gone.left gone.stands) in
      let out : Input = with_control found.0 (input_at objects now read) in
      let stops : Stops objects before out why = stops-from objects before now out why so_far.reads does in
      let over : Stops objects before (over_next again rest wants (input_at objects before old)) why =
      subst (λ (one : Input). Stops objects before one why)
      (sym (gone.edits wants ∙ from-act (input_at objects now read) found.0 again gone.left next.left wants next.is))
      (stops-edited objects before why (for_next again next.left).edits wants out stops) in
      stops-unserved objects before why (for_next again rest).unserved (over_next again rest wants (input_at objects before old)) over;
}

pub going-takes :
    (objects : List Object) (text : List ℕ) (first walk walk' : FormatWalk) (before now : InternalFile) (old read : RecordInput) (given : Edit) (field : Field) →
    StandsIn walk' text → ((again rest : List formats.Edit) → Stands text again walk rest → Given true text again rest walk' given) →
    edit_in text given ≡ Some (Item (descriptor_of field)) → Going objects text first walk before now old read → Reaches objects text first walk' old read before now (Ok field)
going-takes objects text first walk walk' before now old read given field inside gives is so_far = record {
  inside = inside;
  comes = λ again rest stands.
      let gone : Gone objects text again rest walk before now old read = so_far.comes again rest stands in
      let known = given-as text again gone.left walk' given (Some (Item (descriptor_of field))) is (gives again gone.left gone.stands) in
      record {
        left = known.0;
        stands = known.1;
        served = gone.unserved ∙ ap (λ (one : Served). one.unserved) known.2;
        behind = gone.behind ∙ ap (λ (one : Served). one.left) known.2;
        descriptor = gone.descriptor ∙ ap (λ (one : Served). descriptor_in one.edits) known.2;
        reads = so_far.reads;
        edits = λ wants. gone.edits wants ∙ ap (λ (one : Served). edited input None one.edits wants (input_at objects now read)) known.2;
      };
}

-- the next item gets no descriptor
none-left : (objects : List Object) (file : InternalFile) (again rest : List formats.Edit) (wants : List Want) (out start : Input) → out.halted ≡ None → (for_next again rest).unserved ≡ 1 →
    over_next again rest wants start ≡ out → Stops objects file (with_next again rest wants start) (stop.Number (pos 4))
none-left objects file again rest wants out start runs one over =
    let whole : with_next again rest wants start ≡ record out { halted = Some (halts.Number 4) } =
    ap (λ (o : Input). unserved_by input (for_next again rest).unserved o.halted o) over
    ∙ ap (λ (n : ℕ). unserved_by input n out.halted out) one
    ∙ ap (λ (halted : Option halts.Halt). unserved_by input 1 halted out) runs in
    record { halt = halts.Number 4; halted = ap (λ (o : Input). o.halted) whole; by = refl }

pub going-ends :
    (objects : List Object) (text : List ℕ) (first walk walk' : FormatWalk) (before now : InternalFile) (old read : RecordInput) (given : Edit) →
    StandsIn walk' text → ((again rest : List formats.Edit) → Stands text again walk rest → Given true text again rest walk' given) →
    edit_in text given ≡ None → Going objects text first walk before now old read → Reaches objects text first walk' old read before now (Err (stop.Number (pos 4)))
going-ends objects text first walk walk' before now old read given inside gives is so_far = record {
  inside = inside;
  comes = λ again rest stands wants.
      let gone : Gone objects text again rest walk before now old read = so_far.comes again rest stands in
      let known = given-as text again gone.left walk' given None is (gives again gone.left gone.stands) in
      none-left objects before again rest wants (input_at objects now read) (input_at objects before old) refl (gone.unserved ∙ known.3)
      (gone.edits wants ∙ ap (λ (edits : List formats.Edit). edited input None edits wants (input_at objects now read)) known.2);
}
