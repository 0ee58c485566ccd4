-- The edits behind the last item, one by one.
use Rattle.std.proofs.Common.{◌≡◌, ℕ, ℤ, suc, ◌<◌, false, List, [], ◌∷◌, length, Some, None, refl, sym, ap, ◌∙◌, subst, arith}
use Rattle.std.specs.Prelude.{Result, Ok, Err}
use Rattle.c_tree.specs.run_state.Units.{Units}
use Rattle.edit_rules.specs.edit_meaning.Formats as formats
use Rattle.edit_rules.specs.edit_meaning.Formats.{Act, Control, closing}
use Rattle.edit_rules.specs.edit_meaning.TakenRecords.{Input, input, with_control}
use Rattle.edit_rules.specs.edit_meaning.Transfers.{edited}
use Rattle.edit_rules.specs.PartPlaces.{edit_in}
use Rattle.edit_rules.specs.Walks.{Stands, StandsIn, Given}
use Rattle.edit_rules.specs.declared.edits.Edit.{Edit}
use Rattle.edit_rules.specs.declared.format_walk.FormatWalk.{FormatWalk}
use Rattle.f2c_outside.specs.Table.{Row}
use Rattle.f2c_outside.specs.Meaning.{Tells, units_of}
use Rattle.listed_output.specs.Writing.{StayedOn}
use Rattle.listed_output.proofs.RowLaws.{stays-same, stays-stays}
use Rattle.taken_records.specs.declared.record.RecordInput.{RecordInput}
use Rattle.formatted_output.specs.declared.acts.Turn.{Turn}
use Rattle.formatted_output.specs.declared.acts.Turn.TheVariants as turn
use Rattle.formatted_output.specs.Acting.{TurnOf}
use Rattle.formatted_output.proofs.PlaceLaws.{edits_behind, behind-is}
use Rattle.formatted_output.proofs.CloseLaws.{Acted, acted, ends-by}
use Rattle.formatted_input.specs.declared.acts.Stop.{Stop}
use Rattle.formatted_input.specs.Acting.{input_at, ReadOn, Stops, Does}
use Rattle.formatted_input.specs.Reaching.{Closes}
use Rattle.formatted_input.proofs.ReadLaws.{reads-none, reads-then, stops-then, devices-then}
use Rattle.formatted_input.proofs.ReachLaws.{stops-edited}

pub record Closed (text : List ℕ) (again rest : List formats.Edit) (walk : FormatWalk) (unit : ℤ) (before now : Units) (old taken : RecordInput) : Type 0 where
  pub left : List formats.Edit
  pub stands : Stands text again walk left
  pub reads : ReadOn unit before now
  pub edits : edited input None (closing rest) [] (input_at unit old before) ≡ edited input None (closing left) [] (input_at unit taken now)

pub record Closing (text : List ℕ) (first walk : FormatWalk) (unit : ℤ) (old taken : RecordInput) (rows rows' : List Row) : Type 0 where
  pub inside : StandsIn walk text
  pub tells : Tells rows → Tells rows'
  pub stays : StayedOn unit rows rows'
  pub comes : Tells rows → (again rest : List formats.Edit) → Stands text again first rest → Closed text again rest walk unit (units_of rows) (units_of rows') old taken

pub closing-starts : (text : List ℕ) (walk : FormatWalk) (unit : ℤ) (old : RecordInput) (rows : List Row) → StandsIn walk text → Closing text walk walk unit old old rows rows
closing-starts text walk unit old rows inside = record {
  inside = inside;
  tells = λ tells. tells;
  stays = stays-same unit rows;
  comes = λ tells again rest stands. record { left = rest; stands = stands; reads = reads-none unit (units_of rows); edits = refl };
}

-- the edits from an act on
from-act : (state : Input) (control : Control) (rest left : List formats.Edit) → closing rest ≡ Act control ∷ closing left →
    edited input None (closing rest) [] state ≡ edited input (with_control control state).halted (closing left) [] (with_control control state)
from-act state control rest left is = ap (λ (edits : List formats.Edit). edited input None edits [] state) is

pub closing-goes_on :
    (text : List ℕ) (first walk walk' : FormatWalk) (unit : ℤ) (old taken taken' : RecordInput) (rows rows' rows'' : List Row) (given : Edit) →
    StandsIn walk' text → ((again rest : List formats.Edit) → Stands text again walk rest → Given false text again rest walk' given) →
    (found : (control : Control) × (edit_in text given ≡ Some (Act control))) → Does (with_control found.0) unit taken taken' rows' rows'' (Ok tt) →
    Closing text first walk unit old taken rows rows' → Closing text first walk' unit old taken' rows rows''
closing-goes_on text first walk walk' unit old taken taken' rows rows' rows'' given inside gives found does before = record {
  inside = inside;
  tells = λ tells. does.tells (before.tells tells);
  stays = stays-stays unit rows rows' rows'' before.stays does.devices;
  comes = λ tells again rest stands.
      let closed : Closed text again rest walk unit (units_of rows) (units_of rows') old taken = before.comes tells again rest stands in
      let next : Acted text again closed.left walk' found.0 = acted text again closed.left walk' given found.0 found.1 (gives again closed.left closed.stands) in
      let done = does.comes (before.tells tells) in
      record {
        left = next.left;
        stands = next.stands;
        reads = reads-then unit (units_of rows) (units_of rows') (units_of rows'') closed.reads done.reads;
        edits = closed.edits
            ∙ from-act (input_at unit taken (units_of rows')) found.0 closed.left next.left next.is
            ∙ ap (λ (state : Input). edited input state.halted (closing next.left) [] state) done.is;
      };
}

pub closing-smaller :
    (text : List ℕ) (first walk walk' : FormatWalk) (unit : ℤ) (old taken : RecordInput) (rows rows' : List Row) (given : Edit) →
    ((again rest : List formats.Edit) → Stands text again walk rest → Given false text again rest walk' given) →
    (found : (control : Control) × (edit_in text given ≡ Some (Act control))) → Closing text first walk unit old taken rows rows' → edits_behind text walk' < edits_behind text walk
closing-smaller text first walk walk' unit old taken rows rows' given gives found before =
    let inside : StandsIn walk text = before.inside in
    let next : Acted text inside.again inside.rest walk' found.0 = acted text inside.again inside.rest walk' given found.0 found.1 (gives inside.again inside.rest inside.stands) in
    let here : edits_behind text walk ≡ length (closing inside.rest) = behind-is text inside.again walk inside.rest inside.stands in
    let there : edits_behind text walk' ≡ length (closing next.left) = behind-is text inside.again walk' next.left next.stands in
    let more : length (closing inside.rest) ≡ suc (length (closing next.left)) = ap length next.is in
    omega arith

pub closing-stops :
    (text : List ℕ) (first walk walk' : FormatWalk) (unit : ℤ) (old taken taken' : RecordInput) (rows rows' rows'' : List Row) (given : Edit) (why : Stop) →
    ((again rest : List formats.Edit) → Stands text again walk rest → Given false text again rest walk' given) →
    (found : (control : Control) × (edit_in text given ≡ Some (Act control))) → Does (with_control found.0) unit taken taken' rows' rows'' (Err why) →
    Closing text first walk unit old taken rows rows' → Closes text first unit old taken' rows rows'' (Err why)
closing-stops text first walk walk' unit old taken taken' rows rows' rows'' given why gives found does before = record {
  tells = λ tells. does.tells (before.tells tells);
  comes = λ tells again rest stands.
      let closed : Closed text again rest walk unit (units_of rows) (units_of rows') old taken = before.comes tells again rest stands in
      let next : Acted text again closed.left walk' found.0 = acted text again closed.left walk' given found.0 found.1 (gives again closed.left closed.stands) in
      let out : Input = with_control found.0 (input_at unit taken (units_of rows')) in
      subst (λ (one : Input). Stops one unit (units_of rows) (units_of rows'') why)
      (sym (closed.edits ∙ from-act (input_at unit taken (units_of rows')) found.0 closed.left next.left next.is))
      (stops-edited why unit (units_of rows) (units_of rows'') (closing next.left) [] out
      (stops-then why out unit (units_of rows) (units_of rows') (units_of rows'') closed.reads (does.comes (before.tells tells))));
  devices = devices-then (Unit {0}) (Unit {0}) unit rows rows' rows'' why before.stays does.devices;
}

pub closing-ends :
    (text : List ℕ) (first walk walk' : FormatWalk) (unit : ℤ) (old taken : RecordInput) (rows rows' : List Row) (given : Edit) (found : Turn) → (found ≡ turn.Acts → ⊥) →
    ((again rest : List formats.Edit) → Stands text again walk rest → Given false text again rest walk' given) → ((text : List ℕ) → TurnOf (edit_in text given) found) →
    Closing text first walk unit old taken rows rows' → Closes text first unit old taken rows rows' (Ok tt)
closing-ends text first walk walk' unit old taken rows rows' given found not gives is before = record {
  tells = before.tells;
  comes = λ tells again rest stands.
      let closed : Closed text again rest walk unit (units_of rows) (units_of rows') old taken = before.comes tells again rest stands in
      let none : closing closed.left ≡ [] = ends-by text again closed.left walk' given found not (is text) (gives again closed.left closed.stands) in
      record { reads = closed.reads; is = closed.edits ∙ ap (λ (edits : List formats.Edit). edited input None edits [] (input_at unit taken (units_of rows'))) none };
  devices = before.stays;
}

pub closes-at : (text : List ℕ) (first : FormatWalk) (own unit : ℤ) (old new : RecordInput) (rows rows' : List Row) (result : Result (Unit {0}) Stop) → own ≡ unit →
    Closes text first own old new rows rows' result → Closes text first unit old new rows rows' result
closes-at text first own unit old new rows rows' result same closes = subst (λ (number : ℤ). Closes text first number old new rows rows' result) same closes
