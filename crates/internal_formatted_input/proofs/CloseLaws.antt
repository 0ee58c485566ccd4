-- The edits behind the last item, one by one.
use Rattle.std.proofs.Common.{◌≡◌, ℕ, suc, ◌<◌, false, List, [], ◌∷◌, length, Some, None, refl, sym, ap, ◌∙◌, subst, arith}
use Rattle.std.specs.Prelude.{Ok, Err}
use Rattle.c_tree.specs.Objects.{Object}
use Rattle.c_tree.specs.World.{InternalFile}
use Rattle.edit_rules.specs.edit_meaning.Formats as formats
use Rattle.edit_rules.specs.edit_meaning.Formats.{Act, Control, closing}
use Rattle.edit_rules.specs.edit_meaning.TakenRecords.{Input, input, with_control}
use Rattle.edit_rules.specs.edit_meaning.Transfers.{edited}
use Rattle.edit_rules.specs.PartPlaces.{edit_in}
use Rattle.edit_rules.specs.Walks.{Stands, StandsIn, Given}
use Rattle.edit_rules.specs.declared.edits.Edit.{Edit}
use Rattle.edit_rules.specs.declared.format_walk.FormatWalk.{FormatWalk}
use Rattle.formatted_output.specs.declared.acts.Turn.{Turn}
use Rattle.formatted_output.specs.declared.acts.Turn.TheVariants as turn
use Rattle.formatted_output.specs.Acting.{TurnOf}
use Rattle.formatted_output.proofs.PlaceLaws.{edits_behind, behind-is}
use Rattle.formatted_output.proofs.CloseLaws.{Acted, acted, ends-by}
use Rattle.taken_records.specs.declared.record.RecordInput.{RecordInput}
use Rattle.internal_formatted_input.specs.declared.acts.Stop.{Stop}
use Rattle.internal_formatted_input.specs.Acting.{input_at, ReadOn, Stops, Does}
use Rattle.internal_formatted_input.specs.Reaching.{Closes}
use Rattle.internal_formatted_input.proofs.ActLaws.{read-none, read-then, stops-from}
use Rattle.internal_formatted_input.proofs.ReachLaws.{stops-edited}

pub record Closed (objects : List Object) (text : List ℕ) (again rest : List formats.Edit) (walk : FormatWalk) (before after : InternalFile) (old read : RecordInput) : Type 0 where
  pub left : List formats.Edit
  pub stands : Stands text again walk left
  pub edits : edited input None (closing rest) [] (input_at objects before old) ≡ edited input None (closing left) [] (input_at objects after read)

pub record Closing (objects : List Object) (text : List ℕ) (first walk : FormatWalk) (before after : InternalFile) (old read : RecordInput) : Type 0 where
  pub inside : StandsIn walk text
  pub reads : ReadOn objects before after
  pub comes : (again rest : List formats.Edit) → Stands text again first rest → Closed objects text again rest walk before after old read

pub closing-starts : (objects : List Object) (text : List ℕ) (walk : FormatWalk) (file : InternalFile) (old : RecordInput) → StandsIn walk text → Closing objects text walk walk file file old old
closing-starts objects text walk file old inside = record {
  inside = inside;
  reads = read-none objects file;
  comes = λ again rest stands. record { left = rest; stands = stands; edits = refl };
}

-- the edits from an act on
from-act : (out : Input) (control : Control) (rest left : List formats.Edit) → closing rest ≡ Act control ∷ closing left →
    edited input None (closing rest) [] out ≡ edited input (with_control control out).halted (closing left) [] (with_control control out)
from-act out control rest left is = ap (λ (edits : List formats.Edit). edited input None edits [] out) is

pub closing-goes_on :
    (objects : List Object) (text : List ℕ) (first walk walk' : FormatWalk) (before now after : InternalFile) (old read read' : RecordInput) (given : Edit) →
    StandsIn walk' text → ((again rest : List formats.Edit) → Stands text again walk rest → Given false text again rest walk' given) →
    (found : (control : Control) × (edit_in text given ≡ Some (Act control))) → Does objects (with_control found.0) read read' now after (Ok tt) →
    Closing objects text first walk before now old read → Closing objects text first walk' before after old read'
closing-goes_on objects text first walk walk' before now after old read read' given inside gives found does so_far = record {
  inside = inside;
  reads = read-then objects before now after so_far.reads does.reads;
  comes = λ again rest stands.
      let closed : Closed objects text again rest walk before now old read = so_far.comes again rest stands in
      let next : Acted text again closed.left walk' found.0 = acted text again closed.left walk' given found.0 found.1 (gives again closed.left closed.stands) in
      record {
        left = next.left;
        stands = next.stands;
        edits = closed.edits
            ∙ from-act (input_at objects now read) found.0 closed.left next.left next.is
            ∙ ap (λ (out : Input). edited input out.halted (closing next.left) [] out) does.is;
      };
}

pub closing-smaller :
    (objects : List Object) (text : List ℕ) (first walk walk' : FormatWalk) (before now : InternalFile) (old read : RecordInput) (given : Edit) →
    ((again rest : List formats.Edit) → Stands text again walk rest → Given false text again rest walk' given) →
    (found : (control : Control) × (edit_in text given ≡ Some (Act control))) → Closing objects text first walk before now old read → edits_behind text walk' < edits_behind text walk
closing-smaller objects text first walk walk' before now old read given gives found so_far =
    let inside : StandsIn walk text = so_far.inside in
    let next : Acted text inside.again inside.rest walk' found.0 = acted text inside.again inside.rest walk' given found.0 found.1 (gives inside.again inside.rest inside.stands) in
    let here : edits_behind text walk ≡ length (closing inside.rest) = behind-is text inside.again walk inside.rest inside.stands in
    let there : edits_behind text walk' ≡ length (closing next.left) = behind-is text inside.again walk' next.left next.stands in
    let more : length (closing inside.rest) ≡ suc (length (closing next.left)) = ap length next.is in
    omega arith

pub closing-stops :
    (objects : List Object) (text : List ℕ) (first walk walk' : FormatWalk) (before now after : InternalFile) (old read read' : RecordInput) (given : Edit) (why : Stop) →
    ((again rest : List formats.Edit) → Stands text again walk rest → Given false text again rest walk' given) →
    (found : (control : Control) × (edit_in text given ≡ Some (Act control))) → Does objects (with_control found.0) read read' now after (Err why) →
    Closing objects text first walk before now old read → Closes objects text first old read' before after (Err why)
closing-stops objects text first walk walk' before now after old read read' given why gives found does so_far again rest stands =
    let closed : Closed objects text again rest walk before now old read = so_far.comes again rest stands in
    let next : Acted text again closed.left walk' found.0 = acted text again closed.left walk' given found.0 found.1 (gives again closed.left closed.stands) in
    let out : Input = with_control found.0 (input_at objects now read) in
    subst (λ (one : Input). Stops objects before one why)
    (sym (closed.edits ∙ from-act (input_at objects now read) found.0 closed.left next.left next.is))
    (stops-edited objects before why (closing next.left) [] out (stops-from objects before now out why so_far.reads does))

pub closing-ends :
    (objects : List Object) (text : List ℕ) (first walk walk' : FormatWalk) (before now : InternalFile) (old read : RecordInput) (given : Edit) (found : Turn) → (found ≡ turn.Acts → ⊥) →
    ((again rest : List formats.Edit) → Stands text again walk rest → Given false text again rest walk' given) → ((text : List ℕ) → TurnOf (edit_in text given) found) →
    Closing objects text first walk before now old read → Closes objects text first old read before now (Ok tt)
closing-ends objects text first walk walk' before now old read given found not gives is so_far again rest stands =
    let closed : Closed objects text again rest walk before now old read = so_far.comes again rest stands in
    let none : closing closed.left ≡ [] = ends-by text again closed.left walk' given found not (is text) (gives again closed.left closed.stands) in
    record { reads = so_far.reads; is = closed.edits ∙ ap (λ (edits : List formats.Edit). edited input None edits [] (input_at objects now read)) none }
