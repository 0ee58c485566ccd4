-- The edits behind the last item, one by one, and the last record.
use Rattle.std.proofs.Common.{◌≡◌, ℕ, ℤ, suc, ◌+◌, ◌-◌, ◌<◌, false, List, [], ◌∷◌, ◌++◌, length, Option, Some, None, refl, sym, ap, ◌∙◌, subst, append-nil, append_assoc, arith, nat_le}
use Rattle.std.specs.Prelude.{Bool, true, Result, Ok, Err, if◌then◌else◌}
use Rattle.run_state.specs.declared.refusals.UnitRefusal.{UnitRefusal}
use Rattle.edit_rules.specs.edit_meaning.Formats as formats
use Rattle.edit_rules.specs.edit_meaning.Formats.{Descriptor, Item, Act, Stop as Colon, Control, Literal, ToColumn, LeftBy, RightBy, NextRecord, PlusSigns, ZeroBlanks, closing}
use Rattle.edit_rules.specs.edit_meaning.Halts.{Halt, Number}
use Rattle.edit_rules.specs.edit_meaning.Listed.{ListedValue}
use Rattle.edit_rules.specs.edit_meaning.EditedRecords.{Output, unit_sheet, output, written_at, with_text, moved_to, with_control, field_of, with_field, output_closed, ended}
use Rattle.edit_rules.specs.edit_meaning.Transfers.{edited}
use Rattle.edit_rules.specs.PartPlaces.{edit_in}
use Rattle.edit_rules.specs.Walks.{Stands, StandsIn, Given, GivenNone}
use Rattle.edit_rules.specs.declared.edits.Edit.{Edit}
use Rattle.edit_rules.specs.declared.format_walk.FormatWalk.{FormatWalk}
use Rattle.f2c_outside.specs.Table.{Row}
use Rattle.listed_output.specs.Writing.{Writes}
use Rattle.listed_output.proofs.WriteLaws.{writes-nothing, writes-behind}
use Rattle.formatted_records.specs.declared.sheet.RecordSheet.{RecordSheet}
use Rattle.formatted_records.specs.Sheets.{StandsOn, making_in, shown}
use Rattle.formatted_output.specs.declared.acts.Stop.{Stop}
use Rattle.formatted_output.specs.declared.acts.Stop.TheVariants as stop
use Rattle.formatted_output.specs.declared.acts.Turn.{Turn}
use Rattle.formatted_output.specs.declared.acts.Turn.TheVariants as turn
use Rattle.formatted_output.specs.Acting.{TurnOf, writing, StopsBy, Does}
use Rattle.formatted_output.specs.Closing.{Closes, Finishes}
use Rattle.formatted_output.proofs.PlaceLaws.{edits_behind, behind-is}

-- ## Complete records stay

abbrev pub Grows : List (List ℕ) → List (List ℕ) → Type 0
Grows before after = (later : List (List ℕ)) × (after ≡ before ++ later)

pub grows-not : (before : List (List ℕ)) → Grows before before
grows-not before = ([], sym (append-nil before))

pub grows-then : (a b c : List (List ℕ)) → Grows a b → Grows b c → Grows a c
grows-then a b c one two = (one.0 ++ two.0, two.1 ∙ ap (λ (l : List (List ℕ)). l ++ two.0) one.1 ∙ append_assoc a one.0 two.0)

text-grows : (text : List ℕ) (out : Output) → Grows out.complete (with_text unit_sheet text out).complete
text-grows text out = by (nat_le (out.before + length text) 1024)
  where
    by : (fits : Bool) → Grows out.complete (if fits then record out { making = written_at out.before text out.making; before = out.before + length text } else record out { halted = Some (Number 5) }).complete
    by true = grows-not out.complete
    by false = grows-not out.complete

pub moved-grows : (columns : ℕ) (out : Output) → Grows out.complete (moved_to columns out).complete
moved-grows columns out = by (nat_le columns 1024)
  where
    by : (fits : Bool) → Grows out.complete (if fits then record out { before = columns } else record out { halted = Some (Number 5) }).complete
    by true = grows-not out.complete
    by false = grows-not out.complete

control-grows : (control : Control) (out : Output) → Grows out.complete (with_control unit_sheet control out).complete
control-grows (Literal text) out = text-grows text out
control-grows (ToColumn column) out = moved-grows (column - 1) out
control-grows (LeftBy columns) out = moved-grows (out.before - columns) out
control-grows (RightBy columns) out = moved-grows (out.before + columns) out
control-grows NextRecord out = (out.making ∷ [], refl)
control-grows (PlusSigns plus) out = grows-not out.complete
control-grows (ZeroBlanks zeros) out = grows-not out.complete

field-grows : (field : Option (List ℕ)) (out : Output) → Grows out.complete (with_field unit_sheet field out).complete
field-grows None out = grows-not out.complete
field-grows (Some field) out = text-grows field out

pub edited-grows : (halted : Option Halt) (edits : List formats.Edit) (things : List ListedValue) (out : Output) → Grows out.complete (edited (output unit_sheet) halted edits things out).complete
edited-grows (Some halt) edits things out = grows-not out.complete
edited-grows None [] things out = grows-not out.complete
edited-grows None (Item descriptor ∷ edits) [] out = grows-not out.complete
edited-grows None (Item descriptor ∷ edits) (thing ∷ things) out =
    let next : Output = with_field unit_sheet (field_of descriptor thing out.plus) out in
    grows-then out.complete next.complete (edited (output unit_sheet) next.halted edits things next).complete (field-grows (field_of descriptor thing out.plus) out)
    (edited-grows next.halted edits things next)
edited-grows None (Act control ∷ edits) things out =
    let next : Output = with_control unit_sheet control out in
    grows-then out.complete next.complete (edited (output unit_sheet) next.halted edits things next).complete (control-grows control out) (edited-grows next.halted edits things next)
edited-grows None (Colon ∷ edits) things out = edited-grows None edits things out

-- an output that stopped in front of edits is stopped behind them
pub stops-edited : (why : Stop) (complete : List (List ℕ)) (edits : List formats.Edit) (things : List ListedValue) (out : Output) → StopsBy out complete why →
    StopsBy (edited (output unit_sheet) out.halted edits things out) complete why
stops-edited (stop.Number number) complete edits things out stops =
    let same : edited (output unit_sheet) out.halted edits things out ≡ out = ap (λ (halted : Option Halt). edited (output unit_sheet) halted edits things out) stops.1.1 in
    subst (λ (one : Output). StopsBy one complete (stop.Number number)) (sym same) stops
stops-edited (stop.Refused refusal) complete edits things out stops = grows-then complete out.complete _ stops (edited-grows out.halted edits things out)
stops-edited (stop.Fault fault) complete edits things out stops = stops

-- ## One edit behind the last item

pub record Closed (text : List ℕ) (again rest : List formats.Edit) (walk : FormatWalk) (complete lines : List (List ℕ)) (old sheet : RecordSheet) : Type 0 where
  pub left : List formats.Edit
  pub stands : Stands text again walk left
  pub on : StandsOn unit_sheet (complete ++ lines) sheet
  pub edits : edited (output unit_sheet) None (closing rest) [] (shown old complete) ≡ edited (output unit_sheet) None (closing left) [] (shown sheet (complete ++ lines))

pub record Closing (text : List ℕ) (first walk : FormatWalk) (unit : ℤ) (old sheet : RecordSheet) (rows rows' : List Row) : Type 0 where
  pub lines : List (List ℕ)
  pub writes : Writes unit lines rows rows' (Ok tt)
  pub inside : StandsIn walk text
  pub comes : (again rest : List formats.Edit) → Stands text again first rest → (complete : List (List ℕ)) → StandsOn unit_sheet complete old →
      Closed text again rest walk complete lines old sheet

pub closing-starts : (text : List ℕ) (walk : FormatWalk) (unit : ℤ) (old : RecordSheet) (rows : List Row) → StandsIn walk text → Closing text walk walk unit old old rows rows
closing-starts text walk unit old rows inside = record {
  lines = [];
  writes = writes-nothing unit rows;
  inside = inside;
  comes = λ again rest stands complete on. record {
    left = rest;
    stands = stands;
    on = subst (λ (all : List (List ℕ)). StandsOn unit_sheet all old) (sym (append-nil complete)) on;
    edits = ap (λ (all : List (List ℕ)). edited (output unit_sheet) None (closing rest) [] (shown old all)) (sym (append-nil complete));
  };
}

-- what an edit of a walk is for, where it is known
pub given-as : (text : List ℕ) (again rest : List formats.Edit) (walk : FormatWalk) (given : Edit) (shown' : Option formats.Edit) → edit_in text given ≡ shown' → Given false text again rest walk given →
    GivenNone text again rest walk given shown'
given-as text again rest walk given shown' is gives = subst (λ (one : Option formats.Edit). GivenNone text again rest walk given one) is gives

-- an act behind the last item
pub record Acted (text : List ℕ) (again rest : List formats.Edit) (walk : FormatWalk) (control : Control) : Type 0 where
  pub left : List formats.Edit
  pub stands : Stands text again walk left
  pub is : closing rest ≡ Act control ∷ closing left

pub acted : (text : List ℕ) (again rest : List formats.Edit) (walk : FormatWalk) (given : Edit) (control : Control) → edit_in text given ≡ Some (Act control) → Given false text again rest walk given →
    Acted text again rest walk control
acted text again rest walk given control is gives =
    let known = given-as text again rest walk given (Some (Act control)) is gives in record { left = known.0; stands = known.1; is = known.2 }

-- the edits from an act on
from-act : (out : Output) (control : Control) (rest left : List formats.Edit) → out.halted ≡ None → closing rest ≡ Act control ∷ closing left →
    edited (output unit_sheet) None (closing rest) [] out
    ≡ edited (output unit_sheet) (with_control unit_sheet control out).halted (closing left) [] (with_control unit_sheet control out)
from-act out control rest left runs is = ap (λ (edits : List formats.Edit). edited (output unit_sheet) None edits [] out) is

pub closing-goes_on :
    (text : List ℕ) (first walk walk' : FormatWalk) (own unit : ℤ) (old sheet sheet' : RecordSheet) (rows rows' rows'' : List Row) (given : Edit) →
    own ≡ unit → StandsIn walk' text → ((again rest : List formats.Edit) → Stands text again walk rest → Given false text again rest walk' given) →
    (found : (control : Control) × (edit_in text given ≡ Some (Act control))) → Does (with_control unit_sheet found.0) own sheet sheet' rows' rows'' (Ok tt) →
    Closing text first walk unit old sheet rows rows' → Closing text first walk' unit old sheet' rows rows''
closing-goes_on text first walk walk' own unit old sheet sheet' rows rows' rows'' given same inside gives found does before = record {
  lines = before.lines ++ does.lines;
  writes = writes-behind unit before.lines does.lines rows rows' rows'' (Ok tt) before.writes (subst (λ (number : ℤ). Writes number does.lines rows' rows'' (Ok tt)) same does.writes);
  inside = inside;
  comes = λ again rest stands complete on.
      let closed : Closed text again rest walk complete before.lines old sheet = before.comes again rest stands complete on in
      let next : Acted text again closed.left walk' found.0 = acted text again closed.left walk' given found.0 found.1 (gives again closed.left closed.stands) in
      let done : StandsOn unit_sheet ((complete ++ before.lines) ++ does.lines) sheet' × (with_control unit_sheet found.0 (shown sheet (complete ++ before.lines)) ≡ shown sheet' ((complete ++ before.lines) ++ does.lines)) =
      does.comes (complete ++ before.lines) closed.on in
      let all : (complete ++ before.lines) ++ does.lines ≡ complete ++ (before.lines ++ does.lines) = append_assoc complete before.lines does.lines in
      record {
        left = next.left;
        stands = next.stands;
        on = subst (λ (lines : List (List ℕ)). StandsOn unit_sheet lines sheet') all done.0;
        edits = closed.edits
            ∙ from-act (shown sheet (complete ++ before.lines)) found.0 closed.left next.left refl next.is
            ∙ ap (λ (out : Output). edited (output unit_sheet) out.halted (closing next.left) [] out) (done.1 ∙ ap (shown sheet') all);
      };
}

pub closing-smaller :
    (text : List ℕ) (first walk walk' : FormatWalk) (unit : ℤ) (old sheet : RecordSheet) (rows rows' : List Row) (given : Edit) →
    ((again rest : List formats.Edit) → Stands text again walk rest → Given false text again rest walk' given) →
    (found : (control : Control) × (edit_in text given ≡ Some (Act control))) → Closing text first walk unit old sheet rows rows' → edits_behind text walk' < edits_behind text walk
closing-smaller text first walk walk' unit old sheet rows rows' given gives found before =
    let inside : StandsIn walk text = before.inside in
    let next : Acted text inside.again inside.rest walk' found.0 = acted text inside.again inside.rest walk' given found.0 found.1 (gives inside.again inside.rest inside.stands) in
    let here : edits_behind text walk ≡ length (closing inside.rest) = behind-is text inside.again walk inside.rest inside.stands in
    let there : edits_behind text walk' ≡ length (closing next.left) = behind-is text inside.again walk' next.left next.stands in
    let more : length (closing inside.rest) ≡ suc (length (closing next.left)) = ap length next.is in
    omega arith

pub closing-stops :
    (text : List ℕ) (first walk walk' : FormatWalk) (own unit : ℤ) (old sheet sheet' : RecordSheet) (rows rows' rows'' : List Row) (given : Edit) (why : Stop) →
    own ≡ unit → ((again rest : List formats.Edit) → Stands text again walk rest → Given false text again rest walk' given) →
    (found : (control : Control) × (edit_in text given ≡ Some (Act control))) → Does (with_control unit_sheet found.0) own sheet sheet' rows' rows'' (Err why) →
    Closing text first walk unit old sheet rows rows' → Closes text first unit old sheet' rows rows'' (Err why)
closing-stops text first walk walk' own unit old sheet sheet' rows rows' rows'' given why same gives found does before = record {
  lines = before.lines ++ does.lines;
  writes = writes-behind unit before.lines does.lines rows rows' rows'' (let r : Result (Unit {0}) Stop = Err why in writing r) before.writes
      (subst (λ (number : ℤ). Writes number does.lines rows' rows'' (let r : Result (Unit {0}) Stop = Err why in writing r)) same does.writes);
  comes = λ again rest stands complete on.
      let closed : Closed text again rest walk complete before.lines old sheet = before.comes again rest stands complete on in
      let next : Acted text again closed.left walk' found.0 = acted text again closed.left walk' given found.0 found.1 (gives again closed.left closed.stands) in
      let out : Output = with_control unit_sheet found.0 (shown sheet (complete ++ before.lines)) in
      let stops : StopsBy out ((complete ++ before.lines) ++ does.lines) why = does.comes (complete ++ before.lines) closed.on in
      subst (λ (one : Output). StopsBy one (complete ++ (before.lines ++ does.lines)) why)
      (sym (closed.edits ∙ from-act (shown sheet (complete ++ before.lines)) found.0 closed.left next.left refl next.is))
      (stops-edited why (complete ++ (before.lines ++ does.lines)) (closing next.left) [] out
      (subst (λ (lines : List (List ℕ)). StopsBy out lines why) (append_assoc complete before.lines does.lines) stops));
}

pub ends-by : (text : List ℕ) (again rest : List formats.Edit) (walk : FormatWalk) (given : Edit) (found : Turn) → (found ≡ turn.Acts → ⊥) → TurnOf (edit_in text given) found →
    Given false text again rest walk given → closing rest ≡ []
ends-by text again rest walk given (turn.Takes field) not is gives = absurd (given-as text again rest walk given _ is gives)
ends-by text again rest walk given turn.Acts not is gives = absurd (not refl)
ends-by text again rest walk given turn.Ends not is gives = (given-as text again rest walk given _ is gives).2

pub closing-ends :
    (text : List ℕ) (first walk walk' : FormatWalk) (unit : ℤ) (old sheet : RecordSheet) (rows rows' : List Row) (given : Edit) (found : Turn) → (found ≡ turn.Acts → ⊥) →
    ((again rest : List formats.Edit) → Stands text again walk rest → Given false text again rest walk' given) → ((text : List ℕ) → TurnOf (edit_in text given) found) →
    Closing text first walk unit old sheet rows rows' → Closes text first unit old sheet rows rows' (Ok tt)
closing-ends text first walk walk' unit old sheet rows rows' given found not gives is before = record {
  lines = before.lines;
  writes = before.writes;
  comes = λ again rest stands complete on.
      let closed : Closed text again rest walk complete before.lines old sheet = before.comes again rest stands complete on in
      let none : closing closed.left ≡ [] = ends-by text again closed.left walk' given found not (is text) (gives again closed.left closed.stands) in
      (closed.on, closed.edits ∙ ap (λ (edits : List formats.Edit). edited (output unit_sheet) None edits [] (shown sheet (complete ++ before.lines))) none);
}

pub closes-at : (text : List ℕ) (first : FormatWalk) (own unit : ℤ) (old new : RecordSheet) (rows rows' : List Row) (result : Result (Unit {0}) Stop) → own ≡ unit →
    Closes text first own old new rows rows' result → Closes text first unit old new rows rows' result
closes-at text first own unit old new rows rows' result same closes = subst (λ (number : ℤ). Closes text first number old new rows rows' result) same closes

-- ## The last record

closed-out : (old new : RecordSheet) (complete lines : List (List ℕ)) (rest : List formats.Edit) →
    edited (output unit_sheet) None (closing rest) [] (shown old complete) ≡ shown new (complete ++ lines) →
    output_closed unit_sheet rest (shown old complete) ≡ record (shown new (complete ++ lines)) { complete = (complete ++ lines) ++ making_in new ∷ [] }
closed-out old new complete lines rest is = ap (λ (last : Output). ended last.halted last) is

pub finishes-well :
    (text : List ℕ) (walk : FormatWalk) (own unit : ℤ) (old new : RecordSheet) (last : List ℕ) (rows rows' rows'' : List Row) → own ≡ unit → last ≡ making_in new →
    Closes text walk own old new rows rows' (Ok tt) → Writes own (last ∷ []) rows' rows'' (Ok tt) → Finishes text walk unit old rows rows'' (Ok tt)
finishes-well text walk own unit old new last rows rows' rows'' same is closes writes =
    subst (λ (number : ℤ). Finishes text walk number old rows rows'' (Ok tt)) same
    (record {
      lines = closes.lines ++ making_in new ∷ [];
      writes = writes-behind own closes.lines (making_in new ∷ []) rows rows' rows'' (Ok tt) closes.writes (subst (λ (one : List ℕ). Writes own (one ∷ []) rows' rows'' (Ok tt)) is writes);
      comes = λ again rest stands complete on.
          let out = closed-out old new complete closes.lines rest (closes.comes again rest stands complete on).1 in
          (ap (λ (one : Output). one.complete) out ∙ append_assoc complete closes.lines (making_in new ∷ []), ap (λ (one : Output). one.halted) out);
    })

pub finishes-refused :
    (text : List ℕ) (walk : FormatWalk) (own unit : ℤ) (old new : RecordSheet) (last : List ℕ) (rows rows' rows'' : List Row) (refusal : UnitRefusal) → own ≡ unit → last ≡ making_in new →
    Closes text walk own old new rows rows' (Ok tt) → Writes own (last ∷ []) rows' rows'' (Err refusal) → Finishes text walk unit old rows rows'' (Err (stop.Refused refusal))
finishes-refused text walk own unit old new last rows rows' rows'' refusal same is closes writes =
    subst (λ (number : ℤ). Finishes text walk number old rows rows'' (Err (stop.Refused refusal))) same
    (record {
      lines = closes.lines ++ making_in new ∷ [];
      writes = writes-behind own closes.lines (making_in new ∷ []) rows rows' rows'' (Err refusal) closes.writes (subst (λ (one : List ℕ). Writes own (one ∷ []) rows' rows'' (Err refusal)) is writes);
      comes = λ again rest stands complete on.
          let out = closed-out old new complete closes.lines rest (closes.comes again rest stands complete on).1 in
          ([], ap (λ (one : Output). one.complete) out ∙ append_assoc complete closes.lines (making_in new ∷ []) ∙ sym (append-nil (complete ++ (closes.lines ++ making_in new ∷ []))));
    })

ended-stops : (why : Stop) (complete : List (List ℕ)) (out : Output) → StopsBy out complete why → StopsBy (ended out.halted out) complete why
ended-stops (stop.Number number) complete out stops =
    let same : ended out.halted out ≡ out = ap (λ (halted : Option Halt). ended halted out) stops.1.1 in subst (λ (one : Output). StopsBy one complete (stop.Number number)) (sym same) stops
ended-stops (stop.Refused refusal) complete out stops = by out.halted
  where
    by : (halted : Option Halt) → Grows complete (ended halted out).complete
    by (Some halt) = stops
    by None = grows-then complete out.complete (out.complete ++ out.making ∷ []) stops (out.making ∷ [], refl)
ended-stops (stop.Fault fault) complete out stops = stops

pub finishes-stopped :
    (text : List ℕ) (walk : FormatWalk) (own unit : ℤ) (old new : RecordSheet) (rows rows' : List Row) (why : Stop) → own ≡ unit →
    Closes text walk own old new rows rows' (Err why) → Finishes text walk unit old rows rows' (Err why)
finishes-stopped text walk own unit old new rows rows' why same closes =
    subst (λ (number : ℤ). Finishes text walk number old rows rows' (Err why)) same
    (record {
      lines = closes.lines;
      writes = closes.writes;
      comes = λ again rest stands complete on.
          ended-stops why (complete ++ closes.lines) (edited (output unit_sheet) None (closing rest) [] (shown old complete)) (closes.comes again rest stands complete on);
    })
