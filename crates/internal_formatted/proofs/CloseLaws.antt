-- The edits behind the last item, one by one, and the last record.
use Rattle.std.proofs.Common.{◌≡◌, ℕ, suc, ◌+◌, ◌-◌, ◌<◌, false, List, [], ◌∷◌, ◌++◌, length, Option, Some, None, refl, sym, ap, ◌∙◌, subst, append-nil, append_assoc, arith, nat_le}
use Rattle.std.specs.Prelude.{Bool, true, Result, Ok, Err, if◌then◌else◌}
use Rattle.internal_output.specs.declared.files.RecordRefusal.{RecordRefusal}
use Rattle.edit_rules.specs.edit_meaning.Formats as formats
use Rattle.edit_rules.specs.edit_meaning.Formats.{Descriptor, Item, Act, Stop as Colon, Control, Literal, ToColumn, LeftBy, RightBy, NextRecord, PlusSigns, ZeroBlanks, closing}
use Rattle.edit_rules.specs.edit_meaning.Halts.{Halt, Number}
use Rattle.edit_rules.specs.edit_meaning.Listed.{ListedValue}
use Rattle.edit_rules.specs.edit_meaning.EditedRecords.{Sheet, Output, output, written_at, with_text, with_control, field_of, with_field, output_closed, ended}
use Rattle.edit_rules.specs.edit_meaning.Transfers.{edited}
use Rattle.edit_rules.specs.PartPlaces.{edit_in}
use Rattle.edit_rules.specs.Walks.{Stands, StandsIn, Given}
use Rattle.edit_rules.specs.declared.edits.Edit.{Edit}
use Rattle.edit_rules.specs.declared.format_walk.FormatWalk.{FormatWalk}
use Rattle.internal_formatted.specs.Storing.{Held, Stores}
use Rattle.internal_formatted.proofs.StoreLaws.{stores-nothing, stores-behind}
use Rattle.formatted_records.specs.declared.sheet.RecordSheet.{RecordSheet}
use Rattle.formatted_records.specs.Sheets.{StandsOn, making_in, shown}
use Rattle.internal_formatted.specs.declared.acts.Stop.{Stop}
use Rattle.internal_formatted.specs.declared.acts.Stop.TheVariants as stop
use Rattle.formatted_output.specs.declared.acts.Turn.{Turn}
use Rattle.formatted_output.specs.declared.acts.Turn.TheVariants as turn
use Rattle.formatted_output.specs.Acting.{TurnOf}
use Rattle.internal_formatted.specs.Acting.{storing, StopsBy, Does}
use Rattle.internal_formatted.specs.Closing.{Closes, Finishes}
use Rattle.formatted_output.proofs.PlaceLaws.{edits_behind, behind-is}
use Rattle.formatted_output.proofs.CloseLaws.{Grows, grows-not, grows-then, moved-grows, Acted, acted, ends-by}
use Rattle.internal_formatted.proofs.ActLaws.{arrived-lines}

-- ## Complete records stay

text-grows : (page : Sheet) (text : List ℕ) (out : Output) → Grows out.complete (with_text page text out).complete
text-grows page text out = by (nat_le (out.before + length text) page.columns)
  where
    by : (fits : Bool) → Grows out.complete (if fits then record out { making = written_at out.before text out.making; before = out.before + length text } else record out { halted = Some (Number 5) }).complete
    by true = grows-not out.complete
    by false = grows-not out.complete

control-grows : (page : Sheet) (control : Control) (out : Output) → Grows out.complete (with_control page control out).complete
control-grows page (Literal text) out = text-grows page text out
control-grows page (ToColumn column) out = moved-grows (column - 1) out
control-grows page (LeftBy columns) out = moved-grows (out.before - columns) out
control-grows page (RightBy columns) out = moved-grows (out.before + columns) out
control-grows page NextRecord out = (out.making ∷ [], arrived-lines page (out.complete ++ out.making ∷ []) out)
control-grows page (PlusSigns plus) out = grows-not out.complete
control-grows page (ZeroBlanks zeros) out = grows-not out.complete

field-grows : (page : Sheet) (field : Option (List ℕ)) (out : Output) → Grows out.complete (with_field page field out).complete
field-grows page None out = grows-not out.complete
field-grows page (Some field) out = text-grows page field out

pub edited-grows : (page : Sheet) (halted : Option Halt) (edits : List formats.Edit) (things : List ListedValue) (out : Output) → Grows out.complete (edited (output page) halted edits things out).complete
edited-grows page (Some halt) edits things out = grows-not out.complete
edited-grows page None [] things out = grows-not out.complete
edited-grows page None (Item descriptor ∷ edits) [] out = grows-not out.complete
edited-grows page None (Item descriptor ∷ edits) (thing ∷ things) out =
    let next : Output = with_field page (field_of descriptor thing out.plus) out in
    grows-then out.complete next.complete (edited (output page) next.halted edits things next).complete (field-grows page (field_of descriptor thing out.plus) out)
    (edited-grows page next.halted edits things next)
edited-grows page None (Act control ∷ edits) things out =
    let next : Output = with_control page control out in
    grows-then out.complete next.complete (edited (output page) next.halted edits things next).complete (control-grows page control out) (edited-grows page next.halted edits things next)
edited-grows page None (Colon ∷ edits) things out = edited-grows page None edits things out

-- an output that stopped in front of edits is stopped behind them
pub stops-edited : (page : Sheet) (why : Stop) (complete : List (List ℕ)) (edits : List formats.Edit) (things : List ListedValue) (out : Output) → StopsBy out complete why →
    StopsBy (edited (output page) out.halted edits things out) complete why
stops-edited page (stop.Number number) complete edits things out stops =
    let same : edited (output page) out.halted edits things out ≡ out = ap (λ (halted : Option Halt). edited (output page) halted edits things out) stops.1.1 in
    subst (λ (one : Output). StopsBy one complete (stop.Number number)) (sym same) stops
stops-edited page (stop.Refused refusal) complete edits things out stops = grows-then complete out.complete _ stops (edited-grows page out.halted edits things out)
stops-edited page (stop.Fault fault) complete edits things out stops = stops

-- ## One edit behind the last item

pub record Closed (page : Sheet) (text : List ℕ) (again rest : List formats.Edit) (walk : FormatWalk) (complete lines : List (List ℕ)) (old sheet : RecordSheet) : Type 0 where
  pub left : List formats.Edit
  pub stands : Stands text again walk left
  pub on : StandsOn page (complete ++ lines) sheet
  pub edits : edited (output page) None (closing rest) [] (shown old complete) ≡ edited (output page) None (closing left) [] (shown sheet (complete ++ lines))

pub record Closing (text : List ℕ) (first walk : FormatWalk) (old sheet : RecordSheet) (x y : Held) : Type 0 where
  pub lines : List (List ℕ)
  pub stores : Stores lines x y (Ok tt)
  pub inside : StandsIn walk text
  pub comes : (again rest : List formats.Edit) → Stands text again first rest → (page : Sheet) → (complete : List (List ℕ)) → StandsOn page complete old →
      Closed page text again rest walk complete lines old sheet

pub closing-starts : (text : List ℕ) (walk : FormatWalk) (old : RecordSheet) (x : Held) → StandsIn walk text → Closing text walk walk old old x x
closing-starts text walk old x inside = record {
  lines = [];
  stores = stores-nothing x;
  inside = inside;
  comes = λ again rest stands page complete on. record {
    left = rest;
    stands = stands;
    on = subst (λ (all : List (List ℕ)). StandsOn page all old) (sym (append-nil complete)) on;
    edits = ap (λ (all : List (List ℕ)). edited (output page) None (closing rest) [] (shown old all)) (sym (append-nil complete));
  };
}

-- the edits from an act on
from-act : (page : Sheet) (out : Output) (control : Control) (rest left : List formats.Edit) → out.halted ≡ None → closing rest ≡ Act control ∷ closing left →
    edited (output page) None (closing rest) [] out
    ≡ edited (output page) (with_control page control out).halted (closing left) [] (with_control page control out)
from-act page out control rest left runs is = ap (λ (edits : List formats.Edit). edited (output page) None edits [] out) is

pub closing-goes_on :
    (text : List ℕ) (first walk walk' : FormatWalk) (old sheet sheet' : RecordSheet) (x y z : Held) (given : Edit) →
    StandsIn walk' text → ((again rest : List formats.Edit) → Stands text again walk rest → Given false text again rest walk' given) →
    (found : (control : Control) × (edit_in text given ≡ Some (Act control))) → Does (λ p. with_control p found.0) sheet sheet' y z (Ok tt) →
    Closing text first walk old sheet x y → Closing text first walk' old sheet' x z
closing-goes_on text first walk walk' old sheet sheet' x y z given inside gives found does before = record {
  lines = before.lines ++ does.lines;
  stores = stores-behind before.lines does.lines x y z (Ok tt) before.stores does.stores;
  inside = inside;
  comes = λ again rest stands page complete on.
      let closed : Closed page text again rest walk complete before.lines old sheet = before.comes again rest stands page complete on in
      let next : Acted text again closed.left walk' found.0 = acted text again closed.left walk' given found.0 found.1 (gives again closed.left closed.stands) in
      let done : StandsOn page ((complete ++ before.lines) ++ does.lines) sheet' × (with_control page found.0 (shown sheet (complete ++ before.lines)) ≡ shown sheet' ((complete ++ before.lines) ++ does.lines)) =
      does.comes page (complete ++ before.lines) closed.on in
      let all : (complete ++ before.lines) ++ does.lines ≡ complete ++ (before.lines ++ does.lines) = append_assoc complete before.lines does.lines in
      record {
        left = next.left;
        stands = next.stands;
        on = subst (λ (lines : List (List ℕ)). StandsOn page lines sheet') all done.0;
        edits = closed.edits
            ∙ from-act page (shown sheet (complete ++ before.lines)) found.0 closed.left next.left refl next.is
            ∙ ap (λ (out : Output). edited (output page) out.halted (closing next.left) [] out) (done.1 ∙ ap (shown sheet') all);
      };
}

pub closing-smaller :
    (text : List ℕ) (first walk walk' : FormatWalk) (old sheet : RecordSheet) (x y : Held) (given : Edit) →
    ((again rest : List formats.Edit) → Stands text again walk rest → Given false text again rest walk' given) →
    (found : (control : Control) × (edit_in text given ≡ Some (Act control))) → Closing text first walk old sheet x y → edits_behind text walk' < edits_behind text walk
closing-smaller text first walk walk' old sheet x y given gives found before =
    let inside : StandsIn walk text = before.inside in
    let next : Acted text inside.again inside.rest walk' found.0 = acted text inside.again inside.rest walk' given found.0 found.1 (gives inside.again inside.rest inside.stands) in
    let here : edits_behind text walk ≡ length (closing inside.rest) = behind-is text inside.again walk inside.rest inside.stands in
    let there : edits_behind text walk' ≡ length (closing next.left) = behind-is text inside.again walk' next.left next.stands in
    let more : length (closing inside.rest) ≡ suc (length (closing next.left)) = ap length next.is in
    omega arith

pub closing-stops :
    (text : List ℕ) (first walk walk' : FormatWalk) (old sheet sheet' : RecordSheet) (x y z : Held) (given : Edit) (why : Stop) →
    ((again rest : List formats.Edit) → Stands text again walk rest → Given false text again rest walk' given) →
    (found : (control : Control) × (edit_in text given ≡ Some (Act control))) → Does (λ p. with_control p found.0) sheet sheet' y z (Err why) →
    Closing text first walk old sheet x y → Closes text first old sheet' x z (Err why)
closing-stops text first walk walk' old sheet sheet' x y z given why gives found does before = record {
  lines = before.lines ++ does.lines;
  stores = stores-behind before.lines does.lines x y z (let r : Result (Unit {0}) Stop = Err why in storing r) before.stores does.stores;
  comes = λ again rest stands page complete on.
      let closed : Closed page text again rest walk complete before.lines old sheet = before.comes again rest stands page complete on in
      let next : Acted text again closed.left walk' found.0 = acted text again closed.left walk' given found.0 found.1 (gives again closed.left closed.stands) in
      let out : Output = with_control page found.0 (shown sheet (complete ++ before.lines)) in
      let stops : StopsBy out ((complete ++ before.lines) ++ does.lines) why = does.comes page (complete ++ before.lines) closed.on in
      subst (λ (one : Output). StopsBy one (complete ++ (before.lines ++ does.lines)) why)
      (sym (closed.edits ∙ from-act page (shown sheet (complete ++ before.lines)) found.0 closed.left next.left refl next.is))
      (stops-edited page why (complete ++ (before.lines ++ does.lines)) (closing next.left) [] out
      (subst (λ (lines : List (List ℕ)). StopsBy out lines why) (append_assoc complete before.lines does.lines) stops));
}

pub closing-ends :
    (text : List ℕ) (first walk walk' : FormatWalk) (old sheet : RecordSheet) (x y : Held) (given : Edit) (found : Turn) → (found ≡ turn.Acts → ⊥) →
    ((again rest : List formats.Edit) → Stands text again walk rest → Given false text again rest walk' given) → ((text : List ℕ) → TurnOf (edit_in text given) found) →
    Closing text first walk old sheet x y → Closes text first old sheet x y (Ok tt)
closing-ends text first walk walk' old sheet x y given found not gives is before = record {
  lines = before.lines;
  stores = before.stores;
  comes = λ again rest stands page complete on.
      let closed : Closed page text again rest walk complete before.lines old sheet = before.comes again rest stands page complete on in
      let none : closing closed.left ≡ [] = ends-by text again closed.left walk' given found not (is text) (gives again closed.left closed.stands) in
      (closed.on, closed.edits ∙ ap (λ (edits : List formats.Edit). edited (output page) None edits [] (shown sheet (complete ++ before.lines))) none);
}

-- ## The last record

closed-out : (page : Sheet) (old new : RecordSheet) (complete lines : List (List ℕ)) (rest : List formats.Edit) →
    edited (output page) None (closing rest) [] (shown old complete) ≡ shown new (complete ++ lines) →
    output_closed page rest (shown old complete) ≡ record (shown new (complete ++ lines)) { complete = (complete ++ lines) ++ making_in new ∷ [] }
closed-out page old new complete lines rest is = ap (λ (last : Output). ended last.halted last) is

pub finishes-well :
    (text : List ℕ) (walk : FormatWalk) (old new : RecordSheet) (last : List ℕ) (x y z : Held) → last ≡ making_in new →
    Closes text walk old new x y (Ok tt) → Stores (last ∷ []) y z (Ok tt) → Finishes text walk old x z (Ok tt)
finishes-well text walk old new last x y z is closes stores = record {
  lines = closes.lines ++ making_in new ∷ [];
  stores = stores-behind closes.lines (making_in new ∷ []) x y z (Ok tt) closes.stores (subst (λ (one : List ℕ). Stores (one ∷ []) y z (Ok tt)) is stores);
  comes = λ again rest stands page complete on.
      let out = closed-out page old new complete closes.lines rest (closes.comes again rest stands page complete on).1 in
      (ap (λ (one : Output). one.complete) out ∙ append_assoc complete closes.lines (making_in new ∷ []), ap (λ (one : Output). one.halted) out);
}

pub finishes-refused :
    (text : List ℕ) (walk : FormatWalk) (old new : RecordSheet) (last : List ℕ) (x y z : Held) (refusal : RecordRefusal) → last ≡ making_in new →
    Closes text walk old new x y (Ok tt) → Stores (last ∷ []) y z (Err refusal) → Finishes text walk old x z (Err (stop.Refused refusal))
finishes-refused text walk old new last x y z refusal is closes stores = record {
  lines = closes.lines ++ making_in new ∷ [];
  stores = stores-behind closes.lines (making_in new ∷ []) x y z (Err refusal) closes.stores (subst (λ (one : List ℕ). Stores (one ∷ []) y z (Err refusal)) is stores);
  comes = λ again rest stands page complete on.
      let out = closed-out page old new complete closes.lines rest (closes.comes again rest stands page complete on).1 in
      ([], ap (λ (one : Output). one.complete) out ∙ append_assoc complete closes.lines (making_in new ∷ []) ∙ sym (append-nil (complete ++ (closes.lines ++ making_in new ∷ []))));
}

ended-stops : (why : Stop) (complete : List (List ℕ)) (out : Output) → StopsBy out complete why → StopsBy (ended out.halted out) complete why
ended-stops (stop.Number number) complete out stops =
    let same : ended out.halted out ≡ out = ap (λ (halted : Option Halt). ended halted out) stops.1.1 in subst (λ (one : Output). StopsBy one complete (stop.Number number)) (sym same) stops
ended-stops (stop.Refused refusal) complete out stops = by out.halted
  where
    by : (halted : Option Halt) → Grows complete (ended halted out).complete
    by (Some halt) = stops
    by None = grows-then complete out.complete (out.complete ++ out.making ∷ []) stops (out.making ∷ [], refl)
ended-stops (stop.Fault fault) complete out stops = stops

pub finishes-stopped :
    (text : List ℕ) (walk : FormatWalk) (old new : RecordSheet) (x y : Held) (why : Stop) →
    Closes text walk old new x y (Err why) → Finishes text walk old x y (Err why)
finishes-stopped text walk old new x y why closes = record {
  lines = closes.lines;
  stores = closes.stores;
  comes = λ again rest stands page complete on.
      ended-stops why (complete ++ closes.lines) (edited (output page) None (closing rest) [] (shown old complete)) (closes.comes again rest stands page complete on);
}
