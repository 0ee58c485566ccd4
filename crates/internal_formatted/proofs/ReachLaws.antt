-- The edits before the next item, one by one.
use Rattle.std.proofs.Common.{◌≡◌, ℕ, zero, suc, ◌<◌, true, List, [], ◌++◌, length, Option, Some, None, refl, sym, ap, ◌∙◌, subst, append-nil, append_assoc, arith}
use Rattle.std.specs.Prelude.{pos, Result, Ok, Err}
use Rattle.c_tree.specs.TransferOutput.{descriptor_in}
use Rattle.edit_rules.specs.edit_meaning.Formats as formats
use Rattle.edit_rules.specs.edit_meaning.Formats.{Item, Act, Control, Served, led_by}
use Rattle.edit_rules.specs.edit_meaning.Halts.{Halt, Number}
use Rattle.edit_rules.specs.edit_meaning.Listed.{ListedValue}
use Rattle.edit_rules.specs.edit_meaning.EditedRecords.{Sheet, Output, output, with_control}
use Rattle.edit_rules.specs.edit_meaning.Transfers.{edited, unserved_by, for_next}
use Rattle.edit_rules.specs.PartPlaces.{edit_in}
use Rattle.edit_rules.specs.Walks.{Stands, StandsIn, Given}
use Rattle.edit_rules.specs.declared.edits.Edit.{Edit}
use Rattle.edit_rules.specs.declared.format_walk.FormatWalk.{FormatWalk}
use Rattle.internal_formatted.specs.Storing.{Held, Stores}
use Rattle.internal_formatted.proofs.StoreLaws.{stores-nothing, stores-behind}
use Rattle.formatted_records.specs.declared.sheet.RecordSheet.{RecordSheet}
use Rattle.formatted_records.specs.declared.fields.Field.{Field}
use Rattle.formatted_records.specs.Sheets.{StandsOn, shown, descriptor_of}
use Rattle.internal_formatted.specs.declared.acts.Stop.{Stop}
use Rattle.internal_formatted.specs.declared.acts.Stop.TheVariants as stop
use Rattle.internal_formatted.specs.Acting.{storing, StopsBy, Does}
use Rattle.internal_formatted.specs.Reaching.{over_next, with_next, Reaches}
use Rattle.formatted_output.proofs.PlaceLaws.{edits_ahead, ahead-is}
use Rattle.formatted_output.proofs.ReachLaws.{given-as, Acted, acted}
use Rattle.internal_formatted.proofs.CloseLaws.{stops-edited}

-- how far the edits before the next item are done
pub record Gone (page : Sheet) (text : List ℕ) (again rest : List formats.Edit) (walk : FormatWalk) (complete lines : List (List ℕ)) (old sheet : RecordSheet) : Type 0 where
  pub left : List formats.Edit
  pub stands : Stands text again walk left
  pub on : StandsOn page (complete ++ lines) sheet
  pub unserved : (for_next again rest).unserved ≡ (for_next again left).unserved
  pub behind : (for_next again rest).left ≡ (for_next again left).left
  pub descriptor : descriptor_in (for_next again rest).edits ≡ descriptor_in (for_next again left).edits
  pub edits : (things : List ListedValue) → over_next page again rest things (shown old complete) ≡ over_next page again left things (shown sheet (complete ++ lines))

pub record Going (text : List ℕ) (first walk : FormatWalk) (old sheet : RecordSheet) (x y : Held) : Type 0 where
  pub lines : List (List ℕ)
  pub stores : Stores lines x y (Ok tt)
  pub inside : StandsIn walk text
  pub comes : (again rest : List formats.Edit) → Stands text again first rest → (page : Sheet) → (complete : List (List ℕ)) → StandsOn page complete old →
      Gone page text again rest walk complete lines old sheet

pub going-starts : (text : List ℕ) (walk : FormatWalk) (old : RecordSheet) (x : Held) → StandsIn walk text → Going text walk walk old old x x
going-starts text walk old x inside = record {
  lines = [];
  stores = stores-nothing x;
  inside = inside;
  comes = λ again rest stands page complete on. record {
    left = rest;
    stands = stands;
    on = subst (λ (all : List (List ℕ)). StandsOn page all old) (sym (append-nil complete)) on;
    unserved = refl;
    behind = refl;
    descriptor = refl;
    edits = λ things. ap (λ (all : List (List ℕ)). over_next page again rest things (shown old all)) (sym (append-nil complete));
  };
}

-- the edits from an act on
from-act : (page : Sheet) (out : Output) (control : Control) (again rest left : List formats.Edit) (things : List ListedValue) → out.halted ≡ None → for_next again rest ≡ led_by (Act control) (for_next again left) →
    over_next page again rest things out
    ≡ edited (output page) (with_control page control out).halted (for_next again left).edits things (with_control page control out)
from-act page out control again rest left things runs is = ap (λ (next : Served). edited (output page) None next.edits things out) is

pub going-goes_on :
    (text : List ℕ) (first walk walk' : FormatWalk) (old sheet sheet' : RecordSheet) (x y z : Held) (given : Edit) →
    StandsIn walk' text → ((again rest : List formats.Edit) → Stands text again walk rest → Given true text again rest walk' given) →
    (found : (control : Control) × (edit_in text given ≡ Some (Act control))) → Does (λ p. with_control p found.0) sheet sheet' y z (Ok tt) →
    Going text first walk old sheet x y → Going text first walk' old sheet' x z
going-goes_on text first walk walk' old sheet sheet' x y z given inside gives found does before = record {
  lines = before.lines ++ does.lines;
  stores = stores-behind before.lines does.lines x y z (Ok tt) before.stores does.stores;
  inside = inside;
  comes = λ again rest stands page complete on.
      let gone : Gone page text again rest walk complete before.lines old sheet = before.comes again rest stands page complete on in
      let next : Acted text again gone.left walk' found.0 = acted text again gone.left walk' given found.0 found.1 (gives again gone.left gone.stands) in
      let done : StandsOn page ((complete ++ before.lines) ++ does.lines) sheet' × (with_control page found.0 (shown sheet (complete ++ before.lines)) ≡ shown sheet' ((complete ++ before.lines) ++ does.lines)) =
      does.comes page (complete ++ before.lines) gone.on in
      let all : (complete ++ before.lines) ++ does.lines ≡ complete ++ (before.lines ++ does.lines) = append_assoc complete before.lines does.lines in
      record {
        left = next.left;
        stands = next.stands;
        on = subst (λ (lines : List (List ℕ)). StandsOn page lines sheet') all done.0;
        unserved = gone.unserved ∙ ap (λ (one : Served). one.unserved) next.is;
        behind = gone.behind ∙ ap (λ (one : Served). one.left) next.is;
        descriptor = gone.descriptor ∙ ap (λ (one : Served). descriptor_in one.edits) next.is;
        edits = λ things. gone.edits things
            ∙ from-act page (shown sheet (complete ++ before.lines)) found.0 again gone.left next.left things refl next.is
            ∙ ap (λ (out : Output). edited (output page) out.halted (for_next again next.left).edits things out) (done.1 ∙ ap (shown sheet') all);
      };
}

pub going-smaller :
    (text : List ℕ) (first walk walk' : FormatWalk) (old sheet : RecordSheet) (x y : Held) (given : Edit) →
    ((again rest : List formats.Edit) → Stands text again walk rest → Given true text again rest walk' given) →
    (found : (control : Control) × (edit_in text given ≡ Some (Act control))) → Going text first walk old sheet x y → edits_ahead text walk' < edits_ahead text walk
going-smaller text first walk walk' old sheet x y given gives found before =
    let inside : StandsIn walk text = before.inside in
    let next : Acted text inside.again inside.rest walk' found.0 = acted text inside.again inside.rest walk' given found.0 found.1 (gives inside.again inside.rest inside.stands) in
    let here : edits_ahead text walk ≡ length (for_next inside.again inside.rest).edits = ahead-is text inside.again walk inside.rest inside.stands in
    let there : edits_ahead text walk' ≡ length (for_next inside.again next.left).edits = ahead-is text inside.again walk' next.left next.stands in
    let more : length (for_next inside.again inside.rest).edits ≡ suc (length (for_next inside.again next.left).edits) = ap (λ (one : Served). length one.edits) next.is in
    omega arith

-- an output that is stopped stays so where an item gets no descriptor
unserved-stops : (page : Sheet) (why : Stop) (complete : List (List ℕ)) (unserved : ℕ) (halted : Option Halt) (out : Output) → out.halted ≡ halted → StopsBy out complete why →
    StopsBy (unserved_by (output page) unserved halted out) complete why
unserved-stops page why complete zero halted out is stops = stops
unserved-stops page why complete (suc more) (Some halt) out is stops = stops
unserved-stops page (stop.Number number) complete (suc more) None out is stops = let clash : (let h : Option Halt = None in h) ≡ Some stops.1.0 = sym is ∙ stops.1.1 in absurd (cc)
unserved-stops page (stop.Refused refusal) complete (suc more) None out is stops = stops
unserved-stops page (stop.Fault fault) complete (suc more) None out is stops = stops

pub going-stops :
    (text : List ℕ) (first walk walk' : FormatWalk) (old sheet sheet' : RecordSheet) (x y z : Held) (given : Edit) (why : Stop) →
    StandsIn walk' text → ((again rest : List formats.Edit) → Stands text again walk rest → Given true text again rest walk' given) →
    (found : (control : Control) × (edit_in text given ≡ Some (Act control))) → Does (λ p. with_control p found.0) sheet sheet' y z (Err why) →
    Going text first walk old sheet x y → Reaches text first walk' old sheet' x z (Err why)
going-stops text first walk walk' old sheet sheet' x y z given why inside gives found does before = record {
  lines = before.lines ++ does.lines;
  stores = stores-behind before.lines does.lines x y z (let r : Result (Unit {0}) Stop = Err why in storing r) before.stores does.stores;
  inside = inside;
  comes = λ again rest stands page complete on.
      let gone : Gone page text again rest walk complete before.lines old sheet = before.comes again rest stands page complete on in
      let next : Acted text again gone.left walk' found.0 = acted text again gone.left walk' given found.0 found.1 (gives again gone.left gone.stands) in
      let out : Output = with_control page found.0 (shown sheet (complete ++ before.lines)) in
      let stops : StopsBy out ((complete ++ before.lines) ++ does.lines) why = does.comes page (complete ++ before.lines) gone.on in
      let over : StopsBy (over_next page again rest [] (shown old complete)) (complete ++ (before.lines ++ does.lines)) why =
      subst (λ (one : Output). StopsBy one (complete ++ (before.lines ++ does.lines)) why)
      (sym (gone.edits [] ∙ from-act page (shown sheet (complete ++ before.lines)) found.0 again gone.left next.left [] refl next.is))
      (stops-edited page why (complete ++ (before.lines ++ does.lines)) (for_next again next.left).edits [] out
      (subst (λ (lines : List (List ℕ)). StopsBy out lines why) (append_assoc complete before.lines does.lines) stops)) in
      unserved-stops page why (complete ++ (before.lines ++ does.lines)) (for_next again rest).unserved (over_next page again rest [] (shown old complete)).halted (over_next page again rest [] (shown old complete)) refl over;
}

pub going-takes :
    (text : List ℕ) (first walk walk' : FormatWalk) (old sheet : RecordSheet) (x y : Held) (given : Edit) (field : Field) →
    StandsIn walk' text → ((again rest : List formats.Edit) → Stands text again walk rest → Given true text again rest walk' given) →
    edit_in text given ≡ Some (Item (descriptor_of field)) → Going text first walk old sheet x y → Reaches text first walk' old sheet x y (Ok field)
going-takes text first walk walk' old sheet x y given field inside gives is before = record {
  lines = before.lines;
  stores = before.stores;
  inside = inside;
  comes = λ again rest stands page complete on.
      let gone : Gone page text again rest walk complete before.lines old sheet = before.comes again rest stands page complete on in
      let known = given-as text again gone.left walk' given (Some (Item (descriptor_of field))) is (gives again gone.left gone.stands) in
      record {
        left = known.0;
        stands = known.1;
        on = gone.on;
        served = gone.unserved ∙ ap (λ (one : Served). one.unserved) known.2;
        behind = gone.behind ∙ ap (λ (one : Served). one.left) known.2;
        descriptor = gone.descriptor ∙ ap (λ (one : Served). descriptor_in one.edits) known.2;
        edits = λ things. gone.edits things ∙ ap (λ (one : Served). edited (output page) None one.edits things (shown sheet (complete ++ before.lines))) known.2;
      };
}

-- the next item gets no descriptor
none-left : (page : Sheet) (again rest : List formats.Edit) (out start : Output) (complete : List (List ℕ)) → out.halted ≡ None → out.complete ≡ complete →
    (for_next again rest).unserved ≡ 1 → over_next page again rest [] start ≡ out → StopsBy (with_next page again rest [] start) complete (stop.Number (pos 4))
none-left page again rest out start complete runs lines one over =
    let whole : with_next page again rest [] start ≡ record out { halted = Some (Number 4) } =
    ap (λ (o : Output). unserved_by (output page) (for_next again rest).unserved o.halted o) over
    ∙ ap (λ (n : ℕ). unserved_by (output page) n out.halted out) one
    ∙ ap (λ (halted : Option Halt). unserved_by (output page) 1 halted out) runs in
    (ap (λ (o : Output). o.complete) whole ∙ lines, (Number 4, ap (λ (o : Output). o.halted) whole, refl))

pub going-ends :
    (text : List ℕ) (first walk walk' : FormatWalk) (old sheet : RecordSheet) (x y : Held) (given : Edit) →
    StandsIn walk' text → ((again rest : List formats.Edit) → Stands text again walk rest → Given true text again rest walk' given) →
    edit_in text given ≡ None → Going text first walk old sheet x y → Reaches text first walk' old sheet x y (Err (stop.Number (pos 4)))
going-ends text first walk walk' old sheet x y given inside gives is before = record {
  lines = before.lines;
  stores = before.stores;
  inside = inside;
  comes = λ again rest stands page complete on.
      let gone : Gone page text again rest walk complete before.lines old sheet = before.comes again rest stands page complete on in
      let known = given-as text again gone.left walk' given None is (gives again gone.left gone.stands) in
      none-left page again rest (shown sheet (complete ++ before.lines)) (shown old complete) (complete ++ before.lines) refl refl (gone.unserved ∙ known.3)
      (gone.edits [] ∙ ap (λ (edits : List formats.Edit). edited (output page) None edits [] (shown sheet (complete ++ before.lines))) known.2);
}
