-- Edits that take no item.
use Rattle.std.proofs.Common.{◌≡◌, ℕ, ℤ, List, [], ◌∷◌, Option, Some, refl, sym, ap, ◌∙◌, subst, append-nil}
use Rattle.std.specs.Prelude.{Result, Ok, Err}
use Rattle.c_tree.specs.TransferOutput.{halt_number}
use Rattle.edit_rules.specs.edit_meaning.Formats as formats
use Rattle.edit_rules.specs.edit_meaning.Formats.{Act, Control, Literal, NextRecord}
use Rattle.edit_rules.specs.edit_meaning.EditedRecords.{Sheet, Output, unit_sheet, with_control}
use Rattle.edit_rules.specs.PartPlaces.{edit_in}
use Rattle.edit_rules.specs.declared.edits.Edit.{Edit}
use Rattle.edit_rules.specs.declared.edits.Edit.TheVariants as edit
use Rattle.f2c_outside.specs.Table.{Row}
use Rattle.listed_output.specs.Writing.{Writes}
use Rattle.listed_output.proofs.WriteLaws.{writes-nothing}
use Rattle.formatted_records.specs.declared.halt.Halt.{Halt}
use Rattle.formatted_records.specs.declared.sheet.RecordSheet.{RecordSheet}
use Rattle.formatted_records.specs.Sheets.{StandsOn, making_in, shown, halt_of, Acts, Arrives}
use Rattle.formatted_output.specs.declared.acts.Stop.{Stop}
use Rattle.formatted_output.specs.declared.acts.Stop.TheVariants as stop
use Rattle.formatted_output.specs.Acting.{InRecord, Does}

pub acts-by : (text : List ℕ) (given : Edit) → ((width : ℕ) (least : Option ℕ) → given ≡ edit.Int width least → ⊥) → ((width : ℕ) → given ≡ edit.Logical width → ⊥) →
    ((width : Option ℕ) → given ≡ edit.Text width → ⊥) → (given ≡ edit.Done → ⊥) → (given ≡ edit.NoDescriptor → ⊥) → (control : Control) × (edit_in text given ≡ Some (Act control))
acts-by text (edit.Int width least) a b c d e = absurd (a width least refl)
acts-by text (edit.Logical width) a b c d e = absurd (b width refl)
acts-by text (edit.Text width) a b c d e = absurd (c width refl)
acts-by text (edit.Literal from to doubled) a b c d e = (_, refl)
acts-by text (edit.Column column) a b c d e = (_, refl)
acts-by text (edit.Left columns) a b c d e = (_, refl)
acts-by text (edit.Right columns) a b c d e = (_, refl)
acts-by text edit.NextRecord a b c d e = (_, refl)
acts-by text (edit.ShowPlus plus) a b c d e = (_, refl)
acts-by text (edit.ZeroBlanks zeros) a b c d e = (_, refl)
acts-by text edit.Done a b c d e = absurd (d refl)
acts-by text edit.NoDescriptor a b c d e = absurd (e refl)

pub in-record : (given : Edit) → (given ≡ edit.NextRecord → ⊥) → InRecord given
in-record (edit.Int width least) a = tt
in-record (edit.Logical width) a = tt
in-record (edit.Text width) a = tt
in-record (edit.Literal from to doubled) a = tt
in-record (edit.Column column) a = tt
in-record (edit.Left columns) a = tt
in-record (edit.Right columns) a = tt
in-record edit.NextRecord a = a refl
in-record (edit.ShowPlus plus) a = tt
in-record (edit.ZeroBlanks zeros) a = tt
in-record edit.Done a = tt
in-record edit.NoDescriptor a = tt

pub same-control : (page : Sheet) (one other : Control) (old new : RecordSheet) (result : Result (Unit {0}) Halt) → (let e : Option formats.Edit = Some (Act one) in e) ≡ Some (Act other) →
    Acts page (with_control page one) old new result → Acts page (with_control page other) old new result
same-control page one other old new result is acts =
    let same : one ≡ other = cc in subst (λ (control : Control). Acts page (with_control page control) old new result) same acts

-- the next record
pub next-goes : (own unit : ℤ) (record' : List ℕ) (old new : RecordSheet) (rows rows' : List Row) → own ≡ unit → record' ≡ making_in old → Writes own (record' ∷ []) rows rows' (Ok tt) →
    ((sheet : Sheet) → Arrives sheet old new (Ok tt)) → Does (with_control unit_sheet NextRecord) unit old new rows rows' (Ok tt)
next-goes own unit record' old new rows rows' same is writes arrives = record {
  lines = making_in old ∷ [];
  writes = subst (λ (number : ℤ). Writes number (making_in old ∷ []) rows rows' (Ok tt)) same (subst (λ (one : List ℕ). Writes own (one ∷ []) rows rows' (Ok tt)) is writes);
  comes = λ complete on. arrives unit_sheet complete on;
}

pub next-halts : (own unit : ℤ) (record' : List ℕ) (old new : RecordSheet) (rows rows' : List Row) (why : Halt) (stopped : Stop) → own ≡ unit → record' ≡ making_in old →
    Writes own (record' ∷ []) rows rows' (Ok tt) → ((sheet : Sheet) → Arrives sheet old new (Err why)) → stopped ≡ stop.Number (halt_number (halt_of why)) →
    Does (with_control unit_sheet NextRecord) unit old new rows rows' (Err stopped)
next-halts own unit record' old new rows rows' why stopped same is writes arrives stops =
    subst (λ (one : Stop). Does (with_control unit_sheet NextRecord) unit old new rows rows' (Err one)) (sym stops)
    (record {
      lines = making_in old ∷ [];
      writes = subst (λ (number : ℤ). Writes number (making_in old ∷ []) rows rows' (Ok tt)) same (subst (λ (one : List ℕ). Writes own (one ∷ []) rows rows' (Ok tt)) is writes);
      comes = λ complete on. (ap (λ (out : Output). out.complete) (arrives unit_sheet complete on), (halt_of why, ap (λ (out : Output). out.halted) (arrives unit_sheet complete on), refl));
    })

-- an act in the record
pub record-goes : (act : Output → Output) (unit : ℤ) (old new : RecordSheet) (rows : List Row) → Acts unit_sheet act old new (Ok tt) → Does act unit old new rows rows (Ok tt)
record-goes act unit old new rows acts = record {
  lines = [];
  writes = writes-nothing unit rows;
  comes = λ complete on.
      subst (λ (all : List (List ℕ)). StandsOn unit_sheet all new × (act (shown old complete) ≡ shown new all)) (sym (append-nil complete)) (acts complete on);
}

pub record-halts : (act : Output → Output) (unit : ℤ) (old new : RecordSheet) (rows : List Row) (why : Halt) (stopped : Stop) → Acts unit_sheet act old new (Err why) →
    stopped ≡ stop.Number (halt_number (halt_of why)) → Does act unit old new rows rows (Err stopped)
record-halts act unit old new rows why stopped acts stops =
    subst (λ (one : Stop). Does act unit old new rows rows (Err one)) (sym stops)
    (record {
      lines = [];
      writes = writes-nothing unit rows;
      comes = λ complete on.
          (ap (λ (out : Output). out.complete) (acts complete on).1 ∙ sym (append-nil complete), (halt_of why, ap (λ (out : Output). out.halted) (acts complete on).1, refl));
    })
