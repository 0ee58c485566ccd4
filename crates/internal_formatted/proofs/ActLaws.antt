-- Edits that take no item.
use Rattle.std.proofs.Common.{◌≡◌, ℕ, Bool, true, false, List, [], ◌∷◌, ◌++◌, length, Some, refl, sym, ap, ◌∙◌, subst, append-nil}
use Rattle.std.specs.Prelude.{Result, Ok, Err, if◌then◌else◌}
use Rattle.c_tree.specs.TransferOutput.{halt_number}
use Rattle.edit_rules.specs.edit_meaning.Formats.{NextRecord}
use Rattle.edit_rules.specs.edit_meaning.Halts.{EndOfRecords}
use Rattle.edit_rules.specs.edit_meaning.EditedRecords.{Sheet, Output, has_record, arrived, with_control}
use Rattle.internal_output.specs.declared.files.RecordRefusal.{RecordRefusal}
use Rattle.internal_output.proofs.FileLaws.{fills-nothing}
use Rattle.formatted_records.specs.declared.halt.Halt.{Halt}
use Rattle.formatted_records.specs.declared.sheet.RecordSheet.{RecordSheet}
use Rattle.formatted_records.specs.Sheets.{StandsOn, making_in, shown, halt_of, Acts, Arrives}
use Rattle.internal_formatted.specs.declared.acts.Stop.{Stop}
use Rattle.internal_formatted.specs.declared.acts.Stop.TheVariants as stop
use Rattle.internal_formatted.specs.Acting.{Does}
use Rattle.internal_formatted.specs.Storing.{Held, Stores}

-- the complete records of an output that comes to its next record
pub arrived-lines : (page : Sheet) (complete : List (List ℕ)) (out : Output) → (arrived page complete out).complete ≡ complete
arrived-lines page complete out = by (has_record page.records (length complete))
  where
    by : (there : Bool) → (if there then record out { complete = complete; making = []; before = 0 } else record out { complete = complete; making = []; before = 0; halted = Some EndOfRecords }).complete ≡ complete
    by true = refl
    by false = refl

-- the next record
same-record : (record' : List ℕ) (old : RecordSheet) (before behind : Held) (result : Result (Unit {0}) RecordRefusal) → record' ≡ making_in old → Stores (record' ∷ []) before behind result →
    Stores (making_in old ∷ []) before behind result
same-record record' old before behind result is stores = subst (λ (one : List ℕ). Stores (one ∷ []) before behind result) is stores

pub next-goes : (record' : List ℕ) (old new : RecordSheet) (before behind : Held) → record' ≡ making_in old → Stores (record' ∷ []) before behind (Ok tt) →
    ((sheet : Sheet) → Arrives sheet old new (Ok tt)) → Does (λ page. with_control page NextRecord) old new before behind (Ok tt)
next-goes record' old new before behind is stores arrives = record {
  lines = making_in old ∷ [];
  stores = same-record record' old before behind (Ok tt) is stores;
  comes = λ page complete on. arrives page complete on;
}

pub next-halts : (record' : List ℕ) (old new : RecordSheet) (before behind : Held) (why : Halt) (stopped : Stop) → record' ≡ making_in old →
    Stores (record' ∷ []) before behind (Ok tt) → ((sheet : Sheet) → Arrives sheet old new (Err why)) → stopped ≡ stop.Number (halt_number (halt_of why)) →
    Does (λ page. with_control page NextRecord) old new before behind (Err stopped)
next-halts record' old new before behind why stopped is stores arrives stops =
    subst (λ (one : Stop). Does (λ page. with_control page NextRecord) old new before behind (Err one)) (sym stops)
    (record {
      lines = making_in old ∷ [];
      stores = same-record record' old before behind (Ok tt) is stores;
      comes = λ page complete on. (ap (λ (out : Output). out.complete) (arrives page complete on), (halt_of why, ap (λ (out : Output). out.halted) (arrives page complete on), refl));
    })

pub next-refused : (record' : List ℕ) (old : RecordSheet) (before behind : Held) (refusal : RecordRefusal) → record' ≡ making_in old →
    Stores (record' ∷ []) before behind (Err refusal) → Does (λ page. with_control page NextRecord) old old before behind (Err (stop.Refused refusal))
next-refused record' old before behind refusal is stores = record {
  lines = making_in old ∷ [];
  stores = same-record record' old before behind (Err refusal) is stores;
  comes = λ page complete on. ([], arrived-lines page (complete ++ making_in old ∷ []) (shown old complete) ∙ sym (append-nil (complete ++ making_in old ∷ [])));
}

-- an act in the record
pub record-goes : (act : Sheet → Output → Output) (old new : RecordSheet) (here : Held) → ((page : Sheet) → Acts page (act page) old new (Ok tt)) → Does act old new here here (Ok tt)
record-goes act old new here acts = record {
  lines = [];
  stores = fills-nothing here.file here.objects;
  comes = λ page complete on.
      subst (λ (all : List (List ℕ)). StandsOn page all new × (act page (shown old complete) ≡ shown new all)) (sym (append-nil complete)) (acts page complete on);
}

pub record-halts : (act : Sheet → Output → Output) (old new : RecordSheet) (here : Held) (why : Halt) (stopped : Stop) → ((page : Sheet) → Acts page (act page) old new (Err why)) →
    stopped ≡ stop.Number (halt_number (halt_of why)) → Does act old new here here (Err stopped)
record-halts act old new here why stopped acts stops =
    subst (λ (one : Stop). Does act old new here here (Err one)) (sym stops)
    (record {
      lines = [];
      stores = fills-nothing here.file here.objects;
      comes = λ page complete on.
          (ap (λ (out : Output). out.complete) (acts page complete on).1 ∙ sym (append-nil complete), (halt_of why, ap (λ (out : Output). out.halted) (acts page complete on).1, refl));
    })
