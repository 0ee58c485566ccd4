-- Edits that take no item, and the records that they come to.
use Rattle.std.proofs.Common.{◌≡◌, ℕ, ◌+◌, ℤ, List, [], length, Some, refl, sym, ap, ◌∙◌, subst, add-zero, add_assoc, arith}
use Rattle.std.specs.Prelude.{Ok, Err}
use Rattle.c_tree.specs.Faults.{Or}
use Rattle.c_tree.specs.Objects.{Object}
use Rattle.c_tree.specs.World.{InternalFile}
use Rattle.c_tree.specs.TransferOutput.{halt_number}
use Rattle.edit_rules.specs.edit_meaning.TakenRecords.{Input}
use Rattle.taken_records.specs.declared.halt.Halt.{Halt}
use Rattle.taken_records.specs.declared.halt.Halt.TheVariants.{PastColumns, TextInFormat, BadField, OtherType}
use Rattle.taken_records.specs.declared.record.RecordInput.{RecordInput}
use Rattle.taken_records.specs.Records.{halt_of, Acts}
use Rattle.internal_records.specs.Fetching.{coming, moved}
use Rattle.internal_formatted_input.specs.declared.acts.Stop.{Stop}
use Rattle.internal_formatted_input.specs.declared.acts.Stop.TheVariants as stop
use Rattle.internal_formatted_input.specs.Acting.{input_at, ReadOn, HaltsBy, Stops, Does}

-- ## Records that are read

pub read-none : (objects : List Object) (file : InternalFile) → ReadOn objects file file
read-none objects file = record {
  count = 0;
  behind = ap (λ (n : ℕ). record file { position = n }) (sym (add-zero file.position));
  lines = omega arith;
  then_comes = refl;
}

pub read-then : (objects : List Object) (a b c : InternalFile) → ReadOn objects a b → ReadOn objects b c → ReadOn objects a c
read-then objects a b c one two = record {
  count = one.count + two.count;
  behind = two.behind ∙ ap (moved two.count) one.behind ∙ ap (λ (n : ℕ). record a { position = n }) (add_assoc a.position one.count two.count);
  lines = (let first : length (coming objects a).lines ≡ one.count + length (coming objects b).lines = one.lines in
      let second : length (coming objects b).lines ≡ two.count + length (coming objects c).lines = two.lines in omega arith);
  then_comes = one.then_comes ∙ two.then_comes;
}

-- ## An act in the record

pub record-goes : (objects : List Object) (act : Input → Input) (old new : RecordInput) (file : InternalFile) → Acts act old new (Ok tt) → Does objects act old new file file (Ok tt)
record-goes objects act old new file acts = record { reads = read-none objects file; is = acts (coming objects file).lines [] }

pub halts-by : (then_comes : Or ℤ) (why : Halt) → HaltsBy then_comes (stop.Number (halt_number (halt_of why))) (halt_of why)
halts-by then_comes PastColumns = refl
halts-by then_comes TextInFormat = refl
halts-by then_comes (BadField error) = refl
halts-by then_comes OtherType = refl

pub stops-at : (objects : List Object) (file : InternalFile) (out : Input) (why : Halt) (stopped : Stop) → out.halted ≡ Some (halt_of why) → stopped ≡ stop.Number (halt_number (halt_of why)) →
    Stops objects file out stopped
stops-at objects file out why stopped is stops =
    subst (λ (one : Stop). Stops objects file out one) (sym stops) (record { halt = halt_of why; halted = is; by = halts-by (coming objects file).then_comes why })

pub record-halts : (objects : List Object) (act : Input → Input) (old new : RecordInput) (file : InternalFile) (why : Halt) (stopped : Stop) → Acts act old new (Err why) →
    stopped ≡ stop.Number (halt_number (halt_of why)) → Does objects act old new file file (Err stopped)
record-halts objects act old new file why stopped acts stops =
    stops-at objects file (act (input_at objects file old)) why stopped (ap (λ (out : Input). out.halted) (acts (coming objects file).lines []).1) stops

-- ## Where an input stops

-- an input that stops behind some records stops so from those before them
pub stops-from : (objects : List Object) (before after : InternalFile) (out : Input) (why : Stop) → ReadOn objects before after → Stops objects after out why → Stops objects before out why
stops-from objects before after out why reads stops = record {
  halt = stops.halt;
  halted = stops.halted;
  by = subst (λ (then_comes : Or ℤ). HaltsBy then_comes why stops.halt) (sym reads.then_comes) stops.by;
}
