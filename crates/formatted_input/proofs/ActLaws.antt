-- Edits that take no item.
use Rattle.std.proofs.Common.{◌≡◌, ℕ, ◌+◌, ℤ, List, [], length, take, refl, ap, sym, ◌∙◌, subst, arith}
use Rattle.std.specs.Prelude.{Ok, Err}
use Rattle.c_tree.specs.run_state.Units.{Units}
use Rattle.c_tree.specs.Transfers.{Upcoming, nothing_but, read_on}
use Rattle.c_tree.specs.TransferOutput.{halt_number}
use Rattle.edit_rules.specs.edit_meaning.Formats.{NextRecord}
use Rattle.edit_rules.specs.edit_meaning.Halts as halts
use Rattle.edit_rules.specs.edit_meaning.TakenRecords.{Input, halted_by, with_control}
use Rattle.f2c_outside.specs.Table.{Row}
use Rattle.f2c_outside.specs.Meaning.{units_of}
use Rattle.listed_output.proofs.RowLaws.{stays-same, stays-quietly}
use Rattle.listed_input.specs.declared.records.NextRecord.TheVariants.{Record, Nothing, Failed}
use Rattle.listed_input.specs.Fetching.{coming, Fetches}
use Rattle.taken_records.specs.declared.halt.Halt.{Halt}
use Rattle.taken_records.specs.declared.halt.Halt.TheVariants as halt
use Rattle.taken_records.specs.declared.record.RecordInput.{RecordInput}
use Rattle.taken_records.specs.Records.{halt_of, shown, Acts, ComesTo}
use Rattle.formatted_input.specs.declared.acts.Stop.{Stop}
use Rattle.formatted_input.specs.declared.acts.Stop.TheVariants as stop
use Rattle.formatted_input.specs.Acting.{Behind, HaltsBy, StopsBy, Does}
use Rattle.formatted_input.proofs.ReadLaws.{reads-none, reads-record}

-- ## In the record

nothing-read : (unit : ℤ) (units : Units) → Behind unit (coming unit units).lines units units
nothing-read unit units = record { count = 0; lines = omega arith; units = refl }

halts-here : (unit : ℤ) (units : Units) (why : Halt) → HaltsBy unit (halt_number (halt_of why)) (coming unit units).lines units units (halt_of why)
halts-here unit units halt.PastColumns = (refl, nothing-read unit units)
halts-here unit units halt.TextInFormat = (refl, nothing-read unit units)
halts-here unit units (halt.BadField error) = (refl, nothing-read unit units)
halts-here unit units halt.OtherType = (refl, nothing-read unit units)

-- an input that is halted in its record
pub halted-here : (unit : ℤ) (units : Units) (taken : RecordInput) (out : Input) (why : Halt) → out ≡ halted_by (halt_of why) (shown taken (coming unit units).lines []) →
    StopsBy out unit (halt_number (halt_of why)) units units
halted-here unit units taken out why is =
    subst (λ (one : Input). StopsBy one unit (halt_number (halt_of why)) units units) (sym is)
    (record { halt = halt_of why; halted = refl; reads = halts-here unit units why })

pub record-goes : (act : Input → Input) (unit : ℤ) (old new : RecordInput) (rows : List Row) → Acts act old new (Ok tt) → Does act unit old new rows rows (Ok tt)
record-goes act unit old new rows acts = record {
  tells = λ tells. tells;
  comes = λ tells. record { reads = reads-none unit (units_of rows); is = acts (coming unit (units_of rows)).lines [] };
  devices = stays-same unit rows;
}

pub record-halts : (act : Input → Input) (unit : ℤ) (old new : RecordInput) (rows : List Row) (why : Halt) (stopped : Stop) → Acts act old new (Err why) →
    stopped ≡ stop.Number (halt_number (halt_of why)) → Does act unit old new rows rows (Err stopped)
record-halts act unit old new rows why stopped acts stops =
    subst (λ (one : Stop). Does act unit old new rows rows (Err one)) (sym stops)
    (record {
      tells = λ tells. tells;
      comes = λ tells. halted-here unit (units_of rows) old _ why (acts (coming unit (units_of rows)).lines []).1;
      devices = stays-quietly unit rows rows (stays-same unit rows);
    })

-- ## The next record

goes-next : (unit : ℤ) (line : List ℕ) (used : ℕ) (old new : RecordInput) (rows rows' : List Row) → Fetches unit line rows rows' (Record used) → ComesTo (take used line) old new →
    Does (with_control NextRecord) unit old new rows rows' (Ok tt)
goes-next unit line used old new rows rows' fetches comes = record {
  tells = fetches.tells;
  comes = λ tells. record {
    reads = reads-record unit (take used line) (units_of rows) (units_of rows') (fetches.means tells).0 (fetches.means tells).1;
    is = ap (λ (next : Upcoming). with_control NextRecord (shown old next.lines [])) (fetches.means tells).0 ∙ comes (coming unit (units_of rows')).lines [];
  };
  devices = fetches.devices;
}

pub next-goes : (unit own : ℤ) (line : List ℕ) (used : ℕ) (old new : RecordInput) (rows rows' : List Row) → own ≡ unit → Fetches own line rows rows' (Record used) → ComesTo (take used line) old new →
    Does (with_control NextRecord) unit old new rows rows' (Ok tt)
next-goes unit own line used old new rows rows' same fetches comes =
    subst (λ (n : ℤ). Does (with_control NextRecord) n old new rows rows' (Ok tt)) same (goes-next own line used old new rows rows' fetches comes)

none-comes : (unit number : ℤ) (old : RecordInput) (before after : Units) → coming unit before ≡ nothing_but (Ok number) → after ≡ read_on 1 unit before →
    StopsBy (with_control NextRecord (shown old (coming unit before).lines [])) unit number before after
none-comes unit number old before after none is =
    let few : length (coming unit before).lines ≡ 0 = ap (λ (next : Upcoming). length next.lines) none in
    record {
      halt = halts.EndOfRecords;
      halted = ap (λ (next : Upcoming). (with_control NextRecord (shown old next.lines [])).halted) none;
      reads = (
        ap (λ (next : Upcoming). next.then_comes) none,
        is ∙ ap (λ (n : ℕ). read_on n unit before) (let e : 1 ≡ length (coming unit before).lines + 1 = omega (arith, few) in e),
      );
    }

ends-next : (unit number : ℤ) (line : List ℕ) (old new : RecordInput) (rows rows' : List Row) → Fetches unit line rows rows' (Nothing number) →
    Does (with_control NextRecord) unit old new rows rows' (Err (stop.Number number))
ends-next unit number line old new rows rows' fetches = record {
  tells = fetches.tells;
  comes = λ tells. none-comes unit number old (units_of rows) (units_of rows') (fetches.means tells).0 (fetches.means tells).1;
  devices = fetches.devices;
}

pub next-ends : (unit own number said : ℤ) (line : List ℕ) (old new : RecordInput) (rows rows' : List Row) → own ≡ unit → said ≡ number → Fetches own line rows rows' (Nothing number) →
    Does (with_control NextRecord) unit old new rows rows' (Err (stop.Number said))
next-ends unit own number said line old new rows rows' same right fetches =
    subst (λ (n : ℤ). Does (with_control NextRecord) unit old new rows rows' (Err (stop.Number n))) (sym right)
    (subst (λ (n : ℤ). Does (with_control NextRecord) n old new rows rows' (Err (stop.Number number))) same (ends-next own number line old new rows rows' fetches))

pub next-fails : (unit own : ℤ) (line : List ℕ) (old new : RecordInput) (rows rows' : List Row) → own ≡ unit → Fetches own line rows rows' Failed →
    Does (with_control NextRecord) unit old new rows rows' (Err stop.Device)
next-fails unit own line old new rows rows' same fetches =
    subst (λ (n : ℤ). Does (with_control NextRecord) n old new rows rows' (Err stop.Device)) same
    (record { tells = fetches.tells; comes = λ tells. tt; devices = fetches.devices })
