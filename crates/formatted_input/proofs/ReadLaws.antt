-- Records that are read from a unit, one after the other.
use Rattle.std.proofs.Common.{◌≡◌, ℕ, zero, suc, ◌+◌, ℤ, List, length, refl, ap, sym, ◌∙◌, arith}
use Rattle.std.specs.Prelude.{Result, Err}
use Rattle.c_tree.specs.run_state.Units.{Units}
use Rattle.c_tree.specs.Transfers.{Upcoming, read_on}
use Rattle.edit_rules.specs.edit_meaning.Halts as halts
use Rattle.edit_rules.specs.edit_meaning.TakenRecords.{Input}
use Rattle.f2c_outside.specs.Table.{Row}
use Rattle.listed_output.specs.Writing.{StayedOn}
use Rattle.listed_output.proofs.RowLaws.{stays-stays, stays-fails}
use Rattle.listed_input.specs.Fetching.{coming, before_others}
use Rattle.listed_input.proofs.SeekLaws.{on-last}
use Rattle.listed_input.proofs.StepLaws.{stays-quiet}
use Rattle.formatted_input.specs.declared.acts.Stop.{Stop}
use Rattle.formatted_input.specs.declared.acts.Stop.TheVariants as stop
use Rattle.formatted_input.specs.Acting.{ReadsFrom, Behind, ReadOn, HaltsBy, StopsBy, Stops}

pub on-both : (a b : ℕ) (unit : ℤ) (units : Units) → read_on (a + b) unit units ≡ read_on b unit (read_on a unit units)
on-both a zero unit units = ap (λ (n : ℕ). read_on n unit units) (let e : a + 0 ≡ a = omega arith in e)
on-both a (suc b) unit units =
    ap (λ (n : ℕ). read_on n unit units) (let e : a + suc b ≡ suc (a + b) = omega arith in e)
    ∙ on-last (a + b) unit units ∙ ap (read_on 1 unit) (on-both a b unit units) ∙ sym (on-last b unit (read_on a unit units))

pub reads-none : (unit : ℤ) (units : Units) → ReadOn unit units units
reads-none unit units = record { reads = record { count = 0; lines = omega arith; units = refl }; then_comes = refl }

pub reads-record : (unit : ℤ) (line : List ℕ) (before after : Units) → coming unit before ≡ before_others line (coming unit after) → after ≡ read_on 1 unit before → ReadOn unit before after
reads-record unit line before after comes is = record {
  reads = record {
    count = 1;
    lines = let more : length (coming unit before).lines ≡ suc (length (coming unit after).lines) = ap (λ (next : Upcoming). length next.lines) comes in omega arith;
    units = is;
  };
  then_comes = ap (λ (next : Upcoming). next.then_comes) comes;
}

pub behind-then : (unit : ℤ) (later : List (List ℕ)) (a b c : Units) → ReadOn unit a b → Behind unit later b c → Behind unit later a c
behind-then unit later a b c first second = record {
  count = first.reads.count + second.count;
  lines = omega (arith, first.reads.lines, second.lines);
  units = second.units ∙ ap (read_on second.count unit) first.reads.units ∙ sym (on-both first.reads.count second.count unit a);
}

pub reads-then : (unit : ℤ) (a b c : Units) → ReadOn unit a b → ReadOn unit b c → ReadOn unit a c
reads-then unit a b c first second =
    record { reads = behind-then unit (coming unit c).lines a b c first second.reads; then_comes = first.then_comes ∙ second.then_comes }

halts-then : (unit number : ℤ) (later : List (List ℕ)) (a b c : Units) (halt : halts.Halt) → ReadOn unit a b → HaltsBy unit number later b c halt → HaltsBy unit number later a c halt
halts-then unit number later a b c (halts.Number error) first second = (second.0, behind-then unit later a b c first second.1)
halts-then unit number later a b c halts.OtherType first second = (second.0, behind-then unit later a b c first second.1)
halts-then unit number later a b c halts.EndOfRecords first second = (
  first.then_comes ∙ second.0,
  second.1
      ∙ ap (read_on (length (coming unit b).lines + 1) unit) first.reads.units
      ∙ sym (on-both first.reads.count (length (coming unit b).lines + 1) unit a)
      ∙ ap (λ (n : ℕ). read_on n unit a) (let e : first.reads.count + (length (coming unit b).lines + 1) ≡ length (coming unit a).lines + 1 = omega (arith, first.reads.lines) in e),
)

pub stops-by-then : (out : Input) (unit number : ℤ) (a b c : Units) → ReadOn unit a b → StopsBy out unit number b c → StopsBy out unit number a c
stops-by-then out unit number a b c first stops =
    record { halt = stops.halt; halted = stops.halted; reads = halts-then unit number out.later a b c stops.halt first stops.reads }

pub stops-then : (why : Stop) (out : Input) (unit : ℤ) (a b c : Units) → ReadOn unit a b → Stops out unit b c why → Stops out unit a c why
stops-then (stop.Number number) out unit a b c first stops = stops-by-then out unit number a b c first stops
stops-then stop.Device out unit a b c first stops = tt
stops-then (stop.Fault fault) out unit a b c first stops = stops

-- the devices where the last step stops
pub devices-then : (S T : Type 0) (unit : ℤ) (x y z : List Row) (why : Stop) → StayedOn unit x y → ReadsFrom unit y z (let r : Result S Stop = Err why in r) →
    ReadsFrom unit x z (let r : Result T Stop = Err why in r)
devices-then S T unit x y z (stop.Number number) first second = stays-quiet unit x y z first second
devices-then S T unit x y z stop.Device first second = stays-fails unit x y z first second
devices-then S T unit x y z (stop.Fault fault) first second = stays-stays unit x y z first second
