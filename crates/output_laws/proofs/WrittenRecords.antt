-- Records that are written on a unit in both runs.
use Rattle.std.specs.Prelude.{◌≡◌, ℕ, suc, ℤ, pos, Bool, true, false, List, [], ◌∷◌, Option, Some, None, Result, Ok, Err, if◌then◌else◌}
use Rattle.std.specs.Ordering.{int_eq}
use Rattle.std.proofs.Common.{refl, ap, ◌∙◌}
use Rattle.std.proofs.lemmas.Bool.Decides.{Decides-int_eq}
use Rattle.faithful.specs.run_state.Units.{Units, UnitState, with_unit, with_record, unless_ended, write_at, write_unit}
use Rattle.faithful.specs.run_state.declared.refusals.UnitRefusal.{UnitRefusal}
use Rattle.faithful.specs.run_state.declared.refusals.UnitRefusal.TheVariants.{NotConnected, PastEnd}
use Rattle.faithful.specs.f_tree.World.{World, External}
use Rattle.faithful.specs.f_tree.Statuses.{number_of}
use Rattle.faithful.specs.f_tree.Records.{Writing, Wrote, StoppedBy, written_then, stopped_by, unit_written, put_line, put_lines}
use Rattle.faithful.specs.c_tree.Transfers.{refusal_number}
use Rattle.faithful.specs.c_tree.TransferOutput.{write_all}

-- a unit that is connected and does not stand behind the endfile record
record MayWrite (unit : ℤ) (units : Units) : Type 0 where
  state : UnitState
  is : units.connected unit ≡ Some state
  on : state.end_mark ≡ false

-- what writing comes to in both
pub data BothWrite (unit : ℤ) (lines : List (List ℕ)) (k : ℕ) (x : World) : Type 0 where
  wrote : (units : Units) → write_all unit lines x.units ≡ Ok units → put_lines (External unit) k lines x ≡ Wrote (record x { units = units }) → BothWrite unit lines k x
  refused : (refusal : UnitRefusal) (number : ℤ) → write_all unit lines x.units ≡ Err refusal → refusal_number refusal ≡ Ok number → put_lines (External unit) k lines x ≡ StoppedBy number x → BothWrite unit lines k x

record AreWritten (unit : ℤ) (lines : List (List ℕ)) (k : ℕ) (x : World) : Type 0 where
  units : Units
  one : put_lines (External unit) k lines x ≡ Wrote (record x { units = units })
  other : write_all unit lines x.units ≡ Ok units

-- what a line comes to, by what the unit says
abbrev rest_of : ℤ → ℕ → List (List ℕ) → World → Result Units UnitRefusal → Writing
rest_of unit k later x r = written_then (unit_written x r) (put_lines (External unit) (suc k) later)

abbrev others_of : ℤ → List (List ℕ) → Result Units UnitRefusal → Result Units UnitRefusal
others_of unit later r = elim r [ Ok changed ↦ write_all unit later changed | Err refusal ↦ Err refusal ]

rest_is : (unit : ℤ) (k : ℕ) (line : List ℕ) (later : List (List ℕ)) (x : World) → put_lines (External unit) k (line ∷ later) x ≡ rest_of unit k later x (write_unit unit line x.units)
unfolding put_lines put_line
rest_is unit k line later x = refl

same_number : (unit : ℤ) → int_eq unit unit ≡ true
same_number unit = (Decides-int_eq unit unit).1 refl

one_written : (unit : ℤ) (line : List ℕ) (units : Units) (may : MayWrite unit units) → write_unit unit line units ≡ Ok (with_unit unit (Some (with_record line may.state)) units)
unfolding write_unit
one_written unit line units may =
    ap (λ s. write_at unit line s units) may.is ∙ ap (λ b. unless_ended b (with_unit unit (Some (with_record line may.state)) units)) may.on

written_on : (unit : ℤ) (line : List ℕ) (units : Units) (may : MayWrite unit units) → MayWrite unit (with_unit unit (Some (with_record line may.state)) units)
written_on unit line units may = record {
  state = with_record line may.state;
  is = ap (λ b. if b then Some (with_record line may.state) else units.connected unit) (same_number unit);
  on = may.on;
}

-- once one record is written, all are
all_written : (unit : ℤ) (lines : List (List ℕ)) (k : ℕ) (x : World) → MayWrite unit x.units → AreWritten unit lines k x
unfolding put_lines written_then unit_written
all_written unit [] k x may = record { units = x.units; one = refl; other = refl }
all_written unit (line ∷ later) k x may =
    let next = with_unit unit (Some (with_record line may.state)) x.units in
    let ok = one_written unit line x.units may in
    let more = all_written unit later (suc k) (record x { units = next }) (written_on unit line x.units may) in
    record {
      units = more.units;
      one = rest_is unit k line later x ∙ ap (rest_of unit k later x) ok ∙ more.one;
      other = ap (others_of unit later) ok ∙ more.other;
    }

by_end : (unit : ℤ) (line : List ℕ) (later : List (List ℕ)) (k : ℕ) (x : World) (state : UnitState) → x.units.connected unit ≡ Some state → (ended : Bool) → state.end_mark ≡ ended → BothWrite unit (line ∷ later) k x
unfolding write_unit written_then unit_written stopped_by number_of
by_end unit line later k x state is true mark =
    let bad : write_unit unit line x.units ≡ Err PastEnd = ap (λ s. write_at unit line s x.units) is ∙ ap (λ b. unless_ended b (with_unit unit (Some (with_record line state)) x.units)) mark in
    refused PastEnd (pos 9) (ap (others_of unit later) bad) refl (rest_is unit k line later x ∙ ap (rest_of unit k later x) bad)
by_end unit line later k x state is false mark =
    let all = all_written unit (line ∷ later) k x (record { state = state; is = is; on = mark }) in wrote all.units all.other all.one

by_state : (unit : ℤ) (line : List ℕ) (later : List (List ℕ)) (k : ℕ) (x : World) (found : Option UnitState) → x.units.connected unit ≡ found → BothWrite unit (line ∷ later) k x
unfolding write_unit written_then unit_written stopped_by number_of
by_state unit line later k x None is =
    let bad : write_unit unit line x.units ≡ Err NotConnected = ap (λ s. write_at unit line s x.units) is in
    refused NotConnected (pos 6) (ap (others_of unit later) bad) refl (rest_is unit k line later x ∙ ap (rest_of unit k later x) bad)
by_state unit line later k x (Some state) is = by_end unit line later k x state is state.end_mark refl

pub both_write : (unit : ℤ) (lines : List (List ℕ)) (k : ℕ) (x : World) → BothWrite unit lines k x
unfolding put_lines
both_write unit [] k x = wrote x.units refl refl
both_write unit (line ∷ later) k x = by_state unit line later k x (x.units.connected unit) refl
