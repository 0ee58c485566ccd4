-- What the calls of the unit table leave, each by what its device did.
use Rattle.std.proofs.Common.{◌≡◌, ℕ, ℤ, pos, Bool, true, false, List, refl, ap, sym, ◌∙◌}
use Rattle.std.specs.Prelude.{Result, Ok, Err, IfErr, IsErrOf, IsOk, OnErr, if◌then◌else◌}
use Rattle.std.specs.Ordering.{int_eq}
use Rattle.run_state.specs.Units.{Units}
use Rattle.run_state.specs.declared.refusals.UnitRefusal.{UnitRefusal}
use Rattle.run_state.specs.declared.refusals.UnitRefusal.TheVariants.{NotConnected, NotOffered, Taken, PastEnd, Failed}
use Rattle.c_tree.specs.Transfers.{asked}
use Rattle.f2c_outside.specs.Shelf.{Rose}
use Rattle.f2c_outside.specs.Device.{DeviceState, WasCalled}
use Rattle.f2c_outside.specs.Table.{Row, OnUnit, IsFailed, IsPastOrFailed, BackOn, RewoundOn, EndedOn, WrittenTo}
use Rattle.f2c_outside.specs.Meaning.{Means}
use Rattle.unit_answers.specs.declared.ends.CallEnd.TheVariants.{Ended}
use Rattle.unit_answers.specs.Failing.{FailedOn, Quiet, NoneFailed}
use Rattle.unit_answers.specs.Answers.{numbered_answer, refused_answer, IfDevice}
use Rattle.unit_answers.proofs.FailureLaws.{each-on, quiet-same, not-raised, failed-on}
use Rattle.unit_answers.proofs.AnswerLaws.{Agrees, agrees-on}

-- what a call on a unit may do to its device: where it fails the count of faults rises and the end mark stands as it did, and where it
-- does not the count stays; it is refused at the end mark alone, and then leaves the unit
pub record Fair {T : Type 0} (result : Result T UnitRefusal) (R : DeviceState → Bool → DeviceState → Bool → Type 0) : Type 0 where
  pub failed : (d d' : DeviceState) → (m m' : Bool) → R d m d' m' → IsErrOf result Failed → Rose d.faults d'.faults × (m' ≡ m)
  pub quiet : (d d' : DeviceState) → (m m' : Bool) → R d m d' m' → (IsErrOf result Failed → ⊥) → d'.faults ≡ d.faults
  pub allowed : (d d' : DeviceState) → (m m' : Bool) → R d m d' m' → IfErr result IsPastOrFailed
  pub past : (d d' : DeviceState) → (m m' : Bool) → R d m d' m' → IsErrOf result PastEnd → (d' ≡ d) × (m' ≡ m)

failed-alone : {T : Type 0} (result : Result T UnitRefusal) → IfErr result IsFailed → IfErr result IsPastOrFailed
failed-alone (Ok done) failed = tt
failed-alone (Err Failed) failed = tt
failed-alone (Err PastEnd) failed = absurd failed
failed-alone (Err NotConnected) failed = absurd failed
failed-alone (Err NotOffered) failed = absurd failed
failed-alone (Err Taken) failed = absurd failed

not-past : {T : Type 0} (result : Result T UnitRefusal) → IfErr result IsFailed → IsErrOf result PastEnd → ⊥
not-past (Ok done) failed is = cc
not-past (Err Failed) failed is = cc
not-past (Err PastEnd) failed is = failed
not-past (Err NotConnected) failed is = failed
not-past (Err NotOffered) failed is = failed
not-past (Err Taken) failed is = failed

done-failed : {T : Type 0} (result : Result T UnitRefusal) → IsOk result → IsErrOf result Failed → ⊥
done-failed (Ok done) ok is = cc
done-failed (Err refusal) ok is = cc

past-failed : {T : Type 0} (result : Result T UnitRefusal) → IsErrOf result PastEnd → IsErrOf result Failed → ⊥
past-failed result is wrong = cc

on-err : {T : Type 0} (result : Result T UnitRefusal) (refusal : UnitRefusal) (P : Type 0) → OnErr result P → IsErrOf result refusal → P
on-err (Ok done) refusal P holds is = absurd (cc)
on-err (Err other) refusal P holds is = holds

-- a call with a device whose end mark does not stand
rises : (d d' : DeviceState) (fails : Type 0) → WasCalled d d' fails → fails → Rose d.faults d'.faults
rises d d' fails called is = called.cause.failed is

stays : (d d' : DeviceState) (fails : Type 0) → WasCalled d d' fails → (fails → ⊥) → d'.faults ≡ d.faults
stays d d' fails called no_fault = not-raised d.faults d'.faults fails called.cause no_fault

same-faults : (d d' : DeviceState) → d' ≡ d → d'.faults ≡ d.faults
same-faults d d' same = ap (λ (device : DeviceState). device.faults) same

pub fair-back : {T : Type 0} (result : Result T UnitRefusal) → Fair result (λ d m d' m'. BackOn d m d' m' result)
fair-back {T = T} result = record {
  failed = λ d d' m m' on is. by-failed d d' m m' on is m refl;
  quiet = λ d d' m m' on no_fault. by-quiet d d' m m' on no_fault m refl;
  allowed = λ d d' m m' on. failed-alone result on.refused;
  past = λ d d' m m' on is. absurd (not-past result on.refused is);
}
  where
    by-failed : (d d' : DeviceState) → (m m' : Bool) → BackOn d m d' m' result → IsErrOf result Failed → (b : Bool) → m ≡ b → Rose d.faults d'.faults × (m' ≡ m)
    by-failed d d' m m' on is true marked = absurd (done-failed result (on.marked marked).1 is)
    by-failed d d' m m' on is false marked = (rises d d' (IsErrOf result Failed) (on.called marked) is, on.mark ∙ sym marked)

    by-quiet : (d d' : DeviceState) → (m m' : Bool) → BackOn d m d' m' result → (IsErrOf result Failed → ⊥) → (b : Bool) → m ≡ b → d'.faults ≡ d.faults
    by-quiet d d' m m' on no_fault true marked = same-faults d d' (on.marked marked).0
    by-quiet d d' m m' on no_fault false marked = stays d d' (IsErrOf result Failed) (on.called marked) no_fault

pub fair-rewind : {T : Type 0} (result : Result T UnitRefusal) → Fair result (λ d m d' m'. RewoundOn d m d' m' result)
fair-rewind result = record {
  failed = λ d d' m m' on is. (rises d d' (IsErrOf result Failed) on.called is, on-err result Failed (m' ≡ m) on.kept is);
  quiet = λ d d' m m' on no_fault. stays d d' (IsErrOf result Failed) on.called no_fault;
  allowed = λ d d' m m' on. failed-alone result on.refused;
  past = λ d d' m m' on is. absurd (not-past result on.refused is);
}

pub fair-end : {T : Type 0} (result : Result T UnitRefusal) → Fair result (λ d m d' m'. EndedOn d m d' m' result)
fair-end {T = T} result = record {
  failed = λ d d' m m' on is. by-failed d d' m m' on is m refl;
  quiet = λ d d' m m' on no_fault. by-quiet d d' m m' on no_fault m refl;
  allowed = λ d d' m m' on. on.refused;
  past = λ d d' m m' on is. (on.unchanged is, on-err result PastEnd (m' ≡ m) on.kept is);
}
  where
    by-failed : (d d' : DeviceState) → (m m' : Bool) → EndedOn d m d' m' result → IsErrOf result Failed → (b : Bool) → m ≡ b → Rose d.faults d'.faults × (m' ≡ m)
    by-failed d d' m m' on is true marked = absurd (past-failed result (on.past.1 marked) is)
    by-failed d d' m m' on is false marked = (rises d d' (IsErrOf result Failed) (on.called marked) is, on-err result Failed (m' ≡ m) on.kept is)

    by-quiet : (d d' : DeviceState) → (m m' : Bool) → EndedOn d m d' m' result → (IsErrOf result Failed → ⊥) → (b : Bool) → m ≡ b → d'.faults ≡ d.faults
    by-quiet d d' m m' on no_fault true marked = same-faults d d' (on.unchanged (on.past.1 marked))
    by-quiet d d' m m' on no_fault false marked = stays d d' (IsErrOf result Failed) (on.called marked) no_fault

pub fair-write : {T : Type 0} (bytes : List ℕ) (result : Result T UnitRefusal) → Fair result (λ d m d' m'. WrittenTo d m d' m' bytes result)
fair-write {T = T} bytes result = record {
  failed = λ d d' m m' on is. by-failed d d' m m' on is m refl;
  quiet = λ d d' m m' on no_fault. by-quiet d d' m m' on no_fault m refl;
  allowed = λ d d' m m' on. on.refused;
  past = λ d d' m m' on is. (on.unchanged is, on.mark);
}
  where
    by-failed : (d d' : DeviceState) → (m m' : Bool) → WrittenTo d m d' m' bytes result → IsErrOf result Failed → (b : Bool) → m ≡ b → Rose d.faults d'.faults × (m' ≡ m)
    by-failed d d' m m' on is true marked = absurd (past-failed result (on.past.1 marked) is)
    by-failed d d' m m' on is false marked = (rises d d' (IsErrOf result Failed) (on.called marked) is, on.mark)

    by-quiet : (d d' : DeviceState) → (m m' : Bool) → WrittenTo d m d' m' bytes result → (IsErrOf result Failed → ⊥) → (b : Bool) → m ≡ b → d'.faults ≡ d.faults
    by-quiet d d' m m' on no_fault true marked = same-faults d d' (on.unchanged (on.past.1 marked))
    by-quiet d d' m m' on no_fault false marked = stays d d' (IsErrOf result Failed) (on.called marked) no_fault

-- a fair call agrees with what it means
pub fair-agrees :
    {T : Type 0} (unit : ℤ) (b a : List Row) (result : Result T UnitRefusal) (R : DeviceState → Bool → DeviceState → Bool → Type 0) →
    (meaning : Result Units UnitRefusal) → Fair result R → OnUnit unit b a result R → Means result meaning a → Agrees result meaning b a
fair-agrees unit b a result R meaning fair on means = agrees-on unit b a result R meaning on means fair.allowed fair.past

failed-there : {T : Type 0} (result : Result T UnitRefusal) → IsErrOf result Failed → IsErrOf result NotConnected → ⊥
failed-there result is wrong = cc

-- where it fails its device did, and where it does not none did
pub fair-failed :
    {T : Type 0} (unit : ℤ) (b a : List Row) (result : Result T UnitRefusal) (R : DeviceState → Bool → DeviceState → Bool → Type 0) →
    Fair result R → OnUnit unit b a result R → IsErrOf result Failed → FailedOn unit b a
fair-failed unit b a result R fair on is =
    failed-on unit b a result R on (failed-there result is) (λ d d' m m' did. fair.failed d d' m m' did is)

pub fair-quiet :
    {T : Type 0} (unit : ℤ) (b a : List Row) (result : Result T UnitRefusal) (R : DeviceState → Bool → DeviceState → Bool → Type 0) →
    Fair result R → OnUnit unit b a result R → (IsErrOf result Failed → ⊥) → NoneFailed b a
fair-quiet unit b a result R fair on no_fault =
    each-on unit Quiet (λ row none. quiet-same row) b a result R on (λ d d' m m' z did. fair.quiet d d' m m' did no_fault)

-- what holds of a number holds where no device failed
pub numbered-device : (number on_error on_end : ℤ) (P : ℤ → Type 0) (Q : Type 0) → Q → IfDevice (numbered_answer number on_error on_end) P Q
numbered-device number on_error on_end P Q holds = by (int_eq (asked number on_error on_end) (pos 0))
  where
    by : (ends : Bool) → IfDevice (if ends then Err (Ended number) else Ok number) P Q
    by true = holds
    by false = holds

pub refused-device :
    (unit : ℤ) (refusal : UnitRefusal) (on_error on_end : ℤ) (P : ℤ → Type 0) (Q : Type 0) → (refusal ≡ Failed → P unit) →
    ((refusal ≡ Failed → ⊥) → Q) → IfDevice (refused_answer unit refusal on_error on_end) P Q
refused-device unit Failed on_error on_end P Q fails holds = fails refl
refused-device unit NotConnected on_error on_end P Q fails holds = numbered-device (pos 6) on_error on_end P Q (holds (λ wrong. cc))
refused-device unit NotOffered on_error on_end P Q fails holds = numbered-device (pos 7) on_error on_end P Q (holds (λ wrong. cc))
refused-device unit Taken on_error on_end P Q fails holds = numbered-device (pos 8) on_error on_end P Q (holds (λ wrong. cc))
refused-device unit PastEnd on_error on_end P Q fails holds = numbered-device (pos 9) on_error on_end P Q (holds (λ wrong. cc))
