-- What a call replies, by what its statement on a unit did.
use Rattle.std.proofs.Common.{◌≡◌, ℤ, Bool, true, false, List, ◌++◌, ◌∷◌, None, refl, ap, sym, ◌∙◌}
use Rattle.std.specs.Prelude.{pos, Result, Ok, Err, IfErr, IsErrOf, if◌then◌else◌}
use Rattle.std.specs.Ordering.{int_eq}
use Rattle.run_state.specs.Units.{Units}
use Rattle.run_state.specs.declared.refusals.UnitRefusal.{UnitRefusal}
use Rattle.run_state.specs.declared.refusals.UnitRefusal.TheVariants.{NotConnected, NotOffered, Taken, PastEnd, Failed}
use Rattle.c_tree.specs.Faults.{after}
use Rattle.c_tree.specs.World.{World, Stops, Io, Gives}
use Rattle.c_tree.specs.Transfers.{asked, numbered, refusal_number}
use Rattle.f2c_outside.specs.Device.{DeviceState}
use Rattle.f2c_outside.specs.Table.{Row, Connects, AtUnit, OnUnit, IsPastOrFailed}
use Rattle.f2c_outside.specs.Meaning.{units_of, Means}
use Rattle.unit_answers.specs.declared.ends.CallEnd.TheVariants.{Ended}
use Rattle.unit_answers.specs.Answers.{numbered_answer, refused_answer, Replies, IfFault}
use Rattle.unit_answers.proofs.FailureLaws.{on-there}

-- a statement did what it means, unless the device failed
abbrev pub Agrees : {T : Type 0} → Result T UnitRefusal → Result Units UnitRefusal → List Row → List Row → Type 0
Agrees (Ok done) meaning before after = meaning ≡ Ok (units_of after)
Agrees (Err Failed) meaning before after = Unit {0}
Agrees (Err NotConnected) meaning before after = (meaning ≡ Err NotConnected) × (after ≡ before)
Agrees (Err NotOffered) meaning before after = (meaning ≡ Err NotOffered) × (after ≡ before)
Agrees (Err Taken) meaning before after = (meaning ≡ Err Taken) × (after ≡ before)
Agrees (Err PastEnd) meaning before after = (meaning ≡ Err PastEnd) × (after ≡ before)

-- a call that is past the end changes nothing
pub unchanged-at :
    {T : Type 0} (unit : ℤ) (b a : List Row) (result : Result T UnitRefusal) (R : DeviceState → Bool → DeviceState → Bool → Type 0) →
    OnUnit unit b a result R → (IsErrOf result NotConnected → ⊥) →
    ((d d' : DeviceState) (m m' : Bool) → R d m d' m' → (d' ≡ d) × (m' ≡ m)) → a ≡ b
unchanged-at unit b a result R on not_missing same =
    let at : AtUnit unit b a R = on.found (on-there unit b a result R on not_missing) in
    let stays : (at.device' ≡ at.device) × (at.end_mark' ≡ at.end_mark) = same at.device at.device' at.end_mark at.end_mark' at.did in
    at.now
    ∙ ap (λ (d : DeviceState). at.front ++ Connects unit d at.end_mark' at.zero_blanks ∷ at.back) stays.0
    ∙ ap (λ (m : Bool). at.front ++ Connects unit at.device m at.zero_blanks ∷ at.back) stays.1
    ∙ sym at.was

not-allowed :
    {T : Type 0} (unit : ℤ) (b a : List Row) (result : Result T UnitRefusal) (R : DeviceState → Bool → DeviceState → Bool → Type 0) →
    OnUnit unit b a result R → (IsErrOf result NotConnected → ⊥) →
    ((d d' : DeviceState) (m m' : Bool) → R d m d' m' → IfErr result IsPastOrFailed) → IfErr result IsPastOrFailed
not-allowed unit b a result R on not_missing allowed =
    let at : AtUnit unit b a R = on.found (on-there unit b a result R on not_missing) in
    allowed at.device at.device' at.end_mark at.end_mark' at.did

-- a call that means what a statement means agrees with it
pub agrees-on :
    {T : Type 0} (unit : ℤ) (b a : List Row) (result : Result T UnitRefusal) (R : DeviceState → Bool → DeviceState → Bool → Type 0) →
    (meaning : Result Units UnitRefusal) → OnUnit unit b a result R → Means result meaning a →
    ((d d' : DeviceState) (m m' : Bool) → R d m d' m' → IfErr result IsPastOrFailed) →
    ((d d' : DeviceState) (m m' : Bool) → R d m d' m' → IsErrOf result PastEnd → (d' ≡ d) × (m' ≡ m)) → Agrees result meaning b a
agrees-on unit b a (Ok done) R meaning on means allowed same = means.done
agrees-on unit b a (Err Failed) R meaning on means allowed same = tt
agrees-on unit b a (Err NotConnected) R meaning on means allowed same = (means.missing refl, on.missing (on.refused.0 refl))
agrees-on unit b a (Err PastEnd) R meaning on means allowed same = (
  means.past refl,
  unchanged-at unit b a (Err PastEnd) R on (λ wrong. cc) (λ d d' m m' did. same d d' m m' did refl),
)
agrees-on unit b a (Err NotOffered) R meaning on means allowed same = absurd (not-allowed unit b a (Err NotOffered) R on (λ wrong. cc) allowed)
agrees-on unit b a (Err Taken) R meaning on means allowed same = absurd (not-allowed unit b a (Err Taken) R on (λ wrong. cc) allowed)

-- a number that ends a transfer, or a statement on a unit
pub numbered-replies :
    (number on_error on_end : ℤ) (world : World) →
    Replies (Ok (numbered number on_error on_end world)) (record world { transfer = None }) (numbered_answer number on_error on_end)
numbered-replies number on_error on_end world = by (int_eq (asked number on_error on_end) (pos 0))
  where
    by : (ends : Bool) →
        Replies (Ok (if ends then Stops (Io number) (record world { transfer = None }) else Gives number (record world { transfer = None })))
        (record world { transfer = None }) (if ends then Err (Ended number) else Ok number)
    by true = refl
    by false = refl

-- a statement on a unit that is refused
pub refused-replies :
    (unit : ℤ) (refusal : UnitRefusal) (on_error on_end : ℤ) (world : World) →
    Replies (after (refusal_number refusal) λ number. Ok (numbered number on_error on_end world)) (record world { transfer = None })
    (refused_answer unit refusal on_error on_end)
refused-replies unit NotConnected on_error on_end world = numbered-replies (pos 6) on_error on_end world
refused-replies unit NotOffered on_error on_end world = numbered-replies (pos 7) on_error on_end world
refused-replies unit Taken on_error on_end world = numbered-replies (pos 8) on_error on_end world
refused-replies unit PastEnd on_error on_end world = numbered-replies (pos 9) on_error on_end world
refused-replies unit Failed on_error on_end world = tt

-- a number is no fault, and no device
pub numbered-no-fault : (number on_error on_end : ℤ) (P : Type 0) → IfFault (numbered_answer number on_error on_end) P
numbered-no-fault number on_error on_end P = by (int_eq (asked number on_error on_end) (pos 0))
  where
    by : (ends : Bool) → IfFault (if ends then Err (Ended number) else Ok number) P
    by true = tt
    by false = tt

pub refused-no-fault : (unit : ℤ) (refusal : UnitRefusal) (on_error on_end : ℤ) (P : Type 0) → IfFault (refused_answer unit refusal on_error on_end) P
refused-no-fault unit NotConnected on_error on_end P = numbered-no-fault (pos 6) on_error on_end P
refused-no-fault unit NotOffered on_error on_end P = numbered-no-fault (pos 7) on_error on_end P
refused-no-fault unit Taken on_error on_end P = numbered-no-fault (pos 8) on_error on_end P
refused-no-fault unit PastEnd on_error on_end P = numbered-no-fault (pos 9) on_error on_end P
refused-no-fault unit Failed on_error on_end P = tt
