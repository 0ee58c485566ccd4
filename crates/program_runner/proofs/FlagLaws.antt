-- Frames in which one part is written (C89, 3.3.2.2).
use Rattle.std.proofs.Common.{◌≡◌, ℕ, Bool, List, set, refl}
use Rattle.std.specs.Prelude.{get_or}
use Rattle.std.proofs.Math.Seq.{map-set_same}
use Rattle.std.proofs.lemmas.List.{map-set}
use Rattle.program_runner.specs.declared.stack.ActiveFunction.{ActiveFunction}
use Rattle.program_runner.specs.declared.stack.CallFrame.{CallFrame}
use Rattle.program_runner.specs.Stacks.{waits_in, flags_in}

pub noted-waits : (room : List CallFrame) (number : ℕ) (other : CallFrame) (active : Bool) → waits_in (set room number (record { waits = (get_or room number other).waits; active = active })) ≡ waits_in room
noted-waits room number other active = map-set_same (λ frame. frame.waits) room number (record { waits = (get_or room number other).waits; active = active }) other refl

pub noted-flags : (room : List CallFrame) (number : ℕ) (waits : ActiveFunction) (active : Bool) → flags_in (set room number (record { waits = waits; active = active })) ≡ set (flags_in room) number active
noted-flags room number waits active = map-set (λ frame. frame.active) room number (record { waits = waits; active = active })

pub put-waits : (room : List CallFrame) (place : ℕ) (waits : ActiveFunction) (active : Bool) → waits_in (set room place (record { waits = waits; active = active })) ≡ set (waits_in room) place waits
put-waits room place waits active = map-set (λ frame. frame.waits) room place (record { waits = waits; active = active })

pub put-flags : (room : List CallFrame) (place : ℕ) (other : CallFrame) (waits : ActiveFunction) → flags_in (set room place (record { waits = waits; active = (get_or room place other).active })) ≡ flags_in room
put-flags room place other waits = map-set_same (λ frame. frame.active) room place (record { waits = waits; active = (get_or room place other).active }) other refl
