-- What functions of the library take and give, in the table of the code (CSTR 149, appendix on the run time library).
use Rattle.std.specs.Prelude.{◌≡◌, ℕ, Bool, true, List, map, None, Result, Ok, Err, slice_get}
use Rattle.c_tree.specs.simulation.Machine.{Breaks}
use Rattle.c_tree.specs.declared.outcome.CValue.{CValue}
use Rattle.c_tree.specs.declared.outcome.CFault.{CFault}
use Rattle.c_tree.specs.Faults.{Faults}
use Rattle.c_tree.specs.World.{World}
use Rattle.c_tree.specs.Builtins as builtins
use Rattle.c_tree.specs.Builtins.{Signature, signatures}
use Rattle.c_tree.specs.Steps.{Wants, View, may_give, library_called}
use Rattle.item_deeds.specs.Calls.{call_by}
use Rattle.run_library.specs.Signatures.{IsCall}
use Rattle.program_runner.specs.declared.signatures.Taken.{Taken}
use Rattle.program_runner.specs.declared.signatures.Taken.TheVariants as kind
use Rattle.program_runner.specs.declared.signatures.LibrarySignature.{LibrarySignature}

abbrev pub taken_of : Taken → builtins.Taken
taken_of kind.Number = builtins.ANumber
taken_of kind.Pointer = builtins.APointer

-- a signature without its name
pub record Shape : Type 0 where
  pub kinds : List builtins.Taken
  pub gives : Bool

abbrev pub shape_of : LibrarySignature → Shape
shape_of signature = record { kinds = map taken_of signature.takes.now; gives = signature.gives }

abbrev pub listed_shape : Signature → Shape
listed_shape signature = record { kinds = signature.takes; gives = signature.gives }

-- a call may be made, whose value may be used so; or none is made, by this fault
abbrev pub Allows : ℕ → List CValue → Wants → Result (Unit {0}) CFault → Type 0
Allows number values wants (Ok done) = (call : IsCall number values) × (may_give call.signature.gives wants ≡ true)
Allows number values wants (Err fault) =
    (call_by wants values (slice_get signatures number) ≡ None)
    × ((view : View) → (world : World) → library_called view world wants values (slice_get signatures number) ≡ Breaks (Faults fault))
