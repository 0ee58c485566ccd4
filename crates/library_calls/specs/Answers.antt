-- What a call of the library answers, as the meaning of C texts has it (CSTR 149, appendix on the run time library). It changes the objects alone:
-- whatever the units are and whichever transfer is in progress, they stay.
use Rattle.std.specs.Prelude.{◌≡◌, List, Option, Result, Ok, Err, MatchResult}
use Rattle.c_tree.specs.run_state.Units.{Units}
use Rattle.c_tree.specs.declared.outcome.CValue.{CValue}
use Rattle.c_tree.specs.declared.outcome.CFault.{CFault}
use Rattle.c_tree.specs.Faults.{failing}
use Rattle.c_tree.specs.Objects.{Object}
use Rattle.c_tree.specs.World.{World, Transfer, Reply}
use Rattle.c_tree.specs.Builtins.{Builtin}
use Rattle.c_tree.specs.Library.{library}

abbrev pub world_of : List Object → Units → Option Transfer → World
world_of objects units transfer = record { objects = objects; units = units; transfer = transfer }

-- a call gives this reply and leaves the objects so, or it has a fault and leaves them as they were
abbrev pub Answers : {A : Type 0} → (A → World → Reply) → Builtin → List CValue → List Object → List Object → Result A CFault → Type 0
Answers reply builtin arguments old new (Ok value) =
    (units : Units) → (transfer : Option Transfer) → library builtin (world_of old units transfer) arguments ≡ Ok (reply value (world_of new units transfer))
Answers reply builtin arguments old new (Err fault) =
    ((units : Units) → (transfer : Option Transfer) → library builtin (world_of old units transfer) arguments ≡ failing fault) × (new ≡ old)
