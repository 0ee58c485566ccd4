-- Calls that stand where none may (ANSI X3.9-1978, 12.8).
use Rattle.std.proofs.Common.{◌≡◌, List, [], ◌∷◌, Some, None, refl}
use Rattle.c_tree.specs.run_state.Units.{Units}
use Rattle.c_tree.specs.declared.outcome.CValue.{CValue}
use Rattle.c_tree.specs.declared.outcome.CFault.TheVariants.{Library}
use Rattle.c_tree.specs.Faults.{failing}
use Rattle.c_tree.specs.Objects.{Object}
use Rattle.c_tree.specs.World.{Transfer}
use Rattle.c_tree.specs.TransferStarts.{starts}
use Rattle.c_tree.specs.TransferCalls.{listed_items, formatted_items, ends}
use Rattle.c_tree.specs.Builtins.{TransferKind, Begin, Finish, do_lio, do_fio}
use Rattle.c_tree.specs.Library.{library}
use Rattle.unit_answers.specs.Answers.{world_with}

-- a start in a transfer
pub start-inside : (kind : TransferKind) (objects : List Object) (units : Units) (transfer : Transfer) (pointer : CValue) →
    library (Begin kind) (world_with objects (Some transfer) units) (pointer ∷ []) ≡ failing Library
unfolding library starts
start-inside kind objects units transfer pointer = refl

-- items and an end outside one
pub listed-items-outside : (objects : List Object) (units : Units) (kind count first size : CValue) →
    library do_lio (world_with objects None units) (kind ∷ count ∷ first ∷ size ∷ []) ≡ failing Library
unfolding library listed_items
listed-items-outside objects units kind count first size = refl

pub formatted-items-outside : (objects : List Object) (units : Units) (count first size : CValue) →
    library do_fio (world_with objects None units) (count ∷ first ∷ size ∷ []) ≡ failing Library
unfolding library formatted_items
formatted-items-outside objects units count first size = refl

pub end-outside : (kind : TransferKind) (objects : List Object) (units : Units) → library (Finish kind) (world_with objects None units) [] ≡ failing Library
unfolding library ends
end-outside kind objects units = refl
