-- Calls of which more is to be counted than 64 bits tell.
use Rattle.std.proofs.Common.{◌≡◌, ℤ, List, Option, sym, subst}
use Rattle.c_tree.specs.run_state.Units.{Units}
use Rattle.c_tree.specs.Objects.{Object}
use Rattle.c_tree.specs.World.{World, Transfer}
use Rattle.item_deeds.specs.Deeds.{world_of}
use Rattle.run_library.specs.Replies.{CountsOn}

-- the same of what is on the unit where the call is
pub counts-as : {On Other : World → ℤ → Type 0} {stood : Units → Option Transfer → Type 0} {IsFar : ℤ → Type 0} (objects objects' : List Object) → objects' ≡ objects →
    ((units : Units) → (transfer : Option Transfer) → (unit : ℤ) → On (world_of objects units transfer) unit → Other (world_of objects units transfer) unit) →
    CountsOn On objects' stood IsFar → CountsOn Other objects stood IsFar
counts-as {On} {Other} {stood} {IsFar} objects objects' same makes counts = record {
  unit = counts.unit;
  on = λ units transfer stands.
      makes units transfer counts.unit (subst (λ (one : List Object). On (world_of one units transfer) counts.unit) same (counts.on units transfer stands));
  far = counts.far;
}
