use Rattle.std.proofs.Common.{take}
use Rattle.decl_table.specs.UnitFacts.{DefinesConstants}
use Rattle.decl_table.proofs.constants.define_items.Given as goal

abbrev pub invariant-loop-item : goal.invariant-loop-item
invariant-loop-item l = DefinesConstants l.unit l.initial.constants l.constants (take l.item-index l.items)
