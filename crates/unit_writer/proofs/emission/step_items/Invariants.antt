use Rattle.std.proofs.Common.{◌≡◌, drop}
use Rattle.item_emitter.specs.Knowing.{known_of}
use Rattle.lowered_tree.specs.Shapes.{steps_of}
use Rattle.unit_writer.specs.Functions.{kinds_at}
use Rattle.named_mains.specs.NamedMains.{items_from}
use Rattle.unit_writer.proofs.ItemLaws.{in_front}
use Rattle.unit_writer.proofs.emission.step_items.Given as goal

abbrev pub invariant-loop-position : goal.invariant-loop-position
invariant-loop-position l =
    in_front l.initial.items.items (items_from (known_of l.known) (kinds_at l.kinds) l.start (steps_of (drop l.start l.steps)))
    ≡ in_front l.items.items (items_from (known_of l.known) (kinds_at l.kinds) l.position (steps_of (drop l.position l.steps)))
