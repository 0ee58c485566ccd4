use Rattle.std.proofs.Common.{◌≡◌, drop}
use Rattle.item_emitter.specs.Knowing.{known_of}
use Rattle.unit_writer.proofs.ItemLaws.{in_front}
use Rattle.unit_writer.proofs.KeptItems.{kept_items}
use Rattle.unit_writer.proofs.emission.bound_items.Given as goal

abbrev pub invariant-loop-one : goal.invariant-loop-one
invariant-loop-one l = kept_items (known_of l.known) l.bounds ≡ in_front l.items.items (kept_items (known_of l.known) (drop l.one-index l.bounds))
