use Rattle.std.proofs.Common.{◌≡◌}
use Rattle.lowered_tree.specs.Shapes.{pures_of}
use Rattle.item_emitter.specs.Knowing.{known_of}
use Rattle.item_emission.specs.NamedEmission.{argument_exprs}
use Rattle.item_emitter.proofs.ArgumentWalks.{arguments_left}
use Rattle.item_emitter.proofs.ValueWalks.{behind}
use Rattle.item_emitter.proofs.arguments.arguments.Given as goal

abbrev pub invariant-loop-source : goal.invariant-loop-source
invariant-loop-source l = argument_exprs (known_of l.known) (pures_of l.sources) ≡ behind l.row.items (arguments_left (known_of l.known) l.sources l.source-index)
