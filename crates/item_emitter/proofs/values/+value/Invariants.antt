use Rattle.std.proofs.Common.{◌≡◌, drop}
use Rattle.lowered_tree.specs.Shapes.{pures_of}
use Rattle.item_emitter.specs.Knowing.{known_of}
use Rattle.item_emission.specs.NamedEmission.{value_exprs}
use Rattle.item_emitter.proofs.ValueWalks.{behind}
use Rattle.item_emitter.proofs.values.+value.Given as goal

abbrev pub invariant-values-loop-source : goal.invariant-values-loop-source
invariant-values-loop-source l = value_exprs (known_of l.known) (pures_of l.sources) ≡ behind l.exprs.items (value_exprs (known_of l.known) (pures_of (drop l.source-index l.sources)))
