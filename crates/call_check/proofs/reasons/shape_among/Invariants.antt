use Rattle.std.proofs.Common.{◌≡◌, drop}
use Rattle.call_shapes.specs.Disagreements.{shape_among}
use Rattle.call_check.proofs.reasons.shape_among.Given as goal

abbrev pub invariant-loop-named : goal.invariant-loop-named
invariant-loop-named l = shape_among l.name l.shapes ≡ shape_among l.name (drop l.named-index l.shapes)
