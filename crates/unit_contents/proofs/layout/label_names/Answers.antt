use Rattle.std.proofs.Common.{arith}
use Rattle.unit_contents.proofs.LayoutLaws.{names_end}
use Rattle.unit_contents.proofs.layout.label_names.Goals as goal

pub returns : goal.returns
returns c = names_end c.args.text.now c.loop-position.position c.loop-position.names.items (omega arith) c.loop-position.invariant
