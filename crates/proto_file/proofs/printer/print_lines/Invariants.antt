use Rattle.std.proofs.Common.{◌≡◌, take}
use Rattle.prototypes.specs.PrototypeText.{prototype_text}
use Rattle.proto_file.proofs.printer.print_lines.Given as goal

abbrev pub invariant-loop-prototype : goal.invariant-loop-prototype
invariant-loop-prototype l = l.out.items ≡ prototype_text (take l.prototype-index l.prototype-items)
