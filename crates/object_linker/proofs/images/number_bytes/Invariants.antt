use Rattle.std.proofs.Common.{◌≡◌, ◌++◌, drop}
use Rattle.c_tree.specs.Declarations.{number_bytes}
use Rattle.object_linker.proofs.images.number_bytes.Given as goal

abbrev pub invariant-loop-number : goal.invariant-loop-number
invariant-loop-number l = number_bytes l.numbers ≡ l.bytes.items ++ number_bytes (drop l.number-index l.numbers)
