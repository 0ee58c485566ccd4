use Rattle.std.proofs.Common.{◌≡◌, ◌+◌, drop}
use Rattle.c_tree.specs.FlatForm.{body_of_all}
use Rattle.flat_linker.proofs.sizes.+size.Given as goal

abbrev pub invariant-statements_size-loop-one : goal.invariant-statements_size-loop-one
invariant-statements_size-loop-one l = (body_of_all l.list).size ≡ l.size + (body_of_all (drop l.one-index l.list)).size
