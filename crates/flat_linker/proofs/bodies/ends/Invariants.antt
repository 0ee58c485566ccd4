use Rattle.std.proofs.Common.{◌≡◌, drop}
use Rattle.c_tree.specs.FlatForm.{ends}
use Rattle.flat_linker.proofs.ReturnForms.{ends_or}
use Rattle.flat_linker.proofs.bodies.ends.Given as goal

abbrev pub invariant-loop-one : goal.invariant-loop-one
invariant-loop-one l = ends l.list ≡ ends_or l.ends (drop l.one-index l.list)
