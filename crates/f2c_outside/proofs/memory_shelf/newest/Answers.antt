use Rattle.std.proofs.Common.{◌≡◌, true, false, arith}
use Rattle.std.specs.Prelude.{bytes_eq}
use Rattle.f2c_outside.proofs.MemoryLaws.{newest-hit-next, newest-miss-next}
use Rattle.f2c_outside.proofs.memory_shelf.newest.Goals as goal
use Rattle.f2c_outside.proofs.memory_shelf.newest.Goals.{then-eq, else-eq}

pub loop-number-preserved : goal.loop-number-preserved
loop-number-preserved c =
    elim c.if-eq.branch [
      | then-eq w ↦
          let same : bytes_eq c.args.name.now c.index-entries-number.result.name ≡ true = cc
          in rw w.found-is
          (newest-hit-next c.args.entries.now c.loop-number.number c.index-entries-number.result c.args.name.now (omega arith)
          c.index-entries-number.is same)
      | else-eq w ↦
          let differ : bytes_eq c.args.name.now c.index-entries-number.result.name ≡ false = cc
          in rw w.found-is
          (newest-miss-next c.args.entries.now c.loop-number.number c.index-entries-number.result c.args.name.now
          c.loop-number.found (omega arith) c.index-entries-number.is differ c.loop-number.invariant)
    ]
