use Rattle.std.proofs.Common.{◌≡◌, drop}
use Rattle.plain_procedures.specs.ToldHeadings as spec
use Rattle.plain_procedures.proofs.dummies.stand_once.Given as goal

abbrev pub invariant-loop-index : goal.invariant-loop-index
invariant-loop-index l = spec.stand_once l.dummies ≡ spec.stand_once (drop l.index l.dummies)
