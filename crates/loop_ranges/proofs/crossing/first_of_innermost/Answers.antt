use Rattle.std.proofs.Common.{refl, sym, arith}
use Rattle.loop_ranges.proofs.CrossingLemmas.{first_by, first_none}
use Rattle.loop_ranges.proofs.crossing.first_of_innermost.Goals as goal

pub returns-in-len1-up : goal.returns-in-len1-up
returns-in-len1-up c = sym (first_by c.args.open_ranges.now _ _ (omega arith) refl)

pub returns-in-empty : goal.returns-in-empty
returns-in-empty c = sym (first_none c.args.open_ranges.now (omega arith))
