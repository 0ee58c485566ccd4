use Rattle.std.proofs.Common.{refl, sym, arith}
use Rattle.loop_ranges.proofs.CrossingLemmas.{ended_by, ended_none}
use Rattle.loop_ranges.proofs.crossing.has_ended.Goals as goal

pub returns-in-len1-up : goal.returns-in-len1-up
returns-in-len1-up c = sym (ended_by c.args.place c.args.open_ranges.now _ _ (omega arith) refl)

pub returns-in-empty : goal.returns-in-empty
returns-in-empty c = sym (ended_none c.args.place c.args.open_ranges.now (omega arith))
