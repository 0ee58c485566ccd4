use Rattle.std.proofs.Common.{◌-◌}
use Rattle.library_calls.proofs.PieceLemmas.{Collecting}
use Rattle.library_calls.proofs.copies.collect.Given as goal

abbrev pub invariant-loop : goal.invariant-loop
invariant-loop l = Collecting l.run l.fn.addresses l.fn.lengths l.count l.address l.length (l.count - l.counter) l.buffer l.used
