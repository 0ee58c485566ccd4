use Rattle.std.proofs.Common.{◌≡◌, ◌-◌, length, drop, reverse}
use Rattle.name_table.specs.Named.{labelled}
use Rattle.loop_ranges.specs.LoopEnds.{is_named, closers_from, ends_from}
use Rattle.loop_ranges.proofs.ends.ends_backwards.Given as goal

abbrev pub invariant-loop-behind : goal.invariant-loop-behind
invariant-loop-behind l = record {
  ends : reverse l.ends.items ≡ ends_from (labelled l.labels.places) (is_named l.labels) (length l.statements - l.behind) (drop (length l.statements - l.behind) l.statements);
  closers : reverse l.closers.items ≡ closers_from (is_named l.labels) (length l.statements - l.behind) (drop (length l.statements - l.behind) l.statements);
}
