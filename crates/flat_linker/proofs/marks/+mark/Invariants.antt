use Rattle.std.proofs.Common.{drop}
use Rattle.flat_linker.proofs.MarkLaws.{Finishes}
use Rattle.flat_linker.proofs.marks.+mark.Given as goal

abbrev pub invariant-mark_statements-loop-one : goal.invariant-mark_statements-loop-one
invariant-mark_statements-loop-one l = Finishes l.list (drop l.one-index l.list) l.position l.behind l.initial.marks l.marks
