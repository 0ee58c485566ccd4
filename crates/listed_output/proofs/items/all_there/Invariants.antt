use Rattle.std.proofs.Common.{List, ◌-◌}
use Rattle.c_tree.specs.edit_meaning.Listed.{ListedValue}
use Rattle.listed_output.specs.Kinds.{kind_shown}
use Rattle.listed_output.proofs.ItemLaws.{Reading}
use Rattle.listed_output.proofs.items.all_there.Given as goal

abbrev pub invariant-loop : goal.invariant-loop
invariant-loop l =
    (read : List ListedValue) × Reading (kind_shown l.list.kind) l.run l.list.size l.fn.first l.list.count l.pointer (l.list.count - l.counter) read
