use Rattle.listed_output.specs.Kinds.{kind_shown}
use Rattle.internal_output.proofs.PutLaws.{PuttingBytes}
use Rattle.internal_output.proofs.puts.put_items.Given as goal

-- the items so far are put
abbrev pub invariant-loop : goal.invariant-loop
invariant-loop l =
    PuttingBytes (kind_shown l.list.kind) l.list.size l.list.count l.counter l.done l.bytes l.fn.making.writer l.fn.making.line l.making.writer l.making.line l.fn.file l.fn.run l.file l.run
