use Rattle.std.proofs.Common.{map, subst, sym, OnOk}
use Rattle.std.proofs.lemmas.Result.{on_ok_weaker}
use Rattle.f2c_outside.specs.Memory.{IsExtended}
use Rattle.f2c_outside.specs.Entries.{named}
use Rattle.f2c_outside.specs.declared.memory_shelf.Opened.{Opened}
use Rattle.f2c_outside.proofs.MemoryLaws.{last_extended}
use Rattle.f2c_outside.proofs.memory_shelf.extend_opened.Goals as goal

pub returns-in-Last-clause-ok : goal.returns-in-Last-clause-ok
returns-in-Last-clause-ok c =
    subst
    (λ (into : Opened).
    OnOk c.extend_last.result
    (IsExtended into c.args.piece.now (map named c.args.entries.now.items) (map named c.extend_last.new.entries.items)
    c.args.output.now.items c.args.output.now.items c.args.fault_text.now.items c.args.fault_text.now.items))
    (sym c.in-Last.is)
    (on_ok_weaker c.extend_last.result
    (last_extended c.args.piece.now (map named c.args.entries.now.items) (map named c.extend_last.new.entries.items)
    c.args.output.now.items c.args.fault_text.now.items)
    c.extend_last.ensures.ok)
