use Rattle.std.proofs.Common.{List, map, ap, refl}
use Rattle.f2c_outside.specs.Memory.{Named, active_of}
use Rattle.f2c_outside.specs.Entries.{named}
use Rattle.f2c_outside.proofs.ShelfLaws.{put-nothing}
use Rattle.f2c_outside.proofs.MemoryLaws.{held-same}
use Rattle.f2c_outside.proofs.memory_shelf.MemoryShelfShelf.put.Goals as goal

pub returns-then-next_fails-clause-put : goal.returns-then-next_fails-clause-put
returns-then-next_fails-clause-put c = rw (← c.self.view_is) (put-nothing c.args.piece.now _ _ refl refl)

pub returns-in-Err-clause-put : goal.returns-in-Err-clause-put
returns-in-Err-clause-put c =
    rw (← c.self.view_is)
    (put-nothing c.args.piece.now _ _
    (held-same (map named c.self.inside.entries.items) (map named c.extend_opened.new.entries.items) c.self.inside.input.items
    c.self.inside.output.items c.extend_opened.new.output.items c.self.inside.fault_text.items
    c.extend_opened.new.fault_text.items c.in-Err.ensures.files c.in-Err.ensures.output c.in-Err.ensures.fault)
    (ap (λ (files : List Named). active_of c.self.inside.opened files) c.in-Err.ensures.files))
