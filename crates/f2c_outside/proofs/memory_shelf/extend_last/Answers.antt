use Rattle.std.proofs.Common.{◌-◌, refl, arith}
use Rattle.f2c_outside.proofs.MemoryLaws.{grown, unchanged, on_err}
use Rattle.f2c_outside.proofs.memory_shelf.extend_last.Goals as goal

pub returns-in_err-extend_from_slice-clause-err : goal.returns-in_err-extend_from_slice-clause-err
returns-in_err-extend_from_slice-clause-err c =
    on_err c.from_residual.result
    (unchanged c.args.entries.now.items (c.len-last.result - 1) c.index_mut-entry.result.now
    (record { name = c.index_mut-entry.result.now.name; bytes = c.extend_from_slice.new.self })
    c.index_mut-entry.ensures.value refl c.in_err-extend_from_slice.ensures.items)

pub returns-clause-ok : goal.returns-clause-ok
returns-clause-ok c =
    grown c.args.entries.now.items (c.len-last.result - 1) c.index_mut-entry.result.now
    (record { name = c.index_mut-entry.result.now.name; bytes = c.extend_from_slice.new.self }) c.args.piece.now
    (omega arith) c.index_mut-entry.ensures.value refl c.in_ok-extend_from_slice.ensures.items
