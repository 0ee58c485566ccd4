use Rattle.run_bytes.specs.Accesses.{access_of}
use Rattle.library_calls.proofs.CopyLemmas.{long-in-values, long-in-bytes, long-at-null, long-elsewhere}
use Rattle.library_calls.proofs.copies.too_long.Goals as goal

pub returns-in-Some : goal.returns-in-Some
returns-in-Some c size text room longer =
    long-in-values c.args.run.now c.args.target c.in-Pointer.object c.in-Pointer.offset size text (access_of c.in-Some.field-0) c.in-Pointer.is c.in-Some.ensures longer

pub returns-in-None : goal.returns-in-None
returns-in-None c size text room longer =
    long-in-bytes c.args.run.now c.args.target c.in-Pointer.object c.in-Pointer.offset size text c.in-Pointer.is c.in-None.ensures room longer

pub returns-in-Null : goal.returns-in-Null
returns-in-Null c size text room longer = long-at-null c.args.run.now c.args.target size text c.in-Null.is longer

pub returns-in_default : goal.returns-in_default
returns-in_default c size text room longer =
    long-elsewhere c.args.run.now c.args.target size text c.in_default.not-Pointer c.in_default.not-Null longer
