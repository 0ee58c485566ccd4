use Rattle.std.proofs.Common.{◌∙◌, ap, refl, arith}
use Rattle.std.specs.Prelude.{Ok}
use Rattle.internal_output.specs.Files.{file_of}
use Rattle.listed_input.specs.Reading.{place_of}
use Rattle.internal_input.specs.Searching.{GoesFurther}
use Rattle.internal_input.proofs.ItemSteps.{search_at, loop-starts, loop-goes, loop-reads, loop-ends, done-within}
use Rattle.internal_input.proofs.items.read_item.Goals as goal

pub loop-behind-init : goal.loop-behind-init
loop-behind-init c = (omega arith, refl, loop-starts c.args.item c.args.reading.now c.args.run.now _ c.args.buffer.now)

pub loop-behind-preserved : goal.loop-behind-preserved
loop-behind-preserved c =
    let goes : GoesFurther (search_at c.args.item (place_of c.args.reading.now) c.args.run.now (file_of c.args.file.now)) c.loop-behind.reading (file_of c.loop-behind.file) c.take_item.new.reading
    c.take_item.new.run (file_of c.take_item.new.file) c.take_item.new.buffer c.in-Ok-GoesOn.behind =
    loop-goes c.args.item (place_of c.args.reading.now) c.args.run.now c.loop-behind.run (file_of c.args.file.now) c.loop-behind.reading c.next-given.new.self c.take_item.new.reading
    c.take_item.new.run (file_of c.loop-behind.file) (file_of c.take_item.new.file) c.loop-behind.buffer c.take_item.new.buffer c.loop-behind.done c.in-Ok-GoesOn.behind c.next-given.result _
    c.take_item.result c.loop-behind.invariant.1 c.kind_read-kind.ensures c.next-given.ensures c.loop-behind.invariant.2 c.take_item.ensures.steps
    (c.in-Ok-GoesOn.is ∙ ap Ok c.in-Ok-GoesOn.field-0-is) in (
      done-within (search_at c.args.item (place_of c.args.reading.now) c.args.run.now (file_of c.args.file.now)) c.take_item.new.reading (file_of c.take_item.new.file) c.take_item.new.buffer
          c.in-Ok-GoesOn.behind goes.seeking,
      goes.unchanged,
      goes.seeking,
    )

pub loop-behind-smaller : goal.loop-behind-smaller
loop-behind-smaller c =
    let goes : GoesFurther (search_at c.args.item (place_of c.args.reading.now) c.args.run.now (file_of c.args.file.now)) c.loop-behind.reading (file_of c.loop-behind.file) c.take_item.new.reading
    c.take_item.new.run (file_of c.take_item.new.file) c.take_item.new.buffer c.in-Ok-GoesOn.behind =
    loop-goes c.args.item (place_of c.args.reading.now) c.args.run.now c.loop-behind.run (file_of c.args.file.now) c.loop-behind.reading c.next-given.new.self c.take_item.new.reading
    c.take_item.new.run (file_of c.loop-behind.file) (file_of c.take_item.new.file) c.loop-behind.buffer c.take_item.new.buffer c.loop-behind.done c.in-Ok-GoesOn.behind c.next-given.result _
    c.take_item.result c.loop-behind.invariant.1 c.kind_read-kind.ensures c.next-given.ensures c.loop-behind.invariant.2 c.take_item.ensures.steps
    (c.in-Ok-GoesOn.is ∙ ap Ok c.in-Ok-GoesOn.field-0-is) in goes.less

pub returns-in-Ok-Read-clause-reads : goal.returns-in-Ok-Read-clause-reads
returns-in-Ok-Read-clause-reads c =
    loop-reads c.args.item (place_of c.args.reading.now) c.args.run.now c.loop-behind.run (file_of c.args.file.now) c.loop-behind.reading c.next-given.new.self c.take_item.new.reading
    c.take_item.new.run (file_of c.loop-behind.file) (file_of c.take_item.new.file) c.loop-behind.buffer c.take_item.new.buffer c.loop-behind.done c.next-given.result _
    c.take_item.result c.in-Ok-Read.read c.loop-behind.invariant.1 c.kind_read-kind.ensures c.next-given.ensures c.loop-behind.invariant.2 c.take_item.ensures.steps
    (c.in-Ok-Read.is ∙ ap Ok c.in-Ok-Read.field-0-is)

pub returns-in-Err-clause-reads : goal.returns-in-Err-clause-reads
returns-in-Err-clause-reads c =
    loop-ends c.args.item (place_of c.args.reading.now) c.args.run.now c.loop-behind.run (file_of c.args.file.now) c.loop-behind.reading c.next-given.new.self c.take_item.new.reading
    c.take_item.new.run (file_of c.loop-behind.file) (file_of c.take_item.new.file) c.loop-behind.buffer c.take_item.new.buffer c.loop-behind.done c.next-given.result _
    c.take_item.result c.in-Err.end c.loop-behind.invariant.1 c.kind_read-kind.ensures c.next-given.ensures c.loop-behind.invariant.2 c.take_item.ensures.steps c.in-Err.is
