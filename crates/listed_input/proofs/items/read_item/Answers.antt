use Rattle.std.proofs.Common.{rules, arith, ◌∙◌, ap, w32, to_z, of_z}
use Rattle.std.specs.Prelude.{Ok}
use Rattle.std.proofs.Math.Facts.{to_z-of_z}
use mir.Val.{SFits}
use Rattle.item_deeds.proofs.FormLaws.{same-objects}
use Rattle.listed_input.specs.Reading.{place_of}
use Rattle.listed_input.proofs.StoreLaws.{forms-then}
use Rattle.listed_input.proofs.StepLaws.{loop-starts, loop-goes, loop-reads, loop-ends, loop-uncounted, done-within}
use Rattle.listed_input.proofs.items.read_item.Goals as goal

pub loop-init : goal.loop-init
loop-init g c = (
  omega arith,
  same-objects c.args.run.now,
  loop-starts (to_z w32 (of_z w32 c.args.unit)) c.args.item c.args.reading.now c.args.run.now _,
)

pub loop-preserved : goal.loop-preserved
loop-preserved g c =
    let seeking = loop-goes (to_z w32 (of_z w32 c.args.unit)) c.args.item (place_of c.args.reading.now) c.args.run.now _ c.loop.counter c.loop.reading c.next-given.new.self
    c.take_item.new.reading c.loop.run c.take_item.new.run _ _ c.loop.done c.in-Ok-GoesOn.behind c.next-given.result _ c.take_item.result c.kind_read-kind.ensures c.next-given.ensures
    c.loop.invariant.2 c.take_item.ensures.steps (c.in-Ok-GoesOn.is ∙ ap Ok c.in-Ok-GoesOn.field-0-is) in (
      done-within _ c.take_item.new.reading c.take_item.new.run _ c.in-Ok-GoesOn.behind seeking,
      forms-then c.args.run.now c.loop.run c.take_item.new.run c.loop.invariant.1 c.take_item.ensures.forms,
      seeking,
    )

pub returns-in-Ok-Read-clause-reads : goal.returns-in-Ok-Read-clause-reads
returns-in-Ok-Read-clause-reads g c =
    let unit : SFits w32 c.args.unit = search rules in
    loop-reads c.args.unit (to_z w32 (of_z w32 c.args.unit)) c.args.item (place_of c.args.reading.now) c.args.run.now _ c.loop.counter c.loop.reading c.next-given.new.self
    c.take_item.new.reading c.loop.run c.take_item.new.run _ _ c.loop.done c.next-given.result _ c.take_item.result c.in-Ok-Read.read (to_z-of_z unit) c.kind_read-kind.ensures
    c.next-given.ensures c.loop.invariant.2 c.take_item.ensures.steps (c.in-Ok-Read.is ∙ ap Ok c.in-Ok-Read.field-0-is)

pub returns-in-Err-clause-reads : goal.returns-in-Err-clause-reads
returns-in-Err-clause-reads g c =
    let unit : SFits w32 c.args.unit = search rules in
    loop-ends c.args.unit (to_z w32 (of_z w32 c.args.unit)) c.args.item (place_of c.args.reading.now) c.args.run.now _ c.loop.counter c.loop.reading c.next-given.new.self
    c.take_item.new.reading c.loop.run c.take_item.new.run _ _ c.loop.done c.next-given.result _ c.take_item.result c.in-Err.end (to_z-of_z unit) c.kind_read-kind.ensures
    c.next-given.ensures c.loop.invariant.2 c.take_item.ensures.steps c.in-Err.is

pub returns-clause-reads : goal.returns-clause-reads
returns-clause-reads g c =
    let unit : SFits w32 c.args.unit = search rules in
    loop-uncounted c.args.unit (to_z w32 (of_z w32 c.args.unit)) c.args.item (place_of c.args.reading.now) c.args.run.now _ c.loop.counter c.loop.reading c.loop.run _ c.loop.done (omega (arith, c.loop-test.false)) (to_z-of_z unit)
    c.loop.invariant.2
