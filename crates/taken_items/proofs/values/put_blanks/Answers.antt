use Rattle.std.proofs.Common.{◌+◌, refl, arith}
use Rattle.std.proofs.lemmas.List.{take-replicate}
use Rattle.item_deeds.proofs.FormLaws.{same-objects}
use Rattle.listed_input.proofs.StoreLaws.{text-stored-forms, forms-then}
use Rattle.taken_items.proofs.RoomLaws.{near-less}
use Rattle.taken_items.proofs.PadLaws.{padding-starts, padding-goes_on, padding-faulty, padding-ends}
use Rattle.taken_items.proofs.values.put_blanks.Goals as goal

pub loop-filled-init : goal.loop-filled-init
loop-filled-init c = (omega arith, same-objects c.args.run.now, padding-starts c.args.pointer c.args.done c.args.run.now)

pub place_behind-place-requires : goal.place_behind-place-requires
place_behind-place-requires c =
    near-less c.args.pointer (c.args.done + c.loop-filled.filled) (c.args.done + c.args.blanks) (omega (arith, c.loop-filled-test.true)) c.requires.near

pub loop-filled-preserved : goal.loop-filled-preserved
loop-filled-preserved c = (
  omega (arith, c.min-count.ensures, c.loop-filled.invariant.0),
  forms-then c.args.run.now c.loop-filled.run c.put_text.new.self c.loop-filled.invariant.1
      (text-stored-forms c.loop-filled.run c.put_text.new.self c.place_behind-place.result _ c.in-Ok.ensures),
  padding-goes_on c.args.pointer c.place_behind-place.result c.args.done c.loop-filled.filled _ c.min-count.result c.args.run.now c.loop-filled.run c.put_text.new.self _
      c.place_behind-place.ensures (take-replicate c.min-count.result 64 32 (omega (arith, c.min-count.ensures))) refl c.in-Ok.ensures c.loop-filled.invariant.2,
)

pub returns-in-Err-clause-pads : goal.returns-in-Err-clause-pads
returns-in-Err-clause-pads c =
    padding-faulty c.args.pointer c.place_behind-place.result c.args.done c.loop-filled.filled c.min-count.result c.args.blanks c.args.run.now c.loop-filled.run _ c.in-Err.fault
    c.place_behind-place.ensures (take-replicate c.min-count.result 64 32 (omega (arith, c.min-count.ensures))) (omega (arith, c.min-count.ensures, c.loop-filled.invariant.0))
    c.in-Err.ensures.0 c.loop-filled.invariant.2

pub returns-clause-pads : goal.returns-clause-pads
returns-clause-pads c =
    padding-ends c.args.pointer c.args.done c.loop-filled.filled c.args.blanks c.args.run.now c.loop-filled.run (omega (arith, c.loop-filled-test.false, c.loop-filled.invariant.0))
    c.loop-filled.invariant.2
