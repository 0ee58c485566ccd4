use Rattle.std.proofs.Common.{◌∙◌, arith}
use Rattle.source_files.proofs.ListLemmas.{any_default}
use Rattle.translate_command.proofs.WriteLemmas.{at_begin, behind_one, at_end, stopped_at}
use Rattle.translate_command.proofs.writing.write_texts.Goals as goal

pub loop-number-init : goal.loop-number-init
loop-number-init g c = (omega arith, omega arith, at_begin c.args.places.now c.args.texts.now (g.H.Shelf.state c.args.shelf.now))

pub returns-in-Err-clause-err : goal.returns-in-Err-clause-err
returns-in-Err-clause-err g c =
    stopped_at c.args.places.now c.args.texts.now c.loop-number.number c.index-places-number.result c.as_slice.result.now (g.H.Shelf.state c.args.shelf.now)
    (g.H.Shelf.state c.loop-number.shelf) (g.H.Shelf.state c.write_place.new.shelf) c.loop-number-test.true c.if-number-texts.true
    (c.index-places-number.is ∙ any_default c.args.places.now c.loop-number.number _ c.index-places-number.result c.loop-number-test.true)
    (c.as_slice.ensures ∙ (c.index-texts-number.is ∙ any_default c.args.texts.now c.loop-number.number _ c.as_slice.result.now c.if-number-texts.true))
    c.loop-number.invariant.2 c.in-Err.ensures.err

pub loop-number-preserved : goal.loop-number-preserved
loop-number-preserved g c =
    let within = c.loop-number-test.true in
    let few = c.if-number-texts.true in (
      omega (arith, within),
      omega (arith, few),
      behind_one c.args.places.now c.args.texts.now c.loop-number.number c.index-places-number.result c.as_slice.result.now (g.H.Shelf.state c.args.shelf.now)
          (g.H.Shelf.state c.loop-number.shelf) (g.H.Shelf.state c.write_place.new.shelf) c.loop-number-test.true c.if-number-texts.true
          (c.index-places-number.is ∙ any_default c.args.places.now c.loop-number.number _ c.index-places-number.result c.loop-number-test.true)
          (c.as_slice.ensures ∙ (c.index-texts-number.is ∙ any_default c.args.texts.now c.loop-number.number _ c.as_slice.result.now c.if-number-texts.true))
          c.loop-number.invariant.2 c.in-Ok.ensures.ok,
    )

pub returns-else-number-texts-clause-ok : goal.returns-else-number-texts-clause-ok
returns-else-number-texts-clause-ok g c =
    let past = c.if-number-texts.false in
    at_end c.args.places.now c.args.texts.now c.loop-number.number (g.H.Shelf.state c.args.shelf.now) (g.H.Shelf.state c.loop-number.shelf) c.loop-number.invariant.0
    c.loop-number.invariant.1 (λ within few. omega (arith, past, few)) c.loop-number.invariant.2

pub returns-after-loop-number-clause-ok : goal.returns-after-loop-number-clause-ok
returns-after-loop-number-clause-ok g c =
    let past = c.loop-number-test.false in
    at_end c.args.places.now c.args.texts.now c.loop-number.number (g.H.Shelf.state c.args.shelf.now) (g.H.Shelf.state c.loop-number.shelf) c.loop-number.invariant.0
    c.loop-number.invariant.1 (λ within few. omega (arith, past, within)) c.loop-number.invariant.2
