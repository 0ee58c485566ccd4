use Rattle.std.proofs.Common.{ℕ, List, ◌++◌, drop, sym, subst}
use Rattle.edit_rules.specs.edit_meaning.FormatGrammar.{SpellsFormat}
use Rattle.formatted_output.proofs.FrontLaws.{front-is, front-clear}
use Rattle.formatted_output.proofs.ReadLaws.{reads-short, reads-long, reads-refused, reads-early, read-into}
use Rattle.formatted_output.proofs.formats.read_format.Goals as goal

pub returns-in-Ok-check_format : goal.returns-in-Ok-check_format
returns-in-Ok-check_format c =
    let same = front-is c.args.run.now c.args.pointer c.set_front-front.result.size c.in-Ok.text.now c.set_front-front.ensures.0 c.in-Ok.ensures in
    let reads = reads-short c.args.run.now c.args.pointer c.in-Ok.text.now c.in-Ok-check_format.size same c.in-Ok-check_format.ensures c.if-size-le-FORMAT_BYTES.true in (
      reads.0,
      (
        drop c.in-Ok-check_format.size c.args.into.now,
        reads.2,
        subst (λ (front : List ℕ). SpellsFormat reads.0 (front ++ drop c.in-Ok-check_format.size c.args.into.now) (drop c.in-Ok-check_format.size c.args.into.now))
            (sym c.copy_from_slice.ensures.after) (read-into reads.0 c.in-Ok.text.now c.args.into.now c.in-Ok-check_format.size reads.1),
      ),
    )

pub returns-in-Ok-2 : goal.returns-in-Ok-2
returns-in-Ok-2 c =
    reads-long c.args.run.now c.args.pointer c.in-Ok.text.now c.in-Ok-check_format.size
    (front-is c.args.run.now c.args.pointer c.set_front-front.result.size c.in-Ok.text.now c.set_front-front.ensures.0 c.in-Ok.ensures)
    c.in-Ok-check_format.ensures c.if-size-le-FORMAT_BYTES.false

pub returns-in-Err-check_format : goal.returns-in-Err-check_format
returns-in-Err-check_format c =
    reads-refused c.args.run.now c.args.pointer c.in-Ok.text.now c.in-Err-check_format.bad.place
    (front-is c.args.run.now c.args.pointer c.set_front-front.result.size c.in-Ok.text.now c.set_front-front.ensures.0 c.in-Ok.ensures)
    c.in-Err-check_format.ensures c.if-bad-text.true

pub returns-in-Err-2 : goal.returns-in-Err-2
returns-in-Err-2 c =
    reads-early c.args.run.now c.args.pointer c.in-Ok.text.now c.in-Err-check_format.bad.place c.set_front-front.result.fault
    (front-is c.args.run.now c.args.pointer c.set_front-front.result.size c.in-Ok.text.now c.set_front-front.ensures.0 c.in-Ok.ensures)
    c.in-Err-check_format.ensures c.if-bad-text.false c.set_front-front.ensures.1

pub returns-in-Err : goal.returns-in-Err
returns-in-Err c =
    absurd (front-clear c.args.run.now c.args.pointer c.set_front-front.result.size c.in-Err.fault c.set_front-front.ensures.0 c.in-Err.ensures)
