use Rattle.std.proofs.Common.{rules, w32, to_z, of_z}
use Rattle.std.proofs.Math.Facts.{to_z-of_z}
use mir.Val.{SFits}
use Rattle.c_tree.specs.FormatsGiven.{format_at}
use Rattle.formatted_input.proofs.StartLaws.{under-read, under-unread}
use Rattle.formatted_input.proofs.calls.start_under.Goals as goal

pub returns-in-Ok-true : goal.returns-in-Ok-true
returns-in-Ok-true g c =
    under-read (format_at c.args.run.now c.args.given) c.args.run.now c.args.control _ _ c.read_format.new.into c.in-Ok-true.field-0 c.begin_reading.result c.in-Ok-true.field-0-test
    c.in-Ok-true.ensures c.begin_reading.ensures

pub returns-in-Ok-false : goal.returns-in-Ok-false
returns-in-Ok-false g c =
    let on_error : SFits w32 c.args.control.on_error = search rules in
    let on_end : SFits w32 c.args.control.on_end = search rules in
    under-unread (format_at c.args.run.now c.args.given) c.args.run.now c.args.control (to_z w32 (of_z w32 c.args.control.on_error)) (to_z w32 (of_z w32 c.args.control.on_end)) _
    c.read_format.new.into c.in-Ok-false.field-0 c.numbered.result c.not_begun.result c.in-Ok-false.field-0-test (to_z-of_z on_error) (to_z-of_z on_end) c.not_begun.ensures c.numbered.ensures
    c.in-Ok-false.ensures
