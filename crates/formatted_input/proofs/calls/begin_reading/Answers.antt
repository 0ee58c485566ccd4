use Rattle.std.proofs.Common.{rules, w32, to_z, of_z}
use Rattle.std.proofs.Math.Facts.{to_z-of_z}
use mir.Val.{SFits}
use Rattle.formatted_input.proofs.StartLaws.{reading-begins, reading-ends, reading-fails}
use Rattle.formatted_input.proofs.calls.begin_reading.Goals as goal

pub returns-in-Record : goal.returns-in-Record
returns-in-Record g c =
    let unit : SFits w32 c.args.control.unit = search rules in
    let on_error : SFits w32 c.args.control.on_error = search rules in
    let on_end : SFits w32 c.args.control.on_end = search rules in
    reading-begins c.args.control (to_z w32 (of_z w32 c.args.control.unit)) c.args.format.now c.fetch.new.line c.in-Record.used c.zero_blanks-zeros.result _ _ _ (to_z-of_z unit)
    c.zero_blanks-zeros.ensures.means
    (record { unit = to_z-of_z unit; on_error = to_z-of_z on_error; on_end = to_z-of_z on_end; walks = c.start.ensures; first = c.begin.ensures })
    c.in-Record.ensures

pub returns-in-Nothing : goal.returns-in-Nothing
returns-in-Nothing g c =
    let unit : SFits w32 c.args.control.unit = search rules in
    let on_error : SFits w32 c.args.control.on_error = search rules in
    let on_end : SFits w32 c.args.control.on_end = search rules in
    let number : SFits w32 c.in-Nothing.number = search rules in
    reading-ends c.args.control (to_z w32 (of_z w32 c.args.control.unit)) (to_z w32 (of_z w32 c.args.control.on_error)) (to_z w32 (of_z w32 c.args.control.on_end)) c.in-Nothing.number
    (to_z w32 (of_z w32 c.in-Nothing.number)) c.args.format.now c.fetch.new.line _ _ c.numbered.result c.not_begun.result
    (record { unit_is = to_z-of_z unit; error_is = to_z-of_z on_error; end_is = to_z-of_z on_end })
    (to_z-of_z number) c.not_begun.ensures c.numbered.ensures c.in-Nothing.ensures

pub returns-in-Failed : goal.returns-in-Failed
returns-in-Failed g c =
    let unit : SFits w32 c.args.control.unit = search rules in
    reading-fails c.args.control (to_z w32 (of_z w32 c.args.control.unit)) c.args.format.now c.fetch.new.line _ _ (to_z-of_z unit) c.in-Failed.ensures
