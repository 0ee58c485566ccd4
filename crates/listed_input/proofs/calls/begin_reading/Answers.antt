use Rattle.std.proofs.Common.{rules, arith, take, w32, to_z, of_z, refl}
use Rattle.std.proofs.Math.Facts.{to_z-of_z}
use mir.Val.{SFits}
use Rattle.listed_input.proofs.CallLaws.{start-place, first-placed, reading-begins, reading-ends, reading-fails}
use Rattle.listed_input.proofs.calls.begin_reading.Goals as goal

pub invariant_of-result : goal.invariant_of-result
invariant_of-result g c = record {
  within = c.in-Record.ensures.within;
  short = omega (arith, c.in-Record.ensures.within, c.fetch.array_long);
  placed = (first-placed c.start.result c.in-Record.used c.start.ensures.stands).0;
  begun = (first-placed c.start.result c.in-Record.used c.start.ensures.stands).1;
}

pub returns-in-Record : goal.returns-in-Record
returns-in-Record g c objects =
    let unit : SFits w32 c.args.control.unit = search rules in
    let on_error : SFits w32 c.args.control.on_error = search rules in
    let on_end : SFits w32 c.args.control.on_end = search rules in
    reading-begins objects c.args.control (to_z w32 (of_z w32 c.args.control.unit)) c.fetch.new.line c.in-Record.used _ _ _ (to_z-of_z unit)
    (record {
      unit = to_z-of_z unit;
      on_error = to_z-of_z on_error;
      on_end = to_z-of_z on_end;
      slashed = refl;
      place = start-place c.start.result (take c.in-Record.used c.fetch.new.line) c.start.ensures.between c.start.ensures.stands;
    })
    c.in-Record.ensures

pub returns-in-Nothing : goal.returns-in-Nothing
returns-in-Nothing g c objects =
    let unit : SFits w32 c.args.control.unit = search rules in
    let on_error : SFits w32 c.args.control.on_error = search rules in
    let on_end : SFits w32 c.args.control.on_end = search rules in
    let number : SFits w32 c.in-Nothing.number = search rules in
    reading-ends objects c.args.control (to_z w32 (of_z w32 c.args.control.unit)) (to_z w32 (of_z w32 c.args.control.on_error)) (to_z w32 (of_z w32 c.args.control.on_end))
    c.in-Nothing.number (to_z w32 (of_z w32 c.in-Nothing.number)) (to_z-of_z number) c.numbered.result c.not_begun.result c.fetch.new.line _ _
    (record { unit_is = to_z-of_z unit; error_is = to_z-of_z on_error; end_is = to_z-of_z on_end })
    c.numbered.ensures c.not_begun.ensures c.in-Nothing.ensures

pub returns-in-Failed : goal.returns-in-Failed
returns-in-Failed g c objects =
    let unit : SFits w32 c.args.control.unit = search rules in
    reading-fails objects c.args.control (to_z w32 (of_z w32 c.args.control.unit)) c.fetch.new.line _ _ (to_z-of_z unit) c.in-Failed.ensures
