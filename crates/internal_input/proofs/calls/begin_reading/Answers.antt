use Rattle.std.proofs.Common.{rules, arith, take, w32, refl}
use Rattle.std.proofs.Math.Facts.{to_z-of_z}
use mir.Val.{SFits}
use Rattle.listed_input.proofs.CallLaws.{start-place, first-placed}
use Rattle.internal_input.proofs.CallLaws.{reading-begins}
use Rattle.internal_input.proofs.calls.begin_reading.Goals as goal

pub invariant_of-result : goal.invariant_of-result
invariant_of-result c = record {
  within = c.in-Ok.ensures.1;
  short = omega (arith, c.in-Ok.ensures.1, c.fetch.array_long);
  placed = (first-placed c.start.result c.in-Ok.used c.start.ensures.stands).0;
  begun = (first-placed c.start.result c.in-Ok.used c.start.ensures.stands).1;
}

pub returns-in-Ok : goal.returns-in-Ok
returns-in-Ok c =
    let on_error : SFits w32 c.args.control.on_error = search rules in
    let on_end : SFits w32 c.args.control.on_end = search rules in
    reading-begins c.args.run.now c.args.control c.fetch.new.line c.in-Ok.used _ _ c.file_at_start-file.ensures
    (record {
      on_error = to_z-of_z on_error;
      on_end = to_z-of_z on_end;
      slashed = refl;
      place = start-place c.start.result (take c.in-Ok.used c.fetch.new.line) c.start.ensures.between c.start.ensures.stands;
    })
    c.in-Ok.ensures
