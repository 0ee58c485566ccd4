use Rattle.std.proofs.Common.{rules, arith, refl, w32, to_z, of_z}
use Rattle.std.proofs.Math.Facts.{to_z-of_z}
use mir.Val.{SFits}
use Rattle.listed_input.proofs.CallLaws.{first-placed}
use Rattle.listed_input.proofs.SeekLaws.{reads-record, reads-failed}
use Rattle.listed_input.proofs.records.next_record.Goals as goal

pub invariant_of-reading : goal.invariant_of-reading
invariant_of-reading g c = record {
  within = c.in-Record.ensures.within;
  short = omega (arith, c.in-Record.ensures.within, c.fetch.array_long);
  placed = (first-placed c.args.reading.now.reader c.in-Record.used c.requires).0;
  begun = (first-placed c.args.reading.now.reader c.in-Record.used c.requires).1;
}

pub returns-in-Record : goal.returns-in-Record
returns-in-Record g c =
    let unit : SFits w32 c.args.unit = search rules in
    reads-record c.args.unit (to_z w32 (of_z w32 c.args.unit)) c.args.reading.now _ c.fetch.new.line c.in-Record.used _ _ (to_z-of_z unit) refl refl c.in-Record.ensures

pub returns-in-Failed : goal.returns-in-Failed
returns-in-Failed g c =
    let unit : SFits w32 c.args.unit = search rules in
    reads-failed c.args.unit (to_z w32 (of_z w32 c.args.unit)) c.args.reading.now c.fetch.new.line _ _ (to_z-of_z unit) c.in-Failed.ensures
