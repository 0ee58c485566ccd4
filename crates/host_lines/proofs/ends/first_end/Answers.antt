use Rattle.std.proofs.Common.{suc, take, drop, sym}
use Rattle.host_lines.proofs.LineLaws.{split-at, long-front}
use Rattle.host_lines.proofs.ends.first_end.Goals as goal

pub returns-then-byte-eq10 : goal.returns-then-byte-eq10
returns-then-byte-eq10 c =
    record {
      front = take c.loop-number.number c.args.bytes.now;
      back = drop (suc c.loop-number.number) c.args.bytes.now;
      is = split-at c.args.bytes.now c.loop-number.number 10 c.loop-number-test.true (sym c.if-byte-eq10.true);
      at = long-front c.args.bytes.now c.loop-number.number c.loop-number-test.true;
      none = c.loop-number.invariant;
    }
