use Rattle.std.proofs.Common.{false, ap, ◌∙◌, arith}
use Rattle.std.specs.Prelude.{get_or}
use Rattle.std.proofs.lemmas.List.{length-map}
use Rattle.program_runner.specs.Stacks.{flags_in}
use Rattle.program_runner.proofs.StackLaws.{cleared-one}
use Rattle.program_runner.proofs.stack.clear.Goals as goal

pub loop-number-preserved : goal.loop-number-preserved
loop-number-preserved c = record {
  size = c.note.ensures.size ∙ c.loop-number.invariant.size;
  few = omega (arith, c.note.ensures.size, c.loop-number-test.true);
  clear = λ other less.
      ap (λ all. get_or all other false) c.note.ensures.flags
      ∙ cleared-one (flags_in c.loop-number.room) c.loop-number.number other (omega (arith, length-map c.loop-number.room (λ frame. frame.active), c.loop-number-test.true)) c.loop-number.invariant.clear less;
}

pub returns-clause-flags : goal.returns-clause-flags
returns-clause-flags c = λ number less. c.loop-number.invariant.clear number (omega (arith, less, c.loop-number-test.false, c.loop-number.invariant.size))
