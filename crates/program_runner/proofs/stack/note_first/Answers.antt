use Rattle.std.proofs.Common.{false, ap, ◌∙◌, arith}
use Rattle.std.specs.Prelude.{get_or}
use Rattle.std.proofs.lemmas.List.{length-map}
use Rattle.program_runner.specs.Stacks.{flags_in}
use Rattle.program_runner.proofs.StackLaws.{first-flag}
use Rattle.program_runner.proofs.stack.note_first.Goals as goal

pub returns-clause-flags : goal.returns-clause-flags
returns-clause-flags c = λ other less.
    ap (λ all. get_or all other false) c.note.ensures.flags
    ∙ first-flag (flags_in c.clear.new.room) c.args.number other (omega (arith, length-map c.clear.new.room (λ frame. frame.active), c.clear.ensures.size, c.requires)) (c.clear.ensures.flags other less)
