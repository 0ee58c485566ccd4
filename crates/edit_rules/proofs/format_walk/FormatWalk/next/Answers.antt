use Rattle.std.proofs.Common.{arith}
use Rattle.edit_rules.proofs.WalkSteps.{comes_on, comes_no_further, given_same, given_stands}
use Rattle.edit_rules.proofs.format_walk.FormatWalk.next.Goals as goal

pub returns-in-Gives-clause-given : goal.returns-in-Gives-clause-given
returns-in-Gives-clause-given c again rest s =
    let comes = c.loop-turn.invariant.comes again rest s in
    given_same c.args.wants_item c.args.text.now again rest comes.left c.in-Gives.walk c.in-Gives.edit comes.same (c.in-Gives.ensures again comes.left comes.stands)

pub loop-turn-preserved : goal.loop-turn-preserved
loop-turn-preserved c =
    let here = c.loop-turn.invariant.stands in
    let goes = c.in-On.ensures here.again here.rest here.stands in
    record {
      stands = record { again = here.again; rest = goes.left; stands = goes.stands };
      comes = λ again rest s.
          let comes = c.loop-turn.invariant.comes again rest s in
          comes_on c.args.wants_item c.args.text.now again rest c.loop-turn._turn c.loop-turn.self c.in-On.walk comes (c.in-On.ensures again comes.left comes.stands);
    }

pub returns-clause-given : goal.returns-clause-given
returns-clause-given c again rest s =
    absurd (comes_no_further c.args.wants_item c.args.text.now again rest c.loop-turn._turn c.loop-turn.self (c.loop-turn.invariant.comes again rest s) (omega arith))

pub returns-in-Gives-clause-stands : goal.returns-in-Gives-clause-stands
returns-in-Gives-clause-stands c =
    let here = c.loop-turn.invariant.stands in
    given_stands c.args.wants_item c.args.text.now here.again here.rest c.in-Gives.walk c.in-Gives.edit (c.in-Gives.ensures here.again here.rest here.stands)

pub returns-clause-stands : goal.returns-clause-stands
returns-clause-stands c = c.loop-turn.invariant.stands
