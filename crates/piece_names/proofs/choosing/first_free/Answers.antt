use Rattle.std.proofs.Common.{Some, None, ◌∙◌, arith}
use Rattle.piece_names.proofs.AskingLemmas.{asked_twice, carried, free_on, free_found, free_nowhere}
use Rattle.piece_names.proofs.choosing.first_free.Goals as goal

pub returns-in-Some-clause-free : goal.returns-in-Some-clause-free
returns-in-Some-clause-free g c =
    let before = (g.H.Shelf.state c.args.shelf.now).told in
    let name = c.in_ok-name.name in
    free_found before c.args.taken.now c.args.prefix.now name c.in-Some.name 1000 c.loop-number.number (omega arith) c.loop-number.invariant.free c.in_ok-name.ensures
    (carried before (g.H.Shelf.state c.loop-number.shelf).told c.args.taken.now name c.in_ok-name-2.field-0 (Some c.in-Some.name) c.loop-number.invariant.asked.told
    c.in-Some.is c.in_ok-name-2.ensures.free)

pub loop-number-preserved : goal.loop-number-preserved
loop-number-preserved g c =
    let before = (g.H.Shelf.state c.args.shelf.now).told in
    let name = c.in_ok-name.name in
    record {
      asked = asked_twice (g.H.Shelf.state c.args.shelf.now) (g.H.Shelf.state c.loop-number.shelf) (g.H.Shelf.state c.if_free.new.shelf) c.loop-number.invariant.asked
          c.if_free.ensures.asked;
      quiet = c.in_ok-name-2.ensures.quiet ∙ c.loop-number.invariant.quiet;
      free = free_on before c.args.taken.now c.args.prefix.now name 1000 c.loop-number.number (omega arith) c.loop-number.invariant.free c.in_ok-name.ensures
          (carried before (g.H.Shelf.state c.loop-number.shelf).told c.args.taken.now name c.in_ok-name-2.field-0 None c.loop-number.invariant.asked.told c.in_default.is
          c.in_ok-name-2.ensures.free);
    }

pub returns-clause-free : goal.returns-clause-free
returns-clause-free g c =
    free_nowhere (g.H.Shelf.state c.args.shelf.now).told c.args.taken.now c.args.prefix.now 1000 c.loop-number.number (omega arith) c.loop-number.invariant.free
