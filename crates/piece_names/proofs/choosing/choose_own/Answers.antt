use Rattle.std.proofs.Common.{Some, None, refl}
use Rattle.std.specs.Prelude.{codes}
use Rattle.split_pieces.specs.ChosenNames.{prefix_of}
use Rattle.split_pieces.specs.declared.wanted.Wanted.TheVariants.{Named}
use Rattle.piece_names.proofs.AskingLemmas.{carried, renamed, choice_own, choice_numbered, cause_numbered}
use Rattle.piece_names.proofs.choosing.choose_own.Goals as goal

pub returns-in-Some-clause-chosen : goal.returns-in-Some-clause-chosen
returns-in-Some-clause-chosen g c =
    let before = (g.H.Shelf.state c.args.shelf.now).told in
    choice_own before c.args.taken.now c.args.own.now c.in-Some.name
    (renamed before c.args.taken.now c.in_ok-name.name c.args.own.now (Some c.in-Some.name) c.in_ok-name.ensures
    (carried before before c.args.taken.now c.in_ok-name.name c.in_ok-name-2.field-0 (Some c.in-Some.name) refl c.in-Some.is c.in_ok-name-2.ensures.free))

pub returns-clause-chosen : goal.returns-clause-chosen
returns-clause-chosen g c =
    let before = (g.H.Shelf.state c.args.shelf.now).told in
    choice_numbered c.first_free.result before (g.H.Shelf.state c.if_free.new.shelf).told c.args.taken.now c.args.own.now c.if_free.ensures.asked.told
    (renamed before c.args.taken.now c.in_ok-name.name c.args.own.now None c.in_ok-name.ensures
    (carried before before c.args.taken.now c.in_ok-name.name c.in_ok-name-2.field-0 None refl c.in_default.is c.in_ok-name-2.ensures.free))
    c.first_free.ensures.free

pub returns-clause-failed : goal.returns-clause-failed
unfolding prefix_of
returns-clause-failed g c =
    cause_numbered c.first_free.result (record { wanted = Named; name = c.args.own.now }) (codes "zzz") (g.H.Shelf.state c.args.shelf.now).faults
    (g.H.Shelf.state c.if_free.new.shelf).faults (g.H.Shelf.state c.first_free.new.shelf).faults refl c.in_ok-name-2.ensures.quiet c.first_free.ensures.failed
