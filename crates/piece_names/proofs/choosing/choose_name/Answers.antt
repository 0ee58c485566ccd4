use Rattle.std.proofs.Common.{refl, sym, ap}
use Rattle.std.specs.Prelude.{codes}
use Rattle.split_pieces.specs.ChosenNames.{is_named, prefix_of}
use Rattle.piece_names.proofs.AskingLemmas.{choice_nameless, cause_numbered}
use Rattle.piece_names.proofs.choosing.choose_name.Goals as goal

pub returns-in-Main-clause-chosen : goal.returns-in-Main-clause-chosen
unfolding is_named prefix_of
returns-in-Main-clause-chosen g c =
    choice_nameless c.first_free.result (g.H.Shelf.state c.args.shelf.now).told c.args.taken.now c.args.wanted c.args.own.now (codes "main")
    (ap is_named c.in-Main.is) (sym (ap prefix_of c.in-Main.is)) c.first_free.ensures.free

pub returns-in-BlockData-clause-chosen : goal.returns-in-BlockData-clause-chosen
unfolding is_named prefix_of
returns-in-BlockData-clause-chosen g c =
    choice_nameless c.first_free-in-BlockData.result (g.H.Shelf.state c.args.shelf.now).told c.args.taken.now c.args.wanted c.args.own.now (codes "blkdta")
    (ap is_named c.in-BlockData.is) (sym (ap prefix_of c.in-BlockData.is)) c.first_free-in-BlockData.ensures.free

pub returns-in-Unknown-clause-chosen : goal.returns-in-Unknown-clause-chosen
unfolding is_named prefix_of
returns-in-Unknown-clause-chosen g c =
    choice_nameless c.first_free-in-Unknown.result (g.H.Shelf.state c.args.shelf.now).told c.args.taken.now c.args.wanted c.args.own.now (codes "zzz")
    (ap is_named c.in-Unknown.is) (sym (ap prefix_of c.in-Unknown.is)) c.first_free-in-Unknown.ensures.free

pub returns-in-Main-clause-failed : goal.returns-in-Main-clause-failed
unfolding prefix_of
returns-in-Main-clause-failed g c =
    cause_numbered c.first_free.result (record { wanted = c.args.wanted; name = c.args.own.now }) (codes "main") (g.H.Shelf.state c.args.shelf.now).faults
    (g.H.Shelf.state c.args.shelf.now).faults (g.H.Shelf.state c.first_free.new.shelf).faults (sym (ap prefix_of c.in-Main.is)) refl c.first_free.ensures.failed

pub returns-in-BlockData-clause-failed : goal.returns-in-BlockData-clause-failed
unfolding prefix_of
returns-in-BlockData-clause-failed g c =
    cause_numbered c.first_free-in-BlockData.result (record { wanted = c.args.wanted; name = c.args.own.now }) (codes "blkdta") (g.H.Shelf.state c.args.shelf.now).faults
    (g.H.Shelf.state c.args.shelf.now).faults (g.H.Shelf.state c.first_free-in-BlockData.new.shelf).faults (sym (ap prefix_of c.in-BlockData.is)) refl c.first_free-in-BlockData.ensures.failed

pub returns-in-Unknown-clause-failed : goal.returns-in-Unknown-clause-failed
unfolding prefix_of
returns-in-Unknown-clause-failed g c =
    cause_numbered c.first_free-in-Unknown.result (record { wanted = c.args.wanted; name = c.args.own.now }) (codes "zzz") (g.H.Shelf.state c.args.shelf.now).faults
    (g.H.Shelf.state c.args.shelf.now).faults (g.H.Shelf.state c.first_free-in-Unknown.new.shelf).faults (sym (ap prefix_of c.in-Unknown.is)) refl c.first_free-in-Unknown.ensures.failed
