use Rattle.translate_command.proofs.OldLemmas.{compared_one}
use Rattle.translate_command.proofs.comparing.is_as_before.Goals as goal

pub returns-in_ok-same-in-Ok-clause-ok : goal.returns-in_ok-same-in-Ok-clause-ok
returns-in_ok-same-in-Ok-clause-ok g c =
    compared_one c.args.place.now c.args.list.now c.in_ok-same-in-Ok.same c.in-Ok.bytes.items c.deref.result.now (g.H.Shelf.state c.args.shelf.now)
    (g.H.Shelf.state c.read_place.new.shelf) c.in-Ok.ensures.ok c.deref.ensures.value c.in_ok-same-in-Ok.ensures
