use Rattle.source_files.proofs.EndLemmas.{read_from, unread_from}
use Rattle.source_files.proofs.reading.read_source_from.Goals as goal

pub returns-clause-ok : goal.returns-clause-ok
returns-clause-ok g c =
    read_from c.args.options.now c.args.froms.now (g.H.Shelf.state c.args.shelf.now) (g.H.Shelf.state c.read_places.new.shelf) (g.H.Shelf.state c.read_source.new.shelf)
    c.in_ok-files.files c.read_source.result c.in_ok-files.ensures.ok c.read_source.ensures.ok

pub returns-clause-err : goal.returns-clause-err
returns-clause-err g c =
    unread_from c.args.options.now c.args.froms.now (g.H.Shelf.state c.args.shelf.now) (g.H.Shelf.state c.read_places.new.shelf) (g.H.Shelf.state c.read_source.new.shelf)
    c.in_ok-files.files c.read_source.result c.in_ok-files.ensures.ok c.read_source.ensures.err
