use Rattle.std.proofs.Common.{sym, subst}
use Rattle.f2c_outside.specs.Shelf.{IsSource}
use Rattle.source_files.proofs.ReadLemmas.{read_ok, read_err}
use Rattle.source_files.proofs.included.read_at.Goals as goal

pub read_front-requires : goal.read_front-requires
read_front-requires g c = subst IsSource (sym c.requires.named) tt

pub returns-clause-ok : goal.returns-clause-ok
returns-clause-ok g c =
    read_ok c.args.name.now c.args.place.now (g.H.Shelf.state c.args.shelf.now) (g.H.Shelf.state c.read_front.new.shelf) c.read_front.result c.requires.named c.requires.fits
    c.read_front.ensures.ok

pub returns-clause-err : goal.returns-clause-err
returns-clause-err g c =
    read_err c.args.name.now c.args.place.now (g.H.Shelf.state c.args.shelf.now) (g.H.Shelf.state c.read_front.new.shelf) c.read_front.result c.requires.named
    c.read_front.ensures.err
