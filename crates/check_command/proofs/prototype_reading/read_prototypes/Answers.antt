use Rattle.std.proofs.Common.{subst, ap, ◌∙◌, length}
use Rattle.std.specs.Prelude.{IfOk, IfErr}
use Rattle.check_command.specs.PrototypeFiles.{HaveShapes, HaveNoShapes}
use Rattle.check_command.proofs.ReadLemmas.{all_sources, not_read, prototypes_read, prototypes_unread}
use Rattle.check_command.proofs.prototype_reading.read_prototypes.Goals as goal

pub read_places-requires : goal.read_places-requires
read_places-requires g c = all_sources c.args.places.now c.requires

pub returns-in_err-texts-clause-err : goal.returns-in_err-texts-clause-err
returns-in_err-texts-clause-err g c =
    not_read c.args.places.now (g.H.Shelf.state c.args.shelf.now) (g.H.Shelf.state c.read_places.new.shelf) c.in_err-texts.field-0.0 c.from_residual.result
    c.from_residual.ensures.1 c.in_err-texts.ensures.err

pub shapes_of-requires-clause-counts : goal.shapes_of-requires-clause-counts
shapes_of-requires-clause-counts g c = ap length c.as_slice.ensures ∙ c.in_ok-texts.ensures.ok.count

pub returns-clause-ok : goal.returns-clause-ok
returns-clause-ok g c =
    prototypes_read c.args.places.now c.in_ok-texts.texts (g.H.Shelf.state c.args.shelf.now) (g.H.Shelf.state c.read_places.new.shelf) c.shapes_of.result
    c.in_ok-texts.ensures.ok (subst (λ texts. IfOk c.shapes_of.result (HaveShapes texts)) c.as_slice.ensures c.shapes_of.ensures.ok)

pub returns-clause-err : goal.returns-clause-err
returns-clause-err g c =
    prototypes_unread c.args.places.now c.in_ok-texts.texts (g.H.Shelf.state c.args.shelf.now) (g.H.Shelf.state c.read_places.new.shelf) c.shapes_of.result
    c.in_ok-texts.ensures.ok (subst (λ texts. IfErr c.shapes_of.result (HaveNoShapes c.args.places.now texts)) c.as_slice.ensures c.shapes_of.ensures.err)
