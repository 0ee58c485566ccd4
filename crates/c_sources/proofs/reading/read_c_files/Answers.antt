use Rattle.std.proofs.Common.{subst, ap, ◌∙◌, length}
use Rattle.std.specs.Prelude.{IfOk, IfErr}
use Rattle.c_sources.specs.CFiles.{AreSpelled, AreNotSpelled}
use Rattle.c_sources.proofs.FormLemmas.{trees_formed}
use Rattle.c_sources.proofs.TreeLemmas.{all_sources, not_read, trees_read, trees_unread}
use Rattle.c_sources.proofs.reading.read_c_files.Goals as goal

pub read_places-requires : goal.read_places-requires
read_places-requires g c = all_sources c.args.places.now c.requires

pub returns-in_err-texts-clause-err : goal.returns-in_err-texts-clause-err
returns-in_err-texts-clause-err g c =
    not_read c.args.places.now (g.H.Shelf.state c.args.shelf.now) (g.H.Shelf.state c.read_places.new.shelf) c.in_err-texts.field-0.0 c.from_residual.result
    c.from_residual.ensures.1 c.in_err-texts.ensures.err

pub trees_of-requires-clause-counts : goal.trees_of-requires-clause-counts
trees_of-requires-clause-counts g c = ap length c.as_slice.ensures ∙ c.in_ok-texts.ensures.ok.count

pub returns-clause-ok : goal.returns-clause-ok
returns-clause-ok g c =
    trees_read c.args.places.now c.in_ok-texts.texts (g.H.Shelf.state c.args.shelf.now) (g.H.Shelf.state c.read_places.new.shelf) c.trees_of.result
    c.in_ok-texts.ensures.ok (subst (λ texts. IfOk c.trees_of.result (AreSpelled texts)) c.as_slice.ensures c.trees_of.ensures.ok)

pub returns-clause-err : goal.returns-clause-err
returns-clause-err g c =
    trees_unread c.args.places.now c.in_ok-texts.texts (g.H.Shelf.state c.args.shelf.now) (g.H.Shelf.state c.read_places.new.shelf) c.trees_of.result
    c.in_ok-texts.ensures.ok (subst (λ texts. IfErr c.trees_of.result (AreNotSpelled c.args.places.now texts)) c.as_slice.ensures c.trees_of.ensures.err)

pub returns-clause-formed : goal.returns-clause-formed
returns-clause-formed g c = trees_formed c.in_ok-texts.texts c.trees_of.result (subst (λ texts. IfOk c.trees_of.result (AreSpelled texts)) c.as_slice.ensures c.trees_of.ensures.ok)
