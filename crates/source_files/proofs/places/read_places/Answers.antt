use Rattle.std.proofs.Common.{◌≡◌, sym, subst, rules, ◌∙◌, Err}
use Rattle.std.specs.Prelude.{IfErr}
use Rattle.source_files.specs.SourceReads.{ArePlacesUnread}
use Rattle.source_files.proofs.ListLemmas.{any_default}
use Rattle.source_files.proofs.PlaceLemmas.{at_begin, behind_one, unread_one}
use Rattle.source_files.proofs.places.read_places.Goals as goal

pub loop-place-init : goal.loop-place-init
loop-place-init g c = at_begin c.args.most c.args.places.now c.new-texts.result (g.H.Shelf.state c.args.shelf.now) c.new-texts.ensures

pub returns-in_err-text-clause-err : goal.returns-in_err-text-clause-err
returns-in_err-text-clause-err g c =
    subst (λ result. IfErr result (ArePlacesUnread c.args.places.now (g.H.Shelf.state c.args.shelf.now) (g.H.Shelf.state c.read_front.new.shelf)))
    (sym (let e : c.from_residual.result ≡ Err c.in_err-text.field-0.0 = search rules in e))
    (unread_one c.args.most c.args.places.now c.loop-place.place-index c.place-item.result c.loop-place.texts (g.H.Shelf.state c.args.shelf.now)
    (g.H.Shelf.state c.loop-place.shelf) (g.H.Shelf.state c.read_front.new.shelf) c.in_err-text.field-0.0 c.loop-place-test.true
    (c.place-item.is ∙ any_default c.args.places.now c.loop-place.place-index _ c.place-item.result c.loop-place-test.true) c.loop-place.invariant c.in_err-text.ensures.err)

pub loop-place-preserved : goal.loop-place-preserved
loop-place-preserved g c =
    behind_one c.args.most c.args.places.now c.loop-place.place-index c.place-item.result c.loop-place.texts c.push.new.self c.in_ok-text.text (g.H.Shelf.state c.args.shelf.now)
    (g.H.Shelf.state c.loop-place.shelf) (g.H.Shelf.state c.read_front.new.shelf) c.loop-place-test.true
    (c.place-item.is ∙ any_default c.args.places.now c.loop-place.place-index _ c.place-item.result c.loop-place-test.true) c.loop-place.invariant c.in_ok-text.ensures.ok
    c.in_ok-push.ensures.ok
