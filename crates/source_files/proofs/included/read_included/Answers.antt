use Rattle.std.proofs.Common.{◌≡◌, sym, subst, rules, ◌∙◌, length, take, drop, ◌-◌, Err}
use Rattle.std.specs.Prelude.{IfErr}
use Rattle.source_files.specs.SourceReads.{AreUnread}
use Rattle.source_files.proofs.ReadLemmas.{IsReadSoFar, at_begin, behind_one, unread_one}
use Rattle.source_files.proofs.included.read_included.Goals as goal

pub loop-rest-init : goal.loop-rest-init
loop-rest-init g c =
    subst (λ texts. IsReadSoFar 16777217 c.args.names.now c.args.names.now texts (g.H.Shelf.state c.args.shelf.now) (g.H.Shelf.state c.args.shelf.now)) (sym c.new-texts.ensures)
    (at_begin 16777217 c.args.names.now (g.H.Shelf.state c.args.shelf.now))

pub returns-in_err-text-clause-err : goal.returns-in_err-text-clause-err
returns-in_err-text-clause-err g c =
    subst (λ result. IfErr result (AreUnread c.args.names.now (g.H.Shelf.state c.args.shelf.now) (g.H.Shelf.state c.read_named.new.shelf)))
    (sym (let e : c.from_residual.result ≡ Err c.in_err-text.field-0.0 = search rules in e))
    (unread_one 16777217 c.args.names.now c.loop-rest.rest.now c.loop-rest.texts c.as_slice.result.now _ (g.H.Shelf.state c.args.shelf.now) (g.H.Shelf.state c.loop-rest.shelf)
    (g.H.Shelf.state c.read_named.new.shelf) c.in_err-text.field-0.0 c.in-len1-up.len_at_least (c.as_slice.ensures ∙ c.name-item.is) c.in_err-text.ensures.err c.loop-rest.invariant)

pub loop-rest-preserved : goal.loop-rest-preserved
loop-rest-preserved g c =
    subst
    (λ texts.
    IsReadSoFar 16777217 c.args.names.now (take (length c.loop-rest.rest.now - 1) (drop 1 c.loop-rest.rest.now)) texts (g.H.Shelf.state c.args.shelf.now)
    (g.H.Shelf.state c.read_named.new.shelf))
    (sym c.in_ok-push.ensures.ok)
    (behind_one 16777217 c.args.names.now c.loop-rest.rest.now c.loop-rest.texts c.as_slice.result.now _ c.in_ok-text.text (g.H.Shelf.state c.args.shelf.now)
    (g.H.Shelf.state c.loop-rest.shelf) (g.H.Shelf.state c.read_named.new.shelf) c.in-len1-up.len_at_least (c.as_slice.ensures ∙ c.name-item.is) c.in_ok-text.ensures.ok c.loop-rest.invariant)
