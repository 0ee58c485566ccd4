use Rattle.std.proofs.Common.{◌≡◌, sym, subst, rules, Err}
use Rattle.std.specs.Prelude.{IfErr}
use Rattle.source_files.specs.SourceReads.{AreUnread, IsSourceUnread, unread}
use Rattle.source_files.proofs.sources.read_source.Goals as goal

pub returns-in_err-included-clause-err : goal.returns-in_err-included-clause-err
returns-in_err-included-clause-err g c =
    subst (λ result. IfErr result (IsSourceUnread c.args.options.now c.args.files (g.H.Shelf.state c.args.shelf.now) (g.H.Shelf.state c.read_included.new.shelf)))
    (sym (let e : c.from_residual-in_err-included.result ≡ Err c.in_err-included.field-0.0 = search rules in e))
    (unread c.in_ok-named.named c.in_ok-named.ensures
    (subst (λ names. AreUnread names (g.H.Shelf.state c.args.shelf.now) (g.H.Shelf.state c.read_included.new.shelf) c.in_err-included.field-0.0) c.names.ensures
    c.in_err-included.ensures.err))
