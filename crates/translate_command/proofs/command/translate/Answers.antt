use Rattle.std.proofs.Common.{ℕ, ◌<◌, List, sym, ap, subst, ◌∙◌, length}
use Rattle.std.specs.List.{All}
use Rattle.f2c_outside.specs.Shelf.{IsSource}
use Rattle.source_files.specs.SourceEnds.{IsReadFrom, IsUnreadFrom}
use Rattle.source_files.specs.SourceReads.{ArePlacesRead, ArePlacesUnread}
use Rattle.translate_command.specs.SourceTexts.{TranslatedSource}
use Rattle.translate_command.proofs.FormLemmas.{all_sources}
use Rattle.translate_command.proofs.Endings.{source_ended, not_read, forms_not_read}
use Rattle.translate_command.proofs.command.translate.Goals as goal

pub read_source_from-requires : goal.read_source_from-requires
read_source_from-requires g c = subst (All IsSource) (sym c.as_slice.ensures) c.requires.sources

pub returns-in_err-read : goal.returns-in_err-read
returns-in_err-read g c =
    not_read c.args.options.now c.args.job.now c.args.tos (g.H.Shelf.state c.args.shelf.now) (g.H.Shelf.state c.read_source_from.new.shelf) c.in_err-read.field-0.0
    c.from_residual.result c.from_residual.ensures.1
    (subst (λ froms. IsUnreadFrom c.args.options.now froms (g.H.Shelf.state c.args.shelf.now) (g.H.Shelf.state c.read_source_from.new.shelf) c.in_err-read.field-0.0) c.as_slice.ensures
    c.in_err-read.ensures.err)

pub read_places-requires : goal.read_places-requires
read_places-requires g c = subst (All IsSource) (sym c.as_slice-2.ensures) (all_sources c.args.job.now.forms c.requires.files)

pub returns-in_err-forms : goal.returns-in_err-forms
returns-in_err-forms g c =
    forms_not_read c.args.options.now c.args.job.now c.args.tos (g.H.Shelf.state c.args.shelf.now) (g.H.Shelf.state c.read_source_from.new.shelf)
    (g.H.Shelf.state c.read_places.new.shelf) c.in_err-forms.field-0.0 c.from_residual-in_err-forms.result c.in_ok-read.ensures.ok.kept c.in_ok-read.ensures.ok.quiet c.from_residual-in_err-forms.ensures.1
    (subst (λ places. ArePlacesUnread places (g.H.Shelf.state c.read_source_from.new.shelf) (g.H.Shelf.state c.read_places.new.shelf) c.in_err-forms.field-0.0) c.as_slice-2.ensures
    c.in_err-forms.ensures.err)

pub translate_source-requires-clause-counts : goal.translate_source-requires-clause-counts
translate_source-requires-clause-counts g c = c.in_ok-read.ensures.ok.each_included

pub translate_source-requires-clause-texts : goal.translate_source-requires-clause-texts
translate_source-requires-clause-texts g c = ap length c.as_slice-3.ensures ∙ (c.in_ok-forms.ensures.ok.count ∙ ap length c.as_slice-2.ensures)

pub returns : goal.returns
returns g c =
    let b = g.H.Shelf.state c.args.shelf.now in
    let m = g.H.Shelf.state c.read_source_from.new.shelf in
    let k = g.H.Shelf.state c.read_places.new.shelf in
    let a = g.H.Shelf.state c.translate_source.new.shelf in
    let its : IsReadFrom c.args.options.now c.args.job.now.froms c.in_ok-read.read b m =
    subst (λ froms. IsReadFrom c.args.options.now froms c.in_ok-read.read b m) c.as_slice.ensures c.in_ok-read.ensures.ok in
    let seen : ArePlacesRead 16777217 c.args.job.now.forms c.in_ok-forms.forms m k =
    subst (λ places. ArePlacesRead 16777217 places c.in_ok-forms.forms m k) c.as_slice-2.ensures c.in_ok-forms.ensures.ok in
    source_ended c.args.options.now c.args.job.now c.args.tos c.in_ok-read.read c.in_ok-forms.forms b m k a its seen c.translate_source.result
    (subst (λ (forms : List (List ℕ)). TranslatedSource c.args.options.now c.args.job.now its.files c.in_ok-read.read.named.names c.in_ok-read.read.included forms c.args.tos k a c.translate_source.result)
    c.as_slice-3.ensures (c.translate_source.ensures its.files its.named (subst (λ n. 0 < n) (sym its.count) c.requires.some)))
