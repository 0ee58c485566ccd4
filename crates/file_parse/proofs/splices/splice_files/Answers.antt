use Rattle.std.proofs.Common.{sym, subst}
use Rattle.file_parse.specs.Splices.{cards_named}
use Rattle.file_parse.proofs.SpliceLemmas.{SplicingFiles, files_go_on, files_end}
use Rattle.file_parse.proofs.splices.splice_files.Goals as goal

pub loop-file-preserved : goal.loop-file-preserved
loop-file-preserved c =
    subst (λ done. SplicingFiles (cards_named c.args.places.now) c.args.files c.pop.new.self done) (sym c.in_ok-push-in-Ok.ensures.ok)
    (files_go_on (cards_named c.args.places.now) c.args.files c.loop-file.waiting c.pop.new.self c.loop-file.done c.in-Some.file c.in-Ok.file
    c.loop-file.invariant c.in-Some.ensures c.in-Ok.ensures)

pub returns : goal.returns
returns c =
    files_end (cards_named c.args.places.now) c.args.files c.loop-file.waiting c.loop-file.done c.loop-file.invariant c.in_default.ensures.0
