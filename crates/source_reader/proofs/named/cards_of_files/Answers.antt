use Rattle.std.proofs.Common.{Some, subst, sym}
use Rattle.f_tree.specs.declared.refusals.Refusal.{Refusal}
use Rattle.source_reader.specs.SourceReading.{IsFileRead, AreFilesRead}
use Rattle.source_reader.proofs.AlongLemmas.{along_start}
use Rattle.source_reader.proofs.NamedLemmas.{reading_goes_on, stopped, all_read}
use Rattle.source_reader.proofs.named.cards_of_files.Goals as goal

pub loop-file-init : goal.loop-file-init
loop-file-init c = along_start (IsFileRead c.args.options.now.long_cards) c.args.files.now c.new-cards.result c.new-cards.ensures

pub returns-in-Err-Refused : goal.returns-in-Err-Refused
returns-in-Err-Refused c =
    subst (λ (r : Refusal). AreFilesRead c.args.options.now.long_cards c.args.files.now c.loop-file.cards (Some r)) (sym c.in-Err-Refused.refusal-is)
    (stopped c.args.options.now.long_cards c.args.files.now c.loop-file.file c.index-files-file.result c.as_slice.result.now c.loop-file.cards
    c.in-Err-Refused.refusal c.in-Err-Refused.field-0 c.loop-file-test.true c.index-files-file.is c.as_slice.ensures c.loop-file.invariant
    c.in-Err-Refused.field-0-is c.in-Err-Refused.ensures.failed)

pub loop-file-preserved : goal.loop-file-preserved
loop-file-preserved c =
    reading_goes_on c.args.options.now.long_cards c.args.files.now c.loop-file.file c.index-files-file.result c.as_slice.result.now c.loop-file.cards
    c.push.new.self c.in-Ok.more c.loop-file-test.true c.index-files-file.is c.as_slice.ensures c.loop-file.invariant c.in-Ok.ensures.sound
    c.in-Ok.ensures.read c.in_ok-push-in-Ok.ensures.ok

pub returns : goal.returns
returns c =
    all_read c.args.options.now.long_cards c.args.files.now c.loop-file.file c.loop-file.cards c.loop-file-test.false c.loop-file.invariant
