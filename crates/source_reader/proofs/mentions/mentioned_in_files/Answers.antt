use Rattle.std.proofs.Common.{ap, ◌∙◌, arith}
use Rattle.source_acceptance.specs.SourceFiles.{names_in}
use Rattle.source_reader.proofs.MentionLemmas.{files_go_on, files_end}
use Rattle.source_reader.proofs.mentions.mentioned_in_files.Goals as goal

pub loop-cards-preserved : goal.loop-cards-preserved
loop-cards-preserved c =
    files_go_on c.args.files.now c.loop-cards.cards-index c.cards-item.result c.loop-cards.names c.in_ok-names_in.field-0 c.append.new.self
    c.loop-cards-test.true c.cards-item.is c.loop-cards.invariant (c.in_ok-names_in.ensures ∙ ap names_in c.statements.ensures) c.in_ok-append.ensures

pub returns : goal.returns
returns c = files_end c.args.files.now c.loop-cards.cards-index c.loop-cards.names (omega arith) c.loop-cards.invariant
