use Rattle.std.proofs.Common.{◌+◌, sym, subst, take}
use Rattle.source_reader.specs.Along.{Along}
use Rattle.source_reader.specs.Trees.{IsTreeOf}
use Rattle.source_reader.proofs.AlongLemmas.{along_start, along_step}
use Rattle.source_reader.proofs.TreeLemmas.{tree_stops}
use Rattle.source_reader.proofs.trees.parse_files.Goals as goal

pub loop-cards-init : goal.loop-cards-init
loop-cards-init c = along_start IsTreeOf c.args.files.now c.new-trees.result c.new-trees.ensures

pub returns-in-Err : goal.returns-in-Err
returns-in-Err c =
    tree_stops c.args.files.now c.loop-cards.cards-index c.cards-item.result c.loop-cards.trees c.in-Err.fail c.loop-cards-test.true c.cards-item.is
    c.loop-cards.invariant c.in-Err.ensures

pub loop-cards-preserved : goal.loop-cards-preserved
loop-cards-preserved c =
    subst (λ l. Along IsTreeOf 0 (take (c.loop-cards.cards-index + 1) c.args.files.now) l) (sym c.in_ok-push-in-Ok.ensures.ok)
    (along_step IsTreeOf c.args.files.now c.loop-cards.trees c.loop-cards.cards-index c.cards-item.result c.in-Ok.tree c.loop-cards-test.true c.cards-item.is
    c.loop-cards.invariant (record { spells = c.in-Ok.ensures.0; clear = c.in-Ok.ensures.1 }))
