use Rattle.std.proofs.Common.{get_or, refl, arith}
use Rattle.name_table.specs.Named.{labelled}
use Rattle.statement_places.proofs.LabelLemmas.{set_begin, set_more, set_end}
use Rattle.statement_places.proofs.labels.label_set.Goals as goal

pub loop-label-init : goal.loop-label-init
loop-label-init c = λ n. set_begin c.args.labels.now n _ (c.new-set.ensures n)

pub loop-label-preserved : goal.loop-label-preserved
loop-label-preserved c = λ n.
    set_more c.args.labels.now c.loop-label.label-index n (get_or c.args.labels.now c.loop-label.label-index 0) 0 (labelled c.loop-label.set n) (labelled c.put.new.self n) _
    c.loop-label-test.true refl (c.loop-label.invariant n) (c.in_ok-put.ensures n)

pub returns : goal.returns
returns c = record { has = λ n. set_end c.args.labels.now c.loop-label.label-index n _ _ (omega arith) (c.loop-label.invariant n) }
