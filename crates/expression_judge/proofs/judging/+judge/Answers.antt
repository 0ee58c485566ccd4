use Rattle.std.proofs.Common.{map, sym, ap, ◌∙◌}
use Rattle.std.proofs.lemmas.List.{at_drop_all}
use Rattle.expression_judge.specs.FoundSteps.{judged_by, paired_onward}
use Rattle.expression_judge.proofs.JudgedForms.{judged-Part, paired-end}
use Rattle.expression_judge.proofs.judging.+judge.Goals as goal

pub judge-returns-in-Part : goal.judge-returns-in-Part
judge-returns-in-Part t c =
    let form = judged-Part c.args.names.now c.in-Part.base c.in-Part.from c.in-Part.to in
    let whole = ap (judged_by c.args.names.now) c.in-Part.is in
    cc

pub paired_arguments-returns : goal.paired_arguments-returns
paired_arguments-returns t c =
    let judged = judged_by c.args.names.now in
    let none_left = at_drop_all (λ es. paired_onward c.loop-e.fault c.loop-e.later.now (map judged es)) c.args.es.now c.loop-e.e-index c.loop-e-test.false in
    sym (paired-end c.loop-e.fault c.loop-e.later.now) ∙ sym none_left ∙ c.loop-e.invariant
