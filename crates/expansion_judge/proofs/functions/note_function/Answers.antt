use Rattle.std.specs.Prelude.{is_some}
use Rattle.std.proofs.Common.{sym, ap, ◌∙◌}
use Rattle.expansion_judge.specs.declared.counts.Counted.{Counted}
use Rattle.expansion_judge.proofs.FunctionLaws.{sizes_again, sizes_put}
use Rattle.expansion_judge.proofs.functions.note_function.Goals as goal

pub returns-then-is_some : goal.returns-then-is_some
returns-then-is_some c = sizes_again c.args.functions.now c.args.name.now c.args.value.now (ap is_some (sym c.get.ensures) ∙ sym c.is_some.ensures ∙ c.if-is_some.true)

pub returns : goal.returns
returns c =
    sizes_put c.put.result c.args.functions.now _ c.args.name.now c.args.value.now c.count_nodes-counted.result.count
    (ap is_some (sym c.get.ensures) ∙ sym c.is_some.ensures ∙ c.if-is_some.false) (ap (λ (d : Counted). d.count) c.count_nodes-counted.ensures) c.put.ensures
