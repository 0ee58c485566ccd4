use Rattle.std.proofs.Common.{arith, ap, ◌∙◌, ◌++◌}
use Rattle.std.specs.Prelude.{option_to_list}
use Rattle.std.proofs.lemmas.List.{nil_from_length}
use Rattle.found_rows.proofs.Walks.{then_ok}
use Rattle.order_judge.proofs.NestLemmas.{closes_nests_some, closes_nests_none}
use Rattle.order_judge.proofs.nest.close_block.Goals as goal

pub returns-in-Some : goal.returns-in-Some
returns-in-Some c =
    closes_nests_some c.args.statement.now _ c.args.open_blocks.now.items c.pop.new.self.items c.in-Some.field-0
    (c.pop.ensures.items ∙ ap (λ o. c.pop.new.self.items ++ option_to_list o) c.in-Some.is)

pub returns-in-None : goal.returns-in-None
returns-in-None c = then_ok _ _ c.add_row.result (λ put. closes_nests_none c.args.statement.now _ _ c.args.open_blocks.now.items c.pop.new.self.items (nil_from_length _ (grind arith)) (nil_from_length _ (grind arith)) put) c.add_row.ensures
