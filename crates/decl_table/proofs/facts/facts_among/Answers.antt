use Rattle.std.proofs.Common.{get_or, refl, arith}
use Rattle.decl_table.proofs.FunctionLemmas.{no_text}
use Rattle.decl_table.proofs.TableLemmas.{facts-none, facts-more, facts-end}
use Rattle.decl_table.proofs.facts.facts_among.Goals as goal

pub loop-name-init : goal.loop-name-init
loop-name-init c = facts-none c.args.unit.now c.new-facts.result c.new-facts.ensures

pub loop-name-preserved : goal.loop-name-preserved
loop-name-preserved c =
    facts-more c.args.unit.now _ _ c.args.names.now c.loop-name.name-index (get_or c.args.names.now c.loop-name.name-index no_text) no_text c.in_ok-fact.fact c.loop-name-test.true refl c.loop-name.invariant c.in_ok-fact.ensures c.in_ok-put.ensures

pub returns : goal.returns
returns c = facts-end c.args.unit.now _ c.args.names.now c.loop-name.name-index (omega arith) c.loop-name.invariant
