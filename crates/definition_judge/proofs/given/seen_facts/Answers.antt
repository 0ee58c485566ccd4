use Rattle.std.proofs.Common.{List, ℕ, Some, bytes_eq, get_or, refl, ap, ◌∙◌, arith, if◌then◌else◌}
use Rattle.std.specs.Borrow.{Bor}
use Rattle.std.specs.HashMap.{get_by}
use Rattle.f_tree.specs.Values.{Bytes}
use Rattle.expression_judge.specs.declared.names.Fact.{Fact}
use Rattle.name_facts.specs.GivenFacts.{fact_in}
use Rattle.name_table.specs.Named.{texts}
use Rattle.definition_judge.specs.KnownFunctions.{seen_of}
use Rattle.definition_judge.proofs.TableLemmas.{no_name, put_more, put_end, none_in}
use Rattle.definition_judge.proofs.GivenLaws.{seen_start}
use Rattle.definition_judge.proofs.given.seen_facts.Goals as goal

pub loop-name-init : goal.loop-name-init
loop-name-init c x = seen_start c.args.facts.now (texts c.args.names.now) x _ (none_in (λ (k : Bor (List ℕ)). bytes_eq x k.now) c.new-table.result.entries c.new-table.ensures.empty)

pub loop-name-preserved : goal.loop-name-preserved
loop-name-preserved c x =
    let d = get_or c.args.names.now c.loop-name.name-index no_name in
    put_more (λ (y : Bytes). seen_of (fact_in c.args.facts.now y)) c.args.names.now c.loop-name.name-index d x _ _ _ c.loop-name-test.true refl (c.loop-name.invariant x)
    (c.in_ok-put_fact.ensures x ∙ ap (λ (f : Fact). if bytes_eq d.now x then Some f else get_by (λ (k : Bor (List ℕ)). bytes_eq x k.now) c.loop-name.table) c.seen_fact-fact.ensures)

pub returns : goal.returns
returns c x =
    put_end (λ (y : Bytes). seen_of (fact_in c.args.facts.now y)) c.args.names.now c.loop-name.name-index x _ _ (omega arith) (c.loop-name.invariant x)
