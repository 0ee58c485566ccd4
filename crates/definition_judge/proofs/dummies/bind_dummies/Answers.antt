use Rattle.std.proofs.Common.{List, ℕ, Some, bytes_eq, get_or, refl, ap, ◌∙◌, arith, if◌then◌else◌}
use Rattle.std.specs.Borrow.{Bor}
use Rattle.std.specs.HashMap.{get_by}
use Rattle.f_tree.specs.declared.names.Basic.{Basic}
use Rattle.f_tree.specs.Values.{Bytes}
use Rattle.declaration_rows.specs.NameRows.{own_attributes}
use Rattle.name_table.specs.Named.{texts}
use Rattle.definition_judge.proofs.DummyLemmas.{bound_start}
use Rattle.definition_judge.proofs.TableLemmas.{no_name, put_more, put_end, none_in}
use Rattle.definition_judge.proofs.dummies.bind_dummies.Goals as goal

pub loop-dummy-init : goal.loop-dummy-init
loop-dummy-init c x = bound_start (own_attributes c.args.unit.now) (texts c.args.dummies.now) x _ (none_in (λ (k : Bor (List ℕ)). bytes_eq x k.now) c.clear.new.self.entries c.clear.ensures.empty)

pub loop-dummy-preserved : goal.loop-dummy-preserved
loop-dummy-preserved c x =
    let d = get_or c.args.dummies.now c.loop-dummy.dummy-index no_name in
    put_more (λ (y : Bytes). (own_attributes c.args.unit.now y).basic) c.args.dummies.now c.loop-dummy.dummy-index d x _ _ _ c.loop-dummy-test.true refl (c.loop-dummy.invariant x)
    (c.in_ok-put_basic.ensures x ∙ ap (λ (b : Basic). if bytes_eq d.now x then Some b else get_by (λ (k : Bor (List ℕ)). bytes_eq x k.now) c.loop-dummy.table) c.own_basic-basic.ensures)

pub returns : goal.returns
returns c x =
    put_end (λ (y : Bytes). (own_attributes c.args.unit.now y).basic) c.args.dummies.now c.loop-dummy.dummy-index x _ _ (omega arith) (c.loop-dummy.invariant x)
