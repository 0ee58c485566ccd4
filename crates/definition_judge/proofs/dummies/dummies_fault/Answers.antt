use Rattle.std.proofs.Common.{List, ℕ, sym, ap, ◌∙◌, arith}
use Rattle.std.specs.Borrow.{Bor}
use Rattle.f_tree.specs.Uses.{is_among}
use Rattle.declaration_rows.specs.NameRows.{own_attributes, dummies_rows}
use Rattle.name_table.specs.Named.{texts}
use Rattle.refusal_order.specs.Earliest.{least_of}
use Rattle.definition_judge.proofs.DummyLemmas.{rows_none, back_rows, back_names, start_drop, all_drop}
use Rattle.definition_judge.proofs.dummies.dummies_fault.Goals as goal

pub loop-behind-init : goal.loop-behind-init
loop-behind-init c = record {
  is_set = c.new-later.ensures.is_set;
  names = λ q.
      ap (is_among q) c.new-later.ensures.names ∙ sym (ap (λ (ds : List (Bor (List ℕ))). is_among q (texts ds)) (start_drop c.args.dummies.now));
  rows =
      rows_none (own_attributes c.args.unit.now)
      ∙ sym (ap (λ (ds : List (Bor (List ℕ))). least_of (dummies_rows (own_attributes c.args.unit.now) (texts ds))) (start_drop c.args.dummies.now));
}

pub loop-behind-preserved : goal.loop-behind-preserved
loop-behind-preserved c = record {
  is_set = c.in_ok-add.ensures.is_set;
  names = λ q. back_names c.args.dummies.now c.loop-behind.behind c.loop-behind.later c.add.new.self q c.loop-behind-test.true (c.loop-behind.invariant.names q) c.in_ok-add.ensures.names;
  rows =
      c.lesser_of-fault.ensures
      ∙ back_rows (own_attributes c.args.unit.now) c.args.dummies.now c.loop-behind.behind c.own_basic.result c.has.result c.loop-behind.fault c.dummy_fault-here.result c.loop-behind-test.true
      c.loop-behind.invariant.rows c.own_basic.ensures (c.has.ensures ∙ c.loop-behind.invariant.names _) c.dummy_fault-here.ensures;
}

pub returns : goal.returns
returns c =
    c.loop-behind.invariant.rows
    ∙ ap (λ (ds : List (Bor (List ℕ))). least_of (dummies_rows (own_attributes c.args.unit.now) (texts ds))) (all_drop c.args.dummies.now c.loop-behind.behind (omega arith))
