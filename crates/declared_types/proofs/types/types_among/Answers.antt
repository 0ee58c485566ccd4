use Rattle.std.proofs.Common.{None, sym, ap, ◌∙◌, arith}
use Rattle.f_tree.specs.declared.statements.Stmt.{Stmt}
use Rattle.f_tree.specs.Attributes.{from_all, typed_in, type_among}
use Rattle.declared_types.specs.TypeTables.{type_or}
use Rattle.declared_types.proofs.TypeLemmas.{notes_more, notes_end, type_new, type_start}
use Rattle.declared_types.proofs.TypeForms.{from_step, from_none}
use Rattle.declared_types.proofs.types.types_among.Goals as goal

pub loop-statement-init : goal.loop-statement-init
loop-statement-init c q = ap (λ o. type_or o (type_among q (from_all typed_in c.args.statements.now))) (sym (type_new c.new-types.result q (c.new-types.ensures q)))

pub loop-statement-preserved : goal.loop-statement-preserved
loop-statement-preserved c =
    notes_more (from_all typed_in) (λ (s : Stmt). typed_in s.body) (from_step typed_in) c.args.statements.now c.loop-statement.statement-index c.statement-item.result _ (λ q. None) _ _
    c.loop-statement-test.true c.statement-item.is c.loop-statement.invariant c.in_ok-note_types_in.ensures

pub returns : goal.returns
returns c = record {
  has = λ q.
      notes_end (from_all typed_in) (λ (s : Stmt). typed_in s.body) (from_none typed_in) c.args.statements.now c.loop-statement.statement-index (λ q. None) _ (omega arith) c.loop-statement.invariant q
      ∙ type_start (type_among q (from_all typed_in c.args.statements.now));
}
