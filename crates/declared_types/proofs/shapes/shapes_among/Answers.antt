use Rattle.std.proofs.Common.{[], ap, ◌∙◌, arith}
use Rattle.f_tree.specs.declared.statements.Stmt.{Stmt}
use Rattle.f_tree.specs.Attributes.{from_all, shaped_in, dimensions_among}
use Rattle.declared_types.specs.TypeTables.{shape_or}
use Rattle.declared_types.proofs.ShapeLemmas.{notes_more, notes_end, no_value, start_none}
use Rattle.declared_types.proofs.TypeForms.{from_step, from_none}
use Rattle.declared_types.proofs.shapes.shapes_among.Goals as goal

pub loop-statement-init : goal.loop-statement-init
loop-statement-init c q = ap (λ ds. shape_or ds (dimensions_among q (from_all shaped_in c.args.statements.now))) (no_value _ q (c.new.ensures q))

pub loop-statement-preserved : goal.loop-statement-preserved
loop-statement-preserved c =
    notes_more (from_all shaped_in) (λ (s : Stmt). shaped_in s.body) (from_step shaped_in) c.args.statements.now c.loop-statement.statement-index c.statement-item.result _ (λ q. []) _ _
    c.loop-statement-test.true c.statement-item.is c.loop-statement.invariant c.in_ok-note_shapes_in.ensures

pub returns : goal.returns
returns c = record {
  has = λ q.
      notes_end (from_all shaped_in) (λ (s : Stmt). shaped_in s.body) (from_none shaped_in) c.args.statements.now c.loop-statement.statement-index (λ q. []) _ (omega arith) c.loop-statement.invariant q
      ∙ start_none (dimensions_among q (from_all shaped_in c.args.statements.now));
}
