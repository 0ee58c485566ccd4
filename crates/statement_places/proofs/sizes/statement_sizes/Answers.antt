use Rattle.std.proofs.Common.{◌≡◌, ℕ, [], ◌∷◌, ◌++◌, length, not, Some, Err, ap, ◌∙◌, arith}
use Rattle.std.specs.Prelude.{slice_get}
use Rattle.std.proofs.lemmas.Result.{err_from_is_err_and}
use Rattle.f_tree.specs.declared.statements.Stmt.{Stmt}
use Rattle.lowering.specs.Units.{is_named}
use Rattle.expression_lowering.specs.declared.answers.LowerError.TheVariants.{NotLowered}
use Rattle.statement_places.specs.declared.sizes.Size.{Size}
use Rattle.statement_places.specs.StatementSizes.{free_in, ended_in, IsSize}
use Rattle.statement_places.proofs.ListLemmas.{each_none, each_more, one_longer, pushed_if}
use Rattle.statement_places.proofs.SizeLemmas.{some_refused, size_here, sized}
use Rattle.statement_places.proofs.sizes.statement_sizes.Goals as goal

pub loop-place-init : goal.loop-place-init
loop-place-init c = record {
  count = ap length c.new-sizes.ensures.items;
  each = λ labels set.
      each_none
      (λ (k : ℕ) (size : Size). (s : Stmt) → slice_get c.args.statements.now k ≡ Some s
      → IsSize c.args.table.now c.args.once c.args.assigned.now c.args.statements.now (free_in c.args.loops.now k) (ended_in c.args.loops.now k) (is_named labels s.label) s.body size)
      c.new-sizes.result.items c.new-sizes.ensures.items;
}

pub loop-place-preserved : goal.loop-place-preserved
loop-place-preserved c =
    let ss = c.args.statements.now in
    let i = c.loop-place.place in
    let inv = c.loop-place.invariant in
    let statement = c.index-statements-place.result in
    let pushed : c.push.new.self.items ≡ c.loop-place.sizes.items ++ c.in_ok-size.size ∷ [] =
    pushed_if c.loop-place.sizes.items _ c.in_ok-size.size _ c.push.ensures.items (c.is_err.ensures.negation ∙ ap not c.if-is_err.false) in
    record {
      count = one_longer c.loop-place.sizes.items _ c.in_ok-size.size i inv.count pushed;
      each = λ labels set.
          each_more
          (λ (k : ℕ) (size : Size). (s : Stmt) → slice_get c.args.statements.now k ≡ Some s
          → IsSize c.args.table.now c.args.once c.args.assigned.now c.args.statements.now (free_in c.args.loops.now k) (ended_in c.args.loops.now k) (is_named labels s.label) s.body size)
          c.loop-place.sizes.items _ i c.in_ok-size.size inv.count pushed (inv.each labels set)
          (λ t at.
          size_here c.args.table.now c.args.once c.args.assigned.now labels ss c.args.loops.now i statement t statement c.free_at.result c.ended_at.result.now c.is_named.result _ _ c.in_ok-size.size
          c.loop-place-test.true c.index-statements-place.is c.in_ok-size.ensures.size (cc) c.free_at.ensures c.ended_at.ensures (c.is_named.ensures labels set) (cc) at);
    }

pub returns-in_err-size-clause-refused : goal.returns-in_err-size-clause-refused
returns-in_err-size-clause-refused c = λ is.
    let q = err_from_is_err_and c.from_residual.result c.from_residual.ensures.1 in
    let e : c.in_err-size.field-0.0 ≡ NotLowered = cc (q.1, q.2, is) in
    let statement = c.index-statements-place.result in
    some_refused c.args.table.now c.args.statements.now c.loop-place.place statement statement c.loop-place-test.true c.index-statements-place.is (c.in_err-size.ensures.refused (ap Err e))

pub returns-clause-sizes : goal.returns-clause-sizes
returns-clause-sizes c = λ labels set.
    let inv = c.loop-place.invariant in
    sized c.args.table.now c.args.once c.args.assigned.now labels c.args.statements.now c.args.loops.now c.loop-place.sizes.items c.loop-place.place inv.count (omega arith) (inv.each labels set)
