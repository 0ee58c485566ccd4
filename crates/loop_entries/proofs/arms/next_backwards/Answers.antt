use Rattle.std.proofs.Common.{List, ℕ, reverse, sym, ap, ◌∙◌, arith}
use Rattle.f_tree.specs.declared.statements.Stmt.{Stmt}
use Rattle.f_tree.specs.Lines.{mark_of}
use Rattle.loop_entries.specs.NextArms.{first_arm}
use Rattle.loop_entries.proofs.ArmLemmas.{next_begin, arms_begin, next_more, arms_more, next_whole}
use Rattle.loop_entries.proofs.arms.next_backwards.Goals as goal

pub loop-behind-init : goal.loop-behind-init
loop-behind-init c = record {
  next = next_begin c.args.statements.now _ c.new-all.ensures.items;
  arms = arms_begin c.args.statements.now _ c.new-arms.ensures.items;
}

pub loop-behind-preserved : goal.loop-behind-preserved
loop-behind-preserved c =
    let ss = c.args.statements.now in
    let i = c.loop-behind.behind in
    let inv = c.loop-behind.invariant in
    let s = c.index-statements-place.result in
    record {
      next = next_more ss i s s c.loop-behind.all.items _ c.first_arm-next.result (reverse c.loop-behind.arms.items) c.loop-behind-test.true c.index-statements-place.is inv.next inv.arms
          (c.first_arm-next.ensures ∙ ap (λ (xs : List ℕ). first_arm (reverse xs)) c.as_slice.ensures.value) c.in_ok-push.ensures.items;
      arms = arms_more ss i s s _ (reverse c.loop-behind.arms.items) _ c.loop-behind-test.true c.index-statements-place.is inv.arms
          (c.mark_of.ensures ∙ ap (λ (t : Stmt). mark_of t.body) (sym c.index-statements-place.is)) c.in_ok-pass_statement.ensures;
    }

pub returns : goal.returns
returns c = next_whole c.args.statements.now c.loop-behind.behind c.loop-behind.all.items (omega arith) c.loop-behind.invariant.next
