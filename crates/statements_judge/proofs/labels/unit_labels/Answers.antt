use Rattle.std.proofs.Common.{ℕ, nat_eq, List, ap, arith}
use Rattle.std.specs.List.{list_any}
use Rattle.f_tree.specs.Places.{has_label}
use Rattle.statements_judge.proofs.LabelLemmas.{entered_more, entered_begin, entered_end, format_more, format_begin, format_end}
use Rattle.statements_judge.proofs.labels.unit_labels.Goals as goal

pub loop-behind-init : goal.loop-behind-init
loop-behind-init c = record {
  branches = λ q. entered_begin c.args.statements.now q _ (ap (λ (ks : List ℕ). list_any (nat_eq q) ks) c.new-branches.ensures.empty);
  formats = λ q. format_begin c.args.statements.now q _ (ap (λ (ks : List ℕ). list_any (nat_eq q) ks) c.new-formats.ensures.empty);
}

pub loop-behind-preserved : goal.loop-behind-preserved
loop-behind-preserved c =
    let ss = c.args.statements.now in
    let i = c.loop-behind.behind in
    let s = c.index-statements-statements.result in
    record {
      branches = λ q.
          entered_more ss i s s q _ _ c.loop-behind-test.true c.index-statements-statements.is (c.loop-behind.invariant.branches q) (c.in_ok-note_branch.ensures q);
      formats = λ q.
          format_more ss i s s q (has_label c.format_label.result q) _ _ c.loop-behind-test.true c.index-statements-statements.is (c.loop-behind.invariant.formats q)
          (c.format_label.ensures q) (c.in_ok-add_label.ensures q);
    }

pub returns : goal.returns
returns c = record {
  branches = λ q. entered_end c.args.statements.now c.loop-behind.behind q _ (omega arith) (c.loop-behind.invariant.branches q);
  formats = λ q. format_end c.args.statements.now c.loop-behind.behind q _ (omega arith) (c.loop-behind.invariant.formats q);
}
