use Rattle.std.proofs.Common.{◌≡◌, ◌||◌, ℕ, drop, nat_eq, is_some}
use Rattle.std.specs.List.{list_any}
use Rattle.f_tree.specs.Attributes.{from_all}
use Rattle.f_tree.specs.Lines.{loop_label_in}
use Rattle.name_table.specs.Named.{labelled}
use Rattle.loop_ranges.proofs.labels.named_labels.Given as goal

abbrev pub invariant-loop-statement : goal.invariant-loop-statement
invariant-loop-statement l = (q : ℕ) →
    (is_some (labelled l.named q) || list_any (nat_eq q) (from_all loop_label_in (drop l.statement-index l.statements))) ≡ list_any (nat_eq q) (from_all loop_label_in l.statements)
