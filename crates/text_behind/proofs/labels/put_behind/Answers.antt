use Rattle.std.proofs.Common.{◌≡◌, ℕ, nat_eq, Some, OnOk, if◌then◌else◌, subst}
use Rattle.std.specs.HashMap.{get_by}
use Rattle.text_behind.specs.LabelsBehind.{one_behind}
use Rattle.text_behind.proofs.labels.put_behind.Goals as goal

pub returns : goal.returns
unfolding one_behind
returns c =
    subst (λ n. OnOk c.put_label.result ((q : ℕ) → get_by (nat_eq q) c.put_label.new.labels ≡ (if nat_eq q c.args.label.now then Some n else get_by (nat_eq q) c.args.labels.now)))
    c.in_ok-at.ensures c.put_label.ensures
