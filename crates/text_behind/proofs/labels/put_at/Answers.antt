use Rattle.std.proofs.Common.{◌≡◌, ℕ, nat_eq, OnOk, ap, subst}
use Rattle.std.specs.HashMap.{get_by}
use Rattle.text_behind.specs.LabelsBehind.{place_behind}
use Rattle.text_behind.proofs.labels.put_at.Goals as goal

pub returns-in-Some : goal.returns-in-Some
unfolding place_behind
returns-in-Some c =
    subst (λ o. OnOk c.put_behind.result ((q : ℕ) → get_by (nat_eq q) c.put_behind.new.labels ≡ place_behind c.args.first q o (get_by (nat_eq q) c.args.found.now)))
    c.in-Some.ensures.entry c.put_behind.ensures

pub returns-in-None : goal.returns-in-None
unfolding place_behind
returns-in-None c = λ q. ap (λ o. place_behind c.args.first q o (get_by (nat_eq q) c.args.found.now)) c.in-None.ensures.entry
