use Rattle.std.proofs.Common.{◌≡◌, ◌+◌, ◌-◌, nat_eq, None, length, sym, rules, arith}
use Rattle.std.specs.HashMap.{get_by}
use Rattle.text_behind.proofs.BehindLemmas.{labels-none, labels-more, labels-end}
use Rattle.text_behind.proofs.labels.labels_behind.Goals as goal

pub loop-place-init : goal.loop-place-init
loop-place-init c =
    let long : length c.args.labels.now.entries ≡ c.len-place.result = sym c.len-place.ensures.len in
    record {
      within = omega (arith, long);
      noted = λ q.
          let known : get_by (nat_eq q) c.new-found.result ≡ None = search rules in
          labels-none c.args.first q c.args.labels.now.entries c.len-place.result (get_by (nat_eq q) c.new-found.result) (omega (arith, long)) known;
    }

pub loop-place-preserved : goal.loop-place-preserved
loop-place-preserved c =
    let place = c.loop-place.place in
    record {
      within = omega (arith, c.loop-place.invariant.within);
      noted = λ q.
          labels-more c.args.first q c.args.labels.now.entries (place - 1) place (get_by (nat_eq q) c.loop-place.found) (get_by (nat_eq q) c.put_at.new.found)
          (let next : place - 1 + 1 ≡ place = omega (arith, c.loop-place-test.true) in next) c.loop-place.invariant.within (c.loop-place.invariant.noted q) (c.in_ok-put_at.ensures q);
    }

pub returns : goal.returns
returns c = λ q.
    labels-end c.args.first q c.args.labels.now.entries c.loop-place.place (get_by (nat_eq q) c.loop-place.found) (omega (arith, c.loop-place-test.false)) (c.loop-place.invariant.noted q)
