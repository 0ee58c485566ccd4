use Rattle.std.proofs.Common.{bytes_eq, List, ℕ, sym, ap, ◌∙◌, arith}
use Rattle.call_check.proofs.ReasonLemmas.{among_on, among_here, among_end}
use Rattle.call_check.proofs.reasons.shape_among.Goals as goal

pub returns-then-eq : goal.returns-then-eq
returns-then-eq c =
    let x = c.args.name.now in
    among_here x c.args.shapes.now c.loop-named.named-index c.named-item.result c.named-item.result _ c.loop-named-test.true c.named-item.is
    (ap (λ (y : List ℕ). bytes_eq y x) (sym c.as_slice.ensures) ∙ sym c.eq.ensures ∙ c.if-eq.true) c.loop-named.invariant

pub loop-named-preserved : goal.loop-named-preserved
loop-named-preserved c =
    let x = c.args.name.now in
    among_on x c.args.shapes.now c.loop-named.named-index c.named-item.result c.named-item.result _ c.loop-named-test.true c.named-item.is
    (ap (λ (y : List ℕ). bytes_eq y x) (sym c.as_slice.ensures) ∙ sym c.eq.ensures ∙ c.if-eq.false) c.loop-named.invariant

pub returns : goal.returns
returns c = among_end c.args.name.now c.args.shapes.now c.loop-named.named-index _ (omega arith) c.loop-named.invariant
