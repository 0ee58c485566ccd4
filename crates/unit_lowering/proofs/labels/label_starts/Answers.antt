use Rattle.std.proofs.Common.{◌≡◌, nat_eq, None, length, sym, ap, ◌∙◌, rules, arith}
use Rattle.std.specs.HashMap.{get_by}
use Rattle.f_tree.specs.Attributes.{first_of_two}
use Rattle.unit_lowering.specs.LabelStarts.{start_at, label_start}
use Rattle.unit_lowering.proofs.LabelStartLemmas.{label_start-none, label_start-more}
use Rattle.unit_lowering.proofs.labels.label_starts.Goals as goal

pub loop-at-init : goal.loop-at-init
loop-at-init c = λ q.
    let known : get_by (nat_eq q) c.new-labels.result ≡ None = search rules in
    known ∙ sym (label_start-none q c.args.statements.now c.args.places.now)

pub loop-at-preserved : goal.loop-at-preserved
loop-at-preserved c = λ q.
    let ss = c.args.statements.now in
    let places = c.args.places.now in
    let i = c.loop-at.at in
    c.in_ok-note_label_at.ensures q ∙ ap (λ o. first_of_two o (start_at q ss places i)) (c.loop-at.invariant q) ∙ sym (label_start-more q ss places i)

pub returns : goal.returns
returns c = λ q.
    c.loop-at.invariant q ∙ ap (label_start q c.args.statements.now c.args.places.now) (let e : c.loop-at.at ≡ length c.args.statements.now = omega arith in e)
