use Rattle.std.proofs.Common.{◌≡◌, ℕ, ◌+◌, ◌<◌, Some, None, if◌then◌else◌, length, get_or, sym, subst, ap, refl, ◌∙◌, arith}
use Rattle.std.specs.Option.{option_or}
use Rattle.lowered_tree.specs.Shapes.{steps_of}
use Rattle.main_translation.specs.Outlined.{labels_in, stands_at}
use Rattle.unit_contents.proofs.Lists.{written_whole}
use Rattle.unit_contents.proofs.FirstLaws.{ArePutTo, labels_put, labels_end}
use Rattle.unit_contents.proofs.firsts.first_labels.Goals as goal

pub loop-label-preserved : goal.loop-label-preserved
loop-label-preserved c =
    let t = c.args.text.now in
    let i = c.loop-label.label-index in
    let before = c.loop-label.firsts.items in
    let after = c.put_label.new.table in
    let labels = c.deref-label-items.result.now in
    let label = get_or labels i 0 in
    let put : (n : ℕ) → n < length before → get_or after n None ≡ option_or (get_or before n None) (if stands_at c.place_of.result n then Some label else None)
    = subst (λ xs. (n : ℕ) → n < length xs → get_or after n None ≡ option_or (get_or xs n None) (if stands_at c.place_of.result n then Some label else None)) c.deref_mut.ensures.value
    c.put_label.ensures in
    subst (ArePutTo t (i + 1)) (sym (written_whole before after c.loop-label.firsts.len (omega (arith, c.loop-label.firsts.ok.0)) (omega arith)))
    (labels_put t labels i label 0 before after (c.deref-label-items.ensures.value ∙ c.in_ok-labels.ensures ∙ ap (λ ss. labels_in (steps_of ss)) c.as_slice-steps.ensures.value)
    c.loop-label-test.true refl (omega arith)
    (λ n h. put n h ∙ ap (λ o. option_or (get_or before n None) (if stands_at o n then Some label else None)) c.place_of.ensures) c.loop-label.invariant)

pub returns : goal.returns
returns c =
    labels_end c.args.text.now c.deref-label-items.result.now c.loop-label.label-index c.loop-label.firsts.items
    (c.deref-label-items.ensures.value ∙ c.in_ok-labels.ensures ∙ ap (λ ss. labels_in (steps_of ss)) c.as_slice-steps.ensures.value) (omega arith) c.loop-label.invariant
