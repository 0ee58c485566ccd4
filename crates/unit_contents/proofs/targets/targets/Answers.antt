use Rattle.std.proofs.Common.{◌≡◌, ℕ, suc, ◌+◌, ◌<◌, false, ◌||◌, nat_eq, length, get_or, replicate, sym, subst, ap, ◌∙◌, arith}
use Rattle.std.specs.List.{list_any}
use Rattle.f_tree.specs.Facts.{Facts}
use Rattle.lowered_tree.specs.Shapes.{step_of}
use Rattle.main_translation.specs.Flow.{targets_of}
use Rattle.unit_contents.specs.Tables.{text_of}
use Rattle.unit_contents.proofs.Lists.{written_whole}
use Rattle.unit_contents.proofs.TargetLaws.{AreNoted, noted_begin, noted_more, noted_end}
use Rattle.unit_contents.proofs.targets.targets.Goals as goal

pub loop-position-init : goal.loop-position-init
loop-position-init c =
    let t = c.args.text.now in
    noted_begin t c.in_ok-targets.targets.items
    (c.in_ok-targets.ensures.items_if_clones_equal (λ y h. h) ∙ ap (λ n. replicate n false) (let e : length c.as_slice-steps.result.now + 1 ≡ suc (length t.steps.items) = omega (arith, ap length c.as_slice-steps.ensures.value) in e))

pub loop-position-preserved : goal.loop-position-preserved
loop-position-preserved c =
    let t = c.args.text.now in
    let i = c.loop-position.position in
    let before = c.loop-position.targets.items in
    subst (AreNoted t (i + 1)) (sym (written_whole before c.note_targets.new.table c.loop-position.targets.len (omega (arith, c.loop-position.targets.ok.0)) (omega arith)))
    (noted_more t c.as_slice-steps.result.now i c.index-steps-position.result before c.note_targets.new.table c.as_slice-steps.ensures.value c.loop-position-test.true
    c.index-steps-position.is (omega arith)
    (subst
    (λ xs. (d : Facts) (begins : ℕ → ℕ) (n : ℕ) → n < length xs
    → get_or c.note_targets.new.table n false ≡ (get_or xs n false || list_any (nat_eq n) (targets_of (text_of t d begins) i (step_of c.index-steps-position.result))))
    c.deref_mut.ensures.value c.note_targets.ensures)
    c.loop-position.invariant)

pub returns : goal.returns
returns c = noted_end c.args.text.now c.loop-position.position c.loop-position.targets.items (omega arith) c.loop-position.invariant
