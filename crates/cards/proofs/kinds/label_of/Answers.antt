use Rattle.std.proofs.Common.{◌+◌, ◌*◌, sym, ap, subst, ◌∙◌}
use Rattle.cards.proofs.LabelLemmas.{Labelling, label_start, label_step_blank, label_step_digit, label_step_other, label_none, label_found}
use Rattle.cards.proofs.kinds.label_of.Goals as goal
use Rattle.cards.proofs.kinds.label_of.Goals.{then-b-ne32+else-not-is_ascii_digit, else-b-ne32}

pub loop-b-init : goal.loop-b-init
loop-b-init c = label_start c.args.field.now

pub returns-then-not-is_ascii_digit : goal.returns-then-not-is_ascii_digit
returns-then-not-is_ascii_digit c =
    label_step_other c.args.field.now c.loop-b.b-index c.loop-b.value c.loop-b.invariant c.loop-b-test.true c.if-b-ne32.true (sym c.is_ascii_digit.ensures.value
    ∙ c.if-not-is_ascii_digit.true)

pub loop-b-preserved : goal.loop-b-preserved
loop-b-preserved c =
    elim c.if-b-ne32.branch [
      | then-b-ne32+else-not-is_ascii_digit w ↦
          label_step_digit c.args.field.now c.loop-b.b-index c.loop-b.value c.loop-b.invariant c.loop-b-test.true w.if-b-ne32.true (sym
          w.is_ascii_digit.ensures.value ∙ w.if-not-is_ascii_digit.false) c.if-b-ne32.value (w.value-is ∙ ap (λ n. c.loop-b.value * 10 + n) w.from.ensures)
      | else-b-ne32 w ↦
          subst (λ v. Labelling c.args.field.now (c.loop-b.b-index + 1) v) (sym w.value-is) (label_step_blank c.args.field.now c.loop-b.b-index c.loop-b.value
          c.loop-b.invariant c.loop-b-test.true w.if-b-ne32.false)
    ]

pub returns-then-value-eq0 : goal.returns-then-value-eq0
returns-then-value-eq0 c = label_none c.args.field.now c.loop-b.b-index c.loop-b.value c.loop-b.invariant c.loop-b-test.false c.if-value-eq0.true

pub returns-else-value-eq0 : goal.returns-else-value-eq0
returns-else-value-eq0 c = label_found c.args.field.now c.loop-b.b-index c.loop-b.value c.loop-b.invariant c.loop-b-test.false c.if-value-eq0.false
