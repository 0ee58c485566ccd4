use Rattle.std.proofs.Common.{◌+◌, get_or, sym, subst, arith}
use Rattle.std.proofs.Math.ListN.{set, length-set}
use Rattle.std.proofs.lemmas.List.{take_rest, nil_from_length}
use Rattle.std.proofs.lemmas.Bool.{eq-eqb, ne_eqb}
use Rattle.cards.proofs.ColumnLemmas.{Spreading, spread_tab, spread_other, full_columns, full_past, short_columns, short_past}
use Rattle.cards.proofs.columns.in_columns.Goals as goal
use Rattle.cards.proofs.columns.in_columns.Goals.{else-loop-column-test, then-loop-column-test+in_default}

pub loop-column-preserved-then-first-eq9 : goal.loop-column-preserved-then-first-eq9
loop-column-preserved-then-first-eq9 c =
    let past = c.loop-column.past.now in
    subst (λ l. Spreading 72 c.args.line.now c.loop-column.columns c.behind_tab-column.result l) (sym (take_rest past 1))
    (spread_tab 72 c.args.line.now c.loop-column.columns c.loop-column.column past c.behind_tab-column.result c.loop-column.invariant (omega arith)
    c.loop-column-test.true c.in-len1-up.len_at_least (eq-eqb _ 9 c.if-first-eq9.true) c.behind_tab-column.ensures)

pub loop-column-preserved : goal.loop-column-preserved
loop-column-preserved c =
    let past = c.loop-column.past.now in
    subst (λ l. Spreading 72 c.args.line.now (set c.loop-column.columns c.loop-column.column (get_or past 0 0)) (c.loop-column.column + 1) l) (sym (take_rest past 1))
    (spread_other 72 c.args.line.now c.loop-column.columns c.loop-column.column past c.loop-column.invariant c.loop-column-test.true c.in-len1-up.len_at_least
    (ne_eqb _ 9 c.if-first-eq9.false) (length-set c.loop-column.columns c.loop-column.column (get_or past 0 0)))

pub returns-clause-columns : goal.returns-clause-columns
returns-clause-columns c =
    elim c.loop-column-test.branch [
      | else-loop-column-test w ↦ full_columns 72 c.args.line.now c.loop-column.columns c.loop-column.column c.loop-column.past.now c.loop-column.invariant
          w.loop-column-test.false
      | then-loop-column-test+in_default w ↦ short_columns 72 c.args.line.now c.loop-column.columns c.loop-column.column c.loop-column.past.now
          c.loop-column.invariant (nil_from_length c.loop-column.past.now (omega (arith, w.in_default.len_below)))
    ]

pub returns-clause-past : goal.returns-clause-past
returns-clause-past c =
    elim c.loop-column-test.branch [
      | else-loop-column-test w ↦ full_past 72 c.args.line.now c.loop-column.columns c.loop-column.column c.loop-column.past.now c.loop-column.invariant
          w.loop-column-test.false
      | then-loop-column-test+in_default w ↦ short_past 72 c.args.line.now c.loop-column.columns c.loop-column.column c.loop-column.past.now c.loop-column.invariant
          (nil_from_length c.loop-column.past.now (omega (arith, w.in_default.len_below)))
    ]
