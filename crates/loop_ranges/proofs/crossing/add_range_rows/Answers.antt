use Rattle.std.proofs.Common.{◌≡◌, ◌<◌, ℕ, ◌+◌, drop, take, length, refl, arith}
use Rattle.std.proofs.lemmas.List.{length-take-le}
use Rattle.found_rows.proofs.Walks.{walk_more, walk_end}
use Rattle.f_tree.specs.declared.statements.Stmt.{Stmt}
use Rattle.found_rows.specs.declaration_rows.UnitRows.{crossing_rows}
use Rattle.loop_ranges.specs.OpenRanges.{ranges_at}
use Rattle.loop_ranges.proofs.CrossingLemmas.{row_at, row_put, ranges_more, crossing_step, crossing_none}
use Rattle.loop_ranges.proofs.crossing.add_range_rows.Goals as goal

pub loop-place-init : goal.loop-place-init
loop-place-init c = record { ranges = c.no_ranges-ranges.ensures; rows = refl }

pub loop-place-preserved : goal.loop-place-preserved
loop-place-preserved c =
    let ends = c.args.ends.now in
    let i = c.loop-place.place in
    let s = c.index-statements-place.result in
    let inv = c.loop-place.invariant in
    let within : i < length ends = omega arith in
    let before : length (take i ends) ≡ i = length-take-le i ends (omega arith) in
    record {
      ranges = ranges_more ends i _ _ _ within refl (c.in_ok-crosses.ensures.kept (take i ends) before inv.ranges);
      rows = walk_more (λ (n : ℕ) ss. crossing_rows (ranges_at 0 ends) n ss) (λ (n : ℕ) (t : Stmt). row_at (ranges_at 0 ends) n t) (λ (n : ℕ) (t : Stmt). n + 1) (crossing_step (ranges_at 0 ends))
          c.args.statements.now i s s i _ _ _ _ c.loop-place-test.true c.index-statements-place.is inv.rows
          (row_put ends i _ _ s _ _ _ within refl (c.in_ok-crosses.ensures.tells (take i ends) (drop (i + 1) ends) before inv.ranges) c.in_ok-add_unless.ensures) refl;
    }

pub returns : goal.returns
returns c =
    walk_end (λ (n : ℕ) ss. crossing_rows (ranges_at 0 c.args.ends.now) n ss) (λ (n : ℕ) (t : Stmt). row_at (ranges_at 0 c.args.ends.now) n t) (λ (n : ℕ) (t : Stmt). n + 1)
    (crossing_none (ranges_at 0 c.args.ends.now)) c.args.statements.now c.loop-place.place c.loop-place.place _ _ (omega arith) c.loop-place.invariant.rows
