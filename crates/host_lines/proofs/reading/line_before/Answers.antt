use Rattle.std.proofs.Common.{rules, arith, ◌-◌}
use Rattle.host_lines.proofs.BackLaws.{nothing-read, read-on, found-back, found-at-start}
use Rattle.host_lines.proofs.reading.line_before.Goals as goal

pub loop-end-init : goal.loop-end-init
loop-end-init g c = nothing-read _ _ _ (c.args.offset - 1) c.saturating_sub-end.result c.args.file.now c.saturating_sub-end.ensures

pub returns-in-Some-clause-found : goal.returns-in-Some-clause-found
returns-in-Some-clause-found g c =
    found-back _ _ _ c.args.offset (c.loop-end.end - c.min-length.result) c.loop-end.end c.min-length.result c.in-Some.last
    c.args.file.now c.loop-end.file c.last_end_at.new.file c.last_end_at.new.piece c.loop-end.invariant c.in_ok-last.ensures.taken
    (search rules) (search rules) (omega arith)

pub loop-end-preserved : goal.loop-end-preserved
loop-end-preserved g c =
    read-on _ _ _ (c.args.offset - 1) (c.loop-end.end - c.min-length.result) c.loop-end.end c.min-length.result
    c.args.file.now c.loop-end.file c.last_end_at.new.file c.last_end_at.new.piece c.loop-end.invariant c.in_ok-last.ensures.taken
    (search rules) (search rules) (omega arith)

pub returns-clause-found : goal.returns-clause-found
returns-clause-found g c =
    found-at-start _ _ _ c.args.offset c.loop-end.end c.args.file.now c.loop-end.file c.loop-end.invariant (search rules)
