use Rattle.std.proofs.Common.{◌+◌, drop, sym, ap, ◌∙◌, arith}
use Rattle.output_names.specs.OutputNames.{last_part_from}
use Rattle.output_names.proofs.PartLemmas.{behind_slash, behind_other, behind_all}
use Rattle.output_names.proofs.files.last_part_start.Goals as goal
use Rattle.output_names.proofs.files.last_part_start.Goals.{then-byte-eq47, else-byte-eq47}

pub loop-place-preserved : goal.loop-place-preserved
loop-place-preserved c =
    let low = c.loop-place.invariant.0 in
    elim c.if-byte-eq47.branch [
      | then-byte-eq47 w ↦
          let is = w.start-is in (
            omega (arith, is),
            c.loop-place.invariant.1 ∙ behind_slash c.loop-place.start c.loop-place.place c.args.bytes.now c.loop-place-test.true w.if-byte-eq47.true
                ∙ ap (λ n. last_part_from n (c.loop-place.place + 1) (drop (c.loop-place.place + 1) c.args.bytes.now)) (sym w.start-is),
          )
      | else-byte-eq47 w ↦
          let is = w.start-is in (
            omega (arith, is, low),
            c.loop-place.invariant.1 ∙ behind_other c.loop-place.start c.loop-place.place c.args.bytes.now c.loop-place-test.true w.if-byte-eq47.false
                ∙ ap (λ n. last_part_from n (c.loop-place.place + 1) (drop (c.loop-place.place + 1) c.args.bytes.now)) (sym w.start-is),
          )
    ]

pub returns-clause-value : goal.returns-clause-value
returns-clause-value c =
    let past = c.loop-place-test.false in
    sym (c.loop-place.invariant.1 ∙ behind_all c.loop-place.start c.loop-place.place c.args.bytes.now (omega (arith, past)))
