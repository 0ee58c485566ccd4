use Rattle.std.proofs.Common.{Bool, ◌++◌, ◌+◌, take, false, ap, sym, ◌∙◌, ◌-◌, ◌^◌}
use Rattle.std.proofs.KnownBytes.{Consumes-trans}
use Rattle.host_lines.specs.Lines.{ends_in, inside_after}
use Rattle.host_lines.proofs.LineLaws.{ends-joined, inside-joined, capped-sum}
use Rattle.host_lines.proofs.reading.count_lines.Goals as goal

pub loop-preserved : goal.loop-preserved
loop-preserved g c =
    let (taken, consumed, count, inside) = c.loop.invariant
    in let more = take c.in_ok-count.count c.read.new.buf
    in (
      taken ++ more,
      Consumes-trans _ _ _ _ _ consumed c.in_ok-count.ensures.bytes.0,
      c.saturating_add-lines.ensures
          ∙ capped-sum (2 ^ 64 - 1) c.loop.lines (ends_in taken) (ends_in (taken ++ more)) c.ends_in.result count
          (ends-joined taken more ∙ ap (λ n. ends_in taken + n) (sym c.ends_in.ensures)),
      c.inside_after-is_inside.ensures
          ∙ ap (λ (b : Bool). inside_after b more) inside
          ∙ sym (inside-joined false taken more),
    )
