use Rattle.std.proofs.Common.{◌+◌, ℕ, [], ◌∷◌, ◌++◌, get_or, refl, ap, ◌∙◌}
use Rattle.loop_ranges.proofs.found_rows.Walks.{walk_more, walk_end}
use Rattle.statement_places.specs.StatementSizes.{turn_size_in}
use Rattle.statement_places.specs.StepWays.{turns_in}
use Rattle.statement_places.specs.declared.places.Turn.{Turn}
use Rattle.statement_places.proofs.WayLemmas.{turn_at, turns_step, turns_none, turns_begin}
use Rattle.statement_places.proofs.turns.turns.Goals as goal

pub loop-first-init : goal.loop-first-init
loop-first-init c = turns_begin c.new-turns.result.items _ c.new-turns.ensures.items

pub loop-first-preserved : goal.loop-first-preserved
loop-first-preserved c =
    let ss = c.args.statements.now in
    let k : ℕ = get_or c.args.firsts.now c.loop-first.first-index 0 in
    walk_more (λ (n : ℕ) ks. turns_in c.args.once ss c.args.positions.now n ks) (λ (n k : ℕ). turn_at c.args.once ss c.args.positions.now n k ∷ []) (λ (n k : ℕ). n + turn_size_in ss k)
    (turns_step c.args.once ss c.args.positions.now) c.args.firsts.now c.loop-first.first-index k 0 c.loop-first.at c.in_ok-at.at _ c.loop-first.turns.items _ c.loop-first-test.true refl
    c.loop-first.invariant
    (c.in_ok-push.ensures.items
    ∙ ap (λ n. c.loop-first.turns.items ++ (let turn : Turn = record { first = k; at = c.loop-first.at; back = n } in turn) ∷ []) c.in_ok-back.ensures)
    (c.in_ok-at.ensures ∙ ap (λ n. c.loop-first.at + n) c.turn_size.ensures)

pub returns : goal.returns
returns c =
    let ss = c.args.statements.now in
    walk_end (λ (n : ℕ) ks. turns_in c.args.once ss c.args.positions.now n ks) (λ (n k : ℕ). turn_at c.args.once ss c.args.positions.now n k ∷ []) (λ (n k : ℕ). n + turn_size_in ss k)
    (turns_none c.args.once ss c.args.positions.now) c.args.firsts.now c.loop-first.first-index c.loop-first.at _ c.loop-first.turns.items c.loop-first-test.false c.loop-first.invariant
