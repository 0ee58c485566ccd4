use Rattle.std.proofs.Common.{◌≡◌, ℕ, length, Some, ap, subst, ◌∙◌, arith}
use Rattle.std.specs.Prelude.{slice_get}
use Rattle.f_tree.specs.declared.statements.Stmt.{Stmt}
use Rattle.statement_places.specs.declared.places.StatementPlace.{StatementPlace}
use Rattle.statement_places.specs.StepWays.{IsPlaceIn}
use Rattle.statement_places.proofs.ListLemmas.{each_none, each_more, one_longer, same_read}
use Rattle.statement_places.proofs.places.all_places.Goals as goal

pub loop-place-init : goal.loop-place-init
loop-place-init c = record {
  count = ap length c.new-places.ensures.items;
  each = each_none (λ (k : ℕ) (place : StatementPlace). (s : Stmt) → slice_get c.args.statements.now k ≡ Some s → IsPlaceIn c.args.statements.now c.args.layout.now k s place)
      c.new-places.result.items c.new-places.ensures.items;
}

pub loop-place-preserved : goal.loop-place-preserved
loop-place-preserved c =
    let ss = c.args.statements.now in
    let i = c.loop-place.place in
    let inv = c.loop-place.invariant in
    let statement = c.index-statements-place.result in
    let known : IsPlaceIn ss c.args.layout.now i statement c.in_ok-known.known = c.in_ok-known.ensures in
    record {
      count = one_longer c.loop-place.places.items _ c.in_ok-known.known i inv.count c.in_ok-push.ensures.items;
      each = each_more (λ (k : ℕ) (place : StatementPlace). (s : Stmt) → slice_get c.args.statements.now k ≡ Some s → IsPlaceIn c.args.statements.now c.args.layout.now k s place)
          c.loop-place.places.items _ i c.in_ok-known.known inv.count c.in_ok-push.ensures.items inv.each
          (λ t at. subst (λ (x : Stmt). IsPlaceIn ss c.args.layout.now i x c.in_ok-known.known) (same_read ss i statement t statement c.loop-place-test.true c.index-statements-place.is at) known);
    }

pub returns : goal.returns
returns c =
    let inv = c.loop-place.invariant in
    let whole : c.loop-place.place ≡ length c.args.statements.now = omega arith in
    record { count = inv.count ∙ whole; each = inv.each }
