use Rattle.std.proofs.Common.{◌+◌, ℕ, drop, take, sym, ap, subst, ◌∙◌, arith, Option, None}
use Rattle.std.specs.Prelude.{not}
use Rattle.std.proofs.lemmas.List.{take_rest}
use Rattle.cards.specs.Passes.{seen, row_of, placed, fault_or}
use Rattle.cards.proofs.PassLemmas.{Passing, most_cards-is, passing_starts, passing_goes_on, next_low, next_some, pass_ends}
use Rattle.cards.proofs.pass.pass_over.Goals as goal

pub loop-alloc-init : goal.loop-alloc-init
loop-alloc-init c =
    subst (λ l. Passing c.args.file c.args.refused c.args.bytes.now (record { done = l; current = None }) None 0 c.args.bytes.now) (sym c.new.ensures)
    (passing_starts c.args.file c.args.refused c.args.bytes.now)

pub line_length-length-requires : goal.line_length-length-requires
line_length-length-requires c = next_some c.loop-alloc.cards c.loop-alloc.rest.now (sym c.has_next.ensures ∙ c.loop-alloc-test.true)

pub overflow_add-cards : goal.overflow_add-cards
overflow_add-cards c = omega (arith, most_cards-is, c.loop-alloc.invariant.few)

pub overflow_add-cards-in-loop-alloc : goal.overflow_add-cards-in-loop-alloc
overflow_add-cards-in-loop-alloc c = omega (arith, most_cards-is, c.loop-alloc.invariant.few)

pub group_after-requires-clause-room : goal.group_after-requires-clause-room
group_after-requires-clause-room c = omega (arith, most_cards-is, c.loop-alloc.invariant.few, c.loop-alloc.invariant.count)

pub overflow_add-cards-in-loop-alloc-2 : goal.overflow_add-cards-in-loop-alloc-2
overflow_add-cards-in-loop-alloc-2 c = omega (arith, most_cards-is, c.loop-alloc.invariant.few)

pub loop-alloc-preserved : goal.loop-alloc-preserved
loop-alloc-preserved c =
    let rest = c.loop-alloc.rest.now in
    let n = c.line_length-length.result in
    let cards = c.loop-alloc.cards in
    let card = seen c.card_of-card.result in
    let row_is = c.row_of.ensures ∙ ap (λ (o : Option ℕ). row_of c.args.refused o card) c.counted.ensures in
    subst (λ l. Passing c.args.file c.args.refused c.args.bytes.now c.in_ok-group.group c.fault_or-fault.result (cards + 1) l) (sym (take_rest rest n))
    (passing_goes_on c.args.file c.args.refused c.args.bytes.now c.loop-alloc.group c.loop-alloc.fault cards rest (take n rest) (drop n rest) card
    c.in_ok-group.group c.fault_or-fault.result
    c.loop-alloc.invariant
    (next_low cards rest (sym c.has_next.ensures ∙ c.loop-alloc-test.true))
    c.line_length-length.ensures.first
    c.card_of-card.ensures
    c.in_ok-group.ensures
    (c.fault_or-fault.ensures ∙ ap (fault_or c.loop-alloc.fault) (c.placed.ensures ∙ ap (placed (cards + 1)) row_is)))

pub returns : goal.returns
returns c =
    pass_ends c.args.file c.args.refused c.args.bytes.now c.loop-alloc.group c.loop-alloc.fault c.loop-alloc.cards c.loop-alloc.rest.now c.loop-alloc.invariant
    (sym c.has_next.ensures ∙ c.loop-alloc-test.false) _ (ap not c.is_empty.ensures)
