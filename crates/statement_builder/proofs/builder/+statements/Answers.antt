use Rattle.std.proofs.Common.{◌≡◌, ◌+◌, ◌-◌, ◌<◌, ◌≤◌, None, Some, refl, sym, ap, ◌∙◌, length, take, arith, rules}
use Rattle.named_items.specs.Layouts.{layout_of}
use Rattle.named_items.specs.Structured as spec
use Rattle.statement_builder.specs.declared.plan.Plan.TheVariants as plan
use Rattle.statement_builder.specs.Plans.{popped, steps}
use Rattle.statement_builder.proofs.Building as building
use Rattle.statement_builder.proofs.Carrying as carrying
use Rattle.statement_builder.proofs.PlannedItems.{popped_first, popped_none}
use Rattle.statement_builder.proofs.builder.+statements.Goals as goal

pub one_arm-returns-clause-built : goal.one_arm-returns-clause-built
one_arm-returns-clause-built t c =
    carrying.one_built (layout_of c.args.layout.now) c.args.span.turns c.args.span.position c.args.size c.args.items.now.items c.args.test c.in_ok-first.first c.if_by.result c.in_ok-first.ensures.written c.if_by.ensures

pub one_arm-returns-clause-rest : goal.one_arm-returns-clause-rest
one_arm-returns-clause-rest t c =
    carrying.one_leaves c.args.items.now.items c.statements.new.items.items c.args.size c.args.test c.in_ok-first.first c.if_by.result c.in_ok-first.ensures.rest c.if_by.ensures

pub two_arms-returns-in_default-clause-built : goal.two_arms-returns-in_default-clause-built
two_arms-returns-in_default-clause-built t c =
    c.nothing.ensures
    ∙ carrying.two_none (layout_of c.args.layout.now) c.args.span.turns c.args.span.position c.args.size c.args.other c.args.items.now.items c.args.test (sym c.in_default.is ∙ c.in_ok-first.ensures.written)

pub two_arms-returns-in_default-clause-rest : goal.two_arms-returns-in_default-clause-rest
two_arms-returns-in_default-clause-rest t c = building.leaves_none c.args.items.now.items c.statements.new.items.items (c.args.size + 1 + c.args.other) c.nothing.result c.nothing.ensures

pub two_arms-returns-clause-built : goal.two_arms-returns-clause-built
two_arms-returns-clause-built t c =
    carrying.two_built (layout_of c.args.layout.now) c.args.span.turns c.args.span.position c.args.size c.args.other c.args.items.now.items c.statements.new.items.items c.args.test c.in-Some.first c.in_ok-second.second
    c.if_else_by.result (sym c.in-Some.is ∙ c.in_ok-first.ensures.written)
    (building.leaves_some c.args.items.now.items c.statements.new.items.items c.args.size _ c.in-Some.first c.in-Some.is c.in_ok-first.ensures.rest)
    c.in_ok-second.ensures.written c.if_else_by.ensures

pub two_arms-returns-clause-rest : goal.two_arms-returns-clause-rest
two_arms-returns-clause-rest t c =
    carrying.two_leaves c.args.items.now.items c.statements.new.items.items c.second_arm.new.items.items c.args.size c.args.other c.args.test c.in-Some.first c.in_ok-second.second c.if_else_by.result
    (building.leaves_some c.args.items.now.items c.statements.new.items.items c.args.size _ c.in-Some.first c.in-Some.is c.in_ok-first.ensures.rest)
    c.in_ok-second.ensures.rest c.if_else_by.ensures

pub two_arms-second_arm-requires : goal.two_arms-second_arm-requires
two_arms-second_arm-requires t c =
    let left = building.leaves_some c.args.items.now.items c.statements.new.items.items c.args.size _ c.in-Some.first c.in-Some.is c.in_ok-first.ensures.rest in
    let room = carrying.room_left c.args.items.now.items c.statements.new.items.items c.args.size c.args.other left c.requires.room in
    search rules

pub turns_for-returns-in_default-clause-built : goal.turns_for-returns-in_default-clause-built
turns_for-returns-in_default-clause-built t c =
    c.nothing.ensures
    ∙ carrying.turns_none (layout_of c.args.layout.now) c.args.span.turns c.args.span.position c.args.size c.args.items.now.items c.args.head (sym c.in_default.is ∙ c.in_ok-turn.ensures.written)

pub turns_for-returns-in_default-clause-rest : goal.turns_for-returns-in_default-clause-rest
turns_for-returns-in_default-clause-rest t c = building.leaves_none c.args.items.now.items c.statements.new.items.items (c.args.size + 2) c.nothing.result c.nothing.ensures

pub turns_for-returns-clause-built : goal.turns_for-returns-clause-built
turns_for-returns-clause-built t c =
    carrying.turns_built (layout_of c.args.layout.now) c.args.span.turns c.args.span.position c.args.size c.args.items.now.items c.statements.new.items.items c.args.head c.in-Some.turn c.closed.result
    (sym c.in-Some.is ∙ c.in_ok-turn.ensures.written)
    (building.leaves_some c.args.items.now.items c.statements.new.items.items c.args.size _ c.in-Some.turn c.in-Some.is c.in_ok-turn.ensures.rest) c.closed.ensures.built

pub turns_for-returns-clause-rest : goal.turns_for-returns-clause-rest
turns_for-returns-clause-rest t c =
    carrying.turns_leave c.args.items.now.items c.statements.new.items.items c.closed.new.items.items c.args.size c.closed.result
    (building.leaves_some c.args.items.now.items c.statements.new.items.items c.args.size _ c.in-Some.turn c.in-Some.is c.in_ok-turn.ensures.rest) c.closed.ensures.rest

pub once_for-returns-in_default-clause-built : goal.once_for-returns-in_default-clause-built
once_for-returns-in_default-clause-built t c =
    c.nothing.ensures
    ∙ carrying.once_none (layout_of c.args.layout.now) c.args.span.turns c.args.span.position c.args.size c.args.items.now.items c.args.variable c.args.first (sym c.in_default.is ∙ c.in_ok-turn.ensures.written)

pub once_for-returns-in_default-clause-rest : goal.once_for-returns-in_default-clause-rest
once_for-returns-in_default-clause-rest t c = building.leaves_none c.args.items.now.items c.statements.new.items.items (c.args.size + 1) c.nothing.result c.nothing.ensures

pub once_for-returns-clause-built : goal.once_for-returns-clause-built
once_for-returns-clause-built t c =
    building.if_ok _ _ c.tested.result
    (λ r made. carrying.once_built (layout_of c.args.layout.now) c.args.span.turns c.args.span.position c.args.size c.args.items.now.items c.statements.new.items.items c.args.variable c.args.first c.in-Some.turn r
    (sym c.in-Some.is ∙ c.in_ok-turn.ensures.written)
    (building.leaves_some c.args.items.now.items c.statements.new.items.items c.args.size _ c.in-Some.turn c.in-Some.is c.in_ok-turn.ensures.rest) made)
    c.tested.ensures.built

pub once_for-returns-clause-rest : goal.once_for-returns-clause-rest
once_for-returns-clause-rest t c =
    building.if_ok _ _ c.tested.result
    (λ r made. carrying.once_leave c.args.items.now.items c.statements.new.items.items c.tested.new.items.items c.args.size r
    (building.leaves_some c.args.items.now.items c.statements.new.items.items c.args.size _ c.in-Some.turn c.in-Some.is c.in_ok-turn.ensures.rest) c.tested.ensures.rest)
    c.tested.ensures.built

pub second_arm-statements-requires : goal.second_arm-statements-requires
second_arm-statements-requires t c =
    let room = carrying.room_behind c.args.items.now.items c.pop_front.new.self.items c.args.arm.count c.pop_front.ensures.rest c.requires.within in
    search rules

pub second_arm-returns-clause-written : goal.second_arm-returns-clause-written
second_arm-returns-clause-written t c =
    building.if_ok _ _ c.statements.result
    (λ r is. carrying.second_built (layout_of c.args.layout.now) c.args.arm.turns c.args.arm.position c.args.arm.count c.args.items.now.items c.pop_front.new.self.items r c.pop_front.ensures.rest is)
    c.statements.ensures.written

pub second_arm-returns-clause-rest : goal.second_arm-returns-clause-rest
second_arm-returns-clause-rest t c =
    building.if_ok _ _ c.statements.result
    (λ r leaves. carrying.second_leaves c.args.items.now.items c.pop_front.new.self.items c.statements.new.items.items c.args.arm.count r c.pop_front.ensures.rest leaves)
    c.statements.ensures.rest

pub carry-one_arm-requires : goal.carry-one_arm-requires
carry-one_arm-requires t c = let same : steps c.args.plan ≡ c.in-OneArm.size = ap steps c.in-OneArm.is in search rules

pub carry-two_arms-requires : goal.carry-two_arms-requires
carry-two_arms-requires t c = let same : steps c.args.plan ≡ c.in-TwoArms.size + 1 + c.in-TwoArms.other = ap steps c.in-TwoArms.is in search rules

pub carry-turns_for-requires : goal.carry-turns_for-requires
carry-turns_for-requires t c = let same : steps c.args.plan ≡ c.in-Turns.size + 2 = ap steps c.in-Turns.is in search rules

pub carry-once_for-requires : goal.carry-once_for-requires
carry-once_for-requires t c = let same : steps c.args.plan ≡ c.in-Once.size + 1 = ap steps c.in-Once.is in search rules

pub carry-returns-in-Unwritten-clause-built : goal.carry-returns-in-Unwritten-clause-built
carry-returns-in-Unwritten-clause-built t c =
    carrying.carry_built (spec.structured (layout_of c.args.layout.now) c.args.span.turns) c.args.span.position c.args.items.now.items c.args.plan plan.Unwritten None c.in-Unwritten.is
    (carrying.carried_nothing (spec.structured (layout_of c.args.layout.now) c.args.span.turns) c.args.span.position c.args.items.now.items)

pub carry-returns-in-Whole-clause-built : goal.carry-returns-in-Whole-clause-built
carry-returns-in-Whole-clause-built t c =
    carrying.carry_built (spec.structured (layout_of c.args.layout.now) c.args.span.turns) c.args.span.position c.args.items.now.items c.args.plan (plan.Whole c.in-Whole.part) _ c.in-Whole.is
    (carrying.carried_whole (spec.structured (layout_of c.args.layout.now) c.args.span.turns) c.args.span.position c.args.items.now.items c.in-Whole.part)

pub carry-returns-in-Whole-clause-rest : goal.carry-returns-in-Whole-clause-rest
carry-returns-in-Whole-clause-rest t c =
    carrying.carry_leaves c.args.items.now.items c.pass.new.items.items c.args.plan (plan.Whole c.in-Whole.part) (Some c.in-Whole.part) c.in-Whole.is c.pass.ensures

pub carry-returns-in-OneArm-clause-built : goal.carry-returns-in-OneArm-clause-built
carry-returns-in-OneArm-clause-built t c =
    building.if_ok _ _ c.one_arm.result
    (λ r is. carrying.carry_built (spec.structured (layout_of c.args.layout.now) c.args.span.turns) c.args.span.position c.args.items.now.items c.args.plan (plan.OneArm c.in-OneArm.test c.in-OneArm.size) r c.in-OneArm.is
    (is ∙ carrying.carried_one (spec.structured (layout_of c.args.layout.now) c.args.span.turns) c.args.span.position c.in-OneArm.size c.args.items.now.items c.in-OneArm.test))
    c.one_arm.ensures.built

pub carry-returns-in-OneArm-clause-rest : goal.carry-returns-in-OneArm-clause-rest
carry-returns-in-OneArm-clause-rest t c =
    building.if_ok _ _ c.one_arm.result
    (λ r leaves. carrying.carry_leaves c.args.items.now.items c.one_arm.new.items.items c.args.plan (plan.OneArm c.in-OneArm.test c.in-OneArm.size) r c.in-OneArm.is leaves)
    c.one_arm.ensures.rest

pub carry-returns-in-TwoArms-clause-built : goal.carry-returns-in-TwoArms-clause-built
carry-returns-in-TwoArms-clause-built t c =
    building.if_ok _ _ c.two_arms.result
    (λ r is. carrying.carry_built (spec.structured (layout_of c.args.layout.now) c.args.span.turns) c.args.span.position c.args.items.now.items c.args.plan (plan.TwoArms c.in-TwoArms.test c.in-TwoArms.size c.in-TwoArms.other) r
    c.in-TwoArms.is
    (is ∙ carrying.carried_two (spec.structured (layout_of c.args.layout.now) c.args.span.turns) c.args.span.position c.in-TwoArms.size c.in-TwoArms.other c.args.items.now.items c.in-TwoArms.test))
    c.two_arms.ensures.built

pub carry-returns-in-TwoArms-clause-rest : goal.carry-returns-in-TwoArms-clause-rest
carry-returns-in-TwoArms-clause-rest t c =
    building.if_ok _ _ c.two_arms.result
    (λ r leaves. carrying.carry_leaves c.args.items.now.items c.two_arms.new.items.items c.args.plan (plan.TwoArms c.in-TwoArms.test c.in-TwoArms.size c.in-TwoArms.other) r c.in-TwoArms.is leaves)
    c.two_arms.ensures.rest

pub carry-returns-in-Turns-clause-built : goal.carry-returns-in-Turns-clause-built
carry-returns-in-Turns-clause-built t c =
    building.if_ok _ _ c.turns_for.result
    (λ r is. carrying.carry_built (spec.structured (layout_of c.args.layout.now) c.args.span.turns) c.args.span.position c.args.items.now.items c.args.plan (plan.Turns c.in-Turns.head c.in-Turns.size) r c.in-Turns.is
    (is ∙ carrying.carried_turns (spec.structured (layout_of c.args.layout.now) c.args.span.turns) c.args.span.position c.in-Turns.size c.args.items.now.items c.in-Turns.head))
    c.turns_for.ensures.built

pub carry-returns-in-Turns-clause-rest : goal.carry-returns-in-Turns-clause-rest
carry-returns-in-Turns-clause-rest t c =
    building.if_ok _ _ c.turns_for.result
    (λ r leaves. carrying.carry_leaves c.args.items.now.items c.turns_for.new.items.items c.args.plan (plan.Turns c.in-Turns.head c.in-Turns.size) r c.in-Turns.is leaves)
    c.turns_for.ensures.rest

pub carry-returns-in-Once-clause-built : goal.carry-returns-in-Once-clause-built
carry-returns-in-Once-clause-built t c =
    building.if_ok _ _ c.once_for.result
    (λ r is. carrying.carry_built (spec.structured (layout_of c.args.layout.now) c.args.span.turns) c.args.span.position c.args.items.now.items c.args.plan (plan.Once c.in-Once.variable c.in-Once.first c.in-Once.size) r c.in-Once.is
    (is ∙ carrying.carried_once (spec.structured (layout_of c.args.layout.now) c.args.span.turns) c.args.span.position c.in-Once.size c.args.items.now.items c.in-Once.variable c.in-Once.first))
    c.once_for.ensures.built

pub carry-returns-in-Once-clause-rest : goal.carry-returns-in-Once-clause-rest
carry-returns-in-Once-clause-rest t c =
    building.if_ok _ _ c.once_for.result
    (λ r leaves. carrying.carry_leaves c.args.items.now.items c.once_for.new.items.items c.args.plan (plan.Once c.in-Once.variable c.in-Once.first c.in-Once.size) r c.in-Once.is leaves)
    c.once_for.ensures.rest

pub part_at-carry-requires : goal.part_at-carry-requires
part_at-carry-requires t c =
    let room = carrying.room_ahead c.args.span.count c.args.items.now.items c.plan_part.new.items.items c.in_ok-plan.plan c.requires.within c.in_ok-plan.ensures.ahead c.in_ok-plan.ensures.counted in
    let counted : popped c.in_ok-plan.plan + steps c.in_ok-plan.plan ≤ c.args.span.count = c.in_ok-plan.ensures.counted in
    search rules

pub part_at-returns-clause-built : goal.part_at-returns-clause-built
part_at-returns-clause-built t c =
    building.if_ok _ _ c.marked.result
    (λ r is. carrying.part_built (layout_of c.args.layout.now) (spec.structured (layout_of c.args.layout.now) c.args.span.turns) c.args.span.position c.args.item (take c.args.span.count c.args.items.now.items)
    c.plan_part.new.items.items c.in_ok-plan.plan c.in_ok-part.part r c.in_ok-plan.ensures.built c.in_ok-part.ensures.built (is ∙ ap (λ l. spec.marked l c.in_ok-part.part) c.label.ensures))
    c.marked.ensures

pub part_at-returns-clause-rest : goal.part_at-returns-clause-rest
part_at-returns-clause-rest t c =
    building.if_ok _ _ c.marked.result
    (λ r is. carrying.marked_takes c.args.items.now.items c.carry.new.items.items c.args.span.count _ c.in_ok-part.part r
    (carrying.part_takes (spec.structured (layout_of c.args.layout.now) c.args.span.turns) c.args.span.position c.args.span.count c.args.items.now.items c.plan_part.new.items.items c.carry.new.items.items c.in_ok-plan.plan
    c.in_ok-part.part c.in_ok-part.ensures.built c.in_ok-plan.ensures.ahead c.in_ok-plan.ensures.counted c.in_ok-part.ensures.rest)
    is)
    c.marked.ensures

pub statements-loop-left-init : goal.statements-loop-left-init
statements-loop-left-init t c = building.underway_start (layout_of c.args.layout.now) c.args.span.position c.args.span.count c.args.span.turns c.args.items.now.items _ c.new-written.ensures.items c.requires.within

pub statements-returns-then-left-eq0-clause-written : goal.statements-returns-then-left-eq0-clause-written
statements-returns-then-left-eq0-clause-written t c = building.underway_stuck _ _ _ _ _ _ _ _ _ _ c.loop-left.invariant c.if-left-eq0.true c.loop-left-test.true

pub statements-returns-in_default-clause-written : goal.statements-returns-in_default-clause-written
statements-returns-in_default-clause-written t c =
    let room = c.loop-left.invariant.within in
    let some : 0 < length c.loop-left.items.items = omega (arith, room, c.loop-left-test.true) in
    absurd (popped_none c.pop_front.result c.loop-left.items.items c.pop_front.new.self.items c.in_default.is c.pop_front.ensures.items c.pop_front.ensures.rest some)

pub statements-returns-in-None-clause-written : goal.statements-returns-in-None-clause-written
statements-returns-in-None-clause-written t c =
    let some : 0 < c.loop-left.left.turns = omega arith in
    let more = c.loop-left-test.true in
    building.underway_none (layout_of c.args.layout.now) _ _ _ _ _ c.loop-left.left.position c.loop-left.left.count c.loop-left.left.turns c.loop-left.items.items c.loop-left.invariant (c.loop-left.left.count - 1)
    (c.loop-left.left.turns - 1) c.pop_front.new.self.items c.in-Some.item (omega (arith, some)) (omega (arith, more))
    (popped_first c.pop_front.result c.loop-left.items.items c.pop_front.new.self.items c.in-Some.item c.in-Some.is c.pop_front.ensures.items)
    (sym c.in-None.is ∙ c.in_ok-part.ensures.built)

pub statements-loop-left-preserved : goal.statements-loop-left-preserved
statements-loop-left-preserved t c =
    let some : 0 < c.loop-left.left.turns = omega arith in
    let more = c.loop-left-test.true in
    let takes = building.takes_some c.pop_front.new.self.items _ (c.loop-left.left.count - 1) _ c.in-Some-2.part c.in-Some-2.is c.in_ok-part.ensures.rest in
    building.underway_more _ _ _ _ _ _ c.loop-left.left.position c.loop-left.left.count c.loop-left.left.turns c.loop-left.items.items c.loop-left.invariant (c.loop-left.left.count - 1)
    (c.loop-left.left.turns - 1) c.pop_front.new.self.items c.in-Some.item c.in-Some-2.part _ _ _ _ (omega (arith, some)) (omega (arith, more))
    (popped_first c.pop_front.result c.loop-left.items.items c.pop_front.new.self.items c.in-Some.item c.in-Some.is c.pop_front.ensures.items)
    (sym c.in-Some-2.is ∙ c.in_ok-part.ensures.built) takes.0 takes.1 (omega arith) refl c.in_ok-push-in-Some-2.ensures.items

pub statements-returns-clause-written : goal.statements-returns-clause-written
statements-returns-clause-written t c =
    let none : c.loop-left.left.count ≡ 0 = omega arith in
    ap Some c.from_vec.ensures ∙ building.underway_done _ _ _ _ _ _ _ _ _ _ c.loop-left.invariant none

pub statements-returns-clause-rest : goal.statements-returns-clause-rest
statements-returns-clause-rest t c =
    let none : c.loop-left.left.count ≡ 0 = omega arith in
    building.underway_rest _ _ _ _ _ _ _ _ _ _ c.loop-left.invariant none
