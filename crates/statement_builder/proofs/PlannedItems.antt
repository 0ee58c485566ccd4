-- What plans for items give.
use Rattle.std.specs.Prelude.{◌≡◌, ℕ, zero, suc, ◌+◌, ◌-◌, ◌<◌, ◌≤◌, nat_eq, nat_lt, nat_le, Bool, true, false, ◌&&◌, List, [], ◌∷◌, ◌++◌, length, take, drop, Option, Some, None, option_to_list, slice_get, if◌then◌else◌}
use Rattle.std.proofs.Common.{refl, sym, ap, ◌∙◌, subst, arith}
use Rattle.std.proofs.lemmas.Bool.{and_from, and_parts, leb-true, lt-ltb, le-leb, lt-leb, eq-eqb, ne_eqb, le-ltb}
use Rattle.std.proofs.lemmas.List.{length-drop, length-take-le}
use Rattle.c_tree.specs.declared.expression.CExpr.{CExpr}
use Rattle.c_tree.specs.declared.statement.CStmt.{CStmt}
use Rattle.named_items.specs.declared.item.Case.{Case}
use Rattle.named_items.specs.declared.item.Item.{Item}
use Rattle.named_items.specs.declared.item.Item.TheVariants as item
use Rattle.named_items.specs.declared.part.Head.{Head}
use Rattle.named_items.specs.declared.part.Part.{Part}
use Rattle.named_items.specs.Layouts.{Layout}
use Rattle.named_items.specs.Structured.{Writer, test_in, part, statement_of, alone, if_by, if_else_by, end_of_arm, one_arm, two_arms, arms_for, branch_for, test_for, switch_for, plain_for, next_for, is_loop, for_by, turns_for, head_for, tests_turn, do_by, do_for, loop_for, part_for}
use Rattle.statement_builder.specs.declared.plan.Plan.{Plan}
use Rattle.statement_builder.specs.declared.plan.Plan.TheVariants.{Unwritten, Whole, OneArm, TwoArms, Turns, Once}
use Rattle.statement_builder.specs.Plans.{carried, whole, turns, loop_plan, popped, steps, Ahead}
use Rattle.statement_builder.proofs.Building.{some_same, take_less, drop_less, get_less}

-- ## What comes of a plan

pub carried_unwritten : (write : Writer) (n : ℕ) (queue : List Item) → carried write n Unwritten queue ≡ None
unfolding carried
carried_unwritten write n queue = refl

-- nothing is planned where nothing is asked for
pub none_planned : (write : Writer) (n : ℕ) (queue : List Item) (plan : Plan) (given : Option Part) → plan ≡ Unwritten → None ≡ given → carried write n plan queue ≡ given
none_planned write n queue plan given is none = ap (λ p. carried write n p queue) is ∙ carried_unwritten write n queue ∙ none

pub unwritten_steps : (plan : Plan) (count : ℕ) → plan ≡ Unwritten → steps plan ≤ count
unwritten_steps plan count is = let none : steps plan ≡ 0 = ap steps is in omega (arith, none)

pub unwritten_both : (plan : Plan) (count : ℕ) → plan ≡ Unwritten → popped plan + steps plan ≤ count
unwritten_both plan count is = let none : steps plan ≡ 0 = ap steps is in let none' : popped plan ≡ 0 = ap popped is in omega (arith, none, none')

pub unwritten_ahead : (old new : List Item) (plan : Plan) → plan ≡ Unwritten → Ahead old new plan
unwritten_ahead old new plan is = subst (Ahead old new) (sym is) tt

second_take : (queue : List Item) (count size other : ℕ) → size + 1 + other ≤ count → take other (drop (size + 1) queue) ≡ take other (drop (size + 1) (take count queue))
second_take queue count size other room =
    sym (ap (take other) (drop_less (size + 1) count queue (omega (arith, room))) ∙ take_less other (count - (size + 1)) (drop (size + 1) queue) (omega (arith, room)))

pub carried_one : (write : Writer) (n count size : ℕ) (queue : List Item) (test : CExpr) → size ≤ count → carried write n (OneArm test size) queue ≡ one_arm write n test size (take count queue)
unfolding carried one_arm
carried_one write n count size queue test less = ap (λ xs. if_by test size (write (n + 1) xs)) (sym (take_less size count queue less))

pub carried_two : (write : Writer) (n count size other : ℕ) (queue : List Item) (test : CExpr) → size + 1 + other ≤ count → carried write n (TwoArms test size other) queue ≡ two_arms write n test size other (take count queue)
unfolding carried two_arms
carried_two write n count size other queue test room =
    ap (λ xs. if_else_by test (size + 1 + other) (write (n + 1) xs) (write (n + size + 2) (take other (drop (size + 1) queue)))) (sym (take_less size count queue (omega (arith, room))))
    ∙ ap (λ xs. if_else_by test (size + 1 + other) (write (n + 1) (take size (take count queue))) (write (n + size + 2) xs)) (second_take queue count size other room)

pub carried_turns : (write : Writer) (n count size : ℕ) (queue : List Item) (head : Head) → size < count → carried write n (Turns head size) queue ≡ turns_for write n size head (take count queue)
unfolding carried turns_for
carried_turns write n count size queue head less =
    ap (λ found. for_by head size (next_for head.variable found) (write (n + 2) (take size queue))) (sym (get_less size count queue less))
    ∙ ap (λ xs. for_by head size (next_for head.variable (slice_get (take count queue) size)) (write (n + 2) xs)) (sym (take_less size count queue (omega (arith, less))))

pub carried_once : (write : Writer) (n count size : ℕ) (queue : List Item) (a b : CExpr) → size < count → carried write n (Once a b size) queue ≡ do_for write n size a b (take count queue)
unfolding carried do_for
carried_once write n count size queue a b less =
    ap (λ found. do_by a b size (write (n + 1) (take size queue)) (test_in found)) (sym (get_less size count queue less))
    ∙ ap (λ xs. do_by a b size (write (n + 1) xs) (test_in (slice_get (take count queue) size))) (sym (take_less size count queue (omega (arith, less))))

pub carried_whole : (write : Writer) (n : ℕ) (queue : List Item) (found : Option Part) → carried write n (whole found) queue ≡ found
unfolding carried whole
carried_whole write n queue None = refl
carried_whole write n queue (Some p) = refl

pub whole_popped : (found : Option Part) → popped (whole found) ≡ 0
unfolding whole
whole_popped None = refl
whole_popped (Some p) = refl

pub whole_steps : (found : Option Part) (count : ℕ) → ((p : Part) → found ≡ Some p → p.taken ≤ count) → steps (whole found) ≤ count
unfolding whole
whole_steps None count less = omega arith
whole_steps (Some p) count less = less p refl

-- ## Tests

long_take : (count : ℕ) (queue : List Item) → count ≤ length queue → length (take count queue) ≡ count
long_take count queue h = length-take-le count queue h

pub arms_both : (write : Writer) (n count size end : ℕ) (queue : List Item) (test : CExpr) → count ≤ length queue → n + size + 2 ≤ end → end - (n + size + 2) ≤ count - (size + 1)
    → arms_for write n test size (Some end) (take count queue) ≡ two_arms write n test size (end - (n + size + 2)) (take count queue)
unfolding arms_for
arms_both write n count size end queue test room ahead within =
    let long = long_take count queue room in
    let inner : end - (n + size + 2) ≤ length (take count queue) - (size + 1) = omega (arith, long, within) in
    ap (λ c. if c then two_arms write n test size (end - (n + size + 2)) (take count queue) else None) (and_from _ _ (le-leb (n + size + 2) end ahead) (le-leb (end - (n + size + 2)) (length (take count queue) - (size + 1)) inner))

arms_by : (write : Writer) (n size end : ℕ) (later : List Item) (test : CExpr) → nat_le (n + size + 2) end && nat_le (end - (n + size + 2)) (length later - (size + 1)) ≡ false → None ≡ arms_for write n test size (Some end) later
unfolding arms_for
arms_by write n size end later test no' = sym (ap (λ c. if c then two_arms write n test size (end - (n + size + 2)) later else None) no')

left_false : (a b : Bool) → a ≡ false → a && b ≡ false
left_false a b h = ap (λ c. c && b) h

right_false : (a b : Bool) → b ≡ false → a && b ≡ false
right_false true b h = h
right_false false b h = refl

pub arms_before : (write : Writer) (n count size end : ℕ) (queue : List Item) (test : CExpr) → end < n + size + 2 → None ≡ arms_for write n test size (Some end) (take count queue)
arms_before write n count size end queue test short = arms_by write n size end (take count queue) test (left_false _ _ (lt-leb (n + size + 2) end short))

pub arms_behind : (write : Writer) (n count size end : ℕ) (queue : List Item) (test : CExpr) → count ≤ length queue → count - (size + 1) < end - (n + size + 2) → None ≡ arms_for write n test size (Some end) (take count queue)
arms_behind write n count size end queue test room long' =
    let long = long_take count queue room in
    let inner : length (take count queue) - (size + 1) < end - (n + size + 2) = omega (arith, long, long') in
    arms_by write n size end (take count queue) test (right_false _ _ (lt-leb (end - (n + size + 2)) (length (take count queue) - (size + 1)) inner))

pub arms_none : (write : Writer) (n size : ℕ) (later : List Item) (test : CExpr) → None ≡ arms_for write n test size None later
unfolding arms_for
arms_none write n size later test = refl

pub branch_two : (l : Layout) (write : Writer) (n count size : ℕ) (queue : List Item) (test : CExpr) (end : Option ℕ) → size ≤ count → 0 < size → l.ends_arm (n + size) ≡ true → end ≡ end_of_arm (slice_get queue (size - 1))
    → arms_for write n test (size - 1) end (take count queue) ≡ branch_for l write n test size (take count queue)
unfolding branch_for
branch_two l write n count size queue test end less some ends is =
    let inside : size - 1 < count = omega (arith, less, some) in
    ap (λ e. arms_for write n test (size - 1) e (take count queue)) (is ∙ ap end_of_arm (sym (get_less (size - 1) count queue inside)))
    ∙ sym (ap (λ c. if c then arms_for write n test (size - 1) (end_of_arm (slice_get (take count queue) (size - 1))) (take count queue) else one_arm write n test size (take count queue)) (and_from _ _ (lt-ltb 0 size some) ends))

branch_by : (l : Layout) (write : Writer) (n size : ℕ) (later : List Item) (test : CExpr) → nat_lt 0 size && l.ends_arm (n + size) ≡ false → one_arm write n test size later ≡ branch_for l write n test size later
unfolding branch_for
branch_by l write n size later test no' = sym (ap (λ c. if c then arms_for write n test (size - 1) (end_of_arm (slice_get later (size - 1))) later else one_arm write n test size later) no')

pub branch_zero : (l : Layout) (write : Writer) (n size : ℕ) (later : List Item) (test : CExpr) → size ≤ 0 → one_arm write n test size later ≡ branch_for l write n test size later
branch_zero l write n size later test none = branch_by l write n size later test (left_false _ _ (le-ltb 0 size none))

pub branch_one : (l : Layout) (write : Writer) (n size : ℕ) (later : List Item) (test : CExpr) → l.ends_arm (n + size) ≡ false → one_arm write n test size later ≡ branch_for l write n test size later
branch_one l write n size later test no' = branch_by l write n size later test (right_false _ _ no')

pub test_passes : (l : Layout) (write : Writer) (n on off count : ℕ) (queue : List Item) (test : CExpr) → count ≤ length queue → on ≡ n + 1 → n + 1 ≤ off → off - (n + 1) ≤ count
    → branch_for l write n test (off - (n + 1)) (take count queue) ≡ test_for l write n test on off (take count queue)
unfolding test_for
test_passes l write n on off count queue test room next ahead within =
    let long = long_take count queue room in
    let inner : off - (n + 1) ≤ length (take count queue) = omega (arith, long, within) in
    sym (ap (λ c. if c then branch_for l write n test (off - (n + 1)) (take count queue) else None)
    (and_from _ _ (eq-eqb on (n + 1) next) (and_from _ _ (le-leb (n + 1) off ahead) (le-leb (off - (n + 1)) (length (take count queue)) inner))))

test_by : (l : Layout) (write : Writer) (n on off : ℕ) (later : List Item) (test : CExpr) → nat_eq on (n + 1) && (nat_le (n + 1) off && nat_le (off - (n + 1)) (length later)) ≡ false → None ≡ test_for l write n test on off later
unfolding test_for
test_by l write n on off later test no' = sym (ap (λ c. if c then branch_for l write n test (off - (n + 1)) later else None) no')

pub test_elsewhere : (l : Layout) (write : Writer) (n on off : ℕ) (later : List Item) (test : CExpr) → (on ≡ n + 1 → ⊥) → None ≡ test_for l write n test on off later
test_elsewhere l write n on off later test other = test_by l write n on off later test (left_false _ _ (ne_eqb on (n + 1) other))

pub test_back : (l : Layout) (write : Writer) (n on off : ℕ) (later : List Item) (test : CExpr) → off < n + 1 → None ≡ test_for l write n test on off later
test_back l write n on off later test back = test_by l write n on off later test (right_false _ _ (left_false _ _ (lt-leb (n + 1) off back)))

pub test_past : (l : Layout) (write : Writer) (n on off count : ℕ) (queue : List Item) (test : CExpr) → count ≤ length queue → count < off - (n + 1) → None ≡ test_for l write n test on off (take count queue)
test_past l write n on off count queue test room past =
    let long = long_take count queue room in
    let inner : length (take count queue) < off - (n + 1) = omega (arith, long, past) in
    test_by l write n on off (take count queue) test (right_false _ _ (right_false _ _ (lt-leb (off - (n + 1)) (length (take count queue)) inner)))

-- ## Items

pub plain_test : (l : Layout) (write : Writer) (n on off : ℕ) (later : List Item) (test : CExpr) (i : Item) → i ≡ item.Branch test on off → test_for l write n test on off later ≡ plain_for l write n i later
unfolding plain_for
plain_test l write n on off later test i is = ap (λ j. plain_for l write n j later) (sym is)

pub plain_switch : (l : Layout) (write : Writer) (n otherwise : ℕ) (later : List Item) (value : CExpr) (cases given : List Case) (i : Item) → i ≡ item.Select value cases otherwise → given ≡ cases
    → switch_for l n value given otherwise later ≡ plain_for l write n i later
unfolding plain_for
plain_switch l write n otherwise later value cases given i is same = ap (λ cs. switch_for l n value cs otherwise later) same ∙ ap (λ j. plain_for l write n j later) (sym is)

pub plain_other : (l : Layout) (write : Writer) (n : ℕ) (later : List Item) (i : Item) → ((e : CExpr) (on off : ℕ) → i ≡ item.Branch e on off → ⊥)
    → ((e : CExpr) (cases : List Case) (otherwise : ℕ) → i ≡ item.Select e cases otherwise → ⊥) → alone (statement_of l i) ≡ plain_for l write n i later
unfolding plain_for
plain_other l write n later (item.Branch e on off) other another = absurd (other e on off refl)
plain_other l write n later (item.Select e cases otherwise) other another = absurd (another e cases otherwise refl)
plain_other l write n later i other another = refl

pub part_plain : (l : Layout) (write : Writer) (found : Option ℕ) (n : ℕ) (i : Item) (later : List Item) → found ≡ None → plain_for l write n i later ≡ part_for l write found n i later
unfolding part_for
part_plain l write found n i later is = ap (λ f. part_for l write f n i later) (sym is)

pub part_loop : (l : Layout) (write : Writer) (found : Option ℕ) (size n : ℕ) (i : Item) (later : List Item) → found ≡ Some size → loop_for l write n size i later ≡ part_for l write found n i later
unfolding part_for
part_loop l write found size n i later is = ap (λ f. part_for l write f n i later) (sym is)

-- ## Loops

pub loop_set : (l : Layout) (write : Writer) (n size : ℕ) (later : List Item) (a b : CExpr) (i : Item) → i ≡ item.Assign a b → loop_for l write n size (item.Assign a b) later ≡ loop_for l write n size i later
loop_set l write n size later a b i is = ap (λ j. loop_for l write n size j later) (sym is)

-- an item of a span is inside it
inside : (size count : ℕ) (queue : List Item) (i : Item) → slice_get (take count queue) size ≡ Some i → size < count
inside size zero queue i h = absurd (cc)
inside size (suc count) [] i h = absurd (cc)
inside zero (suc count) (x ∷ queue) i h = omega arith
inside (suc size) (suc count) (x ∷ queue) i h = let less = inside size count queue i h in omega (arith, less)

past : (size count : ℕ) (queue : List Item) → count ≤ size → slice_get (take count queue) size ≡ None
past size zero queue h = refl
past size (suc count) [] h = refl
past zero (suc count) (x ∷ queue) h = absurd (omega arith)
past (suc size) (suc count) (x ∷ queue) h = past size count queue (omega arith)

not_past : (l : Layout) (n size : ℕ) (found : Option Item) → found ≡ None → false ≡ tests_turn l n size found
unfolding tests_turn
not_past l n size found is = sym (ap (tests_turn l n size) is)

pub tested_past : (l : Layout) (n size count : ℕ) (queue : List Item) → count ≤ size → false ≡ tests_turn l n size (slice_get (take count queue) size)
tested_past l n size count queue h = not_past l n size (slice_get (take count queue) size) (past size count queue h)

pub tested_inside : (l : Layout) (n size count : ℕ) (queue : List Item) (found : Option Item) → found ≡ slice_get queue size → size < count → tests_turn l n size found ≡ tests_turn l n size (slice_get (take count queue) size)
tested_inside l n size count queue found is less = ap (tests_turn l n size) (is ∙ sym (get_less size count queue less))

test_inside : (l : Layout) (n size count : ℕ) (queue : List Item) (found : Option Item) → slice_get (take count queue) size ≡ found → tests_turn l n size found ≡ true → size < count
unfolding tests_turn
test_inside l n size count queue None is h = absurd (cc)
test_inside l n size count queue (Some i) is h = inside size count queue i is

-- the test of a loop stands inside the span
pub once_inside : (l : Layout) (n size count : ℕ) (queue : List Item) (b : Bool) → b ≡ tests_turn l n size (slice_get (take count queue) size) → b ≡ true → size < count
once_inside l n size count queue b is holds = test_inside l n size count queue (slice_get (take count queue) size) refl (sym is ∙ holds)

pub set_once : (l : Layout) (write : Writer) (n size count : ℕ) (queue : List Item) (a b : CExpr) (t : Bool) → t ≡ tests_turn l n size (slice_get (take count queue) size) → t ≡ true
    → carried write n (Once a b size) queue ≡ loop_for l write n size (item.Assign a b) (take count queue)
unfolding loop_for
set_once l write n size count queue a b t is holds =
    carried_once write n count size queue a b (once_inside l n size count queue t is holds)
    ∙ sym (ap (λ c. if c then do_for write n size a b (take count queue) else head_for l write n size a b (take count queue)) (sym is ∙ holds))

pub set_head : (l : Layout) (write : Writer) (n size : ℕ) (later : List Item) (a b : CExpr) (t : Bool) → t ≡ tests_turn l n size (slice_get later size) → t ≡ false
    → head_for l write n size a b later ≡ loop_for l write n size (item.Assign a b) later
unfolding loop_for
set_head l write n size later a b t is fails = sym (ap (λ c. if c then do_for write n size a b later else head_for l write n size a b later) (sym is ∙ fails))

pub loop_other : (l : Layout) (write : Writer) (n size : ℕ) (later : List Item) (i : Item) → ((a b : CExpr) → i ≡ item.Assign a b → ⊥) → None ≡ loop_for l write n size i later
unfolding loop_for
loop_other l write n size later (item.Assign a b) other = absurd (other a b refl)
loop_other l write n size later i other = refl

pub head_empty : (l : Layout) (write : Writer) (n size count : ℕ) (queue : List Item) (a b : CExpr) → count ≡ 0 → None ≡ head_for l write n size a b (take count queue)
unfolding head_for
head_empty l write n size count queue a b none = sym (λ k. head_for l write n size a b (take (none k) queue))

head_test : (l : Layout) (write : Writer) (n size count c on off : ℕ) (queue later : List Item) (a b e : CExpr) → count ≡ suc c → queue ≡ item.Branch e on off ∷ later
    → head_for l write n size a b (take count queue) ≡ (if is_loop l n size on off (take c later) then turns_for write n size (record { variable = a; first = b; test = e }) (take c later) else None)
unfolding head_for
head_test l write n size count c on off queue later a b e more first = (λ k. head_for l write n size a b (take (more k) (first k)))

pub head_loops : (l : Layout) (write : Writer) (n size count c on off : ℕ) (queue later : List Item) (a b e : CExpr) → count ≡ suc c → queue ≡ item.Branch e on off ∷ later → is_loop l n size on off (take c later) ≡ true
    → turns_for write n size (record { variable = a; first = b; test = e }) (take c later) ≡ head_for l write n size a b (take count queue)
head_loops l write n size count c on off queue later a b e more first loops =
    sym (head_test l write n size count c on off queue later a b e more first ∙ ap (λ z. if z then turns_for write n size (record { variable = a; first = b; test = e }) (take c later) else None) loops)

pub head_stays : (l : Layout) (write : Writer) (n size count c on off : ℕ) (queue later : List Item) (a b e : CExpr) → count ≡ suc c → queue ≡ item.Branch e on off ∷ later → is_loop l n size on off (take c later) ≡ false
    → None ≡ head_for l write n size a b (take count queue)
head_stays l write n size count c on off queue later a b e more first loops =
    sym (head_test l write n size count c on off queue later a b e more first ∙ ap (λ z. if z then turns_for write n size (record { variable = a; first = b; test = e }) (take c later) else None) loops)

pub head_other : (l : Layout) (write : Writer) (n size count : ℕ) (queue : List Item) (a b : CExpr) → ((i : Item) (later : List Item) → queue ≡ i ∷ later → (e : CExpr) (on off : ℕ) → i ≡ item.Branch e on off → ⊥)
    → None ≡ head_for l write n size a b (take count queue)
unfolding head_for
head_other l write n size zero queue a b other = refl
head_other l write n size (suc count) [] a b other = refl
head_other l write n size (suc count) (item.Branch e on off ∷ later) a b other = absurd (other (item.Branch e on off) later refl e on off refl)
head_other l write n size (suc count) (i ∷ later) a b other = refl

-- ## Plans of statements that are built already

pub whole_planned : (write : Writer) (n : ℕ) (queue : List Item) (plan : Plan) (found given : Option Part) → plan ≡ whole found → found ≡ given → carried write n plan queue ≡ given
whole_planned write n queue plan found given is same = ap (λ p. carried write n p queue) is ∙ carried_whole write n queue found ∙ same

pub whole_taken : (plan : Plan) (found : Option Part) → plan ≡ whole found → popped plan ≡ 0
whole_taken plan found is = ap popped is ∙ whole_popped found

pub whole_counted : (plan : Plan) (found : Option Part) (count : ℕ) → plan ≡ whole found → ((p : Part) → found ≡ Some p → p.taken ≤ count) → steps plan ≤ count
whole_counted plan found count is less = subst (λ q. steps q ≤ count) (sym is) (whole_steps found count less)

pub alone_taken : (s : Option CStmt) (found : Option Part) (count : ℕ) → found ≡ alone s → (p : Part) → found ≡ Some p → p.taken ≤ count
unfolding alone
alone_taken None found count is p h = absurd (cc)
alone_taken (Some s) found count is p h = let none : p.taken ≡ 0 = ap (λ q. q.taken) (some_same p (part s 0) (sym h ∙ is)) in omega (arith, none)

-- ## Plans of loops

loop_room : (l : Layout) (n size on off : ℕ) (later : List Item) → is_loop l n size on off later ≡ true → size + 2 ≤ length later
unfolding is_loop
loop_room l n size on off later loops = leb-true (size + 2) (length later) (and_parts _ _ loops).0

turns_fitting : (l : Layout) (n size count c on off : ℕ) (later : List Item) (head : Head) (plan : Plan) (b : Bool) → count ≡ suc c → c ≤ length later → is_loop l n size on off (take c later) ≡ b → plan ≡ turns b head size
    → popped plan + steps plan ≤ count
unfolding turns
turns_fitting l n size count c on off later head plan true more room loops is =
    let inner = loop_room l n size on off (take c later) loops in
    let long = long_take c later room in
    let one : popped plan ≡ 1 = ap popped is in
    let two : steps plan ≡ size + 2 = ap steps is in
    omega (arith, inner, long, one, two, more)
turns_fitting l n size count c on off later head plan false more room loops is = unwritten_both plan count is

turns_building : (l : Layout) (write : Writer) (n size count c on off : ℕ) (queue later : List Item) (a b e : CExpr) (plan : Plan) (z : Bool) → count ≡ suc c → c ≤ length later → queue ≡ item.Branch e on off ∷ later
    → is_loop l n size on off (take c later) ≡ z → plan ≡ turns z (record { variable = a; first = b; test = e }) size → carried write n plan later ≡ head_for l write n size a b (take count queue)
unfolding turns
turns_building l write n size count c on off queue later a b e plan true more room first loops is =
    let inner = loop_room l n size on off (take c later) loops in
    let long = long_take c later room in
    ap (λ p. carried write n p later) is ∙ carried_turns write n c size later (record { variable = a; first = b; test = e }) (omega (arith, inner, long))
    ∙ head_loops l write n size count c on off queue later a b e more first loops
turns_building l write n size count c on off queue later a b e plan false more room first loops is =
    none_planned write n later plan (head_for l write n size a b (take count queue)) is (head_stays l write n size count c on off queue later a b e more first loops)

pub turns_ahead : (queue later : List Item) (loops : Bool) (head : Head) (size : ℕ) (plan : Plan) → later ≡ drop 1 queue → plan ≡ turns loops head size → Ahead queue later plan
unfolding turns
turns_ahead queue later true head size plan left is = subst (Ahead queue later) (sym is) left
turns_ahead queue later false head size plan left is = subst (Ahead queue later) (sym is) tt

pub turns_fit : (l : Layout) (n size count c on off : ℕ) (later : List Item) (head : Head) (plan : Plan) → count ≡ suc c → c ≤ length later → plan ≡ turns (is_loop l n size on off (take c later)) head size → popped plan + steps plan ≤ count
turns_fit l n size count c on off later head plan more room is = by (is_loop l n size on off (take c later)) refl is
  where
    by : (b : Bool) → is_loop l n size on off (take c later) ≡ b → plan ≡ turns b head size → popped plan + steps plan ≤ count
    by b loops is' = turns_fitting l n size count c on off later head plan b more room loops is'

pub turns_built : (l : Layout) (write : Writer) (n size count c on off : ℕ) (queue later : List Item) (a b e : CExpr) (plan : Plan) → count ≡ suc c → c ≤ length later → queue ≡ item.Branch e on off ∷ later
    → plan ≡ turns (is_loop l n size on off (take c later)) (record { variable = a; first = b; test = e }) size → carried write n plan later ≡ head_for l write n size a b (take count queue)
turns_built l write n size count c on off queue later a b e plan more room first is = turns_building l write n size count c on off queue later a b e plan (is_loop l n size on off (take c later)) more room first refl is

pub ahead_same : (queue : List Item) (plan : Plan) → popped plan ≡ 0 → Ahead queue queue plan
ahead_same queue Unwritten none = tt
ahead_same queue (Whole p) none = refl
ahead_same queue (OneArm test size) none = refl
ahead_same queue (TwoArms test size other) none = refl
ahead_same queue (Turns head size) none = absurd (omega arith)
ahead_same queue (Once a b size) none = refl

pub both_counted : (plan : Plan) (count : ℕ) → popped plan ≡ 0 → steps plan ≤ count → popped plan + steps plan ≤ count
both_counted plan count none fits = omega arith

-- what is popped is the first item
pub popped_first : (r : Option Item) (old new : List Item) (i : Item) → r ≡ Some i → old ≡ option_to_list r ++ new → old ≡ i ∷ new
popped_first r old new i is whole = whole ∙ ap (λ x. option_to_list x ++ new) is

pub popped_none : (r : Option Item) (old new : List Item) → r ≡ None → old ≡ option_to_list r ++ new → new ≡ drop 1 old → 0 < length old → ⊥
popped_none r old new is whole rest some =
    let same : length old ≡ length new = ap length (whole ∙ ap (λ x. option_to_list x ++ new) is) in
    let less = ap length rest ∙ length-drop 1 old in
    omega (arith, same, less, some)

pub behind_test : (l : Layout) (n size on off : ℕ) (later : List Item) (a b e : CExpr) (i : Item) (head : Head) (plan : Plan) → i ≡ item.Branch e on off → head ≡ record { variable = a; first = b; test = e }
    → plan ≡ turns (is_loop l n size on off later) head size → plan ≡ loop_plan l n size a b i later
unfolding loop_plan
behind_test l n size on off later a b e i head plan is known made = made ∙ ap (λ h. turns (is_loop l n size on off later) h size) known ∙ sym (ap (λ j. loop_plan l n size a b j later) is)

pub behind_other : (l : Layout) (n size : ℕ) (later : List Item) (a b : CExpr) (i : Item) (plan : Plan) → ((e : CExpr) (on off : ℕ) → i ≡ item.Branch e on off → ⊥) → plan ≡ Unwritten → plan ≡ loop_plan l n size a b i later
unfolding loop_plan
behind_other l n size later a b (item.Branch e on off) plan other is = absurd (other e on off refl)
behind_other l n size later a b i plan other is = is

pub loop_ahead : (l : Layout) (n size c : ℕ) (queue later : List Item) (a b : CExpr) (i : Item) (plan : Plan) → later ≡ drop 1 queue → plan ≡ loop_plan l n size a b i (take c later) → Ahead queue later plan
unfolding loop_plan
loop_ahead l n size c queue later a b (item.Branch e on off) plan left is = turns_ahead queue later (is_loop l n size on off (take c later)) (record { variable = a; first = b; test = e }) size plan left is
loop_ahead l n size c queue later a b i plan left is = unwritten_ahead queue later plan is

pub loop_fits : (l : Layout) (n size count c : ℕ) (later : List Item) (a b : CExpr) (i : Item) (plan : Plan) → count ≡ suc c → c ≤ length later → plan ≡ loop_plan l n size a b i (take c later) → popped plan + steps plan ≤ count
unfolding loop_plan
loop_fits l n size count c later a b (item.Branch e on off) plan more room is = turns_fit l n size count c on off later (record { variable = a; first = b; test = e }) plan more room is
loop_fits l n size count c later a b i plan more room is = unwritten_both plan count is

head_after : (l : Layout) (write : Writer) (n size count c : ℕ) (queue later : List Item) (a b : CExpr) (i : Item) → queue ≡ i ∷ later → ((e : CExpr) (on off : ℕ) → i ≡ item.Branch e on off → ⊥) → None ≡ head_for l write n size a b (take count queue)
unfolding head_for
head_after l write n size zero c queue later a b i first other = refl
head_after l write n size (suc count) c queue later a b (item.Branch e on off) first other = absurd (other e on off refl)
head_after l write n size (suc count) c queue later a b i first other = sym (ap (λ xs. head_for l write n size a b (take (suc count) xs)) first)

pub loop_built : (l : Layout) (write : Writer) (n size count c : ℕ) (queue later : List Item) (a b : CExpr) (i : Item) (plan : Plan) → count ≡ suc c → c ≤ length later → queue ≡ i ∷ later → plan ≡ loop_plan l n size a b i (take c later)
    → carried write n plan later ≡ head_for l write n size a b (take count queue)
unfolding loop_plan
loop_built l write n size count c queue later a b (item.Branch e on off) plan more room first is = turns_built l write n size count c on off queue later a b e plan more room first is
loop_built l write n size count c queue later a b (item.Assign x y) plan more room first is =
    none_planned write n later plan _ is (head_after l write n size count c queue later a b (item.Assign x y) first (λ e on off h. cc))
loop_built l write n size count c queue later a b (item.Select value cases otherwise) plan more room first is =
    none_planned write n later plan _ is (head_after l write n size count c queue later a b (item.Select value cases otherwise) first (λ e on off h. cc))
loop_built l write n size count c queue later a b (item.Jump p) plan more room first is = none_planned write n later plan _ is (head_after l write n size count c queue later a b (item.Jump p) first (λ e on off h. cc))
loop_built l write n size count c queue later a b (item.Call callee es) plan more room first is =
    none_planned write n later plan _ is (head_after l write n size count c queue later a b (item.Call callee es) first (λ e on off h. cc))
loop_built l write n size count c queue later a b (item.SetCall x callee es) plan more room first is =
    none_planned write n later plan _ is (head_after l write n size count c queue later a b (item.SetCall x callee es) first (λ e on off h. cc))
loop_built l write n size count c queue later a b (item.Return value) plan more room first is =
    none_planned write n later plan _ is (head_after l write n size count c queue later a b (item.Return value) first (λ e on off h. cc))
loop_built l write n size count c queue later a b item.Nothing plan more room first is = none_planned write n later plan _ is (head_after l write n size count c queue later a b item.Nothing first (λ e on off h. cc))

pub room_behind : (count : ℕ) (old new : List Item) → count ≤ length old → new ≡ drop 1 old → count - 1 ≤ length new
room_behind count old new room rest = let less = ap length rest ∙ length-drop 1 old in omega (arith, less, room)
