-- What a builder gives for a plan, and what it leaves of the items.
use Rattle.std.specs.Prelude.{◌≡◌, ℕ, zero, suc, ◌+◌, ◌≤◌, List, [], ◌∷◌, length, take, drop, Option, Some, None, slice_get}
use Rattle.std.proofs.Common.{refl, sym, ap, ◌∙◌, subst, arith}
use Rattle.std.proofs.lemmas.List.{drop-drop, length-drop}
use Rattle.c_tree.specs.declared.expression.CExpr.{CExpr}
use Rattle.c_tree.specs.declared.statement.CNext.{CNext}
use Rattle.c_tree.specs.declared.statement.CStmt.{CStmt}
use Rattle.c_tree.specs.declared.statement.CStmt.TheVariants as stmt
use Rattle.named_items.specs.declared.item.Item.{Item}
use Rattle.named_items.specs.declared.part.Head.{Head}
use Rattle.named_items.specs.declared.part.Part.{Part}
use Rattle.named_items.specs.Layouts.{Layout}
use Rattle.named_items.specs.Structured.{Writer, part, if_by, if_else_by, one_arm, two_arms, next_for, for_by, turns_for, test_in, do_by, do_for, part_for, marked, part_at, structured}
use Rattle.statement_builder.specs.declared.plan.Plan.{Plan}
use Rattle.statement_builder.specs.declared.plan.Plan.TheVariants.{Unwritten, Whole, OneArm, TwoArms, Turns, Once}
use Rattle.statement_builder.specs.Plans.{carried, popped, steps, Plans, Ahead, Carries}
use Rattle.statement_builder.specs.Taking.{Leaves, Takes}
use Rattle.statement_builder.proofs.Building.{some_same}

-- ## One arm

pub one_built : (l : Layout) (t n size : ℕ) (queue : List Item) (test : CExpr) (first : Option (List CStmt)) (r : Option Part) → first ≡ structured l t (n + 1) (take size queue) → r ≡ if_by test size first
    → r ≡ one_arm (structured l t) n test size queue
unfolding one_arm
one_built l t n size queue test first r is made = made ∙ ap (if_by test size) is

pub one_leaves : (queue rest : List Item) (size : ℕ) (test : CExpr) (first : Option (List CStmt)) (r : Option Part) → Leaves queue rest size first → r ≡ if_by test size first → Leaves queue rest size r
unfolding if_by
one_leaves queue rest size test None r left made = subst (Leaves queue rest size) (sym made) tt
one_leaves queue rest size test (Some ss) r left made = subst (Leaves queue rest size) (sym made) left

-- ## Two arms

pub two_built : (l : Layout) (t n size other : ℕ) (queue rest : List Item) (test : CExpr) (first : List CStmt) (second : Option (List CStmt)) (r : Option Part) → Some first ≡ structured l t (n + 1) (take size queue) → rest ≡ drop size queue
    → second ≡ structured l t (n + size + 2) (take other (drop 1 rest)) → r ≡ if_else_by test (size + 1 + other) (Some first) second → r ≡ two_arms (structured l t) n test size other queue
unfolding two_arms
two_built l t n size other queue rest test first second r is left more made =
    made
    ∙ (λ k. if_else_by test (size + 1 + other) (is k) (more k))
    ∙ ap (λ xs. if_else_by test (size + 1 + other) (structured l t (n + 1) (take size queue)) (structured l t (n + size + 2) (take other xs))) (ap (drop 1) left ∙ drop-drop 1 size queue)

without_first : (test : CExpr) (size : ℕ) (second : Option (List CStmt)) → None ≡ if_else_by test size None second
unfolding if_else_by
without_first test size None = refl
without_first test size (Some second) = refl

pub two_none : (l : Layout) (t n size other : ℕ) (queue : List Item) (test : CExpr) → None ≡ structured l t (n + 1) (take size queue) → None ≡ two_arms (structured l t) n test size other queue
unfolding two_arms
two_none l t n size other queue test is =
    without_first test (size + 1 + other) (structured l t (n + size + 2) (take other (drop (size + 1) queue)))
    ∙ ap (λ found. if_else_by test (size + 1 + other) found (structured l t (n + size + 2) (take other (drop (size + 1) queue)))) is

pub two_leaves : (queue rest last : List Item) (size other : ℕ) (test : CExpr) (first : List CStmt) (second : Option (List CStmt)) (r : Option Part) → rest ≡ drop size queue → Leaves rest last (1 + other) second
    → r ≡ if_else_by test (size + 1 + other) (Some first) second → Leaves queue last (size + 1 + other) r
unfolding if_else_by
two_leaves queue rest last size other test first None r left leaves made = subst (Leaves queue last (size + 1 + other)) (sym made) tt
two_leaves queue rest last size other test first (Some second) r left leaves made =
    let sum : size + (1 + other) ≡ size + 1 + other = omega arith in
    subst (Leaves queue last (size + 1 + other)) (sym made) (leaves ∙ ap (drop (1 + other)) left ∙ drop-drop (1 + other) size queue ∙ ap (λ k. drop k queue) sum)

pub second_built : (l : Layout) (t n count : ℕ) (queue rest : List Item) (r : Option (List CStmt)) → rest ≡ drop 1 queue → r ≡ structured l t n (take count rest) → r ≡ structured l t n (take count (drop 1 queue))
second_built l t n count queue rest r left is = is ∙ ap (λ xs. structured l t n (take count xs)) left

pub second_leaves : (queue rest last : List Item) (count : ℕ) (r : Option (List CStmt)) → rest ≡ drop 1 queue → Leaves rest last count r → Leaves queue last (1 + count) r
second_leaves queue rest last count None left leaves = tt
second_leaves queue rest last count (Some ss) left leaves = leaves ∙ ap (drop count) left ∙ drop-drop count 1 queue

-- ## Loops

get_drop : (size : ℕ) (queue : List Item) → slice_get (drop size queue) 0 ≡ slice_get queue size
get_drop zero queue = refl
get_drop (suc size) [] = refl
get_drop (suc size) (x ∷ queue) = get_drop size queue

pub turns_built : (l : Layout) (t n size : ℕ) (queue rest : List Item) (head : Head) (turn : List CStmt) (r : Option Part) → Some turn ≡ structured l t (n + 2) (take size queue) → rest ≡ drop size queue
    → r ≡ for_by head size (next_for head.variable (slice_get rest 0)) (Some turn) → r ≡ turns_for (structured l t) n size head queue
unfolding turns_for
turns_built l t n size queue rest head turn r is left made =
    made ∙ (λ k. for_by head size (next_for head.variable ((ap (λ xs. slice_get xs 0) left ∙ get_drop size queue) k)) (is k))

without_turn : (head : Head) (size : ℕ) (next : Option CNext) → None ≡ for_by head size next None
unfolding for_by
without_turn head size None = refl
without_turn head size (Some next) = refl

pub turns_none : (l : Layout) (t n size : ℕ) (queue : List Item) (head : Head) → None ≡ structured l t (n + 2) (take size queue) → None ≡ turns_for (structured l t) n size head queue
unfolding turns_for
turns_none l t n size queue head is = without_turn head size (next_for head.variable (slice_get queue size)) ∙ ap (for_by head size (next_for head.variable (slice_get queue size))) is

pub turns_leave : (queue rest last : List Item) (size : ℕ) (r : Option Part) → rest ≡ drop size queue → last ≡ drop 2 rest → Leaves queue last (size + 2) r
turns_leave queue rest last size None left gone = tt
turns_leave queue rest last size (Some p) left gone = gone ∙ ap (drop 2) left ∙ drop-drop 2 size queue

pub once_built : (l : Layout) (t n size : ℕ) (queue rest : List Item) (a b : CExpr) (turn : List CStmt) (r : Option Part) → Some turn ≡ structured l t (n + 1) (take size queue) → rest ≡ drop size queue
    → r ≡ do_by a b size (Some turn) (test_in (slice_get rest 0)) → r ≡ do_for (structured l t) n size a b queue
unfolding do_for
once_built l t n size queue rest a b turn r is left made =
    made ∙ (λ k. do_by a b size (is k) (test_in ((ap (λ xs. slice_get xs 0) left ∙ get_drop size queue) k)))

without_any : (a b : CExpr) (size : ℕ) (test : Option CExpr) → None ≡ do_by a b size None test
unfolding do_by
without_any a b size None = refl
without_any a b size (Some test) = refl

pub once_none : (l : Layout) (t n size : ℕ) (queue : List Item) (a b : CExpr) → None ≡ structured l t (n + 1) (take size queue) → None ≡ do_for (structured l t) n size a b queue
unfolding do_for
once_none l t n size queue a b is = without_any a b size (test_in (slice_get queue size)) ∙ ap (λ found. do_by a b size found (test_in (slice_get queue size))) is

pub once_leave : (queue rest last : List Item) (size : ℕ) (r : Option Part) → rest ≡ drop size queue → last ≡ drop 1 rest → Leaves queue last (size + 1) r
once_leave queue rest last size None left gone = tt
once_leave queue rest last size (Some p) left gone = gone ∙ ap (drop 1) left ∙ drop-drop 1 size queue

-- ## Plans

pub carry_built : (write : Writer) (n : ℕ) (queue : List Item) (plan known : Plan) (r : Option Part) → plan ≡ known → r ≡ carried write n known queue → r ≡ carried write n plan queue
carry_built write n queue plan known r is made = made ∙ ap (λ p. carried write n p queue) (sym is)

pub carry_leaves : (queue rest : List Item) (plan known : Plan) (r : Option Part) → plan ≡ known → Leaves queue rest (steps known) r → Carries queue rest plan r
carry_leaves queue rest plan known None is left = tt
carry_leaves queue rest plan known (Some p) is left = left ∙ ap (λ k. drop k queue) (ap steps (sym is))

pub carried_nothing : (write : Writer) (n : ℕ) (queue : List Item) → None ≡ carried write n Unwritten queue
unfolding carried
carried_nothing write n queue = refl

pub carried_whole : (write : Writer) (n : ℕ) (queue : List Item) (p : Part) → Some p ≡ carried write n (Whole p) queue
unfolding carried
carried_whole write n queue p = refl

pub carried_one : (write : Writer) (n size : ℕ) (queue : List Item) (test : CExpr) → one_arm write n test size queue ≡ carried write n (OneArm test size) queue
unfolding carried
carried_one write n size queue test = refl

pub carried_two : (write : Writer) (n size other : ℕ) (queue : List Item) (test : CExpr) → two_arms write n test size other queue ≡ carried write n (TwoArms test size other) queue
unfolding carried
carried_two write n size other queue test = refl

pub carried_turns : (write : Writer) (n size : ℕ) (queue : List Item) (head : Head) → turns_for write n size head queue ≡ carried write n (Turns head size) queue
unfolding carried
carried_turns write n size queue head = refl

pub carried_once : (write : Writer) (n size : ℕ) (queue : List Item) (a b : CExpr) → do_for write n size a b queue ≡ carried write n (Once a b size) queue
unfolding carried
carried_once write n size queue a b = refl

-- ## Parts

if_taken : (test : CExpr) (size : ℕ) (first : Option (List CStmt)) (p : Part) → Some p ≡ if_by test size first → p.taken ≡ size
unfolding if_by
if_taken test size (Some first) p h = ap (λ q. q.taken) (some_same p (part (stmt.If test first None) size) h)
if_taken test size None p h = absurd (cc)

if_else_taken : (test : CExpr) (size : ℕ) (first second : Option (List CStmt)) (p : Part) → Some p ≡ if_else_by test size first second → p.taken ≡ size
unfolding if_else_by
if_else_taken test size (Some first) (Some second) p h = ap (λ q. q.taken) (some_same p (part (stmt.If test first (Some second)) size) h)
if_else_taken test size (Some first) None p h = absurd (cc)
if_else_taken test size None second p h = absurd (cc)

for_taken : (head : Head) (size : ℕ) (next : Option CNext) (turn : Option (List CStmt)) (p : Part) → Some p ≡ for_by head size next turn → p.taken ≡ size + 3
unfolding for_by
for_taken head size (Some next) (Some turn) p h = ap (λ q. q.taken) (some_same p (part (stmt.For head.variable head.first head.test next turn) (size + 3)) h)
for_taken head size (Some next) None p h = absurd (cc)
for_taken head size None turn p h = absurd (cc)

do_taken : (a b : CExpr) (size : ℕ) (turn : Option (List CStmt)) (test : Option CExpr) (p : Part) → Some p ≡ do_by a b size turn test → p.taken ≡ size + 1
unfolding do_by
do_taken a b size (Some turn) (Some test) p h = ap (λ q. q.taken) (some_same p (part (stmt.Block (stmt.Set a b ∷ stmt.DoWhile turn test ∷ [])) (size + 1)) h)
do_taken a b size (Some turn) None p h = absurd (cc)
do_taken a b size None test p h = absurd (cc)

-- a part has the items that its plan has taken and those ahead that belong to it
taken_is : (write : Writer) (n : ℕ) (queue : List Item) (plan : Plan) (p : Part) → Some p ≡ carried write n plan queue → p.taken ≡ popped plan + steps plan
unfolding carried one_arm two_arms turns_for do_for
taken_is write n queue Unwritten p h = absurd (cc)
taken_is write n queue (Whole q) p h = let same : p.taken ≡ q.taken = ap (λ r. r.taken) (some_same p q h) in omega (arith, same)
taken_is write n queue (OneArm test size) p h = let same = if_taken test size (write (n + 1) (take size queue)) p h in omega (arith, same)
taken_is write n queue (TwoArms test size other) p h =
    let same = if_else_taken test (size + 1 + other) (write (n + 1) (take size queue)) (write (n + size + 2) (take other (drop (size + 1) queue))) p h in omega (arith, same)
taken_is write n queue (Turns head size) p h =
    let same = for_taken head size (next_for head.variable (slice_get queue size)) (write (n + 2) (take size queue)) p h in omega (arith, same)
taken_is write n queue (Once a b size) p h = let same = do_taken a b size (write (n + 1) (take size queue)) (test_in (slice_get queue size)) p h in omega (arith, same)

-- what is ahead once there is a plan, where it gives a part
ahead_is : (write : Writer) (n : ℕ) (old new : List Item) (plan : Plan) (p : Part) → Some p ≡ carried write n plan new → Ahead old new plan → new ≡ drop (popped plan) old
unfolding carried
ahead_is write n old new Unwritten p h ahead = absurd (cc)
ahead_is write n old new (Whole q) p h ahead = ahead
ahead_is write n old new (OneArm test size) p h ahead = ahead
ahead_is write n old new (TwoArms test size other) p h ahead = ahead
ahead_is write n old new (Turns head size) p h ahead = ahead
ahead_is write n old new (Once a b size) p h ahead = ahead

pub part_takes : (write : Writer) (n count : ℕ) (old new last : List Item) (plan : Plan) (found : Option Part) → found ≡ carried write n plan new → Ahead old new plan → popped plan + steps plan ≤ count → Carries new last plan found
    → Takes old last count found
part_takes write n count old new last plan None made ahead fits leaves = tt
part_takes write n count old new last plan (Some p) made ahead fits leaves =
    let same = taken_is write n new plan p made in
    (omega (arith, same, fits), leaves ∙ ap (drop (steps plan)) (ahead_is write n old new plan p made ahead) ∙ drop-drop (steps plan) (popped plan) old ∙ ap (λ k. drop k old) (sym same))

pub marked_takes : (old last : List Item) (count : ℕ) (label : Option (List ℕ)) (found r : Option Part) → Takes old last count found → r ≡ marked label found → Takes old last count r
unfolding marked
marked_takes old last count label None r takes made = subst (Takes old last count) (sym made) tt
marked_takes old last count label (Some p) r takes made = subst (Takes old last count) (sym made) takes

pub part_built : (l : Layout) (write : Writer) (n : ℕ) (i : Item) (later new : List Item) (plan : Plan) (found r : Option Part) → Plans n new (λ w. part_for l w (l.loop n) n i later) plan → found ≡ carried write n plan new
    → r ≡ marked (l.label n) found → r ≡ part_at l write n i later
unfolding part_at
part_built l write n i later new plan found r plans made is = is ∙ ap (marked (l.label n)) (made ∙ plans write)

-- the items ahead are as many as belong to a plan
pub room_ahead : (count : ℕ) (old new : List Item) (plan : Plan) → count ≤ length old → Ahead old new plan → popped plan + steps plan ≤ count → steps plan ≤ length new
room_ahead count old new Unwritten room ahead fits = omega arith
room_ahead count old new (Whole p) room ahead fits = let long = ap length ahead in omega (arith, long, room, fits)
room_ahead count old new (OneArm test size) room ahead fits = let long = ap length ahead in omega (arith, long, room, fits)
room_ahead count old new (TwoArms test size other) room ahead fits = let long = ap length ahead in omega (arith, long, room, fits)
room_ahead count old new (Turns head size) room ahead fits = let long = ap length ahead ∙ length-drop 1 old in omega (arith, long, room, fits)
room_ahead count old new (Once a b size) room ahead fits = let long = ap length ahead in omega (arith, long, room, fits)

pub room_left : (old new : List Item) (size other : ℕ) → new ≡ drop size old → size + 1 + other ≤ length old → 1 + other ≤ length new
room_left old new size other left room = let long = ap length left ∙ length-drop size old in omega (arith, long, room)

pub room_behind : (old new : List Item) (count : ℕ) → new ≡ drop 1 old → 1 + count ≤ length old → count ≤ length new
room_behind old new count left room = let long = ap length left ∙ length-drop 1 old in omega (arith, long, room)
