-- What comes of a plan, and how many items it takes. C89, 3.6.
use Rattle.std.specs.Prelude.{◌≡◌, ℕ, ◌+◌, Bool, true, false, List, drop, Option, Some, None}
use Rattle.c_tree.specs.declared.expression.CExpr.{CExpr}
use Rattle.named_items.specs.declared.part.Head.{Head}
use Rattle.named_items.specs.declared.item.Item.{Item}
use Rattle.named_items.specs.declared.item.Item.TheVariants.{Branch}
use Rattle.named_items.specs.declared.part.Part.{Part}
use Rattle.named_items.specs.Layouts.{Layout}
use Rattle.named_items.specs.Structured.{Writer, one_arm, two_arms, is_loop, turns_for, do_for}
use Rattle.statement_builder.specs.declared.plan.Plan.{Plan}
use Rattle.statement_builder.specs.declared.plan.Plan.TheVariants.{Unwritten, Whole, OneArm, TwoArms, Turns, Once}

-- the part that a plan gives, where the items ahead are written so
unfoldable pub carried : Writer → ℕ → Plan → List Item → Option Part
carried write n Unwritten ahead = None
carried write n (Whole p) ahead = Some p
carried write n (OneArm test size) ahead = one_arm write n test size ahead
carried write n (TwoArms test size other) ahead = two_arms write n test size other ahead
carried write n (Turns head size) ahead = turns_for write n size head ahead
carried write n (Once variable first size) ahead = do_for write n size variable first ahead

-- how many items a plan has taken already
abbrev pub popped : Plan → ℕ
popped Unwritten = 0
popped (Whole p) = 0
popped (OneArm test size) = 0
popped (TwoArms test size other) = 0
popped (Turns head size) = 1
popped (Once variable first size) = 0

-- how many items ahead belong to it
abbrev pub steps : Plan → ℕ
steps Unwritten = 0
steps (Whole p) = p.taken
steps (OneArm test size) = size
steps (TwoArms test size other) = size + 1 + other
steps (Turns head size) = size + 2
steps (Once variable first size) = size + 1

-- a plan gives what is asked for, however the items ahead are written
abbrev pub Plans : ℕ → List Item → (Writer → Option Part) → Plan → Type 0
Plans n ahead given plan = (write : Writer) → carried write n plan ahead ≡ given write

-- the items ahead, once there is a plan
abbrev pub Ahead : List Item → List Item → Plan → Type 0
Ahead old new Unwritten = Unit {0}
Ahead old new (Whole p) = new ≡ old
Ahead old new (OneArm test size) = new ≡ old
Ahead old new (TwoArms test size other) = new ≡ old
Ahead old new (Turns head size) = new ≡ drop 1 old
Ahead old new (Once variable first size) = new ≡ old

-- the items ahead that belong to a plan are taken, where a part comes of it
abbrev pub Carries : List Item → List Item → Plan → Option Part → Type 0
Carries old new plan None = Unit {0}
Carries old new plan (Some p) = new ≡ drop (steps plan) old

-- the plan of a statement that is built already, with the items that belong to it
unfoldable pub whole : Option Part → Plan
whole None = Unwritten
whole (Some p) = Whole p

-- the plan of a loop, where it is one
unfoldable pub turns : Bool → Head → ℕ → Plan
turns true head size = Turns head size
turns false head size = Unwritten

-- the plan of a loop whose variable is set already, where the item behind that is its test
unfoldable pub loop_plan : Layout → ℕ → ℕ → CExpr → CExpr → Item → List Item → Plan
loop_plan l n size variable first (Branch test on off) later = turns (is_loop l n size on off later) (record { variable = variable; first = first; test = test }) size
loop_plan l n size variable first item later = Unwritten
