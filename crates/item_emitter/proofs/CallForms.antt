-- The items of acts of a transfer, by the forms of the acts and by how many operands they have.
use Rattle.std.specs.Prelude.{◌≡◌, ℕ, zero, suc, ◌<◌, ◌≤◌, nat_le, ℤ, pos, negsuc, Bool, true, false, ◌&&◌, List, [], ◌∷◌, length, map, codes, Option, Some, None, option_and_then, Result, Ok, Err, IfOk, FitsSigned}
use Rattle.std.specs.Int.{w32}
use Rattle.std.specs.declared.alloc.AllocError.{AllocError}
use Rattle.std.proofs.Common.{get_or, refl, sym, ap, ◌∙◌, arith}
use Rattle.std.proofs.lemmas.Bool.Decides.{nat_tests}
use Rattle.f_tree.specs.Values.{IsInt, in_range}
use Rattle.f_tree.specs.Facts as fact
use Rattle.f_tree.specs.Facts.{Direction, Input, Output, Layout, Listed, Labelled, Computed, Unformatted, Controls, AuxiliaryKind}
use Rattle.lowered_tree.specs.l_core.Pures as core
use Rattle.lowered_tree.specs.l_core.Pures.{Pures, NoPure, AndPure}
use Rattle.lowered_tree.specs.l_core.Steps as step
use Rattle.c_tree.specs.declared.expression.CExpr.{CExpr}
use Rattle.c_emit.specs.Calls.{is_plain, is_unit_alone, kind_number}
use Rattle.named_items.specs.declared.item.Item.{Item}
use Rattle.named_items.specs.declared.item.Item.TheVariants as item
use Rattle.named_items.specs.Items.{by_name}
use Rattle.lowered_tree.specs.declared.steps.Word.{Word}
use Rattle.lowered_tree.specs.declared.pures.Pure.{Pure}
use Rattle.lowered_tree.specs.Shapes.{pure_of, pures_of, word_of}
use Rattle.lowered_tree.proofs.ShapeForms.{pures-none, pures-more}
use Rattle.item_emission.specs.NamedEmission.{Knowledge, Kinds, type_in, held_expr, start_if, start_step, output_by, output_step, finish_step, acting_step}
use Rattle.item_emitter.specs.Operands.{integer_in, start_unit, begin_step, finish_at}

-- ## Numbers of units

within : (n : ℕ) → n < 2147483648 → nat_le n 2147483647 ≡ true
within n h = grind (arith, nat_tests)

and-true : (b : Bool) → (b && true) ≡ b
and-true true = refl
and-true false = refl

fits-range : (z : ℤ) → FitsSigned w32 z → in_range z ≡ true
unfolding in_range
fits-range (pos n) h = within n h.sfits
fits-range (negsuc n) h = and-true (nat_le n 2147483647) ∙ within n h.sfits

pub start_ranged : (known : Knowledge) (n : ℕ) (controls : Controls) (z : ℤ) → FitsSigned w32 z → start_unit known n controls (Some z) ≡ start_if (is_plain controls) (known.list n)
unfolding start_unit
start_ranged known n controls z h = ap (λ t. start_if (is_plain controls && t) (known.list n)) (fits-range z h) ∙ ap (λ t. start_if t (known.list n)) (and-true (is_plain controls))

-- ## One operand

one-listed : (ps : List Pure) (p : Pure) → 1 ≤ length ps → length ps < 2 → p ≡ get_or ps 0 p → ps ≡ p ∷ []
one-listed [] p h k e = absurd (omega arith)
one-listed (q ∷ []) p h k e = ap (λ x. x ∷ []) (sym e)
one-listed (q ∷ r ∷ ps) p h k e = absurd (omega arith)

made-so : (r : Result (Option Item) AllocError) (one other : Option Item) → one ≡ other → IfOk r (λ i. i ≡ one) → IfOk r (λ i. i ≡ other)
made-so (Ok i) one other same made = made ∙ same
made-so (Err e) one other same made = made

-- ## Starts

one-start : (known : Knowledge) (n : ℕ) (controls : Controls) (p : core.Pure) → start_step known n controls (AndPure p NoPure) ≡ start_unit known n controls (integer_in p)
unfolding start_step start_unit integer_in
one-start known n controls (core.Constant (IsInt z)) = refl
one-start known n controls p = refl

more-start : (known : Knowledge) (n : ℕ) (controls : Controls) (p q : core.Pure) (ps : Pures) → start_step known n controls (AndPure p (AndPure q ps)) ≡ None
unfolding start_step
more-start known n controls (core.Constant (IsInt z)) q ps = refl
more-start known n controls p q ps = refl

pub start-none : (known : Knowledge) (n : ℕ) (controls : Controls) → start_step known n controls (pures_of []) ≡ None
unfolding start_step
start-none known n controls = ap (start_step known n controls) pures-none

pub start-one : (known : Knowledge) (n : ℕ) (controls : Controls) (p : Pure) → start_step known n controls (pures_of (p ∷ [])) ≡ start_unit known n controls (integer_in (pure_of p))
start-one known n controls p = ap (start_step known n controls) (pures-more p [] ∙ ap (AndPure (pure_of p)) pures-none) ∙ one-start known n controls (pure_of p)

pub start-more : (known : Knowledge) (n : ℕ) (controls : Controls) (p q : Pure) (ps : List Pure) → start_step known n controls (pures_of (p ∷ q ∷ ps)) ≡ None
start-more known n controls p q ps =
    ap (start_step known n controls) (pures-more p (q ∷ ps) ∙ ap (AndPure (pure_of p)) (pures-more q ps)) ∙ more-start known n controls (pure_of p) (pure_of q) (pures_of ps)

pub start-none-listed : (known : Knowledge) (n : ℕ) (controls : Controls) (ps : List Pure) → length ps ≡ 0 → None ≡ start_step known n controls (pures_of ps)
start-none-listed known n controls [] h = sym (start-none known n controls)
start-none-listed known n controls (p ∷ ps) h = absurd (omega arith)

pub start-more-listed : (known : Knowledge) (n : ℕ) (controls : Controls) (ps : List Pure) → 1 < length ps → None ≡ start_step known n controls (pures_of ps)
start-more-listed known n controls [] h = absurd (omega arith)
start-more-listed known n controls (p ∷ []) h = absurd (omega arith)
start-more-listed known n controls (p ∷ q ∷ ps) h = sym (start-more known n controls p q ps)

pub start-one-listed : (known : Knowledge) (n : ℕ) (controls : Controls) (ps : List Pure) (p : Pure) (o : Option ℤ) (r : Result (Option Item) AllocError) → 1 ≤ length ps → length ps < 2 → p ≡ get_or ps 0 p
    → o ≡ integer_in (pure_of p) → IfOk r (λ i. i ≡ start_unit known n controls o) → IfOk r (λ i. i ≡ start_step known n controls (pures_of ps))
start-one-listed known n controls ps p o r h k e unit made =
    made-so r (start_unit known n controls o) (start_step known n controls (pures_of ps))
    (ap (start_unit known n controls) unit ∙ sym (ap (λ qs. start_step known n controls (pures_of qs)) (one-listed ps p h k e) ∙ start-one known n controls p))
    made

-- ## Words

pub units-none : (ws : List Word) → length ws ≡ 0 → is_unit_alone (map word_of ws) ≡ false
unfolding is_unit_alone
units-none [] h = refl
units-none (w ∷ ws) h = absurd (omega arith)

pub units-one : (w : Word) → is_unit_alone (map word_of (w ∷ [])) ≡ is_unit_alone (word_of w ∷ [])
units-one w = refl

two-words : (w v : fact.Word) (ws : List fact.Word) → is_unit_alone (w ∷ v ∷ ws) ≡ false
unfolding is_unit_alone
two-words fact.UnitWord v ws = refl
two-words w v ws = refl

pub units-more : (ws : List Word) → 1 < length ws → is_unit_alone (map word_of ws) ≡ false
units-more [] h = absurd (omega arith)
units-more (w ∷ []) h = absurd (omega arith)
units-more (w ∷ v ∷ ws) h = two-words (word_of w) (word_of v) (map word_of ws)

-- ## Items and ends

pub output-none : (known : Knowledge) (kind : Kinds) → output_step known kind (pures_of []) ≡ None
unfolding output_step
output-none known kind = ap (output_step known kind) pures-none

pub output-one : (known : Knowledge) (kind : Kinds) (p : Pure) → output_step known kind (pures_of (p ∷ [])) ≡ output_by known (option_and_then kind_number (type_in known kind (pure_of p))) (held_expr known (pure_of p))
unfolding output_step
output-one known kind p = ap (output_step known kind) (pures-more p [] ∙ ap (AndPure (pure_of p)) pures-none)

pub output-more : (known : Knowledge) (kind : Kinds) (p q : Pure) (ps : List Pure) → output_step known kind (pures_of (p ∷ q ∷ ps)) ≡ None
unfolding output_step
output-more known kind p q ps = ap (output_step known kind) (pures-more p (q ∷ ps) ∙ ap (AndPure (pure_of p)) (pures-more q ps))

pub output-none-listed : (known : Knowledge) (kind : Kinds) (ps : List Pure) → length ps ≡ 0 → None ≡ output_step known kind (pures_of ps)
output-none-listed known kind [] h = sym (output-none known kind)
output-none-listed known kind (p ∷ ps) h = absurd (omega arith)

pub output-more-listed : (known : Knowledge) (kind : Kinds) (ps : List Pure) → 1 < length ps → None ≡ output_step known kind (pures_of ps)
output-more-listed known kind [] h = absurd (omega arith)
output-more-listed known kind (p ∷ []) h = absurd (omega arith)
output-more-listed known kind (p ∷ q ∷ ps) h = sym (output-more known kind p q ps)

pub output-one-listed : (known : Knowledge) (kind : Kinds) (ps : List Pure) (p : Pure) (number : Option ℤ) (holder : Option CExpr) (r : Result (Option Item) AllocError) → 1 ≤ length ps → length ps < 2 → p ≡ get_or ps 0 p
    → number ≡ option_and_then kind_number (type_in known kind (pure_of p)) → holder ≡ held_expr known (pure_of p) → IfOk r (λ i. i ≡ output_by known number holder) → IfOk r (λ i. i ≡ output_step known kind (pures_of ps))
output-one-listed known kind ps p number holder r h k e numbered holds made =
    made-so r (output_by known number holder) (output_step known kind (pures_of ps))
    (ap (λ o. output_by known o holder) numbered ∙ ap (output_by known (option_and_then kind_number (type_in known kind (pure_of p)))) holds
    ∙ sym (ap (λ qs. output_step known kind (pures_of qs)) (one-listed ps p h k e) ∙ output-one known kind p))
    made

pub finish-none : finish_step (pures_of []) ≡ finish_step NoPure
finish-none = ap finish_step pures-none

pub finish-more : (p : Pure) (ps : List Pure) → finish_step (pures_of (p ∷ ps)) ≡ None
unfolding finish_step
finish-more p ps = ap finish_step (pures-more p ps)

pub finish-none-listed : (ps : List Pure) → length ps ≡ 0 → finish_step (pures_of ps) ≡ Some (item.Call (by_name (codes "e_wsle")) [])
unfolding finish_step
finish-none-listed [] h = finish-none
finish-none-listed (p ∷ ps) h = absurd (omega arith)

pub finish-more-listed : (ps : List Pure) → 0 < length ps → finish_step (pures_of ps) ≡ None
finish-more-listed [] h = absurd (omega arith)
finish-more-listed (p ∷ ps) h = finish-more p ps

-- ## Acts

pub acting-Starts : (known : Knowledge) (kind : Kinds) (n : ℕ) (way : Direction) (layout : Layout) (controls : Controls) (ps : Pures) (m : ℕ) → acting_step known kind n (step.Starts way layout controls) ps m ≡ begin_step known n way layout controls ps
unfolding acting_step begin_step
acting-Starts known kind n Output Listed controls ps m = refl
acting-Starts known kind n way layout controls ps m = refl

pub acting-Takes : (known : Knowledge) (kind : Kinds) (n : ℕ) (ps : Pures) (m : ℕ) → acting_step known kind n step.Takes ps m ≡ output_step known kind ps
unfolding acting_step
acting-Takes known kind n ps m = refl

pub acting-Finishes : (known : Knowledge) (kind : Kinds) (n : ℕ) (ps : Pures) (m : ℕ) → acting_step known kind n step.Finishes ps m ≡ finish_at m ps
unfolding acting_step finish_at
acting-Finishes known kind n ps zero = refl
acting-Finishes known kind n ps (suc m) = refl

pub acting-Auxiliary : (known : Knowledge) (kind : Kinds) (n : ℕ) (which : AuxiliaryKind) (controls : Controls) (ps : Pures) (m : ℕ) → acting_step known kind n (step.Auxiliary which controls) ps m ≡ None
unfolding acting_step
acting-Auxiliary known kind n which controls ps m = refl

pub finish-zero : (ps : Pures) → finish_at 0 ps ≡ finish_step ps
unfolding finish_at
finish-zero ps = refl

pub finish-later : (m : ℕ) (ps : Pures) → 0 < m → finish_at m ps ≡ None
unfolding finish_at
finish-later zero ps h = absurd (let no : ⊥ = omega (arith, h) in no)
finish-later (suc m) ps h = refl

pub ruleset start_forms = (start-none, start-one, start-more)

pub ruleset output_forms = (output-none, output-one, output-more)

pub ruleset finish_forms = (finish-none-listed, finish-more-listed)

pub ruleset passed_forms = (finish-zero, finish-later)

pub ruleset word_forms = (units-none, units-one, units-more)

pub ruleset acting_forms = (acting-Starts, acting-Takes, acting-Finishes, acting-Auxiliary)
