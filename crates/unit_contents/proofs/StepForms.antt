-- What the forms of values and steps tell.
use Rattle.std.specs.Prelude.{◌≡◌, ◌<◌, ◌≤◌, List, [], ◌∷◌, None, length, slice_index_or}
use Rattle.std.proofs.Common.{refl, ap, ◌∙◌, arith}
use Rattle.f_tree.specs.Values.{IsInt}
use Rattle.lowered_tree.specs.l_core.Pures as core
use Rattle.lowered_tree.specs.declared.pures.Literal.{Literal}
use Rattle.lowered_tree.specs.declared.pures.Pure.{Pure}
use Rattle.lowered_tree.specs.declared.pures.Pure as tree
use Rattle.lowered_tree.specs.Shapes.{datum_of, pure_of, pures_of, shapes_opened}
use Rattle.c_emit.specs.Calls.{unit_of}
use Rattle.unit_contents.specs.Parts.{integer_in, integer_of}

-- ## Integers that are written

pub integer-Constant : (d : Literal) → integer_of (pure_of (tree.Constant d)) ≡ integer_in (datum_of d)
unfolding shapes_opened integer_of
integer-Constant d = refl

pub integer-other : (p : Pure) → ((d : Literal) → p ≡ tree.Constant d → ⊥) → None ≡ integer_of (pure_of p)
unfolding shapes_opened integer_of
integer-other (tree.Constant d) other = absurd (other d refl)
integer-other (tree.Load' s (tree.more_of-Pure p r)) other = refl
integer-other (tree.FirstOf' s (tree.more_of-Pure p r)) other = refl
integer-other (tree.Substring' x s (tree.more_of-Pure p r) t (tree.more_of-Pure a q) u (tree.more_of-Pure b o)) other = refl
integer-other (tree.Prefixed' op s (tree.more_of-Pure p r)) other = refl
integer-other (tree.Operated' op s (tree.more_of-Pure p r) t (tree.more_of-Pure q o)) other = refl
integer-other (tree.Chosen' s (tree.more_of-Pure p r) t (tree.more_of-Pure a q) u (tree.more_of-Pure b o)) other = refl
integer-other _ other = refl

pub ruleset integer_forms = (integer-Constant, integer-other)

-- ## Operands that are one value

unit-alone : (p : core.Pure) → integer_of p ≡ unit_of (core.AndPure p core.NoPure)
unfolding integer_of integer_in unit_of
unit-alone (core.Constant (IsInt z)) = refl
unit-alone (core.Constant d) = refl
unit-alone p = refl

unit-more : (p q : core.Pure) (ps : core.Pures) → None ≡ unit_of (core.AndPure p (core.AndPure q ps))
unfolding unit_of
unit-more (core.Constant (IsInt z)) q ps = refl
unit-more (core.Constant d) q ps = refl
unit-more p q ps = refl

pub unit-one : (ps : List Pure) (p : Pure) → 1 ≤ length ps → length ps < 2 → p ≡ slice_index_or ps 0 p → integer_of (pure_of p) ≡ unit_of (pures_of ps)
unfolding pures_of
unit-one [] p some one is = absurd (omega arith)
unit-one (q ∷ []) p some one is = ap (λ r. integer_of (pure_of r)) is ∙ unit-alone (pure_of q)
unit-one (q ∷ r ∷ ps) p some one is = absurd (omega arith)

pub unit-none : (ps : List Pure) → length ps < 1 → None ≡ unit_of (pures_of ps)
unfolding pures_of unit_of
unit-none [] none = refl
unit-none (q ∷ ps) none = absurd (omega arith)

pub unit-many : (ps : List Pure) → 2 ≤ length ps → None ≡ unit_of (pures_of ps)
unfolding pures_of
unit-many [] many = absurd (omega arith)
unit-many (q ∷ []) many = absurd (omega arith)
unit-many (q ∷ r ∷ ps) many = unit-more (pure_of q) (pure_of r) (pures_of ps)

pub ruleset unit_forms = (unit-one, unit-none, unit-many)
