-- Code in which each item stands has no item that links nothing.
use Rattle.std.specs.Prelude.{◌≡◌, ℕ, ◌+◌, Bool, true, false, ◌||◌, List, [], ◌∷◌, Some, None}
use Rattle.std.proofs.Common.{refl}
use Rattle.c_tree.specs.Terms.{Term, Constant, Variable, Array, Routine, Unknown, Prefixed, Cast, Between, Choice, Element, Field, Size, Most, Magnitude}
use Rattle.c_tree.specs.Flat.{Flat, Assign, Branch, Select, Jump, Invoke, Return, ReturnAnswer, Nothing, Lost, Callee, Direct, Through, Nowhere, Use, Ignored, Kept, Returned}
use Rattle.c_tree.specs.Linking.{Function}
use Rattle.c_totality.specs.Sound.{Each, IsKnown}
use Rattle.c_totality.specs.Standing.{IsKnownCallee, IsKnownUse, Stands, AllStand, StandsWhole}
use Rattle.expression_linker.specs.LinkedParts.{is_unknown, some_unknown, is_nowhere}
use Rattle.flat_linker.specs.LostNames.{lacks_target, is_lost, some_lost}
use Rattle.known_code.specs.LostCode.{some_code_lost}

neither : (a b : Bool) → a ≡ false → b ≡ false → (a || b) ≡ false
neither true b one two = one
neither false b one two = two

known-term : (term : Term) → IsKnown term → is_unknown term ≡ false
known-term (Constant number) known = refl
known-term (Variable object access) known = refl
known-term (Array object access) known = refl
known-term (Routine number) known = refl
known-term Unknown known = absurd known
known-term (Prefixed operator operand) known = known-term operand known
known-term (Cast type operand) known = known-term operand known
known-term (Between operator left right) known = neither (is_unknown left) (is_unknown right) (known-term left known.0) (known-term right known.1)
known-term (Choice test first second) known =
    neither (is_unknown test) (is_unknown first || is_unknown second) (known-term test known.0)
    (neither (is_unknown first) (is_unknown second) (known-term first known.1.0) (known-term second known.1.1))
known-term (Element array index) known = neither (is_unknown array) (is_unknown index) (known-term array known.0) (known-term index known.1)
known-term (Field operand name) known = known-term operand known
known-term Size known = refl
known-term (Most which left right) known = neither (is_unknown left) (is_unknown right) (known-term left known.0) (known-term right known.1)
known-term (Magnitude operand) known = known-term operand known

known-terms : (terms : List Term) → Each IsKnown terms → some_unknown terms ≡ false
known-terms [] known = refl
known-terms (first ∷ later) known = neither (is_unknown first) (some_unknown later) (known-term first known.0) (known-terms later known.1)

known-callee : (callee : Callee) → IsKnownCallee callee → is_nowhere callee ≡ false
known-callee (Direct number) known = refl
known-callee (Through term) known = known-term term known
known-callee Nowhere known = absurd known

known-use : (how : Use) → IsKnownUse how → lacks_target how ≡ false
known-use Ignored known = refl
known-use (Kept target) known = known-term target known
known-use Returned known = refl

known-item : (count position : ℕ) (item : Flat) → Stands count position item → is_lost item ≡ false
known-item count position (Assign target value) stands = neither (is_unknown target) (is_unknown value) (known-term target stands.0) (known-term value stands.1.0)
known-item count position (Branch test on off) stands = known-term test stands.0
known-item count position (Select value cases otherwise) stands = known-term value stands.0
known-item count position (Jump to) stands = refl
known-item count position (Invoke how callee arguments) stands =
    neither (lacks_target how) (is_nowhere callee || some_unknown arguments) (known-use how stands.0)
    (neither (is_nowhere callee) (some_unknown arguments) (known-callee callee stands.1.0) (known-terms arguments stands.1.1.0))
known-item count position (Return None) stands = refl
known-item count position (Return (Some term)) stands = known-term term stands
known-item count position ReturnAnswer stands = refl
known-item count position Nothing stands = refl
known-item count position Lost stands = absurd stands

known-items : (count position : ℕ) (items : List Flat) → AllStand count position items → some_lost items ≡ false
known-items count position [] stand = refl
known-items count position (item ∷ later) stand =
    neither (is_lost item) (some_lost later) (known-item count position item stand.0) (known-items count (position + 1) later stand.1)

-- no function that stands whole has such an item
pub known-functions : (functions : List Function) → Each StandsWhole functions → some_code_lost functions ≡ false
known-functions [] stand = refl
known-functions (function ∷ later) stand =
    neither (some_lost function.code) (some_code_lost later) (known-items _ 0 function.code stand.0.items) (known-functions later stand.1)
