-- What is said of the steps of a text is said of those from a position on.
use Rattle.std.specs.Prelude.{◌≡◌, ℕ, zero, suc, ◌+◌, ◌<◌, List, [], ◌∷◌, ◌++◌, length, drop, Some, slice_get}
use Rattle.std.proofs.Common.{refl, ap, subst, arith}
use Rattle.unit_places.specs.f_tree.Facts.{Facts}
use Rattle.unit_places.specs.l_core.Steps.{Step, Halt, Pass}
use Rattle.unit_places.specs.main_file.MainItems.{stops_from}
use Rattle.unit_places.proofs.main_file_laws.BuiltItems.{AreBelow, none_below, and_below}
use Rattle.unit_places.specs.procedure_emission.ProcedureItems.{Numbers}
use Rattle.unit_places.specs.unit_file.UnitFile.{KeptBound, Inventory}
use Rattle.unit_places.specs.unit_file.UnitSavings.{savings_from}
use Rattle.unit_file_laws.specs.BuiltUnits.{AreListed}

-- there are as many as bounds
pub savings_count : (first : ℕ) (bounds : List KeptBound) → length (savings_from first bounds) ≡ length bounds
unfolding savings_from
savings_count first [] = refl
savings_count first (one ∷ bounds) = ap suc (savings_count (suc first) bounds)

-- the strings that steps pass, where some are left out
pub record ArePassed (n at first : ℕ) (steps : List Step) : Type 0 where
  pub before : List ℕ
  pub is : stops_from n steps ≡ before ++ stops_from at (drop first steps)
  pub below : AreBelow at before

pub passed : (first n at : ℕ) (steps : List Step) → at ≡ n + first → ArePassed n at first steps
unfolding stops_from
passed zero n at steps there = record { before = []; is = ap (λ k. stops_from k steps) {x = n} {y = at} (omega (arith, there)); below = none_below }
passed (suc first) n at [] there = record { before = []; is = refl; below = none_below }
passed (suc first) n at (Halt text ∷ later) there =
    let r = passed first (suc n) at later (omega (arith, there)) in
    record { before = n ∷ r.before; is = (λ i. n ∷ r.is i); below = and_below (omega (arith, there)) r.below }
passed (suc first) n at (st ∷ later) there =
    let r = passed first (suc n) at later (omega (arith, there)) in
    record { before = r.before; is = r.is; below = r.below }

-- none are left out where the first steps do nothing
pub none_stops : (first n at : ℕ) (steps : List Step) → at ≡ n + first → ((k : ℕ) → k < first → slice_get steps k ≡ Some Pass) → stops_from n steps ≡ stops_from at (drop first steps)
unfolding stops_from
none_stops zero n at steps there passes = ap (λ k. stops_from k steps) {x = n} {y = at} (omega (arith, there))
none_stops (suc first) n at [] there passes = refl
none_stops (suc first) n at (Pass ∷ later) there passes = none_stops first (suc n) at later (omega (arith, there)) (λ k less. passes (suc k) (omega (arith, less)))
none_stops (suc first) n at (st ∷ later) there passes = let same : slice_get (st ∷ later) 0 ≡ Some Pass = passes 0 (omega arith) in absurd (cc)

-- and what they call
pub listed_behind : (numbers : Numbers) (vs : List Inventory) (c : Facts) (v : Inventory) (first n at : ℕ) (steps : List Step) → at ≡ n + first → AreListed numbers vs c v n steps → AreListed numbers vs c v at (drop first steps)
listed_behind numbers vs c v zero n at steps there are = subst (λ k. AreListed numbers vs c v k steps) {x = n} {y = at} (omega (arith, there)) are
listed_behind numbers vs c v (suc first) n at [] there are = tt
listed_behind numbers vs c v (suc first) n at (st ∷ later) there are = listed_behind numbers vs c v first (suc n) at later (omega (arith, there)) are.1
