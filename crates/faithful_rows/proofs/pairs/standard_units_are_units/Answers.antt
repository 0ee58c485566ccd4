-- The standard units with one record on unit 5.
use Rattle.std.specs.Prelude.{◌≡◌, ℕ, nat_lt, ℤ, pos, Bool, true, false, ◌&&◌, List, [], ◌∷◌, codes, Option, Some, None, if◌then◌else◌}
use Rattle.std.specs.Ordering.{int_eq}
use Rattle.std.proofs.Common.{refl, ap, subst, arith}
use Rattle.std.proofs.lemmas.Bool.{ltb-true}
use Rattle.std.proofs.lemmas.Bool.Decides.{Decides-int_eq}
use Rattle.faithful.specs.run_state.Units.{UnitState}
use Rattle.faithful.specs.f_tree.Values.{in_range}
use Rattle.faithful.specs.f_tree.Runs.{with_records}
use Rattle.faithful.specs.f_tree.Setting.{IsIn, first_in, later_in}
use Rattle.faithful.specs.UnitsAtStart.{AreBytes, IsFile}
use Rattle.faithful_rows.proofs.pairs.standard_units_are_units.Goals as goal

both_true : (a b : Bool) → (a && b) ≡ true → (a ≡ true) × (b ≡ true)
both_true true b h = (refl, h)
both_true false b h = absurd (cc)

abbrev all_bytes : List ℕ → Bool
all_bytes [] = true
all_bytes (byte ∷ later) = nat_lt byte 256 && all_bytes later

all_are_bytes : (bytes : List ℕ) → all_bytes bytes ≡ true → AreBytes bytes
all_are_bytes [] passes byte is = elim is [ ]
all_are_bytes (b ∷ later) passes byte first_in = ltb-true b 256 (both_true (nat_lt b 256) (all_bytes later) passes).0
all_are_bytes (b ∷ later) passes byte (later_in is) = all_are_bytes later (both_true (nat_lt b 256) (all_bytes later) passes).1 byte is

one_record : (line : List ℕ) → IsIn line (codes "7 8" ∷ []) → AreBytes line
one_record line first_in = all_are_bytes (codes "7 8") refl
one_record line (later_in is) = elim is [ ]

one_file : IsFile (codes "7 8" ∷ []) 0
one_file = record { bytes = one_record; placed = omega arith }

no_record : (line : List ℕ) → IsIn line [] → AreBytes line
no_record line is = elim is [ ]

empty_file : IsFile [] 0
empty_file = record { bytes = no_record; placed = omega arith }

-- the state of a unit, by whether its number is 5 and whether it is 6
abbrev unit_by : Bool → Bool → Option UnitState
unit_by five six = if five then Some (with_records (codes "7 8" ∷ [])) else if six then Some (with_records []) else None

each_unit : (number : ℤ) (unit : UnitState) (five six : Bool) → int_eq number (pos 5) ≡ five → int_eq number (pos 6) ≡ six → unit_by five six ≡ Some unit →
    (in_range number ≡ true) × IsFile unit.records unit.position
unfolding in_range
each_unit number unit true six is other at =
    let same : with_records (codes "7 8" ∷ []) ≡ unit = cc in
    (ap in_range ((Decides-int_eq number (pos 5)).0 is), subst (λ (u : UnitState). IsFile u.records u.position) same one_file)
each_unit number unit false true is other at =
    let same : with_records [] ≡ unit = cc in
    (ap in_range ((Decides-int_eq number (pos 6)).0 other), subst (λ (u : UnitState). IsFile u.records u.position) same empty_file)
each_unit number unit false false is other at = absurd (cc)

pub returns : goal.returns
returns c = record {
  connected = λ number unit at. each_unit number unit (int_eq number (pos 5)) (int_eq number (pos 6)) refl refl at;
  drawer = λ offered is. elim is [ ];
}
