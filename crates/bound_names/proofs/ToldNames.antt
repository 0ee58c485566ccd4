-- The names of kept bounds are told apart, by the last byte before their digits.
use Rattle.std.proofs.Common.{◌≡◌, ◌≢◌, ℕ, suc, ◌+◌, ◌<◌, ◌≤◌, ◌^◌, ℤ, pos, negsuc, nat_abs, [], ◌∷◌, ◌++◌, codes, decimal, refl, sym, ap, ◌∙◌, arith, append_assoc}
use Rattle.std.proofs.lemmas.List.{append_cancel_right}
use Rattle.fortran_laws.specs.f_tree.CNames.{Bytes, variable_name, constant_name, made_name, NumberTemporary, ConstantOf, ControlList}
use Rattle.fortran_laws.proofs.CNameLaws.{variable_name-injective}
use Rattle.bound_names.specs.BoundNames.{lower_name, size_name, IsBoundName, of_lower, of_size, LowersAreTold, SizesAreTold, LowersAreNoSizes, BoundsAreNoTemporaries, BoundsAreNoLists, BoundsAreNoConstants, BoundsEndInDigits}
use Rattle.bound_names.proofs.Stems.{HasStem, stems_same, stem_ends}

-- ## The stem of each name

lower_stem : (x : Bytes) (k : ℕ) → k < 2 ^ 64 → HasStem (lower_name x k) (variable_name x ++ codes "_lo") 119 k
unfolding made_name
lower_stem x k few = record {
  is = ap (λ front. front ++ decimal k) (sym (append_assoc (variable_name x) (codes "_lo") (119 ∷ []))) ∙ append_assoc (variable_name x ++ codes "_lo") (119 ∷ []) (decimal k);
  small = few;
  other = λ low high. omega (arith, high);
}

size_stem : (x : Bytes) (k : ℕ) → k < 2 ^ 64 → HasStem (size_name x k) (variable_name x ++ codes "_di") 109 k
unfolding made_name
size_stem x k few = record {
  is = ap (λ front. front ++ decimal k) (sym (append_assoc (variable_name x) (codes "_di") (109 ∷ []))) ∙ append_assoc (variable_name x ++ codes "_di") (109 ∷ []) (decimal k);
  small = few;
  other = λ low high. omega (arith, high);
}

temporary_stem : (k : ℕ) → k < 2 ^ 64 → HasStem (made_name (NumberTemporary k)) (codes "i_") 95 k
unfolding made_name
temporary_stem k few = record { is = refl; small = few; other = λ low high. omega (arith, high) }

list_stem : (k : ℕ) → k < 2 ^ 64 → HasStem (made_name (ControlList k)) (codes "io__") 95 k
unfolding made_name
list_stem k few = record { is = refl; small = few; other = λ low high. omega (arith, high) }

positive_stem : (n : ℕ) → n < 2 ^ 64 → HasStem (made_name (ConstantOf (pos n))) (codes "c_") 95 n
unfolding made_name constant_name
positive_stem n few = record { is = refl; small = few; other = λ low high. omega (arith, high) }

negative_stem : (n : ℕ) → suc n < 2 ^ 64 → HasStem (made_name (ConstantOf (negsuc n))) (codes "c_") 110 (suc n)
unfolding made_name constant_name
negative_stem n few = record { is = refl; small = few; other = λ low high. omega (arith, high) }

-- ## Bounds among each other

pub lowers_are_told : LowersAreTold
lowers_are_told x y k m few also same =
    let parts = stems_same (lower_name x k) (lower_name y m) (variable_name x ++ codes "_lo") (variable_name y ++ codes "_lo") 119 119 k m (lower_stem x k few) (lower_stem y m also) same in
    (variable_name-injective x y (append_cancel_right (variable_name x) (variable_name y) (codes "_lo") parts.0), parts.2)

pub sizes_are_told : SizesAreTold
sizes_are_told x y k m few also same =
    let parts = stems_same (size_name x k) (size_name y m) (variable_name x ++ codes "_di") (variable_name y ++ codes "_di") 109 109 k m (size_stem x k few) (size_stem y m also) same in
    (variable_name-injective x y (append_cancel_right (variable_name x) (variable_name y) (codes "_di") parts.0), parts.2)

pub lowers_are_no_sizes : LowersAreNoSizes
lowers_are_no_sizes x y k m few also same =
    let parts = stems_same (lower_name x k) (size_name y m) (variable_name x ++ codes "_lo") (variable_name y ++ codes "_di") 119 109 k m (lower_stem x k few) (size_stem y m also) same in
    let byte = parts.1 in
    omega (arith, byte)

-- ## Bounds and other names

-- the last byte before the digits is `w` or `m`
no_other : (name other front : Bytes) (byte number : ℕ) → IsBoundName name → HasStem other front byte number → byte ≢ 119 → byte ≢ 109 → name ≢ other
no_other name other front byte number (of_lower x k few is) stem no_lower no_size same =
    let parts = stems_same (lower_name x k) other (variable_name x ++ codes "_lo") front 119 byte k number (lower_stem x k few) stem (sym is ∙ same) in no_lower (sym parts.1)
no_other name other front byte number (of_size x k few is) stem no_lower no_size same =
    let parts = stems_same (size_name x k) other (variable_name x ++ codes "_di") front 109 byte k number (size_stem x k few) stem (sym is ∙ same) in no_size (sym parts.1)

pub bounds_are_no_temporaries : BoundsAreNoTemporaries
bounds_are_no_temporaries name k bound few = no_other name (made_name (NumberTemporary k)) (codes "i_") 95 k bound (temporary_stem k few) (λ same. omega (arith, same)) (λ same. omega (arith, same))

pub bounds_are_no_lists : BoundsAreNoLists
bounds_are_no_lists name k bound few = no_other name (made_name (ControlList k)) (codes "io__") 95 k bound (list_stem k few) (λ same. omega (arith, same)) (λ same. omega (arith, same))

pub bounds_are_no_constants : BoundsAreNoConstants
bounds_are_no_constants name (pos n) bound few =
    no_other name (made_name (ConstantOf (pos n))) (codes "c_") 95 n bound (positive_stem n few) (λ same. omega (arith, same)) (λ same. omega (arith, same))
bounds_are_no_constants name (negsuc n) bound few =
    no_other name (made_name (ConstantOf (negsuc n))) (codes "c_") 110 (suc n) bound (negative_stem n few) (λ same. omega (arith, same)) (λ same. omega (arith, same))

pub bounds_end_in_digits : BoundsEndInDigits
bounds_end_in_digits name front byte (of_lower x k few is) none same = stem_ends (lower_name x k) (variable_name x ++ codes "_lo") front 119 k byte (lower_stem x k few) none (sym is ∙ same)
bounds_end_in_digits name front byte (of_size x k few is) none same = stem_ends (size_name x k) (variable_name x ++ codes "_di") front 109 k byte (size_stem x k few) none (sym is ∙ same)
