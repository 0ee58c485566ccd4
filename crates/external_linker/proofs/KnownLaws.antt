-- External objects that are added to those that are known (C89, 3.7.2).
use Rattle.std.proofs.Common.{◌≡◌, refl, ap, sym, ◌∙◌, subst, ℕ, zero, suc, ◌<◌, Bool, true, false, List, [], ◌∷◌, ◌++◌, length, set, get_or, Option, Some, None, option_map, bytes_eq, arith, if◌then◌else◌}
use Rattle.std.proofs.Math.ListN.{get_or-map}
use Rattle.std.proofs.lemmas.List.{map-append, map-set, length-map}
use Rattle.std.proofs.lemmas.List.Quantifiers.{position-Some}
use Rattle.c_tree.specs.Linking.{External, external_number, with_external}
use Rattle.first_names.specs.FirstNames.{or_later}
use Rattle.external_linker.specs.declared.starts.ExternalObject.{ExternalObject}
use Rattle.external_linker.specs.Externals.{external_of, externals_of, merged}
use Rattle.external_linker.proofs.PlaceLaws.{place, position-place, position-push, position-set}

some_same : {A : Type 0} (a b : A) → Some a ≡ Some b → a ≡ b
some_same a b h = cc

none_some : {A : Type 0} (a : A) → None ≡ Some a → ⊥
none_some a h = cc

-- whether an object has the name of another one
abbrev of_name : External → External → Bool
of_name new known = bytes_eq new.name known.name

with-by : (test : Bool) (new x : External) (xs : List External) (found : Option ℕ) (i : ℕ) (d : External) →
    ((j : ℕ) → found ≡ Some j → with_external new xs ≡ set xs j (merged (get_or xs j d) new)) → (if test then Some 0 else option_map suc found) ≡ Some i →
    (if test then merged x new ∷ xs else x ∷ with_external new xs) ≡ set (x ∷ xs) i (merged (get_or (x ∷ xs) i d) new)
with-by true new x xs found zero d rest h = refl
with-by true new x xs found (suc i) d rest h = absurd (let e : 0 ≡ suc i = some_same 0 (suc i) h in omega (arith, e))
with-by false new x xs None i d rest h = absurd (none_some i h)
with-by false new x xs (Some j) i d rest h =
    subst (λ k. (x ∷ with_external new xs) ≡ set (x ∷ xs) k (merged (get_or (x ∷ xs) k d) new)) (some_same (suc j) i h) (ap (λ zs. x ∷ zs) (rest j refl))

with-place : (new : External) (known : List External) (i : ℕ) (d : External) → place (of_name new) known ≡ Some i → with_external new known ≡ set known i (merged (get_or known i d) new)
with-place new [] i d h = absurd (none_some i h)
with-place new (x ∷ xs) i d h = with-by (of_name new x) new x xs (place (of_name new) xs) i d (λ j found. with-place new xs j d found) h

added-by : (test : Bool) (new x : External) (xs : List External) (found : Option ℕ) → (found ≡ None → with_external new xs ≡ xs ++ new ∷ []) → (if test then Some 0 else option_map suc found) ≡ None →
    (if test then merged x new ∷ xs else x ∷ with_external new xs) ≡ (x ∷ xs) ++ new ∷ []
added-by true new x xs found rest h = absurd (none_some 0 (sym h))
added-by false new x xs None rest h = ap (λ zs. x ∷ zs) (rest refl)
added-by false new x xs (Some j) rest h = absurd (none_some (suc j) (sym h))

added-place : (new : External) (known : List External) → place (of_name new) known ≡ None → with_external new known ≡ known ++ new ∷ []
added-place new [] h = refl
added-place new (x ∷ xs) h = added-by (of_name new x) new x xs (place (of_name new) xs) (λ found. added-place new xs found) h

-- ## As data

-- the number of a known object is one of the list's
pub number-within : (objects : List ExternalObject) (name : List ℕ) (i : ℕ) (found : Option ℕ) → found ≡ external_number (externals_of objects) name → found ≡ Some i → i < length objects
number-within objects name i found numbered is =
    let d : External = record { name = []; size = 0; image = None } in
    subst (λ n. i < n) (length-map objects external_of) (position-Some (λ object. bytes_eq name object.name) (externals_of objects) i d (sym numbered ∙ is)).0

-- an object that is declared again stands where it stood
pub declared-again : (objects : List ExternalObject) (new d made : ExternalObject) (i : ℕ) (found : Option ℕ) → found ≡ external_number (externals_of objects) new.name.now → found ≡ Some i →
    external_of made ≡ merged (external_of (get_or objects i d)) (external_of new) → externals_of (set objects i made) ≡ with_external (external_of new) (externals_of objects)
declared-again objects new d made i found numbered is by =
    map-set external_of objects i made
    ∙ ap (λ z. set (externals_of objects) i z) (by ∙ ap (λ z. merged z (external_of new)) (sym (get_or-map external_of objects i d)))
    ∙ sym (with-place (external_of new) (externals_of objects) i (external_of d) (sym (position-place (of_name (external_of new)) (externals_of objects)) ∙ sym numbered ∙ is))

-- and the numbers are as before
pub numbers-stay : (objects : List ExternalObject) (new d made : ExternalObject) (i : ℕ) → external_of made ≡ merged (external_of (get_or objects i d)) (external_of new) → (q : List ℕ) →
    external_number (externals_of objects) q ≡ external_number (externals_of (set objects i made)) q
numbers-stay objects new d made i by q =
    sym (position-set (λ (object : External). bytes_eq q object.name) (externals_of objects) i (external_of made) (external_of d)
    (ap (λ (object : External). bytes_eq q object.name) (by ∙ ap (λ z. merged z (external_of new)) (sym (get_or-map external_of objects i d)))))
    ∙ ap (λ list. external_number list q) (sym (map-set external_of objects i made))

-- an object that is new stands behind the others
pub declared-first : (objects : List ExternalObject) (new : ExternalObject) (found : Option ℕ) → found ≡ external_number (externals_of objects) new.name.now → found ≡ None →
    externals_of (objects ++ new ∷ []) ≡ with_external (external_of new) (externals_of objects)
declared-first objects new found numbered is =
    map-append external_of objects (new ∷ [])
    ∙ sym (added-place (external_of new) (externals_of objects) (sym (position-place (of_name (external_of new)) (externals_of objects)) ∙ sym numbered ∙ is))

pub numbers-more : (objects : List ExternalObject) (new : ExternalObject) (q : List ℕ) (before now : Option ℕ) → before ≡ external_number (externals_of objects) q →
    now ≡ or_later before (if bytes_eq q new.name.now then Some (length objects) else None) → now ≡ external_number (externals_of (objects ++ new ∷ [])) q
numbers-more objects new q before now numbered is =
    is
    ∙ ap (λ n. or_later before (if bytes_eq q new.name.now then Some n else None)) (sym (length-map objects external_of))
    ∙ ap (λ z. or_later z (if bytes_eq q new.name.now then Some (length (externals_of objects)) else None)) numbered
    ∙ sym (position-push (λ (object : External). bytes_eq q object.name) (externals_of objects) (external_of new))
    ∙ ap (λ list. external_number list q) (sym (map-append external_of objects (new ∷ [])))
