-- The constant bounds of dimensions, one after the other.
use Rattle.std.proofs.Common.{◌≡◌, ℕ, ◌+◌, ◌<◌, ℤ, pos, Bool, true, false, not, ◌&&◌, List, [], ◌∷◌, ◌++◌, map, take, get_or, length, Option, Some, None, option_map, Result, Ok, Err, OnOk, IfOk, refl, ap, sym, subst, ◌∙◌, append-nil, append_assoc, drop, drop-cons, suc, ◌≤◌, arith}
use Rattle.std.proofs.lemmas.List.{take_more, take_all, drop_all, map-append}
use Rattle.f_tree.specs.declared.expressions.Expr.{Expr}
use Rattle.f_tree.specs.declared.statements.Dimension.{Dimension as WrittenDimension}
use Rattle.f_tree.specs.declared.statements.UpperBound.{UpperBound}
use Rattle.f_tree.specs.declared.statements.UpperBound.TheVariants as upper'
use Rattle.f_tree.specs.Values.{Bytes}
use Rattle.f_tree.specs.Facts.{Attribute, Dimension, Bounds}
use Rattle.f_tree.specs.Valuing.{reduce}
use Rattle.f_tree.specs.Attributes.{dimension_read, lower_read, upper_read, constant_term, constant_upper, constant_bounds, bounds_between, integer_if_valued}
use Rattle.name_facts.specs.declared.fact.Bound.{Bound}
use Rattle.name_facts.specs.GivenFacts.{bounds_of}
use Rattle.constant_values.specs.declared.constants.Constants.{Constants}
use Rattle.constant_values.specs.KnownConstants.{IsBoundOf}
use Rattle.decl_table.specs.UnitFacts.{IsLowerOf, IsUpperOf, AddsBounds, is_open, all_closed}

-- LOWER AND UPPER BOUNDS
pub lower-written : {E : Type 0} (table : Constants) (functions : List Bytes) (lower : Option Expr) (e : Expr) (r : Result (Option ℤ) E) → lower ≡ Some e
    → IfOk r (λ v. IsBoundOf table functions e v) → IfOk r (λ v. IsLowerOf table functions lower v)
unfolding lower_read
lower-written table functions lower e (Ok v) is h = record { worth = λ names known. h.value names known ∙ ap (λ l. constant_term (lower_read names l)) (sym is) }
lower-written table functions lower e (Err x) is h = h

one-read : (names : Bytes → Attribute) → Some (pos 1) ≡ constant_term (lower_read names None)
unfolding lower_read constant_term integer_if_valued reduce
one-read names = refl

pub lower-unwritten : (table : Constants) (functions : List Bytes) (lower : Option Expr) → lower ≡ None → IsLowerOf table functions lower (Some (pos 1))
lower-unwritten table functions lower is = record { worth = λ names known. one-read names ∙ ap (λ l. constant_term (lower_read names l)) (sym is) }

pub upper-written : (table : Constants) (functions : List Bytes) (bound : UpperBound) (e : Expr) (v : Option ℤ) (number : Option (Option ℤ)) → bound ≡ upper'.Value e
    → IsBoundOf table functions e v → number ≡ option_map Some v → IsUpperOf table functions bound number
unfolding upper_read constant_upper
upper-written table functions bound e v number is h kept = record {
  worth = λ names known. kept ∙ ap (option_map Some) (h.value names known) ∙ ap (λ u. constant_upper (upper_read names u)) (sym is);
}

star-read : (names : Bytes → Attribute) → Some None ≡ constant_upper (upper_read names upper'.Star)
unfolding upper_read constant_upper
star-read names = refl

pub upper-star : (table : Constants) (functions : List Bytes) (bound : UpperBound) → bound ≡ upper'.Star → IsUpperOf table functions bound (Some None)
upper-star table functions bound is = record { worth = λ names known. star-read names ∙ ap (λ u. constant_upper (upper_read names u)) (sym is) }

-- BOUNDS OF A DIMENSION
no-lower : (o : Option (Option ℤ)) → bounds_between None o ≡ []
unfolding bounds_between
no-lower None = refl
no-lower (Some upper) = refl

no-upper : (o : Option ℤ) → bounds_between o None ≡ []
unfolding bounds_between
no-upper None = refl
no-upper (Some a) = refl

one-between : (a : ℤ) (b : Option ℤ) → map bounds_of (record { lower = a; upper = b } ∷ []) ≡ bounds_between (Some a) (Some b)
unfolding bounds_between bounds_of
one-between a b = refl

nothing-put : (old : List Bound) (more : List Bounds) → more ≡ [] → map bounds_of old ≡ map bounds_of old ++ more
nothing-put old more is = sym (append-nil (map bounds_of old)) ∙ ap (λ bs. map bounds_of old ++ bs) (sym is)

pub between-not-lower : (old : List Bound) (lower : Option ℤ) (upper : Option (Option ℤ)) → lower ≡ None → map bounds_of old ≡ map bounds_of old ++ bounds_between lower upper
between-not-lower old lower upper is = nothing-put old (bounds_between lower upper) (ap (λ l. bounds_between l upper) is ∙ no-lower upper)

pub between-not-upper : (old : List Bound) (lower : Option ℤ) (upper : Option (Option ℤ)) → upper ≡ None → map bounds_of old ≡ map bounds_of old ++ bounds_between lower upper
between-not-upper old lower upper is = nothing-put old (bounds_between lower upper) (ap (bounds_between lower) is ∙ no-upper lower)

pub between-put : {A E : Type 0} (r : Result A E) (old new : List Bound) (lower : Option ℤ) (upper : Option (Option ℤ)) (a : ℤ) (b : Option ℤ) → lower ≡ Some a → upper ≡ Some b
    → OnOk r (new ≡ old ++ record { lower = a; upper = b } ∷ []) → OnOk r (map bounds_of new ≡ map bounds_of old ++ bounds_between lower upper)
between-put (Ok x) old new lower upper a b low high put =
    ap (map bounds_of) put ∙ map-append bounds_of old (record { lower = a; upper = b } ∷ [])
    ∙ ap (λ bs. map bounds_of old ++ bs) (one-between a b ∙ ap (λ l. bounds_between l (Some b)) (sym low) ∙ ap (bounds_between lower) (sym high))
between-put (Err e) old new lower upper a b low high put = put

one-dimension : (names : Bytes → Attribute) (d : WrittenDimension) →
    constant_bounds (map (dimension_read names) (d ∷ [])) ≡ bounds_between (constant_term (lower_read names d.lower)) (constant_upper (upper_read names d.upper))
unfolding constant_bounds dimension_read
one-dimension names d = append-nil (bounds_between (constant_term (lower_read names d.lower)) (constant_upper (upper_read names d.upper)))

pub bound-added : {A E : Type 0} (r : Result A E) (table : Constants) (functions : List Bytes) (old new : List Bound) (d : WrittenDimension) (a : Option ℤ) (b : Option (Option ℤ))
    → IsLowerOf table functions d.lower a → IsUpperOf table functions d.upper b
    → OnOk r (map bounds_of new ≡ map bounds_of old ++ bounds_between a b) → OnOk r (AddsBounds table functions old new (d ∷ []))
bound-added (Ok x) table functions old new d a b low high put = record {
  added = λ names known.
      put ∙ ap (λ bs. map bounds_of old ++ bs)
      (ap (λ l. bounds_between l b) (low.worth names known) ∙ ap (bounds_between (constant_term (lower_read names d.lower))) (high.worth names known)
      ∙ sym (one-dimension names d));
}
bound-added (Err e) table functions old new d a b low high put = put

-- ONE DIMENSION AFTER THE OTHER
bounds-append : (ds es : List Dimension) → constant_bounds (ds ++ es) ≡ constant_bounds ds ++ constant_bounds es
unfolding constant_bounds
bounds-append [] es = refl
bounds-append (d ∷ ds) es =
    ap (λ bs. bounds_between (constant_term d.lower) (constant_upper d.upper) ++ bs) (bounds-append ds es)
    ∙ sym (append_assoc (bounds_between (constant_term d.lower) (constant_upper d.upper)) (constant_bounds ds) (constant_bounds es))

bounds-both : (table : Constants) (functions : List Bytes) (a b c : List Bound) (ds es : List WrittenDimension)
    → AddsBounds table functions a b ds → AddsBounds table functions b c es → AddsBounds table functions a c (ds ++ es)
bounds-both table functions a b c ds es one other = record {
  added = λ names known.
      other.added names known
      ∙ ap (λ bs. bs ++ constant_bounds (map (dimension_read names) es)) (one.added names known)
      ∙ append_assoc (map bounds_of a) (constant_bounds (map (dimension_read names) ds)) (constant_bounds (map (dimension_read names) es))
      ∙ ap (λ bs. map bounds_of a ++ bs)
      (sym (ap constant_bounds (map-append (dimension_read names) ds es) ∙ bounds-append (map (dimension_read names) ds) (map (dimension_read names) es)));
}

bounds-none : (table : Constants) (functions : List Bytes) (a : List Bound) → AddsBounds table functions a a []
unfolding constant_bounds
bounds-none table functions a = record { added = λ names known. sym (append-nil (map bounds_of a)) }

pub one-taken : {X : Type 0} (xs : List X) (i : ℕ) (x d : X) → i < length xs → x ≡ get_or xs i d → take i xs ++ x ∷ [] ≡ take (i + 1) xs
one-taken xs i x d h is = ap (λ y. take i xs ++ y ∷ []) is ∙ sym (take_more xs i d h)

pub bounds-more : (table : Constants) (functions : List Bytes) (a b c : List Bound) (ds : List WrittenDimension) (i : ℕ) (d e : WrittenDimension) → i < length ds → d ≡ get_or ds i e
    → AddsBounds table functions a b (take i ds) → AddsBounds table functions b c (d ∷ []) → AddsBounds table functions a c (take (i + 1) ds)
bounds-more table functions a b c ds i d e h is one other =
    subst (AddsBounds table functions a c) (one-taken ds i d e h is) (bounds-both table functions a b c (take i ds) (d ∷ []) one other)

pub bounds-start : (table : Constants) (functions : List Bytes) (a : List Bound) → a ≡ [] → AddsBounds table functions [] a []
bounds-start table functions a is = subst (λ b. AddsBounds table functions [] b []) (sym is) (bounds-none table functions [])

pub bounds-end : (table : Constants) (functions : List Bytes) (a b : List Bound) (ds : List WrittenDimension) (i : ℕ) → length ds ≤ i → AddsBounds table functions a b (take i ds)
    → AddsBounds table functions a b ds
bounds-end table functions a b ds i h one = subst (AddsBounds table functions a b) (take_all i ds h) one

-- SIZES
closed-step : (ds : List WrittenDimension) (i : ℕ) (d e : WrittenDimension) → i < length ds → d ≡ get_or ds i e → all_closed (drop i ds) ≡ (not (is_open d) && all_closed (drop (i + 1) ds))
unfolding all_closed
closed-step ds i d e h is =
    ap all_closed (drop-cons ds i e h) ∙ ap (λ (f : WrittenDimension). not (is_open f) && all_closed (drop (suc i) ds)) (sym is)
    ∙ ap (λ n. not (is_open d) && all_closed (drop n ds)) (let next : suc i ≡ i + 1 = omega arith in next)

pub closed-not : (ds : List WrittenDimension) (i : ℕ) (d e : WrittenDimension) (b whole : Bool) → i < length ds → d ≡ get_or ds i e → all_closed (drop i ds) ≡ whole → b ≡ is_open d → b ≡ true → false ≡ whole
closed-not ds i d e b whole h is so_far test there =
    sym (ap (λ c. not c && all_closed (drop (i + 1) ds)) (sym test ∙ there)) ∙ sym (closed-step ds i d e h is) ∙ so_far

pub closed-on : (ds : List WrittenDimension) (i : ℕ) (d e : WrittenDimension) (b whole : Bool) → i < length ds → d ≡ get_or ds i e → all_closed (drop i ds) ≡ whole → b ≡ is_open d → b ≡ false
    → all_closed (drop (i + 1) ds) ≡ whole
closed-on ds i d e b whole h is so_far test there =
    sym (ap (λ c. not c && all_closed (drop (i + 1) ds)) (sym test ∙ there)) ∙ sym (closed-step ds i d e h is) ∙ so_far

closed-none : true ≡ all_closed []
unfolding all_closed
closed-none = refl

pub closed-end : (ds : List WrittenDimension) (i : ℕ) (whole : Bool) → length ds ≤ i → all_closed (drop i ds) ≡ whole → true ≡ whole
closed-end ds i whole h so_far = closed-none ∙ sym (ap all_closed (drop_all i ds h)) ∙ so_far
