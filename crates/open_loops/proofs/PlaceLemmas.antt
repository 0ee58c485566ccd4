-- One statement more in the walk.
use Rattle.std.proofs.Common.{◌≡◌, ℕ, zero, suc, true, is_ok, Result, Ok, Err, OnOk, ◌+◌, ◌⊎◌, List, [], ◌∷◌, ◌++◌, get_or, length, Option, Some, None, slice_get, refl, sym, ap, subst, ◌∙◌, inl, inr, add-one}
use Rattle.std.proofs.lemmas.List.{length-append}
use Rattle.f_tree.specs.declared.statements.Stmt.{Stmt}
use Rattle.f_tree.specs.Nests.{Range}
use Rattle.name_facts.specs.declared.table.NameFacts.{NameFacts}
use Rattle.open_loops.specs.declared.places.LoopPlace.{LoopPlace}
use Rattle.open_loops.specs.declared.walk.Around.{Around}
use Rattle.open_loops.specs.OpenRanges.{open_behind, open_by, ended_among, innermost_first}
use Rattle.open_loops.specs.KeptTemporaries.{IsFreeAmong}
use Rattle.open_loops.specs.PlacesAmong.{AreAround, IsPlaceAdded, IsPlaceAmong, ArePlacesUpTo}
use Rattle.open_loops.proofs.TemporaryLemmas.{among_none}

pub on_ok : {X E : Type 0} (r : Result X E) (P : Type 0) → true ≡ is_ok r → OnOk r P → P
on_ok (Ok x) P is p = p
on_ok (Err e) P is p = absurd (cc)

at_push : {X : Type 0} (xs : List X) (x : X) (i : ℕ) (y : X) → slice_get (xs ++ x ∷ []) i ≡ Some y → (slice_get xs i ≡ Some y) ⊎ ((i ≡ length xs) × (x ≡ y))
at_push [] x zero y is = inr (refl, (let same : x ≡ y = cc in same))
at_push [] x (suc i) y is = absurd (cc)
at_push (z ∷ xs) x zero y is = inl is
at_push (z ∷ xs) x (suc i) y is = further (at_push xs x i y is)
  where
    further : (slice_get xs i ≡ Some y) ⊎ ((i ≡ length xs) × (x ≡ y)) → (slice_get xs i ≡ Some y) ⊎ ((suc i ≡ suc (length xs)) × (x ≡ y))
    further (inl before) = inl before
    further (inr (here, same)) = inr (ap suc here, same)

-- what is added is what the ranges make of the statement
added_is : (table : NameFacts) (ss : List Stmt) (rs : List Range) (i : ℕ) (around : Around) (place : LoopPlace) → AreAround table ss rs around → place.free ≡ around.free
    → place.ended.items ≡ ended_among i (innermost_first around.loops.items) → IsPlaceAmong table ss rs i place
added_is table ss rs i around place stand free_is ended_is = record {
  free = subst (IsFreeAmong table ss rs) (sym free_is) stand.free;
  ended = ended_is ∙ ap (ended_among i) stand.ranges;
}

pub places_more : (table : NameFacts) (ss : List Stmt) (ends : List (Option ℕ)) (n : ℕ) (around : Around) (before after : List LoopPlace) → ArePlacesUpTo table ss ends n before
    → AreAround table ss (open_by ends n) around → IsPlaceAdded around.free (ended_among n (innermost_first around.loops.items)) before after → ArePlacesUpTo table ss ends (n + 1) after
places_more table ss ends n around before after so_far stand now = record {
  count = ap length now.added ∙ length-append before (now.place ∷ []) ∙ ap (λ k. k + 1) so_far.count;
  each = λ i place is. by_place i place (at_push before now.place i place (ap (λ places. slice_get places i) (sym now.added) ∙ is));
}
  where
    here : IsPlaceAmong table ss (open_by ends n) n now.place
    here = added_is table ss (open_by ends n) n around now.place stand now.free_is now.ended_is

    by_place : (i : ℕ) (place : LoopPlace) → (slice_get before i ≡ Some place) ⊎ ((i ≡ length before) × (now.place ≡ place)) → IsPlaceAmong table ss (open_by ends i) i place
    by_place i place (inl earlier) = so_far.each i place earlier
    by_place i place (inr (last, same)) =
        subst (IsPlaceAmong table ss (open_by ends i) i) same
        (subst (λ k. IsPlaceAmong table ss (open_by ends k) k now.place) (sym (last ∙ so_far.count)) here)

pub places_begin : (table : NameFacts) (ss : List Stmt) (ends : List (Option ℕ)) (places : List LoopPlace) → places ≡ [] → ArePlacesUpTo table ss ends 0 places
places_begin table ss ends places none = record {
  count = ap length none;
  each = λ i place is. absurd (let no : None ≡ Some place = ap (λ places. slice_get places i) (sym none) ∙ is in cc no);
}

-- the ranges behind the statement
next_open : (ends : List (Option ℕ)) (i : ℕ) → open_behind i (get_or ends i None) (open_by ends i) ≡ open_by ends (i + 1)
unfolding open_by
next_open ends i = ap (open_by ends) (sym (add-one i))

pub around_more : (table : NameFacts) (ss : List Stmt) (ends : List (Option ℕ)) (i : ℕ) (around : Around) → AreAround table ss (open_behind i (get_or ends i None) (open_by ends i)) around
    → AreAround table ss (open_by ends (i + 1)) around
around_more table ss ends i around stand = subst (λ rs. AreAround table ss rs around) (next_open ends i) stand

pub around_begin : (table : NameFacts) (ss : List Stmt) (ends : List (Option ℕ)) (around : Around) → around.loops.items ≡ [] → around.free ≡ 0 → AreAround table ss (open_by ends 0) around
unfolding open_by
around_begin table ss ends around none free_is = record {
  ranges = ap innermost_first none;
  free = subst (IsFreeAmong table ss []) (sym free_is) (among_none table ss);
}
