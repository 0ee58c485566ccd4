-- The first of the rows of units and of files, while they are gone over.
use Rattle.std.proofs.Common.{◌≡◌, ℕ, suc, ◌+◌, ◌<◌, ◌≤◌, List, [], ◌∷◌, ◌++◌, drop, drop-cons, get_or, length, Option, Some, None, refl, sym, ap, ◌∙◌, arith}
use Rattle.std.proofs.lemmas.List.{drop_all}
use Rattle.f_tree.specs.declared.names.Options.{Options}
use Rattle.f_tree.specs.declared.refusals.Refusal.{Refusal}
use Rattle.f_tree.specs.declared.units.Unit.{Unit as WrittenUnit}
use Rattle.f_tree.specs.declared.units.File.{File}
use Rattle.name_facts.specs.declaration_rows.SetRows.{all_unit_rows, units_rows, files_rows}
use Rattle.name_facts.specs.declaration_rows.Verdicts.{first_of}
use Rattle.refusal_order.specs.Earliest.{earliest}
use Rattle.refusal_order.proofs.FirstOfBoth.{earliest_along, earliest_none, first_of_both}

pub first_begin : (o : Option Refusal) → o ≡ earliest None o
unfolding earliest
first_begin o = refl

nothing_first : first_of [] ≡ None
unfolding first_of
nothing_first = refl

-- a walk over some things with rows each
module _ {X : Type 0} (rest : List X → List Refusal) (out : X → List Refusal) where
  rest_is : (xs : List X) (i : ℕ) (x d : X) → i < length xs → x ≡ get_or xs i d → drop i xs ≡ x ∷ drop (i + 1) xs
  rest_is xs i x d h is = drop-cons xs i d h ∙ ap (λ y. y ∷ drop (suc i) xs) (sym is) ∙ ap (λ n. x ∷ drop n xs) (let e : suc i ≡ i + 1 = omega arith in e)

  walk_more : ((x : X) (xs : List X) → rest (x ∷ xs) ≡ out x ++ rest xs) → (xs : List X) (i : ℕ) (x d : X) (first found after whole : Option Refusal)
      → i < length xs → x ≡ get_or xs i d → whole ≡ earliest first (first_of (rest (drop i xs))) → found ≡ first_of (out x) → after ≡ earliest first found
      → whole ≡ earliest after (first_of (rest (drop (i + 1) xs)))
  walk_more step xs i x d first found after whole h is so_far known put =
      let behind : List Refusal = rest (drop (i + 1) xs) in
      so_far ∙ ap (λ ys. earliest first (first_of (rest ys))) (rest_is xs i x d h is)
      ∙ ap (earliest first) (ap first_of (step x (drop (i + 1) xs)) ∙ first_of_both (out x) behind ∙ ap (λ o. earliest o (first_of behind)) (sym known))
      ∙ sym (earliest_along first found (first_of behind)) ∙ ap (λ o. earliest o (first_of behind)) (sym put)

  walk_end : rest [] ≡ [] → (xs : List X) (i : ℕ) (first whole : Option Refusal) → length xs ≤ i → whole ≡ earliest first (first_of (rest (drop i xs))) → first ≡ whole
  walk_end none xs i first whole h so_far =
      sym (so_far ∙ ap (earliest first) (ap (λ ys. first_of (rest ys)) (drop_all i xs h) ∙ ap first_of none ∙ nothing_first) ∙ earliest_none first)

-- units
units_step : (options : Options) (u : WrittenUnit) (us : List WrittenUnit) → units_rows options (u ∷ us) ≡ all_unit_rows options u ++ units_rows options us
unfolding units_rows
units_step options u us = refl

units_none : (options : Options) → units_rows options [] ≡ []
unfolding units_rows
units_none options = refl

pub units_more : (options : Options) (us : List WrittenUnit) (i : ℕ) (u d : WrittenUnit) (first found after whole : Option Refusal) → i < length us → u ≡ get_or us i d
    → whole ≡ earliest first (first_of (units_rows options (drop i us))) → found ≡ first_of (all_unit_rows options u) → after ≡ earliest first found
    → whole ≡ earliest after (first_of (units_rows options (drop (i + 1) us)))
units_more options = walk_more (units_rows options) (all_unit_rows options) (units_step options)

pub units_end : (options : Options) (us : List WrittenUnit) (i : ℕ) (first whole : Option Refusal) → length us ≤ i
    → whole ≡ earliest first (first_of (units_rows options (drop i us))) → first ≡ whole
units_end options = walk_end (units_rows options) (all_unit_rows options) (units_none options)

-- files
abbrev pub file_rows : Options → File → List Refusal
file_rows options f = units_rows options f.units

files_step : (options : Options) (f : File) (fs : List File) → files_rows options (f ∷ fs) ≡ file_rows options f ++ files_rows options fs
unfolding files_rows
files_step options f fs = refl

files_none : (options : Options) → files_rows options [] ≡ []
unfolding files_rows
files_none options = refl

pub files_more : (options : Options) (fs : List File) (i : ℕ) (f d : File) (first found after whole : Option Refusal) → i < length fs → f ≡ get_or fs i d
    → whole ≡ earliest first (first_of (files_rows options (drop i fs))) → found ≡ first_of (file_rows options f) → after ≡ earliest first found
    → whole ≡ earliest after (first_of (files_rows options (drop (i + 1) fs)))
files_more options = walk_more (files_rows options) (file_rows options) (files_step options)

pub files_end : (options : Options) (fs : List File) (i : ℕ) (first whole : Option Refusal) → length fs ≤ i
    → whole ≡ earliest first (first_of (files_rows options (drop i fs))) → first ≡ whole
files_end options = walk_end (files_rows options) (file_rows options) (files_none options)
