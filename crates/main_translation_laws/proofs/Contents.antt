-- What the inventory of a text has: constants told apart, a list for each output, and names of the library.
use Rattle.std.specs.List.{list_any, list_all}
use Rattle.std.specs.BTreeSet.{insert_key}
use Rattle.std.specs.Ordering.{int_cmp, match_ordering, ordering_reverse}
use Rattle.std.specs.Prelude.{◌≡◌, ◌≢◌, ℕ, zero, suc, ◌+◌, ◌<◌, ◌≤◌, ◌^◌, nat_eq, nat_le, ℤ, pos, negsuc, nat_abs, Bool, true, false, ◌&&◌, ◌||◌, List, [], ◌∷◌, ◌++◌, map, filter, cond, fold, length, position, Option, Some, None, option_map, option_and_then, slice_get, codes, if◌then◌else◌}
use Rattle.std.proofs.Common.{refl, sym, ap, ◌∙◌, subst, arith, Ordering, Less, Equal, Greater}
use Rattle.std.proofs.lemmas.Bool.{eq-eqb, ne_eqb, leb-true}
use Rattle.std.proofs.lemmas.Cmp.{int_cmp_total}
use Rattle.main_programs.specs.f_tree.declared.names.Basic.{Basic}
use Rattle.main_programs.specs.f_tree.declared.names.Basic.TheVariants.{Integer, Logical, Character, Untyped}
use Rattle.main_programs.specs.f_tree.Values.{Datum, IsInt, IsLog, IsText, IsSpot, IsProc, IsLabel, Nothing, in_range}
use Rattle.main_programs.specs.f_tree.Terms as fortran
use Rattle.main_programs.specs.f_tree.Terms.{Function}
use Rattle.main_programs.specs.f_tree.Facts.{Direction, Layout, Controls}
use Rattle.main_programs.specs.f_tree.Setting.{IsIn, first_in, later_in}
use Rattle.main_programs.specs.f_tree.CNames.{has_underscore}
use Rattle.main_programs.specs.l_core.Pures.{Pure, Constant, Pures, NoPure, AndPure}
use Rattle.main_programs.specs.l_core.Steps.{Starts, Takes, Step, Compute, Acts, Text}
use Rattle.main_programs.specs.c_emit.LibraryFunctions.{LibraryFunction, pow_ii, i_sign, i_dim, i_or, i_and, i_eor, i_not, i_shft, b_test, b_set, b_clr, library_functions, library_function}
use Rattle.main_programs.specs.c_emit.Calls.{unit_of, kind_number}
use Rattle.main_programs.proofs.c_laws.TokenSpellings.{and-first, and-second}
use Rattle.main_programs.proofs.linking_laws.Places.{some_same, same_bytes, position_step, taken, skipped}
use Rattle.main_programs.specs.main_file.MainFile.{Listing, Called}
use Rattle.main_programs.specs.main_translation.Contents.{with_new, own_value, own_values, item_type, kind_value, passed_by, passed_from, constants_of, listing_by, listings_from, if_called, start_output, output_item, end_output, stop_run, is_function, computes, function_called, functions_of, calls_of, begins_output, takes_item, ends_output, stops_run}
use Rattle.main_translation_laws.proofs.Lists.{AreApart, none_apart, one_apart, InEither, in_one, in_other, in_either, in_mapped, IsPart, left_out, taken_too, in_part, part_map, filter_part}
use Rattle.main_translation_laws.proofs.Names.{IsCalledName, begins, looks_called, called_name}

-- ## Constants

only_one : (z y : ℤ) → IsIn y (z ∷ []) → y ≡ z
only_one z _ first_in = refl
only_one z y (later_in o) = elim o [ ]

-- each value is above
abbrev pub AreAbove : ℤ → List ℤ → Type 0
AreAbove x ys = (y : ℤ) → IsIn y ys → int_cmp x y ≡ Less

pub data AreAscending : List ℤ → Type 0 where
  none_ascending : AreAscending []
  one_ascending : {z : ℤ} {zs : List ℤ} → AreAbove z zs → AreAscending zs → AreAscending (z ∷ zs)

data IsOldOrNew (zs : List ℤ) (z y : ℤ) : Type 0 where
  is_old : IsIn y zs → IsOldOrNew zs z y
  is_new : y ≡ z → IsOldOrNew zs z y

old_behind : (x : ℤ) (xs : List ℤ) (z y : ℤ) → IsOldOrNew xs z y → IsOldOrNew (x ∷ xs) z y
old_behind x xs z y (is_old o) = is_old (later_in o)
old_behind x xs z y (is_new same) = is_new same

placed : (x : ℤ) (xs more : List ℤ) (z y : ℤ) (r : Ordering) → (IsIn y more → IsOldOrNew xs z y) → IsIn y (match_ordering r (z ∷ x ∷ xs) (x ∷ xs) (x ∷ more)) → IsOldOrNew (x ∷ xs) z y
placed x xs more z _ Less rest first_in = is_new refl
placed x xs more z y Less rest (later_in o) = is_old o
placed x xs more z y Equal rest o = is_old o
placed x xs more z _ Greater rest first_in = is_old first_in
placed x xs more z y Greater rest (later_in o) = old_behind x xs z y (rest o)

in_inserted : (zs : List ℤ) (z y : ℤ) → IsIn y (insert_key int_cmp zs z) → IsOldOrNew zs z y
in_inserted [] z y o = is_new (only_one z y o)
in_inserted (x ∷ xs) z y o = placed x xs (insert_key int_cmp xs z) z y (int_cmp z x) (in_inserted xs z y) o

old_or_new : (zs : List ℤ) (z y : ℤ) → IsIn y (with_new zs z) → IsOldOrNew zs z y
unfolding with_new
old_or_new zs z y o = in_inserted zs z y o

-- what is above the least is above the value before it
over_first : (z x : ℤ) (xs : List ℤ) → int_cmp z x ≡ Less → AreAbove x xs → AreAbove z (x ∷ xs)
over_first z x xs less above _ first_in = less
over_first z x xs less above y (later_in o) = int_cmp_total.trans z x y less (above y o)

turned : (z x : ℤ) → int_cmp z x ≡ Greater → int_cmp x z ≡ Less
turned z x greater = int_cmp_total.antisymm x z ∙ ap ordering_reverse greater

over_new : (x z y : ℤ) (xs : List ℤ) → int_cmp z x ≡ Greater → AreAbove x xs → IsOldOrNew xs z y → int_cmp x y ≡ Less
over_new x z y xs greater above (is_old o) = above y o
over_new x z y xs greater above (is_new same) = ap (int_cmp x) same ∙ turned z x greater

inserted_ascends : (zs : List ℤ) (z : ℤ) → AreAscending zs → AreAscending (insert_key int_cmp zs z)
inserted_ascends [] z none_ascending = one_ascending (λ y o. elim o [ ]) none_ascending
inserted_ascends (x ∷ xs) z (one_ascending above rest) = by (int_cmp z x) refl (inserted_ascends xs z rest) (in_inserted xs z)
  where
    by : (r : Ordering) → int_cmp z x ≡ r → AreAscending (insert_key int_cmp xs z) → ((y : ℤ) → IsIn y (insert_key int_cmp xs z) → IsOldOrNew xs z y)
        → AreAscending (match_ordering r (z ∷ x ∷ xs) (x ∷ xs) (x ∷ insert_key int_cmp xs z))
    by Less h more old = one_ascending (over_first z x xs h above) (one_ascending above rest)
    by Equal h more old = one_ascending above rest
    by Greater h more old = one_ascending (λ y o. over_new x z y xs h above (old y o)) more

with_new_ascends : (zs : List ℤ) (z : ℤ) → AreAscending zs → AreAscending (with_new zs z)
unfolding with_new
with_new_ascends zs z ascending = inserted_ascends zs z ascending

pub fold_ascends : (more zs : List ℤ) → AreAscending zs → AreAscending (fold with_new zs more)
fold_ascends [] zs ascending = ascending
fold_ascends (z ∷ more) zs ascending = fold_ascends more (with_new zs z) (with_new_ascends zs z ascending)

-- a value is not below itself
not_below : (x y : ℤ) → int_cmp x y ≡ Less → x ≢ y
not_below x y less same =
    let itself : int_cmp x x ≡ Less = ap (int_cmp x) same ∙ less in
    let back : Less ≡ Greater = sym itself ∙ (int_cmp_total.antisymm x x ∙ ap ordering_reverse itself) in absurd (cc)

pub ascending_apart : (zs : List ℤ) → AreAscending zs → AreApart zs
ascending_apart [] none_ascending = none_apart
ascending_apart (z ∷ zs) (one_ascending above rest) = one_apart (λ y o. not_below z y (above y o)) (ascending_apart zs rest)

pub constants_apart : (u : Text) → AreApart (constants_of u)
unfolding constants_of
constants_apart u = ascending_apart (constants_of u) (fold_ascends (passed_from u 0 u.steps) [] none_ascending)

abbrev pub AllFit : List ℤ → Type 0
AllFit zs = (z : ℤ) → IsIn z zs → in_range z ≡ true

fit_new : (zs : List ℤ) (z : ℤ) → in_range z ≡ true → AllFit zs → AllFit (with_new zs z)
fit_new zs z fits all y o = by (old_or_new zs z y o)
  where
    by : IsOldOrNew zs z y → in_range y ≡ true
    by (is_old p) = all y p
    by (is_new same) = ap in_range same ∙ fits

pub fold_fit : (more zs : List ℤ) → AllFit more → AllFit zs → AllFit (fold with_new zs more)
fold_fit [] zs fit all = all
fold_fit (z ∷ more) zs fit all = fold_fit more (with_new zs z) (λ y o. fit y (later_in o)) (fit_new zs z (fit z first_in) all)

pub fit_both : (xs ys : List ℤ) → AllFit xs → AllFit ys → AllFit (xs ++ ys)
fit_both xs ys one other z o = by (in_either z xs ys o)
  where
    by : InEither z xs ys → in_range z ≡ true
    by (in_one p) = one z p
    by (in_other q) = other z q

pub fit_none : AllFit []
fit_none z o = elim o [ ]

pub fit_one : (y : ℤ) → in_range y ≡ true → AllFit (y ∷ [])
fit_one y fits z o = ap in_range (only_one y z o) ∙ fits

eight : in_range (pos 8) ≡ true
unfolding in_range
eight = refl

three : in_range (pos 3) ≡ true
unfolding in_range
three = refl

pub one : in_range (pos 1) ≡ true
unfolding in_range
one = refl

nought : in_range (pos 0) ≡ true
unfolding in_range
nought = refl

pub kind_fits : (basic : Option Basic) → AllFit (kind_value (option_and_then kind_number basic))
unfolding kind_value kind_number
kind_fits None = fit_none
kind_fits (Some Integer) = fit_one (pos 3) three
kind_fits (Some Logical) = fit_one (pos 8) eight
kind_fits (Some Character) = fit_none
kind_fits (Some Untyped) = fit_none

if_fits : (z : ℤ) (b : Bool) → in_range z ≡ b → AllFit (if b then z ∷ [] else [])
if_fits z true h = fit_one z h
if_fits z false h = fit_none

constant_fits : (d : Datum) → AllFit (own_value (Constant d))
unfolding own_value
constant_fits (IsInt z) = if_fits z (in_range z) refl
constant_fits (IsLog true) = fit_one (pos 1) one
constant_fits (IsLog false) = fit_one (pos 0) nought
constant_fits (IsText cs) = fit_none
constant_fits (IsSpot p) = fit_none
constant_fits (IsProc x) = fit_none
constant_fits (IsLabel l) = fit_none
constant_fits Nothing = fit_none

pub own_fits : (p : Pure) → AllFit (own_value p)
own_fits (Constant d) = constant_fits d
own_fits p = let none : own_value p ≡ [] = (unfold own_value in refl) in subst AllFit (sym none) fit_none

pub owns_fit : (ps : Pures) → AllFit (own_values ps)
unfolding own_values
owns_fit NoPure = fit_none
owns_fit (AndPure p ps) = fit_both (own_value p) (own_values ps) (own_fits p) (owns_fit ps)

passed_fits : (u : Text) (n : ℕ) (st : Step) → AllFit (passed_by u n st)
unfolding passed_by
passed_fits u n (Acts Takes (AndPure p NoPure) m) = fit_both (kind_value (option_and_then kind_number (item_type u n p))) (pos 1 ∷ own_value p) (kind_fits (item_type u n p)) (fit_both (pos 1 ∷ []) (own_value p) (fit_one (pos 1) one) (own_fits p))
passed_fits u n (Compute k f ps) = owns_fit ps
passed_fits u n st = fit_none

all_fit : (u : Text) (n : ℕ) (steps : List Step) → AllFit (passed_from u n steps)
unfolding passed_from
all_fit u n [] = fit_none
all_fit u n (st ∷ later) = fit_both (passed_by u n st) (passed_from u (suc n) later) (passed_fits u n st) (all_fit u (suc n) later)

pub constants_fit : (u : Text) (z : ℤ) → IsIn z (constants_of u) → in_range z ≡ true
unfolding constants_of
constants_fit u = fold_fit (passed_from u 0 u.steps) [] (all_fit u 0 u.steps) fit_none

-- a number of 32 bits is small
pub small_magnitude : (z : ℤ) → in_range z ≡ true → nat_abs z < 2 ^ 64
unfolding in_range
small_magnitude (pos n) holds = let at_most = leb-true n 2147483647 holds in omega (arith, at_most)
small_magnitude (negsuc n) holds = by (nat_le n 2147483647) refl holds
  where
    by : (b : Bool) → nat_le n 2147483647 ≡ b → (b && true) ≡ true → suc n < 2 ^ 64
    by true is h = let at_most = leb-true n 2147483647 is in omega (arith, at_most)
    by false is h = absurd (cc)

-- ## Control lists

pub listings_count : (n : ℕ) (steps : List Step) → length (listings_from n steps) ≤ length steps
unfolding listings_from listing_by
listings_count n [] = omega arith
listings_count n (Acts (Starts way layout controls) ps m ∷ later) = by (unit_of ps) (listings_count (suc n) later)
  where
    by : (unit : Option ℤ) → length (listings_from (suc n) later) ≤ length later → length (listing_by n unit ++ listings_from (suc n) later) ≤ suc (length later)
    by None rest = omega (arith, rest)
    by (Some unit) rest = omega (arith, rest)
listings_count n (st ∷ later) = let rest = listings_count (suc n) later in omega (arith, rest)

-- the list of an output by its step
pub record IsListing (lists : List Listing) (n : ℕ) (unit : ℤ) : Type 0 where
  pub index : ℕ
  pub listing : Listing
  pub place : position (λ (l : Listing). nat_eq n l.step) lists ≡ Some index
  pub at : slice_get lists index ≡ Some listing
  pub is : listing.unit ≡ unit

behind_other : (lists : List Listing) (n m : ℕ) (unit other : ℤ) → (n ≡ m → ⊥) → IsListing lists n unit → IsListing (record { step = m; unit = other } ∷ lists) n unit
behind_other lists n m unit other differ found = record {
  index = suc found.index;
  listing = found.listing;
  place = position_step (λ (l : Listing). nat_eq n l.step) (record { step = m; unit = other }) lists
      ∙ skipped (nat_eq n m) (Some 0) (option_map suc (position (λ (l : Listing). nat_eq n l.step) lists)) (ne_eqb n m differ)
      ∙ ap (option_map suc) found.place;
  at = found.at;
  is = found.is;
}

at_first : (lists : List Listing) (n m : ℕ) (unit : ℤ) → n ≡ m → IsListing (record { step = m; unit = unit } ∷ lists) n unit
at_first lists n m unit same = record {
  index = 0;
  listing = record { step = m; unit = unit };
  place = position_step (λ (l : Listing). nat_eq n l.step) (record { step = m; unit = unit }) lists
      ∙ taken (nat_eq n m) (Some 0) (option_map suc (position (λ (l : Listing). nat_eq n l.step) lists)) (eq-eqb n m same);
  at = refl;
  is = refl;
}

past_listing : (lists : List Listing) (n m : ℕ) (unit : ℤ) (found : Option ℤ) → (n ≡ m → ⊥) → IsListing lists n unit → IsListing (listing_by m found ++ lists) n unit
unfolding listing_by
past_listing lists n m unit None differ is = is
past_listing lists n m unit (Some other) differ is = behind_other lists n m unit other differ is

own_listing : (lists : List Listing) (n m : ℕ) (unit : ℤ) (found : Option ℤ) → n ≡ m → found ≡ Some unit → IsListing (listing_by m found ++ lists) n unit
unfolding listing_by
own_listing lists n m unit None same is = absurd (cc)
own_listing lists n m unit (Some other) same is = subst (IsListing (record { step = m; unit = other } ∷ lists) n) (some_same other unit is) (at_first lists n m other same)

pub listed_at : (first : ℕ) (steps : List Step) (i n : ℕ) (way : Direction) (layout : Layout) (controls : Controls) (ps : Pures) (m : ℕ) (unit : ℤ) → n ≡ first + i
    → slice_get steps i ≡ Some (Acts (Starts way layout controls) ps m) → unit_of ps ≡ Some unit → IsListing (listings_from first steps) n unit
unfolding listings_from
listed_at first [] i n way layout controls ps m unit at stands is = absurd (cc)
listed_at first (st ∷ later) zero n way layout controls ps m unit at stands is =
    subst (λ s. IsListing (listings_from first (s ∷ later)) n unit) (sym (some_same st (Acts (Starts way layout controls) ps m) stands))
    (own_listing (listings_from (suc first) later) n first unit (unit_of ps) (let same : n ≡ first = omega (arith, at) in same) is)
listed_at first (Acts (Starts way' layout' controls') ps' m' ∷ later) (suc i) n way layout controls ps m unit at stands is =
    past_listing (listings_from (suc first) later) n first unit (unit_of ps') (λ same. let no : ⊥ = omega (arith, at, same) in no) (listed_at (suc first) later i n way layout controls ps m unit (omega (arith, at)) stands is)
listed_at first (st ∷ later) (suc i) n way layout controls ps m unit at stands is = listed_at (suc first) later i n way layout controls ps m unit (omega (arith, at)) stands is

-- ## Functions of the library

-- all of them
abbrev pub all_calls : List Called
all_calls = start_output ∷ output_item ∷ end_output ∷ stop_run ∷ map function_called library_functions

if_part : (b : Bool) (function : Called) (some all : List Called) → IsPart some all → IsPart (if_called b function ++ some) (function ∷ all)
unfolding if_called
if_part true function some all part = taken_too function part
if_part false function some all part = left_out function part

pub calls_part : (steps : List Step) → IsPart (calls_of steps) all_calls
unfolding calls_of functions_of
calls_part steps =
    if_part (list_any begins_output steps) start_output _ _ (if_part (list_any takes_item steps) output_item _ _ (if_part (list_any ends_output steps) end_output _ _ (if_part (list_any stops_run steps) stop_run _ _
    (part_map function_called (filter (λ one. list_any (computes one) steps) library_functions) library_functions (filter_part (λ one. list_any (computes one) steps) library_functions)))))

look_called : list_all (λ (call : Called). looks_called call.name) all_calls ≡ true
unfolding looks_called begins has_underscore function_called
look_called = refl

pub each_of : {A : Type 0} (test : A → Bool) (xs : List A) (x : A) → list_all test xs ≡ true → IsIn x xs → test x ≡ true
each_of test [] x h o = elim o [ ]
each_of test (_ ∷ xs) x h first_in = and-first (test x) (list_all test xs) h
each_of test (y ∷ xs) x h (later_in o) = each_of test xs x (and-second (test y) (list_all test xs) h) o

pub calls_named : (steps : List Step) (call : Called) → IsIn call (calls_of steps) → IsCalledName call.name
calls_named steps call o = called_name call.name (each_of (λ (one : Called). looks_called one.name) all_calls call look_called (in_part call (calls_of steps) all_calls (calls_part steps) o))

-- a step of a kind calls its function
called_there : (test : Step → Bool) (steps : List Step) (i : ℕ) (st : Step) → slice_get steps i ≡ Some st → test st ≡ true → list_any test steps ≡ true
called_there test [] i st at is = absurd (cc)
called_there test (first ∷ later) zero st at is = ap (λ b. b || list_any test later) (ap test (some_same first st at) ∙ is)
called_there test (first ∷ later) (suc i) st at is = or_true (test first) (list_any test later) (called_there test later i st at is)
  where
    or_true : (a b : Bool) → b ≡ true → (a || b) ≡ true
    or_true true b h = refl
    or_true false b h = h

pub record IsAmong (name : List ℕ) (calls : List Called) : Type 0 where
  pub index : ℕ
  pub at : slice_get (map (λ (call : Called). call.name) calls) index ≡ Some name

among_later : (name : List ℕ) (more calls : List Called) → IsAmong name calls → IsAmong name (more ++ calls)
among_later name [] calls is = is
among_later name (call ∷ more) calls is = let rest = among_later name more calls is in record { index = suc rest.index; at = rest.at }

among_first : (b : Bool) (function : Called) (calls : List Called) → b ≡ true → IsAmong function.name (if_called b function ++ calls)
unfolding if_called
among_first true function calls is = record { index = 0; at = refl }
among_first false function calls is = absurd (cc)

pub starts_called : (steps : List Step) (i : ℕ) (st : Step) → slice_get steps i ≡ Some st → begins_output st ≡ true → IsAmong (codes "s_wsle") (calls_of steps)
unfolding calls_of
starts_called steps i st at is = among_first (list_any begins_output steps) start_output _ (called_there begins_output steps i st at is)

pub item_called : (steps : List Step) (i : ℕ) (st : Step) → slice_get steps i ≡ Some st → takes_item st ≡ true → IsAmong (codes "do_lio") (calls_of steps)
unfolding calls_of
item_called steps i st at is = among_later (codes "do_lio") (if_called (list_any begins_output steps) start_output) _ (among_first (list_any takes_item steps) output_item _ (called_there takes_item steps i st at is))

pub ends_called : (steps : List Step) (i : ℕ) (st : Step) → slice_get steps i ≡ Some st → ends_output st ≡ true → IsAmong (codes "e_wsle") (calls_of steps)
unfolding calls_of
ends_called steps i st at is =
    among_later (codes "e_wsle") (if_called (list_any begins_output steps) start_output) _
    (among_later (codes "e_wsle") (if_called (list_any takes_item steps) output_item) _ (among_first (list_any ends_output steps) end_output _ (called_there ends_output steps i st at is)))

pub stop_called : (steps : List Step) (i : ℕ) (st : Step) → slice_get steps i ≡ Some st → stops_run st ≡ true → IsAmong (codes "s_stop") (calls_of steps)
unfolding calls_of
stop_called steps i st at is =
    among_later (codes "s_stop") (if_called (list_any begins_output steps) start_output) _
    (among_later (codes "s_stop") (if_called (list_any takes_item steps) output_item) _
    (among_later (codes "s_stop") (if_called (list_any ends_output steps) end_output) _ (among_first (list_any stops_run steps) stop_run (functions_of steps) (called_there stops_run steps i st at is))))

-- ### Functions of numbers

-- the one for a function of FORTRAN is one of all
is_one_of_all : (f : Function) (one : LibraryFunction) → library_function f ≡ Some one → IsIn one library_functions
unfolding library_function
is_one_of_all fortran.Power one is = subst (λ o. IsIn o library_functions) (some_same pow_ii one is) first_in
is_one_of_all fortran.SignTransfer one is = subst (λ o. IsIn o library_functions) (some_same i_sign one is) (later_in first_in)
is_one_of_all fortran.PositiveDifference one is = subst (λ o. IsIn o library_functions) (some_same i_dim one is) (later_in (later_in first_in))
is_one_of_all fortran.InclusiveOr one is = subst (λ o. IsIn o library_functions) (some_same i_or one is) (later_in (later_in (later_in first_in)))
is_one_of_all fortran.LogicalProduct one is = subst (λ o. IsIn o library_functions) (some_same i_and one is) (later_in (later_in (later_in (later_in first_in))))
is_one_of_all fortran.ExclusiveOr one is = subst (λ o. IsIn o library_functions) (some_same i_eor one is) (later_in (later_in (later_in (later_in (later_in first_in)))))
is_one_of_all fortran.BitComplement one is = subst (λ o. IsIn o library_functions) (some_same i_not one is) (later_in (later_in (later_in (later_in (later_in (later_in first_in))))))
is_one_of_all fortran.BitShift one is = subst (λ o. IsIn o library_functions) (some_same i_shft one is) (later_in (later_in (later_in (later_in (later_in (later_in (later_in first_in)))))))
is_one_of_all fortran.BitTest one is = subst (λ o. IsIn o library_functions) (some_same b_test one is) (later_in (later_in (later_in (later_in (later_in (later_in (later_in (later_in first_in))))))))
is_one_of_all fortran.BitSet one is = subst (λ o. IsIn o library_functions) (some_same b_set one is) (later_in (later_in (later_in (later_in (later_in (later_in (later_in (later_in (later_in first_in)))))))))
is_one_of_all fortran.BitClear one is = subst (λ o. IsIn o library_functions) (some_same b_clr one is) (later_in (later_in (later_in (later_in (later_in (later_in (later_in (later_in (later_in (later_in first_in))))))))))
is_one_of_all f one is = absurd (cc)

among_rest : {A : Type 0} (b : Bool) (x y : A) (some : List A) → IsIn x some → IsIn x (cond b (y ∷ some) some)
among_rest true x y some o = later_in o
among_rest false x y some o = o

kept_by_filter : {A : Type 0} (test : A → Bool) (x : A) (xs : List A) → test x ≡ true → IsIn x xs → IsIn x (filter test xs)
kept_by_filter test x [] passes o = elim o [ ]
kept_by_filter test x (_ ∷ xs) passes first_in = subst (λ b. IsIn x (cond b (x ∷ filter test xs) (filter test xs))) (sym passes) first_in
kept_by_filter test x (y ∷ xs) passes (later_in o) = among_rest (test y) x y (filter test xs) (kept_by_filter test x xs passes o)

among_in : (call : Called) (calls : List Called) → IsIn call calls → IsAmong call.name calls
among_in call _ first_in = record { index = 0; at = refl }
among_in call _ (later_in o) = let rest = among_in call _ o in record { index = suc rest.index; at = rest.at }

computes_it : (one : LibraryFunction) (k : ℕ) (f : Function) (ps : Pures) → library_function f ≡ Some one → computes one (Compute k f ps) ≡ true
unfolding computes is_function
computes_it one k f ps is = ap (is_function one) is ∙ same_bytes one.name one.name refl

pub function_is_called : (steps : List Step) (i k : ℕ) (f : Function) (ps : Pures) (one : LibraryFunction) → slice_get steps i ≡ Some (Compute k f ps) → library_function f ≡ Some one → IsAmong one.name (calls_of steps)
unfolding calls_of functions_of function_called
function_is_called steps i k f ps one at is =
    let there = called_there (computes one) steps i (Compute k f ps) at (computes_it one k f ps is) in
    let kept = kept_by_filter (λ o. list_any (computes o) steps) one library_functions there (is_one_of_all f one is) in
    among_later one.name (if_called (list_any begins_output steps) start_output) _
    (among_later one.name (if_called (list_any takes_item steps) output_item) _
    (among_later one.name (if_called (list_any ends_output steps) end_output) _
    (among_later one.name (if_called (list_any stops_run steps) stop_run) _
    (among_in (function_called one) (functions_of steps) (in_mapped function_called one (filter (λ o. list_any (computes o) steps) library_functions) kept)))))
