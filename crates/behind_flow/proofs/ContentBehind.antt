-- The control lists, the strings, the temporaries and the functions of a text that stands behind others.
use Rattle.std.specs.List.{flat_map}
use Rattle.std.specs.Prelude.{◌≡◌, ℕ, zero, suc, ◌+◌, nat_eq, ℤ, List, [], ◌∷◌, ◌++◌, map, fold, position, Option, Some, None}
use Rattle.std.proofs.Common.{refl, sym, ap, ◌∙◌, arith}
use Rattle.unit_translation.specs.f_tree.Facts.{Facts}
use Rattle.unit_translation.specs.l_core.Steps.{Starts, Step, Halt, Acts, Pass, Text}
use Rattle.unit_translation.specs.c_emit.Calls.{unit_of}
use Rattle.unit_translation.specs.main_file.MainFile.{Listing}
use Rattle.unit_translation.specs.main_file.MainItems.{stops_from}
use Rattle.unit_translation.specs.main_translation.Contents.{listing_by, listings_from, begins_output, takes_item, ends_output, stops_run, computes, functions_of, calls_of, text_at}
use Rattle.unit_translation.specs.UnitContents.{temporaries_kept, procedures_by, with_name, procedures_in}
use Rattle.behind_bounds.specs.BehindBounds.{steps_behind, behind}
use Rattle.behind_flow.specs.BehindFlow.{listing_behind, ContentsBehind, ContentsAreBehind}
use Rattle.behind_flow.proofs.Further.{eq_further, further, map_both, position_same, at_further}

-- ## Control lists

listing_further : (first n at : ℕ) (unit : Option ℤ) → at ≡ first + n → listing_by at unit ≡ map (listing_behind first) (listing_by n unit)
unfolding listing_by listing_behind
listing_further first n at None is = refl
listing_further first n at (Some unit) is = ap (λ k. (let one : Listing = record { step = k; unit = unit } in one) ∷ []) is

lists_further : (first n at : ℕ) (steps : List Step) → at ≡ first + n → listings_from at steps ≡ map (listing_behind first) (listings_from n steps)
unfolding listings_from
lists_further first n at [] is = refl
lists_further first n at (Acts (Starts way layout controls) ps m ∷ later) is =
    (λ i. listing_further first n at (unit_of ps) is i ++ lists_further first (suc n) (suc at) later (omega (arith, is)) i) ∙ sym (map_both (listing_behind first) (listing_by n (unit_of ps)) (listings_from (suc n) later))
lists_further first n at (st ∷ later) is = lists_further first (suc n) (suc at) later (omega (arith, is))

lists_past : (count at n : ℕ) (steps : List Step) → at ≡ n + count → listings_from n (steps_behind count steps) ≡ listings_from at steps
unfolding steps_behind listings_from
lists_past zero at n steps is = ap (λ k. listings_from k steps) (let e : n ≡ at = omega (arith, is) in e)
lists_past (suc count) at n steps is = lists_past count at (suc n) steps (omega (arith, is))

-- ## Strings

stops_further : (first n at : ℕ) (steps : List Step) → at ≡ first + n → stops_from at steps ≡ further first (stops_from n steps)
unfolding stops_from
stops_further first n at [] is = refl
stops_further first n at (Halt text ∷ later) is = λ i. is i ∷ stops_further first (suc n) (suc at) later (omega (arith, is)) i
stops_further first n at (st ∷ later) is = stops_further first (suc n) (suc at) later (omega (arith, is))

stops_past : (count at n : ℕ) (steps : List Step) → at ≡ n + count → stops_from n (steps_behind count steps) ≡ stops_from at steps
unfolding steps_behind stops_from
stops_past zero at n steps is = ap (λ k. stops_from k steps) (let e : n ≡ at = omega (arith, is) in e)
stops_past (suc count) at n steps is = stops_past count at (suc n) steps (omega (arith, is))

-- ## Temporaries and functions

temporaries_past : (first : ℕ) (steps : List Step) → temporaries_kept (steps_behind first steps) ≡ temporaries_kept steps
unfolding steps_behind temporaries_kept
temporaries_past zero steps = refl
temporaries_past (suc first) steps = temporaries_past first steps

pass_calls : (steps : List Step) → calls_of (Pass ∷ steps) ≡ calls_of steps
unfolding calls_of functions_of begins_output takes_item ends_output stops_run computes
pass_calls steps = refl

calls_past : (first : ℕ) (steps : List Step) → calls_of (steps_behind first steps) ≡ calls_of steps
unfolding steps_behind
calls_past zero steps = refl
calls_past (suc first) steps = pass_calls (steps_behind first steps) ∙ calls_past first steps

procedures_past : (c : Facts) (first : ℕ) (steps : List Step) → flat_map (procedures_by c) (steps_behind first steps) ≡ flat_map (procedures_by c) steps
unfolding steps_behind procedures_by
procedures_past c zero steps = refl
procedures_past c (suc first) steps = procedures_past c first steps

module _ (first : ℕ) (u : Text) where
  abbrev b : Text
  b = behind first u

  lists_same : listings_from 0 b.steps ≡ map (listing_behind first) (listings_from 0 u.steps)
  lists_same = lists_past first first 0 u.steps (omega arith) ∙ lists_further first 0 first u.steps (omega arith)

  strings_same : stops_from 0 b.steps ≡ further first (stops_from 0 u.steps)
  strings_same = stops_past first first 0 u.steps (omega arith) ∙ stops_further first 0 first u.steps (omega arith)

  list_place : (n : ℕ) → position (λ (l : Listing). nat_eq (first + n) l.step) (listings_from 0 b.steps) ≡ position (λ (l : Listing). nat_eq n l.step) (listings_from 0 u.steps)
  unfolding listing_behind
  list_place n =
      ap (position (λ (l : Listing). nat_eq (first + n) l.step)) lists_same
      ∙ position_same (listing_behind first) (λ (l : Listing). nat_eq n l.step) (λ (l : Listing). nat_eq (first + n) l.step) (λ l. eq_further first n l.step) (listings_from 0 u.steps)

  string_place : (n : ℕ) → position (nat_eq (first + n)) (stops_from 0 b.steps) ≡ position (nat_eq n) (stops_from 0 u.steps)
  string_place n = ap (position (nat_eq (first + n))) strings_same ∙ position_same (λ k. first + k) (nat_eq n) (nat_eq (first + n)) (λ k. eq_further first n k) (stops_from 0 u.steps)

  procedures_same : procedures_in b ≡ procedures_in u
  unfolding procedures_in
  procedures_same = ap (fold with_name []) (procedures_past u.facts first u.steps)

  contents : ContentsBehind first u
  contents = record {
    lists = lists_same;
    list_places = list_place;
    strings = strings_same;
    string_places = string_place;
    texts = λ n. ap text_at (at_further first u.steps n (first + n) refl);
    temporaries = temporaries_past first u.steps;
    calls = calls_past first u.steps;
    procedures = procedures_same;
  }

pub contents_behind : ContentsAreBehind
contents_behind first u = contents first u
