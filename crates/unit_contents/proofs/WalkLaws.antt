-- One step more of a plain walk over the steps of a text.
use Rattle.std.specs.Prelude.{◌≡◌, ℕ, suc, ◌+◌, ◌<◌, ◌≤◌, max, true, false, ℤ, List, [], ◌∷◌, ◌++◌, map, length, Option, Some, None, slice_index_or, if◌then◌else◌}
use Rattle.std.proofs.Common.{ap, sym, ◌∙◌, drop, arith, append_assoc}
use Rattle.std.proofs.lemmas.List.{at_drop_more, at_drop_all, append-nil, map-append}
use Rattle.lowered_tree.specs.l_core.Steps as core
use Rattle.lowered_tree.specs.l_core.Steps.{Keep, Compute, CallFor, Halt, Acts, Starts}
use Rattle.lowered_tree.specs.declared.steps.Step.{Step}
use Rattle.lowered_tree.specs.Shapes.{step_of, steps_of}
use Rattle.main_translation.specs.main_file.MainFile as file
use Rattle.main_translation.specs.main_file.MainItems.{stops_from}
use Rattle.main_translation.specs.Contents.{listing_by, listings_from, stops_run}
use Rattle.unit_translation.specs.UnitContents.{temporaries_kept}
use Rattle.unit_contents.specs.declared.contents.Listing.{Listing}
use Rattle.unit_contents.specs.ContentsOf.{listing_of}
use Rattle.unit_contents.specs.Parts.{begun_unit, unit_by}

-- ## The steps that are left

pub next_step : {Y : Type 0} (F : List core.Step → Y) (steps : List Step) (i : ℕ) (s : Step) → i < length steps → s ≡ slice_index_or steps i s
    → F (steps_of (drop i steps)) ≡ F (step_of s ∷ steps_of (drop (i + 1) steps))
next_step F steps i s within is =
    at_drop_more (λ ss. F (steps_of ss)) steps i s within ∙ ap (λ r. F (step_of r ∷ steps_of (drop (i + 1) steps))) (sym is)

pub no_step : {Y : Type 0} (F : List core.Step → Y) (steps : List Step) (i : ℕ) → length steps ≤ i → F (steps_of (drop i steps)) ≡ F []
no_step F steps i past = at_drop_all (λ ss. F (steps_of ss)) steps i past

-- ## Temporaries

temporaries-split : (st : core.Step) (later : List core.Step) → temporaries_kept (st ∷ later) ≡ max (temporaries_kept (st ∷ [])) (temporaries_kept later)
unfolding temporaries_kept
temporaries-split (Keep k p) later = omega arith
temporaries-split (Compute k f ps) later = omega arith
temporaries-split (CallFor k callee ps) later = omega arith
temporaries-split st later = omega arith

pub temporaries_more : (steps : List Step) (i : ℕ) (s : Step) (count by after all : ℕ) → i < length steps → s ≡ slice_index_or steps i s
    → by ≡ temporaries_kept (step_of s ∷ []) → after ≡ max by count → max count (temporaries_kept (steps_of (drop i steps))) ≡ all
    → max after (temporaries_kept (steps_of (drop (i + 1) steps))) ≡ all
temporaries_more steps i s count by after all within is one put known =
    let split = next_step temporaries_kept steps i s within is ∙ temporaries-split (step_of s) (steps_of (drop (i + 1) steps)) in
    omega (arith, split, one, put, known)

pub temporaries_whole : (steps : List Step) (i count all : ℕ) → length steps ≤ i → max count (temporaries_kept (steps_of (drop i steps))) ≡ all → count ≡ all
unfolding temporaries_kept
temporaries_whole steps i count all past known = let none = no_step temporaries_kept steps i past in omega (arith, none, known)

-- ## Strings

stops-split : (n : ℕ) (st : core.Step) (later : List core.Step) → stops_from n (st ∷ later) ≡ (if stops_run st then n ∷ stops_from (n + 1) later else stops_from (n + 1) later)
unfolding stops_from stops_run
stops-split n (Halt text) later = ap (λ k. n ∷ stops_from k later) (let e : suc n ≡ n + 1 = omega arith in e)
stops-split n st later = ap (λ k. stops_from k later) (let e : suc n ≡ n + 1 = omega arith in e)

pub string_put : (steps : List Step) (i : ℕ) (s : Step) (so_far after all : List ℕ) → i < length steps → s ≡ slice_index_or steps i s
    → stops_run (step_of s) ≡ true → after ≡ so_far ++ i ∷ [] → so_far ++ stops_from i (steps_of (drop i steps)) ≡ all
    → after ++ stops_from (i + 1) (steps_of (drop (i + 1) steps)) ≡ all
string_put steps i s so_far after all within is stops put known =
    let later = stops_from (i + 1) (steps_of (drop (i + 1) steps)) in
    ap (λ ns. ns ++ later) put ∙ append_assoc so_far (i ∷ []) later
    ∙ ap (λ ns. so_far ++ ns)
    (sym (next_step (stops_from i) steps i s within is ∙ stops-split i (step_of s) (steps_of (drop (i + 1) steps)) ∙ ap (λ b. if b then i ∷ later else later) stops))
    ∙ known

pub string_kept : (steps : List Step) (i : ℕ) (s : Step) (so_far after all : List ℕ) → i < length steps → s ≡ slice_index_or steps i s
    → stops_run (step_of s) ≡ false → after ≡ so_far → so_far ++ stops_from i (steps_of (drop i steps)) ≡ all
    → after ++ stops_from (i + 1) (steps_of (drop (i + 1) steps)) ≡ all
string_kept steps i s so_far after all within is stops put known =
    let later = stops_from (i + 1) (steps_of (drop (i + 1) steps)) in
    ap (λ ns. ns ++ later) put
    ∙ ap (λ ns. so_far ++ ns)
    (sym (next_step (stops_from i) steps i s within is ∙ stops-split i (step_of s) (steps_of (drop (i + 1) steps)) ∙ ap (λ b. if b then i ∷ later else later) stops))
    ∙ known

pub strings_whole : (steps : List Step) (i : ℕ) (so_far all : List ℕ) → length steps ≤ i → so_far ++ stops_from i (steps_of (drop i steps)) ≡ all → so_far ≡ all
unfolding stops_from
strings_whole steps i so_far all past known = sym (append-nil so_far) ∙ ap (λ ns. so_far ++ ns) (sym (no_step (stops_from i) steps i past)) ∙ known

-- ## Control lists

listings-split : (n : ℕ) (st : core.Step) (later : List core.Step) → listings_from n (st ∷ later) ≡ listing_by n (begun_unit st) ++ listings_from (n + 1) later
unfolding listings_from listing_by begun_unit unit_by
listings-split n (Acts (Starts way layout controls) ps m) later = ap (λ k. listing_by n (begun_unit (Acts (Starts way layout controls) ps m)) ++ listings_from k later) (let e : suc n ≡ n + 1 = omega arith in e)
listings-split n (Acts what ps m) later = ap (λ k. listings_from k later) (let e : suc n ≡ n + 1 = omega arith in e)
listings-split n st later = ap (λ k. listings_from k later) (let e : suc n ≡ n + 1 = omega arith in e)

pub listing_more : (steps : List Step) (i : ℕ) (s : Step) (unit : Option ℤ) (so_far after : List Listing) (all : List file.Listing) → i < length steps
    → s ≡ slice_index_or steps i s → unit ≡ begun_unit (step_of s) → map listing_of after ≡ map listing_of so_far ++ listing_by i unit
    → map listing_of so_far ++ listings_from i (steps_of (drop i steps)) ≡ all
    → map listing_of after ++ listings_from (i + 1) (steps_of (drop (i + 1) steps)) ≡ all
listing_more steps i s unit so_far after all within is one put known =
    let later = listings_from (i + 1) (steps_of (drop (i + 1) steps)) in
    ap (λ ls. ls ++ later) put ∙ append_assoc (map listing_of so_far) (listing_by i unit) later
    ∙ ap (λ ls. map listing_of so_far ++ ls)
    (sym
    (next_step (listings_from i) steps i s within is ∙ listings-split i (step_of s) (steps_of (drop (i + 1) steps)) ∙ ap (λ u. listing_by i u ++ later) (sym one)))
    ∙ known

pub listing_put : (i : ℕ) (unit : ℤ) (so_far after : List Listing) → after ≡ so_far ++ record { step = i; unit = unit } ∷ []
    → map listing_of after ≡ map listing_of so_far ++ listing_by i (Some unit)
unfolding listing_by
listing_put i unit so_far after put = ap (map listing_of) put ∙ map-append listing_of so_far (record { step = i; unit = unit } ∷ [])

pub listing_kept : (i : ℕ) (so_far after : List Listing) → after ≡ so_far → map listing_of after ≡ map listing_of so_far ++ listing_by i None
unfolding listing_by
listing_kept i so_far after put = ap (map listing_of) put ∙ sym (append-nil (map listing_of so_far))

pub listings_whole : (steps : List Step) (i : ℕ) (so_far : List Listing) (all : List file.Listing) → length steps ≤ i
    → map listing_of so_far ++ listings_from i (steps_of (drop i steps)) ≡ all → map listing_of so_far ≡ all
unfolding listings_from
listings_whole steps i so_far all past known =
    sym (append-nil (map listing_of so_far)) ∙ ap (λ ls. map listing_of so_far ++ ls) (sym (no_step (listings_from i) steps i past)) ∙ known
