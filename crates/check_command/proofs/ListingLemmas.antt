-- The names of files, and the lines of findings, as the code makes them.
use Rattle.std.specs.Prelude.{◌≡◌, ℕ, ◌+◌, ◌<◌, ◌≤◌, List, [], ◌∷◌, ◌++◌, length, take, map, Result, Ok, Err, IfOk, IsErrAnd}
use Rattle.std.proofs.Common.{refl, sym, ap, subst, ◌∙◌, arith, append_assoc, get_or}
use Rattle.std.proofs.lemmas.List.{take_all, append-nil}
use Rattle.f2c_outside.specs.declared.shelves.Place.{Place}
use Rattle.f2c_outside.specs.Shelf.{ShelfState}
use Rattle.call_shapes.specs.declared.findings.Finding.{Finding}
use Rattle.call_lines.specs.FindingLines.{finding_lines}
use Rattle.source_files.proofs.ListLemmas.{further, map_append}
use Rattle.source_files.proofs.PlaceLemmas.{kept_as_it_is}
use Rattle.check_command.specs.declared.checked.Checked.{Checked}
use Rattle.check_command.specs.declared.checked.Checked.TheVariants.{Agreeing, Disagreeing}
use Rattle.check_command.specs.declared.failing.CheckFail.{CheckFail}
use Rattle.check_command.specs.declared.failing.CheckFail.TheVariants as fail
use Rattle.check_command.specs.Listing.{name_shown, file_names, answer_of, ArePut, AreListed}

-- WHETHER a call disagrees
pub none_found : (findings : List Finding) → length findings < 1 → answer_of findings ≡ Agreeing
unfolding answer_of
none_found [] none = refl
none_found (finding ∷ findings) none = absurd (omega (arith, none))

pub some_found : (findings : List Finding) → 1 ≤ length findings → answer_of findings ≡ Disagreeing
unfolding answer_of
some_found [] some = absurd (omega (arith, some))
some_found (finding ∷ findings) some = refl

-- NAMES of places
pub none_shown : (places : List Place) (names : List (List ℕ)) → names ≡ [] → names ≡ map name_shown (take 0 places)
none_shown places names is = is

pub shown_more : (places : List Place) (number : ℕ) (place : Place) (names more : List (List ℕ)) (name : List ℕ) → number < length places → place ≡ get_or places number place →
    names ≡ map name_shown (take number places) → name ≡ name_shown place → more ≡ names ++ name ∷ [] → more ≡ map name_shown (take (number + 1) places)
shown_more places number place names more name within is before one pushed =
    pushed ∙ ap (λ n. names ++ n ∷ []) one
    ∙ (ap (λ ns. ns ++ name_shown place ∷ []) before
    ∙ (sym (map_append name_shown (take number places) (place ∷ [])) ∙ ap (map name_shown) (further places number place within is)))

pub all_shown : (places : List Place) (number : ℕ) (names : List (List ℕ)) → length places ≤ number → names ≡ map name_shown (take number places) → names ≡ map name_shown places
all_shown places number names past is = is ∙ ap (map name_shown) (take_all number places past)

-- and behind them others
pub with_none : (names others all : List (List ℕ)) → all ≡ names → all ≡ names ++ take 0 others
with_none names others all is = is ∙ sym (append-nil names)

pub with_more : (names others : List (List ℕ)) (number : ℕ) (other copy : List ℕ) (all more : List (List ℕ)) → number < length others → other ≡ get_or others number other →
    all ≡ names ++ take number others → copy ≡ other → more ≡ all ++ copy ∷ [] → more ≡ names ++ take (number + 1) others
with_more names others number other copy all more within is before same pushed =
    pushed ∙ ap (λ c. all ++ c ∷ []) same
    ∙ (ap (λ ns. ns ++ other ∷ []) before
    ∙ (append_assoc names (take number others) (other ∷ []) ∙ ap (λ ns. names ++ ns) (further others number other within is)))

pub with_all : (names others : List (List ℕ)) (number : ℕ) (all : List (List ℕ)) → length others ≤ number → all ≡ names ++ take number others → all ≡ names ++ others
with_all names others number all past is = is ∙ ap (λ ns. names ++ ns) (take_all number others past)

pub names_made : {E : Type 0} (froms : List Place) (included names : List (List ℕ)) (result : Result (List (List ℕ)) E) → names ≡ map name_shown froms →
    IfOk result (λ all. all ≡ names ++ included) → IfOk result (λ all. all ≡ file_names froms included)
unfolding file_names
names_made froms included names (Ok all) is same = same ∙ ap (λ ns. ns ++ included) is
names_made froms included names (Err refused) is same = tt

-- THE LINES
pub none_put : (findings : List Finding) (lines : List ℕ) (b : ShelfState) (result : Result Checked CheckFail) → IsErrAnd result (λ why. why ≡ fail.NoMemory) →
    ArePut findings lines b b result
none_put findings lines b (Ok checked) is = absurd is
none_put findings lines b (Err why) is =
    subst (λ (w : CheckFail). ArePut findings lines b b (Err w)) (sym is) (kept_as_it_is b)

pub listed_by : (names : List (List ℕ)) (disagreeing findings seen again : List Finding) (lines put : List ℕ) (b a : ShelfState) (result : Result Checked CheckFail) →
    findings ≡ disagreeing → seen ≡ findings → lines ≡ finding_lines names seen → again ≡ findings → put ≡ lines → ArePut again put b a result →
    AreListed names disagreeing b a result
listed_by names disagreeing findings seen again lines put b a result found seen_is lines_are again_is put_is done =
    subst (λ ls. ArePut disagreeing ls b a result) (put_is ∙ (lines_are ∙ ap (finding_lines names) (seen_is ∙ found)))
    (subst (λ fs. ArePut fs put b a result) (again_is ∙ found) done)
