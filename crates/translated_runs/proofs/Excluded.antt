-- Ends of a command that nothing leads to where the files are on the shelf and no call of it failed.
use Rattle.std.specs.Prelude.{◌≡◌, ℕ, ◌+◌, ◌^◌, ◌<◌, ◌≤◌, List, [], ◌∷◌, ◌++◌, Some, IfSome, option_map}
use Rattle.std.proofs.Common.{sym, ap, ◌∙◌, subst, arith}
use Rattle.f2c_outside.specs.declared.shelves.Place.{Place}
use Rattle.f2c_outside.specs.declared.shelves.Place.TheVariants.{Fault, File as FileNamed}
use Rattle.f2c_outside.specs.Shelf.{ShelfState, Contents, Quiet, Lacks, added}
use Rattle.shelf_texts.specs.ShelfLoops.{IsKept}
use Rattle.shelf_texts.specs.Messages.{Said}
use Rattle.source_files.specs.SourceOnShelf.{HasPlaces, IsFirstAway}
use Rattle.source_files.specs.SourceReads.{IsAwayAmong, IsFailedAmong}

-- a place among those that are there is there
one_there : (contents : Contents) (before : List Place) (place : Place) (behind : List Place) → HasPlaces (before ++ place ∷ behind) contents → Lacks place contents → ⊥
unfolding HasPlaces
one_there contents [] place behind there = there.0
one_there contents (first ∷ before) place behind there = one_there contents before place behind there.1

-- no place is away
pub not_away : (places : List Place) (contents : Contents) (name : List ℕ) (b m : ShelfState) → b.told ≡ Some contents → HasPlaces places contents
    → IsAwayAmong places name b m → ⊥
not_away places contents name b m told there among =
    let first : IsFirstAway places (FileNamed name) contents = subst (λ known. IfSome known (IsFirstAway places (FileNamed name))) told among.first in
    one_there contents first.before (FileNamed name) first.behind (subst (λ those. HasPlaces those contents) first.is there) first.lacks

-- where the count of faults is the same in the end it is so on the way
pub quiet_behind : (b m a : ShelfState) → Quiet b.faults a.faults → IsKept b m → m.faults ≤ a.faults → Quiet m.faults a.faults
quiet_behind b m a quiet kept later = let first = kept.later in let same = quiet.same in record { below = quiet.below; same = omega arith }

-- and no call failed
pub not_failed : (places : List Place) (failed : Place) (line : List ℕ) (b m a : ShelfState) → Quiet b.faults a.faults → IsFailedAmong places failed b m → Said line m a → ⊥
not_failed places failed line b m a quiet among said =
    let first = among.kept.later in
    let later = said.later in
    let below = quiet.below in
    let same = quiet.same in
    let one : m.faults ≡ b.faults = omega arith in
    let under : m.faults + 1 < 2 ^ 64 = subst (λ count. count + 1 < 2 ^ 64) (same ∙ sym one) below in
    let rose : b.faults < m.faults = among.rose under in
    absurd (omega arith)

-- a line that was said stands on Fault, behind what the shelf held
pub line_said : (line : List ℕ) (contents : Contents) (b m a : ShelfState) → b.told ≡ Some contents → Quiet b.faults a.faults → IsKept b m → Said line m a
    → a.told ≡ Some (added Fault line contents)
line_said line contents b m a told quiet kept said =
    said.whole (quiet_behind b m a quiet kept said.later) ∙ ap (option_map (added Fault line)) (kept.same ∙ told)
