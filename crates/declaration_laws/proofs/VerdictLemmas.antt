-- The first of some refusals is one of them and not after any; and each set has a verdict.
use Rattle.std.specs.Prelude.{◌≡◌, List, [], ◌∷◌, Option}
use Rattle.fortran_laws.specs.f_tree.declared.names.Options.{Options}
use Rattle.fortran_laws.specs.f_tree.declared.refusals.Refusal.{Refusal}
use Rattle.fortran_laws.specs.f_tree.declared.units.FileSet.{FileSet}
use Rattle.fortran_laws.specs.f_tree.Setting.{IsIn}
use Rattle.refusal_order.specs.declaration_rows.SetRows.{set_faults}
use Rattle.refusal_order.specs.declaration_rows.Verdicts.{storage_faults, shared_faults, first_of, or_else, verdict, IsVerdict, declared_badly, placed_badly, shared_badly, faultless, EachSetHasAVerdict}
use Rattle.refusal_order.proofs.RefusalOrder.{IsChosen, none_there, first_there, first_is_chosen}
use Rattle.declaration_laws.proofs.SetFits.{sets_formed}

-- VERDICTS
no_fault : (rs : List Refusal) → rs ≡ [] → (r : Refusal) → IsIn r rs → ⊥
no_fault [] is r among = elim among [ ]
no_fault (q ∷ rs) is r among = absurd (cc)

by_phases : (options : Options) (set : FileSet) (declared stored shared : Option Refusal) → IsChosen (set_faults options set) declared →
    IsChosen (storage_faults options set) stored → IsChosen (shared_faults options set) shared →
    IsVerdict options set (or_else declared (or_else stored shared))
unfolding or_else
by_phases options set _ _ _ (first_there r first) _ _ = declared_badly r first
by_phases options set _ _ _ (none_there none) (first_there r first) _ = placed_badly r none first
by_phases options set _ _ _ (none_there none) (none_there placed) (first_there r first) = shared_badly r none placed first
by_phases options set _ _ _ (none_there none) (none_there placed) (none_there apart) =
    faultless none placed apart (λ g setting. sets_formed options set g setting (no_fault (set_faults options set) none))

pub verdicts : EachSetHasAVerdict
unfolding verdict
verdicts options set =
    by_phases options set (first_of (set_faults options set)) (first_of (storage_faults options set)) (first_of (shared_faults options set))
    (first_is_chosen (set_faults options set)) (first_is_chosen (storage_faults options set)) (first_is_chosen (shared_faults options set))
