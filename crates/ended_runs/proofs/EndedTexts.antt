-- A run of C files that has ended as the FORTRAN run has stays so; and texts spell one list of files.
use Rattle.std.specs.Prelude.{◌≡◌, ℕ, ◌+◌, ◌-◌, ◌*◌, ◌≤◌, List, [], ◌∷◌, None, refl}
use Rattle.std.proofs.Common.{sym, ap, ◌∙◌, subst, arith}
use Rattle.faithful.specs.simulation.Machine.{Frame, State, Runs, Over, Broken, run}
use Rattle.faithful.specs.run_state.Units.{Units}
use Rattle.faithful.specs.run_state.Endings.{Ending}
use Rattle.faithful.specs.f_tree.Facts.{ProgramUnit}
use Rattle.faithful.specs.f_tree.Setting.{Setting}
use Rattle.faithful.specs.f_tree.World as fortran
use Rattle.faithful.specs.f_tree.Meaning.{units_in, ftn, act_of, RunState}
use Rattle.faithful.specs.c_tree.declared.file.CFile.{CFile}
use Rattle.faithful.specs.c_tree.Linking as linking
use Rattle.faithful.specs.c_tree.Meaning.{machine, run_of, meaning, step_factor}
use Rattle.faithful.specs.c_tree.Steps.{sorts, language}
use Rattle.faithful.specs.SameState.{Same, running, ended}
use Rattle.faithful.specs.Faithful.{SpellAll, more, SameRuns}
use Rattle.simulation.proofs.Runs.{run-run, run-over}
use Rattle.c_laws.proofs.PlainText.{one_tree}
use Rattle.ended_runs.specs.EndedRuns.{HasEnded, TranslatedRunsEndAlike}

-- ## Files

-- texts spell one list of files
pub one_list : (texts : List (List ℕ)) (one other : List CFile) → SpellAll texts one → SpellAll texts other → one ≡ other
one_list [] [] [] _ _ = refl
one_list [] [] (file' ∷ files') _ spell' = elim spell' [ ]
one_list [] (file ∷ files) other spell _ = elim spell [ ]
one_list (bytes ∷ texts) [] other spell _ = elim spell [ ]
one_list (bytes ∷ texts) (file ∷ files) [] _ spell' = elim spell' [ ]
one_list (bytes ∷ texts) (file ∷ files) (file' ∷ files') (more _ _ _ _ spelled spell) (more _ _ _ _ spelled' spell') =
    let first : file ≡ file' = one_tree bytes file file' spelled spelled' in
    let later : files ≡ files' = one_list texts files files' spell spell' in
    cc

-- ## Runs

-- later steps of a run of C files begin where the earlier ones come to
later_steps : (files : List CFile) (units : Units) (few added : ℕ) → meaning files units (few + added)
    ≡ run language (machine (linking.program files)) added (meaning files units few)
unfolding meaning run_of
later_steps files units few added = sym (run-run language (machine (linking.program files)) added few _)

-- a run of C files that has ended stays so
stays_ended : (files : List CFile) (units left : Units) (ending : Ending) (few steps : ℕ) → few ≤ steps → HasEnded ending left (meaning files units few)
    → HasEnded ending left (meaning files units steps)
stays_ended files units left ending few steps below has =
    let size : few + (steps - few) ≡ steps = omega arith in
    record {
      functions = has.functions;
      world = has.world;
      over = ap (meaning files units) (sym size)
          ∙ later_steps files units few (steps - few)
          ∙ ap (run language (machine (linking.program files)) (steps - few)) has.over
          ∙ run-over language (machine (linking.program files)) (steps - few) ending has.functions has.world;
      units_left = has.units_left;
    }

-- what an ended FORTRAN run says of a state
abbrev EndedAs : RunState → State Ending sorts → Type 0
EndedAs (Runs k v procedures w) state = Unit {0}
EndedAs (Over ending procedures w) state = HasEnded ending w.units state
EndedAs (Broken act numbers) state = Unit {0}

-- a state that is the same as that of an ended FORTRAN run has ended
ended_as : (program : List ProgramUnit) (setting : Setting) (files : List CFile) (one : RunState) (other : State Ending sorts) → Same program setting files one other
    → EndedAs one other
ended_as program setting files one other (running k v procedures w j x functions z world active) = tt
ended_as program setting files one other (ended ending procedures w functions z world active) =
    record { functions = functions; world = z; over = refl; units_left = sym world.same_units }

-- no act stands in the way of a run that has ended
no_act : (state : RunState) (ending : Ending) (procedures : List (Frame fortran.fortran_sorts)) (world : fortran.World) → state ≡ Over ending procedures world
    → act_of state ≡ None
unfolding act_of
no_act state ending procedures world over = ap act_of over

-- from runs that are the same to the ending of one
run_ends : (program : List ProgramUnit) (setting : Setting) (files : List CFile) (units : Units) (n : ℕ) → SameRuns program setting files units n
    → (ending : Ending) (procedures : List (Frame fortran.fortran_sorts)) (world : fortran.World) → ftn setting program units n ≡ Over ending procedures world
    → (steps : ℕ) → step_factor files * n ≤ steps → HasEnded ending world.units (meaning files units steps)
run_ends program setting files units n runs ending procedures world over steps enough =
    let same = runs.same (no_act (ftn setting program units n) ending procedures world over) in
    let high : same.0 ≤ step_factor files * n = same.2 in
    stays_ended files units world.units ending same.0 steps (omega arith)
    (subst (λ state. EndedAs state (meaning files units same.0)) over
    (ended_as program setting files (ftn setting program units n) (meaning files units same.0) same.3))

pub runs_end_alike : TranslatedRunsEndAlike
runs_end_alike options trees texts files faithful spelled closed homes setting units are_units n ending procedures world over steps enough =
    let files_are : faithful.c_trees ≡ files = one_list texts faithful.c_trees files faithful.written spelled in
    run_ends (units_in options trees) homes files units n
    (subst (λ trees'. SameRuns (units_in options trees) homes trees' units n) files_are ((faithful.closed closed).runs homes setting units are_units n))
    ending procedures world over steps enough
