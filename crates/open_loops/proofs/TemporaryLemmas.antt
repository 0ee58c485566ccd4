-- The temporaries that loops keep, by the forms of the statements that begin them.
use Rattle.std.proofs.Common.{◌≡◌, ℕ, zero, suc, ◌+◌, ◌<◌, Bool, true, false, ◌&&◌, List, [], ◌∷◌, ◌++◌, map, take, get_or, length, reverse, Option, Some, None, slice_get, Result, Ok, Err, IfOk, refl, sym, ap, ◌∙◌}
use Rattle.std.proofs.lemmas.List.{take_more, map-append, reverse-append}
use Rattle.f_tree.specs.declared.statements.Body.{Body, IfOne', more_of-Body}
use Rattle.f_tree.specs.declared.statements.Body as whole
use Rattle.f_tree.specs.declared.statements.Body.TheVariants as body
use Rattle.f_tree.specs.declared.statements.LoopControl.{LoopControl}
use Rattle.f_tree.specs.declared.statements.Stmt.{Stmt}
use Rattle.f_tree.specs.Folds.{layer_of}
use Rattle.f_tree.specs.Lines.{Naming, control_of}
use Rattle.expression_lowering.specs.lowering.Statements.{loop_operands}
use Rattle.name_facts.specs.declared.table.NameFacts.{NameFacts}
use Rattle.expression_lowering.specs.declared.answers.LowerError.{LowerError}
use Rattle.expression_lowering.specs.declared.answers.LowerError.TheVariants.{NotLowered, NoMemory}
use Rattle.statement_lowering.specs.LoopTurns.{IsFreeOutcome}
use Rattle.statement_lowering.specs.LoweredStatements.{control_lowers}
use Rattle.open_loops.specs.declared.ranges.OpenLoop.{OpenLoop}
use Rattle.open_loops.specs.LoopPlaces.{loop_lowers, loops_lower}
use Rattle.open_loops.specs.OpenRanges.{range_of, innermost_first}
use Rattle.open_loops.specs.KeptTemporaries.{free_inside, free_at_loop, free_among, IsFreeInside, IsFreeAtLoop, IsFreeAmong}

-- DO
inside-Do : (names : Naming) (k : ℕ) (label : Option ℕ) (control : LoopControl) → free_inside names k (body.Do label control) ≡ (loop_operands k (control_of names control)).free
unfolding free_inside layer_of
inside-Do names k label control = refl

lowers-Do : (table : NameFacts) (label : Option ℕ) (control : LoopControl) → loop_lowers table (body.Do label control) ≡ control_lowers table control
unfolding loop_lowers layer_of
lowers-Do table label control = refl

pub inside_of : (table : NameFacts) (k : ℕ) (b : Body) (label : Option ℕ) (control : LoopControl) (answer : Result ℕ LowerError) → b ≡ body.Do label control → IsFreeOutcome table k control answer
    → IfOk answer (λ free. IsFreeInside table k b free)
unfolding IsFreeOutcome
inside_of table k b label control (Ok free) is answered =
    record { meant = λ names told. answered.meant names told ∙ sym (inside-Do names k label control) ∙ ap (free_inside names k) (sym is) }
inside_of table k b label control (Err e) is answered = tt

refused_for : (table : NameFacts) (k : ℕ) (control : LoopControl) (answer : Result ℕ LowerError) → IsFreeOutcome table k control answer → answer ≡ Err NotLowered → control_lowers table control ≡ false
unfolding IsFreeOutcome
refused_for table k control (Ok free) answered e = absurd (cc)
refused_for table k control (Err NotLowered) answered e = answered
refused_for table k control (Err NoMemory) answered e = absurd (cc)

pub refused_at : (table : NameFacts) (k : ℕ) (b : Body) (label : Option ℕ) (control : LoopControl) (answer : Result ℕ LowerError) → b ≡ body.Do label control → IsFreeOutcome table k control answer
    → answer ≡ Err NotLowered → loop_lowers table b ≡ false
refused_at table k b label control answer is answered e = ap (loop_lowers table) is ∙ lowers-Do table label control ∙ refused_for table k control answer answered e

-- another statement keeps none
inside-other : (names : Naming) (k : ℕ) (b : Body) → ((label : Option ℕ) (control : LoopControl) → b ≡ body.Do label control → ⊥) → k ≡ free_inside names k b
unfolding free_inside layer_of
inside-other names k (whole.Do label control) other = absurd (other label control refl)
inside-other names k (IfOne' e s (more_of-Body b r)) other = refl
inside-other names k _ other = refl

pub inside_other : (table : NameFacts) (k : ℕ) (b : Body) → ((label : Option ℕ) (control : LoopControl) → b ≡ body.Do label control → ⊥) → IsFreeInside table k b k
inside_other table k b other = record { meant = λ names told. inside-other names k b other }

-- by places
pub at_statement : (table : NameFacts) (k : ℕ) (s : Stmt) (found : Option Stmt) (free : ℕ) → Some s ≡ found → IsFreeInside table k s.body free → IsFreeAtLoop table k found free
unfolding free_at_loop
at_statement table k s found free is inside = record { meant = λ names told. inside.meant names told ∙ ap (free_at_loop names k) is }

pub at_none : (table : NameFacts) (k : ℕ) (found : Option Stmt) → None ≡ found → IsFreeAtLoop table k found k
unfolding free_at_loop
at_none table k found is = record { meant = λ names told. ap (free_at_loop names k) is }

both_false : (a b : Bool) → b ≡ false → (a && b) ≡ false
both_false true b e = e
both_false false b e = refl

pub refused_among : (table : NameFacts) (ss : List Stmt) (i : ℕ) (s : Stmt) → Some s ≡ slice_get ss i → loop_lowers table s.body ≡ false → loops_lower table ss ≡ false
unfolding loops_lower
refused_among table [] i s is refused = absurd (cc)
refused_among table (t ∷ ss) zero s is refused =
    let same : s ≡ t = cc in ap (λ (x : Stmt). loop_lowers table x.body && loops_lower table ss) (sym same) ∙ ap (λ b. b && loops_lower table ss) refused
refused_among table (t ∷ ss) (suc i) s is refused = both_false (loop_lowers table t.body) (loops_lower table ss) (refused_among table ss i s is refused)

-- the loops from the outermost on
pub among_none : (table : NameFacts) (ss : List Stmt) → IsFreeAmong table ss [] 0
unfolding free_among
among_none table ss = record { meant = λ names told. refl }

innermost_more : (ls : List OpenLoop) (l : OpenLoop) → innermost_first (ls ++ l ∷ []) ≡ range_of l ∷ innermost_first ls
innermost_more ls l = ap reverse (map-append range_of ls (l ∷ [])) ∙ reverse-append (map range_of ls) (range_of l ∷ [])

among_one : (names : Naming) (ss : List Stmt) (ls : List OpenLoop) (l : OpenLoop) → free_among names ss (innermost_first (ls ++ l ∷ [])) ≡ free_at_loop names (free_among names ss (innermost_first ls)) (slice_get ss l.first)
unfolding free_among range_of
among_one names ss ls l = ap (free_among names ss) (innermost_more ls l)

pub among_more : (table : NameFacts) (ss : List Stmt) (ls : List OpenLoop) (i free inside : ℕ) (d : OpenLoop) → i < length ls → IsFreeAmong table ss (innermost_first (take i ls)) free
    → IsFreeAtLoop table free (slice_get ss (get_or ls i d).first) inside → IsFreeAmong table ss (innermost_first (take (i + 1) ls)) inside
among_more table ss ls i free inside d h so_far now = record {
  meant = λ names told.
      now.meant names told ∙ ap (λ k. free_at_loop names k (slice_get ss (get_or ls i d).first)) (so_far.meant names told)
      ∙ sym (among_one names ss (take i ls) (get_or ls i d)) ∙ ap (λ xs. free_among names ss (innermost_first xs)) (sym (take_more ls i d h));
}
