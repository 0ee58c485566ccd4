-- The setting in which each stored name of a main program has a sequence of its own. ANSI X3.9-1978, sections 2.11, 5 and 17.1.
use Rattle.std.specs.Prelude.{ℕ, suc, List, [], ◌∷◌, map}
use Rattle.lowering_laws.specs.f_tree.Facts.{Home, Member, ProgramUnit, Facts}
use Rattle.lowering_laws.specs.f_tree.Setting.{Setting, unit_home}

-- each stored name in a sequence of its own, as they stand
abbrev pub homes_from : ℕ → List Member → List Home
homes_from n [] = []
homes_from n (m ∷ ms) = record { sequence = n; first = 0 } ∷ homes_from (suc n) ms

abbrev pub sizes_of : List Member → List ℕ
sizes_of ms = map (λ (m : Member). m.size) ms

abbrev pub plain_setting : ProgramUnit → Setting
plain_setting unit = record { homes = homes_from 0 unit.stored ∷ []; sizes = sizes_of unit.stored }

abbrev pub plain_facts : ProgramUnit → Facts
plain_facts unit = record { program = unit; home = unit_home (plain_setting unit) 0 unit }
