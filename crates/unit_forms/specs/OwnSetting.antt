-- The setting in which each stored name of several units has a sequence of its own. ANSI X3.9-1978, sections 2.11, 5 and 17.1.
use Rattle.std.specs.List.{flat_map}
use Rattle.std.specs.Prelude.{ℕ, ◌+◌, List, [], ◌∷◌, length, Some}
use Rattle.plain_forms.specs.f_tree.Facts.{Home, ProgramUnit, Facts}
use Rattle.plain_forms.specs.f_tree.Setting.{Setting}
use Rattle.plain_forms.specs.f_tree.Meaning.{facts_at}
use Rattle.plain_forms.specs.OwnStorage.{homes_from, sizes_of}

-- the sequences of each unit stand behind those of the units before it
abbrev pub own_homes : ℕ → List ProgramUnit → List (List Home)
own_homes n [] = []
own_homes n (u ∷ us) = homes_from n u.stored ∷ own_homes (n + length u.stored) us

abbrev pub own_setting : List ProgramUnit → Setting
own_setting us = record { homes = own_homes 0 us; sizes = flat_map (λ (u : ProgramUnit). sizes_of u.stored) us }

-- the facts of a unit among several
abbrev pub own_facts : List ProgramUnit → ℕ → ProgramUnit → Facts
own_facts us j unit = facts_at (own_setting us) j (Some unit)
