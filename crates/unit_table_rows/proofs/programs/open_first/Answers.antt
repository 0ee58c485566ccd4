use Rattle.std.proofs.Common.{[], ◌∷◌, Option, None, true, false, refl, ap, ◌∙◌}
use Rattle.run_state.specs.Units.{UnitState, zero_blanks_of}
use Rattle.unit_table_rows.specs.Ends.{two_files, first_file, second_file}
use Rattle.unit_table_rows.proofs.Steps.{no-such-file, first-opened, opened-again, drawer-kept}
use Rattle.unit_table_rows.proofs.programs.open_first.Goals as goal

pub returns-clause-other : goal.returns-clause-other
returns-clause-other g c = (no-such-file (69 ∷ []) false _ _ c.open_unit-other.result c.open_unit-other.ensures.did c.open_unit-other.ensures.means c.requires refl).is

pub returns-clause-opened : goal.returns-clause-opened
returns-clause-opened g c =
    let one = no-such-file (69 ∷ []) false _ _ c.open_unit-other.result c.open_unit-other.ensures.did c.open_unit-other.ensures.means c.requires refl
    in (first-opened (68 ∷ []) true
    (record {
      file = record { name = 68 ∷ []; records = (65 ∷ []) ∷ []; position = 0 };
      rest = second_file;
    }) _ _ c.open_unit-opened.result c.open_unit-opened.ensures.means (drawer-kept _ _ None two_files one.kept c.requires) refl).is

pub returns-clause-again : goal.returns-clause-again
returns-clause-again g c =
    let one = no-such-file (69 ∷ []) false _ _ c.open_unit-other.result c.open_unit-other.ensures.did c.open_unit-other.ensures.means c.requires refl
    in let two =
    first-opened (68 ∷ []) true
    (record {
      file = record { name = 68 ∷ []; records = (65 ∷ []) ∷ []; position = 0 };
      rest = second_file;
    }) _ _ c.open_unit-opened.result c.open_unit-opened.ensures.means (drawer-kept _ _ None two_files one.kept c.requires) refl
    in (opened-again (68 ∷ []) false _ second_file _ _ c.open_unit-again.result c.open_unit-again.ensures.did
    c.open_unit-again.ensures.means two.has).is

pub returns-clause-has : goal.returns-clause-has
returns-clause-has g c =
    let one = no-such-file (69 ∷ []) false _ _ c.open_unit-other.result c.open_unit-other.ensures.did c.open_unit-other.ensures.means c.requires refl
    in let two =
    first-opened (68 ∷ []) true
    (record {
      file = record { name = 68 ∷ []; records = (65 ∷ []) ∷ []; position = 0 };
      rest = second_file;
    }) _ _ c.open_unit-opened.result c.open_unit-opened.ensures.means (drawer-kept _ _ None two_files one.kept c.requires) refl
    in drawer-kept _ _ first_file second_file (opened-again (68 ∷ []) false _ second_file _ _ c.open_unit-again.result c.open_unit-again.ensures.did
    c.open_unit-again.ensures.means two.has).kept two.has

pub returns-clause-zeros : goal.returns-clause-zeros
returns-clause-zeros g c =
    let one = no-such-file (69 ∷ []) false _ _ c.open_unit-other.result c.open_unit-other.ensures.did c.open_unit-other.ensures.means c.requires refl
    in let two =
    first-opened (68 ∷ []) true
    (record {
      file = record { name = 68 ∷ []; records = (65 ∷ []) ∷ []; position = 0 };
      rest = second_file;
    }) _ _ c.open_unit-opened.result c.open_unit-opened.ensures.means (drawer-kept _ _ None two_files one.kept c.requires) refl
    in let last = drawer-kept _ _ first_file second_file (opened-again (68 ∷ []) false _ second_file _ _ c.open_unit-again.result c.open_unit-again.ensures.did
    c.open_unit-again.ensures.means two.has).kept two.has
    in c.zero_blanks-zeros.ensures.means ∙ ap (λ (s : Option UnitState). zero_blanks_of s) last.is
