-- Loops that fit: nested, and entered well.
use Rattle.std.proofs.Common.{◌≡◌, ℕ, Bool, true, false, not, ◌&&◌, ◌||◌, List, sym, ap, subst, ◌∙◌}
use Rattle.std.specs.List.{list_all, list_any}
use Rattle.f_tree.specs.declared.names.Options.{Options}
use Rattle.f_tree.specs.declared.statements.Stmt.{Stmt}
use Rattle.f_tree.specs.declared.units.Unit.{Unit as WrittenUnit}
use Rattle.f_tree.specs.Facts.{ProgramUnit}
use Rattle.f_tree.specs.Attributes.{from_all}
use Rattle.f_tree.specs.Lines.{loop_label_in, entries_from, unit_read}
use Rattle.f_tree.specs.Nests.{is_no_loop}
use Rattle.lowering_laws.specs.Layout.{has_loops, blocks_are_whole, each_branches_well, enters_outside}
use Rattle.plain_forms.specs.PlainUnits.{loops_are_nested, loops_are_entered_well, loops_fit}
use Rattle.name_facts.specs.declaration_rows.NameRows.{given_names}
use Rattle.loop_ranges.specs.LoopEnds.{labelled_at}
use Rattle.loop_ranges.proofs.EndLemmas.{label_places}
use Rattle.name_table.specs.declared.LabelTable.{LabelTable}
use Rattle.name_table.specs.Named.{labelled}
use Rattle.loop_entries.specs.declared.ranges.LoopRange.{LoopRange}
use Rattle.loop_entries.specs.Branches.{ArePlaces}
use Rattle.loop_entries.specs.LoopRanges.{AreRanges}
use Rattle.loop_entries.specs.ReadLines.{IsReadAs, loop_in}
use Rattle.loop_entries.proofs.EntryLemmas.{unit_entries}
use Rattle.loop_entries.proofs.LineLemmas.{has_loops_is, unit_reads}

-- what is read of the statements of a unit
pub reads_as : (options : Options) (u : WrittenUnit) (ss : List Stmt) → ss ≡ u.statements → IsReadAs (unit_read options u) (given_names u) ss
reads_as options u ss is = subst (IsReadAs (unit_read options u) (given_names u)) (sym is) (unit_reads options u)

pub ranges_as : (p : ProgramUnit) (rs others : List LoopRange) → others ≡ rs → AreRanges p rs → AreRanges p others
ranges_as p rs others is are = subst (AreRanges p) (sym is) are

pub places_are : (options : Options) (u : WrittenUnit) (ss : List Stmt) (places : LabelTable ℕ) → ss ≡ u.statements → ((l : ℕ) → labelled places l ≡ labelled_at 0 ss l) → ArePlaces (unit_read options u) places
places_are options u ss places is found = record { at = λ l. found l ∙ ap (λ ts. labelled_at 0 ts l) is ∙ sym (label_places options u l) }

-- ENTERED WELL
pub blocks_not : (p : ProgramUnit) (whole : Bool) → whole ≡ blocks_are_whole p 0 p.lines → whole ≡ false → false ≡ loops_are_entered_well p
unfolding loops_are_entered_well
blocks_not p whole is none = sym (ap (λ b. b && (each_branches_well p 0 p.lines && list_all (enters_outside p) p.entries)) (sym is ∙ none))

pub branches_not : (p : ProgramUnit) (whole well : Bool) → whole ≡ blocks_are_whole p 0 p.lines → whole ≡ true → well ≡ each_branches_well p 0 p.lines → well ≡ false → false ≡ loops_are_entered_well p
unfolding loops_are_entered_well
branches_not p whole well is there told none =
    sym (ap (λ b. b && (each_branches_well p 0 p.lines && list_all (enters_outside p) p.entries)) (sym is ∙ there)
    ∙ ap (λ b. b && list_all (enters_outside p) p.entries) (sym told ∙ none))

pub entered_well : (options : Options) (u : WrittenUnit) (ss : List Stmt) (whole well outside : Bool) → ss ≡ u.statements → whole ≡ blocks_are_whole (unit_read options u) 0 (unit_read options u).lines → whole ≡ true
    → well ≡ each_branches_well (unit_read options u) 0 (unit_read options u).lines → well ≡ true → outside ≡ list_all (enters_outside (unit_read options u)) (entries_from 0 ss)
    → outside ≡ loops_are_entered_well (unit_read options u)
unfolding loops_are_entered_well
entered_well options u ss whole well outside same is there told yes' stands =
    let p = unit_read options u in
    stands ∙ ap (λ ts. list_all (enters_outside p) (entries_from 0 ts)) same ∙ sym (unit_entries options u)
    ∙ sym (ap (λ b. b && (each_branches_well p 0 p.lines && list_all (enters_outside p) p.entries)) (sym is ∙ there) ∙ ap (λ b. b && list_all (enters_outside p) p.entries) (sym told ∙ yes'))

-- NESTED AND ENTERED WELL
pub both_not : (p : ProgramUnit) (nested : Bool) → nested ≡ loops_are_nested p → nested ≡ false → false ≡ (loops_are_nested p && loops_are_entered_well p)
both_not p nested is none = sym (ap (λ b. b && loops_are_entered_well p) (sym is ∙ none))

pub both_well : (p : ProgramUnit) (nested well : Bool) → nested ≡ loops_are_nested p → nested ≡ true → well ≡ loops_are_entered_well p → well ≡ (loops_are_nested p && loops_are_entered_well p)
both_well p nested well is there told = told ∙ sym (ap (λ b. b && loops_are_entered_well p) (sym is ∙ there))

-- WITH LOOPS, OR WITHOUT
unit_has_loops : (options : Options) (u : WrittenUnit) (ss : List Stmt) (some : Bool) → ss ≡ u.statements → some ≡ list_any (λ (s : Stmt). not (is_no_loop (loop_in s.body))) ss
    → some ≡ has_loops (unit_read options u).lines
unit_has_loops options u ss some same is =
    is ∙ ap (list_any (λ (s : Stmt). not (is_no_loop (loop_in s.body)))) same ∙ sym (has_loops_is (given_names u) (from_all loop_label_in u.statements) u.statements)
    ∙ ap has_loops (sym (unit_reads options u).lines)

pub fit_without : (options : Options) (u : WrittenUnit) (ss : List Stmt) (some : Bool) → ss ≡ u.statements → some ≡ list_any (λ (s : Stmt). not (is_no_loop (loop_in s.body))) ss → some ≡ false
    → true ≡ loops_fit (unit_read options u)
unfolding loops_fit
fit_without options u ss some same is none =
    let p = unit_read options u in
    sym (ap (λ b. not b || (loops_are_nested p && loops_are_entered_well p)) (sym (unit_has_loops options u ss some same is) ∙ none))

pub fit_with : (options : Options) (u : WrittenUnit) (ss : List Stmt) (some well : Bool) → ss ≡ u.statements → some ≡ list_any (λ (s : Stmt). not (is_no_loop (loop_in s.body))) ss → some ≡ true
    → well ≡ (loops_are_nested (unit_read options u) && loops_are_entered_well (unit_read options u)) → well ≡ loops_fit (unit_read options u)
unfolding loops_fit
fit_with options u ss some well same is there told =
    let p = unit_read options u in
    told ∙ sym (ap (λ b. not b || (loops_are_nested p && loops_are_entered_well p)) (sym (unit_has_loops options u ss some same is) ∙ there))
