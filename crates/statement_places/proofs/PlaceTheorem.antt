-- What the code knows of the statements of a unit is what its lines say, whatever the names are of which the table tells.
use Rattle.std.proofs.Common.{◌≡◌, ℕ, suc, ◌+◌, ◌<◌, Bool, true, ◌&&◌, List, [], ◌∷◌, map, drop, length, Option, Some, None, refl, sym, ap, subst, ◌∙◌, arith}
use Rattle.std.specs.Prelude.{slice_get, option_map, slice_index_or}
use Rattle.std.proofs.lemmas.Option.{slice_get_within}
use Rattle.f_tree.specs.declared.statements.Stmt.{Stmt}
use Rattle.f_tree.specs.declared.units.Unit.{Unit as WrittenUnit}
use Rattle.f_tree.specs.Attributes.{from_all}
use Rattle.f_tree.specs.Facts.{Line, ProgramUnit}
use Rattle.f_tree.specs.Nests.{Range, loop_of, range_by, open_at}
use Rattle.f_tree.specs.Step.{assigned_in}
use Rattle.f_tree.specs.Lines.{Naming, loop_label_in, mark_of, form_of, line_of}
use Rattle.lowering.specs.Units.{free_at, all_named, is_named, ended_at, is_counted, own_end, range_of}
use Rattle.name_facts.specs.declared.table.NameFacts.{NameFacts}
use Rattle.name_table.specs.declared.LabelTable.{LabelTable}
use Rattle.expression_lowering.specs.TableNames.{AreFactsOf}
use Rattle.statement_lowering.specs.LoweredStatements.{is_lowered_statement}
use Rattle.open_loops.specs.declared.places.LoopPlace.{LoopPlace}
use Rattle.open_loops.specs.LoopPlaces.{AreLoopPlaces, ArePlacesOf}
use Rattle.open_loops.specs.ReadLines.{IsReadAs}
use Rattle.statement_places.specs.declared.layout.Layout.{Layout}
use Rattle.statement_places.specs.declared.places.StatementPlace.{StatementPlace}
use Rattle.statement_places.specs.declared.places.Turn.{Turn}
use Rattle.statement_places.specs.declared.sizes.Size.{Size}
use Rattle.statement_places.specs.LaidOut.{IsLaidOut, ArePlacesIn}
use Rattle.statement_places.specs.NamedLabels.{labels_of, IsLabelSet}
use Rattle.statement_places.specs.NextArms.{end_behind, first_arm, arms_from}
use Rattle.statement_places.specs.StatementPlaces.{statements_lower, AreTurns, IsStatementPlace, AreStatementPlaces, AreAllPlaces}
use Rattle.statement_places.specs.StatementSizes.{is_do_at, turn_sizes_in, free_there, free_in, ended_there, ended_in, AreSizes}
use Rattle.statement_places.specs.StepPositions.{position_in}
use Rattle.statement_places.specs.StepWays.{room_in, skip_in, turns_in, IsPlaceIn}
use Rattle.statement_places.proofs.ArmTheorem.{at_of, after_same, end_same, next_there}
use Rattle.statement_places.proofs.EndTheorem.{range_found, end_within, range_at, range_behind}
use Rattle.statement_places.proofs.ListLemmas.{by_option, beside, past_of, mapped_there, mapped_length}
use Rattle.statement_places.proofs.NamedTheorem.{lines_names}
use Rattle.statement_places.proofs.PositionTheorem.{IsPosition, position_same}
use Rattle.statement_places.proofs.SizeTheorem.{counted_lines, turns_same, SameSize, same_size}
use Rattle.statement_places.proofs.WayTheorem.{first_of, Knows, turns_are, room_same, skip_same}

-- LOOPS
free_some : (o : Option LoopPlace) (place : LoopPlace) → o ≡ Some place → free_there o ≡ place.free
unfolding free_there
free_some o place is = ap free_there is

ended_some : (o : Option LoopPlace) (place : LoopPlace) → o ≡ Some place → ended_there o ≡ place.ended.items
unfolding ended_there
ended_some o place is = ap ended_there is

there_is : {X : Type 0} (P : Type 0) (xs : List X) (k : ℕ) → k < length xs → ((x : X) → slice_get xs k ≡ Some x → P) → P
there_is P xs k h some = by_option P (slice_get xs k) some (λ none. let past = past_of xs k none in absurd (omega (arith, h, past)))

loop_free : (p : ProgramUnit) (loops : List LoopPlace) (k : ℕ) → AreLoopPlaces p loops → k < length p.lines → free_in loops k ≡ free_at p k
unfolding free_in
loop_free p loops k are h =
    let count = are.count in
    there_is (free_there (slice_get loops k) ≡ free_at p k) loops k (omega (arith, h, count)) (λ place at. free_some (slice_get loops k) place at ∙ (are.each k place at).free)

loop_ended : (p : ProgramUnit) (loops : List LoopPlace) (k : ℕ) → AreLoopPlaces p loops → k < length p.lines → ended_in loops k ≡ map first_of (ended_at p k)
unfolding ended_in
loop_ended p loops k are h =
    let count = are.count in
    there_is (ended_there (slice_get loops k) ≡ map first_of (ended_at p k)) loops k (omega (arith, h, count)) (λ place at. ended_some (slice_get loops k) place at ∙ (are.each k place at).ended)

-- ALL STATEMENTS ARE LOWERED
all_lower : (table : NameFacts) (ss : List Stmt) → ((k : ℕ) (s : Stmt) → slice_get ss k ≡ Some s → is_lowered_statement table s.body ≡ true) → statements_lower table ss ≡ true
unfolding statements_lower
all_lower table [] each = refl
all_lower table (s ∷ ss) each =
    ap (λ b. b && statements_lower table ss) (each 0 s refl) ∙ all_lower table ss (λ k t at. each (suc k) t at)

lowered_all : (table : NameFacts) (once : Bool) (assigned labels : List ℕ) (ss : List Stmt) (loops : List LoopPlace) (sizes : List Size) → AreSizes table once assigned labels ss loops sizes → statements_lower table ss ≡ true
lowered_all table once assigned labels ss loops sizes are =
    all_lower table ss
    (λ k s at. beside (is_lowered_statement table s.body ≡ true) ss sizes k s are.count at (λ size there. (are.each k size there s at).is.lowers))

-- A LINE OF A STATEMENT
record IsLine (names : Naming) (s : Stmt) (line : Line) : Type 0 where
  label : line.label ≡ s.label
  mark : line.mark ≡ mark_of s.body
  form : line.form ≡ form_of names s.body

line_is : (names : Naming) (labels : List ℕ) (s : Stmt) (line : Line) → line_of names labels s ≡ line → IsLine names s line
unfolding line_of
line_is names labels s line is = subst (IsLine names s) is (record { label = refl; mark = refl; form = refl })

line_there : (P : Type 0) (names : Naming) (labels : List ℕ) (ss : List Stmt) (p : ProgramUnit) (k : ℕ) (line : Line) → p.lines ≡ map (line_of names labels) ss → slice_get p.lines k ≡ Some line
    → ((s : Stmt) → slice_get ss k ≡ Some s → IsLine names s line → P) → P
line_there P names labels ss p k line lines at some =
    mapped_there P (line_of names labels) ss k line (ap (λ (ls : List Line). slice_get ls k) (sym lines) ∙ at) (λ s there is. some s there (line_is names labels s line is))

module _ (table : NameFacts) (once : Bool) (assigned : List ℕ) (u : WrittenUnit) (loops : List LoopPlace) (named : LabelTable (Unit {0})) (sizes : List Size) (layout : Layout) (places : List StatementPlace)
    (loops_are : ArePlacesOf table once u.statements loops) (set : IsLabelSet (from_all (labels_of table) u.statements) named)
    (sizes_are : AreSizes table once assigned (from_all (labels_of table) u.statements) u.statements loops sizes) (laid : IsLaidOut once u loops named sizes layout)
    (placed : ArePlacesIn u.statements layout places) where
  module _ (p : ProgramUnit) (names : Naming) (read : IsReadAs p once names u.statements) (told : AreFactsOf names table) (assigned_is : assigned_in p.lines ≡ assigned) where
    lengths : length p.lines ≡ length u.statements
    lengths = ap length read.lines ∙ mapped_length (line_of names (from_all loop_label_in u.statements)) u.statements

    counts : (k : ℕ) → is_counted (slice_get p.lines k) ≡ is_do_at u.statements k
    counts k = ap (λ (ls : List Line). is_counted (slice_get ls k)) read.lines ∙ counted_lines names (from_all loop_label_in u.statements) u.statements k

    labels_are : all_named p.lines ≡ from_all (labels_of table) u.statements
    labels_are =
        ap all_named read.lines
        ∙ lines_names names table told (from_all loop_label_in u.statements) u.statements (lowered_all table once assigned (from_all (labels_of table) u.statements) u.statements loops sizes sizes_are)

    named_is : (line : Line) (s : Stmt) → line.label ≡ s.label → is_named (all_named p.lines) line.label ≡ is_named (from_all (labels_of table) u.statements) s.label
    named_is line s is = ap (λ ls. is_named ls line.label) labels_are ∙ ap (is_named (from_all (labels_of table) u.statements)) is

    looped : AreLoopPlaces p loops
    looped = loops_are.meant p names read told

    size_at : (k : ℕ) (line : Line) (size : Size) → slice_get p.lines k ≡ Some line → slice_get sizes k ≡ Some size → SameSize p k line size
    size_at k line size at there =
        line_there (SameSize p k line size) names (from_all loop_label_in u.statements) u.statements p k line read.lines at
        (λ s here is.
        let h = slice_get_within p.lines k line at in
        same_size table names p k line once assigned u.statements (free_in loops k) (ended_in loops k) (is_named (from_all (labels_of table) u.statements) s.label) s.body size told read.onetrip assigned_is
        (loop_free p loops k looped h) is.form is.mark (named_is line s is.label)
        (ap (turn_sizes_in u.statements) (loop_ended p loops k looped h) ∙ sym (turns_same p u.statements counts (ended_at p k))) (sizes_are.each k size there s here))

    positioned : (k : ℕ) → IsPosition p k (position_in layout.positions k)
    positioned k = position_same p sizes layout.positions (sizes_are.count ∙ sym lengths) size_at laid.positions k

    next_is : (k : ℕ) → k < length p.lines → slice_index_or layout.arms.items k None ≡ first_arm (arms_from (suc k) (drop (suc k) u.statements))
    next_is k h =
        ap (λ arms. slice_index_or arms k None) laid.arms ∙ next_there 0 u.statements k (omega (arith, h, lengths))
        ∙ ap (λ n. first_arm (arms_from (suc n) (drop (suc k) u.statements))) (let e : 0 + k ≡ k = omega arith in e)

    range_is : (k : ℕ) → k < length p.lines → range_of (open_at p (suc k)) k ≡ range_behind k (slice_index_or layout.ends.items k None)
    range_is k h =
        there_is (range_of (open_at p (suc k)) k ≡ range_behind k (slice_index_or layout.ends.items k None)) p.lines k h
        (λ line at.
        line_there (range_of (open_at p (suc k)) k ≡ range_behind k (slice_index_or layout.ends.items k None)) names (from_all loop_label_in u.statements) u.statements p k line read.lines at
        (λ s here is.
        range_at p k line (slice_index_or layout.ends.items k None) at
        (ap (λ form. range_by p k (loop_of form)) is.form ∙ range_found names u p read.lines layout.ends.items laid.ends k s here)))

    within_is : (k last : ℕ) → k < length p.lines → slice_index_or layout.ends.items k None ≡ Some last → last < length p.lines
    within_is k last h is =
        there_is (last < length p.lines) u.statements k (omega (arith, h, lengths)) (λ s here. end_within names u p read.lines layout.ends.items laid.ends k last s here is)

    knows : Knows p u.statements layout
    knows = record {
      once = laid.once_is ∙ sym read.onetrip;
      counted = counts;
      position = positioned;
      ended = λ k h. ap (λ ls. ended_in ls k) laid.loops_are ∙ loop_ended p loops k looped h;
      next = λ k h. ap (option_map at_of) (next_is k h) ∙ sym (after_same names (from_all loop_label_in u.statements) u.statements p read.lines k);
      block = λ k h. ap (end_behind k) (next_is k h) ∙ sym (end_same names (from_all loop_label_in u.statements) u.statements p read.lines k);
      range = range_is;
      within = within_is;
    }

    set_is : IsLabelSet (from_all (labels_of table) u.statements) layout.named
    set_is = subst (IsLabelSet (from_all (labels_of table) u.statements)) (sym laid.named_are) set

    -- the loops that end with a statement
    turns_by : (from n : ℕ) (ks : List ℕ) (rs : List Range) (turns : List Turn) → n ≡ from → ks ≡ map first_of rs → turns ≡ turns_in layout.once u.statements layout.positions n ks → AreTurns p from rs turns
    turns_by from n ks rs turns same are is =
        subst (AreTurns p from rs)
        (sym (is ∙ ap (λ m. turns_in layout.once u.statements layout.positions m ks) same ∙ ap (turns_in layout.once u.statements layout.positions from) are))
        (turns_are p u.statements layout knows from rs)

    place_is : (k : ℕ) (line : Line) (s : Stmt) (place : StatementPlace) → slice_get p.lines k ≡ Some line → IsLine names s line → IsPlaceIn u.statements layout k s place → IsStatementPlace p k line place
    place_is k line s place at is known =
        let h = slice_get_within p.lines k line at in
        record {
          free = known.free ∙ ap (λ ls. free_in ls k) laid.loops_are ∙ loop_free p loops k looped h;
          named = known.named (from_all (labels_of table) u.statements) set_is ∙ sym (named_is line s is.label);
          start = known.start ∙ (positioned k).start;
          begins = known.begins ∙ (positioned k).begins;
          ends = known.ends ∙ (positioned k).ends;
          room = known.room ∙ ap (λ m. room_in u.statements layout m k) (sym is.mark) ∙ room_same p u.statements layout knows k line h;
          skip = λ arm. known.skip ∙ ap (λ m. skip_in layout m k) (sym is.mark) ∙ skip_same p u.statements layout knows line.mark k h arm;
          turns = turns_by (own_end p k) (position_in layout.positions k).own_end (ended_in layout.loops.items k) (ended_at p k) place.turns.items (positioned k).ends (knows.ended k h) known.turns;
        }

    are_places : AreStatementPlaces p places
    are_places = record {
      count = placed.count ∙ sym lengths;
      each = λ k line place at there.
          line_there (IsStatementPlace p k line place) names (from_all loop_label_in u.statements) u.statements p k line read.lines at
          (λ s here is. place_is k line s place at is (placed.each k place there s here));
    }

  all_places : AreAllPlaces table once assigned u.statements places
  all_places = record { lowers = lowered_all table once assigned (from_all (labels_of table) u.statements) u.statements loops sizes sizes_are; meant = are_places }

-- as the code hands on the lists
pub all_placed : (table : NameFacts) (once : Bool) (assigned : List ℕ) (u : WrittenUnit) (loops : List LoopPlace) (named : LabelTable (Unit {0})) (sizes : List Size) (layout : Layout) (places : List StatementPlace)
    (ss : List Stmt) (ls : List LoopPlace) (zs : List Size) → ss ≡ u.statements → ls ≡ loops → zs ≡ sizes → ArePlacesOf table once u.statements loops → IsLabelSet (from_all (labels_of table) ss) named
    → ((labels : List ℕ) → IsLabelSet labels named → AreSizes table once assigned labels ss ls sizes) → IsLaidOut once u loops named zs layout → ArePlacesIn ss layout places
    → AreAllPlaces table once assigned u.statements places
all_placed table once assigned u loops named sizes layout places ss ls zs are_statements are_loops are_sizes looped set sized laid placed =
    let all = subst (λ xs. IsLabelSet (from_all (labels_of table) xs) named) are_statements set in
    all_places table once assigned u loops named sizes layout places looped all
    (subst (λ xs. AreSizes table once assigned (from_all (labels_of table) u.statements) u.statements xs sizes) are_loops
    (subst (λ xs. AreSizes table once assigned (from_all (labels_of table) u.statements) xs ls sizes) are_statements (sized (from_all (labels_of table) u.statements) all)))
    (subst (λ xs. IsLaidOut once u loops named xs layout) are_sizes laid) (subst (λ xs. ArePlacesIn xs layout places) are_statements placed)
