-- Where each statement of a unit has a property, what control comes to has it; and where it comes to nothing, the unit has no meaning.
use Rattle.std.specs.Prelude.{◌≡◌, ℕ, zero, suc, Bool, true, false, List, [], ◌∷◌, drop, filter, Option, Some, None, slice_get, if◌then◌else◌}
use Rattle.std.proofs.Common.{refl, subst}
use Rattle.fortran_totality.specs.f_tree.Values.{NoMeaning, Checked, Gives, Fails}
use Rattle.fortran_totality.specs.f_tree.Facts.{Form, Passes, On, Mark, Plain, Opens, Arm, Closes, LoopMark, Line, ProgramUnit, Frame}
use Rattle.fortran_totality.specs.f_tree.World.{View, RoundKind, Counted, While, Round, Now, Doing, Turning, Waits, Returning}
use Rattle.fortran_totality.specs.f_tree.Places.{place_of_label, is_place, Landing, settle, innermost_last, tested_at, at_range_end, landed, arrived, passed, is_in_range, branched, gone_to}

module _ (P : Form → Type 0) where
  unfoldable pub NowHas : Now → Type 0
  NowHas (Doing form) = P form
  NowHas _ = Unit {0}

  unfoldable pub ViewHas : Checked View → Type 0
  ViewHas (Gives v) = NowHas v.now
  ViewHas (Fails act) = act ≡ NoMeaning

  unfoldable pub LandHas : Checked Landing → Type 0
  LandHas (Gives l) = NowHas l.now
  LandHas (Fails act) = act ≡ NoMeaning

  unfoldable pub EachHas : List Line → Type 0
  EachHas [] = Unit {0}
  EachHas (line ∷ lines) = P line.form × EachHas lines

module _ (P : Form → Type 0) where
  pub each_from : (lines : List Line) → ((i : ℕ) (line : Line) → slice_get lines i ≡ Some line → P line.form) → EachHas P lines
  unfolding EachHas
  each_from [] all = tt
  each_from (line ∷ lines) all = (all 0 line refl, each_from lines (λ i other is. all (suc i) other is))

  pub each_dropped : (i : ℕ) (lines : List Line) → EachHas P lines → EachHas P (drop i lines)
  unfolding EachHas
  each_dropped zero lines all = all
  each_dropped (suc i) [] all = tt
  each_dropped (suc i) (line ∷ lines) all = each_dropped i lines all.1

  pub at_each : (lines : List Line) (i : ℕ) (line : Line) → EachHas P lines → slice_get lines i ≡ Some line → P line.form
  unfolding EachHas
  at_each [] i line all is = absurd (cc)
  at_each (other ∷ lines) zero line all is = let same : other ≡ line = cc in subst (λ l. P l.form) same all.0
  at_each (other ∷ lines) (suc i) line all is = at_each lines i line all.1 is

  land_if : (b : Bool) (x y : Checked Landing) → LandHas P x → LandHas P y → LandHas P (if b then x else y)
  land_if true x y one other = one
  land_if false x y one other = other

  settle_come : (i : ℕ) (terminal label : Option ℕ) (loop : LoopMark) (card : ℕ) (mark : Mark) (form : Form) (lines : List Line) → P form →
      ((skipping : Option ℕ) → LandHas P (settle (suc i) skipping terminal lines)) →
      LandHas P (settle i None terminal (record { label = label; mark = mark; loop = loop; card = card; form = form } ∷ lines))
  unfolding settle LandHas NowHas
  settle_come i terminal label loop card Arm form lines has rest = rest (Some 0)
  settle_come i terminal label loop card Plain Passes lines has rest =
      land_if (is_place terminal i) (Gives (record { at = i; now = Turning })) (settle (suc i) None terminal lines) tt (rest None)
  settle_come i terminal label loop card Plain (On head operands) lines has rest = has
  settle_come i terminal label loop card Opens Passes lines has rest =
      land_if (is_place terminal i) (Gives (record { at = i; now = Turning })) (settle (suc i) None terminal lines) tt (rest None)
  settle_come i terminal label loop card Opens (On head operands) lines has rest = has
  settle_come i terminal label loop card Closes Passes lines has rest =
      land_if (is_place terminal i) (Gives (record { at = i; now = Turning })) (settle (suc i) None terminal lines) tt (rest None)
  settle_come i terminal label loop card Closes (On head operands) lines has rest = has

  settle_behind : (i depth : ℕ) (terminal label : Option ℕ) (loop : LoopMark) (card : ℕ) (mark : Mark) (form : Form) (lines : List Line) →
      ((skipping : Option ℕ) → LandHas P (settle (suc i) skipping terminal lines)) →
      LandHas P (settle i (Some depth) terminal (record { label = label; mark = mark; loop = loop; card = card; form = form } ∷ lines))
  unfolding settle
  settle_behind i depth terminal label loop card Plain form lines rest = rest (Some depth)
  settle_behind i depth terminal label loop card Opens form lines rest = rest (Some (suc depth))
  settle_behind i depth terminal label loop card Arm form lines rest = rest (Some depth)
  settle_behind i zero terminal label loop card Closes form lines rest = rest None
  settle_behind i (suc d) terminal label loop card Closes form lines rest = rest (Some d)

  pub settle_has : (i : ℕ) (skipping terminal : Option ℕ) (lines : List Line) → EachHas P lines → LandHas P (settle i skipping terminal lines)
  unfolding EachHas settle LandHas
  settle_has i skipping terminal [] all = refl
  settle_has i None terminal (line ∷ lines) all =
      settle_come i terminal line.label line.loop line.card line.mark line.form lines all.0 (λ skipping. settle_has (suc i) skipping terminal lines all.1)
  settle_has i (Some depth) terminal (line ∷ lines) all =
      settle_behind i depth terminal line.label line.loop line.card line.mark line.form lines (λ skipping. settle_has (suc i) skipping terminal lines all.1)

  tested_parts : (f : Frame) (rounds : List Round) (i : ℕ) (label : Option ℕ) (mark : Mark) (loop : LoopMark) (card : ℕ) (form : Form) → P form →
      ViewHas P (tested_at f rounds i (Some (record { label = label; mark = mark; loop = loop; card = card; form = form })))
  unfolding tested_at ViewHas NowHas
  tested_parts f rounds i label mark loop card Passes has = refl
  tested_parts f rounds i label mark loop card (On head operands) has = has

  tested_has : (f : Frame) (rounds : List Round) (i : ℕ) (o : Option Line) → ((line : Line) → o ≡ Some line → P line.form) → ViewHas P (tested_at f rounds i o)
  unfolding tested_at ViewHas
  tested_has f rounds i None has = refl
  tested_has f rounds i (Some line) has = tested_parts f rounds i line.label line.mark line.loop line.card line.form (has line refl)

  module _ (u : ProgramUnit) (all : EachHas P u.lines) (f : Frame) where
    range_by : (first last : ℕ) (kind : RoundKind) (rounds : List Round) (i : ℕ) →
        ViewHas P (at_range_end u f (record { first = first; last = last; kind = kind } ∷ rounds) i)
    unfolding at_range_end ViewHas NowHas
    range_by first last (Counted p left by given) rounds i = tt
    range_by first last While rounds i = tested_has f rounds first (slice_get u.lines first) (λ line is. at_each u.lines first line all is)

    range_has : (rounds : List Round) (i : ℕ) → ViewHas P (at_range_end u f rounds i)
    unfolding at_range_end ViewHas
    range_has [] i = refl
    range_has (round ∷ rounds) i = range_by round.first round.last round.kind rounds i

    landed_by : (rounds : List Round) (at : ℕ) (now : Now) → NowHas P now → ViewHas P (landed u f rounds (Gives (record { at = at; now = now })))
    unfolding landed ViewHas NowHas
    landed_by rounds at (Doing form) has = has
    landed_by rounds at Turning has = range_has rounds at
    landed_by rounds at (Waits height rest) has = tt
    landed_by rounds at (Returning height) has = tt

    landed_has : (rounds : List Round) (r : Checked Landing) → LandHas P r → ViewHas P (landed u f rounds r)
    unfolding landed ViewHas LandHas
    landed_has rounds (Gives l) has = landed_by rounds l.at l.now has
    landed_has rounds (Fails act) has = has

    pub arrived_has : (rounds : List Round) (i : ℕ) → ViewHas P (arrived u f rounds i)
    unfolding arrived
    arrived_has rounds i =
        landed_has rounds (settle i None (innermost_last rounds) (drop i u.lines))
        (settle_has i None (innermost_last rounds) (drop i u.lines) (each_dropped i u.lines all))

    passed_if : (b : Bool) (rounds : List Round) (i : ℕ) → ViewHas P (if b then at_range_end u f rounds i else arrived u f rounds (suc i))
    passed_if true rounds i = range_has rounds i
    passed_if false rounds i = arrived_has rounds (suc i)

    pub passed_has : (rounds : List Round) (i : ℕ) → ViewHas P (passed u f rounds i)
    unfolding passed
    passed_has rounds i = passed_if (is_place (innermost_last rounds) i) rounds i

    branched_has : (rounds : List Round) (o : Option ℕ) → ViewHas P (branched u f rounds o)
    unfolding branched ViewHas
    branched_has rounds None = refl
    branched_has rounds (Some i) = arrived_has (filter (is_in_range i) rounds) i

    pub gone_has : (rounds : List Round) (label : ℕ) → ViewHas P (gone_to u f rounds label)
    unfolding gone_to
    gone_has rounds label = branched_has rounds (place_of_label u label)
