-- The loops of a lowered unit open behind its first step.
use Rattle.std.specs.Prelude.{◌≡◌, ℕ, zero, suc, ◌+◌, ◌-◌, ◌≤◌, nat_eq, Bool, true, false, List, [], ◌∷◌, ◌++◌, Option, Some, None, slice_get, if◌then◌else◌}
use Rattle.std.proofs.Common.{refl, ap, subst, arith}
use Rattle.lowering.specs.l_core.f_tree.Terms.{Terms}
use Rattle.lowering.specs.l_core.f_tree.Facts as head
use Rattle.lowering.specs.l_core.f_tree.Facts.{Head, Form, Passes, On, Mark, Plain, Opens, Arm, Closes, Line, ProgramUnit, Facts}
use Rattle.lowering.specs.l_core.f_tree.Nests.{Range}
use Rattle.lowering.specs.l_core.Steps as step
use Rattle.lowering.specs.l_core.Steps.{Step, Card, OpensLoop, OpensLoopOnce, ClosesLoop, OpensWhile, ClosesWhile, OpensArm, NextArm, ClosesArm, Marked, Text}
use Rattle.lowering.specs.Units.{is_counted, ended_at, turn_size, form_size, own_start, own_end, start_of, lines_code, marked, card_mark, arm_marks, loop_marks, turn_marks, line_marks, lines_marks, text_with}
use Rattle.ways_back.specs.WaysBack.{OpensBehind, LoopsOpenBehind}
use Rattle.ways_back.proofs.LoweredTexts.{text_lowered}
use Rattle.ways_back.proofs.UnitWays.{IsDo, full_do}

AllOpenBehind : List Marked → Type 0
AllOpenBehind [] = Unit {0}
AllOpenBehind (one ∷ later) = OpensBehind one × AllOpenBehind later

behind_both : (xs ys : List Marked) → AllOpenBehind xs → AllOpenBehind ys → AllOpenBehind (xs ++ ys)
unfolding AllOpenBehind
behind_both [] ys first later = later
behind_both (x ∷ xs) ys first later = (first.0, behind_both xs ys first.1 later)

behind_at : (xs : List Marked) (k : ℕ) (one : Marked) → AllOpenBehind xs → slice_get xs k ≡ Some one → OpensBehind one
unfolding AllOpenBehind
behind_at [] k one all at = absurd (cc)
behind_at (x ∷ xs) zero one all at = subst OpensBehind (let same : x ≡ one = cc in same) all.0
behind_at (x ∷ xs) (suc k) one all at = behind_at xs k one all.1 at

-- a mark that opens no loop
other_mark : (n : ℕ) (mark : step.Mark) → (mark ≡ OpensLoop → ⊥) → (mark ≡ OpensLoopOnce → ⊥) → AllOpenBehind (marked n (mark ∷ []))
unfolding marked AllOpenBehind
other_mark n mark no_loop no_once = (record { loop = λ is. absurd (no_loop is); once = λ is. absurd (no_once is) }, tt)

late_mark : (n : ℕ) (mark : step.Mark) → 1 ≤ n → AllOpenBehind (marked n (mark ∷ []))
unfolding marked AllOpenBehind
late_mark n mark late = (record { loop = λ is. late; once = λ is. late }, tt)

no_mark : AllOpenBehind []
unfolding AllOpenBehind
no_mark = tt

chosen_marks : (b : Bool) (xs ys : List Marked) → AllOpenBehind xs → AllOpenBehind ys → AllOpenBehind (if b then xs else ys)
chosen_marks true xs ys one other = one
chosen_marks false xs ys one other = other

card_behind : (p : ProgramUnit) (i : ℕ) (line : Line) → AllOpenBehind (card_mark p i line)
unfolding card_mark
card_behind p i line =
    chosen_marks (nat_eq (form_size p i line) 0) [] (marked (own_start p i) (Card line.card ∷ [])) no_mark
    (other_mark (own_start p i) (Card line.card) (λ is. absurd (cc)) (λ is. absurd (cc)))

arms_behind : (p : ProgramUnit) (i : ℕ) (mark : Mark) → AllOpenBehind (arm_marks p i mark)
unfolding arm_marks
arms_behind p i Opens = other_mark (own_end p i) OpensArm (λ is. absurd (cc)) (λ is. absurd (cc))
arms_behind p i Arm = other_mark (own_start p i) NextArm (λ is. absurd (cc)) (λ is. absurd (cc))
arms_behind p i Closes = other_mark (start_of p i) ClosesArm (λ is. absurd (cc)) (λ is. absurd (cc))
arms_behind p i Plain = no_mark

closing_mark : (n : ℕ) (b : Bool) → AllOpenBehind (marked n ((if b then ClosesLoop else ClosesWhile) ∷ []))
closing_mark n true = other_mark n ClosesLoop (λ is. absurd (cc)) (λ is. absurd (cc))
closing_mark n false = other_mark n ClosesWhile (λ is. absurd (cc)) (λ is. absurd (cc))

turns_behind : (p : ProgramUnit) (from : ℕ) (rs : List Range) → AllOpenBehind (turn_marks p from rs)
unfolding turn_marks
turns_behind p from [] = no_mark
turns_behind p from (r ∷ rs) =
    behind_both (marked from ((if is_counted (slice_get p.lines r.first) then ClosesLoop else ClosesWhile) ∷ [])) (turn_marks p (from + turn_size p r) rs)
    (closing_mark from (is_counted (slice_get p.lines r.first))) (turns_behind p (from + turn_size p r) rs)

module _ (p : ProgramUnit) (steps : List Step) (lowered : lines_code p 0 p.lines ≡ Some steps) where
  -- a DO
  do_marks : (once : Bool) (i : ℕ) → (once ≡ false → 2 ≤ own_end p i) → 1 ≤ own_end p i → AllOpenBehind (if once then marked (own_end p i) (OpensLoopOnce ∷ []) else marked (own_end p i - 1) (OpensLoop ∷ []))
  do_marks true i tested some = late_mark (own_end p i) OpensLoopOnce some
  do_marks false i tested some = let two = tested refl in late_mark (own_end p i - 1) OpensLoop (omega (arith, two))

  head_marks : (i : ℕ) (line : Line) → slice_get p.lines i ≡ Some line → (h : Head) (ts : Terms) → line.form ≡ On h ts →
      AllOpenBehind (elim h [
        | head.ToLoop label ↦ if p.onetrip then marked (own_end p i) (OpensLoopOnce ∷ []) else marked (own_end p i - 1) (OpensLoop ∷ [])
        | head.ToTestLoop label ↦ marked (own_start p i) (OpensWhile ∷ [])
        | _ ↦ []
      ])
  head_marks i line there (head.ToLoop label) ts is =
      let found : IsDo p i (slice_get p.lines i) = record { line = line; label = label; operands = ts; there = there; form = is } in
      let full = full_do p steps lowered i found in
      do_marks p.onetrip i full.tested full.some
  head_marks i line there (head.ToTestLoop label) ts is = other_mark (own_start p i) OpensWhile (λ is. absurd (cc)) (λ is. absurd (cc))
  head_marks i line there h ts is = no_mark

  form_marks : (i : ℕ) (line : Line) → slice_get p.lines i ≡ Some line → (form : Form) → line.form ≡ form →
      AllOpenBehind (elim form [
        | Passes ↦ []
        | On h operands ↦ elim h [
          | head.ToLoop label ↦ if p.onetrip then marked (own_end p i) (OpensLoopOnce ∷ []) else marked (own_end p i - 1) (OpensLoop ∷ [])
          | head.ToTestLoop label ↦ marked (own_start p i) (OpensWhile ∷ [])
          | _ ↦ []
        ]
      ])
  form_marks i line there Passes is = no_mark
  form_marks i line there (On h ts) is = head_marks i line there h ts is

  loops_behind : (i : ℕ) (line : Line) → slice_get p.lines i ≡ Some line → AllOpenBehind (loop_marks p i line)
  unfolding loop_marks
  loops_behind i line there = form_marks i line there line.form refl

  line_behind : (i : ℕ) (line : Line) → slice_get p.lines i ≡ Some line → AllOpenBehind (line_marks p i line)
  unfolding line_marks
  line_behind i line there =
      let turns = turns_behind p (own_end p i) (ended_at p i) in
      behind_both ((arm_marks p i line.mark ++ card_mark p i line) ++ loop_marks p i line) (turn_marks p (own_end p i) (ended_at p i))
      (behind_both (arm_marks p i line.mark ++ card_mark p i line) (loop_marks p i line) (behind_both (arm_marks p i line.mark) (card_mark p i line) (arms_behind p i line.mark) (card_behind p i line)) (loops_behind i line there)) turns

  lines_behind : (lines : List Line) (i : ℕ) → ((n : ℕ) (line : Line) → slice_get lines n ≡ Some line → slice_get p.lines (i + n) ≡ Some line) → AllOpenBehind (lines_marks p i lines)
  unfolding lines_marks
  lines_behind [] i stand = no_mark
  lines_behind (line ∷ lines) i stand =
      behind_both (line_marks p i line) (lines_marks p (suc i) lines)
      (line_behind i line (subst (λ n. slice_get p.lines n ≡ Some line) (let at : i + 0 ≡ i = omega arith in at) (stand 0 line refl)))
      (lines_behind lines (suc i) (λ n other at. subst (λ k. slice_get p.lines k ≡ Some other) (let sum : i + suc n ≡ suc i + n = omega arith in sum) (stand (suc n) other at)))

  all_behind : AllOpenBehind (lines_marks p 0 p.lines)
  all_behind = lines_behind p.lines 0 (λ n line at. subst (λ k. slice_get p.lines k ≡ Some line) (let sum : n ≡ 0 + n = omega arith in sum) at)

unit_behind : (c : Facts) (x : Option (List Step)) (u : Text) → lines_code c.program 0 c.program.lines ≡ x → text_with c x ≡ Some u → AllOpenBehind u.marks
unfolding text_with
unit_behind c None u lowered e = absurd (cc)
unit_behind c (Some steps) u lowered e =
    let same : lines_marks c.program 0 c.program.lines ≡ u.marks = ap (λ (o : Option Text). marks_in o) e in
    subst AllOpenBehind same (all_behind c.program steps lowered)
  where
    marks_in : Option Text → List Marked
    marks_in None = []
    marks_in (Some t) = t.marks

pub loops_open_behind : LoopsOpenBehind
loops_open_behind c u lowered k one at = behind_at u.marks k one (unit_behind c (lines_code c.program 0 c.program.lines) u refl (text_lowered c u lowered)) at
