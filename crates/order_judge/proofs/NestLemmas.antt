-- The nest of IF blocks by the refusals of those that are open.
use Rattle.std.proofs.Common.{◌≡◌, ℕ, suc, ◌+◌, ◌-◌, ◌<◌, List, [], ◌∷◌, ◌++◌, drop, drop-cons, get_or, length, map, reverse, refl, sym, ap, subst, ◌∙◌, arith}
use Rattle.std.proofs.lemmas.List.{append-nil, reverse-append, length-reverse}
use Rattle.f_tree.specs.Facts.{Mark, Plain, Opens, Arm, Closes}
use Rattle.f_tree.specs.Lines.{mark_of}
use Rattle.f_tree.specs.declared.refusals.Kind.TheVariants.{BadIfNest}
use Rattle.f_tree.specs.declared.refusals.Refusal.{Refusal}
use Rattle.f_tree.specs.declared.statements.Stmt.{Stmt}
use Rattle.declaration_rows.specs.NameRows.{stood}
use Rattle.declaration_rows.specs.UnitRows.{nest_row, around_behind, left_open, nest_rows}
use Rattle.order_judge.specs.declared.marks.BlockMark.{BlockMark}
use Rattle.order_judge.specs.NestSteps.{mark_in, unended, AreOpen, Nests}

-- of a list one more at the end is one more in front of the reversed list
turned : (open_blocks : List Refusal) (r : Refusal) → reverse (open_blocks ++ r ∷ []) ≡ r ∷ reverse open_blocks
turned open_blocks r = reverse-append open_blocks (r ∷ [])

none_around : (around : List Stmt) → [] ≡ map unended around → around ≡ []
none_around [] is = refl
none_around (s ∷ around) is = absurd (cc)

pub plain_nests : (s : Stmt) (found open_blocks : List Refusal) → Nests Plain s found found open_blocks open_blocks
unfolding nest_row around_behind
plain_nests s found open_blocks = record { rows = λ around known. sym (append-nil found); around = λ around known. known }

pub opens_nests : (s : Stmt) (found open_blocks after : List Refusal) → after ≡ open_blocks ++ unended s ∷ [] → Nests Opens s found found open_blocks after
unfolding nest_row around_behind
opens_nests s found open_blocks after is = record {
  rows = λ around known. sym (append-nil found);
  around = λ around known. record { is = ap reverse is ∙ turned open_blocks (unended s) ∙ ap (λ rs. unended s ∷ rs) known.is };
}

arm_of_none : (s : Stmt) (around : List Stmt) → around ≡ [] → nest_row Arm around s ≡ stood s (BadIfNest ∷ [])
unfolding nest_row
arm_of_none s around is = ap (λ a. nest_row Arm a s) is

closes_of_none : (s : Stmt) (around : List Stmt) → around ≡ [] → nest_row Closes around s ≡ stood s (BadIfNest ∷ [])
unfolding nest_row
closes_of_none s around is = ap (λ a. nest_row Closes a s) is

behind_none : (s : Stmt) (around : List Stmt) → around ≡ [] → around_behind Closes around s ≡ around
unfolding around_behind
behind_none s around is = ap (λ a. around_behind Closes a s) is ∙ sym is

behind_arm : (s : Stmt) (around : List Stmt) → around_behind Arm around s ≡ around
unfolding around_behind
behind_arm s around = refl

arm_of_some : (s : Stmt) (around : List Stmt) (r : Refusal) (rs : List Refusal) → r ∷ rs ≡ map unended around → nest_row Arm around s ≡ []
unfolding nest_row
arm_of_some s [] r rs is = absurd (cc)
arm_of_some s (o ∷ around) r rs is = refl

pub arm_nests_none : (s : Stmt) (found after open_blocks : List Refusal) → open_blocks ≡ [] → after ≡ found ++ stood s (BadIfNest ∷ []) → Nests Arm s found after open_blocks open_blocks
arm_nests_none s found after open_blocks none put = record {
  rows = λ around known. put ∙ ap (λ rows. found ++ rows) (sym (arm_of_none s around (none_around around (sym (ap reverse none) ∙ known.is))));
  around = λ around known. subst (AreOpen open_blocks) (sym (behind_arm s around)) known;
}

arm_rows : (s : Stmt) (found open_blocks : List Refusal) (around : List Stmt) → 0 < length open_blocks → AreOpen open_blocks around → found ≡ found ++ nest_row Arm around s
arm_rows s found open_blocks around some known = by (reverse open_blocks) refl
  where
    by : (rs : List Refusal) → reverse open_blocks ≡ rs → found ≡ found ++ nest_row Arm around s
    by [] is = absurd (let e = length-reverse open_blocks in let f = ap length is in omega (arith, e, f))
    by (r ∷ rs) is = sym (ap (λ rows. found ++ rows) (arm_of_some s around r rs (sym is ∙ known.is)) ∙ append-nil found)

pub arm_nests_some : (s : Stmt) (found open_blocks : List Refusal) → 0 < length open_blocks → Nests Arm s found found open_blocks open_blocks
arm_nests_some s found open_blocks some = record {
  rows = λ around known. arm_rows s found open_blocks around some known;
  around = λ around known. subst (AreOpen open_blocks) (sym (behind_arm s around)) known;
}

closes_rows : (s : Stmt) (found : List Refusal) (r : Refusal) (rs : List Refusal) (around : List Stmt) → r ∷ rs ≡ map unended around → found ≡ found ++ nest_row Closes around s
unfolding nest_row
closes_rows s found r rs [] is = absurd (cc)
closes_rows s found r rs (o ∷ around) is = sym (append-nil found)

closes_around : (s : Stmt) (r : Refusal) (after : List Refusal) (around : List Stmt) → r ∷ reverse after ≡ map unended around → AreOpen after (around_behind Closes around s)
unfolding around_behind
closes_around s r after [] is = absurd (cc)
closes_around s r after (o ∷ around) is = record { is = cc }

pub closes_nests_some : (s : Stmt) (found open_blocks after : List Refusal) (r : Refusal) → open_blocks ≡ after ++ r ∷ [] → Nests Closes s found found open_blocks after
closes_nests_some s found open_blocks after r is = record {
  rows = λ around known. closes_rows s found r (reverse after) around (sym (turned after r) ∙ sym (ap reverse is) ∙ known.is);
  around = λ around known. closes_around s r after around (sym (turned after r) ∙ sym (ap reverse is) ∙ known.is);
}

pub closes_nests_none : (s : Stmt) (found after open_blocks behind : List Refusal) → open_blocks ≡ [] → behind ≡ [] → after ≡ found ++ stood s (BadIfNest ∷ [])
    → Nests Closes s found after open_blocks behind
closes_nests_none s found after open_blocks behind none still put = record {
  rows = λ around known. put ∙ ap (λ rows. found ++ rows) (sym (closes_of_none s around (none_around around (sym (ap reverse none) ∙ known.is))));
  around = λ around known.
      subst (AreOpen behind) (sym (behind_none s around (none_around around (sym (ap reverse none) ∙ known.is))))
      (record { is = ap reverse (still ∙ sym none) ∙ known.is });
}

-- the mark that the code reads
pub nests_as : (mark known : BlockMark) (written : Mark) (s : Stmt) (found after open_blocks behind : List Refusal) → mark_in mark ≡ written → mark ≡ known
    → Nests (mark_in known) s found after open_blocks behind → Nests written s found after open_blocks behind
nests_as mark known written s found after open_blocks behind reads is nests =
    subst (λ m. Nests m s found after open_blocks behind) (sym (ap mark_in is) ∙ reads) nests

pub nests_in : (a b : List Refusal) (mark : Mark) (s : Stmt) (found after : List Refusal) → a ≡ b → Nests mark s found after a a → Nests mark s found after b b
nests_in a b mark s found after same nests = subst (λ o. Nests mark s found after o o) same nests

-- over a list of statements
abbrev pub row_of : List Stmt → Stmt → List Refusal
row_of around s = nest_row (mark_of s.body) around s

abbrev pub behind_of : List Stmt → Stmt → List Stmt
behind_of around s = around_behind (mark_of s.body) around s

pub nest_step : (around : List Stmt) (s : Stmt) (ss : List Stmt) → nest_rows around (s ∷ ss) ≡ row_of around s ++ nest_rows (behind_of around s) ss
unfolding nest_rows
nest_step around s ss = refl

left_is : (around : List Stmt) → left_open around ≡ map unended around
unfolding left_open unended stood
left_is [] = refl
left_is (s ∷ around) = ap (λ rs. unended s ∷ rs) (left_is around)

pub nest_left : (open_blocks : List Refusal) (around : List Stmt) → AreOpen open_blocks around → nest_rows around [] ≡ reverse open_blocks
unfolding nest_rows
nest_left open_blocks around known = left_is around ∙ sym known.is

pub unended_more : (rs : List Refusal) (i : ℕ) (d : Refusal) → i < length rs → reverse (drop (length rs - (i + 1)) rs) ≡ reverse (drop (length rs - i) rs) ++ get_or rs (length rs - 1 - i) d ∷ []
unended_more rs i d h =
    let same : length rs - 1 - i ≡ length rs - (i + 1) = omega arith in
    let next : suc (length rs - (i + 1)) ≡ length rs - i = omega arith in
    ap reverse (drop-cons rs (length rs - (i + 1)) d (omega arith)) ∙ reverse-append (get_or rs (length rs - (i + 1)) d ∷ []) (drop (suc (length rs - (i + 1))) rs)
    ∙ ap (λ n. reverse (drop n rs) ++ get_or rs (length rs - (i + 1)) d ∷ []) next
    ∙ ap (λ n. reverse (drop (length rs - i) rs) ++ get_or rs n d ∷ []) (sym same)
