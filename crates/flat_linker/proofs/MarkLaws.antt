-- Labels that are put into a table, one part after the other.
use Rattle.std.proofs.Common.{◌≡◌, refl, sym, ap, ◌∙◌, subst, ℕ, ◌+◌, ◌<◌, ◌≤◌, Bool, true, false, List, [], ◌∷◌, ◌++◌, length, drop, get_or, Option, Some, None, Result, Ok, Err, IfOk, bytes_eq, if◌then◌else◌, arith}
use Rattle.std.proofs.lemmas.List.{at_drop_more, at_drop_all}
use Rattle.c_tree.specs.declared.expression.CExpr.{CExpr}
use Rattle.c_tree.specs.declared.statement.CStmt.{CStmt}
use Rattle.c_tree.specs.FlatForm.{LabelAt, Body, position_of, body, body_of_all, if_else}
use Rattle.first_names.specs.FirstNames.{first_of, or_later}
use Rattle.first_names.specs.declared.FirstNames.{FirstNames}
use Rattle.flat_linker.specs.LabelMarks.{Marked}

pub later-none : (before : Option ℕ) → before ≡ or_later before None
later-none (Some x) = refl
later-none None = refl

later-along : (a b c : Option ℕ) → or_later (or_later a b) c ≡ or_later a (or_later b c)
later-along (Some x) b c = refl
later-along None b c = refl

chosen : (test : Bool) (x : ℕ) (a b : Option ℕ) → (if test then Some x else or_later a b) ≡ or_later (if test then Some x else a) b
chosen true x a b = refl
chosen false x a b = refl

pub position-append : (a b : List LabelAt) (q : List ℕ) → position_of (a ++ b) q ≡ or_later (position_of a q) (position_of b q)
position-append [] b q = refl
position-append (one ∷ a) b q =
    ap (λ z. if bytes_eq q one.name then Some one.position else z) (position-append a b q)
    ∙ chosen (bytes_eq q one.name) one.position (position_of a q) (position_of b q)

-- one part after the other
pub marked-more : (a b : List LabelAt) (size size' position middle behind : ℕ) (before mid now : FirstNames ℕ) → Marked a size position middle before mid → Marked b size' middle behind mid now →
    Marked (a ++ b) (size + size') position behind before now
marked-more a b size size' position middle behind before mid now one two = record {
  given = λ q.
      two.given q
      ∙ ap (λ z. or_later z (position_of b q)) (one.given q)
      ∙ later-along (first_of before q) (position_of a q) (position_of b q)
      ∙ ap (λ z. or_later (first_of before q) z) (sym (position-append a b q));
  place = let h1 = one.place in let h2 = two.place in omega (arith, h1, h2);
}

pub marked-as : (a b : List LabelAt) (size size' position behind : ℕ) (before now : FirstNames ℕ) → b ≡ a → size' ≡ size → Marked a size position behind before now → Marked b size' position behind before now
marked-as a b size size' position behind before now labels sizes h =
    subst (λ z. Marked z size' position behind before now) (sym labels) (subst (λ z. Marked a z position behind before now) (sym sizes) h)

-- items before and behind that have no labels
pub marked-among : (labels labels' : List LabelAt) (size size' lead extra position position' behind behind' : ℕ) (before now : FirstNames ℕ) → labels ≡ labels' → size ≡ lead + (size' + extra) → position' ≡ position + lead →
    behind ≡ behind' + extra → Marked labels' size' position' behind' before now → Marked labels size position behind before now
marked-among labels labels' size size' lead extra position position' behind behind' before now same h1 h2 h3 h = record {
  given = λ q. h.given q ∙ ap (λ z. or_later (first_of before q) (position_of z q)) (sym same);
  place = let h4 = h.place in omega (arith, h1, h2, h3, h4);
}

module _ {E : Type 0} where
  -- a statement with no labels
  pub plain-arm : (r : Result ℕ E) (b : Body) (k position : ℕ) (marks : FirstNames ℕ) → b.labels position ≡ [] → b.size ≡ k → IfOk r (λ s. s ≡ position + k) → IfOk r (λ s. Marked (b.labels position) b.size position s marks marks)
  plain-arm (Ok s) b k position marks labels size h = record {
    given = λ q. later-none (first_of marks q) ∙ sym (ap (λ z. or_later (first_of marks q) (position_of z q)) labels);
    place = h ∙ ap (λ n. position + n) (sym size);
  }
  plain-arm (Err e) b k position marks labels size h = h

  pub arm-as : (r : Result ℕ E) (a b : List LabelAt) (size size' position : ℕ) (before now : FirstNames ℕ) → b ≡ a → size' ≡ size → IfOk r (λ s. Marked a size position s before now) → IfOk r (λ s. Marked b size' position s before now)
  arm-as (Ok s) a b size size' position before now labels sizes h = marked-as a b size size' position s before now labels sizes h
  arm-as (Err e) a b size size' position before now labels sizes h = h

  pub arm-more : (r : Result ℕ E) (a b : List LabelAt) (size size' position middle : ℕ) (before mid now : FirstNames ℕ) → Marked a size position middle before mid → IfOk r (λ s. Marked b size' middle s mid now) →
      IfOk r (λ s. Marked (a ++ b) (size + size') position s before now)
  arm-more (Ok s) a b size size' position middle before mid now one two = marked-more a b size size' position middle s before mid now one two
  arm-more (Err e) a b size size' position middle before mid now one two = two

  pub arm-among : (r : Result ℕ E) (labels labels' : List LabelAt) (size size' lead extra position position' behind' : ℕ) (before now : FirstNames ℕ) → labels ≡ labels' → size ≡ lead + (size' + extra) → position' ≡ position + lead →
      IfOk r (λ s. s ≡ behind' + extra) → Marked labels' size' position' behind' before now → IfOk r (λ s. Marked labels size position s before now)
  arm-among (Ok s) labels labels' size size' lead extra position position' behind' before now same h1 h2 h3 h =
      marked-among labels labels' size size' lead extra position position' s behind' before now same h1 h2 h3 h
  arm-among (Err e) labels labels' size size' lead extra position position' behind' before now same h1 h2 h3 h = h3

module _ (test : CExpr) (first second : Body) (position arm behind over : ℕ) (before mid now : FirstNames ℕ) where
  both_sum : (p f s : ℕ) → 2 + f + s ≡ (1 + (f + 1)) + s
  both_sum p f s = omega arith

  both-marked : (last : ℕ) → arm ≡ position + 1 → over ≡ behind + 1 → Marked (first.labels arm) first.size arm behind before mid → Marked (second.labels over) second.size over last mid now →
      Marked ((if_else test first second).labels position) (if_else test first second).size position last before now
  both-marked last h1 h2 one two =
      let h3 : behind ≡ arm + first.size = one.place in
      let there : position + 2 + first.size ≡ over = omega (arith, h1, h2, h3) in
      marked-as (first.labels (position + 1) ++ second.labels over) ((if_else test first second).labels position) ((1 + (first.size + 1)) + second.size) (if_else test first second).size position last before now
      (λ i. first.labels (position + 1) ++ second.labels (there i)) (both_sum position first.size second.size)
      (marked-more (first.labels (position + 1)) (second.labels over) (1 + (first.size + 1)) second.size position over last before mid now
      (marked-among (first.labels (position + 1)) (first.labels arm) (1 + (first.size + 1)) first.size 1 1 position arm over behind before mid (λ i. first.labels (sym h1 i)) refl h1 h2 one) two)

  pub both-arms : {E : Type 0} (r : Result ℕ E) → arm ≡ position + 1 → over ≡ behind + 1 → Marked (first.labels arm) first.size arm behind before mid → IfOk r (λ s. Marked (second.labels over) second.size over s mid now) →
      IfOk r (λ s. Marked ((if_else test first second).labels position) (if_else test first second).size position s before now)
  both-arms (Ok s) h1 h2 one two = both-marked s h1 h2 one two
  both-arms (Err e) h1 h2 one two = two

-- a label in front
pub marked-one : (name : List ℕ) (position : ℕ) (before mid : FirstNames ℕ) → ((q : List ℕ) → first_of mid q ≡ or_later (first_of before q) (if bytes_eq q name then Some position else None)) →
    Marked (record { name = name; position = position } ∷ []) 0 position position before mid
marked-one name position before mid h = record { given = h; place = omega arith }

-- ## Lists

-- what marks the rest marks the whole
abbrev pub Finishes : List CStmt → List CStmt → ℕ → ℕ → FirstNames ℕ → FirstNames ℕ → Type 0
Finishes whole rest position middle before mid =
    (behind : ℕ) (now : FirstNames ℕ) → Marked ((body_of_all rest).labels middle) (body_of_all rest).size middle behind mid now → Marked ((body_of_all whole).labels position) (body_of_all whole).size position behind before now

pub finish-more : (list : List CStmt) (i : ℕ) (a : CStmt) (position middle next : ℕ) (before mid now : FirstNames ℕ) → i < length list → a ≡ get_or list i a → Finishes list (drop i list) position middle before mid →
    Marked ((body a).labels middle) (body a).size middle next mid now → Finishes list (drop (i + 1) list) position next before now
finish-more list i a position middle next before mid now inside is finishes here = λ behind last h.
    let rest : drop i list ≡ a ∷ drop (i + 1) list = at_drop_more (λ z. z) list i a inside ∙ ap (λ z. z ∷ drop (i + 1) list) (sym is) in
    let there : Marked ((body_of_all (drop (i + 1) list)).labels (middle + (body a).size)) (body_of_all (drop (i + 1) list)).size next behind now last =
    subst (λ p. Marked ((body_of_all (drop (i + 1) list)).labels p) (body_of_all (drop (i + 1) list)).size next behind now last) here.place h in
    finishes behind last
    (subst (λ z. Marked ((body_of_all z).labels middle) (body_of_all z).size middle behind mid last) (sym rest)
    (marked-more ((body a).labels middle) ((body_of_all (drop (i + 1) list)).labels (middle + (body a).size)) (body a).size (body_of_all (drop (i + 1) list)).size middle next behind mid now last here there))

pub finish-end : (list : List CStmt) (i position middle : ℕ) (before mid : FirstNames ℕ) → length list ≤ i → Finishes list (drop i list) position middle before mid →
    Marked ((body_of_all list).labels position) (body_of_all list).size position middle before mid
finish-end list i position middle before mid past finishes =
    let rest : drop i list ≡ [] = at_drop_all (λ z. z) list i past in
    finishes middle mid
    (subst (λ z. Marked ((body_of_all z).labels middle) (body_of_all z).size middle middle mid mid) (sym rest)
    (record { given = λ q. later-none (first_of mid q); place = omega arith }))
