-- Runs, comments and the include line, by how many bytes they take.
use Rattle.std.proofs.Common.{◌≡◌, ℕ, zero, suc, ◌+◌, ◌-◌, ◌≤◌, Bool, true, false, List, [], ◌∷◌, ◌++◌, length, take, drop, get_or, refl, sym, ap, ap₂, ◌∙◌, subst, Option, Some, None, arith, append_assoc, length-append, true≢false}
use Rattle.std.specs.Cmp.Lexicographic.{pointwise, same_text}
use Rattle.std.specs.Prelude.{◌&&◌, nat_eq, bytes_eq, if◌then◌else◌, cond, is_some}
use Rattle.std.specs.List.{prefix_len}
use Rattle.std.proofs.lemmas.Bool.{and_parts, eqb-true}
use Rattle.std.proofs.lemmas.List.{drop-drop}
use Rattle.std.proofs.Math.Seq.{take-append_seam}
use Rattle.c_tree.specs.Tokens.{Cut, longer, longer_if, run, begins_with, to_comment_end, include_at, include_line, is_blank, ends_line, is_line_feed, line_feeds, last_line}
use Rattle.c_lexer.specs.Parts.{cut_at}

abbrev pub run_by : Bool → ℕ → List ℕ → Cut → Cut
run_by passes first later inner = elim passes [ true ↦ longer first inner | false ↦ record { front = []; rest = first ∷ later } ]

abbrev pub prefix_by : Bool → ℕ → ℕ
prefix_by passes more = cond passes (1 + more) 0

-- a run is the longest front that passes
pub run-is : (test : ℕ → Bool) (text : List ℕ) → run test text ≡ cut_at text (prefix_len test text)
run-is test [] = refl
run-is test (first ∷ later) = by (test first) (run-is test later)
  where
    by : (passes : Bool) → run test later ≡ cut_at later (prefix_len test later)
        → run_by passes first later (run test later) ≡ cut_at (first ∷ later) (prefix_by passes (prefix_len test later))
    by true h =
        let more : suc (prefix_len test later) ≡ 1 + prefix_len test later = omega arith in
        ap (λ cut. longer first cut) h ∙ ap (λ n. cut_at (first ∷ later) n) more
    by false h = refl

-- ## Comments

abbrev pub some_cut : List ℕ → List ℕ → Option Cut
some_cut front rest = Some (record { front = front; rest = rest })

-- a cut behind a front
abbrev pub behind : List ℕ → Option Cut → Option Cut
behind front None = None
behind front (Some cut) = Some (record { front = front ++ cut.front; rest = cut.rest })

pub behind-nothing : (cut : Option Cut) → behind [] cut ≡ cut
behind-nothing None = refl
behind-nothing (Some cut) = refl

pub behind-longer : (front : List ℕ) (byte : ℕ) (cut : Option Cut) → behind front (longer_if byte cut) ≡ behind (front ++ (byte ∷ [])) cut
behind-longer front byte None = refl
behind-longer front byte (Some cut) = ap (λ l. some_cut l cut.rest) (split front)
  where
    split : (l : List ℕ) → l ++ (byte ∷ cut.front) ≡ (l ++ (byte ∷ [])) ++ cut.front
    split [] = refl
    split (first ∷ later) = ap (λ z. first ∷ z) (split later)

-- the reader of a comment has passed these bytes, and found no end
pub record InComment (text : List ℕ) (passed : ℕ) (rest : List ℕ) : Type 0 where
  pub start : to_comment_end text ≡ behind (take passed text) (to_comment_end rest)
  pub place : drop passed text ≡ rest
  pub counted : passed + length rest ≡ length text

pub comment_begins : (text : List ℕ) → InComment text 0 text
comment_begins text = record { start = sym (behind-nothing (to_comment_end text)); place = refl; counted = omega arith }

abbrev end_by : Bool → ℕ → List ℕ → Option Cut
end_by ends first later =
    elim ends [ true ↦ Some (record { front = 42 ∷ 47 ∷ []; rest = drop 1 later }) | false ↦ longer_if first (to_comment_end later) ]

-- one byte more of a text, and what is left behind it
pub took-one : (text : List ℕ) (passed first : ℕ) (later : List ℕ) → drop passed text ≡ first ∷ later
    → (take (suc passed) text ≡ take passed text ++ (first ∷ [])) × (drop (suc passed) text ≡ later)
took-one [] zero first later h = let sizes : 0 ≡ suc (length later) = ap length h in absurd (omega (arith, sizes))
took-one [] (suc passed) first later h = let sizes : 0 ≡ suc (length later) = ap length h in absurd (omega (arith, sizes))
took-one (byte ∷ text) zero first later h =
    (ap (λ (l : List ℕ). take 1 l) h, ap (λ (l : List ℕ). drop 1 l) h)
took-one (byte ∷ text) (suc passed) first later h =
    let more = took-one text passed first later h in
    (ap (λ l. byte ∷ l) more.0, more.1)

pub comment_goes_on : (text : List ℕ) (passed next first : ℕ) (rest later : List ℕ) → InComment text passed rest → rest ≡ first ∷ later → next ≡ suc passed
    → (nat_eq first 42 && begins_with (nat_eq 47) later) ≡ false → InComment text next later
comment_goes_on text passed next first rest later now is on is_not =
    let took = took-one text passed first later (now.place ∙ is) in
    let stop : to_comment_end rest ≡ longer_if first (to_comment_end later) = ap to_comment_end is ∙ ap (λ z. end_by z first later) is_not in
    let sizes : length rest ≡ suc (length later) = ap length is in
    subst (λ n. InComment text n later) (sym on) (record {
      start = now.start ∙ ap (λ c. behind (take passed text) c) stop ∙ behind-longer (take passed text) first (to_comment_end later)
          ∙ ap (λ l. behind l (to_comment_end later)) (sym took.0);
      place = took.1;
      counted = omega (arith, now.counted, sizes);
    })

pub comment_ends : (text : List ℕ) (passed last first : ℕ) (rest later : List ℕ) → InComment text passed rest → rest ≡ first ∷ later → last ≡ suc (suc passed)
    → (nat_eq first 42 && begins_with (nat_eq 47) later) ≡ true
    → (Some (cut_at text last) ≡ to_comment_end text) × (last ≤ length text)
comment_ends text passed last first rest [] now is on is_so = absurd (true≢false (sym (and_parts (nat_eq first 42) false is_so).1))
comment_ends text passed last first rest (second ∷ more) now is on is_so =
    let parts = and_parts (nat_eq first 42) (nat_eq 47 second) is_so in
    let star : first ≡ 42 = eqb-true first 42 parts.0 in
    let slash : second ≡ 47 = sym (eqb-true 47 second parts.1) in
    let one = took-one text passed first (second ∷ more) (now.place ∙ is) in
    let two = took-one text (suc passed) second more one.1 in
    let stop : to_comment_end rest ≡ Some (record { front = 42 ∷ 47 ∷ []; rest = more }) =
    ap to_comment_end is ∙ ap (λ z. end_by z first (second ∷ more)) is_so in
    let taken : take (suc (suc passed)) text ≡ take passed text ++ (42 ∷ 47 ∷ []) =
    two.0 ∙ ap (λ l. l ++ (second ∷ [])) one.0 ∙ append_assoc (take passed text) (first ∷ []) (second ∷ [])
    ∙ ap₂ (λ a b. take passed text ++ (a ∷ b ∷ [])) star slash in
    let sizes : length rest ≡ suc (suc (length more)) = ap length is in
    subst (λ n. (Some (cut_at text n) ≡ to_comment_end text) × (n ≤ length text)) (sym on) (
      ap₂ some_cut taken two.1 ∙ sym (now.start ∙ ap (λ c. behind (take passed text) c) stop),
      omega (arith, now.counted, sizes),
    )

pub comment_unended : (text : List ℕ) (passed : ℕ) (rest : List ℕ) → InComment text passed rest → rest ≡ [] → None ≡ to_comment_end text
comment_unended text passed rest now none = sym (now.start ∙ ap (λ l. behind (take passed text) (to_comment_end l)) none)

-- behind a text without an end of a comment none is either
cut_by : Bool → ℕ → List ℕ → Option Cut → Option Cut
cut_by ends first later cut = elim ends [ true ↦ Some (record { front = 42 ∷ 47 ∷ []; rest = drop 1 later }) | false ↦ longer_if first cut ]

unended_by : (ends : Bool) (first : ℕ) (later : List ℕ) (cut : Option Cut) → cut_by ends first later cut ≡ None → cut ≡ None
unfolding cut_by
unended_by true first later cut none = absurd (true≢false (ap is_some none))
unended_by false first later None none = refl
unended_by false first later (Some cut) none = absurd (true≢false (ap is_some none))

unended_later : (first : ℕ) (later : List ℕ) → to_comment_end (first ∷ later) ≡ None → to_comment_end later ≡ None
unfolding cut_by
unended_later first later none = unended_by (nat_eq first 42 && begins_with (nat_eq 47) later) first later (to_comment_end later) none

pub still_unended : (count : ℕ) (text : List ℕ) → to_comment_end text ≡ None → to_comment_end (drop count text) ≡ None
still_unended zero text h = h
still_unended (suc count) [] h = h
still_unended (suc count) (first ∷ later) h = still_unended count later (unended_later first later h)

-- the same of the slices of the code
pub front : (slice : List ℕ) (e : ℕ) → 1 ≤ length slice → slice ≡ get_or slice 0 e ∷ drop 1 slice
front [] e some = absurd (omega arith)
front (first ∷ later) e some = refl

pub comment_goes_here : (text : List ℕ) (passed next e : ℕ) (rest later : List ℕ) → InComment text passed rest → 1 ≤ length rest → later ≡ drop 1 rest → next ≡ passed + 1
    → (nat_eq (get_or rest 0 e) 42 && begins_with (nat_eq 47) later) ≡ false → InComment text next later
comment_goes_here text passed next e rest later now some is on other =
    comment_goes_on text passed next (get_or rest 0 e) rest later now (front rest e some ∙ ap (λ l. get_or rest 0 e ∷ l) (sym is)) (omega (arith, on)) other

pub comment_ends_here : (text : List ℕ) (passed last e : ℕ) (rest later : List ℕ) → InComment text passed rest → 1 ≤ length rest → later ≡ drop 1 rest → last ≡ passed + 2
    → (nat_eq (get_or rest 0 e) 42 && begins_with (nat_eq 47) later) ≡ true
    → (Some (cut_at text last) ≡ to_comment_end text) × (last ≤ length text)
comment_ends_here text passed last e rest later now some is on ends =
    comment_ends text passed last (get_or rest 0 e) rest later now (front rest e some ∙ ap (λ l. get_or rest 0 e ∷ l) (sym is)) (omega (arith, on)) ends

-- ## The include line

abbrev include_by : Bool → Bool → List ℕ → Option (List ℕ)
include_by stands ends rest = elim stands [ true ↦ (if ends then Some rest else None) | false ↦ None ]

pub no_include : (text : List ℕ) → bytes_eq (take 16 text) include_line ≡ false → None ≡ include_at text
no_include text is_not = sym (ap (λ z. include_by z (ends_line (run is_blank (drop 16 text)).rest) (run is_blank (drop 16 text)).rest) is_not)

include_ends : (text : List ℕ) (blanks : ℕ) (ends : Bool) → bytes_eq (take 16 text) include_line ≡ true → blanks ≡ prefix_len is_blank (drop 16 text)
    → ends_line (drop blanks (drop 16 text)) ≡ ends → include_at text ≡ include_by true ends (drop (16 + blanks) text)
include_ends text blanks ends is_so is stop =
    let rest : (run is_blank (drop 16 text)).rest ≡ drop blanks (drop 16 text) =
    ap (λ (cut : Cut). cut.rest) (run-is is_blank (drop 16 text)) ∙ ap (λ n. drop n (drop 16 text)) (sym is) in
    ap (λ z. include_by z (ends_line (run is_blank (drop 16 text)).rest) (run is_blank (drop 16 text)).rest) is_so
    ∙ ap (λ l. include_by true (ends_line l) l) rest ∙ ap (λ z. include_by true z (drop blanks (drop 16 text))) stop
    ∙ ap (λ l. include_by true ends l) (drop-drop blanks 16 text)

pub include_not_alone : (text : List ℕ) (blanks : ℕ) → bytes_eq (take 16 text) include_line ≡ true → blanks ≡ prefix_len is_blank (drop 16 text)
    → ends_line (drop blanks (drop 16 text)) ≡ false → None ≡ include_at text
include_not_alone text blanks is_so is stop = sym (include_ends text blanks false is_so is stop)

pub include_alone : (text : List ℕ) (blanks : ℕ) → bytes_eq (take 16 text) include_line ≡ true → blanks ≡ prefix_len is_blank (drop 16 text)
    → ends_line (drop blanks (drop 16 text)) ≡ true → Some (drop (16 + blanks) text) ≡ include_at text
include_alone text blanks is_so is stop = sym (include_ends text blanks true is_so is stop)

-- the same of the slices of the code
begins_so : (text : List ℕ) → true ≡ pointwise nat_eq include_line (take 16 text) → bytes_eq (take 16 text) include_line ≡ true
begins_so text h = let same : include_line ≡ take 16 text = same_text include_line (take 16 text) h in ap (λ l. bytes_eq l include_line) (sym same)

pub include_here : (text later left : List ℕ) (blanks : ℕ) → true ≡ pointwise nat_eq include_line (take 16 text) → later ≡ drop 16 text
    → blanks ≡ prefix_len is_blank later → left ≡ drop blanks later → ends_line left ≡ true → Some (drop (16 + blanks) text) ≡ include_at text
include_here text later left blanks begins is counted left_is ends =
    include_alone text blanks (begins_so text begins) (counted ∙ ap (λ l. prefix_len is_blank l) is)
    (sym (ap ends_line left_is ∙ ap (λ l. ends_line (drop blanks l)) is) ∙ ends)

pub include_elsewhere : (text later left : List ℕ) (blanks : ℕ) → true ≡ pointwise nat_eq include_line (take 16 text) → later ≡ drop 16 text
    → blanks ≡ prefix_len is_blank later → left ≡ drop blanks later → ends_line left ≡ false → None ≡ include_at text
include_elsewhere text later left blanks begins is counted left_is ends =
    include_not_alone text blanks (begins_so text begins) (counted ∙ ap (λ l. prefix_len is_blank l) is)
    (sym (ap ends_line left_is ∙ ap (λ l. ends_line (drop blanks l)) is) ∙ ends)

-- ## The last line

pub last_by_feeds : (before : List ℕ) (last : ℕ) → last_line (before ++ (last ∷ [])) ≡ line_feeds before + 1
last_by_feeds [] last = refl
last_by_feeds (first ∷ []) last = by (is_line_feed first)
  where
    by : (feed : Bool) → (if feed then suc 1 else 1) ≡ (if feed then 1 else 0) + 1
    by true = refl
    by false = refl
last_by_feeds (first ∷ second ∷ later) last = by (is_line_feed first) (last_by_feeds (second ∷ later) last)
  where
    by : (feed : Bool) → last_line (second ∷ later ++ (last ∷ [])) ≡ line_feeds (second ∷ later) + 1
        → (if feed then suc (last_line (second ∷ (later ++ (last ∷ [])))) else last_line (second ∷ (later ++ (last ∷ []))))
        ≡ (if feed then suc (line_feeds (second ∷ later)) else line_feeds (second ∷ later)) + 1
    by true h = ap suc h ∙ omega arith
    by false h = h

last_one : (first : ℕ) (later : List ℕ) → (before : List ℕ) × ((last : ℕ) × (first ∷ later ≡ before ++ (last ∷ [])))
last_one first [] = ([], (first, refl))
last_one first (second ∷ later) =
    let more = last_one second later in (first ∷ more.0, (more.1.0, ap (λ l. first ∷ l) more.1.1))

all_but_last : (before : List ℕ) (last n : ℕ) → n ≡ length (before ++ (last ∷ [])) - 1 → take n (before ++ (last ∷ [])) ≡ before
all_but_last before last n is =
    let size : n ≡ length before = omega (arith, is, length-append before (last ∷ [])) in
    ap (λ k. take k (before ++ (last ∷ []))) size ∙ take-append_seam before (last ∷ [])

pub last_line_is : (bytes : List ℕ) (n feeds : ℕ) → 1 ≤ length bytes → n ≡ length bytes - 1 → feeds ≡ line_feeds (take n bytes) → feeds + 1 ≡ last_line bytes
last_line_is [] n feeds some is counted = absurd (omega arith)
last_line_is (first ∷ later) n feeds some is counted =
    let cut = last_one first later in
    let before = cut.0 in
    let last = cut.1.0 in
    let whole : first ∷ later ≡ before ++ (last ∷ []) = cut.1.1 in
    let front_is : take n (first ∷ later) ≡ before = ap (λ l. take n l) whole ∙ all_but_last before last n (is ∙ ap (λ (l : List ℕ). length l - 1) whole) in
    ap (λ k. k + 1) (counted ∙ ap line_feeds front_is) ∙ sym (last_by_feeds before last) ∙ ap last_line (sym whole)
