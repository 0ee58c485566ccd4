-- F07 of INCLUDE, from what each name counts.
use Rattle.std.specs.Prelude.{◌≡◌, ◌<◌, ◌≤◌, ◌+◌, ℕ, zero, suc, nat_lt, Bool, true, false, cond, ◌||◌, bytes_eq, List, [], ◌∷◌, ◌++◌, length, map, drop, slice_get, unwrap_or, Option, Some, None, is_some, if◌then◌else◌}
use Rattle.std.proofs.Common.{refl, sym, ap, ◌∙◌, subst, arith, get_or}
use Rattle.std.proofs.lemmas.List.{drop_more, drop_all}
use Rattle.f_tree.specs.Uses.{is_among}
use Rattle.f_tree.specs.declared.refusals.Kind.TheVariants.{FileTooLong}
use Rattle.f_tree.specs.declared.refusals.Refusal.{Refusal}
use Rattle.fortran_text.specs.FirstFault.{most_cards}
use Rattle.fortran_text.specs.StatementsOfFile.{FileCards}
use Rattle.fortran_text.specs.declared.source.Statement.{Statement}
use Rattle.source_acceptance.specs.SourceFiles.{Included, included_name, names_in, statements_in, mentioned_from, first_mentions, cards_of_included, passes_at}
use Rattle.source_acceptance.specs.Acceptance.{Counts}
use Rattle.source_reader.specs.Limits.{first_named, count_at, added, passes, too_long_at, passing, first_passing}
use Rattle.source_reader.specs.PartReading.{counted_by, or_else}
use Rattle.source_reader.specs.SourceReading.{entries}
use Rattle.source_reader.proofs.MentionLemmas.{turned, same_bytes, bytes_same}
use Rattle.source_reader.proofs.PartLemmas.{one_count}

some_once : {A : Type 0} (a b : A) → Some a ≡ Some b → a ≡ b
some_once a b same = cc

none_some : {A : Type 0} (a : A) → None ≡ Some a → ⊥
none_some a same = absurd (cc)

-- BY NAME
named_first : {A : Type 0} (n : List ℕ) (ns : List (List ℕ)) (v : A) (vs : List A) (x : List ℕ) →
    first_named (n ∷ ns) (v ∷ vs) x ≡ (if bytes_eq n x then Some v else first_named ns vs x)
unfolding first_named
named_first n ns v vs x = refl

named_none : {A : Type 0} (x : List ℕ) → first_named {A = A} [] [] x ≡ None
unfolding first_named
named_none x = refl

cond_is : {A : Type 0} (b : Bool) (x y : A) → cond b x y ≡ (if b then x else y)
cond_is true x y = refl
cond_is false x y = refl

pub naming_starts : {A : Type 0} (names : List (List ℕ)) (values : List A) (left : ℕ) (x : List ℕ) → length names ≤ left → length values ≤ left →
    None ≡ first_named (drop left names) (drop left values) x
naming_starts names values left x past over =
    sym (ap (λ l. first_named l (drop left values) x) (drop_all left names past) ∙ (ap (λ l. first_named [] l x) (drop_all left values over) ∙ named_none x))

pub naming_goes_on : {A : Type 0} (names : List (List ℕ)) (values : List A) (left : ℕ) (n : List ℕ) (v : A) (old new : Option A) (x : List ℕ) →
    left < length names → left < length values → n ≡ get_or names left n → v ≡ get_or values left v →
    old ≡ first_named (drop (left + 1) names) (drop (left + 1) values) x → new ≡ cond (bytes_eq n x) (Some v) old →
    new ≡ first_named (drop left names) (drop left values) x
naming_goes_on names values left n v old new x within also name_is value_is so_far step =
    step ∙ (cond_is (bytes_eq n x) (Some v) old
    ∙ (ap (λ o. if bytes_eq n x then Some v else o) so_far
    ∙ (sym (named_first n (drop (left + 1) names) v (drop (left + 1) values) x)
    ∙ (ap (λ l. first_named l (v ∷ drop (left + 1) values) x) (sym (drop_more names left n within ∙ ap (λ t. t ∷ drop (left + 1) names) (sym name_is)))
    ∙ ap (λ l. first_named (drop left names) l x) (sym (drop_more values left v also ∙ ap (λ t. t ∷ drop (left + 1) values) (sym value_is)))))))

-- IN A LOOP
passes_first : (count : List ℕ → ℕ) (sum : ℕ) (s : Statement) (ss : List Statement) (o : Option ℕ) → added sum (count_at count (included_name s)) ≡ o →
    passes count sum (s ∷ ss) ≡ elim o [ None ↦ Some s.card | Some more ↦ passes count more ss ]
unfolding passes
passes_first count sum s ss o is = ap (λ p. elim p [ None ↦ Some s.card | Some more ↦ passes count more ss ]) is

passes_none : (count : List ℕ → ℕ) (sum : ℕ) → passes count sum [] ≡ None
unfolding passes
passes_none count sum = refl

pub passes_go_on : (count : List ℕ → ℕ) (total : Option ℕ) (ss : List Statement) (i : ℕ) (s : Statement) (sum more : ℕ) (o : Option ℕ) → i < length ss →
    s ≡ get_or ss i s → total ≡ passes count sum (drop i ss) → o ≡ count_at count (included_name s) → Some more ≡ added sum o →
    total ≡ passes count more (drop (i + 1) ss)
passes_go_on count total ss i s sum more o within is so_far count_is step =
    so_far ∙ (ap (passes count sum) (drop_more ss i s within ∙ ap (λ t. t ∷ drop (i + 1) ss) (sym is))
    ∙ passes_first count sum s (drop (i + 1) ss) (Some more) (ap (added sum) (sym count_is) ∙ sym step))

pub passes_stop : (count : List ℕ → ℕ) (total : Option ℕ) (ss : List Statement) (i : ℕ) (s : Statement) (sum : ℕ) (o : Option ℕ) → i < length ss →
    s ≡ get_or ss i s → total ≡ passes count sum (drop i ss) → o ≡ count_at count (included_name s) → None ≡ added sum o → Some s.card ≡ total
passes_stop count total ss i s sum o within is so_far count_is step =
    sym (so_far ∙ (ap (passes count sum) (drop_more ss i s within ∙ ap (λ t. t ∷ drop (i + 1) ss) (sym is))
    ∙ passes_first count sum s (drop (i + 1) ss) None (ap (added sum) (sym count_is) ∙ sym step)))

pub passes_end : (count : List ℕ → ℕ) (total : Option ℕ) (ss : List Statement) (i : ℕ) (sum : ℕ) → length ss ≤ i → total ≡ passes count sum (drop i ss) → None ≡ total
passes_end count total ss i sum past so_far = sym (so_far ∙ (ap (passes count sum) (drop_all i ss past) ∙ passes_none count sum))

file_first : (count : List ℕ → ℕ) (file : ℕ) (c : FileCards) (more : List FileCards) →
    first_passing count file (c ∷ more) ≡ or_else (passing count file c) (first_passing count (suc file) more)
unfolding first_passing
file_first count file c more = refl

no_file : (count : List ℕ → ℕ) (file : ℕ) → first_passing count file [] ≡ None
unfolding first_passing
no_file count file = refl

not_some : {A : Type 0} (o : Option A) → is_some o ≡ false → o ≡ None
not_some None is = refl
not_some (Some x) is = absurd (let e : true ≡ false = is in cc)

pub files_go_on : (count : List ℕ → ℕ) (files : List FileCards) (i : ℕ) (c : FileCards) (o : Option Refusal) → i < length files → c ≡ get_or files i c →
    first_passing count 0 files ≡ first_passing count i (drop i files) → o ≡ passing count i c → is_some o ≡ false →
    first_passing count 0 files ≡ first_passing count (i + 1) (drop (i + 1) files)
files_go_on count files i c o within is so_far row none =
    so_far ∙ (ap (first_passing count i) (drop_more files i c within ∙ ap (λ t. t ∷ drop (i + 1) files) (sym is))
    ∙ (file_first count i c (drop (i + 1) files)
    ∙ (ap (λ p. or_else p (first_passing count (suc i) (drop (i + 1) files))) (sym row ∙ not_some o none)
    ∙ ap (λ n. first_passing count n (drop (i + 1) files)) (let e : suc i ≡ i + 1 = omega arith in e))))

is_it : {A : Type 0} (o : Option A) → is_some o ≡ true → (x : A) × (o ≡ Some x)
is_it None is = absurd (let e : false ≡ true = is in cc)
is_it (Some x) is = (x, refl)

pub files_stop : (count : List ℕ → ℕ) (files : List FileCards) (i : ℕ) (c : FileCards) (o : Option Refusal) → i < length files → c ≡ get_or files i c →
    first_passing count 0 files ≡ first_passing count i (drop i files) → o ≡ passing count i c → is_some o ≡ true → o ≡ first_passing count 0 files
files_stop count files i c o within is so_far row some =
    let r = is_it o some in
    r.1 ∙ sym (so_far ∙ (ap (first_passing count i) (drop_more files i c within ∙ ap (λ t. t ∷ drop (i + 1) files) (sym is))
    ∙ (file_first count i c (drop (i + 1) files) ∙ ap (λ p. or_else p (first_passing count (suc i) (drop (i + 1) files))) (sym row ∙ r.1))))

pub files_end : (count : List ℕ → ℕ) (files : List FileCards) (i : ℕ) → length files ≤ i → first_passing count 0 files ≡ first_passing count i (drop i files) →
    None ≡ first_passing count 0 files
files_end count files i past so_far = sym (so_far ∙ (ap (first_passing count i) (drop_all i files past) ∙ no_file count i))

-- WHICH FILE IS TOO LONG
row_none : (file : ℕ) (o : Option ℕ) → too_long_at file o ≡ None → o ≡ None
row_none file None is = refl
row_none file (Some card) is = absurd (cc)

abbrev pub NonePasses : (List ℕ → ℕ) → List FileCards → ℕ → Type 0
NonePasses count files before = (j : ℕ) (c : FileCards) → j < before → slice_get files j ≡ Some c → passes count c.cards c.statements ≡ None

pub record PassingAt (count : List ℕ → ℕ) (file : ℕ) (files : List FileCards) (r : Refusal) : Type 0 where
  pub place : ℕ
  pub cards : FileCards
  pub is : slice_get files place ≡ Some cards
  pub row : passing count (file + place) cards ≡ Some r
  pub before : NonePasses count files place

none_in_first : (count : List ℕ → ℕ) (file : ℕ) (c : FileCards) (more : List FileCards) (before : ℕ) → passing count file c ≡ None → NonePasses count more before →
    NonePasses count (c ∷ more) (suc before)
none_in_first count file c more before none rest zero d low is =
    ap (λ (f : FileCards). passes count f.cards f.statements) (sym (some_once c d is)) ∙ row_none file (passes count c.cards c.statements) none
none_in_first count file c more before none rest (suc j) d low is = rest j d (omega arith) is

pub passing_none : (count : List ℕ → ℕ) (file : ℕ) (files : List FileCards) → first_passing count file files ≡ None → NonePasses count files (length files)
passing_none count file [] none = λ j c low is. absurd (omega arith)
passing_none count file (d ∷ files) none =
    none_by (passing count file d) refl (λ rest. passing_none count (suc file) files rest)
  where
    none_by : (o : Option Refusal) → passing count file d ≡ o → (first_passing count (suc file) files ≡ None → NonePasses count files (length files)) →
        NonePasses count (d ∷ files) (length (d ∷ files))
    none_by None is rest =
        none_in_first count file d files (length files) is
        (rest (sym (ap (λ p. or_else p (first_passing count (suc file) files)) is) ∙ (sym (file_first count file d files) ∙ none)))
    none_by (Some r) is rest =
        absurd (none_some r (sym none ∙ (file_first count file d files ∙ ap (λ p. or_else p (first_passing count (suc file) files)) is)))

passing_behind : (count : List ℕ → ℕ) (file : ℕ) (c : FileCards) (files : List FileCards) (r : Refusal) → passing count file c ≡ None →
    PassingAt count (suc file) files r → PassingAt count file (c ∷ files) r
passing_behind count file c files r none at = record {
  place = suc at.place;
  cards = at.cards;
  is = at.is;
  row = subst (λ n. passing count n at.cards ≡ Some r) (let e : suc file + at.place ≡ file + suc at.place = omega arith in e) at.row;
  before = none_in_first count file c files at.place none at.before;
}

passing_by : (count : List ℕ → ℕ) (file : ℕ) (c : FileCards) (files : List FileCards) (r : Refusal) (o : Option Refusal) → passing count file c ≡ o →
    first_passing count file (c ∷ files) ≡ Some r → (first_passing count (suc file) files ≡ Some r → PassingAt count (suc file) files r) →
    PassingAt count file (c ∷ files) r
passing_by count file c files r None is found rest =
    passing_behind count file c files r is
    (rest (sym (ap (λ p. or_else p (first_passing count (suc file) files)) is) ∙ (sym (file_first count file c files) ∙ found)))
passing_by count file c files r (Some q) is found rest = record {
  place = 0;
  cards = c;
  is = refl;
  row = subst (λ n. passing count n c ≡ Some r) (let e : file ≡ file + 0 = omega arith in e)
      (is ∙ (sym (ap (λ p. or_else p (first_passing count (suc file) files)) is) ∙ (sym (file_first count file c files) ∙ found)));
  before = λ j d low at. absurd (omega arith);
}

pub passing_some : (count : List ℕ → ℕ) (file : ℕ) (files : List FileCards) (r : Refusal) → first_passing count file files ≡ Some r → PassingAt count file files r
passing_some count file [] r found = absurd (none_some r (sym (no_file count file) ∙ found))
passing_some count file (c ∷ files) r found = passing_by count file c files r (passing count file c) refl found (passing_some count (suc file) files r)

pub record TooLong (file : ℕ) (o : Option ℕ) (r : Refusal) : Type 0 where
  pub passed : o ≡ Some r.card
  pub in_file : r.file ≡ file
  pub kind : r.kind ≡ FileTooLong

pub row_is : (file : ℕ) (o : Option ℕ) (r : Refusal) → too_long_at file o ≡ Some r → TooLong file o r
row_is file None r is = absurd (none_some r is)
row_is file (Some card) r is =
    let same : record { file = file; card = card; kind = FileTooLong } ≡ r = some_once (record { file = file; card = card; kind = FileTooLong }) r is in
    record {
      passed = ap Some (ap (λ (x : Refusal). x.card) same);
      in_file = sym (ap (λ (x : Refusal). x.file) same);
      kind = sym (ap (λ (x : Refusal). x.kind) same);
    }

-- WHAT A NAME COUNTS
among_first : (x y : List ℕ) (ys : List (List ℕ)) → is_among x (y ∷ ys) ≡ (bytes_eq x y || is_among x ys)
unfolding is_among
among_first x y ys = refl

among_none : (x : List ℕ) → is_among x [] ≡ false
unfolding is_among
among_none x = refl

opposite : (b : Bool) → b ≡ false → b ≡ true → ⊥
opposite b is_not is = let e : false ≡ true = sym is_not ∙ is in absurd (cc)

or_second : (a b : Bool) → a ≡ false → (a || b) ≡ true → b ≡ true
or_second true b is_not either = absurd (let e : true ≡ false = is_not in cc)
or_second false b is_not either = either

or_first : (a b : Bool) → a ≡ true → (a || b) ≡ true
or_first true b is = refl
or_first false b is = absurd (let e : false ≡ true = is in cc)

or_either : (a b : Bool) → b ≡ true → (a || b) ≡ true
or_either true b is = refl
or_either false b is = is

entry_first : (n : List ℕ) (ns : List (List ℕ)) (b : List ℕ) (bs : List (List ℕ)) → entries (n ∷ ns) (b ∷ bs) ≡ record { name = n; bytes = b } ∷ entries ns bs
unfolding entries
entry_first n ns b bs = refl

included_first : (counted : List ℕ → ℕ) (x n b : List ℕ) (is : List Included) →
    cards_of_included counted x (record { name = n; bytes = b } ∷ is) ≡ (if bytes_eq n x then counted b else cards_of_included counted x is)
unfolding cards_of_included
included_first counted x n b is = refl

count_by : (c : Bool) (v m k : ℕ) (o : Option ℕ) → (c ≡ true → v ≡ m) → (c ≡ false → unwrap_or o 0 ≡ k) →
    unwrap_or (if c then Some v else o) 0 ≡ (if c then m else k)
count_by true v m k o one other = one refl
count_by false v m k o one other = other refl

pub count_covered : (refused : Bool) (counted : List ℕ → ℕ) → Counts refused counted → (names included : List (List ℕ)) (rest : List Included) (x : List ℕ) →
    length names ≡ length included → is_among x names ≡ true →
    unwrap_or (first_named names (map (counted_by refused) included) x) 0 ≡ cards_of_included counted x (entries names included ++ rest)
count_covered refused counted are [] included rest x same among = absurd (opposite (is_among x []) (among_none x) among)
count_covered refused counted are (n ∷ names) [] rest x same among = absurd (omega arith)
count_covered refused counted are (n ∷ names) (b ∷ included) rest x same among =
    ap (λ o. unwrap_or o 0) (named_first n names (counted_by refused b) (map (counted_by refused) included) x)
    ∙ (count_by (bytes_eq n x) (counted_by refused b) (counted b) (cards_of_included counted x (entries names included ++ rest))
    (first_named names (map (counted_by refused) included) x)
    (λ is. sym (one_count refused counted are b))
    (λ is_not. count_covered refused counted are names included rest x (omega arith)
    (or_second (bytes_eq x n) (is_among x names) (turned x n ∙ is_not) (sym (among_first x n names) ∙ among)))
    ∙ (sym (included_first counted x n b (entries names included ++ rest))
    ∙ ap (λ l. cards_of_included counted x (l ++ rest)) (sym (entry_first n names b included))))

same_name : (x : List ℕ) → bytes_eq x x ≡ true
same_name x = bytes_same x x refl

-- THE SUMS ARE THE SAME
abbrev pub Alike : (List ℕ → ℕ) → (List ℕ → ℕ) → List (List ℕ) → List Included → Type 0
Alike count counted names included = (x : List ℕ) → is_among x names ≡ true → count x ≡ cards_of_included counted x included

names_first : (s : Statement) (ss : List Statement) (o : Option (List ℕ)) → included_name s ≡ o →
    names_in (s ∷ ss) ≡ elim o [ None ↦ names_in ss | Some name ↦ name ∷ names_in ss ]
unfolding names_in
names_first s ss o is = ap (λ p. elim p [ None ↦ names_in ss | Some name ↦ name ∷ names_in ss ]) is

at_first : (counted : List ℕ → ℕ) (included : List Included) (sum : ℕ) (s : Statement) (ss : List Statement) (o : Option (List ℕ)) → included_name s ≡ o →
    passes_at counted included sum (s ∷ ss) ≡ elim o [
      | None ↦ passes_at counted included sum ss
      | Some name ↦
          if nat_lt most_cards (sum + cards_of_included counted name included) then Some s.card
          else passes_at counted included (sum + cards_of_included counted name included) ss
    ]
unfolding passes_at
at_first counted included sum s ss o is =
    ap (λ p. elim p [
      | None ↦ passes_at counted included sum ss
      | Some name ↦
          if nat_lt most_cards (sum + cards_of_included counted name included) then Some s.card
          else passes_at counted included (sum + cards_of_included counted name included) ss
    ]) is

at_none : (counted : List ℕ → ℕ) (included : List Included) (sum : ℕ) → passes_at counted included sum [] ≡ None
unfolding passes_at
at_none counted included sum = refl

step_by : (b : Bool) (card more : ℕ) (later : Option ℕ) (f : ℕ → Option ℕ) → f more ≡ later →
    (elim (if b then None else Some more) [ None ↦ Some card | Some n ↦ f n ]) ≡ (if b then Some card else later)
step_by true card more later f is = refl
step_by false card more later f is = is

one_name : (count counted : List ℕ → ℕ) (included : List Included) (sum : ℕ) (s : Statement) (ss : List Statement) (o : Option (List ℕ)) → included_name s ≡ o →
    Alike count counted (names_in (s ∷ ss)) included →
    ((n : ℕ) → Alike count counted (names_in ss) included → passes count n ss ≡ passes_at counted included n ss) →
    passes count sum (s ∷ ss) ≡ passes_at counted included sum (s ∷ ss)
one_name count counted included sum s ss None is alike rest =
    passes_first count sum s ss (Some sum) (ap (λ o. added sum (count_at count o)) is)
    ∙ (rest sum (subst (λ l. Alike count counted l included) (names_first s ss None is) alike) ∙ sym (at_first counted included sum s ss None is))
one_name count counted included sum s ss (Some name) is alike rest =
    let here : Alike count counted (name ∷ names_in ss) included = subst (λ l. Alike count counted l included) (names_first s ss (Some name) is) alike in
    let own : count name ≡ cards_of_included counted name included =
    here name (among_first name name (names_in ss) ∙ or_first (bytes_eq name name) (is_among name (names_in ss)) (same_name name)) in
    let others : Alike count counted (names_in ss) included =
    λ x among. here x (among_first x name (names_in ss) ∙ or_either (bytes_eq x name) (is_among x (names_in ss)) among) in
    passes_first count sum s ss (added sum (Some (count name))) (ap (λ o. added sum (count_at count o)) is)
    ∙ (ap (λ n. elim (added sum (Some n)) [ None ↦ Some s.card | Some more ↦ passes count more ss ]) own
    ∙ (step_by (nat_lt most_cards (sum + cards_of_included counted name included)) s.card (sum + cards_of_included counted name included)
    (passes_at counted included (sum + cards_of_included counted name included) ss) (λ n. passes count n ss)
    (rest (sum + cards_of_included counted name included) others)
    ∙ sym (at_first counted included sum s ss (Some name) is)))

pub passes_same : (count counted : List ℕ → ℕ) (included : List Included) (ss : List Statement) (sum : ℕ) → Alike count counted (names_in ss) included →
    passes count sum ss ≡ passes_at counted included sum ss
passes_same count counted included [] sum alike = passes_none count sum ∙ sym (at_none counted included sum)
passes_same count counted included (s ∷ ss) sum alike =
    one_name count counted included sum s ss (included_name s) refl alike (λ n more. passes_same count counted included ss n more)

-- EACH NAME OF A FILE IS AMONG THOSE MENTIONED FIRST
pub data EitherAmong (x : List ℕ) (ys zs : List (List ℕ)) : Type 0 where
  among_one : is_among x ys ≡ true → EitherAmong x ys zs
  among_other : is_among x zs ≡ true → EitherAmong x ys zs

pub among_front : (x : List ℕ) (xs ys : List (List ℕ)) → is_among x xs ≡ true → is_among x (xs ++ ys) ≡ true
among_front x [] ys among = absurd (opposite (is_among x []) (among_none x) among)
among_front x (z ∷ xs) ys among = either (bytes_eq x z) refl (among_front x xs ys)
  where
    either : (b : Bool) → bytes_eq x z ≡ b → (is_among x xs ≡ true → is_among x (xs ++ ys) ≡ true) → is_among x (z ∷ (xs ++ ys)) ≡ true
    either true is rest = among_first x z (xs ++ ys) ∙ or_first (bytes_eq x z) (is_among x (xs ++ ys)) is
    either false is rest =
        among_first x z (xs ++ ys)
        ∙ or_either (bytes_eq x z) (is_among x (xs ++ ys)) (rest (or_second (bytes_eq x z) (is_among x xs) is (sym (among_first x z xs) ∙ among)))

pub among_back : (x : List ℕ) (xs ys : List (List ℕ)) → is_among x ys ≡ true → is_among x (xs ++ ys) ≡ true
among_back x [] ys among = among
among_back x (z ∷ xs) ys among = among_first x z (xs ++ ys) ∙ or_either (bytes_eq x z) (is_among x (xs ++ ys)) (among_back x xs ys among)

bytes_first : (file : ℕ) (bytes : List ℕ) (more : List (List ℕ)) → mentioned_from file (bytes ∷ more) ≡ names_in (statements_in file bytes) ++ mentioned_from (suc file) more
unfolding mentioned_from
bytes_first file bytes more = refl

pub mentioned_at : (file : ℕ) (files : List (List ℕ)) (j : ℕ) (bytes : List ℕ) (x : List ℕ) → slice_get files j ≡ Some bytes →
    is_among x (names_in (statements_in (file + j) bytes)) ≡ true → is_among x (mentioned_from file files) ≡ true
mentioned_at file [] j bytes x is among = absurd (none_some bytes is)
mentioned_at file (b ∷ files) zero bytes x is among =
    ap (is_among x) (bytes_first file b files)
    ∙ among_front x (names_in (statements_in file b)) (mentioned_from (suc file) files)
    (subst (λ c. is_among x (names_in (statements_in file c)) ≡ true) (sym (some_once b bytes is))
    (subst (λ n. is_among x (names_in (statements_in n bytes)) ≡ true) (let e : file + 0 ≡ file = omega arith in e) among))
mentioned_at file (b ∷ files) (suc j) bytes x is among =
    ap (is_among x) (bytes_first file b files)
    ∙ among_back x (names_in (statements_in file b)) (mentioned_from (suc file) files)
    (mentioned_at (suc file) files j bytes x is
    (subst (λ n. is_among x (names_in (statements_in n bytes)) ≡ true) (let e : file + suc j ≡ suc file + j = omega arith in e) among))

mention_by : (seen : List (List ℕ)) (name : List ℕ) (more : List (List ℕ)) (b : Bool) → is_among name seen ≡ b →
    first_mentions seen (name ∷ more) ≡ (if b then first_mentions seen more else name ∷ first_mentions (name ∷ seen) more)
unfolding first_mentions
mention_by seen name more b is = ap (λ c. if c then first_mentions seen more else name ∷ first_mentions (name ∷ seen) more) is

known_or_new : (seen : List (List ℕ)) (name : List ℕ) (more : List (List ℕ)) (x : List ℕ) (b c : Bool) → is_among name seen ≡ b → bytes_eq x name ≡ c →
    is_among x (name ∷ more) ≡ true → ((s : List (List ℕ)) → is_among x more ≡ true → EitherAmong x s (first_mentions s more)) →
    EitherAmong x seen (first_mentions seen (name ∷ more))
known_or_new seen name more x true true is same among rest = among_one (ap (λ y. is_among y seen) (same_bytes x name same) ∙ is)
known_or_new seen name more x true false is same among rest =
    subst (λ l. EitherAmong x seen l) (sym (mention_by seen name more true is))
    (rest seen (or_second (bytes_eq x name) (is_among x more) same (sym (among_first x name more) ∙ among)))
known_or_new seen name more x false true is same among rest =
    among_other (ap (is_among x) (mention_by seen name more false is)
    ∙ (among_first x name (first_mentions (name ∷ seen) more) ∙ or_first (bytes_eq x name) (is_among x (first_mentions (name ∷ seen) more)) same))
known_or_new seen name more x false false is same among rest =
    again (rest (name ∷ seen) (or_second (bytes_eq x name) (is_among x more) same (sym (among_first x name more) ∙ among)))
  where
    again : EitherAmong x (name ∷ seen) (first_mentions (name ∷ seen) more) → EitherAmong x seen (first_mentions seen (name ∷ more))
    again (among_one found) = among_one (or_second (bytes_eq x name) (is_among x seen) same (sym (among_first x name seen) ∙ found))
    again (among_other found) =
        among_other (ap (is_among x) (mention_by seen name more false is)
        ∙ (among_first x name (first_mentions (name ∷ seen) more) ∙ or_either (bytes_eq x name) (is_among x (first_mentions (name ∷ seen) more)) found))

each_mentioned : (mentions : List (List ℕ)) (x : List ℕ) (seen : List (List ℕ)) → is_among x mentions ≡ true → EitherAmong x seen (first_mentions seen mentions)
each_mentioned [] x seen among = absurd (opposite (is_among x []) (among_none x) among)
each_mentioned (name ∷ more) x seen among =
    known_or_new seen name more x (is_among name seen) (bytes_eq x name) refl refl among (λ s found. each_mentioned more x s found)

pub first_mentioned : (mentions : List (List ℕ)) (x : List ℕ) → is_among x mentions ≡ true → is_among x (first_mentions [] mentions) ≡ true
first_mentioned mentions x among = either (each_mentioned mentions x [] among)
  where
    either : EitherAmong x [] (first_mentions [] mentions) → is_among x (first_mentions [] mentions) ≡ true
    either (among_one found) = absurd (opposite (is_among x []) (among_none x) found)
    either (among_other found) = found
