-- Two sources of which each file and each included file is the same, or has faults of its cards in both, and the same: they have the same faults of
-- cards.
use Rattle.std.specs.Prelude.{◌≡◌, ℕ, zero, suc, ◌+◌, nat_lt, Bool, List, [], ◌∷◌, length, bytes_eq, slice_get, Option, Some, None, if◌then◌else◌}
use Rattle.std.proofs.Common.{refl, sym, ap, subst, ◌∙◌}
use Rattle.refusal_order.specs.f_tree.declared.names.Options.{Options}
use Rattle.refusal_order.specs.f_tree.declared.refusals.Kind.{Kind}
use Rattle.refusal_order.specs.f_tree.declared.refusals.Refusal.{Refusal}
use Rattle.refusal_order.specs.f_tree.Setting.{IsIn, first_in, later_in}
use Rattle.refusal_order.specs.fortran_text.FirstFault.{most_cards, FaultOfCards, IsSound}
use Rattle.refusal_order.specs.fortran_text.declared.source.Statement.{Statement}
use Rattle.source_acceptance.specs.SourceFiles.{Included, Source, included_name, names_in, statements_in, cards_of_included, passes_at}
use Rattle.source_acceptance.specs.Acceptance.{HasFile, HasIncluded, Counts, CardFault, of_file, of_included, too_many_included, end_or_include}
use Rattle.source_verdict.proofs.LongFiles.{Alike, the_same, both_refused, alike_back}

pub data AlikeIncluded (refused : Bool) : List Included → List Included → Type 0 where
  no_more : AlikeIncluded refused [] []
  one_more : (i j : Included) (is js : List Included) → i.name ≡ j.name → Alike refused i.bytes j.bytes → AlikeIncluded refused is js
      → AlikeIncluded refused (i ∷ is) (j ∷ js)

pub included_back : (refused : Bool) (is js : List Included) → AlikeIncluded refused is js → AlikeIncluded refused js is
included_back refused _ _ no_more = no_more
included_back refused _ _ (one_more i j is js name alike rest) = one_more j i js is (sym name) (alike_back refused i.bytes j.bytes alike) (included_back refused is js rest)

pub record AlikeSources (refused : Bool) (s t : Source) : Type 0 where
  pub files : s.files ≡ t.files
  pub included : AlikeIncluded refused s.included t.included

pub sources_back : (refused : Bool) (s t : Source) → AlikeSources refused s t → AlikeSources refused t s
sources_back refused s t alike = record { files = sym alike.files; included = included_back refused s.included t.included alike.included }

-- what stands at a place
record AtPlace (refused : Bool) (i : Included) (js : List Included) (place : ℕ) : Type 0 where
  entry : Included
  is : slice_get js place ≡ Some entry
  alike : Alike refused i.bytes entry.bytes

some_injective : {A : Type 0} {a b : A} → Some a ≡ Some b → a ≡ b
some_injective e = cc

at_place : (refused : Bool) (is js : List Included) → AlikeIncluded refused is js → (place : ℕ) (i : Included) → slice_get is place ≡ Some i → AtPlace refused i js place
at_place refused _ _ no_more place i is = absurd (cc)
at_place refused _ _ (one_more a b more others name alike rest) zero i is =
    let same : a ≡ i = some_injective is in
    record { entry = b; is = refl; alike = subst (λ x. Alike refused x.bytes b.bytes) same alike }
at_place refused _ _ (one_more a b more others name alike rest) (suc place) i is =
    let found = at_place refused more others rest place i is in
    record { entry = found.entry; is = found.is; alike = found.alike }

same_faults : (refused : Bool) (one other : List ℕ) (card : ℕ) (kind : Kind) → Alike refused one other → FaultOfCards refused one card kind → FaultOfCards refused other card kind
same_faults refused one other card kind (the_same is) h = subst (λ b. FaultOfCards refused b card kind) is h
same_faults refused one other card kind (both_refused a b) h = a.cards card kind h

-- THE CARDS that are counted are the same
counted_same : (refused : Bool) (counted : List ℕ → ℕ) (one other : List ℕ) → Counts refused counted → Alike refused one other → counted one ≡ counted other
counted_same refused counted one other counts (the_same is) = ap counted is
counted_same refused counted one other counts (both_refused a b) =
    counts.unsound one a.card a.kind a.fault ∙ sym (counts.unsound other b.card b.kind b.fault)

by_name : (b : Bool) (x y xs ys : ℕ) → x ≡ y → xs ≡ ys → (if b then x else xs) ≡ (if b then y else ys)
by_name b x y xs ys first rest = cc

pub cards_same : (refused : Bool) (counted : List ℕ → ℕ) (is js : List Included) → Counts refused counted → AlikeIncluded refused is js → (name : List ℕ) →
    cards_of_included counted name is ≡ cards_of_included counted name js
unfolding cards_of_included
cards_same refused counted _ _ counts no_more name = refl
cards_same refused counted _ _ counts (one_more i j is js same alike rest) name =
    by_name (bytes_eq i.name name) (counted i.bytes) (counted j.bytes) (cards_of_included counted name is) (cards_of_included counted name js)
    (counted_same refused counted i.bytes j.bytes counts alike) (cards_same refused counted is js counts rest name)
    ∙ ap (λ n. if bytes_eq n name then counted j.bytes else cards_of_included counted name js) same

abbrev goes_by : (List ℕ → ℕ) → List Included → ℕ → Statement → List Statement → Option (List ℕ) → Option ℕ
goes_by counted included sum s ss found = elim found [
  | None ↦ passes_at counted included sum ss
  | Some name ↦
      let now = sum + cards_of_included counted name included in
      let later = passes_at counted included now ss in
      if nat_lt most_cards now then Some s.card else later
]

abbrev names_by : List Statement → Option (List ℕ) → List (List ℕ)
names_by ss found = elim found [ None ↦ names_in ss | Some name ↦ name ∷ names_in ss ]

-- the names of statements count the same among two lists of included files
abbrev pub CountSame : (List ℕ → ℕ) → List Included → List Included → List (List ℕ) → Type 0
CountSame counted is js names = (name : List ℕ) → IsIn name names → cards_of_included counted name is ≡ cards_of_included counted name js

pub passes_alike : (counted : List ℕ → ℕ) (is js : List Included) (sum : ℕ) (ss : List Statement) → CountSame counted is js (names_in ss) →
    passes_at counted is sum ss ≡ passes_at counted js sum ss
unfolding passes_at names_in
passes_alike counted is js sum [] same = refl
passes_alike counted is js sum (s ∷ ss) same = by (included_name s) same (λ n its. passes_alike counted is js n ss its)
  where
    by : (found : Option (List ℕ)) → CountSame counted is js (names_by ss found) →
        ((n : ℕ) → CountSame counted is js (names_in ss) → passes_at counted is n ss ≡ passes_at counted js n ss) →
        goes_by counted is sum s ss found ≡ goes_by counted js sum s ss found
    by None its rest = rest sum its
    by (Some name) its rest =
        ap (λ n. if nat_lt most_cards (sum + n) then Some s.card else passes_at counted is (sum + n) ss) (its name first_in)
        ∙ ap (λ later. if nat_lt most_cards (sum + cards_of_included counted name js) then Some s.card else later)
        (rest (sum + cards_of_included counted name js) (λ n among. its n (later_in among)))

passes_same : (refused : Bool) (counted : List ℕ → ℕ) (is js : List Included) → Counts refused counted → AlikeIncluded refused is js → (sum : ℕ) (ss : List Statement) →
    passes_at counted is sum ss ≡ passes_at counted js sum ss
passes_same refused counted is js counts alike sum ss = passes_alike counted is js sum ss (λ name among. cards_same refused counted is js counts alike name)

-- THE FAULTS
has_file : (s t : Source) (file : ℕ) (bytes : List ℕ) → s.files ≡ t.files → HasFile s file bytes → HasFile t file bytes
has_file s t file bytes same h = sym (ap (λ fs. slice_get fs file) same) ∙ h

record Kept (refused : Bool) (t : Source) (file : ℕ) (bytes : List ℕ) : Type 0 where
  other : List ℕ
  has : HasIncluded t file other
  alike : Alike refused bytes other

kept : (refused : Bool) (s t : Source) (file : ℕ) (bytes : List ℕ) → AlikeSources refused s t → HasIncluded s file bytes → Kept refused t file bytes
kept refused s t file bytes same h =
    let found = at_place refused s.included t.included same.included h.place h.entry h.is in
    record {
      other = found.entry.bytes;
      has = record {
        place = h.place;
        entry = found.entry;
        is = found.is;
        file_is = h.file_is ∙ ap (λ fs. length fs + h.place) same.files;
        bytes_are = refl;
      };
      alike = subst (λ b. Alike refused b found.entry.bytes) (sym h.bytes_are) found.alike;
    }

ends_in : (options : Options) (t : Source) (r : Refusal) (bytes other : List ℕ) → HasIncluded t r.file other → Alike options.long_cards bytes other →
    IsSound (FaultOfCards options.long_cards bytes) → ((b : List ℕ) → HasIncluded t r.file b → b ≡ bytes → CardFault options t r) → CardFault options t r
ends_in options t r bytes other has (the_same is) sound goes = goes other has (sym is)
ends_in options t r bytes other has (both_refused a b) sound goes = absurd (sound a.card a.kind a.fault)

pub card_fault : (options : Options) (s t : Source) (r : Refusal) → AlikeSources options.long_cards s t → CardFault options s r → CardFault options t r
card_fault options s t r same (of_file bytes h fault) = of_file bytes (has_file s t r.file bytes same.files h) fault
card_fault options s t r same (of_included bytes h fault) =
    let k = kept options.long_cards s t r.file bytes same h in
    of_included k.other k.has (same_faults options.long_cards bytes k.other r.card r.kind k.alike fault)
card_fault options s t r same (too_many_included bytes counted h sound counts passes kind) =
    too_many_included bytes counted (has_file s t r.file bytes same.files h) sound counts
    (sym (passes_same options.long_cards counted s.included t.included counts same.included _ (statements_in r.file bytes)) ∙ passes) kind
card_fault options s t r same (end_or_include bytes st h sound among its card kind) =
    let k = kept options.long_cards s t r.file bytes same h in
    ends_in options t r bytes k.other k.has k.alike sound
    (λ b has is.
    end_or_include b st has (subst (λ x. IsSound (FaultOfCards options.long_cards x)) (sym is) sound) (subst (λ x. IsIn st (statements_in r.file x)) (sym is) among) its card kind)

-- WITHOUT A FAULT of an included file the two are the same
abbrev NoneIn : Bool → List Included → Type 0
NoneIn refused is = (place : ℕ) (i : Included) (card : ℕ) (kind : Kind) → slice_get is place ≡ Some i → FaultOfCards refused i.bytes card kind → ⊥

same_entry : (i j : Included) (is js : List Included) → i.name ≡ j.name → i.bytes ≡ j.bytes → is ≡ js → (i ∷ is) ≡ (j ∷ js)
same_entry i j is js name bytes rest =
    ap (λ n. record { name = n; bytes = i.bytes } ∷ is) name ∙ (ap (λ b. record { name = j.name; bytes = b } ∷ is) bytes ∙ ap (λ more. j ∷ more) rest)

same_bytes : (refused : Bool) (i j : List ℕ) → ((card : ℕ) (kind : Kind) → FaultOfCards refused i card kind → ⊥) → Alike refused i j → i ≡ j
same_bytes refused i j none (the_same is) = is
same_bytes refused i j none (both_refused a b) = absurd (none a.card a.kind a.fault)

pub same_included : (refused : Bool) (is js : List Included) → NoneIn refused is → AlikeIncluded refused is js → is ≡ js
same_included refused _ _ none no_more = refl
same_included refused _ _ none (one_more i j is js name alike rest) =
    same_entry i j is js name (same_bytes refused i.bytes j.bytes (λ card kind h. none 0 i card kind refl h) alike)
    (same_included refused is js (λ place k card kind at h. none (suc place) k card kind at h) rest)

pub same_source : (options : Options) (s t : Source) → ((q : Refusal) → CardFault options s q → ⊥) → AlikeSources options.long_cards s t → s ≡ t
same_source options s t none same =
    let is : s.included ≡ t.included =
    same_included options.long_cards s.included t.included
    (λ place i card kind at h.
    none (record { file = length s.files + place; card = card; kind = kind })
    (of_included i.bytes (record { place = place; entry = i; is = at; file_is = refl; bytes_are = refl }) h)) same.included in
    ap (λ fs. record { files = fs; included = s.included }) same.files ∙ ap (λ xs. record { files = t.files; included = xs }) is
