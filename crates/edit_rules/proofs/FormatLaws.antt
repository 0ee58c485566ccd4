-- The grammar of formats and its reader.
use Rattle.std.proofs.Common.{◌≡◌, ℕ, ◌+◌, ◌-◌, Option, None, Some, List, [], ◌∷◌, ◌++◌, length, take, drop, refl, sym, ap, subst, ◌∙◌, arith, length-append, length-drop}
use Rattle.std.proofs.lemmas.List.{take_at, take-append-drop}
use Rattle.edit_meaning.specs.Formats.{Format}
use Rattle.edit_meaning.specs.FormatGrammar.{SpellsFormat, IsFormat}
use Rattle.edit_meaning.specs.FormatTexts.{State, Going, Done, starting, next_state, Found, Nothing, Front, from_state, found, tree_of, size_of, format_of, format_end}
use Rattle.edit_rules.specs.FormatChecks.{IsFront, FormatsAreUnique, FormatsAreFronts, FormatOfIsSpelled, FormatEndIsSpelled}
use Rattle.edit_rules.proofs.FormatSpelled.{format_run, found_done}
use Rattle.edit_rules.proofs.FormatFound.{format_found}

pub unique : FormatsAreUnique
unique text one other after behind a b =
    let e : Front one after ≡ Front other behind = sym (format_run a) ∙ format_run b in
    (cc, cc)

-- a format that is found in the front is found in the whole text
found_longer : (front rest : List ℕ) (state : State) (format : Format) → found front state ≡ Front format [] → found (front ++ rest) state ≡ Front format rest
found_longer [] rest (Done other) format h = found_done rest other ∙ (let e : other ≡ format = cc in ap (λ z. Front z rest) e)
found_longer [] rest (Going mode made outer) format h = absurd (cc)
found_longer (c ∷ cs) rest (Done other) format h = absurd (cc)
found_longer (c ∷ cs) rest (Going mode made outer) format h = longer_by cs rest (next_state (Going mode made outer) c) format (λ state g. found_longer cs rest state format g) h
  where
    longer_by : (cs rest : List ℕ) (next : Option State) (format : Format) → ((state : State) → found cs state ≡ Front format [] → found (cs ++ rest) state ≡ Front format rest)
        → from_state next (λ state. found cs state) ≡ Front format [] → from_state next (λ state. found (cs ++ rest) state) ≡ Front format rest
    longer_by cs rest None format ih h = absurd (cc)
    longer_by cs rest (Some state) format ih h = ih state h

record FoundFront (text : List ℕ) (state : State) (format : Format) (rest : List ℕ) : Type 0 where
  front : List ℕ
  is : text ≡ front ++ rest
  found_in : found front state ≡ Front format []

front_cons : (c : ℕ) (cs : List ℕ) (state next : State) (format : Format) (rest : List ℕ)
    → ((front : List ℕ) → found front next ≡ Front format [] → found (c ∷ front) state ≡ Front format [])
    → FoundFront cs next format rest → FoundFront (c ∷ cs) state format rest
front_cons c cs state next format rest h f = record { front = c ∷ f.front; is = ap (λ z. c ∷ z) f.is; found_in = h f.front f.found_in }

front_by : (c : ℕ) (cs : List ℕ) (state : State) (next : Option State) (format : Format) (rest : List ℕ)
    → ((state : State) → found cs state ≡ Front format rest → FoundFront cs state format rest)
    → ((front : List ℕ) → from_state next (λ state. found front state) ≡ Front format [] → found (c ∷ front) state ≡ Front format [])
    → from_state next (λ state. found cs state) ≡ Front format rest → FoundFront (c ∷ cs) state format rest
front_by c cs state None format rest ih k h = absurd (cc)
front_by c cs state (Some next) format rest ih k h = front_cons c cs state next format rest k (ih next h)

found_front : (text : List ℕ) (state : State) (format : Format) (rest : List ℕ) → found text state ≡ Front format rest → FoundFront text state format rest
found_front [] (Done other) format rest h =
    let e : other ≡ format = cc in let f : [] ≡ rest = cc in record { front = []; is = f; found_in = ap (λ z. Front z []) e }
found_front [] (Going mode made outer) format rest h = absurd (cc)
found_front (c ∷ cs) (Done other) format rest h =
    let e : other ≡ format = cc in let f : c ∷ cs ≡ rest = cc in record { front = []; is = f; found_in = ap (λ z. Front z []) e }
found_front (c ∷ cs) (Going mode made outer) format rest h =
    front_by c cs (Going mode made outer) (next_state (Going mode made outer) c) format rest (λ state g. found_front cs state format rest g) (λ front g. g) h

pub longer : (front rest : List ℕ) (format : Format) → IsFormat format front → SpellsFormat format (front ++ rest) rest
longer front rest format h = format_found (front ++ rest) format rest (found_longer front rest starting format (format_run h))

pub fronts : FormatsAreFronts
fronts text after format = (
  (λ h. let f = found_front text starting format after (format_run h) in (f.front, f.is, format_found f.front format [] f.found_in)),
  (λ h. let P : List ℕ → Type 0 = λ z. SpellsFormat format z after in subst P (sym h.1) (longer h.0 after format h.2)),
)

of_tree : (f : Found) (format : Format) → tree_of f ≡ Some format → (rest : List ℕ) × (f ≡ Front format rest)
of_tree Nothing format h = absurd (cc)
of_tree (Front other rest) format h = let e : other ≡ format = cc in (rest, ap (λ z. Front z rest) e)

pub format_of_is : FormatOfIsSpelled
unfolding format_of
format_of_is text format = (
  (λ h. let r = of_tree (found text starting) format h in (r.0, format_found text format r.0 r.1)),
  (λ h. ap tree_of (format_run h.1)),
)

record OfSize (f : Found) (whole size : ℕ) : Type 0 where
  format : Format
  rest : List ℕ
  is : f ≡ Front format rest
  left : whole - length rest ≡ size

of_size : (f : Found) (whole size : ℕ) → size_of whole f ≡ Some size → OfSize f whole size
of_size Nothing whole size h = absurd (cc)
of_size (Front format rest) whole size h = record { format = format; rest = rest; is = refl; left = cc }

front_is : (text : List ℕ) (size : ℕ) (format : Format) (rest front : List ℕ) → length text - length rest ≡ size → text ≡ front ++ rest → IsFormat format front → IsFront text size
front_is text size format rest front h e f =
    let l : length text ≡ length front + length rest = ap length e ∙ length-append front rest in
    let n : length front ≡ size = omega arith in
    let P : List ℕ → Type 0 = λ z. IsFormat format z in
    record { format = format; within = omega arith; spelled = subst P (sym (ap (take size) e ∙ take_at front rest size n)) f }

-- the bytes that are a format, before the others
pub spelled_front : (text : List ℕ) (size : ℕ) (format : Format) → IsFormat format (take size text) → SpellsFormat format text (drop size text)
spelled_front text size format f =
    let P : List ℕ → Type 0 = λ z. SpellsFormat format z (drop size text) in
    subst P (take-append-drop size text) (longer (take size text) (drop size text) format f)

pub format_end_is : FormatEndIsSpelled
unfolding format_end
format_end_is text size = (
  (λ h.
      let r = of_size (found text starting) (length text) size h in
      let f = found_front text starting r.format r.rest r.is in
      front_is text size r.format r.rest f.front r.left f.is (format_found f.front r.format [] f.found_in)),
  (λ h.
      let w = h.within in
      let e : length text - length (drop size text) ≡ size = omega (arith, length-drop size text) in
      ap (size_of (length text)) (format_run (spelled_front text size h.format h.spelled)) ∙ ap Some e),
)
