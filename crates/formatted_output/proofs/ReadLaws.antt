-- The format that set bytes begin with.
use Rattle.std.proofs.Common.{◌≡◌, ℕ, zero, suc, ◌+◌, ◌≤◌, ◌<◌, Bool, true, false, List, [], ◌∷◌, ◌++◌, length, take, drop, Option, Some, None, refl, ap, sym, ◌∙◌, subst, arith, length-drop}
use Rattle.std.specs.Prelude.{Ok, nat_le, slice_get, if◌then◌else◌}
use Rattle.std.proofs.lemmas.Bool.Decides.{nat_tests}
use Rattle.c_tree.specs.declared.outcome.CValue.{CValue}
use Rattle.c_tree.specs.declared.outcome.CValue.TheVariants.{Number, Pointer, Null, Function}
use Rattle.c_tree.specs.declared.outcome.CFault.{CFault}
use Rattle.c_tree.specs.Faults.{failing}
use Rattle.c_tree.specs.Objects.{Object, Bytes, Values}
use Rattle.c_tree.specs.FormatsGiven.{Begins, NoFormat, read_on, format_from, format_read, format_in, format_at}
use Rattle.edit_rules.specs.edit_meaning.Formats.{Format}
use Rattle.edit_rules.specs.edit_meaning.FormatGrammar.{SpellsFormat, IsFormat}
use Rattle.edit_rules.specs.edit_meaning.FormatTexts.{Mode, Made, Frame, State, Going, Done, Front, from_state, found, starting, next_state}
use Rattle.edit_rules.specs.FormatChecks.{IsFront, IsRefusedAt, IsCompletable}
use Rattle.edit_rules.proofs.FormatSpelled.{format_run}
use Rattle.edit_rules.proofs.FormatLaws.{spelled_front, longer}
use Rattle.edit_rules.proofs.FormatViable.{then_reach, reach, completable, not_completable, front_reached}
use Rattle.formatted_output.specs.Fronts.{set_bytes, fault_behind, front_of, front_at}

-- ## A format that is found

pub record Ends (size : ℕ) (bytes : List (Option ℕ)) (state : State) (format : Format) (later : List ℕ) : Type 0 where
  pub more : ℕ
  pub reads : format_from size bytes state ≡ Begins (size + more) format
  pub left : more + length later ≡ length (set_bytes bytes)

ends-here : (size : ℕ) (bytes : List (Option ℕ)) (one format : Format) (later : List ℕ) → format_from size bytes (Done one) ≡ Begins size one →
    Front one (set_bytes bytes) ≡ Front format later → Ends size bytes (Done one) format later
ends-here size bytes one format later reads is =
    let same : one ≡ format = cc in
    let rest : set_bytes bytes ≡ later = cc in
    let all : size ≡ size + 0 = omega arith in
    record {
      more = 0;
      reads = reads ∙ ap (λ (n : ℕ). Begins n one) all ∙ ap (Begins (size + 0)) same;
      left = (let e : 0 + length later ≡ length later = omega arith in e) ∙ ap length (sym rest);
    }

ends-next : (size : ℕ) (bytes : List (Option ℕ)) (next : Option State) (format : Format) (later : List ℕ) →
    ((state : State) → found (set_bytes bytes) state ≡ Front format later → Ends (size + 1) bytes state format later) →
    from_state next (λ state. found (set_bytes bytes) state) ≡ Front format later →
    (more : ℕ) × (read_on next (λ state. format_from (size + 1) bytes state) ≡ Begins (size + more) format) × (more + length later ≡ suc (length (set_bytes bytes)))
ends-next size bytes None format later more is = absurd (cc)
ends-next size bytes (Some state) format later more is =
    let ends : Ends (size + 1) bytes state format later = more state is in
    let left : ends.more + length later ≡ length (set_bytes bytes) = ends.left in
    let same : size + 1 + ends.more ≡ size + suc ends.more = omega arith in
    (suc ends.more, ends.reads ∙ ap (λ (n : ℕ). Begins n format) same, omega arith)

found-reads : (size : ℕ) (bytes : List (Option ℕ)) (state : State) (format : Format) (later : List ℕ) → found (set_bytes bytes) state ≡ Front format later →
    Ends size bytes state format later
found-reads size [] (Done one) format later is = ends-here size [] one format later refl is
found-reads size [] (Going mode made outer) format later is = absurd (cc)
found-reads size (None ∷ rest) (Done one) format later is = ends-here size (None ∷ rest) one format later refl is
found-reads size (None ∷ rest) (Going mode made outer) format later is = absurd (cc)
found-reads size (Some byte ∷ rest) (Done one) format later is = ends-here size (Some byte ∷ rest) one format later refl is
found-reads size (Some byte ∷ rest) (Going mode made outer) format later is =
    let next : (more : ℕ) × (read_on (next_state (Going mode made outer) byte) (λ state. format_from (size + 1) rest state) ≡ Begins (size + more) format) × (more + length later ≡ suc (length (set_bytes rest))) =
    ends-next size rest (next_state (Going mode made outer) byte) format later (λ state one. found-reads (size + 1) rest state format later one) is in
    record { more = next.0; reads = next.1; left = next.2 }

-- ## A text that is refused

stuck-next : (size place : ℕ) (bytes : List (Option ℕ)) (next : Option State) (mode : Mode) (made : Made) (outer : List Frame) →
    ((state : State) → reach (take place (set_bytes bytes)) state ≡ Some (Going mode made outer) → reach (take (suc place) (set_bytes bytes)) state ≡ None →
    format_from (size + 1) bytes state ≡ NoFormat) →
    then_reach next (λ state. reach (take place (set_bytes bytes)) state) ≡ Some (Going mode made outer) →
    then_reach next (λ state. reach (take (suc place) (set_bytes bytes)) state) ≡ None → read_on next (λ state. format_from (size + 1) bytes state) ≡ NoFormat
stuck-next size place bytes None mode made outer more here gone = absurd (cc)
stuck-next size place bytes (Some state) mode made outer more here gone = more state here gone

gone-next : (size : ℕ) (bytes : List (Option ℕ)) (next : Option State) → then_reach next (λ state. Some state) ≡ None → read_on next (λ state. format_from (size + 1) bytes state) ≡ NoFormat
gone-next size bytes None gone = refl
gone-next size bytes (Some state) gone = absurd (cc)

stuck : (size place : ℕ) (bytes : List (Option ℕ)) (state : State) (mode : Mode) (made : Made) (outer : List Frame) → place < length (set_bytes bytes) →
    reach (take place (set_bytes bytes)) state ≡ Some (Going mode made outer) → reach (take (suc place) (set_bytes bytes)) state ≡ None → format_from size bytes state ≡ NoFormat
stuck size place [] state mode made outer within here gone = absurd (omega arith)
stuck size place (None ∷ rest) state mode made outer within here gone = absurd (omega arith)
stuck size zero (Some byte ∷ rest) (Done one) mode made outer within here gone = absurd (cc)
stuck size (suc place) (Some byte ∷ rest) (Done one) mode made outer within here gone = absurd (cc)
stuck size zero (Some byte ∷ rest) (Going m d o) mode made outer within here gone = gone-next size rest (next_state (Going m d o) byte) gone
stuck size (suc place) (Some byte ∷ rest) (Going m d o) mode made outer within here gone =
    stuck-next size place rest (next_state (Going m d o) byte) mode made outer
    (λ state one other. stuck (size + 1) place rest state mode made outer (omega arith) one other) here gone

early-next : (size : ℕ) (bytes : List (Option ℕ)) (next : Option State) (mode : Mode) (made : Made) (outer : List Frame) →
    ((state : State) → reach (set_bytes bytes) state ≡ Some (Going mode made outer) → format_read (format_from (size + 1) bytes state) ≡ failing (fault_behind bytes)) →
    then_reach next (λ state. reach (set_bytes bytes) state) ≡ Some (Going mode made outer) →
    format_read (read_on next (λ state. format_from (size + 1) bytes state)) ≡ failing (fault_behind bytes)
early-next size bytes None mode made outer more here = absurd (cc)
early-next size bytes (Some state) mode made outer more here = more state here

early : (size : ℕ) (bytes : List (Option ℕ)) (state : State) (mode : Mode) (made : Made) (outer : List Frame) → reach (set_bytes bytes) state ≡ Some (Going mode made outer) →
    format_read (format_from size bytes state) ≡ failing (fault_behind bytes)
early size [] (Done one) mode made outer here = absurd (cc)
early size [] (Going m d o) mode made outer here = refl
early size (None ∷ rest) (Done one) mode made outer here = absurd (cc)
early size (None ∷ rest) (Going m d o) mode made outer here = refl
early size (Some byte ∷ rest) (Done one) mode made outer here = absurd (cc)
early size (Some byte ∷ rest) (Going m d o) mode made outer here =
    early-next size rest (next_state (Going m d o) byte) mode made outer (λ state one. early (size + 1) rest state mode made outer one) here

-- where a text is refused its reader stands
record Standing (text : List ℕ) (place : ℕ) : Type 0 where
  mode : Mode
  made : Made
  outer : List Frame
  here : reach (take place text) starting ≡ Some (Going mode made outer)

standing-by : (text : List ℕ) (place : ℕ) (reached : Option State) → IsRefusedAt text place → reach (take place text) starting ≡ reached → Standing text place
standing-by text place None refused is = absurd (not_completable (take place text) refused.before.tail refused.before.format is refused.before.spelled)
standing-by text place (Some (Done format)) refused is =
    let front : IsFront text place = front_reached text place format refused.within is in absurd (refused.none place front.format front.spelled)
standing-by text place (Some (Going mode made outer)) refused is = record { mode = mode; made = made; outer = outer; here = is }

standing : (text : List ℕ) (place : ℕ) → IsRefusedAt text place → Standing text place
standing text place refused = standing-by text place (reach (take place text) starting) refused refl

gone-by : (text : List ℕ) (place : ℕ) (reached : Option State) → IsRefusedAt text place → place < length text → reach (take (suc place) text) starting ≡ reached → reached ≡ None
gone-by text place None refused within is = refl
gone-by text place (Some (Done format)) refused within is =
    let front : IsFront text (suc place) = front_reached text (suc place) format (omega arith) is in absurd (refused.none (suc place) front.format front.spelled)
gone-by text place (Some (Going mode made outer)) refused within is =
    let can : IsCompletable (take (suc place) text) = completable (take (suc place) text) mode made outer is in
    absurd (refused.after within can.tail can.format can.spelled)

take-all : (text : List ℕ) (n : ℕ) → length text ≤ n → take n text ≡ text
take-all [] zero h = refl
take-all [] (suc n) h = refl
take-all (c ∷ cs) zero h = absurd (omega arith)
take-all (c ∷ cs) (suc n) h = ap (λ (rest : List ℕ). c ∷ rest) (take-all cs n (omega arith))

-- ## The bytes of an object

bytes-begin : (bytes : List (Option ℕ)) (size : ℕ) → (front : IsFront (set_bytes bytes) size) →
    format_read (format_from 0 bytes starting) ≡ Ok (if nat_le size 2048 then Some front.format else None)
bytes-begin bytes size front =
    let text : List ℕ = set_bytes bytes in
    let ends : Ends 0 bytes starting front.format (drop size text) =
    found-reads 0 bytes starting front.format (drop size text) (format_run (spelled_front text size front.format front.spelled)) in
    let left : ends.more + length (drop size text) ≡ length text = ends.left in
    let within : size ≤ length text = front.within in
    let same : 0 + ends.more ≡ size = omega (arith, length-drop size text) in
    ap format_read (ends.reads ∙ ap (λ (n : ℕ). Begins n front.format) same)

bytes-refused : (bytes : List (Option ℕ)) (place : ℕ) → IsRefusedAt (set_bytes bytes) place → place < length (set_bytes bytes) → format_read (format_from 0 bytes starting) ≡ Ok None
bytes-refused bytes place refused within =
    let at : Standing (set_bytes bytes) place = standing (set_bytes bytes) place refused in
    ap format_read
    (stuck 0 place bytes starting at.mode at.made at.outer within at.here
    (gone-by (set_bytes bytes) place (reach (take (suc place) (set_bytes bytes)) starting) refused within refl))

bytes-early : (bytes : List (Option ℕ)) (place : ℕ) → IsRefusedAt (set_bytes bytes) place → length (set_bytes bytes) ≤ place → format_read (format_from 0 bytes starting) ≡ failing (fault_behind bytes)
bytes-early bytes place refused past =
    let at : Standing (set_bytes bytes) place = standing (set_bytes bytes) place refused in
    early 0 bytes starting at.mode at.made at.outer (sym (ap (λ (text : List ℕ). reach text starting) (take-all (set_bytes bytes) place past)) ∙ at.here)

-- ## What a pointer gives

-- no format stands in an empty text
no-front : (size : ℕ) → IsFront [] size → ⊥
no-front size front =
    let e : found [] starting ≡ Front front.format (drop size []) = format_run (spelled_front [] size front.format front.spelled) in cc

of-begins : (object : Option Object) (offset size : ℕ) → (front : IsFront (front_of object offset).text size) →
    format_in object offset ≡ Ok (if nat_le size 2048 then Some front.format else None)
of-begins None offset size front = absurd (no-front size front)
of-begins (Some (Bytes bytes)) offset size front = bytes-begin (drop offset bytes) size front
of-begins (Some (Values held)) offset size front = absurd (no-front size front)

of-refused : (object : Option Object) (offset place : ℕ) → IsRefusedAt (front_of object offset).text place → place < length (front_of object offset).text → format_in object offset ≡ Ok None
of-refused None offset place refused within = absurd (omega arith)
of-refused (Some (Bytes bytes)) offset place refused within = bytes-refused (drop offset bytes) place refused within
of-refused (Some (Values held)) offset place refused within = absurd (omega arith)

of-early : (object : Option Object) (offset place : ℕ) → IsRefusedAt (front_of object offset).text place → length (front_of object offset).text ≤ place →
    format_in object offset ≡ failing (front_of object offset).fault
of-early None offset place refused past = refl
of-early (Some (Bytes bytes)) offset place refused past = bytes-early (drop offset bytes) place refused past
of-early (Some (Values held)) offset place refused past = refl

at-begins : (objects : List Object) (pointer : CValue) (size : ℕ) → (front : IsFront (front_at objects pointer).text size) →
    format_at objects pointer ≡ Ok (if nat_le size 2048 then Some front.format else None)
unfolding format_at
at-begins objects (Pointer object offset) size front = of-begins (slice_get objects object) offset size front
at-begins objects Null size front = absurd (no-front size front)
at-begins objects (Number n) size front = absurd (no-front size front)
at-begins objects (Function n) size front = absurd (no-front size front)

at-refused : (objects : List Object) (pointer : CValue) (place : ℕ) → IsRefusedAt (front_at objects pointer).text place → place < length (front_at objects pointer).text →
    format_at objects pointer ≡ Ok None
unfolding format_at
at-refused objects (Pointer object offset) place refused within = of-refused (slice_get objects object) offset place refused within
at-refused objects Null place refused within = absurd (omega arith)
at-refused objects (Number n) place refused within = absurd (omega arith)
at-refused objects (Function n) place refused within = absurd (omega arith)

at-early : (objects : List Object) (pointer : CValue) (place : ℕ) → IsRefusedAt (front_at objects pointer).text place → length (front_at objects pointer).text ≤ place →
    format_at objects pointer ≡ failing (front_at objects pointer).fault
unfolding format_at
at-early objects (Pointer object offset) place refused past = of-early (slice_get objects object) offset place refused past
at-early objects Null place refused past = refl
at-early objects (Number n) place refused past = refl
at-early objects (Function n) place refused past = refl

-- ## The answers of the reader, by the text that it read

reads-begins : (objects : List Object) (pointer : CValue) (text : List ℕ) (size : ℕ) → text ≡ (front_at objects pointer).text → (front : IsFront text size) →
    (format : Format) × IsFormat format (take size text) × (format_at objects pointer ≡ Ok (if nat_le size 2048 then Some format else None))
reads-begins objects pointer text size is front =
    let moved : IsFront (front_at objects pointer).text size = subst (λ (one : List ℕ). IsFront one size) is front in
    (moved.format, subst (λ (one : List ℕ). IsFormat moved.format (take size one)) (sym is) moved.spelled, at-begins objects pointer size moved)

pub reads-refused : (objects : List Object) (pointer : CValue) (text : List ℕ) (place : ℕ) → text ≡ (front_at objects pointer).text → IsRefusedAt text place → place < length text →
    format_at objects pointer ≡ Ok None
reads-refused objects pointer text place is refused within =
    at-refused objects pointer place (subst (λ (one : List ℕ). IsRefusedAt one place) is refused) (subst (λ (one : List ℕ). place < length one) is within)

pub reads-early : (objects : List Object) (pointer : CValue) (text : List ℕ) (place : ℕ) (fault : CFault) → text ≡ (front_at objects pointer).text → IsRefusedAt text place →
    length text ≤ place → fault ≡ (front_at objects pointer).fault → format_at objects pointer ≡ failing fault
reads-early objects pointer text place fault is refused past same =
    at-early objects pointer place (subst (λ (one : List ℕ). IsRefusedAt one place) is refused) (subst (λ (one : List ℕ). length one ≤ place) is past) ∙ ap (λ (one : CFault). failing one) (sym same)

pub reads-short : (objects : List Object) (pointer : CValue) (text : List ℕ) (size : ℕ) → text ≡ (front_at objects pointer).text → (front : IsFront text size) → size ≤ 2048 →
    (format : Format) × IsFormat format (take size text) × (format_at objects pointer ≡ Ok (Some format))
reads-short objects pointer text size is front short =
    let reads = reads-begins objects pointer text size is front in
    let fits : nat_le size 2048 ≡ true = grind (arith, nat_tests) in
    (reads.0, reads.1, reads.2 ∙ ap (λ (fits : Bool). Ok (if fits then Some reads.0 else None)) fits)

pub reads-long : (objects : List Object) (pointer : CValue) (text : List ℕ) (size : ℕ) → text ≡ (front_at objects pointer).text → (front : IsFront text size) → 2048 < size →
    format_at objects pointer ≡ Ok None
reads-long objects pointer text size is front long =
    let reads = reads-begins objects pointer text size is front in
    let fits : nat_le size 2048 ≡ false = grind (arith, nat_tests) in
    reads.2 ∙ ap (λ (fits : Bool). Ok (if fits then Some reads.0 else None)) fits

-- the format at the front of a buffer
pub read-into : (format : Format) (text buffer : List ℕ) (size : ℕ) → IsFormat format (take size text) → SpellsFormat format (take size text ++ drop size buffer) (drop size buffer)
read-into format text buffer size spelled = longer (take size text) (drop size buffer) format spelled
