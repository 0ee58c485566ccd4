-- Assignments of texts, STOP and the report of a place, once what they stand for is known.
use Rattle.std.proofs.Common.{◌≡◌, ℕ, List, [], ◌∷◌, Option, refl, ap, sym, ◌∙◌}
use Rattle.std.specs.Prelude.{Result, Ok, Err}
use Rattle.c_tree.specs.run_state.Units.{Units}
use Rattle.c_tree.specs.run_state.Endings.{Report}
use Rattle.c_tree.specs.declared.outcome.CValue.{CValue}
use Rattle.c_tree.specs.declared.outcome.CFault.{CFault}
use Rattle.c_tree.specs.Faults.{Or, after, failing}
use Rattle.c_tree.specs.Objects.{Object, as_number}
use Rattle.c_tree.specs.World.{World, Transfer, Reply, Gives, Void, Stops, Range}
use Rattle.c_tree.specs.Builtins.{s_copy, s_cat, s_stop, s_rnge}
use Rattle.c_tree.specs.Library.{library, stopped, stops, out_of_range}
use Rattle.c_tree.specs.LibraryArguments.{number_through, count_from, length_from, text_at, text_stored, name_at, fitted}
use Rattle.c_tree.specs.LibraryTexts.{put_text, copied, concatenated, pieces}
use Rattle.run_bytes.specs.Answers.{answered}
use Rattle.run_bytes.specs.Layout.{Stores}
use Rattle.library_calls.specs.Answers.{Answers, world_of}
use Rattle.library_calls.specs.Arguments.{assigned_text, piece_counts, ending_text, report_of}
use Rattle.library_calls.proofs.OrLemmas.{known, faulty, behind, same-rest}

copied-by : (world : World) (target source target_length source_length : CValue) →
    copied world target source target_length source_length
    ≡ after (assigned_text world.objects source target_length source_length) (λ given. put_text world target given.0 given.1)
unfolding copied
copied-by world target source target_length source_length =
    sym (behind (length_from target_length) _ _
    ∙ same-rest (length_from target_length) _ _ (λ size. behind (length_from source_length) _ _
    ∙ same-rest (length_from source_length) _ _ (λ count. behind (text_at world.objects source count) _ _)))

concatenated-by : (world : World) (target addresses lengths count target_length : CValue) →
    concatenated world target addresses lengths count target_length
    ≡ after (piece_counts world.objects count target_length) (λ counts. after (pieces world.objects addresses lengths counts.0) (λ text. put_text world target counts.1 text))
unfolding concatenated
concatenated-by world target addresses lengths count target_length =
    sym (behind (number_through world.objects count) _ _
    ∙ same-rest (number_through world.objects count) _ _ (λ number. behind (count_from number) _ _
    ∙ same-rest (count_from number) _ _ (λ count. behind (length_from target_length) _ _)))

put : (objects new : List Object) (units : Units) (transfer : Option Transfer) (target : CValue) (size : ℕ) (text : List ℕ) →
    text_stored objects target (fitted size text) ≡ Ok new → put_text (world_of objects units transfer) target size text ≡ Ok (Void (world_of new units transfer))
put objects new units transfer target size text is = ap (λ stored. after stored (λ objects. Ok (Void (world_of objects units transfer)))) is

not-put : (objects : List Object) (units : Units) (transfer : Option Transfer) (target : CValue) (size : ℕ) (text : List ℕ) (fault : CFault) →
    text_stored objects target (fitted size text) ≡ failing fault → put_text (world_of objects units transfer) target size text ≡ failing fault
not-put objects units transfer target size text fault is = ap (λ stored. after stored (λ objects. Ok (Void (world_of objects units transfer)))) is

copying : (objects : List Object) (target source target_length source_length : CValue) (size : ℕ) (text : List ℕ) → Ok (size, text) ≡ assigned_text objects source target_length source_length →
    (units : Units) → (transfer : Option Transfer) →
    library s_copy (world_of objects units transfer) (target ∷ source ∷ target_length ∷ source_length ∷ []) ≡ put_text (world_of objects units transfer) target size text
unfolding library
copying objects target source target_length source_length size text is units transfer =
    copied-by (world_of objects units transfer) target source target_length source_length ∙ known (assigned_text objects source target_length source_length) (size, text) _ is

pub assigned : (old new : List Object) (target source target_length source_length : CValue) (size : ℕ) (text : List ℕ) (result : Result (Unit {0}) CFault) →
    Ok (size, text) ≡ assigned_text old source target_length source_length → Stores (λ all. text_stored all target (fitted size text)) old new result →
    Answers (λ done. Void) s_copy (target ∷ source ∷ target_length ∷ source_length ∷ []) old new result
assigned old new target source target_length source_length size text (Ok done) is stores =
    λ units transfer. copying old target source target_length source_length size text is units transfer ∙ put old new units transfer target size text stores
assigned old new target source target_length source_length size text (Err fault) is stores =
    (λ units transfer. copying old target source target_length source_length size text is units transfer ∙ not-put old units transfer target size text fault stores.0, stores.1)

pub not-assigned : (objects : List Object) (target source target_length source_length : CValue) (fault : CFault) → failing fault ≡ assigned_text objects source target_length source_length →
    (units : Units) → (transfer : Option Transfer) → library s_copy (world_of objects units transfer) (target ∷ source ∷ target_length ∷ source_length ∷ []) ≡ failing fault
unfolding library
not-assigned objects target source target_length source_length fault is units transfer =
    copied-by (world_of objects units transfer) target source target_length source_length ∙ faulty (assigned_text objects source target_length source_length) fault _ is

joining : (objects : List Object) (target addresses lengths count target_length : CValue) (many size : ℕ) → Ok (many, size) ≡ piece_counts objects count target_length →
    (units : Units) → (transfer : Option Transfer) → library s_cat (world_of objects units transfer) (target ∷ addresses ∷ lengths ∷ count ∷ target_length ∷ [])
    ≡ after (pieces objects addresses lengths many) (λ text. put_text (world_of objects units transfer) target size text)
unfolding library
joining objects target addresses lengths count target_length many size is units transfer =
    concatenated-by (world_of objects units transfer) target addresses lengths count target_length ∙ known (piece_counts objects count target_length) (many, size) _ is

pub joined : (old new : List Object) (target addresses lengths count target_length : CValue) (many size : ℕ) (text : List ℕ) (result : Result (Unit {0}) CFault) →
    Ok (many, size) ≡ piece_counts old count target_length → pieces old addresses lengths many ≡ Ok text → Stores (λ all. text_stored all target (fitted size text)) old new result →
    Answers (λ done. Void) s_cat (target ∷ addresses ∷ lengths ∷ count ∷ target_length ∷ []) old new result
joined old new target addresses lengths count target_length many size text (Ok done) is found stores =
    λ units transfer. joining old target addresses lengths count target_length many size is units transfer
    ∙ known (pieces old addresses lengths many) text _ (sym found) ∙ put old new units transfer target size text stores
joined old new target addresses lengths count target_length many size text (Err fault) is found stores = (
  λ units transfer. joining old target addresses lengths count target_length many size is units transfer
      ∙ known (pieces old addresses lengths many) text _ (sym found) ∙ not-put old units transfer target size text fault stores.0,
  stores.1,
)

pub no-piece : (objects : List Object) (target addresses lengths count target_length : CValue) (many size : ℕ) (fault : CFault) → Ok (many, size) ≡ piece_counts objects count target_length →
    pieces objects addresses lengths many ≡ failing fault → (units : Units) → (transfer : Option Transfer) →
    library s_cat (world_of objects units transfer) (target ∷ addresses ∷ lengths ∷ count ∷ target_length ∷ []) ≡ failing fault
no-piece objects target addresses lengths count target_length many size fault is found units transfer =
    joining objects target addresses lengths count target_length many size is units transfer ∙ faulty (pieces objects addresses lengths many) fault _ (sym found)

pub not-joined : (objects : List Object) (target addresses lengths count target_length : CValue) (fault : CFault) → failing fault ≡ piece_counts objects count target_length →
    (units : Units) → (transfer : Option Transfer) → library s_cat (world_of objects units transfer) (target ∷ addresses ∷ lengths ∷ count ∷ target_length ∷ []) ≡ failing fault
unfolding library
not-joined objects target addresses lengths count target_length fault is units transfer =
    concatenated-by (world_of objects units transfer) target addresses lengths count target_length ∙ faulty (piece_counts objects count target_length) fault _ is

-- the endings
stops-by : (world : World) (pointer size : CValue) → stops world pointer size ≡ after (ending_text world.objects pointer size) (λ text. Ok (stopped world text))
unfolding stops
stops-by world pointer size = sym (behind (length_from size) _ _)

pub stop-answered : {A : Type 0} (shown : A → List ℕ) (objects : List Object) (pointer size : CValue) (result : Result A CFault) → answered shown result ≡ ending_text objects pointer size →
    Answers (λ text world. stopped world (shown text)) s_stop (pointer ∷ size ∷ []) objects objects result
unfolding library
stop-answered shown objects pointer size (Ok text) is =
    λ units transfer. stops-by (world_of objects units transfer) pointer size ∙ known (ending_text objects pointer size) (shown text) _ is
stop-answered shown objects pointer size (Err fault) is =
    (λ units transfer. stops-by (world_of objects units transfer) pointer size ∙ faulty (ending_text objects pointer size) fault _ is, refl)

range-by : (world : World) (variable number unit card : CValue) →
    out_of_range world variable number unit card ≡ after (report_of world.objects variable number unit card) (λ report. Ok (Stops (Range report) world))
unfolding out_of_range
range-by world variable number unit card =
    sym (behind (name_at world.objects variable) _ _
    ∙ same-rest (name_at world.objects variable) _ _ (λ name. behind (as_number number) _ _
    ∙ same-rest (as_number number) _ _ (λ found. behind (name_at world.objects unit) _ _
    ∙ same-rest (name_at world.objects unit) _ _ (λ unit_name. behind (as_number card) _ _))))

pub range-answered : {A : Type 0} (shown : A → Report) (objects : List Object) (variable number unit card : CValue) (result : Result A CFault) →
    answered shown result ≡ report_of objects variable number unit card →
    Answers (λ report world. Stops (Range (shown report)) world) s_rnge (variable ∷ number ∷ unit ∷ card ∷ []) objects objects result
unfolding library
range-answered shown objects variable number unit card (Ok report) is =
    λ units transfer. range-by (world_of objects units transfer) variable number unit card ∙ known (report_of objects variable number unit card) (shown report) _ is
range-answered shown objects variable number unit card (Err fault) is =
    (λ units transfer. range-by (world_of objects units transfer) variable number unit card ∙ faulty (report_of objects variable number unit card) fault _ is, refl)
