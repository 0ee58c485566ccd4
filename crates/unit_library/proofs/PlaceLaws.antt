-- A call at a place outside its declared bounds ends the run with its report.
use Rattle.std.proofs.Common.{◌≡◌, ℕ, ℤ, List, [], ◌∷◌, Option, refl}
use Rattle.std.specs.Prelude.{Ok, Err}
use Rattle.c_tree.specs.run_state.Units.{Units}
use Rattle.c_tree.specs.run_state.Endings.{Report}
use Rattle.c_tree.specs.declared.outcome.CValue.{CValue}
use Rattle.c_tree.specs.Faults.{Or, after}
use Rattle.c_tree.specs.Objects.{Object, as_number}
use Rattle.c_tree.specs.World.{World, Transfer, Reply, Stops, Range}
use Rattle.c_tree.specs.Builtins.{s_rnge}
use Rattle.c_tree.specs.Library.{library, out_of_range}
use Rattle.c_tree.specs.LibraryArguments.{name_at}
use Rattle.item_deeds.proofs.FormLaws.{same-objects}
use Rattle.f2c_outside.specs.Table.{Row}
use Rattle.unit_answers.proofs.FailureLaws.{none-failed}
use Rattle.library_calls.specs.Answers.{world_of}
use Rattle.run_library.specs.declared.library.LibraryReply.TheVariants as reply
use Rattle.unit_library.specs.declared.endings.RunEnding.TheVariants as ended
use Rattle.unit_library.specs.declared.transfers.TransferInProgress.{TransferInProgress}
use Rattle.unit_library.specs.Endings.{range_ending, ending_of}
use Rattle.unit_library.specs.Calls.{Calls}
use Rattle.unit_library.proofs.GivenCalls.{anywhere}
use Rattle.unit_library.proofs.SameCalls.{arguments-same}

abbrev reported : Or (List ℕ) → Or ℤ → Or (List ℕ) → Or ℤ → Or Report
reported variable number unit card =
    after variable (λ a. after number (λ b. after unit (λ c. after card (λ d. Ok (record { variable = a; number = b; unit = c; card = d })))))

abbrev stopping : World → Or (List ℕ) → Or ℤ → Or (List ℕ) → Or ℤ → Or Reply
stopping world variable number unit card =
    after variable (λ a. after number (λ b. after unit (λ c. after card (λ d. Ok (Stops (Range (record { variable = a; number = b; unit = c; card = d })) world)))))

range-shown : (world : World) (variable : Or (List ℕ)) (number : Or ℤ) (unit : Or (List ℕ)) (card : Or ℤ) (report : Report) →
    stopping world variable number unit card ≡ Ok (Stops (Range report) world) →
    stopping world variable number unit card ≡ Ok (Stops (range_ending (reported variable number unit card)) world)
range-shown world (Ok variable) (Ok number) (Ok unit) (Ok card) report is = refl
range-shown world (Ok variable) (Ok number) (Ok unit) (Err reason) report is = absurd (cc)
range-shown world (Ok variable) (Ok number) (Err reason) card report is = absurd (cc)
range-shown world (Ok variable) (Err reason) unit card report is = absurd (cc)
range-shown world (Err reason) number unit card report is = absurd (cc)

range-reply : (objects : List Object) (units : Units) (transfer : Option Transfer) (variable number unit card : CValue) (report : Report) →
    library s_rnge (world_of objects units transfer) (variable ∷ number ∷ unit ∷ card ∷ []) ≡ Ok (Stops (Range report) (world_of objects units transfer)) →
    library s_rnge (world_of objects units transfer) (variable ∷ number ∷ unit ∷ card ∷ [])
    ≡ Ok (Stops (ending_of objects (ended.Range variable number unit card)) (world_of objects units transfer))
unfolding library out_of_range
range-reply objects units transfer variable number unit card report is =
    range-shown (world_of objects units transfer) (name_at objects variable) (as_number number) (name_at objects unit) (as_number card) report is

pub ends-outside : (arguments' : List CValue) (objects : List Object) (variable number unit card : CValue) (report : Report) → variable ∷ number ∷ unit ∷ card ∷ [] ≡ arguments' →
    ((units : Units) → (transfer : Option Transfer) →
    library s_rnge (world_of objects units transfer) (variable ∷ number ∷ unit ∷ card ∷ []) ≡ Ok (Stops (Range report) (world_of objects units transfer))) →
    (held : Option TransferInProgress) → (rows : List Row) → Calls s_rnge arguments' objects objects held held rows rows (Ok (reply.Stops (ended.Range variable number unit card)))
ends-outside arguments' objects variable number unit card report same answers held rows =
    arguments-same s_rnge (variable ∷ number ∷ unit ∷ card ∷ []) arguments' objects objects held held rows rows (Ok (reply.Stops (ended.Range variable number unit card)))
    (Ok (reply.Stops (ended.Range variable number unit card))) same refl
    (anywhere (Ok (reply.Stops (ended.Range variable number unit card)))
    (λ units transfer. range-reply objects units transfer variable number unit card report (answers units transfer)) (none-failed rows) (same-objects objects))
