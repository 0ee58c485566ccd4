-- A call of STOP ends the run with its text (ANSI X3.9-1978, 11.12).
use Rattle.std.proofs.Common.{◌≡◌, ℕ, true, length, List, [], ◌∷◌, Option, refl, ap, sym, ◌∙◌, arith, eqb-true}
use Rattle.std.specs.Prelude.{◌==◌, Ok, Err}
use Rattle.c_tree.specs.run_state.Units.{Units}
use Rattle.c_tree.specs.declared.outcome.CValue.{CValue}
use Rattle.c_tree.specs.Faults.{Or, after}
use Rattle.c_tree.specs.Objects.{Object}
use Rattle.c_tree.specs.World.{World, Transfer, Stops}
use Rattle.c_tree.specs.Builtins.{s_stop}
use Rattle.c_tree.specs.Library.{library, stopped, stops}
use Rattle.c_tree.specs.LibraryArguments.{length_from, text_at}
use Rattle.item_deeds.proofs.FormLaws.{same-objects}
use Rattle.f2c_outside.specs.Table.{Row}
use Rattle.unit_answers.proofs.FailureLaws.{none-failed}
use Rattle.library_calls.specs.Answers.{world_of}
use Rattle.run_library.specs.declared.library.LibraryReply.TheVariants as reply
use Rattle.unit_library.specs.declared.endings.RunEnding.TheVariants as ended
use Rattle.unit_library.specs.declared.transfers.TransferInProgress.{TransferInProgress}
use Rattle.unit_library.specs.Endings.{text_ending, ending_of}
use Rattle.unit_library.specs.Calls.{Calls}
use Rattle.unit_library.proofs.GivenCalls.{anywhere}
use Rattle.unit_library.proofs.SameCalls.{arguments-same}

empty-at : (text : List ℕ) → length text ≡ 0 → text ≡ []
empty-at [] none = refl
empty-at (first ∷ rest) none = absurd (omega arith)

pub empty-text : (text : List ℕ) → true ≡ (length text == 0) → text ≡ []
empty-text text is = empty-at text (eqb-true (length text) 0 (sym is))

text-shown : (world : World) (found : Or (List ℕ)) (text : List ℕ) → after found (λ t. Ok (stopped world t)) ≡ Ok (stopped world text) →
    after found (λ t. Ok (stopped world t)) ≡ Ok (Stops (text_ending found) world)
text-shown world (Ok []) text is = refl
text-shown world (Ok (first ∷ rest)) text is = refl
text-shown world (Err reason) text is = not-stopped text is
  where
    not-stopped : (text : List ℕ) → Err reason ≡ Ok (stopped world text) → Err reason ≡ Ok (Stops (text_ending (Err reason)) world)
    not-stopped [] is = absurd (cc)
    not-stopped (first ∷ rest) is = absurd (cc)

stop-shown : (world : World) (count : Or ℕ) (texts : ℕ → Or (List ℕ)) (text : List ℕ) → after count (λ n. after (texts n) (λ t. Ok (stopped world t))) ≡ Ok (stopped world text) →
    after count (λ n. after (texts n) (λ t. Ok (stopped world t))) ≡ Ok (Stops (text_ending (after count texts)) world)
stop-shown world (Ok n) texts text is = text-shown world (texts n) text is
stop-shown world (Err reason) texts text is = not-stopped text is
  where
    not-stopped : (text : List ℕ) → Err reason ≡ Ok (stopped world text) → Err reason ≡ Ok (Stops (text_ending (Err reason)) world)
    not-stopped [] is = absurd (cc)
    not-stopped (first ∷ rest) is = absurd (cc)

stop-reply : (objects : List Object) (units : Units) (transfer : Option Transfer) (pointer size : CValue) (text : List ℕ) →
    library s_stop (world_of objects units transfer) (pointer ∷ size ∷ []) ≡ Ok (stopped (world_of objects units transfer) text) →
    library s_stop (world_of objects units transfer) (pointer ∷ size ∷ []) ≡ Ok (Stops (ending_of objects (ended.Stop pointer size)) (world_of objects units transfer))
unfolding library stops
stop-reply objects units transfer pointer size text is =
    stop-shown (world_of objects units transfer) (length_from size) (λ count. text_at objects pointer count) text is

pub stops-with : (arguments' : List CValue) (objects : List Object) (pointer size : CValue) (text : List ℕ) → pointer ∷ size ∷ [] ≡ arguments' →
    ((units : Units) → (transfer : Option Transfer) → library s_stop (world_of objects units transfer) (pointer ∷ size ∷ []) ≡ Ok (stopped (world_of objects units transfer) text)) →
    (held : Option TransferInProgress) → (rows : List Row) → Calls s_stop arguments' objects objects held held rows rows (Ok (reply.Stops (ended.Stop pointer size)))
stops-with arguments' objects pointer size text same answers held rows =
    arguments-same s_stop (pointer ∷ size ∷ []) arguments' objects objects held held rows rows (Ok (reply.Stops (ended.Stop pointer size))) (Ok (reply.Stops (ended.Stop pointer size))) same refl
    (anywhere (Ok (reply.Stops (ended.Stop pointer size))) (λ units transfer. stop-reply objects units transfer pointer size text (answers units transfer)) (none-failed rows)
    (same-objects objects))

pub stops-plainly : (arguments' : List CValue) (objects : List Object) (pointer size : CValue) (text : List ℕ) → pointer ∷ size ∷ [] ≡ arguments' → text ≡ [] →
    ((units : Units) → (transfer : Option Transfer) → library s_stop (world_of objects units transfer) (pointer ∷ size ∷ []) ≡ Ok (stopped (world_of objects units transfer) text)) →
    (held : Option TransferInProgress) → (rows : List Row) → Calls s_stop arguments' objects objects held held rows rows (Ok (reply.Stops ended.Plain))
stops-plainly arguments' objects pointer size text same empty answers held rows =
    arguments-same s_stop (pointer ∷ size ∷ []) arguments' objects objects held held rows rows (Ok (reply.Stops ended.Plain)) (Ok (reply.Stops ended.Plain)) same refl
    (anywhere (Ok (reply.Stops ended.Plain))
    (λ units transfer. answers units transfer ∙ ap (λ (t : List ℕ). Ok (stopped (world_of objects units transfer) t)) empty) (none-failed rows) (same-objects objects))
