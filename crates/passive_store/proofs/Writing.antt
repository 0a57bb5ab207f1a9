-- The device calls that write a record, one after another.
use Rattle.std.proofs.Common.{◌≡◌, ℕ, ◌+◌, ◌≤◌, false, List, [], ◌∷◌, ◌++◌, length, drop, refl, sym, ap, subst, ◌∙◌, arith, append_assoc}
use Rattle.std.proofs.Common.{length-append}
use Rattle.std.specs.Prelude.{◌==◌}
use Rattle.eden_disk.specs.Told.{Contents, Told, at_rest, after_act, contents, noted, Wrote, Synced, overlay}
use Rattle.eden_disk.specs.Calls.{End, WriteTold, SyncTold}
use Rattle.eden_disk.specs.Held.{Holds, Passes}
use Rattle.eden_disk.proofs.Held.{holds_at_rest, passes_write, passes_sync, passes_join}
use Rattle.passive_store.specs.Log.{HalfWritten, Unwritten}
use Rattle.passive_store.proofs.Images.{overlay_behind, written_behind, gate_written}

-- before the record is written
pub closed_at_rest : (size gate : ℕ) (front rest : List ℕ) → (gate == 225) ≡ false → length (front ++ gate ∷ rest) ≡ size
    → Holds (Unwritten size front) (at_rest (front ++ gate ∷ rest))
closed_at_rest size gate front rest shut whole = holds_at_rest (Unwritten size front) (front ++ gate ∷ rest)
    (whole, (gate, rest, shut, refl))

-- the record is written behind its closed gate
pub passes_record : (size clock at gate : ℕ) (front rest bytes : List ℕ) (old new : Told) (end : End) →
    (gate == 225) ≡ false → at ≡ length front + 1 → contents old ≡ at_rest (front ++ gate ∷ rest) → length (front ++ gate ∷ rest) ≡ size
    → length bytes ≤ length rest →
    WriteTold clock at bytes old new end → Passes (Unwritten size front) old new
passes_record size clock at gate front rest bytes old new end shut place is whole fits told =
    let P : List ℕ → Type 0 = Unwritten size front in
    passes_write P clock at bytes old new end
    (subst (Holds P) (sym is) (closed_at_rest size gate front rest shut whole))
    (λ left same. subst (λ c. Holds P (after_act (Wrote clock at left) c)) (sym is)
    (subst (λ a. Holds P (after_act (Wrote clock a left) (at_rest (front ++ gate ∷ rest)))) (sym place)
    (written_behind size clock gate front rest left shut whole (omega (arith, same, fits)))))
    told

-- what is there once it is written and synced
pub record_synced : (clock sync at gate : ℕ) (front rest bytes : List ℕ) (old mid new : Told) →
    at ≡ length front + 1 → contents old ≡ at_rest (front ++ gate ∷ rest) →
    mid ≡ noted (Wrote clock at bytes) old → new ≡ noted (Synced sync) mid
    → contents new ≡ at_rest (front ++ gate ∷ (bytes ++ drop (length bytes) rest))
record_synced clock sync at gate front rest bytes old mid new place is wrote synced =
    ap contents synced ∙ ap (λ t. at_rest (contents t).now) wrote ∙ ap (λ (c : Contents). at_rest (overlay at bytes c.now)) is
    ∙ ap (λ l. at_rest (overlay at bytes l)) (sym (append_assoc front (gate ∷ []) rest))
    ∙ ap at_rest (overlay_behind (front ++ gate ∷ []) rest bytes at (length-append front (gate ∷ []) ∙ sym place))
    ∙ ap at_rest (append_assoc front (gate ∷ []) (bytes ++ drop (length bytes) rest))

-- the gate is opened
pub passes_gate : (size clock at gate : ℕ) (front bytes rest : List ℕ) (old new : Told) (end : End) →
    at ≡ length front → contents old ≡ at_rest (front ++ gate ∷ (bytes ++ rest)) → length (front ++ gate ∷ (bytes ++ rest)) ≡ size →
    Holds (HalfWritten size front bytes) (contents old) → WriteTold clock at (225 ∷ []) old new end
    → Passes (HalfWritten size front bytes) old new
passes_gate size clock at gate front bytes rest old new end place is whole before told =
    let P : List ℕ → Type 0 = HalfWritten size front bytes in
    passes_write P clock at (225 ∷ []) old new end before
    (λ left one. subst (λ c. Holds P (after_act (Wrote clock at left) c)) (sym is)
    (subst (λ a. Holds P (after_act (Wrote clock a left) (at_rest (front ++ gate ∷ (bytes ++ rest))))) (sym place)
    (gate_written size clock gate front bytes rest left whole one)))
    told

pub gate_synced : (clock sync at gate : ℕ) (front rest : List ℕ) (old mid new : Told) →
    at ≡ length front → contents old ≡ at_rest (front ++ gate ∷ rest) →
    mid ≡ noted (Wrote clock at (225 ∷ [])) old → new ≡ noted (Synced sync) mid → contents new ≡ at_rest (front ++ 225 ∷ rest)
gate_synced clock sync at gate front rest old mid new place is wrote synced =
    ap contents synced ∙ ap (λ t. at_rest (contents t).now) wrote ∙ ap (λ (c : Contents). at_rest (overlay at (225 ∷ []) c.now)) is
    ∙ ap at_rest (overlay_behind front (gate ∷ rest) (225 ∷ []) at (sym place))

-- a sync after all that
pub passes_on_sync : (P : List ℕ → Type 0) (clock : ℕ) (start old new : Told) (end : End) → Passes P start old
    → SyncTold clock old new end → Passes P start new
passes_on_sync P clock start old new end before told = passes_join P start old new before
    (passes_sync P clock old new end before.after told)
