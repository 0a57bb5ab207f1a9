-- The device calls of a job, each by what it leaves.
use Rattle.std.proofs.Common.{◌≡◌, ℕ, ◌+◌, List, [], ◌∷◌, ◌++◌, length, drop, refl, sym, ap, subst, ◌∙◌, inl, append_assoc, length-append}
use Rattle.std.specs.Prelude.{Result, Ok, Err, OnOk}
use Rattle.eden_disk.specs.declared.disk.DiskRefusal.{DiskRefusal}
use Rattle.eden_disk.specs.Told.{Contents, Told, at_rest, contents, noted, Wrote, Synced, overlay}
use Rattle.eden_disk.specs.Calls.{End, Fine, end_of, WriteTold, SyncTold}
use Rattle.eden_disk.specs.Held.{Passes}
use Rattle.eden_disk.proofs.Held.{passes_sync, passes_weaker}
use Rattle.passive_store.specs.Log.{HalfWritten, Unwritten}
use Rattle.passive_store.specs.LogState.{JobFacts, IsJobAfter, IsShut, IsOpened}
use Rattle.passive_store.proofs.Images.{overlay_behind}
use Rattle.passive_store.proofs.Writing.{passes_record, passes_gate}

rest_now : (c : Contents) (bytes : List ℕ) → c ≡ at_rest c.now → c.now ≡ bytes → c ≡ at_rest bytes
rest_now c bytes rest is = rest ∙ ap at_rest is

at_front : (size : ℕ) (c : Contents) (bytes : List ℕ) → length c.now ≡ size → c.now ≡ bytes → length bytes ≡ size
at_front size c bytes whole is = sym (ap length is) ∙ whole

-- the record is written
pub writes_record : (size clock : ℕ) (front bytes : List ℕ) (old new : Told) (end : End) → IsJobAfter size front bytes 0 (contents old)
    → WriteTold clock (length front + 1) bytes old new end → Passes (Unwritten size front) old new
writes_record size clock front bytes old new end (half, (rest, (gate, more, shut, is, fits))) told =
    passes_record size clock (length front + 1) gate front more bytes old new end shut refl
    (rest_now (contents old) (front ++ gate ∷ more) rest is)
    (at_front size (contents old) (front ++ gate ∷ more) half.now.0 is) fits told

pub half_written : (size : ℕ) (front bytes : List ℕ) (old new : Told) → Passes (Unwritten size front) old new
    → Passes (HalfWritten size front bytes) old new
half_written size front bytes old new p = passes_weaker (Unwritten size front) (HalfWritten size front bytes) old new
    (λ image u. (u.0, inl u.1)) p

pub record_written : (size clock : ℕ) (front bytes : List ℕ) (old new : Told) → IsJobAfter size front bytes 0 (contents old)
    → new ≡ noted (Wrote clock (length front + 1) bytes) old → IsShut front bytes (contents new).now
record_written size clock front bytes old new (half, (rest, (gate, more, shut, is, fits))) told = (
  gate,
  drop (length bytes) more,
  shut,
  ap (λ t. (contents t).now) told ∙ ap (overlay (length front + 1) bytes) is
      ∙ ap (overlay (length front + 1) bytes) (sym (append_assoc front (gate ∷ []) more))
      ∙ overlay_behind (front ++ gate ∷ []) more bytes (length front + 1) (length-append front (gate ∷ []))
      ∙ append_assoc front (gate ∷ []) (bytes ++ drop (length bytes) more),
)

-- the gate is opened
pub writes_gate : (size clock : ℕ) (front bytes : List ℕ) (old new : Told) (end : End) → IsJobAfter size front bytes 2 (contents old)
    → WriteTold clock (length front) (225 ∷ []) old new end → Passes (HalfWritten size front bytes) old new
writes_gate size clock front bytes old new end (half, (rest, (gate, more, shut, is))) told =
    passes_gate size clock (length front) gate front bytes more old new end refl
    (rest_now (contents old) (front ++ gate ∷ (bytes ++ more)) rest is)
    (at_front size (contents old) (front ++ gate ∷ (bytes ++ more)) half.now.0 is) half told

pub gate_written_now : (size clock : ℕ) (front bytes : List ℕ) (old new : Told) → IsJobAfter size front bytes 2 (contents old)
    → new ≡ noted (Wrote clock (length front) (225 ∷ [])) old → IsOpened front bytes (contents new).now
gate_written_now size clock front bytes old new (half, (rest, (gate, more, shut, is))) told = (
  more,
  ap (λ t. (contents t).now) told ∙ ap (overlay (length front) (225 ∷ [])) is ∙ overlay_behind front (gate ∷ (bytes ++ more))
      (225 ∷ []) (length front) refl,
)

-- a sync
pub syncs : (size made clock : ℕ) (front bytes : List ℕ) (old new : Told) (end : End) → IsJobAfter size front bytes made (contents old)
    → SyncTold clock old new end → Passes (HalfWritten size front bytes) old new
syncs size made clock front bytes old new end job told = passes_sync (HalfWritten size front bytes) clock old new end job.0 told

at_rest_is : (clock : ℕ) (old new : Told) → new ≡ noted (Synced clock) old → contents new ≡ at_rest (contents old).now
at_rest_is clock old new told = ap contents told

pub rests : (c d : Contents) → d ≡ at_rest c.now → d ≡ at_rest d.now
rests c d e = e ∙ sym (ap (λ (x : Contents). at_rest x.now) e)

pub record_synced_now : (size clock : ℕ) (front bytes : List ℕ) (old new : Told) → IsJobAfter size front bytes 1 (contents old)
    → new ≡ noted (Synced clock) old → JobFacts front bytes 2 (contents new)
record_synced_now size clock front bytes old new job told =
    let e : contents new ≡ at_rest (contents old).now = at_rest_is clock old new told in
    (rests (contents old) (contents new) e, subst (IsShut front bytes) (sym (ap (λ (x : Contents). x.now) e)) job.1)

pub gate_synced_now : (size clock : ℕ) (front bytes : List ℕ) (old new : Told) → IsJobAfter size front bytes 3 (contents old)
    → new ≡ noted (Synced clock) old → JobFacts front bytes 4 (contents new)
gate_synced_now size clock front bytes old new job told =
    let e : contents new ≡ at_rest (contents old).now = at_rest_is clock old new told in
    (rests (contents old) (contents new) e, subst (IsOpened front bytes) (sym (ap (λ (x : Contents). x.now) e)) job.1)

-- each of them as it ends
pub record_first : (size clock at : ℕ) (front bytes : List ℕ) (old new : Told) (end : End) → length front + 1 ≡ at
    → IsJobAfter size front bytes 0 (contents old) → WriteTold clock at bytes old new end → Passes (Unwritten size front) old new
record_first size clock at front bytes old new end place job told = writes_record size clock front bytes old new end job
    (subst (λ a. WriteTold clock a bytes old new end) (sym place) told)

pub record_next : (size clock at : ℕ) (front bytes : List ℕ) (old new : Told) (result : Result (Unit {0}) DiskRefusal)
    → length front + 1 ≡ at → IsJobAfter size front bytes 0 (contents old) → WriteTold clock at bytes old new (end_of result) →
    Passes (HalfWritten size front bytes) old new × OnOk result (IsJobAfter size front bytes 1 (contents new))
record_next size clock at front bytes old new (Ok done) place job told =
    let t : WriteTold clock (length front + 1) bytes old new Fine = subst (λ a. WriteTold clock a bytes old new Fine) (sym place) told in
    let p = half_written size front bytes old new (writes_record size clock front bytes old new Fine job t) in
    (p, (p.after, record_written size clock front bytes old new job t))
record_next size clock at front bytes old new (Err e) place job told = (
  half_written size front bytes old new (record_first size clock at front bytes old new
      (end_of {T = Unit {0}} (Err e)) place job told),
  tt,
)

pub gate_next : (size clock at : ℕ) (front bytes : List ℕ) (old new : Told) (result : Result (Unit {0}) DiskRefusal) → length front ≡ at
    → IsJobAfter size front bytes 2 (contents old) → WriteTold clock at (225 ∷ []) old new (end_of result) →
    Passes (HalfWritten size front bytes) old new × OnOk result (IsJobAfter size front bytes 3 (contents new))
gate_next size clock at front bytes old new (Ok done) place job told =
    let t : WriteTold clock (length front) (225 ∷ []) old new Fine = subst (λ a. WriteTold clock a (225 ∷ []) old new Fine)
    (sym place) told in
    let p = writes_gate size clock front bytes old new Fine job t in (p, (p.after, gate_written_now size clock front bytes old new job t))
gate_next size clock at front bytes old new (Err e) place job told = (
  writes_gate size clock front bytes old new (end_of {T = Unit {0}} (Err e)) job
      (subst (λ a. WriteTold clock a (225 ∷ []) old new (end_of {T = Unit {0}} (Err e))) (sym place) told),
  tt,
)

pub record_sync_next : (size clock : ℕ) (front bytes : List ℕ) (old new : Told) (result : Result (Unit {0}) DiskRefusal)
    → IsJobAfter size front bytes 1 (contents old) → SyncTold clock old new (end_of result) →
    Passes (HalfWritten size front bytes) old new × OnOk result (IsJobAfter size front bytes 2 (contents new))
record_sync_next size clock front bytes old new (Ok done) job told = let p = syncs size 1 clock front bytes old new Fine job told in
    (p, (p.after, record_synced_now size clock front bytes old new job told))
record_sync_next size clock front bytes old new (Err e) job told =
    (syncs size 1 clock front bytes old new (end_of {T = Unit {0}} (Err e)) job told, tt)

pub gate_sync_next : (size clock : ℕ) (front bytes : List ℕ) (old new : Told) (result : Result (Unit {0}) DiskRefusal)
    → IsJobAfter size front bytes 3 (contents old) → SyncTold clock old new (end_of result) →
    Passes (HalfWritten size front bytes) old new × OnOk result (IsJobAfter size front bytes 4 (contents new))
gate_sync_next size clock front bytes old new (Ok done) job told = let p = syncs size 3 clock front bytes old new Fine job told in
    (p, (p.after, gate_synced_now size clock front bytes old new job told))
gate_sync_next size clock front bytes old new (Err e) job told =
    (syncs size 3 clock front bytes old new (end_of {T = Unit {0}} (Err e)) job told, tt)

pub other_sync_next : (size clock : ℕ) (front bytes : List ℕ) (old new : Told) (result : Result (Unit {0}) DiskRefusal)
    → IsJobAfter size front bytes 5 (contents old) → SyncTold clock old new (end_of result) →
    Passes (HalfWritten size front bytes) old new × OnOk result (IsJobAfter size front bytes 6 (contents new))
other_sync_next size clock front bytes old new (Ok done) job told = let p = syncs size 5 clock front bytes old new Fine job told in
    (p, (p.after, tt))
other_sync_next size clock front bytes old new (Err e) job told =
    (syncs size 5 clock front bytes old new (end_of {T = Unit {0}} (Err e)) job told, tt)
