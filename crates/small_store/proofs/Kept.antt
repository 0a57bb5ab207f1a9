-- Behind a put that is done, its bytes are kept under its uid.
use Rattle.std.specs.Prelude.{◌≡◌, ℕ, Bool, IsTrue, List, Option, Some, Result, Ok, Err, OnOk}
use Rattle.std.proofs.Common.{refl, ap, ◌∙◌, sym}
use Rattle.std.specs.FinMap as map
use Rattle.std.proofs.lemmas.Cmp.{tied_itself}
use Rattle.capability.specs.declared.Uid.{Uid}
use Rattle.capability.proofs.Uids.{uid_cmp_total}
use Rattle.passive_store.specs.declared.store.Pick.{Pick}
use Rattle.passive_store.specs.declared.store.StoreRefusal.{StoreRefusal}
use Rattle.passive_store.specs.Kept.{Kept, Layout, Work, body_at, kept_after, kept_changed, settled}
use Rattle.passive_store.specs.Seen.{Seen, Changes, asked, change_asked}

-- the bytes that are put are found under the uid
found : (layout : Layout) (uid : Uid) (bytes : List ℕ) (mark : ℕ) (old : Kept)
    → body_at (kept_after (change_asked layout (asked uid (Some bytes)) mark) old) uid ≡ Some bytes
found layout uid bytes mark old = map.get-insert uid_cmp_total old.bodies uid bytes uid ∙ rw (tied_itself uid_cmp_total uid) refl

-- the same of what is kept behind a call, by how it ended
ended : (layout : Layout) (uid named : Uid) (bytes text : List ℕ) (mark : ℕ) (pick : Option Pick) (work : Work) (old new : Kept)
    (result : Result (Unit {0}) StoreRefusal) → uid ≡ named → bytes ≡ text
    → new ≡ kept_changed pick (change_asked layout (asked uid (Some bytes)) mark) work old result
    → OnOk result (body_at new named ≡ Some text)
ended layout uid named bytes text mark pick work old new (Ok done) same spelled is =
    ap (body_at new) (sym same) ∙ (ap (λ k. body_at k uid) is ∙ (found layout uid bytes mark (settled pick work old) ∙ ap Some spelled))
ended layout uid named bytes text mark pick work old new (Err refusal) same spelled is = tt

-- the same by the clause of a put, under another spelling of the uid and of the bytes
pub put_is_kept : (tells : Bool) (layout : Layout) (uid named : Uid) (bytes text : List ℕ) (result : Result (Unit {0}) StoreRefusal)
    (old new : Seen) → uid ≡ named → bytes ≡ text → Changes tells layout (asked uid (Some bytes)) result old new → IsTrue tells
    → OnOk result (body_at new.kept named ≡ Some text)
put_is_kept tells layout uid named bytes text result old new same spelled changes told =
    ended layout uid named bytes text changes.mark new.picked old.work old.kept new.kept result same spelled (changes.kept told)
