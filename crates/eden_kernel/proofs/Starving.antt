-- Turns for which there was no memory: what they leave of the disk.
use Rattle.std.proofs.Common.{◌≡◌, ◌≤◌, ◌+◌, ℕ, List, [], Option, None, Some, sym, subst, arith}
use Rattle.std.specs.Prelude.{IsSomeAnd, IfSome}
use Rattle.capability.specs.declared.Uid.{Uid}
use Rattle.eden_value.specs.Datum.{Datum}
use Rattle.eden_model.specs.Map.{first}
use Rattle.epl_syntax.specs.Edentype.{Edentype}
use Rattle.passive_store.specs.declared.store.Pick.{Pick}
use Rattle.passive_store.specs.Kept.{Layout}
use Rattle.passive_store.specs.Seen.{Seen, DiskSeen}
use Rattle.journal.specs.declared.event.StartEnd.{StartEnd}
use Rattle.journal.specs.declared.event.StartEnd.TheVariants as start_end
use Rattle.journal.specs.declared.event.RequestEnd.TheVariants as end
use Rattle.journal.specs.World.{Site, StoreRequest}
use Rattle.journal.specs.Standing.{Stands, with_changes}
use Rattle.checkpoint.specs.Room.{KeepsRoom}
use Rattle.checkpoint.proofs.Rooms.{kept-room}
use Rattle.checkpoint.specs.Asked.{StandsNow, StepsTo, requests_of, request_of, made_in, pick_of}
use Rattle.checkpoint.specs.Starting.{StartsTo, StartsNot, LeavesNode}
use Rattle.checkpoint.specs.StoreStands.{state_of}
use Rattle.checkpoint.specs.Stretch.{Stretch}
use Rattle.checkpoint.specs.Turns.{TurnsStore}
use Rattle.checkpoint.specs.declared.worker.Request.{Request}
use Rattle.checkpoint.specs.declared.worker.StoreEnd.TheVariants as store_end
use Rattle.checkpoint.specs.declared.worker.StepEnd.{StepEnd}
use Rattle.checkpoint.specs.declared.worker.StepEnd.TheVariants.{Going, Ended}
use Rattle.checkpoint.proofs.Crashing.{still-on-disk}
use Rattle.eden_kernel.specs.DiskTurns.{Starves, IsFirstAsked}

by-stretch : (layout : Layout) (s : Site) (x y : Seen) (S Q : List ℕ → Type 0)
    → Stretch S (Stands layout x.node (with_changes [] (state_of x.node s.node))) Q x.disk.told x.disk.counts.clock y.disk.told
    y.disk.counts.clock
    → KeepsRoom layout x.node x.more y.disk.told → Starves layout s x y
by-stretch layout s x y S Q d room = record { timed = d.timed; moments = d.moments; room = room }

-- no device call was made
pub starves-still : (layout : Layout) (s : Site) (rs : List StoreRequest) (x y : Seen) → StandsNow layout x.node s rs x → y.disk ≡ x.disk
    → Starves layout s x y
starves-still layout s rs x y h same =
    let d = still-on-disk layout x.node s rs x h in
    subst (λ (z : DiskSeen). Starves layout s x (record y { disk = z })) (sym same) (record {
      timed = d.timed;
      moments = d.moments;
      room = kept-room layout x.node x.more x.more x.kept _ x.disk.told (omega arith) h.stands;
    })

-- behind a step of the worker
pub starves-stepped : (layout : Layout) (s : Site) (asked left : List Request) (x y : Seen) (u : Uid) (r : StepEnd) → IsFirstAsked asked u
    → StepsTo layout x.node s asked x left y r → x.more ≤ y.more + 1 → Starves layout s x y
starves-stepped layout s asked left x y u (Going p) some t enough = go (first asked) some t
  where
    go : (o : Option Request) → IsSomeAnd o (λ q. q.uid ≡ u)
        → IfSome o (λ q. TurnsStore layout x.node s (request_of (made_in x.work) q) end.Part (pick_of p) x.disk.told x.disk.counts.clock
        (requests_of y.work left) y.work y.kept y.more y.disk.counts.size y.disk.told y.disk.counts.clock)
        → Starves layout s x y
    go None some t = absurd some
    go (Some q) some t = by-stretch layout s x y _ _ t.disk
        (kept-room layout x.node x.more y.more y.kept _ y.disk.told enough t.stands.stands)
starves-stepped layout s asked left x y u (Ended q store_end.Done) some t enough = by-stretch layout s x y _ _ t.disk
    (kept-room layout x.node x.more y.more y.kept _ y.disk.told enough t.stands.stands)
starves-stepped layout s asked left x y u (Ended q store_end.Full) some t enough = by-stretch layout s x y _ _ t.disk
    (kept-room layout x.node x.more y.more y.kept _ y.disk.told enough t.stands.stands)
starves-stepped layout s asked left x y u (Ended q store_end.Fault) some t enough = by-stretch layout s x y _ _ t.disk
    (kept-room layout x.node x.more y.more y.kept _ y.disk.told enough t.stands.stands)
starves-stepped layout s asked left x y u (Ended q store_end.Stopped) some t enough = by-stretch layout s x y _ _ t.disk
    (kept-room layout x.node x.more y.more t.rests.kept _ y.disk.told enough t.rests.stands)

-- behind the reading of an activation
by-end : (layout : Layout) (s : Site) (rs : List StoreRequest) (x y : Seen) (p : Option Pick) (how : StartEnd)
    → LeavesNode how layout x.node s rs x.disk.told x.disk.counts.clock p y → x.more ≤ y.more → Starves layout s x y
by-end layout s rs x y p start_end.Ok t enough = by-stretch layout s x y _ _ t.disk
    (kept-room layout x.node x.more y.more y.kept _ y.disk.told (omega (arith, enough)) t.stands.stands)
by-end layout s rs x y p start_end.Gone t enough = by-stretch layout s x y _ _ t.disk
    (kept-room layout x.node x.more y.more y.kept _ y.disk.told (omega (arith, enough)) t.stands.stands)
by-end layout s rs x y p start_end.Fault t enough = by-stretch layout s x y _ _ t.disk
    (kept-room layout x.node x.more y.more y.kept _ y.disk.told (omega (arith, enough)) t.stands.stands)
by-end layout s rs x y p start_end.Damaged t enough = by-stretch layout s x y _ _ t.disk
    (kept-room layout x.node x.more y.more y.kept _ y.disk.told (omega (arith, enough)) t.stands.stands)
by-end layout s rs x y p start_end.Stop t enough = by-stretch layout s x y _ _ t.disk
    (kept-room layout x.node x.more y.more t.rests.kept _ y.disk.told (omega (arith, enough)) t.rests.stands)

pub starves-started : (layout : Layout) (s : Site) (rs : List StoreRequest) (u : Uid) (x y : Seen) (how : StartEnd)
    (start : Option (Edentype × List Datum)) (p : Option Pick) → StartsTo layout x.node s rs u x how start p y → x.more ≤ y.more
    → Starves layout s x y
starves-started layout s rs u x y how start p t enough = by-end layout s rs x y p how t.leaves enough

pub starves-unread : (layout : Layout) (s : Site) (rs : List StoreRequest) (x y : Seen) → StartsNot layout x.node s rs x y
    → x.more ≤ y.more → Starves layout s x y
starves-unread layout s rs x y t enough = by-stretch layout s x y _ _ t.2.disk
    (kept-room layout x.node x.more y.more y.kept _ y.disk.told (omega (arith, enough)) t.2.stands.stands)
