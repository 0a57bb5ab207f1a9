-- A put is refused for want of room exactly where a disk in use has none.
use Rattle.std.specs.Prelude.{◌≡◌, ◌↔◌, ℕ, Bool, true, false, IsTrue, List, length, Some, Result, Ok, Err, IfErr}
use Rattle.std.proofs.Common.{refl, sym, ◌∙◌, inl, inr}
use Rattle.std.proofs.lemmas.Bool.{false≢true}
use Rattle.capability.specs.declared.Uid.{Uid}
use Rattle.passive_store.specs.Kept.{Layout, IsEject}
use Rattle.passive_store.specs.LogLayout.{log_layout}
use Rattle.passive_store.specs.Seen.{asked}
use Rattle.twin_store.specs.declared.served.TwinRefusal.{TwinRefusal}
use Rattle.twin_store.specs.declared.served.TwinRefusal.TheVariants.{Full}
use Rattle.twin_store.specs.Rooms.{RoomIsLength, TellsRoom, AllTellRoom, IsShort}
use Rattle.twin_store.specs.Sides.{SideSeen, InUse, Away, IsFullOn, LacksRoom}
use Rattle.twin_store.specs.Twins.{TwinSeen, IsFullTwin}
use Rattle.twin_store.proofs.Vouching.{one_of}

lacks : (layout : Layout) (node : ℕ) (uid : Uid) (body : List ℕ) (side : SideSeen) → RoomIsLength layout → IsEject node uid → TellsRoom side
    → IsFullOn true layout (Some (asked uid (Some body))) side → LacksRoom layout (length body) side
lacks layout node uid body (InUse s) law own tells h = (
  tells,
  one_of (h refl tells)
      (λ none. sym (law node uid own (layout.room_of s.disk.counts.size s.kept.bodies s.kept.ledger) body) ∙ none) (λ long. long),
)
lacks layout node uid body (Away d) law own tells h = h

full_lacks : (layout : Layout) (uid : Uid) (body : List ℕ) (old new : TwinSeen) → RoomIsLength layout → IsEject old.node uid
    → AllTellRoom old new → IsFullTwin true layout (Some (asked uid (Some body))) old new → IsShort layout (length body) old
full_lacks layout uid body old new law own all h = one_of h
    (λ full. one_of full (λ f. inl (lacks layout old.node uid body old.first law own all.first f))
    (λ f. inr (lacks layout old.node uid body old.second law own all.second f)))
    (λ left. absurd (all.stays left))

pub full_exactly : (tells : Bool) (layout : Layout) (uid : Uid) (body : List ℕ) (r : Result (Unit {0}) TwinRefusal) (old new : TwinSeen)
    → IsTrue tells → RoomIsLength layout → IsEject old.node uid → AllTellRoom old new
    → IfErr r (λ e. e ≡ Full → IsFullTwin tells layout (Some (asked uid (Some body))) old new)
    → (IsShort layout (length body) old → (r ≡ Err Full) × (new ≡ old)) → (r ≡ Err Full) ↔ IsShort layout (length body) old
full_exactly true layout uid body (Ok done) old new so law own all full short = (λ e. absurd (cc e), λ q. (short q).0)
full_exactly true layout uid body (Err e) old new so law own all full short =
    (λ is. full_lacks layout uid body old new law own all (full (cc is)), λ q. (short q).0)
full_exactly false layout uid body r old new so law own all full short = absurd (false≢true so)

-- the room of a log is a length
pub room_of_a_log : RoomIsLength log_layout
room_of_a_log = λ node uid own room body. refl
