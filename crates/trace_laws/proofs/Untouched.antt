-- An event that touches no disk shows no pick, and one that does shows its node.
use Rattle.std.proofs.Common.{◌≡◌, ◌==◌, ℕ, zero, suc, Option, None, Some, refl, subst, Bool, true, false, cond, inl, inr, is_some}
use Rattle.std.specs.Prelude.{◌⊎◌}
use Rattle.capability.specs.declared.Uid.{Uid}
use Rattle.eden_model.specs.Map.{with_item}
use Rattle.passive_store.specs.declared.store.Pick.{Pick}
use Rattle.journal.specs.declared.event.Event.TheVariants as event
use Rattle.journal.specs.declared.event.StartEnd.{StartEnd}
use Rattle.journal.specs.declared.event.RequestEnd.{RequestEnd}
use Rattle.journal.specs.declared.event.RequestEnd.TheVariants as end
use Rattle.journal.specs.World.{World, Site, Node, StoreRequest, node_at, site_of, site_at, eject_in}
use Rattle.journal.specs.Settling.{to_settle, first_request}
use Rattle.journal.specs.Stores.{Work, syncs, reads, unkept, without_room, calls, work_of, EndsSo, makes_call, AllowsStore}
use Rattle.journal.specs.Starts.{AllowsActivate, StartsFrom}
use Rattle.journal.specs.Step.{AllowsAt, AllowsInTurn, touched, touches_start, touches_store, node_if, StoreClockFits}
use Rattle.trace_laws.proofs.Events.{both-some}
use Rattle.trace_laws.proofs.EventLines.{stops_node}

-- a site's number is not 0, where no node has that number
pub not-zero : {A : Type 0} (w : World) (n : ℕ) (s : Site) → node_at w 0 ≡ None → site_at w n ≡ Some s → n ≡ 0 → A
not-zero {A} w n s none is at = go (node_at w 0) none (subst (λ m. site_at w m ≡ Some s) at is)
  where
    go : (o : Option Node) → o ≡ None → with_item o (λ it. Some (site_of w 0 it)) None ≡ Some s → A
    go None none is = absurd (cc is)
    go (Some it) none is = absurd (cc none)

node-of : (b : Bool) (n : ℕ) → node_if b n ≡ 0 → (n ≡ 0) ⊎ (b ≡ false)
node-of true n e = inl e
node-of false n e = inr refl

pub unpicked-start : (w : World) (u : Uid) (how : StartEnd) (p : Option Pick) → node_at w 0 ≡ None → AllowsInTurn w (event.Activate u how p)
    → touched w (event.Activate u how p) ≡ 0 → p ≡ None
unpicked-start w u how p none allowed off =
    let t = both-some (site_at w u.node) (λ s. AllowsAt s (event.Activate u how p))
    (λ s. AllowsAt s (event.Activate u how p)) allowed allowed in
    let e = both-some (eject_in t.0 u) (λ e. AllowsActivate t.0 u how p e) (λ e. AllowsActivate t.0 u how p e) t.2 t.2 in
    let here : node_if (touches_start t.0 u) u.node ≡ 0 =
    subst (λ o. with_item o (λ s. node_if (touches_start s u) u.node) 0 ≡ 0) t.1 off in
    by t.0 t.1 e.2.starts (node-of (touches_start t.0 u) u.node here)
  where
    unsettled : (s : Site) (b : Bool) → cond b true (with_item (eject_in s u) (λ e. is_some e.kept) false) ≡ false → StartsFrom s u b how p
        → p ≡ None
    unsettled s true off starts = absurd (cc off)
    unsettled s false off starts = starts.0

    by : (s : Site) → site_at w u.node ≡ Some s → StartsFrom s u (to_settle s) how p → (u.node ≡ 0) ⊎ (touches_start s u ≡ false) → p ≡ None
    by s is starts (inl at) = not-zero w u.node s none is at
    by s is starts (inr off) = unsettled s (to_settle s) off starts

quiet-work : (v : Work) (how : RequestEnd) (p : Option Pick) → makes_call v ≡ false → EndsSo v how p → (p ≡ None) × (stops_node how ≡ false)
quiet-work unkept end.Done p off e = (e, refl)
quiet-work without_room end.Full p off e = (e, refl)
quiet-work syncs how p off e = absurd (cc off)
quiet-work reads how p off e = absurd (cc off)
quiet-work calls how p off e = absurd (cc off)
quiet-work unkept _ p off e = absurd e
quiet-work without_room _ p off e = absurd e

pub unpicked-store : (w : World) (u : Uid) (c : ℕ) (how : RequestEnd) (p : Option Pick) → node_at w 0 ≡ None
    → AllowsInTurn w (event.Store u c how p) → touched w (event.Store u c how p) ≡ 0 → (p ≡ None) × (stops_node how ≡ false)
unpicked-store w u c how p none allowed off =
    let t = both-some (site_at w u.node) (λ s. AllowsAt s (event.Store u c how p))
    (λ s. AllowsAt s (event.Store u c how p)) allowed allowed in
    let r = both-some (first_request t.0.node) (λ r. AllowsStore t.0 u how p r) (λ r. AllowsStore t.0 u how p r) t.2 t.2 in
    let here : node_if (touches_store t.0) u.node ≡ 0 = subst (λ o. with_item o (λ s. node_if (touches_store s) u.node) 0 ≡ 0) t.1 off in
    by t.0 t.1 r.0 r.1 r.2.ends (node-of (touches_store t.0) u.node here)
  where
    by : (s : Site) → site_at w u.node ≡ Some s → (r : StoreRequest) → first_request s.node ≡ Some r → EndsSo (work_of s r) how p
        → (u.node ≡ 0) ⊎ (touches_store s ≡ false) → (p ≡ None) × (stops_node how ≡ false)
    by s is r first ends (inl at) = not-zero w u.node s none is at
    by s is r first ends (inr off) =
        quiet-work (work_of s r) how p (subst (λ o. with_item o (λ r. makes_call (work_of s r)) false ≡ false) first off) ends

-- where a turn of a store made a device call, it shows the clock of its disk
pub shown-clock : (n : ℕ) (before : Option ℕ) (shown c : ℕ) → (n == 0) ≡ false → StoreClockFits n before shown c → shown ≡ c
shown-clock zero before shown c other fits = absurd (let bad : true ≡ false = other in cc bad)
shown-clock (suc n) before shown c other fits = fits.0
