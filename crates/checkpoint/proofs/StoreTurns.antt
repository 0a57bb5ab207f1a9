-- The turns of a store: what each of its calls does to the site, by how it ended.
use Rattle.std.proofs.Common.{◌≡◌, ◌⊎◌, inl, inr, ℕ, zero, suc, ◌+◌, ◌*◌, ◌/◌, ◌<◌, ◌≤◌, Bool, true, false, cond, List, [], ◌∷◌, length}
use Rattle.std.proofs.Common.{drop, Option, None, Some, is_some, refl, sym, ap, subst, ◌∙◌, arith, length-drop, add-one}
use Rattle.std.specs.Prelude.{IsTrue, IfSome}
use Rattle.capability.specs.declared.Uid.{Uid}
use Rattle.eden_value.specs.declared.status.Status.TheVariants as status
use Rattle.std.specs.Option.{option_map}
use Rattle.eden_model.specs.Map.{with_item, first, rest, value_at, uid_cmp, each_value}
use Rattle.eden_disk.specs.Told.{Told, contents, LeavesOnly}
use Rattle.eden_disk.specs.Calls.{End, Fine, AtFault, AtStop}
use Rattle.eden_disk.proofs.Held.{moments_weaker}
use Rattle.eden_disk.specs.Timed.{Timed}
use Rattle.passive_store.specs.Acts.{DiskCall, CallTold, settling_call}
use Rattle.passive_store.specs.declared.store.Pick.{Pick}
use Rattle.passive_store.specs.declared.store.Pick.TheVariants as pick
use Rattle.passive_store.specs.declared.store.Doubt.{Doubt}
use Rattle.passive_store.specs.Kept.{Layout, Kept, Work, Idle, Busy, Unsettled, doubt_in, change_in, changes_in, is_synced, IsFresh}
use Rattle.passive_store.specs.Kept.{LeavesKept, StandsThrough, settled as settled_kept, kept_after}
use Rattle.passive_store.specs.Kept.{StoreChange, Stands as StandsKept}
use Rattle.journal.specs.EjectChange.{kept_of}
use Rattle.journal.specs.declared.event.RequestEnd.{RequestEnd}
use Rattle.journal.specs.declared.event.RequestEnd.TheVariants as end
use Rattle.journal.specs.World.{Site, Eject, StoreRequest, eject_in, on_eject, on_node, on_traffic}
use Rattle.journal.specs.Crashes.{fallen, crashed}
use Rattle.journal.specs.Settling.{first_request, settled, settled_eject, settled_epoch, unsynced, written_with}
use Rattle.journal.specs.Stores.{syncs, reads, unkept, without_room, calls, work_of, EndsSo, makes_own_call, HasCallLeft, calls_needed}
use Rattle.journal.specs.Stores.{AllowsStore, doubted, stored, request_ended, more_made, worked, store_turn}
use Rattle.journal.specs.Stores.{Work as TurnWork}
use Rattle.journal.specs.Standing.{Stands, with_changes}
use Rattle.journal.specs.Sites.{AllThere}
use Rattle.checkpoint.specs.Changes.{facts_of}
use Rattle.checkpoint.specs.Found.{all_of, standing_of}
use Rattle.checkpoint.proofs.Found.{kept-moments, kept-left}
use Rattle.checkpoint.specs.StoreStands.{state_of, NodeOnDisk, Wrote, MapStands, RequestsStand, IsUnderWay, StoreStands}
use Rattle.checkpoint.specs.Turns.{with_clock, TurnsStore, TurnsDown, IsNextCall, IsNoted, RestStands}
use Rattle.checkpoint.proofs.Throughout.{stands-more}
use Rattle.checkpoint.proofs.Stretches.{one-call, no-call}
use Rattle.history_laws.proofs.KeptTurns.{value-each}
use Rattle.checkpoint.proofs.Shifts.{Shift, same_facts, same_requests, facts_at, shift-ended, shift-at, shift-each, shift-requests}
use Rattle.checkpoint.proofs.MapStands.{state-is}
use Rattle.checkpoint.proofs.Changed.{AtMost, ordered-shift, map-same, map-synced, map-clock, map-doubted, map-stored, map-settled}
use Rattle.checkpoint.proofs.Frames.{Framed, framed-shift, framed-then, framed-synced, framed-ledger, synced-shift, all-there}
use Rattle.checkpoint.proofs.Frames.{doubted-is, work-settles}

-- 1. One device call, seen from the node

pub none-more : (layout : Layout) (n : ℕ) (kept : Kept) (d e : Option StoreChange) (image : List ℕ) → (d ≡ None) ⊎ (e ≡ d)
    → Stands layout n (with_changes [] (standing_of kept (changes_in d))) image → Stands layout n (standing_of kept (changes_in e)) image
none-more layout n kept None e image one is = stands-more layout n (all_of (changes_in e)) (standing_of kept []) image is
none-more layout n kept (Some c) e image (inl none) is = absurd (cc none)
none-more layout n kept (Some c) e image (inr same) is = subst (λ x. Stands layout n (standing_of kept (changes_in x)) image) (sym same) is

pub node-call : (layout : Layout) (n more after_more : ℕ) (s next : Site) (shown later : Kept) (w v : Work) (call : DiskCall)
    (old new : Told) (before after : ℕ) (end : End)
    → MapStands n s shown (doubt_in w) → MapStands n next later (doubt_in v)
    → Timed before old after new → (after ≡ before → (later ≡ shown) × ((doubt_in w ≡ None) ⊎ (doubt_in v ≡ doubt_in w)))
    → CallTold call after old new end
    → StandsThrough layout n more shown (changes_in (doubt_in w)) old new → LeavesKept layout n after_more later v new
    → (end ≡ AtStop → (later ≡ shown) × ((doubt_in w ≡ None) ⊎ (doubt_in v ≡ doubt_in w)))
    → NodeOnDisk layout n s.node [] next.node old before new after
node-call layout n more after_more s next shown later w v call old new before after end m k timed level told moments stands stopped =
    one-call (Stands layout n (state_of n s.node)) (Stands layout n (with_changes [] (state_of n s.node)))
    (Stands layout n (state_of n next.node)) call old new before after end timed
    (λ same image is. keeps (level same) image (stands-more layout n [] (state_of n s.node) image is)) told
    (moments_weaker (Stands layout n (standing_of shown (changes_in (doubt_in w))))
    (Stands layout n (with_changes [] (state_of n s.node))) old new
    (λ image is. stands-more layout n [] (state_of n s.node) image (subst (λ x. Stands layout n x image) (sym here) is))
    (kept-moments layout n more shown (changes_in (doubt_in w)) old new moments))
    (λ image left. subst (λ x. Stands layout n x image) (sym there)
    (kept-left layout n after_more later (changes_in (doubt_in v)) new stands image left))
    (λ stop image is. keeps (stopped stop) image is)
  where
    here : state_of n s.node ≡ standing_of shown (changes_in (doubt_in w))
    here = state-is n s shown (doubt_in w) m

    there : state_of n next.node ≡ standing_of later (changes_in (doubt_in v))
    there = state-is n next later (doubt_in v) k

    keeps : (later ≡ shown) × ((doubt_in w ≡ None) ⊎ (doubt_in v ≡ doubt_in w)) → (image : List ℕ)
        → Stands layout n (with_changes [] (state_of n s.node)) image
        → Stands layout n (state_of n next.node) image
    keeps x image is = subst (λ y. Stands layout n y image) (sym there)
        (subst (λ (y : Kept). Stands layout n (standing_of y (changes_in (doubt_in v))) image) (sym x.0)
        (none-more layout n shown (doubt_in w) (doubt_in v) image x.1 (subst (λ y. Stands layout n (with_changes [] y) image) here is)))

-- and without one
pub node-quiet : (layout : Layout) (n more : ℕ) (s next : Site) (shown : Kept) (w : Work) (told : Told) (clock : ℕ)
    → MapStands n s shown (doubt_in w) → MapStands n next shown (doubt_in w)
    → LeavesKept layout n more shown w told → NodeOnDisk layout n s.node [] next.node told clock told clock
node-quiet layout n more s next shown w told clock m k stands =
    no-call (Stands layout n (state_of n s.node)) (Stands layout n (with_changes [] (state_of n s.node)))
    (Stands layout n (state_of n next.node)) told told clock clock refl refl
    (λ image left. stands-more layout n [] (state_of n s.node) image
    (subst (λ x. Stands layout n x image) (sym here) (kept-left layout n more shown (changes_in (doubt_in w)) told stands image left)))
    (λ image is. subst (λ x. Stands layout n x image) (here ∙ sym there) is)
  where
    here : state_of n s.node ≡ standing_of shown (changes_in (doubt_in w))
    here = state-is n s shown (doubt_in w) m

    there : state_of n next.node ≡ standing_of shown (changes_in (doubt_in w))
    there = state-is n next shown (doubt_in w) k

-- 2. What stands of the site behind it

pub stands-next : (layout : Layout) (n : ℕ) (s next : Site) (requests later : List StoreRequest) (w v : Work) (shown after_shown : Kept)
    (more after_more : ℕ) (size before after : ℕ) (old new : Told)
    → StoreStands layout n s requests w shown more size before old → Framed s next → MapStands n next after_shown (doubt_in v)
    → next.node.requests ≡ later → RequestsStand v size later → AllThere later s.node.ejects → next.node.synced ≡ is_synced v
    → IfSome (change_in v) (λ c. IsFresh c after_shown) → LeavesKept layout n after_more after_shown v new
    → StoreStands layout n (with_clock after next) later v after_shown after_more size after new
unfolding on_node
stands-next layout n s next requests later w v shown after_shown more after_more size before after old new h f keeps queue stand there
    synced fresh stands = record {
      number = f.number ∙ h.number;
      its_layout = f.its_layout ∙ h.its_layout;
      up = f.up ∙ h.up;
      keeps = map-clock n after next after_shown (doubt_in v) keeps;
      epoch_settled = f.epoch_doubt ∙ h.epoch_settled;
      epoch_stored = subst (λ o. IsTrue (is_some o)) (sym f.epoch) h.epoch_stored;
      queue = queue;
      stand = stand;
      there = all-there later s.node.ejects next.node.ejects f.uids there;
      synced = synced;
      its_size = f.size ∙ h.its_size;
      its_clock = refl;
      not_overfull = f.overfull ∙ h.not_overfull;
      fresh = fresh;
      stands = stands;
    }

-- 3. What the model says of a turn of this work

first-of : (layout : Layout) (n : ℕ) (s : Site) (r : StoreRequest) (rs : List StoreRequest) (w : Work) (shown : Kept) (more : ℕ)
    (size clock : ℕ) (told : Told) → StoreStands layout n s (r ∷ rs) w shown more size clock told → first_request s.node ≡ Some r
first-of layout n s r rs w shown more size clock told h = ap first h.queue

turn-of : (s : Site) (r : StoreRequest) (how : RequestEnd) (p : Option Pick) (w : TurnWork) → first_request s.node ≡ Some r
    → work_of s r ≡ w → store_turn how p s ≡ worked w r how p s
turn-of s r how p w is at = ap (λ o. with_item o (λ x. worked (work_of s x) x how p s) s) is ∙ ap (λ x. worked x r how p s) at

-- a turn that makes no device call of the request's own
allows-other : (s : Site) (r : StoreRequest) (how : RequestEnd) (p : Option Pick) (w : TurnWork) → work_of s r ≡ w
    → makes_own_call w ≡ false → EndsSo w how p → AllowsStore s r.uid how p r
allows-other s r how p w at none ends = record {
  of_uid = refl;
  ends = subst (λ x. EndsSo x how p) (sym at) ends;
  call_left = subst (λ b. HasCallLeft b how r s.node) (sym (ap makes_own_call at ∙ none)) tt;
}

-- one that makes such a call
allows-own : (s : Site) (r : StoreRequest) (how : RequestEnd) → work_of s r ≡ calls → EndsSo calls how None → HasCallLeft true how r s.node
    → AllowsStore s r.uid how None r
allows-own s r how at ends left = record {
  of_uid = refl;
  ends = subst (λ x. EndsSo x how None) (sym at) ends;
  call_left = subst (λ b. HasCallLeft b how r s.node) (sym (ap makes_own_call at)) left;
}

rest-there : (r : StoreRequest) (rs : List StoreRequest) (es : List (Uid × Eject)) → AllThere (r ∷ rs) es → AllThere rs es
rest-there r rs es all = all.1

-- 4. The settling's calls

-- its sync
pub turn-synced : (layout : Layout) (n : ℕ) (s : Site) (r : StoreRequest) (rs : List StoreRequest) (c : StoreChange) (shown : Kept)
    (more after_more : ℕ) (size before after : ℕ) (old new : Told)
    → StoreStands layout n s (r ∷ rs) (Unsettled c false) shown more size before old
    → Timed before old after new → before < after → CallTold (settling_call false) after old new Fine
    → StandsThrough layout n more shown (c ∷ []) old new → LeavesKept layout n after_more shown (Unsettled c true) new
    → TurnsStore layout n s r end.Part None old before (r ∷ rs) (Unsettled c true) shown after_more size new after
unfolding on_node
turn-synced layout n s r rs c shown more after_more size before after old new h timed rises told moments stands = record {
  next = on_node (λ it. record it { synced = true }) s;
  allowed = allows-other s r end.Part None syncs at refl refl;
  leads = turn-of s r end.Part None syncs (first-of layout n s r rs (Unsettled c false) shown more size before old h) at;
  stands = stands-next layout n s (on_node (λ it. record it { synced = true }) s) (r ∷ rs) (r ∷ rs) (Unsettled c false)
      (Unsettled c true) shown shown more after_more size before after old new h
      (framed-synced true s) keeps h.queue h.stand h.there refl h.fresh stands;
  disk = node-call layout n more after_more s (on_node (λ it. record it { synced = true }) s) shown shown (Unsettled c false)
      (Unsettled c true) (settling_call false) old new before after Fine h.keeps keeps timed
      (λ same. absurd (omega (arith, same, rises))) told moments stands (λ stop. absurd (cc stop));
}
  where
    at : work_of s r ≡ syncs
    at = work-settles s r false (h.stand.0) (doubted-is layout n s shown (Some c) h.number h.keeps) h.synced

    keeps : MapStands n (on_node (λ it. record it { synced = true }) s) shown (Some c)
    keeps = map-synced n true s shown (Some c) h.keeps

-- its read, which picks
pub framed-settled : (p : Pick) (s : Site) → s.node.epoch_doubt ≡ None → Framed s (settled (Some p) s)
unfolding on_node
framed-settled p s none = record {
  number = refl;
  its_layout = refl;
  up = refl;
  epoch = same p;
  epoch_doubt = sym none;
  size = refl;
  overfull = refl;
  uids = λ u is. ap is_some (value-each u (settled_eject p) s.node.ejects) ∙ some (value_at uid_cmp u s.node.ejects) is;
}
  where
    same : (p : Pick) → settled_epoch p s.node ≡ s.node.epoch
    same pick.Old = refl
    same pick.New = ap (λ o. with_item o (λ e. Some e) s.node.epoch) none

    some : (o : Option Eject) → is_some o ≡ true → is_some (option_map (settled_eject p) o) ≡ true
    some None is = is
    some (Some e) is = refl

pub kept-picked : (layout : Layout) (n : ℕ) (p : Pick) (c : StoreChange) (b : Bool) (s : Site) (shown : Kept) → s.number ≡ n
    → s.layout ≡ layout → MapStands n s shown (Some c)
    → MapStands n (settled (Some p) s) (settled_kept (Some p) (Unsettled c b) shown) None
kept-picked layout n pick.Old c b s shown number its_layout m = map-settled n pick.Old c s shown number m
kept-picked layout n pick.New c b s shown number its_layout m = map-settled n pick.New c s shown number m

pub turn-settled : (layout : Layout) (n : ℕ) (s : Site) (r : StoreRequest) (rs : List StoreRequest) (c : StoreChange) (p : Pick)
    (shown : Kept) (more after_more : ℕ) (size before after : ℕ) (old new : Told)
    → StoreStands layout n s (r ∷ rs) (Unsettled c true) shown more size before old
    → Timed before old after new → before < after → CallTold (settling_call true) after old new Fine
    → StandsThrough layout n more shown (c ∷ []) old new
    → LeavesKept layout n after_more (settled_kept (Some p) (Unsettled c true) shown) Idle new
    → TurnsStore layout n s r end.Part (Some p) old before (r ∷ rs) Idle
    (settled_kept (Some p) (Unsettled c true) shown) after_more size new after
unfolding on_node
turn-settled layout n s r rs c p shown more after_more size before after old new h timed rises told moments stands = record {
  next = settled (Some p) s;
  allowed = allows-other s r end.Part (Some p) reads at refl refl;
  leads = turn-of s r end.Part (Some p) reads (first-of layout n s r rs (Unsettled c true) shown more size before old h) at;
  stands = stands-next layout n s (settled (Some p) s) (r ∷ rs) (r ∷ rs) (Unsettled c true) Idle shown
      (settled_kept (Some p) (Unsettled c true) shown) more after_more size before after old new h
      (framed-settled p s h.epoch_settled) keeps h.queue h.stand h.there refl tt stands;
  disk = node-call layout n more after_more s (settled (Some p) s) shown (settled_kept (Some p) (Unsettled c true) shown)
      (Unsettled c true) Idle (settling_call true) old new before after Fine h.keeps keeps timed
      (λ same. absurd (omega (arith, same, rises))) told moments stands (λ stop. absurd (cc stop));
}
  where
    at : work_of s r ≡ reads
    at = work-settles s r true (h.stand.0) (doubted-is layout n s shown (Some c) h.number h.keeps) h.synced

    keeps : MapStands n (settled (Some p) s) (settled_kept (Some p) (Unsettled c true) shown) None
    keeps = kept-picked layout n p c true s shown h.number h.its_layout h.keeps

-- a failed one ends the request, and the settling begins anew
abbrev settling-of : Bool → TurnWork
settling-of true = reads
settling-of false = syncs

settling-fails : (b : Bool) (r : StoreRequest) (s : Site)
    → worked (settling-of b) r end.Fault None s ≡ request_ended r status.StoreFault (unsynced s)
settling-fails true r s = refl
settling-fails false r s = refl

settling-stops : (b : Bool) (r : StoreRequest) (s : Site) → worked (settling-of b) r end.Stop None s ≡ crashed s
settling-stops true r s = refl
settling-stops false r s = refl

fails-so : (b : Bool) → EndsSo (settling-of b) end.Fault None
fails-so true = refl
fails-so false = refl

stops-so : (b : Bool) → EndsSo (settling-of b) end.Stop None
stops-so true = refl
stops-so false = refl

not-own : (b : Bool) → makes_own_call (settling-of b) ≡ false
not-own true = refl
not-own false = refl

settling-at : (layout : Layout) (n : ℕ) (s : Site) (r : StoreRequest) (rs : List StoreRequest) (c : StoreChange) (b : Bool) (shown : Kept)
    (more : ℕ) (size before : ℕ) (old : Told)
    → StoreStands layout n s (r ∷ rs) (Unsettled c b) shown more size before old → work_of s r ≡ settling-of b
settling-at layout n s r rs c b shown more size before old h = work-settles s r b (h.stand.0)
    (doubted-is layout n s shown (Some c) h.number h.keeps) h.synced ∙ same b
  where
    same : (b : Bool) → cond b reads syncs ≡ settling-of b
    same true = refl
    same false = refl

pub turn-unsettled : (layout : Layout) (n : ℕ) (s : Site) (r : StoreRequest) (rs : List StoreRequest) (c : StoreChange) (b : Bool)
    (shown : Kept) (more after_more : ℕ) (size before after : ℕ) (old new : Told)
    → StoreStands layout n s (r ∷ rs) (Unsettled c b) shown more size before old
    → Timed before old after new → CallTold (settling_call b) after old new AtFault
    → StandsThrough layout n more shown (c ∷ []) old new → LeavesKept layout n after_more shown (Unsettled c false) new
    → TurnsStore layout n s r end.Fault None old before rs (Unsettled c false) shown after_more size new after
unfolding on_node
turn-unsettled layout n s r rs c b shown more after_more size before after old new h timed told moments stands = record {
  next = request_ended r status.StoreFault (unsynced s);
  allowed = allows-other s r end.Fault None (settling-of b) at (not-own b) (fails-so b);
  leads = turn-of s r end.Fault None (settling-of b) (first-of layout n s r rs (Unsettled c b) shown more size before old h) at
      ∙ settling-fails b r s;
  stands = stands-next layout n s (request_ended r status.StoreFault (unsynced s)) (r ∷ rs) rs (Unsettled c b)
      (Unsettled c false) shown shown more after_more size before after old new h
      (framed-then s (unsynced s) (request_ended r status.StoreFault (unsynced s)) (framed-synced false s)
      (framed-shift same_facts rest (unsynced s) (request_ended r status.StoreFault (unsynced s)) ends))
      keeps (ends.requests ∙ ap rest h.queue) (h.stand.1) (rest-there r rs s.node.ejects h.there)
      (synced-shift same_facts rest (unsynced s) (request_ended r status.StoreFault (unsynced s)) ends) h.fresh stands;
  disk = node-call layout n more after_more s (request_ended r status.StoreFault (unsynced s)) shown shown (Unsettled c b)
      (Unsettled c false) (settling_call b) old new before after AtFault h.keeps keeps timed (λ same. (refl, inr refl)) told moments stands
      (λ stop. absurd (cc stop));
}
  where
    at : work_of s r ≡ settling-of b
    at = settling-at layout n s r rs c b shown more size before old h

    ends : Shift same_facts rest (unsynced s) (request_ended r status.StoreFault (unsynced s))
    ends = shift-ended r status.StoreFault (unsynced s)

    keeps : MapStands n (request_ended r status.StoreFault (unsynced s)) shown (Some c)
    keeps = map-same n rest (unsynced s) (request_ended r status.StoreFault (unsynced s)) shown (Some c) ends
        (map-synced n false s shown (Some c) h.keeps)

-- 5. A stop: the node is down

fallen-facts : (o : Option Eject) → facts_of (option_map fallen o) ≡ facts_of o
fallen-facts None = refl
fallen-facts (Some e) = refl

pub map-crashed : (n : ℕ) (s : Site) (kept : Kept) (c : Option StoreChange) → MapStands n s kept c → MapStands n (crashed s) kept c
unfolding on_node on_traffic
map-crashed n s kept c m = record {
  undamaged = m.undamaged;
  not_untold = m.not_untold;
  ordered = ordered-shift n (λ u x. x) same_requests s _ shift m.ordered;
  facts = λ u apart. shift.facts u ∙ m.facts u apart;
  epoch = m.epoch;
  epoch_doubt = m.epoch_doubt;
  ledger = m.ledger;
  wrote = m.wrote;
}
  where
    shift : Shift (λ u x. x) same_requests s (on_node (λ it. record it { ejects = each_value fallen it.ejects }) s)
    shift = shift-each fallen (λ x. x) s fallen-facts

-- what stands of a site that went down with this change in doubt
pub rests : (layout : Layout) (n more : ℕ) (s : Site) (kept : Kept) (d : Option StoreChange) (noted : Option Doubt) (size after : ℕ)
    (new : Told)
    → s.number ≡ n → s.layout ≡ layout → s.node.size ≡ size → s.node.overfull ≡ false → MapStands n s kept d → IsNoted kept d noted
    → IfSome d (λ c. IsFresh c kept)
    → LeavesOnly (StandsKept layout n more kept (changes_in d)) (contents new)
    → RestStands layout n more (with_clock after (crashed s)) noted size after new
unfolding on_node on_traffic
rests layout n more s kept d noted size after new number its_layout its_size overfull m is_noted fresh stands = record {
  number = number;
  its_layout = its_layout;
  is_down = refl;
  queue = refl;
  unsynced = refl;
  its_size = its_size;
  its_clock = refl;
  not_overfull = overfull;
  kept = kept;
  doubt = d;
  keeps = map-clock n after (crashed s) kept d (map-crashed n s kept d m);
  is_noted = is_noted;
  fresh = fresh;
  stands = stands;
}

pub turn-settling-stopped : (layout : Layout) (n : ℕ) (s : Site) (r : StoreRequest) (rs : List StoreRequest) (c : StoreChange) (b : Bool)
    (shown : Kept) (more after_more : ℕ) (size before after : ℕ) (old new : Told) (noted : Option Doubt)
    → StoreStands layout n s (r ∷ rs) (Unsettled c b) shown more size before old
    → Timed before old after new → before < after → CallTold (settling_call b) after old new AtStop
    → StandsThrough layout n more shown (c ∷ []) old new → LeavesKept layout n after_more shown (Unsettled c false) new
    → IsNoted shown (Some c) noted
    → TurnsDown layout n s r old before after_more noted size new after
turn-settling-stopped layout n s r rs c b shown more after_more size before after old new noted h timed rises told moments stands is_noted =
    record {
      allowed = allows-other s r end.Stop None (settling-of b) at (not-own b) (stops-so b);
      rests = subst (λ x. RestStands layout n after_more (with_clock after x) noted size after new) (sym leads)
          (rests layout n after_more s shown
          (Some c) noted size after new h.number h.its_layout h.its_size h.not_overfull h.keeps is_noted h.fresh stands);
      disk = subst (λ (x : Site). NodeOnDisk layout n s.node [] x.node old before new after) (sym leads)
          (node-call layout n more after_more s (crashed s) shown shown (Unsettled c b) (Unsettled c false)
          (settling_call b) old new before after AtStop h.keeps (map-crashed n s shown (Some c) h.keeps) timed
          (λ same. absurd (omega (arith, same, rises))) told moments stands (λ stop. (refl, inr refl)));
    }
  where
    at : work_of s r ≡ settling-of b
    at = settling-at layout n s r rs c b shown more size before old h

    leads : store_turn end.Stop None s ≡ crashed s
    leads = turn-of s r end.Stop None (settling-of b) (first-of layout n s r rs (Unsettled c b) shown more size before old h) at
        ∙ settling-stops b r s

-- 6. The device calls of a request's job

at-most : (c : StoreChange) (made : ℕ) (left : List DiskCall) (d : Option StoreChange) → doubt_in (Busy c made left) ≡ d → AtMost c d
at-most c zero left d is = inl (sym is)
at-most c (suc made) left d is = inr (sym is)

begun-so : (c : StoreChange) (d : Option StoreChange) → AtMost c d → (d ≡ None) ⊎ (Some c ≡ d)
begun-so c d (inl none) = inl none
begun-so c d (inr this) = inr (sym this)

call-left : (s : Site) (r : StoreRequest) (how : RequestEnd) (needed size : ℕ) → s.node.size ≡ size → calls_needed how r.made ≡ needed
    → needed ≤ 2 * (size / 1024) + 4 → HasCallLeft true how r s.node
call-left s r how needed size its_size is h = subst (λ k. calls_needed how r.made ≤ 2 * (k / 1024) + 4) (sym its_size)
    (omega (arith, is, h))

-- one that is not the last
pub turn-advanced : (layout : Layout) (n : ℕ) (s : Site) (r : StoreRequest) (rs : List StoreRequest) (c : StoreChange) (made : ℕ)
    (left : List DiskCall) (call : DiskCall) (w : Work) (shown : Kept) (more mid after_more : ℕ) (size before after : ℕ) (old new : Told)
    → StoreStands layout n s (r ∷ rs) w shown more size before old → IsNextCall layout s r rs c made left w shown size → 2 ≤ length left
    → Timed before old after new → before < after → CallTold call after old new Fine
    → StandsThrough layout n mid shown (changes_in (doubt_in (Busy c made left))) old new
    → LeavesKept layout n after_more shown (Busy c (made + 1) (drop 1 left)) new
    → TurnsStore layout n s r end.Part None old before (record r { made = r.made + 1 } ∷ rs)
    (Busy c (made + 1) (drop 1 left)) shown after_more size new after
turn-advanced layout n s r rs c made left call w shown more mid after_more size before after old new h job two timed rises told moments
    stands = record {
      next = next;
      allowed = allows-own s r end.Part job.at refl
          (call-left s r end.Part (made + 2) size h.its_size (omega (arith, job.calls_made)) (omega (arith, two, job.bounded)));
      leads = turn-of s r end.Part None calls (first-of layout n s r rs w shown more size before old h) job.at;
      stands = stands-next layout n s next (r ∷ rs) (record r { made = r.made + 1 } ∷ rs) w
          (Busy c (made + 1) (drop 1 left)) shown shown more after_more size before after old new h
          (framed-then s (doubted r s) next (framed-shift _ same_requests s (doubted r s) doubts)
          (framed-shift same_facts more_made (doubted r s) next makes)) keeps
          (makes.requests ∙ ap more_made (doubts.requests ∙ h.queue)) under (h.there.0, h.there.1)
          (synced-shift same_facts more_made (doubted r s) next makes ∙ synced-shift _ same_requests s (doubted r s) doubts ∙ job.unsynced)
          job.fresh stands;
      disk = node-call layout n mid after_more s next shown shown w
          (Busy c (made + 1) (drop 1 left)) call old new before after Fine h.keeps keeps timed
          (λ same. absurd (omega (arith, same, rises))) told
          (subst (λ d. StandsThrough layout n mid shown (changes_in d) old new) job.same_doubt moments) stands (λ stop. absurd (cc stop));
    }
  where
    next : Site
    next = on_node (λ it. record it { requests = more_made it.requests }) (doubted r s)

    held : is_some (eject_in s r.uid) ≡ true
    held = h.there.0

    doubts : Shift (facts_at r.uid (λ f. (f.0, Some r.change))) same_requests s (doubted r s)
    doubts = shift-at r.uid (λ e. record e { doubt = Some r.change }) (λ f. (f.0, Some r.change)) s (λ e. refl) held

    makes : Shift same_facts more_made (doubted r s) next
    makes = shift-requests more_made (doubted r s)

    keeps : MapStands n next shown (doubt_in (Busy c (made + 1) (drop 1 left)))
    keeps = map-same n more_made (doubted r s) next shown _ makes
        (subst (λ d. MapStands n (doubted r s) shown d) (some-made made)
        (map-doubted n r c s shown (doubt_in w) job.uid job.change (at-most c made left (doubt_in w) job.same_doubt)
        (subst (λ (l : Layout). Wrote l (Some c)) (sym h.its_layout) job.wrote) held h.keeps))
      where
        some-made : (m : ℕ) → Some c ≡ doubt_in (Busy c (m + 1) (drop 1 left))
        some-made m = subst (λ k. Some c ≡ doubt_in (Busy c k (drop 1 left))) (sym (add-one m)) refl

    under : IsUnderWay c (made + 1) (drop 1 left) size (record r { made = r.made + 1 } ∷ rs)
    under = record {
      request = record r { made = r.made + 1 };
      is_first = refl;
      uid = job.uid;
      change = job.change;
      calls = omega (arith, job.calls_made);
      some_made = omega arith;
      some_left = omega (arith, two, length-drop 1 left);
      bounded = omega (arith, two, length-drop 1 left, job.bounded);
      others = job.others;
    }

requests-stored : (r : StoreRequest) (s : Site) → (stored r s).node.requests ≡ s.node.requests
unfolding on_node on_eject
requests-stored r s = refl

synced-stored : (r : StoreRequest) (s : Site) → (stored r s).node.synced ≡ s.node.synced
unfolding on_node on_eject
synced-stored r s = refl

-- the last: the change is made
pub turn-done : (layout : Layout) (n : ℕ) (s : Site) (r : StoreRequest) (rs : List StoreRequest) (c : StoreChange) (made : ℕ)
    (left : List DiskCall) (call : DiskCall) (w : Work) (shown : Kept) (more mid after_more : ℕ) (size before after : ℕ) (old new : Told)
    → StoreStands layout n s (r ∷ rs) w shown more size before old → IsNextCall layout s r rs c made left w shown size
    → Timed before old after new → before < after → CallTold call after old new Fine
    → StandsThrough layout n mid shown (changes_in (doubt_in (Busy c made left))) old new
    → LeavesKept layout n after_more (kept_after c shown) Idle new
    → TurnsStore layout n s r end.Done None old before rs Idle (kept_after c shown) after_more size new after
turn-done layout n s r rs c made left call w shown more mid after_more size before after old new h job timed rises told moments stands =
    record {
      next = next;
      allowed = allows-own s r end.Done job.at refl
          (call-left s r end.Done (made + 1) size h.its_size (omega (arith, job.calls_made)) (omega (arith, job.some_left, job.bounded)));
      leads = turn-of s r end.Done None calls (first-of layout n s r rs w shown more size before old h) job.at;
      stands = stands-next layout n s next (r ∷ rs) rs w Idle shown (kept_after c shown) more after_more size before after old new h
          (framed-then s (stored r s) next (framed-then s at_eject (stored r s) (framed-shift _ same_requests s at_eject stores)
          (framed-ledger (written_with s.layout r.change) at_eject)) (framed-shift same_facts rest (stored r s) next ends)) keeps
          (ends.requests ∙ ap rest (stored-requests ∙ h.queue)) job.others (rest-there r rs s.node.ejects h.there)
          (synced-shift same_facts rest (stored r s) next ends ∙ stored-synced ∙ job.unsynced) tt stands;
      disk = node-call layout n mid after_more s next shown (kept_after c shown) w Idle call old new before after Fine h.keeps keeps timed
          (λ same. absurd (omega (arith, same, rises))) told
          (subst (λ d. StandsThrough layout n mid shown (changes_in d) old new) job.same_doubt moments) stands (λ stop. absurd (cc stop));
    }
  where
    next : Site
    next = request_ended r status.Ok (stored r s)

    at_eject : Site
    at_eject = on_eject r.uid (λ e. record e { kept = kept_of r.change; doubt = None }) s

    stores : Shift (facts_at r.uid (λ f. (kept_of r.change, None))) same_requests s at_eject
    stores = shift-at r.uid (λ e. record e { kept = kept_of r.change; doubt = None }) (λ f. (kept_of r.change, None)) s (λ e. refl)
        (h.there.0)

    ends : Shift same_facts rest (stored r s) next
    ends = shift-ended r status.Ok (stored r s)

    stored-requests : (stored r s).node.requests ≡ s.node.requests
    stored-requests = requests-stored r s

    stored-synced : (stored r s).node.synced ≡ s.node.synced
    stored-synced = synced-stored r s

    keeps : MapStands n next (kept_after c shown) None
    keeps = map-same n rest (stored r s) next (kept_after c shown) None ends
        (map-stored n r c s shown (doubt_in w) job.uid job.change (at-most c made left (doubt_in w) job.same_doubt)
        (subst (λ (l : Layout). Wrote l (Some c)) (sym h.its_layout) job.wrote) (h.there.0) h.keeps)

-- one that failed ends the request, and its change is in doubt
pub turn-failed : (layout : Layout) (n : ℕ) (s : Site) (r : StoreRequest) (rs : List StoreRequest) (c : StoreChange) (made : ℕ)
    (left : List DiskCall) (call : DiskCall) (w : Work) (shown : Kept) (more mid after_more : ℕ) (size before after : ℕ) (old new : Told)
    → StoreStands layout n s (r ∷ rs) w shown more size before old → IsNextCall layout s r rs c made left w shown size
    → Timed before old after new → CallTold call after old new AtFault
    → StandsThrough layout n mid shown (changes_in (doubt_in (Busy c made left))) old new
    → LeavesKept layout n after_more shown (Unsettled c false) new
    → TurnsStore layout n s r end.Fault None old before rs (Unsettled c false) shown after_more size new after
turn-failed layout n s r rs c made left call w shown more mid after_more size before after old new h job timed told moments stands =
    record {
      next = next;
      allowed = allows-own s r end.Fault job.at refl
          (call-left s r end.Fault (made + 1) size h.its_size (omega (arith, job.calls_made)) (omega (arith, job.some_left, job.bounded)));
      leads = turn-of s r end.Fault None calls (first-of layout n s r rs w shown more size before old h) job.at;
      stands = stands-next layout n s next (r ∷ rs) rs w (Unsettled c false) shown shown more after_more size before after old new h
          (framed-then s (doubted r s) next (framed-shift _ same_requests s (doubted r s) doubts)
          (framed-shift same_facts rest (doubted r s) next ends)) keeps
          (ends.requests ∙ ap rest (doubts.requests ∙ h.queue)) job.others (rest-there r rs s.node.ejects h.there)
          (synced-shift same_facts rest (doubted r s) next ends ∙ synced-shift _ same_requests s (doubted r s) doubts ∙ job.unsynced)
          job.fresh
          stands;
      disk = node-call layout n mid after_more s next shown shown w
          (Unsettled c false) call old new before after AtFault h.keeps keeps timed
          (λ same. (refl, begun-so c (doubt_in w) (at-most c made left (doubt_in w) job.same_doubt))) told
          (subst (λ d. StandsThrough layout n mid shown (changes_in d) old new) job.same_doubt moments) stands (λ stop. absurd (cc stop));
    }
  where
    next : Site
    next = request_ended r status.StoreFault (doubted r s)

    doubts : Shift (facts_at r.uid (λ f. (f.0, Some r.change))) same_requests s (doubted r s)
    doubts = shift-at r.uid (λ e. record e { doubt = Some r.change }) (λ f. (f.0, Some r.change)) s (λ e. refl) (h.there.0)

    ends : Shift same_facts rest (doubted r s) next
    ends = shift-ended r status.StoreFault (doubted r s)

    keeps : MapStands n next shown (Some c)
    keeps = map-same n rest (doubted r s) next shown (Some c) ends
        (map-doubted n r c s shown (doubt_in w) job.uid job.change (at-most c made left (doubt_in w) job.same_doubt)
        (subst (λ (l : Layout). Wrote l (Some c)) (sym h.its_layout) job.wrote) (h.there.0) h.keeps)

-- one in which the disk stopped
pub turn-stopped : (layout : Layout) (n : ℕ) (s : Site) (r : StoreRequest) (rs : List StoreRequest) (c : StoreChange) (made : ℕ)
    (left : List DiskCall) (call : DiskCall) (w : Work) (shown : Kept) (more mid after_more : ℕ) (size before after : ℕ) (old new : Told)
    (noted : Option Doubt)
    → StoreStands layout n s (r ∷ rs) w shown more size before old → IsNextCall layout s r rs c made left w shown size
    → Timed before old after new → before < after → CallTold call after old new AtStop
    → StandsThrough layout n mid shown (changes_in (doubt_in (Busy c made left))) old new
    → LeavesKept layout n after_more shown (Unsettled c false) new → IsNoted shown (Some c) noted
    → TurnsDown layout n s r old before after_more noted size new after
turn-stopped layout n s r rs c made left call w shown more mid after_more size before after old new noted h job timed rises told moments
    stands is_noted = record {
      allowed = allows-own s r end.Stop job.at refl
          (call-left s r end.Stop (made + 1) size h.its_size (omega (arith, job.calls_made)) (omega (arith, job.some_left, job.bounded)));
      rests = subst (λ x. RestStands layout n after_more (with_clock after x) noted size after new) (sym leads)
          (rests layout n after_more (doubted r s) shown (Some c) noted size after new (f.number ∙ h.number) (f.its_layout ∙ h.its_layout)
          (f.size ∙ h.its_size) (f.overfull ∙ h.not_overfull) keeps is_noted job.fresh stands);
      disk = subst (λ (x : Site). NodeOnDisk layout n s.node [] x.node old before new after) (sym leads)
          (node-call layout n mid after_more s (crashed (doubted r s)) shown shown w
          (Unsettled c false) call old new before after AtStop h.keeps (map-crashed n (doubted r s) shown (Some c) keeps) timed
          (λ same. absurd (omega (arith, same, rises))) told
          (subst (λ d. StandsThrough layout n mid shown (changes_in d) old new) job.same_doubt moments) stands
          (λ stop. (refl, begun-so c (doubt_in w) (at-most c made left (doubt_in w) job.same_doubt))));
    }
  where
    leads : store_turn end.Stop None s ≡ crashed (doubted r s)
    leads = turn-of s r end.Stop None calls (first-of layout n s r rs w shown more size before old h) job.at

    f : Framed s (doubted r s)
    f = framed-shift _ same_requests s (doubted r s)
        (shift-at r.uid (λ e. record e { doubt = Some r.change }) (λ f. (f.0, Some r.change)) s (λ e. refl) (h.there.0))

    keeps : MapStands n (doubted r s) shown (Some c)
    keeps = map-doubted n r c s shown (doubt_in w) job.uid job.change (at-most c made left (doubt_in w) job.same_doubt)
        (subst (λ (l : Layout). Wrote l (Some c)) (sym h.its_layout) job.wrote) (h.there.0) h.keeps

-- 7. Turns without a device call

-- a removal of what is not kept
pub turn-unkept : (layout : Layout) (n : ℕ) (s : Site) (r : StoreRequest) (rs : List StoreRequest) (shown : Kept) (more : ℕ)
    (size clock : ℕ) (told : Told)
    → StoreStands layout n s (r ∷ rs) Idle shown more size clock told → work_of s r ≡ unkept
    → TurnsStore layout n s r end.Done None told clock rs Idle shown more size told clock
turn-unkept layout n s r rs shown more size clock told h at = record {
  next = request_ended r status.Ok s;
  allowed = allows-other s r end.Done None unkept at refl refl;
  leads = turn-of s r end.Done None unkept (first-of layout n s r rs Idle shown more size clock told h) at;
  stands = stands-next layout n s (request_ended r status.Ok s) (r ∷ rs) rs Idle Idle shown shown more more size clock clock told told h
      (framed-shift same_facts rest s (request_ended r status.Ok s) ends) keeps
      (ends.requests ∙ ap rest h.queue) (h.stand.1) (rest-there r rs s.node.ejects h.there)
      (synced-shift same_facts rest s (request_ended r status.Ok s) ends ∙ h.synced) tt h.stands;
  disk = node-quiet layout n more s (request_ended r status.Ok s) shown Idle told clock h.keeps keeps h.stands;
}
  where
    ends : Shift same_facts rest s (request_ended r status.Ok s)
    ends = shift-ended r status.Ok s

    keeps : MapStands n (request_ended r status.Ok s) shown None
    keeps = map-same n rest s (request_ended r status.Ok s) shown None ends h.keeps

-- a change without room
pub turn-full : (layout : Layout) (n : ℕ) (s : Site) (r : StoreRequest) (rs : List StoreRequest) (shown : Kept) (more : ℕ) (size clock : ℕ)
    (told : Told)
    → StoreStands layout n s (r ∷ rs) Idle shown more size clock told → work_of s r ≡ without_room
    → TurnsStore layout n s r end.Full None told clock rs Idle shown more size told clock
turn-full layout n s r rs shown more size clock told h at = record {
  next = request_ended r status.Full s;
  allowed = allows-other s r end.Full None without_room at refl refl;
  leads = turn-of s r end.Full None without_room (first-of layout n s r rs Idle shown more size clock told h) at;
  stands = stands-next layout n s (request_ended r status.Full s) (r ∷ rs) rs Idle Idle shown shown more more size clock clock told told h
      (framed-shift same_facts rest s (request_ended r status.Full s) ends) keeps
      (ends.requests ∙ ap rest h.queue) (h.stand.1) (rest-there r rs s.node.ejects h.there)
      (synced-shift same_facts rest s (request_ended r status.Full s) ends ∙ h.synced) tt h.stands;
  disk = node-quiet layout n more s (request_ended r status.Full s) shown Idle told clock h.keeps keeps h.stands;
}
  where
    ends : Shift same_facts rest s (request_ended r status.Full s)
    ends = shift-ended r status.Full s

    keeps : MapStands n (request_ended r status.Full s) shown None
    keeps = map-same n rest s (request_ended r status.Full s) shown None ends h.keeps
