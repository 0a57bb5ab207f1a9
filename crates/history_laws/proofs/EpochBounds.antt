-- The stored epoch of a node, and the one in doubt, are at most 4,294,967,295 in every world of a history.
use Rattle.std.proofs.Common.{◌≡◌, ◌≤◌, ◌<◌, ℕ, Bool, true, false, cond, List, [], ◌∷◌, map, Option, None, Some, Result}
use Rattle.std.proofs.Common.{Ok, Err, length, refl, sym, ◌∙◌, ap, subst, arith, inl, inr}
use Rattle.std.specs.Prelude.{IsSomeAnd, IfSome, is_some, ◌⊎◌}
use Rattle.std.specs.List.{All}
use Rattle.std.proofs.lemmas.List.Elements.{All-head, All-tail}
use Rattle.std.specs.Ordering.{nat_cmp}
use Rattle.std.specs.FinMap as finite
use Rattle.capability.specs.declared.Uid.{Uid}
use Rattle.eden_value.specs.declared.status.Status.{Status}
use Rattle.eden_value.specs.declared.status.Status.TheVariants as status
use Rattle.eden_disk.specs.Told.{contents}
use Rattle.eden_model.specs.Map.{with_item, value_at}
use Rattle.passive_store.specs.declared.store.Pick.{Pick}
use Rattle.passive_store.specs.declared.store.Pick.TheVariants as pick
use Rattle.passive_store.specs.Kept.{Layout, Kept, IsOwn}
use Rattle.passive_store.specs.Layout.{IsLayout}
use Rattle.journal.specs.EjectChange.{kept_of}
use Rattle.journal.specs.Ejects.{epoch_or_zero}
use Rattle.journal.specs.declared.command.Script.{Script}
use Rattle.journal.specs.declared.event.BootEnd.{BootEnd}
use Rattle.journal.specs.declared.event.BootEnd.TheVariants as boot_end
use Rattle.journal.specs.declared.event.StartEnd.{StartEnd}
use Rattle.journal.specs.declared.event.StartEnd.TheVariants as start_end
use Rattle.journal.specs.declared.event.RequestEnd.{RequestEnd}
use Rattle.journal.specs.declared.event.RequestEnd.TheVariants as end
use Rattle.journal.specs.declared.event.Event.{Event}
use Rattle.journal.specs.declared.event.Event.TheVariants as event
use Rattle.journal.specs.declared.event.Entry.{Entry}
use Rattle.journal.specs.World.{World, Site, Node, StoreRequest, site_of, on_eject, on_node, reaches}
use Rattle.journal.specs.Settling.{epoch_uid, first_request, settled, unsynced, to_settle, written_with}
use Rattle.journal.specs.Crashes.{crashed}
use Rattle.journal.specs.Stores.{Work, syncs, reads, unkept, without_room, calls, work_of, more_made, doubted, request_ended, stored}
use Rattle.journal.specs.Stores.{done, worked, store_turn}
use Rattle.journal.specs.Starts.{activated, start_settled}
use Rattle.journal.specs.Boots.{last_epoch, BootsSo, BeganNext, booted_node, boot_turn}
use Rattle.journal.specs.Opening.{number_from, epoch_in, entries_of, found_in, node_of, node_from}
use Rattle.journal.specs.Step.{AllowsAt, site_turn}
use Rattle.journal.specs.Run.{looked_up, beginning}
use Rattle.journal.specs.Standing.{DiskRun}
use Rattle.journal.specs.LegalRun.{IsHandedIn, AreHandedIn, numbered, images, opening_world, last_world}
use Rattle.journal.specs.Laws.{Begins}
use Rattle.journal.specs.Sites.{Everywhere, HasEpochs}
use Rattle.history_laws.proofs.NoUidTwice.{disk-node}
use Rattle.history_laws.proofs.SiteRuns.{worlds-are-known}
use Rattle.history_laws.proofs.Uids.{IsBehind}
use Rattle.history_laws.proofs.EveryNode.{IsKeptAt, all-next, all-same_nodes}
use Rattle.history_laws.proofs.Runs.{Any, of-any, end-keeps, world-booting, nodes-looked_up}
use Rattle.history_laws.proofs.SiteFrames.{Leaves, keeps-site, leaves-crashed, leaves-tells, leaves-born, leaves-turned_away, leaves-awake}
use Rattle.history_laws.proofs.SiteFrames.{leaves-done, leaves-ended, leaves-doubted, leaves-on_eject}

-- the stored epoch and the one in doubt
pub record AreBounded (it : Node) : Type 0 where
  pub stored : IfSome it.epoch (λ e. e ≤ last_epoch)
  pub doubted : IfSome it.epoch_doubt (λ e. e ≤ last_epoch)

-- 1. Changes that leave both

epochs-like : (it new : Node) → new.epoch ≡ it.epoch → new.epoch_doubt ≡ it.epoch_doubt → AreBounded it → AreBounded new
epochs-like it new epoch doubt h = record {
  stored = subst (λ o. IfSome o (λ e. e ≤ last_epoch)) (sym epoch) h.stored;
  doubted = subst (λ o. IfSome o (λ e. e ≤ last_epoch)) (sym doubt) h.doubted;
}

-- a mask that leaves both
record Spares (m : Node → Node → Node) : Type 0 where
  epoch : (a b : Node) → (m a b).epoch ≡ a.epoch
  doubt : (a b : Node) → (m a b).epoch_doubt ≡ a.epoch_doubt

epochs-left : (m : Node → Node → Node) → Spares m → (s new : Site) → Leaves m s new → AreBounded s.node → AreBounded new.node
epochs-left m spares s new left h = epochs-like s.node new.node (ap (λ (it : Node). it.epoch) left.node ∙ spares.epoch s.node new.node)
    (ap (λ (it : Node). it.epoch_doubt) left.node ∙ spares.doubt s.node new.node) h

epochs-node : (f : Node → Node) (s : Site) → (f s.node).epoch ≡ s.node.epoch → (f s.node).epoch_doubt ≡ s.node.epoch_doubt
    → AreBounded s.node → AreBounded (on_node f s).node
unfolding on_node
epochs-node f s epoch doubt h = epochs-like s.node (f s.node) epoch doubt h

-- 2. Settling

epochs-settled : (p : Option Pick) (s : Site) → AreBounded s.node → AreBounded (settled p s).node
unfolding on_node
epochs-settled None s h = h
epochs-settled (Some pick.Old) s h = record { stored = h.stored; doubted = tt }
epochs-settled (Some pick.New) s h = record { stored = go s.node.epoch_doubt h.doubted; doubted = tt }
  where
    go : (o : Option ℕ) → IfSome o (λ e. e ≤ last_epoch) → IfSome (with_item o (λ e. Some e) s.node.epoch) (λ e. e ≤ last_epoch)
    go None x = h.stored
    go (Some e) x = x

epochs-started : (p : Option Pick) (s : Site) → AreBounded s.node → AreBounded (start_settled p s).node
epochs-started p s h = go (to_settle s)
  where
    go : (b : Bool) → AreBounded (cond b (settled p (unsynced s)) s).node
    go true = epochs-settled p (unsynced s) (epochs-node (λ it. record it { synced = false }) s refl refl h)
    go false = h

-- 3. The store and activations

spares : {m : Node → Node → Node} → ((a b : Node) → (m a b).epoch ≡ a.epoch) → ((a b : Node) → (m a b).epoch_doubt ≡ a.epoch_doubt)
    → Spares m
spares epoch doubt = record { epoch = epoch; doubt = doubt }

epochs-crashed : (s : Site) → AreBounded s.node → AreBounded (crashed s).node
epochs-crashed s h = epochs-left _ (spares (λ a b. refl) (λ a b. refl)) s _ (leaves-crashed s) h

epochs-doubted : (r : StoreRequest) (s : Site) → AreBounded s.node → AreBounded (doubted r s).node
epochs-doubted r s h = epochs-left _ (spares (λ a b. refl) (λ a b. refl)) s _ (leaves-doubted r s) h

epochs-ended : (r : StoreRequest) (why : Status) (s : Site) → AreBounded s.node → AreBounded (request_ended r why s).node
epochs-ended r why s h = epochs-left _ (spares (λ a b. refl) (λ a b. refl)) s _ (leaves-ended r why s) h

epochs-done : (r : StoreRequest) (s : Site) → AreBounded s.node → AreBounded (done r s).node
epochs-done r s h = epochs-left _ (spares (λ a b. refl) (λ a b. refl)) s _ (leaves-done r s) h

epochs-stored : (r : StoreRequest) (s : Site) → AreBounded s.node → AreBounded (stored r s).node
epochs-stored r s h = epochs-node (λ it. record it { ledger = written_with s.layout r.change it.ledger }) kept refl refl
    (epochs-left _ (spares (λ a b. refl) (λ a b. refl)) s kept
    (leaves-on_eject r.uid (λ e. record e { kept = kept_of r.change; doubt = None }) s) h)
  where
    kept : Site
    kept = on_eject r.uid (λ e. record e { kept = kept_of r.change; doubt = None }) s

epochs-faulted : (r : StoreRequest) (s : Site) → AreBounded s.node → AreBounded (request_ended r status.StoreFault (unsynced s)).node
epochs-faulted r s h = epochs-ended r status.StoreFault (unsynced s) (epochs-node (λ it. record it { synced = false }) s refl refl h)

epochs-worked : (w : Work) (r : StoreRequest) (how : RequestEnd) (p : Option Pick) (s : Site) → AreBounded s.node
    → AreBounded (worked w r how p s).node
epochs-worked syncs r end.Part p s h = epochs-node (λ it. record it { synced = true }) s refl refl h
epochs-worked syncs r end.Done p s h = h
epochs-worked syncs r end.Full p s h = h
epochs-worked syncs r end.Fault p s h = epochs-faulted r s h
epochs-worked syncs r end.Stop p s h = epochs-crashed s h
epochs-worked reads r end.Part p s h = epochs-settled p s h
epochs-worked reads r end.Done p s h = h
epochs-worked reads r end.Full p s h = h
epochs-worked reads r end.Fault p s h = epochs-faulted r s h
epochs-worked reads r end.Stop p s h = epochs-crashed s h
epochs-worked unkept r how p s h = epochs-done r s h
epochs-worked without_room r how p s h = epochs-ended r status.Full s h
epochs-worked calls r end.Part p s h = epochs-node (λ it. record it { requests = more_made it.requests }) (doubted r s) refl refl
    (epochs-doubted r s h)
epochs-worked calls r end.Done p s h = epochs-done r (stored r s) (epochs-stored r s h)
epochs-worked calls r end.Full p s h = h
epochs-worked calls r end.Fault p s h = epochs-ended r status.StoreFault (doubted r s) (epochs-doubted r s h)
epochs-worked calls r end.Stop p s h = epochs-crashed (doubted r s) (epochs-doubted r s h)

epochs-store : (how : RequestEnd) (p : Option Pick) (s : Site) → AreBounded s.node → AreBounded (store_turn how p s).node
epochs-store how p s h = go (first_request s.node)
  where
    go : (o : Option StoreRequest) → AreBounded (with_item o (λ r. worked (work_of s r) r how p s) s).node
    go None = h
    go (Some r) = epochs-worked (work_of s r) r how p s h

epochs-activated : (v : Uid) (how : StartEnd) (s : Site) → AreBounded s.node → AreBounded (activated v how s).node
epochs-activated v start_end.Ok s h = epochs-left _ (spares (λ a b. refl) (λ a b. refl)) s _ (leaves-awake v s) h
epochs-activated v start_end.Gone s h = epochs-left _ (spares (λ a b. refl) (λ a b. refl)) s _ (leaves-turned_away v status.Gone s) h
epochs-activated v start_end.Fault s h = epochs-left _ (spares (λ a b. refl) (λ a b. refl)) s _ (leaves-turned_away v status.StoreFault s) h
epochs-activated v start_end.Damaged s h = epochs-left _ (spares (λ a b. refl) (λ a b. refl)) s _ (leaves-turned_away v status.Damaged s) h
epochs-activated v start_end.Stop s h = epochs-crashed s h

-- 4. Boots

not-begun : {A : Type 0} (began : Bool) → began ≡ false → began ≡ true → A
not-begun began off on = absurd (let bad : false ≡ true = sym off ∙ on in cc bad)

next-fits : (s : Site) (e : ℕ) (p : Option Pick) (began : Bool) → BeganNext s e p began → e ≤ last_epoch
next-fits s e p began b = omega (arith, b.not_last, b.next_one)

began-fits : (s : Site) (e : ℕ) (how : BootEnd) (p : Option Pick) (began : Bool) → BootsSo s e how p began → began ≡ true → e ≤ last_epoch
began-fits s e boot_end.Up p began b on = next-fits s e p began b
began-fits s e boot_end.DiskFault p began (inl b) on = not-begun began b.nothing.not_begun on
began-fits s e boot_end.DiskFault p began (inr (inl b)) on = not-begun began b.nothing.not_begun on
began-fits s e boot_end.DiskFault p began (inr (inr b)) on = next-fits s e p began b
began-fits s e boot_end.Stop p began (inl b) on = not-begun began b.nothing.not_begun on
began-fits s e boot_end.Stop p began (inr (inl b)) on = not-begun began b.nothing.not_begun on
began-fits s e boot_end.Stop p began (inr (inr b)) on = next-fits s e p began b
began-fits s e (boot_end.Damaged place) p began b on = not-begun began b.nothing.not_begun on
began-fits s e boot_end.EpochsSpent p began b on = not-begun began b.nothing.not_begun on
began-fits s e boot_end.Full p began (inl b) on = not-begun began b.nothing.not_begun on
began-fits s e boot_end.Full p began (inr b) on = not-begun began b.nothing.not_begun on

-- a boot that began a put has that epoch in doubt
epochs-begun : (e : ℕ) (began : Bool) (it : Node) → (began ≡ true → e ≤ last_epoch) → AreBounded it
    → AreBounded (record it { epoch_doubt = cond began (Some e) it.epoch_doubt })
epochs-begun e true it fits h = record { stored = h.stored; doubted = fits refl }
epochs-begun e false it fits h = h

epochs-booted : (s : Site) (e : ℕ) (how : BootEnd) (p : Option Pick) (began : Bool) → BootsSo s e how p began → (it : Node) → AreBounded it
    → AreBounded (booted_node s e how began it)
epochs-booted s e boot_end.Up p began b it h = record { stored = next-fits s e p began b; doubted = h.doubted }
epochs-booted s e boot_end.DiskFault p began b it h = epochs-begun e began it (began-fits s e boot_end.DiskFault p began b) h
epochs-booted s e boot_end.Stop p began b it h = epochs-begun e began it (began-fits s e boot_end.Stop p began b) h
epochs-booted s e (boot_end.Damaged place) p began b it h = epochs-begun e began it (began-fits s e (boot_end.Damaged place) p began b) h
epochs-booted s e boot_end.EpochsSpent p began b it h = epochs-begun e began it (began-fits s e boot_end.EpochsSpent p began b) h
epochs-booted s e boot_end.Full p began b it h = epochs-begun e began it (began-fits s e boot_end.Full p began b) h

epochs-boot : (e : ℕ) (how : BootEnd) (p : Option Pick) (began : Bool) (s : Site) → BootsSo s e how p began → AreBounded s.node
    → AreBounded (boot_turn e how p began s).node
unfolding on_node
epochs-boot e how p began s b h = epochs-booted s e how p began b (settled p s).node (epochs-settled p s h)

-- 5. Every event

epochs-turn : (reach : ℕ → Bool) (e : Event) (s : Site) → AllowsAt s e → AreBounded s.node → AreBounded (site_turn reach e s).node
epochs-turn reach (event.Request k a b refused) s allowed h = let site = keeps-site reach (event.Request k a b refused) s in
    epochs-like s.node _ (ap (λ (it : Node). it.epoch) site.node) (ap (λ (it : Node). it.epoch_doubt) site.node) h
epochs-turn reach (event.Reply k a b name why values) s allowed h = let site = keeps-site reach (event.Reply k a b name why values) s in
    epochs-like s.node _ (ap (λ (it : Node). it.epoch) site.node) (ap (λ (it : Node). it.epoch_doubt) site.node) h
epochs-turn reach (event.Activate v how p) s allowed h = epochs-activated v how (start_settled p s) (epochs-started p s h)
epochs-turn reach (event.Start k v p) s allowed h = let site = keeps-site reach (event.Start k v p) s in
    epochs-like s.node _ (ap (λ (it : Node). it.epoch) site.node) (ap (λ (it : Node). it.epoch_doubt) site.node) h
epochs-turn reach (event.Process v p said) s allowed h = let site = keeps-site reach (event.Process v p said) s in
    epochs-like s.node _ (ap (λ (it : Node). it.epoch) site.node) (ap (λ (it : Node). it.epoch_doubt) site.node) h
epochs-turn reach (event.Store v clock how p) s allowed h = epochs-store how p s h
epochs-turn reach (event.Boot n e how p began) s allowed h = epochs-boot e how p began s allowed.boots h
epochs-turn reach (event.Crash n) s allowed h = epochs-crashed s h
epochs-turn reach _ s allowed h = absurd allowed

pub kept-epochs : (w : World) (e : Event) → IsKeptAt (λ n it. AreBounded it) w e
kept-epochs w e = record {
  turns = λ n it at place allowed h. epochs-turn (reaches w n) e (site_of w n it) allowed h;
  crashes = λ n s is number h. epochs-crashed s h;
  tellings = λ u p a s h. epochs-left _ (spares (λ a b. refl) (λ a b. refl)) s _ (leaves-tells u p a s) h;
  births = λ u t s next up known h. epochs-left _ (spares (λ a b. refl) (λ a b. refl)) s _ (leaves-born u _ s) h;
  clocks = λ n c it h. record { stored = h.stored; doubted = h.doubted };
}

-- 6. Images

-- a number of four bytes
pub four-bytes : (bytes : List ℕ) → length bytes ≡ 4 → All (λ byte. byte < 256) bytes → number_from 0 bytes ≤ last_epoch
four-bytes [] size all = absurd (cc size)
four-bytes (a ∷ []) size all = absurd (omega (arith, size))
four-bytes (a ∷ b ∷ []) size all = absurd (omega (arith, size))
four-bytes (a ∷ b ∷ c ∷ []) size all = absurd (omega (arith, size))
four-bytes (a ∷ b ∷ c ∷ d ∷ []) size all =
    let one = All-tail (λ x. x < 256) a (b ∷ c ∷ d ∷ []) all in
    let two = All-tail (λ x. x < 256) b (c ∷ d ∷ []) one in
    let three = All-tail (λ x. x < 256) c (d ∷ []) two in
    omega (
      arith,
      All-head (λ x. x < 256) a (b ∷ c ∷ d ∷ []) all,
      All-head (λ x. x < 256) b (c ∷ d ∷ []) one,
      All-head (λ x. x < 256) c (d ∷ []) two,
      All-head (λ x. x < 256) d [] three,
    )
four-bytes (a ∷ b ∷ c ∷ d ∷ e ∷ bytes) size all = absurd (omega (arith, size))

reserved-size : (n size : ℕ) → IsOwn n (epoch_uid n) size → size ≡ 4
reserved-size n size own = go (epoch_uid n) refl own.1
  where
    go : (u : Uid) → u.serial ≡ 0 → ((1 ≤ u.epoch) × (1 ≤ u.serial)) ⊎ ((u.epoch ≡ 0) × (u.serial ≡ 0) × (size ≡ 4)) → size ≡ 4
    go u reserved (inl x) = absurd (omega (arith, x.1, reserved))
    go u reserved (inr x) = x.2

image-epoch : (layout : Layout) (n : ℕ) (d : DiskRun) → IsLayout layout → IsHandedIn layout n d → (kept : List (Uid × List ℕ))
    → found_in layout n (contents d.before).now ≡ Ok kept
    → IfSome (epoch_in n kept) (λ e. e ≤ last_epoch)
image-epoch layout n d lays handed kept found = go (layout.map_of n image) refl found
  where
    image : List ℕ
    image = (contents d.before).now

    body : (k : Kept) → layout.map_of n image ≡ Ok k → (o : Option (List ℕ)) → finite.get k.bodies (epoch_uid n) ≡ o
        → IfSome (with_item o (λ bytes. Some (number_from 0 bytes)) None) (λ e. e ≤ last_epoch)
    body k at None is = tt
    body k at (Some bytes) is = four-bytes bytes (reserved-size n (length bytes) (lays.own n image k at (epoch_uid n) bytes is).0)
        (lays.bytes n image k at handed.bytes (epoch_uid n) bytes is).2

    go : (r : Result Kept ℕ) → layout.map_of n image ≡ r → entries_of r ≡ Ok kept → IfSome (epoch_in n kept) (λ e. e ≤ last_epoch)
    go (Err place) at same = absurd (cc same)
    go (Ok k) at same =
        let entries : finite.entries k.bodies ≡ kept = cc same in
        subst (λ es. IfSome (epoch_in n es) (λ e. e ≤ last_epoch)) entries
        (subst (λ o. IfSome (with_item o (λ bytes. Some (number_from 0 bytes)) None) (λ e. e ≤ last_epoch))
        (finite.get-entries k.bodies (epoch_uid n)) (body k at (finite.get k.bodies (epoch_uid n)) refl))

pub node-epochs : (n size : ℕ) (found : Result (List (Uid × List ℕ)) ℕ) (overfull untold : Bool) (ledger : List ℕ)
    → ((kept : List (Uid × List ℕ)) → found ≡ Ok kept → IfSome (epoch_in n kept) (λ e. e ≤ last_epoch))
    → AreBounded (node_from n size found overfull untold ledger)
node-epochs n size (Ok kept) overfull untold ledger fits = record { stored = fits kept refl; doubted = tt }
node-epochs n size (Err place) overfull untold ledger fits = record { stored = tt; doubted = tt }

pub opening-epochs : (layout : Layout) (disks : List (ℕ × DiskRun)) → IsLayout layout
    → ((n : ℕ) (d : DiskRun) → value_at nat_cmp n disks ≡ Some d → IsHandedIn layout n d)
    → (n : ℕ) (it : Node) → value_at nat_cmp n (map (λ d. (d.0, node_of layout d)) (images disks)) ≡ Some it → AreBounded it
opening-epochs layout disks lays fits n it is = go (value_at nat_cmp n disks) refl (disk-node layout n it disks is)
  where
    go : (o : Option DiskRun) → value_at nat_cmp n disks ≡ o → IsSomeAnd o (λ d. node_of layout (n, (contents d.before).now) ≡ it)
        → AreBounded it
    go None at x = absurd x
    go (Some d) at x = subst AreBounded x (node-epochs n _ (found_in layout n (contents d.before).now) _ _ _
        (image-epoch layout n d lays (fits n d at)))

-- 7. The law

both-are-bounded : (layout : Layout) (script : Script) (disks : List DiskRun) (history : List Entry) → IsLayout layout
    → AreHandedIn layout disks → Begins layout script disks history
    → Everywhere (λ n it. AreBounded it) (last_world (opening_world layout script disks) script history)
both-are-bounded layout script disks history lays fits begins = end-keeps Any (Everywhere (λ n it. AreBounded it)) (record {
  entries = λ past w c e any allowed i. (tt, all-next (λ n it. AreBounded it) w c e (kept-epochs w e.event) allowed i);
  look_ups = λ past w name target path e any allowed plain i. (
    tt,
    all-same_nodes (λ n it. AreBounded it) w (looked_up w name target path e.event) (nodes-looked_up w name target path e.event) i,
  );
}) (beginning w script.nodes script.commands) [] history (of-any 1 script.nodes w script.commands)
    (subst (Everywhere (λ n it. AreBounded it)) (sym (world-booting 1 script.nodes w script.commands))
    (opening-epochs layout (numbered disks) lays fits)) begins
  where
    w : World
    w = opening_world layout script disks

-- an Eject has an epoch that is counted from 1, and the stored one has reached it
stored-before : (o : Option ℕ) (u : Uid) (last : ℕ) → IsBehind u (epoch_or_zero o) last → is_some o ≡ true
stored-before None u last b = absurd (omega (arith, b.epoch_counts, b.epoch_given))
stored-before (Some e) u last b = refl

pub epochs-are-bounded : (layout : Layout) (script : Script) (disks : List DiskRun) (history : List Entry) → IsLayout layout
    → AreHandedIn layout disks → Begins layout script disks history
    → Everywhere (λ n it. HasEpochs it) (last_world (opening_world layout script disks) script history)
epochs-are-bounded layout script disks history lays fits begins n it at =
    let bounds = both-are-bounded layout script disks history lays fits begins n it at in
    let fit = (worlds-are-known layout script disks history lays fits begins).fit n it at in
    record {
      stored = bounds.stored;
      doubted = bounds.doubted;
      stored_first = λ u there. stored-before it.epoch u it.last_serial (fit.behind u there);
    }
