-- An epoch that is in doubt on a node is the next one behind the stored one, in every world of a history.
use Rattle.std.proofs.Common.{◌≡◌, ℕ, ◌+◌, ◌++◌, Bool, true, false, cond, List, [], map, Option, None, Some, is_some, Result}
use Rattle.std.proofs.Common.{Ok, Err, refl, sym, ◌∙◌, ap, subst, inl, inr}
use Rattle.std.specs.Prelude.{IsSomeAnd, IfSome}
use Rattle.std.specs.List.{filter_map}
use Rattle.std.specs.Ordering.{nat_cmp}
use Rattle.capability.specs.declared.Uid.{Uid}
use Rattle.eden_value.specs.declared.status.Status.{Status}
use Rattle.eden_value.specs.declared.status.Status.TheVariants as status
use Rattle.eden_disk.specs.Told.{contents}
use Rattle.eden_model.specs.Map.{with_item, value_at, first}
use Rattle.passive_store.specs.declared.store.Pick.{Pick}
use Rattle.passive_store.specs.declared.store.Pick.TheVariants as pick
use Rattle.passive_store.specs.Kept.{Layout}
use Rattle.passive_store.specs.Layout.{IsLayout}
use Rattle.journal.specs.EjectChange.{kept_of}
use Rattle.journal.specs.declared.command.Script.{Script}
use Rattle.journal.specs.declared.event.BootEnd.{BootEnd}
use Rattle.journal.specs.declared.event.BootEnd.TheVariants as boot_end
use Rattle.journal.specs.declared.event.StartEnd.{StartEnd}
use Rattle.journal.specs.declared.event.StartEnd.TheVariants as start_end
use Rattle.journal.specs.declared.event.RequestEnd.{RequestEnd}
use Rattle.journal.specs.declared.event.RequestEnd.TheVariants as end
use Rattle.journal.specs.declared.event.Event.{Event}
use Rattle.journal.specs.declared.event.Event.TheVariants as event
use Rattle.journal.specs.declared.event.Entry.{Entry}
use Rattle.journal.specs.World.{World, Site, Node, StoreRequest, site_of, on_eject, on_node, reaches}
use Rattle.journal.specs.Ejects.{stored_epoch}
use Rattle.journal.specs.Settling.{first_request, settled, unsynced, to_settle, written_with, in_doubt, epoch_doubts, doubt_entry}
use Rattle.journal.specs.Crashes.{crashed}
use Rattle.journal.specs.Stores.{Work, syncs, reads, unkept, without_room, calls, work_of, more_made, doubted, request_ended, stored}
use Rattle.journal.specs.Stores.{done, worked, store_turn}
use Rattle.journal.specs.Starts.{activated, start_settled}
use Rattle.journal.specs.Boots.{BootsSo, booted_node, boot_turn}
use Rattle.journal.specs.Opening.{found_in, node_of, node_from}
use Rattle.journal.specs.Step.{AllowsAt, site_turn}
use Rattle.journal.specs.Run.{looked_up, beginning}
use Rattle.journal.specs.Standing.{DiskRun}
use Rattle.journal.specs.LegalRun.{AreHandedIn, numbered, images, opening_world, last_world}
use Rattle.journal.specs.Laws.{Begins}
use Rattle.journal.specs.Sites.{Everywhere}
use Rattle.history_laws.proofs.NoUidTwice.{disk-node}
use Rattle.history_laws.proofs.EveryNode.{IsKeptAt, all-next, all-same_nodes}
use Rattle.history_laws.proofs.Runs.{Any, of-any, end-keeps, world-booting, nodes-looked_up}
use Rattle.history_laws.proofs.SiteFrames.{Leaves, keeps-site, leaves-crashed, leaves-tells, leaves-born, leaves-turned_away, leaves-awake}
use Rattle.history_laws.proofs.SiteFrames.{leaves-done, leaves-ended, leaves-doubted, leaves-on_eject}
use Rattle.runs.specs.Reached.{NextInDoubt}

-- 1. Changes that leave both

next-like : (it new : Node) → new.epoch ≡ it.epoch → new.epoch_doubt ≡ it.epoch_doubt → NextInDoubt it → NextInDoubt new
next-like it new epoch doubt h = subst (λ o. IfSome new.epoch_doubt (λ e. e ≡ with_item o (λ x. x) 0 + 1)) (sym epoch)
    (subst (λ o. IfSome o (λ e. e ≡ stored_epoch it + 1)) (sym doubt) h)

-- a mask that leaves both
record Spares (m : Node → Node → Node) : Type 0 where
  epoch : (a b : Node) → (m a b).epoch ≡ a.epoch
  doubt : (a b : Node) → (m a b).epoch_doubt ≡ a.epoch_doubt

next-left : (m : Node → Node → Node) → Spares m → (s new : Site) → Leaves m s new → NextInDoubt s.node → NextInDoubt new.node
next-left m spares s new left h = next-like s.node new.node (ap (λ (it : Node). it.epoch) left.node ∙ spares.epoch s.node new.node)
    (ap (λ (it : Node). it.epoch_doubt) left.node ∙ spares.doubt s.node new.node) h

next-node : (f : Node → Node) (s : Site) → (f s.node).epoch ≡ s.node.epoch → (f s.node).epoch_doubt ≡ s.node.epoch_doubt
    → NextInDoubt s.node → NextInDoubt (on_node f s).node
unfolding on_node
next-node f s epoch doubt h = next-like s.node (f s.node) epoch doubt h

-- 2. Settling

next-settled : (p : Option Pick) (s : Site) → NextInDoubt s.node → NextInDoubt (settled p s).node
unfolding on_node
next-settled None s h = h
next-settled (Some pick.Old) s h = tt
next-settled (Some pick.New) s h = tt

next-started : (p : Option Pick) (s : Site) → NextInDoubt s.node → NextInDoubt (start_settled p s).node
next-started p s h = go (to_settle s)
  where
    go : (b : Bool) → NextInDoubt (cond b (settled p (unsynced s)) s).node
    go true = next-settled p (unsynced s) (next-node (λ it. record it { synced = false }) s refl refl h)
    go false = h

-- 3. The store and activations

spares : {m : Node → Node → Node} → ((a b : Node) → (m a b).epoch ≡ a.epoch) → ((a b : Node) → (m a b).epoch_doubt ≡ a.epoch_doubt)
    → Spares m
spares epoch doubt = record { epoch = epoch; doubt = doubt }

next-crashed : (s : Site) → NextInDoubt s.node → NextInDoubt (crashed s).node
next-crashed s h = next-left _ (spares (λ a b. refl) (λ a b. refl)) s _ (leaves-crashed s) h

next-doubted : (r : StoreRequest) (s : Site) → NextInDoubt s.node → NextInDoubt (doubted r s).node
next-doubted r s h = next-left _ (spares (λ a b. refl) (λ a b. refl)) s _ (leaves-doubted r s) h

next-ended : (r : StoreRequest) (why : Status) (s : Site) → NextInDoubt s.node → NextInDoubt (request_ended r why s).node
next-ended r why s h = next-left _ (spares (λ a b. refl) (λ a b. refl)) s _ (leaves-ended r why s) h

next-done : (r : StoreRequest) (s : Site) → NextInDoubt s.node → NextInDoubt (done r s).node
next-done r s h = next-left _ (spares (λ a b. refl) (λ a b. refl)) s _ (leaves-done r s) h

next-stored : (r : StoreRequest) (s : Site) → NextInDoubt s.node → NextInDoubt (stored r s).node
next-stored r s h = next-node (λ it. record it { ledger = written_with s.layout r.change it.ledger }) kept refl refl
    (next-left _ (spares (λ a b. refl) (λ a b. refl)) s kept
    (leaves-on_eject r.uid (λ e. record e { kept = kept_of r.change; doubt = None }) s) h)
  where
    kept : Site
    kept = on_eject r.uid (λ e. record e { kept = kept_of r.change; doubt = None }) s

next-faulted : (r : StoreRequest) (s : Site) → NextInDoubt s.node → NextInDoubt (request_ended r status.StoreFault (unsynced s)).node
next-faulted r s h = next-ended r status.StoreFault (unsynced s) (next-node (λ it. record it { synced = false }) s refl refl h)

next-worked : (w : Work) (r : StoreRequest) (how : RequestEnd) (p : Option Pick) (s : Site) → NextInDoubt s.node
    → NextInDoubt (worked w r how p s).node
next-worked syncs r end.Part p s h = next-node (λ it. record it { synced = true }) s refl refl h
next-worked syncs r end.Done p s h = h
next-worked syncs r end.Full p s h = h
next-worked syncs r end.Fault p s h = next-faulted r s h
next-worked syncs r end.Stop p s h = next-crashed s h
next-worked reads r end.Part p s h = next-settled p s h
next-worked reads r end.Done p s h = h
next-worked reads r end.Full p s h = h
next-worked reads r end.Fault p s h = next-faulted r s h
next-worked reads r end.Stop p s h = next-crashed s h
next-worked unkept r how p s h = next-done r s h
next-worked without_room r how p s h = next-ended r status.Full s h
next-worked calls r end.Part p s h = next-node (λ it. record it { requests = more_made it.requests }) (doubted r s) refl refl
    (next-doubted r s h)
next-worked calls r end.Done p s h = next-done r (stored r s) (next-stored r s h)
next-worked calls r end.Full p s h = h
next-worked calls r end.Fault p s h = next-ended r status.StoreFault (doubted r s) (next-doubted r s h)
next-worked calls r end.Stop p s h = next-crashed (doubted r s) (next-doubted r s h)

next-store : (how : RequestEnd) (p : Option Pick) (s : Site) → NextInDoubt s.node → NextInDoubt (store_turn how p s).node
next-store how p s h = go (first_request s.node)
  where
    go : (o : Option StoreRequest) → NextInDoubt (with_item o (λ r. worked (work_of s r) r how p s) s).node
    go None = h
    go (Some r) = next-worked (work_of s r) r how p s h

next-activated : (v : Uid) (how : StartEnd) (s : Site) → NextInDoubt s.node → NextInDoubt (activated v how s).node
next-activated v start_end.Ok s h = next-left _ (spares (λ a b. refl) (λ a b. refl)) s _ (leaves-awake v s) h
next-activated v start_end.Gone s h = next-left _ (spares (λ a b. refl) (λ a b. refl)) s _ (leaves-turned_away v status.Gone s) h
next-activated v start_end.Fault s h = next-left _ (spares (λ a b. refl) (λ a b. refl)) s _ (leaves-turned_away v status.StoreFault s) h
next-activated v start_end.Damaged s h = next-left _ (spares (λ a b. refl) (λ a b. refl)) s _ (leaves-turned_away v status.Damaged s) h
next-activated v start_end.Stop s h = next-crashed s h

-- 4. Boots

not-begun : {A : Type 0} (began : Bool) → began ≡ false → began ≡ true → A
not-begun began off on = absurd (let bad : false ≡ true = sym off ∙ on in cc bad)

began-next : (s : Site) (e : ℕ) (how : BootEnd) (p : Option Pick) (began : Bool) → BootsSo s e how p began → began ≡ true
    → e ≡ stored_epoch (settled p s).node + 1
began-next s e boot_end.Up p began b on = b.next_one
began-next s e boot_end.DiskFault p began (inl b) on = not-begun began b.nothing.not_begun on
began-next s e boot_end.DiskFault p began (inr (inl b)) on = not-begun began b.nothing.not_begun on
began-next s e boot_end.DiskFault p began (inr (inr b)) on = b.next_one
began-next s e boot_end.Stop p began (inl b) on = not-begun began b.nothing.not_begun on
began-next s e boot_end.Stop p began (inr (inl b)) on = not-begun began b.nothing.not_begun on
began-next s e boot_end.Stop p began (inr (inr b)) on = b.next_one
began-next s e (boot_end.Damaged place) p began b on = not-begun began b.nothing.not_begun on
began-next s e boot_end.EpochsSpent p began b on = not-begun began b.nothing.not_begun on
began-next s e boot_end.Full p began (inl b) on = not-begun began b.nothing.not_begun on
began-next s e boot_end.Full p began (inr b) on = not-begun began b.nothing.not_begun on

-- a boot that began a put has that epoch in doubt
next-begun : (e : ℕ) (began : Bool) (it : Node) → (began ≡ true → e ≡ stored_epoch it + 1) → NextInDoubt it
    → NextInDoubt (record it { epoch_doubt = cond began (Some e) it.epoch_doubt })
next-begun e true it fits h = fits refl
next-begun e false it fits h = h

-- once it is settled no epoch is in doubt
settled-sure : (p : Option Pick) (s : Site) → is_some p ≡ in_doubt s.number s.node → (settled p s).node.epoch_doubt ≡ None
unfolding on_node
settled-sure None s picked = go s.node.epoch_doubt picked
  where
    go : (o : Option ℕ) → false ≡ is_some (first (epoch_doubts s.number o ++ filter_map doubt_entry s.node.ejects)) → o ≡ None
    go None h = refl
    go (Some e) h = absurd (let bad : false ≡ true = h in cc bad)
settled-sure (Some pick.Old) s picked = refl
settled-sure (Some pick.New) s picked = refl

next-booted : (s : Site) (e : ℕ) (how : BootEnd) (p : Option Pick) (began : Bool) → BootsSo s e how p began → NextInDoubt (settled p s).node
    → NextInDoubt (booted_node s e how began (settled p s).node)
next-booted s e boot_end.Up p began b h = subst (λ o. IfSome o (λ d. d ≡ e + 1)) (sym (settled-sure p s b.opened.picked)) tt
next-booted s e boot_end.DiskFault p began b h = next-begun e began (settled p s).node (began-next s e boot_end.DiskFault p began b) h
next-booted s e boot_end.Stop p began b h = next-begun e began (settled p s).node (began-next s e boot_end.Stop p began b) h
next-booted s e (boot_end.Damaged place) p began b h = next-begun e began (settled p s).node
    (began-next s e (boot_end.Damaged place) p began b) h
next-booted s e boot_end.EpochsSpent p began b h = next-begun e began (settled p s).node (began-next s e boot_end.EpochsSpent p began b) h
next-booted s e boot_end.Full p began b h = next-begun e began (settled p s).node (began-next s e boot_end.Full p began b) h

next-boot : (e : ℕ) (how : BootEnd) (p : Option Pick) (began : Bool) (s : Site) → BootsSo s e how p began → NextInDoubt s.node
    → NextInDoubt (boot_turn e how p began s).node
unfolding on_node
next-boot e how p began s b h = next-booted s e how p began b (next-settled p s h)

-- 5. Every event

next-turn : (reach : ℕ → Bool) (e : Event) (s : Site) → AllowsAt s e → NextInDoubt s.node → NextInDoubt (site_turn reach e s).node
next-turn reach (event.Request k a b refused) s allowed h = let site = keeps-site reach (event.Request k a b refused) s in
    next-like s.node (site_turn reach (event.Request k a b refused) s).node (ap (λ (it : Node). it.epoch) site.node)
    (ap (λ (it : Node). it.epoch_doubt) site.node) h
next-turn reach (event.Reply k a b name why values) s allowed h = let site = keeps-site reach (event.Reply k a b name why values) s in
    next-like s.node (site_turn reach (event.Reply k a b name why values) s).node (ap (λ (it : Node). it.epoch) site.node)
    (ap (λ (it : Node). it.epoch_doubt) site.node) h
next-turn reach (event.Activate v how p) s allowed h = next-activated v how (start_settled p s) (next-started p s h)
next-turn reach (event.Start k v p) s allowed h = let site = keeps-site reach (event.Start k v p) s in
    next-like s.node (site_turn reach (event.Start k v p) s).node (ap (λ (it : Node). it.epoch) site.node)
    (ap (λ (it : Node). it.epoch_doubt) site.node) h
next-turn reach (event.Process v p said) s allowed h = let site = keeps-site reach (event.Process v p said) s in
    next-like s.node (site_turn reach (event.Process v p said) s).node (ap (λ (it : Node). it.epoch) site.node)
    (ap (λ (it : Node). it.epoch_doubt) site.node) h
next-turn reach (event.Store v clock how p) s allowed h = next-store how p s h
next-turn reach (event.Boot n e how p began) s allowed h = next-boot e how p began s allowed.boots h
next-turn reach (event.Crash n) s allowed h = next-crashed s h
next-turn reach _ s allowed h = absurd allowed

kept-next : (w : World) (e : Event) → IsKeptAt (λ n it. NextInDoubt it) w e
kept-next w e = record {
  turns = λ n it at place allowed h. next-turn (reaches w n) e (site_of w n it) allowed h;
  crashes = λ n s is number h. next-crashed s h;
  tellings = λ u p a s h. next-left _ (spares (λ a b. refl) (λ a b. refl)) s _ (leaves-tells u p a s) h;
  births = λ u t s next up known h. next-left _ (spares (λ a b. refl) (λ a b. refl)) s _ (leaves-born u _ s) h;
  clocks = λ n c it h. h;
}

-- 6. Before the first event nothing is in doubt

node-next : (n size : ℕ) (found : Result (List (Uid × List ℕ)) ℕ) (overfull untold : Bool) (ledger : List ℕ)
    → NextInDoubt (node_from n size found overfull untold ledger)
node-next n size (Ok kept) overfull untold ledger = tt
node-next n size (Err place) overfull untold ledger = tt

opening-next : (layout : Layout) (disks : List (ℕ × DiskRun)) (n : ℕ) (it : Node)
    → value_at nat_cmp n (map (λ d. (d.0, node_of layout d)) (images disks)) ≡ Some it → NextInDoubt it
opening-next layout disks n it is = go (value_at nat_cmp n disks) refl (disk-node layout n it disks is)
  where
    go : (o : Option DiskRun) → value_at nat_cmp n disks ≡ o → IsSomeAnd o (λ d. node_of layout (n, (contents d.before).now) ≡ it)
        → NextInDoubt it
    go None at x = absurd x
    go (Some d) at x = subst NextInDoubt x (node-next n _ (found_in layout n (contents d.before).now) _ _ _)

-- 7. The law

pub next-is-in-doubt : (layout : Layout) (script : Script) (disks : List DiskRun) (history : List Entry) → IsLayout layout
    → AreHandedIn layout disks → Begins layout script disks history
    → Everywhere (λ n it. NextInDoubt it) (last_world (opening_world layout script disks) script history)
next-is-in-doubt layout script disks history lays fits begins = end-keeps Any (Everywhere (λ n it. NextInDoubt it)) (record {
  entries = λ past w c e any allowed i. (tt, all-next (λ n it. NextInDoubt it) w c e (kept-next w e.event) allowed i);
  look_ups = λ past w name target path e any allowed plain i. (
    tt,
    all-same_nodes (λ n it. NextInDoubt it) w (looked_up w name target path e.event) (nodes-looked_up w name target path e.event) i,
  );
}) (beginning w script.nodes script.commands) [] history (of-any 1 script.nodes w script.commands)
    (subst (Everywhere (λ n it. NextInDoubt it)) (sym (world-booting 1 script.nodes w script.commands))
    (opening-next layout (numbered disks))) begins
  where
    w : World
    w = opening_world layout script disks
