-- Nodes of the code as those of the definitions.
use Rattle.std.proofs.Common.{◌≡◌, ◌↔◌, ◌+◌, ◌<◌, ◌&&◌, ◌==◌, ℕ, Bool, true, false, not, cond, List, [], ◌∷◌, map, Option, None, Some, refl}
use Rattle.std.proofs.Common.{zero, suc, slice_set, arith, ◌≤◌, sym, ◌∙◌, ap, subst, filter, is_some, IfSome, IsSomeAnd, IsTrue}
use Rattle.std.proofs.Common.{slice_index_or, length}
use Rattle.std.specs.List.{filter_map}
use Rattle.std.specs.Option.{option_or}
use Rattle.capability.specs.declared.Uid.{Uid}
use Rattle.eden_value.specs.declared.status.Status.{Status}
use Rattle.eden_model.specs.Crew.{Waits, outside}
use Rattle.eden_model.specs.Map.{changed_at, each_value, first, rest, same_uid, uid_cmp, value_at, with_item}
use Rattle.eden_model.specs.Traffic.{Traffic}
use Rattle.epl_syntax.specs.declared.effect.Answer.TheVariants.{Code}
use Rattle.epl_syntax.specs.Rules.OfTypes.{TypeList}
use Rattle.passive_store.specs.declared.store.Pick.{Pick}
use Rattle.passive_store.specs.declared.store.Pick.TheVariants as picked
use Rattle.passive_blocks.specs.BlockLayout.{block_layout}
use Rattle.checkpoint.specs.declared.worker.Wish.{Wish}
use Rattle.checkpoint.specs.declared.worker.Wish.TheVariants.{Delete}
use Rattle.journal.specs.Boots.{boot_turn, booted_node, epoch_fits}
use Rattle.journal.specs.declared.event.BootEnd.{BootEnd}
use Rattle.journal.specs.declared.event.BootEnd.TheVariants as boot_end
use Rattle.journal.specs.declared.event.RequestEnd.{RequestEnd}
use Rattle.journal.specs.EjectChange.{EjectChange, kept_of}
use Rattle.journal.specs.Ejects.{dropped_of, on_active, stored_epoch, told}
use Rattle.journal.specs.Settling.{all_written, doubts, finds_room, first_request, in_doubt, settled, settled_eject, settled_epoch}
use Rattle.journal.specs.Settling.{settled_ledger}
use Rattle.journal.specs.Stores as stores
use Rattle.journal.specs.World.{Eject, Site, StoreRequest, on_eject, on_node}
use Rattle.plain_ejects.specs.View.{change_of, with_doubt, with_kept}
use Rattle.plain_stores.specs.declared.request.PlainRequest.{PlainRequest}
use Rattle.plain_stores.specs.declared.PlainNode.{PlainNode}
use Rattle.plain_stores.specs.View.{AnswersWaiting, ejects_of, freed, node_of, request_of, site_of, stays}

-- 1. Doubts and picks

-- over blocks no change adds to the ledger
pub nothing-written : (cs : List (Uid × EjectChange)) → all_written block_layout cs [] ≡ []
nothing-written [] = refl
nothing-written (c ∷ cs) = nothing-written cs

settled-nothing : (ts : TypeList) (n : PlainNode) (p : Pick) → settled_ledger block_layout n.number p (node_of ts n) ≡ []
settled-nothing ts n picked.Old = refl
settled-nothing ts n picked.New = nothing-written (doubts n.number (node_of ts n))

-- a site with what a settling changes
abbrev pub sited_settled : TypeList → Traffic → PlainNode → Option ℕ → List (Uid × Eject) → List ℕ → Site
sited_settled ts t n epoch es ledger = record (site_of ts t n) {
  node = record (node_of ts n) { epoch = epoch; epoch_doubt = None; synced = false; ledger = ledger; ejects = es };
}

pub settled-as : (ts : TypeList) (t : Traffic) (n : PlainNode) (pick : Option Pick) (p : Pick) (epoch : Option ℕ) (es : List (Uid × Eject))
    → pick ≡ Some p → epoch ≡ settled_epoch p (node_of ts n)
    → es ≡ each_value (settled_eject p) (ejects_of ts n.ejects.items) → sited_settled ts t n epoch es [] ≡ settled pick (site_of ts t n)
unfolding on_node
settled-as ts t n pick p epoch es is e same =
    subst (λ o. sited_settled ts t n epoch es [] ≡ settled o (site_of ts t n)) (sym is)
    (ap (λ x. sited_settled ts t n x es []) e
    ∙ (ap (λ l. sited_settled ts t n (settled_epoch p (node_of ts n)) l []) same
    ∙ ap (λ l. sited_settled ts t n (settled_epoch p (node_of ts n)) (each_value (settled_eject p) (ejects_of ts n.ejects.items)) l)
    (sym (settled-nothing ts n p))))

-- the epoch behind a pick
or-as : (a b : Option ℕ) → option_or a b ≡ with_item a (λ e. Some e) b
or-as None b = refl
or-as (Some x) b = refl

pub epoch-new : (ts : TypeList) (n : PlainNode) (p : Pick) → p ≡ picked.New
    → option_or n.epoch_doubt n.epoch ≡ settled_epoch p (node_of ts n)
epoch-new ts n p is = or-as n.epoch_doubt n.epoch ∙ ap (λ q. settled_epoch q (node_of ts n)) (sym is)

pub epoch-some : (ts : TypeList) (t : Traffic) (n : PlainNode) (pick : Option Pick) (p : Pick) → pick ≡ Some p
    → settled_epoch p (node_of ts n) ≡ (settled pick (site_of ts t n)).node.epoch
unfolding on_node
epoch-some ts t n pick p is = subst (λ o. settled_epoch p (node_of ts n) ≡ (settled o (site_of ts t n)).node.epoch) (sym is) refl

pub epoch-none : (ts : TypeList) (t : Traffic) (n : PlainNode) (pick : Option Pick) → pick ≡ None
    → n.epoch ≡ (settled pick (site_of ts t n)).node.epoch
epoch-none ts t n pick is = subst (λ o. n.epoch ≡ (settled o (site_of ts t n)).node.epoch) (sym is) refl

-- what is in doubt is settled where the store is at work on nothing
pub settle-as : (d w x y : Bool) → d ≡ x → d ≡ true → w ≡ y → not w ≡ (x && not y)
settle-as d w x y is on same = subst (λ b. not w ≡ (b && not y)) (sym on ∙ is) (ap not same)

-- 2. Boots

-- over blocks an epoch finds room, whatever is kept
pub epoch-room : (ts : TypeList) (t : Traffic) (n : PlainNode) (p : Option Pick)
    → true ≡ epoch_fits (settled p (site_of ts t n)) (stored_epoch (settled p (site_of ts t n)).node + 1)
unfolding on_node
epoch-room ts t n None = refl
epoch-room ts t n (Some p) = refl

pub untold-as : (ts : TypeList) (t : Traffic) (n : PlainNode) (p : Option Pick) → n.untold ≡ (settled p (site_of ts t n)).node.untold
unfolding on_node
untold-as ts t n None = refl
untold-as ts t n (Some p) = refl

-- a boot that brings the node up
pub boot-up : (ts : TypeList) (t : Traffic) (n m : PlainNode) (e : ℕ) (how : BootEnd) (p : Option Pick) (began : Bool)
    → site_of ts t m ≡ settled p (site_of ts t n) → how ≡ boot_end.Up
    → site_of ts t (record m { up = true; epoch = Some e; last_serial = 0 }) ≡ boot_turn e how p began (site_of ts t n)
unfolding on_node
boot-up ts t n m e how p began same is = subst (λ h. site_of ts t (record m { up = true; epoch = Some e; last_serial = 0 })
    ≡ boot_turn e h p began (site_of ts t n)) (sym is) (ap (on_node (booted_node (site_of ts t n) e boot_end.Up began)) same)

-- one that does not, by whether the put of the epoch began
abbrev pub with_epoch_doubt : Option ℕ → PlainNode → PlainNode
with_epoch_doubt o m = record m { epoch_doubt = o }

pub boot-down : (ts : TypeList) (t : Traffic) (n m : PlainNode) (e : ℕ) (how : BootEnd) (p : Option Pick) (began : Bool)
    → site_of ts t m ≡ settled p (site_of ts t n) → (how ≡ boot_end.Up → ⊥)
    → site_of ts t (with_epoch_doubt (cond began (Some e) m.epoch_doubt) m) ≡ boot_turn e how p began (site_of ts t n)
unfolding on_node
boot-down ts t n m e boot_end.Up p began same not-up = absurd (not-up refl)
boot-down ts t n m e boot_end.DiskFault p began same not-up = ap (on_node (booted_node (site_of ts t n) e boot_end.DiskFault began)) same
boot-down ts t n m e boot_end.Stop p began same not-up = ap (on_node (booted_node (site_of ts t n) e boot_end.Stop began)) same
boot-down ts t n m e (boot_end.Damaged place) p began same not-up =
    ap (on_node (booted_node (site_of ts t n) e (boot_end.Damaged place) began)) same
boot-down ts t n m e boot_end.EpochsSpent p began same not-up =
    ap (on_node (booted_node (site_of ts t n) e boot_end.EpochsSpent began)) same
boot-down ts t n m e boot_end.Full p began same not-up = ap (on_node (booted_node (site_of ts t n) e boot_end.Full began)) same

pub boot-began : (ts : TypeList) (t : Traffic) (n m : PlainNode) (e : ℕ) (how : BootEnd) (p : Option Pick) (began : Bool)
    → site_of ts t m ≡ settled p (site_of ts t n) → (how ≡ boot_end.Up → ⊥) → began ≡ true
    → site_of ts t (with_epoch_doubt (Some e) m) ≡ boot_turn e how p began (site_of ts t n)
boot-began ts t n m e how p began same not-up is =
    ap (λ b. site_of ts t (with_epoch_doubt (cond b (Some e) m.epoch_doubt) m)) (sym is) ∙ boot-down ts t n m e how p began same not-up

pub boot-not-begun : (ts : TypeList) (t : Traffic) (n m : PlainNode) (e : ℕ) (how : BootEnd) (p : Option Pick) (began : Bool)
    → site_of ts t m ≡ settled p (site_of ts t n) → (how ≡ boot_end.Up → ⊥) → began ≡ false
    → site_of ts t m ≡ boot_turn e how p began (site_of ts t n)
boot-not-begun ts t n m e how p began same not-up is =
    ap (λ b. site_of ts t (with_epoch_doubt (cond b (Some e) m.epoch_doubt) m)) (sym is) ∙ boot-down ts t n m e how p began same not-up

-- 3. Requests

dropped-more : (u : Uid) (r : StoreRequest) (rs : List StoreRequest) (s z : Bool) → same_uid r.uid u ≡ s → (r.made == 0) ≡ z
    → filter (stays u) (map (freed u) rs) ≡ filter_map (dropped_of u) rs
    → filter (stays u) (map (freed u) (r ∷ rs)) ≡ filter_map (dropped_of u) (r ∷ rs)
dropped-more u r rs true true same none others = rw (same, same, none) others
dropped-more u r rs true false same some others = rw (same, same, some) (ap (λ l. record r { process = None } ∷ l) others)
dropped-more u r rs false z other made others = rw (other, other) (ap (λ l. r ∷ l) others)

-- what the end of an active part leaves of its requests
pub dropped-as : (u : Uid) (rs : List StoreRequest) → filter (stays u) (map (freed u) rs) ≡ filter_map (dropped_of u) rs
dropped-as u [] = refl
dropped-as u (r ∷ rs) = dropped-more u r rs (same_uid r.uid u) (r.made == 0) refl refl (dropped-as u rs)

-- a test of what is seen of each
pub map-filter : {X Y : Type 0} (f : X → Y) (q : Y → Bool) (xs : List X) → map f (filter (λ x. q (f x)) xs) ≡ filter q (map f xs)
map-filter f q [] = refl
map-filter f q (x ∷ xs) = go (q (f x)) (map-filter f q xs)
  where
    go : (b : Bool) → map f (filter (λ y. q (f y)) xs) ≡ filter q (map f xs)
        → map f (cond b (x ∷ filter (λ y. q (f y)) xs) (filter (λ y. q (f y)) xs))
        ≡ cond b (f x ∷ filter q (map f xs)) (filter q (map f xs))
    go true others = ap (λ l. f x ∷ l) others
    go false others = others

-- what holds of the request that is read holds of the first
pub first-is : (P : StoreRequest → Type 0) (rs : List PlainRequest) (f : PlainRequest) → f ≡ slice_index_or rs 0 f → P (request_of f)
    → IfSome (first (map request_of rs)) P
first-is P [] f read holds = tt
first-is P (r ∷ rs) f read holds = subst P (ap request_of read) holds

-- a site with these requests and these Ejects
abbrev pub sited : TypeList → Traffic → PlainNode → List PlainRequest → List (Uid × Eject) → Site
sited ts t n rs es = record (site_of ts t n) { node = record (node_of ts n) { requests = map request_of rs; ejects = es } }

-- the process that this request answers waits
abbrev pub Waiting : TypeList → PlainNode → PlainRequest → Type 0
Waiting ts n r = IfSome r.process (λ q. IfSome (value_at uid_cmp r.uid (ejects_of ts n.ejects.items)) (λ e.
    IfSome e.active (λ it. Waits it.crew q outside)))

-- the change of the first is in doubt
pub doubted-as : (ts : TypeList) (t : Traffic) (n : PlainNode) (f : PlainRequest) (wish : Wish) (es : List (Uid × Eject))
    → f ≡ slice_index_or n.requests.items 0 f → wish ≡ f.wish
    → es ≡ changed_at uid_cmp f.uid (with_doubt (change_of wish)) (ejects_of ts n.ejects.items)
    → IfSome (first_request (node_of ts n)) (λ r. sited ts t n n.requests.items es ≡ stores.doubted r (site_of ts t n))
unfolding on_eject
doubted-as ts t n f wish es read same is = first-is (λ r. sited ts t n n.requests.items es ≡ stores.doubted r (site_of ts t n))
    n.requests.items f read (ap (λ l. sited ts t n n.requests.items l)
    (is ∙ ap (λ w. changed_at uid_cmp f.uid (with_doubt (change_of w)) (ejects_of ts n.ejects.items)) same))

-- the change of the first is made
pub stored-as : (ts : TypeList) (t : Traffic) (n : PlainNode) (f : PlainRequest) (wish : Wish) (es : List (Uid × Eject))
    → f ≡ slice_index_or n.requests.items 0 f → wish ≡ f.wish
    → es ≡ changed_at uid_cmp f.uid (with_kept (kept_of (change_of wish))) (ejects_of ts n.ejects.items)
    → IfSome (first_request (node_of ts n)) (λ r. sited ts t n n.requests.items es ≡ stores.stored r (site_of ts t n))
unfolding on_eject on_node
stored-as ts t n f wish es read same is = first-is (λ r. sited ts t n n.requests.items es ≡ stores.stored r (site_of ts t n))
    n.requests.items f read (ap (λ l. sited ts t n n.requests.items l)
    (is ∙ ap (λ w. changed_at uid_cmp f.uid (with_kept (kept_of (change_of w))) (ejects_of ts n.ejects.items)) same))

-- the process that the first answers waits
pub waits-as : (ts : TypeList) (t : Traffic) (n : PlainNode) (f got : PlainRequest) (left : List PlainRequest) (p : ℕ)
    → f ≡ slice_index_or n.requests.items 0 f → n.requests.items ≡ got ∷ left → f.process ≡ Some p → AnswersWaiting (site_of ts t n)
    → IfSome (value_at uid_cmp f.uid (ejects_of ts n.ejects.items)) (λ e. IfSome e.active (λ it. Waits it.crew p outside))
waits-as ts t n f got left p read split asks waits =
    let same : got ≡ f = sym (read ∙ ap (λ l. slice_index_or l 0 f) split) in
    let first_waits : Waiting ts n f = subst (λ (x : PlainRequest). Waiting ts n x) same
    (subst (λ l. IfSome (first (map request_of l)) (λ r. IfSome r.process (λ q.
    IfSome (value_at uid_cmp r.uid (ejects_of ts n.ejects.items)) (λ e. IfSome e.active (λ it. Waits it.crew q outside))))) split waits) in
    subst (λ o. IfSome o (λ q. IfSome (value_at uid_cmp f.uid (ejects_of ts n.ejects.items)) (λ e.
    IfSome e.active (λ it. Waits it.crew q outside)))) asks first_waits

-- the first has ended, and a process is told
pub ended-some : (ts : TypeList) (t : Traffic) (n : PlainNode) (f got : PlainRequest) (left : List PlainRequest) (p : ℕ) (status : Status)
    (es : List (Uid × Eject)) → f ≡ slice_index_or n.requests.items 0 f → n.requests.items ≡ got ∷ left → f.process ≡ Some p
    → es ≡ changed_at uid_cmp f.uid (on_active (told p (Code status))) (ejects_of ts n.ejects.items)
    → IfSome (first_request (node_of ts n)) (λ r. sited ts t n left es ≡ stores.request_ended r status (site_of ts t n))
unfolding on_eject on_node
ended-some ts t n f got left p status es read split asks is =
    first-is (λ r. sited ts t n left es ≡ stores.request_ended r status (site_of ts t n)) n.requests.items f read
    (ap (λ l. sited ts t n left l) is
    ∙ (ap (λ rs. record (site_of ts t n) {
      node = record (node_of ts n) {
        requests = rest (map request_of rs);
        ejects = changed_at uid_cmp f.uid (on_active (told p (Code status))) (ejects_of ts n.ejects.items);
      };
    }) (sym split)
    ∙ ap (λ o. stores.tells_code f.uid o status (on_node (λ it. record it { requests = rest it.requests }) (site_of ts t n))) (sym asks)))

-- the first has ended, and nobody is told
pub ended-none : (ts : TypeList) (t : Traffic) (n : PlainNode) (f got : PlainRequest) (left : List PlainRequest) (status : Status)
    → f ≡ slice_index_or n.requests.items 0 f → n.requests.items ≡ got ∷ left → f.process ≡ None
    → IfSome (first_request (node_of ts n))
    (λ r. sited ts t n left (ejects_of ts n.ejects.items) ≡ stores.request_ended r status (site_of ts t n))
unfolding on_node
ended-none ts t n f got left status read split asks =
    first-is (λ r. sited ts t n left (ejects_of ts n.ejects.items) ≡ stores.request_ended r status (site_of ts t n)) n.requests.items f read
    (ap (λ rs. record (site_of ts t n) { node = record (node_of ts n) { requests = rest (map request_of rs) } }) (sym split)
    ∙ ap (λ o. stores.tells_code f.uid o status (on_node (λ it. record it { requests = rest it.requests }) (site_of ts t n))) (sym asks))

-- 4. Turns

-- a removal needs device calls where something is kept
pub needs-delete : (s : Site) (r : PlainRequest) (k : Bool) → r.wish ≡ Delete → k ≡ stores.is_kept_in s r.uid
    → k ≡ stores.needs_calls s (request_of r)
needs-delete s r k wish is = is ∙ sym (ap (λ w. cond (is_some (kept_of (change_of w))) true (stores.is_kept_in s r.uid)) wish)

-- an entry of a turn is allowed where three tests hold
pub allows-as : (s : Site) (u : Uid) (how : RequestEnd) (p : Option Pick) (r : StoreRequest) (a b c : Bool) (w : stores.Work) (own : Bool)
    → (IsTrue a ↔ (u ≡ r.uid)) → (IsTrue b ↔ stores.EndsSo w how p) → own ≡ stores.makes_own_call w
    → (IsTrue c ↔ stores.HasCallLeft own how r s.node) → w ≡ stores.work_of s r
    → IsTrue (a && (b && c)) ↔ stores.AllowsStore s u how p r
allows-as s u how p r true true true w own ofs ends owns left works = (
  λ _. record {
    of_uid = ofs.0 refl;
    ends = subst (λ x. stores.EndsSo x how p) works (ends.0 refl);
    call_left = subst (λ x. stores.HasCallLeft x how r s.node) (owns ∙ ap stores.makes_own_call works) (left.0 refl);
  },
  λ _. refl,
)
allows-as s u how p r false b c w own ofs ends owns left works = (λ off. absurd (cc off), λ it. ofs.1 it.of_uid)
allows-as s u how p r true false c w own ofs ends owns left works =
    (λ off. absurd (cc off), λ it. ends.1 (subst (λ x. stores.EndsSo x how p) (sym works) it.ends))
allows-as s u how p r true true false w own ofs ends owns left works = (
  λ off. absurd (cc off),
  λ it. left.1 (subst (λ x. stores.HasCallLeft x how r s.node) (sym (owns ∙ ap stores.makes_own_call works)) it.call_left),
)

-- what may come of the request that is read may come of the first
pub some-first : (P : StoreRequest → Type 0) (b : Bool) (rs : List PlainRequest) (f : PlainRequest) → 0 < length rs
    → f ≡ slice_index_or rs 0 f → (IsTrue b ↔ P (request_of f)) → IsTrue b ↔ IsSomeAnd (first (map request_of rs)) P
some-first P b [] f more read both = absurd (omega (arith, more))
some-first P b (r ∷ rs) f more read both = subst (λ (x : PlainRequest). IsTrue b ↔ P (request_of x)) read both

-- what a turn is about
pub first-as : (s : Site) (r : StoreRequest) (n f : Bool) → stores.needs_calls s r ≡ n → finds_room r.uid r.change s ≡ f
    → cond n (cond f stores.calls stores.without_room) stores.unkept ≡ stores.first_work s r
first-as s r n f needs finds = ap (λ b. cond n (cond b stores.calls stores.without_room) stores.unkept) (sym finds)
    ∙ ap (λ b. cond b (cond (finds_room r.uid r.change s) stores.calls stores.without_room) stores.unkept) (sym needs)

pub first-unkept : (s : Site) (r : StoreRequest) → stores.needs_calls s r ≡ false → stores.unkept ≡ stores.first_work s r
first-unkept s r needs = first-as s r false (finds_room r.uid r.change s) needs refl

made-zero : (m : ℕ) → m ≤ 0 → (m == 0) ≡ true
made-zero m least = ap (λ k. k == 0) (let none : m ≡ 0 = omega (arith, least) in none)

pub later-as : (s : Site) (r : StoreRequest) (w : stores.Work) (d : Bool) → r.made ≤ 0 → d ≡ in_doubt s.number s.node
    → d ≡ false → w ≡ stores.first_work s r → w ≡ stores.work_of s r
later-as s r w d unmade is off works = works
    ∙ (ap (λ b. cond b (cond s.node.synced stores.reads stores.syncs) (stores.first_work s r)) (sym off ∙ is)
    ∙ ap (λ b. cond b (cond (in_doubt s.number s.node) (cond s.node.synced stores.reads stores.syncs) (stores.first_work s r)) stores.calls)
    (sym (made-zero r.made unmade)))

-- another item in its place leaves as many as there were
pub length-set : {X : Type 0} (xs : List X) (i : ℕ) (x : X) → length (slice_set xs i x) ≡ length xs
length-set [] i x = refl
length-set (y ∷ ys) zero x = refl
length-set (y ∷ ys) (suc i) x = ap suc (length-set ys i x)
