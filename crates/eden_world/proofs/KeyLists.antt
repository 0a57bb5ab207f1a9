-- The enabled keys of a world, station by station, as the program finds them.
use Rattle.std.proofs.Common.{◌≡◌, inl, inr, ℕ, zero, suc, ◌+◌, ◌≤◌, ◌<◌, Bool, true, false, cond, ◌&&◌, List, [], ◌∷◌, ◌++◌, map}
use Rattle.std.proofs.Common.{Option, None, Some, is_some, drop, refl, sym, ◌∙◌, ap, arith}
use Rattle.std.specs.List.{AllByRecursion, filter, find, flat_map}
use Rattle.std.specs.Ordering.{nat_cmp}
use Rattle.std.specs.Cmp.{nat_cmp_total}
use Rattle.std.proofs.lemmas.List.{append-nil}
use Rattle.std.proofs.lemmas.List.Elements.{recursion_from_All}
use Rattle.capability.specs.declared.Uid.{Uid}
use Rattle.capability.proofs.Uids.{uid_cmp_total}
use Rattle.eden_model.specs.Map.{with_item, or_else, first, uid_cmp, value_at}
use Rattle.eden_model.specs.Traffic.{Traffic, next_message, queue}
use Rattle.invocation.specs.Mail.{Mail, is_waiting}
use Rattle.invocation.specs.Carries.{Carries, message_of}
use Rattle.passive_store.specs.Kept.{Layout}
use Rattle.journal.specs.declared.event.Key.{Key}
use Rattle.journal.specs.World.{World, Node, Site, Eject, node_at, site_of}
use Rattle.journal.specs.Enabled.{delivery, deliveries, enabled, is_past, is_to_activate, is_startable, activity, ready, node_keys}
use Rattle.journal.specs.Enabled.{activations, starts, processes, store_of, no_uid}
use Rattle.journal.specs.Sites.{Sound}
use Rattle.history_laws.proofs.EntryLists.{all-found}
use Rattle.eden_kernel.specs.Boots.{IsAsleep, IsIdle}
use Rattle.runs.specs.Reached.{IsReached}
use Rattle.eden_world.specs.Worlds.{AreNumbers, InHand, WorldStands, DownStands, DiskStands, numbers_from}
use Rattle.eden_world.specs.Listed.{keys_from, mail_keys, keys_at}
use Rattle.eden_world.proofs.NodeKeys.{number-of}

-- 1. The stations

drop-counted : (n k c : ℕ) → n < c → drop n (numbers_from k c) ≡ (k + n) ∷ drop (n + 1) (numbers_from k c)
drop-counted n k zero h = absurd (omega (arith, h))
drop-counted zero k (suc c) h = let e : k ≡ k + 0 = omega arith in ap (λ m. m ∷ numbers_from (k + 1) c) e
drop-counted (suc n) k (suc c) h =
    let first : (k + 1) + n ≡ k + suc n = omega arith in
    let past : suc (n + 1) ≡ suc n + 1 = omega arith in
    drop-counted n (k + 1) c (omega (arith, h)) ∙ ap (λ m. m ∷ drop (n + 1) (numbers_from (k + 1) c)) first
    ∙ ap (λ j. (k + suc n) ∷ drop j (numbers_from k (suc c))) past

-- the stations from one on
pub stations-from : (c n : ℕ) → n < c → drop n (numbers_from 0 c) ≡ n ∷ drop (n + 1) (numbers_from 0 c)
stations-from c n h = let e : 0 + n ≡ n = omega arith in
    drop-counted n 0 c h ∙ ap (λ m. m ∷ drop (n + 1) (numbers_from 0 c)) e

-- there are nine at most
pub few-stations : (k c : ℕ) → k + c ≤ 9 → AllByRecursion (λ n. n ≤ 8) (numbers_from k c)
few-stations k zero few = tt
few-stations k (suc c) few = (omega (arith, few), few-stations (k + 1) c (omega (arith, few)))

-- 2. A node that is down has no keys

flat-none : {X Y : Type 0} (f : X → List Y) (P : X → Type 0) → ((x : X) → P x → f x ≡ []) → (xs : List X) → AllByRecursion P xs
    → flat_map f xs ≡ []
flat-none f P h [] each = refl
flat-none f P h (x ∷ xs) each = rw (h x each.0) (flat-none f P h xs each.1)

abbrev Sleeps : Uid × Eject → Type 0
Sleeps e = IsIdle e.1

no-activation : (s : Site) (e : Uid × Eject) → Sleeps e → cond (is_to_activate s e.0 e.1) (activity s.number 2 e.0 0 ∷ []) [] ≡ []
no-activation s e idle = rw idle.passive (rw idle.unasked refl)

no-start : (s : Site) (e : Uid × Eject) → Sleeps e → cond (is_startable s.traffic e.1) (activity s.number 3 e.0 0 ∷ []) [] ≡ []
no-start s e idle = rw idle.passive refl

no-process : (e : Uid × Eject) → Sleeps e → with_item e.1.active (ready e.0) [] ≡ []
no-process e idle = rw idle.passive refl

all-sleep : (s : Site) → IsAsleep s → Sound s.number s.node → AllByRecursion Sleeps s.node.ejects
all-sleep s asleep sound = go s.node.ejects
    (recursion_from_All (λ e. value_at uid_cmp e.0 s.node.ejects ≡ Some e.1) s.node.ejects
    (all-found uid_cmp uid_cmp_total s.node.ejects sound.in_order))
  where
    go : (es : List (Uid × Eject)) → AllByRecursion (λ (e : Uid × Eject). value_at uid_cmp e.0 s.node.ejects ≡ Some e.1) es
        → AllByRecursion Sleeps es
    go [] h = tt
    go (e ∷ es) h = (asleep e.0 e.1 h.0, go es h.1)

pub asleep-no-keys : (s : Site) → IsAsleep s → Sound s.number s.node → s.node.requests ≡ [] → node_keys s ≡ []
asleep-no-keys s asleep sound none =
    let each = all-sleep s asleep sound in
    let a : activations s ≡ [] = flat-none (λ e. cond (is_to_activate s e.0 e.1) (activity s.number 2 e.0 0 ∷ []) []) Sleeps
    (no-activation s) s.node.ejects each in
    let b : starts s ≡ [] = flat-none (λ e. cond (is_startable s.traffic e.1) (activity s.number 3 e.0 0 ∷ []) []) Sleeps
    (no-start s) s.node.ejects each in
    let c : processes s ≡ [] = flat-none (λ (e : Uid × Eject). with_item e.1.active (ready e.0) []) Sleeps no-process s.node.ejects each in
    let d : store_of s ≡ [] = ap (λ rs. cond (is_some (first rs)) (activity s.number 5 no_uid 0 ∷ []) []) none in
    ap (λ xs. xs ++ starts s ++ processes s ++ store_of s) a ∙ ap (λ xs. xs ++ processes s ++ store_of s) b
    ∙ ap (λ xs. xs ++ store_of s) c ∙ d

no-request : (layout : Layout) (more : ℕ) (s : Site) (noted : _) (d : _) → DiskStands layout more s noted d → s.node.requests ≡ []
no-request layout more s noted d (inl (told, least, rests)) = rests.queue
no-request layout more s noted d (inr (bar, none, barred)) = barred.queue

pub down-no-keys : (layout : Layout) (more : ℕ) (s : Site) (noted : _) (d : _) → DownStands layout more s noted d → Sound s.number s.node
    → node_keys s ≡ []
down-no-keys layout more s noted d down sound = asleep-no-keys s down.asleep sound (no-request layout more s noted d down.disk)

pub is-off : (layout : Layout) (more : ℕ) (s : Site) (noted : _) (d : _) → DownStands layout more s noted d → s.node.up ≡ false
is-off layout more s noted d down = go down.disk
  where
    go : DiskStands layout more s noted d → s.node.up ≡ false
    go (inl (told, least, rests)) = rests.is_down
    go (inr (bar, none, barred)) = barred.is_down

-- 3. Deliveries

filter-alike : (p q : ℕ → Bool) (P : ℕ → Type 0) → ((n : ℕ) → P n → p n ≡ q n) → (ns : List ℕ) → AllByRecursion P ns
    → filter p ns ≡ filter q ns
filter-alike p q P h [] each = refl
filter-alike p q P h (n ∷ ns) each = rw (h n each.0) (ap (λ xs. cond (q n) (n ∷ xs) xs) (filter-alike p q P h ns each.1))

first-mapped : {X Y : Type 0} (f : X → Y) (xs : List X) → is_some (first xs) ≡ is_some (first (map f xs))
first-mapped f [] = refl
first-mapped f (x ∷ xs) = refl

is-waiting : (m : Mail) (t : Traffic) (a b : ℕ) → Carries m t → a ≤ 8 → b ≤ 8 → is_some (next_message t a b) ≡ is_waiting a b m
is-waiting m t a b carries from to =
    first-mapped (message_of t) (queue t a b) ∙ ap (λ ms. is_some (first ms)) (carries.queues a b from to)

pub deliveries-are : (layout : Layout) (more : ℕ) (h : InHand) (w : World) (to c : ℕ) → (stands : WorldStands layout more h w) → to ≤ 8
    → c ≡ suc stands.numbers.count → deliveries w to ≡ mail_keys c h.mail to
deliveries-are layout more h w to c stands least many =
    ap (λ ns. map (delivery to) (filter (λ from. is_some (next_message w.traffic from to)) (0 ∷ ns))) stands.numbers.are
    ∙ ap (map (delivery to)) (filter-alike (λ from. is_some (next_message w.traffic from to)) (λ from. is_waiting from to h.mail)
    (λ n. n ≤ 8)
    (λ from few. is-waiting h.mail w.traffic from to stands.calls few least) (numbers_from 0 (suc stands.numbers.count))
    (few-stations 0 (suc stands.numbers.count) (omega (arith, stands.numbers.few))))
    ∙ ap (λ k. mail_keys k h.mail to) (sym many)

-- what is found of the deliveries from a station on
pub next-from : (P : Key → Bool) (m : Mail) (to n : ℕ) (ns : List ℕ) → find P (keys_from m to (n ∷ ns))
    ≡ cond (is_waiting n to m && P (delivery to n)) (Some (delivery to n)) (find P (keys_from m to ns))
next-from P m to n ns = go (is_waiting n to m) refl
  where
    go : (b : Bool) → is_waiting n to m ≡ b → find P (keys_from m to (n ∷ ns))
        ≡ cond (is_waiting n to m && P (delivery to n)) (Some (delivery to n)) (find P (keys_from m to ns))
    go true at = rw at refl
    go false at = rw at refl

-- 4. All keys

abbrev IsFound : World → ℕ × Node → Type 0
IsFound w e = node_at w e.0 ≡ Some e.1

by-number : (w : World) (es : List (ℕ × Node)) → AllByRecursion (IsFound w) es
    → flat_map (λ e. deliveries w e.0 ++ node_keys (site_of w e.0 e.1)) es ≡ flat_map (keys_at w) (map (λ e. e.0) es)
by-number w [] each = refl
by-number w (e ∷ es) each =
    ap (λ o. (deliveries w e.0 ++ with_item o (λ it. node_keys (site_of w e.0 it)) [])
    ++ flat_map (λ e. deliveries w e.0 ++ node_keys (site_of w e.0 e.1)) es) (sym each.0)
    ∙ ap (λ ks. keys_at w e.0 ++ ks) (by-number w es each.1)

shell-keys : (w : World) → AreNumbers (map (λ e. e.0) w.nodes) → keys_at w 0 ≡ deliveries w 0
shell-keys w numbers = go (node_at w 0) refl
  where
    go : (o : Option Node) → node_at w 0 ≡ o → keys_at w 0 ≡ deliveries w 0
    go None at = ap (λ o. deliveries w 0 ++ with_item o (λ it. node_keys (site_of w 0 it)) []) at ∙ append-nil (deliveries w 0)
    go (Some it) at = absurd (let n = number-of w 0 it numbers at in omega (arith, n.first))

pub enabled-are : (layout : Layout) (more : ℕ) (h : InHand) (w : World) (c : ℕ) → (stands : WorldStands layout more h w) → IsReached w
    → c ≡ suc stands.numbers.count → enabled w ≡ flat_map (keys_at w) (numbers_from 0 c)
enabled-are layout more h w c stands reached many =
    let each = recursion_from_All (IsFound w) w.nodes (all-found nat_cmp nat_cmp_total w.nodes reached.sound.place.ordered) in
    ap (λ ks. deliveries w 0 ++ ks) (by-number w w.nodes each ∙ ap (flat_map (keys_at w)) stands.numbers.are)
    ∙ ap (λ ks. ks ++ flat_map (keys_at w) (numbers_from 1 stands.numbers.count)) (sym (shell-keys w stands.numbers))
    ∙ ap (λ k. flat_map (keys_at w) (numbers_from 0 k)) (sym many)

-- 5. What is found

pub find-append : {X : Type 0} (P : X → Bool) (xs ys : List X) → find P (xs ++ ys) ≡ or_else (find P xs) (find P ys)
find-append P [] ys = refl
find-append P (x ∷ xs) ys = go (P x) refl (find-append P xs ys)
  where
    go : (b : Bool) → P x ≡ b → find P (xs ++ ys) ≡ or_else (find P xs) (find P ys)
        → find P (x ∷ xs ++ ys) ≡ or_else (find P (x ∷ xs)) (find P ys)
    go true is h = rw is refl
    go false is h = rw is h

-- the first of a station, or of those behind it
pub find-station : (P : Key → Bool) (w : World) (c n : ℕ) → n < c
    → find P (flat_map (keys_at w) (drop n (numbers_from 0 c)))
    ≡ or_else (find P (keys_at w n)) (find P (flat_map (keys_at w) (drop (n + 1) (numbers_from 0 c))))
find-station P w c n few =
    ap (λ ns. find P (flat_map (keys_at w) ns)) (stations-from c n few)
    ∙ find-append P (keys_at w n) (flat_map (keys_at w) (drop (n + 1) (numbers_from 0 c)))

-- with no last key the first of all is past it
pub first-past : (keys : List Key) → find (is_past None) keys ≡ first keys
first-past [] = refl
first-past (k ∷ keys) = refl
