-- What stays of a node while its Ejects, its requests and its map change, and what a store's turn is about.
use Rattle.std.proofs.Common.{◌≡◌, ◌≢◌, ℕ, ◌≤◌, ◌==◌, Bool, true, false, cond, List, [], ◌∷◌, Option, None, Some, is_some, refl, sym, ap}
use Rattle.std.proofs.Common.{◌∙◌, arith}
use Rattle.std.proofs.lemmas.Bool.{eq-eqb}
use Rattle.std.specs.FinMap as finite
use Rattle.std.specs.FinMap.{FinMap}
use Rattle.capability.specs.declared.Uid.{Uid}
use Rattle.capability.proofs.Uids.{uid_cmp_total, uid_cmp-IsAntisymmetric}
use Rattle.eden_model.specs.Map.{with_item, uid_cmp, value_at, first}
use Rattle.passive_store.specs.Kept.{Layout, Kept, changes_in, body_at}
use Rattle.passive_store.specs.Kept.{StoreChange, finds_room as finds_shown_room}
use Rattle.journal.specs.EjectChange.{EjectChange, kept_of}
use Rattle.journal.specs.World.{Site, Node, Eject, StoreRequest, eject_in, on_node}
use Rattle.journal.specs.Settling.{epoch_uid, in_doubt, kept_map, room, finds_room}
use Rattle.journal.specs.Stores.{syncs, reads, unkept, without_room, calls, first_work, work_of, is_kept_in, needs_calls}
use Rattle.journal.specs.Sites.{AllThere}
use Rattle.checkpoint.specs.Changes.{Facts, facts_of}
use Rattle.checkpoint.specs.Found.{all_of}
use Rattle.checkpoint.specs.StoreStands.{MapStands}
use Rattle.checkpoint.proofs.Shifts.{Shift}
use Rattle.checkpoint.proofs.MapStands.{doubts-are, kept-is}
use Rattle.std.proofs.lemmas.Bool.{eqb-true}

-- 1. What stays

pub record Framed (s t : Site) : Type 0 where
  pub number : t.number ≡ s.number
  pub its_layout : t.layout ≡ s.layout
  pub up : t.node.up ≡ s.node.up
  pub epoch : t.node.epoch ≡ s.node.epoch
  pub epoch_doubt : t.node.epoch_doubt ≡ s.node.epoch_doubt
  pub size : t.node.size ≡ s.node.size
  pub overfull : t.node.overfull ≡ s.node.overfull
  pub uids : (u : Uid) → is_some (eject_in s u) ≡ true → is_some (eject_in t u) ≡ true

pub framed-shift : (g : Uid → Facts → Facts) (f : List StoreRequest → List StoreRequest) (s t : Site) → Shift g f s t → Framed s t
framed-shift g f s t x = record {
  number = x.number;
  its_layout = x.its_layout;
  up = ap (λ (it : Node). it.up) x.rest_of;
  epoch = ap (λ (it : Node). it.epoch) x.rest_of;
  epoch_doubt = ap (λ (it : Node). it.epoch_doubt) x.rest_of;
  size = ap (λ (it : Node). it.size) x.rest_of;
  overfull = ap (λ (it : Node). it.overfull) x.rest_of;
  uids = λ u is. x.uids u ∙ is;
}

pub synced-shift : (g : Uid → Facts → Facts) (f : List StoreRequest → List StoreRequest) (s t : Site) → Shift g f s t
    → t.node.synced ≡ s.node.synced
synced-shift g f s t x = ap (λ (it : Node). it.synced) x.rest_of

pub framed-then : (s t v : Site) → Framed s t → Framed t v → Framed s v
framed-then s t v a b = record {
  number = b.number ∙ a.number;
  its_layout = b.its_layout ∙ a.its_layout;
  up = b.up ∙ a.up;
  epoch = b.epoch ∙ a.epoch;
  epoch_doubt = b.epoch_doubt ∙ a.epoch_doubt;
  size = b.size ∙ a.size;
  overfull = b.overfull ∙ a.overfull;
  uids = λ u is. b.uids u (a.uids u is);
}

pub framed-same : (s : Site) → Framed s s
framed-same s = record {
  number = refl;
  its_layout = refl;
  up = refl;
  epoch = refl;
  epoch_doubt = refl;
  size = refl;
  overfull = refl;
  uids = λ u is. is;
}

pub framed-synced : (b : Bool) (s : Site) → Framed s (on_node (λ it. record it { synced = b }) s)
unfolding on_node
framed-synced b s = record {
  number = refl;
  its_layout = refl;
  up = refl;
  epoch = refl;
  epoch_doubt = refl;
  size = refl;
  overfull = refl;
  uids = λ u is. is;
}

pub framed-clock : (c : ℕ) (s : Site) → Framed s (on_node (λ it. record it { clock = Some c }) s)
unfolding on_node
framed-clock c s = record {
  number = refl;
  its_layout = refl;
  up = refl;
  epoch = refl;
  epoch_doubt = refl;
  size = refl;
  overfull = refl;
  uids = λ u is. is;
}

pub framed-ledger : (f : List ℕ → List ℕ) (s : Site) → Framed s (on_node (λ it. record it { ledger = f it.ledger }) s)
unfolding on_node
framed-ledger f s = record {
  number = refl;
  its_layout = refl;
  up = refl;
  epoch = refl;
  epoch_doubt = refl;
  size = refl;
  overfull = refl;
  uids = λ u is. is;
}

pub all-there : (rs : List StoreRequest) (es fs : List (Uid × Eject))
    → ((u : Uid) → is_some (value_at uid_cmp u es) ≡ true → is_some (value_at uid_cmp u fs) ≡ true) → AllThere rs es → AllThere rs fs
all-there [] es fs more all = tt
all-there (r ∷ rs) es fs more all = (more r.uid all.0, all-there rs es fs more all.1)

-- 2. What a turn is about

pub unmade : (made : ℕ) → made ≡ 0 → (made == 0) ≡ true
unmade made e = eq-eqb made 0 e

pub doubted-is : (layout : Layout) (n : ℕ) (s : Site) (kept : Kept) (d : Option StoreChange) → s.number ≡ n → MapStands n s kept d
    → in_doubt s.number s.node ≡ is_some d
doubted-is layout n s kept d number m = ap (λ k. in_doubt k s.node) number ∙ ap (λ l. is_some (first l)) (doubts-are n s kept d m) ∙ one d
  where
    one : (d : Option StoreChange) → is_some (first (all_of (changes_in d))) ≡ is_some d
    one None = refl
    one (Some c) = refl

pub work-settles : (s : Site) (r : StoreRequest) (synced : Bool) → r.made ≡ 0 → in_doubt s.number s.node ≡ true → s.node.synced ≡ synced
    → work_of s r ≡ cond synced reads syncs
work-settles s r synced made doubt is =
    ap (λ b. cond b (cond (in_doubt s.number s.node) (cond s.node.synced reads syncs) (first_work s r)) calls) (unmade r.made made)
    ∙ ap (λ b. cond b (cond s.node.synced reads syncs) (first_work s r)) doubt
    ∙ ap (λ b. cond b reads syncs) is

pub work-first : (s : Site) (r : StoreRequest) → r.made ≡ 0 → in_doubt s.number s.node ≡ false → work_of s r ≡ first_work s r
work-first s r made doubt =
    ap (λ b. cond b (cond (in_doubt s.number s.node) (cond s.node.synced reads syncs) (first_work s r)) calls) (unmade r.made made)
    ∙ ap (λ b. cond b (cond s.node.synced reads syncs) (first_work s r)) doubt

pub work-goes-on : (s : Site) (r : StoreRequest) → 1 ≤ r.made → work_of s r ≡ calls
work-goes-on s r some = go (r.made == 0) refl
  where
    go : (b : Bool) → (r.made == 0) ≡ b
        → cond b (cond (in_doubt s.number s.node) (cond s.node.synced reads syncs) (first_work s r)) calls ≡ calls
    go true is = absurd (omega (arith, some, eqb-true r.made 0 is))
    go false is = refl

-- 3. Room, where nothing is in doubt

from-entries : (m : FinMap uid_cmp (List ℕ)) → finite.from_entries (finite.entries m) ≡ m
from-entries m = finite.same_map uid_cmp_total uid_cmp-IsAntisymmetric (finite.from_entries (finite.entries m)) m
    (λ q. finite.get-from_entries uid_cmp_total (finite.entries m) q ∙ sym (finite.get-entries m q))

pub room-is : (layout : Layout) (n size : ℕ) (s : Site) (shown : Kept) (d : Option StoreChange) (u : Uid) (c : EjectChange) → s.number ≡ n
    → s.layout ≡ layout → s.node.size ≡ size → MapStands n s shown d
    → finds_room u c s ≡ finds_shown_room layout size shown u (kept_of c)
room-is layout n size s shown d u c number its_layout its_size m =
    ap (λ (l : Layout). l.has_room (l.room_of s.node.size (finite.from_entries (kept_map s.number s.node)) s.node.ledger) u (kept_of c))
    its_layout
    ∙ ap (λ k. layout.has_room (layout.room_of k (finite.from_entries (kept_map s.number s.node)) s.node.ledger) u (kept_of c)) its_size
    ∙ ap (λ k. layout.has_room (layout.room_of size (finite.from_entries (kept_map k s.node)) s.node.ledger) u (kept_of c)) number
    ∙ ap (λ l. layout.has_room (layout.room_of size (finite.from_entries l) s.node.ledger) u (kept_of c)) (kept-is n s shown d m)
    ∙ ap (λ x. layout.has_room (layout.room_of size x s.node.ledger) u (kept_of c)) (from-entries shown.bodies)
    ∙ ap (λ l. layout.has_room (layout.room_of size shown.bodies l) u (kept_of c)) m.ledger

-- whether something is kept of an Eject
pub kept-in-is : (n : ℕ) (s : Site) (shown : Kept) (d : Option StoreChange) (u : Uid) → u ≢ epoch_uid n → MapStands n s shown d
    → is_kept_in s u ≡ is_some (body_at shown u)
kept-in-is n s shown d u h m = go (eject_in s u) ∙ ap (λ (f : Facts). is_some f.0) (m.facts u h)
  where
    go : (o : Option Eject) → with_item o (λ e. is_some e.kept) false ≡ is_some (facts_of o).0
    go None = refl
    go (Some e) = refl

pub first-calls : (s : Site) (r : StoreRequest) → needs_calls s r ≡ true → finds_room r.uid r.change s ≡ true → first_work s r ≡ calls
first-calls s r needs room = ap (λ b. cond b (cond (finds_room r.uid r.change s) calls without_room) unkept) needs
    ∙ ap (λ b. cond b calls without_room) room

pub first-full : (s : Site) (r : StoreRequest) → needs_calls s r ≡ true → finds_room r.uid r.change s ≡ false
    → first_work s r ≡ without_room
first-full s r needs room = ap (λ b. cond b (cond (finds_room r.uid r.change s) calls without_room) unkept) needs
    ∙ ap (λ b. cond b calls without_room) room

pub first-unkept : (s : Site) (r : StoreRequest) → needs_calls s r ≡ false → first_work s r ≡ unkept
first-unkept s r needs = ap (λ b. cond b (cond (finds_room r.uid r.change s) calls without_room) unkept) needs
