-- What may be found on a disk, and what a change makes of a map and its generation.
use Rattle.std.specs.Prelude.{◌≡◌, ◌⊎◌, ℕ, ◌≤◌, ◌<◌, ◌^◌, false, List, Option, None, Some, Result, Ok, Err}
use Rattle.std.proofs.Common.{refl, sym, ap, ◌∙◌, inl, inr, cond, arith}
use Rattle.std.specs.FinMap as map
use Rattle.std.specs.Int.{w32, to_be_bytes}
use Rattle.std.specs.Ordering.{eq_by_cmp, is_eq}
use Rattle.std.proofs.lemmas.Cmp.{tied_itself}
use Rattle.std.proofs.lemmas.Nat.{from_be_bytes-to_be_bytes_4}
use Rattle.capability.specs.declared.Uid.{Uid}
use Rattle.capability.specs.Uids.{uid_cmp}
use Rattle.capability.proofs.Uids.{uid_cmp_total}
use Rattle.eden_disk.specs.Told.{Told}
use Rattle.passive_store.specs.Kept.{Layout, IsEject, reserved_uid, bodies_after}
use Rattle.passive_store.specs.Seen.{Asked}
use Rattle.twin_store.specs.declared.served.TwinRefusal.{TwinRefusal}
use Rattle.twin_store.specs.declared.served.TwinRefusal.TheVariants.{Lost, Stopped, Full, GenerationsSpent, OutOfMemory}
use Rattle.twin_store.specs.Vouched.{Bodies, SameEjects, changed_by, generation_in, generation_by, IsOwnChange}
use Rattle.twin_store.specs.Footings.{Finds, IsMapped}
use Rattle.twin_store.specs.Serving.{Same, MayKeep}
use Rattle.twin_store.specs.Copies.{IsAlike}
use Rattle.twin_store.proofs.Vouching.{one_of, same_or_not, other}

-- 1. What is found

pub finds_weaker : (layout : Layout) (node : ℕ) (S T : Option Bodies → Type 0) (told : Told) → ((x : Option Bodies) → S x → T x)
    → Finds layout node S told → Finds layout node T told
finds_weaker layout node S T told f h =
    record { footing = h.footing; is = h.is; only = λ found may. f _ (h.only found may); found = h.found; there = h.there }

mapped_weaker : (P Q : Bodies → Type 0) → ((m : Bodies) → P m → Q m) → (x : Option Bodies) → IsMapped P x → IsMapped Q x
mapped_weaker P Q f (Some m) p = f m p
mapped_weaker P Q f None p = p

pub maps_weaker : (layout : Layout) (node : ℕ) (P Q : Bodies → Type 0) (told : Told) → ((m : Bodies) → P m → Q m)
    → Finds layout node (IsMapped P) told → Finds layout node (IsMapped Q) told
maps_weaker layout node P Q told f h = finds_weaker layout node (IsMapped P) (IsMapped Q) told (mapped_weaker P Q f) h

pub may_keep_either : {T : Type 0} (r : Result (Option T) TwinRefusal) (c : Option Asked) (old m : Bodies) → MayKeep r c old m
    → Same m old ⊎ Same m (changed_by c old)
may_keep_either (Ok (Some value)) c old m h = inr h
may_keep_either (Ok None) c old m h = h
may_keep_either (Err Lost) c old m h = inl h
may_keep_either (Err Stopped) c old m h = h
may_keep_either (Err Full) c old m h = inl h
may_keep_either (Err GenerationsSpent) c old m h = inl h
may_keep_either (Err OutOfMemory) c old m h = inl h

-- a call that asks for no change keeps what was kept
pub may_keep_same : {T : Type 0} (r : Result (Option T) TwinRefusal) (old m : Bodies) → MayKeep r None old m → Same m old
may_keep_same r old m h = one_of (may_keep_either r None old m h) (λ s. s) (λ s. s)

pub same_on : (m n k : Bodies) → Same m n → Same n k → Same m k
same_on m n k a b uid = a uid ∙ b uid

pub same_back : (m n : Bodies) → Same m n → Same n m
same_back m n a uid = sym (a uid)

-- 2. Maps

pub same_alike : (node : ℕ) (m n : Bodies) → Same m n → IsAlike node n m
same_alike node m n same = record { same = λ uid own. same uid; generation_is = ap generation_by (same (reserved_uid node)) }

no_epoch : (n : ℕ) → n ≡ 0 → 1 ≤ n → ⊥
no_epoch n e h = omega arith

-- the reserved uid is that of no Eject
pub apart : (node : ℕ) (uid : Uid) → IsEject node uid → eq_by_cmp uid_cmp uid (reserved_uid node) ≡ false
apart node uid own =
    one_of (same_or_not uid (reserved_uid node)) (λ e. absurd (no_epoch uid.epoch (ap (λ (u : Uid). u.epoch) e) own.1)) (λ e. e)

pub apart_back : (node : ℕ) (uid : Uid) → IsEject node uid → eq_by_cmp uid_cmp (reserved_uid node) uid ≡ false
apart_back node uid own =
    one_of (same_or_not (reserved_uid node) uid) (λ e. absurd (no_epoch uid.epoch (sym (ap (λ (u : Uid). u.epoch) e)) own.1)) (λ e. e)

-- what is under the uid of a change behind it
pub at_change : (uid : Uid) (body : Option (List ℕ)) (m : Bodies) → map.get (bodies_after uid body m) uid ≡ body
at_change uid None m =
    map.get-remove uid_cmp_total m uid uid ∙ ap (λ o. cond (is_eq o) None (map.get m uid)) (tied_itself uid_cmp_total uid)
at_change uid (Some body) m =
    map.get-insert uid_cmp_total m uid body uid ∙ ap (λ o. cond (is_eq o) (Some body) (map.get m uid)) (tied_itself uid_cmp_total uid)

-- a change of an Eject leaves the generation
pub generation_stays : (node : ℕ) (uid : Uid) (body : Option (List ℕ)) (m : Bodies) → IsEject node uid
    → generation_in node (bodies_after uid body m) ≡ generation_in node m
generation_stays node uid body m own = ap generation_by (other uid body m (reserved_uid node) (apart_back node uid own))

pub generation_changed : (node : ℕ) (c : Option Asked) (m : Bodies) → IsOwnChange node c
    → generation_in node (changed_by c m) ≡ generation_in node m
generation_changed node None m own = refl
generation_changed node (Some c) m own = generation_stays node c.uid c.body m own

-- a change of the generation leaves the Ejects
pub ejects_stay : (node : ℕ) (body : Option (List ℕ)) (m : Bodies) → SameEjects node (bodies_after (reserved_uid node) body m) m
ejects_stay node body m uid own = other (reserved_uid node) body m uid (apart node uid own)

pub generation_put : (node n : ℕ) (m : Bodies) → n < 2 ^ 32
    → generation_in node (bodies_after (reserved_uid node) (Some (to_be_bytes w32 n)) m) ≡ n
generation_put node n m small =
    ap generation_by (at_change (reserved_uid node) (Some (to_be_bytes w32 n)) m) ∙ from_be_bytes-to_be_bytes_4 n small
