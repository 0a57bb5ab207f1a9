-- The event of a key's turn has that key.
use Rattle.std.proofs.Common.{◌≡◌, ◌≤◌, ℕ, List, [], ◌∷◌, Option, Some, sym, ◌∙◌, ap, arith, inl, inr}
use Rattle.std.specs.Prelude.{IsSomeAnd}
use Rattle.capability.specs.declared.Uid.{Uid}
use Rattle.eden_disk.specs.Calls.{Counts}
use Rattle.eden_model.specs.Map.{first}
use Rattle.journal.specs.declared.event.Event.{Event}
use Rattle.journal.specs.declared.event.Event.TheVariants as event
use Rattle.journal.specs.declared.event.Key.{Key}
use Rattle.journal.specs.declared.event.RequestEnd.{RequestEnd}
use Rattle.journal.specs.Enabled.{activity, delivery, no_uid}
use Rattle.journal.specs.Settling.{first_request}
use Rattle.journal.specs.Sites.{IsSoundSite, AllThere}
use Rattle.journal.specs.Step.{AllowsAt, key_of}
use Rattle.journal.specs.Stores.{AllowsStore}
use Rattle.journal.specs.World.{StoreRequest, Site}
use Rattle.passive_store.specs.declared.store.Pick.{Pick}
use Rattle.ejects.specs.Events.{IsDelivery, IsStartOf, IsTurnOf}
use Rattle.eden_kernel.specs.DiskTurns.{IsActivation, IsStoreTurn}
use Rattle.scheduled_node.specs.Keys.{IsEjectKey, IsKeyOf}

kind-of : (k l : Key) → k ≡ l → k.kind ≡ l.kind
kind-of k l same = ap (λ (x : Key). x.kind) same

delivered-key : (n : ℕ) (k : Key) (a b : ℕ) → k.kind ≡ 1 → a ≡ k.sender → b ≡ n → IsKeyOf n k → Some (delivery b a) ≡ Some k
delivered-key n k a b one from to (inl same) = rw (from, to) (ap (λ x. Some x) (sym same))
delivered-key n k a b one from to (inr (inl same)) = absurd (let bad : 1 ≡ 5 = sym one ∙ kind-of k _ same in omega (arith, bad))
delivered-key n k a b one from to (inr (inr h)) = absurd (let some : 2 ≤ k.kind = h.kind.0 in omega (arith, one, some))

eject-key : (n : ℕ) (k : Key) (kind : ℕ) (u : Uid) (p : ℕ) → k.kind ≡ kind → 2 ≤ kind → kind ≤ 4 → u ≡ k.uid
    → (IsEjectKey n k → p ≡ k.process) → IsKeyOf n k → Some (activity u.node kind u p) ≡ Some k
eject-key n k kind u p is low high same process (inl key) = absurd
    (let bad : kind ≡ 1 = sym is ∙ kind-of k _ key in omega (arith, low, bad))
eject-key n k kind u p is low high same process (inr (inl key)) =
    absurd (let bad : kind ≡ 5 = sym is ∙ kind-of k _ key in omega (arith, high, bad))
eject-key n k kind u p is low high same process (inr (inr h)) =
    ap (λ v. Some (activity v.node kind v p)) same ∙ ap (λ m. Some (activity m kind k.uid p)) h.of_node
    ∙ ap (λ q. Some (activity n kind k.uid q)) (process h) ∙ ap (λ i. Some (activity n i k.uid k.process)) (sym is)
    ∙ ap (λ x. Some x) (sym h.key)

store-key : (n : ℕ) (k : Key) (m : ℕ) → k.kind ≡ 5 → m ≡ n → IsKeyOf n k → Some (activity m 5 no_uid 0) ≡ Some k
store-key n k m five at (inl key) = absurd (let bad : 5 ≡ 1 = sym five ∙ kind-of k _ key in omega (arith, bad))
store-key n k m five at (inr (inl key)) = rw at (ap (λ x. Some x) (sym key))
store-key n k m five at (inr (inr h)) = absurd (let few : k.kind ≤ 4 = h.kind.1 in omega (arith, five, few))

-- the key of each event
pub key-delivered : (n : ℕ) (k : Key) (e : Event) → k.kind ≡ 1 → IsDelivery k.sender n e → IsKeyOf n k → key_of e ≡ Some k
key-delivered n k (event.Request c a b refused) one is fits = delivered-key n k a b one is.0 is.1 fits
key-delivered n k (event.Reply c a b name why values) one is fits = delivered-key n k a b one is.0 is.1 fits
key-delivered n k _ one is fits = absurd is

pub key-started : (n : ℕ) (k : Key) (e : Event) → k.kind ≡ 3 → IsStartOf k.uid e → IsKeyOf n k → key_of e ≡ Some k
key-started n k (event.Start c u p) three is fits = eject-key n k 3 u 0 three (omega arith) (omega arith) is (λ h.
    sym (h.process (λ four. let bad : 3 ≡ 4 = sym three ∙ four in omega (arith, bad)))) fits
key-started n k _ three is fits = absurd is

pub key-turned : (n : ℕ) (k : Key) (e : Event) → k.kind ≡ 4 → IsTurnOf k.uid k.process e → IsKeyOf n k → key_of e ≡ Some k
key-turned n k (event.Process u p said) four is fits = eject-key n k 4 u p four (omega arith) (omega arith) is.0 (λ h. is.1) fits
key-turned n k _ four is fits = absurd is

pub key-activated : (n : ℕ) (k : Key) (before after : Counts) (e : Event) → k.kind ≡ 2 → IsActivation k.uid before after e → IsKeyOf n k
    → key_of e ≡ Some k
key-activated n k before after (event.Activate u how p) two is fits = eject-key n k 2 u 0 two (omega arith) (omega arith) is.0 (λ h.
    sym (h.process (λ four. let bad : 2 ≡ 4 = sym two ∙ four in omega (arith, bad)))) fits
key-activated n k before after _ two is fits = absurd is

-- the Eject of a request is of the node
stored-at : (s : Site) (u : Uid) (how : RequestEnd) (p : Option Pick) → IsSoundSite s
    → IsSomeAnd (first_request s.node) (λ r. AllowsStore s u how p r) → u.node ≡ s.number
stored-at s u how p sound allowed = go s.node.requests sound.node.there allowed
  where
    go : (rs : List StoreRequest) → AllThere rs s.node.ejects → IsSomeAnd (first rs) (λ r. AllowsStore s u how p r) → u.node ≡ s.number
    go [] there a = absurd a
    go (r ∷ rs) there a = ap (λ (v : Uid). v.node) a.of_uid ∙ sound.node.of_node r.uid there.0

pub key-stored : (s : Site) (k : Key) (before after : Counts) (e : Event) → IsSoundSite s → AllowsAt s e → k.kind ≡ 5
    → IsStoreTurn before after e → IsKeyOf s.number k → key_of e ≡ Some k
key-stored s k before after (event.Store u clock how p) sound allowed five is fits =
    store-key s.number k u.node five (stored-at s u how p sound allowed) fits
key-stored s k before after _ sound allowed five is fits = absurd is

-- an Eject's key is of its node
pub node-of : (n : ℕ) (k : Key) → 2 ≤ k.kind → k.kind ≤ 4 → IsKeyOf n k → k.uid.node ≡ n
node-of n k low high (inl key) = absurd (let one : k.kind ≡ 1 = kind-of k _ key in omega (arith, low, one))
node-of n k low high (inr (inl key)) = absurd (let five : k.kind ≡ 5 = kind-of k _ key in omega (arith, high, five))
node-of n k low high (inr (inr h)) = h.of_node
