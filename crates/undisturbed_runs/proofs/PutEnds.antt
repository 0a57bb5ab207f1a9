-- A put that a turn of the store ends, on a disk that neither fails nor stops: its process is told 0, or that there was no room.
use Rattle.std.proofs.Common.{◌≡◌, ◌==◌, ◌+◌, ℕ, Bool, true, false, List, ◌∷◌, Option, None, Some, is_some, refl, sym, ◌∙◌, ap, subst}
use Rattle.std.proofs.Common.{inl, inr, arith}
use Rattle.std.specs.Prelude.{IsSomeAnd, IfSome}
use Rattle.std.specs.Option.{option_map}
use Rattle.std.specs.Ordering.{nat_cmp}
use Rattle.std.proofs.lemmas.Bool.{eq-eqb}
use Rattle.capability.specs.declared.Uid.{Uid}
use Rattle.eden_value.specs.declared.status.Status.{Status}
use Rattle.eden_value.specs.declared.status.Status.TheVariants as status
use Rattle.eden_model.specs.Map.{with_item, value_at, rest, uid_cmp}
use Rattle.eden_model.specs.Crew.{Process, Runs, Waits, outside}
use Rattle.epl_syntax.specs.declared.effect.Answer.TheVariants.{Code}
use Rattle.passive_store.specs.declared.store.Pick.{Pick}
use Rattle.journal.specs.declared.command.Command.{Command}
use Rattle.journal.specs.declared.event.Event.{Event}
use Rattle.journal.specs.declared.event.Event.TheVariants as event
use Rattle.journal.specs.declared.event.Entry.{Entry}
use Rattle.journal.specs.declared.event.RequestEnd.{RequestEnd}
use Rattle.journal.specs.declared.event.RequestEnd.TheVariants as end
use Rattle.journal.specs.World.{World, Node, Eject, Active, Task, Site, StoreRequest, node_at, site_at, site_of, eject_in}
use Rattle.journal.specs.Ejects.{told}
use Rattle.journal.specs.Settling.{first_request}
use Rattle.journal.specs.Stores.{AllowsStore, work_of, store_turn}
use Rattle.journal.specs.Step.{AllowsAt, AllowsEvent, at_site, clocked, counted, key_of}
use Rattle.journal.specs.Faults.{shows_fault, shows_stop}
use Rattle.journal.specs.LegalRun.{kept_at}
use Rattle.journal.specs.Sites.{IsManned, IsSoundSite, WaitsIn, at_store, active_in}
use Rattle.history_laws.proofs.KeptLaw.{kept_of_eject}
use Rattle.history_laws.proofs.Runs.{no-turn}
use Rattle.history_laws.proofs.SiteRuns.{SiteWorld, all-sound}
use Rattle.history_laws.proofs.SiteStores.{first-is, at-own}
use Rattle.undisturbed_runs.specs.Turns.{LacksRoom}
use Rattle.undisturbed_runs.specs.Puts.{IsPutOf, IsAnswered, IsAcknowledged, IsRefused, EndsPut}
use Rattle.undisturbed_runs.proofs.Laters.{IsTimeless, at-later, HasActive, has-active}
use Rattle.undisturbed_runs.proofs.Requests.{is-told, room-lacks, full-work, turn-tells, full-tells, turn-keeps}
use Rattle.undisturbed_runs.proofs.Steps.{next_by}
use Rattle.undisturbed_runs.proofs.Puts.{is_part, EndsIt}
use Rattle.undisturbed_runs.proofs.Awaiting.{EndsNow}

-- 1. The process that asked for it

-- it waits for the store
asker-waits : (u : Uid) (q : ℕ) (bytes : List ℕ) (s : Site) (r : StoreRequest) → IsSoundSite s → u.node ≡ s.number
    → first_request s.node ≡ Some r → IsPutOf u q bytes r → WaitsIn (eject_in s u) q
asker-waits u q bytes s r sound here begins put = (sound.processes u q here).stores (omega (arith, asks))
  where
    asks : at_store u q s.node.requests ≡ at_store u q (rest s.node.requests) + 1
    asks = ap (at_store u q) (first-is s.node.requests r begins)
        ∙ subst (λ v. at_store v q (r ∷ rest s.node.requests) ≡ at_store v q (rest s.node.requests) + 1) put.of_uid
        (at-own r q (rest s.node.requests) put.process)

-- the process waits for nothing, and its next turn takes this status
abbrev Answered : ℕ → Status → Active → Type 0
Answered q why it = Runs it.crew q × IsSomeAnd (value_at nat_cmp q it.tasks) (λ t. t.answer ≡ Code why)

waits-there : (o : Option Process) → option_map (λ (it : Process). it.waits) o ≡ Some outside → is_some o ≡ true
waits-there None h = absurd (cc h)
waits-there (Some it) h = refl

told-answered : (q : ℕ) (why : Status) (it : Active) → IsManned it → Waits it.crew q outside → Answered q why (told q (Code why) it)
told-answered q why it manned waits = (
  (is-told q why it).ready outside waits,
  task (value_at nat_cmp q it.tasks) refl (manned.tasked q (waits-there (value_at nat_cmp q it.crew.processes) waits)),
)
  where
    task : (o : Option Task) → value_at nat_cmp q it.tasks ≡ o → is_some o ≡ true
        → IsSomeAnd (value_at nat_cmp q (told q (Code why) it).tasks) (λ t. t.answer ≡ Code why)
    task None at some = absurd (cc some)
    task (Some t) at some = subst (λ o. IsSomeAnd o (λ t. t.answer ≡ Code why)) (sym ((is-told q why it).answer t at)) refl

-- 2. The turn of the store

-- the Eject and the active part of which it is
pub record Asker (u : Uid) (q : ℕ) (s : Site) : Type 0 where
  pub eject : Eject
  pub part : Active
  pub at : eject_in s u ≡ Some eject
  pub is : eject.active ≡ Some part
  pub manned : IsManned part
  pub waits : Waits part.crew q outside

asker : (u : Uid) (q : ℕ) (s : Site) → IsSoundSite s → WaitsIn (eject_in s u) q → Asker u q s
asker u q s sound waits = go (eject_in s u) refl waits
  where
    active : (e : Eject) → eject_in s u ≡ Some e → (o : Option Active) → e.active ≡ o → IsSomeAnd o (λ it. Waits it.crew q outside)
        → Asker u q s
    active e at None is w = absurd w
    active e at (Some it) is w = record {
      eject = e;
      part = it;
      at = at;
      is = is;
      manned = subst (λ o. IfSome o IsManned) is (sound.node.manned u e at);
      waits = w;
    }

    go : (o : Option Eject) → eject_in s u ≡ o → WaitsIn o q → Asker u q s
    go None at w = absurd w
    go (Some e) at w = active e at e.active refl w

module _ (u : Uid) (q : ℕ) (bytes : List ℕ) (w : World) (node : Node) (at : node_at w u.node ≡ Some node) where
  abbrev here : Site
  here = site_of w u.node node

  -- a world in which the process was told
  answered : (why : Status) (it : Active) → Answered q why (told q (Code why) it) → (later : World)
      → IsSomeAnd (node_at later u.node) (HasActive u (Some (told q (Code why) it))) → IsAnswered later u q why
  answered why it h later there =
      subst (λ o. IsSomeAnd o (Answered q why)) (sym (has-active u (Some (told q (Code why) it)) later there)) h

  -- what the Eject keeps there
  abbrev HasKept : Option (List ℕ) → Node → Type 0
  HasKept kept it = kept_of_eject (value_at uid_cmp u it.ejects) ≡ kept

  has-kept : (kept : Option (List ℕ)) (later : World) → IsSomeAnd (node_at later u.node) (HasKept kept) → kept_at later u ≡ kept
  has-kept kept later h = go (node_at later u.node) h
    where
      go : (n : Option Node) → IsSomeAnd n (HasKept kept)
          → with_item (with_item n (λ (it : Node). value_at uid_cmp u it.ejects) None) (λ (e : Eject). e.kept) None ≡ kept
      go None h = absurd h
      go (Some it) h = h

  -- it is done
  done-ends : (v : Uid) (clock : ℕ) (p : Option Pick) (touched c : ℕ) (ent : Entry) (r : StoreRequest) → v.node ≡ u.node
      → IsSoundSite here → first_request node ≡ Some r → AllowsStore here v end.Done p r → IsPutOf u q bytes r
      → IsAcknowledged u q bytes (record { world = w; entry = ent; later = next_by w None (event.Store v clock end.Done p) touched c })
  done-ends v clock p touched c ent r same sound begins a put = record {
    answered = answered status.Ok who.part (told-answered q status.Ok who.part who.manned who.waits) later
        (behind (HasActive u (Some (told q (Code status.Ok) who.part))) (λ k x h. h) tells);
    kept = has-kept (Some bytes) later (behind (HasKept (Some bytes)) (λ k x h. h) keeps);
  }
    where
      who : Asker u q here
      who = asker u q here sound (asker-waits u q bytes here r sound refl begins put)

      later : World
      later = next_by w None (event.Store v clock end.Done p) touched c

      own : eject_in here r.uid ≡ Some who.eject
      own = ap (eject_in here) put.of_uid ∙ who.at

      tells : active_in (eject_in (store_turn end.Done p here) u) ≡ Some (told q (Code status.Ok) who.part)
      tells = subst (λ x. active_in (eject_in (store_turn end.Done p here) x) ≡ Some (told q (Code status.Ok) who.part)) put.of_uid
          (turn-tells p r here q bytes who.eject who.part begins a.ends put.process put.change own who.is)

      keeps : kept_of_eject (eject_in (store_turn end.Done p here) u) ≡ Some bytes
      keeps = subst (λ x. kept_of_eject (eject_in (store_turn end.Done p here) x) ≡ Some bytes) put.of_uid
          (turn-keeps p r here q bytes who.eject begins a.ends put.process put.change own)

      behind : (P : Node → Type 0) → IsTimeless P → P (store_turn end.Done p here).node
          → IsSomeAnd (node_at later u.node) P
      behind P timeless h = subst (λ m. IsSomeAnd (node_at (counted (key_of (event.Store v clock end.Done p))
          (clocked touched c (at_site w m (event.Store v clock end.Done p)))) u.node) P)
          (sym same) (at-later P timeless (key_of (event.Store v clock end.Done p)) touched c u.node (store_turn end.Done p) w node at h)

  -- there is no room
  full-ends : (v : Uid) (clock : ℕ) (p : Option Pick) (touched c : ℕ) (ent : Entry) (r : StoreRequest) → v.node ≡ u.node
      → IsSoundSite here → first_request node ≡ Some r → AllowsStore here v end.Full p r → IsPutOf u q bytes r
      → IsRefused u q bytes (record { world = w; entry = ent; later = next_by w None (event.Store v clock end.Full p) touched c })
  full-ends v clock p touched c ent r same sound begins a put = record {
    lacks_room = subst (λ o. IsSomeAnd o (λ s. IsSomeAnd (first_request s.node) (λ x. IsPutOf u q bytes x × LacksRoom s x)))
        (sym (ap (λ o. with_item o (λ (x : Node). Some (site_of w u.node x)) None) at))
        (subst (λ o. IsSomeAnd o (λ x. IsPutOf u q bytes x × LacksRoom here x)) (sym begins)
        (put, room-lacks here r (full-work (work_of here r) p a.ends)));
    answered = answered status.Full who.part (told-answered q status.Full who.part who.manned who.waits) later behind;
  }
    where
      who : Asker u q here
      who = asker u q here sound (asker-waits u q bytes here r sound refl begins put)

      later : World
      later = next_by w None (event.Store v clock end.Full p) touched c

      tells : active_in (eject_in (store_turn end.Full p here) u) ≡ Some (told q (Code status.Full) who.part)
      tells = subst (λ x. active_in (eject_in (store_turn end.Full p here) x) ≡ Some (told q (Code status.Full) who.part)) put.of_uid
          (full-tells p r here q who.eject who.part begins a.ends put.process (ap (eject_in here) put.of_uid ∙ who.at) who.is)

      behind : IsSomeAnd (node_at later u.node) (HasActive u (Some (told q (Code status.Full) who.part)))
      behind = subst (λ m. IsSomeAnd (node_at (counted (key_of (event.Store v clock end.Full p))
          (clocked touched c (at_site w m (event.Store v clock end.Full p)))) u.node)
          (HasActive u (Some (told q (Code status.Full) who.part))))
          (sym same) (at-later (HasActive u (Some (told q (Code status.Full) who.part))) (λ k x h. h)
          (key_of (event.Store v clock end.Full p)) touched c u.node (store_turn end.Full p) w node at tells)

  -- a turn of the store that ends the put
  store-ends : (n : ℕ) (v : Uid) (clock : ℕ) (how : RequestEnd) (p : Option Pick) (touched c : ℕ) (ent : Entry) (r : StoreRequest)
      → u.node ≡ n → shows_fault n (event.Store v clock how p) ≡ false → shows_stop n (event.Store v clock how p) ≡ false
      → IsSoundSite here → first_request node ≡ Some r → AllowsStore here v how p r → IsPutOf u q bytes r → is_part how ≡ false
      → EndsPut u q bytes (record { world = w; entry = ent; later = next_by w None (event.Store v clock how p) touched c })
  store-ends n v clock how p touched c ent r on no_fault no_stop sound begins a put part = go how a no_fault no_stop part
    where
      same : v.node ≡ u.node
      same = ap (λ (x : Uid). x.node) (a.of_uid ∙ put.of_uid)

      shown : (v.node == n) ≡ true
      shown = eq-eqb v.node n (same ∙ on)

      go : (how : RequestEnd) → AllowsStore here v how p r → shows_fault n (event.Store v clock how p) ≡ false
          → shows_stop n (event.Store v clock how p) ≡ false → is_part how ≡ false
          → EndsPut u q bytes (record { world = w; entry = ent; later = next_by w None (event.Store v clock how p) touched c })
      go end.Part a no_fault no_stop part = absurd (cc part)
      go end.Done a no_fault no_stop part = inr (inl (done-ends v clock p touched c ent r same sound begins a put))
      go end.Full a no_fault no_stop part = inr (inr (full-ends v clock p touched c ent r same sound begins a put))
      go end.Fault a no_fault no_stop part = absurd (let bad : true ≡ false = sym shown ∙ no_fault in cc bad)
      go end.Stop a no_fault no_stop part = absurd (let bad : true ≡ false = sym shown ∙ no_stop in cc bad)

-- 3. Every event

none-ends : (A : Site → Type 0) (o : Option Site) → IsSomeAnd o (λ s. A s × ⊥) → ⊥
none-ends A None h = h
none-ends A (Some s) h = h.1

pub now-ends : (n : ℕ) (H : ℕ → Bool) (u : Uid) (q : ℕ) (bytes : List ℕ) (w : World) (c : Option Command) (ev : Event) (touched clock : ℕ)
    (ent : Entry) → SiteWorld H w → AllowsEvent w c ev → u.node ≡ n → shows_fault n ev ≡ false → shows_stop n ev ≡ false
    → EndsNow u q bytes w ev → EndsPut u q bytes (record { world = w; entry = ent; later = next_by w c ev touched clock })
now-ends n H u q bytes w (Some c) (event.Store v at how p) touched clock ent h allowed on no_fault no_stop ends =
    absurd (no-turn w c (event.Store v at how p) refl allowed)
now-ends n H u q bytes w None (event.Store v at how p) touched clock ent h allowed on no_fault no_stop ends =
    node (node_at w u.node) refl ends
  where
    request : (it : Node) → node_at w u.node ≡ Some it → (o : Option StoreRequest) → first_request it ≡ o
        → IsSomeAnd o (λ r. AllowsStore (site_of w u.node it) v how p r) → is_part how ≡ false → IsSomeAnd o (IsPutOf u q bytes)
        → EndsPut u q bytes (record { world = w; entry = ent; later = next_by w None (event.Store v at how p) touched clock })
    request it is None begins a part put = absurd a
    request it is (Some r) begins a part put =
        store-ends u q bytes w it is n v at how p touched clock ent r on no_fault no_stop (all-sound H w h u.node it is) begins a put part

    node : (o : Option Node) → node_at w u.node ≡ o
        → IsSomeAnd (with_item o (λ it. Some (site_of w u.node it)) None)
        (λ s. AllowsAt s (event.Store v at how p) × EndsIt u q bytes (event.Store v at how p) s)
        → EndsPut u q bytes (record { world = w; entry = ent; later = next_by w None (event.Store v at how p) touched clock })
    node None is x = absurd x
    node (Some it) is x = request it is (first_request it) refl x.0 x.1.0 x.1.1
now-ends n H u q bytes w c _ touched clock ent h allowed on no_fault no_stop ends = absurd (none-ends _ (site_at w u.node) ends)
