-- A turn of the store on a disk that neither fails nor stops.
use Rattle.std.proofs.Common.{◌≡◌, ◌==◌, ℕ, Bool, true, false, cond, List, Option, None, Some, is_some, refl, ◌∙◌, ap, subst}
use Rattle.std.specs.Ordering.{nat_cmp}
use Rattle.std.specs.Option.{option_map}
use Rattle.std.specs.Cmp.{nat_cmp_total}
use Rattle.std.specs.FinMap.{nat_cmp-IsAntisymmetric}
use Rattle.capability.specs.declared.Uid.{Uid}
use Rattle.eden_value.specs.declared.status.Status.{Status}
use Rattle.eden_value.specs.declared.status.Status.TheVariants as status
use Rattle.eden_model.specs.Map.{with_item, rest}
use Rattle.eden_model.specs.Crew.{nothing}
use Rattle.eden_model.proofs.Laws.{value-changed_same}
use Rattle.eden_model.proofs.LineLaws.{set-same}
use Rattle.epl_syntax.specs.declared.effect.Answer.{Answer}
use Rattle.epl_syntax.specs.declared.effect.Answer.TheVariants.{Code}
use Rattle.passive_store.specs.declared.store.Pick.{Pick}
use Rattle.journal.specs.EjectChange.{body, kept_of}
use Rattle.journal.specs.declared.event.RequestEnd.{RequestEnd}
use Rattle.journal.specs.declared.event.RequestEnd.TheVariants as end
use Rattle.journal.specs.World.{Task, Active, Eject, StoreRequest, Site, eject_in, on_node}
use Rattle.journal.specs.Ejects.{on_active, told, tells}
use Rattle.journal.specs.Settling.{first_request, in_doubt, finds_room}
use Rattle.journal.specs.Stores.{Work, syncs, reads, unkept, without_room, calls, EndsSo, needs_calls, work_of, stored, done}
use Rattle.journal.specs.Stores.{is_kept_in}
use Rattle.journal.specs.Stores.{tells_code, request_ended, removed, worked, store_turn}
use Rattle.journal.specs.Sites.{active_in}
use Rattle.journal.proofs.Same.{equal}
use Rattle.history_laws.proofs.SiteParts.{eject-here}
use Rattle.history_laws.proofs.KeptLaw.{kept_of_eject, kept_in, kept-tells}
use Rattle.undisturbed_runs.specs.Turns.{LacksRoom, EndsByRoom, IsTold}

-- 1. Room

pub lacks-room : (s : Site) (r : StoreRequest) → LacksRoom s r → work_of s r ≡ without_room
lacks-room s r h = rw (h.not_begun, h.nothing_in_doubt, h.needs, h.no_room) refl

pub room-lacks : (s : Site) (r : StoreRequest) → work_of s r ≡ without_room → LacksRoom s r
room-lacks s r is =
    go (r.made == 0) refl (in_doubt s.number s.node) refl s.node.synced (needs_calls s r) refl (finds_room r.uid r.change s) refl is
  where
    go : (a : Bool) → (r.made == 0) ≡ a → (b : Bool) → in_doubt s.number s.node ≡ b → (c d : Bool) → needs_calls s r ≡ d
        → (f : Bool) → finds_room r.uid r.change s ≡ f
        → cond a (cond b (cond c reads syncs) (cond d (cond f calls without_room) unkept)) calls ≡ without_room → LacksRoom s r
    go true begun false doubt c true needs false room is = record {
      not_begun = equal r.made 0 begun;
      nothing_in_doubt = doubt;
      needs = needs;
      no_room = room;
    }
    go false begun b doubt c d needs f room is = absurd (cc is)
    go true begun true doubt true d needs f room is = absurd (cc is)
    go true begun true doubt false d needs f room is = absurd (cc is)
    go true begun false doubt c false needs f room is = absurd (cc is)
    go true begun false doubt c true needs true room is = absurd (cc is)

-- work that ends for want of room
pub full-work : (w : Work) (p : Option Pick) → EndsSo w end.Full p → w ≡ without_room
full-work syncs p h = absurd h
full-work reads p h = absurd h
full-work unkept p h = absurd h
full-work without_room p h = refl
full-work calls p h = absurd h

abbrev pub is_fault : RequestEnd → Bool
is_fault end.Fault = true
is_fault _ = false

abbrev pub is_stop : RequestEnd → Bool
is_stop end.Stop = true
is_stop _ = false

pub ends-by-room : (s : Site) (r : StoreRequest) (how : RequestEnd) (p : Option Pick) → is_fault how ≡ false → is_stop how ≡ false
    → EndsSo (work_of s r) how p → EndsByRoom s r how
ends-by-room s r end.Part p no_fault no_stop h = λ lacks. subst (λ w. EndsSo w end.Part p) (lacks-room s r lacks) h
ends-by-room s r end.Done p no_fault no_stop h = λ lacks. subst (λ w. EndsSo w end.Done p) (lacks-room s r lacks) h
ends-by-room s r end.Full p no_fault no_stop h = room-lacks s r (full-work (work_of s r) p h)
ends-by-room s r end.Fault p no_fault no_stop h = absurd (cc no_fault)
ends-by-room s r end.Stop p no_fault no_stop h = absurd (cc no_stop)

-- 2. What is told

-- the active part of an Eject, and its process p told
pub is-told : (p : ℕ) (why : Status) (it : Active) → IsTold p why it (told p (Code why) it)
is-told p why it = record {
  answer = λ t is. value-changed_same nat_cmp nat_cmp_total nat_cmp-IsAntisymmetric p
      (λ (x : Task). record x { answer = Code why }) it.tasks
      ∙ ap (option_map (λ (x : Task). record x { answer = Code why })) is;
  ready = λ for_it is. set-same p for_it nothing it.crew.processes is;
}

told-active : (p : ℕ) (a : Answer) (e : Eject) (it : Active) → e.active ≡ Some it → (on_active (told p a) e).active ≡ Some (told p a it)
told-active p a e it is = go e.active is
  where
    go : (o : Option Active) → o ≡ Some it → (with_item o (λ x. record e { active = Some (told p a x) }) e).active ≡ Some (told p a it)
    go None is = absurd (cc is)
    go (Some x) is = ap (λ o. with_item o (λ (y : Active). Some (told p a y)) None) is

-- a process of an Eject is told
tells-active : (u : Uid) (p : ℕ) (a : Answer) (s : Site) (e : Eject) (it : Active) → eject_in s u ≡ Some e → e.active ≡ Some it
    → active_in (eject_in (tells u p a s) u) ≡ Some (told p a it)
tells-active u p a s e it at is = ap active_in (eject-here u (on_active (told p a)) s e at) ∙ told-active p a e it is

-- the first request leaves the queue
abbrev unqueue : Site → Site
unqueue s = on_node (λ it. record it { requests = rest it.requests }) s

unqueued : (u : Uid) (s : Site) → eject_in (unqueue s) u ≡ eject_in s u
unfolding on_node
unqueued u s = refl

done-tells : (r : StoreRequest) (s : Site) (q : ℕ) (bytes : List ℕ) (e : Eject) (it : Active) → r.process ≡ Some q → r.change ≡ body bytes
    → eject_in s r.uid ≡ Some e → e.active ≡ Some it → active_in (eject_in (done r s) r.uid) ≡ Some (told q (Code status.Ok) it)
done-tells r s q bytes e it asked put at is =
    ap (λ c. active_in (eject_in (removed c r.uid (request_ended r status.Ok s)) r.uid)) put
    ∙ ap (λ o. active_in (eject_in (tells_code r.uid o status.Ok (unqueue s)) r.uid)) asked
    ∙ tells-active r.uid q (Code status.Ok) (unqueue s) e it (unqueued r.uid s ∙ at) is

-- what was put is kept
stored-here : (r : StoreRequest) (s : Site) (e : Eject) → eject_in s r.uid ≡ Some e
    → eject_in (stored r s) r.uid ≡ Some (record e { kept = kept_of r.change; doubt = None })
unfolding on_node
stored-here r s e at = eject-here r.uid (λ x. record x { kept = kept_of r.change; doubt = None }) s e at

worked-tells : (w : Work) (p : Option Pick) (r : StoreRequest) (s : Site) (q : ℕ) (bytes : List ℕ) (e : Eject) (it : Active)
    → EndsSo w end.Done p → r.process ≡ Some q → r.change ≡ body bytes → eject_in s r.uid ≡ Some e → e.active ≡ Some it
    → active_in (eject_in (worked w r end.Done p s) r.uid) ≡ Some (told q (Code status.Ok) it)
worked-tells calls p r s q bytes e it h asked put at is = done-tells r (stored r s) q bytes
    (record e { kept = kept_of r.change; doubt = None }) it asked put (stored-here r s e at) is
worked-tells unkept p r s q bytes e it h asked put at is = done-tells r s q bytes e it asked put at is
worked-tells without_room p r s q bytes e it h asked put at is = absurd h
worked-tells syncs p r s q bytes e it h asked put at is = absurd h
worked-tells reads p r s q bytes e it h asked put at is = absurd h

-- a turn of the store that is done tells the process of its first request
pub turn-tells : (p : Option Pick) (r : StoreRequest) (s : Site) (q : ℕ) (bytes : List ℕ) (e : Eject) (it : Active)
    → first_request s.node ≡ Some r → EndsSo (work_of s r) end.Done p → r.process ≡ Some q → r.change ≡ body bytes
    → eject_in s r.uid ≡ Some e → e.active ≡ Some it
    → active_in (eject_in (store_turn end.Done p s) r.uid) ≡ Some (told q (Code status.Ok) it)
turn-tells p r s q bytes e it begins h asked put at is =
    ap (λ o. active_in (eject_in (with_item o (λ x. worked (work_of s x) x end.Done p s) s) r.uid)) begins
    ∙ worked-tells (work_of s r) p r s q bytes e it h asked put at is

-- a turn that ends for want of room tells the process so
pub full-tells : (p : Option Pick) (r : StoreRequest) (s : Site) (q : ℕ) (e : Eject) (it : Active) → first_request s.node ≡ Some r
    → EndsSo (work_of s r) end.Full p → r.process ≡ Some q → eject_in s r.uid ≡ Some e → e.active ≡ Some it
    → active_in (eject_in (store_turn end.Full p s) r.uid) ≡ Some (told q (Code status.Full) it)
full-tells p r s q e it begins h asked at is =
    ap (λ o. active_in (eject_in (with_item o (λ x. worked (work_of s x) x end.Full p s) s) r.uid)) begins
    ∙ ap (λ w. active_in (eject_in (worked w r end.Full p s) r.uid)) (full-work (work_of s r) p h)
    ∙ ap (λ o. active_in (eject_in (tells_code r.uid o status.Full (unqueue s)) r.uid)) asked
    ∙ tells-active r.uid q (Code status.Full) (unqueue s) e it (unqueued r.uid s ∙ at) is

-- 3. What is kept

-- a put makes device calls
needed-calls : (s : Site) (r : StoreRequest) → needs_calls s r ≡ true → work_of s r ≡ unkept → ⊥
needed-calls s r needs is = go (r.made == 0) (in_doubt s.number s.node) s.node.synced (needs_calls s r) needs
    (finds_room r.uid r.change s) is
  where
    go : (a b c d : Bool) → d ≡ true → (f : Bool)
        → cond a (cond b (cond c reads syncs) (cond d (cond f calls without_room) unkept)) calls ≡ unkept
        → ⊥
    go true true true d needs f is = cc is
    go true true false d needs f is = cc is
    go true false c true needs true is = cc is
    go true false c true needs false is = cc is
    go true false c false needs f is = cc needs
    go false b c d needs f is = cc is

kept-done : (r : StoreRequest) (s : Site) (q : ℕ) (bytes : List ℕ) → r.process ≡ Some q → r.change ≡ body bytes
    → kept_in (done r s) r.uid ≡ kept_in s r.uid
kept-done r s q bytes asked put = ap (λ c. kept_in (removed c r.uid (request_ended r status.Ok s)) r.uid) put
    ∙ ap (λ o. kept_in (tells_code r.uid o status.Ok (unqueue s)) r.uid) asked
    ∙ kept-tells r.uid r.uid q (Code status.Ok) (unqueue s) ∙ ap kept_of_eject (unqueued r.uid s)

-- a put that is done is kept
pub turn-keeps : (p : Option Pick) (r : StoreRequest) (s : Site) (q : ℕ) (bytes : List ℕ) (e : Eject) → first_request s.node ≡ Some r
    → EndsSo (work_of s r) end.Done p → r.process ≡ Some q → r.change ≡ body bytes → eject_in s r.uid ≡ Some e
    → kept_in (store_turn end.Done p s) r.uid ≡ Some bytes
turn-keeps p r s q bytes e begins h asked put at = ap (λ o. kept_in (with_item o (λ x. worked (work_of s x) x end.Done p s) s) r.uid) begins
    ∙ go (work_of s r) refl h
  where
    needs : needs_calls s r ≡ true
    needs = ap (λ c. cond (is_some (kept_of c)) true (is_kept_in s r.uid)) put

    go : (w : Work) → work_of s r ≡ w → EndsSo w end.Done p → kept_in (worked w r end.Done p s) r.uid ≡ Some bytes
    go calls is ends = kept-done r (stored r s) q bytes asked put ∙ ap kept_of_eject (stored-here r s e at) ∙ ap kept_of put
    go unkept is ends = absurd (needed-calls s r needs is)
    go without_room is ends = absurd ends
    go syncs is ends = absurd ends
    go reads is ends = absurd ends
