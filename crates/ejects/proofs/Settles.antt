-- A settling leaves of the Ejects of a node what it leaves at the site.
use Rattle.std.proofs.Common.{◌≡◌, ℕ, Bool, true, false, ◌||◌, ◌&&◌, List, Option, None, Some, refl, sym, ◌∙◌, ap, subst}
use Rattle.std.specs.Prelude.{is_some, IsSomeAnd}
use Rattle.std.specs.Option.{option_map}
use Rattle.std.specs.Ordering.{eq_by_cmp}
use Rattle.capability.specs.declared.Uid.{Uid}
use Rattle.capability.proofs.Uids.{uid_cmp-IsAntisymmetric}
use Rattle.eden_model.specs.Map.{uid_cmp, same_uid, with_item}
use Rattle.eden_model.proofs.Laws.{eq-same}
use Rattle.passive_store.specs.declared.store.Pick.{Pick}
use Rattle.passive_store.specs.declared.store.Pick.TheVariants as pick
use Rattle.invocation.specs.Mail.{Mail}
use Rattle.invocation.specs.Carries.{Carries}
use Rattle.journal.specs.EjectChange.{EjectChange, kept_of}
use Rattle.journal.specs.World.{Active, Eject, StoreRequest, Node, Site, eject_in, on_node}
use Rattle.journal.specs.Ejects.{is_there}
use Rattle.journal.specs.Settling.{first_request, settled, settled_eject, settled_epoch}
use Rattle.journal.specs.Stores.{Work, syncs, reads, unkept, without_room, calls, work_of, EndsSo, AllowsStore, worked, store_turn}
use Rattle.journal.specs.Step.{AllowsAt, site_turn}
use Rattle.journal.specs.declared.event.Event.TheVariants as event
use Rattle.journal.specs.declared.event.RequestEnd.TheVariants as end
use Rattle.history_laws.proofs.KeptTurns.{value-each}
use Rattle.active_part.specs.Body.{Body, active_of}
use Rattle.ejects.specs.Parts.{Parts, Known, known, body_at, held_of, HasClasses, Stands, IsAt}
use Rattle.ejects.specs.StoreEnds.{SettlesAt}
use Rattle.ejects.proofs.Delivered.{same-known}
use Rattle.ejects.proofs.Removals.{AlikeAt}
use Rattle.ejects.proofs.Stays.{same-held}

-- whether the Eject is in the table behind the settling
abbrev pub stays_there : Parts → Uid → Bool → Bool
stays_there n u stays = is_some (body_at n u) || (is_some (n.standing u) && stays)

-- an Eject that is settled is active as it was, and queues what it did
settled-known : (p : Pick) (e : Eject) (there : Bool) → is_some e.active || is_some (settled_eject p e).kept ≡ there
    → known (Some (settled_eject p e)) ≡ record { active = e.active; queued = e.queued; there = there }
settled-known pick.Old e there is = same-known refl refl (without (is_some e.active) (is_some e.kept) ∙ is)
  where
    without : (a b : Bool) → (a || (b || false)) ≡ (a || b)
    without true b = refl
    without false true = refl
    without false false = refl
settled-known pick.New e there is = same-known refl refl (without (is_some e.active) (is_some (with_item e.doubt kept_of e.kept)) ∙ is)
  where
    without : (a b : Bool) → (a || (b || false)) ≡ (a || b)
    without true b = refl
    without false true = refl
    without false false = refl

-- where nothing was in doubt it stays as it is
settled-same : (p : Pick) (e : Eject) → e.doubt ≡ None → settled_eject p e ≡ e
settled-same pick.Old e none = λ i. record e { doubt = sym none i }
settled-same pick.New e none = λ i. record e { kept = with_item (none i) kept_of e.kept; doubt = sym none i }

settled-epoch : (p : Pick) (it : Node) → it.epoch_doubt ≡ None → settled_epoch p it ≡ it.epoch
settled-epoch pick.Old it none = refl
settled-epoch pick.New it none = ap (λ o. with_item o (λ e. Some e) it.epoch) none

module _ (n new : Parts) (s : Site) (u : Uid) (stays : Bool) (p : Pick) (h : Stands n s) (settles : SettlesAt u stays p s)
    (same : AlikeAt u n new) (there : is_some (new.standing u) ≡ stays_there n u stays) where
  at-other : (v : Uid) → same_uid v u ≡ false → (o : Option Eject) → eject_in s v ≡ o → known (option_map (settled_eject p) o) ≡ held_of n v
  at-other v other None is = ap known (sym is) ∙ h.ejects v
  at-other v other (Some e) is =
      ap (λ x. known (Some x)) (settled-same p e (settles.only v e is other)) ∙ ap known (sym is) ∙ h.ejects v

  at-none : is_some (n.standing u) ≡ false → body_at n u ≡ None → is_some (new.standing u) ≡ false
  at-none absent inactive = there ∙ ap (λ o. is_some o || (is_some (n.standing u) && stays)) inactive ∙ ap (λ b. b && stays) absent

  at-one : (o : Option Eject) → eject_in s u ≡ o → known (option_map (settled_eject p) o) ≡ held_of new u
  at-one None is =
      let was : known None ≡ held_of n u = ap known (sym is) ∙ h.ejects u in
      let inactive : body_at n u ≡ None = none-mapped (body_at n u) (sym (ap (λ (k : Known). k.active) was)) in
      same-known (ap (λ (k : Known). k.active) was ∙ ap (option_map active_of) (sym same.active))
      (ap (λ (k : Known). k.queued) was ∙ sym same.queue)
      (sym (at-none (sym (ap (λ (k : Known). k.there) was)) inactive))
    where
      none-mapped : (o : Option Body) → option_map active_of o ≡ None → o ≡ None
      none-mapped None h = refl
      none-mapped (Some b) h = absurd (cc h)
  at-one (Some e) is =
      let was : known (Some e) ≡ held_of n u = ap known (sym is) ∙ h.ejects u in
      settled-known p e (is_some (new.standing u)) (by_table (is_some (n.standing u)) refl
      (ap (λ (k : Known). k.there) was) (some-mapped (body_at n u) (ap (λ (k : Known). k.active) was)))
      ∙ same-known (ap (λ (k : Known). k.active) was ∙ ap (option_map active_of) (sym same.active))
      (ap (λ (k : Known). k.queued) was ∙ sym same.queue) refl
    where
      some-mapped : (o : Option Body) → e.active ≡ option_map active_of o → is_some e.active ≡ is_some o
      some-mapped None h = ap is_some h
      some-mapped (Some b) h = ap is_some h

      -- of one that was not there nothing is kept or in doubt
      gone : (p : Pick) (a : Option Active) (k : Option (List ℕ)) (d : Option EjectChange) → (is_some a || (is_some k || is_some d)) ≡ false
          → is_some (settled_eject p (record { active = a; queued = e.queued; kept = k; doubt = d })).kept ≡ false
      gone p (Some a) k d h = absurd (let bad : true ≡ false = h in cc bad)
      gone p None (Some k) d h = absurd (let bad : true ≡ false = h in cc bad)
      gone p None None (Some d) h = absurd (let bad : true ≡ false = h in cc bad)
      gone pick.Old None None None h = refl
      gone pick.New None None None h = refl

      by_table : (b : Bool) → is_some (n.standing u) ≡ b → is_there e ≡ is_some (n.standing u) → is_some e.active ≡ is_some (body_at n u)
          → is_some e.active || is_some (settled_eject p e).kept ≡ is_some (new.standing u)
      by_table true table there_e active =
          (λ i. active i || settles.kept e is i) ∙ sym (there ∙ ap (λ b. is_some (body_at n u) || (b && stays)) table)
      by_table false table there_e active =
          (λ i. active i || gone p e.active e.kept e.doubt (there_e ∙ table) i)
          ∙ sym (there ∙ ap (λ b. is_some (body_at n u) || (b && stays)) table)

  pub settled-stands : Stands new (settled (Some p) s)
  unfolding on_node
  settled-stands = record {
    number = h.number ∙ sym same.only.node.number;
    types = h.types ∙ sym same.only.node.types;
    epoch = ap (λ o. with_item o (λ e. e) 0) (settled-epoch p s.node settles.epoch) ∙ h.epoch ∙ sym same.only.node.epoch;
    serial = h.serial ∙ sym same.only.node.last_serial;
    ejects = λ v. ap known (value-each v (settled_eject p) s.node.ejects) ∙ go v (eq_by_cmp uid_cmp v u) refl;
    classes = λ v. classes v (eq_by_cmp uid_cmp v u) refl;
  }
    where
      go : (v : Uid) (b : Bool) → eq_by_cmp uid_cmp v u ≡ b → known (option_map (settled_eject p) (eject_in s v)) ≡ held_of new v
      go v true is =
          let one : v ≡ u = eq-same uid_cmp uid_cmp-IsAntisymmetric v u is in
          rw one (at-one (eject_in s u) refl)
      go v false other = at-other v other (eject_in s v) refl ∙ sym (same-held n new v (same.only.others v other))

      classes : (v : Uid) (b : Bool) → eq_by_cmp uid_cmp v u ≡ b → HasClasses s.traffic (body_at new v)
      classes v true is =
          let one : v ≡ u = eq-same uid_cmp uid_cmp-IsAntisymmetric v u is in
          rw one (subst (HasClasses s.traffic) (sym same.active) (h.classes u))
      classes v false other = rw (same.only.others v other).standing (h.classes v)

  settled-traffic : (settled (Some p) s).traffic ≡ s.traffic
  unfolding on_node
  settled-traffic = refl

  turn-settles : (r : StoreRequest) (w : Work) → EndsSo w end.Part (Some p) → worked w r end.Part (Some p) s ≡ settled (Some p) s
  turn-settles r syncs ends = absurd (cc ends)
  turn-settles r reads ends = refl
  turn-settles r unkept ends = absurd ends
  turn-settles r without_room ends = absurd ends
  turn-settles r calls ends = absurd (cc ends)

  pub settled-turn : (m : Mail) (reach : ℕ → Bool) (clock : ℕ) (v : Uid) → Carries m s.traffic
      → AllowsAt s (event.Store v clock end.Part (Some p))
      → IsAt new m (site_turn reach (event.Store v clock end.Part (Some p)) s)
  settled-turn m reach clock v carries allows = go (first_request s.node) refl allows
    where
      go : (o : Option StoreRequest) → first_request s.node ≡ o → IsSomeAnd o (λ r. AllowsStore s v end.Part (Some p) r)
          → IsAt new m (store_turn end.Part (Some p) s)
      go None is allows = absurd allows
      go (Some r) is allows =
          let turn : store_turn end.Part (Some p) s ≡ settled (Some p) s =
          ap (λ o. with_item o (λ q. worked (work_of s q) q end.Part (Some p) s) s) is ∙ turn-settles r (work_of s r) allows.ends in
          subst (IsAt new m) (sym turn) (record { parts = settled-stands; calls = subst (Carries m) (sym settled-traffic) carries })
