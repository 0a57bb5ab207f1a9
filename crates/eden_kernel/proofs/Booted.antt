-- A node that has come up: its passive Ejects stand for those of the site.
use Rattle.std.proofs.Common.{◌≡◌, ◌≢◌, ℕ, Bool, true, false, cond, ◌||◌, List, [], Option, None, Some, refl, sym, ap, subst, ◌∙◌}
use Rattle.std.specs.Prelude.{is_some}
use Rattle.std.specs.Ordering.{is_eq}
use Rattle.std.specs.Option.{option_map}
use Rattle.capability.specs.declared.Uid.{Uid}
use Rattle.capability.proofs.Uids.{uid_cmp_total, uid_cmp-IsAntisymmetric}
use Rattle.std.proofs.lemmas.Cmp.{tied_itself}
use Rattle.journal.specs.EjectChange.{EjectChange}
use Rattle.eden_model.specs.Map.{value_at, uid_cmp, same_uid}
use Rattle.eden_model.proofs.Laws.{eq-same}
use Rattle.eden_disk.specs.Calls.{Counts}
use Rattle.eden_disk.specs.Told.{Told, EachMoment}
use Rattle.eden_disk.specs.Timed.{Timed}
use Rattle.journal.specs.Standing.{Stands, with_changes}
use Rattle.epl_syntax.specs.Rules.OfTypes.{TypeList}
use Rattle.invocation.specs.Mail.{Mail}
use Rattle.invocation.specs.Carries.{Carries}
use Rattle.passive_store.specs.declared.store.Pick.{Pick}
use Rattle.passive_store.specs.declared.store.Pick.TheVariants as pick
use Rattle.passive_store.specs.Kept.{Layout, Kept, Idle, body_at as kept_at, doubt_in}
use Rattle.passive_store.specs.Seen.{Seen}
use Rattle.journal.specs.declared.event.BootEnd.TheVariants as end
use Rattle.journal.specs.World.{Active, Eject, Site, eject_in, on_node, on_traffic}
use Rattle.journal.specs.Crashes.{fallen, crashed}
use Rattle.journal.specs.Boots.{boot_turn}
use Rattle.journal.specs.Ejects.{stored_epoch}
use Rattle.epl_syntax.specs.Meaning.{types_in}
use Rattle.journal.specs.Settling.{epoch_uid, settled, settled_eject}
use Rattle.history_laws.proofs.KeptTurns.{value-each}
use Rattle.checkpoint.specs.Room.{KeepsRoom}
use Rattle.checkpoint.proofs.Rooms.{kept-room}
use Rattle.checkpoint.specs.Asked.{StandsNow, requests_of}
use Rattle.checkpoint.specs.Boots.{BootsUp, put_after}
use Rattle.checkpoint.specs.Changes.{Facts, facts_of}
use Rattle.checkpoint.specs.StoreStands.{MapStands, state_of}
use Rattle.checkpoint.specs.Turns.{with_clock}
use Rattle.checkpoint.specs.declared.up.BootNote.{BootNote}
use Rattle.checkpoint.specs.declared.worker.Worker.{Worker}
use Rattle.active_part.specs.Body.{Body, active_of}
use Rattle.eject_table.specs.Table.{active_in}
use Rattle.ejects.specs.Parts.{Parts, Known, known, body_at, queue_of, held_of, HasClasses}
use Rattle.ejects.specs.Parts.{Stands as StandsFor}
use Rattle.ejects.specs.View.{parts_of}
use Rattle.ejects.specs.declared.Ejects.{Ejects}
use Rattle.eden_kernel.specs.Boots.{IsIdle, IsAsleep, HasNoted, NodeBoots, BootsPut}

-- 1. No Eject is active behind a settling, nor behind the boot

idle-settled : (p : Pick) (e : Eject) → IsIdle e → IsIdle (settled_eject p e)
idle-settled pick.Old e h = record { passive = h.passive; unasked = h.unasked }
idle-settled pick.New e h = record { passive = h.passive; unasked = h.unasked }

asleep-settled : (p : Option Pick) (s : Site) → IsAsleep s → IsAsleep (settled p s)
unfolding on_node
asleep-settled None s h u e is = h u e is
asleep-settled (Some p) s h u e is = go (eject_in s u) refl (sym (value-each u (settled_eject p) s.node.ejects) ∙ is)
  where
    go : (o : Option Eject) → eject_in s u ≡ o → option_map (settled_eject p) o ≡ Some e → IsIdle e
    go None at found = absurd (let bad : None ≡ Some e = found in cc bad)
    go (Some x) at found = let same : Some (settled_eject p x) ≡ Some e = found in
        let here : settled_eject p x ≡ e = cc same in subst IsIdle here (idle-settled p x (h u x at))

traffic-settled : (p : Option Pick) (s : Site) → (settled p s).traffic ≡ s.traffic
unfolding on_node
traffic-settled None s = refl
traffic-settled (Some p) s = refl

asleep-booted : (c e : ℕ) (p : Option Pick) (began : Bool) (s : Site) → IsAsleep s → IsAsleep (with_clock c (boot_turn e end.Up p began s))
unfolding on_node
asleep-booted c e p began s h = asleep-settled p s h

traffic-booted : (c e : ℕ) (p : Option Pick) (began : Bool) (s : Site) → (with_clock c (boot_turn e end.Up p began s)).traffic ≡ s.traffic
unfolding on_node
traffic-booted c e p began s = traffic-settled p s

types-settled : (p : Option Pick) (s : Site) → (settled p s).types ≡ s.types
unfolding on_node
types-settled None s = refl
types-settled (Some p) s = refl

types-booted : (c e : ℕ) (p : Option Pick) (began : Bool) (s : Site) → (with_clock c (boot_turn e end.Up p began s)).types ≡ s.types
unfolding on_node
types-booted c e p began s = types-settled p s

epoch-booted : (c e : ℕ) (p : Option Pick) (began : Bool) (s : Site) → stored_epoch (with_clock c (boot_turn e end.Up p began s)).node ≡ e
unfolding on_node
epoch-booted c e p began s = refl

serial-booted : (c e : ℕ) (p : Option Pick) (began : Bool) (s : Site) → (with_clock c (boot_turn e end.Up p began s)).node.last_serial ≡ 0
unfolding on_node
serial-booted c e p began s = refl

-- nor behind a crash
pub asleep-crashed : (c : ℕ) (s : Site) → IsAsleep (with_clock c (crashed s))
unfolding on_node on_traffic
asleep-crashed c s u e is = go (eject_in s u) (sym (value-each u fallen s.node.ejects) ∙ is)
  where
    go : (o : Option Eject) → option_map fallen o ≡ Some e → IsIdle e
    go None found = absurd (let bad : None ≡ Some e = found in cc bad)
    go (Some x) found = let same : Some (fallen x) ≡ Some e = found in
        let here : fallen x ≡ e = cc same in subst IsIdle here (record { passive = refl; unasked = refl })

-- 2. What is held of a passive Eject is what is known of it

abbrev passive_known : Bool → Known
passive_known there = record { active = None; queued = []; there = there }

-- one that stands so, with no queue
held-as : (n : Parts) (u : Uid) (b : Bool) → n.standing u ≡ cond b (Some None) None → n.waiting ≡ [] → held_of n u ≡ passive_known b
held-as n u b is none = ap (λ st. view st n.waiting) is ∙ ap (λ w. view (cond b (Some None) None) w) none ∙ go b
  where
    view : Option (Option Body) → List (Uid × List ℕ) → Known
    view st w = record {
      active = option_map active_of (active_in st);
      queued = queue_of (active_in st) (value_at uid_cmp u w);
      there = is_some st;
    }

    go : (b : Bool) → view (cond b (Some None) None) [] ≡ passive_known b
    go true = refl
    go false = refl

body-as : (n : Parts) (u : Uid) (b : Bool) → n.standing u ≡ cond b (Some None) None → body_at n u ≡ None
body-as n u b is = ap active_in is ∙ go b
  where
    go : (b : Bool) → active_in {A = Body} (cond b (Some None) None) ≡ None
    go true = refl
    go false = refl

or-false : (b : Bool) → (b || false) ≡ b
or-false true = refl
or-false false = refl

-- one of which this is kept, and nothing in doubt
known-as : (o : Option Eject) (body : Option (List ℕ)) → ((e : Eject) → o ≡ Some e → IsIdle e) → facts_of o ≡ (body, None)
    → known o ≡ passive_known (is_some body)
known-as None body idle is = ap (λ (f : Facts). passive_known (is_some f.0)) is
known-as (Some e) body idle is =
    let h = idle e refl in
    let kept : e.kept ≡ body = ap (λ (f : Facts). f.0) is in
    let sure : e.doubt ≡ None = ap (λ (f : Facts). f.1) is in
    seen e.active e.queued e.kept e.doubt h.passive h.unasked kept sure
  where
    seen : (a : Option Active) (ks : List ℕ) (k : Option (List ℕ)) (d : Option EjectChange) → a ≡ None → ks ≡ [] → k ≡ body → d ≡ None
        → ◌≡◌ {A = Known} (record { active = a; queued = ks; there = is_some a || (is_some k || is_some d) }) (passive_known (is_some body))
    seen a ks k d none empty kept sure =
        (λ i. record { active = none i; queued = empty i; there = is_some (none i) || (is_some (kept i) || is_some (sure i)) })
        ∙ ap passive_known (or-false (is_some body))

module _ (k e : ℕ) (n : Parts) (t : Site) (kept : Kept) (number : t.number ≡ k) (types : t.types ≡ n.types) (epoch : stored_epoch t.node
    ≡ e)
    (serial : t.node.last_serial ≡ 0) (m : MapStands k t kept None) (asleep : IsAsleep t) (h : HasNoted n k e kept None) where
  -- how it stands: by what is kept, or not at all
  stood : (u : Uid) → (b : Bool) × (n.standing u ≡ cond b (Some None) None) × (known (eject_in t u) ≡ passive_known b)
  stood u = go (same_uid u (epoch_uid k)) refl
    where
      apart : same_uid u (epoch_uid k) ≡ false → u ≢ epoch_uid k
      apart is same = let bad : true ≡ false = sym (ap is_eq (tied_itself uid_cmp_total (epoch_uid k))) ∙ ap (λ v. same_uid v (epoch_uid
          k)) (sym same) ∙ is
          in cc bad

      reserved : u ≡ epoch_uid k → (o : Option Eject) → eject_in t u ≡ o → known o ≡ passive_known false
      reserved same None is = refl
      reserved same (Some e) is = absurd (m.ordered.not_reserved u (ap is_some is) same)

      go : (b : Bool) → same_uid u (epoch_uid k) ≡ b
          → (b : Bool) × (n.standing u ≡ cond b (Some None) None) × (known (eject_in t u) ≡ passive_known b)
      go true is = let same : u ≡ epoch_uid k = eq-same uid_cmp uid_cmp-IsAntisymmetric u (epoch_uid k) is in
          (false, ap n.standing same ∙ h.reserved, reserved same (eject_in t u) refl)
      go false is = (
        is_some (kept_at kept u),
        h.noted u (apart is) refl,
        known-as (eject_in t u) (kept_at kept u) (asleep u) (m.facts u (apart is)),
      )

  pub booted-stands : StandsFor n t
  booted-stands = record {
    number = number ∙ sym h.number;
    types = types;
    epoch = epoch ∙ sym h.epoch;
    serial = serial ∙ sym h.serial;
    ejects = λ u. let x = stood u in x.2 ∙ sym (held-as n u x.0 x.1 h.waiting);
    classes = λ u. let x = stood u in subst (HasClasses t.traffic) (sym (body-as n u x.0 x.1)) tt;
  }

-- 3. The boot

pub node-boots : (layout : Layout) (ts : TypeList) (k more : ℕ) (s : Site) (old : Told) (before : ℕ) (note : BootNote) (ejects : Ejects)
    (w : Worker) (y : Seen) (m : Mail) → s.types ≡ types_in ts → y.node ≡ k → y.work ≡ Idle → w.requests.items ≡ [] → IsAsleep s →
    Carries m s.traffic
    → HasNoted (parts_of ts ejects) k note.epoch y.kept None → BootsUp layout k more s old before note y
    → NodeBoots layout ts k more s old before note (record { number = k; ejects = ejects; worker = w; seen = y }) m
node-boots layout ts k more s old before note ejects w y m types node idle empty asleep carries noted b = record {
  allowed = b.allowed;
  told = b.told;
  stands = record {
    calls = record {
      parts = booted-stands k note.epoch (parts_of ts ejects) after y.kept b.stands.number
          (types-booted y.disk.counts.clock note.epoch note.pick note.began s ∙ types)
          (epoch-booted y.disk.counts.clock note.epoch note.pick note.began s)
          (serial-booted y.disk.counts.clock note.epoch note.pick note.began s) keeps
          (asleep-booted y.disk.counts.clock note.epoch note.pick note.began s asleep) noted;
      calls = subst (Carries m) (sym (traffic-booted y.disk.counts.clock note.epoch note.pick note.began s)) carries;
    };
    disk = subst (λ qs. StandsNow layout y.node after (requests_of y.work qs) y) (sym empty)
        (subst (λ j. StandsNow layout j after [] y) (sym node) b.stands);
  };
  disk = b.disk;
}
  where
    after : Site
    after = with_clock y.disk.counts.clock (boot_turn note.epoch end.Up note.pick note.began s)

    keeps : MapStands k after y.kept None
    keeps = subst (λ w. MapStands k after y.kept (doubt_in w)) idle b.stands.keeps

-- 4. There was no memory behind the put of the epoch

pub boots-put : (layout : Layout) (k more : ℕ) (s : Site) (old : Told) (before : ℕ) (note : BootNote) (y : Seen) (counts : Counts) (told
    : Told)
    → told ≡ y.disk.told → counts.clock ≡ y.disk.counts.clock → BootsUp layout k more s old before note y
    → BootsPut layout k more s old before note told counts.clock
boots-put layout k more s old before note y counts told same clock b = record {
  timed = subst (λ c. Timed before old c told) (sym clock) (subst (λ t. Timed before old y.disk.counts.clock t) (sym same) b.disk.timed);
  moments = subst (λ t. EachMoment (Stands layout k (with_changes (put_after k s note.pick) (state_of k s.node))) old t) (sym same)
      b.disk.moments;
  room = subst (KeepsRoom layout k more) (sym same) (kept-room layout k more y.more y.kept _ y.disk.told b.told b.stands.stands);
}
