-- The agenda stands behind each turn, once the Ejects are noted that it was about.
use Rattle.std.proofs.Common.{◌≡◌, ◌≤◌, ◌+◌, ℕ, Bool, false, [], Option, None, Some, Result, Ok, Err, refl, sym, ◌∙◌, subst}
use Rattle.std.specs.Prelude.{◌↔◌, IsTrue}
use Rattle.capability.specs.declared.Uid.{Uid}
use Rattle.eden_disk.specs.Told.{Told}
use Rattle.eden_value.specs.declared.status.Status.{Status}
use Rattle.eden_value.specs.declared.status.Status.TheVariants as status
use Rattle.epl_syntax.specs.Edentype.{Edentype}
use Rattle.epl_syntax.specs.Meaning.{first_values}
use Rattle.epl_syntax.specs.Rules.OfTypes.{TypeList}
use Rattle.epl_syntax.specs.declared.effect.Answer.TheVariants.{Reply as Answered}
use Rattle.invocation.specs.Mail.{Mail}
use Rattle.passive_store.specs.Kept.{Layout}
use Rattle.journal.specs.declared.event.BootEnd.TheVariants as boot_end
use Rattle.journal.specs.declared.event.Event.{Event}
use Rattle.journal.specs.Boots.{boot_turn}
use Rattle.journal.specs.Ejects.{fresh, told, on_active}
use Rattle.journal.specs.World.{Eject, Site, eject_in, on_node}
use Rattle.journal.specs.Sites.{IsSoundSite}
use Rattle.journal.specs.Step.{AllowsAt}
use Rattle.history_laws.proofs.Frame.{traffic-on_eject}
use Rattle.checkpoint.specs.Turns.{with_clock}
use Rattle.checkpoint.specs.declared.up.BootNote.{BootNote}
use Rattle.ejects.specs.Creations.{born_as}
use Rattle.ejects.specs.Parts.{Parts}
use Rattle.ejects.specs.View.{parts_of}
use Rattle.ejects.specs.declared.Ejects.{Ejects}
use Rattle.agenda.specs.Keys.{Indices, IsAgenda}
use Rattle.agenda.specs.Marks.{MayBut}
use Rattle.eden_kernel.specs.Boots.{IsAsleep, NodeBoots}
use Rattle.eden_kernel.specs.Creations.{NodeCreates}
use Rattle.checkpoint.specs.Room.{KeepsRoom}
use Rattle.checkpoint.proofs.Rooms.{kept-room}
use Rattle.eden_kernel.specs.DiskTurns.{EndsTurn, IsWholeBehind, Starves}
use Rattle.eden_kernel.specs.Stands.{Held, IsWhole, NodeStands}
use Rattle.eden_kernel.specs.Turns.{Turns, clock_of, told_broken}
use Rattle.eden_kernel.specs.declared.stores.TurnEnd.{TurnEnd}
use Rattle.eden_kernel.specs.declared.stores.TurnEnd.TheVariants.{Up, Down}
use Rattle.scheduled_node.specs.Others.{deciding, concerned, created_in, is_either}
use Rattle.scheduled_node.specs.Scheduled.{Manned, ScheduledStands, ScheduledTurns, EndsScheduledTurn, ScheduledCreates, uid_made}
use Rattle.scheduled_node.proofs.Deciding.{may-but, keeps-same, none-may, stays-agenda}
use Rattle.scheduled_node.proofs.Others.{same-here, same-clock, same-tells, same-born, same-boot}
use Rattle.scheduled_node.proofs.Turning.{turn-but, hit-one}

-- these Ejects are noted, as the node has them
abbrev pub Notes : Indices → Indices → (Uid → Bool) → Ejects → Type 0
Notes a b those x = (ts : TypeList) (n : Parts) → IsAgenda a n → MayBut those n (parts_of ts x) → IsAgenda b (parts_of ts x)

module _ (layout : Layout) (ts : TypeList) (old new : Held) (a b : Indices) (m : Mail) where
  abbrev before : Manned
  before = record { node = old; agenda = a }

  abbrev behind : Manned
  behind = record { node = new; agenda = b }

  -- 1. Turns

  pub scheduled-turns : (later : Mail) (reach : ℕ → Bool) (s : Site) (e : Event) (x : Ejects) → x ≡ new.ejects → IsSoundSite s
      → ScheduledStands layout ts before m s → Turns layout ts new later reach old s e
      → Notes a b (is_either (concerned later e) (created_in e)) x → ScheduledTurns layout ts behind later reach before s e
  scheduled-turns later reach s e x same sound h turn noted = record {
    turn = turn;
    agenda = subst (Notes a b (is_either (concerned later e) (created_in e))) same noted ts (parts_of ts old.ejects) h.agenda
        (turn-but layout ts old new m later reach s e sound h.node turn);
  }

  pub scheduled-ends : (how : TurnEnd) (later : Mail) (reach : ℕ → Bool) (s : Site) (e : Event) (x : Ejects) → x ≡ new.ejects
      → IsSoundSite s
      → ScheduledStands layout ts before m s → EndsTurn how layout ts new later reach old s e
      → (how ≡ Up → Notes a b (is_either (concerned later e) (created_in e)) x)
      → EndsScheduledTurn how layout ts behind later reach before s e
  scheduled-ends Up later reach s e x same sound h turn noted = scheduled-turns later reach s e x same sound h turn (noted refl)
  scheduled-ends Down later reach s e x same sound h turn noted = turn

  -- 2. Calls that broke elsewhere, and disks that are armed

  pub scheduled-told : (u : Uid) (p : ℕ) (s : Site) (x : Ejects) → x ≡ new.ejects → ScheduledStands layout ts before m s
      → NodeStands layout ts new m (told_broken u p s) → Notes a b (is_either (Some u) None) x
      → ScheduledStands layout ts behind m (told_broken u p s)
  scheduled-told u p s x same h stands noted = record {
    node = stands;
    agenda = subst (Notes a b (is_either (Some u) None)) same noted ts (parts_of ts old.ejects) h.agenda
        (may-but (is_either (Some u) None) (parts_of ts old.ejects) (parts_of ts new.ejects) s (told_broken u p s) h.node.calls.parts
        stands.calls.parts (same-tells (is_either (Some u) None) u p (Answered status.Broken []) s (hit-one (Some u) None u refl))
        (keeps-same s.traffic (told_broken u p s).traffic (traffic-on_eject u (on_active (told p (Answered status.Broken []))) s)));
  }

  pub scheduled-armed : (s : Site) → ScheduledStands layout ts before m s → NodeStands layout ts new m s
      → ScheduledStands layout ts (record { node = new; agenda = a }) m s
  scheduled-armed s h stands = record {
    node = stands;
    agenda = stays-agenda a (parts_of ts old.ejects) (parts_of ts new.ejects)
        (may-but (λ v. false) (parts_of ts old.ejects) (parts_of ts new.ejects) s s h.node.calls.parts stands.calls.parts
        (same-here (λ v. false) s) (keeps-same s.traffic s.traffic refl)) h.agenda;
  }

  -- 3. Creations

  born-traffic : (u : Uid) (t : Edentype) (s : Site) → (born_as (Ok u) t s).traffic ≡ s.traffic
  unfolding on_node
  born-traffic u t s = refl

  pub scheduled-creates : (t : Edentype) (made : Result Uid Status) (s : Site) (x : Ejects) → x ≡ new.ejects
      → ScheduledStands layout ts before m s → NodeCreates layout ts old new m t made s → Notes a b (is_either (uid_made made) None) x
      → ScheduledCreates layout ts before behind m t made s
  scheduled-creates t made s x same h creation noted = record {
    creation = creation;
    agenda = subst (Notes a b (is_either (uid_made made) None)) same noted ts (parts_of ts old.ejects) h.agenda
        (go made creation.stands);
  }
    where
      go : (made : Result Uid Status) → NodeStands layout ts new m (born_as made t s)
          → MayBut (is_either (uid_made made) None) (parts_of ts old.ejects) (parts_of ts new.ejects)
      go (Ok u) stands = may-but (is_either (Some u) None) (parts_of ts old.ejects) (parts_of ts new.ejects) s (born_as (Ok u) t s)
          h.node.calls.parts stands.calls.parts
          (same-born (is_either (Some u) None) u (fresh t (first_values t)) s (hit-one (Some u) None u refl))
          (keeps-same s.traffic (born_as (Ok u) t s).traffic (born-traffic u t s))
      go (Err why) stands = may-but (is_either None None) (parts_of ts old.ejects) (parts_of ts new.ejects) s s
          h.node.calls.parts stands.calls.parts (same-here (is_either None None) s) (keeps-same s.traffic s.traffic refl)

-- 4. Boots

pub scheduled-boots : (layout : Layout) (ts : TypeList) (k more : ℕ) (s : Site) (old : Told) (before : ℕ) (note : BootNote) (new : Held)
    (m : Mail) → IsAsleep s → NodeBoots layout ts k more s old before note new m
    → IsAgenda (record { wake = []; start = []; run = [] }) (parts_of ts new.ejects)
scheduled-boots layout ts k more s old before note new m asleep boots =
    let up : Site = boot_turn note.epoch boot_end.Up note.pick note.began s in
    none-may (parts_of ts new.ejects) (with_clock (clock_of new) up) boots.stands.calls.parts (λ v.
    (same-clock (λ v. false) (clock_of new) s up (same-boot (λ v. false) note.epoch boot_end.Up note.pick note.began s)).at v refl
    ∙ idle v (eject_in s v) refl)
  where
    idle : (v : Uid) (o : Option Eject) → eject_in s v ≡ o → deciding o ≡ deciding None
    idle v None is = refl
    idle v (Some e) is = let h = asleep v e is in rw (h.passive, h.unasked) refl

-- 5. What the node tells of its store

pub same-truth : (a b : Bool) → a ≡ b → IsTrue a ↔ IsTrue b
same-truth a b same = (subst IsTrue same, subst IsTrue (sym same))

-- 6. A turn is allowed, whichever way it ends

pub allowed-by : (how : TurnEnd) (layout : Layout) (ts : TypeList) (new : Held) (later : Mail) (reach : ℕ → Bool) (old : Held) (s : Site)
    (e : Event) → EndsTurn how layout ts new later reach old s e → AllowsAt s e
allowed-by Up layout ts new later reach old s e turn = turn.allowed
allowed-by Down layout ts new later reach old s e turn = turn.allowed

-- 7. There was no memory to note it

pub starves-behind : (how : TurnEnd) (layout : Layout) (ts : TypeList) (new : Held) (later : Mail) (reach : ℕ → Bool) (old : Held)
    (s : Site)
    (e : Event) → IsWholeBehind how new → IsWhole old → new.number ≡ old.number → old.seen.more ≤ new.seen.more + 1
    → EndsTurn how layout ts new later reach old s e → Starves layout s old.seen new.seen
starves-behind Up layout ts new later reach old s e whole was number enough turn = record {
  timed = turn.disk.timed;
  moments = turn.disk.moments;
  room = subst (λ n. KeepsRoom layout n old.seen.more new.seen.disk.told) (sym whole.number ∙ number ∙ was.number)
      (kept-room layout new.seen.node old.seen.more new.seen.more new.seen.kept _ new.seen.disk.told enough turn.stands.disk.stands);
}
starves-behind Down layout ts new later reach old s e whole was number enough turn = record {
  timed = turn.falls.disk.timed;
  moments = turn.falls.disk.moments;
  room = kept-room layout old.seen.node old.seen.more new.seen.more turn.falls.rests.kept _ new.seen.disk.told enough
      turn.falls.rests.stands;
}
