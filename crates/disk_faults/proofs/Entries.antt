-- What an entry shows of a disk on which it is, and of every other.
use Rattle.std.proofs.Common.{◌≡◌, ◌⊎◌, inl, inr, ℕ, ◌==◌, ◌≤◌, Bool, true, false, cond, List, [], ◌∷◌, ◌++◌, refl, sym, ap}
use Rattle.std.proofs.Common.{subst, ◌∙◌}
use Rattle.std.proofs.Common.{arith}
use Rattle.std.proofs.lemmas.Bool.{eq-eqb, eqb-true}
use Rattle.std.specs.Prelude.{IsTrue}
use Rattle.eden_disk.specs.Calls.{Due, armed}
use Rattle.passive_store.specs.Seen.{DiskSeen}
use Rattle.journal.specs.declared.event.BootEnd.TheVariants as boot_end
use Rattle.journal.specs.declared.event.StartEnd.TheVariants as start_end
use Rattle.journal.specs.declared.event.RequestEnd.TheVariants as request_end
use Rattle.journal.specs.declared.event.Entry.{Entry}
use Rattle.journal.specs.declared.event.Event.{Event}
use Rattle.journal.specs.declared.event.Event.TheVariants as event
use Rattle.journal.specs.Faults.{makes_no_call, shows_fault, shows_stop}
use Rattle.journal.specs.Run.{Step}
use Rattle.disk_faults.specs.Shows.{ShowsCounts, count_behind, due_behind}
use Rattle.disk_faults.specs.Runs.{EntryShows, RunShows}
use Rattle.disk_faults.specs.Elsewhere.{shown_of}

-- 1. An event of another node shows nothing of the disk

no-fault : (n : ℕ) (v : Event) → (shown_of v == n) ≡ false → shows_fault n v ≡ false
no-fault n (event.Boot m e boot_end.Up p began) other = refl
no-fault n (event.Boot m e boot_end.DiskFault p began) other = other
no-fault n (event.Boot m e boot_end.Stop p began) other = refl
no-fault n (event.Boot m e (boot_end.Damaged place) p began) other = refl
no-fault n (event.Boot m e boot_end.EpochsSpent p began) other = refl
no-fault n (event.Boot m e boot_end.Full p began) other = refl
no-fault n (event.Activate u start_end.Ok p) other = refl
no-fault n (event.Activate u start_end.Gone p) other = refl
no-fault n (event.Activate u start_end.Fault p) other = other
no-fault n (event.Activate u start_end.Damaged p) other = refl
no-fault n (event.Activate u start_end.Stop p) other = refl
no-fault n (event.Store u c request_end.Part p) other = refl
no-fault n (event.Store u c request_end.Done p) other = refl
no-fault n (event.Store u c request_end.Fault p) other = other
no-fault n (event.Store u c request_end.Full p) other = refl
no-fault n (event.Store u c request_end.Stop p) other = refl
no-fault n (event.Armed m what) other = refl
no-fault n (event.Crash m) other = refl
no-fault n (event.Still m up) other = refl
no-fault n (event.Link a b joined) other = refl
no-fault n (event.Made name status uid) other = refl
no-fault n (event.Bound name held) other = refl
no-fault n (event.Void name) other = refl
no-fault n (event.Asked k name at_once) other = refl
no-fault n (event.Request k a b refused) other = refl
no-fault n (event.Reply k a b name status results) other = refl
no-fault n (event.Start k u p) other = refl
no-fault n (event.Process u p said) other = refl
no-fault n event.Quiet other = refl
no-fault n event.Spent other = refl
no-fault n (event.Left names) other = refl

no-stop : (n : ℕ) (v : Event) → (shown_of v == n) ≡ false → shows_stop n v ≡ false
no-stop n (event.Boot m e boot_end.Up p began) other = refl
no-stop n (event.Boot m e boot_end.DiskFault p began) other = refl
no-stop n (event.Boot m e boot_end.Stop p began) other = other
no-stop n (event.Boot m e (boot_end.Damaged place) p began) other = refl
no-stop n (event.Boot m e boot_end.EpochsSpent p began) other = refl
no-stop n (event.Boot m e boot_end.Full p began) other = refl
no-stop n (event.Activate u start_end.Ok p) other = refl
no-stop n (event.Activate u start_end.Gone p) other = refl
no-stop n (event.Activate u start_end.Fault p) other = refl
no-stop n (event.Activate u start_end.Damaged p) other = refl
no-stop n (event.Activate u start_end.Stop p) other = other
no-stop n (event.Store u c request_end.Part p) other = refl
no-stop n (event.Store u c request_end.Done p) other = refl
no-stop n (event.Store u c request_end.Fault p) other = refl
no-stop n (event.Store u c request_end.Full p) other = refl
no-stop n (event.Store u c request_end.Stop p) other = other
no-stop n (event.Armed m what) other = refl
no-stop n (event.Crash m) other = refl
no-stop n (event.Still m up) other = refl
no-stop n (event.Link a b joined) other = refl
no-stop n (event.Made name status uid) other = refl
no-stop n (event.Bound name held) other = refl
no-stop n (event.Void name) other = refl
no-stop n (event.Asked k name at_once) other = refl
no-stop n (event.Request k a b refused) other = refl
no-stop n (event.Reply k a b name status results) other = refl
no-stop n (event.Start k u p) other = refl
no-stop n (event.Process u p said) other = refl
no-stop n event.Quiet other = refl
no-stop n event.Spent other = refl
no-stop n (event.Left names) other = refl

no-standing : (n : ℕ) (v : Event) → (shown_of v == n) ≡ false → makes_no_call n v ≡ false
no-standing n (event.Boot m e how p began) other = refl
no-standing n (event.Activate u how p) other = refl
no-standing n (event.Store u c how p) other = refl
no-standing n (event.Crash m) other = other
no-standing n (event.Still m up) other = refl
no-standing n (event.Link a b joined) other = refl
no-standing n (event.Made name status uid) other = refl
no-standing n (event.Bound name held) other = refl
no-standing n (event.Void name) other = refl
no-standing n (event.Asked k name at_once) other = refl
no-standing n (event.Request k a b refused) other = refl
no-standing n (event.Reply k a b name status results) other = refl
no-standing n (event.Start k u p) other = refl
no-standing n (event.Process u p said) other = refl
no-standing n event.Quiet other = refl
no-standing n event.Spent other = refl
no-standing n (event.Left names) other = refl
no-standing n (event.Armed m what) other = other

still-due : (n : ℕ) (v : Event) (clock : ℕ) (due : Due) → (shown_of v == n) ≡ false → due_behind n v clock due ≡ due
still-due n (event.Boot m e how p began) clock due other = refl
still-due n (event.Activate u how p) clock due other = refl
still-due n (event.Store u c how p) clock due other = refl
still-due n (event.Crash m) clock due other = refl
still-due n (event.Still m up) clock due other = refl
still-due n (event.Link a b joined) clock due other = refl
still-due n (event.Made name status uid) clock due other = refl
still-due n (event.Bound name held) clock due other = refl
still-due n (event.Void name) clock due other = refl
still-due n (event.Asked k name at_once) clock due other = refl
still-due n (event.Request k a b refused) clock due other = refl
still-due n (event.Reply k a b name status results) clock due other = refl
still-due n (event.Start k u p) clock due other = refl
still-due n (event.Process u p said) clock due other = refl
still-due n event.Quiet clock due other = refl
still-due n event.Spent clock due other = refl
still-due n (event.Left names) clock due other = refl
still-due n (event.Armed m what) clock due other = ap (λ b. cond b (armed what clock due) due) other

pub shows-nothing : (obeys : Bool) (n : ℕ) (v : Event) (d : DiskSeen) → (shown_of v == n) ≡ false → ShowsCounts obeys n v d d
shows-nothing obeys n v d other = record {
  faults = ap (λ b. count_behind b d.counts.faults) (sym (no-fault n v other));
  stops = ap (λ b. count_behind b d.counts.stops) (sym (no-stop n v other));
  clock = omega arith;
  wants = omega arith;
  due = λ does. sym (still-due n v d.counts.clock d.due other);
  fault_due = λ does t shown. absurd (let bad : false ≡ true = sym (no-fault n v other) ∙ shown in cc bad);
  stop_due = λ does t shown. absurd (let bad : false ≡ true = sym (no-stop n v other) ∙ shown in cc bad);
}

-- 2. Entries

-- of another node, and on no disk or another one
pub entry-elsewhere : (obeys : Bool) (n : ℕ) (e : Entry) (d : DiskSeen) → (shown_of e.event == n) ≡ false → (e.node == n) ≡ false
    → EntryShows obeys n e d d
entry-elsewhere obeys n e d other there = record {
  shows = shows-nothing obeys n e.event d other;
  shown = λ here. absurd (let bad : false ≡ true = sym there ∙ here in cc bad);
  elsewhere = λ same. refl;
  counted = λ arming. absurd (let bad : false ≡ true = sym (no-standing n e.event other) ∙ arming in cc bad);
}

-- of this node: on its disk, or on none and without a device call
pub entry-here : (obeys : Bool) (n : ℕ) (e : Entry) (old new : DiskSeen) → 1 ≤ n → ShowsCounts obeys n e.event old new
    → ((e.node ≡ n) × (e.clock ≡ new.counts.clock)) ⊎ ((e.node ≡ 0) × (new.counts.clock ≡ old.counts.clock))
    → (IsTrue (makes_no_call n e.event) → e.clock ≡ old.counts.clock) → EntryShows obeys n e old new
entry-here obeys n e old new some shows (inl on) counted = record {
  shows = shows;
  shown = λ here. on.1;
  elsewhere = λ there. absurd (let bad : true ≡ false = sym (eq-eqb e.node n on.0) ∙ there in cc bad);
  counted = counted;
}
entry-here obeys n e old new some shows (inr off) counted = record {
  shows = shows;
  shown = λ here. absurd (let same : e.node ≡ n = eqb-true e.node n here in let none : e.node ≡ 0 = off.0 in omega
      (arith, some, same, none));
  elsewhere = λ there. off.1;
  counted = counted;
}

-- one more entry of a run
pub shows-more : (obeys : Bool) (n : ℕ) (run : List Step) (s : Step) (old mid new : DiskSeen) → RunShows obeys n run old mid
    → EntryShows obeys n s.entry mid new → RunShows obeys n (run ++ s ∷ []) old new
shows-more obeys n [] s old mid new r e = (new, subst (λ (d : DiskSeen). EntryShows obeys n s.entry d new) r e, refl)
shows-more obeys n (t ∷ run) s old mid new (between, first, rest) e = (between, first, shows-more obeys n run s between mid new rest e)
