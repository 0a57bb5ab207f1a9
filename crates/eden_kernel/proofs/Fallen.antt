-- A node that goes down, and one whose processes are told that their calls broke elsewhere.
use Rattle.std.proofs.Common.{◌≡◌, ℕ, refl, sym, subst}
use Rattle.capability.specs.declared.Uid.{Uid}
use Rattle.epl_syntax.specs.Rules.OfTypes.{TypeList}
use Rattle.invocation.specs.Mail.{Mail}
use Rattle.invocation.specs.Carries.{Carries}
use Rattle.passive_store.specs.Kept.{Layout, Work}
use Rattle.passive_store.specs.Seen.{Seen}
use Rattle.journal.specs.World.{Site, on_eject}
use Rattle.checkpoint.specs.Asked.{StandsNow, requests_of}
use Rattle.checkpoint.specs.declared.worker.Request.{Request}
use Rattle.checkpoint.specs.declared.worker.Worker.{Worker}
use Rattle.checkpoint.proofs.Dropped.{stands-same}
use Rattle.checkpoint.proofs.Shifts.{shift-tells}
use Rattle.std.specs.Prelude.{List, []}
use Rattle.eden_value.specs.declared.status.Status.TheVariants as status
use Rattle.epl_syntax.specs.declared.effect.Answer.TheVariants.{Reply as Answered}
use Rattle.ejects.specs.Parts.{Stands}
use Rattle.ejects.specs.View.{parts_of}
use Rattle.ejects.specs.declared.Ejects.{Ejects}
use Rattle.eden_kernel.specs.Stands.{NodeStands}
use Rattle.eden_kernel.specs.Turns.{told_broken}

told-traffic : (u : Uid) (p : ℕ) (s : Site) → (told_broken u p s).traffic ≡ s.traffic
unfolding on_eject
told-traffic u p s = refl

pub broken-stands : (layout : Layout) (ts : TypeList) (k : ℕ) (x : Seen) (old new : Ejects) (w : Worker) (m : Mail) (u : Uid) (p : ℕ)
    (s : Site) → NodeStands layout ts (record { number = k; ejects = old; worker = w; seen = x }) m s
    → Stands (parts_of ts new) (told_broken u p s)
    → NodeStands layout ts (record { number = k; ejects = new; worker = w; seen = x }) m (told_broken u p s)
broken-stands layout ts k x old new w m u p s h stands = record {
  calls = record { parts = stands; calls = subst (Carries m) (sym (told-traffic u p s)) h.calls.calls };
  disk = stands-same layout x.node s (told_broken u p s) (requests_of x.work w.requests.items) x
      (shift-tells u p (Answered status.Broken []) s) h.disk;
}

-- the requests by a store that works on the same
pub same-requests : (layout : Layout) (n : ℕ) (s : Site) (old new : Work) (qs : List Request) (x : Seen) → new ≡ old
    → StandsNow layout n s (requests_of old qs) x → StandsNow layout n s (requests_of new qs) x
same-requests layout n s old new qs x same h = subst (λ w. StandsNow layout n s (requests_of w qs) x) (sym same) h
