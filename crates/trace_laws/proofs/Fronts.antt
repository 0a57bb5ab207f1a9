-- A trace that begins as a history does has a legal text with those lines.
use Rattle.std.proofs.Common.{◌≡◌, ◌≤◌, ℕ, zero, suc, List, [], ◌∷◌, ◌++◌, length, take, refl, sym, ◌∙◌, ap, arith, append_assoc}
use Rattle.std.specs.List.{All}
use Rattle.passive_store.specs.Kept.{Layout}
use Rattle.passive_store.specs.Layout.{IsLayout}
use Rattle.journal.specs.declared.command.Script.{Script}
use Rattle.journal.specs.declared.event.Entry.{Entry}
use Rattle.journal.specs.declared.event.Mode.TheVariants.{Full}
use Rattle.journal.specs.Lines.{entry_text, text_of}
use Rattle.journal.specs.Fit.{IsFit}
use Rattle.journal.specs.Standing.{DiskRun}
use Rattle.journal.specs.LegalRun.{AreHandedIn, opening_world}
use Rattle.journal.specs.Laws.{Begins}
use Rattle.trace_laws.specs.Determined.{HasClocks}
use Rattle.trace_laws.specs.Endings.{NodesMayBoot}
use Rattle.trace_laws.specs.Verdict.{lines_of, BeginsAs, HasFront}
use Rattle.trace_laws.proofs.ClosedTexts.{lines-append, closed-history}
use Rattle.trace_laws.proofs.RunsEnd.{beginnings-have-endings}

pub text-append : (h more : List Entry) → text_of Full (h ++ more) ≡ text_of Full h ++ text_of Full more
text-append [] more = refl
text-append (e ∷ es) more = ap (λ t. entry_text Full e ++ t) (text-append es more)
    ∙ sym (append_assoc (entry_text Full e) (text_of Full es) (text_of Full more))

pub take-front : {X : Type 0} (k : ℕ) (xs ys : List X) → k ≤ length xs → take k (xs ++ ys) ≡ take k xs
take-front zero xs ys h = refl
take-front (suc k) [] ys h = absurd (omega (arith, h))
take-front (suc k) (x ∷ xs) ys h = ap (λ l. x ∷ l) (take-front k xs ys (omega (arith, h)))

pub has-front : (layout : Layout) (script : Script) (disks : List DiskRun) (history : List Entry) (trace : List ℕ) (k : ℕ) → IsLayout layout
    → AreHandedIn layout disks → IsFit script → NodesMayBoot (opening_world layout script disks) script
    → Begins layout script disks history → All HasClocks history → k ≤ length (lines_of (text_of Full history))
    → BeginsAs trace k (text_of Full history) → HasFront (opening_world layout script disks) script trace k
has-front layout script disks history trace k lays handed fit boot begins clocks few as_trace =
    let r = beginnings-have-endings layout script disks history lays handed fit boot begins clocks in
    let whole : lines_of (text_of Full (history ++ r.more)) ≡ lines_of (text_of Full history) ++ lines_of (text_of Full r.more)
    = ap lines_of (text-append history r.more) ∙ lines-append (text_of Full history) (text_of Full r.more) (closed-history history) in
    record {
      text = text_of Full (history ++ r.more);
      legal = record { history = history ++ r.more; follows = r.follows; clocks = r.clocks; is_text = refl };
      begins = record {
        many = as_trace.many;
        same = ap (λ l. take k l) whole
            ∙ (take-front k (lines_of (text_of Full history)) (lines_of (text_of Full r.more)) few ∙ as_trace.same);
      };
    }
