-- What is known of a stage around an entry, where its Opens name the stage before, and what that hands out is of its items.
use Rattle.std.proofs.Common.{◌≡◌, ℕ, ℤ, Bool, true, false, cond, List, [], map, Option, Some}
use Rattle.std.proofs.Common.{refl, sym, subst}
use Rattle.std.specs.Prelude.{codes}
use Rattle.capability.specs.declared.Uid.{Uid}
use Rattle.eden_value.specs.Datum.{Datum, text}
use Rattle.eden_value.specs.declared.status.Status.{Status}
use Rattle.eden_model.specs.Map.{same_text}
use Rattle.eden_model.specs.Traffic.{Traffic, Call, answered, call_at}
use Rattle.epl_syntax.specs.declared.effect.Answer.TheVariants.{Go, Reply as Told}
use Rattle.epl_syntax.specs.declared.types.Native.TheVariants as native
use Rattle.epl_syntax.specs.Natives.{first_stage, in_filter, in_sink, in_lines}
use Rattle.epl_syntax.specs.Simple.{argument, number_in, cap_in, items_in}
use Rattle.epl_syntax.specs.Streams.{Came, an_item, the_end, nothing, came}
use Rattle.epl_syntax.specs.Filters as filters
use Rattle.epl_syntax.specs.Sink as sink
use Rattle.epl_syntax.specs.Lines as lines
use Rattle.epl_syntax.specs.Pipelines.{Sieve, takes, skips, keeps, numbers, sifted, argument_of}
use Rattle.stream_laws.specs.Chains.{type_of_sieve, OpensSo}
use Rattle.stream_laws.proofs.Items.{IsOf, HasText, same-texts}
use Rattle.epl_syntax.specs.declared.effect.Effect.TheVariants as effect
use Rattle.epl_syntax.specs.Edentype.{native as native_type}
use Rattle.epl_syntax.specs.Meaning.{Turned, type_of, name_of}
use Rattle.journal.specs.declared.command.Command.{Command}
use Rattle.journal.specs.declared.event.Event.{Event}
use Rattle.journal.specs.declared.event.Event.TheVariants as event
use Rattle.journal.specs.declared.event.Shown.{Shown}
use Rattle.journal.specs.declared.event.Shown.TheVariants as shown
use Rattle.journal.specs.World.{World, Eject, Active, eject_at}
use Rattle.journal.specs.Processes.{turn_of}
use Rattle.journal.specs.Commands.{type_name_of}
use Rattle.history_laws.proofs.SiteRuns.{SiteWorld}
use Rattle.stream_laws.specs.Chains.{OpensOnly}
use Rattle.stream_laws.proofs.LinesTurns as of_lines
use Rattle.stream_laws.proofs.Roles.{Role, IsLawful, FilterTask, SinkTask, LinesTask, filter_role, sink_role, lines_role, filter-lawful}
use Rattle.stream_laws.proofs.Roles.{sink-lawful, lines-lawful}
use Rattle.stream_laws.proofs.Stage.{ReadsBack}
use Rattle.stream_laws.proofs.StagedNodes.{kept_now, active_now, Around}
use Rattle.stream_laws.proofs.Staged.{Staged}

abbrev pub position : List Datum → ℤ
position args = number_in (argument 0 args)

-- 1. What begins
pub filter-first : (s : Sieve) (op : List ℕ) (args : List Datum) → first_stage (type_of_sieve s) op args ≡ in_filter
    (filters.first_stage op args)
filter-first (takes n) op args = refl
filter-first (skips n) op args = refl
filter-first (keeps t) op args = refl
filter-first numbers op args = refl

pub filter-begins : (before : Uid) (s : Sieve) (items : List (List ℕ)) (vars : List Datum) (c : Call)
    → (c.operation ≡ codes "Open" → OpensSo before (argument_of s) c)
    → FilterTask before s items vars c.args (first_stage (type_of_sieve s) c.operation c.args) Go
filter-begins before s items vars c opens = subst (λ st. FilterTask before s items vars c.args st Go)
    (sym (filter-first s c.operation c.args))
    (go (same_text c.operation (codes "Open")) refl)
  where
    go : (b : Bool) → same_text c.operation (codes "Open") ≡ b
        → FilterTask before s items vars c.args (in_filter (cond b (filters.opens c.args) (filters.transfers (position c.args)))) Go
    go true is = (λ named names. opens (same-texts c.operation (codes "Open") is) named names, tt)
    go false is = (refl, tt)

pub sink-begins : (before : Uid) (items : List (List ℕ)) (vars : List Datum) (c : Call) → (c.operation ≡ codes "Open" → OpensSo before [] c)
    → SinkTask before items vars c.args (first_stage native.Sink c.operation c.args) Go
sink-begins before items vars c opens = go (same_text c.operation (codes "Open")) (same_text c.operation (codes "Pump")) refl
  where
    go : (a b : Bool) → same_text c.operation (codes "Open") ≡ a → SinkTask before items vars c.args
        (in_sink (cond a (sink.opens (cap_in (argument 0 c.args))) (cond b (sink.pumps (number_in (argument 0 c.args))) sink.reads))) Go
    go true b is = (λ named names. (opens (same-texts c.operation (codes "Open") is) named names).0, tt)
    go false true is = (tt, tt)
    go false false is = (tt, tt)

-- of a Lines: what it is filled with is the list, where it is not filled
pub lines-begins : (texts : List (List ℕ)) (vars : List Datum) (c : Call)
    → (c.operation ≡ codes "Fill" → (lines.source vars).filled ≡ false → items_in (argument 0 c.args) ≡ map text texts)
    → LinesTask texts vars c.args (first_stage native.Lines c.operation c.args) Go
lines-begins texts vars c fills = go (same_text c.operation (codes "Fill")) refl
  where
    go : (a : Bool) → same_text c.operation (codes "Fill") ≡ a → LinesTask texts vars c.args
        (in_lines (cond a (lines.fills (items_in (argument 0 c.args))) (lines.transfers (position c.args)))) Go
    go true is = λ empty. fills (same-texts c.operation (codes "Fill") is) empty
    go false is = refl

-- 2. What a stage hands out comes to the stage behind it
pub record HandsOver (t : Traffic) (before : Uid) (items : List (List ℕ)) (A : ℕ → List Datum) : Type 0 where
  pub at : (k : ℕ) (c : Call) (st : Status) (results : List Datum) → call_at t k ≡ Some c → c.target.uid ≡ before
      → c.place ≡ answered st results → IsOf items (position (A k)) (came (Told st results)) × HasText results

-- 3. Around an entry: a filter, a Sink
-- what is known of any stage
pub record Given (R : Role) (L : IsLawful R) (u : Uid) (A : ℕ → List Datum) (H : ℕ → Bool) (w : World) (c : Option Command)
    (ev : Event) : Type 0 where
  pub site : SiteWorld H w
  pub known : type_of w.types (name_of (native_type R.kind)) ≡ Some (native_type R.kind)
  pub back : (p : ℕ) (said : Shown) (it : Active) (t : Turned) → ev ≡ event.Process u p said → active_now w u ≡ Some it
      → turn_of u it p ≡ Some t → ReadsBack R u A (kept_now w u) L t
  pub made_so : (x : Command) (name : List ℕ) (why : Status) → c ≡ Some x → ev ≡ event.Made name why (Some u)
      → type_of w.types (type_name_of x) ≡ Some (native_type R.kind)
  pub created_so : (v : Uid) (p : ℕ) (said : Shown) (e : Eject) (it : Active) (t : Turned) (name : List ℕ)
      → ev ≡ event.Process v p said → eject_at w v ≡ Some e → e.active ≡ Some it → turn_of v it p ≡ Some t
      → t.effect ≡ effect.Create name → said ≡ shown.Created u → type_of w.types name ≡ Some (native_type R.kind)
  -- the arguments of a call are those that it has at the end
  pub args : (k : ℕ) (x : Call) → call_at w.traffic k ≡ Some x → x.args ≡ A k

pub around-filter : (before : Uid) (s : Sieve) (items : List (List ℕ)) (u : Uid) (A : ℕ → List Datum) (H : ℕ → Bool) (w : World)
    (c : Option Command) (ev : Event) → Given (filter_role before s items) (filter-lawful before s items) u A H w c ev
    → HandsOver w.traffic before items A → OpensOnly w.traffic u before (argument_of s)
    → Around (filter_role before s items) (filter-lawful before s items) u A H w c ev
around-filter before s items u A H w c ev g hands opens = record {
  site = g.site;
  known = g.known;
  turns = λ p said is. tt;
  wakes = λ how p is. tt;
  is_born = λ none. tt;
  back = g.back;
  made_so = g.made_so;
  created_so = g.created_so;
  comes = λ vars k x p st results at opened asker place asks. (hands.at k x st results at asks.of_before place).0;
  begins = λ k p x it is at to active vars. subst (λ args. FilterTask before s items it.vars args
      (first_stage (type_of_sieve s) x.operation x.args) Go) (g.args k x at) (filter-begins before s items it.vars x
      (λ op. opens k x at to op));
}

pub around-sink : (before : Uid) (items : List (List ℕ)) (u : Uid) (A : ℕ → List Datum) (H : ℕ → Bool) (w : World)
    (c : Option Command) (ev : Event) → Given (sink_role before items) (sink-lawful before items) u A H w c ev
    → HandsOver w.traffic before items A → OpensOnly w.traffic u before []
    → Around (sink_role before items) (sink-lawful before items) u A H w c ev
around-sink before items u A H w c ev g hands opens = record {
  site = g.site;
  known = g.known;
  turns = λ p said is. tt;
  wakes = λ how p is. tt;
  is_born = λ none. tt;
  back = g.back;
  made_so = g.made_so;
  created_so = g.created_so;
  comes = λ vars k x p st results at opened asker place asks. (hands.at k x st results at asks.of_before place).0;
  begins = λ k p x it is at to active vars. subst (λ args. SinkTask before items it.vars args
      (first_stage native.Sink x.operation x.args) Go) (g.args k x at) (sink-begins before items it.vars x (λ op. opens k x at to op));
}

-- a Lines: of this list, with which it is filled where this entry fills it
pub around-lines : (texts : List (List ℕ)) (u : Uid) (A : ℕ → List Datum) (H : ℕ → Bool) (w : World)
    (c : Option Command) (ev : Event) → Given (lines_role texts) (lines-lawful texts) u A H w c ev
    → ((k p : ℕ) (x : Call) (it : Active) → ev ≡ event.Start k u p → call_at w.traffic k ≡ Some x → x.target.uid ≡ u
    → active_now w u ≡ Some it
    → x.operation ≡ codes "Fill" → (lines.source it.vars).filled ≡ false → items_in (argument 0 x.args) ≡ map text texts)
    → Around (lines_role texts) (lines-lawful texts) u A H w c ev
around-lines texts u A H w c ev g fills = record {
  site = g.site;
  known = g.known;
  turns = λ p said is. tt;
  wakes = λ how p is. tt;
  is_born = λ none. tt;
  back = g.back;
  made_so = g.made_so;
  created_so = g.created_so;
  comes = λ vars k x p st results at opened asker place asks. absurd asks;
  begins = λ k p x it is at to active vars. subst (λ args. LinesTask texts it.vars args (first_stage native.Lines x.operation x.args) Go)
      (g.args k x at) (lines-begins texts it.vars x (λ op empty. fills k p x it is at to active op empty));
}

-- 4. What follows of a stage for the one behind it
pub filter-hands : (before : Uid) (s : Sieve) (items : List (List ℕ)) (u : Uid) (A : ℕ → List Datum) (w : World)
    → Staged (filter_role before s items) (filter-lawful before s items) u A w → HandsOver w.traffic u (sifted s items) A
filter-hands before s items u A w x = record { at = x.said }

pub lines-hands : (texts : List (List ℕ)) (u : Uid) (A : ℕ → List Datum) (w : World) (items : List (List ℕ))
    → (kept_now w u ≡ true → texts ≡ items) → Staged (lines_role texts) (lines-lawful texts) u A w → HandsOver w.traffic u items A
lines-hands texts u A w items same x = record {
  at = λ k c st results at to place. (
    go (position (A k)) (came (Told st results)) (x.said k c st results at to place).0,
    (x.said k c st results at to place).1,
  );
}
  where
    go : (q : ℤ) (came : Came) → of_lines.IsSaid (kept_now w u) texts q came → IsOf items q came
    go q (an_item t) h = subst (λ l. IsOf l q (an_item t)) (same h.0) h.1
    go q the_end h = subst (λ l. IsOf l q the_end) (same h.0) h.1
    go q nothing h = tt
