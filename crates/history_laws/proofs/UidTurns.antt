-- Every turn at a node keeps its uids behind what it gives next.
use Rattle.std.proofs.Common.{◌≡◌, inl, inr, ◌+◌, ℕ, Bool, true, false, cond, List, Option, None, Some, is_some, refl, sym, ◌∙◌, ap, arith}
use Rattle.capability.specs.declared.Uid.{Uid}
use Rattle.epl_syntax.specs.Meaning.{first_values}
use Rattle.passive_store.specs.declared.store.Pick.{Pick}
use Rattle.journal.specs.declared.event.Event.{Event}
use Rattle.journal.specs.declared.event.Event.TheVariants as event
use Rattle.journal.specs.declared.event.BootEnd.{BootEnd}
use Rattle.journal.specs.declared.event.BootEnd.TheVariants as boot_end
use Rattle.journal.specs.World.{World, Site, Eject, site_of, reaches, on_node}
use Rattle.journal.specs.Ejects.{fresh}
use Rattle.journal.specs.Settling.{settled, in_doubt}
use Rattle.journal.specs.Boots.{Failed, BootsSo, booted_node, boot_turn}
use Rattle.journal.specs.Step.{AllowsAt, site_turn}
use Rattle.journal.specs.Ejects.{epoch_or_zero}
use Rattle.history_laws.proofs.Uids.{UidsFit, Fit, OfNode}
use Rattle.history_laws.proofs.EveryNode.{IsKeptAt, next-following}
use Rattle.history_laws.proofs.UidLaw.{raised, fit-on_node, fit-tells, fit-born, fit-process_turn, fit-requested, fit-heard, fit-start}
use Rattle.history_laws.proofs.UidLaw.{fit-crashed, fit-settled, fit-store_turn, fit-activation}

-- 1. Boots: the epoch that is put is past the stored one

began-doubt : {G : Uid → Type 0} (up : Bool) (epoch doubt : Option ℕ) (last : ℕ) (es : List (Uid × Eject)) (e : ℕ) (began : Bool)
    → (began ≡ true → e ≡ epoch_or_zero epoch + 1)
    → UidsFit G up epoch doubt last es → UidsFit G up epoch (cond began (Some e) doubt) last es
began-doubt up epoch doubt last es e false is fit = fit
began-doubt up epoch doubt last es e true is fit = record {
  up_keeps = fit.up_keeps;
  doubt_is_next = omega (arith, is refl);
  in_order = fit.in_order;
  behind = fit.behind;
  all_given = fit.all_given;
}

false-true : {A : Type 0} → false ≡ true → A
false-true e = absurd (cc e)

not-begun : {A : Type 0} (began : Bool) → began ≡ false → began ≡ true → A
not-begun began is_not is = false-true (sym is_not ∙ is)

failed-next : (s : Site) (e : ℕ) (p : Option Pick) (began : Bool) → Failed s e p began → began ≡ true
    → e ≡ epoch_or_zero (settled p s).node.epoch + 1
failed-next s e p began (inl opens) is = not-begun began opens.nothing.not_begun is
failed-next s e p began (inr (inl reads)) is = not-begun began reads.nothing.not_begun is
failed-next s e p began (inr (inr next)) is = next.next_one

-- a settling leaves no epoch in doubt
no-doubt : (p : Option Pick) (s : Site) → is_some p ≡ in_doubt s.number s.node → (settled p s).node.epoch_doubt ≡ None
unfolding on_node
no-doubt (Some p) s is = refl
no-doubt None s is = go s.node.epoch_doubt refl
  where
    go : (d : Option ℕ) → s.node.epoch_doubt ≡ d → s.node.epoch_doubt ≡ None
    go None e = e
    go (Some x) e = false-true (is ∙ ap (λ d. in_doubt s.number (record s.node { epoch_doubt = d })) e)

up-fits : {G : Uid → Type 0} (up : Bool) (epoch doubt : Option ℕ) (last : ℕ) (es : List (Uid × Eject)) (e : ℕ) → doubt ≡ None
    → e ≡ epoch_or_zero epoch + 1 → UidsFit G up epoch doubt last es → UidsFit G true (Some e) doubt 0 es
up-fits up epoch doubt last es e none is fit = record {
  up_keeps = λ on. omega (arith, is);
  doubt_is_next = rw none tt;
  in_order = fit.in_order;
  behind = λ u there. raised u (epoch_or_zero epoch) e last 0 (omega (arith, is)) (fit.behind u there);
  all_given = λ u g. raised u (epoch_or_zero epoch) e last 0 (omega (arith, is)) (fit.all_given u g);
}

fit-booted : {G : Uid → Type 0} (s : Site) (e : ℕ) (how : BootEnd) (p : Option Pick) (began : Bool) (now : Site) → now ≡ settled p s
    → BootsSo s e how p began → Fit G now.node → Fit G (booted_node s e how began now.node)
fit-booted s e boot_end.Up p began now is b fit = up-fits now.node.up now.node.epoch now.node.epoch_doubt now.node.last_serial
    now.node.ejects e (ap (λ (t : Site). t.node.epoch_doubt) is ∙ no-doubt p s b.opened.picked)
    (b.next_one ∙ ap (λ (t : Site). epoch_or_zero t.node.epoch + 1) (sym is)) fit
fit-booted s e boot_end.DiskFault p began now is b fit =
    began-doubt now.node.up now.node.epoch now.node.epoch_doubt now.node.last_serial now.node.ejects e began
    (λ h. failed-next s e p began b h ∙ ap (λ (t : Site). epoch_or_zero t.node.epoch + 1) (sym is)) fit
fit-booted s e boot_end.Stop p began now is b fit =
    began-doubt now.node.up now.node.epoch now.node.epoch_doubt now.node.last_serial now.node.ejects e began
    (λ h. failed-next s e p began b h ∙ ap (λ (t : Site). epoch_or_zero t.node.epoch + 1) (sym is)) fit
fit-booted s e (boot_end.Damaged place) p began now is b fit =
    began-doubt now.node.up now.node.epoch now.node.epoch_doubt now.node.last_serial now.node.ejects e began
    (not-begun began b.nothing.not_begun) fit
fit-booted s e boot_end.EpochsSpent p began now is b fit =
    began-doubt now.node.up now.node.epoch now.node.epoch_doubt now.node.last_serial now.node.ejects e began
    (not-begun began b.nothing.not_begun) fit
fit-booted s e boot_end.Full p began now is (inl b) fit =
    began-doubt now.node.up now.node.epoch now.node.epoch_doubt now.node.last_serial now.node.ejects e began
    (not-begun began b.nothing.not_begun) fit
fit-booted s e boot_end.Full p began now is (inr b) fit =
    began-doubt now.node.up now.node.epoch now.node.epoch_doubt now.node.last_serial now.node.ejects e began
    (not-begun began b.nothing.not_begun) fit

fit-boot : {G : Uid → Type 0} (e : ℕ) (how : BootEnd) (p : Option Pick) (began : Bool) (s : Site) → BootsSo s e how p began → Fit G s.node
    → Fit G (boot_turn e how p began s).node
fit-boot e how p began s b fit = fit-on_node (booted_node s e how began) (settled p s)
    (fit-booted s e how p began (settled p s) refl b (fit-settled p s fit))

-- 2. Every turn

fit-site_turn : {G : Uid → Type 0} (reach : ℕ → Bool) (e : Event) (s : Site) → AllowsAt s e → Fit G s.node
    → Fit G (site_turn reach e s).node
fit-site_turn reach (event.Request k a b refused) s allowed fit = fit-requested k refused s fit
fit-site_turn reach (event.Reply k a b name why values) s allowed fit = fit-heard k why values s fit
fit-site_turn reach (event.Activate v how p) s allowed fit = fit-activation v how p s fit
fit-site_turn reach (event.Start k v p) s allowed fit = fit-start v k p s fit
fit-site_turn reach (event.Process v p said) s allowed fit = fit-process_turn reach v p s fit
fit-site_turn reach (event.Store v c how p) s allowed fit = fit-store_turn how p s fit
fit-site_turn reach (event.Boot n e how p began) s allowed fit = fit-boot e how p began s allowed.boots fit
fit-site_turn reach (event.Crash n) s allowed fit = fit-crashed s fit
fit-site_turn reach (event.Still n up) s allowed fit = absurd allowed
fit-site_turn reach (event.Link a b joined) s allowed fit = absurd allowed
fit-site_turn reach (event.Armed n what) s allowed fit = absurd allowed
fit-site_turn reach (event.Made name why v) s allowed fit = absurd allowed
fit-site_turn reach (event.Bound name held) s allowed fit = absurd allowed
fit-site_turn reach (event.Void name) s allowed fit = absurd allowed
fit-site_turn reach (event.Asked k name at_once) s allowed fit = absurd allowed
fit-site_turn reach event.Quiet s allowed fit = absurd allowed
fit-site_turn reach event.Spent s allowed fit = absurd allowed
fit-site_turn reach (event.Left names) s allowed fit = absurd allowed

-- so all nodes keep it
pub kept-fit : (G : Uid → Type 0) (w : World) (e : Event) → IsKeptAt (λ n it. Fit (OfNode G n) it) w e
kept-fit G w e = record {
  turns = λ n it at place allowed fit. fit-site_turn (reaches w n) e (site_of w n it) allowed fit;
  crashes = λ n s is number fit. fit-crashed s fit;
  tellings = λ u p a s fit. fit-tells u p a s fit;
  births = λ u t s is on known fit. fit-born u (fresh t (first_values t)) s (next-following s u is) (fit.up_keeps on) fit;
  clocks = λ n c it fit. fit;
}
