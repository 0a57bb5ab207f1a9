-- What the names of a script stand for stays within the limits around every entry.
use Rattle.std.proofs.Common.{◌≡◌, ℕ, Bool, true, false, cond, List, ◌∷◌, Option, None, Some, refl, sym, ap, subst, zero, suc, arith}
use Rattle.std.specs.Prelude.{IsSomeAnd, IfSome, slice_get}
use Rattle.std.specs.List.{find}
use Rattle.std.proofs.lemmas.Nat.{and_le_l}
use Rattle.capability.specs.Capability.{full, restricted}
use Rattle.capability.specs.declared.Cap.{Cap}
use Rattle.capability.specs.declared.Rights.{Rights}
use Rattle.capability.specs.declared.Uid.{Uid}
use Rattle.eden_value.specs.Datum.{Datum, number, truth, text, cap, list}
use Rattle.eden_value.specs.declared.status.Status.{Status}
use Rattle.eden_value.specs.declared.status.Status.TheVariants as status
use Rattle.eden_model.specs.Map.{with_item, same_text}
use Rattle.eden_model.specs.Traffic.{Call, call_at, answered, shell_name}
use Rattle.epl_syntax.specs.Meaning.{type_of}
use Rattle.journal.specs.Commands.{AllowsCommand, born_as, made, held_by, restricted_by, asked_by, asked, ready_call, type_name_of}
use Rattle.journal.specs.Deliveries.{AllowsReply, meaning_of_reply}
use Rattle.journal.specs.Fit.{NamesAreValues}
use Rattle.journal.specs.References.{meaning_of, cap_at, with_name, value_at_name, value_of_meaning, present_cap}
use Rattle.journal.specs.Step.{AllowsInTurn, AllowsEvent, Allows, next, after_turn, after_command, happened, clocked, key_of}
use Rattle.journal.specs.World.{World, Meaning, capability, results, nothing}
use Rattle.journal.specs.declared.command.Command.{Command}
use Rattle.journal.specs.declared.command.Command.TheVariants as command
use Rattle.journal.specs.declared.command.Ref.{Ref}
use Rattle.journal.specs.declared.event.Entry.{Entry}
use Rattle.journal.specs.declared.event.Event.{Event}
use Rattle.journal.specs.declared.event.Event.TheVariants as event
use Rattle.journal.specs.declared.event.RequestEnd.TheVariants as end
use Rattle.journal.specs.declared.event.StartEnd.TheVariants as start_end
use Rattle.history_laws.proofs.GrantedRuns.{names-site, names-stopped, names-counted, names-born_as, names-linked}
use Rattle.history_laws.proofs.Runs.{IsNamed}
use Rattle.history_laws.proofs.ShellHolds.{meaning_in}
use Rattle.value_laws.specs.Limited.{IsLimited, AreLimited, IsLimitedUid}
use Rattle.value_laws.proofs.Calls.{CallsLimited}
use Rattle.value_laws.proofs.Values.{item_limited}

-- 1. What a name stands for

abbrev pub MeaningLimited : Meaning → Type 0
MeaningLimited (capability c) = IsLimited (cap (Some c))
MeaningLimited (results ds) = AreLimited ds
MeaningLimited nothing = Unit {0}

-- each name stands for what is within the limits
pub record NamesLimited (names : List (List ℕ × Meaning)) : Type 0 where
  pub at : (name : List ℕ) (m : Meaning) → meaning_in names name ≡ Some m → MeaningLimited m

pub names-with : (name : List ℕ) (m : Meaning) (names : List (List ℕ × Meaning)) → MeaningLimited m → NamesLimited names
    → NamesLimited ((name, m) ∷ names)
names-with name m names new h = record { at = λ q x is. go q x (same_text name q) is }
  where
    go : (q : List ℕ) (x : Meaning) (b : Bool)
        → with_item (cond b (Some (name, m)) (find (λ e. same_text e.0 q) names)) (λ e. Some e.1) None ≡ Some x → MeaningLimited x
    go q x true e = let same : m ≡ x = cc e in subst MeaningLimited same new
    go q x false e = h.at q x e

get-limited : (ds : List Datum) (k : ℕ) (d : Datum) → slice_get ds k ≡ Some d → AreLimited ds → IsLimited d
get-limited ds k d is h = subst (λ o. IfSome o IsLimited) is (item_limited ds k h)

meaning-value : (m : Meaning) (k : ℕ) (d : Datum) → value_of_meaning m k ≡ Some d → MeaningLimited m → IsLimited d
meaning-value (capability c) zero d is h = let same : cap (Some c) ≡ d = cc is in subst IsLimited same h
meaning-value (capability c) (suc k) d is h = absurd (cc is)
meaning-value (results ds) zero d is h = absurd (cc is)
meaning-value (results ds) (suc k) d is h = get-limited ds k d is h
meaning-value nothing zero d is h = absurd (cc is)
meaning-value nothing (suc k) d is h = absurd (cc is)

pub names-are-values : (w : World) → NamesLimited w.names → NamesAreValues w
names-are-values w h name k d is = go (meaning_of w name) refl is
  where
    go : (o : Option Meaning) → meaning_of w name ≡ o → with_item o (λ m. value_of_meaning m k) None ≡ Some d → IsLimited d
    go None at e = absurd (cc e)
    go (Some m) at e = meaning-value m k d e (h.at name m at)

pub named-limited : (w : World) → NamesLimited w.names → (c : Cap) → IsNamed w c → IsLimited (cap (Some c))
named-limited w h c is = go (value_at_name w is.0 is.1) refl is.2
  where
    present : (d : Datum) → present_cap d ≡ Some c → IsLimited d → IsLimited (cap (Some c))
    present (cap None) e x = absurd (cc e)
    present (cap (Some b)) e x = let same : b ≡ c = cc e in subst (λ (y : Cap). IsLimited (cap (Some y))) same x
    present (number n) e x = absurd (cc e)
    present (truth b) e x = absurd (cc e)
    present (text t) e x = absurd (cc e)
    present (list ds) e x = absurd (cc e)

    go : (o : Option Datum) → value_at_name w is.0 is.1 ≡ o → with_item o present_cap None ≡ Some c → IsLimited (cap (Some c))
    go None at e = absurd (cc e)
    go (Some d) at e = present d e (names-are-values w h is.0 is.1 d at)

pub cap-limited : (w : World) → NamesLimited w.names → (r : Ref) (c : Cap) → cap_at w r ≡ Some c → IsLimited (cap (Some c))
cap-limited w h r c is = named-limited w h c (r.name, r.result, is)

restricted-limited : (c : Cap) (mask : Rights) → IsLimited (cap (Some c)) → IsLimited (cap (Some (restricted c mask)))
restricted-limited c mask h = (
  h.0,
  record { epoch = h.1.epoch; serial = h.1.serial; rights = omega (arith, and_le_l c.rights.bits mask.bits, h.1.rights) },
)

-- 2. Every event

-- a reply to the shell
replied-names : (w : World) (k a b : ℕ) (name : List ℕ) (why : Status) (values : List Datum)
    → AllowsReply w.traffic k a b (Some name) why values → CallsLimited w.traffic → NamesLimited w.names
    → NamesLimited (cond (with_item (call_at w.traffic k) (λ c. c.open_) false) ((name, meaning_of_reply why values) ∷ w.names) w.names)
replied-names w k a b name why values allowed calls h = go (call_at w.traffic k) refl allowed.delivered
  where
    meant : (s : Status) → AreLimited values → MeaningLimited (meaning_of_reply s values)
    meant status.Ok x = x
    meant _ x = tt

    one : (still : Bool) → AreLimited values → NamesLimited (cond still ((name, meaning_of_reply why values) ∷ w.names) w.names)
    one true x = names-with name (meaning_of_reply why values) w.names (meant why x) h
    one false x = h

    go : (o : Option Call) → call_at w.traffic k ≡ o
        → IsSomeAnd o (λ c. (c.place ≡ answered why values) × (Some name ≡ shell_name c.asker))
        → NamesLimited (cond (with_item o (λ c. c.open_) false) ((name, meaning_of_reply why values) ∷ w.names) w.names)
    go None at x = absurd x
    go (Some c) at x = one c.open_ ((calls k c at).results why values x.0)

like : (names : List (List ℕ × Meaning)) (w : World) → names ≡ w.names → NamesLimited w.names → NamesLimited names
like names w same h = subst NamesLimited (sym same) h

names-turn : (w : World) (ev : Event) → AllowsInTurn w ev → CallsLimited w.traffic → NamesLimited w.names
    → NamesLimited (after_turn w ev).names
names-turn w (event.Reply k a b (Some name) why values) allowed calls h = replied-names w k a b name why values allowed calls h
names-turn w (event.Reply k a b None why values) allowed calls h = like _ w
    (names-site w b (event.Reply k a b None why values)) h
names-turn w (event.Request k a b refused) allowed calls h = like _ w
    (names-site w b (event.Request k a b refused)) h
names-turn w (event.Start k v p) allowed calls h = like _ w
    (names-site w v.node (event.Start k v p)) h
names-turn w (event.Process v p said) allowed calls h = like _ w
    (names-site w v.node (event.Process v p said)) h
names-turn w (event.Activate v start_end.Ok p) allowed calls h = like _ w
    (names-site w v.node (event.Activate v start_end.Ok p)) h
names-turn w (event.Activate v start_end.Gone p) allowed calls h = like _ w
    (names-site w v.node (event.Activate v start_end.Gone p)) h
names-turn w (event.Activate v start_end.Fault p) allowed calls h = like _ w
    (names-site w v.node (event.Activate v start_end.Fault p)) h
names-turn w (event.Activate v start_end.Damaged p) allowed calls h = like _ w
    (names-site w v.node (event.Activate v start_end.Damaged p)) h
names-turn w (event.Activate v start_end.Stop p) allowed calls h = like _ w
    (names-stopped w v.node (event.Activate v start_end.Stop p)) h
names-turn w (event.Store v clock end.Part p) allowed calls h = like _ w
    (names-site w v.node (event.Store v clock end.Part p)) h
names-turn w (event.Store v clock end.Done p) allowed calls h = like _ w
    (names-site w v.node (event.Store v clock end.Done p)) h
names-turn w (event.Store v clock end.Fault p) allowed calls h = like _ w
    (names-site w v.node (event.Store v clock end.Fault p)) h
names-turn w (event.Store v clock end.Full p) allowed calls h = like _ w
    (names-site w v.node (event.Store v clock end.Full p)) h
names-turn w (event.Store v clock end.Stop p) allowed calls h = like _ w
    (names-stopped w v.node (event.Store v clock end.Stop p)) h
names-turn w event.Quiet allowed calls h = h
names-turn w event.Spent allowed calls h = h
names-turn w _ allowed calls h = absurd allowed

held-names : (w : World) (c : Command) (name : List ℕ) → ((u : Uid) → c ≡ command.Hold name u → IsLimitedUid u)
    → AllowsCommand w c (event.Bound name true) → NamesLimited w.names → NamesLimited (held_by c w).names
held-names w (command.Hold said v) name own allowed h = names-with said (capability (full v)) w.names
    (own v (ap (λ n. command.Hold n v) (sym allowed.0))) h
held-names w (command.Restrict said target mask) name own allowed h = absurd (let bad : true ≡ false = allowed.1 in cc bad)
held-names w _ name own allowed h = absurd allowed

restricted-names : (w : World) (c : Command) → NamesLimited w.names → NamesLimited (restricted_by c w).names
restricted-names w (command.Restrict said target mask) h = go (cap_at w target) refl
  where
    go : (o : Option Cap) → cap_at w target ≡ o
        → NamesLimited (with_item o (λ b. with_name said (capability (restricted b mask)) w) w).names
    go None at = h
    go (Some b) at = names-with said (capability (restricted b mask)) w.names
        (restricted-limited b mask (cap-limited w h target b at)) h
restricted-names w _ h = h

asked-names : (w : World) (c : Command) (k : ℕ) (at_once : Option Status) → NamesLimited w.names
    → NamesLimited (asked_by c k at_once w).names
asked-names w (command.Call said target operation args) k at_once h = go (ready_call w (command.Call said target operation args))
  where
    go : (o : Option (Cap × List Datum)) → NamesLimited (with_item o (λ c. asked said c.0 operation c.1 k at_once w) w).names
    go None = h
    go (Some c) = names-with said nothing w.names tt h
asked-names w _ k at_once h = h

made-names : (w : World) (name type_name : List ℕ) (u : Option Uid) → IfSome u (λ u. IsLimitedUid u)
    → NamesLimited w.names → NamesLimited (made name type_name u w).names
made-names w name type_name None own h = names-with name nothing w.names tt h
made-names w name type_name (Some u) own h = names-with name (capability (full u)) _ own
    (like (born_as u (type_of w.types type_name) w).names w (names-born_as u (type_of w.types type_name) w) h)

-- what has to be known of a command and of its event besides
pub record IsFedBy (c : Command) (ev : Event) : Type 0 where
  pub holds : (name : List ℕ) (u : Uid) → c ≡ command.Hold name u → IsLimitedUid u
  pub made : (name : List ℕ) (why : Status) (u : Uid) → ev ≡ event.Made name why (Some u) → IsLimitedUid u

names-command : (w : World) (c : Command) (ev : Event) → IsFedBy c ev → AllowsCommand w c ev → NamesLimited w.names
    → NamesLimited (after_command w c ev).names
names-command w c (event.Bound name true) fed allowed h = held-names w c name (fed.holds name) allowed h
names-command w c (event.Bound name false) fed allowed h = restricted-names w c h
names-command w c (event.Asked k name at_once) fed allowed h = asked-names w c k at_once h
names-command w c (event.Made name why None) fed allowed h = made-names w name (type_name_of c) None tt h
names-command w c (event.Made name why (Some u)) fed allowed h = made-names w name (type_name_of c) (Some u) (fed.made name why u refl) h
names-command w c (event.Boot n e how p began) fed allowed h = like _ w (names-site w n (event.Boot n e how p began)) h
names-command w c (event.Crash n) fed allowed h = like _ w (names-stopped w n (event.Crash n)) h
names-command w c (event.Link a b joined) fed allowed h = like _ w (names-linked a b joined w) h
names-command w c _ fed allowed h = h

pub names-next : (w : World) (c : Option Command) (e : Entry) → IfSome c (λ k. IsFedBy k e.event) → Allows w c e → CallsLimited w.traffic
    → NamesLimited w.names → NamesLimited (next w c e).names
names-next w c e fed allowed calls h = subst NamesLimited (sym same) (go c fed allowed.event)
  where
    same : (next w c e).names ≡ (happened w c e.event).names
    same = names-counted (key_of e.event) (clocked e.node e.clock (happened w c e.event))

    go : (c' : Option Command) → IfSome c' (λ k. IsFedBy k e.event) → AllowsEvent w c' e.event → NamesLimited (happened w c' e.event).names
    go None f a = names-turn w e.event a calls h
    go (Some k) f a = names-command w k e.event f a h
