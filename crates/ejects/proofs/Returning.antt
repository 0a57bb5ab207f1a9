-- A process that returned, and an invocation that may start, by what the code is told.
use Rattle.std.proofs.Common.{◌≡◌, ℕ, false, List, Option, None, Some, refl, sym, ◌∙◌, ap, subst}
use Rattle.std.specs.Prelude.{IfSome, IsSomeAnd}
use Rattle.std.specs.Option.{option_map}
use Rattle.capability.specs.declared.Uid.{Uid}
use Rattle.eden_value.specs.Datum.{Datum}
use Rattle.eden_model.specs.Lines.{has}
use Rattle.eden_model.specs.Crew.{Invocation, startable}
use Rattle.eden_model.specs.Traffic.{Traffic}
use Rattle.epl_syntax.specs.Rules.OfTypes.{TypeList}
use Rattle.invocation.specs.Mail.{Mail}
use Rattle.invocation.specs.Carries.{Carries}
use Rattle.journal.specs.declared.event.Shown.TheVariants as shown
use Rattle.journal.specs.Processes.{answers, shown_return}
use Rattle.active_part.specs.Body.{Body}
use Rattle.ejects.specs.Parts.{Parts}
use Rattle.active_part.specs.Bodies.{ended_body, serves_of}
use Rattle.ejects.specs.View.{with_body}
use Rattle.ejects.specs.Replies.{IsOut, StartsAt, Returned, sized}

pub starts-found : (result : Option ℕ) (body : TypeList → Body) (at : TypeList → Option Body)
    → ((ts : TypeList) → result ≡ option_map (λ (i : Invocation). i.call) (startable (body ts).crew.crew (body ts).crew.queued))
    → ((ts : TypeList) → at ts ≡ Some (body ts)) → IfSome result (λ call. (ts : TypeList) → StartsAt (at ts) call)
starts-found None body at told is = tt
starts-found (Some k) body at told is = λ ts. subst (λ o. StartsAt o k) (sym (is ts))
    (go (startable (body ts).crew.crew (body ts).crew.queued) (told ts))
  where
    go : (o : Option Invocation) → Some k ≡ option_map (λ (i : Invocation). i.call) o → IsSomeAnd o (λ i. k ≡ i.call)
    go None is = absurd (let bad : Some k ≡ None = is in cc bad)
    go (Some i) is = let both : Some k ≡ Some i.call = is in cc both

module _ (u : Uid) (p : ℕ) (results : List Datum) (b : Body) (old new : Parts) (m : Mail) where
  pub returned-some : (later : Mail) (o : Option ℕ) (k : ℕ) → o ≡ option_map (λ (i : Invocation). i.call) (serves_of b p) → o ≡ Some k
      → new ≡ with_body u (ended_body p b) old → ((t : Traffic) → Carries m t → has k t.transit ≡ false → Carries later (sized results k t))
      → Returned u p results b old new m later (shown.Return k)
  returned-some later o k told is parts sent = go (serves_of b p) refl (sym is ∙ told)
    where
      go : (q : Option Invocation) → serves_of b p ≡ q → Some k ≡ option_map (λ (i : Invocation). i.call) (serves_of b p)
          → Returned u p results b old new m later (shown.Return k)
      go None at both = absurd (let bad : Some k ≡ None = both ∙ ap (option_map (λ (i : Invocation). i.call)) at in cc bad)
      go (Some i) at both =
          let here : Some k ≡ Some i.call = both ∙ ap (option_map (λ (i : Invocation). i.call)) at in
          let same : k ≡ i.call = cc here in
          record {
            parts = parts;
            shown = ap (λ j. shown.Return j) same ∙ ap shown_return (sym at);
            calls = λ t carries out. subst (λ q. Carries later (answers q results t)) (sym at)
                (subst (λ j. Carries later (sized results j t)) same
                (sent t carries (subst (λ j. has j t.transit ≡ false) (sym same) (subst (λ q. IsOut q t) at out))));
          }

  pub returned-none : (o : Option ℕ) → o ≡ option_map (λ (i : Invocation). i.call) (serves_of b p) → o ≡ None
      → new ≡ with_body u (ended_body p b) old
      → Returned u p results b old new m m shown.End
  returned-none o told is parts = go (serves_of b p) refl (sym is ∙ told)
    where
      go : (q : Option Invocation) → serves_of b p ≡ q → None ≡ option_map (λ (i : Invocation). i.call) (serves_of b p)
          → Returned u p results b old new m m shown.End
      go (Some i) at both = absurd (let bad : None ≡ Some i.call = both ∙ ap (option_map (λ (i : Invocation). i.call)) at in cc bad)
      go None at both = record {
        parts = parts;
        shown = ap shown_return (sym at);
        calls = λ t carries out. subst (λ q. Carries m (answers q results t)) (sym at) carries;
      }
