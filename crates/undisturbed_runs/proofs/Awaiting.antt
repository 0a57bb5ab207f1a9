-- A put that is awaited in a world is so behind an entry, unless its Eject is passive then, or the entry is the turn of the store that
-- ends it.
use Rattle.std.proofs.Common.{◌≡◌, ℕ, Bool, true, false, List, [], Option, None, Some, is_some, refl, sym, ◌∙◌, ap, subst, inl, inr}
use Rattle.std.specs.Prelude.{◌⊎◌, IsSomeAnd}
use Rattle.capability.specs.declared.Uid.{Uid}
use Rattle.eden_model.specs.Map.{with_item, value_at, uid_cmp}
use Rattle.journal.specs.declared.command.Command.{Command}
use Rattle.journal.specs.declared.event.Event.{Event}
use Rattle.journal.specs.declared.event.Event.TheVariants as event
use Rattle.journal.specs.declared.event.Entry.{Entry}
use Rattle.journal.specs.World.{World, Node, Site, node_at, site_at, site_of, reaches}
use Rattle.journal.specs.Step.{AllowsAt, Allows, site_turn, next}
use Rattle.journal.specs.Monitors.{active_at}
use Rattle.journal.specs.Sites.{Everywhere, active_in}
use Rattle.history_laws.proofs.EveryNode.{IsKeptBy, all-next_by}
use Rattle.history_laws.proofs.SiteRuns.{SiteWorld, site-next}
use Rattle.epl_syntax.specs.Meaning.{first_values}
use Rattle.epl_syntax.specs.declared.effect.Answer.TheVariants.{Reply as Told}
use Rattle.epl_syntax.specs.Edentype.{Edentype}
use Rattle.eden_value.specs.declared.status.Status.{Status}
use Rattle.eden_value.specs.declared.status.Status.TheVariants as status
use Rattle.journal.specs.Ejects.{fresh, tells, born as born_at}
use Rattle.undisturbed_runs.specs.Puts.{Includes, Awaits}
use Rattle.undisturbed_runs.proofs.Puts.{Left, EndsIt, left-turn, has-tells, passive-tells, has-born, passive-crashed}

-- an Eject is created by a command
abbrev is_made : Event → Bool
is_made (event.Made name why v) = true
is_made _ = false

not-made : (s : Site) (e : Event) → AllowsAt s e → is_made e ≡ false
not-made s (event.Made name why v) allowed = absurd allowed
not-made s _ allowed = refl

module _ (u : Uid) (q : ℕ) (bytes : List ℕ) (w : World) where
  -- the event is a turn of the store of its node, which ends it
  abbrev pub EndsNow : Event → Type 0
  EndsNow e = IsSomeAnd (site_at w u.node) (λ s. AllowsAt s e × EndsIt u q bytes e s)

  -- what is left of it at its node behind an event
  abbrev LeftBy : Event → Node → Type 0
  LeftBy e it = (Includes u q bytes it.requests ⊎ ((is_made e ≡ false) × (active_in (value_at uid_cmp u it.ejects) ≡ None))) ⊎ EndsNow e

  abbrev LeftAt : Event → ℕ → Node → Type 0
  LeftAt e m it = m ≡ u.node → LeftBy e it

  at-first : Awaits u q bytes w → (n : ℕ) (it : Node) → node_at w n ≡ Some it → n ≡ u.node → Includes u q bytes it.requests
  at-first awaits n it at same = subst (λ o. IsSomeAnd o (λ (x : Node). Includes u q bytes x.requests))
      (ap (node_at w) (sym same) ∙ at) awaits

  left-by : Awaits u q bytes w → (e : Event) → IsKeptBy (LeftAt e) w e
  left-by awaits e = record {
    turns = λ n it at place allowed f same. turn n it at allowed same
        (left-turn u q bytes (reaches w n) e (site_of w n it) allowed (at-first awaits n it at same));
    crashes = λ n s is number f same. inl (inr (ap is_made is, passive-crashed u q bytes s));
    broken = λ v p s f same. told v p s (f same);
    births = λ v t s name why is gives on known f same. born v t s name why is (f same);
    clocks = λ n c it f. f;
  }
    where
      turn : (n : ℕ) (it : Node) → node_at w n ≡ Some it → AllowsAt (site_of w n it) e → n ≡ u.node
          → (Left u q bytes (site_turn (reaches w n) e (site_of w n it)))
          ⊎ EndsIt u q bytes e (site_of w n it)
          → LeftBy e (site_turn (reaches w n) e (site_of w n it)).node
      turn n it at allowed same (inl (inl h)) = inl (inl h)
      turn n it at allowed same (inl (inr h)) = inl (inr (not-made (site_of w n it) e allowed, h))
      turn n it at allowed same (inr ends) = inr (subst (λ m. IsSomeAnd (site_at w m) (λ s. AllowsAt s e × EndsIt u q bytes e s)) same
          (subst (λ o. IsSomeAnd o (λ s. AllowsAt s e × EndsIt u q bytes e s))
          (sym (ap (λ o. with_item o (λ (x : Node). Some (site_of w n x)) None) at)) (allowed, ends)))

      told : (v : Uid) (p : ℕ) (s : Site) → LeftBy e s.node
          → LeftBy e (tells v p (Told status.Broken []) s).node
      told v p s (inl (inl h)) = inl (inl (has-tells u q bytes v p (Told status.Broken []) s h))
      told v p s (inl (inr h)) = inl (inr (h.0, passive-tells u q bytes v p (Told status.Broken []) s h.1))
      told v p s (inr ends) = inr ends

      born : (v : Uid) (t : Edentype) (s : Site) (name : List ℕ)
          (why : Status) → e ≡ event.Made name why (Some v) → LeftBy e s.node
          → LeftBy e (born_at v (fresh t (first_values t)) s).node
      born v t s name why is (inl (inl h)) = inl (inl (has-born u q bytes v (fresh t (first_values t)) s h))
      born v t s name why is (inl (inr h)) = absurd (let bad : true ≡ false = sym (ap is_made is) ∙ h.0 in cc bad)
      born v t s name why is (inr ends) = inr ends

  -- behind an entry
  pub awaits-next : (H : ℕ → Bool) (c : Option Command) (e : Entry) → SiteWorld H w → Allows w c e → Awaits u q bytes w
      → (Awaits u q bytes (next w c e) ⊎ (active_at (next w c e) u ≡ None)) ⊎ EndsNow e.event
  awaits-next H c e h allowed awaits = go (node_at (next w c e) u.node) refl there
    where
      all : Everywhere (LeftAt e.event) (next w c e)
      all = all-next_by (LeftAt e.event) w c e (left-by awaits e.event) allowed (λ n it at same. inl (inl (at-first awaits n it at same)))

      was : (o : Option Node) → IsSomeAnd o (λ it. Includes u q bytes it.requests) → is_some o ≡ true
      was None h = absurd h
      was (Some it) h = refl

      there : is_some (node_at (next w c e) u.node) ≡ true
      there = (site-next H w c e allowed h).known.sound.place.present u.node ∙ sym (h.known.sound.place.present u.node)
          ∙ was (node_at w u.node) awaits

      found : (it : Node) → node_at (next w c e) u.node ≡ Some it → LeftBy e.event it
          → (Awaits u q bytes (next w c e) ⊎ (active_at (next w c e) u ≡ None)) ⊎ EndsNow e.event
      found it at (inl (inl x)) = inl (inl (subst (λ o. IsSomeAnd o (λ (y : Node). Includes u q bytes y.requests)) (sym at) x))
      found it at (inl (inr x)) = inl (inr (ap (λ o. active_in (with_item o (λ (y : Node). value_at uid_cmp u y.ejects) None)) at ∙ x.1))
      found it at (inr ends) = inr ends

      go : (o : Option Node) → node_at (next w c e) u.node ≡ o → is_some o ≡ true
          → (Awaits u q bytes (next w c e) ⊎ (active_at (next w c e) u ≡ None)) ⊎ EndsNow e.event
      go None at some = absurd (cc some)
      go (Some it) at some = found it at (all u.node it at refl)
